-- What a call answers whose look finds nothing: what it is answered without a look.
use Rattle.std.proofs.Common.{◌≡◌, ◌∙◌, ℕ, Bool, true, false, not, ◌&&◌, Option, Some, None, if◌then◌else◌, refl, ap}
use Rattle.std.specs.Option.{option_or}
use Rattle.rand_core.specs.Stream.{Stream}
use Rattle.dill_base.specs.declared.errno.Errno.TheVariants.{Ecanceled, Ebadf, Econnreset}
use Rattle.dill_base.specs.Maps.{if_some}
use Rattle.dill_calls.specs.declared.answer.Answer.TheVariants.{Fault}
use Rattle.dill_calls.specs.declared.call.Call.{Call}
use Rattle.dill_calls.specs.declared.call.Call.TheVariants as calls
use Rattle.dill_calls.specs.CallTable.{word_of, named_by, blocks}
use Rattle.dill_stack.specs.declared.want.ReadOut.TheVariants as outs
use Rattle.dill_stack.specs.Interface.{is_sent, has_ended}
use Rattle.dill_rules.specs.declared.coroutine.Coroutine.{Coroutine}
use Rattle.dill_rules.specs.World.{World, pending_call}
use Rattle.dill_rules.specs.Links.{Link, look}
use Rattle.dill_rules.specs.Sockets.{link_number, link_named}
use Rattle.dill_rules.specs.Directions.{is_send}
use Rattle.dill_rules.specs.LinkAnswers.{is_on_stack, is_tcp_done, is_tcp_close, is_broken_for, zero_when, answer_said, look_of, stack_answer, link_answer, reads}
use Rattle.dill_rules.specs.Answers.{when, own_answer, lost_its_number, answer_of}
use Rattle.dill_rules.specs.Taking.{is_cancelled}
use Rattle.dill_rules.specs.Settling.{answer_due}
use Rattle.dill_rules.specs.Lookless.{stack_lookless, link_lookless, own_lookless, lookless_of, lookless_due}
use Rattle.laws_looks.proofs.Quieted.{Calm, due_as}

-- a look that finds nothing answers nothing
pub stack_same : (call : Call) (u : Stream) (x : Link) → (is_send (word_of call) ≡ false → (look_of call u x.stack).said ≡ outs.Need) → stack_answer call u x ≡ stack_lookless call x
stack_same call u x h = ap (λ o. if is_broken_for (word_of call) x.stack then Some (Fault Econnreset) else o) (at (is_tcp_done (word_of call)) (is_send (word_of call)) (is_tcp_close (word_of call)) h)
  where
    at : (a s c : Bool) → (s ≡ false → (look_of call u x.stack).said ≡ outs.Need)
        → (if a then zero_when x.shut else (if s then zero_when (is_sent x.stack) else (if c then zero_when (x.shut && has_ended x.stack) else answer_said (look_of call u x.stack).said)))
        ≡ (if a then zero_when x.shut else (if s then zero_when (is_sent x.stack) else (if c then zero_when (x.shut && has_ended x.stack) else None)))
    at true s c g = refl
    at false true c g = refl
    at false false true g = refl
    at false false false g = ap answer_said (g refl)

pub join_looks : (a b : Bool) → a ≡ true → b ≡ false → (a && not b) ≡ true
join_looks true true e f = cc
join_looks true false e f = refl
join_looks false b e f = cc

module _ {V : Type 0} where
  -- what a call answers whose look finds nothing
  pub link_same : (w : World V) (call : Call) → (reads call ≡ true → Calm w call) → is_on_stack (word_of call) ≡ true → link_answer w call ≡ link_lookless w call
  link_same w call calm on = ap (λ b. if b then if_some (named_by call) None (λ number. if_some (link_named w number) None (stack_answer call w.random)) else None) on ∙ at (named_by call) refl
    where
      linked : (n l : ℕ) → named_by call ≡ Some n → link_number w n ≡ Some l → (o : Option Link) → look w.links l ≡ o → if_some o None (stack_answer call w.random) ≡ if_some o None (stack_lookless call)
      linked n l e f None g = refl
      linked n l e f (Some x) g = stack_same call w.random x (λ s. ap (λ r. r.said) ((calm (join_looks (is_on_stack (word_of call)) (is_send (word_of call)) on s) n l x e f g).look w.random))

      by : (n : ℕ) → named_by call ≡ Some n → (o : Option ℕ) → link_number w n ≡ o → if_some (if_some o None (look w.links)) None (stack_answer call w.random) ≡ if_some (if_some o None (look w.links)) None (stack_lookless call)
      by n e None f = refl
      by n e (Some l) f = linked n l e f (look w.links l) refl

      at : (o : Option ℕ) → named_by call ≡ o → if_some o None (λ number. if_some (link_named w number) None (stack_answer call w.random)) ≡ if_some o None (λ number. if_some (link_named w number) None (stack_lookless call))
      at None e = refl
      at (Some n) e = by n e (link_number w n) refl

  pub own_is_link : (w : World V) (call : Call) → is_on_stack (word_of call) ≡ true → own_answer w call ≡ link_answer w call
  own_is_link w (calls.BundleWait number deadline) h = cc
  own_is_link w (calls.Hclose number) h = cc
  own_is_link w (calls.Chsend number bytes deadline) h = cc
  own_is_link w (calls.Chrecv number size deadline) h = cc
  own_is_link w (calls.Choose deadline all) h = cc
  own_is_link w call h = refl

  own_same : (w : World V) (call : Call) → (reads call ≡ true → Calm w call) → own_answer w call ≡ own_lookless w call
  own_same w call calm = at (is_on_stack (word_of call)) refl
    where
      at : (b : Bool) → is_on_stack (word_of call) ≡ b → own_answer w call ≡ (if b then link_lookless w call else own_answer w call)
      at true e = own_is_link w call e ∙ link_same w call calm e
      at false e = refl

  pub answers_same : (w : World V) (who : ℕ) (call : Call) → (reads call ≡ true → Calm w call) → answer_of w who call ≡ lookless_of w who call
  answers_same w who call calm = ap (λ o. option_or (when (blocks (word_of call) && is_cancelled w who) (Fault Ecanceled)) (option_or (when (lost_its_number w call) (Fault Ebadf)) o)) (own_same w call calm)

  pub due_same : (w : World V) (c : Coroutine V) → ((call : Call) → pending_call c.mode ≡ Some call → answer_of w c.number call ≡ lookless_of w c.number call) → answer_due w c ≡ lookless_due w c
  due_same w c h = at (pending_call c.mode) refl
    where
      at : (o : Option Call) → pending_call c.mode ≡ o → if_some o None (λ call. if_some (answer_of w c.number call) None (λ answer. due_as c.number call answer)) ≡ if_some o None (λ call. if_some (lookless_of w c.number call) None (λ answer. due_as c.number call answer))
      at None e = refl
      at (Some call) e = ap (λ o. if_some o None (λ answer. due_as c.number call answer)) (h call e)
