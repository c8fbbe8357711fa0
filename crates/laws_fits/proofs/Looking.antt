-- What fits still does behind the looks of the calls that wait, and so behind a whole settling.
use Rattle.std.proofs.Common.{◌≡◌, ◌∙◌, ◌⊎◌, inl, inr, ℕ, List, [], ◌∷◌, length, fold, Bool, true, false, ◌&&◌, ◌||◌, Option, Some, None, if◌then◌else◌, refl, sym, ap, subst}
use Rattle.std.specs.Option.{option_or}
use Rattle.rand_core.specs.Stream.{Stream}
use Rattle.dill_base.specs.declared.errno.Errno.TheVariants.{Ecanceled, Ebadf, Econnreset}
use Rattle.dill_base.specs.Maps.{if_some}
use Rattle.dill_calls.specs.declared.answer.Answer.{Answer}
use Rattle.dill_calls.specs.declared.answer.Answer.TheVariants.{Fault}
use Rattle.dill_calls.specs.declared.call.Call.{Call}
use Rattle.dill_calls.specs.declared.call.Call.TheVariants as calls
use Rattle.dill_calls.specs.CallTable.{word_of, named_by, blocks, gives_up}
use Rattle.dill_stack.specs.declared.want.ReadOut.{ReadOut}
use Rattle.dill_stack.specs.declared.want.ReadOut.TheVariants as outs
use Rattle.dill_stack.specs.Again.{LooksAgain}
use Rattle.dill_stack.specs.Interface.{Held, Looked, read, greeted, detach_finish, drop_unread, is_sent, is_broken, has_ended}
use Rattle.dill_rules.specs.declared.coroutine.Coroutine.{Coroutine}
use Rattle.dill_rules.specs.World.{World, pending_call}
use Rattle.dill_rules.specs.Answers.{when, own_answer, lost_its_number, answer_of}
use Rattle.dill_rules.specs.Directions.{is_send, is_receive, is_handshake, parting_of}
use Rattle.dill_rules.specs.Giving.{look_on}
use Rattle.dill_rules.specs.LinkAnswers.{is_tcp_done, is_tcp_close, still, look_by, look_of, answer_said, is_broken_for, zero_when, whole_answer, is_on_stack, reads, stack_answer}
use Rattle.dill_rules.specs.Links.{Link, look}
use Rattle.dill_rules.specs.Settling.{settle_within, pass_one, settle}
use Rattle.dill_rules.specs.Sockets.{link_number}
use Rattle.dill_rules.specs.Taking.{is_cancelled}
use Rattle.laws_queue.specs.Well.{Numbered}
use Rattle.laws_queue.proofs.Besides.{look_besides}
use Rattle.laws_queue.proofs.Settling.{settles_all}
use Rattle.laws_blind.proofs.Giving.{done_sends}
use Rattle.laws_looks.specs.Readers.{In, Pends}
use Rattle.laws_looks.proofs.Lists.{true_false, or_none, reads_parts}
use Rattle.laws_looks.proofs.Enters.{by_class}
use Rattle.laws_looks.proofs.Fewer.{named_once, pends_same, fewer_looked, fewer_apart}
use Rattle.laws_looks.proofs.Quieted.{Readers, Waits, pass_step, due_waits}
use Rattle.laws_looks.proofs.Spent.{asked_is}
use Rattle.laws_fits.specs.Fitting.{shakes, queues, Holds}
use Rattle.laws_fits.proofs.Stacks.{Soft, soft_same, soft_may, soft_map, dropped_soft, read_soft, finish_soft, greet_soft}
use Rattle.laws_fits.proofs.Tidy.{NoNumber}
use Rattle.laws_fits.proofs.Fits.{NoCall, shakes_queue, Lasts, Fresh, lasts}
use Rattle.laws_fits.proofs.Acts.{On, on_dec, Acts, acts_look}
use Rattle.laws_fits.proofs.Causes.{Goes, shaking, leaving, goes, on_answer}
use Rattle.laws_fits.proofs.Giving.{within_lasts}

-- `tcp_close` drops
close_look : (call : Call) (n : ℕ) (u : Stream) (s : Held) → named_by call ≡ Some n → is_tcp_close (word_of call) ≡ true → look_of call u s ≡ still u (drop_unread s)
close_look (calls.TcpClose m deadline) n u s e f = refl
close_look _ n u s e f = cc

no_answer : (r : ReadOut) → answer_said r ≡ None → r ≡ outs.Need
no_answer (outs.Given a) e = cc
no_answer outs.Need e = refl
no_answer (outs.Fault x) e = cc

some_broken : (b : Bool) (o : Option Answer) → (if b then Some (Fault Econnreset) else o) ≡ None → (b ≡ false) × (o ≡ None)
some_broken true o e = cc
some_broken false o e = (refl, e)

or_off : (a b : Bool) → (a || b) ≡ false → b ≡ false
or_off true b e = cc
or_off false b e = e

-- a handshake is no receive
shakes_apart : (call : Call) (n : ℕ) → named_by call ≡ Some n → shakes call ≡ true → (is_receive (word_of call) ≡ false) × (is_send (word_of call) ≡ false)
shakes_apart (calls.WsAttachClient m text resource host deadline) n e f = (refl, refl)
shakes_apart (calls.WsAttachServer m text deadline) n e f = (refl, refl)
shakes_apart _ n e f = cc

-- what is not answered, of a call that looks
record Unanswered (call : Call) (u : Stream) (s : Held) : Type 0 where
  broken : is_broken_for (word_of call) s ≡ false
  said : is_tcp_close (word_of call) ≡ false → (look_of call u s).said ≡ outs.Need

unanswered : (call : Call) (u : Stream) (x : Link) → is_send (word_of call) ≡ false → stack_answer call u x ≡ None → Unanswered call u x.stack
unanswered call u x n e =
    let b = some_broken (is_broken_for (word_of call) x.stack) (whole_answer call u x) e in
    record { broken = b.0; said = λ c. at (is_tcp_done (word_of call)) refl c b.1 }
  where
    at : (a : Bool) → is_tcp_done (word_of call) ≡ a → is_tcp_close (word_of call) ≡ false
        → (if a then zero_when x.shut else (if is_send (word_of call) then zero_when (is_sent x.stack) else (if is_tcp_close (word_of call) then zero_when (x.shut && has_ended x.stack) else answer_said (look_of call u x.stack).said))) ≡ None → (look_of call u x.stack).said ≡ outs.Need
    at true f c g = absurd (true_false (is_send (word_of call)) (done_sends (word_of call) f) n)
    at false f c g =
        no_answer (look_of call u x.stack).said
        (sym (ap (λ b. if b then zero_when (is_sent x.stack) else (if is_tcp_close (word_of call) then zero_when (x.shut && has_ended x.stack) else answer_said (look_of call u x.stack).said)) n
        ∙ ap (λ b. if b then zero_when (x.shut && has_ended x.stack) else answer_said (look_of call u x.stack).said) c)
        ∙ g)

-- so its look is soft, and may queue a head only where it is a handshake
look_soft : (call : Call) (n : ℕ) (u : Stream) (s : Held) → named_by call ≡ Some n → reads call ≡ true → Unanswered call u s → Soft (shakes call ≡ true) s (look_of call u s).stack
look_soft call n u s e rd a = at (by_class call rd) (is_tcp_close (word_of call)) refl
  where
    going : Goes call → (look_of call u s).said ≡ outs.Need → Soft (shakes call ≡ true) s (look_of call u s).stack
    going (leaving parting t looks) f =
        let it = looks u s in
        subst (λ (m : Looked). Soft (shakes call ≡ true) s m.stack) (sym it) (soft_may (shakes call ≡ true) s (detach_finish u s).stack ((finish_soft u s).0 (ap (λ (m : Looked). m.said) (sym it) ∙ f)))
    going (shaking t looks) f =
        let it = looks u s in
        let apart = shakes_apart call n e t in
        let whole : s.sending.broken ≡ false =
        or_off s.receiving.broken s.sending.broken
        (sym (ap (λ b. if b then s.receiving.broken else (if is_send (word_of call) then s.sending.broken else is_broken s)) apart.0 ∙ ap (λ b. if b then s.sending.broken else is_broken s) apart.1) ∙ a.broken) in
        subst (λ (m : Looked). Soft (shakes call ≡ true) s m.stack) (sym it) (soft_map (Unit {0}) (shakes call ≡ true) s (greeted s).stack (λ q. t) ((greet_soft s).0 (ap (λ (m : Looked). m.said) (sym it) ∙ f) whole))

    at : (is_receive (word_of call) ≡ true) ⊎ ((is_handshake (word_of call) || gives_up (word_of call)) ≡ true) → (b : Bool) → is_tcp_close (word_of call) ≡ b → Soft (shakes call ≡ true) s (look_of call u s).stack
    at (inl r) b c =
        let want = asked_is call n e r in
        let it : look_of call u s ≡ read want.0 u s = ap (λ o. if_some o (if_some (parting_of call) (look_by call u s) (λ parting. detach_finish u s)) (λ z. read z u s)) want.1 in
        subst (λ (m : Looked). Soft (shakes call ≡ true) s m.stack) (sym it) (soft_may (shakes call ≡ true) s (read want.0 u s).stack (read_soft want.0 u s))
    at (inr t) true c = subst (λ (m : Looked). Soft (shakes call ≡ true) s m.stack) (sym (close_look call n u s e c)) (soft_may (shakes call ≡ true) s (drop_unread s) (dropped_soft s))
    at (inr t) false c = going (goes call n e t c) (a.said c)

module _ {V : Type 0} where
  -- the stack of a call that waits doesn't answer it
  link_waits : (w : World V) (who : ℕ) (call : Call) (l : ℕ) (x : Link) → is_on_stack (word_of call) ≡ true → On w call l → look w.links l ≡ Some x → answer_of w who call ≡ None → stack_answer call w.random x ≡ None
  link_waits w who call l x on o i e =
      let one = or_none (when (blocks (word_of call) && is_cancelled w who) (Fault Ecanceled)) (option_or (when (lost_its_number w call) (Fault Ebadf)) (own_answer w call)) e in
      let two = or_none (when (lost_its_number w call) (Fault Ebadf)) (own_answer w call) one.1 in
      sym (on_answer w call l x on o i) ∙ two.1

  look_lasts : (w : World V) (who : ℕ) (call : Call) → Pends w who call → reads call ≡ true → answer_of w who call ≡ None → Lasts w → Lasts (look_on w call)
  look_lasts w who call p rd e h =
      lasts {S = Acts w call R} {T = NoNumber} {gone = None} {new = NoCall} w v
      (record {
        tidy = acts_look w call;
        calls = λ other more q on. inl (pends_same w v crew other more q);
        free = λ other more n l ne q u f g t. t;
        own = λ other more n l x y g q u f i k j d s d2. cc;
        stacks = λ l x y i k j d s. stacks l x y i s;
        fits = λ other more n l y q f nm i k. absurd q;
        low = λ other more n q f. absurd q;
      })
      (fewer_apart w v (fewer_looked w call) h.apart)
      (subst (λ (z : World V). Numbered 0 z.coroutines z.last_coroutine) (sym (look_besides w call).same) h.numbered) h
    where
      R : Held → Held → Type 0
      R s t = t ≡ (look_of call w.random s).stack

      v : World V
      v = look_on w call

      crew : v.coroutines ≡ w.coroutines
      crew = ap (λ (z : World V). z.coroutines) (look_besides w call).same

      parts : (is_on_stack (word_of call) ≡ true) × (is_send (word_of call) ≡ false)
      parts = reads_parts (is_on_stack (word_of call)) (is_send (word_of call)) rd

      stacks : (l : ℕ) (x y : Link) → look w.links l ≡ Some x → Acts w call R l x.stack y.stack → Soft (Holds v queues l) x.stack y.stack ⊎ Fresh v NoCall l y
      stacks l x y i a = at (on_dec w call l)
        where
          holds : On w call l → shakes call ≡ true → Holds v queues l
          holds o t = record {
            who = who;
            call = call;
            number = o.number;
            pends = pends_same v w (sym crew) who call p;
            passes = shakes_queue call t;
            named = o.named;
            linked = ap (λ (z : World V). link_number z o.number) (look_besides w call).same ∙ o.linked;
          }

          at : On w call l ⊎ (On w call l → ⊥) → Soft (Holds v queues l) x.stack y.stack ⊎ Fresh v NoCall l y
          at (inl o) =
              let need = unanswered call w.random x parts.1 (link_waits w who call l x parts.0 o i e) in
              inl (subst (Soft (Holds v queues l) x.stack) (sym (a.0 o)) (soft_map (shakes call ≡ true) (Holds v queues l) x.stack (look_of call w.random x.stack).stack (holds o) (look_soft call o.number w.random x.stack o.named rd need)))
          at (inr off) = inl (soft_same (Holds v queues l) x.stack y.stack (a.1 off))

  pass_lasts : (w : World V) (cs : List (Coroutine V)) (c : Coroutine V) → Readers w cs → In c cs → Waits w cs → Lasts w → Lasts (pass_one w c)
  pass_lasts w cs c r i waits h = at (pending_call c.mode) refl
    where
      by : (call : Call) → pending_call c.mode ≡ Some call → (b : Bool) → reads call ≡ b → Lasts (if b then look_on w call else w)
      by call e true rd = look_lasts w c.number call (record { one = c; there = subst (In c) (sym r.same) i; number = refl; mode = e }) rd (waits c i call e) h
      by call e false rd = h

      at : (o : Option Call) → pending_call c.mode ≡ o → Lasts (if_some o w (λ call. if reads call then look_on w call else w))
      at None e = h
      at (Some call) e = by call e (reads call) refl

  passes_last : (laws : LooksAgain) (rest : List (Coroutine V)) (w : World V) (cs : List (Coroutine V)) → Readers w cs → ((c : Coroutine V) → In c rest → In c cs) → Waits w cs → Lasts w → Lasts (fold pass_one w rest)
  passes_last laws [] w cs r sub waits h = h
  passes_last laws (c ∷ rest) w cs r sub waits h =
      let s = pass_step laws w cs c r (sub c (inl refl)) waits in
      let v = pass_one w c in
      let last = pass_lasts w cs c r (sub c (inl refl)) waits h in
      passes_last laws rest v cs (record { same = ap (λ (z : World V). z.coroutines) s.same ∙ r.same; numbered = subst (λ (z : World V). Numbered 0 cs z.last_coroutine) (sym s.same) r.numbered; one = last.apart.readers; once = named_once v last.apart }) (λ d j. sub d (inr j)) s.waits last

  pub settle_lasts : LooksAgain → (w : World V) → Lasts w → Lasts (settle w)
  settle_lasts laws w h =
      let v = settle_within (length w.coroutines) w in
      let last = within_lasts (length w.coroutines) w h in
      passes_last laws v.coroutines v v.coroutines (record { same = refl; numbered = last.numbered; one = last.apart.readers; once = named_once v last.apart }) (λ c i. i) (due_waits v (settles_all V w h.numbered).answers) last
