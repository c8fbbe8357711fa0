-- Where one coroutine stirs, its look may go before all else.
use Rattle.std.proofs.Common.{◌≡◌, ◌∙◌, ◌⊎◌, inl, inr, ℕ, zero, suc, ◌==◌, List, [], ◌∷◌, length, find, fold, Bool, true, false, ◌&&◌, Option, Some, None, if◌then◌else◌, refl, sym, ap, subst, arith}
use Rattle.std.specs.Prelude.{is_none, option_map}
use Rattle.std.specs.Option.{option_or}
use Rattle.rand_core.specs.Stream.{Stream}
use Rattle.dill_base.specs.declared.errno.Errno.TheVariants.{Ecanceled, Ebadf, Econnreset}
use Rattle.dill_base.specs.Maps.{if_some, first_some}
use Rattle.dill_calls.specs.declared.answer.Answer.{Answer}
use Rattle.dill_calls.specs.declared.answer.Answer.TheVariants.{Fault}
use Rattle.dill_calls.specs.declared.call.Call.{Call}
use Rattle.dill_calls.specs.CallTable.{word_of, named_by, blocks}
use Rattle.dill_scope.proofs.Numbered.{found_number}
use Rattle.dill_stack.specs.Interface.{Held, is_sent, has_ended}
use Rattle.dill_stack.specs.Again.{LooksAgain}
use Rattle.dill_rules.specs.declared.coroutine.Coroutine.{Coroutine}
use Rattle.dill_rules.specs.declared.coroutine.Mode.TheVariants as modes
use Rattle.dill_rules.specs.World.{World, is_coroutine, coroutine_of, with_mode, pending_call}
use Rattle.dill_rules.specs.Links.{Link}
use Rattle.dill_rules.specs.Sockets.{link_named, stack_of}
use Rattle.dill_rules.specs.Directions.{is_send}
use Rattle.dill_rules.specs.LinkAnswers.{is_on_stack, is_tcp_done, is_tcp_close, is_broken_for, zero_when, answer_said, look_of, stack_answer, reads}
use Rattle.dill_rules.specs.Linking.{put}
use Rattle.dill_rules.specs.Answers.{when, own_answer, lost_its_number, answer_of}
use Rattle.dill_rules.specs.Taking.{is_cancelled}
use Rattle.dill_rules.specs.Giving.{look_on, give}
use Rattle.dill_rules.specs.Settling.{IsSettled, finish, answer_due, give_first, settle_one, settle_within, pass_one, pass_all, settle}
use Rattle.dill_rules.specs.Lookless.{stack_lookless, link_lookless, own_lookless, lookless_of, lookless_due, give_lookless, settle_one_lookless, lookless_within, settle_lookless, looked_for, look_once}
use Rattle.laws_queue.specs.Kept.{kept_late, root_closed}
use Rattle.laws_queue.specs.Well.{Numbered}
use Rattle.laws_queue.proofs.Acting.{give_gives}
use Rattle.laws_queue.proofs.Settling.{settles_all}
use Rattle.laws_sound.specs.Order.{IsInOrder}
use Rattle.laws_sound.proofs.Making.{length_changed}
use Rattle.laws_blind.proofs.Giving.{done_sends}
use Rattle.laws_looks.specs.Readers.{In, Pends, LooksApart}
use Rattle.laws_looks.specs.Calm.{Restful}
use Rattle.laws_looks.specs.OneLook.{StirsOne, OneLookSettles}
use Rattle.laws_looks.proofs.Lists.{equal_is, unequal_is, some_none, some_same, or_none, true_false, reads_parts, find_in}
use Rattle.laws_looks.proofs.Twice.{close_looks}
use Rattle.laws_looks.proofs.Fewer.{named_once}
use Rattle.laws_looks.proofs.Quieted.{above, found_of, due_as, Calm, Readers, Waits, Step, waits_due, calm_passes, pass_step, passed_settled}
use Rattle.laws_looks.proofs.Restful.{named_link, names_number, passes_rest, within_rests, rested}
use Rattle.laws_looks.proofs.Answered.{own_is_link}
use Rattle.laws_looks.proofs.Lookless.{lookless_same, rest_settles, expiry_rests, closing_rests}
use Rattle.laws_looks.proofs.Stirring.{reads_named, CalmBut, given_rests}

-- ---- what is answered without a look is answered

or_more : (c l o p : Option Answer) (a : Answer) → (o ≡ Some a → p ≡ Some a) → option_or c (option_or l o) ≡ Some a → option_or c (option_or l p) ≡ Some a
or_more None None o p a h e = h e
or_more None (Some x) o p a h e = e
or_more (Some x) l o p a h e = e

stack_more : (call : Call) (u : Stream) (x : Link) (a : Answer) → stack_lookless call x ≡ Some a → stack_answer call u x ≡ Some a
stack_more call u x a e = at (is_broken_for (word_of call) x.stack) (is_tcp_done (word_of call)) (is_send (word_of call)) (is_tcp_close (word_of call)) e
  where
    at : (b d s c : Bool) → (if b then Some (Fault Econnreset) else (if d then zero_when x.shut else (if s then zero_when (is_sent x.stack) else (if c then zero_when (x.shut && has_ended x.stack) else None)))) ≡ Some a
        → (if b then Some (Fault Econnreset) else (if d then zero_when x.shut else (if s then zero_when (is_sent x.stack) else (if c then zero_when (x.shut && has_ended x.stack) else answer_said (look_of call u x.stack).said)))) ≡ Some a
    at true d s c f = f
    at false true s c f = f
    at false false true c f = f
    at false false false true f = f
    at false false false false f = cc

-- where there is no other answer, a call that looks is answered by its look
look_answers : (call : Call) (u : Stream) (x : Link) → is_send (word_of call) ≡ false → stack_lookless call x ≡ None → stack_answer call u x ≡ answer_said (look_of call u x.stack).said
look_answers call u x s e = at (is_broken_for (word_of call) x.stack) (is_tcp_done (word_of call)) refl (is_send (word_of call)) s (is_tcp_close (word_of call)) refl e
  where
    at : (b d : Bool) → is_tcp_done (word_of call) ≡ d → (t : Bool) → t ≡ false → (c : Bool) → is_tcp_close (word_of call) ≡ c
        → (if b then Some (Fault Econnreset) else (if d then zero_when x.shut else (if t then zero_when (is_sent x.stack) else (if c then zero_when (x.shut && has_ended x.stack) else None)))) ≡ None
        → (if b then Some (Fault Econnreset) else (if d then zero_when x.shut else (if t then zero_when (is_sent x.stack) else (if c then zero_when (x.shut && has_ended x.stack) else answer_said (look_of call u x.stack).said)))) ≡ answer_said (look_of call u x.stack).said
    at true d f t g c h i = cc
    at false true f t g c h i = absurd (true_false (is_send (word_of call)) (done_sends (word_of call) f) s)
    at false false f true g c h i = cc
    at false false f false g true h i = i ∙ sym (ap answer_said (close_looks call u x.stack h))
    at false false f false g false h i = refl

when_none : (b : Bool) (a : Answer) → when b a ≡ None → b ≡ false
when_none true a e = cc
when_none false a e = refl

some_length : {X : Type 0} (xs : List X) (x : X) → In x xs → (k : ℕ) × (length xs ≡ suc k)
some_length [] x i = absurd i
some_length (y ∷ ys) x i = (length ys, refl)

-- the only one of which there is something
first_only : {X Y : Type 0} (f : X → Option Y) (xs : List X) (x : X) (y : Y) → In x xs → f x ≡ Some y → ((z : X) → In z xs → (f z ≡ None) ⊎ (f z ≡ Some y)) → first_some f xs ≡ Some y
first_only f [] x y i e h = absurd i
first_only f (z ∷ zs) x y (inl same) e h = ap (λ o. option_or o (first_some f zs)) (ap f (sym same) ∙ e)
first_only f (z ∷ zs) x y (inr i) e h = at (h z (inl refl)) (first_only f zs x y i e (λ w j. h w (inr j)))
  where
    at : (f z ≡ None) ⊎ (f z ≡ Some y) → first_some f zs ≡ Some y → option_or (f z) (first_some f zs) ≡ Some y
    at (inl none) rest = ap (λ o. option_or o (first_some f zs)) none ∙ rest
    at (inr some) rest = ap (λ o. option_or o (first_some f zs)) some

module _ {V : Type 0} where
  own_more : (w : World V) (call : Call) (a : Answer) → own_lookless w call ≡ Some a → own_answer w call ≡ Some a
  own_more w call a e = at (is_on_stack (word_of call)) refl e
    where
      found : (o : Option Link) → if_some o None (stack_lookless call) ≡ Some a → if_some o None (stack_answer call w.random) ≡ Some a
      found None f = cc
      found (Some x) f = stack_more call w.random x a f

      named : (o : Option ℕ) → if_some o None (λ number. if_some (link_named w number) None (stack_lookless call)) ≡ Some a → if_some o None (λ number. if_some (link_named w number) None (stack_answer call w.random)) ≡ Some a
      named None f = cc
      named (Some n) f = found (link_named w n) f

      at : (b : Bool) → is_on_stack (word_of call) ≡ b → (if b then link_lookless w call else own_answer w call) ≡ Some a → own_answer w call ≡ Some a
      at true f g =
          own_is_link w call f ∙ ap (λ b. if b then if_some (named_by call) None (λ number. if_some (link_named w number) None (stack_answer call w.random)) else None) f ∙ named (named_by call) g
      at false f g = g

  lookless_is : (w : World V) (who : ℕ) (call : Call) (a : Answer) → lookless_of w who call ≡ Some a → answer_of w who call ≡ Some a
  lookless_is w who call a e = or_more (when (blocks (word_of call) && is_cancelled w who) (Fault Ecanceled)) (when (lost_its_number w call) (Fault Ebadf)) (own_lookless w call) (own_answer w call) a (own_more w call a) e

  lookless_none : (w : World V) (who : ℕ) (call : Call) → answer_of w who call ≡ None → lookless_of w who call ≡ None
  lookless_none w who call e = at (lookless_of w who call) refl
    where
      at : (o : Option Answer) → lookless_of w who call ≡ o → lookless_of w who call ≡ None
      at None f = f
      at (Some a) f = absurd (some_none (answer_of w who call) a e (lookless_is w who call a f))

  -- ---- the look of a call that has no other answer

  pub data Looked (w : World V) (who : ℕ) (call : Call) : Type 0 where
    finds_none : answer_of w who call ≡ None → looked_for w who call ≡ look_on w call → Looked w who call
    finds : (a : Answer) → answer_of w who call ≡ Some a → looked_for w who call ≡ give w who call a → Looked w who call

  pub looked_is : (w : World V) (who : ℕ) (call : Call) → reads call ≡ true → lookless_of w who call ≡ None → Looked w who call
  looked_is w who call rd e = by (named_by call) refl
    where
      parts : (is_on_stack (word_of call) ≡ true) × (is_send (word_of call) ≡ false)
      parts = reads_parts (is_on_stack (word_of call)) (is_send (word_of call)) rd

      one : (when (blocks (word_of call) && is_cancelled w who) (Fault Ecanceled) ≡ None) × (option_or (when (lost_its_number w call) (Fault Ebadf)) (own_lookless w call) ≡ None)
      one = or_none (when (blocks (word_of call) && is_cancelled w who) (Fault Ecanceled)) (option_or (when (lost_its_number w call) (Fault Ebadf)) (own_lookless w call)) e

      two : (when (lost_its_number w call) (Fault Ebadf) ≡ None) × (own_lookless w call ≡ None)
      two = or_none (when (lost_its_number w call) (Fault Ebadf)) (own_lookless w call) one.1

      none : link_lookless w call ≡ None
      none = sym (ap (λ b. if b then link_lookless w call else own_answer w call) parts.0) ∙ two.1

      -- what it is answered is its link's
      answers : answer_of w who call ≡ if_some (named_by call) None (λ number. if_some (link_named w number) None (stack_answer call w.random))
      answers =
          ap (λ o. option_or o (option_or (when (lost_its_number w call) (Fault Ebadf)) (own_answer w call))) one.0
          ∙ ap (λ o. option_or o (own_answer w call)) two.0
          ∙ own_is_link w call parts.0
          ∙ ap (λ b. if b then if_some (named_by call) None (λ number. if_some (link_named w number) None (stack_answer call w.random)) else None) parts.0

      stack : (o : Option ℕ) → named_by call ≡ o → stack_of w call ≡ if_some o None (λ number. option_map (λ x. x.stack) (link_named w number))
      stack o f = ap (λ q. if_some q None (λ number. option_map (λ x. x.stack) (link_named w number))) f

      looks : (o : Option Held) → stack_of w call ≡ o → looked_for w who call ≡ if_some o w (λ s. if_some (answer_said (look_of call w.random s).said) (look_on w call) (give w who call))
      looks o f = ap (λ q. if_some q w (λ s. if_some (answer_said (look_of call w.random s).said) (look_on w call) (give w who call))) f

      passes : (o : Option ℕ) → named_by call ≡ o → (q : Option Held) → stack_of w call ≡ q → look_on w call ≡ if_some o w (λ number. if_some q w (λ s. put w number ((look_of call w.random s).stack, (look_of call w.random s).random)))
      passes o f q g =
          ap (λ p. if_some p w (λ number. if_some (stack_of w call) w (λ s. put w number ((look_of call w.random s).stack, (look_of call w.random s).random)))) f
          ∙ ap (λ p. if_some o w (λ number. if_some p w (λ s. put w number ((look_of call w.random s).stack, (look_of call w.random s).random)))) g

      said : (x : Link) → answer_of w who call ≡ stack_answer call w.random x → stack_lookless call x ≡ None → stack_of w call ≡ Some x.stack → Looked w who call
      said x f g h = at (answer_said (look_of call w.random x.stack).said) refl
        where
          at : (o : Option Answer) → answer_said (look_of call w.random x.stack).said ≡ o → Looked w who call
          at None i = finds_none (f ∙ look_answers call w.random x parts.1 g ∙ i) (looks (Some x.stack) h ∙ ap (λ o. if_some o (look_on w call) (give w who call)) i)
          at (Some a) i = finds a (f ∙ look_answers call w.random x parts.1 g ∙ i) (looks (Some x.stack) h ∙ ap (λ o. if_some o (look_on w call) (give w who call)) i)

      linked : (n : ℕ) → named_by call ≡ Some n → (o : Option Link) → link_named w n ≡ o → Looked w who call
      linked n f None g =
          let s : stack_of w call ≡ None = stack (Some n) f ∙ ap (λ o. option_map (λ x. x.stack) o) g in
          finds_none (answers ∙ ap (λ q. if_some q None (λ number. if_some (link_named w number) None (stack_answer call w.random))) f ∙ ap (λ o. if_some o None (stack_answer call w.random)) g)
          (looks None s ∙ sym (passes (Some n) f None s))
      linked n f (Some x) g =
          said x (answers ∙ ap (λ q. if_some q None (λ number. if_some (link_named w number) None (stack_answer call w.random))) f ∙ ap (λ o. if_some o None (stack_answer call w.random)) g)
          (sym (ap (λ q. if_some q None (λ number. if_some (link_named w number) None (stack_lookless call))) f ∙ ap (λ o. if_some o None (stack_lookless call)) g) ∙ none)
          (stack (Some n) f ∙ ap (λ o. option_map (λ x. x.stack) o) g)

      by : (o : Option ℕ) → named_by call ≡ o → Looked w who call
      by None f = finds_none (answers ∙ ap (λ q. if_some q None (λ number. if_some (link_named w number) None (stack_answer call w.random))) f) (looks None (stack None f) ∙ sym (passes None f None (stack None f)))
      by (Some n) f = linked n f (link_named w n) refl

  -- ---- settling

  one_settled : (w : World V) → IsSettled w → settle_one w ≡ w
  one_settled w s = ap (λ o. if_some o (give_first w) (finish w)) s.endings ∙ ap (λ o. if_some o w (λ x. give w x.0 x.1 x.2)) s.answers

  within_still : (k : ℕ) (w : World V) → settle_one w ≡ w → settle_within k w ≡ w
  within_still zero w e = refl
  within_still (suc k) w e = ap (settle_within k) e ∙ within_still k w e

  within_after : (k : ℕ) (w : World V) → settle_within k (settle_one w) ≡ settle_one (settle_within k w)
  within_after zero w = refl
  within_after (suc k) w = within_after k (settle_one w)

  -- where nothing is due and no look finds anything, a world settles to itself
  at_rest : (w : World V) → IsSettled w → Restful w → settle w ≡ w
  at_rest w s r = ap pass_all (within_still (length w.coroutines) w (one_settled w s)) ∙ passes_rest w r

  -- all looks, where only one changes anything
  fold_still : (cs : List (Coroutine V)) (v : World V) → ((d : Coroutine V) → In d cs → pass_one v d ≡ v) → fold pass_one v cs ≡ v
  fold_still [] v h = refl
  fold_still (c ∷ cs) v h = ap (λ u. fold pass_one u cs) (h c (inl refl)) ∙ fold_still cs v (λ d i. h d (inr i))

  fold_at : (w v : World V) (c : Coroutine V) (low high : ℕ) (cs : List (Coroutine V)) → Numbered low cs high → In c cs → pass_one w c ≡ v → ((d : Coroutine V) → In d cs → (d.number ≡ c.number → ⊥) → pass_one w d ≡ w) → ((d : Coroutine V) → In d cs → pass_one v d ≡ v) → fold pass_one w cs ≡ v
  fold_at w v c low high [] n i e before after = absurd i
  fold_at w v c low high (x ∷ xs) n (inl same) e before after = ap (λ u. fold pass_one u xs) (ap (pass_one w) (sym same) ∙ e) ∙ fold_still xs v (λ d j. after d (inr j))
  fold_at w v c low high (x ∷ xs) n (inr i) e before after =
      ap (λ u. fold pass_one u xs) (before x (inl refl) (λ same. let r = above x.number high xs c n.1 i in omega (arith, r, same)))
      ∙ fold_at w v c x.number high xs n.1 i e (λ d j. before d (inr j)) (λ d j. after d (inr j))

  module _ (laws : LooksAgain) (w : World V) (who : ℕ) (o : IsInOrder w) (a : LooksApart w) where
    numbered : Numbered 0 w.coroutines w.last_coroutine
    numbered = o.fits.numbered

    -- where the coroutine doesn't look, no look finds anything
    rests_else : CalmBut w who → ((call : Call) → Pends w who call → reads call ≡ true → ⊥) → Restful w
    rests_else calm none = record {
      calm = λ other call n l x p rd e nm i. calm other call n l x p (λ same. none call (record { one = p.one; there = p.there; number = p.number ∙ same; mode = p.mode }) rd) rd e nm i;
      apart = λ one two c more n m l p q sd rd e f nm nn.
          let same : n ≡ m = named_once w a n m l (names_number w n l o nm) (names_number w m l o nn) in
          a.sends m one two c more p q sd (e ∙ ap Some same) (reads_named more m rd f);
    }

    module _ (st : StirsOne w who) (c : Coroutine V) (call : Call) (found : coroutine_of w who ≡ Some c) (number : c.number ≡ who) (there : In c w.coroutines) (mode : pending_call c.mode ≡ Some call) (rd : reads call ≡ true) where
      pends : Pends w who call
      pends = record { one = c; there = there; number = number; mode = mode }

      same_one : (d : Coroutine V) → In d w.coroutines → d.number ≡ who → d ≡ c
      same_one d i e = some_same (find (is_coroutine d.number) w.coroutines) d c (found_of 0 w.last_coroutine w.coroutines d numbered i) (ap (λ k. find (is_coroutine k) w.coroutines) e ∙ found)

      other_waits : (d : Coroutine V) → In d w.coroutines → (b : Bool) → (d.number == who) ≡ b → (d ≡ c) ⊎ ((more : Call) → pending_call d.mode ≡ Some more → answer_of w d.number more ≡ None)
      other_waits d i true e = inl (same_one d i (equal_is d.number who e))
      other_waits d i false e = inr (λ more f. st.waits d more i (unequal_is d.number who e) f)

      none_due : (d : Coroutine V) → ((more : Call) → pending_call d.mode ≡ Some more → answer_of w d.number more ≡ None) → (answer_due w d ≡ None) × (lookless_due w d ≡ None)
      none_due d h = at (pending_call d.mode) refl
        where
          at : (q : Option Call) → pending_call d.mode ≡ q → (if_some q None (λ more. if_some (answer_of w d.number more) None (λ x. due_as d.number more x)) ≡ None) × (if_some q None (λ more. if_some (lookless_of w d.number more) None (λ x. due_as d.number more x)) ≡ None)
          at None e = (refl, refl)
          at (Some more) e = (ap (λ q. if_some q None (λ x. due_as d.number more x)) (h more e), ap (λ q. if_some q None (λ x. due_as d.number more x)) (lookless_none w d.number more (h more e)))

      -- who is answered
      one_given : (x : Answer) → answer_of w who call ≡ Some x → settle_one w ≡ give w who call x
      one_given x e =
          ap (λ q. if_some q (give_first w) (finish w)) st.endings
          ∙ ap (λ q. if_some q w (λ y. give w y.0 y.1 y.2)) (first_only (answer_due w) w.coroutines c (c.number, call, x) there due (λ d i. others d i (other_waits d i (d.number == who) refl)))
          ∙ ap (λ k. give w k call x) number
        where
          due : answer_due w c ≡ Some (c.number, call, x)
          due = ap (λ q. if_some q None (λ more. if_some (answer_of w c.number more) None (λ y. due_as c.number more y))) mode ∙ ap (λ q. if_some q None (λ y. due_as c.number call y)) (ap (λ k. answer_of w k call) number ∙ e)

          others : (d : Coroutine V) → In d w.coroutines → (d ≡ c) ⊎ ((more : Call) → pending_call d.mode ≡ Some more → answer_of w d.number more ≡ None) → (answer_due w d ≡ None) ⊎ (answer_due w d ≡ Some (c.number, call, x))
          others d i (inl same) = inr (ap (answer_due w) same ∙ due)
          others d i (inr h) = inl (none_due d h).0

      one_lookless : (x : Answer) → lookless_of w who call ≡ Some x → settle_one_lookless w ≡ give w who call x
      one_lookless x e =
          ap (λ q. if_some q (give_lookless w) (finish w)) st.endings
          ∙ ap (λ q. if_some q w (λ y. give w y.0 y.1 y.2)) (first_only (lookless_due w) w.coroutines c (c.number, call, x) there due (λ d i. others d i (other_waits d i (d.number == who) refl)))
          ∙ ap (λ k. give w k call x) number
        where
          due : lookless_due w c ≡ Some (c.number, call, x)
          due = ap (λ q. if_some q None (λ more. if_some (lookless_of w c.number more) None (λ y. due_as c.number more y))) mode ∙ ap (λ q. if_some q None (λ y. due_as c.number call y)) (ap (λ k. lookless_of w k call) number ∙ e)

          others : (d : Coroutine V) → In d w.coroutines → (d ≡ c) ⊎ ((more : Call) → pending_call d.mode ≡ Some more → answer_of w d.number more ≡ None) → (lookless_due w d ≡ None) ⊎ (lookless_due w d ≡ Some (c.number, call, x))
          others d i (inl same) = inr (ap (lookless_due w) same ∙ due)
          others d i (inr h) = inl (none_due d h).1

      -- behind the answer all is at rest
      rests : (x : Answer) → Restful (give w who call x)
      rests x = given_rests w who call x o a st pends rd

      settles_to : (k : ℕ) (x : Answer) → length w.coroutines ≡ suc k → answer_of w who call ≡ Some x → settle w ≡ settle_within k (give w who call x)
      settles_to k x n e =
          let v = give w who call x in
          ap (λ j. pass_all (settle_within j w)) n ∙ ap (λ u. pass_all (settle_within k u)) (one_given x e) ∙ passes_rest (settle_within k v) (within_rests k v (rests x)).restful

      -- answered without a look
      sure : (x : Answer) → lookless_of w who call ≡ Some x → settle w ≡ settle_lookless w
      sure x e =
          let n = some_length w.coroutines c there in
          let v = give w who call x in
          settles_to n.0 x n.1 (lookless_is w who call x e) ∙ sym (lookless_same n.0 v (rests x)) ∙ ap (lookless_within n.0) (sym (one_lookless x e)) ∙ ap (λ j. lookless_within j w) (sym n.1)

      -- answered by its look
      by_look : (x : Answer) → answer_of w who call ≡ Some x → settle w ≡ settle_lookless (give w who call x)
      by_look x e =
          let n = some_length w.coroutines c there in
          let v = give w who call x in
          let g = give_gives w who call x in
          let long : length v.coroutines ≡ suc n.0 = ap length g.coroutines ∙ length_changed (is_coroutine who) (with_mode (modes.Fresh (word_of call) g.answer)) w.coroutines ∙ n.1 in
          let end : settle_within (length w.coroutines) w ≡ settle_within n.0 v = ap (λ j. settle_within j w) n.1 ∙ ap (settle_within n.0) (one_given x e) in
          let done : IsSettled (settle_within n.0 v) = subst IsSettled end (settles_all V w numbered) in
          let more : settle_within (length v.coroutines) v ≡ settle_within n.0 v = ap (λ j. settle_within j v) long ∙ within_after n.0 v ∙ one_settled (settle_within n.0 v) done in
          settles_to n.0 x n.1 e ∙ sym more ∙ sym (lookless_same (length v.coroutines) v (rests x))

      -- not answered: what its look passes is used
      by_passing : answer_of w who call ≡ None → settle w ≡ settle_lookless (look_on w call)
      by_passing e = settles_so ∙ passes ∙ sym (sym (rest_settles v at_v.1) ∙ at_rest v at_v.0 at_v.1)
        where
          v : World V
          v = look_on w call

          waits : Waits w w.coroutines
          waits d i more f = at (other_waits d i (d.number == who) refl)
            where
              at : (d ≡ c) ⊎ ((m : Call) → pending_call d.mode ≡ Some m → answer_of w d.number m ≡ None) → answer_of w d.number more ≡ None
              at (inl same) =
                  let its : more ≡ call = some_same (pending_call d.mode) more call f (ap (λ (x : Coroutine V). pending_call x.mode) same ∙ mode) in
                  ap (λ k. answer_of w k more) (ap (λ (x : Coroutine V). x.number) same ∙ number) ∙ ap (answer_of w who) its ∙ e
              at (inr h) = h more f

          settled : IsSettled w
          settled = record { endings = st.endings; answers = waits_due w w.coroutines waits }

          settles_so : settle w ≡ pass_all w
          settles_so = ap pass_all (within_still (length w.coroutines) w (one_settled w settled))

          readers : Readers w w.coroutines
          readers = record { same = refl; numbered = numbered; one = a.readers; once = named_once w a }

          step : Step w (pass_one w c) w.coroutines c
          step = pass_step laws w w.coroutines c readers there waits

          is : pass_one w c ≡ v
          is = ap (λ q. if_some q w (λ m. if reads m then look_on w m else w)) mode ∙ ap (λ b. if b then v else w) rd

          calm : (d : Coroutine V) → In d w.coroutines → (d.number ≡ c.number → ⊥) → (more : Call) → pending_call d.mode ≡ Some more → reads more ≡ true → Calm w more
          calm d i ne more f g n l x h j k = st.calm d.number more n l x (record { one = d; there = i; number = refl; mode = f }) (λ same. ne (same ∙ sym number)) g h (named_link w n l j) k

          stirs : (d : Coroutine V) → In d w.coroutines → (more : Call) → pending_call d.mode ≡ Some more → reads more ≡ true → (b : Bool) → (d.number == who) ≡ b → Calm v more
          stirs d i more f g true q = subst (λ u. Calm u more) is (step.calm d i more f g (inl (sym (same_one d i (equal_is d.number who q)))))
          stirs d i more f g false q = subst (λ u. Calm u more) is (step.calm d i more f g (inr (calm d i (λ same. unequal_is d.number who q (same ∙ number)) more f g)))

          passes : pass_all w ≡ v
          passes = fold_at w v c 0 w.last_coroutine w.coroutines numbered there is (λ d i ne. calm_passes w d (calm d i ne)) (λ d i. calm_passes v d (λ more f g. stirs d i more f g (d.number == who) refl))

          at_v : IsSettled v × Restful v
          at_v = (subst IsSettled passes (passed_settled laws w numbered a settled), subst Restful passes (rested laws w o a settled))

      settles_by : settle w ≡ settle_lookless (if is_none (lookless_of w who call) then looked_for w who call else w)
      settles_by = at (lookless_of w who call) refl
        where
          looked : Looked w who call → settle w ≡ settle_lookless (looked_for w who call)
          looked (finds_none e f) = by_passing e ∙ ap settle_lookless (sym f)
          looked (finds x e f) = by_look x e ∙ ap settle_lookless (sym f)

          at : (q : Option Answer) → lookless_of w who call ≡ q → settle w ≡ settle_lookless (if is_none q then looked_for w who call else w)
          at None e = looked (looked_is w who call rd e)
          at (Some x) e = sure x e

    -- the one look goes before all else
    pub stirs_where : CalmBut w who → ((call : Call) → Pends w who call → reads call ≡ true → StirsOne w who) → settle w ≡ settle_lookless (look_once w who)
    stirs_where calm st = at (coroutine_of w who) refl
      where
        by : (c : Coroutine V) → coroutine_of w who ≡ Some c → (q : Option Call) → pending_call c.mode ≡ q → settle w ≡ settle_lookless (if_some q w (λ call. if reads call && is_none (lookless_of w who call) then looked_for w who call else w))
        by c e None f = rest_settles w (rests_else calm none)
          where
            none : (call : Call) → Pends w who call → reads call ≡ true → ⊥
            none call p rd = some_none (pending_call c.mode) call f (ap (λ (x : Coroutine V). pending_call x.mode) (sym same) ∙ p.mode)
              where
                same : p.one ≡ c
                same = some_same (find (is_coroutine p.one.number) w.coroutines) p.one c (found_of 0 w.last_coroutine w.coroutines p.one numbered p.there) (ap (λ k. find (is_coroutine k) w.coroutines) p.number ∙ e)
        by c e (Some call) f = reading (reads call) refl
          where
            reading : (b : Bool) → reads call ≡ b → settle w ≡ settle_lookless (if b && is_none (lookless_of w who call) then looked_for w who call else w)
            reading false g = rest_settles w (rests_else calm none)
              where
                none : (more : Call) → Pends w who more → reads more ≡ true → ⊥
                none more p rd =
                    let same : p.one ≡ c = some_same (find (is_coroutine p.one.number) w.coroutines) p.one c (found_of 0 w.last_coroutine w.coroutines p.one numbered p.there) (ap (λ k. find (is_coroutine k) w.coroutines) p.number ∙ e) in
                    let its : more ≡ call = some_same (pending_call c.mode) more call (ap (λ (x : Coroutine V). pending_call x.mode) (sym same) ∙ p.mode) f in
                    true_false (reads call) (ap reads (sym its) ∙ rd) g
            reading true g =
                let number = found_number (λ (x : Coroutine V). x.number) who w.coroutines c e in
                let there = find_in (is_coroutine who) w.coroutines c e in
                settles_by (st call (record { one = c; there = there; number = number; mode = f }) g) c call e number there f g

        at : (q : Option (Coroutine V)) → coroutine_of w who ≡ q → settle w ≡ settle_lookless (if_some (if_some q None (λ c. pending_call c.mode)) w (λ call. if reads call && is_none (lookless_of w who call) then looked_for w who call else w))
        at None e = rest_settles w (rests_else calm none)
          where
            none : (call : Call) → Pends w who call → reads call ≡ true → ⊥
            none call p rd = some_none (coroutine_of w who) p.one e (ap (λ k. find (is_coroutine k) w.coroutines) (sym p.number) ∙ found_of 0 w.last_coroutine w.coroutines p.one numbered p.there)
        at (Some c) e = by c e (pending_call c.mode) refl

    pub stirred : StirsOne w who → settle w ≡ settle_lookless (look_once w who)
    stirred st = stirs_where st.calm (λ call p rd. st)

pub one_look_settles : {V : Type 0} → LooksAgain → OneLookSettles V
one_look_settles laws = record {
  rests = rest_settles;
  expires = λ k r. rest_settles (kept_late k).world (expiry_rests k r);
  shuts = λ k r. rest_settles (root_closed k.world) (closing_rests k.world r);
  stirs = stirred laws;
}
