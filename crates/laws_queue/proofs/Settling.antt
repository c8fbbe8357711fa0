-- Settling goes on until nothing is due, whatever anybody is pending in: each of its steps leaves one coroutine fewer that is pending or ending. What the looks behind it pass is not told here.
use Rattle.std.proofs.Common.{◌≡◌, ◌∙◌, ◌+◌, ◌≤◌, ℕ, zero, suc, List, [], ◌∷◌, length, find, Bool, true, false, ◌&&◌, cond, Option, Some, None, refl, sym, ap, subst, arith}
use Rattle.dill_calls.specs.declared.answer.Answer.{Answer}
use Rattle.dill_calls.specs.declared.call.Call.{Call}
use Rattle.dill_calls.specs.declared.word.Word.{Word}
use Rattle.dill_calls.specs.CallTable.{word_of}
use Rattle.dill_base.specs.Maps.{if_some, first_some, change, without}
use Rattle.dill_rules.specs.declared.coroutine.Coroutine.{Coroutine}
use Rattle.dill_rules.specs.declared.coroutine.Mode.{Mode}
use Rattle.dill_rules.specs.declared.coroutine.Mode.TheVariants as modes
use Rattle.dill_rules.specs.World.{World, is_coroutine, with_mode, pending_call, is_ending}
use Rattle.dill_rules.specs.Giving.{give}
use Rattle.dill_rules.specs.Settling.{can_finish, is_clear, finish, answer_due, give_first, settle_one, settle_within, IsSettled}
use Rattle.laws_queue.specs.Well.{bit, Numbered, counts}
use Rattle.laws_queue.proofs.Acting.{give_gives}
use Rattle.laws_queue.proofs.Lists.{some_same, found_passes}
use Rattle.laws_queue.proofs.Crew.{bare_crew, keep_end_last}
use Rattle.laws_queue.proofs.Stepping.{by_number, due_first}
use Rattle.laws_queue.specs.Settled.{SettlesAll}
use Rattle.laws_queue.proofs.Numbers.{numbered_change, numbered_without}

-- pending or ending: something may still be due of it
rests : Mode → Bool
rests (modes.Pending call) = true
rests (modes.Ending outcome) = true
rests modes.Running = false
rests (modes.Fresh word answer) = false
rests (modes.Answered word answer) = false

ending_waits : (mode : Mode) (b : Bool) → (is_ending mode && b) ≡ true → rests mode ≡ true
unfolding rests
ending_waits (modes.Ending outcome) b e = refl
ending_waits (modes.Pending call) b e = cc
ending_waits modes.Running b e = cc
ending_waits (modes.Fresh word answer) b e = cc
ending_waits (modes.Answered word answer) b e = cc

pending_waits : (mode : Mode) (call : Call) → pending_call mode ≡ Some call → rests mode ≡ true
unfolding rests
pending_waits (modes.Pending other) call e = refl
pending_waits (modes.Ending outcome) call e = cc
pending_waits modes.Running call e = cc
pending_waits (modes.Fresh word answer) call e = cc
pending_waits (modes.Answered word answer) call e = cc

rests_fresh : (word : Word) (answer : Answer) → rests (modes.Fresh word answer) ≡ false
unfolding rests
rests_fresh word answer = refl

module _ {V : Type 0} (test : Mode → Bool) where
  count_less_at : (found : Bool) (x c : Coroutine V) (cs ds : List (Coroutine V)) (rest : Option (Coroutine V)) → cond found (Some x) rest ≡ Some c → test c.mode ≡ true → (rest ≡ Some c → counts test ds + 1 ≡ counts test cs) → counts test (cond found cs (x ∷ ds)) + 1 ≡ bit (test x.mode) + counts test cs
  count_less_at true x c cs ds rest e f g =
      let one : bit (test x.mode) ≡ 1 = ap (λ y. bit (test y.mode)) (some_same x c e) ∙ ap bit f in
      omega (arith, one)
  count_less_at false x c cs ds rest e f g = let r = g e in omega (arith, r)

  count_removed : (who : ℕ) (c : Coroutine V) (cs : List (Coroutine V)) → find (is_coroutine who) cs ≡ Some c → test c.mode ≡ true → counts test (without (is_coroutine who) cs) + 1 ≡ counts test cs
  count_removed who c [] e f = cc
  count_removed who c (x ∷ cs) e f = count_less_at (is_coroutine who x) x c cs (without (is_coroutine who) cs) (find (is_coroutine who) cs) e f (λ g. count_removed who c cs g f)

  count_moved_at : (found : Bool) (mode : Mode) (x c : Coroutine V) (cs ds : List (Coroutine V)) (rest : Option (Coroutine V)) → test mode ≡ false → cond found (Some x) rest ≡ Some c → test c.mode ≡ true → (rest ≡ Some c → counts test ds + 1 ≡ counts test cs) → counts test (cond found (with_mode mode x ∷ cs) (x ∷ ds)) + 1 ≡ bit (test x.mode) + counts test cs
  count_moved_at true mode x c cs ds rest n e f g =
      let one : bit (test x.mode) ≡ 1 = ap (λ y. bit (test y.mode)) (some_same x c e) ∙ ap bit f in
      let nought : bit (test mode) ≡ 0 = ap bit n in
      omega (arith, one, nought)
  count_moved_at false mode x c cs ds rest n e f g = let r = g e in omega (arith, r)

  count_moved : (who : ℕ) (mode : Mode) (c : Coroutine V) (cs : List (Coroutine V)) → test mode ≡ false → find (is_coroutine who) cs ≡ Some c → test c.mode ≡ true → counts test (change (is_coroutine who) (with_mode mode) cs) + 1 ≡ counts test cs
  count_moved who mode c [] n e f = cc
  count_moved who mode c (x ∷ cs) n e f = count_moved_at (is_coroutine who x) mode x c cs (change (is_coroutine who) (with_mode mode) cs) (find (is_coroutine who) cs) n e f (λ g. count_moved who mode c cs n g f)

  counts_le : (cs : List (Coroutine V)) → counts test cs ≤ length cs
  counts_le [] = omega arith
  counts_le (c ∷ cs) = at (test c.mode) (counts_le cs)
    where
      at : (b : Bool) → counts test cs ≤ length cs → bit b + counts test cs ≤ suc (length cs)
      at true r = omega (arith, r)
      at false r = omega (arith, r)

module _ {V : Type 0} where
  -- nothing is due, or a step of settling leaves one fewer
  data Steps (w : World V) : Type 0 where
    done : IsSettled w → settle_one w ≡ w → Steps w
    fewer : counts rests (settle_one w).coroutines + 1 ≡ counts rests w.coroutines → Numbered 0 (settle_one w).coroutines (settle_one w).last_coroutine → Steps w

  step : (w : World V) → Numbered 0 w.coroutines w.last_coroutine → Steps w
  step w n = at (find (can_finish w) w.coroutines) refl (first_some (answer_due w) w.coroutines) refl
    where
      at : (o : Option (Coroutine V)) → find (can_finish w) w.coroutines ≡ o → (r : Option (ℕ × Call × Answer)) → first_some (answer_due w) w.coroutines ≡ r → Steps w
      at (Some c) e r f =
          let is : settle_one w ≡ finish w c = ap (λ o. if_some o (give_first w) (finish w)) e in
          let same = bare_crew w c.number in
          let here = by_number 0 w.last_coroutine (can_finish w) w.coroutines c e n in
          let ends = ending_waits c.mode (is_clear w c.number) (found_passes (can_finish w) w.coroutines c e) in
          let left : (settle_one w).coroutines ≡ without (is_coroutine c.number) w.coroutines = ap (λ (v : World V). v.coroutines) is ∙ ap (without (is_coroutine c.number)) same.coroutines in
          let last : (settle_one w).last_coroutine ≡ w.last_coroutine = ap (λ (v : World V). v.last_coroutine) is ∙ keep_end_last _ c ∙ same.last in
          fewer (ap (λ cs. counts rests cs + 1) left ∙ count_removed rests c.number c w.coroutines here ends)
          (subst (λ cs. Numbered 0 cs (settle_one w).last_coroutine) (sym left) (subst (Numbered 0 (without (is_coroutine c.number) w.coroutines)) (sym last) (numbered_without (is_coroutine c.number) w.coroutines 0 w.last_coroutine n)))
      at None e None f = done (record { endings = e; answers = f }) (ap (λ o. if_some o (give_first w) (finish w)) e ∙ ap (λ r. if_some r w (λ x. give w x.0 x.1 x.2)) f)
      at None e (Some x) f =
          let is : settle_one w ≡ give w x.0 x.1 x.2 = ap (λ o. if_some o (give_first w) (finish w)) e ∙ ap (λ r. if_some r w (λ y. give w y.0 y.1 y.2)) f in
          let due = (due_first w 0 w.last_coroutine w.coroutines x n f).1 in
          let g = give_gives w x.0 x.1 x.2 in
          let mode = modes.Fresh (word_of x.1) g.answer in
          let now : (settle_one w).coroutines ≡ change (is_coroutine x.0) (with_mode mode) w.coroutines = ap (λ (v : World V). v.coroutines) is ∙ g.coroutines in
          let last : (settle_one w).last_coroutine ≡ w.last_coroutine = ap (λ (v : World V). v.last_coroutine) is ∙ g.last in
          fewer (ap (λ cs. counts rests cs + 1) now ∙ count_moved rests x.0 mode due.one w.coroutines (rests_fresh (word_of x.1) g.answer) due.found (pending_waits due.one.mode x.1 due.call))
          (subst (λ cs. Numbered 0 cs (settle_one w).last_coroutine) (sym now) (subst (Numbered 0 (change (is_coroutine x.0) (with_mode mode) w.coroutines)) (sym last) (numbered_change (is_coroutine x.0) (with_mode mode) w.coroutines 0 w.last_coroutine (λ d. refl) n)))

  pub within_same : (k : ℕ) (w : World V) → settle_one w ≡ w → settle_within k w ≡ w
  within_same zero w e = refl
  within_same (suc k) w e = ap (settle_within k) e ∙ within_same k w e

  within_settles : (k : ℕ) (w : World V) → Numbered 0 w.coroutines w.last_coroutine → counts rests w.coroutines ≤ k → IsSettled (settle_within k w)
  within_settles zero w n l = at (step w n)
    where
      at : Steps w → IsSettled w
      at (done s e) = s
      at (fewer c m) = absurd (omega (arith, c, l))
  within_settles (suc k) w n l = at (step w n) (within_settles k (settle_one w))
    where
      at : Steps w → (Numbered 0 (settle_one w).coroutines (settle_one w).last_coroutine → counts rests (settle_one w).coroutines ≤ k → IsSettled (settle_within k (settle_one w))) → IsSettled (settle_within k (settle_one w))
      at (done s e) rest = subst IsSettled (sym (ap (settle_within k) e ∙ within_same k w e)) s
      at (fewer c m) rest = rest m (omega (arith, c, l))

pub settles_all : (V : Type 0) → SettlesAll V
settles_all V w n = within_settles (length w.coroutines) w n (counts_le rests w.coroutines)
