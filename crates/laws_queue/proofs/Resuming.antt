-- The coroutine whose turn it is leaves the queue, and its program goes on.
use Rattle.std.proofs.Common.{◌≡◌, ◌∙◌, ◌+◌, ◌==◌, ℕ, List, [], ◌∷◌, find, Bool, true, false, cond, Option, Some, None, refl, ap, subst, arith}
use Rattle.std.proofs.lemmas.Bool.Decides.{nat_tests}
use Rattle.dill_calls.specs.Program.{Program}
use Rattle.dill_base.specs.Maps.{if_some, change}
use Rattle.dill_rules.specs.declared.coroutine.Coroutine.{Coroutine}
use Rattle.dill_rules.specs.Turning.{as_running}
use Rattle.dill_rules.specs.World.{is_coroutine, is_answered}
use Rattle.laws_queue.specs.Well.{Lives, bit, occurs, is_at, counts, IsQueue}
use Rattle.laws_queue.proofs.Lists.{some_same, number_of, equal_number}
use Rattle.laws_queue.proofs.Lining.{bit_one}
use Rattle.laws_queue.proofs.Numbers.{found_changed}

other_of : (a b n : ℕ) → (a == n) ≡ false → b ≡ n → (a == b) ≡ false
other_of a b n e f = grind (arith, nat_tests)

module _ {V : Type 0} (view : V) where
  pub lives_running : (p : Program V) (who : ℕ) (cs : List (Coroutine V)) → p.real view ≡ true → Lives p cs → Lives p (change (is_coroutine who) (as_running view) cs)
  lives_running p who [] r l = tt
  lives_running p who (x ∷ cs) r l = at (is_coroutine who x) (lives_running p who cs r l.1)
    where
      at : (b : Bool) → Lives p (change (is_coroutine who) (as_running view) cs) → Lives p (cond b (as_running view x ∷ cs) (x ∷ change (is_coroutine who) (as_running view) cs))
      at true rest = (record { real = r; some = λ e. cc }, l.1)
      at false rest = (l.0, rest)

  -- of another number the same is seen
  at_other : (who n : ℕ) (cs : List (Coroutine V)) → (who == n) ≡ false → is_at is_answered (change (is_coroutine who) (as_running view) cs) n ≡ is_at is_answered cs n
  at_other who n [] e = refl
  at_other who n (x ∷ cs) e = at (is_coroutine who x) refl (at_other who n cs e)
    where
      at : (b : Bool) → is_coroutine who x ≡ b → is_at is_answered (change (is_coroutine who) (as_running view) cs) n ≡ is_at is_answered cs n → is_at is_answered (cond b (as_running view x ∷ cs) (x ∷ change (is_coroutine who) (as_running view) cs)) n ≡ is_at is_answered (x ∷ cs) n
      at true i rest =
          let same : x.number ≡ who = number_of x.number who i in
          let no : (x.number == n) ≡ false = ap (λ k. k == n) same ∙ e in
          rw no refl
      at false i rest = pick (x.number == n)
        where
          pick : (b : Bool) → if_some (cond b (Some x) (find (is_coroutine n) (change (is_coroutine who) (as_running view) cs))) false (λ d. is_answered d.mode) ≡ if_some (cond b (Some x) (find (is_coroutine n) cs)) false (λ d. is_answered d.mode)
          pick true = refl
          pick false = rest

  counts_running : (who : ℕ) (c : Coroutine V) (cs : List (Coroutine V)) → find (is_coroutine who) cs ≡ Some c → is_answered c.mode ≡ true → counts is_answered cs ≡ 1 + counts is_answered (change (is_coroutine who) (as_running view) cs)
  counts_running who c [] e f = cc
  counts_running who c (x ∷ cs) e f = at (is_coroutine who x) e (counts_running who c cs)
    where
      at : (b : Bool) → cond b (Some x) (find (is_coroutine who) cs) ≡ Some c → (find (is_coroutine who) cs ≡ Some c → is_answered c.mode ≡ true → counts is_answered cs ≡ 1 + counts is_answered (change (is_coroutine who) (as_running view) cs)) → counts is_answered (x ∷ cs) ≡ 1 + counts is_answered (cond b (as_running view x ∷ cs) (x ∷ change (is_coroutine who) (as_running view) cs))
      at true g rest =
          let one : bit (is_answered x.mode) ≡ 1 = ap (λ y. bit (is_answered y.mode)) (some_same x c g) ∙ ap bit f in
          omega (arith, one)
      at false g rest = let r = rest g f in omega (arith, r)

answer_there : {V : Type 0} (o : Option (Coroutine V)) → if_some o false (λ c. is_answered c.mode) ≡ true → (c : Coroutine V) × (o ≡ Some c) × (is_answered c.mode ≡ true)
answer_there None e = cc
answer_there (Some c) e = (c, refl, e)

module _ {V : Type 0} where
  -- the first of the queue has an answer
  pub first_there : (who : ℕ) (rest : List ℕ) (cs : List (Coroutine V)) → IsQueue (who ∷ rest) cs → (c : Coroutine V) × (find (is_coroutine who) cs ≡ Some c) × (is_answered c.mode ≡ true)
  first_there who rest cs q =
      let self : bit (who == who) ≡ 1 = ap bit (equal_number who who refl) in
      let once = q.once who in
      answer_there (find (is_coroutine who) cs) (bit_one (is_at is_answered cs who) (occurs who rest) (omega (arith, self, once)))

  rest_once : (view : V) (who n : ℕ) (rest : List ℕ) (cs : List (Coroutine V)) (c : Coroutine V) (t : Bool) → (who == n) ≡ t → find (is_coroutine who) cs ≡ Some c → is_answered c.mode ≡ true → IsQueue (who ∷ rest) cs → occurs n rest ≡ bit (is_at is_answered (change (is_coroutine who) (as_running view) cs) n)
  rest_once view who n rest cs c true e f g q =
      let same : who ≡ n = number_of who n e in
      let now : is_at is_answered (change (is_coroutine who) (as_running view) cs) n ≡ false = subst (λ k. is_at is_answered (change (is_coroutine who) (as_running view) cs) k ≡ false) same (ap (λ o. if_some o false (λ d. is_answered d.mode)) (found_changed (is_coroutine who) (as_running view) c cs (λ d. refl) f)) in
      let was : is_at is_answered cs n ≡ true = subst (λ k. is_at is_answered cs k ≡ true) same (ap (λ o. if_some o false (λ d. is_answered d.mode)) f ∙ g) in
      let one : bit (who == n) ≡ 1 = ap bit e in
      let before : bit (is_at is_answered cs n) ≡ 1 = ap bit was in
      let after : bit (is_at is_answered (change (is_coroutine who) (as_running view) cs) n) ≡ 0 = ap bit now in
      let once = q.once n in
      omega (arith, one, before, after, once)
  rest_once view who n rest cs c false e f g q =
      let nought : bit (who == n) ≡ 0 = ap bit e in
      let same : bit (is_at is_answered (change (is_coroutine who) (as_running view) cs) n) ≡ bit (is_at is_answered cs n) = ap bit (at_other view who n cs e) in
      let once = q.once n in
      omega (arith, nought, same, once)

  -- without it the rest is the queue of those who still have one
  pub queue_rest : (view : V) (who : ℕ) (rest : List ℕ) (cs : List (Coroutine V)) (c : Coroutine V) → find (is_coroutine who) cs ≡ Some c → is_answered c.mode ≡ true → IsQueue (who ∷ rest) cs → IsQueue rest (change (is_coroutine who) (as_running view) cs)
  queue_rest view who rest cs c f g q = record {
    once = λ n. rest_once view who n rest cs c (who == n) refl f g q;
    all = let k = counts_running view who c cs f g in let a = q.all in omega (arith, k, a);
  }
