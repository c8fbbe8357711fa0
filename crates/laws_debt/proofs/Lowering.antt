-- Once the root closes, each turn lowers what is owed.
use Rattle.std.proofs.Common.{◌≡◌, ◌∙◌, ◌+◌, ◌-◌, ◌≤◌, ◌<◌, ◌==◌, ℕ, zero, suc, List, [], ◌∷◌, take, Bool, true, false, if◌then◌else◌, refl, sym, ap, subst, arith}
use Rattle.std.specs.List.{list_any}
use Rattle.std.proofs.lemmas.Bool.Decides.{nat_tests}
use Rattle.dill_calls.specs.declared.word.Word.{Word}
use Rattle.dill_calls.specs.Program.{Program, GoesOn, Lowers}
use Rattle.dill_rules.specs.declared.coroutine.Coroutine.{Coroutine}
use Rattle.dill_rules.specs.declared.coroutine.Mode.{Mode}
use Rattle.dill_rules.specs.declared.coroutine.Mode.TheVariants as modes
use Rattle.dill_rules.specs.Turning.{as_running, given_of}
use Rattle.dill_rules.specs.World.{is_ending, is_answered}
use Rattle.laws_queue.specs.Well.{bit, occurs}
use Rattle.laws_debt.specs.Owed.{share_by}
use Rattle.laws_debt.specs.Says.{SaysIn, LowersIn, IsLowering}

pub less_at : (b e : Bool) (x : ℕ) → e ≡ false → (if b then 0 else x) ≤ (if e then 0 else x)
less_at true false x f = omega arith
less_at false false x f = omega arith
less_at b true x f = cc

answered_goes : (mode : Mode) → is_answered mode ≡ true → is_ending mode ≡ false
answered_goes (modes.Answered word answer) e = refl
answered_goes (modes.Pending call) e = cc
answered_goes modes.Running e = cc
answered_goes (modes.Fresh word answer) e = cc
answered_goes (modes.Ending outcome) e = cc

-- the answer that is given lowers what is left
answer_lowers : (said : Word) (mode : Mode) → is_answered mode ≡ true → SaysIn said mode → LowersIn mode → Lowers said (given_of mode).1
answer_lowers said (modes.Answered word answer) e s l = subst (λ w. Lowers w answer) (sym s) l
answer_lowers said (modes.Pending call) e s l = cc
answer_lowers said modes.Running e s l = cc
answer_lowers said (modes.Fresh word answer) e s l = cc
answer_lowers said (modes.Ending outcome) e s l = cc

-- The first of the queue is given its answer. Of the others the same ones are early.
module _ {V : Type 0} (p : Program V) (early less : ℕ → Bool) (who : ℕ) (gone : less who ≡ false) (same : (n : ℕ) → (n == who) ≡ false → less n ≡ early n) where
  pub others_lower : (x : Coroutine V) → (x.number == who) ≡ false → IsLowering early x → IsLowering less x
  others_lower x i l e = l (sym (same x.number i) ∙ e)

  pub others_share : (x : Coroutine V) → (x.number == who) ≡ false → share_by p less x ≡ share_by p early x
  others_share x i = ap (λ b. if is_ending x.mode then 0 else (if b then 1 + p.most x.body else p.left x.body)) (same x.number i)

  answered_share : (c : Coroutine V) → is_answered c.mode ≡ true → share_by p early c ≡ (if early c.number then 1 + p.most c.body else p.left c.body)
  answered_share c e = ap (λ b. if b then 0 else (if early c.number then 1 + p.most c.body else p.left c.body)) (answered_goes c.mode e)

  running_share : (c : Coroutine V) (view : V) → c.number ≡ who → share_by p less (as_running view c) ≡ p.left view
  running_share c view i = ap (λ n. if less n then 1 + p.most view else p.left view) i ∙ ap (λ b. if b then 1 + p.most view else p.left view) gone

  falls_at : (c : Coroutine V) (view : V) (word : Word) (b : Bool) → early c.number ≡ b → GoesOn p c.body (given_of c.mode).1 word view → (b ≡ false → Lowers (p.said c.body) (given_of c.mode).1) → p.left view < (if b then 1 + p.most c.body else p.left c.body)
  falls_at c view word true i g l = let a = g.within in let s = g.stays in omega (arith, a, s)
  falls_at c view word false i g l = g.lower (l refl)

  -- by a call its share falls
  pub share_falls : (c : Coroutine V) (view : V) (word : Word) → c.number ≡ who → is_answered c.mode ≡ true → SaysIn (p.said c.body) c.mode → IsLowering early c → GoesOn p c.body (given_of c.mode).1 word view → share_by p less (as_running view c) < share_by p early c
  share_falls c view word i e s l g =
      let now = running_share c view i in
      let was = answered_share c e in
      let falls = falls_at c view word (early c.number) refl g (λ f. answer_lowers (p.said c.body) c.mode e s (l f)) in
      let both : (if early c.number then 1 + p.most c.body else p.left c.body) ≡ share_by p early c = sym was in
      subst (λ n. share_by p less (as_running view c) < n) both (subst (λ n. n < (if early c.number then 1 + p.most c.body else p.left c.body)) (sym now) falls)

  some_share : (c : Coroutine V) (b : Bool) → 1 ≤ p.left c.body → 1 ≤ (if b then 1 + p.most c.body else p.left c.body)
  some_share c true l = omega arith
  some_share c false l = l

  -- who has an answer owes something
  pub answered_owes : (c : Coroutine V) → is_answered c.mode ≡ true → 1 ≤ p.left c.body → 1 ≤ share_by p early c
  answered_owes c e l = subst (λ n. 1 ≤ n) (sym (answered_share c e)) (some_share c (early c.number) l)

differ : (a b : ℕ) → (b == a) ≡ false → (a == b) ≡ false
differ a b e = grind (arith, nat_tests)

-- The first of the queue goes: who is early of the rest is early of the others.
module _ (who : ℕ) (rest : List ℕ) where
  absent : (n : ℕ) (xs : List ℕ) (k : ℕ) → occurs n xs ≡ 0 → list_any (λ m. m == n) (take k xs) ≡ false
  absent n xs zero e = refl
  absent n [] (suc k) e = refl
  absent n (x ∷ xs) (suc k) e = at (x == n) refl (absent n xs k)
    where
      at : (b : Bool) → (x == n) ≡ b → (occurs n xs ≡ 0 → list_any (λ m. m == n) (take k xs) ≡ false) → list_any (λ m. m == n) (take (suc k) (x ∷ xs)) ≡ false
      at true i r = absurd (let one : bit (x == n) ≡ 1 = ap bit i in omega (arith, e, one))
      at false i r = let nought : bit (x == n) ≡ 0 = ap bit i in rw i (r (omega (arith, e, nought)))

  pub first_gone : (early : ℕ) → occurs who rest ≡ 0 → list_any (λ m. m == who) (take (early - 1) rest) ≡ false
  first_gone early e = absent who rest (early - 1) e

  pub others_same : (early : ℕ) (n : ℕ) → (n == who) ≡ false → list_any (λ m. m == n) (take (early - 1) rest) ≡ list_any (λ m. m == n) (take early (who ∷ rest))
  others_same zero n e = refl
  others_same (suc k) n e =
      let less : suc k - 1 ≡ k = omega arith in
      let other : (who == n) ≡ false = differ who n e in
      rw (less, other) refl
