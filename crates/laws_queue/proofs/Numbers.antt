-- Coroutines by number: how their numbers rise, and who is found.
use Rattle.std.proofs.Common.{◌≡◌, ◌∙◌, ◌<◌, ◌≤◌, ℕ, List, [], ◌∷◌, ◌++◌, find, Bool, true, false, cond, Some, refl, sym, ap, subst, arith}
use Rattle.dill_base.specs.Maps.{change, without}
use Rattle.dill_rules.specs.declared.coroutine.Coroutine.{Coroutine}
use Rattle.dill_rules.specs.World.{is_coroutine}
use Rattle.laws_queue.specs.Well.{Numbered}
use Rattle.laws_queue.proofs.Lists.{some_same, number_of, found_passes}

-- what is changed is found again
pub found_changed : {X : Type 0} (pick : X → Bool) (f : X → X) (c : X) (xs : List X) → ((x : X) → pick (f x) ≡ pick x) → find pick xs ≡ Some c → find pick (change pick f xs) ≡ Some (f c)
found_changed pick f c [] k e = cc
found_changed pick f c (x ∷ xs) k e = at (pick x) refl e (λ g. found_changed pick f c xs k g)
  where
    at : (found : Bool) → pick x ≡ found → cond found (Some x) (find pick xs) ≡ Some c → (find pick xs ≡ Some c → find pick (change pick f xs) ≡ Some (f c)) → find pick (cond found (f x ∷ xs) (x ∷ change pick f xs)) ≡ Some (f c)
    at true i g rest = rw (k x ∙ i) (ap (λ y. Some (f y)) (some_same x c g))
    at false i g rest = rw i (rest g)

-- what is found in front is found in the whole
pub find_append : {X : Type 0} (pick : X → Bool) (xs ys : List X) (c : X) → find pick xs ≡ Some c → find pick (xs ++ ys) ≡ Some c
find_append pick [] ys c e = cc
find_append pick (x ∷ xs) ys c e = at (pick x) e (find_append pick xs ys c)
  where
    at : (found : Bool) → cond found (Some x) (find pick xs) ≡ Some c → (find pick xs ≡ Some c → find pick (xs ++ ys) ≡ Some c) → cond found (Some x) (find pick (xs ++ ys)) ≡ Some c
    at true f rest = f
    at false f rest = rest f

module _ {V : Type 0} where
  -- a bound below
  pub numbered_from : (cs : List (Coroutine V)) (low less high : ℕ) → less ≤ low → Numbered low cs high → Numbered less cs high
  numbered_from [] low less high e h = omega (arith, e, h)
  numbered_from (c ∷ cs) low less high e h = (omega (arith, e, h.0), h.1)

  -- a change that keeps numbers
  pub numbered_change : (pick : Coroutine V → Bool) (g : Coroutine V → Coroutine V) (cs : List (Coroutine V)) (low high : ℕ) → ((c : Coroutine V) → (g c).number ≡ c.number) → Numbered low cs high → Numbered low (change pick g cs) high
  numbered_change pick g [] low high k h = h
  numbered_change pick g (c ∷ cs) low high k h = at (pick c) (numbered_change pick g cs c.number high k h.1)
    where
      at : (found : Bool) → Numbered c.number (change pick g cs) high → Numbered low (cond found (g c ∷ cs) (c ∷ change pick g cs)) high
      at true rest = (subst (λ n. low < n) (sym (k c)) h.0, subst (λ n. Numbered n cs high) (sym (k c)) h.1)
      at false rest = (h.0, rest)

  pub numbered_without : (pick : Coroutine V → Bool) (cs : List (Coroutine V)) (low high : ℕ) → Numbered low cs high → Numbered low (without pick cs) high
  numbered_without pick [] low high h = h
  numbered_without pick (c ∷ cs) low high h = at (pick c) (numbered_without pick cs c.number high h.1)
    where
      at : (found : Bool) → Numbered c.number (without pick cs) high → Numbered low (cond found cs (c ∷ without pick cs)) high
      at true rest = numbered_from cs c.number low high (let l = h.0 in omega (arith, l)) h.1
      at false rest = (h.0, rest)

  pub numbered_append : (c : Coroutine V) (cs : List (Coroutine V)) (low high : ℕ) → Numbered low cs high → high < c.number → Numbered low (cs ++ c ∷ []) c.number
  numbered_append c [] low high h l = (omega (arith, h, l), omega arith)
  numbered_append c (x ∷ cs) low high h l = (h.0, numbered_append c cs x.number high h.1 l)

  -- who is found has a number above the bound
  pub above : (low high : ℕ) (test : Coroutine V → Bool) (cs : List (Coroutine V)) (c : Coroutine V) → find test cs ≡ Some c → Numbered low cs high → low < c.number
  above low high test [] c e h = cc
  above low high test (x ∷ cs) c e h = at (test x) e (λ f. above x.number high test cs c f h.1)
    where
      at : (t : Bool) → cond t (Some x) (find test cs) ≡ Some c → (find test cs ≡ Some c → x.number < c.number) → low < c.number
      at true f rest = let it = some_same x c f in subst (λ d. low < d.number) it h.0
      at false f rest = let r = rest f in let l = h.0 in omega (arith, l, r)

-- where a coroutine is found by its number, it has it
pub found_number : {V : Type 0} (who : ℕ) (cs : List (Coroutine V)) (c : Coroutine V) → find (is_coroutine who) cs ≡ Some c → c.number ≡ who
found_number who cs c e = number_of c.number who (found_passes (is_coroutine who) cs c e)
