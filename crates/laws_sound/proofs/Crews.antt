-- The coroutines of a list by their numbers, after each change.
use Rattle.std.proofs.Common.{◌≡◌, ◌∙◌, ℕ, ◌<◌, ◌≤◌, ◌==◌, List, [], ◌∷◌, length, map, find, Bool, true, false, cond, Some, None, refl, sym, ap, subst, arith}
use Rattle.std.proofs.lemmas.Bool.Decides.{nat_tests}
use Rattle.dill_base.specs.Maps.{if_some, change, without}
use Rattle.dill_rules.specs.declared.coroutine.Coroutine.{Coroutine}
use Rattle.dill_rules.specs.declared.coroutine.Mode.{Mode}
use Rattle.dill_rules.specs.World.{is_coroutine}
use Rattle.laws_queue.specs.Well.{Numbered, is_at}
use Rattle.laws_queue.proofs.Answered.{none_below}

module _ {V : Type 0} where
  -- a change that leaves the numbers
  module _ (f : Coroutine V → Coroutine V) (same : (c : Coroutine V) → (f c).number ≡ c.number) where
    pub change_numbers : (who : ℕ) (cs : List (Coroutine V)) → map (λ c. c.number) (change (is_coroutine who) f cs) ≡ map (λ c. c.number) cs
    change_numbers who [] = refl
    change_numbers who (c ∷ cs) = at (is_coroutine who c) (change_numbers who cs)
      where
        at : (t : Bool) → map (λ d. d.number) (change (is_coroutine who) f cs) ≡ map (λ d. d.number) cs → map (λ d. d.number) (cond t (f c ∷ cs) (c ∷ change (is_coroutine who) f cs)) ≡ c.number ∷ map (λ d. d.number) cs
        at true r = ap (λ n. n ∷ map (λ d. d.number) cs) (same c)
        at false r = ap (λ ns. c.number ∷ ns) r

    pub change_here : (who : ℕ) (cs : List (Coroutine V)) (c : Coroutine V) → find (is_coroutine who) cs ≡ Some c → find (is_coroutine who) (change (is_coroutine who) f cs) ≡ Some (f c)
    change_here who [] c e = cc
    change_here who (x ∷ cs) c e = at (is_coroutine who x) refl e (change_here who cs c)
      where
        at : (t : Bool) → is_coroutine who x ≡ t → cond t (Some x) (find (is_coroutine who) cs) ≡ Some c → (find (is_coroutine who) cs ≡ Some c → find (is_coroutine who) (change (is_coroutine who) f cs) ≡ Some (f c)) → find (is_coroutine who) (cond t (f x ∷ cs) (x ∷ change (is_coroutine who) f cs)) ≡ Some (f c)
        at true g h rest =
            let it : x ≡ c = cc in
            let there : ((f x).number == who) ≡ true = ap (λ n. n == who) (same x) ∙ g in
            rw there (ap (λ d. Some (f d)) it)
        at false g h rest = rw g (rest h)

    pub change_other : (who other : ℕ) (cs : List (Coroutine V)) → (other ≡ who → ⊥) → find (is_coroutine other) (change (is_coroutine who) f cs) ≡ find (is_coroutine other) cs
    change_other who other [] ne = refl
    change_other who other (x ∷ cs) ne = at (is_coroutine who x) (is_coroutine other x) refl refl (change_other who other cs ne)
      where
        at : (t u : Bool) → is_coroutine who x ≡ t → is_coroutine other x ≡ u → find (is_coroutine other) (change (is_coroutine who) f cs) ≡ find (is_coroutine other) cs → find (is_coroutine other) (cond t (f x ∷ cs) (x ∷ change (is_coroutine who) f cs)) ≡ cond u (Some x) (find (is_coroutine other) cs)
        at true true g h rest = let e : other ≡ who = grind (arith, nat_tests) in absurd (ne e)
        at true false g h rest = let there : ((f x).number == other) ≡ false = ap (λ n. n == other) (same x) ∙ h in rw there refl
        at false true g h rest = rw h refl
        at false false g h rest = rw h rest

    pub change_length : (who : ℕ) (cs : List (Coroutine V)) → length (change (is_coroutine who) f cs) ≡ length cs
    change_length who [] = refl
    change_length who (c ∷ cs) = at (is_coroutine who c) (change_length who cs)
      where
        at : (t : Bool) → length (change (is_coroutine who) f cs) ≡ length cs → length (cond t (f c ∷ cs) (c ∷ change (is_coroutine who) f cs)) ≡ length (c ∷ cs)
        at true r = omega arith
        at false r = omega (arith, r)

    pub map_numbers : (cs : List (Coroutine V)) → map (λ c. c.number) (map f cs) ≡ map (λ c. c.number) cs
    map_numbers [] = refl
    map_numbers (c ∷ cs) = cc (same c, map_numbers cs)

    pub map_numbered : (cs : List (Coroutine V)) (low high : ℕ) → Numbered low cs high → Numbered low (map f cs) high
    map_numbered [] low high n = n
    map_numbered (c ∷ cs) low high n = (subst (λ k. low < k) (sym (same c)) n.0, subst (λ k. Numbered k (map f cs) high) (sym (same c)) (map_numbered cs c.number high n.1))

    pub map_length : (cs : List (Coroutine V)) → length (map f cs) ≡ length cs
    map_length [] = refl
    map_length (c ∷ cs) = let r = map_length cs in omega (arith, r)

    -- a test of modes that the change leaves
    pub map_at : (test : Mode → Bool) → ((c : Coroutine V) → test (f c).mode ≡ test c.mode) → (cs : List (Coroutine V)) (n : ℕ) → is_at test (map f cs) n ≡ is_at test cs n
    map_at test keeps [] n = refl
    map_at test keeps (c ∷ cs) n = at (is_coroutine n c) refl (map_at test keeps cs n)
      where
        at : (t : Bool) → is_coroutine n c ≡ t → is_at test (map f cs) n ≡ is_at test cs n → if_some (find (is_coroutine n) (f c ∷ map f cs)) false (λ d. test d.mode) ≡ if_some (cond t (Some c) (find (is_coroutine n) cs)) false (λ d. test d.mode)
        at true g r = let there : ((f c).number == n) ≡ true = ap (λ k. k == n) (same c) ∙ g in rw there (keeps c)
        at false g r = let there : ((f c).number == n) ≡ false = ap (λ k. k == n) (same c) ∙ g in rw there r

  -- nobody of a number is there twice
  pub gone_without : (who : ℕ) (cs : List (Coroutine V)) (low high : ℕ) → Numbered low cs high → find (is_coroutine who) (without (is_coroutine who) cs) ≡ None
  gone_without who [] low high n = refl
  gone_without who (c ∷ cs) low high n = at (is_coroutine who c) refl (gone_without who cs c.number high n.1)
    where
      at : (t : Bool) → is_coroutine who c ≡ t → find (is_coroutine who) (without (is_coroutine who) cs) ≡ None → find (is_coroutine who) (cond t cs (c ∷ without (is_coroutine who) cs)) ≡ None
      at true e r = let l : who ≤ c.number = grind (arith, nat_tests) in none_below cs c.number high who n.1 l
      at false e r = rw e r

  pub other_without : (who other : ℕ) (cs : List (Coroutine V)) → (other ≡ who → ⊥) → find (is_coroutine other) (without (is_coroutine who) cs) ≡ find (is_coroutine other) cs
  other_without who other [] ne = refl
  other_without who other (x ∷ cs) ne = at (is_coroutine who x) (is_coroutine other x) refl refl (other_without who other cs ne)
    where
      at : (t u : Bool) → is_coroutine who x ≡ t → is_coroutine other x ≡ u → find (is_coroutine other) (without (is_coroutine who) cs) ≡ find (is_coroutine other) cs → find (is_coroutine other) (cond t cs (x ∷ without (is_coroutine who) cs)) ≡ cond u (Some x) (find (is_coroutine other) cs)
      at true true g h rest = let e : other ≡ who = grind (arith, nat_tests) in absurd (ne e)
      at true false g h rest = refl
      at false true g h rest = rw h refl
      at false false g h rest = rw h rest
