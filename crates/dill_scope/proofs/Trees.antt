-- The tree of a bundle rises, and lists exactly those inside.
use Rattle.std.proofs.Common.{◌≡◌, ℕ, Bool, true, false, ◌⊎◌, inl, inr, refl, sym, ap, ◌∙◌, subst, cond, List, [], ◌∷◌, Option, Some, None}
use Rattle.std.specs.Prelude.{Contains, filter, find, map, option_map}
use Rattle.std.proofs.lemmas.List.Elements.{All-contains, filter_passes}
use Rattle.std.proofs.lemmas.List.Kept.{IsStrictlyIncreasing-filter}
use Rattle.dill_scope.specs.declared.forest.Home.{Home}
use Rattle.dill_scope.specs.Scopes.{Scopes, is_home, is_inside, tree}
use Rattle.dill_scope.specs.Forest.{Inside}
use Rattle.dill_scope.specs.Keeping.{IsOrderedForest, TreeListsInside}
use Rattle.dill_scope.proofs.Carrying.{inside_lives}
use Rattle.dill_scope.proofs.Chains.{search_is_inside}
use Rattle.dill_scope.proofs.Elements.{contains_none, contains_cons, contains_here, contains_there}
use Rattle.dill_scope.proofs.Numbered.{found_in, found_number}

mapped_cons : (x : Home) (xs : List Home) (y : Home) → (x ≡ y) ⊎ Contains xs y → (Contains xs y → Contains (map (λ z. z.who) xs) y.who) → Contains (x.who ∷ map (λ z. z.who) xs) y.who
mapped_cons x xs y (inl e) rest = rw (← e) (contains_here x.who (map (λ z. z.who) xs))
mapped_cons x xs y (inr c) rest = contains_there x.who (map (λ z. z.who) xs) y.who (rest c)

mapped : (xs : List Home) (y : Home) → Contains xs y → Contains (map (λ z. z.who) xs) y.who
mapped [] y c = absurd (contains_none y c)
mapped (x ∷ xs) y c = mapped_cons x xs y (contains_cons x xs y c) (mapped xs y)

module _ (test : ℕ → Bool) where
  passed_cons : (x : ℕ) (xs : List ℕ) (y : ℕ) (b : Bool) → test x ≡ b → test y ≡ true → (x ≡ y) ⊎ Contains xs y → (Contains xs y → Contains (filter test xs) y) → Contains (cond b (x ∷ filter test xs) (filter test xs)) y
  passed_cons x xs y true t e (inl s) rest = rw (← s) (contains_here x (filter test xs))
  passed_cons x xs y true t e (inr c) rest = contains_there x (filter test xs) y (rest c)
  passed_cons x xs y false t e (inl s) rest = let h : false ≡ true = sym t ∙ ap test s ∙ e in cc
  passed_cons x xs y false t e (inr c) rest = rest c

  passed : (xs : List ℕ) (y : ℕ) → test y ≡ true → Contains xs y → Contains (filter test xs) y
  passed [] y e c = absurd (contains_none y c)
  passed (x ∷ xs) y e c = passed_cons x xs y (test x) refl e (contains_cons x xs y c) (passed xs y e)

found_home : (o : Option Home) (home : ℕ) → option_map (λ x. x.bundle) o ≡ Some home → (x : Home) × (o ≡ Some x)
found_home None home e = cc
found_home (Some x) home e = (x, refl)

module _ (s : Scopes) (name : ℕ) (f : IsOrderedForest s) where
  abbrev numbers : List ℕ
  numbers = map (λ x. x.who) s.homes

  listed : (who : ℕ) → Contains (tree s name) who → Inside s name who
  listed who c = (search_is_inside s name who f.forest).0 (All-contains (λ n. is_inside s name n ≡ true) (tree s name) who (filter_passes (is_inside s name) numbers) c)

  lists : (who : ℕ) → Inside s name who → Contains (tree s name) who
  lists who i =
      let home = inside_lives s name i in
      let x = found_home (find (is_home who) s.homes) home.0 home.1 in
      let c : Contains numbers x.0.who = mapped s.homes x.0 (found_in (λ y. y.who) who s.homes x.0 x.1) in
      let same : x.0.who ≡ who = found_number (λ y. y.who) who s.homes x.0 x.1 in
      passed (is_inside s name) numbers who ((search_is_inside s name who f.forest).1 i) (subst (Contains numbers) same c)

pub tree_lists : TreeListsInside
tree_lists s name f = record {
  rises = IsStrictlyIncreasing-filter (is_inside s name) (map (λ x. x.who) s.homes) f.ordered.homes;
  lists = λ who. (listed s name f who, lists s name f who);
}
