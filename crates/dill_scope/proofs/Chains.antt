-- No chain of parents is longer than there are coroutines, so the search goes far enough.
use Rattle.std.proofs.Common.{◌≡◌, ℕ, zero, suc, ◌+◌, ◌-◌, ◌==◌, ◌≤◌, ◌<◌, ◌⊎◌, Bool, true, false, ◌||◌, ◌&&◌, List, [], ◌∷◌, length, refl, sym, ap, ◌∙◌, subst, cond, Option, Some, None, arith, eq-eqb, inl, inr}
use Rattle.std.proofs.lemmas.Bool.{and_parts, or_right, or_cases}
use Rattle.std.specs.Prelude.{find, option_map, option_and_then}
use Rattle.std.proofs.lemmas.Bool.Decides.{Decides-eqb}
use Rattle.std.proofs.lemmas.List.Folds.{Any-from_list_any, list_any-from_Any}
use Rattle.dill_base.specs.Maps.{if_some, without}
use Rattle.dill_scope.specs.declared.forest.Home.{Home}
use Rattle.dill_scope.specs.declared.forest.Bundle.{Bundle}
use Rattle.dill_scope.specs.Scopes.{Scopes, is_home, home_of, owner_of, parent, inside_within, is_inside}
use Rattle.dill_scope.specs.Forest.{Inside, lives, under, Rooted, at_root, below, IsForest, SearchIsInside, SearchIsCancelled}

or_left : (b : Bool) → true || b ≡ true
or_left b = refl

-- what one look at a coroutine tells
home_holds : (o : Option ℕ) (name : ℕ) → o ≡ Some name → if_some o false (λ home. home == name) ≡ true
home_holds o name e = rw e (eq-eqb name name refl)

home_told : (o : Option ℕ) (name : ℕ) → if_some o false (λ home. home == name) ≡ true → o ≡ Some name
home_told None name e = cc
home_told (Some home) name e = ap (λ n. Some n) ((Decides-eqb home name).0 e)

parent_holds : (f : ℕ → Bool) (o : Option ℕ) (above : ℕ) → o ≡ Some above → f above ≡ true → if_some o false f ≡ true
parent_holds f o above e h = rw e h

parent_told : (f : ℕ → Bool) (o : Option ℕ) → if_some o false f ≡ true → (above : ℕ) × (o ≡ Some above) × (f above ≡ true)
parent_told f None e = cc
parent_told f (Some above) e = (above, refl, e)

module _ (s : Scopes) (name : ℕ) where
  -- who is found is inside
  pub found_inside : (k who : ℕ) → inside_within k s name who ≡ true → Inside s name who
  found_inside zero who e = cc
  found_inside (suc k) who e =
      elim (or_cases (if_some (home_of s who) false (λ home. home == name)) (if_some (parent s who) false (inside_within k s name)) e) [
        | inl h ↦ lives (home_told (home_of s who) name h)
        | inr h ↦ let r = parent_told (inside_within k s name) (parent s who) h in under r.0 r.1 (found_inside k r.0 r.2)
      ]

  within_home : (k who : ℕ) → home_of s who ≡ Some name → inside_within (suc k) s name who ≡ true
  within_home k who e =
      rw (home_holds (home_of s who) name e) (or_left (if_some (parent s who) false (inside_within k s name)))

  within_parent : (k who above : ℕ) → parent s who ≡ Some above → inside_within k s name above ≡ true → inside_within (suc k) s name who ≡ true
  within_parent k who above e h =
      or_right (if_some (home_of s who) false (λ home. home == name)) (if_some (parent s who) false (inside_within k s name)) (parent_holds (inside_within k s name) (parent s who) above e h)

  grows : (k who : ℕ) → inside_within k s name who ≡ true → inside_within (suc k) s name who ≡ true
  grows zero who e = cc
  grows (suc k) who e =
      elim (or_cases (if_some (home_of s who) false (λ home. home == name)) (if_some (parent s who) false (inside_within k s name)) e) [
        | inl h ↦ within_home (suc k) who (home_told (home_of s who) name h)
        | inr h ↦
            let r = parent_told (inside_within k s name) (parent s who) h in
            within_parent (suc k) who r.0 r.1 (grows k r.0 r.2)
      ]

  more : (j k who : ℕ) → inside_within k s name who ≡ true → inside_within (j + k) s name who ≡ true
  more zero k who e = let z : 0 + k ≡ k = omega arith in rw z e
  more (suc j) k who e = let z : suc j + k ≡ suc (j + k) = omega arith in rw z (grows (j + k) who (more j k who e))

-- how many parents stand above a coroutine
height : {s : Scopes} {who : ℕ} → Rooted s who → ℕ
height (at_root e) = 0
height (below above e r) = suc (height r)

module _ (s : Scopes) (root : owner_of s 0 ≡ None) where
  no_parent : (who : ℕ) → home_of s who ≡ Some 0 → parent s who ≡ None
  no_parent who e = rw e root

  one_height : {who : ℕ} (a b : Rooted s who) → height a ≡ height b
  unfolding height
  one_height (at_root e) (at_root f) = refl
  one_height {who} (at_root e) (below above f r) = let n = no_parent who e in cc
  one_height {who} (below above e q) (at_root f) = let n = no_parent who f in cc
  one_height (below a e q) (below b f r) =
      let same : a ≡ b = cc in
      let P : ℕ → Type 0 = λ x. (y : Rooted s x) → height q ≡ height y in
      ap suc (subst P same (one_height q) r)

  -- coroutines that are there, each with fewer parents than the one before
  Falling : ℕ → List ℕ → Type 0
  Falling high [] = Unit {0}
  Falling high (m ∷ ms) = (r : Rooted s m) × (height r < high) × Falling (height r) ms

AllFound : List ℕ → List Home → Type 0
AllFound [] homes = Unit {0}
AllFound (m ∷ ms) homes = ((x : Home) × (find (is_home m) homes ≡ Some x)) × AllFound ms homes

other_cons : (n m : ℕ) (x c : Home) (xs : List Home) (t u : Bool) → is_home n x ≡ t → is_home m x ≡ u → (m ≡ n → ⊥) → cond u (Some x) (find (is_home m) xs) ≡ Some c → (find (is_home m) xs ≡ Some c → (d : Home) × (find (is_home m) (without (is_home n) xs) ≡ Some d)) → (d : Home) × (find (is_home m) (cond t xs (x ∷ without (is_home n) xs)) ≡ Some d)
other_cons n m x c xs true true it is ne e rest = absurd (ne (sym ((Decides-eqb x.who m).0 is) ∙ (Decides-eqb x.who n).0 it))
other_cons n m x c xs true false it is ne e rest = (c, e)
other_cons n m x c xs false true it is ne e rest = (x, rw is refl)
other_cons n m x c xs false false it is ne e rest = let r = rest e in (r.0, rw is r.1)

-- who is there is there without another
other : (n m : ℕ) (homes : List Home) (c : Home) → (m ≡ n → ⊥) → find (is_home m) homes ≡ Some c → (d : Home) × (find (is_home m) (without (is_home n) homes) ≡ Some d)
other n m [] c ne e = cc
other n m (x ∷ xs) c ne e = other_cons n m x c xs (is_home n x) (is_home m x) refl refl ne e (other n m xs c ne)

shorter_cons : (n : ℕ) (x c : Home) (xs : List Home) (t : Bool) → cond t (Some x) (find (is_home n) xs) ≡ Some c → (find (is_home n) xs ≡ Some c → length (without (is_home n) xs) + 1 ≡ length xs) → length (cond t xs (x ∷ without (is_home n) xs)) + 1 ≡ length (x ∷ xs)
shorter_cons n x c xs true e rest = omega arith
shorter_cons n x c xs false e rest = omega (arith, rest e)

shorter : (n : ℕ) (homes : List Home) (c : Home) → find (is_home n) homes ≡ Some c → length (without (is_home n) homes) + 1 ≡ length homes
shorter n [] c e = cc
shorter n (x ∷ xs) c e = shorter_cons n x c xs (is_home n x) e (shorter n xs c)

module _ (s : Scopes) (root : owner_of s 0 ≡ None) where
  still_found : (n high : ℕ) (at : Rooted s n) (ms : List ℕ) (homes : List Home) → high ≤ height at → Falling s root high ms → AllFound ms homes → AllFound ms (without (is_home n) homes)
  unfolding Falling AllFound
  still_found n high at [] homes l f h = tt
  still_found n high at (m ∷ ms) homes l (r, lower, rest) h =
      let P : ℕ → Type 0 = λ x. (y : Rooted s x) → height r ≡ height y in (
        other n m homes h.0.0 (λ e. let same : height r ≡ height at = subst P e (one_height s root r) at in absurd (omega arith)) h.0.1,
        still_found n (height r) at ms homes (omega arith) rest h.1,
      )

  few : (high : ℕ) (ms : List ℕ) (homes : List Home) → Falling s root high ms → AllFound ms homes → length ms ≤ length homes
  unfolding Falling AllFound
  few high [] homes f h = omega arith
  few high (m ∷ ms) homes (r, lower, rest) h =
      let others = few (height r) ms (without (is_home m) homes) rest (still_found m (height r) r ms homes (omega arith) rest h.1) in
      omega (arith, others, shorter m homes h.0.0 h.0.1)

home_there : (who : ℕ) (homes : List Home) (name : ℕ) → option_map (λ x. x.bundle) (find (is_home who) homes) ≡ Some name → (x : Home) × (find (is_home who) homes ≡ Some x)
home_there who homes name e = there (find (is_home who) homes) e where
  there : (o : Option Home) → option_map (λ x. x.bundle) o ≡ Some name → (x : Home) × (o ≡ Some x)
  there None e = cc
  there (Some x) e = (x, refl)

parent_home : (s : Scopes) (o : Option ℕ) (above : ℕ) → option_and_then (owner_of s) o ≡ Some above → (name : ℕ) × (o ≡ Some name)
parent_home s None above e = cc
parent_home s (Some name) above e = (name, refl)

inside_home : (s : Scopes) (name : ℕ) {who : ℕ} → Inside s name who → (home : ℕ) × (home_of s who ≡ Some home)
inside_home s name (lives e) = (name, e)
inside_home s name {who} (under above e i) = parent_home s (home_of s who) above e

module _ (s : Scopes) (forest : IsForest s) (name : ℕ) where
  record Path (who : ℕ) (at : Rooted s who) : Type 0 where
    rest : List ℕ
    falls : Falling s forest.root (height at) rest
    found : AllFound (who ∷ rest) s.homes
    reach : inside_within (suc (length rest)) s name who ≡ true

  path : {who : ℕ} → Inside s name who → (at : Rooted s who) → Path who at
  unfolding Falling AllFound height
  path {who} (lives e) at = record {
    rest = [];
    falls = tt;
    found = (home_there who s.homes name e, tt);
    reach = within_home s name 0 who e;
  }
  path {who} (under above e i) at =
      let home = parent_home s (home_of s who) above e in
      let next = inside_home s name i in
      let up : Rooted s above = forest.rooted above next.0 next.1 in
      let falls : height at ≡ suc (height up) = one_height s forest.root at (below above e up) in
      let r = path i up in
      record {
        rest = above ∷ r.rest;
        falls = (up, omega arith, r.falls);
        found = (home_there who s.homes home.0 home.1, r.found);
        reach = within_parent s name (suc (length r.rest)) who above e r.reach;
      }

pub inside_found : (s : Scopes) (name who : ℕ) → IsForest s → Inside s name who → is_inside s name who ≡ true
unfolding Falling AllFound height
inside_found s name who forest i =
    let home = inside_home s name i in
    let at : Rooted s who = forest.rooted who home.0 home.1 in
    let r = path s forest name i at in
    let short : suc (length r.rest) ≤ length s.homes = few s forest.root (suc (height at)) (who ∷ r.rest) s.homes (at, omega arith, r.falls) r.found in
    let e : (length s.homes - suc (length r.rest)) + suc (length r.rest) ≡ length s.homes = omega arith in
    subst (λ k. inside_within k s name who ≡ true) e (more s name (length s.homes - suc (length r.rest)) (suc (length r.rest)) who r.reach)

pub search_is_inside : SearchIsInside
search_is_inside s name who forest = (found_inside s name (length s.homes) who, inside_found s name who forest)

abbrev is_closing_over : Scopes → ℕ → Bundle → Bool
is_closing_over s who x = x.closing && is_inside s x.name who

pub search_is_cancelled : SearchIsCancelled
search_is_cancelled s who forest = (
  λ e.
      let (k, x, short, at, holds) = Any-from_list_any (is_closing_over s who) s.bundles e in
      let both = and_parts x.closing (is_inside s x.name who) holds in
      record { closed = x; there = (k, short, at); closing = both.0; inside = found_inside s x.name (length s.homes) who both.1 },
  λ c.
      let both : is_closing_over s who c.closed ≡ true = rw (c.closing, inside_found s c.closed.name who forest c.inside) refl in
      list_any-from_Any (is_closing_over s who) s.bundles (c.there.0, c.closed, c.there.1, c.there.2, both),
)
