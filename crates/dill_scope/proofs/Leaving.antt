-- A coroutine or a bundle that is gone: the forest stays one.
use Rattle.std.proofs.Common.{◌≡◌, ℕ, ◌==◌, Bool, true, false, not, ◌||◌, refl, sym, ap, ◌∙◌, List, [], ◌∷◌, cond, eq-eqb, Option, Some, None}
use Rattle.std.specs.Prelude.{find, option_map, option_and_then}
use Rattle.std.specs.List.{list_any}
use Rattle.dill_scope.specs.declared.forest.Home.{Home}
use Rattle.dill_scope.specs.declared.forest.Bundle.{Bundle}
use Rattle.dill_scope.specs.Scopes.{Scopes, is_home, is_bundle, home_of, owner_of, is_empty, ended, drop_bundle}
use Rattle.dill_scope.specs.Keeping.{IsKnown, IsOrderedForest, Everybody, Others, EndedKeepsForest, DropKeepsForest, EndedMovesNoOther, DropMovesNobody}
use Rattle.dill_scope.proofs.Carrying.{Carries, carry_inside, carry_rooted}
use Rattle.dill_scope.proofs.Numbered.{find_without_other, find_without_same, without_increases}

abbrev owner_found : Option Bundle → Option ℕ
owner_found o = option_and_then (λ x. x.owner) o

abbrev home_found : Option Home → Option ℕ
home_found o = option_map (λ x. x.bundle) o

module _ (s : Scopes) (who : ℕ) (f : IsOrderedForest s) (none : (name : ℕ) → owner_of s name ≡ Some who → ⊥) where
  abbrev left : Scopes
  left = ended s who

  same_home : (other : ℕ) → Others who other → home_of left other ≡ home_of s other
  same_home other ne = ap home_found (find_without_other (λ x. x.who) other who s.homes ne)

  is_gone : (at : ℕ) → home_of left who ≡ Some at → ⊥
  is_gone at h = let n : None ≡ Some at = rw (find_without_same (λ x. x.who) who s.homes f.ordered.homes) at h in cc

  other : (of at : ℕ) → home_of left of ≡ Some at → Others who of
  other of at h same = is_gone at (rw same at h)

  another_owns : (at above : ℕ) → owner_of s at ≡ Some above → Others who above
  another_owns at above e same = none at (rw same at e)

  to_left : Carries s left (Others who)
  to_left = record {
    homes = λ of at p h. same_home of p ∙ h;
    owners = λ of at above p h e. e;
    goes_on = λ of at above p h e. another_owns at above e;
  }

  from_left : Carries left s Everybody
  from_left = record {
    homes = λ of at p h. sym (same_home of (other of at h)) ∙ h;
    owners = λ of at above p h e. e;
    goes_on = λ of at above p h e. tt;
  }

  left_ordered : IsOrderedForest left
  left_ordered = record {
    forest = record {
      outside = λ at above e i. f.forest.outside at above e (carry_inside left s Everybody from_left at tt i);
      rooted = λ of at h.
          let r = f.forest.rooted of at (from_left.homes of at tt h) in
          carry_rooted s left (Others who) to_left (other of at h) r;
      root = f.forest.root;
    };
    ordered = record {
      homes = without_increases (λ x. x.who) who s.homes f.ordered.homes;
      bundles = f.ordered.bundles;
      root = f.ordered.root;
      owned = f.ordered.owned;
      owners = λ at above e. rw (same_home above (another_owns at above e)) (f.ordered.owners at above e);
    };
  }

pub ended_moves_no_other : EndedMovesNoOther
ended_moves_no_other s who f none at other p = (
  carry_inside (ended s who) s Everybody (from_left s who f none) at tt,
  carry_inside s (ended s who) (Others who) (to_left s who f none) at p,
)

pub ended_keeps : EndedKeepsForest
ended_keeps s who f none = left_ordered s who f none

nobody_cons : (name who : ℕ) (x : Home) (xs : List Home) (a b : Bool) → (x.bundle == name) ≡ a → a || list_any (λ x. x.bundle == name) xs ≡ false → home_found (cond b (Some x) (find (is_home who) xs)) ≡ Some name → (list_any (λ x. x.bundle == name) xs ≡ false → home_found (find (is_home who) xs) ≡ Some name → ⊥) → ⊥
nobody_cons name who x xs true b t e h rest = cc
nobody_cons name who x xs false true t e h rest =
    let same : x.bundle ≡ name = cc in
    let h : (x.bundle == name) ≡ true = eq-eqb x.bundle name same in
    cc
nobody_cons name who x xs false false t e h rest = rest e h

nobody_in : (name who : ℕ) (homes : List Home) → list_any (λ x. x.bundle == name) homes ≡ false → home_found (find (is_home who) homes) ≡ Some name → ⊥
nobody_in name who [] e h = cc
nobody_in name who (x ∷ xs) e h = nobody_cons name who x xs (x.bundle == name) (is_home who x) refl e h (nobody_in name who xs)

not_so : (b : Bool) → not b ≡ true → b ≡ false
not_so true e = cc
not_so false e = refl

module _ (s : Scopes) (name : ℕ) (empty : is_empty s name ≡ true) where
  abbrev dropped : Scopes
  dropped = drop_bundle s name

  nobody : (who : ℕ) → home_of s who ≡ Some name → ⊥
  nobody who h = nobody_in name who s.homes (not_so (list_any (λ x. x.bundle == name) s.homes) empty) h

  elsewhere : (who at : ℕ) → home_of s who ≡ Some at → at ≡ name → ⊥
  elsewhere who at h same = nobody who (rw (← same) h)

  same_bundle : (at : ℕ) → (at ≡ name → ⊥) → find (is_bundle at) dropped.bundles ≡ find (is_bundle at) s.bundles
  same_bundle at ne = find_without_other (λ x. x.name) at name s.bundles ne

  same_owner : (at : ℕ) → (at ≡ name → ⊥) → owner_of dropped at ≡ owner_of s at
  same_owner at ne = ap owner_found (same_bundle at ne)

  to_dropped : Carries s dropped Everybody
  to_dropped = record {
    homes = λ who at p h. h;
    owners = λ who at above p h e. same_owner at (elsewhere who at h) ∙ e;
    goes_on = λ who at above p h e. tt;
  }

  from_dropped : Carries dropped s Everybody
  from_dropped = record {
    homes = λ who at p h. h;
    owners = λ who at above p h e. sym (same_owner at (elsewhere who at h)) ∙ e;
    goes_on = λ who at above p h e. tt;
  }

  module _ (f : IsOrderedForest s) (nz : name ≡ 0 → ⊥) where
    no_bundle : find (is_bundle name) dropped.bundles ≡ None
    no_bundle = find_without_same (λ x. x.name) name s.bundles f.ordered.bundles

    another : (at above : ℕ) → owner_of dropped at ≡ Some above → at ≡ name → ⊥
    another at above e same =
        let h : owner_of dropped name ≡ Some above = rw same at e in
        let n : None ≡ Some above = rw no_bundle at h in
        cc

    another_known : (at : ℕ) → IsKnown dropped at → at ≡ name → ⊥
    another_known at k same =
        let h : IsKnown dropped name = rw same at k in
        let n : false ≡ true = rw no_bundle at h in
        cc

    dropped_ordered : IsOrderedForest dropped
    dropped_ordered = record {
      forest = record {
        outside = λ at above e i. f.forest.outside at above (sym (same_owner at (another at above e)) ∙ e) (carry_inside dropped s Everybody from_dropped at tt i);
        rooted = λ who at h. carry_rooted s dropped Everybody to_dropped tt (f.forest.rooted who at h);
        root = same_owner 0 (λ e. nz (sym e)) ∙ f.forest.root;
      };
      ordered = record {
        homes = f.ordered.homes;
        bundles = without_increases (λ x. x.name) name s.bundles f.ordered.bundles;
        root = rw (same_bundle 0 (λ e. nz (sym e))) f.ordered.root;
        owned = λ at no k.
            let ne = another_known at k in
            rw (same_owner at ne) (f.ordered.owned at no (rw (same_bundle at ne) at k));
        owners = λ at above e. f.ordered.owners at above (sym (same_owner at (another at above e)) ∙ e);
      };
    }

pub drop_moves_nobody : DropMovesNobody
drop_moves_nobody s name empty at who p = (
  carry_inside (drop_bundle s name) s Everybody (from_dropped s name empty) at p,
  carry_inside s (drop_bundle s name) Everybody (to_dropped s name empty) at p,
)

pub drop_keeps : DropKeepsForest
drop_keeps s name f nz empty = dropped_ordered s name empty f nz
