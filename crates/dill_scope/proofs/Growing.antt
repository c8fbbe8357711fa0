-- A new bundle, and a new coroutine, keep the forest.
use Rattle.std.proofs.Common.{◌≡◌, ℕ, ◌==◌, Bool, true, false, inl, inr, refl, sym, ap, ◌∙◌, cond, Option, Some, None, arith}
use Rattle.std.specs.Prelude.{find, option_map, option_and_then, IsSome}
use Rattle.dill_scope.specs.declared.forest.Home.{Home}
use Rattle.dill_scope.specs.declared.forest.Bundle.{Bundle}
use Rattle.dill_scope.specs.Scopes.{Scopes, is_home, is_bundle, home_of, owner_of, bundle, enter, opening_scopes}
use Rattle.dill_scope.specs.Forest.{Inside, lives, under, Rooted, at_root, below, IsForest}
use Rattle.dill_scope.specs.Keeping.{IsThere, IsKnown, IsNewCoroutine, IsNewBundle, IsOrderedForest, Everybody, Others, LivesInside, OpeningIsForest, BundleKeepsForest, EnterKeepsForest, OpenKeepsForest, BundleMovesNobody, EnterMovesNoOther, EnterPlaces}
use Rattle.dill_scope.proofs.Climbing.{differ, same_or_not}
use Rattle.dill_scope.proofs.Carrying.{some_told, some_is, parent_told, parent_is, Carries, carry_inside, carry_rooted}
use Rattle.dill_scope.proofs.Numbered.{none_below, find_push_other, find_push_new, find_push_kept, push_increases}

-- who owns a bundle, and where a coroutine lives, by what is found
abbrev owner_found : Option Bundle → Option ℕ
owner_found o = option_and_then (λ x. x.owner) o

abbrev home_found : Option Home → Option ℕ
home_found o = option_map (λ x. x.bundle) o

module _ (s : Scopes) (name owner : ℕ) (f : IsOrderedForest s) (new : IsNewBundle s name) where
  abbrev grown : Scopes
  grown = bundle s name owner

  abbrev added : Bundle
  added = record { name = name; owner = Some owner; closing = false }

  fresh : find (is_bundle name) s.bundles ≡ None
  fresh = none_below (λ x. x.name) name s.bundles new

  nobody_owns : (above : ℕ) → owner_of s name ≡ Some above → ⊥
  nobody_owns above e = let h : None ≡ Some above = rw fresh at e in cc

  no_root : name ≡ 0 → ⊥
  no_root e =
      let r = some_told (find (is_bundle 0) s.bundles) f.ordered.root in
      let n : find (is_bundle 0) s.bundles ≡ None = rw e at fresh in
      cc

  nobody_rooted : (who : ℕ) → home_of s who ≡ Some name → Rooted s who → ⊥
  nobody_rooted who e (at_root h) = let same : name ≡ 0 = cc in no_root same
  nobody_rooted who e (below above h r) =
      let up = parent_told s who above h in
      let same : up.home ≡ name = cc in
      nobody_owns above (rw (← same) up.owned)

  nobody_lives : (who : ℕ) → home_of s who ≡ Some name → ⊥
  nobody_lives who e = nobody_rooted who e (f.forest.rooted who name e)

  nobody_inside : {who : ℕ} → Inside s name who → ⊥
  nobody_inside {who} (lives e) = nobody_lives who e
  nobody_inside (under above e i) = nobody_inside i

  same_owner : (at : ℕ) → (at ≡ name → ⊥) → owner_of grown at ≡ owner_of s at
  same_owner at ne = ap owner_found (find_push_other (λ x. x.name) at s.bundles added (λ e. ne (sym e)))

  new_owner : owner_of grown name ≡ Some owner
  new_owner = ap owner_found (find_push_new (λ x. x.name) name s.bundles added fresh refl)

  to_grown : Carries s grown Everybody
  to_grown = record {
    homes = λ who at p h. h;
    owners = λ who at above p h e. same_owner at (λ same. nobody_owns above (rw (← same) e)) ∙ e;
    goes_on = λ who at above p h e. tt;
  }

  from_grown : Carries grown s Everybody
  from_grown = record {
    homes = λ who at p h. h;
    owners = λ who at above p h e. sym (same_owner at (λ same. nobody_lives who (rw (← same) h))) ∙ e;
    goes_on = λ who at above p h e. tt;
  }

  grown_outside : (at above : ℕ) → owner_of grown at ≡ Some above → Inside grown at above → ⊥
  grown_outside at above e i =
      let j : Inside s at above = carry_inside grown s Everybody from_grown at tt i in
      elim (same_or_not at name) [
        | inl same ↦ nobody_inside (rw same at j)
        | inr ne ↦ f.forest.outside at above (sym (same_owner at ne) ∙ e) j
      ]

  grown_forest : IsForest grown
  grown_forest = record {
    outside = grown_outside;
    rooted = λ who at h. carry_rooted s grown Everybody to_grown tt (f.forest.rooted who at h);
    root = same_owner 0 (λ e. no_root (sym e)) ∙ f.forest.root;
  }

  grown_owners : IsThere s owner → (at above : ℕ) → owner_of grown at ≡ Some above → IsThere s above
  grown_owners there at above e =
      elim (same_or_not at name) [
        | inl same ↦
            let h : owner_of grown name ≡ Some above = rw same at e in
            let one : owner ≡ above = cc (new_owner) in
            rw (← one) there
        | inr ne ↦ f.ordered.owners at above (sym (same_owner at ne) ∙ e)
      ]

  grown_owned : (at : ℕ) → (at ≡ 0 → ⊥) → IsKnown grown at → IsSome (owner_of grown at)
  grown_owned at nz k =
      elim (same_or_not at name) [
        | inl same ↦ rw same (some_is (owner_of grown name) owner new_owner)
        | inr ne ↦
            let e = find_push_other (λ x. x.name) at s.bundles added (λ e. ne (sym e)) in
            rw (same_owner at ne) (f.ordered.owned at nz (rw e at k))
      ]

  pub grown_ordered : IsThere s owner → IsOrderedForest grown
  grown_ordered there = record {
    forest = grown_forest;
    ordered = record {
      homes = f.ordered.homes;
      bundles = push_increases (λ x. x.name) s.bundles added new f.ordered.bundles;
      root =
          let r = some_told (find (is_bundle 0) s.bundles) f.ordered.root in
          some_is (find (is_bundle 0) grown.bundles) r.0 (find_push_kept (λ x. x.name) 0 s.bundles added r.0 r.1);
      owned = grown_owned;
      owners = grown_owners there;
    };
  }

pub bundle_moves_nobody : BundleMovesNobody
bundle_moves_nobody s name owner f new at who p = (
  carry_inside (bundle s name owner) s Everybody (from_grown s name owner f new) at p,
  carry_inside s (bundle s name owner) Everybody (to_grown s name owner f new) at p,
)

pub bundle_keeps : BundleKeepsForest
bundle_keeps s name owner f new there = grown_ordered s name owner f new there

module _ (s : Scopes) (name who : ℕ) (f : IsOrderedForest s) (new : IsNewCoroutine s who) where
  abbrev entered : Scopes
  entered = enter s name who

  abbrev comes : Home
  comes = record { who = who; bundle = name }

  absent : find (is_home who) s.homes ≡ None
  absent = none_below (λ x. x.who) who s.homes new

  lives_nowhere : (at : ℕ) → home_of s who ≡ Some at → ⊥
  lives_nowhere at e = let h : None ≡ Some at = rw absent at e in cc

  same_home : (other : ℕ) → Others who other → home_of entered other ≡ home_of s other
  same_home other ne = ap home_found (find_push_other (λ x. x.who) other s.homes comes (λ e. ne (sym e)))

  new_home : home_of entered who ≡ Some name
  new_home = ap home_found (find_push_new (λ x. x.who) who s.homes comes absent refl)

  owns_nothing : (at above : ℕ) → owner_of s at ≡ Some above → Others who above
  owns_nothing at above e same =
      let there : IsThere s who = rw same at (f.ordered.owners at above e) in
      let h = some_told (home_of s who) there in
      lives_nowhere h.0 h.1

  to_entered : Carries s entered Everybody
  to_entered = record {
    homes = λ other at p h. same_home other (λ same. lives_nowhere at (rw (← same) h)) ∙ h;
    owners = λ other at above p h e. e;
    goes_on = λ other at above p h e. tt;
  }

  from_entered : Carries entered s (Others who)
  from_entered = record {
    homes = λ other at p h. sym (same_home other p) ∙ h;
    owners = λ other at above p h e. e;
    goes_on = λ other at above p h e. owns_nothing at above e;
  }

  entered_outside : (at above : ℕ) → owner_of entered at ≡ Some above → Inside entered at above → ⊥
  entered_outside at above e i =
      f.forest.outside at above e (carry_inside entered s (Others who) from_entered at (owns_nothing at above e) i)

  newborn_rooted : IsKnown s name → Rooted entered who
  newborn_rooted known =
      elim (same_or_not name 0) [
        | inl same ↦ at_root (new_home ∙ ap (λ at. Some at) same)
        | inr ne ↦
            let o = some_told (owner_of s name) (f.ordered.owned name ne known) in
            let h = some_told (home_of s o.0) (f.ordered.owners name o.0 o.1) in
            let r : Rooted entered o.0 = carry_rooted s entered Everybody to_entered tt (f.forest.rooted o.0 h.0 h.1) in
            below o.0 (parent_is entered who name o.0 new_home o.1) r
      ]

  entered_rooted : IsKnown s name → (other at : ℕ) → home_of entered other ≡ Some at → Rooted entered other
  entered_rooted known other at h =
      elim (same_or_not other who) [
        | inl same ↦ rw same (newborn_rooted known)
        | inr ne ↦ carry_rooted s entered Everybody to_entered tt (f.forest.rooted other at (sym (same_home other ne) ∙ h))
      ]

  pub entered_ordered : IsKnown s name → IsOrderedForest entered
  entered_ordered known = record {
    forest = record { outside = entered_outside; rooted = entered_rooted known; root = f.forest.root };
    ordered = record {
      homes = push_increases (λ x. x.who) s.homes comes new f.ordered.homes;
      bundles = f.ordered.bundles;
      root = f.ordered.root;
      owned = f.ordered.owned;
      owners = λ at above e.
          let h = some_told (home_of s above) (f.ordered.owners at above e) in
          some_is (home_of entered above) h.0 (to_entered.homes above h.0 tt h.1);
    };
  }

  placed : (at : ℕ) → Inside entered at who → LivesInside s name at
  placed at (lives e) = inl (let h : Some name ≡ Some at = sym new_home ∙ e in cc)
  placed at (under above e i) =
      let up = parent_told entered who above e in
      let same : up.home ≡ name = cc (new_home) in
      let own : owner_of s name ≡ Some above = rw (← same) up.owned in
      inr (above, own, carry_inside entered s (Others who) from_entered at (owns_nothing name above own) i)

  placing : (at : ℕ) → LivesInside s name at → Inside entered at who
  placing at (inl same) = lives (new_home ∙ ap (λ n. Some n) same)
  placing at (inr r) =
      under r.0 (parent_is entered who name r.0 new_home r.1) (carry_inside s entered Everybody to_entered at tt r.2)

pub enter_moves_no_other : EnterMovesNoOther
enter_moves_no_other s home who f new at other p = (
  carry_inside (enter s home who) s (Others who) (from_entered s home who f new) at p,
  carry_inside s (enter s home who) Everybody (to_entered s home who f new) at tt,
)

pub enter_places : EnterPlaces
enter_places s home who at f new = (placed s home who f new at, placing s home who f new at)

pub enter_keeps : EnterKeepsForest
enter_keeps s name who f known new = entered_ordered s name who f new known

pub open_keeps : OpenKeepsForest
open_keeps s name owner who f new there fresh =
    let known : IsKnown (bundle s name owner) name =
    let none = none_below (λ x. x.name) name s.bundles new in
    let y : Bundle = record { name = name; owner = Some owner; closing = false } in
    some_is (find (is_bundle name) (bundle s name owner).bundles) y (find_push_new (λ x. x.name) name s.bundles y none refl) in
    enter_keeps (bundle s name owner) name who (bundle_keeps s name owner f new there) known fresh

root_owner : (b : Bool) (above : ℕ) → owner_found (cond b (Some (record { name = 0; owner = None; closing = false })) None) ≡ Some above → ⊥
root_owner true above e = cc
root_owner false above e = cc

root_home : (b : Bool) (at : ℕ) → home_found (cond b (Some (record { who = 1; bundle = 0 })) None) ≡ Some at → 0 ≡ at
root_home true at e = cc
root_home false at e = cc

opening_rooted : (who at : ℕ) → home_of opening_scopes who ≡ Some at → Rooted opening_scopes who
opening_rooted who at h = at_root (h ∙ ap (λ n. Some n) (sym (root_home (1 == who) at h)))

opening_owned : (name : ℕ) → (name ≡ 0 → ⊥) → IsKnown opening_scopes name → IsSome (owner_of opening_scopes name)
opening_owned name nz known = let none : false ≡ true = rw (differ 0 name (λ e. nz (sym e))) at known in cc

pub opening_is_forest : OpeningIsForest
opening_is_forest = record {
  forest = record {
    outside = λ at above e i. root_owner (0 == at) above e;
    rooted = opening_rooted;
    root = refl;
  };
  ordered = record {
    homes = λ k h. absurd (omega (arith, h));
    bundles = λ k h. absurd (omega (arith, h));
    root = refl;
    owned = opening_owned;
    owners = λ at above e. absurd (root_owner (0 == at) above e);
  };
}
