-- Taking a bundle: the forest stays one, and who is cancelled by it.
use Rattle.std.proofs.Common.{◌≡◌, ℕ, ◌<◌, true, false, ◌⊎◌, inl, inr, refl, sym, ap, ◌∙◌, subst, [], Option, Some, None, arith}
use Rattle.std.specs.Prelude.{Contains, find, option_map, option_and_then, IsSome}
use Rattle.dill_scope.specs.declared.forest.Bundle.{Bundle}
use Rattle.dill_scope.specs.Scopes.{Scopes, is_bundle, home_of, owner_of, parent, with_owner, take, bundle, enter, opening_scopes}
use Rattle.dill_scope.specs.Forest.{Inside, lives, under, Rooted, at_root, below, Cancelled}
use Rattle.dill_scope.specs.Keeping.{IsThere, IsKnown, IsOrderedForest, IsNewBundle, IsNewCoroutine, BadTaking, TakeKeepsForest, TakeCancelsInside, TakeCancelsNobody, TakeFreesNobody}
use Rattle.dill_scope.proofs.Climbing.{same_or_not}
use Rattle.dill_scope.proofs.Carrying.{some_told, some_is, parent_told, parent_is, inside_through, Carries, carry_inside, carry_rooted}
use Rattle.dill_scope.proofs.Growing.{opening_is_forest, open_keeps}
use Rattle.std.proofs.lemmas.List.Elements.{All-cons, All-nil}
use Rattle.dill_scope.proofs.Elements.{source, kept}
use Rattle.dill_scope.proofs.Numbered.{find_change_other, find_change_here, change_numbers}

abbrev owner_found : Option Bundle → Option ℕ
owner_found o = option_and_then (λ x. x.owner) o

given_to : (owner above : ℕ) (o : Option Bundle) → owner_found (option_map (with_owner owner) o) ≡ Some above → owner ≡ above
given_to owner above None e = cc
given_to owner above (Some x) e = cc

gives_to : (owner : ℕ) (o : Option Bundle) → IsSome o → owner_found (option_map (with_owner owner) o) ≡ Some owner
gives_to owner None e = cc
gives_to owner (Some x) e = refl

stays_known : (owner : ℕ) (o : Option Bundle) → IsSome (option_map (with_owner owner) o) → IsSome o
stays_known owner None e = e
stays_known owner (Some x) e = refl

owned_known : (above : ℕ) (o : Option Bundle) → owner_found o ≡ Some above → IsSome o
owned_known above None e = cc
owned_known above (Some x) e = refl

-- everybody who is there is inside the root
inside_root : (s : Scopes) {who : ℕ} → Rooted s who → Inside s 0 who
inside_root s (at_root e) = lives e
inside_root s (below above e r) = under above e (inside_root s r)

module _ (s : Scopes) (name owner : ℕ) where
  abbrev taken : Scopes
  taken = take s name owner

  same_owner : (at : ℕ) → (at ≡ name → ⊥) → owner_of taken at ≡ owner_of s at
  same_owner at ne = ap owner_found (find_change_other (λ x. x.name) (with_owner owner) (λ x. refl) at name s.bundles ne)

  here_owner : owner_of taken name ≡ owner_found (option_map (with_owner owner) (find (is_bundle name) s.bundles))
  here_owner = ap owner_found (find_change_here (λ x. x.name) (with_owner owner) (λ x. refl) name s.bundles)

  taken_owner : (above : ℕ) → owner_of taken name ≡ Some above → owner ≡ above
  taken_owner above e = given_to owner above (find (is_bundle name) s.bundles) (sym here_owner ∙ e)

  new_owner : IsKnown s name → owner_of taken name ≡ Some owner
  new_owner known = here_owner ∙ gives_to owner (find (is_bundle name) s.bundles) known

  known : (above : ℕ) → owner_of s name ≡ Some above → IsKnown s name
  known above e = owned_known above (find (is_bundle name) s.bundles) e

  -- not inside the bundle that is taken
  abbrev Outside : ℕ → Type 0
  Outside who = Inside s name who → ⊥

  elsewhere : (who at : ℕ) → Outside who → home_of s who ≡ Some at → at ≡ name → ⊥
  elsewhere who at out h same = out (lives (rw (← same) h))

  above_outside : (who at above : ℕ) → Outside who → home_of s who ≡ Some at → owner_of s at ≡ Some above → Outside above
  above_outside who at above out h e i = out (under above (parent_is s who at above h e) i)

  to_taken : Carries s taken Outside
  to_taken = record {
    homes = λ who at out h. h;
    owners = λ who at above out h e. same_owner at (elsewhere who at out h) ∙ e;
    goes_on = λ who at above out h e. above_outside who at above out h e;
  }

  before : (who at above : ℕ) → Outside who → home_of s who ≡ Some at → owner_of taken at ≡ Some above → owner_of s at ≡ Some above
  before who at above out h e = sym (same_owner at (elsewhere who at out h)) ∙ e

  from_taken : Carries taken s Outside
  from_taken = record {
    homes = λ who at out h. h;
    owners = λ who at above out h e. before who at above out h e;
    goes_on = λ who at above out h e. above_outside who at above out h (before who at above out h e);
  }

  module _ (out : Outside owner) where
    -- Who is inside a bundle after the taking was so before, or is inside the one that is taken.
    through : (at : ℕ) {who : ℕ} → Inside taken at who → Inside s at who ⊎ (Inside s name who × Inside s at owner)
    through at (lives e) = inl (lives e)
    through at {who} (under above e i) =
        let rest = through at i in
        let up = parent_told taken who above e in
        elim (same_or_not up.home name) [
          | inl same ↦
              let h : owner_of taken name ≡ Some above = rw same at up.owned in
              let j : Inside taken at owner = subst (Inside taken at) (sym (taken_owner above h)) i in
              inr (lives (rw same at up.lives_in), carry_inside taken s Outside from_taken at out j)
          | inr ne ↦
              let p = parent_is s who up.home above up.lives_in (sym (same_owner up.home ne) ∙ up.owned) in
              elim rest [ inl j ↦ inl (under above p j) | inr j ↦ inr (under above p j.0, j.1) ]
        ]

    module _ (f : IsOrderedForest s) (there : IsThere s owner) where
      no_root : name ≡ 0 → ⊥
      no_root same =
          let h = some_told (home_of s owner) there in
          let i : Inside s 0 owner = inside_root s (f.forest.rooted owner h.0 h.1) in
          out (rw same i)

      owner_rooted : Rooted taken owner
      owner_rooted =
          let h = some_told (home_of s owner) there in
          carry_rooted s taken Outside to_taken out (f.forest.rooted owner h.0 h.1)

      taken_rooted : {who : ℕ} → Rooted s who → Rooted taken who
      taken_rooted (at_root e) = at_root e
      taken_rooted {who} (below above e r) =
          let rest = taken_rooted r in
          let up = parent_told s who above e in
          elim (same_or_not up.home name) [
            | inl same ↦
                let h : owner_of s name ≡ Some above = rw same at up.owned in
                below owner (parent_is taken who name owner (rw same at up.lives_in) (new_owner (known above h))) owner_rooted
            | inr ne ↦ below above (parent_is taken who up.home above up.lives_in (same_owner up.home ne ∙ up.owned)) rest
          ]

      taken_outside : (at above : ℕ) → owner_of taken at ≡ Some above → Inside taken at above → ⊥
      taken_outside at above e i =
          elim (same_or_not at name) [
            | inl same ↦
                let h : owner_of taken name ≡ Some above = rw same at e in
                let j : Inside taken at owner = subst (Inside taken at) (sym (taken_owner above h)) i in
                let k : Inside s at owner = carry_inside taken s Outside from_taken at out j in
                out (rw same at k)
            | inr ne ↦
                let h : owner_of s at ≡ Some above = sym (same_owner at ne) ∙ e in
                elim (through at i) [
                  | inl j ↦ f.forest.outside at above h j
                  | inr j ↦ out (inside_through s name at above h j.1 j.0)
                ]
          ]

      taken_owned : (at : ℕ) → (at ≡ 0 → ⊥) → IsKnown taken at → IsSome (owner_of taken at)
      taken_owned at nz k =
          elim (same_or_not at name) [
            | inl same ↦
                let here : IsKnown taken name = rw same at k in
                let found : IsSome (option_map (with_owner owner) (find (is_bundle name) s.bundles)) = rw (find_change_here (λ x. x.name) (with_owner owner) (λ x. refl) name s.bundles) at here in
                rw same (some_is (owner_of taken name) owner (new_owner (stays_known owner (find (is_bundle name) s.bundles) found)))
            | inr ne ↦
                let e = find_change_other (λ x. x.name) (with_owner owner) (λ x. refl) at name s.bundles ne in
                rw (same_owner at ne) (f.ordered.owned at nz (rw e at k))
          ]

      taken_owners : (at above : ℕ) → owner_of taken at ≡ Some above → IsThere s above
      taken_owners at above e =
          elim (same_or_not at name) [
            | inl same ↦ rw (← taken_owner above (rw same at e)) there
            | inr ne ↦ f.ordered.owners at above (sym (same_owner at ne) ∙ e)
          ]

      taken_ordered : IsOrderedForest taken
      taken_ordered = record {
        forest = record {
          outside = taken_outside;
          rooted = λ who at h. taken_rooted (f.forest.rooted who at h);
          root = same_owner 0 (λ e. no_root (sym e)) ∙ f.forest.root;
        };
        ordered = record {
          homes = f.ordered.homes;
          bundles = rw (change_numbers (λ x. x.name) (with_owner owner) (λ x. refl) name s.bundles) f.ordered.bundles;
          root = rw (find_change_other (λ x. x.name) (with_owner owner) (λ x. refl) 0 name s.bundles (λ e. no_root (sym e))) f.ordered.root;
          owned = taken_owned;
          owners = taken_owners;
        };
      }

pub take_keeps : TakeKeepsForest
take_keeps s name owner f there out = taken_ordered s name owner out f there

-- what a taking does to the elements
abbrev from_before : (s : Scopes) (name owner : ℕ) → Bundle → Type 0
from_before s name owner c = (x : Bundle) × Contains s.bundles x × (c.name ≡ x.name) × (c.closing ≡ x.closing)

was_there : (s : Scopes) (name owner : ℕ) (c : Bundle) → Contains (taken s name owner).bundles c → from_before s name owner c
was_there s name owner c there =
    let r = source (is_bundle name) (with_owner owner) s.bundles c there in
    elim r.same [
      | inl e ↦ (r.element, r.there, ap (λ x. x.name) e, ap (λ x. x.closing) e)
      | inr e ↦ (r.element, r.there, ap (λ x. x.name) e.0, ap (λ x. x.closing) e.0)
    ]

module _ (s : Scopes) (name owner : ℕ) (out : Inside s name owner → ⊥) where
  pub cancelled_inside : (who : ℕ) → Cancelled (taken s name owner) who → Cancelled s who ⊎ (Inside s name who × Cancelled s owner)
  cancelled_inside who c =
      let x = was_there s name owner c.closed c.there in
      let shut : x.0.closing ≡ true = sym x.3 ∙ c.closing in
      let i : Inside (taken s name owner) x.0.name who = subst (λ n. Inside (taken s name owner) n who) x.2 c.inside in
      elim (through s name owner out x.0.name i) [
        | inl j ↦ inl (record { closed = x.0; there = x.1; closing = shut; inside = j })
        | inr j ↦ inr (j.0, record { closed = x.0; there = x.1; closing = shut; inside = j.1 })
      ]

pub take_cancels : TakeCancelsInside
take_cancels s name owner who out c = cancelled_inside s name owner out who c

-- who is inside a bundle of somebody who is cancelled is cancelled
cancelled_through : (s : Scopes) (name owner who : ℕ) → owner_of s name ≡ Some owner → Inside s name who → Cancelled s owner → Cancelled s who
cancelled_through s name owner who e i c = record {
  closed = c.closed;
  there = c.there;
  closing = c.closing;
  inside = inside_through s c.closed.name name owner e i c.inside;
}

owns_or_not : (o : Option ℕ) (owner : ℕ) → (o ≡ Some owner) ⊎ (o ≡ Some owner → ⊥)
owns_or_not None owner = inr (λ e. cc)
owns_or_not (Some x) owner = elim (same_or_not x owner) [ inl e ↦ inl (ap (λ n. Some n) e) | inr ne ↦ inr (λ e. ne cc) ]

pub take_cancels_nobody : TakeCancelsNobody
take_cancels_nobody s name owner who out free c =
    elim (take_cancels s name owner who out c) [
      | inl j ↦ j
      | inr j ↦
          elim (owns_or_not (owner_of s name) owner) [
            | inl e ↦ cancelled_through s name owner who e j.0 j.1
            | inr ne ↦ absurd (free ne j.1)
          ]
    ]

module _ (s : Scopes) (name owner old : ℕ) (own : owner_of s name ≡ Some old) where
  -- Who is inside a bundle stays so, or is inside by the old owner, who is another.
  stays : (at : ℕ) {who : ℕ} → Inside s at who → Inside (taken s name owner) at who ⊎ ((old ≡ owner → ⊥) × Inside s at old)
  stays at (lives e) = inl (lives e)
  stays at {who} (under above e i) =
      let rest = stays at i in
      let up = parent_told s who above e in
      elim (same_or_not up.home name) [
        | inl same ↦
            let h : owner_of s name ≡ Some above = rw same at up.owned in
            let one : above ≡ old = cc in
            elim (same_or_not old owner) [
              | inl it ↦
                  let p : parent (taken s name owner) who ≡ Some owner = parent_is (taken s name owner) who name owner (rw same at up.lives_in) (new_owner s name owner (known s name owner old own)) in
                  elim rest [
                    | inl j ↦ inl (under owner p (subst (Inside (taken s name owner) at) (one ∙ it) j))
                    | inr j ↦ inr j
                  ]
              | inr ne ↦ inr (ne, subst (Inside s at) one i)
            ]
        | inr ne ↦
            let p = parent_is (taken s name owner) who up.home above up.lives_in (same_owner s name owner up.home ne ∙ up.owned) in
            elim rest [ inl j ↦ inl (under above p j) | inr j ↦ inr j ]
      ]

is_there : (s : Scopes) (name owner : ℕ) (x : Bundle) → Contains s.bundles x → (c : Bundle) × Contains (taken s name owner).bundles c × (x.name ≡ c.name) × (x.closing ≡ c.closing)
is_there s name owner x there =
    elim (kept (is_bundle name) (with_owner owner) s.bundles x there) [
      | inl c ↦ (x, c, refl, refl)
      | inr c ↦ (with_owner owner x, c, refl, refl)
    ]

pub take_frees_nobody : TakeFreesNobody
take_frees_nobody s name owner old who own free c =
    elim (stays s name owner old own c.closed.name c.inside) [
      | inl j ↦
          let x = is_there s name owner c.closed c.there in
          record {
            closed = x.0;
            there = x.1;
            closing = sym x.3 ∙ c.closing;
            inside = subst (λ n. Inside (taken s name owner) n who) x.2 j;
          }
      | inr j ↦ absurd (free j.0 (record { closed = c.closed; there = c.there; closing = c.closing; inside = j.1 }))
    ]

-- a bundle of coroutine 1 where coroutine 2 lives is taken by coroutine 2
pub bad_taking : BadTaking
bad_taking = record {
  before = enter (bundle opening_scopes 1 1) 1 2;
  name = 1;
  owner = 2;
  ordered =
      let new : IsNewBundle opening_scopes 1 = All-cons (λ x. x.name < 1) (record { name = 0; owner = None; closing = false }) [] (omega arith) (All-nil (λ x. x.name < 1)) in
      let fresh : IsNewCoroutine opening_scopes 2 = All-cons (λ x. x.who < 2) (record { who = 1; bundle = 0 }) [] (omega arith) (All-nil (λ x. x.who < 2)) in
      open_keeps opening_scopes 1 1 2 opening_is_forest new refl fresh;
  known = refl;
  there = refl;
  spoils = λ f. f.outside 1 2 refl (lives refl);
}
