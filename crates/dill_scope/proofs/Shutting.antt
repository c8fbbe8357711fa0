-- The beginning of a closing: the forest stays as it is, and who is cancelled by it.
use Rattle.std.proofs.Common.{◌≡◌, ℕ, zero, suc, ◌==◌, Bool, true, false, ◌||◌, ◌⊎◌, inl, inr, refl, sym, ap, ◌∙◌, subst, length, Option, Some, None}
use Rattle.std.specs.Prelude.{find, option_map, option_and_then, IsSome}
use Rattle.dill_base.specs.Maps.{if_some}
use Rattle.dill_scope.specs.declared.forest.Bundle.{Bundle}
use Rattle.dill_scope.specs.Scopes.{Scopes, is_bundle, home_of, owner_of, parent, inside_within, as_closing, close}
use Rattle.dill_scope.specs.Forest.{Inside, Cancelled}
use Rattle.dill_scope.specs.Keeping.{IsKnown, IsOrderedForest, Everybody, CloseKeepsForest, CloseMovesNobody, CloseCancelsInside}
use Rattle.std.proofs.lemmas.Bool.Decides.{Decides-eqb}
use Rattle.dill_scope.proofs.Climbing.{same_or_not}
use Rattle.dill_scope.proofs.Carrying.{some_told, Carries, carry_inside, carry_rooted}
use Rattle.dill_scope.proofs.Elements.{source, kept}
use Rattle.dill_scope.proofs.Numbered.{find_change_other, find_change_here, found_in, found_number, change_numbers}

abbrev owner_found : Option Bundle → Option ℕ
owner_found o = option_and_then (λ x. x.owner) o

same_found : (o : Option Bundle) → owner_found (option_map as_closing o) ≡ owner_found o
same_found None = refl
same_found (Some x) = refl

known_found : (o : Option Bundle) → IsSome (option_map as_closing o) → IsSome o
known_found None e = e
known_found (Some x) e = refl

found_known : (o : Option Bundle) → IsSome o → IsSome (option_map as_closing o)
found_known None e = e
found_known (Some x) e = refl

module _ (s : Scopes) (name : ℕ) where
  abbrev closed : Scopes
  closed = close s name

  elsewhere : (at : ℕ) → (at ≡ name → ⊥) → find (is_bundle at) closed.bundles ≡ find (is_bundle at) s.bundles
  elsewhere at ne = find_change_other (λ x. x.name) as_closing (λ x. refl) at name s.bundles ne

  here : find (is_bundle name) closed.bundles ≡ option_map as_closing (find (is_bundle name) s.bundles)
  here = find_change_here (λ x. x.name) as_closing (λ x. refl) name s.bundles

  same_owner : (at : ℕ) → owner_of closed at ≡ owner_of s at
  same_owner at =
      elim (same_or_not at name) [
        | inl same ↦
            let e : owner_of closed name ≡ owner_of s name = ap owner_found here ∙ same_found (find (is_bundle name) s.bundles) in
            rw same e
        | inr ne ↦ ap owner_found (elsewhere at ne)
      ]

  to_closed : Carries s closed Everybody
  to_closed = record {
    homes = λ who at p h. h;
    owners = λ who at above p h e. same_owner at ∙ e;
    goes_on = λ who at above p h e. tt;
  }

  from_closed : Carries closed s Everybody
  from_closed = record {
    homes = λ who at p h. h;
    owners = λ who at above p h e. sym (same_owner at) ∙ e;
    goes_on = λ who at above p h e. tt;
  }

  still_known : (at : ℕ) → IsKnown closed at → IsKnown s at
  still_known at k =
      elim (same_or_not at name) [
        | inl same ↦
            let e : IsKnown closed name = rw same at k in
            rw same (known_found (find (is_bundle name) s.bundles) (rw here at e))
        | inr ne ↦ rw (elsewhere at ne) at k
      ]

  was_known : (at : ℕ) → IsKnown s at → IsKnown closed at
  was_known at k =
      elim (same_or_not at name) [
        | inl same ↦
            let e : IsKnown s name = rw same at k in
            let h : IsKnown closed name = rw here (found_known (find (is_bundle name) s.bundles) e) in
            rw same h
        | inr ne ↦ rw (elsewhere at ne) k
      ]

  closed_ordered : IsOrderedForest s → IsOrderedForest closed
  closed_ordered f = record {
    forest = record {
      outside = λ at above e i. f.forest.outside at above (sym (same_owner at) ∙ e) (carry_inside closed s Everybody from_closed at tt i);
      rooted = λ who at h. carry_rooted s closed Everybody to_closed tt (f.forest.rooted who at h);
      root = same_owner 0 ∙ f.forest.root;
    };
    ordered = record {
      homes = f.ordered.homes;
      bundles = rw (change_numbers (λ x. x.name) as_closing (λ x. refl) name s.bundles) f.ordered.bundles;
      root = was_known 0 f.ordered.root;
      owned = λ at nz k. rw (same_owner at) (f.ordered.owned at nz (still_known at k));
      owners = λ at above e. f.ordered.owners at above (sym (same_owner at) ∙ e);
    };
  }

  same_parent : (o : Option ℕ) → option_and_then (owner_of closed) o ≡ option_and_then (owner_of s) o
  same_parent None = refl
  same_parent (Some at) = same_owner at

  same_test : (o : Option ℕ) (f g : ℕ → Bool) → ((n : ℕ) → f n ≡ g n) → if_some o false f ≡ if_some o false g
  same_test None f g e = refl
  same_test (Some n) f g e = e n

  same_within : (k at who : ℕ) → inside_within k closed at who ≡ inside_within k s at who
  same_within zero at who = refl
  same_within (suc k) at who =
      let up : parent closed who ≡ parent s who = same_parent (home_of s who) in
      let e = ap (λ o. if_some o false (inside_within k closed at)) up ∙ same_test (parent s who) (inside_within k closed at) (inside_within k s at) (same_within k at) in
      ap (λ b. if_some (home_of s who) false (λ home. home == at) || b) e

  closed_cancels : (who : ℕ) → Cancelled closed who → Cancelled s who ⊎ Inside s name who
  closed_cancels who c =
      let r = source (is_bundle name) as_closing s.bundles c.closed c.there in
      let i : Inside s c.closed.name who = carry_inside closed s Everybody from_closed c.closed.name tt c.inside in
      elim r.same [
        | inl e ↦
            let shut : r.element.closing ≡ true = ap (λ x. x.closing) (sym e) ∙ c.closing in
            inl (record { closed = r.element; there = r.there; closing = shut; inside = subst (λ n. Inside s n who) (ap (λ x. x.name) e) i })
        | inr e ↦
            let same : r.element.name ≡ name = (Decides-eqb r.element.name name).0 e.1 in
            inr (subst (λ n. Inside s n who) (ap (λ x. x.name) e.0 ∙ same) i)
      ]

  stays_cancelled : (who : ℕ) → Cancelled s who → Cancelled closed who
  stays_cancelled who c =
      let i : Inside closed c.closed.name who = carry_inside s closed Everybody to_closed c.closed.name tt c.inside in
      elim (kept (is_bundle name) as_closing s.bundles c.closed c.there) [
        | inl k ↦ record { closed = c.closed; there = k; closing = c.closing; inside = i }
        | inr k ↦ record { closed = as_closing c.closed; there = k; closing = refl; inside = i }
      ]

  inside_cancelled : (who : ℕ) → IsKnown s name → Inside s name who → Cancelled closed who
  inside_cancelled who known i =
      let x = some_told (find (is_bundle name) s.bundles) known in
      let found : find (is_bundle name) closed.bundles ≡ Some (as_closing x.0) = here ∙ ap (option_map as_closing) x.1 in
      let number : x.0.name ≡ name = found_number (λ y. y.name) name s.bundles x.0 x.1 in
      let j : Inside closed name who = carry_inside s closed Everybody to_closed name tt i in
      record {
        closed = as_closing x.0;
        there = found_in (λ y. y.name) name closed.bundles (as_closing x.0) found;
        closing = refl;
        inside = subst (λ n. Inside closed n who) (sym number) j;
      }

pub close_keeps : CloseKeepsForest
close_keeps s name f = closed_ordered s name f

pub close_moves_nobody : CloseMovesNobody
close_moves_nobody s name at who = (same_owner s name at, same_within s name (length s.homes) at who)

pub close_cancels : CloseCancelsInside
close_cancels s name who known = (
  closed_cancels s name who,
  λ e. elim e [ inl c ↦ stays_cancelled s name who c | inr i ↦ inside_cancelled s name who known i ],
)
