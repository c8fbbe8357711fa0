-- Who owns which bundle after each change of the scopes.
use Rattle.std.proofs.Common.{◌≡◌, ◌∙◌, ℕ, ◌==◌, find, Bool, true, false, Option, Some, None, refl, sym, ap, subst, arith}
use Rattle.std.specs.Prelude.{is_some, option_map, option_and_then}
use Rattle.std.proofs.lemmas.Bool.Decides.{nat_tests}
use Rattle.dill_scope.specs.declared.forest.Bundle.{Bundle}
use Rattle.dill_scope.specs.Scopes.{Scopes, is_bundle, owner_of, with_owner, bundle, take, close, drop_bundle}
use Rattle.dill_scope.specs.Keeping.{IsKnown, IsNewBundle, IsOrderedForest}
use Rattle.dill_scope.proofs.Numbered.{find_push_other, find_push_new, find_change_other, find_change_here, find_without_other, find_without_same, none_below}
use Rattle.dill_scope.proofs.Shutting.{close_moves_nobody}
use Rattle.dill_base.specs.Maps.{if_some}

-- a coroutine owns a bundle
abbrev pub owns : Scopes → ℕ → ℕ → Bool
owns s who name = if_some (owner_of s name) false (λ owner. owner == who)

pub owns_is : (s : Scopes) (who name : ℕ) → owner_of s name ≡ Some who → owns s who name ≡ true
owns_is s who name e = rw e (grind (arith, nat_tests))

pub owns_as : (s t : Scopes) (who name : ℕ) → owner_of t name ≡ owner_of s name → owns t who name ≡ owns s who name
owns_as s t who name e = ap (λ o. if_some o false (λ owner. owner == who)) e

pub new_is_free : (s : Scopes) (name : ℕ) → IsNewBundle s name → owner_of s name ≡ None
new_is_free s name new = ap (λ o. option_and_then (λ x. x.owner) o) (none_below (λ (x : Bundle). x.name) name s.bundles new)

pub bundle_other : (s : Scopes) (name owner at : ℕ) → (at ≡ name → ⊥) → owner_of (bundle s name owner) at ≡ owner_of s at
bundle_other s name owner at ne = ap (λ o. option_and_then (λ x. x.owner) o) (find_push_other (λ (x : Bundle). x.name) at s.bundles (record { name = name; owner = Some owner; closing = false }) (λ e. ne (sym e)))

pub bundle_new : (s : Scopes) (name owner : ℕ) → IsNewBundle s name → owner_of (bundle s name owner) name ≡ Some owner
bundle_new s name owner new = ap (λ o. option_and_then (λ x. x.owner) o) (find_push_new (λ (x : Bundle). x.name) name s.bundles (record { name = name; owner = Some owner; closing = false }) (none_below (λ (x : Bundle). x.name) name s.bundles new) refl)

pub take_other : (s : Scopes) (name owner at : ℕ) → (at ≡ name → ⊥) → owner_of (take s name owner) at ≡ owner_of s at
take_other s name owner at ne = ap (λ o. option_and_then (λ x. x.owner) o) (find_change_other (λ (x : Bundle). x.name) (with_owner owner) (λ x. refl) at name s.bundles ne)

pub take_here : (s : Scopes) (name owner old : ℕ) → owner_of s name ≡ Some old → owner_of (take s name owner) name ≡ Some owner
take_here s name owner old e = ap (λ o. option_and_then (λ x. x.owner) o) (find_change_here (λ (x : Bundle). x.name) (with_owner owner) (λ x. refl) name s.bundles) ∙ at (find (is_bundle name) s.bundles) e
  where
    at : (o : Option Bundle) → option_and_then (λ x. x.owner) o ≡ Some old → option_and_then (λ x. x.owner) (option_map (with_owner owner) o) ≡ Some owner
    at None f = cc
    at (Some x) f = refl

pub close_same : (s : Scopes) (name at : ℕ) → owner_of (close s name) at ≡ owner_of s at
close_same s name at = (close_moves_nobody s name at 0).0

pub drop_other : (s : Scopes) (name at : ℕ) → (at ≡ name → ⊥) → owner_of (drop_bundle s name) at ≡ owner_of s at
drop_other s name at ne = ap (λ o. option_and_then (λ x. x.owner) o) (find_without_other (λ (x : Bundle). x.name) at name s.bundles ne)

pub drop_here : (s : Scopes) (name : ℕ) → IsOrderedForest s → owner_of (drop_bundle s name) name ≡ None
drop_here s name f = ap (λ o. option_and_then (λ x. x.owner) o) (find_without_same (λ (x : Bundle). x.name) name s.bundles f.ordered.bundles)

-- a bundle that has an owner is there, and isn't the root
pub owned_known : (s : Scopes) (name owner : ℕ) → owner_of s name ≡ Some owner → IsKnown s name
owned_known s name owner e = at (find (is_bundle name) s.bundles) refl e
  where
    at : (o : Option Bundle) → find (is_bundle name) s.bundles ≡ o → option_and_then (λ x. x.owner) o ≡ Some owner → IsKnown s name
    at None f g = cc
    at (Some x) f g = rw f refl

pub owned_no_root : (s : Scopes) (name owner : ℕ) → IsOrderedForest s → owner_of s name ≡ Some owner → name ≡ 0 → ⊥
owned_no_root s name owner f e z = let n = f.forest.root in let o : owner_of s 0 ≡ Some owner = subst (λ m. owner_of s m ≡ Some owner) z e in cc

-- taken, and then closing
pub shut_other : (s : Scopes) (name owner at : ℕ) → (at ≡ name → ⊥) → owner_of (close (take s name owner) name) at ≡ owner_of s at
shut_other s name owner at ne = close_same (take s name owner) name at ∙ take_other s name owner at ne

pub shut_here : (s : Scopes) (name owner old : ℕ) → owner_of s name ≡ Some old → owner_of (close (take s name owner) name) name ≡ Some owner
shut_here s name owner old e = close_same (take s name owner) name name ∙ take_here s name owner old e

-- who owns something after a change that leaves owners
pub owned_same : (s t : Scopes) (name at : ℕ) → ((at ≡ name → ⊥) → owner_of t at ≡ owner_of s at) → is_some (owner_of s name) ≡ is_some (owner_of t name) → is_some (owner_of t at) ≡ is_some (owner_of s at)
owned_same s t name at other here = go (name == at) refl
  where
    go : (b : Bool) → (name == at) ≡ b → is_some (owner_of t at) ≡ is_some (owner_of s at)
    go true f = let same : name ≡ at = grind (arith, nat_tests) in subst (λ n. is_some (owner_of t n) ≡ is_some (owner_of s n)) same (sym here)
    go false f = ap is_some (other (λ e. let g : (name == at) ≡ true = grind (arith, nat_tests) in cc))
