-- Who is inside a bundle is inside one that is there, so a bundle that is gone has nobody inside it.
use Rattle.std.proofs.Common.{◌≡◌, ◌∙◌, ℕ, Bool, true, false, find, Option, Some, None, is_some, refl, sym, ap, subst}
use Rattle.std.specs.Prelude.{option_and_then}
use Rattle.dill_calls.specs.Program.{Program}
use Rattle.dill_scope.specs.declared.forest.Bundle.{Bundle}
use Rattle.dill_scope.specs.Scopes.{Scopes, home_of, is_bundle, is_inside, owner_of}
use Rattle.dill_scope.specs.Forest.{Inside, lives, under, Rooted, at_root, below}
use Rattle.dill_scope.specs.Keeping.{IsOrderedForest}
use Rattle.dill_scope.proofs.Chains.{search_is_inside}
use Rattle.dill_rules.specs.World.{World}
use Rattle.laws_debt.specs.Debts.{DebtFalls, step}
use Rattle.laws_runs.specs.Goes.{BundlesGoEmpty}

owned_there : (s : Scopes) (b owner : ℕ) → owner_of s b ≡ Some owner → is_some (find (is_bundle b) s.bundles) ≡ true
owned_there s b owner e = at (find (is_bundle b) s.bundles) e
  where
    at : (o : Option Bundle) → option_and_then (λ x. x.owner) o ≡ Some owner → is_some o ≡ true
    at None f = cc
    at (Some x) f = refl

some_number : (a b : ℕ) → ◌≡◌ {A = Option ℕ} (Some a) (Some b) → a ≡ b
some_number a b e = cc

module _ (s : Scopes) (forest : IsOrderedForest s) where
  lived_there : (b n : ℕ) → home_of s n ≡ Some b → Rooted s n → is_some (find (is_bundle b) s.bundles) ≡ true
  lived_there b n home (at_root e) = subst (λ m. is_some (find (is_bundle m) s.bundles) ≡ true) (some_number 0 b (sym e ∙ home)) forest.ordered.root
  lived_there b n home (below above e r) = owned_there s b above (ap (option_and_then (owner_of s)) (sym home) ∙ e)

  inside_there : (b n : ℕ) → Inside s b n → is_some (find (is_bundle b) s.bundles) ≡ true
  inside_there b n (lives e) = lived_there b n e (forest.forest.rooted n b e)
  inside_there b n (under above e i) = inside_there b above i

  gone_empty : (b n : ℕ) → is_some (find (is_bundle b) s.bundles) ≡ false → is_inside s b n ≡ false
  gone_empty b n gone = at (is_inside s b n) refl
    where
      at : (t : Bool) → is_inside s b n ≡ t → t ≡ false
      at false e = refl
      at true e = let there = inside_there b n ((search_is_inside s b n forest.forest).0 e) in cc

pub bundles_go_empty : {V : Type 0} (p : Program V) → DebtFalls p → BundlesGoEmpty p
bundles_go_empty {V} p debts s x b steady closing gone n there =
    let t = step p s x in
    let after = (debts.steady s x steady).even in
    let forest : IsOrderedForest t.world.scopes = subst (λ (w : World V). IsOrderedForest w.scopes) after.stands.world after.stable.order.order.fits.forest in
    sym (debts.places s x b steady closing n there) ∙ gone_empty t.world.scopes forest b n gone
