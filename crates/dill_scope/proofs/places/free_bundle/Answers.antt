use Rattle.std.proofs.Common.{sym, ◌∙◌}
use Rattle.dill_scope.specs.Scopes.{is_bundle}
use Rattle.dill_base.proofs.Places.{place, no_place}
use Rattle.dill_scope.proofs.places.free_bundle.Goals as goal

pub returns-in-Some : goal.returns-in-Some
returns-in-Some c =
    let found = place (is_bundle c.args.name) (λ x. x) c.remove.result c.args.bundles.now.items c.in-Some.at (rw c.deref.ensures.value at (sym c.in-Some.ensures.place)) in
    c.remove.ensures.items ∙ sym found.left

pub returns-in_default : goal.returns-in_default
returns-in_default c =
    let gone = no_place (is_bundle c.args.name) (λ x. x) c.args.bundles.now.items 0 (rw c.deref.ensures.value at (sym c.bundle_place.ensures.place ∙ c.in_default.is)) in
    sym gone.whole
