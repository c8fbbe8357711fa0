use Rattle.std.proofs.Common.{◌≡◌, false, find, sym, ap, ◌∙◌}
use Rattle.std.specs.Option.{is_some}
use Rattle.dill_rules.specs.Owning.{is_closing_of}
use Rattle.dill_base.proofs.Places.{place, no_place}
use Rattle.dill_world.proofs.rows.drop_closing.Goals as goal

pub returns-in-Some-clause-rows : goal.returns-in-Some-clause-rows
returns-in-Some-clause-rows c =
    let found = place (is_closing_of c.args.bundle) (λ x. x) c.remove.result c.args.closings.now.items c.in-Some.at (rw c.deref.ensures.value at (sym c.in-Some.ensures.place)) in
    c.remove.ensures.items ∙ sym found.left

pub returns-in_default-clause-rows : goal.returns-in_default-clause-rows
returns-in_default-clause-rows c =
    let gone = no_place (is_closing_of c.args.bundle) (λ x. x) c.args.closings.now.items 0 (rw c.deref.ensures.value at (sym c.closing_place.ensures.place ∙ c.in_default.is)) in
    sym gone.whole

pub returns-in_default-clause-less : goal.returns-in_default-clause-less
returns-in_default-clause-less c =
    let gone = no_place (is_closing_of c.args.bundle) (λ x. x) c.args.closings.now.items 0 (rw c.deref.ensures.value at (sym c.closing_place.ensures.place ∙ c.in_default.is)) in
    let none : is_some (find (is_closing_of c.args.bundle) c.args.closings.now.items) ≡ false = ap is_some gone.none in
    absurd (cc (none, c.requires))
