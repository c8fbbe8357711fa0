use Rattle.std.proofs.Common.{sym, ◌∙◌}
use Rattle.dill_pollset.specs.Watching.{is_of}
use Rattle.dill_base.proofs.Places.{place, no_place}
use Rattle.dill_pollset.proofs.pollset.remove_link.Goals as goal

pub returns-in-Some-clause-items : goal.returns-in-Some-clause-items
returns-in-Some-clause-items c =
    let found = place (is_of c.args.link) (λ x. x) c.remove-gone.result c.args.interests.now.items c.in-Some.at (rw c.deref.ensures.value at (sym c.in-Some.ensures.place)) in
    c.remove-gone.ensures.items ∙ sym found.left

pub returns-in_default-clause-items : goal.returns-in_default-clause-items
returns-in_default-clause-items c =
    let gone = no_place (is_of c.args.link) (λ x. x) c.args.interests.now.items 0 (rw c.deref.ensures.value at (sym c.place_of.ensures.place ∙ c.in_default.is)) in
    sym gone.whole
