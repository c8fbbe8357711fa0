use Rattle.std.proofs.Common.{sym, ap, ◌∙◌, slice_set}
use Rattle.dill_pollset.specs.Watching.{is_of, changed}
use Rattle.dill_base.proofs.Places.{place, no_place}
use Rattle.dill_pollset.proofs.pollset.change_link.Goals as goal

pub returns-in-Some-clause-items : goal.returns-in-Some-clause-items
returns-in-Some-clause-items c =
    let xs = c.args.interests.now.items in
    let f = changed c.args.change c.args.read c.args.write in
    let found = place (is_of c.args.link) f c.index-found.result.now xs c.in-Some.at (rw c.deref.ensures.value at (sym c.in-Some.ensures.place)) in
    ap (slice_set xs c.in-Some.at) (c.changed.ensures ∙ ap f c.index-found.ensures) ∙ sym found.changed

pub returns-in_default-clause-items : goal.returns-in_default-clause-items
returns-in_default-clause-items c =
    let gone = no_place (is_of c.args.link) (changed c.args.change c.args.read c.args.write) c.args.interests.now.items 0 (rw c.deref.ensures.value at (sym c.place_of.ensures.place ∙ c.in_default.is)) in
    sym gone.same
