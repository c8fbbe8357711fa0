use Rattle.std.proofs.Common.{sym, ap, ◌∙◌, slice_set}
use Rattle.dill_chan.specs.Channels.{is_end, as_done}
use Rattle.dill_base.proofs.Places.{place, no_place}
use Rattle.dill_chan.proofs.ends.mark_done.Goals as goal

pub returns-in-Some : goal.returns-in-Some
returns-in-Some c =
    let xs = c.args.ends.now.items in
    let found = place (is_end c.args.name) as_done c.index_mut-found.result.now xs c.in-Some.at (rw c.deref.ensures.value at (sym c.in-Some.ensures.place)) in
    sym (found.changed ∙ ap (λ y. slice_set xs c.in-Some.at (as_done y)) (sym c.index_mut-found.ensures.value))

pub returns-in_default : goal.returns-in_default
returns-in_default c =
    let gone = no_place (is_end c.args.name) as_done c.args.ends.now.items 0 (rw c.deref.ensures.value at (sym c.place_of.ensures.place ∙ c.in_default.is)) in
    sym gone.same
