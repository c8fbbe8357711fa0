use Rattle.std.proofs.Common.{sym, ap, ◌∙◌, slice_set}
use Rattle.dill_handles.specs.Handles.{is_entry, with_owner}
use Rattle.dill_base.proofs.Places.{place, no_place}
use Rattle.dill_handles.proofs.handles.own_entry.Goals as goal

pub returns-in-Some-clause-items : goal.returns-in-Some-clause-items
returns-in-Some-clause-items g c =
    let xs = c.args.entries.now.items in
    let found = place (is_entry c.args.number) (with_owner c.args.owner) c.index_mut-found.result.now xs c.in-Some.at (rw c.deref.ensures.value at (sym c.in-Some.ensures.place)) in
    sym (found.changed ∙ ap (λ y. slice_set xs c.in-Some.at (with_owner c.args.owner y)) (sym c.index_mut-found.ensures.value))

pub returns-in_default-clause-items : goal.returns-in_default-clause-items
returns-in_default-clause-items g c =
    let gone = no_place (is_entry c.args.number) (with_owner c.args.owner) c.args.entries.now.items 0 (rw c.deref.ensures.value at (sym c.place_of.ensures.place ∙ c.in_default.is)) in
    sym gone.same
