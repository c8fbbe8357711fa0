use Rattle.std.proofs.Common.{Some, sym, ap, ◌∙◌, option_map}
use Rattle.dill_handles.specs.Handles.{is_entry}
use Rattle.dill_base.proofs.Places.{place, no_place}
use Rattle.dill_handles.proofs.handles.drop_entry.Goals as goal

pub returns-in-None-clause-items : goal.returns-in-None-clause-items
returns-in-None-clause-items g c =
    let gone = no_place (is_entry c.args.number) (λ x. x) c.args.entries.now.items 0 (rw c.deref.ensures.value at (sym c.in-None.ensures.place)) in
    sym gone.whole

pub returns-in-None-clause-thing : goal.returns-in-None-clause-thing
returns-in-None-clause-thing g c =
    let gone = no_place (is_entry c.args.number) (λ x. x) c.args.entries.now.items 0 (rw c.deref.ensures.value at (sym c.in-None.ensures.place)) in
    sym (ap (option_map (λ x. x.thing)) gone.none)

pub returns-in-Some-clause-items : goal.returns-in-Some-clause-items
returns-in-Some-clause-items g c =
    let found = place (is_entry c.args.number) (λ x. x) c.remove-thing.result c.args.entries.now.items c.in-Some.at (rw c.deref.ensures.value at (sym c.in-Some.ensures.place)) in
    c.remove-thing.ensures.items ∙ sym found.left

pub returns-in-Some-clause-thing : goal.returns-in-Some-clause-thing
returns-in-Some-clause-thing g c =
    let found = place (is_entry c.args.number) (λ x. x) c.remove-thing.result c.args.entries.now.items c.in-Some.at (rw c.deref.ensures.value at (sym c.in-Some.ensures.place)) in
    sym (ap (option_map (λ x. x.thing)) found.found ∙ ap (λ y. Some y.thing) (sym c.remove-thing.ensures.value))
