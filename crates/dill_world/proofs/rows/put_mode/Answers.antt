use Rattle.std.proofs.Common.{sym, ap, ◌∙◌, slice_set, subst}
use Rattle.dill_rules.specs.World.{is_coroutine, with_mode}
use Rattle.dill_world.specs.Store.{is_plain_row, ArePlain}
use Rattle.dill_base.proofs.Places.{place, no_place}
use Rattle.dill_world.proofs.Each.{all_change}
use Rattle.dill_world.proofs.rows.put_mode.Goals as goal

pub returns-in-Some-clause-rows : goal.returns-in-Some-clause-rows
returns-in-Some-clause-rows g c =
    let xs = c.args.coroutines.now.items in
    let found = place (is_coroutine c.args.who) (with_mode c.args.mode) c.index_mut-found.result.now xs c.in-Some.at (rw c.deref.ensures.value at (sym c.in-Some.ensures.place)) in
    ap (λ y. slice_set xs c.in-Some.at y) c.put.ensures ∙ sym (found.changed ∙ ap (λ y. slice_set xs c.in-Some.at (with_mode c.args.mode y)) (sym c.index_mut-found.ensures.value))

pub returns-in-Some-clause-plain : goal.returns-in-Some-clause-plain
returns-in-Some-clause-plain g c = λ plain. subst (λ ys. ArePlain ys) (sym (returns-in-Some-clause-rows g c)) (all_change is_plain_row (is_coroutine c.args.who) (with_mode c.args.mode) (λ x. c.requires.plain) c.args.coroutines.now.items plain)

pub returns-in_default-clause-rows : goal.returns-in_default-clause-rows
returns-in_default-clause-rows g c =
    let gone = no_place (is_coroutine c.args.who) (with_mode c.args.mode) c.args.coroutines.now.items 0 (rw c.deref.ensures.value at (sym c.place_of.ensures.place ∙ c.in_default.is)) in
    sym gone.same
