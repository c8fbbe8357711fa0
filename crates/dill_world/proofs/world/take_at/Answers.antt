use Rattle.std.proofs.Common.{sym, ap, ◌∙◌, slice_set, subst, refl}
use Rattle.dill_rules.specs.World.{is_coroutine, with_mode}
use Rattle.dill_rules.specs.declared.coroutine.Mode.TheVariants as modes
use Rattle.dill_world.specs.Store.{is_plain_row, ArePlain}
use Rattle.dill_base.proofs.Places.{place, no_place}
use Rattle.dill_world.proofs.Each.{all_change}
use Rattle.dill_world.proofs.Running.{taken_at, taken_none}
use Rattle.dill_world.proofs.world.take_at.Goals as goal

pub returns-in-None-clause-given : goal.returns-in-None-clause-given
returns-in-None-clause-given g c = taken_none c.args.coroutines.now.items c.args.who (rw c.deref.ensures.value at (sym c.in-None.ensures.place))

pub returns-in-None-clause-rows : goal.returns-in-None-clause-rows
returns-in-None-clause-rows g c =
    let gone = no_place (is_coroutine c.args.who) (with_mode modes.Running) c.args.coroutines.now.items 0 (rw c.deref.ensures.value at (sym c.in-None.ensures.place)) in
    sym gone.same

pub returns-in-Some-clause-given : goal.returns-in-Some-clause-given
returns-in-Some-clause-given g c =
    taken_at c.args.coroutines.now.items c.args.who c.in-Some.at c.index_mut-one.result.now c.take.result (rw c.deref.ensures.value at (sym c.in-Some.ensures.place)) c.index_mut-one.ensures.value c.take.ensures.given

pub returns-in-Some-clause-rows : goal.returns-in-Some-clause-rows
returns-in-Some-clause-rows g c =
    let xs = c.args.coroutines.now.items in
    let found = place (is_coroutine c.args.who) (with_mode modes.Running) c.index_mut-one.result.now xs c.in-Some.at (rw c.deref.ensures.value at (sym c.in-Some.ensures.place)) in
    ap (λ y. slice_set xs c.in-Some.at y) c.take.ensures.runs ∙ sym (found.changed ∙ ap (λ y. slice_set xs c.in-Some.at (with_mode modes.Running y)) (sym c.index_mut-one.ensures.value))

pub returns-in-Some-clause-plain : goal.returns-in-Some-clause-plain
returns-in-Some-clause-plain g c = λ plain. subst (λ ys. ArePlain ys) (sym (returns-in-Some-clause-rows g c)) (all_change is_plain_row (is_coroutine c.args.who) (with_mode modes.Running) (λ x. refl) c.args.coroutines.now.items plain)
