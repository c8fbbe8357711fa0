use Rattle.std.proofs.Common.{sym, ◌∙◌, subst}
use Rattle.dill_rules.specs.World.{is_coroutine}
use Rattle.dill_world.specs.Store.{is_plain_row, ArePlain}
use Rattle.dill_base.proofs.Places.{place, no_place}
use Rattle.dill_world.proofs.Each.{all_without}
use Rattle.dill_world.proofs.rows.drop_coroutine.Goals as goal

pub returns-in-Some-clause-rows : goal.returns-in-Some-clause-rows
returns-in-Some-clause-rows g c =
    let found = place (is_coroutine c.args.who) (λ x. x) c.remove.result c.args.coroutines.now.items c.in-Some.at (rw c.deref.ensures.value at (sym c.in-Some.ensures.place)) in
    c.remove.ensures.items ∙ sym found.left

pub returns-in-Some-clause-plain : goal.returns-in-Some-clause-plain
returns-in-Some-clause-plain g c = λ plain. subst (λ ys. ArePlain ys) (sym (returns-in-Some-clause-rows g c)) (all_without is_plain_row (is_coroutine c.args.who) c.args.coroutines.now.items plain)

pub returns-in_default-clause-rows : goal.returns-in_default-clause-rows
returns-in_default-clause-rows g c =
    let gone = no_place (is_coroutine c.args.who) (λ x. x) c.args.coroutines.now.items 0 (rw c.deref.ensures.value at (sym c.place_of.ensures.place ∙ c.in_default.is)) in
    sym gone.whole
