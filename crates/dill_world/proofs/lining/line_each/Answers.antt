use Rattle.std.proofs.Common.{◌∙◌, sym, subst, arith}
use Rattle.dill_rules.specs.State.{lined}
use Rattle.dill_world.specs.Store.{ArePlain}
use Rattle.dill_world.proofs.LinedUp.{changed_next, changed_all, all_lined}
use Rattle.dill_world.proofs.lining.line_each.Goals as goal

pub loop-c-preserved : goal.loop-c-preserved
loop-c-preserved g c = changed_next lined c.args.coroutines.now c.loop-c.coroutines c.loop-c.c-index c.c-item.result c.line_one.new.c c.loop-c-test.true c.loop-c.invariant c.line_one.ensures.row

pub returns-clause-rows : goal.returns-clause-rows
returns-clause-rows g c = c.loop-c.invariant ∙ changed_all lined c.args.coroutines.now c.loop-c.c-index (omega arith)

pub returns-clause-plain : goal.returns-clause-plain
returns-clause-plain g c = λ plain. subst ArePlain (sym (returns-clause-rows g c)) (all_lined c.args.coroutines.now plain)
