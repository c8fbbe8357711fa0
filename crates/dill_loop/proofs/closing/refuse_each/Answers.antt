use Rattle.std.proofs.Common.{◌∙◌, arith}
use Rattle.dill_loop.specs.Calls.{refused_at}
use Rattle.dill_loop.proofs.Each.{changed_next, changed_all}
use Rattle.dill_loop.proofs.closing.refuse_each.Goals as goal

pub loop-pair-preserved : goal.loop-pair-preserved
loop-pair-preserved c = changed_next (refused_at c.args.listener) c.args.pairs.now c.loop-pair.pairs c.loop-pair.pair-index c.pair-item.result c.refuse.new.self c.loop-pair-test.true c.loop-pair.invariant c.refuse.ensures

pub returns : goal.returns
returns c = c.loop-pair.invariant ∙ changed_all (refused_at c.args.listener) c.args.pairs.now c.loop-pair.pair-index (omega arith)
