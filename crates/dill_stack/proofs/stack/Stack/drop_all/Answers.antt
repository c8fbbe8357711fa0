use Rattle.std.proofs.Common.{◌∙◌, arith, ap}
use Rattle.dill_stack.specs.Receiving.{looked_over}
use Rattle.dill_stack.proofs.Drops.{all_by}
use Rattle.dill_stack.proofs.Sinkings.{reaches_first, reaches_on, reaches_stop, reaches_out}
use Rattle.dill_stack.proofs.stack.Stack.drop_all.Goals as goal

pub loop-item-init : goal.loop-item-init
loop-item-init g c = reaches_first c.unread_count-most.result c.args.self.now (g.R.Rng.stream c.args.keys.now) (omega (arith, c.unread_count-most.ensures.count))

pub loop-item-preserved : goal.loop-item-preserved
loop-item-preserved g c = reaches_on c.unread_count-most.result c.loop-item._item c.args.self.now c.loop-item.self c.drop_next.new.self (g.R.Rng.stream c.args.keys.now) (g.R.Rng.stream c.loop-item.keys) (g.R.Rng.stream c.drop_next.new.keys) c.loop-item.invariant c.in-Item.ensures

pub returns-in-End-clause-look : goal.returns-in-End-clause-look
returns-in-End-clause-look g c = ap (λ o. looked_over o (g.R.Rng.stream c.args.keys.now) c.args.self.now.held) (all_by c.args.self.now.held) ∙ (reaches_stop c.unread_count-most.result c.loop-item._item c.args.self.now c.loop-item.self c.drop_next.new.self (g.R.Rng.stream c.args.keys.now) (g.R.Rng.stream c.loop-item.keys) (g.R.Rng.stream c.drop_next.new.keys) _ c.loop-item.invariant c.in-End.ensures).0

pub returns-in-End-clause-rest : goal.returns-in-End-clause-rest
returns-in-End-clause-rest g c = (reaches_stop c.unread_count-most.result c.loop-item._item c.args.self.now c.loop-item.self c.drop_next.new.self (g.R.Rng.stream c.args.keys.now) (g.R.Rng.stream c.loop-item.keys) (g.R.Rng.stream c.drop_next.new.keys) _ c.loop-item.invariant c.in-End.ensures).1

pub returns-in-Stops-clause-look : goal.returns-in-Stops-clause-look
returns-in-Stops-clause-look g c = ap (λ o. looked_over o (g.R.Rng.stream c.args.keys.now) c.args.self.now.held) (all_by c.args.self.now.held) ∙ (reaches_stop c.unread_count-most.result c.loop-item._item c.args.self.now c.loop-item.self c.drop_next.new.self (g.R.Rng.stream c.args.keys.now) (g.R.Rng.stream c.loop-item.keys) (g.R.Rng.stream c.drop_next.new.keys) c.in-Stops.said c.loop-item.invariant c.in-Stops.ensures).0

pub returns-in-Stops-clause-rest : goal.returns-in-Stops-clause-rest
returns-in-Stops-clause-rest g c = (reaches_stop c.unread_count-most.result c.loop-item._item c.args.self.now c.loop-item.self c.drop_next.new.self (g.R.Rng.stream c.args.keys.now) (g.R.Rng.stream c.loop-item.keys) (g.R.Rng.stream c.drop_next.new.keys) c.in-Stops.said c.loop-item.invariant c.in-Stops.ensures).1

pub returns-clause-look : goal.returns-clause-look
returns-clause-look g c = reaches_out c.unread_count-most.result c.loop-item._item c.args.self.now c.loop-item.self (g.R.Rng.stream c.args.keys.now) (g.R.Rng.stream c.loop-item.keys) (omega arith) c.loop-item.invariant

pub returns-clause-rest : goal.returns-clause-rest
returns-clause-rest g c = reaches_out c.unread_count-most.result c.loop-item._item c.args.self.now c.loop-item.self (g.R.Rng.stream c.args.keys.now) (g.R.Rng.stream c.loop-item.keys) (omega arith) c.loop-item.invariant
