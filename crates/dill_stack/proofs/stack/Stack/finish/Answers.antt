use Rattle.std.proofs.Common.{◌∙◌, sym}
use Rattle.dill_stack.proofs.Endings.{finish_waits}
use Rattle.dill_stack.proofs.Finishing.{finishes, rests}
use Rattle.dill_stack.proofs.stack.Stack.finish.Goals as goal

pub returns-then-not-is_sent-clause-look : goal.returns-then-not-is_sent-clause-look
returns-then-not-is_sent-clause-look g c = finish_waits (g.R.Rng.stream c.args.keys.now) c.args.self.now.held (sym c.is_sent.ensures ∙ c.if-not-is_sent.true)

pub returns-clause-look : goal.returns-clause-look
returns-clause-look g c = finishes (g.R.Rng.stream c.args.keys.now) (g.R.Rng.stream c.drop_all-said.new.keys) c.args.self.now.held c.drop_all-said.new.self c.rest_if.new.self c.drop_all-said.result c.is_given.result (sym c.is_sent.ensures ∙ c.if-not-is_sent.false) c.drop_all-said.ensures.look c.is_given.ensures c.rest_if.ensures

pub returns-clause-rest : goal.returns-clause-rest
returns-clause-rest g c = rests c.args.self.now c.drop_all-said.new.self c.rest_if.new.self c.is_given.result c.drop_all-said.ensures.rest c.rest_if.ensures
