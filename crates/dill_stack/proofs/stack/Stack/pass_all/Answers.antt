use Rattle.std.proofs.Common.{◌≤◌, ◌∙◌, arith, max, sym, ap, subst}
use Rattle.rand_core.specs.Stream.{Stream}
use Rattle.dill_stack.specs.declared.want.Want.TheVariants.{Message}
use Rattle.dill_stack.specs.Receiving.{read}
use Rattle.dill_stack.specs.Rooms.{Stocked}
use Rattle.dill_stack.proofs.Passers.{reaches_first, reaches_on, reaches_end}
use Rattle.dill_stack.proofs.stack.Stack.pass_all.Goals as goal

pub loop-frame-init : goal.loop-frame-init
loop-frame-init g c = reaches_first c.args.limit c.unread_count-most.result c.args.self.now (g.R.Rng.stream c.args.keys.now) c.requires.standing (omega (arith, c.unread_count-most.ensures.count))

pub pass_next-requires : goal.pass_next-requires
pass_next-requires g c = subst (λ (s : Stocked). c.args.limit ≤ max 16384 s.most) (sym c.loop-frame.invariant.rest) c.requires.joined

pub returns-then-not-pass_next-clause-same : goal.returns-then-not-pass_next-clause-same
returns-then-not-pass_next-clause-same g c = ap {A = Stocked} (λ s. read (Message c.args.limit) (g.R.Rng.stream c.pass_next.new.keys) s.held) c.if-not-pass_next.ensures.1 ∙ ap {A = Stream} (λ r. read (Message c.args.limit) r c.loop-frame.self.held) c.if-not-pass_next.ensures.2 ∙ c.loop-frame.invariant.same

pub returns-then-not-pass_next-clause-last : goal.returns-then-not-pass_next-clause-last
returns-then-not-pass_next-clause-last g c = rw c.if-not-pass_next.ensures.1 c.if-not-pass_next.ensures.0

pub returns-then-not-pass_next-clause-rest : goal.returns-then-not-pass_next-clause-rest
returns-then-not-pass_next-clause-rest g c = c.if-not-pass_next.ensures.1 ∙ c.loop-frame.invariant.rest ∙ ap {A = Stocked} (λ s. record c.args.self.now { held = s.held }) (sym c.if-not-pass_next.ensures.1)

pub loop-frame-preserved : goal.loop-frame-preserved
loop-frame-preserved g c = reaches_on c.args.limit c.unread_count-most.result c.loop-frame._frame c.args.self.now c.loop-frame.self c.pass_next.new.self (g.R.Rng.stream c.args.keys.now) (g.R.Rng.stream c.loop-frame.keys) (g.R.Rng.stream c.pass_next.new.keys) c.loop-frame.invariant c.if-not-pass_next.ensures

pub returns-clause-same : goal.returns-clause-same
returns-clause-same g c = c.loop-frame.invariant.same

pub returns-clause-last : goal.returns-clause-last
returns-clause-last g c = reaches_end c.args.limit c.unread_count-most.result c.loop-frame._frame c.args.self.now c.loop-frame.self (g.R.Rng.stream c.args.keys.now) (g.R.Rng.stream c.loop-frame.keys) (omega arith) c.loop-frame.invariant

pub returns-clause-rest : goal.returns-clause-rest
returns-clause-rest g c = c.loop-frame.invariant.rest
