use Rattle.std.proofs.Common.{◌∙◌, ap, sym, subst}
use Rattle.rand_core.specs.Stream.{Stream}
use Rattle.dill_stack.specs.Leaving.{next_dropped, step_of}
use Rattle.dill_stack.specs.Rooms.{Stocked}
use Rattle.dill_stack.specs.Sinking.{Sinks}
use Rattle.dill_stack.proofs.Sifts.{behind_item}
use Rattle.dill_stack.proofs.Sinkings.{pass_goes_on, drop_sinks}
use Rattle.dill_stack.proofs.stack.Stack.drop_next.Goals as goal

pub returns-then-pass_next : goal.returns-then-pass_next
returns-then-pass_next g c = pass_goes_on c.args.self.now c.pass_next.new.self (g.R.Rng.stream c.args.keys.now) (g.R.Rng.stream c.pass_next.new.keys) c.stands.ensures.standing c.if-pass_next.ensures

pub returns : goal.returns
returns g c =
    let random : Stream = g.R.Rng.stream c.args.keys.now in
    subst (λ (x : Stream). Sinks c.drop_one.result c.args.self.now c.drop_one.new.self random x) (sym c.if-pass_next.ensures.2)
    (drop_sinks c.prefix_laws.ensures c.suffix_laws.ensures c.http_laws.ensures.lines c.drop_one.result c.args.self.now c.drop_one.new.self random c.stands.ensures.standing c.stands.ensures.bounded c.if-pass_next.ensures.0 (c.drop_one.ensures.step ∙ ap {A = Stocked} (λ s. step_of (next_dropped s.held)) c.if-pass_next.ensures.1) (c.drop_one.ensures.after ∙ ap {A = Stocked} (λ s. behind_item (next_dropped s.held) s) c.if-pass_next.ensures.1))
