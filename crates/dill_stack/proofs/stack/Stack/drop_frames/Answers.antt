use Rattle.std.proofs.Common.{◌∙◌, arith, sym, ap}
use Rattle.std.specs.Prelude.{is_some}
use Rattle.dill_base.specs.declared.errno.Errno.TheVariants.{Epipe}
use Rattle.dill_stack.specs.declared.dropping.DropStep.TheVariants as step
use Rattle.dill_stack.specs.declared.want.ReadOut.TheVariants.{Fault}
use Rattle.dill_stack.specs.Leaving.{step_of, next_dropped}
use Rattle.dill_stack.specs.Read.{no_more}
use Rattle.dill_stack.specs.Rooms.{Stocked}
use Rattle.dill_stack.proofs.Drops.{held_stop}
use Rattle.dill_stack.proofs.Seers.{joined_there}
use Rattle.dill_stack.proofs.Sifts.{behind_item, drops_top_met, drops_below_met, message_drops, close_there, close_drops, open_drops, refused_drops}
use Rattle.dill_stack.proofs.stack.Stack.drop_frames.Goals as goal

pub returns-then-has_top_met-clause-step : goal.returns-then-has_top_met-clause-step
returns-then-has_top_met-clause-step c = sym (ap step_of (drops_top_met c.args.self.now.held.layers c.args.self.now.held.unread c.args.self.now.held.receiving.done c.stands.ensures.standing c.requires.framed (sym c.has_top_met.ensures ∙ c.if-has_top_met.true)))

pub returns-then-has_top_met-clause-after : goal.returns-then-has_top_met-clause-after
returns-then-has_top_met-clause-after c = c.leave.ensures ∙ ap (λ d. behind_item d c.args.self.now) (sym (drops_top_met c.args.self.now.held.layers c.args.self.now.held.unread c.args.self.now.held.receiving.done c.stands.ensures.standing c.requires.framed (sym c.has_top_met.ensures ∙ c.if-has_top_met.true)))

pub returns-then-has_met-clause-step : goal.returns-then-has_met-clause-step
returns-then-has_met-clause-step c = sym (ap step_of (drops_below_met c.args.self.now.held.layers c.args.self.now.held.unread c.args.self.now.held.receiving.done c.stands.ensures.standing c.requires.framed (sym c.has_top_met.ensures ∙ c.if-has_top_met.false) (sym c.has_met.ensures ∙ c.if-has_met.true)))

pub returns-then-has_met-clause-after : goal.returns-then-has_met-clause-after
returns-then-has_met-clause-after c = held_stop c.args.self.now (next_dropped c.args.self.now.held) (Fault Epipe) (drops_below_met c.args.self.now.held.layers c.args.self.now.held.unread c.args.self.now.held.receiving.done c.stands.ensures.standing c.requires.framed (sym c.has_top_met.ensures ∙ c.if-has_top_met.false) (sym c.has_met.ensures ∙ c.if-has_met.true))

pub drop_joined-requires : goal.drop_joined-requires
drop_joined-requires c = ap is_some (joined_there 16384 c.args.self.now c.see.new.self c.in-Message.ensures)

pub returns-in-Message-clause-step : goal.returns-in-Message-clause-step
returns-in-Message-clause-step c = c.drop_joined.ensures.step ∙ (message_drops c.args.self.now c.see.new.self c.stands.ensures.standing (sym c.has_met.ensures ∙ c.if-has_met.false) c.in-Message.ensures).0

pub returns-in-Message-clause-after : goal.returns-in-Message-clause-after
returns-in-Message-clause-after c = c.drop_joined.ensures.after ∙ (message_drops c.args.self.now c.see.new.self c.stands.ensures.standing (sym c.has_met.ensures ∙ c.if-has_met.false) c.in-Message.ensures).1

pub drop_close-requires : goal.drop_close-requires
drop_close-requires c = close_there c.args.self.now c.see.new.self c.in-Close.ensures

pub returns-in-Close-clause-step : goal.returns-in-Close-clause-step
returns-in-Close-clause-step c = c.drop_close.ensures.step ∙ (close_drops c.args.self.now c.see.new.self c.stands.ensures.standing (sym c.has_met.ensures ∙ c.if-has_met.false) c.in-Close.ensures).0

pub returns-in-Close-clause-after : goal.returns-in-Close-clause-after
returns-in-Close-clause-after c = c.drop_close.ensures.after ∙ (close_drops c.args.self.now c.see.new.self c.stands.ensures.standing (sym c.has_met.ensures ∙ c.if-has_met.false) c.in-Close.ensures).1

pub returns-in-Open-clause-step : goal.returns-in-Open-clause-step
returns-in-Open-clause-step c = ap (λ r. step.Stops r) (c.awaits.ensures ∙ ap {A = Stocked} (λ s. no_more s.held.receiving.done c.in-Open.boundary s.held.unread) c.in-Open.ensures.now_is) ∙ sym (ap step_of (open_drops c.in-Open.boundary c.args.self.now c.see.new.self c.stands.ensures.standing (sym c.has_met.ensures ∙ c.if-has_met.false) c.in-Open.ensures))

pub returns-in-Open-clause-after : goal.returns-in-Open-clause-after
returns-in-Open-clause-after c = c.in-Open.ensures.now_is ∙ held_stop c.args.self.now (next_dropped c.args.self.now.held) (no_more c.args.self.now.held.receiving.done c.in-Open.boundary c.args.self.now.held.unread) (open_drops c.in-Open.boundary c.args.self.now c.see.new.self c.stands.ensures.standing (sym c.has_met.ensures ∙ c.if-has_met.false) c.in-Open.ensures)

pub returns-in-Refused-clause-step : goal.returns-in-Refused-clause-step
returns-in-Refused-clause-step c = sym (ap step_of (refused_drops c.in-Refused.e c.args.self.now c.see.new.self c.stands.ensures.standing (sym c.has_met.ensures ∙ c.if-has_met.false) c.in-Refused.ensures))

pub returns-in-Refused-clause-after : goal.returns-in-Refused-clause-after
returns-in-Refused-clause-after c = c.in-Refused.ensures.now_is ∙ held_stop c.args.self.now (next_dropped c.args.self.now.held) (Fault c.in-Refused.e) (refused_drops c.in-Refused.e c.args.self.now c.see.new.self c.stands.ensures.standing (sym c.has_met.ensures ∙ c.if-has_met.false) c.in-Refused.ensures)

pub see-requires : goal.see-requires
see-requires c = record { joined = omega arith; last = c.requires.last; unmet = sym c.has_met.ensures ∙ c.if-has_met.false; framed = c.requires.framed }
