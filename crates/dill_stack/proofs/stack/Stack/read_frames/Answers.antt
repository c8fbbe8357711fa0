use Rattle.std.proofs.Common.{◌≡◌, ◌∙◌, arith, sym, ap, length}
use Rattle.dill_base.specs.declared.errno.Errno.TheVariants.{Epipe}
use Rattle.dill_stack.specs.declared.want.ReadOut.TheVariants.{Fault}
use Rattle.dill_stack.specs.declared.want.Want.TheVariants.{Message}
use Rattle.dill_stack.specs.Read.{Outcome, outcome, no_more}
use Rattle.dill_stack.specs.Receiving.{read_of, broken_by}
use Rattle.dill_stack.specs.Rooms.{Stocked}
use Rattle.dill_stack.specs.Seeing.{joined_by, joined_in}
use Rattle.dill_stack.specs.Taking.{after}
use Rattle.dill_stack.specs.Answering.{sizes}
use Rattle.dill_stack.proofs.Copies.{fits_more}
use Rattle.dill_stack.proofs.Seers.{list_is, met_message, joined_there, reads_close, reads_open, reads_refused, reads_given, reads_pings}
use Rattle.dill_stack.proofs.TowerReads.{draws_none, need_after, stays_met}
use Rattle.dill_stack.proofs.stack.Stack.read_frames.Goals as goal

was_met : (c : goal.Then-has_met) → read_of (Message c.args.limit) c.args.self.now.held ≡ outcome 0 c.args.self.now.held.layers (Fault Epipe)
was_met c = list_is c.args.limit c.args.self.now.held ∙ met_message c.args.self.now.held.layers c.args.self.now.held.unread c.args.self.now.held.receiving.done c.args.limit c.stands.ensures.standing c.requires.framed (sym c.has_met.ensures ∙ c.if-has_met.true)

pub returns-then-has_met-clause-said : goal.returns-then-has_met-clause-said
returns-then-has_met-clause-said c = sym (ap (λ o. o.said) (was_met c))

pub returns-then-has_met-clause-after : goal.returns-then-has_met-clause-after
returns-then-has_met-clause-after c = stays_met c.args.self.now _ (was_met c)

pub returns-then-has_met-clause-plain : goal.returns-then-has_met-clause-plain
returns-then-has_met-clause-plain c = draws_none (read_of (Message c.args.limit) c.args.self.now.held) c.args.self.now.held (ap (λ (o : Outcome). o.pings) (was_met c))

pub give_joined-requires : goal.give_joined-requires
give_joined-requires c =
    let j : joined_in c.see.new.self.held.layers ≡ c.in-Message.ensures.all = ap joined_by (joined_there c.args.limit c.args.self.now c.see.new.self c.in-Message.ensures) in
    omega (arith, ap length j, c.in-Message.ensures.within, c.requires.room)

pub returns-in-Message-clause-within : goal.returns-in-Message-clause-within
returns-in-Message-clause-within c =
    let j : joined_in c.see.new.self.held.layers ≡ c.in-Message.ensures.all = ap joined_by (joined_there c.args.limit c.args.self.now c.see.new.self c.in-Message.ensures) in
    fits_more c.give_joined.result (sizes (length (joined_in c.see.new.self.held.layers)) 0) (sizes c.args.limit 0) (omega (arith, ap length j, c.in-Message.ensures.within)) (omega arith) c.give_joined.ensures.within

pub returns-in-Message-clause-said : goal.returns-in-Message-clause-said
returns-in-Message-clause-said c = c.give_joined.ensures.said ∙ sym (reads_given c.args.limit c.args.self.now c.see.new.self c.stands.ensures.standing (sym c.has_met.ensures ∙ c.if-has_met.false) c.in-Message.ensures).0 ∙ sym (ap (λ (o : Outcome). o.said) (list_is c.args.limit c.args.self.now.held))

pub returns-in-Message-clause-after : goal.returns-in-Message-clause-after
returns-in-Message-clause-after c = c.give_joined.ensures.after ∙ sym (reads_given c.args.limit c.args.self.now c.see.new.self c.stands.ensures.standing (sym c.has_met.ensures ∙ c.if-has_met.false) c.in-Message.ensures).1 ∙ ap (λ (o : Outcome). after o c.args.self.now) (sym (list_is c.args.limit c.args.self.now.held))

pub returns-in-Message-clause-plain : goal.returns-in-Message-clause-plain
returns-in-Message-clause-plain c = draws_none (read_of (Message c.args.limit) c.args.self.now.held) c.args.self.now.held (ap (λ (o : Outcome). o.pings) (list_is c.args.limit c.args.self.now.held) ∙ reads_pings c.args.limit c.args.self.now c.see.new.self c.see.result c.stands.ensures.standing (sym c.has_met.ensures ∙ c.if-has_met.false) c.see.ensures)

pub returns-in-Close-clause-said : goal.returns-in-Close-clause-said
returns-in-Close-clause-said c = sym (ap (λ (o : Outcome). o.said) (list_is c.args.limit c.args.self.now.held ∙ reads_close c.args.limit c.args.self.now c.see.new.self c.stands.ensures.standing (sym c.has_met.ensures ∙ c.if-has_met.false) c.in-Close.ensures))

pub returns-in-Close-clause-after : goal.returns-in-Close-clause-after
returns-in-Close-clause-after c = c.in-Close.ensures.now_is ∙ ap (λ (o : Outcome). after o c.args.self.now) (sym (list_is c.args.limit c.args.self.now.held ∙ reads_close c.args.limit c.args.self.now c.see.new.self c.stands.ensures.standing (sym c.has_met.ensures ∙ c.if-has_met.false) c.in-Close.ensures))

pub returns-in-Close-clause-plain : goal.returns-in-Close-clause-plain
returns-in-Close-clause-plain c = draws_none (read_of (Message c.args.limit) c.args.self.now.held) c.args.self.now.held (ap (λ (o : Outcome). o.pings) (list_is c.args.limit c.args.self.now.held) ∙ reads_pings c.args.limit c.args.self.now c.see.new.self c.see.result c.stands.ensures.standing (sym c.has_met.ensures ∙ c.if-has_met.false) c.see.ensures)

pub returns-in-Open-clause-said : goal.returns-in-Open-clause-said
returns-in-Open-clause-said c = c.nothing_whole.ensures.said ∙ ap {A = Stocked} (λ s. no_more s.held.receiving.done c.in-Open.boundary s.held.unread) c.in-Open.ensures.now_is ∙ sym (ap (λ (o : Outcome). o.said) (list_is c.args.limit c.args.self.now.held ∙ reads_open c.args.limit c.in-Open.boundary c.args.self.now c.see.new.self c.stands.ensures.standing (sym c.has_met.ensures ∙ c.if-has_met.false) c.in-Open.ensures))

pub returns-in-Open-clause-after : goal.returns-in-Open-clause-after
returns-in-Open-clause-after c = c.nothing_whole.ensures.after ∙ ap {A = Stocked} (λ s. record s { held = broken_by c.nothing_whole.result s.held }) c.in-Open.ensures.now_is ∙ need_after c.args.self.now (read_of (Message c.args.limit) c.args.self.now.held) c.nothing_whole.result c.in-Open.boundary (list_is c.args.limit c.args.self.now.held ∙ reads_open c.args.limit c.in-Open.boundary c.args.self.now c.see.new.self c.stands.ensures.standing (sym c.has_met.ensures ∙ c.if-has_met.false) c.in-Open.ensures) (c.nothing_whole.ensures.said ∙ ap {A = Stocked} (λ s. no_more s.held.receiving.done c.in-Open.boundary s.held.unread) c.in-Open.ensures.now_is)

pub returns-in-Open-clause-plain : goal.returns-in-Open-clause-plain
returns-in-Open-clause-plain c = draws_none (read_of (Message c.args.limit) c.args.self.now.held) c.args.self.now.held (ap (λ (o : Outcome). o.pings) (list_is c.args.limit c.args.self.now.held) ∙ reads_pings c.args.limit c.args.self.now c.see.new.self c.see.result c.stands.ensures.standing (sym c.has_met.ensures ∙ c.if-has_met.false) c.see.ensures)

pub returns-in-Refused-clause-said : goal.returns-in-Refused-clause-said
returns-in-Refused-clause-said c = c.refuse.ensures.said ∙ sym (ap (λ (o : Outcome). o.said) (list_is c.args.limit c.args.self.now.held ∙ reads_refused c.args.limit c.in-Refused.e c.args.self.now c.see.new.self c.stands.ensures.standing (sym c.has_met.ensures ∙ c.if-has_met.false) c.in-Refused.ensures))

pub returns-in-Refused-clause-after : goal.returns-in-Refused-clause-after
returns-in-Refused-clause-after c = c.refuse.ensures.after ∙ ap {A = Stocked} (λ s. record s { held = broken_by (Fault c.in-Refused.e) s.held }) c.in-Refused.ensures.now_is ∙ ap (λ (o : Outcome). after o c.args.self.now) (sym (list_is c.args.limit c.args.self.now.held ∙ reads_refused c.args.limit c.in-Refused.e c.args.self.now c.see.new.self c.stands.ensures.standing (sym c.has_met.ensures ∙ c.if-has_met.false) c.in-Refused.ensures))

pub returns-in-Refused-clause-plain : goal.returns-in-Refused-clause-plain
returns-in-Refused-clause-plain c = draws_none (read_of (Message c.args.limit) c.args.self.now.held) c.args.self.now.held (ap (λ (o : Outcome). o.pings) (list_is c.args.limit c.args.self.now.held) ∙ reads_pings c.args.limit c.args.self.now c.see.new.self c.see.result c.stands.ensures.standing (sym c.has_met.ensures ∙ c.if-has_met.false) c.see.ensures)
