use Rattle.std.proofs.Common.{sym, ap, ◌∙◌}
use Rattle.dill_chan.specs.declared.meeting.Meeting.TheVariants.{Met}
use Rattle.dill_chan.proofs.Taking.{meets}
use Rattle.dill_chan.proofs.channels.enter.Goals as goal

pub returns-in-Some-take_partner-clause-met : goal.returns-in-Some-take_partner-clause-met
returns-in-Some-take_partner-clause-met c =
    let w = c.args.wait in
    ap Met c.meet.ensures ∙ meets c.args.ends.now c.args.waits.now.items w.who w.end w.want c.in-Some.here c.in-Some-take_partner.found (sym c.has_ended.ensures ∙ c.if-has_ended.false) (sym c.in-Some.ensures) (sym c.in-Some-take_partner.ensures.found)
