use Rattle.std.proofs.Common.{sym, ap, ◌∙◌}
use Rattle.dill_chan.specs.declared.meeting.Meeting.TheVariants.{Met}
use Rattle.dill_chan.proofs.Taking.{meets}
use Rattle.dill_chan.proofs.channels.comes_of.Goals as goal

pub returns-in_ok-meet_copied-in-Some-find_partner : goal.returns-in_ok-meet_copied-in-Some-find_partner
returns-in_ok-meet_copied-in-Some-find_partner c =
    let w = c.args.wait.now in
    ap Met c.in_ok-meet_copied-in-Some-find_partner.ensures ∙ meets c.args.ends.now c.args.waits.now w.who w.end w.want c.in-Some.here c.in-Some-find_partner.found.now (sym c.has_ended.ensures ∙ c.if-has_ended.false) (sym c.in-Some.ensures) (sym c.in-Some-find_partner.ensures)
