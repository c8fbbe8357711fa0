use Rattle.std.proofs.Common.{sym, ◌∙◌}
use Rattle.dill_chan.specs.Channels.{is_end}
use Rattle.dill_base.proofs.Places.{place, no_place}
use Rattle.dill_chan.proofs.ends.remove_end.Goals as goal

pub returns-in-Some : goal.returns-in-Some
returns-in-Some c =
    let found = place (is_end c.args.name) (λ x. x) c.remove.result c.args.ends.now.items c.in-Some.at (rw c.deref.ensures.value at (sym c.in-Some.ensures.place)) in
    c.remove.ensures.items ∙ sym found.left

pub returns-in_default : goal.returns-in_default
returns-in_default c =
    let gone = no_place (is_end c.args.name) (λ x. x) c.args.ends.now.items 0 (rw c.deref.ensures.value at (sym c.place_of.ensures.place ∙ c.in_default.is)) in
    sym gone.whole
