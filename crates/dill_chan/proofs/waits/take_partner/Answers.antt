use Rattle.std.proofs.Common.{sym, ◌∙◌}
use Rattle.dill_chan.specs.Seats.{could_meet}
use Rattle.dill_base.proofs.Places.{place, no_place}
use Rattle.dill_chan.proofs.Taking.{taken, found_at}
use Rattle.dill_chan.proofs.waits.take_partner.Goals as goal

pub returns-in-Some-clause-found : goal.returns-in-Some-clause-found
returns-in-Some-clause-found c =
    let there = place (could_meet c.args.who c.args.other c.args.want.now) (λ x. x) c.remove-found.result c.args.waits.now.items c.in-Some.at (rw c.deref.ensures.value at (sym c.in-Some.ensures.place)) in
    found_at _ c.args.waits.now.items c.in-Some.at c.remove-found.result c.remove-found.ensures.value there.found

pub returns-in-Some-clause-left : goal.returns-in-Some-clause-left
returns-in-Some-clause-left c =
    let there = place (could_meet c.args.who c.args.other c.args.want.now) (λ x. x) c.remove-found.result c.args.waits.now.items c.in-Some.at (rw c.deref.ensures.value at (sym c.in-Some.ensures.place)) in
    c.leave.ensures.items ∙ taken c.args.waits.now.items _ c.in-Some.at c.remove-found.result there.within c.remove-found.ensures.value c.remove-found.ensures.items

pub returns-in-None-clause-found : goal.returns-in-None-clause-found
returns-in-None-clause-found c =
    let gone = no_place (could_meet c.args.who c.args.other c.args.want.now) (λ x. x) c.args.waits.now.items 0 (rw c.deref.ensures.value at (sym c.place_of_partner.ensures.place ∙ c.in-None.is)) in
    sym gone.none
