use Rattle.std.proofs.Common.{sym, ap, ◌∙◌, Some}
use Rattle.dill_scope.specs.Scopes.{is_home}
use Rattle.dill_base.proofs.Places.{place, no_place}
use Rattle.dill_scope.proofs.places.end_home.Goals as goal

pub returns-in-Some-clause-gone : goal.returns-in-Some-clause-gone
returns-in-Some-clause-gone c =
    let found = place (is_home c.args.who) (λ x. x) c.remove.result c.args.homes.now.items c.in-Some.at (rw c.deref.ensures.value at (sym c.in-Some.ensures.place)) in
    c.remove.ensures.items ∙ sym found.left

pub returns-in-Some-clause-home : goal.returns-in-Some-clause-home
returns-in-Some-clause-home c =
    let found = place (is_home c.args.who) (λ x. x) c.remove.result c.args.homes.now.items c.in-Some.at (rw c.deref.ensures.value at (sym c.in-Some.ensures.place)) in
    rw found.found (ap (λ x. Some x.bundle) (sym c.remove.ensures.value))

pub returns-in-None-clause-gone : goal.returns-in-None-clause-gone
returns-in-None-clause-gone c =
    let gone = no_place (is_home c.args.who) (λ x. x) c.args.homes.now.items 0 (rw c.deref.ensures.value at (sym c.home_place.ensures.place ∙ c.in-None.is)) in
    sym gone.whole

pub returns-in-None-clause-home : goal.returns-in-None-clause-home
returns-in-None-clause-home c =
    let gone = no_place (is_home c.args.who) (λ x. x) c.args.homes.now.items 0 (rw c.deref.ensures.value at (sym c.home_place.ensures.place ∙ c.in-None.is)) in
    cc (rw gone.none at c.requires)
