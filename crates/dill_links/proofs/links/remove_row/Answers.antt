use Rattle.std.proofs.Common.{sym, ◌∙◌}
use Rattle.dill_base.proofs.Places.{place, no_place}
use Rattle.dill_rules.specs.Links.{is_link}
use Rattle.dill_links.proofs.links.remove_row.Goals as goal

pub returns-in-Some-clause-items : goal.returns-in-Some-clause-items
returns-in-Some-clause-items c =
    let found = place (is_link c.args.number) (λ x. x) c.remove.result c.args.rows.now.items c.in-Some.at (rw c.deref.ensures.value at (sym c.in-Some.ensures.place)) in
    c.remove.ensures.items ∙ sym found.left

pub returns-in_default-clause-items : goal.returns-in_default-clause-items
returns-in_default-clause-items c =
    let gone = no_place (is_link c.args.number) (λ x. x) c.args.rows.now.items 0 (rw c.deref.ensures.value at (sym c.place_of.ensures.place ∙ c.in_default.is)) in
    sym gone.whole
