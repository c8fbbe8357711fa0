use Rattle.std.proofs.Common.{is_some, ap, sym, ◌∙◌}
use Rattle.dill_base.proofs.Places.{no_place}
use Rattle.dill_rules.specs.Links.{is_link}
use Rattle.dill_links.proofs.links.place_in.Goals as goal

pub returns-in-None-clause-place : goal.returns-in-None-clause-place
returns-in-None-clause-place c =
    let gone = no_place (is_link c.args.number) (λ x. x) c.args.rows.now 0 (sym c.place_of.ensures.place ∙ c.in-None.is) in
    let both = sym (ap is_some gone.none) ∙ c.requires in
    cc
