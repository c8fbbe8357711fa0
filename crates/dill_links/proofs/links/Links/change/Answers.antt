use Rattle.std.proofs.Common.{ap, sym, ◌∙◌}
use Rattle.dill_rules.specs.Links.{is_link, look}
use Rattle.dill_links.specs.Changing.{changed_link}
use Rattle.dill_links.proofs.Rows.{changed, absent, is_none}
use Rattle.dill_links.proofs.links.Links.change.Goals as goal

pub returns-then-has : goal.returns-then-has
returns-then-has c =
    let l = c.args.self.now in
    ap (λ all. record l { all = all }) (changed (is_link c.args.number) (changed_link c.args.change) c.row_mut.result.now c.change.new.self c.change.ensures l.all c.row_mut.ensures.row)

pub returns-else-has : goal.returns-else-has
returns-else-has c =
    let l = c.args.self.now in
    ap (λ all. record l { all = all }) (sym (absent (is_link c.args.number) (changed_link c.args.change) l.all (is_none (look l c.args.number) (sym c.has.ensures ∙ c.if-has.false))))
