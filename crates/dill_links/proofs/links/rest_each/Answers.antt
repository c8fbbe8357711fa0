use Rattle.std.proofs.Common.{◌∙◌, arith}
use Rattle.dill_rules.specs.Links.{rested_link}
use Rattle.dill_links.proofs.Each.{changed_next, changed_all}
use Rattle.dill_links.proofs.links.rest_each.Goals as goal

pub loop-row-preserved : goal.loop-row-preserved
loop-row-preserved c = changed_next rested_link c.args.rows.now c.loop-row.rows c.loop-row.row-index c.row-item.result c.rest.new.self c.loop-row-test.true c.loop-row.invariant c.rest.ensures

pub returns : goal.returns
returns c = c.loop-row.invariant ∙ changed_all rested_link c.args.rows.now c.loop-row.row-index (omega arith)
