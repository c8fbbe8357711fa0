use Rattle.std.proofs.Common.{◌≡◌, ◌++◌, map, take, drop}
use Rattle.dill_rules.specs.Links.{rested_link}
use Rattle.dill_links.proofs.links.rest_each.Given as goal

abbrev pub invariant-loop-row : goal.invariant-loop-row
invariant-loop-row l = l.rows ≡ map rested_link (take l.row-index l.fn.rows) ++ drop l.row-index l.fn.rows
