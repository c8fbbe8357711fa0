use Rattle.laws_scripts.proofs.Ending.{ends}
use Rattle.laws_scripts.proofs.laws.scripts_end.Goals as goal

pub returns-clause-runs : goal.returns-clause-runs
returns-clause-runs c = ends c.scripts_begin.ensures c.runs_are_steady.ensures c.runs_are_bounded.ensures c.runs_end.ensures c.waiting_is_for_somebody.ensures c.runs_close_well.ensures
