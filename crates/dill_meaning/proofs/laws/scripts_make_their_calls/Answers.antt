use Rattle.dill_meaning.proofs.Begun.{main_is_there}
use Rattle.dill_meaning.proofs.Reached.{each_statement, each_turn}
use Rattle.dill_meaning.proofs.laws.scripts_make_their_calls.Goals as goal

pub returns-clause-statements : goal.returns-clause-statements
returns-clause-statements c = each_statement c.script_laws.ensures.formed c.script_laws.ensures.apart c.script_laws.ensures.starts

pub returns-clause-turns : goal.returns-clause-turns
returns-clause-turns c = each_turn (each_statement c.script_laws.ensures.formed c.script_laws.ensures.apart c.script_laws.ensures.starts)

pub returns-clause-main : goal.returns-clause-main
returns-clause-main c = main_is_there c.script_laws.ensures.within c.script_laws.ensures.mains
