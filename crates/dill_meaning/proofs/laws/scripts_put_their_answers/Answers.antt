use Rattle.dill_meaning.proofs.Put.{each_answer}
use Rattle.dill_meaning.proofs.Wide.{begins_wide, stays_wide}
use Rattle.dill_meaning.proofs.laws.scripts_put_their_answers.Goals as goal

pub returns-clause-begins : goal.returns-clause-begins
returns-clause-begins c = begins_wide c.script_laws.ensures.mains

pub returns-clause-stays : goal.returns-clause-stays
returns-clause-stays c = stays_wide

pub returns-clause-puts : goal.returns-clause-puts
returns-clause-puts c = each_answer c.script_laws.ensures.formed
