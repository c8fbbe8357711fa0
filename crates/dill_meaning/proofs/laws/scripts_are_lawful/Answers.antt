use Rattle.std.proofs.Common.{refl}
use Rattle.dill_meaning.proofs.Lacks.{lacks_alike}
use Rattle.dill_meaning.proofs.Lawful.{scripts_lawful, main_begins, left_counts}
use Rattle.dill_meaning.proofs.Making.{each_form_makes}
use Rattle.dill_meaning.proofs.Told.{calls_told}
use Rattle.dill_meaning.proofs.laws.scripts_are_lawful.Goals as goal

pub returns-clause-lawful : goal.returns-clause-lawful
returns-clause-lawful c = scripts_lawful

pub returns-clause-main : goal.returns-clause-main
returns-clause-main c = main_begins

pub returns-clause-left : goal.returns-clause-left
returns-clause-left c = left_counts

pub returns-clause-calls : goal.returns-clause-calls
returns-clause-calls c = refl

pub returns-clause-lacks : goal.returns-clause-lacks
returns-clause-lacks c = lacks_alike

pub returns-clause-forms : goal.returns-clause-forms
returns-clause-forms c = each_form_makes

pub returns-clause-told : goal.returns-clause-told
returns-clause-told c = calls_told
