use Rattle.dill_ws.proofs.Asking.{asked_some, asked_none, no_lines}
use Rattle.dill_ws.proofs.request.key_asked.Goals as goal

pub returns-in-Some-clause-some : goal.returns-in-Some-clause-some
returns-in-Some-clause-some c = asked_some _ _ _ c.key_behind.result c.in-Some.ensures.lines c.key_behind.ensures.some

pub returns-in-Some-clause-none : goal.returns-in-Some-clause-none
returns-in-Some-clause-none c = asked_none _ _ _ c.key_behind.result c.in-Some.ensures.lines c.key_behind.ensures.none

pub returns-in-None-clause-none : goal.returns-in-None-clause-none
returns-in-None-clause-none c = no_lines _ c.in-None.ensures.none.0
