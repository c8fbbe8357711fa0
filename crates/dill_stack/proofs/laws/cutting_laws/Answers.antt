use Rattle.dill_stack.proofs.Cuttings.{reads_alike}
use Rattle.dill_stack.proofs.DropCuts.{finishes_alike}
use Rattle.dill_stack.proofs.GreetCuts.{greets_alike}
use Rattle.dill_stack.proofs.laws.cutting_laws.Goals as goal

pub returns-clause-reads : goal.returns-clause-reads
returns-clause-reads c = reads_alike c.front_laws.ensures

pub returns-clause-finishes : goal.returns-clause-finishes
returns-clause-finishes c = finishes_alike c.prefix_laws.ensures c.suffix_laws.ensures c.http_laws.ensures.lines c.front_laws.ensures

pub returns-clause-greets : goal.returns-clause-greets
returns-clause-greets c = greets_alike c.handshake_laws.ensures
