use Rattle.dill_script.proofs.Built.{reads_built}
use Rattle.dill_script.proofs.Canonical.{canonical_spells, reads_back}
use Rattle.dill_script.proofs.FormedLines.{reads_formed}
use Rattle.dill_script.proofs.Mains.{reads_mains}
use Rattle.dill_script.proofs.Named.{reads_apart}
use Rattle.dill_script.proofs.Nesting.{reads_nested}
use Rattle.dill_script.proofs.Spellings.{reads_spelling, reads_each}
use Rattle.dill_script.proofs.Starting.{reads_starts}
use Rattle.dill_script.proofs.Within.{reads_within}
use Rattle.dill_script.proofs.laws.script_laws.Goals as goal

pub returns-clause-spelled : goal.returns-clause-spelled
returns-clause-spelled c = reads_spelling

pub returns-clause-each : goal.returns-clause-each
returns-clause-each c = reads_each

pub returns-clause-canonical : goal.returns-clause-canonical
returns-clause-canonical c = canonical_spells

pub returns-clause-again : goal.returns-clause-again
returns-clause-again c = reads_back

pub returns-clause-within : goal.returns-clause-within
returns-clause-within c = reads_within

pub returns-clause-formed : goal.returns-clause-formed
returns-clause-formed c = reads_formed

pub returns-clause-apart : goal.returns-clause-apart
returns-clause-apart c = reads_apart

pub returns-clause-starts : goal.returns-clause-starts
returns-clause-starts c = reads_starts

pub returns-clause-mains : goal.returns-clause-mains
returns-clause-mains c = reads_mains

pub returns-clause-built : goal.returns-clause-built
returns-clause-built c = reads_built

pub returns-clause-nested : goal.returns-clause-nested
returns-clause-nested c = reads_nested
