use Rattle.std.proofs.Common.{sym, subst}
use Rattle.dill_calls.specs.CallTable.{is_built}
use Rattle.dill_script.specs.Contexts.{opening}
use Rattle.dill_script.specs.Lines.{lines_of}
use Rattle.dill_script.specs.Reading.{Reading, judged}
use Rattle.relay_reader.specs.Telling.{Reads}
use Rattle.relay_reader.proofs.Started.{linked_by}
use Rattle.relay_reader.proofs.reading.read_linked.Goals as goal

pub returns-in-Ok : goal.returns-in-Ok
returns-in-Ok c =
    let lines = lines_of c.args.bytes.now in
    let unlinked = c.in-Ok.unlinked in
    let here = linked_by lines (judged is_built 1 opening lines) unlinked.script unlinked.starts.items c.in-Ok.ensures.0 c.in-Ok.ensures.1 in
    subst (λ (reading : Reading). Reads c.link.result reading) (sym here) c.link.ensures
