use Rattle.std.proofs.Common.{◌≡◌, ◌∙◌, ◌+◌, List, ◌++◌, ap, append_assoc, sym, subst, arith}
use Rattle.dill_script.specs.Blocks.{is_empty}
use Rattle.dill_script.specs.Lines.{lines_of}
use Rattle.dill_script.specs.Reading.{Reading}
use Rattle.dill_calls.specs.CallTable.{is_built}
use Rattle.relay_reader.specs.declared.starts.Start.{Start}
use Rattle.relay_reader.specs.Starts.{start_of, start_at, starts_from}
use Rattle.relay_reader.specs.Telling.{Refuses, refusal_at}
use Rattle.relay_reader.proofs.Stepping.{no_lines, judged_more, judged_stop}
use Rattle.relay_reader.proofs.reading.read_programs.Goals as goal

pub returns-in-Err : goal.returns-in-Err
returns-in-Err c =
    let line = c.split_line.result.0.now in
    let behind = c.split_line.result.1.now in
    let last = c.is_empty-in-loop-rest.result in
    let ends : is_empty (lines_of behind) ≡ last = no_lines behind ∙ sym c.is_empty-in-loop-rest.ensures in
    let Refused : Reading → Type 0 = λ reading. Refuses (refusal_at c.loop-rest.number c.in-Err.fault) reading in
    let here = judged_stop is_built c.loop-rest.number c.loop-rest.context (lines_of c.loop-rest.rest.now) line (lines_of behind) last c.in-Err.fault c.split_line.ensures.lines ends c.in-Err.ensures in
    rw c.at.ensures (subst Refused (sym c.loop-rest.invariant.reads) here)

pub loop-rest-preserved : goal.loop-rest-preserved
loop-rest-preserved c =
    let line = c.split_line.result.0.now in
    let behind = c.split_line.result.1.now in
    let last = c.is_empty-in-loop-rest.result in
    let ends : is_empty (lines_of behind) ≡ last = no_lines behind ∙ sym c.is_empty-in-loop-rest.ensures in
    record {
      reads = c.loop-rest.invariant.reads ∙ judged_more is_built c.loop-rest.number c.loop-rest.context c.read_line.new.context (lines_of c.loop-rest.rest.now) line (lines_of behind) last c.split_line.ensures.lines ends c.in_default.ensures.0 c.in_default.ensures.1.0;
      within = c.in_default.ensures.1.1;
      starts =
          ap (λ (l : List Start). l ++ starts_from (c.loop-rest.number + 1) (lines_of behind)) c.in_default.ensures.1.2
          ∙ append_assoc c.loop-rest.starts.items (start_at c.loop-rest.number (start_of line)) (starts_from (c.loop-rest.number + 1) (lines_of behind))
          ∙ ap (λ l. c.loop-rest.starts.items ++ starts_from c.loop-rest.number l) (sym c.split_line.ensures.lines)
          ∙ c.loop-rest.invariant.starts;
      few = omega arith;
    }
