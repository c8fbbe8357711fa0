use Rattle.std.proofs.Common.{◌≡◌, ◌+◌, ◌++◌, ◌≤◌, length, false}
use Rattle.dill_script.specs.Contexts.{opening}
use Rattle.dill_script.specs.Lines.{lines_of}
use Rattle.dill_script.specs.Reading.{judged}
use Rattle.dill_script.specs.Refusals.{passes_limit}
use Rattle.dill_calls.specs.CallTable.{is_built}
use Rattle.relay_reader.specs.Starts.{starts_from}
use Rattle.relay_reader.proofs.reading.read_programs.Given as goal

abbrev pub invariant-loop-rest : goal.invariant-loop-rest
invariant-loop-rest l = record {
  reads : judged is_built 1 opening (lines_of l.bytes) ≡ judged is_built l.number l.context (lines_of l.rest);
  within : passes_limit l.context ≡ false;
  starts : l.starts.items ++ starts_from l.number (lines_of l.rest) ≡ starts_from 1 (lines_of l.bytes);
  few : l.number + length l.rest ≤ 1 + length l.bytes;
}

abbrev pub decreases-loop-rest : goal.decreases-loop-rest
decreases-loop-rest l = length l.rest
