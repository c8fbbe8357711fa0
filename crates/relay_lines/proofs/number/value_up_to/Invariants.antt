use Rattle.std.proofs.Common.{◌≡◌, ◌≤◌, drop, fold}
use Rattle.dill_script.specs.Numbers.{value_of}
use Rattle.relay_lines.proofs.Values.{more}
use Rattle.relay_lines.proofs.number.value_up_to.Given as goal

abbrev pub invariant-loop-digit : goal.invariant-loop-digit
invariant-loop-digit l = record {
  so_far : fold more l.value (drop l.digit-index l.digits) ≡ value_of l.digits;
  within : l.value ≤ l.greatest;
}
