use Rattle.std.proofs.Common.{◌≡◌, drop}
use Rattle.dill_script.specs.Numbers.{each}
use Rattle.dill_script.specs.Operands.{item_of}
use Rattle.relay_lines.specs.Prefixes.{all_before}
use Rattle.relay_lines.proofs.operands.with_items.Given as goal

abbrev pub invariant-loop-token : goal.invariant-loop-token
invariant-loop-token l = all_before l.operands (each item_of (drop l.token-index l.tokens)) ≡ all_before l.fn.operands (each item_of l.tokens)
