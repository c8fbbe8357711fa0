-- The arguments so far.
use Rattle.std.proofs.Common.{◌≡◌, take, filter_map}
use Rattle.dill_meaning.specs.Calls.{arg_of}
use Rattle.dill_meaning.specs.Values.{values_of}
use Rattle.relay_body.specs.Seen.{seen}
use Rattle.relay_body.proofs.held.Held.args_of.Given as goal

abbrev pub invariant-loop-arg : goal.invariant-loop-arg
invariant-loop-arg l = l.args ≡ filter_map arg_of (values_of (seen l.self) (take l.arg-index l.list))
