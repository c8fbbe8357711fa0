-- The places among the statements so far.
use Rattle.std.proofs.Common.{◌≡◌, ◌≤◌, take}
use Rattle.dill_script.specs.Contexts.{places}
use Rattle.relay_body.proofs.body.places.Given as goal

abbrev pub invariant-loop-statement : goal.invariant-loop-statement
invariant-loop-statement l = (l.count ≡ places (take l.statement-index l.list)) × (l.count ≤ l.statement-index)
