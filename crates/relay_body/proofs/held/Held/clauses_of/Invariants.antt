-- The clauses so far.
use Rattle.std.proofs.Common.{◌≡◌, take, filter_map}
use Rattle.dill_meaning.specs.Calls.{clause_of}
use Rattle.dill_meaning.specs.Values.{values_of}
use Rattle.relay_body.specs.Seen.{seen}
use Rattle.relay_body.proofs.held.Held.clauses_of.Given as goal

abbrev pub invariant-loop-clause : goal.invariant-loop-clause
invariant-loop-clause l = l.clauses ≡ filter_map clause_of (values_of (seen l.self) (take l.clause-index l.list))
