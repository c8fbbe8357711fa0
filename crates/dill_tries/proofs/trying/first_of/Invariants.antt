use Rattle.std.proofs.Common.{◌≡◌, drop}
use Rattle.dill_world.specs.Store.{world_of, place_of}
use Rattle.dill_tries.specs.Dues.{first_of}
use Rattle.dill_tries.proofs.trying.first_of.Given as goal

-- what is left decides
abbrev pub invariant-loop-kind : goal.invariant-loop-kind
invariant-loop-kind g l = first_of (world_of l.world) (place_of l.round.place) l.round.marks (drop l.kind-index l.kinds) ≡ first_of (world_of l.world) (place_of l.round.place) l.round.marks l.kinds
