use Rattle.std.proofs.Common.{◌≡◌, drop}
use Rattle.dill_base.specs.Maps.{first_some}
use Rattle.dill_world.specs.Store.{world_of, place_of}
use Rattle.dill_tries.specs.Dues.{sought_in}
use Rattle.dill_tries.proofs.trying.first_in.Given as goal

-- what is left decides
abbrev pub invariant-loop-c : goal.invariant-loop-c
invariant-loop-c g l = first_some (sought_in (world_of l.world) (place_of l.round.place) l.round.marks l.kind) (drop l.c-index l.coroutines) ≡ first_some (sought_in (world_of l.world) (place_of l.round.place) l.round.marks l.kind) l.coroutines
