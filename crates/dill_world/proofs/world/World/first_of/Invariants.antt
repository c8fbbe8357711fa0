use Rattle.std.proofs.Common.{◌≡◌, find, drop}
use Rattle.dill_rules.specs.Refusals.{holds}
use Rattle.dill_world.specs.Store.{world_of}
use Rattle.dill_world.proofs.world.World.first_of.Given as goal

abbrev pub invariant-loop-errno : goal.invariant-loop-errno
invariant-loop-errno g l = find (holds g.B.Body.means (world_of l.self) l.who l.body l.call) (drop l.errno-index l.order) ≡ find (holds g.B.Body.means (world_of l.self) l.who l.body l.call) l.order
