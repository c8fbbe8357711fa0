use Rattle.std.proofs.Common.{◌≡◌, ◌≤◌, length, drop}
use Rattle.dill_rules.specs.Naming.{gifts_of}
use Rattle.dill_rules.specs.Effects.{give_all}
use Rattle.dill_world.specs.Store.{world_of}
use Rattle.dill_world.proofs.world.World.give_all.Given as goal

abbrev pub invariant-loop-arg : goal.invariant-loop-arg
invariant-loop-arg g l = record {
  kept : length (gifts_of (drop l.arg-index l.args)) ≤ l.self.handles.kept;
  given : give_all (world_of l.self) (gifts_of (drop l.arg-index l.args)) l.owner ≡ give_all (world_of l.fn.self) (gifts_of l.args) l.owner;
}
