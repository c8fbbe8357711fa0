use Rattle.std.proofs.Common.{◌≡◌, drop}
use Rattle.std.specs.List.{list_any}
use Rattle.dill_rules.specs.Naming.{gifts_of}
use Rattle.dill_rules.specs.Kinds as kinds
use Rattle.dill_world.specs.Store.{world_of}
use Rattle.dill_world.proofs.world.World.gives_dead.Given as goal

abbrev pub invariant-loop-arg : goal.invariant-loop-arg
invariant-loop-arg g l = list_any (kinds.is_dead (world_of l.self)) (gifts_of (drop l.arg-index l.args)) ≡ list_any (kinds.is_dead (world_of l.self)) (gifts_of l.args)
