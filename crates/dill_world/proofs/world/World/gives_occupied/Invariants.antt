use Rattle.std.proofs.Common.{◌≡◌, drop}
use Rattle.std.specs.List.{list_any}
use Rattle.dill_rules.specs.Naming.{gifts_of}
use Rattle.dill_rules.specs.Taking as taking
use Rattle.dill_world.specs.Store.{world_of}
use Rattle.dill_world.proofs.world.World.gives_occupied.Given as goal

abbrev pub invariant-loop-arg : goal.invariant-loop-arg
invariant-loop-arg g l = list_any (λ number. taking.is_pending (world_of l.self) (taking.is_alone_on number)) (gifts_of (drop l.arg-index l.args)) ≡ list_any (λ number. taking.is_pending (world_of l.self) (taking.is_alone_on number)) (gifts_of l.args)
