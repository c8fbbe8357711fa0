use Rattle.std.proofs.Common.{◌≡◌, length, fold}
use Rattle.dill_rules.specs.Expiring.{passed}
use Rattle.laws_queue.specs.Kept.{kept_expire_next, kept_late}
use Rattle.dill_world.specs.Store.{world_of}
use Rattle.dill_core.specs.Holding.{kept_of}
use Rattle.dill_core.proofs.crew.Core.expire_all.Given as goal

abbrev pub invariant-loop-who : goal.invariant-loop-who
invariant-loop-who g l = fold kept_expire_next (kept_of l.self) (passed (world_of l.self.world)) ≡ kept_late (kept_of l.fn.self)

abbrev pub decreases-loop-who : goal.decreases-loop-who
decreases-loop-who g l = length (passed (world_of l.self.world))
