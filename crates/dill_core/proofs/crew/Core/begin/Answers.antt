use Rattle.std.proofs.Common.{length, vec_capacity, ap, arith}
use Rattle.dill_rules.specs.World as worlds
use Rattle.dill_rules.specs.World.{World}
use Rattle.laws_queue.specs.Kept.{Kept}
use Rattle.dill_core.specs.Holding.{kept_of}
use Rattle.dill_core.proofs.Places.{held_as}
use Rattle.dill_core.proofs.crew.Core.begin.Goals as goal

pub invariant_of-self : goal.invariant_of-self
invariant_of-self g c =
    let s = c.self.inside in
    let k : Kept g.row.B.Denot = kept_of (record { world = s.world; ready = s.ready.items; early = s.early }) in
    held_as g.B.Body.means (record { world = c.begin.new.self; ready = s.ready.items; early = s.early }) (record k { world = worlds.begin k.world }) (vec_capacity s.ready) (ap (λ (w : World g.row.B.Denot). record k { world = w }) c.begin.ensures)
    (c.steps_keep_stable.ensures.started k c.self.invariant.stable) (let same = ap (λ (w : World g.row.B.Denot). length w.coroutines) c.begin.ensures in omega (arith, same, c.self.invariant.room))
