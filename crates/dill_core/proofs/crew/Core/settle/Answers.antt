use Rattle.std.proofs.Common.{vec_capacity, arith}
use Rattle.dill_rules.specs.Settling.{settle}
use Rattle.laws_queue.specs.Kept.{Kept}
use Rattle.dill_core.specs.Holding.{kept_of}
use Rattle.dill_core.proofs.Places.{has_places, lined_held}
use Rattle.dill_core.proofs.crew.Core.settle.Goals as goal

pub line_up-requires : goal.line_up-requires
line_up-requires g c =
    let s = c.self.inside in
    let k : Kept g.row.B.Denot = kept_of (record { world = s.world; ready = s.ready.items; early = s.early }) in
    has_places c.settle.new.world (settle k.world) s.ready.items (vec_capacity s.ready) c.settle.ensures.settled (c.steps_keep_well.ensures.settle_places k c.self.invariant.stable.well) (omega (arith, c.settle.ensures.few, c.self.invariant.room))

pub invariant_of-self : goal.invariant_of-self
invariant_of-self g c =
    let s = c.self.inside in
    let k : Kept g.row.B.Denot = kept_of (record { world = s.world; ready = s.ready.items; early = s.early }) in
    lined_held g.B.Body.means c.settle.new.world c.line_up.new.self (settle k.world) s.ready.items c.line_up.new.ready.items s.early (vec_capacity c.line_up.new.ready) c.settle.ensures.settled c.line_up.ensures.world c.line_up.ensures.ready
    (c.steps_keep_stable.ensures.settled k c.self.invariant.stable) (omega (arith, c.settle.ensures.few, c.self.invariant.room, c.line_up.ensures.capacity))
