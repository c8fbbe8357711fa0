use Rattle.std.proofs.Common.{◌≡◌, ◌∙◌, length, vec_capacity, ℕ, arith, sym, ap, subst}
use Rattle.dill_rules.specs.Settling.{settle}
use Rattle.dill_rules.specs.World as world
use Rattle.dill_rules.specs.World.{World}
use Rattle.dill_scope.specs.Scopes as scopes
use Rattle.laws_queue.specs.Kept.{root_closed, queued}
use Rattle.laws_debt.specs.Closing.{IsStable}
use Rattle.dill_world.specs.Store.{Store, world_of}
use Rattle.dill_core.specs.Holding.{Holding, kept_of}
use Rattle.dill_core.proofs.Places.{has_places, lined_held, closed_well}
use Rattle.dill_core.proofs.crew.Core.close_root.Goals as goal

closed_is : {V : Type 0} (old begun restarted closed : Store V) → world_of begun ≡ world.begin (world_of old) → world_of restarted ≡ world.from_start (world_of begun) → world_of closed ≡ record (world_of restarted) { scopes = scopes.close restarted.scopes 0 } → world_of closed ≡ root_closed (world_of old)
closed_is {V} old begun restarted closed e r f = f ∙ ap (λ (w : World V). record w { scopes = scopes.close w.scopes 0 }) (r ∙ ap world.from_start e)

few_closed : {V : Type 0} (old begun restarted closed : Store V) → world_of begun ≡ world.begin (world_of old) → world_of restarted ≡ world.from_start (world_of begun) → world_of closed ≡ record (world_of restarted) { scopes = scopes.close restarted.scopes 0 } → length closed.coroutines ≡ length old.coroutines
few_closed {V} old begun restarted closed e r f = ap (λ (w : World V). length w.coroutines) (closed_is old begun restarted closed e r f)

pub line_up-requires : goal.line_up-requires
line_up-requires g c =
    let s = c.self.inside in
    let h : Holding g.row.B.Denot = record { world = s.world; ready = s.ready.items; early = s.early } in
    let few = few_closed s.world c.begin.new.self c.restart.new.self c.close_root.new.self c.begin.ensures c.restart.ensures c.close_root.ensures in
    has_places c.settle.new.world (settle (root_closed (world_of s.world))) s.ready.items (vec_capacity s.ready)
    (c.settle.ensures.settled ∙ ap settle (closed_is s.world c.begin.new.self c.restart.new.self c.close_root.new.self c.begin.ensures c.restart.ensures c.close_root.ensures))
    (c.steps_keep_well.ensures.settle_places (record { world = root_closed (world_of s.world); ready = s.ready.items; early = (length c.as_slice.result.now) }) (closed_well g.B.Body.means h (length c.as_slice.result.now) c.self.invariant.stable.well))
    (omega (arith, few, c.settle.ensures.few, c.self.invariant.room))

pub invariant_of-self : goal.invariant_of-self
invariant_of-self g c =
    let s = c.self.inside in
    let h : Holding g.row.B.Denot = record { world = s.world; ready = s.ready.items; early = s.early } in
    let few = few_closed s.world c.begin.new.self c.restart.new.self c.close_root.new.self c.begin.ensures c.restart.ensures c.close_root.ensures in
    lined_held g.B.Body.means c.settle.new.world c.line_up.new.self (settle (root_closed (world_of s.world))) s.ready.items c.line_up.new.ready.items (length c.as_slice.result.now) (vec_capacity c.line_up.new.ready)
    (c.settle.ensures.settled ∙ ap settle (closed_is s.world c.begin.new.self c.restart.new.self c.close_root.new.self c.begin.ensures c.restart.ensures c.close_root.ensures)) c.line_up.ensures.world c.line_up.ensures.ready
    (subst (λ (n : ℕ). IsStable g.B.Body.means (queued (settle (root_closed (world_of s.world))) s.ready.items n)) (sym (ap length c.as_slice.ensures.value)) (c.steps_keep_stable.ensures.shut (kept_of h) c.self.invariant.stable))
    (omega (arith, few, c.settle.ensures.few, c.self.invariant.room, c.line_up.ensures.capacity))
