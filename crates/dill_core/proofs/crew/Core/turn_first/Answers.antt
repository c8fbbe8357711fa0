use Rattle.std.proofs.Common.{◌≡◌, ◌∙◌, ◌-◌, ◌≤◌, ℕ, List, length, vec_capacity, true, arith, refl, sym, ap, subst}
use Rattle.dill_calls.specs.declared.ran.Ran.{Ran}
use Rattle.dill_rules.specs.Turning.{turn}
use Rattle.laws_queue.specs.Kept.{queued, turn_first, kept_ran}
use Rattle.laws_queue.specs.Laws.{HasPlaces}
use Rattle.laws_debt.specs.Closing.{IsStable}
use Rattle.dill_drive.specs.Machine.{may_be}
use Rattle.dill_world.specs.Store.{world_of}
use Rattle.dill_core.specs.CoreMachine.{core_machine}
use Rattle.dill_core.specs.Holding.{Holding, kept_of}
use Rattle.dill_core.proofs.Places.{has_places, lined_held, spare_room, queue_is}
use Rattle.dill_core.proofs.Shown.{lack_allowed, first_shown}
use Rattle.dill_core.proofs.crew.Core.turn_first.Goals as goal

pub turn-ran-requires : goal.turn-ran-requires
turn-ran-requires g c =
    let s = c.self.inside in
    let h : Holding g.row.B.Denot = record { world = s.world; ready = s.ready.items; early = s.early } in
    let first = queue_is h c.args.self.now c.remove-who.result c.remove-who.new.self.items c.self.view_is c.requires c.remove-who.ensures.value c.remove-who.ensures.items in
    let may = c.steps_keep_well.ensures.first (kept_of h) c.remove-who.result c.remove-who.new.self.items c.self.invariant.stable.well first in
    record { one = may.one; found = may.found; real = may.real; some = may.some }

pub line_up-requires : goal.line_up-requires
line_up-requires g c =
    let s = c.self.inside in
    let h : Holding g.row.B.Denot = record { world = s.world; ready = s.ready.items; early = s.early } in
    let first = queue_is h c.args.self.now c.remove-who.result c.remove-who.new.self.items c.self.view_is c.requires c.remove-who.ensures.value c.remove-who.ensures.items in
    let v = turn g.B.Body.means c.turn-ran.result.lack (world_of s.world) c.remove-who.result in
    let places : HasPlaces c.make_room-spare.new.ready.items v = subst (λ (ns : List ℕ). HasPlaces ns v) (sym c.make_room-spare.ensures.items)
    (c.steps_keep_well.ensures.turn_places (kept_of h) c.turn-ran.result.lack c.remove-who.result c.remove-who.new.self.items c.self.invariant.stable.well first) in
    let count = ap length c.coroutines.ensures.rows in
    let room : length c.turn-ran.new.world.coroutines ≤ vec_capacity c.make_room-spare.new.ready = spare_room c.make_room-spare.result (length s.world.coroutines) (length c.turn-ran.new.world.coroutines) (vec_capacity c.make_room-spare.new.ready) c.turn-ran.ensures.few c.turn-ran.ensures.one
    (λ e. let r = c.make_room-spare.ensures.room e in omega (arith, r, count)) (omega (arith, c.self.invariant.room, c.remove-who.ensures.capacity, c.make_room-spare.ensures.capacity)) in
    has_places c.turn-ran.new.world v c.make_room-spare.new.ready.items (vec_capacity c.make_room-spare.new.ready) c.turn-ran.ensures.turned places room

pub invariant_of-self : goal.invariant_of-self
invariant_of-self g c =
    let s = c.self.inside in
    let p = g.B.Body.means in
    let h : Holding g.row.B.Denot = record { world = s.world; ready = s.ready.items; early = s.early } in
    let first = queue_is h c.args.self.now c.remove-who.result c.remove-who.new.self.items c.self.view_is c.requires c.remove-who.ensures.value c.remove-who.ensures.items in
    let lack = c.turn-ran.result.lack in
    let v = turn p lack (world_of s.world) c.remove-who.result in
    let turned : IsStable p (queued v c.remove-who.new.self.items (s.early - 1)) = subst (λ (ns : List ℕ). IsStable p (turn_first p lack (kept_of h) ns)) first (c.steps_keep_stable.ensures.turned (kept_of h) lack c.self.invariant.stable) in
    let early : IsStable p (queued v c.remove-who.new.self.items c.saturating_sub-self-inside.result) = subst (λ (n : ℕ). IsStable p (queued v c.remove-who.new.self.items n)) (sym c.saturating_sub-self-inside.ensures) turned in
    let well : IsStable p (queued v c.make_room-spare.new.ready.items c.saturating_sub-self-inside.result) = subst (λ (ns : List ℕ). IsStable p (queued v ns c.saturating_sub-self-inside.result)) (sym c.make_room-spare.ensures.items) early in
    let count = ap length c.coroutines.ensures.rows in
    let room : length c.turn-ran.new.world.coroutines ≤ vec_capacity c.make_room-spare.new.ready = spare_room c.make_room-spare.result (length s.world.coroutines) (length c.turn-ran.new.world.coroutines) (vec_capacity c.make_room-spare.new.ready) c.turn-ran.ensures.few c.turn-ran.ensures.one
    (λ e. let r = c.make_room-spare.ensures.room e in omega (arith, r, count)) (omega (arith, c.self.invariant.room, c.remove-who.ensures.capacity, c.make_room-spare.ensures.capacity)) in
    lined_held p c.turn-ran.new.world c.line_up.new.self v c.make_room-spare.new.ready.items c.line_up.new.ready.items c.saturating_sub-self-inside.result (vec_capacity c.line_up.new.ready) c.turn-ran.ensures.turned c.line_up.ensures.world c.line_up.ensures.ready
    well (omega (arith, room, c.line_up.ensures.capacity))

pub returns-clause-allowed : goal.returns-clause-allowed
returns-clause-allowed g c =
    let s = c.self.inside in
    let p = g.B.Body.means in
    let h : Holding g.row.B.Denot = record { world = s.world; ready = s.ready.items; early = s.early } in
    let first = queue_is h c.args.self.now c.remove-who.result c.remove-who.new.self.items c.self.view_is c.requires c.remove-who.ensures.value c.remove-who.ensures.items in
    let may = c.steps_keep_well.ensures.first (kept_of h) c.remove-who.result c.remove-who.new.self.items c.self.invariant.stable.well first in
    let shown = c.turn-ran.ensures.shown may.one.body (record { one = may.one; found = may.found; same = refl }) in
    subst (λ (x : Holding g.row.B.Denot). may_be (core_machine p) x c.turn-ran.result.lack ≡ true) c.self.view_is
    (lack_allowed p h c.remove-who.result c.remove-who.new.self.items may.one c.turn-ran.result.lack first may.found (ap (λ (r : Ran). r.lack) shown))

pub returns-clause-ran : goal.returns-clause-ran
returns-clause-ran g c =
    let s = c.self.inside in
    let p = g.B.Body.means in
    let h : Holding g.row.B.Denot = record { world = s.world; ready = s.ready.items; early = s.early } in
    let first = queue_is h c.args.self.now c.remove-who.result c.remove-who.new.self.items c.self.view_is c.requires c.remove-who.ensures.value c.remove-who.ensures.items in
    let may = c.steps_keep_well.ensures.first (kept_of h) c.remove-who.result c.remove-who.new.self.items c.self.invariant.stable.well first in
    let shown = c.turn-ran.ensures.shown may.one.body (record { one = may.one; found = may.found; same = refl }) in
    shown ∙ sym (first_shown p h c.remove-who.result c.remove-who.new.self.items may.one c.turn-ran.result.lack first may.found) ∙ ap (λ (x : Holding g.row.B.Denot). kept_ran p c.turn-ran.result.lack (kept_of x)) c.self.view_is
