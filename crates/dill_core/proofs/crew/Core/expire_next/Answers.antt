use Rattle.std.proofs.Common.{◌≡◌, ◌∙◌, ◌∷◌, vec_capacity, arith, ap, subst}
use Rattle.dill_rules.specs.Expiring.{expire_one, passed}
use Rattle.laws_queue.specs.Kept.{Kept}
use Rattle.laws_sound.specs.Laws.{is_timed}
use Rattle.dill_world.specs.Store.{world_of, ArePlain}
use Rattle.dill_core.specs.Holding.{Holding, kept_of}
use Rattle.dill_core.proofs.Late.{rest_passed, rises_of}
use Rattle.dill_core.proofs.Places.{has_places, lined_held}
use Rattle.dill_core.proofs.crew.Core.expire_next.Goals as goal

pub line_up-requires : goal.line_up-requires
line_up-requires g c =
    let s = c.self.inside in
    let k : Kept g.row.B.Denot = kept_of (record { world = s.world; ready = s.ready.items; early = s.early }) in
    has_places c.expire_one.new.world (expire_one k.world c.args.who) s.ready.items (vec_capacity s.ready) c.expire_one.ensures.expired (c.steps_keep_well.ensures.expire_places k c.args.who c.self.invariant.stable.well)
    (omega (arith, c.expire_one.ensures.few, c.self.invariant.room))

pub invariant_of-self : goal.invariant_of-self
invariant_of-self g c =
    let s = c.self.inside in
    let k : Kept g.row.B.Denot = kept_of (record { world = s.world; ready = s.ready.items; early = s.early }) in
    lined_held g.B.Body.means c.expire_one.new.world c.line_up.new.self (expire_one k.world c.args.who) s.ready.items c.line_up.new.ready.items s.early (vec_capacity c.line_up.new.ready) c.expire_one.ensures.expired c.line_up.ensures.world c.line_up.ensures.ready
    (c.steps_keep_stable.ensures.expires k c.args.who c.self.invariant.stable (ap (λ (h : Holding g.row.B.Denot). is_timed (world_of h.world) c.args.who) c.self.view_is ∙ c.requires)) (omega (arith, c.expire_one.ensures.few, c.self.invariant.room, c.line_up.ensures.capacity))

pub returns-clause-rest : goal.returns-clause-rest
returns-clause-rest g c = λ rest before.
    let s = c.self.inside in
    let plain : ArePlain s.world.coroutines = subst ArePlain c.coroutines.ensures.rows c.coroutines.ensures.plain in
    let now : passed (world_of s.world) ≡ c.args.who ∷ rest = ap (λ (h : Holding g.row.B.Denot). passed (world_of h.world)) c.self.view_is ∙ before in
    let behind : passed (expire_one (world_of s.world) c.args.who) ≡ rest = c.passes_one_by_one.ensures s.world c.args.who rest plain (rises_of s.world.coroutines 0 s.world.last_coroutine c.self.invariant.stable.well.numbered) now in
    rest_passed s.world c.expire_one.new.world c.line_up.new.self c.args.who rest c.line_up.ensures.world c.expire_one.ensures.expired behind
