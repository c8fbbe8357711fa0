use Rattle.std.proofs.Common.{◌∙◌, [], max, length, vec_capacity, sym, ap, arith}
use Rattle.dill_rules.specs.World.{World}
use Rattle.laws_queue.specs.Kept.{kept_woke}
use Rattle.dill_core.specs.Holding.{Holding, kept_of}
use Rattle.dill_core.proofs.Places.{held_as}
use Rattle.dill_core.proofs.Waking.{moved_world, woken_held}
use Rattle.dill_core.proofs.crew.Core.wake.Goals as goal

pub invariant_of-self : goal.invariant_of-self
invariant_of-self g c =
    let s = c.self.inside in
    let h : Holding g.row.B.Denot = record { world = s.world; ready = s.ready.items; early = s.early } in
    let world = moved_world h c.begin.new.self c.restart.new.self c.set_moment.new.self c.args.told c.max-moment.result c.begin.ensures c.restart.ensures c.set_moment.ensures (c.max-moment.ensures ∙ ap (λ m. max m c.args.told) c.moment.ensures) in
    held_as g.B.Body.means (record { world = c.set_moment.new.self; ready = s.ready.items; early = s.early }) (kept_woke (kept_of h) c.args.told []) (vec_capacity s.ready) (ap (λ (w : World g.row.B.Denot). record (kept_of h) { world = w }) world ∙ sym (woken_held h c.args.told [] c.self.invariant.stable.linkless.links))
    (c.steps_keep_stable.ensures.woke (kept_of h) c.args.told [] c.self.invariant.stable) (let same = ap (λ (w : World g.row.B.Denot). length w.coroutines) world in omega (arith, same, c.self.invariant.room))

pub returns : goal.returns
returns g c = λ ready.
    let s = c.self.inside in
    let h : Holding g.row.B.Denot = record { world = s.world; ready = s.ready.items; early = s.early } in
    let world = moved_world h c.begin.new.self c.restart.new.self c.set_moment.new.self c.args.told c.max-moment.result c.begin.ensures c.restart.ensures c.set_moment.ensures (c.max-moment.ensures ∙ ap (λ m. max m c.args.told) c.moment.ensures) in
    ap (λ (w : World g.row.B.Denot). record (kept_of h) { world = w }) world ∙ sym (woken_held h c.args.told ready c.self.invariant.stable.linkless.links) ∙ ap (λ (x : Holding g.row.B.Denot). kept_woke (kept_of x) c.args.told ready) c.self.view_is
