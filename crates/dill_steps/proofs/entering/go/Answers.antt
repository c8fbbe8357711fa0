use Rattle.std.proofs.Common.{◌∙◌, ◌+◌, ap}
use Rattle.dill_rules.specs.Effects.{told}
use Rattle.dill_rules.specs.Entering as entering
use Rattle.dill_world.specs.Steps.{bear_apart}
use Rattle.dill_world.specs.Store.{world_of}
use Rattle.dill_steps.proofs.Gifts.{gone}
use Rattle.dill_steps.proofs.entering.go.Goals as goal

pub returns-clause-ok : goal.returns-clause-ok
returns-clause-ok g c =
    λ view has.
    let k = entering.keep_for (world_of c.args.world.now) c.args.call.now in
    let born = c.in_default.ensures.ok ∙ ap (λ v. bear_apart v c.args.who c.in_ok-child.child) c.in_ok-keep_for.ensures.ok in
    let last = c.last-number.ensures.value ∙ ap (λ h. h.last) c.handles.ensures in
    gone g.B.Body.means k (world_of c.bear_apart.new.self) (world_of c.give_all.new.self) (world_of c.reply.new.self) c.args.who c.last_coroutine-owner.result (c.last-number.result + 1) c.args.program view c.in_ok-child.child c.args.args.now
    born
    c.give_all.ensures
    c.reply.ensures
    (c.in_ok-child.ensures view has ∙ ap (λ n. g.B.Body.means.child view c.args.program (told (n + 1 + 1) c.args.args.now)) last)
    (c.last_coroutine-owner.ensures ∙ ap (λ v. v.last_coroutine) born)
    (ap (λ n. n + 1) last)
