use Rattle.std.proofs.Common.{◌≡◌, ◌∙◌, ◌+◌, ◌<◌, ◌≤◌, length, ap, sym, subst, arith}
use Rattle.dill_rules.specs.Effects.{told}
use Rattle.dill_rules.specs.Entering as entering
use Rattle.dill_rules.specs.Naming.{draws_of, gifts_of}
use Rattle.dill_rules.specs.Refusals.{refuse}
use Rattle.dill_rules.specs.Effects as effects
use Rattle.dill_rules.specs.Taking.{bundle_named}
use Rattle.dill_steps.specs.Needs.{needs_memory}
use Rattle.dill_world.specs.Store.{world_of}
use Rattle.dill_steps.proofs.Gifts.{bundle_gone}
use Rattle.dill_steps.proofs.Unrefused.{unrefused_room, unrefused_small, bundle_go_few}
use Rattle.dill_steps.proofs.entering.bundle_go.Goals as goal

pub child_of-requires-clause-small : goal.child_of-requires-clause-small
child_of-requires-clause-small g c =
    let room = unrefused_room g.B.Body.means (world_of c.args.world.now) c.args.who c.requires.enters.view c.args.call.now (ap needs_memory c.requires.call) c.requires.enters.free in
    let few : c.args.world.now.handles.last + draws_of c.args.call.now ≤ 2147483647 = unrefused_small c.args.world.now.handles (draws_of c.args.call.now) room in
    let draws : draws_of c.args.call.now ≡ length (gifts_of c.args.args.now) = ap draws_of c.requires.call in
    let last : c.last-number.result ≡ c.args.world.now.handles.last = c.last-number.ensures.value ∙ ap (λ h. h.last) c.handles.ensures in
    omega (arith, few, draws, last)

pub keep_for-requires : goal.keep_for-requires
keep_for-requires g c = unrefused_room g.B.Body.means (world_of c.args.world.now) c.args.who c.requires.enters.view c.args.call.now (ap needs_memory c.requires.call) c.requires.enters.free

pub bear-requires : goal.bear-requires
bear-requires g c =
    let free = ap (refuse g.B.Body.means (world_of c.args.world.now) c.args.who c.requires.enters.view) (sym c.requires.call) ∙ c.requires.enters.free in
    subst (λ n. n + 1 < 18446744073709551616) (sym (ap (λ v. v.last_coroutine) c.in_ok-keep_for.ensures.ok)) (bundle_go_few g.B.Body.means (world_of c.args.world.now) c.args.who c.requires.enters.view c.args.bundle c.args.program c.args.args.now free)

pub returns-clause-ok : goal.returns-clause-ok
returns-clause-ok g c =
    λ view has.
    let k = entering.keep_for (world_of c.args.world.now) c.args.call.now in
    let named = ap (λ v. bundle_named v c.args.bundle) (sym c.in_ok-keep_for.ensures.ok) ∙ sym c.in-Some.ensures in
    let born = c.in_default-bear.ensures.ok ∙ ap (λ v. effects.bear v c.in_ok-child.child c.in-Some.home) c.in_ok-keep_for.ensures.ok in
    let last = c.last-number.ensures.value ∙ ap (λ h. h.last) c.handles.ensures in
    bundle_gone g.B.Body.means k (world_of c.bear.new.self) (world_of c.give_all.new.self) (world_of c.reply.new.self) c.args.who c.last_coroutine-owner.result c.args.bundle c.in-Some.home c.args.program view c.in_ok-child.child c.args.args.now
    named
    born
    c.give_all.ensures
    c.reply.ensures
    (c.in_ok-child.ensures view has ∙ ap (λ n. g.B.Body.means.child view c.args.program (told (n + 1) c.args.args.now)) last)
    (c.last_coroutine-owner.ensures ∙ ap (λ v. v.last_coroutine) born)
