use Rattle.std.proofs.Common.{◌≡◌, ◌∙◌, ◌≤◌, ◌+◌, ◌++◌, ℕ, List, length, sym, ap, subst, vec_capacity}
use Rattle.dill_rules.specs.State.{fresh}
use Rattle.dill_world.specs.Lined.{fresh_of}
use Rattle.dill_world.specs.Store.{Store, world_of}
use Rattle.dill_world.proofs.LinedUp.{fresh_filtered}
use Rattle.dill_world.proofs.world.World.line_up.Goals as goal

pub queue_each-requires : goal.queue_each-requires
queue_each-requires g c =
    let same : fresh_of c.deref.result.now ≡ fresh (world_of c.args.self.now) = ap fresh_of c.deref.ensures.value ∙ fresh_filtered c.self.inside.coroutines.items ∙ ap (λ (k : Store g.row.B.Denot). fresh (world_of k)) c.self.view_is in
    subst (λ (ns : List ℕ). length c.args.ready.now.items + length ns ≤ vec_capacity c.args.ready.now) (sym same) c.requires

pub returns-clause-ready : goal.returns-clause-ready
returns-clause-ready g c =
    let same : fresh_of c.deref.result.now ≡ fresh (world_of c.args.self.now) = ap fresh_of c.deref.ensures.value ∙ fresh_filtered c.self.inside.coroutines.items ∙ ap (λ (k : Store g.row.B.Denot). fresh (world_of k)) c.self.view_is in
    c.queue_each.ensures.items ∙ ap (λ (ns : List ℕ). c.args.ready.now.items ++ ns) same
