use Rattle.std.proofs.Common.{◌≡◌, true, IfSome, sym, subst}
use Rattle.dill_calls.specs.CallTable.{word_of}
use Rattle.dill_world.specs.Store.{world_of}
use Rattle.dill_giving.specs.Answering.{needs_no_look}
use Rattle.dill_giving.proofs.Unseen.{unseen}
use Rattle.dill_giving.proofs.answering.lookless_of.Goals as goal

pub returns-else-may_wait-clause-unseen : goal.returns-else-may_wait-clause-unseen
returns-else-may_wait-clause-unseen g c =
    subst (λ o. IfSome o (λ a. needs_no_look (word_of c.args.call.now) a ≡ true)) (sym c.linked_lookless.ensures.value) (unseen (world_of c.args.world.now) c.args.who c.args.call.now)
