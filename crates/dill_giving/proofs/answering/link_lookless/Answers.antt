use Rattle.std.proofs.Common.{IfSome, true, ◌≡◌, sym, subst}
use Rattle.dill_world.specs.Store.{is_short_answer}
use Rattle.dill_giving.proofs.Unseen.{short_lookless}
use Rattle.dill_giving.proofs.answering.link_lookless.Goals as goal

pub returns-in-Some-clause-short : goal.returns-in-Some-clause-short
returns-in-Some-clause-short g c = subst (λ o. IfSome o (λ a. is_short_answer a ≡ true)) (sym c.stack_lookless.ensures) (short_lookless c.args.call.now c.in-Some.row.now)
