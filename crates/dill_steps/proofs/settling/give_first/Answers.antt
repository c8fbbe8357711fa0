use Rattle.std.proofs.Common.{◌≡◌, ◌∙◌, length, sym, ap, arith}
use Rattle.dill_world.specs.Store.{world_of}
use Rattle.dill_steps.proofs.Asking.{first_given, first_none}
use Rattle.dill_steps.proofs.Counting.{crew, asked}
use Rattle.dill_steps.proofs.settling.give_first.Goals as goal

pub returns-in-None-clause-given : goal.returns-in-None-clause-given
returns-in-None-clause-given g c = first_given (world_of c.args.world.now) _ c.first_answer.ensures.plain (sym c.in-None.is ∙ c.first_answer.ensures.due)

pub returns-in-None-clause-none : goal.returns-in-None-clause-none
returns-in-None-clause-none g c = λ e. first_none (world_of c.args.world.now) c.first_answer.ensures.plain (sym c.first_answer.ensures.due ∙ c.in-None.is)

pub returns-in-Some-clause-given : goal.returns-in-Some-clause-given
returns-in-Some-clause-given g c = c.give.ensures ∙ first_given (world_of c.args.world.now) _ c.first_answer.ensures.plain (sym c.in-Some.is ∙ c.first_answer.ensures.due)

pub returns-in-Some-clause-few : goal.returns-in-Some-clause-few
returns-in-Some-clause-few g c =
    let same : length c.give.new.world.coroutines ≡ length c.args.world.now.coroutines = ap crew c.give.ensures ∙ asked (world_of c.args.world.now) c.in-Some.who c.in-Some.asked c.in-Some.answer in
    omega (arith, same)
