use Rattle.std.proofs.Common.{◌≡◌, ◌∙◌, length, ap, arith}
use Rattle.dill_base.specs.Maps.{if_some}
use Rattle.dill_rules.specs.Giving.{give}
use Rattle.dill_rules.specs.Entering.{late_answer}
use Rattle.dill_world.specs.Store.{world_of}
use Rattle.dill_steps.specs.Asking.{asked_of, give_asked}
use Rattle.dill_steps.proofs.Asking.{given_as}
use Rattle.dill_steps.proofs.Counting.{crew, asked}
use Rattle.dill_steps.proofs.expiring.expire_one.Goals as goal

pub returns-in-Some-clause-expired : goal.returns-in-Some-clause-expired
returns-in-Some-clause-expired g c =
    let w = world_of c.args.world.now in
    let who = c.args.who in
    let call = c.in-Some.call.now in
    c.give.ensures
    ∙ ap (λ x. give_asked w who x c.late_answer-answer.result) c.asked_of-asked.ensures
    ∙ ap (λ a. give_asked w who (asked_of call) a) c.late_answer-answer.ensures.value
    ∙ given_as w who call (late_answer call) c.in-Some.ensures.plain
    ∙ ap (λ o. if_some o w (λ k. give w who k (late_answer k))) c.in-Some.ensures.value

pub returns-in-Some-clause-few : goal.returns-in-Some-clause-few
returns-in-Some-clause-few g c =
    let same : length c.give.new.world.coroutines ≡ length c.args.world.now.coroutines = ap crew c.give.ensures ∙ asked (world_of c.args.world.now) c.args.who c.asked_of-asked.result c.late_answer-answer.result in
    omega (arith, same)
