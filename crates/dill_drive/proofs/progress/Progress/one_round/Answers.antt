use Rattle.std.proofs.Common.{◌∙◌, refl, sym}
use Rattle.dill_base.specs.declared.status.Status.TheVariants.{Well, Stuck, Spent}
use Rattle.dill_drive.specs.Asks.{Counted}
use Rattle.dill_drive.specs.Story.{Round, Asking}
use Rattle.dill_drive.proofs.Running.{stops_stuck, stops_spent, goes_round, stops_waiting, wait_cause}
use Rattle.dill_drive.proofs.Statuses.{if_none_map, if_some_map, no_wait, no_wait_in}
use Rattle.dill_drive.proofs.progress.Progress.one_round.Goals as goal

pub returns-then-is_stuck-clause-some : goal.returns-then-is_stuck-clause-some
returns-then-is_stuck-clause-some g c =
    let s = c.args.self.now in
    let keys = g.R.Rng.stream c.args.keys.now in
    stops_stuck g.M.Stepper.means (Counted g.K.Kernel.step g.K.Kernel.faults) c.args.traced c.args.most c.args.kernel.now _ s.core s.tally keys _ _ c.requires.going (sym c.is_stuck.ensures ∙ c.if-is_stuck.true) (c.stop_stuck.ensures.leads c.args.most keys)

pub returns-then-is_stuck-clause-wait : goal.returns-then-is_stuck-clause-wait
returns-then-is_stuck-clause-wait g c = λ failed. no_wait c.stop_stuck.result Stuck c.stop_stuck.ensures.status refl failed

pub returns-then-is_spent-clause-some : goal.returns-then-is_spent-clause-some
returns-then-is_spent-clause-some g c =
    let s = c.args.self.now in
    let keys = g.R.Rng.stream c.args.keys.now in
    stops_spent g.M.Stepper.means (Counted g.K.Kernel.step g.K.Kernel.faults) c.args.traced c.args.most c.args.kernel.now _ s.core s.tally keys _ _ c.requires.going (sym c.is_stuck.ensures ∙ c.if-is_stuck.false) (sym c.is_spent.ensures ∙ c.if-is_spent.true) (c.stop.ensures.leads c.args.most Round Well keys)

pub returns-then-is_spent-clause-wait : goal.returns-then-is_spent-clause-wait
returns-then-is_spent-clause-wait g c = λ failed. no_wait c.stop.result Spent c.stop.ensures.status refl failed

pub returns-in-Ok-clause-none : goal.returns-in-Ok-clause-none
returns-in-Ok-clause-none g c =
    let s = c.args.self.now in
    let keys = g.R.Rng.stream c.args.keys.now in
    if_none_map c.round.result (λ p. goes_round g.M.Stepper.means (Counted g.K.Kernel.step g.K.Kernel.faults) c.args.traced c.args.most _ _ _ s.core s.tally c.round-self.result keys _ _ c.requires.going (sym c.is_stuck.ensures ∙ c.if-is_stuck.false) (sym c.is_spent.ensures ∙ c.if-is_spent.false) c.round-self.ensures
    _ c.woke.new.self c.limit.result c.in-Ok.moment c.wait.new.ready c.wait.result c.limit.ensures c.in-Ok.is c.wait.ensures.allowed (c.wait.ensures.step, wait_cause _ _ c.wait.new.ready c.wait.result c.wait.ensures.cause) c.woke.ensures p) c.round.ensures.none

pub returns-in-Ok-clause-some : goal.returns-in-Ok-clause-some
returns-in-Ok-clause-some g c =
    let s = c.args.self.now in
    let keys = g.R.Rng.stream c.args.keys.now in
    if_some_map c.round.result (λ stop p. goes_round g.M.Stepper.means (Counted g.K.Kernel.step g.K.Kernel.faults) c.args.traced c.args.most _ _ _ s.core s.tally c.round-self.result keys _ _ c.requires.going (sym c.is_stuck.ensures ∙ c.if-is_stuck.false) (sym c.is_spent.ensures ∙ c.if-is_spent.false) c.round-self.ensures
    _ c.woke.new.self c.limit.result c.in-Ok.moment c.wait.new.ready c.wait.result c.limit.ensures c.in-Ok.is c.wait.ensures.allowed (c.wait.ensures.step, wait_cause _ _ c.wait.new.ready c.wait.result c.wait.ensures.cause) c.woke.ensures p) c.round.ensures.some

pub returns-in-Ok-clause-wait : goal.returns-in-Ok-clause-wait
returns-in-Ok-clause-wait g c = λ failed. no_wait_in c.round.result c.round.ensures.stop failed

pub returns-in-Err-clause-some : goal.returns-in-Err-clause-some
returns-in-Err-clause-some g c =
    let s = c.args.self.now in
    let keys = g.R.Rng.stream c.args.keys.now in
    stops_waiting g.M.Stepper.means (Counted g.K.Kernel.step g.K.Kernel.faults) c.args.traced c.args.most _ _ _ s.core s.tally c.round-self.result keys _ _ c.requires.going (sym c.is_stuck.ensures ∙ c.if-is_stuck.false) (sym c.is_spent.ensures ∙ c.if-is_spent.false) c.round-self.ensures
    c.limit.result c.in-Err.field-0 c.wait.new.ready c.wait.result c.limit.ensures c.in-Err.is c.wait.ensures.allowed (c.wait.ensures.step, wait_cause _ _ c.wait.new.ready c.wait.result c.wait.ensures.cause) (c.stop-in-Err.ensures.leads c.args.most Asking Well keys)

pub returns-in-Err-clause-wait : goal.returns-in-Err-clause-wait
returns-in-Err-clause-wait g c = λ failed. c.in-Err.ensures.cause.rose refl
