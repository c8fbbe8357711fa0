use Rattle.std.proofs.Common.{◌∙◌, sym}
use Rattle.dill_drive.specs.Asks.{Counted}
use Rattle.dill_drive.specs.Story.{Trying}
use Rattle.dill_drive.proofs.Running.{runs_then}
use Rattle.dill_drive.proofs.Statuses.{ok_holds, err_holds, if_none_map, if_some_map}
use Rattle.dill_drive.proofs.Steps.{leads_then}
use Rattle.dill_drive.proofs.progress.Progress.round.Goals as goal

pub returns-then-is_err-clause-some : goal.returns-then-is_err-clause-some
returns-then-is_err-clause-some g c = err_holds c.tries.result (sym c.is_err.ensures.value ∙ c.if-is_err.true) c.tries.ensures.err c.args.most Trying tt

pub returns-then-is_err-2-clause-some : goal.returns-then-is_err-2-clause-some
returns-then-is_err-2-clause-some g c =
    let first = ok_holds c.tries.result (sym c.is_err.ensures.value ∙ c.if-is_err.false) c.tries.ensures.ok c.args.most Trying tt in
    let late = err_holds c.expire.result (sym c.is_err-2.ensures.value ∙ c.if-is_err-2.true) c.expire.ensures.err c.args.most (g.R.Rng.stream c.tries.new.keys) in
    runs_then g.M.Stepper.means (Counted g.K.Kernel.step g.K.Kernel.faults) c.args.traced c.args.most _ _ _ _ _ _ _ _ first late

pub returns-clause-none : goal.returns-clause-none
returns-clause-none g c =
    let first = ok_holds c.tries.result (sym c.is_err.ensures.value ∙ c.if-is_err.false) c.tries.ensures.ok c.args.most Trying tt in
    let late = ok_holds c.expire.result (sym c.is_err-2.ensures.value ∙ c.if-is_err-2.false) c.expire.ensures.ok c.args.most (g.R.Rng.stream c.tries.new.keys) in
    if_none_map c.turns_of_round.result (λ p. runs_then g.M.Stepper.means (Counted g.K.Kernel.step g.K.Kernel.faults) c.args.traced c.args.most _ _ _ _ _ _ _ _ first (leads_then g.M.Stepper.means c.args.traced c.args.most _ _ _ _ _ _ _ late p)) c.turns_of_round.ensures.none

pub returns-clause-some : goal.returns-clause-some
returns-clause-some g c =
    let first = ok_holds c.tries.result (sym c.is_err.ensures.value ∙ c.if-is_err.false) c.tries.ensures.ok c.args.most Trying tt in
    let late = ok_holds c.expire.result (sym c.is_err-2.ensures.value ∙ c.if-is_err-2.false) c.expire.ensures.ok c.args.most (g.R.Rng.stream c.tries.new.keys) in
    if_some_map c.turns_of_round.result (λ stop p. runs_then g.M.Stepper.means (Counted g.K.Kernel.step g.K.Kernel.faults) c.args.traced c.args.most _ _ _ _ _ _ _ _ first (leads_then g.M.Stepper.means c.args.traced c.args.most _ _ _ _ _ _ _ late p)) c.turns_of_round.ensures.some
