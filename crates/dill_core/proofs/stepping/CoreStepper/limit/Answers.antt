use Rattle.std.proofs.Common.{◌≡◌, ◌∙◌, false, sym, ap}
use Rattle.dill_rules.specs.Waiting.{until}
use Rattle.laws_queue.specs.Kept.{has_answer, kept_limit}
use Rattle.dill_core.specs.Holding.{Holding, kept_of}
use Rattle.dill_core.proofs.Trying.{limit_is}
use Rattle.dill_core.proofs.stepping.CoreStepper.limit.Goals as goal

pub returns : goal.returns
returns g c =
    let s = c.self.inside in
    let h : Holding g.row.B.Denot = record { world = s.world; ready = s.ready.items; early = s.early } in
    let none : has_answer h.ready ≡ false = ap (λ (x : Holding g.row.B.Denot). has_answer x.ready) c.self.view_is ∙ sym c.is_answered.ensures ∙ c.if-is_answered.false in
    c.until.ensures ∙ ap until c.least_due.ensures ∙ sym (limit_is (kept_of h) c.self.invariant.stable.linkless none) ∙ ap (λ (x : Holding g.row.B.Denot). kept_limit (kept_of x)) c.self.view_is
