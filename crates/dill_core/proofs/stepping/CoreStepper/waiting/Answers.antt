use Rattle.std.proofs.Common.{◌∙◌, ◌≤◌, List, length, option_map, sym, ap, subst}
use Rattle.std.specs.List.Sorted.{IsNonDecreasingBy}
use Rattle.dill_rules.specs.declared.coroutine.Coroutine.{Coroutine}
use Rattle.dill_rules.specs.Waiting.{waiters}
use Rattle.laws_queue.specs.Kept.{kept_waiting}
use Rattle.dill_drive.specs.Waiting.{next_above, Rises}
use Rattle.dill_steps.specs.Timing.{as_pair}
use Rattle.dill_world.specs.Store.{world_of}
use Rattle.dill_core.specs.Holding.{Holding, kept_of}
use Rattle.dill_core.specs.Placing.{AreUpTo}
use Rattle.dill_core.proofs.Waits.{next_waiter, waiters_rise, non_decreasing, waits_behind}
use Rattle.dill_core.proofs.stepping.CoreStepper.waiting.Goals as goal

pub place_behind-place-requires : goal.place_behind-place-requires
place_behind-place-requires g c =
    let s = c.self.inside.world in
    subst (λ (cs : List (Coroutine g.row.B.Denot)). IsNonDecreasingBy (λ x. x.number) cs) (sym c.coroutines.ensures.rows) (non_decreasing s.coroutines 0 s.last_coroutine c.self.invariant.stable.well.numbered)

pub waiting_from-requires : goal.waiting_from-requires
waiting_from-requires g c = subst (λ (cs : List (Coroutine g.row.B.Denot)). c.place_behind-place.result ≤ length cs) c.coroutines.ensures.rows c.place_behind-place.ensures.within

pub returns-clause-value : goal.returns-clause-value
returns-clause-value g c =
    let s = c.self.inside.world in
    let low = subst (λ (cs : List (Coroutine g.row.B.Denot)). AreUpTo c.args.after cs c.place_behind-place.result) c.coroutines.ensures.rows c.place_behind-place.ensures.low in
    c.waiting_from.ensures
    ∙ ap (option_map as_pair) (waits_behind s.coroutines c.place_behind-place.result c.args.after low)
    ∙ next_waiter c.args.after (waiters (world_of s))
    ∙ ap (λ (h : Holding g.row.B.Denot). next_above c.args.after (kept_waiting (kept_of h))) c.self.view_is

pub returns-clause-rises : goal.returns-clause-rises
returns-clause-rises g c =
    let s = c.self.inside.world in
    subst (λ (h : Holding g.row.B.Denot). Rises 0 (kept_waiting (kept_of h))) c.self.view_is (waiters_rise s.coroutines 0 s.last_coroutine c.self.invariant.stable.well.numbered)
