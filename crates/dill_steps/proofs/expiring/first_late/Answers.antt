use Rattle.std.proofs.Common.{◌≡◌, ◌-◌, suc, sym, subst, arith, filter_map, option_map, drop}
use Rattle.dill_rules.specs.Expiring as expiring
use Rattle.dill_steps.specs.Timing.{first_of, late_timer, as_timer}
use Rattle.dill_steps.proofs.Lists.{late_step}
use Rattle.dill_steps.proofs.expiring.first_late.Goals as goal

pub loop-i-preserved : goal.loop-i-preserved
loop-i-preserved g c =
    let same : suc (c.loop-i.i - 1) ≡ c.loop-i.i = omega (arith, c.loop-i-test.true) in
    let inv = subst (λ k. option_map as_timer c.loop-i.first ≡ first_of (expiring.in_order (filter_map (late_timer c.args.moment) (drop k c.args.coroutines.now)))) (sym same) c.loop-i.invariant in
    late_step c.args.moment c.args.coroutines.now (c.loop-i.i - 1) c.index-coroutines-i.result c.loop-i.first c.sooner_with-first.result (omega (arith, c.loop-i-test.true, c.loop-i.auto.i)) c.index-coroutines-i.is inv c.sooner_with-first.ensures
