use Rattle.std.proofs.Common.{◌≡◌, ◌∙◌, ◌-◌, ◌+◌, length, suc, sym, ap, subst, arith}
use Rattle.dill_rules.specs.Settling.{settle_within}
use Rattle.dill_world.specs.Store.{ArePlain}
use Rattle.dill_steps.proofs.Passing.{settled, over}
use Rattle.dill_steps.proofs.settling.settle.Goals as goal

pub loop-preserved : goal.loop-preserved
loop-preserved g c =
    let end = length c.coroutines-end.result.now in
    let left = end - (c.loop.counter + 1) in
    let one : end - c.loop.counter ≡ suc left = omega (arith, c.loop-test.true) in
    record {
      end = c.loop.invariant.end;
      rest = rw one at c.loop.invariant.rest ∙ ap (settle_within left) (sym c.settle_one.ensures.settled);
      few = omega (arith, c.loop.invariant.few, c.settle_one.ensures.few);
    }

pub returns-clause-settled : goal.returns-clause-settled
returns-clause-settled g c =
    let end = length c.coroutines-end.result.now in
    let none : end - c.loop.counter ≡ 0 = omega (arith, c.loop-test.false) in
    let plain = subst (λ cs. ArePlain cs) c.coroutines-2.ensures.rows c.coroutines-2.ensures.plain in
    settled c.args.world.now c.loop.world plain (rw none at c.loop.invariant.rest)

pub returns-then-not-settle_one-clause-settled : goal.returns-then-not-settle_one-clause-settled
returns-then-not-settle_one-clause-settled g c =
    let plain = subst (λ cs. ArePlain cs) c.coroutines.ensures.rows c.coroutines.ensures.plain in
    over c.args.world.now c.loop.world c.settle_one.new.world (length c.coroutines-end.result.now - c.loop.counter) plain c.loop.invariant.rest (c.settle_one.ensures.rests c.if-not-settle_one.true) c.settle_one.ensures.settled
