use Rattle.std.proofs.Common.{arith}
use Rattle.relay_lines.proofs.Values.{too_large}
use Rattle.relay_lines.proofs.number.value_up_to.Goals as goal

pub returns-in_err-checked_mul : goal.returns-in_err-checked_mul
returns-in_err-checked_mul c =
    let h = c.in_err-checked_mul.ensures in
    rw c.from_residual.ensures (too_large c.args.greatest c.loop-digit.value c.args.digits.now c.loop-digit.digit-index c.loop-digit.invariant.so_far c.loop-digit-test.true (omega (arith, h)))

pub returns-in_err-value : goal.returns-in_err-value
returns-in_err-value c =
    let h = c.in_err-value.ensures in
    let m = c.in_ok-checked_mul.ensures in
    rw c.from_residual-in_err-value.ensures (too_large c.args.greatest c.loop-digit.value c.args.digits.now c.loop-digit.digit-index c.loop-digit.invariant.so_far c.loop-digit-test.true (omega (arith, h, m.1)))

pub returns-then-greatest-value : goal.returns-then-greatest-value
returns-then-greatest-value c =
    let h = c.in_ok-value.ensures in
    let m = c.in_ok-checked_mul.ensures in
    too_large c.args.greatest c.loop-digit.value c.args.digits.now c.loop-digit.digit-index c.loop-digit.invariant.so_far c.loop-digit-test.true (omega (arith, h.1, m.1))
