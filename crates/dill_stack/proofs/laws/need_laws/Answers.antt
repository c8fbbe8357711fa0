use Rattle.std.proofs.Common.{arith}
use Rattle.dill_stack.proofs.Roominess.{need_bounded}
use Rattle.dill_stack.proofs.laws.need_laws.Goals as goal

pub returns : goal.returns
returns c = record { receives = need_bounded; greets = λ most. omega arith; leaves = λ most. omega arith }
