use Rattle.std.proofs.Common.{◌≤◌, ◌-◌, List, ℕ, length, take, drop, arith, sym, subst}
use Rattle.std.proofs.lemmas.List.{length-take}
use Rattle.dill_stack.specs.declared.want.ReadOut.TheVariants.{Given}
use Rattle.dill_stack.specs.Answering.{FitsGiven, sizes}
use Rattle.dill_stack.specs.Taking.{said_of}
use Rattle.dill_stack.proofs.Copies.{fits_more, line_short}
use Rattle.dill_stack.proofs.stack.Stack.take_line.Goals as goal

pub returns-in-Some-clause-within : goal.returns-in-Some-clause-within
returns-in-Some-clause-within c =
    let line : List ℕ = take (c.args.to - c.args.from) (drop c.args.from c.as_slice.result.now) in
    let short : length line ≤ 8192 = omega (arith, length-take (c.args.to - c.args.from) (drop c.args.from c.as_slice.result.now), c.requires.within.3) in
    fits_more (Given c.in-Some.answer) (sizes (length line) (length line)) (sizes 8192 8192) short short (subst (λ o. FitsGiven (said_of o) (sizes (length line) (length line))) (sym c.in-Some.ensures.answer) (line_short c.args.want line))
