use Rattle.std.proofs.Common.{◌≡◌, suc, ◌-◌, length, sym, arith}
use Rattle.std.proofs.lemmas.Bool.Decides.{nat_tests}
use Rattle.relay_reader.proofs.Cutting.{return_dropped, return_kept}
use Rattle.relay_reader.proofs.cut.without_return.Goals as goal

pub returns-then-line-front-eq13 : goal.returns-then-line-front-eq13
returns-then-line-front-eq13 c =
    let line = c.args.line.now in
    let some : length line ≡ suc (length line - 1) = grind (arith, nat_tests) in
    sym (return_dropped line (length line - 1) some c.if-line-front-eq13.true)

pub returns : goal.returns
returns c =
    let line = c.args.line.now in
    let some : length line ≡ suc (length line - 1) = grind (arith, nat_tests) in
    sym (return_kept line (length line - 1) some c.if-line-front-eq13.false)
