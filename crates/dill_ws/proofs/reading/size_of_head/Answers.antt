use Rattle.std.proofs.Common.{arith, ap}
use Rattle.std.specs.Prelude.{length}
use Rattle.dill_ws.proofs.HeadReads.{size_by_rest}
use Rattle.dill_ws.proofs.reading.size_of_head.Goals as goal

pub overflow_sub-result : goal.overflow_sub-result
overflow_sub-result c = omega (arith, size_by_rest c.http_laws.ensures.lines c.args.bytes.now, ap length c.behind.ensures)

pub returns : goal.returns
returns c = omega (arith, size_by_rest c.http_laws.ensures.lines c.args.bytes.now, ap length c.behind.ensures)

pub overflow_sub-result-2 : goal.overflow_sub-result-2
overflow_sub-result-2 c = omega (arith, size_by_rest c.http_laws.ensures.lines c.args.bytes.now, ap length c.behind.ensures)
