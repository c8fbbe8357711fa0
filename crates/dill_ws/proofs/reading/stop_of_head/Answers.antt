use Rattle.std.proofs.Common.{arith, sym, ◌∙◌}
use Rattle.std.proofs.lemmas.List.{length-take-le}
use Rattle.dill_ws.proofs.HeadReads.{stop_early, stop_late, stop_settled, not_open, line_of_short}
use Rattle.dill_ws.proofs.reading.stop_of_head.Goals as goal

pub returns-then-bytes-lt-HEAD_LIMIT-clause-stop : goal.returns-then-bytes-lt-HEAD_LIMIT-clause-stop
returns-then-bytes-lt-HEAD_LIMIT-clause-stop c = c.stop_of.ensures.stop ∙ sym (stop_early c.args.bytes.now (omega arith))

pub returns-then-bytes-lt-HEAD_LIMIT-clause-line : goal.returns-then-bytes-lt-HEAD_LIMIT-clause-line
returns-then-bytes-lt-HEAD_LIMIT-clause-line c = line_of_short c.args.bytes.now c.stop_of.result (omega arith) c.stop_of.ensures.stop c.stop_of.ensures.line

pub slice_bounds-stop_of-length : goal.slice_bounds-stop_of-length
slice_bounds-stop_of-length c = sym (length-take-le 16383 c.args.bytes.now (omega arith))

pub returns-in-Need-clause-stop : goal.returns-in-Need-clause-stop
returns-in-Need-clause-stop c = c.last_stop.ensures ∙ sym (stop_late c.args.bytes.now (omega arith) (sym c.in-Need.ensures.stop))

pub returns-in-Fault-clause-stop : goal.returns-in-Fault-clause-stop
returns-in-Fault-clause-stop c = sym (stop_settled c.args.bytes.now _ (sym c.in-Fault.ensures.stop) (not_open c.in-Fault.errno))
