use Rattle.dill_meaning.specs.Calls.{arg_of}
use Rattle.relay_body.proofs.Telling.{one_more}
use Rattle.relay_body.specs.Seen.{seen}
use Rattle.relay_body.proofs.held.Held.args_of.Goals as goal

pub loop-arg-preserved : goal.loop-arg-preserved
loop-arg-preserved c =
    let more = one_more arg_of (seen c.args.self.now) c.args.list.now c.loop-arg.arg-index c.arg-item.result c.loop-arg-test.true c.arg-item.is in
    let pushed = c.in_ok-push_arg.ensures in
    let before = c.loop-arg.invariant in
    cc
