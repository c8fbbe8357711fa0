use Rattle.dill_meaning.specs.Calls.{clause_of}
use Rattle.relay_body.proofs.Telling.{one_more}
use Rattle.relay_body.specs.Seen.{seen}
use Rattle.relay_body.proofs.held.Held.clauses_of.Goals as goal

pub loop-clause-preserved : goal.loop-clause-preserved
loop-clause-preserved c =
    let more = one_more clause_of (seen c.args.self.now) c.args.list.now c.loop-clause.clause-index c.clause-item.result c.loop-clause-test.true c.clause-item.is in
    let pushed = c.in_ok-push_clause.ensures in
    let before = c.loop-clause.invariant in
    cc
