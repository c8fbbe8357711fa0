use Rattle.std.proofs.Common.{sym}
use Rattle.dill_ws.proofs.Agreeing.{switched, not_switched, no_lines}
use Rattle.dill_ws.proofs.response.agrees.Goals as goal

pub returns-then-is_switch : goal.returns-then-is_switch
returns-then-is_switch c = switched c.args.accept _ _ _ c.is_switch.result c.is_agreement.result c.in-Some.ensures.lines c.is_switch.ensures c.if-is_switch.true c.is_agreement.ensures

pub returns-else-is_switch : goal.returns-else-is_switch
returns-else-is_switch c = not_switched c.args.accept _ _ _ c.is_switch.result c.in-Some.ensures.lines c.is_switch.ensures c.if-is_switch.false

pub returns-in-None : goal.returns-in-None
returns-in-None c = sym (no_lines c.args.accept _ c.in-None.ensures.none.0)
