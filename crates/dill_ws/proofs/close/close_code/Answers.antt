use Rattle.dill_ws.proofs.Closes.{some_close, no_close}
use Rattle.dill_ws.proofs.close.close_code.Goals as goal

pub returns-clause-code : goal.returns-clause-code
returns-clause-code c = some_close c.args.payload.now c.code_before_reason.result c.code_before_reason.ensures

pub returns-clause-none : goal.returns-clause-none
returns-clause-none c = no_close c.args.payload.now c.code_before_reason.result c.code_before_reason.ensures
