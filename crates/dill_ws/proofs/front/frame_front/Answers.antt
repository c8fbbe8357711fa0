use Rattle.std.proofs.Common.{arith}
use Rattle.dill_ws.proofs.Shown.{is_head_front}
use Rattle.dill_ws.proofs.front.frame_front.Goals as goal

pub returns-clause-spelled : goal.returns-clause-spelled
returns-clause-spelled c = is_head_front c.args.receiver c.args.joining c.args.bytes.now (λ i. omega (arith, c.type_inv.bytes i)) c.front_by_fields.result c.front_by_fields.ensures
