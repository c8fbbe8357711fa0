use Rattle.std.proofs.Common.{refl}
use Rattle.dill_http.specs.Heads.{Status}
use Rattle.dill_sockets.proofs.entering.queue_status.Goals as goal

pub returns : goal.returns
returns c = λ random. c.queue_line.ensures (Status c.args.code c.args.reason.now) random c.requires.spelled refl c.write_status-line.ensures
