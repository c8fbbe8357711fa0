use Rattle.std.proofs.Common.{refl}
use Rattle.dill_sockets.proofs.Entered.{long_prefix}
use Rattle.dill_sockets.proofs.entering.attach_prefix.Goals as goal

pub returns-then-size-gt-SIZE_LIMIT : goal.returns-then-size-gt-SIZE_LIMIT
returns-then-size-gt-SIZE_LIMIT c = λ random. record { done = rw (long_prefix c.args.size c.args.little c.args.stack.now.held c.if-size-gt-SIZE_LIMIT.true) refl; rest = refl }
