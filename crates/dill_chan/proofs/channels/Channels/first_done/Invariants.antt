use Rattle.std.proofs.Common.{◌≡◌, drop}
use Rattle.dill_chan.specs.Choosing.{first_done}
use Rattle.dill_chan.proofs.channels.Channels.first_done.Given as goal

abbrev pub invariant-loop-wait : goal.invariant-loop-wait
invariant-loop-wait l = first_done l.self.channels (drop l.wait-index l.clauses) ≡ first_done l.self.channels l.clauses
