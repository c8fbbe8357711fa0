use Rattle.std.proofs.Common.{length}
use Rattle.relay_command.proofs.reading.+command_behind.Given as goal

abbrev pub decreases-command_behind : goal.decreases-command_behind
decreases-command_behind l = length l.args.now
