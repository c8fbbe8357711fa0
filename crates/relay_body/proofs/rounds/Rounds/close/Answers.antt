use Rattle.std.proofs.Common.{add-one}
use Rattle.relay_body.proofs.Stacking.{outside_drop}
use Rattle.relay_body.proofs.rounds.Rounds.close.Goals as goal

pub returns-then-self-lt4 : goal.returns-then-self-lt4
returns-then-self-lt4 c = rw (← c.self.view_is, add-one, outside_drop)
