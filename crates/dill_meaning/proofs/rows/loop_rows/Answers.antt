use Rattle.std.proofs.Common.{refl}
use Rattle.std.specs.Fmt.{digits}
use Rattle.dill_meaning.proofs.rows.loop_rows.Goals as goal

pub returns : goal.returns
unfolding digits
returns c = record { counted = refl; counted_left = refl; none = refl; empty_round = refl; endless = refl; broken = refl; nested = refl; rounds_when_entered = refl }
