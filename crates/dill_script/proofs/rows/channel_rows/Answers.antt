use Rattle.std.proofs.Common.{refl}
use Rattle.std.specs.Fmt.{digits}
use Rattle.dill_script.proofs.rows.channel_rows.Goals as goal

pub returns : goal.returns
unfolding digits
returns c = record { earliest_clause = refl; both_clauses = refl; cancelled_detach = refl }
