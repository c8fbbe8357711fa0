use Rattle.std.proofs.Common.{refl}
use Rattle.std.specs.Fmt.{digits}
use Rattle.dill_script.proofs.rows.limit_rows.Goals as goal

pub returns : goal.returns
unfolding digits
returns c = record { programs = refl; most_programs = refl; places = refl; places_and_statements = refl; loop_end = refl; most_places = refl }
