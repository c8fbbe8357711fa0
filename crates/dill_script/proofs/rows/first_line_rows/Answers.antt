use Rattle.std.proofs.Common.{refl}
use Rattle.dill_script.proofs.rows.first_line_rows.Goals as goal

pub returns : goal.returns
returns c = record { nothing = refl; alone = refl; other = refl }
