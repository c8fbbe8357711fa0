use Rattle.std.proofs.Common.{refl}
use Rattle.relay_command.proofs.worked.rows.Goals as goal

pub returns : goal.returns
returns c = record { script_alone = refl; all_options = refl; behind_dashes = refl; load = refl; refused = refl }
