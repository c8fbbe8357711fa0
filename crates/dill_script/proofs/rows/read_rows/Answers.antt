use Rattle.std.proofs.Common.{refl}
use Rattle.std.specs.Fmt.{digits}
use Rattle.dill_script.proofs.rows.read_rows.Goals as goal

pub returns : goal.returns
unfolding digits
returns c = record { carriage_returns = refl; return_alone = refl; equal_registers = refl; sixteen_items = refl; fifteen_ifs = refl; fifteen_of_both = refl; later_program = refl }
