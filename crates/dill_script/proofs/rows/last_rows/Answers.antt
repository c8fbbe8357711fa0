use Rattle.std.proofs.Common.{refl}
use Rattle.std.specs.Fmt.{digits}
use Rattle.dill_script.proofs.rows.last_rows.Goals as goal

pub returns : goal.returns
unfolding digits
returns c = record { operand_in_an_open_program = refl; word_in_an_open_program = refl; try_alone = refl; program = refl; program_without_parameters = refl; main_with_a_parameter = refl; operand_of_the_last_end = refl; operand_of_an_inner_end = refl; operand_of_an_end_outside = refl; return_alone = refl }
