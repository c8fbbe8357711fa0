use Rattle.std.proofs.Common.{refl}
use Rattle.std.specs.Fmt.{digits}
use Rattle.dill_script.proofs.rows.operand_rows.Goals as goal

pub returns : goal.returns
unfolding digits
returns c = record { operand_of_an_end = refl; program_without_parameters = refl; one_too_many = refl; one_too_few = refl; try_without_a_call = refl; try_of_an_end = refl; registers_of_no_call = refl; register_of_the_other_sort = refl; seventeenth_register = refl; needless_zero = refl; greater_than_all = refl; number_among_items = refl; nothing_to_print = refl; seventeen_items = refl; number_of_256 = refl; port_0 = refl; gift_that_is_no_register = refl; unknown_errno = refl; blank_behind_plus = refl; main_with_a_parameter = refl; upper_case_name = refl; seventeen_parameters = refl }
