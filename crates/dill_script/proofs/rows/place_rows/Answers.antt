use Rattle.std.proofs.Common.{refl}
use Rattle.std.specs.Fmt.{digits}
use Rattle.dill_script.proofs.rows.place_rows.Goals as goal

pub returns : goal.returns
unfolding digits
returns c = record { program_in_a_program = refl; else_without_if = refl; second_else = refl; end_outside = refl; finally_in_if = refl; second_finally = refl; break_outside_a_loop = refl; return_behind_finally = refl; fail_behind_finally = refl; loop_behind_finally = refl; statement_outside = refl; open_at_the_last_line = refl; last_line_is_blank = refl }
