use Rattle.std.proofs.Common.{refl}
use Rattle.std.specs.Fmt.{digits}
use Rattle.dill_script.proofs.rows.token_rows.Goals as goal

pub returns : goal.returns
unfolding digits
returns c = record { text_without_end = refl; other_escape = refl; half_an_escape = refl; text_before_a_word = refl; unknown = refl; no_word = refl; try_behind_registers = refl; nothing_behind_equals = refl; no_register_before_equals = refl; start_is_no_word = refl; second_version = refl; word_is_a_text = refl }
