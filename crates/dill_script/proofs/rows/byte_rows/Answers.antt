use Rattle.std.proofs.Common.{refl}
use Rattle.std.specs.Fmt.{digits}
use Rattle.dill_script.proofs.rows.byte_rows.Goals as goal

pub returns : goal.returns
unfolding digits
returns c = record { control = refl; carriage_return = refl; in_a_comment = refl; behind_the_version = refl; comment_before_the_version = refl; version_of_the_same_line = refl; only_a_return = refl; second_return = refl }
