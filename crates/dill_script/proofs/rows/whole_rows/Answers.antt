use Rattle.std.proofs.Common.{refl}
use Rattle.std.specs.Fmt.{digits}
use Rattle.dill_script.proofs.rows.whole_rows.Goals as goal

pub returns : goal.returns
unfolding digits
returns c = record { version_before_bad_text = refl; version_behind_comments = refl; only_comments = refl; again = refl; not_there = refl; one_argument_more = refl; argument_missing = refl; no_program_before_no_main = refl; main_missing = refl; five_loops = refl; sixteen_of_both = refl; sixteen_ifs = refl }
