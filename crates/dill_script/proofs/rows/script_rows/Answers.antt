use Rattle.std.proofs.Common.{refl}
use Rattle.std.specs.Fmt.{digits}
use Rattle.dill_script.proofs.rows.script_rows.Goals as goal

pub returns : goal.returns
unfolding digits
returns c = record { two_prints = refl; equal_deadlines = refl; renumbered_handle = refl; nested_close = refl; unequal_sizes = refl; counted_sleeps = refl }
