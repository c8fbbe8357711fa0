use Rattle.std.proofs.Common.{refl}
use Rattle.std.specs.Fmt.{digits}
use Rattle.dill_drive.proofs.laws.rows.Goals as goal

pub returns : goal.returns
unfolding digits
returns c = record {
  two_prints = refl;
  two_prints_traced = refl;
  failed_wait = refl;
  failed_output = refl;
  half_a_summary = refl;
  spent = refl;
  unmet_is_left = refl;
  one_in_a_turn = refl;
}
