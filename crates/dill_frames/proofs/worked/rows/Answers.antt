use Rattle.std.proofs.Common.{refl}
use Rattle.dill_frames.specs.Prefix.{prefix_front, prefix_due}
use Rattle.dill_frames.specs.Suffix.{suffix_front, suffix_due}
use Rattle.dill_frames.proofs.worked.rows.Goals as goal

pub returns : goal.returns
unfolding prefix_front prefix_due suffix_front suffix_due
returns c = record {
  hello_big = refl;
  hello_big_waits = refl;
  hello_big_read = refl;
  hello_little = refl;
  hello_little_read = refl;
  empty = refl;
  empty_read = refl;
  highest_waits = refl;
  highest_refused = refl;
  five_refused = refl;
  cr_sent = refl;
  cr_read = refl;
  line_end_refused = refl;
  long_line_waits = refl;
  long_line_refused = refl;
}
