use Rattle.std.proofs.Common.{refl}
use Rattle.dill_http.specs.Bytes.{is_token_byte}
use Rattle.dill_http.specs.Lines.{front_of_line}
use Rattle.dill_http.specs.Reading.{request_cut, status_cut, field_cut}
use Rattle.dill_http.specs.Writing.{line_due}
use Rattle.dill_http.proofs.worked.rows.Goals as goal

pub returns : goal.returns
unfolding is_token_byte front_of_line request_cut status_cut field_cut line_due
returns c = record {
  field = refl;
  blank_in_name = refl;
  no_name = refl;
  no_reason = refl;
  blank_before_value = refl;
  request = refl;
  host = refl;
  status = refl;
  line_feed_alone = refl;
  cut_line = refl;
  return_alone = refl;
  line = refl;
  empty_line = refl;
  asked = refl;
  asked_old = refl;
  asked_new = refl;
}
