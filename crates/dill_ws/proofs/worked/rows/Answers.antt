use Rattle.std.proofs.Common.{refl, inl}
use Rattle.std.specs.Str.{is_utf8, chars}
use Rattle.dill_ws.specs.Fronts.{head_front}
use Rattle.dill_ws.proofs.worked.rows.Goals as goal

pub returns : goal.returns
unfolding head_front is_utf8 chars
returns c = record {
  text = refl;
  masked_text = refl;
  read_text = refl;
  read_masked = refl;
  unmasked_text = refl;
  first_part = refl;
  ping_between = refl;
  last_part = refl;
  whole = record { kind = inl refl; opcodes = refl; fins = refl; together = refl };
  first_to_client = refl;
  last_to_client = refl;
  ping = refl;
  pong = refl;
  middle_length = refl;
  long_length = refl;
  read_middle = refl;
  read_long = refl;
  before_reserved_bit = refl;
  reserved_bit = refl;
  before_long_ping = refl;
  long_ping = refl;
  before_nothing_to_continue = refl;
  nothing_to_continue = refl;
  before_no_mask = refl;
  no_mask = refl;
  before_needless_length = refl;
  needless_length = refl;
  before_short_text_in_longer_form = refl;
  short_text_in_longer_form = refl;
  before_top_bit = refl;
  top_bit = refl;
  no_code = refl;
  normal = refl;
  reserved_code = refl;
  half_a_code = refl;
  reason_no_text = refl;
}
