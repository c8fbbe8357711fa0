use lib.Utf8.{encode}
use Rattle.std.proofs.Common.{refl}
use Rattle.std.specs.Str.{is_utf8, chars}
use Rattle.rand_core.specs.Stream.{next_u32}
use Rattle.dill_frames.specs.Prefix.{prefix_front, prefix_due}
use Rattle.dill_frames.specs.Suffix.{suffix_front, suffix_due}
use Rattle.dill_http.specs.Bytes.{is_token_byte}
use Rattle.dill_http.specs.Lines.{front_of_line}
use Rattle.dill_http.specs.Reading.{request_cut, status_cut, field_cut}
use Rattle.dill_ws.specs.Fronts.{head_front}
use Rattle.dill_stack.specs.Composed.{composed, is_invalid, is_refused, is_too_long}
use Rattle.dill_stack.specs.Refusals.{attach_fault, send_fault, line_fault, done_fault, read_fault, detach_fault}
use Rattle.dill_stack.specs.Sending.{frame, line, done, withdraw}
use Rattle.dill_stack.specs.WsReading.{ws_front, passed, shown}
use Rattle.dill_stack.specs.Read.{read_list}
use Rattle.dill_stack.specs.Dropping.{dropped}
use Rattle.dill_stack.specs.Receiving.{read}
use Rattle.dill_stack.specs.Attaching.{attach, greet_fault, expect_greet}
use Rattle.dill_stack.specs.Parting.{parting_fault, detach_start, detach_finish}
use Rattle.dill_stack.proofs.worked.rows.Goals as goal

pub returns : goal.returns
unfolding is_utf8 chars encode next_u32 prefix_front prefix_due suffix_front suffix_due is_token_byte front_of_line request_cut status_cut field_cut head_front composed is_invalid is_refused is_too_long attach_fault send_fault line_fault done_fault read_fault detach_fault frame line done withdraw ws_front passed shown read_list dropped read attach greet_fault expect_greet parting_fault detach_start detach_finish
returns c = record {
  tower_top = refl;
  first = refl;
  second = refl;
  third = refl;
  end_sent = refl;
  not_before = refl;
  lower = refl;
  lower_said = refl;
  rest = refl;
  plain_top = refl;
  half = refl;
  half_left = refl;
  half_dropped = refl;
  half_sending = refl;
  half_receiving = refl;
  unbegun_left = refl;
  end_taken_back = refl;
  end_kept = refl;
  end_withdrawn = refl;
  end_broken = refl;
  no_bytes = refl;
  cut = refl;
  broken = refl;
  short_exact = refl;
  exact_kept = refl;
  framed_cuts = refl;
  lines_cuts = refl;
  nine_bytes = refl;
  busy = refl;
  broken_attach = refl;
  end_is_no_message = refl;
  line_end_inside = refl;
}
