use lib.Utf8.{encode}
use Rattle.std.proofs.Common.{refl}
use Rattle.std.specs.Str.{is_utf8, chars}
use Rattle.rand_core.specs.Stream.{next_u32}
use Rattle.dill_frames.specs.Prefix.{prefix_front, prefix_due}
use Rattle.dill_frames.specs.Suffix.{suffix_front, suffix_due}
use Rattle.dill_http.specs.Bytes.{is_token_byte}
use Rattle.dill_http.specs.Lines.{front_of_line}
use Rattle.dill_http.specs.Reading.{request_cut, status_cut, field_cut}
use Rattle.dill_ws.specs.Fronts.{head_front}
use Rattle.dill_stack.specs.Composed.{composed, is_invalid, is_refused, is_too_long}
use Rattle.dill_stack.specs.Refusals.{attach_fault, send_fault, line_fault, done_fault, read_fault, detach_fault}
use Rattle.dill_stack.specs.Sending.{frame, line, done, withdraw}
use Rattle.dill_stack.specs.WsReading.{ws_front, passed, shown}
use Rattle.dill_stack.specs.Read.{read_list}
use Rattle.dill_stack.specs.Dropping.{dropped}
use Rattle.dill_stack.specs.Receiving.{read}
use Rattle.dill_stack.specs.Attaching.{attach, greet_fault, expect_greet}
use Rattle.dill_stack.specs.Parting.{parting_fault, detach_start, detach_finish}
use Rattle.dill_stack.proofs.worked.parting_rows.Goals as goal

pub returns : goal.returns
unfolding is_utf8 chars encode next_u32 prefix_front prefix_due suffix_front suffix_due is_token_byte front_of_line request_cut status_cut field_cut head_front composed is_invalid is_refused is_too_long attach_fault send_fault line_fault done_fault read_fault detach_fault frame line done withdraw ws_front passed shown read_list dropped read attach greet_fault expect_greet parting_fault detach_start detach_finish
returns c = record {
  lower_met = refl;
  lower_met_before = refl;
  not_at_entry = refl;
  lower_done = refl;
  lower_done_send = refl;
  link_done = refl;
  nothing_to_send = refl;
  broken = refl;
  upper_met = refl;
  sent_once = refl;
  taken_back = refl;
  midway = refl;
  bye_sent = refl;
  bye_said = refl;
  bye_top = refl;
  bye_rest = refl;
  bye_pong = refl;
  no_pong = refl;
  judged = refl;
  peer_ended = refl;
}
