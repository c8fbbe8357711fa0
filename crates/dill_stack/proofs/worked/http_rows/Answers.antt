use lib.Utf8.{encode}
use Rattle.std.proofs.Common.{refl}
use Rattle.std.specs.Str.{is_utf8, chars}
use Rattle.rand_core.specs.Stream.{next_u32}
use Rattle.dill_frames.specs.Prefix.{prefix_front, prefix_due}
use Rattle.dill_frames.specs.Suffix.{suffix_front, suffix_due}
use Rattle.dill_http.specs.Bytes.{is_token_byte}
use Rattle.dill_http.specs.Lines.{front_of_line}
use Rattle.dill_http.specs.Reading.{request_cut, status_cut, field_cut}
use Rattle.dill_ws.specs.Fronts.{head_front}
use Rattle.dill_stack.specs.Composed.{composed, is_invalid, is_refused, is_too_long}
use Rattle.dill_stack.specs.Refusals.{attach_fault, send_fault, line_fault, done_fault, read_fault, detach_fault}
use Rattle.dill_stack.specs.Sending.{frame, line, done, withdraw}
use Rattle.dill_stack.specs.WsReading.{ws_front, passed, shown}
use Rattle.dill_stack.specs.Read.{read_list}
use Rattle.dill_stack.specs.Dropping.{dropped}
use Rattle.dill_stack.specs.Receiving.{read}
use Rattle.dill_stack.specs.Attaching.{attach, greet_fault, expect_greet}
use Rattle.dill_stack.specs.Parting.{parting_fault, detach_start, detach_finish}
use Rattle.dill_stack.proofs.worked.http_rows.Goals as goal

pub returns-clause-reads : goal.returns-clause-reads
unfolding is_utf8 chars encode next_u32 prefix_front prefix_due suffix_front suffix_due is_token_byte front_of_line request_cut status_cut field_cut head_front composed is_invalid is_refused is_too_long attach_fault send_fault line_fault done_fault read_fault detach_fault frame line done withdraw ws_front passed shown read_list dropped read attach greet_fault expect_greet parting_fault detach_start detach_finish
returns-clause-reads c = record {
  line = refl;
  host = refl;
  last = refl;
  over = refl;
  over_again = refl;
}

pub returns-clause-answers : goal.returns-clause-answers
unfolding is_utf8 chars encode next_u32 prefix_front prefix_due suffix_front suffix_due is_token_byte front_of_line request_cut status_cut field_cut head_front composed is_invalid is_refused is_too_long attach_fault send_fault line_fault done_fault read_fault detach_fault frame line done withdraw ws_front passed shown read_list dropped read attach greet_fault expect_greet parting_fault detach_start detach_finish
returns-clause-answers c = record {
  sent = refl;
  end_sent = refl;
  at_once = refl;
  plain_top = refl;
  body = refl;
}

pub returns-clause-places : goal.returns-clause-places
unfolding is_utf8 chars encode next_u32 prefix_front prefix_due suffix_front suffix_due is_token_byte front_of_line request_cut status_cut field_cut head_front composed is_invalid is_refused is_too_long attach_fault send_fault line_fault done_fault read_fault detach_fault frame line done withdraw ws_front passed shown read_list dropped read attach greet_fault expect_greet parting_fault detach_start detach_finish
returns-clause-places c = record {
  field_first = refl;
  second_request = refl;
  pending_first = refl;
  pending_field = refl;
  given_up = refl;
  failed_first = refl;
  failed_field = refl;
  pending_end = refl;
  failed_end = refl;
  end_given_up = refl;
  field_taken_back = refl;
}

pub returns-clause-ends : goal.returns-clause-ends
unfolding is_utf8 chars encode next_u32 prefix_front prefix_due suffix_front suffix_due is_token_byte front_of_line request_cut status_cut field_cut head_front composed is_invalid is_refused is_too_long attach_fault send_fault line_fault done_fault read_fault detach_fault frame line done withdraw ws_front passed shown read_list dropped read attach greet_fault expect_greet parting_fault detach_start detach_finish
returns-clause-ends c = record {
  nothing = refl;
  empty_first = refl;
  cut_line = refl;
  cut_head = refl;
  old_status = refl;
}

pub returns-clause-drops : goal.returns-clause-drops
unfolding is_utf8 chars encode next_u32 prefix_front prefix_due suffix_front suffix_due is_token_byte front_of_line request_cut status_cut field_cut head_front composed is_invalid is_refused is_too_long attach_fault send_fault line_fault done_fault read_fault detach_fault frame line done withdraw ws_front passed shown read_list dropped read attach greet_fault expect_greet parting_fault detach_start detach_finish
returns-clause-drops c = record {
  dropped = refl;
  empty_dropped = refl;
}
