use Rattle.std.proofs.Common.{refl}
use lib.Utf8.{encode}
use Rattle.std.specs.Fmt.{digits}
use Rattle.std.specs.Str.{is_utf8, chars}
use Rattle.rand_core.specs.Stream.{next_u32}
use Rattle.dill_frames.specs.Prefix.{prefix_front, prefix_due}
use Rattle.dill_frames.specs.Suffix.{suffix_front, suffix_due}
use Rattle.dill_stack.specs.Composed.{composed, is_invalid, is_refused, is_too_long}
use Rattle.dill_stack.specs.Refusals.{attach_fault, send_fault, line_fault, done_fault, read_fault, detach_fault}
use Rattle.dill_stack.specs.Sending.{frame, line, done, withdraw}
use Rattle.dill_stack.specs.Read.{read_list}
use Rattle.dill_stack.specs.Dropping.{dropped}
use Rattle.dill_stack.specs.Receiving.{read}
use Rattle.dill_loop.specs.Steps.{network_reply, network_after}
use Rattle.dill_http.specs.Lines.{front_of_line}
use Rattle.dill_stack.specs.Attaching.{attach, greet_fault, expect_greet}
use Rattle.dill_stack.specs.Greeting.{greet, greeted}
use Rattle.dill_ws.specs.HeadLines.{next_line, lines_at, behind, head_stop, head_front_by}
use Rattle.dill_ws.specs.Handshakes.{client_front, server_front}
use Rattle.dill_stack.specs.Parting.{parting_fault, detach_start, detach_finish}
use Rattle.dill_rows.proofs.connect_and_receive.Goals as goal

pub returns : goal.returns
unfolding digits is_utf8 chars encode next_u32 prefix_front prefix_due suffix_front suffix_due composed is_invalid is_refused is_too_long attach_fault send_fault line_fault done_fault read_fault detach_fault frame line done withdraw read_list dropped read attach greet_fault expect_greet greet greeted client_front server_front next_line lines_at behind head_stop head_front_by front_of_line network_reply network_after parting_fault detach_start detach_finish
returns c = record { run = refl }
