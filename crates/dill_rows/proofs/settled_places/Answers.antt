use Rattle.std.proofs.Common.{refl}
use Rattle.std.specs.Fmt.{digits}
use lib.Utf8.{encode}
use Rattle.std.specs.Str.{is_utf8, chars}
use Rattle.rand_core.specs.Stream.{next_u32}
use Rattle.dill_frames.specs.Prefix.{prefix_front, prefix_due}
use Rattle.dill_frames.specs.Suffix.{suffix_front, suffix_due}
use Rattle.dill_http.specs.Bytes.{is_token_byte}
use Rattle.dill_http.specs.Lines.{front_of_line}
use Rattle.dill_http.specs.Reading.{request_cut, status_cut, field_cut}
use Rattle.dill_ws.specs.Fronts.{head_front}
use Rattle.dill_stack.specs.Composed.{composed, is_invalid, is_refused, is_too_long}
use Rattle.dill_stack.specs.Refusals.{attach_fault, send_fault, line_fault, done_fault, read_fault, detach_fault}
use Rattle.dill_stack.specs.Sending.{frame, line, done, withdraw}
use Rattle.dill_stack.specs.WsReading.{ws_front, passed, shown}
use Rattle.dill_stack.specs.Read.{read_list}
use Rattle.dill_stack.specs.Dropping.{dropped}
use Rattle.dill_stack.specs.Receiving.{read}
use Rattle.dill_stack.specs.Attaching.{attach, greet_fault, expect_greet}
use Rattle.dill_stack.specs.Parting.{parting_fault, detach_start, detach_finish}
use Rattle.sha1.specs.Sha1.{first_words, schedule, rounds, compress, hash_after, digest_bytes, sha1}
use Rattle.base64.specs.Rfc4648.{encode_symbols}
use Rattle.base64.specs.Decode.{groups_error, groups_bytes, scan_steps}
use Rattle.base64.specs.GeneralPurpose.{decoded_of}
use Rattle.dill_ws.specs.HeadLines.{next_line, lines_at, behind, head_stop, head_front_by}
use Rattle.dill_ws.specs.Offers.{client_asks, server_agrees, key_of}
use Rattle.dill_ws.specs.Handshakes.{client_front, server_front}
use Rattle.dill_stack.specs.Greeting.{greet, greeted}
use Rattle.dill_loop.specs.Steps.{network_reply, network_after}
use Rattle.dill_rows.proofs.settled_places.Goals as goal

pub returns-clause-close_frame : goal.returns-clause-close_frame
unfolding digits network_reply network_after is_utf8 chars encode next_u32 prefix_front prefix_due suffix_front suffix_due is_token_byte front_of_line request_cut status_cut field_cut head_front composed is_invalid is_refused is_too_long attach_fault send_fault line_fault done_fault read_fault detach_fault frame line done withdraw ws_front passed shown read_list dropped read attach greet_fault expect_greet parting_fault detach_start detach_finish first_words schedule rounds compress hash_after digest_bytes sha1 encode_symbols groups_error groups_bytes scan_steps decoded_of next_line lines_at behind head_stop head_front_by client_asks server_agrees key_of client_front server_front greet greeted
returns-clause-close_frame c = record { meanwhile = refl; before = refl }

pub returns-clause-heads : goal.returns-clause-heads
unfolding digits network_reply network_after is_utf8 chars encode next_u32 prefix_front prefix_due suffix_front suffix_due is_token_byte front_of_line request_cut status_cut field_cut head_front composed is_invalid is_refused is_too_long attach_fault send_fault line_fault done_fault read_fault detach_fault frame line done withdraw ws_front passed shown read_list dropped read attach greet_fault expect_greet parting_fault detach_start detach_finish first_words schedule rounds compress hash_after digest_bytes sha1 encode_symbols groups_error groups_bytes scan_steps decoded_of next_line lines_at behind head_stop head_front_by client_asks server_agrees key_of client_front server_front greet greeted
returns-clause-heads c = record { names = refl; method = refl; version = refl; answer = refl; answer_version = refl; other_item = refl }

pub returns-clause-stacks : goal.returns-clause-stacks
unfolding digits network_reply network_after is_utf8 chars encode next_u32 prefix_front prefix_due suffix_front suffix_due is_token_byte front_of_line request_cut status_cut field_cut head_front composed is_invalid is_refused is_too_long attach_fault send_fault line_fault done_fault read_fault detach_fault frame line done withdraw ws_front passed shown read_list dropped read attach greet_fault expect_greet parting_fault detach_start detach_finish first_words schedule rounds compress hash_after digest_bytes sha1 encode_symbols groups_error groups_bytes scan_steps decoded_of next_line lines_at behind head_stop head_front_by client_asks server_agrees key_of client_front server_front greet greeted
returns-clause-stacks c = record { given_up = refl; attached_to = refl; taken = refl; own_given_up = refl; own_attached_to = refl; own_taken = refl; not_cancelled = refl }

pub returns-clause-notes : goal.returns-clause-notes
unfolding digits network_reply network_after is_utf8 chars encode next_u32 prefix_front prefix_due suffix_front suffix_due is_token_byte front_of_line request_cut status_cut field_cut head_front composed is_invalid is_refused is_too_long attach_fault send_fault line_fault done_fault read_fault detach_fault frame line done withdraw ws_front passed shown read_list dropped read attach greet_fault expect_greet parting_fault detach_start detach_finish first_words schedule rounds compress hash_after digest_bytes sha1 encode_symbols groups_error groups_bytes scan_steps decoded_of next_line lines_at behind head_stop head_front_by client_asks server_agrees key_of client_front server_front greet greeted
returns-clause-notes c = record { gifts = refl; endings = refl; detach = refl; expiry = refl; leavers = refl }

pub returns-clause-awaited : goal.returns-clause-awaited
unfolding digits network_reply network_after is_utf8 chars encode next_u32 prefix_front prefix_due suffix_front suffix_due is_token_byte front_of_line request_cut status_cut field_cut head_front composed is_invalid is_refused is_too_long attach_fault send_fault line_fault done_fault read_fault detach_fault frame line done withdraw ws_front passed shown read_list dropped read attach greet_fault expect_greet parting_fault detach_start detach_finish first_words schedule rounds compress hash_after digest_bytes sha1 encode_symbols groups_error groups_bytes scan_steps decoded_of next_line lines_at behind head_stop head_front_by client_asks server_agrees key_of client_front server_front greet greeted
returns-clause-awaited c = record { run = refl }
