use Rattle.std.proofs.Common.{refl}
use Rattle.std.specs.Fmt.{digits}
use lib.Utf8.{encode}
use Rattle.std.specs.Str.{is_utf8, chars}
use Rattle.rand_core.specs.Stream.{next_u32}
use Rattle.dill_frames.specs.Prefix.{prefix_front, prefix_due}
use Rattle.dill_frames.specs.Suffix.{suffix_front, suffix_due}
use Rattle.dill_http.specs.Bytes.{is_token_byte}
use Rattle.dill_http.specs.Lines.{front_of_line}
use Rattle.dill_http.specs.Reading.{request_cut, status_cut, field_cut}
use Rattle.dill_ws.specs.Fronts.{head_front}
use Rattle.dill_stack.specs.Composed.{composed, is_invalid, is_refused, is_too_long}
use Rattle.dill_stack.specs.Refusals.{attach_fault, send_fault, line_fault, done_fault, read_fault, detach_fault}
use Rattle.dill_stack.specs.Sending.{frame, line, done, withdraw}
use Rattle.dill_stack.specs.WsReading.{ws_front, passed, shown}
use Rattle.dill_stack.specs.Read.{read_list}
use Rattle.dill_stack.specs.Dropping.{dropped}
use Rattle.dill_stack.specs.Receiving.{read}
use Rattle.dill_stack.specs.Attaching.{attach, greet_fault, expect_greet}
use Rattle.dill_stack.specs.Parting.{parting_fault, detach_start, detach_finish}
use Rattle.sha1.specs.Sha1.{first_words, schedule, rounds, compress, hash_after, digest_bytes, sha1}
use Rattle.base64.specs.Rfc4648.{encode_symbols}
use Rattle.base64.specs.Decode.{groups_error, groups_bytes, scan_steps}
use Rattle.base64.specs.GeneralPurpose.{decoded_of}
use Rattle.dill_ws.specs.HeadLines.{next_line, lines_at, behind, head_stop, head_front_by}
use Rattle.dill_ws.specs.Offers.{client_asks, server_agrees, key_of}
use Rattle.dill_ws.specs.Handshakes.{client_front, server_front}
use Rattle.dill_stack.specs.Greeting.{greet, greeted}
use Rattle.dill_loop.specs.Steps.{network_reply, network_after}
use Rattle.dill_rows.proofs.scripts_run.Goals as goal

pub returns-clause-prints : goal.returns-clause-prints
unfolding digits network_reply network_after is_utf8 chars encode next_u32 prefix_front prefix_due suffix_front suffix_due is_token_byte front_of_line request_cut status_cut field_cut head_front composed is_invalid is_refused is_too_long attach_fault send_fault line_fault done_fault read_fault detach_fault frame line done withdraw ws_front passed shown read_list dropped read attach greet_fault expect_greet parting_fault detach_start detach_finish first_words schedule rounds compress hash_after digest_bytes sha1 encode_symbols groups_error groups_bytes scan_steps decoded_of next_line lines_at behind head_stop head_front_by client_asks server_agrees key_of client_front server_front greet greeted
returns-clause-prints c = record { prints = refl; prints_traced = refl; sleeps = refl; sleeps_spent = refl }

pub returns-clause-plays : goal.returns-clause-plays
unfolding digits network_reply network_after is_utf8 chars encode next_u32 prefix_front prefix_due suffix_front suffix_due is_token_byte front_of_line request_cut status_cut field_cut head_front composed is_invalid is_refused is_too_long attach_fault send_fault line_fault done_fault read_fault detach_fault frame line done withdraw ws_front passed shown read_list dropped read attach greet_fault expect_greet parting_fault detach_start detach_finish first_words schedule rounds compress hash_after digest_bytes sha1 encode_symbols groups_error groups_bytes scan_steps decoded_of next_line lines_at behind head_stop head_front_by client_asks server_agrees key_of client_front server_front greet greeted
returns-clause-plays c = record { equal_deadlines = refl; renumbered = refl; closed = refl; crossed_gifts = refl; nested_close = refl; unequal_sizes = refl; chosen = refl; choices_meet = refl; fault = refl; stuck = refl; own_bundle = refl; renumbered_without_close = refl; own_bundle_without_close = refl; sleeper_closed = refl }

pub returns-clause-links : goal.returns-clause-links
unfolding digits network_reply network_after is_utf8 chars encode next_u32 prefix_front prefix_due suffix_front suffix_due is_token_byte front_of_line request_cut status_cut field_cut head_front composed is_invalid is_refused is_too_long attach_fault send_fault line_fault done_fault read_fault detach_fault frame line done withdraw ws_front passed shown read_list dropped read attach greet_fault expect_greet parting_fault detach_start detach_finish first_words schedule rounds compress hash_after digest_bytes sha1 encode_symbols groups_error groups_bytes scan_steps decoded_of next_line lines_at behind head_stop head_front_by client_asks server_agrees key_of client_front server_front greet greeted
returns-clause-links c = record { connection = refl; detach = refl; wait_fails = refl; load = refl; relay = refl }

pub returns-clause-knows : goal.returns-clause-knows
unfolding digits network_reply network_after is_utf8 chars encode next_u32 prefix_front prefix_due suffix_front suffix_due is_token_byte front_of_line request_cut status_cut field_cut head_front composed is_invalid is_refused is_too_long attach_fault send_fault line_fault done_fault read_fault detach_fault frame line done withdraw ws_front passed shown read_list dropped read attach greet_fault expect_greet parting_fault detach_start detach_finish first_words schedule rounds compress hash_after digest_bytes sha1 encode_symbols groups_error groups_bytes scan_steps decoded_of next_line lines_at behind head_stop head_front_by client_asks server_agrees key_of client_front server_front greet greeted
returns-clause-knows c = record { known = refl; of_another_script = refl; beyond = refl }
