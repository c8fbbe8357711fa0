-- Lines, heads and lengths at their limits, and one byte beyond.
use Rattle.std.specs.Prelude.{◌≡◌, ℕ, List, [], ◌∷◌, ◌++◌, map, take, replicate, flat_map, codes, false, length, Option, Some, None, Result, Ok, Err}
use Rattle.dill_base.specs.declared.errno.Errno.{Errno}
use Rattle.dill_base.specs.declared.deadline.Deadline.TheVariants.{Never}
use Rattle.dill_base.specs.declared.errno.Errno.TheVariants.{Einval, Eproto, Emsgsize}
use Rattle.dill_calls.specs.declared.call.Call.TheVariants as calls
use Rattle.dill_rules.specs.declared.thing.Thing.TheVariants as things
use Rattle.dill_rules.specs.Links.{no_links}
use Rattle.dill_rules.specs.Refusals.{refuse}
use Rattle.dill_rules.specs.World.{World}
use Rattle.dill_rows.specs.Full.{of_one, there}
use Rattle.dill_rows.specs.Play.{Play, playing, first_of}
use Rattle.dill_rows.specs.Playing.{plain}
use Rattle.dill_stack.specs.Held.{opening}
use Rattle.dill_base.specs.declared.errno.Front.TheVariants.{Whole, Need, Fault}
use Rattle.dill_frames.specs.Prefix.{prefix_due}
use Rattle.dill_http.specs.Heads.{Request, Status, Field}
use Rattle.dill_http.specs.Lines.{crlf, front_of_line}
use Rattle.dill_http.specs.Writing.{line_due}
use Rattle.dill_stack.specs.declared.layer.Layer.TheVariants as layer
use Rattle.dill_stack.specs.HandshakeRows.{chat_head}
use Rattle.dill_stack.specs.Refusals.{send_fault}
use Rattle.dill_stack.specs.RowTerms.{attached, with_bytes, big2}
use Rattle.dill_ws.specs.declared.request.Asked.TheVariants as asked
use Rattle.dill_ws.specs.Handshakes.{client_front, server_front, accept_text, client_due}

-- so many times `a`
abbrev pub many : ℕ → List ℕ
many count = replicate count 97

-- how many bytes are sent, or the refusal
abbrev pub size_due : Result (List ℕ) Errno → Result ℕ Errno
size_due (Ok w) = Ok (length w)
size_due (Err e) = Err e

-- A line has 8,192 bytes at most, which is judged before all else.
pub record LongLines : Type 0 where
  pub waits : front_of_line (many 8192) ≡ Need
  pub refused : front_of_line (many 8193) ≡ Fault Emsgsize
  pub longest : front_of_line (many 8192 ++ crlf) ≡ Whole 0 8192 8194
  pub longest_waits : front_of_line (many 8192 ++ 13 ∷ []) ≡ Need
  pub too_long : front_of_line (many 8193 ++ crlf) ≡ Fault Emsgsize
  pub line_feed_beyond : front_of_line (many 8192 ++ 10 ∷ []) ≡ Fault Emsgsize
  pub return_beyond : front_of_line (many 8192 ++ 13 ∷ 97 ∷ []) ≡ Fault Eproto
  pub byte_beyond : front_of_line (many 8191 ++ 13 ∷ 97 ∷ []) ≡ Fault Emsgsize
  pub line_feed_within : front_of_line (many 8191 ++ 10 ∷ []) ≡ Fault Eproto
  -- what is written: with what stands round them, these have 8,192 bytes and 8,193
  pub request : map (λ n. size_due (line_due (Request (codes "GET") (many n)))) (8179 ∷ 8180 ∷ []) ≡ Ok 8194 ∷ Err Emsgsize ∷ []
  pub status : map (λ n. size_due (line_due (Status 200 (many n)))) (8179 ∷ 8180 ∷ []) ≡ Ok 8194 ∷ Err Emsgsize ∷ []
  pub field : map (λ n. size_due (line_due (Field (codes "a") (many n)))) (8189 ∷ 8190 ∷ []) ≡ Ok 8194 ∷ Err Emsgsize ∷ []

-- PREFIX of two bytes spells 65,535 bytes and no more.
pub record LongMessages : Type 0 where
  pub longest : size_due (prefix_due big2 (many 65535)) ≡ Ok 65537
  pub too_long : size_due (prefix_due big2 (many 65536)) ≡ Err Emsgsize
  pub longest_sent : send_fault (many 65535) false (attached (layer.Prefix big2) (with_bytes [])) ≡ None
  pub too_long_sent : send_fault (many 65536) false (attached (layer.Prefix big2) (with_bytes [])) ≡ Some Emsgsize

-- a request line and fields without end: 16,384 bytes of it are whole lines
abbrev pub endless : List ℕ
endless = codes "GET / HTTP/1.1\r\n" ++ flat_map (λ line. line) (replicate 2730 (codes "a: b\r\n"))

-- the lines of a client's head and two long fields, the second with so many bytes; with 8,118 it has 16,384 bytes
abbrev pub padded : ℕ → List ℕ
padded count = take 154 chat_head ++ (codes "a: " ++ many 8100 ++ crlf) ++ (codes "a: " ++ many count ++ crlf) ++ crlf

-- A head that doesn't end within 16,384 bytes is refused at the last of them.
pub record LongHeads : Type 0 where
  pub client : map (λ n. client_front (take n endless)) (16383 ∷ 16384 ∷ []) ≡ asked.Need ∷ asked.Fault Emsgsize ∷ []
  pub server : map (λ n. server_front (accept_text []) (take n endless)) (16383 ∷ 16384 ∷ []) ≡ Need ∷ Fault Emsgsize ∷ []
  pub longest : client_front (padded 8118) ≡ asked.Whole (codes "dGhlIHNhbXBsZSBub25jZQ==") 16384
  pub too_long : client_front (padded 8119) ≡ asked.Fault Emsgsize
  -- what is written: with the rest of the head, these have 16,384 bytes and 16,385
  pub sent : map (λ n. size_due (client_due (many 8179) (many n) (replicate 16 1))) (8067 ∷ 8068 ∷ []) ≡ Ok 16384 ∷ Err Emsgsize ∷ []

-- coroutine 1 owns both ends of a channel
abbrev pub two_ends : World Play
two_ends = there (record {
  entries = record { number = 1; thing = things.End 1; owner = 1 } ∷ record { number = 2; thing = things.End 2; owner = 1 } ∷ [];
  kept = 0;
  last = 2;
}) no_links

-- what is refused of its send of these bytes
abbrev pub send_refused : List ℕ → Option Errno
send_refused bytes = refuse (playing of_one) two_ends 1 (first_of (plain 0 [])) (calls.Chsend 1 bytes Never)

-- Items and sends have 1,048,576 bytes at most, whatever these are.
pub record LongItems : Type 0 where
  pub longest : (bytes : List ℕ) → length bytes ≡ 1048576 → send_refused bytes ≡ None
  pub too_long : (bytes : List ℕ) → length bytes ≡ 1048577 → send_refused bytes ≡ Some Einval
  pub longest_sent : (bytes : List ℕ) → length bytes ≡ 1048576 → send_fault bytes false opening ≡ None
  pub too_long_sent : (bytes : List ℕ) → length bytes ≡ 1048577 → send_fault bytes false opening ≡ Some Emsgsize
