-- Stacks worked by hand: bytes, framings and terminal messages.
use Rattle.std.specs.Prelude.{◌≡◌, ℕ, List, [], ◌∷◌, true, false, map, take, Some, codes}
use Rattle.dill_base.specs.declared.errno.Errno.TheVariants.{Einval, Ebusy, Epipe, Econnreset, Eproto}
use Rattle.dill_stack.specs.declared.layer.Layer.TheVariants as layer
use Rattle.dill_stack.specs.declared.layer.Top.TheVariants as top
use Rattle.dill_stack.specs.declared.want.Want.TheVariants.{Exact, Message}
use Rattle.dill_stack.specs.declared.want.ReadOut.{ReadOut}
use Rattle.dill_stack.specs.declared.want.ReadOut.TheVariants.{Need, Fault}
use Rattle.dill_stack.specs.declared.parting.Parting.TheVariants as parting
use Rattle.dill_stack.specs.Held.{Held, whole, opening, broke, top}
use Rattle.dill_stack.specs.Refusals.{attach_fault, send_fault, done_fault, read_fault}
use Rattle.dill_stack.specs.Sending.{offered, took, withdraw, is_sent}
use Rattle.dill_http.specs.Lines.{crlf}
use Rattle.dill_stack.specs.RowTerms.{attached, sends, ends, leaves, reads, said, left, left_said, bytes, zero_given, big2, with_bytes, with_end_behind}

-- A message, an empty message and the bytes behind them came in one read; PREFIX of two bytes and TERM with the empty message stand on it.
abbrev pub came_at_once : List ℕ
came_at_once = 0 ∷ 1 ∷ 97 ∷ 0 ∷ 0 ∷ 120 ∷ 121 ∷ 122 ∷ []

-- the two layers over these bytes
abbrev pub tower : Held
tower = attached (layer.Term []) (attached (layer.Prefix big2) (with_bytes came_at_once))

-- the message was read, and the end met
abbrev pub tower_met : Held
tower_met = reads (Message 10) (reads (Message 10) tower)

-- the detach of the end begins
abbrev pub tower_left : Held
tower_left = leaves parting.Plain tower_met

-- both layers were left
abbrev pub framing_left : Held
framing_left = left (leaves parting.Plain (left (took 2 tower_left)))

-- PREFIX of two bytes alone
abbrev pub framed : List ℕ → Held
framed u = attached (layer.Prefix big2) (with_bytes u)

-- the same, where the peer ended behind these bytes
abbrev pub framed_end : List ℕ → Held
framed_end u = attached (layer.Prefix big2) (with_end_behind u)

-- messages before CR LF, where the peer ended behind these bytes
abbrev pub lines_end : List ℕ → Held
lines_end u = attached (layer.Suffix crlf) (with_end_behind u)

-- the six bytes of which two have gone
abbrev pub midway : Held
midway = took 2 (sends (codes "abcdef") opening)

-- what a read of this stack answers after the end behind the first bytes of an item
abbrev pub cut_at : (List ℕ → Held) → List ℕ → List ℕ → List ReadOut
cut_at make item counts = map (λ n. said (Message 9) (make (take n item))) counts

-- what these stacks answer, send and hold
pub record StackRows : Type 0 where
  -- detach keeps what is unread
  pub tower_top : top tower ≡ top.Term
  pub first : said (Message 10) tower ≡ bytes (97 ∷ [])
  pub second : said (Message 10) (reads (Message 10) tower) ≡ Fault Epipe
  pub third : read_fault (Message 10) false tower_met ≡ Some Epipe
  pub end_sent : offered tower_left ≡ 0 ∷ 0 ∷ []
  pub not_before : left_said (took 1 tower_left) ≡ Need
  pub lower : top (left (took 2 tower_left)) ≡ top.Prefix
  pub lower_said : left_said (took 2 tower_left) ≡ zero_given
  pub rest : said (Exact 3) framing_left ≡ bytes (codes "xyz")
  pub plain_top : top framing_left ≡ top.Bytes
  -- a send that is given up midway
  pub half : offered midway ≡ codes "cdef"
  pub half_left : send_fault (codes "g") false (withdraw midway) ≡ Some Econnreset
  pub half_dropped : offered (withdraw midway) ≡ []
  pub half_sending : (withdraw midway).sending ≡ record { done = false; broken = true }
  pub half_receiving : (withdraw midway).receiving ≡ whole
  pub unbegun_left : withdraw (sends (codes "abcdef") opening) ≡ opening
  pub end_taken_back : withdraw (ends opening) ≡ opening
  pub end_kept : done_fault false (broke (ends opening)) ≡ Some Epipe
  -- an end of the link's direction that is given up after the link failed
  pub end_withdrawn : send_fault (codes "g") false (withdraw (broke (ends opening))) ≡ Some Econnreset
  pub end_broken : withdraw (broke (ends opening)) ≡ broke opening
  -- no bytes are nothing to send
  pub no_bytes : is_sent (sends [] opening) ≡ true
  -- an end inside a message, and what comes after it
  pub cut : said (Message 9) (framed_end (0 ∷ 5 ∷ 104 ∷ [])) ≡ Fault Eproto
  pub broken : read_fault (Message 9) false (reads (Message 9) (framed_end (0 ∷ 5 ∷ 104 ∷ []))) ≡ Some Econnreset
  pub short_exact : said (Exact 3) (with_end_behind (1 ∷ 2 ∷ [])) ≡ Fault Epipe
  pub exact_kept : (reads (Exact 3) (with_end_behind (1 ∷ 2 ∷ []))).unread ≡ 1 ∷ 2 ∷ []
  -- an end behind each first part of an item
  pub framed_cuts : cut_at framed_end (0 ∷ 2 ∷ 7 ∷ 8 ∷ []) (0 ∷ 1 ∷ 2 ∷ 3 ∷ []) ≡ Fault Epipe ∷ Fault Eproto ∷ Fault Eproto ∷ Fault Eproto ∷ []
  pub lines_cuts : cut_at lines_end (97 ∷ 98 ∷ crlf) (0 ∷ 1 ∷ 2 ∷ 3 ∷ 4 ∷ []) ≡ Fault Epipe ∷ Fault Eproto ∷ Fault Eproto ∷ Fault Eproto ∷ bytes (97 ∷ 98 ∷ []) ∷ []
  -- refusals in their order
  pub nine_bytes : attach_fault (layer.Prefix (record { size = 9; little = false })) true opening ≡ Some Einval
  pub busy : attach_fault (layer.Prefix big2) true (broke opening) ≡ Some Ebusy
  pub broken_attach : attach_fault (layer.Prefix big2) false (broke opening) ≡ Some Econnreset
  pub end_is_no_message : send_fault [] true tower ≡ Some Einval
  pub line_end_inside : send_fault crlf false (attached (layer.Suffix crlf) opening) ≡ Some Einval
