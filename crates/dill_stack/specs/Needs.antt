-- How many unread bytes a call may need before it is answered, and when it needs more.
use Rattle.std.specs.Prelude.{◌≤◌, ℕ, ◌+◌, List, [], ◌∷◌, Bool, true, false, length, max}
use Rattle.dill_stack.specs.declared.want.Want.{Want}
use Rattle.dill_stack.specs.declared.want.Want.TheVariants.{Exact, Message}
use Rattle.dill_stack.specs.Formed.{IsFormed}
use Rattle.dill_stack.specs.Layers.{Placed, Prefix, Suffix, Term, Http, Ws}
use Rattle.dill_stack.specs.Held.{Held, Task, Idle, Greets, Expects, Answers, Leaves}
use Rattle.dill_stack.specs.Sending.{is_sent}

-- a message of at most so many bytes with what spells it: a length, a terminator, or the head of a frame
abbrev pub message_need : ℕ → List Placed → ℕ
message_need limit [] = limit
message_need limit (Prefix form ∷ below) = limit + form.size
message_need limit (Suffix end ∷ below) = limit + length end
message_need limit (Term term ∷ below) = message_need limit below
message_need limit (Http http ∷ below) = limit
message_need limit (Ws ws ∷ below) = max limit 125 + 14

-- a line of 8,192 bytes with its CRLF
abbrev pub line_need : ℕ
line_need = 8194

-- the greatest need of a receive
abbrev pub need : Want → Held → ℕ
need (Exact n) s = n
need (Message limit) s = message_need limit s.layers
need _ s = line_need

-- the greatest need of a handshake
abbrev pub head_need : ℕ
head_need = 16384

-- the greatest need of a detach: an item of 16,384 bytes and what spells it
abbrev pub parting_need : ℕ
parting_need = 16416

-- the end of a whole connection drops all, and needs none
abbrev pub closing_need : ℕ
closing_need = 0

-- A receive needs bytes until it is answered. A handshake or a detach that sends first needs them once all that it sends has gone, and a server's until the client's head has come.
abbrev pub wants_bytes : Task → Bool → Bool
wants_bytes Idle sent = true
wants_bytes (Greets accept) sent = sent
wants_bytes Expects sent = true
wants_bytes Answers sent = false
wants_bytes Leaves sent = sent

-- The pending receive, handshake or detach of this stack needs bytes.
abbrev pub needs_bytes : Held → Bool
needs_bytes s = wants_bytes s.task (is_sent s)

-- A handshake needs bytes: a client's once its own head has gone, a server's until the client's head has come.
abbrev pub wants_head : Task → Bool → Bool
wants_head (Greets accept) sent = sent
wants_head Expects sent = true
wants_head _ sent = false

-- The pending handshake of this stack needs bytes.
abbrev pub needs_head : Held → Bool
needs_head s = wants_head s.task (is_sent s)

-- the bytes that a receive asks for by a number
abbrev pub limit_of_want : Want → ℕ
limit_of_want (Exact size) = size
limit_of_want (Message limit) = limit
limit_of_want want = 0

-- With so many unread bytes at most there is room for another 4,096, where so many is the most that a receive has asked for.
abbrev pub unread_bound : ℕ → ℕ
unread_bound most = max 28672 (most + 32)

-- No call needs more bytes than there is room for: a receive over formed layers, whose number is within the most that one has asked for, a handshake, and a detach.
pub record NeedLaws : Type 0 where
  pub receives : (want : Want) (most : ℕ) (s : Held) → IsFormed s.layers → limit_of_want want ≤ most → need want s ≤ unread_bound most
  pub greets : (most : ℕ) → head_need ≤ unread_bound most
  pub leaves : (most : ℕ) → parting_need ≤ unread_bound most
