-- The queue of what is to be sent, and the calls that add to it.
use Rattle.std.specs.Prelude.{ℕ, ◌+◌, List, [], ◌∷◌, ◌++◌, Bool, true, false, not, ◌==◌, length, take, drop, filter, find, if◌then◌else◌, Option, Some, None, Result, Ok, Err}
use Rattle.std.specs.List.{list_any}
use Rattle.rand_core.specs.Stream.{Stream}
use Rattle.dill_base.specs.declared.errno.Errno.{Errno}
use Rattle.dill_http.specs.Lines.{crlf}
use Rattle.dill_stack.specs.Layers.{Place, BeforeFirst, AmongFields, BehindEmpty, Placed, Term, Http}
use Rattle.dill_stack.specs.Held.{Held, Item, Origin, Plain, Ending, Line, Pong, broken_off}
use Rattle.dill_stack.specs.Composed.{composed, and_then}
use Rattle.dill_stack.specs.Refusals.{send_fault, line_fault, done_fault}

-- the most bytes that one write is offered
abbrev pub offer_limit : ℕ
offer_limit = 65536

-- the item is no call's
abbrev pub is_pong_origin : Origin → Bool
is_pong_origin Pong = true
is_pong_origin _ = false

-- the item is a pong
abbrev pub is_pong : Item → Bool
is_pong item = is_pong_origin item.origin

-- No byte of the pending send is left.
abbrev pub is_sent : Held → Bool
is_sent s = not (list_any (λ item. not (is_pong item)) s.queue)

-- Nothing is queued, no pong either.
abbrev pub is_idle : Held → Bool
is_idle s = length s.queue == 0

-- what a write is offered: the first of what is left of the first item
abbrev pub offered_of : List Item → List ℕ
offered_of [] = []
offered_of (item ∷ queue) = take offer_limit (drop item.gone item.bytes)

-- what the next write is offered
abbrev pub offered : Held → List ℕ
offered s = offered_of s.queue

-- So many bytes more of the first item have gone; one that has gone whole leaves the queue.
abbrev pub gone_on : ℕ → List Item → List Item
gone_on count [] = []
gone_on count (item ∷ queue) = if item.gone + count == length item.bytes then queue else record item { gone = item.gone + count } ∷ queue

-- so many bytes of it have gone
abbrev pub took : ℕ → Held → Held
took count s = record s { queue = gone_on count s.queue }

-- these bytes as an item of which nothing has gone; no bytes are no item
abbrev pub item_of : Origin → List ℕ → List Item
item_of origin [] = []
item_of origin (b ∷ w) = record { bytes = b ∷ w; gone = 0; origin = origin } ∷ []

-- queued behind all others
abbrev pub queued : Origin → List ℕ → Held → Held
queued origin w s = record s { queue = s.queue ++ item_of origin w }

-- where there is a refusal, that, and nothing changes
abbrev pub unless : {A : Type 0} → Option Errno → Result A Errno → Result A Errno
unless None due = due
unless (Some e) due = Err e

-- A message is queued in the framing of all layers.
unfoldable pub frame : List ℕ → Stream → Held → Result (Held × Stream) Errno
frame m random s = unless (send_fault m false s) (and_then (composed s.layers m random) (λ w. Ok (queued Plain w.0 s, w.1)))

-- where the sending direction of a head stands
abbrev pub sending_place : List Placed → Place
sending_place (Http http ∷ below) = http.sending
sending_place _ = BeforeFirst

-- the sending direction of a head stands here now
abbrev pub at_place : Place → List Placed → List Placed
at_place place (Http http ∷ below) = Http (record http { sending = place }) ∷ below
at_place place layers = layers

-- A line with its CRLF is queued, and counts as sent.
abbrev pub with_line : Place → List ℕ → Held → Held
with_line place w s = record (queued (Line (sending_place s.layers)) w s) { layers = at_place place s.layers }

-- A first line, or a field, is queued.
unfoldable pub line : Bool → List ℕ → Held → Result Held Errno
line first w s = unless (line_fault first false s) (Ok (with_line AmongFields w s))

-- A terminal message is queued in the framing of the layers below.
abbrev pub with_ending : List Placed → Stream → Held → Result (Held × Stream) Errno
with_ending (Term term ∷ below) random s = and_then (composed below term.terminal random) (λ w. Ok (record (queued Ending w.0 s) { layers = Term (record term { done = true }) ∷ below }, w.1))
with_ending layers random s = Ok (s, random)

-- The end of the top layer is queued: a terminal message or an empty line. Without layers nothing is queued, and the link's direction is done.
abbrev pub with_end : List Placed → Stream → Held → Result (Held × Stream) Errno
with_end [] random s = Ok (record s { sending = record s.sending { done = true } }, random)
with_end (Http http ∷ below) random s = Ok (with_line BehindEmpty crlf s, random)
with_end layers random s = with_ending layers random s

-- the end of the top layer, or of the link's direction
unfoldable pub done : Stream → Held → Result (Held × Stream) Errno
done random s = unless (done_fault false s) (with_end s.layers random s)

-- the first item of a call
abbrev pub first_sent : List Item → Option Item
first_sent queue = find (λ item. not (is_pong item)) queue

-- the pending send's item
abbrev pub pending_item : Held → Option Item
pending_item s = first_sent s.queue

-- the top layer's end was not sent
abbrev pub undone : List Placed → List Placed
undone (Term term ∷ below) = Term (record term { done = false }) ∷ below
undone layers = layers

-- the layers, where a send of this origin is taken back
abbrev pub taken_back : Origin → List Placed → List Placed
taken_back Ending layers = undone layers
taken_back (Line place) layers = at_place place layers
taken_back origin layers = layers

-- The mark that the sending direction is done is taken back.
abbrev pub unmark_done : Held → Held
unmark_done s = record s { sending = record s.sending { done = false } }

-- the end of the link's direction is taken back, where no layer stands on it
abbrev pub reopened : List Placed → Held → Held
reopened [] s = unmark_done s
reopened (layer ∷ below) s = s

-- What has no item is the end of the link's direction. An item of which nothing has gone leaves the queue; else the direction is broken.
abbrev pub given_up : Option Item → Held → Held
given_up None s = reopened s.layers s
given_up (Some item) s = if item.gone == 0 then record s { queue = filter is_pong s.queue; layers = taken_back item.origin s.layers } else broken_off s

-- The pending send, or the pending end of a direction, is given up.
unfoldable pub withdraw : Held → Held
withdraw s = given_up (pending_item s) s
