-- What a detach drops of the unread list until it has met the peer's end.
use Rattle.std.specs.Prelude.{ℕ, zero, suc, ◌+◌, ◌-◌, List, [], ◌∷◌, ◌++◌, Bool, true, false, not, ◌==◌, length, drop, if◌then◌else◌}
use Rattle.dill_base.specs.declared.errno.Errno.TheVariants.{Eproto}
use Rattle.dill_base.specs.declared.errno.Front.{Front}
use Rattle.dill_base.specs.declared.errno.Front.TheVariants as front
use Rattle.dill_calls.specs.declared.answer.Answer.TheVariants.{Number}
use Rattle.dill_http.specs.Lines.{front_of_line}
use Rattle.dill_stack.specs.declared.want.ReadOut.{ReadOut}
use Rattle.dill_stack.specs.declared.want.ReadOut.TheVariants.{Given, Need, Fault}
use Rattle.dill_stack.specs.Layers.{is_first, is_behind, AmongFields, TermLayer, HttpLayer, Placed, Prefix, Suffix, Term, Http, Ws}
use Rattle.dill_stack.specs.Read.{Outcome, outcome, no_more, is_terminal, read_message, read_ws, received}

-- the most bytes of a message that a detach drops
abbrev pub drop_limit : ℕ
drop_limit = 16384

-- One item at the front: it was dropped, or it is the end, or neither is there.
pub data Dropped : Type 0 where
  Item : Outcome → Dropped
  End : Outcome → Dropped
  Stops : Outcome → Dropped

-- an answer was given
abbrev pub is_given : ReadOut → Bool
is_given (Given answer) = true
is_given _ = false

-- The detach is answered: the layers below are left.
abbrev pub left_with : List Placed → Outcome → Outcome
left_with below o = record o { layers = below; said = Given (Number 0) }

-- a message of the layers below: the terminal message is the end
abbrev pub drop_message : TermLayer → Outcome → Dropped
drop_message term o =
    if is_terminal term o.said then End (left_with o.layers o)
    else if is_given o.said then Item (record o { layers = Term term ∷ o.layers })
    else Stops (record o { layers = Term term ∷ o.layers })

-- the close frame of the layer on top was met
abbrev pub has_met : List Placed → Bool
has_met (Ws ws ∷ below) = ws.met
has_met _ = false

-- a message of the layer itself: its close frame is the end
abbrev pub drop_frames : List Placed → Outcome → Dropped
drop_frames below o =
    if has_met o.layers then End (left_with below o)
    else if is_given o.said then Item o
    else Stops o

-- A line is judged by its CRLF and its length alone, but an empty line can't stand in place of the first.
abbrev pub drop_line : HttpLayer → List Placed → List ℕ → Bool → Front → Dropped
drop_line http below unread ended (front.Whole from to used) =
    if not (to - from == 0) then Item (outcome used (received AmongFields http ∷ below) Need)
    else if is_first http.receiving then Stops (outcome 0 (Http http ∷ below) (Fault Eproto))
    else End (outcome used below (Given (Number 0)))
drop_line http below unread ended front.Need = Stops (outcome 0 (Http http ∷ below) (no_more ended (is_first http.receiving) unread))
drop_line http below unread ended (front.Fault e) = Stops (outcome 0 (Http http ∷ below) (Fault e))

-- the item at the front for the layer on top; one that drops nothing, or has met the end, is left at once
abbrev pub drop_one : List Placed → List ℕ → Bool → Dropped
drop_one [] unread ended = Stops (outcome 0 [] Need)
drop_one (Prefix form ∷ below) unread ended = End (outcome 0 below (Given (Number 0)))
drop_one (Suffix end ∷ below) unread ended = End (outcome 0 below (Given (Number 0)))
drop_one (Term term ∷ below) unread ended =
    if term.met then End (outcome 0 below (Given (Number 0)))
    else drop_message term (read_message below unread ended drop_limit)
drop_one (Http http ∷ below) unread ended =
    if is_behind http.receiving then End (outcome 0 below (Given (Number 0)))
    else drop_line http below unread ended (front_of_line unread)
drop_one (Ws ws ∷ below) unread ended =
    if ws.met then End (outcome 0 below (Given (Number 0)))
    else drop_frames below (read_ws below ws unread ended drop_limit)

-- behind an item that was dropped
abbrev pub further : Outcome → Outcome → Outcome
further o p = record { used = o.used + p.used; layers = p.layers; pings = o.pings ++ p.pings; said = p.said }

-- what is dropped from here on, behind the item at the front
abbrev pub after_drop : (List Placed → List ℕ → Outcome) → List ℕ → Dropped → Outcome
after_drop again unread (Item o) = further o (again o.layers (drop o.used unread))
after_drop again unread (End o) = o
after_drop again unread (Stops o) = o

-- Each item has a byte at least, so the length of the list is enough of them.
abbrev pub dropped_within : ℕ → Bool → List Placed → List ℕ → Outcome
dropped_within zero ended layers unread = outcome 0 layers Need
dropped_within (suc most) ended layers unread = after_drop (dropped_within most ended) unread (drop_one layers unread ended)

-- All items that a detach drops; it is answered with the layers below once the peer's end was met.
unfoldable pub dropped : List Placed → List ℕ → Bool → Outcome
dropped layers unread ended = dropped_within (suc (length unread)) ended layers unread
