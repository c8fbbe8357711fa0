-- What a stack reads in its whole unread list.
use Rattle.std.specs.Prelude.{ℕ, ◌+◌, ◌-◌, List, [], ◌∷◌, Bool, true, false, not, ◌==◌, ◌&&◌, bytes_eq, length, take, drop, nat_lt, if◌then◌else◌, Option, Some, None}
use Rattle.dill_base.specs.declared.errno.Errno.TheVariants.{Epipe, Eproto}
use Rattle.dill_base.specs.declared.errno.Front.{Front}
use Rattle.dill_base.specs.declared.errno.Front.TheVariants as front
use Rattle.dill_calls.specs.declared.answer.Answer.{Answer}
use Rattle.dill_calls.specs.declared.answer.Answer.TheVariants.{Bytes, Two, Coded}
use Rattle.dill_frames.specs.Prefix.{prefix_front}
use Rattle.dill_frames.specs.Suffix.{suffix_front}
use Rattle.dill_http.specs.declared.span.Span.{Span}
use Rattle.dill_http.specs.declared.span.Cut.{Cut}
use Rattle.dill_http.specs.Lines.{front_of_line}
use Rattle.dill_http.specs.Reading.{part, request_cut, status_cut, field_cut}
use Rattle.dill_stack.specs.declared.want.Want.{Want}
use Rattle.dill_stack.specs.declared.want.Want.TheVariants.{Exact, Message, Request, Status, Field}
use Rattle.dill_stack.specs.declared.want.ReadOut.{ReadOut}
use Rattle.dill_stack.specs.declared.want.ReadOut.TheVariants.{Given, Need, Fault}
use Rattle.dill_stack.specs.Layers.{is_first, is_behind, Place, AmongFields, BehindEmpty, TermLayer, HttpLayer, WsLayer, Placed, Prefix, Suffix, Term, Http, Ws}
use Rattle.dill_stack.specs.WsReading.{Passed, passed, Shown, shown}

-- how many of the unread bytes are used, the layers after, the payloads of the pings that were passed, and the answer
pub record Outcome : Type 0 where
  pub used : ℕ
  pub layers : List Placed
  pub pings : List (List ℕ)
  pub said : ReadOut

-- an outcome of layers that pass nothing
abbrev pub outcome : ℕ → List Placed → ReadOut → Outcome
outcome used layers said = record { used = used; layers = layers; pings = []; said = said }

-- Nothing whole is there: the list goes on, or it ended at a boundary, or inside an item.
abbrev pub no_more : Bool → Bool → List ℕ → ReadOut
no_more ended boundary unread = if not ended then Need else if boundary && length unread == 0 then Fault Epipe else Fault Eproto

-- exactly so many bytes; a list that ended shorter keeps them
abbrev pub read_exact : List Placed → List ℕ → Bool → ℕ → Outcome
read_exact layers unread ended n =
    if nat_lt (length unread) n then outcome 0 layers (if ended then Fault Epipe else Need)
    else outcome n layers (Given (Bytes (take n unread)))

-- a framing, by what stands at the front
abbrev pub by_front : List Placed → List ℕ → Bool → Front → Outcome
by_front layers unread ended (front.Whole from to used) = outcome used layers (Given (Bytes (take (to - from) (drop from unread))))
by_front layers unread ended front.Need = outcome 0 layers (no_more ended true unread)
by_front layers unread ended (front.Fault e) = outcome 0 layers (Fault e)

-- the same, behind what was passed
abbrev pub behind_passed : List Placed → Passed → Shown → Outcome
behind_passed below p s = record { used = p.used + s.used; layers = Ws s.ws ∷ below; pings = p.pings; said = s.said }

-- a WebSocket layer: frames are passed, and then what stands behind them is shown
abbrev pub read_ws : List Placed → WsLayer → List ℕ → Bool → ℕ → Outcome
read_ws below ws unread ended limit =
    let p = passed limit ws unread in
    if ws.met then outcome 0 (Ws ws ∷ below) (Fault Epipe)
    else behind_passed below p (shown limit ended p.ws (drop p.used unread))

-- the lower message is the terminal message
abbrev pub is_terminal : TermLayer → ReadOut → Bool
is_terminal term (Given (Bytes m)) = bytes_eq m term.terminal
is_terminal term _ = false

-- A terminal message is taken, and is the end of this layer.
abbrev pub over_term : TermLayer → Outcome → Outcome
over_term term o =
    if is_terminal term o.said then record o { layers = Term (record term { met = true }) ∷ o.layers; said = Fault Epipe }
    else record o { layers = Term term ∷ o.layers }

-- the message at the front, of at most so many bytes; a stack without layers and an HTTP socket have none
abbrev pub read_message : List Placed → List ℕ → Bool → ℕ → Outcome
read_message [] unread ended limit = outcome 0 [] Need
read_message (Prefix form ∷ below) unread ended limit = by_front (Prefix form ∷ below) unread ended (prefix_front form unread limit)
read_message (Suffix end ∷ below) unread ended limit = by_front (Suffix end ∷ below) unread ended (suffix_front end unread limit)
read_message (Term term ∷ below) unread ended limit =
    if term.met then outcome 0 (Term term ∷ below) (Fault Epipe)
    else over_term term (read_message below unread ended limit)
read_message (Http http ∷ below) unread ended limit = outcome 0 (Http http ∷ below) Need
read_message (Ws ws ∷ below) unread ended limit = read_ws below ws unread ended limit

-- the two parts of a line
abbrev pub two_of : List ℕ → Option Cut → Option Answer
two_of line None = None
two_of line (Some cut) = Some (Two (part line cut.first) (part line cut.second))

-- the code and the reason of a line
abbrev pub coded_of : List ℕ → Option (ℕ × Span) → Option Answer
coded_of line None = None
coded_of line (Some status) = Some (Coded status.0 (part line status.1))

-- what a receive reads in a line, which is without its CRLF
abbrev pub line_answer : Want → List ℕ → Option Answer
line_answer Request line = two_of line (request_cut line)
line_answer Status line = coded_of line (status_cut line)
line_answer Field line = two_of line (field_cut line)
line_answer _ line = None

-- an empty line ends the fields
abbrev pub ends_fields : Want → List ℕ → Bool
ends_fields Field line = length line == 0
ends_fields want line = false

-- the receiving direction of a head stands here now
abbrev pub received : Place → HttpLayer → Placed
received place http = Http (record http { receiving = place })

-- a line that says what is asked, or is refused
abbrev pub given_line : HttpLayer → List Placed → ℕ → Option Answer → Outcome
given_line http below used (Some answer) = outcome used (received AmongFields http ∷ below) (Given answer)
given_line http below used None = outcome 0 (Http http ∷ below) (Fault Eproto)

-- the line at the front, before the first line or among the fields; only before the first is a boundary
abbrev pub by_line : Want → HttpLayer → List Placed → List ℕ → Bool → Front → Outcome
by_line want http below unread ended (front.Whole from to used) =
    let line = take (to - from) (drop from unread) in
    if ends_fields want line then outcome used (received BehindEmpty http ∷ below) (Fault Epipe)
    else given_line http below used (line_answer want line)
by_line want http below unread ended front.Need = outcome 0 (Http http ∷ below) (no_more ended (is_first http.receiving) unread)
by_line want http below unread ended (front.Fault e) = outcome 0 (Http http ∷ below) (Fault e)

-- the line of a head at the front; behind its empty line there is none
abbrev pub read_line : Want → List Placed → List ℕ → Bool → Outcome
read_line want (Http http ∷ below) unread ended =
    if is_behind http.receiving then outcome 0 (Http http ∷ below) (Fault Epipe)
    else by_line want http below unread ended (front_of_line unread)
read_line want layers unread ended = outcome 0 layers Need

-- the stack read: what a receive uses of the whole unread list, and answers
unfoldable pub read_list : List Placed → List ℕ → Bool → Want → Outcome
read_list layers unread ended (Exact n) = read_exact layers unread ended n
read_list layers unread ended (Message limit) = read_message layers unread ended limit
read_list layers unread ended want = read_line want layers unread ended
