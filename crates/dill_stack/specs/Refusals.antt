-- What a stack refuses at the entry of a call, by its layers and by the state of its directions.
use Rattle.std.specs.Prelude.{ℕ, List, ◌∷◌, Bool, true, false, not, ◌==◌, ◌&&◌, ◌||◌, length, nat_lt, nat_le, if◌then◌else◌, Option, Some, None}
use Rattle.std.specs.List.{list_any}
use Rattle.std.specs.Str.{is_utf8}
use Rattle.dill_base.specs.declared.errno.Errno.{Errno}
use Rattle.dill_base.specs.declared.errno.Errno.TheVariants.{Einval, Ebusy, Epipe, Econnreset, Emsgsize}
use Rattle.dill_ws.specs.Closing.{is_close_code}
use Rattle.dill_stack.specs.declared.layer.Layer.{Layer}
use Rattle.dill_stack.specs.declared.layer.Layer.TheVariants as layer
use Rattle.dill_stack.specs.declared.want.Want.{Want}
use Rattle.dill_stack.specs.declared.want.Want.TheVariants.{Exact, Message, Request, Status, Field}
use Rattle.dill_stack.specs.declared.parting.Parting.{Parting}
use Rattle.dill_stack.specs.declared.parting.Parting.TheVariants as parting
use Rattle.dill_stack.specs.Layers.{is_behind, Place, BeforeFirst, AmongFields, BehindEmpty, Placed, Term, Http, Ws}
use Rattle.dill_stack.specs.Composed.{message_limit, is_invalid, is_refused, is_too_long}
use Rattle.dill_stack.specs.Held.{Held, is_broken}

-- The one order of refusals: EINVAL, EBUSY, EPIPE, ECONNRESET, EMSGSIZE.
abbrev pub first_fault : (invalid busy over broken long : Bool) → Option Errno
first_fault invalid busy over broken long =
    if invalid then Some Einval
    else if busy then Some Ebusy
    else if over then Some Epipe
    else if broken then Some Econnreset
    else if long then Some Emsgsize
    else None

-- the layer has sent its end
abbrev pub is_done_layer : Placed → Bool
is_done_layer (Term term) = term.done
is_done_layer (Http http) = is_behind http.sending
is_done_layer _ = false

-- nothing more is sent: the link's direction is done, or some layer has sent its end
abbrev pub is_done : Held → Bool
is_done s = s.sending.done || list_any is_done_layer s.layers

-- a terminal message, an empty line or a close frame of this layer was met
abbrev pub is_met_layer : Placed → Bool
is_met_layer (Term term) = term.met
is_met_layer (Http http) = is_behind http.receiving
is_met_layer (Ws ws) = ws.met
is_met_layer _ = false

-- the end of one of the layers was met
abbrev pub is_met : List Placed → Bool
is_met layers = list_any is_met_layer layers

-- the bytes of fragments that were joined so far
abbrev pub joined_length : Placed → ℕ
joined_length (Ws ws) = length ws.joined
joined_length _ = 0

-- more bytes were joined than the receive takes
abbrev pub is_joined_over : ℕ → List Placed → Bool
is_joined_over limit layers = list_any (λ l. nat_lt limit (joined_length l)) layers

-- A form of 1 to 8 bytes, a terminator of 1 to 32, a terminal message of at most 1,024 that the layers below take, on at most seven layers.
abbrev pub is_allowed : Layer → List Placed → Bool
is_allowed (layer.Prefix form) layers = nat_le 1 form.size && nat_le form.size 8
is_allowed (layer.Suffix end) layers = nat_le 1 (length end) && nat_le (length end) 32
is_allowed (layer.Term terminal) layers = nat_le (length terminal) 1024 && not (is_refused layers terminal) && nat_lt (length layers) 8
is_allowed layer.Http layers = true
is_allowed (layer.Ws side text) layers = true

-- A first line comes once, before the fields, and a field after it. Behind the empty line nothing is out of its order.
abbrev pub is_out_of_order : Bool → Place → Bool
is_out_of_order first BeforeFirst = not first
is_out_of_order first AmongFields = first
is_out_of_order first BehindEmpty = false

-- a line that is sent now is out of its order
abbrev pub sends_out_of_order : Bool → List Placed → Bool
sends_out_of_order first (Http http ∷ below) = is_out_of_order first http.sending
sends_out_of_order first _ = true

-- a line that is received now is out of its order
abbrev pub receives_out_of_order : Bool → List Placed → Bool
receives_out_of_order first (Http http ∷ below) = is_out_of_order first http.receiving
receives_out_of_order first _ = true

-- the receive's size is over the limit, or its line is out of order
abbrev pub is_invalid_want : Want → List Placed → Bool
is_invalid_want (Exact n) layers = nat_lt message_limit n
is_invalid_want (Message limit) layers = nat_lt message_limit limit
is_invalid_want Request layers = receives_out_of_order true layers
is_invalid_want Status layers = receives_out_of_order true layers
is_invalid_want Field layers = receives_out_of_order false layers

-- the receive takes fewer bytes than were joined
abbrev pub is_short_want : Want → List Placed → Bool
is_short_want (Message limit) layers = is_joined_over limit layers
is_short_want _ layers = false

-- A close frame has neither code nor reason, or a code of the list and a reason in UTF-8 of at most 123 bytes (RFC 6455, section 5.5.1).
abbrev pub is_allowed_parting : Parting → Bool
is_allowed_parting parting.Plain = true
is_allowed_parting (parting.Close code reason) = code == 0 && length reason == 0 || is_close_code code && nat_le (length reason) 123 && is_utf8 reason

-- the refusal of an attach, in a direction that is whole; where the handle is busy, EBUSY comes in its place of the order
unfoldable pub attach_fault : Layer → Bool → Held → Option Errno
attach_fault l busy s = first_fault (not (is_allowed l s.layers)) busy false (is_broken s) false

-- the refusal of a message, or of bytes where no layer stands
unfoldable pub send_fault : List ℕ → Bool → Held → Option Errno
send_fault m busy s = first_fault (is_invalid s.layers m) busy (is_done s) s.sending.broken (is_too_long s.layers m)

-- a first line, or a field
unfoldable pub line_fault : Bool → Bool → Held → Option Errno
line_fault first busy s = first_fault (sends_out_of_order first s.layers) busy (is_done s) s.sending.broken false

-- the refusal of the end of a direction
unfoldable pub done_fault : Bool → Held → Option Errno
done_fault busy s = first_fault false busy (is_done s) s.sending.broken false

-- the refusal of a receive
unfoldable pub read_fault : Want → Bool → Held → Option Errno
read_fault want busy s = first_fault (is_invalid_want want s.layers) busy (is_met s.layers) s.receiving.broken (is_short_want want s.layers)

-- the refusal of a detach that changes nothing
unfoldable pub detach_fault : Parting → Bool → Held → Option Errno
detach_fault p busy s = first_fault (not (is_allowed_parting p)) busy false false false
