-- What a stack sends for a message: the spelling by the top layer, spelled again by each layer below.
use Rattle.std.specs.Prelude.{ℕ, List, [], ◌∷◌, Bool, true, false, not, ◌&&◌, ◌||◌, bytes_eq, length, nat_lt, if◌then◌else◌, Option, Some, None, Result, Ok, Err}
use Rattle.std.specs.List.{list_any}
use Rattle.std.specs.Int.{w32, to_be_bytes}
use Rattle.rand_core.specs.Stream.{Stream, next_u32}
use Rattle.dill_base.specs.declared.errno.Errno.{Errno}
use Rattle.dill_base.specs.declared.errno.Errno.TheVariants.{Einval, Emsgsize, Enotsup}
use Rattle.dill_frames.specs.Prefix.{prefix_due}
use Rattle.dill_frames.specs.Suffix.{suffix_due}
use Rattle.dill_ws.specs.declared.side.Side.{Side}
use Rattle.dill_ws.specs.declared.side.Side.TheVariants.{Client, Server}
use Rattle.std.specs.Str.{is_utf8}
use Rattle.dill_ws.specs.Frames.{frame_bytes}
use Rattle.dill_stack.specs.Layers.{Placed, Prefix, Suffix, Term, Http, Ws, WsLayer}

-- the most bytes of a message
abbrev pub message_limit : ℕ
message_limit = 1048576

-- a step behind another, unless that was refused
abbrev pub and_then : {A B : Type 0} → Result A Errno → (A → Result B Errno) → Result B Errno
and_then (Ok x) f = f x
and_then (Err e) f = Err e

-- A client masks its frames, a server doesn't (RFC 6455, section 5.1).
abbrev pub masks : Side → Bool
masks Client = true
masks Server = false

-- the masking key of a frame of this side
abbrev pub key_of : Side → List ℕ → Option (List ℕ)
key_of Client key = Some key
key_of Server key = None

-- FIN and the opcode of text or of binary
abbrev pub data_frame : WsLayer → List ℕ → List ℕ → List ℕ
data_frame ws key m = frame_bytes true (if ws.text then 1 else 2) (key_of ws.side key) m

-- the frame of a message; in text mode it has to be UTF-8
abbrev pub ws_due : WsLayer → List ℕ → List ℕ → Result (List ℕ) Errno
ws_due ws key m = if ws.text && not (is_utf8 m) then Err Einval else Ok (data_frame ws key m)

-- The spelling by each layer, the top first, or the first refusal. Only a client's WebSocket layer uses the key, and no message goes over HTTP.
abbrev pub spelled : List ℕ → List Placed → List ℕ → Result (List ℕ) Errno
spelled key [] m = Ok m
spelled key (Prefix form ∷ below) m = and_then (prefix_due form m) (spelled key below)
spelled key (Suffix end ∷ below) m = and_then (suffix_due end m) (spelled key below)
spelled key (Term term ∷ below) m = if bytes_eq m term.terminal then Err Einval else spelled key below m
spelled key (Http http ∷ below) m = Err Enotsup
spelled key (Ws ws ∷ below) m = and_then (ws_due ws key m) (spelled key below)

-- this layer masks what it sends
abbrev pub is_masking : Placed → Bool
is_masking (Ws ws) = masks ws.side
is_masking _ = false

-- the masking key that the next random number makes, big-endian, and the numbers that are left
abbrev pub drawn_key : Stream → List ℕ × Stream
drawn_key random = (to_be_bytes w32 (next_u32 random).0, (next_u32 random).1)

-- At most one layer of a stack masks: it takes one number for a frame.
abbrev pub random_after : List Placed → Stream → Stream
random_after layers random = if list_any is_masking layers then (drawn_key random).1 else random

-- what was spelled, and the numbers that are left
abbrev pub with_random : Stream → Result (List ℕ) Errno → Result (List ℕ × Stream) Errno
with_random random (Ok w) = Ok (w, random)
with_random random (Err e) = Err e

-- refused, with an errno that passes the test
abbrev pub is_refused_with : (Errno → Bool) → {A : Type 0} → Result A Errno → Bool
is_refused_with test (Ok x) = false
is_refused_with test (Err e) = test e

-- the errno is EINVAL
abbrev pub is_einval : Errno → Bool
is_einval Einval = true
is_einval _ = false

-- every errno
abbrev pub is_any : Errno → Bool
is_any e = true

-- a layer refuses the message as such, whatever its length
unfoldable pub is_invalid : List Placed → List ℕ → Bool
is_invalid layers m = is_refused_with is_einval (spelled [] layers m)

-- The spelling of a message by all layers, with the random numbers that are left, or its refusal: that of a layer, and EMSGSIZE for a message over the limit that no layer refuses with EINVAL.
unfoldable pub composed : List Placed → List ℕ → Stream → Result (List ℕ × Stream) Errno
composed layers m random = if nat_lt message_limit (length m) && not (is_invalid layers m) then Err Emsgsize else with_random (random_after layers random) (spelled (drawn_key random).0 layers m)

-- some layer refuses the message
unfoldable pub is_refused : List Placed → List ℕ → Bool
is_refused layers m = is_refused_with is_any (spelled [] layers m)

-- The message is over the limit, or too long for a layer.
unfoldable pub is_too_long : List Placed → List ℕ → Bool
is_too_long layers m = nat_lt message_limit (length m) || is_refused layers m
