-- What a call on a socket asks of its stack: a message, a line, an end, a receive, a layer, or to leave one.
use Rattle.std.specs.Prelude.{ℕ, List, Bool, true, false, not, Option, Some, None}
use Rattle.dill_calls.specs.declared.call.Call.{Call}
use Rattle.dill_calls.specs.declared.call.Call.TheVariants as calls
use Rattle.dill_calls.specs.declared.word.Word.{Word}
use Rattle.dill_calls.specs.declared.word.Word.TheVariants as words
use Rattle.dill_http.specs.Heads.{Said, Request, Status, Field}
use Rattle.dill_ws.specs.declared.side.Side.{Side}
use Rattle.dill_ws.specs.declared.side.Side.TheVariants.{Client, Server}
use Rattle.dill_stack.specs.declared.layer.Layer.{Layer}
use Rattle.dill_stack.specs.declared.layer.Layer.TheVariants as layers
use Rattle.dill_stack.specs.declared.layer.Top.{Top}
use Rattle.dill_stack.specs.declared.layer.Top.TheVariants as tops
use Rattle.dill_stack.specs.declared.parting.Parting.{Parting}
use Rattle.dill_stack.specs.declared.parting.Parting.TheVariants as partings
use Rattle.dill_stack.specs.declared.want.Want.{Want}
use Rattle.dill_stack.specs.declared.want.Want.TheVariants as wants

-- the call uses the sending direction, of which one is pending at a time
abbrev pub is_send : Word → Bool
is_send words.TcpDone = true
is_send words.Bsend = true
is_send words.Msend = true
is_send words.TermDone = true
is_send words.HttpSendrequest = true
is_send words.HttpSendstatus = true
is_send words.HttpSendfield = true
is_send words.HttpDone = true
is_send _ = false

-- the call uses the receiving direction, of which one is pending at a time
abbrev pub is_receive : Word → Bool
is_receive words.Brecv = true
is_receive words.Mrecv = true
is_receive words.HttpRecvrequest = true
is_receive words.HttpRecvstatus = true
is_receive words.HttpRecvfield = true
is_receive _ = false

-- a handshake, which attaches a layer and uses both directions
abbrev pub is_handshake : Word → Bool
is_handshake words.WsAttachClient = true
is_handshake words.WsAttachServer = true
is_handshake _ = false

-- the message that a call sends
abbrev pub message_of : Call → Option (List ℕ)
message_of (calls.Bsend number bytes deadline) = Some bytes
message_of (calls.Msend number bytes deadline) = Some bytes
message_of _ = None

-- the line that a call sends
abbrev pub line_said : Call → Option Said
line_said (calls.HttpSendrequest number command resource deadline) = Some (Request command resource)
line_said (calls.HttpSendstatus number code reason deadline) = Some (Status code reason)
line_said (calls.HttpSendfield number name value deadline) = Some (Field name value)
line_said _ = None

-- a first line
abbrev pub is_first : Said → Bool
is_first (Field name value) = false
is_first _ = true

-- the call ends the sending direction
abbrev pub is_end : Word → Bool
is_end words.TcpDone = true
is_end words.TermDone = true
is_end words.HttpDone = true
is_end _ = false

-- what a call receives
abbrev pub asked : Call → Option Want
asked (calls.Brecv number size deadline) = Some (wants.Exact size)
asked (calls.Mrecv number limit deadline) = Some (wants.Message limit)
asked (calls.HttpRecvrequest number deadline) = Some wants.Request
asked (calls.HttpRecvstatus number deadline) = Some wants.Status
asked (calls.HttpRecvfield number deadline) = Some wants.Field
asked _ = None

abbrev pub side_of : Bool → Side
side_of true = Client
side_of false = Server

-- the layer that a call attaches at its entry
abbrev pub layer_of : Call → Option Layer
layer_of (calls.PrefixAttach number size big) = Some (layers.Prefix (record { size = size; little = not big }))
layer_of (calls.SuffixAttach number bytes) = Some (layers.Suffix bytes)
layer_of (calls.TermAttach number bytes) = Some (layers.Term bytes)
layer_of (calls.HttpAttach number) = Some layers.Http
layer_of (calls.WsAttachNohttp number client text) = Some (layers.Ws (side_of client) text)
layer_of _ = None

-- how a call leaves the layer on top
abbrev pub parting_of : Call → Option Parting
parting_of (calls.PrefixDetach number) = Some partings.Plain
parting_of (calls.SuffixDetach number) = Some partings.Plain
parting_of (calls.TermDetach number deadline) = Some partings.Plain
parting_of (calls.HttpDetach number deadline) = Some partings.Plain
parting_of (calls.WsDetach number code reason deadline) = Some (partings.Close code reason)
parting_of _ = None

-- 4 a byte socket, 5 a message socket, 6 an HTTP socket
abbrev pub kind_of_top : Top → ℕ
kind_of_top tops.Bytes = 4
kind_of_top tops.Http = 6
kind_of_top _ = 5

abbrev pub is_prefix : Top → Bool
is_prefix tops.Prefix = true
is_prefix _ = false

abbrev pub is_suffix : Top → Bool
is_suffix tops.Suffix = true
is_suffix _ = false

abbrev pub is_term : Top → Bool
is_term tops.Term = true
is_term _ = false

abbrev pub is_http : Top → Bool
is_http tops.Http = true
is_http _ = false

abbrev pub is_ws : Top → Bool
is_ws tops.Ws = true
is_ws _ = false

-- what has to stand on top for a call that needs a layer of its own
abbrev pub needs_top : Call → Option (Top → Bool)
needs_top (calls.PrefixDetach number) = Some is_prefix
needs_top (calls.SuffixDetach number) = Some is_suffix
needs_top (calls.TermDone number deadline) = Some is_term
needs_top (calls.TermDetach number deadline) = Some is_term
needs_top (calls.HttpSendrequest number command resource deadline) = Some is_http
needs_top (calls.HttpSendstatus number code reason deadline) = Some is_http
needs_top (calls.HttpSendfield number name value deadline) = Some is_http
needs_top (calls.HttpRecvrequest number deadline) = Some is_http
needs_top (calls.HttpRecvstatus number deadline) = Some is_http
needs_top (calls.HttpRecvfield number deadline) = Some is_http
needs_top (calls.HttpDone number deadline) = Some is_http
needs_top (calls.HttpDetach number deadline) = Some is_http
needs_top (calls.WsDetach number code reason deadline) = Some is_ws
needs_top _ = None
