-- The opening handshake (RFC 6455, sections 1.3 and 4).
use Rattle.std.specs.Prelude.{◌≡◌, ◌≤◌, ◌++◌, ◌∷◌, [], ◌&&◌, ◌||◌, if◌then◌else◌, ℕ, Bool, true, List, length, take, replicate, codes, nat_lt, Option, Some, None, Result, Ok, Err}
use Rattle.std.specs.List.{list_any}
use Rattle.sha1.specs.Sha1.{sha1}
use Rattle.base64.specs.GeneralPurpose.{encode_of}
use Rattle.base64.specs.Engines.{standard}
use Rattle.dill_base.specs.declared.errno.Errno.{Errno}
use Rattle.dill_base.specs.declared.errno.Errno.TheVariants.{Einval, Emsgsize}
use Rattle.dill_base.specs.declared.errno.Front.{Front}
use Rattle.dill_base.specs.declared.errno.Front.TheVariants as front
use Rattle.dill_base.specs.Reading.{IsShown}
use Rattle.dill_ws.specs.declared.request.Asked.{Asked}
use Rattle.dill_ws.specs.declared.request.Asked.TheVariants.{Whole, Need, Fault}
use Rattle.dill_http.specs.Bytes.{is_resource}
use Rattle.dill_http.specs.Lines.{line_limit, crlf}
use Rattle.dill_ws.specs.HeadLines.{head_limit, lines_text, IsHeadText, HeadShows, lines_at, head_front_by}
use Rattle.dill_ws.specs.Offers.{is_get, is_switch, is_key, are_fields, has_field, has_item, named, client_asks, server_agrees, key_of}

-- The base64 of the digest of the key's text and the fixed text.
abbrev pub accept_text : List ℕ → List ℕ
accept_text key = encode_of standard (sha1 (key ++ codes "258EAFA5-E914-47DA-95CA-C5AB0DC85B11"))

-- What a client's lines say (section 4.2.1): the key is the strict base64 of 16 bytes.
pub record ClientSays (key : List ℕ) (lines : List (List ℕ)) : Type 0 where
  pub first : List ℕ
  pub fields : List (List ℕ)
  pub lines_are : lines ≡ first ∷ fields
  pub asked : is_get first ≡ true
  pub read : are_fields fields ≡ true
  pub host : has_field (codes "Host") fields ≡ true
  pub upgrade : has_item (codes "Upgrade") (codes "websocket") fields ≡ true
  pub connection : has_item (codes "Connection") (codes "upgrade") fields ≡ true
  pub key_is : named (codes "Sec-WebSocket-Key") fields ≡ key ∷ []
  pub strict : is_key key ≡ true
  pub version : named (codes "Sec-WebSocket-Version") fields ≡ codes "13" ∷ []

-- What a server's lines say (section 4.2.2): no extension and no protocol, since none was asked for.
pub record ServerSays (accept : List ℕ) (lines : List (List ℕ)) : Type 0 where
  pub first : List ℕ
  pub fields : List (List ℕ)
  pub lines_are : lines ≡ first ∷ fields
  pub switched : is_switch first ≡ true
  pub read : are_fields fields ≡ true
  pub upgrade : has_item (codes "Upgrade") (codes "websocket") fields ≡ true
  pub connection : has_item (codes "Connection") (codes "upgrade") fields ≡ true
  pub accept_is : named (codes "Sec-WebSocket-Accept") fields ≡ accept ∷ []
  pub no_extension : named (codes "Sec-WebSocket-Extensions") fields ≡ []
  pub no_protocol : named (codes "Sec-WebSocket-Protocol") fields ≡ []

-- w is the whole head of a client with this key.
pub record ClientHead (key w : List ℕ) : Type 0 where
  pub lines : List (List ℕ)
  pub text : IsHeadText lines w
  pub says : ClientSays key lines

-- w is the whole head of a server with this value.
pub record ServerHead (accept w : List ℕ) : Type 0 where
  pub lines : List (List ℕ)
  pub text : IsHeadText lines w
  pub says : ServerSays accept lines

-- The message of a server's head is the head.
pub record ServerSpells (accept m w : List ℕ) : Type 0 where
  pub same : m ≡ w
  pub head : ServerHead accept w

-- A front of the bytes is a client's head.
pub record IsAskedHead (bytes key : List ℕ) (used : ℕ) : Type 0 where
  pub there : used ≤ length bytes
  pub head : ClientHead key (take used bytes)

-- No front of the bytes is a client's head, and none shows a refusal.
pub record IsOpenAsk (bytes : List ℕ) : Type 0 where
  pub unspelled : (n : ℕ) → n ≤ length bytes → (key : List ℕ) → ClientHead key (take n bytes) → ⊥
  pub unshown : (n : ℕ) → n ≤ length bytes → (e : Errno) → HeadShows client_asks e (take n bytes) → ⊥

-- What is answered is what the heads say.
abbrev pub IsAsked : List ℕ → Asked → Type 0
IsAsked bytes (Whole key used) = IsAskedHead bytes key used
IsAsked bytes Need = IsOpenAsk bytes
IsAsked bytes (Fault e) = IsShown (HeadShows client_asks) bytes e

-- The key beside what stands at the front.
abbrev pub asked_by : List ℕ → Front → Asked
asked_by key (front.Whole from to used) = Whole key used
asked_by key front.Need = Need
asked_by key (front.Fault e) = Fault e

-- What a server reads at the front of the bytes, and a client.
unfoldable pub client_front : List ℕ → Asked
client_front u = asked_by (key_of (lines_at u)) (head_front_by client_asks u)

unfoldable pub server_front : List ℕ → List ℕ → Front
server_front accept u = head_front_by (server_agrees accept) u

-- The lines that a client sends (section 4.1).
abbrev pub client_lines : List ℕ → List ℕ → List ℕ → List (List ℕ)
client_lines resource host key =
    (codes "GET " ++ resource ++ codes " HTTP/1.1")
    ∷ (codes "Host: " ++ host)
    ∷ codes "Upgrade: websocket"
    ∷ codes "Connection: Upgrade"
    ∷ (codes "Sec-WebSocket-Key: " ++ key)
    ∷ codes "Sec-WebSocket-Version: 13"
    ∷ []

-- The lines and the empty one.
abbrev pub head_of_lines : List (List ℕ) → List ℕ
head_of_lines lines = lines_text lines ++ crlf

-- The lines that a server answers with (section 4.2.2), as one text.
abbrev pub server_head_of : List ℕ → List ℕ
server_head_of accept = codes "HTTP/1.1 101 Switching Protocols\r\nUpgrade: websocket\r\nConnection: Upgrade\r\nSec-WebSocket-Accept: " ++ accept ++ codes "\r\n\r\n"

-- A line is over its limit, or the head is.
abbrev pub are_too_long : List (List ℕ) → Bool
are_too_long lines = list_any (λ line. nat_lt line_limit (length line)) lines || nat_lt head_limit (length (head_of_lines lines))

-- A key's text has 24 bytes, whatever they are.
abbrev pub any_key : List ℕ
any_key = replicate 24 61

-- The refusal of a client's head: the form is judged first, then the length.
unfoldable pub head_fault_of : List ℕ → List ℕ → Option Errno
head_fault_of resource host =
    if is_resource resource && is_resource host then (if are_too_long (client_lines resource host any_key) then Some Emsgsize else None)
    else Some Einval

abbrev pub unless : Option Errno → List ℕ → Result (List ℕ) Errno
unless None w = Ok w
unless (Some e) w = Err e

-- A client's head with the base64 of its key, or the refusal.
unfoldable pub client_due : List ℕ → List ℕ → List ℕ → Result (List ℕ) Errno
client_due resource host key = unless (head_fault_of resource host) (head_of_lines (client_lines resource host (encode_of standard key)))
