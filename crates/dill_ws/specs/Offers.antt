-- What the lines of an opening handshake say (RFC 6455, sections 4.2.1 and 4.2.2), with field names and tokens without case.
use Rattle.std.specs.Prelude.{◌∷◌, [], ◌&&◌, ◌-◌, not, if◌then◌else◌, ℕ, Bool, false, List, length, map, take, drop, codes, bytes_eq, is_some, nat_eq, nat_lt, Option, Some, None, Result, Ok, Err}
use Rattle.std.specs.List.{list_all, list_any, filter_map, prefix_len, suffix_len, slice_split, starts_with, ends_with}
use Rattle.std.specs.Char.{to_ascii_lowercase}
use Rattle.base64.specs.declared.decode.DecodeError.{DecodeError}
use Rattle.base64.specs.GeneralPurpose.{decode_of}
use Rattle.base64.specs.Engines.{standard}
use Rattle.dill_http.specs.declared.span.Span.{Span}
use Rattle.dill_http.specs.declared.span.Cut.{Cut}
use Rattle.dill_http.specs.Bytes.{is_blank}
use Rattle.dill_http.specs.Heads.{own_version}
use Rattle.dill_http.specs.Reading.{part, request_cut, status_cut, field_cut}

-- Equal but for the case of letters.
abbrev pub same_word : List ℕ → List ℕ → Bool
same_word a b = bytes_eq (map to_ascii_lowercase a) (map to_ascii_lowercase b)

-- Without the spaces and TABs round it.
abbrev pub bare : List ℕ → List ℕ
bare item =
    let rest = drop (prefix_len is_blank item) item in
    take (length rest - suffix_len is_blank rest) rest

-- One of the items of a list, which commas part, is this word.
abbrev pub lists_item : List ℕ → List ℕ → Bool
lists_item word value = list_any (λ item. same_word (bare item) word) (slice_split (λ b. nat_eq b 44) value)

-- The value of a field with this name.
abbrev pub value_in : List ℕ → List ℕ → Option Cut → Option (List ℕ)
value_in name line None = None
value_in name line (Some cut) = if same_word (part line cut.first) name then Some (part line cut.second) else None

abbrev pub value_under : List ℕ → List ℕ → Option (List ℕ)
value_under name line = value_in name line (field_cut line)

-- The values of all fields with this name.
abbrev pub named : List ℕ → List (List ℕ) → List (List ℕ)
named name fields = filter_map (value_under name) fields

-- Some field has the name.
abbrev pub has_field : List ℕ → List (List ℕ) → Bool
has_field name fields = nat_lt 0 (length (named name fields))

-- Some field with the name lists the word.
abbrev pub has_item : List ℕ → List ℕ → List (List ℕ) → Bool
has_item name word fields = list_any (lists_item word) (named name fields)

-- The one value, where there is one and no other.
abbrev pub only : List (List ℕ) → Option (List ℕ)
only [] = None
only (value ∷ []) = Some value
only (value ∷ other ∷ more) = None

-- There is one, and it passes the test.
abbrev pub passes : (List ℕ → Bool) → Option (List ℕ) → Bool
passes test None = false
passes test (Some value) = test value

-- Each line is a field line.
abbrev pub are_fields : List (List ℕ) → Bool
are_fields lines = list_all (λ line. is_some (field_cut line)) lines

abbrev pub has_bytes : ℕ → Result (List ℕ) DecodeError → Bool
has_bytes n (Ok bytes) = nat_eq (length bytes) n
has_bytes n (Err e) = false

-- The strict base64 of 16 bytes.
abbrev pub is_key : List ℕ → Bool
is_key key = nat_eq (length key) 24 && has_bytes 16 (decode_of standard key)

-- `GET`, a resource and `HTTP/1.1`.
abbrev pub is_get : List ℕ → Bool
is_get line = is_some (request_cut line) && (starts_with nat_eq line (codes "GET ") && ends_with nat_eq line own_version)

abbrev pub has_code : ℕ → Option (ℕ × Span) → Bool
has_code code None = false
has_code code (Some status) = nat_eq status.0 code

-- `HTTP/1.1`, and the code by which a server switches protocols.
abbrev pub is_switch : List ℕ → Bool
is_switch line = starts_with nat_eq line own_version && has_code 101 (status_cut line)

-- Both sides want the connection to become a WebSocket.
abbrev pub is_upgrade : List (List ℕ) → Bool
is_upgrade fields = has_item (codes "Upgrade") (codes "websocket") fields && has_item (codes "Connection") (codes "upgrade") fields

abbrev pub keys : List (List ℕ) → List (List ℕ)
keys fields = named (codes "Sec-WebSocket-Key") fields

abbrev pub versions : List (List ℕ) → List (List ℕ)
versions fields = named (codes "Sec-WebSocket-Version") fields

abbrev pub accepts : List (List ℕ) → List (List ℕ)
accepts fields = named (codes "Sec-WebSocket-Accept") fields

-- What a client's fields say, but for the key.
abbrev pub is_offer : List (List ℕ) → Bool
is_offer fields = are_fields fields && has_field (codes "Host") fields && is_upgrade fields && passes (bytes_eq (codes "13")) (only (versions fields))

-- What a server's fields say: no extension and no protocol, since none was asked for.
abbrev pub is_agreement : List ℕ → List (List ℕ) → Bool
is_agreement accept fields =
    are_fields fields && is_upgrade fields && passes (bytes_eq accept) (only (accepts fields))
    && not (has_field (codes "Sec-WebSocket-Extensions") fields) && not (has_field (codes "Sec-WebSocket-Protocol") fields)

-- What the lines of a client's head say, and of a server's.
unfoldable pub client_asks : List (List ℕ) → Bool
client_asks [] = false
client_asks (first ∷ fields) = is_get first && is_offer fields && passes is_key (only (keys fields))

unfoldable pub server_agrees : List ℕ → List (List ℕ) → Bool
server_agrees accept [] = false
server_agrees accept (first ∷ fields) = is_switch first && is_agreement accept fields

-- The value, or nothing.
abbrev pub or_nothing : Option (List ℕ) → List ℕ
or_nothing None = []
or_nothing (Some value) = value

-- The key that a client's lines have.
unfoldable pub key_of : List (List ℕ) → List ℕ
key_of [] = []
key_of (first ∷ fields) = or_nothing (only (keys fields))
