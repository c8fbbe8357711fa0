-- Where the parts of a line lie.
use Rattle.std.specs.Prelude.{◌≤◌, ◌+◌, ◌-◌, ◌*◌, ◌∷◌, [], ◌==◌, ◌&&◌, ◌||◌, if◌then◌else◌, Bool, true, ℕ, List, length, take, drop, get_or, min, nat_lt, Option, Some, None}
use Rattle.std.specs.List.{prefix_len, suffix_len, list_all}
use Rattle.std.specs.Str.{bytes_eq}
use Rattle.std.specs.Char.{is_ascii_digit}
use Rattle.dill_http.specs.declared.span.Span.{Span}
use Rattle.dill_http.specs.declared.span.Cut.{Cut}
use Rattle.dill_http.specs.Bytes.{is_token_byte, is_resource_byte, is_blank, is_text}
use Rattle.dill_http.specs.Heads.{Said, Status, LineReads, own_version, old_version, is_code}

-- the bytes of a span
abbrev pub part : List ℕ → Span → List ℕ
part line span = take (span.to - span.from) (drop span.from line)

-- the span is a part of the line
pub record LiesIn (line : List ℕ) (span : Span) : Type 0 where
  pub forward : span.from ≤ span.to
  pub there : span.to ≤ length line

-- The two spans are parts of the line, and it says what they hold.
pub record CutReads (says : List ℕ → List ℕ → Said) (line : List ℕ) (cut : Cut) : Type 0 where
  pub first : LiesIn line cut.first
  pub second : LiesIn line cut.second
  pub reads : LineReads line (says (part line cut.first) (part line cut.second))

-- the two parts, or nothing exactly where the line says no such two
abbrev pub IsCut : (List ℕ → List ℕ → Said) → List ℕ → Option Cut → Type 0
IsCut says line (Some cut) = CutReads says line cut
IsCut says line None = (first second : List ℕ) → LineReads line (says first second) → ⊥

-- The span is a part of the line, and it says the code and this reason.
pub record StatusReads (line : List ℕ) (code : ℕ) (reason : Span) : Type 0 where
  pub lies : LiesIn line reason
  pub reads : LineReads line (Status code (part line reason))

-- the code and the reason, or nothing exactly where the line says no such two
abbrev pub IsStatusCut : List ℕ → Option (ℕ × Span) → Type 0
IsStatusCut line (Some status) = StatusReads line status.0 status.1
IsStatusCut line None = (code : ℕ) (reason : List ℕ) → LineReads line (Status code reason) → ⊥

-- from this byte to before that one
abbrev pub span : ℕ → ℕ → Span
span from to = record { from = from; to = to }

-- the two spans
abbrev pub cut_at : Span → Span → Cut
cut_at first second = record { first = first; second = second }

-- this byte, which isn't 0, stands at this place
abbrev pub stands_at : List ℕ → ℕ → ℕ → Bool
stands_at line place byte = get_or line place 0 == byte

-- one of the two versions
abbrev pub is_version : List ℕ → Bool
is_version bytes = bytes_eq bytes own_version || bytes_eq bytes old_version

-- how many bytes of a token stand at the front
abbrev pub token_length : List ℕ → ℕ
token_length line = prefix_len is_token_byte line

-- how many bytes of a resource stand at the front
abbrev pub resource_length : List ℕ → ℕ
resource_length line = prefix_len is_resource_byte line

-- a space, and then a version
abbrev pub is_version_end : List ℕ → Bool
is_version_end bytes = bytes_eq bytes (32 ∷ own_version) || bytes_eq bytes (32 ∷ old_version)

-- the parts of a request line whose token and resource are so long
abbrev pub request_of : List ℕ → ℕ → ℕ → Option Cut
request_of line n m =
    if nat_lt 0 n && (stands_at line n 32 && (nat_lt 0 m && is_version_end (drop (n + 1 + m) line)))
    then Some (cut_at (span 0 n) (span (n + 1) (n + 1 + m))) else None

-- the parts of a request line: the token at the front, and the resource behind one byte more
unfoldable pub request_cut : List ℕ → Option Cut
request_cut line = request_of line (token_length line) (resource_length (drop (token_length line + 1) line))

-- the number that three digits make
abbrev pub code_of : List ℕ → ℕ
code_of digits = (get_or digits 0 0 - 48) * 100 + (get_or digits 1 0 - 48) * 10 + (get_or digits 2 0 - 48)

-- three digits, the first of which is not 0
abbrev pub are_code_digits : List ℕ → Bool
are_code_digits digits = (length digits == 3) && (list_all is_ascii_digit digits && is_code (code_of digits))

-- nothing, or a space and a text
abbrev pub is_reason_end : List ℕ → Bool
is_reason_end [] = true
is_reason_end (b ∷ reason) = (b == 32) && is_text reason

-- version, space, digits, reason: the first three take twelve bytes
unfoldable pub status_cut : List ℕ → Option (ℕ × Span)
status_cut line =
    let digits = take 3 (drop 9 line) in
    if is_version (take 8 line) && (stands_at line 8 32 && (are_code_digits digits && is_reason_end (drop 12 line)))
    then Some (code_of digits, span (min 13 (length line)) (length line)) else None

-- the value between its blanks, from this place of the line on
abbrev pub bare_from : List ℕ → ℕ → Span
bare_from line place =
    let from = place + prefix_len is_blank (drop place line) in
    span from (length line - suffix_len is_blank (drop from line))

-- the parts of a field line whose name is so long
abbrev pub field_of : List ℕ → ℕ → Option Cut
field_of line n =
    if nat_lt 0 n && (stands_at line n 58 && is_text (drop (n + 1) line))
    then Some (cut_at (span 0 n) (bare_from line (n + 1))) else None

-- the parts of a field line: the token at the front, and the value behind one byte more
unfoldable pub field_cut : List ℕ → Option Cut
field_cut line = field_of line (token_length line)
