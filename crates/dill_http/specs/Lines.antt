-- The lines of a head: RFC 9112, section 2.2, with CRLF alone and with a limit.
use Rattle.std.specs.Prelude.{◌≡◌, ◌<◌, ◌≤◌, ◌+◌, ◌++◌, ◌∷◌, [], ◌==◌, ◌&&◌, not, if◌then◌else◌, IsTrue, Bool, ℕ, List, length, drop, nat_lt, Option, Some, None}
use Rattle.std.specs.List.{list_all, prefix_len}
use Rattle.dill_base.specs.declared.errno.Errno.{Errno}
use Rattle.dill_base.specs.declared.errno.Errno.TheVariants.{Emsgsize, Eproto}
use Rattle.dill_base.specs.declared.errno.Front.{Front}
use Rattle.dill_base.specs.declared.errno.Front.TheVariants.{Whole, Need, Fault}
use Rattle.dill_http.specs.Bytes.{is_inner, ends_with}

-- the most bytes of a line, without its CRLF
abbrev pub line_limit : ℕ
line_limit = 8192

-- the end of a line
abbrev pub crlf : List ℕ
crlf = 13 ∷ 10 ∷ []

-- w is m, in which neither CR nor LF stands, and then CRLF
pub record LineSpells (m w : List ℕ) : Type 0 where
  pub inner : IsTrue (list_all is_inner m)
  pub whole : w ≡ m ++ crlf

-- one byte more, or several, would make it a line within the limit
pub record IsCutLine (u : List ℕ) : Type 0 where
  pub line : List ℕ
  pub rest : List ℕ
  pub short : length line ≤ line_limit
  pub more : 0 < length rest
  pub spelled : LineSpells line (u ++ rest)

-- the last byte is CR
abbrev pub ends_in_cr : List ℕ → Bool
ends_in_cr u = ends_with (λ b. b == 13) u

-- Behind u this byte stands in place 8,193, and it is neither CR nor the LF that follows CR.
abbrev pub is_over : List ℕ → ℕ → Bool
is_over u b = (length u == line_limit) && (not (b == 13) && not (ends_in_cr u && b == 10))

-- Behind u this byte is LF without CR before it, or another byte than LF behind CR.
abbrev pub is_stray : List ℕ → ℕ → Bool
is_stray u b = if ends_in_cr u then not (b == 10) else b == 10

-- the refusal that this byte shows behind u: the length is judged first
abbrev pub shown_at : List ℕ → ℕ → Option Errno
shown_at u b = if is_over u b then Some Emsgsize else (if is_stray u b then Some Eproto else None)

-- The last byte of w shows the refusal, and the bytes before it still led to a line.
pub record LineShows (e : Errno) (w : List ℕ) : Type 0 where
  pub before : List ℕ
  pub byte : ℕ
  pub whole : w ≡ before ++ byte ∷ []
  pub led : IsCutLine before
  pub shown : shown_at before byte ≡ Some e

-- what n bytes of a line, CR and these bytes are
abbrev pub front_behind_cr : ℕ → List ℕ → Front
front_behind_cr n [] = Need
front_behind_cr n (b ∷ rest) =
    if b == 10 then Whole 0 n (n + 2)
    else Fault (if (n + 1 == line_limit) && not (b == 13) then Emsgsize else Eproto)

-- what n bytes of a line and these bytes, the first of which is CR or LF, are
abbrev pub front_behind : ℕ → List ℕ → Front
front_behind n [] = Need
front_behind n (b ∷ rest) =
    if b == 13 then front_behind_cr n rest
    else Fault (if n == line_limit then Emsgsize else Eproto)

-- what stands at the front of the bytes, by the place of the first CR or LF
unfoldable pub front_of_line : List ℕ → Front
front_of_line bytes =
    let n = prefix_len is_inner bytes in
    if nat_lt line_limit n then Fault Emsgsize else front_behind n (drop n bytes)
