-- The lines of a head up to the empty one (RFC 9112, sections 2.1 and 2.2), with limits on each and on all.
use Rattle.std.specs.Prelude.{◌≡◌, ◌⊎◌, ◌+◌, ◌-◌, ◌<◌, ◌≤◌, ◌++◌, ◌∷◌, [], ◌&&◌, if◌then◌else◌, ℕ, zero, suc, Bool, true, false, List, length, take, drop, nat_lt, nat_le, ltb, eqb, Option, Some, None}
use Rattle.std.specs.List.{list_all, flat_map}
use Rattle.dill_base.specs.declared.errno.Errno.{Errno}
use Rattle.dill_base.specs.declared.errno.Errno.TheVariants.{Eproto, Emsgsize}
use Rattle.dill_base.specs.declared.errno.Front.{Front}
use Rattle.dill_base.specs.declared.errno.Front.TheVariants.{Whole, Need, Fault}
use Rattle.dill_base.specs.Reading.{IsFront}
use Rattle.dill_http.specs.Bytes.{is_inner}
use Rattle.dill_http.specs.Lines.{line_limit, crlf, front_of_line, LineSpells, LineShows, IsCutLine}

-- The most bytes of a head.
abbrev pub head_limit : ℕ
head_limit = 16384

-- Something stands on the line, no CR and no LF, and it is within the limit.
abbrev pub is_full : List ℕ → Bool
is_full line = nat_lt 0 (length line) && (list_all is_inner line && nat_le (length line) line_limit)

abbrev pub are_full : List (List ℕ) → Bool
are_full lines = list_all is_full lines

-- The lines, each with its CRLF.
abbrev pub lines_text : List (List ℕ) → List ℕ
lines_text lines = flat_map (λ line. line ++ crlf) lines

-- w is these lines and the empty one, within the limit.
pub record IsHeadText (lines : List (List ℕ)) (w : List ℕ) : Type 0 where
  pub full : are_full lines ≡ true
  pub whole : w ≡ lines_text lines ++ crlf
  pub short : length w ≤ head_limit

-- u is some lines and less than one, which more bytes would make a line.
pub record IsCutHead (u : List ℕ) : Type 0 where
  pub lines : List (List ℕ)
  pub last : List ℕ
  pub full : are_full lines ≡ true
  pub cut : IsCutLine last
  pub whole : u ≡ lines_text lines ++ last

-- All bytes of the limit are there, and they hold no end.
pub record IsTooLong (e : Errno) (w : List ℕ) : Type 0 where
  pub errno : e ≡ Emsgsize
  pub all : length w ≡ head_limit
  pub endless : (lines : List (List ℕ)) → IsHeadText lines w → ⊥

-- The last line of w shows a refusal, before the limit.
pub record HasBadLine (e : Errno) (w : List ℕ) : Type 0 where
  pub lines : List (List ℕ)
  pub last : List ℕ
  pub full : are_full lines ≡ true
  pub shown : LineShows e last
  pub whole : w ≡ lines_text lines ++ last
  pub within : length w < head_limit

-- w is a head whose lines don't pass the test.
pub record IsBadHead (test : List (List ℕ) → Bool) (e : Errno) (w : List ℕ) : Type 0 where
  pub errno : e ≡ Eproto
  pub lines : List (List ℕ)
  pub text : IsHeadText lines w
  pub fails : test lines ≡ false

-- The last byte of w shows the refusal, and the bytes before it were still the start of a head.
pub record HeadShows (test : List (List ℕ) → Bool) (e : Errno) (w : List ℕ) : Type 0 where
  pub before : List ℕ
  pub byte : ℕ
  pub whole : w ≡ before ++ byte ∷ []
  pub led : IsCutHead before
  pub shown : IsTooLong e w ⊎ (HasBadLine e w ⊎ IsBadHead test e w)

-- The first line of the bytes and what stands behind it, unless it is empty or isn't there.
abbrev pub line_at : List ℕ → Front → Option (List ℕ × List ℕ)
line_at u (Whole from to used) = if eqb to 0 then None else Some (take to u, drop used u)
line_at u Need = None
line_at u (Fault e) = None

unfoldable pub next_line : List ℕ → Option (List ℕ × List ℕ)
next_line u = line_at u (front_of_line u)

abbrev pub onto : List ℕ → List (List ℕ) × List ℕ → List (List ℕ) × List ℕ
onto line split = (line ∷ split.0, split.1)

-- The lines at the front, at most so many, and what stands behind them.
abbrev pub split_by : (List ℕ → List (List ℕ) × List ℕ) → List ℕ → Option (List ℕ × List ℕ) → List (List ℕ) × List ℕ
split_by again u None = ([], u)
split_by again u (Some found) = onto found.0 (again found.1)

abbrev pub split_lines : ℕ → List ℕ → List (List ℕ) × List ℕ
split_lines zero u = ([], u)
split_lines (suc n) u = split_by (split_lines n) u (next_line u)

unfoldable pub lines_at : List ℕ → List (List ℕ)
lines_at u = (split_lines (length u) u).0

unfoldable pub behind : List ℕ → List ℕ
behind u = (split_lines (length u) u).1

-- Where the limit is reached, only a whole head is none too long.
abbrev pub at_limit : Front → Front
at_limit (Whole from to used) = Whole from to used
at_limit Need = Fault Emsgsize
at_limit (Fault e) = Fault Emsgsize

abbrev pub limited : ℕ → Front → Front → Front
limited count Need last = if ltb count head_limit then Need else at_limit last
limited count (Whole from to used) last = Whole from to used
limited count (Fault e) last = Fault e

-- What stops the lines: the empty one, too little, or a refusal.
unfoldable pub head_stop : List ℕ → Front
head_stop u = limited (length u) (front_of_line (behind (take (head_limit - 1) u))) (front_of_line (behind (take head_limit u)))

-- What stands behind the lines, before the last byte that a head may have, is what the spellings of lines say.
abbrev pub HasLineFront : List ℕ → Type 0
HasLineFront u =
    let last = behind (take (head_limit - 1) u) in
    IsFront LineSpells LineShows line_limit last (front_of_line last)

-- How many bytes the head has that the bytes begin with.
abbrev pub head_size : List ℕ → ℕ
head_size u = length (lines_text (lines_at u)) + 2

abbrev pub judged_by : Bool → ℕ → Front → Front
judged_by passes size (Whole from to used) = if passes then Whole 0 size size else Fault Eproto
judged_by passes size Need = Need
judged_by passes size (Fault e) = Fault e

-- What stands at the front of the bytes: a head whose lines pass the test, too little, or a refusal.
unfoldable pub head_front_by : (List (List ℕ) → Bool) → List ℕ → Front
head_front_by test u = judged_by (test (lines_at u)) (head_size u) (head_stop u)
