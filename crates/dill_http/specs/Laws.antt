-- The laws of lines and of what they say.
use Rattle.std.specs.Prelude.{◌≡◌, ◌<◌, ◌≤◌, ◌+◌, ◌++◌, ◌↔◌, [], ℕ, List, length, take, false, IsTrue, Option, Some, Ok, Err}
use Rattle.dill_base.specs.declared.errno.Errno.{Errno}
use Rattle.dill_base.specs.declared.errno.Errno.TheVariants.{Einval, Emsgsize}
use Rattle.dill_base.specs.declared.errno.Front.{Front}
use Rattle.dill_base.specs.declared.errno.Front.TheVariants.{Whole, Need, Fault}
use Rattle.dill_base.specs.Reading.{IsFront}
use Rattle.dill_http.specs.declared.span.Span.{Span}
use Rattle.dill_http.specs.declared.span.Cut.{Cut}
use Rattle.dill_http.specs.Lines.{line_limit, front_of_line, LineSpells, LineShows, IsCutLine}
use Rattle.dill_http.specs.Heads.{Said, Request, Status, Field, is_right, line_of, LineWrites, LineReads}
use Rattle.dill_http.specs.Reading.{IsCut, IsStatusCut, part, request_cut, status_cut, field_cut}
use Rattle.dill_http.specs.Writing.{line_due}

-- a whole line or a refusal
abbrev pub IsJudged : Front → Type 0
IsJudged (Whole from to used) = Unit {0}
IsJudged Need = ⊥
IsJudged (Fault e) = Unit {0}

-- A whole line stands at the front and ends with two bytes more.
pub record LineLies (u : List ℕ) (from to used : ℕ) : Type 0 where
  pub first : from ≡ 0
  pub short : to ≤ line_limit
  pub ending : used ≡ to + 2
  pub there : used ≤ length u

-- the laws of lines and of their front
pub record LineLaws : Type 0 where
  -- each answer has its cause
  pub front : (u : List ℕ) → IsFront LineSpells LineShows line_limit u (front_of_line u)
  -- what is spelled is read again, and what shows a refusal is refused, whatever follows it
  pub again : (m w rest : List ℕ) → LineSpells m w → length m ≤ line_limit → front_of_line (w ++ rest) ≡ Whole 0 (length m) (length w)
  pub refused : (e : Errno) (w rest : List ℕ) → LineShows e w → front_of_line (w ++ rest) ≡ Fault e
  -- no bytes that show a refusal begin others that show one: the least are refused
  pub least : (e f : Errno) (w rest : List ℕ) → LineShows e w → LineShows f (w ++ rest) → rest ≡ []
  -- what was judged stays so when more comes
  pub stays : (u v : List ℕ) (f : Front) → front_of_line u ≡ f → IsJudged f → front_of_line (u ++ v) ≡ f
  -- what waits is short, and it waits exactly where more bytes would make it a line
  pub waits : (u : List ℕ) → front_of_line u ≡ Need → length u < line_limit + 2
  pub open_ends : (u : List ℕ) → front_of_line u ≡ Need → IsCutLine u
  pub cut_waits : (u : List ℕ) → IsCutLine u → front_of_line u ≡ Need
  -- where a whole line lies, and that it is spelled there
  pub lies : (u : List ℕ) (from to used : ℕ) → front_of_line u ≡ Whole from to used → LineLies u from to used
  pub spelled : (u : List ℕ) (from to used : ℕ) → front_of_line u ≡ Whole from to used → LineSpells (take to u) (take used u)
  -- no line begins another, and no line has two messages
  pub free : (m n w rest : List ℕ) → LineSpells m w → LineSpells n (w ++ rest) → rest ≡ []
  pub one : (m n w : List ℕ) → LineSpells m w → LineSpells n w → m ≡ n

-- the cut was found, and its spans hold these two
pub record FindsCut (line : List ℕ) (found : Option Cut) (first second : List ℕ) : Type 0 where
  pub cut : Cut
  pub found_it : found ≡ Some cut
  pub holds_first : part line cut.first ≡ first
  pub holds_second : part line cut.second ≡ second

-- the code was found, and the span holds the reason
pub record FindsStatus (line : List ℕ) (found : Option (ℕ × Span)) (code : ℕ) (reason : List ℕ) : Type 0 where
  pub place : Span
  pub found_it : found ≡ Some (code, place)
  pub holds : part line place ≡ reason

-- the laws of what lines say
pub record HeadLaws : Type 0 where
  -- what is written is the one line that is sent, and that line is written
  pub written : (said : Said) (w : List ℕ) → line_due said ≡ Ok w → LineWrites said w
  pub writes : (said : Said) (w : List ℕ) → LineWrites said w → line_due said ≡ Ok w
  -- the refusals, each exactly where it is due
  pub no_form : (said : Said) → (line_due said ≡ Err Einval) ↔ (is_right said ≡ false)
  pub too_long : (said : Said) → (line_due said ≡ Err Emsgsize) ↔ (IsTrue (is_right said) × (line_limit < length (line_of said)))
  -- what was written is read again as a line, whatever follows it, and that line says the same
  pub again : (said : Said) (w rest : List ℕ) → LineWrites said w → front_of_line (w ++ rest) ≡ Whole 0 (length (line_of said)) (length w)
  pub says : (said : Said) (w rest : List ℕ) → LineWrites said w → LineReads (take (length (line_of said)) (w ++ rest)) said
  -- what is found is what the line says, and nothing is found exactly where it says no such thing
  pub request_read : (line : List ℕ) → IsCut Request line (request_cut line)
  pub status_read : (line : List ℕ) → IsStatusCut line (status_cut line)
  pub field_read : (line : List ℕ) → IsCut Field line (field_cut line)
  -- what a line says is found
  pub request_found : (line command resource : List ℕ) → LineReads line (Request command resource) → FindsCut line (request_cut line) command resource
  pub status_found : (line : List ℕ) (code : ℕ) (reason : List ℕ) → LineReads line (Status code reason) → FindsStatus line (status_cut line) code reason
  pub field_found : (line name value : List ℕ) → LineReads line (Field name value) → FindsCut line (field_cut line) name value
  -- a line says one thing, and no line that is sent begins another
  pub one : (line : List ℕ) (said other : Said) → LineReads line said → LineReads line other → said ≡ other
  pub free : (said other : Said) (w rest : List ℕ) → LineWrites said w → LineWrites other (w ++ rest) → rest ≡ []
