-- What a receive reads of the line of a head that stands at the front, as a relation (RFC 9112, sections 2 to 5).
use Rattle.std.specs.Prelude.{◌≡◌, ◌⊎◌, ◌≤◌, ℕ, List, [], ◌∷◌, Bool, true, false, length, take}
use Rattle.dill_base.specs.declared.errno.Errno.{Errno}
use Rattle.dill_base.specs.declared.errno.Errno.TheVariants.{Epipe, Eproto}
use Rattle.dill_base.specs.Reading.{IsShown}
use Rattle.dill_calls.specs.declared.answer.Answer.{Answer}
use Rattle.dill_calls.specs.declared.answer.Answer.TheVariants.{Two, Coded}
use Rattle.dill_http.specs.Heads.{LineReads}
use Rattle.dill_http.specs.Heads as says
use Rattle.dill_http.specs.Lines.{line_limit, LineSpells, LineShows, IsCutLine}
use Rattle.dill_stack.specs.declared.want.Want.{Want}
use Rattle.dill_stack.specs.declared.want.Want.TheVariants.{Request, Status, Field}
use Rattle.dill_stack.specs.declared.want.ReadOut.TheVariants.{Given, Need, Fault}
use Rattle.dill_stack.specs.Layers.{Placed, Http, HttpLayer, AmongFields, BehindEmpty, is_first, is_behind}
use Rattle.dill_stack.specs.Read.{outcome, received, read_line}

-- The first n bytes are this line within the limit, and its CRLF.
pub record LineStands (u line : List ℕ) (n : ℕ) : Type 0 where
  pub there : n ≤ length u
  pub short : length line ≤ line_limit
  pub spelled : LineSpells line (take n u)

-- The line says this to a receive that asks for such a line.
abbrev pub Says : Want → List ℕ → Answer → Type 0
Says Request line answer = (command : List ℕ) × (resource : List ℕ) × LineReads line (says.Request command resource) × (answer ≡ Two command resource)
Says Status line answer = (code : ℕ) × (reason : List ℕ) × LineReads line (says.Status code reason) × (answer ≡ Coded code reason)
Says Field line answer = (name : List ℕ) × (value : List ℕ) × LineReads line (says.Field name value) × (answer ≡ Two name value)
Says want line answer = ⊥

-- The line says nothing that is asked for, and it isn't the empty line behind the fields.
pub record IsMisread (want : Want) (line : List ℕ) : Type 0 where
  pub unsaid : (answer : Answer) → Says want line answer → ⊥
  pub unended : want ≡ Field → line ≡ [] → ⊥

-- a line that stands there says nothing that is asked for
pub record MisreadStands (want : Want) (u : List ℕ) : Type 0 where
  pub line : List ℕ
  pub size : ℕ
  pub stands : LineStands u line size
  pub misread : IsMisread want line

-- The list ended where a line may be missing: before the head.
abbrev pub IsBoundary : HttpLayer → List ℕ → Type 0
IsBoundary http u = (is_first http.receiving ≡ true) × (u ≡ [])

-- receives of lines, by what stands at the front
pub record LineReadLaws : Type 0 where
  -- What a line says is given exactly where it stands at the front, and just its bytes are used.
  pub gives : (want : Want) (http : HttpLayer) (below : List Placed) (u line : List ℕ) (n : ℕ) (answer : Answer) (ended : Bool) → is_behind http.receiving ≡ false → LineStands u line n → Says want line answer
      → read_line want (Http http ∷ below) u ended ≡ outcome n (received AmongFields http ∷ below) (Given answer)
  pub given : (want : Want) (http : HttpLayer) (below : List Placed) (u : List ℕ) (answer : Answer) (ended : Bool) → (read_line want (Http http ∷ below) u ended).said ≡ Given answer
      → (line : List ℕ) × LineStands u line (read_line want (Http http ∷ below) u ended).used × Says want line answer
  -- The empty line ends the fields; behind it, and where the list ended before the head, a receive is at the end.
  pub ends : (http : HttpLayer) (below : List Placed) (u : List ℕ) (n : ℕ) (ended : Bool) → is_behind http.receiving ≡ false → LineStands u [] n → read_line Field (Http http ∷ below) u ended ≡ outcome n (received BehindEmpty http ∷ below) (Fault Epipe)
  pub behind : (want : Want) (http : HttpLayer) (below : List Placed) (u : List ℕ) (ended : Bool) → is_behind http.receiving ≡ true → read_line want (Http http ∷ below) u ended ≡ outcome 0 (Http http ∷ below) (Fault Epipe)
  pub over : (want : Want) (http : HttpLayer) (below : List Placed) (u : List ℕ) → IsBoundary http u → read_line want (Http http ∷ below) u true ≡ outcome 0 (Http http ∷ below) (Fault Epipe)
  pub ended : (want : Want) (http : HttpLayer) (below : List Placed) (u : List ℕ) (ended : Bool) → (read_line want (Http http ∷ below) u ended).said ≡ Fault Epipe
      → (is_behind http.receiving ≡ true) ⊎ (((want ≡ Field) × LineStands u [] (read_line want (Http http ∷ below) u ended).used) ⊎ ((ended ≡ true) × IsBoundary http u))
  -- A refusal is answered exactly where a front shows it, where the line says nothing that is asked for, or where the list ended inside a head; nothing is used.
  pub refuses : (want : Want) (http : HttpLayer) (below : List Placed) (u : List ℕ) (e : Errno) (ended : Bool) → is_behind http.receiving ≡ false → IsShown LineShows u e → read_line want (Http http ∷ below) u ended ≡ outcome 0 (Http http ∷ below) (Fault e)
  pub misreads : (want : Want) (http : HttpLayer) (below : List Placed) (u : List ℕ) (ended : Bool) → is_behind http.receiving ≡ false → MisreadStands want u → read_line want (Http http ∷ below) u ended ≡ outcome 0 (Http http ∷ below) (Fault Eproto)
  pub cuts : (want : Want) (http : HttpLayer) (below : List Placed) (u : List ℕ) → is_behind http.receiving ≡ false → IsCutLine u → (IsBoundary http u → ⊥) → read_line want (Http http ∷ below) u true ≡ outcome 0 (Http http ∷ below) (Fault Eproto)
  pub refused : (want : Want) (http : HttpLayer) (below : List Placed) (u : List ℕ) (e : Errno) (ended : Bool) → (e ≡ Epipe → ⊥) → (read_line want (Http http ∷ below) u ended).said ≡ Fault e
      → IsShown LineShows u e ⊎ ((e ≡ Eproto) × (MisreadStands want u ⊎ ((ended ≡ true) × IsCutLine u × (IsBoundary http u → ⊥))))
  -- More bytes are awaited exactly where those that are there would begin a line and the list goes on, and nothing is used.
  pub waits : (want : Want) (http : HttpLayer) (below : List Placed) (u : List ℕ) → is_behind http.receiving ≡ false → IsCutLine u → read_line want (Http http ∷ below) u false ≡ outcome 0 (Http http ∷ below) Need
  pub needs : (want : Want) (http : HttpLayer) (below : List Placed) (u : List ℕ) (ended : Bool) → (read_line want (Http http ∷ below) u ended).said ≡ Need → (ended ≡ false) × (is_behind http.receiving ≡ false) × IsCutLine u
