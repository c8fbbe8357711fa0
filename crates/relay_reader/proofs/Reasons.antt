-- The first reason of parts that stand one behind the other.
use Rattle.std.proofs.Common.{◌≡◌, List, [], ◌∷◌, ◌++◌, Bool, true, false, Option, Some, None, Result, Ok, Err, refl, ap, ◌∙◌}
use Rattle.std.specs.Result.{IsErrAnd}
use Rattle.std.proofs.lemmas.Result.{err_from_is_err_and}
use Rattle.dill_script.specs.declared.refusal.Reason.{Reason}
use Rattle.dill_script.specs.declared.line.Keyword.{Keyword}
use Rattle.dill_script.specs.Contexts.{Context, adding, behind, open_behind}
use Rattle.dill_script.specs.Headings.{Heading}
use Rattle.dill_script.specs.Refusals.{first_reason}
use Rattle.dill_script.specs.Statements.{Line, line_of}
use Rattle.relay_reader.specs.Parts.{behind_line}
use Rattle.relay_reader.specs.declared.fault.Fault.{Fault}
use Rattle.relay_reader.specs.declared.fault.Fault.TheVariants as faults
use Rattle.relay_reader.specs.Telling.{Faults, Tells}

pub reason_later : (first rest : List (Bool × Reason)) → first_reason first ≡ None → first_reason (first ++ rest) ≡ first_reason rest
reason_later [] rest none = refl
reason_later ((true, reason) ∷ more) rest none = cc
reason_later ((false, reason) ∷ more) rest none = reason_later more rest none

pub reason_first : (first rest : List (Bool × Reason)) (told : Reason) → first_reason first ≡ Some told → first_reason (first ++ rest) ≡ Some told
reason_first [] rest told some = cc
reason_first ((true, reason) ∷ more) rest told some = some
reason_first ((false, reason) ∷ more) rest told some = reason_first more rest told some

pub faults_first : (fault : Fault) (first rest : List (Bool × Reason)) → Faults fault (first_reason first) → Faults fault (first_reason (first ++ rest))
faults_first (faults.Against told) first rest meant = reason_first first rest told meant
faults_first faults.NoMemory first rest meant = tt

pub faults_later : (fault : Fault) (first rest : List (Bool × Reason)) → first_reason first ≡ None → Faults fault (first_reason rest) → Faults fault (first_reason (first ++ rest))
faults_later (faults.Against told) first rest none meant = reason_later first rest none ∙ meant
faults_later faults.NoMemory first rest none meant = tt

pub tells_later : {X : Type 0} (result : Result X Fault) (first rest : List (Bool × Reason)) (Fact : X → Type 0) → first_reason first ≡ None → Tells result (first_reason rest) Fact → Tells result (first_reason (first ++ rest)) Fact
tells_later (Ok x) first rest Fact none meant = (reason_later first rest none ∙ meant.0, meant.1)
tells_later (Err fault) first rest Fact none meant = faults_later fault first rest none meant

pub told_error : {X : Type 0} (result : Result X Fault) (fault : Fault) (reason : Option Reason) (Fact : X → Type 0) → IsErrAnd result (λ given. given ≡ fault) → Faults fault reason → Tells result reason Fact
told_error result fault reason Fact error meant =
    let given = err_from_is_err_and result error in
    rw (given.1, given.2) meant

pub behind_is : (context : Context) (heading : Heading) (keyword : Keyword) (line : Line) → heading.keyword ≡ Some keyword → line_of heading ≡ Some line → behind context (Some heading) ≡ behind_line context keyword line
behind_is context heading keyword line behind_keyword spelled =
    let of : Option Line → Option Keyword → Context = λ given word. record (adding context given) { open_blocks = open_behind context.open_blocks word } in
    ap (λ given. of given heading.keyword) spelled ∙ ap (λ word. of (Some line) word) behind_keyword
