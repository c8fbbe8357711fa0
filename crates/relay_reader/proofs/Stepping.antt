-- Judging the lines of a text one after the other.
use Rattle.std.proofs.Common.{◌≡◌, ◌∙◌, ℕ, ◌+◌, List, [], ◌∷◌, map, length, Bool, true, false, if◌then◌else◌, nat_eq, Option, None, refl, ap, sym, subst, arith}
use Rattle.std.proofs.lemmas.Bool.Decides.{nat_tests}
use Rattle.dill_calls.specs.declared.word.Word.{Word}
use Rattle.dill_script.specs.Blocks.{is_empty}
use Rattle.dill_script.specs.Contexts.{Context, after}
use Rattle.dill_script.specs.Lines.{longer, pieces, without_cr, lines_of}
use Rattle.dill_script.specs.Reading.{Reading, judged, refused_or}
use Rattle.dill_script.specs.Refusals.{faults, first_reason}
use Rattle.dill_script.specs.declared.refusal.Reason.{Reason}
use Rattle.relay_reader.specs.declared.fault.Fault.{Fault}
use Rattle.relay_reader.specs.declared.fault.Fault.TheVariants as kinds
use Rattle.relay_reader.specs.Telling.{Faults, Refuses, refusal_at}

longer_some : (byte : ℕ) (lines : List (List ℕ)) → is_empty (longer byte lines) ≡ false
longer_some byte [] = refl
longer_some byte (line ∷ lines) = refl

pieces_some : (byte : ℕ) (bytes : List ℕ) (test : Bool) → is_empty (if test then [] ∷ pieces bytes else longer byte (pieces bytes)) ≡ false
pieces_some byte bytes true = refl
pieces_some byte bytes false = longer_some byte (pieces bytes)

map_empty : {X Y : Type 0} (f : X → Y) (xs : List X) → is_empty (map f xs) ≡ is_empty xs
map_empty f [] = refl
map_empty f (x ∷ xs) = refl

length_some : {X : Type 0} (x : X) (xs : List X) → nat_eq (length (x ∷ xs)) 0 ≡ false
length_some x xs = grind (arith, nat_tests)

-- a text has no lines exactly where it is empty
pub no_lines : (bytes : List ℕ) → is_empty (lines_of bytes) ≡ nat_eq (length bytes) 0
no_lines [] = refl
no_lines (byte ∷ bytes) = map_empty without_cr (pieces (byte ∷ bytes)) ∙ pieces_some byte bytes (nat_eq byte 10) ∙ sym (length_some byte bytes)

-- a line against which no reason holds
pub judged_more : (built : Word → Bool) (number : ℕ) (context new : Context) (lines : List (List ℕ)) (line : List ℕ) (rest : List (List ℕ)) (last : Bool) → lines ≡ line ∷ rest → is_empty rest ≡ last
    → first_reason (faults built context last line) ≡ None → new ≡ after context line → judged built number context lines ≡ judged built (number + 1) new rest
judged_more built number context new lines line rest last cut ends none next =
    let further : Context → Reading = λ given. judged built (number + 1) given rest in
    ap (judged built number context) cut
    ∙ ap (λ given. refused_or number (first_reason (faults built context given line)) (further (after context line))) ends
    ∙ ap (λ reason. refused_or number reason (further (after context line))) none
    ∙ ap further (sym next)

refuses_or : (number : ℕ) (fault : Fault) (reason : Option Reason) (further : Reading) → Faults fault reason → Refuses (refusal_at number fault) (refused_or number reason further)
refuses_or number (kinds.Against told) reason further meant = ap (λ given. refused_or number given further) meant
refuses_or number kinds.NoMemory reason further meant = tt

-- a line that is refused
pub judged_stop : (built : Word → Bool) (number : ℕ) (context : Context) (lines : List (List ℕ)) (line : List ℕ) (rest : List (List ℕ)) (last : Bool) (fault : Fault) → lines ≡ line ∷ rest → is_empty rest ≡ last
    → Faults fault (first_reason (faults built context last line)) → Refuses (refusal_at number fault) (judged built number context lines)
judged_stop built number context lines line rest last fault cut ends meant =
    let Refused : Reading → Type 0 = λ reading. Refuses (refusal_at number fault) reading in
    let further = judged built (number + 1) (after context line) rest in
    subst Refused
    (sym (ap (judged built number context) cut ∙ ap (λ given. refused_or number (first_reason (faults built context given line)) further) ends))
    (refuses_or number fault (first_reason (faults built context last line)) further meant)
