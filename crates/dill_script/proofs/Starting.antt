-- Each program that a statement of what is read starts is there, with so many parameters as it is given arguments.
use Rattle.std.proofs.Common.{◌≡◌, ℕ, List, [], ◌∷◌, Bool, true, false, not, ◌||◌, ◌&&◌, Option, Some, None, option_and_then, refl}
use Rattle.std.proofs.lemmas.Bool.{and_from, or_parts}
use Rattle.std.specs.List.{list_all, list_any}
use Rattle.dill_script.specs.declared.script.Program.{Program}
use Rattle.dill_script.specs.Headings.{heading_of}
use Rattle.dill_script.specs.Lines.{lines_of}
use Rattle.dill_script.specs.Reading.{started_by, takes}
use Rattle.dill_script.specs.Refusals.{is_some_with}
use Rattle.dill_script.specs.Spelling.{spoken, is_there, starts_there, ReadsStarts}
use Rattle.dill_script.specs.Statements.{Line, Opens, Ends, Says, line_of}
use Rattle.dill_script.specs.Tokens.{Token}
use Rattle.dill_script.proofs.Linking.{IsRead, is_read, starts_by, without_spoken}
use Rattle.dill_script.proofs.Saying.{says_well, line_says, reads_all}

not_false : (b : Bool) → not b ≡ false → b ≡ true
not_false true e = refl
not_false false e = cc

there : (script : List Program) (o : Option (List ℕ × ℕ)) → is_some_with (λ start. not (list_any (takes start) script)) o ≡ false → is_there script o ≡ true
there script None e = refl
there script (Some start) e = not_false (list_any (takes start) script) e

line_starts : (script : List Program) (o : Option Line) → is_some_with (λ start. not (list_any (takes start) script)) (option_and_then started_by o) ≡ false → says_well (starts_there script) o ≡ true
line_starts script None e = refl
line_starts script (Some (Opens name params)) e = refl
line_starts script (Some Ends) e = refl
line_starts script (Some (Says statement)) e = there script (started_by (Says statement)) e

lines_start : (script : List Program) (lists : List (List Token)) → list_any (starts_by script) lists ≡ false → list_all (line_says (starts_there script)) lists ≡ true
lines_start script [] e = refl
lines_start script (list ∷ rest) e =
    let p = or_parts (starts_by script list) (list_any (starts_by script) rest) e in
    and_from (line_says (starts_there script) list) (list_all (line_says (starts_there script)) rest) (line_starts script (line_of (heading_of list)) p.0) (lines_start script rest p.1)

pub reads_starts : ReadsStarts
reads_starts built text script e =
    let r : IsRead built text script = is_read built text script e in
    reads_all (starts_there script) (record { end_if = refl; end_loop = refl }) built text script e (lines_start script (spoken (lines_of text)) (without_spoken script 1 (lines_of text) r.programs))
