-- Each statement of a call in a script that was read makes its own call, and each turn that stops at one does.
use Rattle.std.proofs.Common.{◌≡◌, ℕ, zero, suc, List, [], ◌∷◌, slice_get, Bool, true, false, ◌&&◌, Option, Some, None, Ok, refl, sym, ap, ◌∙◌, subst}
use Rattle.std.specs.List.{list_all}
use Rattle.dill_base.specs.declared.errno.Errno.{Errno}
use Rattle.dill_calls.specs.declared.call.Call.{Call}
use Rattle.dill_calls.specs.declared.word.Word.{Word}
use Rattle.dill_calls.specs.Program.{Calls, Ends}
use Rattle.dill_script.specs.declared.form.Form.{Form}
use Rattle.dill_script.specs.declared.operand.Dest.{Dest}
use Rattle.dill_script.specs.declared.script.Program.{Program}
use Rattle.dill_script.specs.declared.statement.Statement.{Statement}
use Rattle.dill_script.specs.declared.statement.Statement.TheVariants as statements
use Rattle.dill_script.specs.Fitting.{is_form, may_hold, is_formed, all_say}
use Rattle.dill_script.specs.Contexts.{places}
use Rattle.dill_script.specs.Reading.{Reading, started, script_with}
use Rattle.dill_script.specs.Spelling.{ReadsFormed, ReadsApart, ReadsStarts, is_there, starts_there}
use Rattle.dill_meaning.specs.Calls.{call_of}
use Rattle.dill_meaning.specs.Making.{Makes, MakesItsOwn}
use Rattle.dill_meaning.specs.Meaning.{appended, kept, moved}
use Rattle.dill_meaning.specs.Reaching.{KnowsStarted, EachStatementMakes, EachTurnMakes}
use Rattle.dill_meaning.specs.Values.{bytes_value, values_of}
use Rattle.dill_meaning.specs.Views.{ScriptView, statements_in, statements_of, ahead, pending, last_of}
use Rattle.dill_meaning.specs.Walks.{Mode, Runs, Stop, walk, stopped, behind, call_in, call_at, passing, given, stop_of, join_fault}
use Rattle.dill_meaning.proofs.Given.{GoesFrom, given_goes}
use Rattle.dill_meaning.proofs.Lists.{all_at}
use Rattle.dill_meaning.proofs.Making.{each_form_makes}
use Rattle.dill_meaning.proofs.Started.{made_known}
use Rattle.dill_meaning.proofs.Table.{call_fits}
use Rattle.dill_meaning.proofs.Walking.{Walked, Stands, walk_walked}

-- a test that each statement passes is passed by one of them
pub one_says : (test : Statement → Bool) (script : List Program) (program : ℕ) (o : Option Program) (place : ℕ) (statement : Statement) → slice_get script program ≡ o → all_say test script ≡ true → slice_get (statements_in o) place ≡ Some statement → test statement ≡ true
one_says test script program None place statement e a g = cc
one_says test script program (Some found) place statement e a g = all_at test found.statements place statement (all_at (λ p. list_all test p.statements) script program found a e) g

first_part : (a b : Bool) → (a && b) ≡ true → a ≡ true
first_part true b e = refl
first_part false b e = cc

pub each_statement : ReadsFormed → ReadsApart → ReadsStarts → EachStatementMakes
each_statement formed apart starts built text view place tried dest form e g =
    let at : is_formed (statements.Call tried dest form) ≡ true = one_says is_formed view.script view.program (slice_get view.script view.program) place (statements.Call tried dest form) refl (formed built text view.script e) g in
    let fits : is_form form ≡ true = first_part (is_form form) (may_hold form.word dest) at in
    let there : is_there view.script (started form.operands) ≡ true = one_says (starts_there view.script) view.script view.program (slice_get view.script view.program) place (statements.Call tried dest form) refl (starts built text view.script e) g in (
      each_form_makes view form fits,
      made_known view form.word form.operands (call_of form.word (values_of view form.operands)) refl (call_fits form.word (values_of view form.operands)) fits there (apart built text view.script e),
    )

-- the call with which a walk stops is that of its statement
abbrev CalledBy : ScriptView → Option (Statement × Call) → Type 0
CalledBy view None = Unit {0}
CalledBy view (Some (statement, call)) = call_at view statement ≡ Some call

mode_call : (mode : Mode) (view : ScriptView) (statement : Statement) (call : Call) → call_in mode view statement ≡ Some call → call_at view statement ≡ Some call
mode_call Runs view statement call e = e
mode_call _ view statement call e = cc

step_called : (mode : Mode) (view : ScriptView) (statement : Statement) (made : Option Call) (further : Stop) → call_in mode view statement ≡ made → CalledBy further.view further.made → CalledBy (stopped view statement made further).view (stopped view statement made further).made
step_called mode view statement None further e h = h
step_called mode view statement (Some call) further e h = mode_call mode view statement call e

walk_called : (mode : Mode) (view : ScriptView) (rest : List Statement) → CalledBy (walk mode view rest).view (walk mode view rest).made
walk_called mode view [] = tt
walk_called mode view (statement ∷ rest) =
    let gone = behind mode (passing view) statement in
    step_called mode (passing view) statement (call_in mode (passing view) statement) (walk gone.0 gone.1 rest) refl (walk_called gone.0 gone.1 rest)

-- the place of the last statement
last_at : (list : List Statement) (count : ℕ) (statement : Statement) → last_of list count ≡ Some statement → (place : ℕ) × (slice_get list place ≡ Some statement)
last_at list zero statement e = absurd (none_some e)
  where
    none_some : last_of list zero ≡ Some statement → ⊥
    none_some f = cc
last_at list (suc count) statement e = (count, e)

abbrev stop_at : Statement → Call → Option (Statement × Call)
stop_at statement call = Some (statement, call)

same_call : (a b : Call) → Calls a ≡ Calls b → a ≡ b
same_call a b e = cc

ends_calls : (outcome : Option Errno) (call : Call) → Ends outcome ≡ Calls call → ⊥
ends_calls outcome call e = cc

-- a move with a call, from what a walk made
moved_call : (view : ScriptView) (made : Option (Statement × Call)) (new : ScriptView) (call : Call) → moved view made ≡ (new, Calls call) → (statement : Statement) × (made ≡ stop_at statement call) × (new ≡ kept view statement)
moved_call view None new call e = absurd (ends_calls view.outcome call (ap (λ p. p.1) e))
moved_call view (Some (statement, other)) new call e = (statement, ap (stop_at statement) (same_call other call (ap (λ p. p.1) e)), sym (ap (λ p. p.0) e))

appended_pending : (view : ScriptView) (place : ℕ) (more : List ℕ) (fault : Option Errno) → pending (appended view place more fault) ≡ pending view
appended_pending view place more None = refl
appended_pending view place more (Some errno) = refl

-- what a statement keeps in a register leaves the place
kept_pending : (view : ScriptView) (statement : Statement) → pending (kept view statement) ≡ pending view
kept_pending view (statements.Keep tried place value) = refl
kept_pending view (statements.Join tried place value) = appended_pending view place (bytes_value view value) (join_fault view place (bytes_value view value))
kept_pending view _ = refl

same_statement : (a b : Statement) → Some a ≡ Some b → a ≡ b
same_statement a b e = cc

abbrev read_as : List Program → Reading
read_as script = Ok script

-- a stop at the statement of a call
at_stop : EachStatementMakes → (built : Word → Bool) (text : List ℕ) (view new : ScriptView) (statement : Statement) (call : Call) (tried : Bool) (dest : Option Dest) (form : Form) → script_with built text ≡ Ok view.script → pending view ≡ Some statement → call_at view statement ≡ Some call → new ≡ kept view statement → pending new ≡ Some (statements.Call tried dest form) → Makes new form call × KnowsStarted new (Some call)
at_stop each built text view new statement call tried dest form e h c k p =
    let same : statement ≡ statements.Call tried dest form = same_statement statement (statements.Call tried dest form) (sym h ∙ sym (kept_pending view statement) ∙ ap pending (sym k) ∙ p) in
    let stays : new ≡ view = k ∙ ap (kept view) same in
    let at = last_at (statements_of view) view.passed (statements.Call tried dest form) (h ∙ ap (λ x. Some x) same) in
    let makes = each built text view at.0 tried dest form e at.1 in
    let called : call_at view (statements.Call tried dest form) ≡ Some call = subst (λ s. call_at view s ≡ Some call) same c in
    subst (λ v. Makes v form call × KnowsStarted v (Some call)) (sym stays) (subst (λ o. MakesItsOwn view form o × KnowsStarted view o) called makes)

pub each_turn : EachStatementMakes → EachTurnMakes
each_turn each built text view new answer call tried dest form e m p =
    let gone = given view answer (pending view) in
    let stop : Stop = stop_of view answer in
    let g : GoesFrom view answer (pending view) gone.1 = given_goes view answer (pending view) in
    let w : Walked gone.1 (ahead gone.1) stop = walk_walked gone.0 gone.1 (ahead gone.1) refl in
    let from = moved_call stop.view stop.made new call m in
    let stands : Stands (places (ahead gone.1)) stop.view (Some (from.0, call)) = subst (λ o. Stands (places (ahead gone.1)) stop.view o) from.1 w.stands in
    let called : CalledBy stop.view (Some (from.0, call)) = subst (λ o. CalledBy stop.view o) from.1 (walk_called gone.0 gone.1 (ahead gone.1)) in
    let script : script_with built text ≡ Ok stop.view.script = e ∙ ap read_as (sym (w.script ∙ g.script)) in
    at_stop each built text stop.view new from.0 call tried dest form script stands.here called from.2 p
