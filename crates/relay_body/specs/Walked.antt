-- A walk stops in its program, at a statement that makes a call there, with its loops open.
use Rattle.std.proofs.Common.{◌≡◌, ℕ, List, [], ◌∷◌, slice_get, Option, Some, None, true, refl, ◌∙◌}
use Rattle.dill_calls.specs.declared.call.Call.{Call}
use Rattle.dill_script.specs.declared.statement.Statement.{Statement}
use Rattle.dill_meaning.specs.Views.{ScriptView, statements_of, ahead, pending, last_of}
use Rattle.dill_meaning.specs.Walks.{Mode, Runs, Stop, walk, stopped, behind, call_in, call_at, passing}
use Rattle.dill_meaning.proofs.Lists.{drop_next, get_ahead}
use Rattle.dill_meaning.proofs.Walking.{Keeps, behind_keeps, statements_kept, ahead_kept}
use Rattle.dill_script.specs.Nesting.{nests, in_program}
use Rattle.relay_body.specs.Answered.{Opens}
use Rattle.relay_body.specs.Depths.{Fits}
use Rattle.relay_body.specs.Opened.{behind_fits, passed_opens, stopped_opens}

-- a call of the statement that stands there
abbrev pub MadeThere : ScriptView → Option (Statement × Call) → Type 0
MadeThere view None = Unit {0}
MadeThere view (Some (statement, call)) = (pending view ≡ Some statement) × (call_at view statement ≡ Some call)

-- where a walk stops
pub record Stops (list : List Statement) (old : ScriptView) (stop : Stop) : Type 0 where
  pub script : stop.view.script ≡ old.script
  pub program : stop.view.program ≡ old.program
  pub opens : Opens list stop.view
  pub made : MadeThere stop.view stop.made

call_in_at : (mode : Mode) (view : ScriptView) (statement : Statement) (call : Call) → call_in mode view statement ≡ Some call → call_at view statement ≡ Some call
call_in_at Runs view statement call e = e
call_in_at _ view statement call e = cc

get_same : (xs ys : List Statement) (n : ℕ) (found : Option Statement) → xs ≡ ys → slice_get xs n ≡ found → slice_get ys n ≡ found
get_same xs ys n found e f = cc

step_stops : (list : List Statement) (mode : Mode) (view : ScriptView) (statement : Statement) (rest : List Statement) (after : ScriptView) (made : Option Call) (further : Stop) → call_in mode (passing view) statement ≡ made → slice_get (statements_of view) view.passed ≡ Some statement → Opens list (passing view) → Keeps (passing view) after → Stops list after further → Stops list view (stopped (passing view) statement made further)
step_stops list mode view statement rest after None further c e o k s = record {
  script = s.script ∙ k.script;
  program = s.program ∙ k.program;
  opens = s.opens;
  made = s.made;
}
step_stops list mode view statement rest after (Some call) further c e o k s = record {
  script = refl;
  program = refl;
  opens = o;
  made = (e, call_in_at mode (passing view) statement call c);
}

-- where a walk over what is ahead of a view stops
pub walk_stops : (list : List Statement) (mode : Mode) (view : ScriptView) (rest : List Statement) → nests in_program list ≡ true → statements_of view ≡ list → ahead view ≡ rest → Fits list mode view → Stops list view (walk mode view rest)
walk_stops list mode view [] n at e f = record { script = refl; program = refl; opens = stopped_opens list mode view (last_of list view.passed) f; made = tt }
walk_stops list mode view (statement ∷ rest) n at e f =
    let gone = behind mode (passing view) statement in
    let k : Keeps (passing view) gone.1 = behind_keeps mode (passing view) statement in
    let here : slice_get (statements_of view) view.passed ≡ Some statement = get_ahead view.passed (statements_of view) statement rest e in
    let there : slice_get list view.passed ≡ Some statement = get_same (statements_of view) list view.passed (Some statement) at here in
    let fits : Fits list gone.0 gone.1 = behind_fits list mode view statement gone.1 n there refl k.passed f in
    let more : Opens list (passing view) = passed_opens list mode view statement n there f in
    let same : statements_of gone.1 ≡ list = statements_kept (passing view) gone.1 k.script k.program ∙ at in
    let left : ahead gone.1 ≡ rest = ahead_kept (passing view) gone.1 k ∙ drop_next view.passed (statements_of view) statement rest e in
    step_stops list mode view statement rest gone.1 (call_in mode (passing view) statement) (walk gone.0 gone.1 rest) refl here more k (walk_stops list gone.0 gone.1 rest n same left fits)
