-- Where a walk leads: to a statement that makes a call, over fewer places than were ahead.
use Rattle.std.proofs.Common.{◌≡◌, ◌≤◌, ℕ, zero, suc, List, [], ◌∷◌, drop, slice_get, Option, Some, None, Bool, true, false, refl, ap, ◌∙◌, arith, cond, if◌then◌else◌, inl, inr}
use Rattle.std.proofs.Math.Nat.{le_trans}
use Rattle.dill_calls.specs.declared.call.Call.{Call}
use Rattle.dill_calls.specs.declared.call.Call.TheVariants.{Yield}
use Rattle.dill_script.specs.declared.operand.Dest.{Dest}
use Rattle.dill_script.specs.declared.form.Form.{Form}
use Rattle.dill_script.specs.declared.script.Program.{Program}
use Rattle.dill_calls.specs.CallTable.{word_of}
use Rattle.dill_calls.specs.Program.{PassesWell}
use Rattle.dill_script.specs.Contexts.{is_place, places}
use Rattle.dill_script.specs.declared.statement.Statement.{Statement}
use Rattle.dill_script.specs.declared.statement.Statement.TheVariants as statements
use Rattle.dill_meaning.specs.Calls.{call_of}
use Rattle.dill_meaning.specs.Effects.{has_round}
use Rattle.dill_meaning.specs.Meaning.{word_at}
use Rattle.dill_meaning.specs.Values.{num_value, values_of}
use Rattle.dill_meaning.specs.Views.{ScriptView, statements_in, statements_of, ahead, pending}
use Rattle.dill_meaning.specs.Walks.{Mode, Runs, Stop, walk, stopped, behind, call_in, call_at, passing, begin_loop}
use Rattle.dill_meaning.proofs.Lists.{drop_next, get_ahead, count_one, count_more}
use Rattle.dill_meaning.proofs.Table.{Fits, call_fits}

-- the same program at the same place
pub record Keeps (old new : ScriptView) : Type 0 where
  pub script : new.script ≡ old.script
  pub program : new.program ≡ old.program
  pub passed : new.passed ≡ old.passed

abbrev same : (view : ScriptView) → Keeps view view
same view = record { script = refl; program = refl; passed = refl }

loop_keeps : (view : ScriptView) (rounds : ℕ) → Keeps view (begin_loop view rounds).1
loop_keeps view zero = record { script = refl; program = refl; passed = refl }
loop_keeps view (suc rounds) = record { script = refl; program = refl; passed = refl }

run_keeps : (view : ScriptView) (statement : Statement) → Keeps view (behind Runs view statement).1
run_keeps view (statements.Set place value) = record { script = refl; program = refl; passed = refl }
run_keeps view (statements.Add place value) = record { script = refl; program = refl; passed = refl }
run_keeps view (statements.Sub place value) = record { script = refl; program = refl; passed = refl }
run_keeps view (statements.Len place source) = record { script = refl; program = refl; passed = refl }
run_keeps view (statements.If cond) = record { script = refl; program = refl; passed = refl }
run_keeps view statements.Else = record { script = refl; program = refl; passed = refl }
run_keeps view (statements.Loop None) = record { script = refl; program = refl; passed = refl }
run_keeps view (statements.Loop (Some rounds)) = loop_keeps view (num_value view rounds)
run_keeps view statements.EndLoop = record { script = refl; program = refl; passed = refl }
run_keeps view statements.Break = record { script = refl; program = refl; passed = refl }
run_keeps view statements.Return = record { script = refl; program = refl; passed = refl }
run_keeps view (statements.Fail errno) = record { script = refl; program = refl; passed = refl }
run_keeps view _ = record { script = refl; program = refl; passed = refl }

pub behind_keeps : (mode : Mode) (view : ScriptView) (statement : Statement) → Keeps view (behind mode view statement).1
behind_keeps Runs view statement = run_keeps view statement
behind_keeps _ view statement = record { script = refl; program = refl; passed = refl }

-- a statement with the call that it makes
pub record Makes (statement : Statement) (call : Call) : Type 0 where
  pub place : is_place statement ≡ true
  pub word : word_of call ≡ word_at (Some statement)
  pub well : PassesWell call

-- what is made, if anything is
abbrev pub MakesWell : Statement → Option Call → Type 0
MakesWell statement None = Unit {0}
MakesWell statement (Some call) = Makes statement call

form_makes : (tried : Bool) (dest : Option Dest) (form : Form) (made : Option Call) → Fits form.word made → MakesWell (statements.Call tried dest form) made
form_makes tried dest form None fits = tt
form_makes tried dest form (Some call) fits = record { place = refl; word = fits.0; well = fits.1 }

end_makes : (left : Bool) → MakesWell statements.EndLoop (if left then Some Yield else None)
end_makes true = record { place = refl; word = refl; well = tt }
end_makes false = tt

run_makes : (view : ScriptView) (statement : Statement) → MakesWell statement (call_at view statement)
run_makes view (statements.Keep tried place value) = record { place = refl; word = refl; well = inl refl }
run_makes view (statements.Join tried place value) = record { place = refl; word = refl; well = inr refl }
run_makes view (statements.Call tried dest form) = form_makes tried dest form (call_of form.word (values_of view form.operands)) (call_fits form.word (values_of view form.operands))
run_makes view statements.EndLoop = end_makes (has_round view.rounds)
run_makes view _ = tt

pub makes : (mode : Mode) (view : ScriptView) (statement : Statement) → MakesWell statement (call_in mode view statement)
makes Runs view statement = run_makes view statement
makes _ view statement = tt

-- what a walk stops at: a place that it makes its call at, and fewer places ahead
pub record Reaches (ahead_before : ℕ) (view : ScriptView) (statement : Statement) (call : Call) : Type 0 where
  pub here : pending view ≡ Some statement
  pub fits : Makes statement call
  pub fewer : suc (places (ahead view)) ≤ ahead_before

abbrev pub Stands : ℕ → ScriptView → Option (Statement × Call) → Type 0
Stands ahead_before view None = Unit {0}
Stands ahead_before view (Some (statement, call)) = Reaches ahead_before view statement call

-- a walk in its program
pub record Walked (view : ScriptView) (rest : List Statement) (stop : Stop) : Type 0 where
  pub script : stop.view.script ≡ view.script
  pub program : stop.view.program ≡ view.program
  pub stands : Stands (places rest) stop.view stop.made

more_ahead : (n m : ℕ) (view : ScriptView) (made : Option (Statement × Call)) → n ≤ m → Stands n view made → Stands m view made
more_ahead n m view None le s = tt
more_ahead n m view (Some (statement, call)) le s = record { here = s.here; fits = s.fits; fewer = le_trans s.fewer le }

statements_same : (s t : List Program) (p q : ℕ) → s ≡ t → p ≡ q → statements_in (slice_get s p) ≡ statements_in (slice_get t q)
statements_same s t p q e f = cc

ahead_same : (xs ys : List Statement) (n m : ℕ) → xs ≡ ys → n ≡ m → drop n xs ≡ drop m ys
ahead_same xs ys n m e f = cc

-- the statements of a view that keeps the program
pub statements_kept : (old new : ScriptView) → new.script ≡ old.script → new.program ≡ old.program → statements_of new ≡ statements_of old
statements_kept old new s p = statements_same new.script old.script new.program old.program s p

pub ahead_kept : (old new : ScriptView) → Keeps old new → ahead new ≡ ahead old
ahead_kept old new k = ahead_same (statements_of new) (statements_of old) new.passed old.passed (statements_kept old new k.script k.program) k.passed

le_of_same : (a b c : ℕ) → a ≡ b → c ≡ suc b → suc a ≤ c
le_of_same a b c e f = omega arith

-- the stop at a statement, or the stop further on
step_walked : (view : ScriptView) (statement : Statement) (rest : List Statement) (after : ScriptView) (made : Option Call) (further : Stop) → ahead view ≡ statement ∷ rest → Keeps (passing view) after → MakesWell statement made → Walked after rest further → Walked view (statement ∷ rest) (stopped (passing view) statement made further)
step_walked view statement rest after None further e k m w = record {
  script = w.script ∙ k.script;
  program = w.program ∙ k.program;
  stands = more_ahead (places rest) (places (statement ∷ rest)) further.view further.made (count_more is_place statement rest) w.stands;
}
step_walked view statement rest after (Some call) further e k m w = record {
  script = refl;
  program = refl;
  stands = record {
    here = get_ahead view.passed (statements_of view) statement rest e;
    fits = m;
    fewer = le_of_same (places (ahead (passing view))) (places rest) (places (statement ∷ rest)) (ap places (drop_next view.passed (statements_of view) statement rest e)) (count_one is_place statement rest m.place);
  };
}

-- where a walk over what is ahead of a view leads
pub walk_walked : (mode : Mode) (view : ScriptView) (rest : List Statement) → ahead view ≡ rest → Walked view rest (walk mode view rest)
walk_walked mode view [] e = record { script = refl; program = refl; stands = tt }
walk_walked mode view (statement ∷ rest) e =
    let gone = behind mode (passing view) statement in
    let k : Keeps (passing view) gone.1 = behind_keeps mode (passing view) statement in
    let f : ahead gone.1 ≡ rest = ahead_kept (passing view) gone.1 k ∙ drop_next view.passed (statements_of view) statement rest e in
    step_walked view statement rest gone.1 (call_in mode (passing view) statement) (walk gone.0 gone.1 rest) e k (makes mode (passing view) statement) (walk_walked gone.0 gone.1 rest f)
