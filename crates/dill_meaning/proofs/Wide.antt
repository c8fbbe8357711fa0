-- A view has 16 registers of each sort from its beginning on.
use Rattle.std.proofs.Common.{◌≡◌, ◌≤◌, ℕ, zero, suc, ◌+◌, ◌-◌, List, [], ◌∷◌, ◌++◌, length, replicate, slice_get, Bool, true, false, ◌&&◌, ◌==◌, nat_le, Option, Some, None, refl, ap, ◌∙◌, subst, arith, leb-true}
use Rattle.std.specs.List.{list_all}
use Rattle.std.proofs.lemmas.Bool.{eqb-true}
use Rattle.std.proofs.lemmas.List.{length-set, length-replicate, length-append}
use Rattle.dill_base.specs.declared.errno.Errno.{Errno}
use Rattle.dill_calls.specs.declared.answer.Answer.{Answer}
use Rattle.dill_calls.specs.declared.answer.Answer.TheVariants as answers
use Rattle.dill_calls.specs.declared.call.Call.{Call}
use Rattle.dill_script.specs.declared.operand.Dest.{Dest}
use Rattle.dill_script.specs.declared.operand.Dest.TheVariants as dests
use Rattle.dill_script.specs.declared.script.Program.{Program}
use Rattle.dill_script.specs.declared.statement.Statement.{Statement}
use Rattle.dill_script.specs.declared.statement.Statement.TheVariants as statements
use Rattle.dill_script.specs.Refusals.{is_some_with}
use Rattle.dill_script.specs.Spelling.{ReadsMains, takes_its}
use Rattle.dill_script.specs.Statements.{params_fit}
use Rattle.dill_meaning.specs.Effects.{sum_of, again, put, fault_in}
use Rattle.dill_meaning.specs.Meaning.{appended, kept, moved}
use Rattle.dill_meaning.specs.Putting.{IsWide, BeginsWide, StaysWide}
use Rattle.dill_meaning.specs.Values.{num_value, bytes_value}
use Rattle.dill_meaning.specs.Views.{ScriptView, Round, number_in, bytes_in, with_number, with_bytes, ahead, pending, beginning}
use Rattle.dill_meaning.specs.Walks.{Mode, Runs, Stop, walk, stopped, behind, call_in, passing, begin_loop, given, settled, looped, stop_of, join_fault}
use Rattle.dill_meaning.proofs.Lists.{all_at}

number_wide : (view : ScriptView) (place value : ℕ) → IsWide view → IsWide (with_number view place value)
number_wide view place value w = record { numbers = length-set view.numbers place value ∙ w.numbers; texts = w.texts }

bytes_wide : (view : ScriptView) (place : ℕ) (value : List ℕ) → IsWide view → IsWide (with_bytes view place value)
bytes_wide view place value w = record { numbers = w.numbers; texts = length-set view.texts place value ∙ w.texts }

-- behind a statement
loop_wide : (view : ScriptView) (rounds : ℕ) → IsWide view → IsWide (begin_loop view rounds).1
loop_wide view zero w = w
loop_wide view (suc rounds) w = record { numbers = w.numbers; texts = w.texts }

run_wide : (view : ScriptView) (statement : Statement) → IsWide view → IsWide (behind Runs view statement).1
run_wide view (statements.Set place value) w = number_wide view place (num_value view value) w
run_wide view (statements.Add place value) w = number_wide view place (sum_of (number_in view place) (num_value view value)) w
run_wide view (statements.Sub place value) w = number_wide view place (number_in view place - num_value view value) w
run_wide view (statements.Len place source) w = number_wide view place (length (bytes_in view source)) w
run_wide view (statements.Loop (Some rounds)) w = loop_wide view (num_value view rounds) w
run_wide view (statements.Loop None) w = record { numbers = w.numbers; texts = w.texts }
run_wide view _ w = record { numbers = w.numbers; texts = w.texts }

behind_wide : (mode : Mode) (view : ScriptView) (statement : Statement) → IsWide view → IsWide (behind mode view statement).1
behind_wide Runs view statement w = run_wide view statement w
behind_wide _ view statement w = w

passing_wide : (view : ScriptView) → IsWide view → IsWide (passing view)
passing_wide view w = record { numbers = w.numbers; texts = w.texts }

stopped_wide : (view : ScriptView) (statement : Statement) (made : Option Call) (further : Stop) → IsWide view → IsWide further.view → IsWide (stopped view statement made further).view
stopped_wide view statement None further w f = f
stopped_wide view statement (Some call) further w f = w

walk_wide : (mode : Mode) (view : ScriptView) (rest : List Statement) → IsWide view → IsWide (walk mode view rest).view
walk_wide mode view [] w = w
walk_wide mode view (statement ∷ rest) w =
    let gone = behind mode (passing view) statement in
    let p : IsWide (passing view) = passing_wide view w in
    stopped_wide (passing view) statement (call_in mode (passing view) statement) (walk gone.0 gone.1 rest) p (walk_wide gone.0 gone.1 rest (behind_wide mode (passing view) statement p))

-- behind an answer
pub put_wide : (view : ScriptView) (dest : Option Dest) (answer : Answer) → IsWide view → IsWide (put view dest answer)
put_wide view (Some (dests.Number place)) (answers.Number value) w = number_wide view place value w
put_wide view (Some (dests.Pair first second)) (answers.Pair a b) w = number_wide (with_number view first a) second b (number_wide view first a w)
put_wide view (Some (dests.Bytes place)) (answers.Bytes value) w = bytes_wide view place value w
put_wide view (Some (dests.Two first second)) (answers.Two a b) w = bytes_wide (with_bytes view first a) second b (bytes_wide view first a w)
put_wide view (Some (dests.Mixed first second)) (answers.Coded code value) w = bytes_wide (with_number view first code) second value (number_wide view first code w)
put_wide view (Some (dests.Mixed first second)) (answers.Chosen index fault (Some value)) w = bytes_wide (with_number view first index) second value (number_wide view first index w)
put_wide view (Some (dests.Mixed first second)) (answers.Chosen index fault None) w = number_wide view first index w
put_wide view _ _ w = w

settled_wide : (tried : Bool) (view : ScriptView) (fault : Option Errno) → IsWide view → IsWide (settled tried view fault).1
settled_wide true view fault w = record { numbers = w.numbers; texts = w.texts }
settled_wide false view None w = w
settled_wide false view (Some errno) w = record { numbers = w.numbers; texts = w.texts }

again_wide : (view : ScriptView) (rounds : List Round) → IsWide view → IsWide (again view rounds)
again_wide view [] w = w
again_wide view (round ∷ outer) w = record { numbers = w.numbers; texts = w.texts }

looped_wide : (view : ScriptView) (fault : Option Errno) → IsWide view → IsWide (looped view fault).1
looped_wide view None w = again_wide view view.rounds w
looped_wide view (Some errno) w = record { numbers = w.numbers; texts = w.texts }

given_wide : (view : ScriptView) (answer : Answer) (at : Option Statement) → IsWide view → IsWide (given view answer at).1
given_wide view answer (Some (statements.Call tried dest form)) w = settled_wide tried (put view dest answer) (fault_in answer) (put_wide view dest answer w)
given_wide view answer (Some (statements.Keep tried place value)) w = settled_wide tried view (fault_in answer) w
given_wide view answer (Some (statements.Join tried place value)) w = settled_wide tried view (fault_in answer) w
given_wide view answer (Some statements.EndLoop) w = looped_wide view (fault_in answer) w
given_wide view answer _ w = w

stop_wide : (view : ScriptView) (answer : Answer) → IsWide view → IsWide (stop_of view answer).view
stop_wide view answer w =
    let gone = given view answer (pending view) in
    walk_wide gone.0 gone.1 (ahead gone.1) (given_wide view answer (pending view) w)

-- what a statement keeps in a register
appended_wide : (view : ScriptView) (place : ℕ) (more : List ℕ) (fault : Option Errno) → IsWide view → IsWide (appended view place more fault)
appended_wide view place more None w = bytes_wide view place (bytes_in view place ++ more) w
appended_wide view place more (Some errno) w = w

kept_wide : (view : ScriptView) (statement : Statement) → IsWide view → IsWide (kept view statement)
kept_wide view (statements.Keep tried place value) w = bytes_wide view place (bytes_value view value) w
kept_wide view (statements.Join tried place value) w = appended_wide view place (bytes_value view value) (join_fault view place (bytes_value view value)) w
kept_wide view _ w = w

moved_wide : (view : ScriptView) (made : Option (Statement × Call)) → IsWide view → IsWide (moved view made).0
moved_wide view None w = w
moved_wide view (Some (statement, call)) w = kept_wide view statement w

pub stays_wide : StaysWide
stays_wide view answer w =
    let s : IsWide (stop_of view answer).view = stop_wide view answer w in
    (moved_wide (stop_of view answer).view (stop_of view answer).made s, s)

abbrev empty : List ℕ
empty = []

-- arguments in the first of 16 registers
begins : (script : List Program) (program : ℕ) (args : List ℕ) → length args ≤ 16 → IsWide (beginning script program args)
begins script program args e = record { numbers = filled (length args) (length (args ++ replicate (16 - length args) 0)) (length-append args (replicate (16 - length args) 0) ∙ ap (λ n. length args + n) (length-replicate (16 - length args) 0)) e; texts = length-replicate 16 empty }
  where
    filled : (n m : ℕ) → m ≡ n + (16 - n) → n ≤ 16 → m ≡ 16
    filled n m f g = omega arith

params_small : (a : Bool) (n m : ℕ) → (a && nat_le n 16) ≡ true → (n == m) ≡ true → m ≤ 16
params_small true n m e f = subst (λ x. x ≤ 16) (eqb-true n m f) (leb-true n 16 e)
params_small false n m e f = cc

known_small : (script : List Program) (program count : ℕ) (o : Option Program) → slice_get script program ≡ o → list_all takes_its script ≡ true → is_some_with (λ found. found.params == count) o ≡ true → count ≤ 16
known_small script program count None e a k = cc
known_small script program count (Some found) e a k = params_small (params_fit found.name found.params) found.params count (all_at takes_its script program found a e) k

pub begins_wide : ReadsMains → BeginsWide
begins_wide mains = record {
  main = λ script. begins script _ [] (omega arith);
  child = λ built text view program args e k. begins view.script program args (known_small view.script program (length args) (slice_get view.script program) refl (mains built text view.script e) k);
}
