-- The programs of scripts that can be run keep the law of programs, and make plain calls only.
use Rattle.std.proofs.Common.{◌≡◌, ℕ, List, true, Option, Some, None, refl, sym, ◌∙◌, subst}
use Rattle.std.proofs.lemmas.Bool.{and_from}
use Rattle.dill_base.specs.declared.errno.Errno.{Errno}
use Rattle.dill_calls.specs.CallTable.{word_of}
use Rattle.dill_calls.specs.declared.answer.Answer.{Answer}
use Rattle.dill_calls.specs.declared.call.Call.{Call}
use Rattle.dill_calls.specs.declared.word.Word.{Word}
use Rattle.dill_plain.specs.Plain.{MovesPlain, MakesPlain}
use Rattle.dill_calls.specs.Program.{GoesOn, Moves, Begins, IsLawful}
use Rattle.dill_script.specs.declared.script.Program.{Program}
use Rattle.dill_script.specs.declared.statement.Statement.{Statement}
use Rattle.dill_script.specs.declared.statement.Statement.TheVariants as statements
use Rattle.dill_script.specs.Fitting.{all_say}
use Rattle.dill_script.specs.Nesting.{nests, in_program}
use Rattle.dill_meaning.specs.Meaning.{scripts, kept, appended, moved, short, is_real}
use Rattle.dill_meaning.specs.Values.{bytes_value}
use Rattle.dill_meaning.specs.Views.{ScriptView, statements_of, ahead, pending}
use Rattle.dill_meaning.specs.Walks.{stop_of, given, join_fault}
use Rattle.dill_meaning.proofs.Given.{GoesFrom, given_goes}
use Rattle.dill_meaning.proofs.Lawful.{scripts_lawful}
use Rattle.dill_meaning.proofs.Walking.{statements_kept}
use Rattle.relay_body.specs.Running.{says_plain, is_runnable, opens_in, has_open, is_running, running}
use Rattle.relay_body.specs.Answered.{Opens, given_fits}
use Rattle.relay_body.specs.Bools.{and_left, and_right}
use Rattle.relay_body.specs.Opened.{nested_in}
use Rattle.relay_body.specs.Plainly.{says_makes}
use Rattle.relay_body.specs.Runnable.{Runnable, runs, pending_says}
use Rattle.relay_body.specs.Walked.{Stops, MadeThere, walk_stops}

-- where a turn stops
pub turn_stops : (view : ScriptView) (answer : Answer) → nests in_program (statements_of view) ≡ true → has_open view ≡ true → Stops (statements_of view) view (stop_of view answer)
turn_stops view answer n o =
    let gone = given view answer (pending view) in
    let g : GoesFrom view answer (pending view) gone.1 = given_goes view answer (pending view) in
    let s : Stops (statements_of view) gone.1 (stop_of view answer) = walk_stops (statements_of view) gone.0 gone.1 (ahead gone.1) n (statements_kept view gone.1 g.script g.program) refl (given_fits (statements_of view) view answer o) in
    record { script = s.script ∙ g.script; program = s.program ∙ g.program; opens = s.opens; made = s.made }

open_of : (list : List Statement) (new : ScriptView) → statements_of new ≡ list → Opens list new → has_open new ≡ true
open_of list new e o = subst (λ xs. opens_in xs new ≡ true) (sym e) o

runnable_same : (s t : List Program) → s ≡ t → is_runnable t ≡ true → is_runnable s ≡ true
runnable_same s t e r = rw e r

-- a view of the same program with open loops can be run as well
pub running_on : (old new : ScriptView) → is_running old ≡ true → new.script ≡ old.script → new.program ≡ old.program → Opens (statements_of old) new → is_running new ≡ true
running_on old new r s p o =
    and_from (is_runnable new.script) (has_open new) (runnable_same new.script old.script s (and_left (is_runnable old.script) (has_open old) r)) (open_of (statements_of old) new (statements_kept old new s p) o)

appended_running : (view : ScriptView) (place : ℕ) (more : List ℕ) (fault : Option Errno) → is_running view ≡ true → is_running (appended view place more fault) ≡ true
appended_running view place more None r = r
appended_running view place more (Some errno) r = r

-- bytes that are kept in a register change nothing else
pub kept_running : (view : ScriptView) (statement : Statement) → is_running view ≡ true → is_running (kept view statement) ≡ true
kept_running view (statements.Keep tried place value) r = r
kept_running view (statements.Join tried place value) r = appended_running view place (bytes_value view value) (join_fault view place (bytes_value view value)) r
kept_running view _ r = r

goes_on : (old : ScriptView) (answer : Answer) (word : Word) (new : ScriptView) → GoesOn scripts old answer word new → is_running new ≡ true → GoesOn running old answer word new
goes_on old answer word new g r = record { real = r; some = g.some; within = g.within; stays = g.stays; said = g.said; lower = g.lower }

moves_on : (old : ScriptView) (answer : Answer) (new : ScriptView) (made : Option (Statement × Call)) → short old answer ≡ new → is_running new ≡ true → Moves scripts old answer (moved new made) → Moves running old answer (moved new made)
moves_on old answer new None e r m = r
moves_on old answer new (Some (statement, call)) e r m = (m.0, goes_on old answer (word_of call) (kept new statement) m.1 (kept_running new statement r), goes_on old answer (word_of call) (short old answer) m.2 (subst (λ v. is_running v ≡ true) (sym e) r))

stop_running : (view : ScriptView) (answer : Answer) → is_running view ≡ true → is_running (stop_of view answer).view ≡ true
stop_running view answer r =
    let s : Stops (statements_of view) view (stop_of view answer) = turn_stops view answer (nested_in view.script view.program (runs view r).nested) (and_right (is_runnable view.script) (has_open view) r) in
    running_on view (stop_of view answer).view r s.script s.program s.opens

real_of : (view : ScriptView) → is_running view ≡ true → is_real view ≡ true
real_of view r = let p : Runnable view.script = runs view r in p.sized

-- a coroutine of such a program begins with no loop open
begins : (view : ScriptView) (program : ℕ) (args : List ℕ) → is_running view ≡ true → Begins scripts (scripts.child view program args) → Begins running (running.child view program args)
begins view program args r b = record { real = and_from (is_runnable view.script) true (and_left (is_runnable view.script) (has_open view) r) refl; start = b.start; some = b.some; whole = b.whole }

-- they keep the law of programs
pub running_lawful : IsLawful running
running_lawful = record {
  small = λ view r. scripts_lawful.small view (real_of view r);
  within = λ view r some. scripts_lawful.within view (real_of view r) some;
  moves = λ view answer r some. moves_on view answer (stop_of view answer).view (stop_of view answer).made refl (stop_running view answer r) (scripts_lawful.moves view answer (real_of view r) some);
  child = λ view program args r k. begins view program args r (scripts_lawful.child view program args (real_of view r) k);
}

says_same : (view new : ScriptView) → new.script ≡ view.script → all_say says_plain view.script ≡ true → all_say says_plain new.script ≡ true
says_same view new e a = rw e a

move_plain : (view new : ScriptView) (made : Option (Statement × Call)) → all_say says_plain new.script ≡ true → MadeThere new made → MovesPlain (moved new made)
move_plain view new None a m = tt
move_plain view new (Some (statement, call)) a m = says_makes new statement call (pending_says says_plain new statement a m.0) m.1

-- and make plain calls alone
pub running_plain : MakesPlain running
running_plain view answer r some =
    let s : Stops (statements_of view) view (stop_of view answer) = turn_stops view answer (nested_in view.script view.program (runs view r).nested) (and_right (is_runnable view.script) (has_open view) r) in
    let p : Runnable view.script = runs view r in
    move_plain view (stop_of view answer).view (stop_of view answer).made (says_same view (stop_of view answer).view s.script p.plain) s.made
