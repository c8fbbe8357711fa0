-- The loops that are entered fit over an answer.
use Rattle.std.proofs.Common.{◌≡◌, ◌≤◌, ℕ, suc, List, [], ◌∷◌, length, Bool, true, false, ◌&&◌, nat_le, Option, Some, None, refl, sym, subst, arith}
use Rattle.std.proofs.lemmas.Bool.{and_parts}
use Rattle.dill_base.specs.declared.errno.Errno.{Errno}
use Rattle.dill_calls.specs.declared.answer.Answer.{Answer}
use Rattle.dill_calls.specs.declared.answer.Answer.TheVariants as answers
use Rattle.dill_script.specs.declared.operand.Dest.{Dest}
use Rattle.dill_script.specs.declared.operand.Dest.TheVariants as dests
use Rattle.dill_script.specs.declared.statement.Statement.{Statement}
use Rattle.dill_script.specs.declared.statement.Statement.TheVariants as statements
use Rattle.dill_meaning.specs.Effects.{put, again, fault_in}
use Rattle.dill_meaning.specs.Views.{ScriptView, Round, last_of}
use Rattle.dill_meaning.specs.Walks.{Runs, given, settled, looped}
use Rattle.relay_body.specs.Bools.{le_of}
use Rattle.relay_body.specs.Depths.{Fits}
use Rattle.relay_body.specs.Running.{loops_open, blocks_at, are_open, with_ended, opens_in}

-- a view with open loops, by the statements of its program
abbrev pub Opens : List Statement → ScriptView → Type 0
Opens list view = opens_in list view ≡ true

put_fits : (list : List Statement) (view : ScriptView) (dest : Option Dest) (answer : Answer) → Fits list Runs view → Fits list Runs (put view dest answer)
put_fits list view (Some (dests.Number place)) (answers.Number value) f = record { opens = f.opens; few = f.few }
put_fits list view (Some (dests.Pair first second)) (answers.Pair a b) f = record { opens = f.opens; few = f.few }
put_fits list view (Some (dests.Bytes place)) (answers.Bytes value) f = record { opens = f.opens; few = f.few }
put_fits list view (Some (dests.Two first second)) (answers.Two a b) f = record { opens = f.opens; few = f.few }
put_fits list view (Some (dests.Mixed first second)) (answers.Coded code value) f = record { opens = f.opens; few = f.few }
put_fits list view (Some (dests.Mixed first second)) (answers.Chosen index fault (Some value)) f = record { opens = f.opens; few = f.few }
put_fits list view (Some (dests.Mixed first second)) (answers.Chosen index fault None) f = record { opens = f.opens; few = f.few }
put_fits list view _ _ f = f

settled_fits : (list : List Statement) (tried : Bool) (view : ScriptView) (fault : Option Errno) → Fits list Runs view → Fits list (settled tried view fault).0 (settled tried view fault).1
settled_fits list true view fault f = record { opens = f.opens; few = f.few }
settled_fits list false view None f = f
settled_fits list false view (Some errno) f = record { opens = refl; few = omega arith }

again_fits : (list : List Statement) (view : ScriptView) (rounds : List Round) → view.rounds ≡ rounds → are_open list rounds ≡ true → Fits list Runs (again view rounds)
again_fits list view [] e o = record { opens = subst (λ r. are_open list r ≡ true) (sym e) refl; few = subst (λ r. length r ≤ loops_open (blocks_at list view.passed)) (sym e) (omega arith) }
again_fits list view (round ∷ outer) e o =
    let p = and_parts (nat_le (suc (length outer)) (loops_open (blocks_at list round.first))) (are_open list outer) o in
    let fits : suc (length outer) ≤ loops_open (blocks_at list round.first) = le_of (suc (length outer)) (loops_open (blocks_at list round.first)) p.0 in
    record { opens = o; few = omega arith }

looped_fits : (list : List Statement) (view : ScriptView) (fault : Option Errno) → are_open list view.rounds ≡ true → Fits list (looped view fault).0 (looped view fault).1
looped_fits list view None o = again_fits list view view.rounds refl o
looped_fits list view (Some errno) o = record { opens = refl; few = omega arith }

-- no more are entered than are open where the statement ended no loop
here_fits : (list : List Statement) (view : ScriptView) (n : ℕ) → (are_open list view.rounds && nat_le (length view.rounds) n) ≡ true → n ≡ loops_open (blocks_at list view.passed) → Fits list Runs view
here_fits list view n o e =
    let p = and_parts (are_open list view.rounds) (nat_le (length view.rounds) n) o in
    record { opens = p.0; few = subst (λ m. length view.rounds ≤ m) e (le_of (length view.rounds) n p.1) }

at_fits : (list : List Statement) (view : ScriptView) (answer : Answer) (at : Option Statement) → (are_open list view.rounds && nat_le (length view.rounds) (with_ended at (loops_open (blocks_at list view.passed)))) ≡ true → Fits list (given view answer at).0 (given view answer at).1
at_fits list view answer (Some (statements.Call tried dest form)) o = settled_fits list tried (put view dest answer) (fault_in answer) (put_fits list view dest answer (here_fits list view (loops_open (blocks_at list view.passed)) o refl))
at_fits list view answer (Some (statements.Keep tried place value)) o = settled_fits list tried view (fault_in answer) (here_fits list view (loops_open (blocks_at list view.passed)) o refl)
at_fits list view answer (Some (statements.Join tried place value)) o = settled_fits list tried view (fault_in answer) (here_fits list view (loops_open (blocks_at list view.passed)) o refl)
at_fits list view answer (Some statements.EndLoop) o = looped_fits list view (fault_in answer) (and_parts (are_open list view.rounds) (nat_le (length view.rounds) (suc (loops_open (blocks_at list view.passed)))) o).0
at_fits list view answer _ o = here_fits list view (loops_open (blocks_at list view.passed)) o refl

-- so it is where a coroutine goes on
pub given_fits : (list : List Statement) (view : ScriptView) (answer : Answer) → Opens list view → Fits list (given view answer (last_of list view.passed)).0 (given view answer (last_of list view.passed)).1
given_fits list view answer o = at_fits list view answer (last_of list view.passed) o
