-- An answer leaves a coroutine at its place, but for the `end` of a loop, which leads back where it was answered without a fault.
use Rattle.std.proofs.Common.{◌≡◌, ◌⊎◌, inl, inr, List, [], ◌∷◌, Option, Some, None, Bool, true, false, refl, ◌∙◌}
use Rattle.dill_base.specs.declared.errno.Errno.{Errno}
use Rattle.dill_calls.specs.declared.answer.Answer.{Answer}
use Rattle.dill_calls.specs.declared.answer.Answer.TheVariants as answers
use Rattle.dill_calls.specs.declared.word.Word.TheVariants.{Yield}
use Rattle.dill_script.specs.declared.operand.Dest.{Dest}
use Rattle.dill_script.specs.declared.operand.Dest.TheVariants as dests
use Rattle.dill_script.specs.declared.statement.Statement.{Statement}
use Rattle.dill_script.specs.declared.statement.Statement.TheVariants as statements
use Rattle.dill_meaning.specs.Effects.{put, again, fault_in}
use Rattle.dill_meaning.specs.Meaning.{word_at}
use Rattle.dill_meaning.specs.Views.{ScriptView, Round}
use Rattle.dill_meaning.specs.Walks.{given, settled, looped}
use Rattle.dill_meaning.proofs.Walking.{Keeps}

pub put_keeps : (view : ScriptView) (dest : Option Dest) (answer : Answer) → Keeps view (put view dest answer)
put_keeps view (Some (dests.Number place)) (answers.Number value) = record { script = refl; program = refl; passed = refl }
put_keeps view (Some (dests.Pair first second)) (answers.Pair a b) = record { script = refl; program = refl; passed = refl }
put_keeps view (Some (dests.Bytes place)) (answers.Bytes value) = record { script = refl; program = refl; passed = refl }
put_keeps view (Some (dests.Two first second)) (answers.Two a b) = record { script = refl; program = refl; passed = refl }
put_keeps view (Some (dests.Mixed first second)) (answers.Coded code value) = record { script = refl; program = refl; passed = refl }
put_keeps view (Some (dests.Mixed first second)) (answers.Chosen index fault (Some value)) = record { script = refl; program = refl; passed = refl }
put_keeps view (Some (dests.Mixed first second)) (answers.Chosen index fault None) = record { script = refl; program = refl; passed = refl }
put_keeps view _ _ = record { script = refl; program = refl; passed = refl }

settled_keeps : (tried : Bool) (view : ScriptView) (fault : Option Errno) → Keeps view (settled tried view fault).1
settled_keeps true view fault = record { script = refl; program = refl; passed = refl }
settled_keeps false view None = record { script = refl; program = refl; passed = refl }
settled_keeps false view (Some errno) = record { script = refl; program = refl; passed = refl }

-- where a coroutine goes on
pub record GoesFrom (view : ScriptView) (answer : Answer) (at : Option Statement) (new : ScriptView) : Type 0 where
  pub script : new.script ≡ view.script
  pub program : new.program ≡ view.program
  pub passed : (new.passed ≡ view.passed) ⊎ ((word_at at ≡ Yield) × (fault_in answer ≡ None))

stays : (view : ScriptView) (answer : Answer) (at : Option Statement) (new : ScriptView) → Keeps view new → GoesFrom view answer at new
stays view answer at new k = record { script = k.script; program = k.program; passed = inl k.passed }

again_goes : (view : ScriptView) (answer : Answer) (rounds : List Round) → fault_in answer ≡ None → GoesFrom view answer (Some statements.EndLoop) (again view rounds)
again_goes view answer [] e = record { script = refl; program = refl; passed = inl refl }
again_goes view answer (round ∷ outer) e = record { script = refl; program = refl; passed = inr (refl, e) }

looped_goes : (view : ScriptView) (answer : Answer) (fault : Option Errno) → fault_in answer ≡ fault → GoesFrom view answer (Some statements.EndLoop) (looped view fault).1
looped_goes view answer None e = again_goes view answer view.rounds e
looped_goes view answer (Some errno) e = record { script = refl; program = refl; passed = inl refl }

form_goes : (tried : Bool) (view after : ScriptView) (answer : Answer) (at : Option Statement) → Keeps view after → GoesFrom view answer at (settled tried after (fault_in answer)).1
form_goes tried view after answer at k =
    let s : Keeps after (settled tried after (fault_in answer)).1 = settled_keeps tried after (fault_in answer) in
    record { script = s.script ∙ k.script; program = s.program ∙ k.program; passed = inl (s.passed ∙ k.passed) }

same : (view : ScriptView) → Keeps view view
same view = record { script = refl; program = refl; passed = refl }

pub given_goes : (view : ScriptView) (answer : Answer) (at : Option Statement) → GoesFrom view answer at (given view answer at).1
given_goes view answer (Some (statements.Call tried dest form)) = form_goes tried view (put view dest answer) answer (Some (statements.Call tried dest form)) (put_keeps view dest answer)
given_goes view answer (Some (statements.Keep tried place value)) = form_goes tried view view answer (Some (statements.Keep tried place value)) (same view)
given_goes view answer (Some (statements.Join tried place value)) = form_goes tried view view answer (Some (statements.Join tried place value)) (same view)
given_goes view answer (Some statements.EndLoop) = looped_goes view answer (fault_in answer) refl
given_goes view answer _ = record { script = refl; program = refl; passed = inl refl }
