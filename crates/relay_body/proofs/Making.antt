-- The call of a statement that was passed last.
use Rattle.std.proofs.Common.{◌≡◌, Bool, true, Option, Some, None, is_some, refl, sym, ap, ◌∙◌}
use Rattle.dill_calls.specs.declared.call.Call.{Call}
use Rattle.dill_calls.specs.Program.{Calls}
use Rattle.dill_script.specs.declared.form.Form.{Form}
use Rattle.dill_script.specs.declared.operand.Dest.{Dest}
use Rattle.dill_script.specs.declared.statement.Statement.{Statement}
use Rattle.dill_script.specs.declared.statement.Statement.TheVariants as statements
use Rattle.dill_script.specs.Fitting.{is_form, may_hold, is_formed}
use Rattle.dill_meaning.specs.Calls.{call_of}
use Rattle.dill_meaning.specs.Making.{MakesItsOwn}
use Rattle.dill_meaning.specs.Meaning.{moved}
use Rattle.dill_meaning.specs.Values.{values_of}
use Rattle.dill_meaning.specs.Views.{ScriptView, pending}
use Rattle.dill_meaning.proofs.Making.{each_form_makes}
use Rattle.relay_body.specs.Running.{is_running}
use Rattle.relay_body.specs.Stopping.{with_call, made_by}
use Rattle.relay_body.specs.Bools.{and_left}
use Rattle.relay_body.specs.Runnable.{Runnable, runs, pending_says}

-- the operands of a call that is written fit its word
pub form_fits : (view : ScriptView) (tried : Bool) (dest : Option Dest) (form : Form) → is_running view ≡ true → pending view ≡ Some (statements.Call tried dest form) → is_form form ≡ true
form_fits view tried dest form r e =
    let p : Runnable view.script = runs view r in
    and_left (is_form form) (may_hold form.word dest) (pending_says is_formed view (statements.Call tried dest form) p.formed e)

found_own : (view : ScriptView) (form : Form) (statement : Statement) (found : Option Call) → MakesItsOwn view form found → true ≡ is_some (with_call statement found)
found_own view form statement None m = absurd m
found_own view form statement (Some call) m = refl

-- so it makes some call
pub form_calls : (view : ScriptView) (tried : Bool) (dest : Option Dest) (form : Form) → is_running view ≡ true → pending view ≡ Some (statements.Call tried dest form) → true ≡ is_some (made_by view (pending view))
form_calls view tried dest form r e =
    found_own view form (statements.Call tried dest form) (call_of form.word (values_of view form.operands)) (each_form_makes view form (form_fits view tried dest form r e)) ∙ ap (λ p. is_some (made_by view p)) (sym e)

-- which is its move, and changes nothing else
pub form_moves : (view : ScriptView) (tried : Bool) (dest : Option Dest) (form : Form) (call : Call) → pending view ≡ Some (statements.Call tried dest form) → call_of form.word (values_of view form.operands) ≡ Some call → moved view (made_by view (pending view)) ≡ (view, Calls call)
form_moves view tried dest form call e c = ap (λ p. moved view (made_by view p)) e ∙ ap (λ found. moved view (with_call (statements.Call tried dest form) found)) c
