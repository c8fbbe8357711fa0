-- What `join` makes once its bytes are copied.
use Rattle.std.proofs.Common.{◌≡◌, ◌++◌, inl, inr, ℕ, List, Bool, Some, None, Result, Ok, Err, IfOk, refl, sym, ap, ◌∙◌, subst}
use Rattle.dill_base.specs.declared.errno.NoMemory.{NoMemory}
use Rattle.dill_calls.specs.declared.body.Next.{Next}
use Rattle.dill_calls.specs.declared.body.Next.TheVariants as nexts
use Rattle.dill_calls.specs.declared.call.Call.TheVariants.{Pass}
use Rattle.dill_calls.specs.declared.word.Word.TheVariants.{Join}
use Rattle.dill_calls.specs.Program.{Calls, moved_word}
use Rattle.dill_script.specs.declared.operand.Bytes.{Bytes}
use Rattle.dill_script.specs.declared.statement.Statement.TheVariants as statements
use Rattle.dill_meaning.specs.Meaning.{moved, appended}
use Rattle.dill_meaning.specs.Values.{bytes_value}
use Rattle.dill_meaning.specs.Views.{ScriptView, pending, bytes_in, with_bytes}
use Rattle.dill_meaning.specs.Walks.{join_fault}
use Rattle.relay_body.specs.declared.held.Held.{Held}
use Rattle.relay_body.specs.Seen.{seen}
use Rattle.relay_body.specs.Stopping.{made_by, MakesOne, Joins}

-- the bytes stand behind those of the register
joined : (view : ScriptView) (tried : Bool) (place : ℕ) (bytes : Bytes) → pending view ≡ Some (statements.Join tried place bytes) → join_fault view place (bytes_value view bytes) ≡ None → moved view (made_by view (pending view)) ≡ (with_bytes view place (bytes_in view place ++ bytes_value view bytes), Calls (Pass Join None))
joined view tried place bytes e f = ap (λ p. moved view (made_by view p)) e ∙ ap (λ fault. (appended view place (bytes_value view bytes) fault, Calls (Pass Join fault))) f

said : (view : ScriptView) (tried : Bool) (place : ℕ) (bytes : Bytes) → pending view ≡ Some (statements.Join tried place bytes) → moved_word (moved view (made_by view (pending view))).1 ≡ Some Join
said view tried place bytes e = ap (λ p. moved_word (moved view (made_by view p)).1) e

lacks : (old new : Held) (tried : Bool) (place : ℕ) (bytes : Bytes) (next : Next) → pending (seen old) ≡ Some (statements.Join tried place bytes) → next ≡ nexts.Lack Join → new ≡ old → MakesOne old new next
lacks old new tried place bytes next e n s = subst (λ x. MakesOne old new x) (sym n) (refl, said (seen old) tried place bytes e, s)

-- so that call is made, or there was no memory for it
pub join_makes : (old new : Held) (tried : Bool) (place : ℕ) (bytes : Bytes) (copy : Result (List ℕ) NoMemory) (next : Next) → pending (seen old) ≡ Some (statements.Join tried place bytes) → join_fault (seen old) place (bytes_value (seen old) bytes) ≡ None → IfOk copy (λ value. value ≡ bytes_value (seen old) bytes) → Joins old new place copy next → MakesOne old new next
join_makes old new tried place bytes (Ok more) next e f c (inl (n, v)) =
    let after : moved (seen old) (made_by (seen old) (pending (seen old))) ≡ (seen new, Calls (Pass Join None)) = joined (seen old) tried place bytes e f ∙ ap (λ m. (with_bytes (seen old) place (bytes_in (seen old) place ++ m), Calls (Pass Join None))) (sym c) ∙ ap (λ w. (w, Calls (Pass Join None))) (sym v) in
    subst (λ x. MakesOne old new x) (sym n) after
join_makes old new tried place bytes (Ok more) next e f c (inr (n, s)) = lacks old new tried place bytes next e n s
join_makes old new tried place bytes (Err lack) next e f c (n, s) = lacks old new tried place bytes next e n s
