-- A statement of a plain word makes a plain call.
use Rattle.std.proofs.Common.{◌≡◌, Bool, true, false, Option, Some, None, refl, subst, sym, if◌then◌else◌}
use Rattle.dill_calls.specs.CallTable.{word_of}
use Rattle.dill_calls.specs.declared.call.Call.{Call}
use Rattle.dill_calls.specs.declared.call.Call.TheVariants as calls
use Rattle.dill_calls.specs.declared.word.Word.{Word}
use Rattle.dill_calls.specs.declared.word.Word.TheVariants as words
use Rattle.dill_plain.specs.Plain.{is_plain}
use Rattle.dill_script.specs.declared.statement.Statement.{Statement}
use Rattle.dill_script.specs.declared.statement.Statement.TheVariants as statements
use Rattle.dill_meaning.specs.Calls.{call_of}
use Rattle.dill_meaning.specs.Effects.{has_round}
use Rattle.dill_meaning.specs.Values.{bytes_value, values_of}
use Rattle.dill_meaning.specs.Views.{ScriptView}
use Rattle.dill_meaning.specs.Walks.{call_at, join_fault}
use Rattle.dill_meaning.proofs.Table.{Fits, call_fits}
use Rattle.dill_calls.specs.CallTable.{is_built}
use Rattle.relay_body.specs.Running.{says_plain}

form_plain : (word : Word) (found : Option Call) (call : Call) → is_built word ≡ true → Fits word found → found ≡ Some call → is_plain call ≡ true
form_plain word None call p f e = cc
form_plain word (Some made) call p f e =
    let same : made ≡ call = cc in
    let w : is_built (word_of made) ≡ true = subst (λ w. is_built w ≡ true) (sym f.0) p in
    subst (λ c. is_plain c ≡ true) same w

plain_some : (made call : Call) → Some made ≡ Some call → is_plain made ≡ true → is_plain call ≡ true
plain_some made call e p = let same : made ≡ call = cc in subst (λ c. is_plain c ≡ true) same p

end_plain : (left : Bool) (call : Call) → (if left then Some calls.Yield else None) ≡ Some call → is_plain call ≡ true
end_plain true call e = plain_some calls.Yield call e refl
end_plain false call e = cc

-- what a plain statement makes is plain
pub says_makes : (view : ScriptView) (statement : Statement) (call : Call) → says_plain statement ≡ true → call_at view statement ≡ Some call → is_plain call ≡ true
says_makes view (statements.Keep tried place value) call p e = plain_some (calls.Pass words.Set None) call e refl
says_makes view (statements.Join tried place value) call p e = plain_some (calls.Pass words.Join (join_fault view place (bytes_value view value))) call e refl
says_makes view (statements.Call tried dest form) call p e = form_plain form.word (call_of form.word (values_of view form.operands)) call p (call_fits form.word (values_of view form.operands)) e
says_makes view statements.EndLoop call p e = end_plain (has_round view.rounds) call e
says_makes view _ call p e = cc
