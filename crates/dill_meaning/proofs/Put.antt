-- An answer of a call's form is put whole in its registers.
use Rattle.std.proofs.Common.{◌≡◌, ◌<◌, ◌≤◌, ℕ, List, [], length, slice_get, Bool, true, false, ◌&&◌, nat_le, Some, None, refl, ◌∙◌, arith, leb-true}
use Rattle.std.proofs.lemmas.Bool.{and_parts}
use Rattle.std.proofs.lemmas.List.{get_or-set_same, get_or-set_other, length-set}
use Rattle.dill_calls.specs.CallTable.{Form as AnswerForm, OneNumber, TwoNumbers, OneBytes, TwoBytes, CodeAndBytes, Choice, form_of, answer_form}
use Rattle.dill_calls.specs.declared.answer.Answer.{Answer}
use Rattle.dill_calls.specs.declared.answer.Answer.TheVariants as answers
use Rattle.dill_script.specs.declared.operand.Dest.{Dest}
use Rattle.dill_script.specs.declared.operand.Dest.TheVariants as dests
use Rattle.dill_script.specs.declared.statement.Statement.TheVariants as statements
use Rattle.dill_script.specs.Fitting.{is_register, is_dest, is_form, may_hold, is_formed}
use Rattle.dill_script.specs.Spelling.{ReadsFormed}
use Rattle.dill_meaning.specs.Effects.{put}
use Rattle.dill_meaning.specs.Putting.{IsWide, Holds, EachAnswerIsPut}
use Rattle.dill_meaning.specs.Views.{ScriptView, number_in, bytes_in, with_number, with_bytes}
use Rattle.dill_meaning.proofs.Reached.{one_says}

below : (place count : ℕ) → nat_le place 15 ≡ true → count ≡ 16 → place < count
below place count e f = let h : place ≤ 15 = leb-true place 15 e in omega arith

-- a register that was set
number_set : (view : ScriptView) (place value : ℕ) → IsWide view → is_register place ≡ true → number_in (with_number view place value) place ≡ value
number_set view place value w e = get_or-set_same view.numbers place value 0 (below place (length view.numbers) e w.numbers)

bytes_set : (view : ScriptView) (place : ℕ) (value : List ℕ) → IsWide view → is_register place ≡ true → bytes_in (with_bytes view place value) place ≡ value
bytes_set view place value w e = get_or-set_same view.texts place value [] (below place (length view.texts) e w.texts)

numbers_wide : (view : ScriptView) (place value : ℕ) → IsWide view → IsWide (with_number view place value)
numbers_wide view place value w = record { numbers = length-set view.numbers place value ∙ w.numbers; texts = w.texts }

texts_wide : (view : ScriptView) (place : ℕ) (value : List ℕ) → IsWide view → IsWide (with_bytes view place value)
texts_wide view place value w = record { numbers = w.numbers; texts = length-set view.texts place value ∙ w.texts }

two_numbers : (view : ScriptView) (first second a b : ℕ) → IsWide view → (is_register first && is_register second) ≡ true → Holds view (put view (Some (dests.Pair first second)) (answers.Pair a b)) (dests.Pair first second) (answers.Pair a b)
two_numbers view first second a b w e =
    let p = and_parts (is_register first) (is_register second) e in
    (λ other. get_or-set_other (with_number view first a).numbers second first b 0 other ∙ number_set view first a w p.0, number_set (with_number view first a) second b (numbers_wide view first a w) p.1)

two_texts : (view : ScriptView) (first second : ℕ) (a b : List ℕ) → IsWide view → (is_register first && is_register second) ≡ true → Holds view (put view (Some (dests.Two first second)) (answers.Two a b)) (dests.Two first second) (answers.Two a b)
two_texts view first second a b w e =
    let p = and_parts (is_register first) (is_register second) e in
    (λ other. get_or-set_other (with_bytes view first a).texts second first b [] other ∙ bytes_set view first a w p.0, bytes_set (with_bytes view first a) second b (texts_wide view first a w) p.1)

mixed : (view : ScriptView) (first second a : ℕ) (b : List ℕ) → IsWide view → (is_register first && is_register second) ≡ true → (number_in (with_bytes (with_number view first a) second b) first ≡ a) × (bytes_in (with_bytes (with_number view first a) second b) second ≡ b)
mixed view first second a b w e =
    let p = and_parts (is_register first) (is_register second) e in
    (number_set view first a w p.0, bytes_set (with_number view first a) second b (numbers_wide view first a w) p.1)

some_form : (a b : AnswerForm) → Some a ≡ Some b → a ≡ b
some_form a b e = cc

-- the answer's form fits the registers
pub answer_put : (view : ScriptView) (form : AnswerForm) (dest : Dest) (answer : Answer) → IsWide view → is_dest form dest ≡ true → answer_form answer ≡ Some form → Holds view (put view (Some dest) answer) dest answer
answer_put view OneNumber (dests.Number place) (answers.Number value) w e f = number_set view place value w e
answer_put view TwoNumbers (dests.Pair first second) (answers.Pair a b) w e f = two_numbers view first second a b w e
answer_put view OneBytes (dests.Bytes place) (answers.Bytes value) w e f = bytes_set view place value w e
answer_put view TwoBytes (dests.Two first second) (answers.Two a b) w e f = two_texts view first second a b w e
answer_put view CodeAndBytes (dests.Mixed first second) (answers.Coded code value) w e f = mixed view first second code value w e
answer_put view Choice (dests.Mixed first second) (answers.Chosen index fault (Some value)) w e f = mixed view first second index value w e
answer_put view Choice (dests.Mixed first second) (answers.Chosen index fault None) w e f = (number_set view first index w (and_parts (is_register first) (is_register second) e).0, refl)
answer_put view _ _ _ w e f = cc

pub each_answer : ReadsFormed → EachAnswerIsPut
each_answer formed built text view place tried dest form answer e w g f =
    let at : is_formed (statements.Call tried (Some dest) form) ≡ true = one_says is_formed view.script view.program (slice_get view.script view.program) place (statements.Call tried (Some dest) form) refl (formed built text view.script e) g in
    answer_put view (form_of form.word) dest answer w (and_parts (is_form form) (may_hold form.word (Some dest)) at).1 f
