-- The operands of a form that fit its word are those in their places.
use Rattle.std.proofs.Common.{◌≡◌, ℕ, suc, List, [], ◌∷◌, ◌++◌, length, drop, slice_get, true, Some, Result, Ok, Err, IfOk, refl, sym, ap, ◌∙◌}
use Rattle.std.proofs.lemmas.Bool.{and_parts}
use Rattle.dill_base.specs.declared.errno.NoMemory.{NoMemory}
use Rattle.dill_calls.specs.declared.call.Call.{Call}
use Rattle.dill_script.specs.declared.form.Form.{Form}
use Rattle.dill_script.specs.declared.form.Kind.{Kind}
use Rattle.dill_script.specs.declared.form.Kind.TheVariants as kinds
use Rattle.dill_script.specs.declared.form.Operand.{Operand}
use Rattle.dill_script.specs.declared.form.Operand.TheVariants as operands
use Rattle.dill_script.specs.declared.form.Rest.{Rest}
use Rattle.dill_script.specs.declared.form.Rest.TheVariants as rests
use Rattle.dill_script.specs.Fitting.{is_call_word, is_kind, are_kinds, is_form}
use Rattle.dill_script.specs.Table.{kinds_of, rest_kind}
use Rattle.dill_meaning.specs.Calls.{call_of}
use Rattle.dill_meaning.specs.Values.{value_of, values_of}
use Rattle.dill_meaning.specs.Views.{ScriptView}
use Rattle.relay_body.specs.Placed.{value_at, values_at, rest_of, placed}

kind_value : (view : ScriptView) (kind : Kind) (operand : Operand) → is_kind kind operand ≡ true → value_of view operand ≡ value_at view kind (Some operand)
kind_value view kinds.Num (operands.Num value) e = refl
kind_value view kinds.Bytes (operands.Bytes value) e = refl
kind_value view kinds.Wait (operands.Wait value) e = refl
kind_value view kinds.Address (operands.Address value) e = refl
kind_value view kinds.Program (operands.Program value) e = refl
kind_value view kinds.Order (operands.Order value) e = refl
kind_value view kinds.Mode (operands.Mode value) e = refl
kind_value view kinds.Role (operands.Role value) e = refl
kind_value view _ _ e = cc

-- one place further where one operand more is before them
further : (view : ScriptView) (kinds : List Kind) (place : ℕ) (operand : Operand) (list : List Operand) → values_at view kinds (suc place) (operand ∷ list) ≡ values_at view kinds place list
further view [] place operand list = refl
further view (kind ∷ more) place operand list = ap (λ xs. value_at view kind (slice_get list place) ∷ xs) (further view more (suc place) operand list)

rest_placed : (view : ScriptView) (rest : Rest) (list : List Operand) → are_kinds [] rest list ≡ true → values_of view list ≡ rest_of view rest (drop 0 list)
rest_placed view rests.Nothing [] e = refl
rest_placed view rests.Nothing (operand ∷ list) e = cc
rest_placed view _ list e = refl

kinds_placed : (view : ScriptView) (kinds : List Kind) (rest : Rest) (list : List Operand) → are_kinds kinds rest list ≡ true → values_of view list ≡ values_at view kinds 0 list ++ rest_of view rest (drop (length kinds) list)
kinds_placed view [] rest list e = rest_placed view rest list e
kinds_placed view (kind ∷ more) rest [] e = cc
kinds_placed view (kind ∷ more) rest (operand ∷ list) e =
    let fits = and_parts (is_kind kind operand) (are_kinds more rest list) e in
    let first : value_of view operand ≡ value_at view kind (Some operand) = kind_value view kind operand fits.0 in
    let behind = kinds_placed view more rest list fits.1 in
    ap (λ x. x ∷ values_of view list) first ∙ ap (λ xs. value_at view kind (Some operand) ∷ xs) (behind ∙ ap (λ xs. xs ++ rest_of view rest (drop (length more) list)) (sym (further view more 0 operand list)))

-- so the operands of a form are those in their places, whatever its word
pub form_placed : (view : ScriptView) (form : Form) → is_form form ≡ true → values_of view form.operands ≡ placed view form.word form.operands
form_placed view form e = kinds_placed view (kinds_of form.word) (rest_kind form.word) form.operands (and_parts (is_call_word form.word) (are_kinds (kinds_of form.word) (rest_kind form.word) form.operands) e).1

-- its word is that of a call
pub form_named : (form : Form) → is_form form ≡ true → is_call_word form.word ≡ true
form_named form e = (and_parts (is_call_word form.word) (are_kinds (kinds_of form.word) (rest_kind form.word) form.operands) e).0

-- and its call is that of its operands
pub called_placed : (view : ScriptView) (form : Form) (made : Result Call NoMemory) → is_form form ≡ true → IfOk made (λ call. call_of form.word (placed view form.word form.operands) ≡ Some call) → IfOk made (λ call. call_of form.word (values_of view form.operands) ≡ Some call)
called_placed view form (Ok call) e m = ap (call_of form.word) (form_placed view form e) ∙ m
called_placed view form (Err lack) e m = tt
