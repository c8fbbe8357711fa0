-- What of the operands is told, with one operand more.
use Rattle.std.proofs.Common.{◌≡◌, ◌<◌, ◌+◌, ℕ, zero, suc, List, [], ◌∷◌, ◌++◌, length, take, get_or, filter_map, option_to_list, Option, Some, None, refl, ap, ◌∙◌, arith, add-one}
use Rattle.std.specs.List.{cons_option}
use Rattle.dill_script.specs.declared.form.Operand.{Operand}
use Rattle.dill_meaning.specs.Values.{Value, value_of, values_of}
use Rattle.dill_meaning.specs.Views.{ScriptView}

one : {X : Type 0} (found : Option X) → cons_option found [] ≡ option_to_list found
one None = refl
one (Some x) = refl

before : {X : Type 0} (found : Option X) (xs ys : List X) → cons_option found (xs ++ ys) ≡ cons_option found xs ++ ys
before None xs ys = refl
before (Some x) xs ys = refl

more : {X : Type 0} (of : Value → Option X) (view : ScriptView) (list : List Operand) (i : ℕ) (x : Operand) → i < length list → x ≡ get_or list i x → filter_map of (values_of view (take (suc i) list)) ≡ filter_map of (values_of view (take i list)) ++ option_to_list (of (value_of view x))
more of view [] i x h e = absurd (omega arith)
more of view (y ∷ ys) zero x h e = rw e (one (of (value_of view y)))
more of view (y ∷ ys) (suc i) x h e = let le : i < length ys = omega arith in ap (λ xs. cons_option (of (value_of view y)) xs) (more of view ys i x le e) ∙ before (of (value_of view y)) (filter_map of (values_of view (take i ys))) (option_to_list (of (value_of view x)))

-- the arguments or clauses so far, and of the operand at this place
pub one_more : {X : Type 0} (of : Value → Option X) (view : ScriptView) (list : List Operand) (i : ℕ) (x : Operand) → i < length list → x ≡ get_or list i x → filter_map of (values_of view (take (i + 1) list)) ≡ filter_map of (values_of view (take i list)) ++ option_to_list (of (value_of view x))
one_more of view list i x h e = rw add-one (more of view list i x h e)
