-- A program that is started in a script that was read is found under the number that its call has.
use Rattle.std.proofs.Common.{◌≡◌, ℕ, List, [], ◌∷◌, length, filter_map, find, slice_get, position, Bool, true, false, not, ◌&&◌, ◌||◌, ◌==◌, nat_lt, cond, Option, Some, None, unwrap_or, refl, sym, ap, ◌∙◌, subst, arith, ltb-false}
use Rattle.std.proofs.lemmas.Bool.{and_parts}
use Rattle.std.specs.List.{list_all, list_any, position_or_len}
use Rattle.std.proofs.lemmas.List.Folds.{find_at}
use Rattle.std.proofs.lemmas.Option.{slice_get_past}
use Rattle.std.proofs.lemmas.Slice.Eq.{bytes_eq-Decides}
use Rattle.dill_calls.specs.declared.call.Call.{Call}
use Rattle.dill_calls.specs.declared.call.Call.TheVariants as calls
use Rattle.dill_calls.specs.declared.lists.Arg.{Arg}
use Rattle.dill_calls.specs.declared.word.Word.{Word}
use Rattle.dill_calls.specs.declared.word.Word.TheVariants as words
use Rattle.dill_script.specs.declared.form.Operand.{Operand}
use Rattle.dill_script.specs.declared.form.Operand.TheVariants as operands
use Rattle.dill_script.specs.declared.form.Rest.TheVariants as rests
use Rattle.dill_script.specs.declared.script.Program.{Program}
use Rattle.dill_script.specs.Fitting.{is_rest, is_form}
use Rattle.dill_script.specs.Reading.{started, takes}
use Rattle.dill_script.specs.Refusals.{has_name, is_some_with}
use Rattle.dill_script.specs.Spelling.{are_apart, is_there}
use Rattle.dill_meaning.specs.Calls.{arg_of, call_of}
use Rattle.dill_meaning.specs.Meaning.{knows}
use Rattle.dill_meaning.specs.Reaching.{KnowsStarted}
use Rattle.dill_meaning.specs.Values.{values_of}
use Rattle.dill_meaning.specs.Views.{ScriptView, number_of_name}
use Rattle.dill_meaning.proofs.Table.{Fits}

-- what stands at the first place that passes is what is found
pub looked_up : {X : Type 0} (p : X → Bool) (xs : List X) (b : Bool) → nat_lt (position_or_len p xs) (length xs) ≡ b → slice_get xs (unwrap_or (position p xs) (length xs)) ≡ find p xs
looked_up p xs true e = ap (λ b. slice_get xs (unwrap_or (cond b (Some (position_or_len p xs)) None) (length xs))) e ∙ sym (find_at p xs)
looked_up p xs false e = ap (λ b. slice_get xs (unwrap_or (cond b (Some (position_or_len p xs)) None) (length xs))) e ∙ slice_get_past xs (length xs) (omega arith) ∙ sym (slice_get_past xs (position_or_len p xs) (ltb-false (position_or_len p xs) (length xs) e)) ∙ sym (find_at p xs)

-- a program of so many parameters has its name
any_name : (name : List ℕ) (count : ℕ) (script : List Program) → list_any (takes (name, count)) script ≡ true → list_any (has_name name) script ≡ true
any_name name count [] e = cc
any_name name count (program ∷ rest) e = either (has_name name program) (program.params == count) (list_any (takes (name, count)) rest) (list_any (has_name name) rest) e (any_name name count rest)
  where
    either : (a b c d : Bool) → ((a && b) || c) ≡ true → (c ≡ true → d ≡ true) → (a || d) ≡ true
    either true b c d f h = refl
    either false b c d f h = h f

-- the only one of its name has so many parameters
found_by : (name : List ℕ) (count : ℕ) (program : Program) (rest : List Program) (b : Bool) → has_name name program ≡ b → list_any (takes (name, count)) (program ∷ rest) ≡ true → are_apart (program ∷ rest) ≡ true → (list_any (takes (name, count)) rest ≡ true → are_apart rest ≡ true → is_some_with (λ found. found.params == count) (find (has_name name) rest) ≡ true) → is_some_with (λ found. found.params == count) (find (has_name name) (program ∷ rest)) ≡ true
found_by name count program rest true e t a h =
    ap (λ b. is_some_with (λ found. found.params == count) (cond b (Some program) (find (has_name name) rest))) e
    ∙ only_here (program.params == count) (list_any (takes (name, count)) rest) (subst (λ b. ((b && (program.params == count)) || list_any (takes (name, count)) rest) ≡ true) e t) (λ later. absurd (no_other later))
  where
    only_here : (b c : Bool) → (b || c) ≡ true → (c ≡ true → ⊥) → b ≡ true
    only_here true c f g = refl
    only_here false c f g = absurd (g f)

    not_true : (b : Bool) → not b ≡ true → b ≡ false
    not_true true f = cc
    not_true false f = refl

    no_other : list_any (takes (name, count)) rest ≡ true → ⊥
    no_other later =
        let same : program.name ≡ name = (bytes_eq-Decides program.name name).0 e in
        let none : list_any (has_name name) rest ≡ false = subst (λ other. list_any (has_name other) rest ≡ false) same (not_true (list_any (has_name program.name) rest) (and_parts (not (list_any (has_name program.name) rest)) (are_apart rest) a).0) in
        let some : list_any (has_name name) rest ≡ true = any_name name count rest later in
        cc
found_by name count program rest false e t a h =
    ap (λ b. is_some_with (λ found. found.params == count) (cond b (Some program) (find (has_name name) rest))) e
    ∙ h (subst (λ b. ((b && (program.params == count)) || list_any (takes (name, count)) rest) ≡ true) e t) (and_parts (not (list_any (has_name program.name) rest)) (are_apart rest) a).1

found : (name : List ℕ) (count : ℕ) (script : List Program) → list_any (takes (name, count)) script ≡ true → are_apart script ≡ true → is_some_with (λ found. found.params == count) (find (has_name name) script) ≡ true
found name count [] t a = cc
found name count (program ∷ rest) t a = found_by name count program rest (has_name name program) refl t a (found name count rest)

named_known : (view : ScriptView) (name : List ℕ) (count : ℕ) → list_any (takes (name, count)) view.script ≡ true → are_apart view.script ≡ true → knows view (number_of_name view.script name) count ≡ true
named_known view name count t a = ap (is_some_with (λ found. found.params == count)) (looked_up (has_name name) view.script (nat_lt (position_or_len (has_name name) view.script) (length view.script)) refl) ∙ found name count view.script t a

-- each argument is one
all_args : (view : ScriptView) (list : List Operand) → list_all (is_rest rests.Args) list ≡ true → length (filter_map arg_of (values_of view list)) ≡ length list
all_args view [] e = refl
all_args view (operands.Num value ∷ list) e = let h : length (filter_map arg_of (values_of view list)) ≡ length list = all_args view list e in omega arith
all_args view (operands.Give place ∷ list) e = let h : length (filter_map arg_of (values_of view list)) ≡ length list = all_args view list e in omega arith
all_args view _ e = cc

all_of : (b : Bool) → (b && true) ≡ true → b ≡ true
all_of true e = refl
all_of false e = cc

same_known : (view : ScriptView) (p q n m : ℕ) → p ≡ q → n ≡ m → knows view q m ≡ true → knows view p n ≡ true
same_known view p q n m e f h = rw e (rw f h)

go_known : (view : ScriptView) (list : List Operand) (program : ℕ) (args : List Arg) → is_form (record { word = words.Go; operands = list }) ≡ true → Some (calls.Go program args) ≡ call_of words.Go (values_of view list) → is_there view.script (started list) ≡ true → are_apart view.script ≡ true → knows view program (length args) ≡ true
go_known view (operands.Program name ∷ list) program args i e t a = same_known view program (number_of_name view.script name) (length args) (length list) (same_program e) (ap length (same_args e) ∙ all_args view list (all_of (list_all (is_rest rests.Args) list) i)) (named_known view name (length list) t a)
  where
    same_program : Some (calls.Go program args) ≡ Some (calls.Go (number_of_name view.script name) (filter_map arg_of (values_of view list))) → program ≡ number_of_name view.script name
    same_program f = cc

    same_args : Some (calls.Go program args) ≡ Some (calls.Go (number_of_name view.script name) (filter_map arg_of (values_of view list))) → args ≡ filter_map arg_of (values_of view list)
    same_args f = cc
go_known view _ program args i e t a = cc

bundle_known : (view : ScriptView) (list : List Operand) (bundle program : ℕ) (args : List Arg) → is_form (record { word = words.BundleGo; operands = list }) ≡ true → Some (calls.BundleGo bundle program args) ≡ call_of words.BundleGo (values_of view list) → is_there view.script (started list) ≡ true → are_apart view.script ≡ true → knows view program (length args) ≡ true
bundle_known view (operands.Num h ∷ operands.Program name ∷ list) bundle program args i e t a = same_known view program (number_of_name view.script name) (length args) (length list) (same_program e) (ap length (same_args e) ∙ all_args view list (all_of (list_all (is_rest rests.Args) list) i)) (named_known view name (length list) t a)
  where
    same_program : Some (calls.BundleGo bundle program args) ≡ call_of words.BundleGo (values_of view (operands.Num h ∷ operands.Program name ∷ list)) → program ≡ number_of_name view.script name
    same_program f = cc

    same_args : Some (calls.BundleGo bundle program args) ≡ call_of words.BundleGo (values_of view (operands.Num h ∷ operands.Program name ∷ list)) → args ≡ filter_map arg_of (values_of view list)
    same_args f = cc
bundle_known view _ bundle program args i e t a = cc

-- what a form makes starts nothing but a program that is there
pub made_known : (view : ScriptView) (word : Word) (list : List Operand) (made : Option Call) → made ≡ call_of word (values_of view list) → Fits word made → is_form (record { word = word; operands = list }) ≡ true → is_there view.script (started list) ≡ true → are_apart view.script ≡ true → KnowsStarted view made
made_known view word list (Some (calls.Go program args)) e f i t a = go_known view list program args (subst (λ w. is_form (record { word = w; operands = list }) ≡ true) (sym f.0) i) (subst (λ w. Some (calls.Go program args) ≡ call_of w (values_of view list)) (sym f.0) e) t a
made_known view word list (Some (calls.BundleGo bundle program args)) e f i t a = bundle_known view list bundle program args (subst (λ w. is_form (record { word = w; operands = list }) ≡ true) (sym f.0) i) (subst (λ w. Some (calls.BundleGo bundle program args) ≡ call_of w (values_of view list)) (sym f.0) e) t a
made_known view word list _ e f i t a = tt
