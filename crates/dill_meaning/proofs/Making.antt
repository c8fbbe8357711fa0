-- A form whose operands fit its word makes the call of that word with all of them.
use Rattle.std.proofs.Common.{◌≡◌, List, [], ◌∷◌, map, filter_map, flat_map, Bool, true, false, ◌&&◌, refl, ap}
use Rattle.std.specs.List.{list_all}
use Rattle.dill_calls.specs.declared.word.Word.{Word}
use Rattle.dill_calls.specs.declared.word.Word.TheVariants as words
use Rattle.dill_script.specs.declared.form.Operand.{Operand}
use Rattle.dill_script.specs.declared.form.Operand.TheVariants as operands
use Rattle.dill_script.specs.declared.form.Rest.TheVariants as rests
use Rattle.dill_script.specs.declared.operand.Num.TheVariants as nums
use Rattle.dill_script.specs.Fitting.{is_rest, is_many, is_form}
use Rattle.dill_meaning.specs.Calls.{item_text, arg_of, clause_of, call_of}
use Rattle.dill_meaning.specs.Making.{Joins, arg_value, clause_value, MakesItsOwn, EachFormMakes}
use Rattle.dill_meaning.specs.Values.{Value, Number, Until, Program, num_value, deadline_value, value_of, values_of}
use Rattle.dill_meaning.specs.Views.{ScriptView, number_of_name}

all_of : (b : Bool) → (b && true) ≡ true → b ≡ true
all_of true e = refl
all_of false e = cc

behind : (value : Value) (xs ys : List Value) → xs ≡ ys → value ∷ xs ≡ value ∷ ys
behind value xs ys e = cc

first_of : (a b : Bool) → (a && b) ≡ true → a ≡ true
first_of true b e = refl
first_of false b e = cc

items_made : (view : ScriptView) (list : List Operand) → list_all (is_rest rests.Items) list ≡ true → Joins (values_of view list) (flat_map item_text (values_of view list))
items_made view [] e = refl
items_made view (operands.Bytes value ∷ list) e = (flat_map item_text (values_of view list), refl, items_made view list e)
items_made view (operands.Num (nums.Register place) ∷ list) e = (flat_map item_text (values_of view list), refl, items_made view list e)
items_made view _ e = cc

args_made : (view : ScriptView) (list : List Operand) → list_all (is_rest rests.Args) list ≡ true → map arg_value (filter_map arg_of (values_of view list)) ≡ values_of view list
args_made view [] e = refl
args_made view (operands.Num value ∷ list) e = ap (λ x. value_of view (operands.Num value) ∷ x) (args_made view list e)
args_made view (operands.Give place ∷ list) e = ap (λ x. value_of view (operands.Give place) ∷ x) (args_made view list e)
args_made view _ e = cc

clauses_made : (view : ScriptView) (list : List Operand) → list_all (is_rest rests.Clauses) list ≡ true → map clause_value (filter_map clause_of (values_of view list)) ≡ values_of view list
clauses_made view [] e = refl
clauses_made view (operands.Send end item ∷ list) e = ap (λ x. value_of view (operands.Send end item) ∷ x) (clauses_made view list e)
clauses_made view (operands.Recv end size ∷ list) e = ap (λ x. value_of view (operands.Recv end size) ∷ x) (clauses_made view list e)
clauses_made view _ e = cc

form_makes : (view : ScriptView) (word : Word) (list : List Operand) → is_form (record { word = word; operands = list }) ≡ true → MakesItsOwn view (record { word = word; operands = list }) (call_of word (values_of view list))
form_makes view words.Print list fits = record { word = refl; operands = items_made view list (first_of (list_all (is_rest rests.Items) list) (is_many rests.Items list) fits) }
form_makes view words.Now [] fits = record { word = refl; operands = refl }
form_makes view words.Yield [] fits = record { word = refl; operands = refl }
form_makes view words.Msleep (operands.Wait a ∷ []) fits = record { word = refl; operands = refl }
form_makes view words.Hmake (operands.Num a ∷ operands.Num b ∷ []) fits = record { word = refl; operands = refl }
form_makes view words.Hquery (operands.Num a ∷ operands.Num b ∷ []) fits = record { word = refl; operands = refl }
form_makes view words.Hown (operands.Num a ∷ []) fits = record { word = refl; operands = refl }
form_makes view words.Hclose (operands.Num a ∷ []) fits = record { word = refl; operands = refl }
form_makes view words.Bundle [] fits = record { word = refl; operands = refl }
form_makes view words.Go (operands.Program a ∷ list) fits = record { word = refl; operands = ap (λ x. Program (number_of_name view.script a) ∷ x) (args_made view list (all_of (list_all (is_rest rests.Args) list) fits)) }
form_makes view words.BundleGo (operands.Num a ∷ operands.Program b ∷ list) fits = record { word = refl; operands = ap (λ x. Number (num_value view a) ∷ Program (number_of_name view.script b) ∷ x) (args_made view list (all_of (list_all (is_rest rests.Args) list) fits)) }
form_makes view words.BundleWait (operands.Num a ∷ operands.Wait b ∷ []) fits = record { word = refl; operands = refl }
form_makes view words.Chmake [] fits = record { word = refl; operands = refl }
form_makes view words.Chsend (operands.Num a ∷ operands.Bytes b ∷ operands.Wait c ∷ []) fits = record { word = refl; operands = refl }
form_makes view words.Chrecv (operands.Num a ∷ operands.Num b ∷ operands.Wait c ∷ []) fits = record { word = refl; operands = refl }
form_makes view words.Chdone (operands.Num a ∷ []) fits = record { word = refl; operands = refl }
form_makes view words.Choose (operands.Wait a ∷ list) fits = record { word = refl; operands = ap (λ x. Until (deadline_value view a) ∷ x) (clauses_made view list (all_of (list_all (is_rest rests.Clauses) list) fits)) }
form_makes view words.TcpListen (operands.Address a ∷ operands.Num b ∷ []) fits = record { word = refl; operands = refl }
form_makes view words.TcpAccept (operands.Num a ∷ operands.Wait b ∷ []) fits = record { word = refl; operands = refl }
form_makes view words.TcpConnect (operands.Address a ∷ operands.Wait b ∷ []) fits = record { word = refl; operands = refl }
form_makes view words.TcpDone (operands.Num a ∷ operands.Wait b ∷ []) fits = record { word = refl; operands = refl }
form_makes view words.TcpClose (operands.Num a ∷ operands.Wait b ∷ []) fits = record { word = refl; operands = refl }
form_makes view words.Bsend (operands.Num a ∷ operands.Bytes b ∷ operands.Wait c ∷ []) fits = record { word = refl; operands = refl }
form_makes view words.Brecv (operands.Num a ∷ operands.Num b ∷ operands.Wait c ∷ []) fits = record { word = refl; operands = refl }
form_makes view words.Msend (operands.Num a ∷ operands.Bytes b ∷ operands.Wait c ∷ []) fits = record { word = refl; operands = refl }
form_makes view words.Mrecv (operands.Num a ∷ operands.Num b ∷ operands.Wait c ∷ []) fits = record { word = refl; operands = refl }
form_makes view words.PrefixAttach (operands.Num a ∷ operands.Num b ∷ operands.Order c ∷ []) fits = record { word = refl; operands = refl }
form_makes view words.SuffixAttach (operands.Num a ∷ operands.Bytes b ∷ []) fits = record { word = refl; operands = refl }
form_makes view words.TermAttach (operands.Num a ∷ operands.Bytes b ∷ []) fits = record { word = refl; operands = refl }
form_makes view words.TermDone (operands.Num a ∷ operands.Wait b ∷ []) fits = record { word = refl; operands = refl }
form_makes view words.PrefixDetach (operands.Num a ∷ []) fits = record { word = refl; operands = refl }
form_makes view words.SuffixDetach (operands.Num a ∷ []) fits = record { word = refl; operands = refl }
form_makes view words.TermDetach (operands.Num a ∷ operands.Wait b ∷ []) fits = record { word = refl; operands = refl }
form_makes view words.HttpAttach (operands.Num a ∷ []) fits = record { word = refl; operands = refl }
form_makes view words.HttpSendrequest (operands.Num a ∷ operands.Bytes b ∷ operands.Bytes c ∷ operands.Wait d ∷ []) fits = record { word = refl; operands = refl }
form_makes view words.HttpSendstatus (operands.Num a ∷ operands.Num b ∷ operands.Bytes c ∷ operands.Wait d ∷ []) fits = record { word = refl; operands = refl }
form_makes view words.HttpSendfield (operands.Num a ∷ operands.Bytes b ∷ operands.Bytes c ∷ operands.Wait d ∷ []) fits = record { word = refl; operands = refl }
form_makes view words.HttpRecvrequest (operands.Num a ∷ operands.Wait b ∷ []) fits = record { word = refl; operands = refl }
form_makes view words.HttpRecvstatus (operands.Num a ∷ operands.Wait b ∷ []) fits = record { word = refl; operands = refl }
form_makes view words.HttpRecvfield (operands.Num a ∷ operands.Wait b ∷ []) fits = record { word = refl; operands = refl }
form_makes view words.HttpDone (operands.Num a ∷ operands.Wait b ∷ []) fits = record { word = refl; operands = refl }
form_makes view words.HttpDetach (operands.Num a ∷ operands.Wait b ∷ []) fits = record { word = refl; operands = refl }
form_makes view words.WsAttachClient (operands.Num a ∷ operands.Mode b ∷ operands.Bytes c ∷ operands.Bytes d ∷ operands.Wait e ∷ []) fits = record { word = refl; operands = refl }
form_makes view words.WsAttachServer (operands.Num a ∷ operands.Mode b ∷ operands.Wait c ∷ []) fits = record { word = refl; operands = refl }
form_makes view words.WsAttachNohttp (operands.Num a ∷ operands.Role b ∷ operands.Mode c ∷ []) fits = record { word = refl; operands = refl }
form_makes view words.WsDetach (operands.Num a ∷ operands.Num b ∷ operands.Bytes c ∷ operands.Wait d ∷ []) fits = record { word = refl; operands = refl }
form_makes view _ _ fits = cc

pub each_form_makes : EachFormMakes
each_form_makes view form e = form_makes view form.word form.operands e
