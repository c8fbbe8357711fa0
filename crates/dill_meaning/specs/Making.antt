-- That a call has the word of its form and all of the form's operands, in their order.
use Rattle.std.specs.Prelude.{◌≡◌, ℕ, List, [], ◌∷◌, ◌++◌, map, decimal, Bool, true, false, Option, Some, None}
use Rattle.dill_calls.specs.CallTable.{word_of}
use Rattle.dill_calls.specs.declared.call.Call.{Call}
use Rattle.dill_calls.specs.declared.call.Call.TheVariants as calls
use Rattle.dill_calls.specs.declared.lists.Arg.{Arg}
use Rattle.dill_calls.specs.declared.lists.Arg.TheVariants.{Show, Give}
use Rattle.dill_calls.specs.declared.lists.Clause.{Clause}
use Rattle.dill_calls.specs.declared.lists.Clause.TheVariants.{Send, Recv}
use Rattle.dill_script.specs.declared.form.Form.{Form}
use Rattle.dill_script.specs.Fitting.{is_form}
use Rattle.dill_meaning.specs.Calls.{call_of}
use Rattle.dill_meaning.specs.Values.{Value, Number, Octets, Until, Where, First, Program, Gift, Sends, Recvs, values_of}
use Rattle.dill_meaning.specs.Views.{ScriptView}

-- an argument as an operand
abbrev pub arg_value : Arg → Value
arg_value (Show value) = Number value
arg_value (Give value) = Gift value

-- a clause as an operand
abbrev pub clause_value : Clause → Value
clause_value (Send end item) = Sends end item
clause_value (Recv end size) = Recvs end size

-- the operands that a call has, in the order in which a script writes them
abbrev pub values_in : Call → List Value
values_in (calls.Print text) = Octets text ∷ []
values_in calls.Now = []
values_in calls.Yield = []
values_in (calls.Msleep wait) = Until wait ∷ []
values_in (calls.Hmake kind value) = Number kind ∷ Number value ∷ []
values_in (calls.Hquery h kind) = Number h ∷ Number kind ∷ []
values_in (calls.Hown h) = Number h ∷ []
values_in (calls.Hclose h) = Number h ∷ []
values_in calls.Bundle = []
values_in (calls.Go program args) = Program program ∷ map arg_value args
values_in (calls.BundleGo h program args) = Number h ∷ Program program ∷ map arg_value args
values_in (calls.BundleWait h wait) = Number h ∷ Until wait ∷ []
values_in calls.Chmake = []
values_in (calls.Chsend h item wait) = Number h ∷ Octets item ∷ Until wait ∷ []
values_in (calls.Chrecv h size wait) = Number h ∷ Number size ∷ Until wait ∷ []
values_in (calls.Chdone h) = Number h ∷ []
values_in (calls.Choose wait clauses) = Until wait ∷ map clause_value clauses
values_in (calls.TcpListen address backlog) = Where address ∷ Number backlog ∷ []
values_in (calls.TcpAccept h wait) = Number h ∷ Until wait ∷ []
values_in (calls.TcpConnect address wait) = Where address ∷ Until wait ∷ []
values_in (calls.TcpDone h wait) = Number h ∷ Until wait ∷ []
values_in (calls.TcpClose h wait) = Number h ∷ Until wait ∷ []
values_in (calls.Bsend h bytes wait) = Number h ∷ Octets bytes ∷ Until wait ∷ []
values_in (calls.Brecv h size wait) = Number h ∷ Number size ∷ Until wait ∷ []
values_in (calls.Msend h message wait) = Number h ∷ Octets message ∷ Until wait ∷ []
values_in (calls.Mrecv h limit wait) = Number h ∷ Number limit ∷ Until wait ∷ []
values_in (calls.PrefixAttach h size big) = Number h ∷ Number size ∷ First big ∷ []
values_in (calls.SuffixAttach h terminator) = Number h ∷ Octets terminator ∷ []
values_in (calls.TermAttach h terminal) = Number h ∷ Octets terminal ∷ []
values_in (calls.TermDone h wait) = Number h ∷ Until wait ∷ []
values_in (calls.PrefixDetach h) = Number h ∷ []
values_in (calls.SuffixDetach h) = Number h ∷ []
values_in (calls.TermDetach h wait) = Number h ∷ Until wait ∷ []
values_in (calls.HttpAttach h) = Number h ∷ []
values_in (calls.HttpSendrequest h command resource wait) = Number h ∷ Octets command ∷ Octets resource ∷ Until wait ∷ []
values_in (calls.HttpSendstatus h code reason wait) = Number h ∷ Number code ∷ Octets reason ∷ Until wait ∷ []
values_in (calls.HttpSendfield h name value wait) = Number h ∷ Octets name ∷ Octets value ∷ Until wait ∷ []
values_in (calls.HttpRecvrequest h wait) = Number h ∷ Until wait ∷ []
values_in (calls.HttpRecvstatus h wait) = Number h ∷ Until wait ∷ []
values_in (calls.HttpRecvfield h wait) = Number h ∷ Until wait ∷ []
values_in (calls.HttpDone h wait) = Number h ∷ Until wait ∷ []
values_in (calls.HttpDetach h wait) = Number h ∷ Until wait ∷ []
values_in (calls.WsAttachClient h text resource host wait) = Number h ∷ First text ∷ Octets resource ∷ Octets host ∷ Until wait ∷ []
values_in (calls.WsAttachServer h text wait) = Number h ∷ First text ∷ Until wait ∷ []
values_in (calls.WsAttachNohttp h client text) = Number h ∷ First client ∷ First text ∷ []
values_in (calls.WsDetach h code reason wait) = Number h ∷ Number code ∷ Octets reason ∷ Until wait ∷ []
values_in (calls.Pass word fault) = []

-- the text of items, one after the other: bytes as they are, and numbers in decimal
abbrev pub Joins : List Value → List ℕ → Type 0
Joins [] text = text ≡ []
Joins (Number value ∷ rest) text = (more : List ℕ) × (text ≡ decimal value ++ more) × Joins rest more
Joins (Octets value ∷ rest) text = (more : List ℕ) × (text ≡ value ++ more) × Joins rest more
Joins _ text = ⊥

-- a call with these operands; `print` has the text of its items
abbrev pub Has : Call → List Value → Type 0
Has (calls.Print text) values = Joins values text
Has call values = values_in call ≡ values

-- the call of a form, with what its registers held
pub record Makes (view : ScriptView) (form : Form) (call : Call) : Type 0 where
  pub word : word_of call ≡ form.word
  pub operands : Has call (values_of view form.operands)

-- a form makes a call, and it is its own
abbrev pub MakesItsOwn : ScriptView → Form → Option Call → Type 0
MakesItsOwn view form None = ⊥
MakesItsOwn view form (Some call) = Makes view form call

-- each form whose operands fit its word makes the call of that word with all of them
abbrev pub EachFormMakes : Type 0
EachFormMakes = (view : ScriptView) (form : Form) → is_form form ≡ true → MakesItsOwn view form (call_of form.word (values_of view form.operands))

-- it is none of the statements that keep bytes in a register
abbrev pub is_written : Call → Bool
is_written (calls.Pass word fault) = false
is_written call = true

-- two calls of the same word and operands are the same: nothing else is in a call
abbrev pub CallsAreTold : Type 0
CallsAreTold = (call : Call) → is_written call ≡ true → call_of (word_of call) (values_in call) ≡ Some call
