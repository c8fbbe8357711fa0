-- Programs of worked runs: lists of calls, each with or without `try`, and what is done last.
use Rattle.std.specs.Prelude.{ℕ, ◌+◌, ◌-◌, ◌==◌, List, [], ◌∷◌, ◌++◌, length, set, replicate, Bool, true, false, ◌&&◌, Option, Some, None, if◌then◌else◌}
use Rattle.std.specs.Option.{option_or}
use Rattle.dill_base.specs.declared.errno.Errno.{Errno}
use Rattle.dill_calls.specs.declared.answer.Answer.{Answer}
use Rattle.dill_calls.specs.declared.answer.Answer.TheVariants.{Number, Bytes, Chosen, Fault}
use Rattle.dill_calls.specs.declared.call.Call.{Call}
use Rattle.dill_calls.specs.declared.call.Call.TheVariants as calls
use Rattle.dill_calls.specs.declared.word.Word.{Word}
use Rattle.dill_calls.specs.declared.word.Word.TheVariants as words
use Rattle.dill_calls.specs.CallTable.{word_of}
use Rattle.dill_calls.specs.Program.{Program, Move, Calls, Ends}

-- A call whose fault ends the list, one whose fault doesn't, the end of a loop without an end, and a call by the registers, whose number goes to one of them.
pub data Item : Type 0 where
  Does : Call → Item
  Tries : Call → Item
  Again : Item
  Puts : Option ℕ → (List ℕ → List ℕ → Call) → Item

-- a program for so many arguments: what it does, and what it does last
pub record Text : Type 0 where
  pub count : ℕ
  pub body : List Item
  pub last : List Item

-- a coroutine of such a program: what is left to do, at which place it is, and the errno that it was first brought to its end by
pub record Play : Type 0 where
  pub rest : List Item
  pub last : List Item
  pub body : ℕ
  pub places : ℕ
  pub at : ℕ
  pub tries : Bool
  pub is_last : Bool
  pub outcome : Option Errno
  pub said : Word
  -- the number registers, the bytes that came last, and the register of the call that was made
  pub numbers : List ℕ
  pub bytes : List ℕ
  pub dest : Option ℕ

-- a coroutine with its arguments in the first registers
abbrev pub first_with : List ℕ → Text → Play
first_with args text = record {
  rest = text.body;
  last = text.last;
  body = length text.body;
  places = length text.body + length text.last;
  at = 0;
  tries = false;
  is_last = false;
  outcome = None;
  said = words.Start;
  numbers = args ++ replicate 16 0;
  bytes = [];
  dest = None;
}

abbrev pub first_of : Text → Play
first_of text = first_with [] text

abbrev pub fault_of : Answer → Option Errno
fault_of (Fault errno) = Some errno
fault_of (Chosen index fault bytes) = fault
fault_of answer = None

-- the call of an item
abbrev pub call_of : Play → Item → Call
call_of v (Does call) = call
call_of v (Tries call) = call
call_of v Again = calls.Yield
call_of v (Puts dest call) = call v.numbers v.bytes

-- the register of an item
abbrev pub dest_of : Item → Option ℕ
dest_of (Puts dest call) = dest
dest_of item = None

-- an answer is kept
abbrev pub kept : Play → Option ℕ → Answer → Play
kept v (Some k) (Number n) = record v { numbers = set v.numbers k n }
kept v dest (Bytes bytes) = record v { bytes = bytes }
kept v dest answer = v

abbrev pub is_tried : Item → Bool
is_tried (Tries call) = true
is_tried item = false

abbrev pub is_again : Item → Bool
is_again Again = true
is_again item = false

-- an item is done; a loop stays where it is
abbrev pub at_item : Play → Item → List Item → Play × Move
at_item v item rest = (
  record v {
    rest = if is_again item then item ∷ rest else rest;
    at = if is_again item && v.at == v.body then v.at else v.at + 1;
    tries = is_tried item;
    dest = dest_of item;
    said = word_of (call_of v item);
  },
  Calls (call_of v item),
)

-- what is done last, or the end
abbrev pub at_last : Play → List Item → Play × Move
at_last v [] = (v, Ends v.outcome)
at_last v (item ∷ rest) = at_item (record v { last = []; is_last = true; at = v.body }) item rest

abbrev pub go_on : Play → List Item → Play × Move
go_on v [] = at_last v v.last
go_on v (item ∷ rest) = at_item v item rest

-- an errno brings it to what is done last
abbrev pub brought : Play → Errno → Play × Move
brought v errno = at_last (record v { outcome = option_or v.outcome (Some errno) }) v.last

abbrev pub after_fault : Play → Option Errno → Play × Move
after_fault v None = go_on v v.rest
after_fault v (Some errno) = if v.tries then go_on v v.rest else brought v errno

abbrev pub next_of : Play → Answer → Play × Move
next_of v answer = after_fault (kept v v.dest answer) (fault_of answer)

-- the meaning of the programs of a table
abbrev pub playing : (ℕ → List ℕ → Text) → Program Play
playing table = record {
  real = λ v. true;
  next = next_of;
  short = λ v answer. (next_of v answer).0;
  said = λ v. v.said;
  left = λ v. v.places + 1 - v.at;
  most = λ v. v.places + 1;
  knows = λ v program count. (table program []).count == count;
  child = λ v program args. first_with args (table program args);
}
