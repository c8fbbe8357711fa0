-- Programs whose calls are those of printing, time, coroutines, channels and handles of their own, and none of links or layers.
use Rattle.std.specs.Prelude.{◌≡◌, ◌≤◌, Bool, true}
use Rattle.dill_calls.specs.declared.answer.Answer.{Answer}
use Rattle.dill_calls.specs.declared.call.Call.{Call}
use Rattle.dill_calls.specs.CallTable.{word_of, is_built}
use Rattle.dill_calls.specs.Program.{Program, Move, Calls, Ends}

-- a call whose word is built
abbrev pub is_plain : Call → Bool
is_plain call = is_built (word_of call)

-- the call of a move is plain, if it makes one
abbrev pub MovesPlain : {V : Type 0} → V × Move → Type 0
MovesPlain (new, Calls call) = is_plain call ≡ true
MovesPlain (new, Ends outcome) = Unit {0}

-- each turn of a program makes a plain call or ends
abbrev pub MakesPlain : {V : Type 0} → Program V → Type 0
MakesPlain {V} p = (view : V) (answer : Answer) → p.real view ≡ true → 1 ≤ p.left view → MovesPlain (p.next view answer)
