-- What the mode of a coroutine and its program say of each other: the call that is pending, or whose answer it has, is the one that its program made last.
use Rattle.std.specs.Prelude.{◌≡◌, ℕ, List, Bool, false}
use Rattle.std.specs.List.{AllByRecursion}
use Rattle.dill_calls.specs.declared.word.Word.{Word}
use Rattle.dill_calls.specs.CallTable.{word_of}
use Rattle.dill_calls.specs.Program.{Program, Lowers}
use Rattle.dill_rules.specs.declared.coroutine.Coroutine.{Coroutine}
use Rattle.dill_rules.specs.declared.coroutine.Mode.{Mode}
use Rattle.dill_rules.specs.declared.coroutine.Mode.TheVariants as modes

-- the word of a program's last call is that of the mode
abbrev pub SaysIn : Word → Mode → Type 0
SaysIn said (modes.Pending call) = said ≡ word_of call
SaysIn said (modes.Fresh word answer) = said ≡ word
SaysIn said (modes.Answered word answer) = said ≡ word
SaysIn said _ = Unit {0}

-- an answer that waits to be given lowers what is left
abbrev pub LowersIn : Mode → Type 0
LowersIn (modes.Fresh word answer) = Lowers word answer
LowersIn (modes.Answered word answer) = Lowers word answer
LowersIn _ = Unit {0}

module _ {V : Type 0} where
  abbrev pub Says : Program V → Coroutine V → Type 0
  Says p c = SaysIn (p.said c.body) c.mode

  abbrev pub AllSay : Program V → List (Coroutine V) → Type 0
  AllSay p cs = AllByRecursion (Says p) cs

  -- an answer that didn't come early lowers
  abbrev pub IsLowering : (ℕ → Bool) → Coroutine V → Type 0
  IsLowering early c = early c.number ≡ false → LowersIn c.mode

  abbrev pub AllLower : (ℕ → Bool) → List (Coroutine V) → Type 0
  AllLower early cs = AllByRecursion (IsLowering early) cs
