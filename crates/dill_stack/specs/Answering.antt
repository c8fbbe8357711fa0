-- How much room the answer of a receive takes, which comes with the call.
use Rattle.std.specs.Prelude.{◌≡◌, ◌≤◌, ℕ, length, IfSome}
use Rattle.dill_calls.specs.declared.answer.Answer.{Answer}
use Rattle.dill_calls.specs.declared.answer.Answer.TheVariants.{Bytes, Two, Coded, Chosen}
use Rattle.dill_stack.specs.declared.want.Want.{Want}
use Rattle.dill_stack.specs.declared.want.Want.TheVariants.{Exact, Message}
use Rattle.dill_stack.specs.declared.want.ReadOut.{ReadOut}
use Rattle.dill_stack.specs.declared.want.ReadOut.TheVariants.{Given}

-- how many bytes there is room for: of an answer or of its first part, and of a second part
pub record Sizes : Type 0 where
  pub first : ℕ
  pub second : ℕ

abbrev pub sizes : (first second : ℕ) → Sizes
sizes first second = record { first = first; second = second }

-- the most bytes of an answer, or of its first part
abbrev pub size_of : Want → ℕ
size_of (Exact n) = n
size_of (Message limit) = limit
size_of _ = 8192

-- the most bytes of its second part
abbrev pub second_of : Want → ℕ
second_of (Exact n) = 0
second_of (Message limit) = 0
second_of _ = 8192

-- just the room for what this receive may answer
abbrev pub room_of : Want → Sizes
room_of want = sizes (size_of want) (second_of want)

-- There is room for what this receive may answer.
abbrev pub HasRoom : Want → Sizes → Type 0
HasRoom want r = (size_of want ≤ r.first) × (second_of want ≤ r.second)

-- There is room for this answer.
abbrev pub FitsAnswer : Answer → Sizes → Type 0
FitsAnswer (Bytes bytes) r = length bytes ≤ r.first
FitsAnswer (Two first second) r = (length first ≤ r.first) × (length second ≤ r.second)
FitsAnswer (Coded code reason) r = length reason ≤ r.first
FitsAnswer (Chosen index fault bytes) r = IfSome bytes (λ b. length b ≤ r.first)
FitsAnswer answer r = Unit {0}

-- There is room for what is given, if there is an answer.
abbrev pub FitsGiven : ReadOut → Sizes → Type 0
FitsGiven (Given answer) r = FitsAnswer answer r
FitsGiven said r = Unit {0}

-- An answer may take the room. Where there is no answer the room stays.
abbrev pub KeepsRoom : ReadOut → (before now : Sizes) → Type 0
KeepsRoom (Given answer) before now = Unit {0}
KeepsRoom said before now = now ≡ before
