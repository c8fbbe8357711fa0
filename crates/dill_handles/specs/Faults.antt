-- What the calls answer: the refusals of one more handle, and what a look finds.
use Rattle.std.specs.Prelude.{ℕ, Bool, true, false, Result, Ok, Err}
use Rattle.std.specs.Borrow.{Bor}
use Rattle.dill_handles.specs.declared.entry.Entry.{Entry}
use Rattle.dill_handles.specs.declared.fault.HandleFault.{HandleFault}
use Rattle.dill_handles.specs.declared.fault.HandleFault.TheVariants.{Full, NoMemory}

-- the refusal is that there are too many
abbrev pub says_full : {A : Type 0} → Result A HandleFault → Bool
says_full (Err Full) = true
says_full _ = false

-- a thing and its owner
abbrev pub named : {T : Type 0} → Entry T → T × ℕ
named x = (x.thing, x.owner)

-- what is pointed to, and its owner
abbrev pub pointed : {T : Type 0} → Bor T × ℕ → T × ℕ
pointed p = (p.0.now, p.1)
