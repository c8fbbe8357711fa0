-- What a reader tells of what is meant: all of it, unless memory ran out.
use Rattle.std.specs.Prelude.{◌≡◌, ℕ, List, Option, Some, None, Result, Ok, Err}
use Rattle.dill_script.specs.declared.refusal.Reason.{Reason}
use Rattle.dill_script.specs.declared.refusal.Refusal.{Refusal}
use Rattle.dill_script.specs.declared.refusal.Refusal.TheVariants.{At, NoMemory}
use Rattle.dill_script.specs.declared.script.Program.{Program}
use Rattle.dill_script.specs.Reading.{Reading}
use Rattle.relay_reader.specs.declared.fault.Fault.{Fault}
use Rattle.relay_reader.specs.declared.fault.Fault.TheVariants as faults

-- a refusal that is meant, or want of memory
abbrev pub Refuses : Refusal → Reading → Type 0
Refuses (At line reason) reading = reading ≡ Err (line, reason)
Refuses NoMemory reading = Unit {0}

-- the script that is meant, or a refusal
abbrev pub Reads : Result (List Program) Refusal → Reading → Type 0
Reads (Ok script) reading = reading ≡ Ok script
Reads (Err refusal) reading = Refuses refusal reading

-- the reason that is meant, or want of memory
abbrev pub Faults : Fault → Option Reason → Type 0
Faults (faults.Against told) reason = reason ≡ Some told
Faults faults.NoMemory reason = Unit {0}

-- no reason, and a fact of what is answered; or the reason
abbrev pub Tells : {X : Type 0} → Result X Fault → Option Reason → (X → Type 0) → Type 0
Tells (Ok x) reason Fact = (reason ≡ None) × Fact x
Tells (Err fault) reason Fact = Faults fault reason

-- the refusal of a script for a fault of a line
abbrev pub refusal_at : ℕ → Fault → Refusal
refusal_at line (faults.Against reason) = At line reason
refusal_at line faults.NoMemory = NoMemory
