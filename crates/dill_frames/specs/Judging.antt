-- When a reader and a writer give each of their answers, by the spellings.
use Rattle.std.specs.Prelude.{◌≡◌, ◌≤◌, ◌-◌, ◌↔◌, ℕ, List, length, take, Result, Ok, Err}
use Rattle.dill_base.specs.declared.errno.Errno.{Errno}
use Rattle.dill_base.specs.declared.errno.Front.{Front}
use Rattle.dill_base.specs.declared.errno.Front.TheVariants.{Whole, Need, Fault}
use Rattle.dill_base.specs.declared.errno.WriteFault.{WriteFault}
use Rattle.dill_base.specs.declared.errno.WriteFault.TheVariants.{Refused, NoMemory}
use Rattle.dill_base.specs.Reading.{IsOpen, IsShown}

-- a message is there
abbrev pub IsMessage : Front → Type 0
IsMessage (Whole from to used) = Unit {0}
IsMessage Need = ⊥
IsMessage (Fault e) = ⊥

-- a message or a refusal is there
abbrev pub IsJudged : Front → Type 0
IsJudged (Whole from to used) = Unit {0}
IsJudged Need = ⊥
IsJudged (Fault e) = Unit {0}

-- a front of the bytes is the spelling of a message within the limit
abbrev pub IsSpelled : (List ℕ → List ℕ → Type 0) → ℕ → List ℕ → Type 0
IsSpelled spells limit bytes = (n : ℕ) × (m : List ℕ) × (n ≤ length bytes) × (length m ≤ limit) × spells m (take n bytes)

-- Each answer of a reader is given exactly where its cause stands: a spelling within the limit, the least front that shows the refusal, or neither.
pub record IsExact (spells : List ℕ → List ℕ → Type 0) (shows : Errno → List ℕ → Type 0) (limit : ℕ) (bytes : List ℕ) (front : Front) : Type 0 where
  pub whole : IsMessage front ↔ IsSpelled spells limit bytes
  pub fault : (e : Errno) → (front ≡ Fault e) ↔ IsShown shows bytes e
  pub need : (front ≡ Need) ↔ IsOpen spells shows limit bytes

-- `spells w`: w spells the message. `refuses e`: it has no spelling, for this reason. A writer that wants memory had a spelling to write.
abbrev pub IsWritten : (List ℕ → Type 0) → (Errno → Type 0) → Result (List ℕ) WriteFault → Type 0
IsWritten spells refuses (Ok w) = spells w
IsWritten spells refuses (Err (Refused e)) = refuses e
IsWritten spells refuses (Err NoMemory) = (w : List ℕ) × spells w

-- where a whole message lies
pub record LiesIn (bytes : List ℕ) (limit from to used : ℕ) : Type 0 where
  pub forward : from ≤ to
  pub within : to ≤ used
  pub there : used ≤ length bytes
  pub short : to - from ≤ limit
