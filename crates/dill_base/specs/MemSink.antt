-- The sink in memory, with so much room, whose calls fail by their numbers.
use Rattle.std.specs.Prelude.{ℕ, ◌-◌, List, ◌++◌, length, take, Bool, true, false, if◌then◌else◌, nat_lt}
use Rattle.dill_base.specs.Causes.{one_more, is_listed}

-- what went out, how much room there is in all, and its calls so far: those that are to fail by their numbers, how many there were, and how many failed
pub record HeldBytes : Type 0 where
  pub bytes : List ℕ
  pub room : ℕ
  pub fails : List ℕ
  pub calls : ℕ
  pub faults : ℕ

-- this call is to fail before any byte
abbrev pub is_due : HeldBytes → Bool
is_due sink = is_listed sink.fails (one_more sink.calls)

-- how many bytes fit
abbrev pub free : HeldBytes → ℕ
free sink = sink.room - length sink.bytes

abbrev pub is_written : HeldBytes → List ℕ → Bool
is_written sink bytes = if is_due sink then false else (if nat_lt (free sink) (length bytes) then false else true)

-- a call that isn't to fail puts out what fits, and fails where that isn't all
abbrev pub after_write : HeldBytes → List ℕ → HeldBytes
after_write sink bytes = record {
  bytes = if is_due sink then sink.bytes else sink.bytes ++ take (free sink) bytes;
  room = sink.room;
  fails = sink.fails;
  calls = one_more sink.calls;
  faults = if is_written sink bytes then sink.faults else one_more sink.faults;
}
