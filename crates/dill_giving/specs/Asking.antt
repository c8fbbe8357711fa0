-- What an answer needs of the pending call that it is given to.
use Rattle.std.specs.Prelude.{ℕ, Option, Some, None}
use Rattle.dill_calls.specs.declared.call.Call.{Call}
use Rattle.dill_calls.specs.declared.call.Call.TheVariants as calls
use Rattle.dill_calls.specs.CallTable.{word_of, named_by}
use Rattle.dill_rules.specs.Naming.{draws_of}
use Rattle.dill_giving.specs.declared.asked.Asked.{Asked}

-- the number that died by an `hclose`
abbrev pub closed_by : Call → Option ℕ
closed_by (calls.Hclose number) = Some number
closed_by _ = None

abbrev pub asked_of : Call → Asked
asked_of call = record { word = word_of call; handle = named_by call; closed = closed_by call; draws = draws_of call }
