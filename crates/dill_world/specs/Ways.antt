-- The directions of a handle of which one call at a time is pending.
use Rattle.std.specs.Prelude.{ℕ, List, Bool, false, ◌&&◌}
use Rattle.std.specs.List.{list_any}
use Rattle.dill_calls.specs.CallTable.{word_of}
use Rattle.dill_calls.specs.declared.word.Word.{Word}
use Rattle.dill_rules.specs.Directions.{is_send, is_receive}
use Rattle.dill_rules.specs.Refusals.{is_accept}
use Rattle.dill_base.specs.Maps.{if_some}
use Rattle.dill_rules.specs.declared.coroutine.Coroutine.{Coroutine}
use Rattle.dill_rules.specs.Taking.{is_on}
use Rattle.dill_rules.specs.World.{pending_call}
use Rattle.dill_world.specs.declared.refusals.Way.{Way}
use Rattle.dill_world.specs.declared.refusals.Way.TheVariants as ways

-- the call uses the direction
abbrev pub goes_by : Way → Word → Bool
goes_by ways.Send word = is_send word
goes_by ways.Receive word = is_receive word
goes_by ways.Accept word = is_accept word

-- the call uses the direction, and one that uses it is pending on the number
abbrev pub is_taken_up : {V : Type 0} → List (Coroutine V) → Word → Way → ℕ → Bool
is_taken_up coroutines word way number =
    goes_by way word && list_any (λ c. if_some (pending_call c.mode) false (λ call. goes_by way (word_of call) && is_on number call)) coroutines
