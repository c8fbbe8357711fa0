-- The calls that enter clauses at channels, and these clauses as they wait at their ends.
use Rattle.std.specs.Prelude.{ℕ, ◌+◌, List, [], ◌∷◌, length, Bool, true, false, nat_le}
use Rattle.dill_base.specs.Maps.{if_some}
use Rattle.dill_calls.specs.declared.call.Call.{Call}
use Rattle.dill_calls.specs.declared.call.Call.TheVariants as calls
use Rattle.dill_calls.specs.declared.lists.Clause.{Clause}
use Rattle.dill_chan.specs.declared.end.Wait.{Wait}
use Rattle.dill_rules.specs.Answers.{want_of, end_named}
use Rattle.dill_rules.specs.Naming.{end_of_clause}
use Rattle.dill_rules.specs.World.{World}

-- it enters clauses, 16 at most
abbrev pub enters_channel : Call → Bool
enters_channel (calls.Chsend number bytes deadline) = true
enters_channel (calls.Chrecv number size deadline) = true
enters_channel (calls.Choose deadline all) = nat_le (length all) 16
enters_channel call = false

-- the clauses of a coroutine, counted from a number on, at the ends that they name
abbrev pub waits_of : {V : Type 0} → World V → ℕ → ℕ → List Clause → List Wait
waits_of w who index [] = []
waits_of w who index (x ∷ xs) =
    if_some (end_named w (end_of_clause x)) (waits_of w who (index + 1) xs) (λ end. record { who = who; clause = index; end = end; want = want_of x } ∷ waits_of w who (index + 1) xs)
