-- What an answer needs of the pending call that it is given to, and what it leaves.
use Rattle.std.specs.Prelude.{ℕ, find, Option, Some, None}
use Rattle.dill_calls.specs.declared.answer.Answer.{Answer}
use Rattle.dill_calls.specs.declared.call.Call.{Call}
use Rattle.dill_calls.specs.declared.call.Call.TheVariants as calls
use Rattle.dill_calls.specs.CallTable.{word_of}
use Rattle.dill_base.specs.Maps.{if_some}
use Rattle.dill_rules.specs.declared.coroutine.Coroutine.{Coroutine}
use Rattle.dill_rules.specs.World.{World, pending_call, reply}
use Rattle.dill_rules.specs.Owning.{is_dead_as, free_bundle}
use Rattle.dill_rules.specs.Answers.{answer_of}
use Rattle.dill_steps.specs.declared.settling.Asked.{Asked}

-- the number that died by an `hclose`
abbrev pub closed_by : Call → Option ℕ
closed_by (calls.Hclose number) = Some number
closed_by _ = None

abbrev pub asked_of : Call → Asked
asked_of call = record { word = word_of call; closed = closed_by call }

module _ {V : Type 0} where
  -- the bundle that closed is gone, and the caller is answered
  abbrev pub give_asked : World V → ℕ → Asked → Answer → World V
  give_asked w who x answer = reply (if_some x.closed w (λ number. if_some (find (is_dead_as number) w.closings) w (free_bundle w))) who x.word answer

  -- the answer that a coroutine can be given, with what it needs of its call
  abbrev pub asked_due : World V → Coroutine V → Option (ℕ × Asked × Answer)
  asked_due w c = if_some (pending_call c.mode) None (λ call. if_some (answer_of w c.number call) None (λ answer. Some (c.number, asked_of call, answer)))
