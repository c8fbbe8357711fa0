-- Settling without looks: what a pending call is answered of all but what a look says, and the one look before it.
use Rattle.std.specs.Prelude.{ℕ, zero, suc, length, find, ◌&&◌, Option, Some, None, if◌then◌else◌, is_none}
use Rattle.std.specs.Option.{option_or}
use Rattle.dill_base.specs.declared.errno.Errno.TheVariants.{Ecanceled, Ebadf, Econnreset}
use Rattle.dill_base.specs.Maps.{if_some, first_some}
use Rattle.dill_calls.specs.declared.answer.Answer.{Answer}
use Rattle.dill_calls.specs.declared.answer.Answer.TheVariants.{Fault}
use Rattle.dill_calls.specs.declared.call.Call.{Call}
use Rattle.dill_calls.specs.CallTable.{word_of, blocks, named_by}
use Rattle.dill_stack.specs.Interface.{is_sent, has_ended}
use Rattle.dill_rules.specs.declared.coroutine.Coroutine.{Coroutine}
use Rattle.dill_rules.specs.World.{World, call_of, pending_call}
use Rattle.dill_rules.specs.Links.{Link}
use Rattle.dill_rules.specs.Sockets.{link_named, stack_of}
use Rattle.dill_rules.specs.Directions.{is_send}
use Rattle.dill_rules.specs.LinkAnswers.{is_tcp_done, is_tcp_close, is_on_stack, is_broken_for, zero_when, answer_said, look_of, reads}
use Rattle.dill_rules.specs.Taking.{is_cancelled}
use Rattle.dill_rules.specs.Answers.{when, own_answer, lost_its_number}
use Rattle.dill_rules.specs.Giving.{look_on, give}
use Rattle.dill_rules.specs.Settling.{can_finish, finish}

-- all that a stack answers but what a look says
abbrev pub stack_lookless : Call → Link → Option Answer
stack_lookless call x = if is_broken_for (word_of call) x.stack then Some (Fault Econnreset)
    else (if is_tcp_done (word_of call) then zero_when x.shut
    else (if is_send (word_of call) then zero_when (is_sent x.stack)
    else (if is_tcp_close (word_of call) then zero_when (x.shut && has_ended x.stack)
    else None)))

module _ {V : Type 0} where
  abbrev pub link_lookless : World V → Call → Option Answer
  link_lookless w call = if_some (named_by call) None (λ number. if_some (link_named w number) None (stack_lookless call))

  -- what a pending call is answered of itself, but for a look
  abbrev pub own_lookless : World V → Call → Option Answer
  own_lookless w call = if is_on_stack (word_of call) then link_lookless w call else own_answer w call

  -- what it is answered without a look
  abbrev pub lookless_of : World V → ℕ → Call → Option Answer
  lookless_of w who call = option_or (when (blocks (word_of call) && is_cancelled w who) (Fault Ecanceled))
      (option_or (when (lost_its_number w call) (Fault Ebadf)) (own_lookless w call))

  abbrev pub lookless_due : World V → Coroutine V → Option (ℕ × Call × Answer)
  lookless_due w c = if_some (pending_call c.mode) None (λ call. if_some (lookless_of w c.number call) None (λ answer. Some (c.number, call, answer)))

  -- the first of these answers, of the lowest coroutine
  abbrev pub give_lookless : World V → World V
  give_lookless w = if_some (first_some (lookless_due w) w.coroutines) w (λ x. give w x.0 x.1 x.2)

  abbrev pub settle_one_lookless : World V → World V
  settle_one_lookless w = if_some (find (can_finish w) w.coroutines) (give_lookless w) (finish w)

  abbrev pub lookless_within : ℕ → World V → World V
  lookless_within zero w = w
  lookless_within (suc k) w = lookless_within k (settle_one_lookless w)

  -- settling that looks at no stack
  abbrev pub settle_lookless : World V → World V
  settle_lookless w = lookless_within (length w.coroutines) w

  -- a call looks at its stack: it is answered, or what the look passes is used
  abbrev pub looked_for : World V → ℕ → Call → World V
  looked_for w who call = if_some (stack_of w call) w (λ s. if_some (answer_said (look_of call w.random s).said) (look_on w call) (give w who call))

  -- The one look of a coroutine: where it is pending in a call that looks, and has no answer without a look.
  abbrev pub look_once : World V → ℕ → World V
  look_once w who = if_some (call_of w who) w (λ call. if reads call && is_none (lookless_of w who call) then looked_for w who call else w)
