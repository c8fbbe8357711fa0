-- The answer from scratch: whether a pending call can be answered, and how.
use Rattle.std.specs.Prelude.{ℕ, ◌+◌, List, [], ◌∷◌, find, Bool, false, not, ◌&&◌, Option, Some, None, if◌then◌else◌}
use Rattle.std.specs.Option.{option_or}
use Rattle.dill_base.specs.declared.errno.Errno.{Errno}
use Rattle.dill_base.specs.declared.errno.Errno.TheVariants.{Ecanceled, Ebadf, Epipe}
use Rattle.dill_calls.specs.declared.answer.Answer.{Answer}
use Rattle.dill_calls.specs.declared.answer.Answer.TheVariants.{Number, Chosen, Fault}
use Rattle.dill_calls.specs.declared.call.Call.{Call}
use Rattle.dill_calls.specs.declared.call.Call.TheVariants as calls
use Rattle.dill_calls.specs.declared.lists.Clause.{Clause}
use Rattle.dill_calls.specs.declared.lists.Clause.TheVariants as clauses
use Rattle.dill_calls.specs.CallTable.{word_of, blocks, is_hclose, named_by}
use Rattle.dill_scope.specs.Scopes as scopes
use Rattle.dill_chan.specs.declared.end.Want.{Want}
use Rattle.dill_chan.specs.declared.end.Want.TheVariants.{Send, Recv}
use Rattle.dill_chan.specs.Meetings.{has_ended}
use Rattle.dill_base.specs.Maps.{if_some}
use Rattle.dill_rules.specs.declared.thing.Thing.{Thing}
use Rattle.dill_rules.specs.declared.thing.Thing.TheVariants as things
use Rattle.dill_rules.specs.World.{World}
use Rattle.dill_rules.specs.Naming.{end_of_clause}
use Rattle.dill_rules.specs.Owning.{entry_of, is_dead_as}
use Rattle.dill_rules.specs.Kinds.{is_dead}
use Rattle.dill_rules.specs.Taking.{is_cancelled, bundle_named}
use Rattle.dill_rules.specs.LinkAnswers.{link_answer}

-- a test's answer
abbrev pub when : Bool → Answer → Option Answer
when test answer = if test then Some answer else None

-- what a clause wants at its end
abbrev pub want_of : Clause → Want
want_of (clauses.Send number bytes) = Send bytes
want_of (clauses.Recv number size) = Recv size

-- the end of a channel that a thing is
abbrev pub end_of : Thing → Option ℕ
end_of (things.End end) = Some end
end_of thing = None

module _ {V : Type 0} where
  -- the end of a channel that a live number names
  abbrev pub end_named : World V → ℕ → Option ℕ
  end_named w number = if_some (entry_of w number) None (λ x. end_of x.thing)

  -- 0, once nobody lives in the bundle
  abbrev pub when_empty : World V → Option ℕ → Option Answer
  when_empty w bundle = if_some bundle None (λ name. when (scopes.is_empty w.scopes name) (Number 0))

  -- the bundle whose number died with its closing
  abbrev pub bundle_dead_as : World V → ℕ → Option ℕ
  bundle_dead_as w number = if_some (find (is_dead_as number) w.closings) None (λ x. Some x.bundle)

  -- the fault of a clause that waits: its end isn't live, or has its end
  abbrev pub clause_fault : World V → ℕ → Want → Option Errno
  clause_fault w number want = if_some (end_named w number) (Some Ebadf) (λ end. if has_ended w.channels end want then Some Epipe else None)

  -- the least clause of a choice that has a fault, counted from a number on
  abbrev pub choice_fault : World V → ℕ → List Clause → Option Answer
  choice_fault w index [] = None
  choice_fault w index (x ∷ xs) = if_some (clause_fault w (end_of_clause x) (want_of x)) (choice_fault w (index + 1) xs) (λ e. Some (Chosen index (Some e) None))

  -- what a pending call is answered of itself
  abbrev pub own_answer : World V → Call → Option Answer
  own_answer w (calls.BundleWait number deadline) = when_empty w (bundle_named w number)
  own_answer w (calls.Hclose number) = when_empty w (bundle_dead_as w number)
  own_answer w (calls.Chsend number bytes deadline) = if_some (clause_fault w number (Send bytes)) None (λ e. Some (Fault e))
  own_answer w (calls.Chrecv number size deadline) = if_some (clause_fault w number (Recv size)) None (λ e. Some (Fault e))
  own_answer w (calls.Choose deadline all) = choice_fault w 0 all
  own_answer w call = link_answer w call

  -- the number that the call names is dead; that of `hclose` died by the call itself
  abbrev pub lost_its_number : World V → Call → Bool
  lost_its_number w call = not (is_hclose (word_of call)) && if_some (named_by call) false (is_dead w)

  -- ECANCELED before EBADF before the call's own answer
  abbrev pub answer_of : World V → ℕ → Call → Option Answer
  answer_of w who call = option_or (when (blocks (word_of call) && is_cancelled w who) (Fault Ecanceled))
      (option_or (when (lost_its_number w call) (Fault Ebadf)) (own_answer w call))
