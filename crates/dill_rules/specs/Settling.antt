-- Settling: endings that can finish, and pending calls that can be answered, until neither is left.
use Rattle.std.specs.Prelude.{◌≡◌, ℕ, zero, suc, ◌==◌, List, [], ◌∷◌, reverse, length, fold, filter, find, Bool, false, not, ◌&&◌, Option, Some, None, if◌then◌else◌, nat_lt}
use Rattle.std.specs.List.{list_all}
use Rattle.dill_base.specs.declared.errno.Errno.{Errno}
use Rattle.dill_calls.specs.declared.answer.Answer.{Answer}
use Rattle.dill_calls.specs.declared.call.Call.{Call}
use Rattle.dill_calls.specs.CallTable.{word_of}
use Rattle.dill_handles.specs.Handles as handles
use Rattle.dill_handles.specs.declared.entry.Entry.{Entry}
use Rattle.dill_scope.specs.Scopes as scopes
use Rattle.dill_base.specs.Maps.{if_some, without, first_some}
use Rattle.dill_rules.specs.declared.coroutine.Closing.{Closing}
use Rattle.dill_rules.specs.declared.coroutine.Coroutine.{Coroutine}
use Rattle.dill_rules.specs.declared.coroutine.Mode.{Mode}
use Rattle.dill_rules.specs.declared.coroutine.Mode.TheVariants as modes
use Rattle.dill_rules.specs.declared.thing.Thing.{Thing}
use Rattle.dill_rules.specs.World.{World, is_coroutine, is_ending, pending_call, set_mode, from_start}
use Rattle.dill_rules.specs.Owning.{release, close_bundle, free_bundle}
use Rattle.dill_rules.specs.Taking.{bundle_of}
use Rattle.dill_rules.specs.Directions.{is_send}
use Rattle.dill_rules.specs.LinkAnswers.{is_on_stack}
use Rattle.dill_rules.specs.Answers.{answer_of}
use Rattle.dill_rules.specs.Giving.{give, look_on}

-- the one of a higher number first
abbrev pub placed : Closing → List Closing → List Closing
placed x [] = x ∷ []
placed x (y ∷ ys) = if nat_lt x.number y.number then y ∷ placed x ys else x ∷ y ∷ ys

abbrev pub highest_first : List Closing → List Closing
highest_first [] = []
highest_first (x ∷ xs) = placed x (highest_first xs)

-- how the program ended, of who is ending
abbrev pub outcome_of : Mode → Option Errno
outcome_of (modes.Ending outcome) = outcome
outcome_of mode = None

module _ {V : Type 0} where
  -- a handle that a coroutine owns is closed, if it is a bundle
  abbrev pub close_owned : ℕ → World V → Entry Thing → World V
  close_owned who w x = if_some (bundle_of x.thing) w (λ name. close_bundle w who name x.number)

  -- the bundles of a coroutine begin to close
  abbrev pub close_all : World V → ℕ → World V
  close_all w who = fold (close_owned who) w (filter (handles.is_owned who) w.handles.entries)

  -- a program has ended: its bundles are closed, and it waits for them
  abbrev pub end : World V → ℕ → Option Errno → World V
  end w who outcome = set_mode (close_all w who) who (modes.Ending outcome)

  -- nobody lives in a bundle of a coroutine
  abbrev pub is_clear : World V → ℕ → Bool
  is_clear w who = list_all (scopes.is_empty w.scopes) (scopes.bundles_of w.scopes who)

  -- an ending that can finish
  abbrev pub can_finish : World V → Coroutine V → Bool
  can_finish w c = is_ending c.mode && is_clear w c.number

  -- the bundle of a closing has this owner
  abbrev pub is_owned_by : World V → ℕ → Closing → Bool
  is_owned_by w who x = if_some (scopes.owner_of w.scopes x.bundle) false (λ owner. owner == who)

  -- the bundles of a coroutine are gone, the highest number first
  abbrev pub free_all : World V → ℕ → World V
  free_all w who = fold free_bundle w (highest_first (filter (is_owned_by w who) w.closings))

  -- its other handles are released, the highest number first
  abbrev pub release_all : World V → ℕ → World V
  release_all w who = fold release w (reverse (handles.numbers_of w.handles who))

  -- how `main` ended is kept, and what is asked from then on is asked from the start
  abbrev pub keep_end : World V → Coroutine V → World V
  keep_end w c = if c.number == 1 then from_start (record w { ended = Some (outcome_of c.mode) }) else w

  -- a coroutine is gone
  abbrev pub leave : World V → Coroutine V → World V
  leave w c = record (keep_end w c) { coroutines = without (is_coroutine c.number) w.coroutines; scopes = scopes.ended w.scopes c.number }

  -- an ending finishes: first the bundles, then the other handles, then the coroutine itself
  abbrev pub finish : World V → Coroutine V → World V
  finish w c = leave (release_all (free_all w c.number) c.number) c

  -- the answer that a coroutine can be given, with its call
  abbrev pub answer_due : World V → Coroutine V → Option (ℕ × Call × Answer)
  answer_due w c = if_some (pending_call c.mode) None (λ call. if_some (answer_of w c.number call) None (λ answer. Some (c.number, call, answer)))

  -- the first answer that is due, of the lowest coroutine
  abbrev pub give_first : World V → World V
  give_first w = if_some (first_some (answer_due w) w.coroutines) w (λ x. give w x.0 x.1 x.2)

  -- an ending that can finish goes before every answer, and a lower coroutine before a higher one
  abbrev pub settle_one : World V → World V
  settle_one w = if_some (find (can_finish w) w.coroutines) (give_first w) (finish w)

  -- at most so many times
  abbrev pub settle_within : ℕ → World V → World V
  settle_within zero w = w
  settle_within (suc k) w = settle_within k (settle_one w)

  -- a call that stays pending uses what its look passes: frames that come before a message, what a detach drops, a client's head
  abbrev pub pass_one : World V → Coroutine V → World V
  pass_one w c = if_some (pending_call c.mode) w (λ call. if is_on_stack (word_of call) && not (is_send (word_of call)) then look_on w call else w)

  abbrev pub pass_all : World V → World V
  pass_all w = fold pass_one w w.coroutines

  -- each time one coroutine fewer is pending or ending, until nothing is due
  abbrev pub settle : World V → World V
  settle w = pass_all (settle_within (length w.coroutines) w)

-- nothing is due: no ending can finish, and no pending call can be answered
pub record IsSettled {V : Type 0} (w : World V) : Type 0 where
  pub endings : find (can_finish w) w.coroutines ≡ None
  pub answers : first_some (answer_due w) w.coroutines ≡ None
