-- The world: all of the machine's state but its stamps, as the record of what its parts hold.
use Rattle.std.specs.Prelude.{ℕ, ◌==◌, List, [], ◌∷◌, ◌++◌, find, Bool, true, false, Option, Some, None}
use Rattle.dill_base.specs.declared.errno.Errno.{Errno}
use Rattle.dill_calls.specs.declared.answer.Answer.{Answer}
use Rattle.dill_calls.specs.declared.answer.Answer.TheVariants.{Number}
use Rattle.dill_calls.specs.declared.call.Call.{Call}
use Rattle.dill_calls.specs.declared.ran.Note.{Note}
use Rattle.dill_calls.specs.declared.word.Word.{Word}
use Rattle.dill_calls.specs.declared.word.Word.TheVariants.{Start}
use Rattle.dill_handles.specs.Handles.{Handles, no_handles}
use Rattle.dill_scope.specs.Scopes.{Scopes, opening_scopes}
use Rattle.dill_chan.specs.Channels.{Channels, no_channels, leave}
use Rattle.rand_core.specs.Stream.{Stream}
use Rattle.dill_base.specs.Maps.{if_some, change}
use Rattle.dill_rules.specs.Links.{Links, no_links, rested}
use Rattle.dill_rules.specs.declared.coroutine.Coroutine.{Coroutine}
use Rattle.dill_rules.specs.declared.coroutine.Closing.{Closing}
use Rattle.dill_rules.specs.declared.coroutine.Mode.{Mode}
use Rattle.dill_rules.specs.declared.coroutine.Mode.TheVariants as modes
use Rattle.dill_rules.specs.declared.thing.Thing.{Thing}

-- the place in a round: the kind and the number of the last ask; kinds count from 1 in their order
pub record Place : Type 0 where
  pub kind : ℕ
  pub number : ℕ

-- before the first kind
abbrev pub at_start : Place
at_start = record { kind = 0; number = 0 }

-- The coroutines by rising number, the bundles that are closing with the numbers that died, how the program of `main` ended once it has, and the notes of this step. `random` are the random numbers that are still to come.
pub record World (V : Type 0) : Type 0 where
  pub coroutines : List (Coroutine V)
  pub handles : Handles Thing
  pub scopes : Scopes
  pub closings : List Closing
  pub channels : Channels
  pub links : Links
  pub place : Place
  pub random : Stream
  pub moment : ℕ
  pub last_coroutine : ℕ
  pub last_bundle : ℕ
  pub ended : Option (Option Errno)
  pub notes : List Note

abbrev pub is_coroutine : {V : Type 0} → ℕ → Coroutine V → Bool
is_coroutine who c = c.number == who

abbrev pub is_ending : Mode → Bool
is_ending (modes.Ending outcome) = true
is_ending _ = false

abbrev pub is_answered : Mode → Bool
is_answered (modes.Answered word answer) = true
is_answered _ = false

-- the call that is pending
abbrev pub pending_call : Mode → Option Call
pending_call (modes.Pending call) = Some call
pending_call _ = None

module _ {V : Type 0} where
  abbrev pub coroutine_of : World V → ℕ → Option (Coroutine V)
  coroutine_of w who = find (is_coroutine who) w.coroutines

  -- what a coroutine is pending in
  abbrev pub call_of : World V → ℕ → Option Call
  call_of w who = if_some (coroutine_of w who) None (λ c. pending_call c.mode)

  abbrev pub with_mode : Mode → Coroutine V → Coroutine V
  with_mode mode c = record c { mode = mode }

  -- a coroutine stands there now
  abbrev pub set_mode : World V → ℕ → Mode → World V
  set_mode w who mode = record w { coroutines = change (is_coroutine who) (with_mode mode) w.coroutines }

  -- a coroutine is answered, and waits for nothing more
  abbrev pub reply : World V → ℕ → Word → Answer → World V
  reply w who word answer = record (set_mode w who (modes.Fresh word answer)) { channels = leave w.channels who }

  -- a coroutine waits for its answer
  abbrev pub pend : World V → ℕ → Call → World V
  pend w who call = set_mode w who (modes.Pending call)

  abbrev pub note : World V → Note → World V
  note w one = record w { notes = w.notes ++ one ∷ [] }

  -- What is asked goes on from before the first kind, and no link had a `write` since.
  abbrev pub from_start : World V → World V
  from_start w = record w { place = at_start; links = rested w.links }

  -- a step begins
  abbrev pub begin : World V → World V
  begin w = record w { notes = [] }

  -- `main` has the answer of its start, and nothing else is there
  abbrev pub opening : V → Stream → World V
  opening view random = record {
    coroutines = record { number = 1; body = view; mode = modes.Answered Start (Number 0) } ∷ [];
    handles = no_handles;
    scopes = opening_scopes;
    closings = [];
    channels = no_channels;
    links = no_links;
    place = at_start;
    random = random;
    moment = 0;
    last_coroutine = 1;
    last_bundle = 0;
    ended = None;
    notes = [];
  }
