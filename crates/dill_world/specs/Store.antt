-- What is stored of a world, and the world that it is.
use Rattle.std.specs.Prelude.{◌≡◌, ℕ, List, [], length, Bool, true, false, nat_le, Option, None}
use Rattle.std.specs.List.{list_all}
use Rattle.dill_base.specs.declared.errno.Errno.{Errno}
use Rattle.dill_calls.specs.declared.answer.Answer.{Answer}
use Rattle.dill_calls.specs.declared.answer.Answer.TheVariants as answers
use Rattle.dill_calls.specs.declared.call.Call.{Call}
use Rattle.dill_calls.specs.declared.call.Call.TheVariants as calls
use Rattle.dill_calls.specs.declared.ran.Note.{Note}
use Rattle.dill_handles.specs.Handles.{Handles}
use Rattle.dill_scope.specs.Scopes.{Scopes}
use Rattle.dill_chan.specs.Channels.{Channels}
use Rattle.rand_core.specs.Stream.{Stream}
use Rattle.dill_rules.specs.Links.{Links}
use Rattle.dill_rules.specs.World.{World, Place}
use Rattle.dill_rules.specs.declared.coroutine.Coroutine.{Coroutine}
use Rattle.dill_rules.specs.declared.coroutine.Closing.{Closing}
use Rattle.dill_rules.specs.declared.coroutine.Mode.{Mode}
use Rattle.dill_rules.specs.declared.coroutine.Mode.TheVariants as modes
use Rattle.dill_rules.specs.declared.thing.Thing.{Thing}
use Rattle.dill_world.specs.declared.place.Place as stored

-- random numbers of which none is drawn
abbrev pub no_random : Stream
no_random = record { u32_after = λ cs. 0; u64_after = λ cs. 0; bytes_after = λ cs n. [] }

-- the place that is stored
abbrev pub place_of : stored.Place → Place
place_of x = record { kind = x.kind; number = x.number }

-- all of a world but its random numbers
pub record Store (V : Type 0) : Type 0 where
  pub coroutines : List (Coroutine V)
  pub handles : Handles Thing
  pub scopes : Scopes
  pub closings : List Closing
  pub channels : Channels
  pub links : Links
  pub place : Place
  pub moment : ℕ
  pub last_coroutine : ℕ
  pub last_bundle : ℕ
  pub ended : Option (Option Errno)
  pub notes : List Note

-- the world whose random numbers are none
abbrev pub world_of : {V : Type 0} → Store V → World V
world_of k = record {
  coroutines = k.coroutines;
  handles = k.handles;
  scopes = k.scopes;
  closings = k.closings;
  channels = k.channels;
  links = k.links;
  place = k.place;
  random = no_random;
  moment = k.moment;
  last_coroutine = k.last_coroutine;
  last_bundle = k.last_bundle;
  ended = k.ended;
  notes = k.notes;
}

-- the calls that can be pending here: none of a link yet; a choice has at most 16 clauses
abbrev pub may_wait : Call → Bool
may_wait (calls.Msleep deadline) = true
may_wait (calls.Hclose number) = true
may_wait (calls.BundleWait number deadline) = true
may_wait (calls.Chsend number bytes deadline) = true
may_wait (calls.Chrecv number size deadline) = true
may_wait (calls.Choose deadline all) = nat_le (length all) 16
may_wait call = false

-- an answer without bytes
abbrev pub is_short_answer : Answer → Bool
is_short_answer (answers.Number n) = true
is_short_answer (answers.Pair m n) = true
is_short_answer (answers.Chosen index fault None) = true
is_short_answer (answers.Fault e) = true
is_short_answer answer = false

-- where a coroutine stands whose pending call is such a one
abbrev pub is_plain_mode : Mode → Bool
is_plain_mode (modes.Pending call) = may_wait call
is_plain_mode modes.Running = true
is_plain_mode (modes.Fresh word answer) = true
is_plain_mode (modes.Answered word answer) = true
is_plain_mode (modes.Ending outcome) = true

abbrev pub is_plain_row : {V : Type 0} → Coroutine V → Bool
is_plain_row c = is_plain_mode c.mode

-- each coroutine stands so
abbrev pub ArePlain : {V : Type 0} → List (Coroutine V) → Type 0
ArePlain coroutines = list_all is_plain_row coroutines ≡ true
