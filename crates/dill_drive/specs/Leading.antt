-- A part of a run, told by what happened in it one thing after the other. By this the driver's loops are proved; what a whole run is, `Play` says.
use Rattle.std.specs.Prelude.{◌≡◌, ℕ, List, [], ◌∷◌, ◌++◌, length, take, Option, Some, None, Bool, ◌&&◌, nat_lt, if◌then◌else◌}
use Rattle.std.specs.Str.{bytes_eq}
use Rattle.std.specs.Io.KnownBytes.{Appends}
use Rattle.dill_calls.specs.declared.ran.LackPlace.{LackPlace}
use Rattle.dill_kernel.specs.declared.replies.KernelAsk.{KernelAsk}
use Rattle.dill_kernel.specs.declared.replies.KernelAsk.TheVariants.{Wait}
use Rattle.dill_kernel.specs.declared.replies.KernelReply.{KernelReply}
use Rattle.dill_kernel.specs.Entry.{Entry, fits}
use Rattle.dill_drive.specs.Machine.{Machine, may_be}
use Rattle.dill_drive.specs.Story.{Place, Round, Asking, Trying, Turns, Due, Stopping, Closing, Last, Closes, Writing, Config, after_test, after_wait, after_try, after_turn, after_last, written, halted}

-- what happens
pub data Event : Type 0 where
  -- a test leads on
  Passed : Event
  -- the kernel replied
  Replied : KernelReply → Event
  -- a turn was made, which was refused memory there
  Turned : Option LackPlace → Event
  -- the lines that were due went out
  Wrote : Event
  -- their write failed after these bytes
  Halted : List ℕ → Event

abbrev pub is_proper_part : List ℕ → List ℕ → Bool
is_proper_part part bytes = nat_lt (length part) (length bytes) && bytes_eq part (take (length part) bytes)

module _ {S : Type 0} (m : Machine S) (traced : Bool) (most : ℕ) where
  -- a test is due there where no try is
  abbrev pub unless_try : Config S → Option KernelAsk → Option (Config S)
  unless_try c None = Some (after_test m traced most c c.place)
  unless_try c (Some ask) = None

  abbrev pub by_test : Config S → Place → Option (Config S)
  by_test c Round = Some (after_test m traced most c Round)
  by_test c (Turns left) = Some (after_test m traced most c (Turns left))
  by_test c Stopping = Some (after_test m traced most c Stopping)
  by_test c Closing = Some (after_test m traced most c Closing)
  by_test c Trying = unless_try c (m.next_try c.state)
  by_test c Closes = unless_try c (m.next_try c.state)
  by_test c other = None

  -- what is asked of the kernel there
  abbrev pub asked : Config S → Place → Option KernelAsk
  asked c Asking = Some (Wait (m.limit c.state))
  asked c Trying = m.next_try c.state
  asked c Closes = m.next_try c.state
  asked c other = None

  abbrev pub heard : Config S → Place → KernelAsk → KernelReply → Config S
  heard c Asking ask reply = after_wait m traced most c reply
  heard c other ask reply = after_try m traced most c ask reply

  abbrev pub by_reply : Config S → Option KernelAsk → KernelReply → Option (Config S)
  by_reply c None reply = None
  by_reply c (Some ask) reply = if fits ask reply then Some (heard c c.place ask reply) else None

  abbrev pub by_turn : Config S → Place → Option LackPlace → Option (Config S)
  by_turn c (Due left) lack = if may_be m c.state lack then Some (after_turn m traced most c left lack) else None
  by_turn c Last lack = if may_be m c.state lack then Some (after_last m traced most c lack) else None
  by_turn c other lack = None

  abbrev pub by_write : Config S → Place → Option (Config S)
  by_write c (Writing next) = Some (written m traced most c next)
  by_write c other = None

  abbrev pub by_halt : Config S → Place → List ℕ → Option (Config S)
  by_halt c (Writing next) part = if is_proper_part part c.due then Some (halted m traced most c next) else None
  by_halt c other part = None

  -- the run after an event, where that is due
  abbrev pub step : Config S → Event → Option (Config S)
  step c Passed = by_test c c.place
  step c (Replied reply) = by_reply c (asked c c.place) reply
  step c (Turned lack) = by_turn c c.place lack
  step c Wrote = by_write c c.place
  step c (Halted part) = by_halt c c.place part

  -- the bytes that go out by it
  abbrev pub bytes_by : Config S → Event → List ℕ
  bytes_by c Wrote = c.due
  bytes_by c (Halted part) = part
  bytes_by c other = []

  -- the kernel's call by it
  abbrev pub entry_of : Option KernelAsk → KernelReply → List Entry
  entry_of None reply = []
  entry_of (Some ask) reply = record { ask = ask; reply = reply } ∷ []

  abbrev pub entries_by : Config S → Event → List Entry
  entries_by c (Replied reply) = entry_of (asked c c.place) reply
  entries_by c other = []

  -- some events lead from one to the other, with the kernel's calls and the bytes on the way
  abbrev pub Along : Config S → List Event → Config S → List Entry → List ℕ → Type 0
  Along c [] end entries bytes = (end ≡ c) × (entries ≡ []) × (bytes ≡ [])
  Along c (event ∷ events) end entries bytes = (next : Config S) × (entries' : List Entry) × (bytes' : List ℕ)
      × (step c event ≡ Some next) × Along next events end entries' bytes' × (entries ≡ entries_by c event ++ entries') × (bytes ≡ bytes_by c event ++ bytes')

  -- one leads to the other, and the sink shows the bytes
  pub record Leads (c end : Config S) (entries : List Entry) (told now : Option (List ℕ)) : Type 0 where
    pub events : List Event
    pub bytes : List ℕ
    pub along : Along c events end entries bytes
    pub out : Appends told now bytes
