-- What calls that may want memory, or are refused, do to a stack.
use Rattle.std.specs.List.{list_any}
use Rattle.std.specs.Prelude.{if◌then◌else◌, true, ◌≡◌, ◌++◌, ℕ, List, [], ◌∷◌, Result, Ok, Err, IsOk}
use Rattle.rand_core.specs.Stream.{Stream}
use Rattle.dill_base.specs.declared.errno.Errno.{Errno}
use Rattle.dill_frames.specs.Prefix.{prefix_spelling}
use Rattle.dill_stack.specs.declared.fault.StackFault.{StackFault}
use Rattle.dill_stack.specs.declared.fault.StackFault.TheVariants.{Refused, NoMemory}
use Rattle.dill_stack.specs.Layers.{Placed, Prefix, Suffix, Term, Http, Ws}
use Rattle.dill_stack.specs.Composed.{data_frame, drawn_key, is_masking}
use Rattle.dill_stack.specs.Held.{Held}
use Rattle.dill_stack.specs.Rooms.{Stocked}

-- what is due is done
pub record IsDone (wanted : Result (Held × Stream) Errno) (before now : Stocked) (left : Stream) : Type 0 where
  pub due : wanted ≡ Ok (now.held, left)
  pub rest : now ≡ record before { held = now.held }

-- a refusal changes nothing
pub record IsRefused (wanted : Result (Held × Stream) Errno) (e : Errno) (before now : Stocked) (random left : Stream) : Type 0 where
  pub due : wanted ≡ Err e
  pub same : now ≡ before
  pub kept : left ≡ random

-- Want of memory changes nothing, and comes only where nothing is refused.
pub record IsLacking (wanted : Result (Held × Stream) Errno) (before now : Stocked) (random left : Stream) : Type 0 where
  pub due : IsOk wanted
  pub same : now ≡ before
  pub kept : left ≡ random

-- a call that sends
abbrev pub Sends : Result (Held × Stream) Errno → Result (Unit {0}) StackFault → (before now : Stocked) → (random left : Stream) → Type 0
Sends due (Ok done) before now random left = IsDone due before now left
Sends due (Err (Refused e)) before now random left = IsRefused due e before now random left
Sends due (Err NoMemory) before now random left = IsLacking due before now random left

-- a call that draws no random numbers, as of a line or a new layer
abbrev pub Changes : Result Held Errno → Result (Unit {0}) StackFault → (before now : Stocked) → Type 0
Changes due (Ok done) before now = (due ≡ Ok now.held) × (now ≡ record before { held = now.held })
Changes due (Err (Refused e)) before now = (due ≡ Err e) × (now ≡ before)
Changes due (Err NoMemory) before now = IsOk due × (now ≡ before)

-- a call that sends, where it takes no memory
abbrev pub Ends : Result (Held × Stream) Errno → Result (Unit {0}) Errno → (before now : Stocked) → (random left : Stream) → Type 0
Ends due (Ok done) before now random left = IsDone due before now left
Ends due (Err e) before now random left = IsRefused due e before now random left

-- a message in the framing of the layer on the link, where no layer refuses it; a client's frame is masked with this key
abbrev pub on_link : (key : List ℕ) → List Placed → List ℕ → List ℕ
on_link key [] m = m
on_link key (Prefix form ∷ below) m = prefix_spelling form m
on_link key (Suffix end ∷ below) m = m ++ end
on_link key (Term term ∷ below) m = on_link key below m
on_link key (Http http ∷ below) m = m
on_link key (Ws ws ∷ below) m = data_frame ws key m

-- The key is that of the next random number, where one of these layers masks.
abbrev pub IsKey : (key : List ℕ) → List Placed → Stream → Type 0
IsKey key layers random = list_any is_masking layers ≡ true → key ≡ (drawn_key random).0

-- the layers that mask the end of the top layer
abbrev pub below_end : List Placed → List Placed
below_end (Term term ∷ below) = below
below_end layers = []

-- the layers that mask what a detach sends
abbrev pub below_parting : List Placed → List Placed
below_parting (Term term ∷ below) = if term.done then [] else below
below_parting (Ws ws ∷ below) = Ws ws ∷ below
below_parting layers = []
