-- What a core holds, what it keeps of the machine's state by that, and what is true of it at all times.
use Rattle.std.specs.Prelude.{ℕ, ◌≤◌, List, length}
use Rattle.dill_calls.specs.Program.{Program}
use Rattle.dill_rules.specs.World.{World}
use Rattle.laws_queue.specs.Kept.{Kept}
use Rattle.laws_debt.specs.Closing.{IsStable}
use Rattle.dill_world.specs.Store.{Store, world_of}

-- what is stored of the world, who has an answer in the order in which they had it, and how many of these had it early
pub record Holding (V : Type 0) : Type 0 where
  pub world : Store V
  pub ready : List ℕ
  pub early : ℕ

module _ {V : Type 0} where
  -- what a core keeps
  abbrev pub kept_of : Holding V → Kept V
  kept_of h = record { world = world_of h.world; ready = h.ready; early = h.early }

  -- what is stored of a world
  abbrev pub store_of : World V → Store V
  store_of w = record {
    coroutines = w.coroutines;
    handles = w.handles;
    scopes = w.scopes;
    closings = w.closings;
    channels = w.channels;
    links = w.links;
    place = w.place;
    moment = w.moment;
    last_coroutine = w.last_coroutine;
    last_bundle = w.last_bundle;
    ended = w.ended;
    notes = w.notes;
  }

  -- what is held of what is kept
  abbrev pub held_of : Kept V → Holding V
  held_of k = record { world = store_of k.world; ready = k.ready; early = k.early }

  -- what holds between two steps holds of what is kept, and there is room in the queue for all coroutines
  pub record IsHeld (p : Program V) (h : Holding V) (places : ℕ) : Type 0 where
    pub stable : IsStable p (kept_of h)
    pub room : length h.world.coroutines ≤ places
