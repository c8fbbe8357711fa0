-- What contracts see of a stack: a link with what came on it, what is to be sent, and the layers.
use Rattle.std.specs.Prelude.{ℕ, List, [], ◌++◌, Bool, true, false, ◌||◌, length, drop}
use Rattle.dill_stack.specs.declared.layer.Top.{Top}
use Rattle.dill_stack.specs.Layers.{Placed, top_of}
pub use Rattle.dill_stack.specs.declared.direction.Direction.{Direction}
pub use Rattle.dill_stack.specs.declared.origin.Origin.{Origin}
pub use Rattle.dill_stack.specs.declared.origin.Origin.TheVariants.{Plain, Ending, Line, Pong}
pub use Rattle.dill_stack.specs.declared.task.Task.{Task}
pub use Rattle.dill_stack.specs.declared.task.Task.TheVariants.{Idle, Greets, Expects, Answers, Leaves}

-- what is to be sent whole, and how many of its bytes have gone
pub record Item : Type 0 where
  pub bytes : List ℕ
  pub gone : ℕ
  pub origin : Origin

-- the whole stack, but for the memory that it has reserved
pub record Held : Type 0 where
  pub link : ℕ
  -- the top first
  pub layers : List Placed
  -- what came and isn't used
  pub unread : List ℕ
  pub receiving : Direction
  pub sending : Direction
  -- the first to be sent first
  pub queue : List Item
  pub task : Task

-- a direction that is neither done nor broken
abbrev pub whole : Direction
whole = record { done = false; broken = false }

-- a stack as it is made
abbrev pub opening : Held
opening = record { link = 0; layers = []; unread = []; receiving = whole; sending = whole; queue = []; task = Idle }

-- the link of a stack that was made before it
abbrev pub set_link : ℕ → Held → Held
set_link link s = record s { link = link }

-- what stands on top
abbrev pub top : Held → Top
top s = top_of s.layers

-- one of the directions is
abbrev pub is_broken : Held → Bool
is_broken s = s.receiving.broken || s.sending.broken

-- more bytes have come
abbrev pub came : List ℕ → Held → Held
came bytes s = record s { unread = s.unread ++ bytes }

-- the peer has ended
abbrev pub ended : Held → Held
ended s = record s { receiving = record s.receiving { done = true } }

-- The sending direction is broken: what is queued is dropped.
abbrev pub broken_off : Held → Held
broken_off s = record s { sending = record s.sending { broken = true }; queue = [] }

-- The link failed: both directions are broken and what is queued is dropped. No layer and no mark of an end is taken back. Where the link's own end was pending and its `shut` failed, the machine takes the mark back besides when it answers, as `withdraw` does: a send is then ECONNRESET, and not EPIPE.
abbrev pub broke : Held → Held
broke s = record (broken_off s) { receiving = record s.receiving { broken = true } }

-- so many of the unread bytes are used, the first that came
abbrev pub use_bytes : ℕ → Held → Held
use_bytes n s = record s { unread = drop n s.unread }

-- all that is unread is dropped
abbrev pub drop_unread : Held → Held
drop_unread s = use_bytes (length s.unread) s

-- the peer has ended
abbrev pub has_ended : Held → Bool
has_ended s = s.receiving.done
