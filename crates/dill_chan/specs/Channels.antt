-- Channels: the ends that are live, and the clauses that wait at them in the order of waiting.
use Rattle.std.specs.Prelude.{ℕ, ◌+◌, ◌==◌, List, [], ◌∷◌, ◌++◌, filter, find, Bool, true, false, not, Option, option_map, is_some}
use Rattle.dill_base.specs.Maps.{if_some, change, without}
use Rattle.dill_chan.specs.declared.end.End.{End}
use Rattle.dill_chan.specs.declared.end.Wait.{Wait}

-- the ends rise by their names, and none is named again; of two that wait the earlier stands first, and of one choice the lesser clause
pub record Channels : Type 0 where
  pub ends : List End
  pub waits : List Wait
  pub last : ℕ

abbrev pub no_channels : Channels
no_channels = record { ends = []; waits = []; last = 0 }

abbrev pub is_end : ℕ → End → Bool
is_end name x = x.name == name

abbrev pub is_live : Channels → ℕ → Bool
is_live c name = is_some (find (is_end name) c.ends)

-- its sending direction is done
abbrev pub is_done : Channels → ℕ → Bool
is_done c name = if_some (find (is_end name) c.ends) false (λ x. x.done)

-- the channel's other end, whether it is live or not
abbrev pub other_end : Channels → ℕ → Option ℕ
other_end c name = option_map (λ x. x.other) (find (is_end name) c.ends)

-- the names of the next channel's ends
abbrev pub next_ends : Channels → ℕ × ℕ
next_ends c = (c.last + 1, c.last + 2)

-- a new channel
abbrev pub make : Channels → Channels
make c = record {
  ends = c.ends ++ record { name = c.last + 1; other = c.last + 2; done = false } ∷ record { name = c.last + 2; other = c.last + 1; done = false } ∷ [];
  waits = c.waits;
  last = c.last + 2;
}

abbrev pub as_done : End → End
as_done x = record x { done = true }

-- the sending direction of an end is done
abbrev pub done : Channels → ℕ → Channels
done c name = record c { ends = change (is_end name) as_done c.ends }

-- an end is gone; who waits there waits on until it is answered
abbrev pub drop_end : Channels → ℕ → Channels
drop_end c name = record c { ends = without (is_end name) c.ends }

-- a clause waits behind all others
abbrev pub wait : Channels → Wait → Channels
wait c x = record c { waits = c.waits ++ x ∷ [] }

-- a coroutine waits under no clause any more
abbrev pub leave : Channels → ℕ → Channels
leave c who = record c { waits = filter (λ x. not (x.who == who)) c.waits }
