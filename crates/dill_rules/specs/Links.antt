-- Links: what the kernel made, what stands on each, and what is still due of it.
use Rattle.std.specs.Prelude.{ℕ, ◌+◌, ◌-◌, ◌==◌, List, [], ◌∷◌, ◌++◌, map, find, Bool, true, false, ◌||◌, Option, Some, None, max}
use Rattle.dill_base.specs.Maps.{change, without}
use Rattle.dill_stack.specs.declared.want.Want.{Want}
use Rattle.dill_stack.specs.Interface.{Held, opening, set_link, limit_of_want}
use Rattle.dill_rules.specs.declared.link.Sort.{Sort}
use Rattle.dill_rules.specs.declared.link.Sort.TheVariants.{Listening, Connecting, Stream}

-- A link and the stack on it: whether each direction is hot, whether it had a `write` in this round, whether its `shut` was made, whether its `close` is due, and the most bytes that a receive on it has asked for, for which it has room since.
pub record Link : Type 0 where
  pub number : ℕ
  pub sort : Sort
  pub stack : Held
  pub read_hot : Bool
  pub write_hot : Bool
  pub wrote : Bool
  pub shut : Bool
  pub closing : Bool
  pub most : ℕ

-- The links that are there by rising number, until their `close` is asked; the last number that was used, and how many more are kept for pending calls.
pub record Links : Type 0 where
  pub all : List Link
  pub last : ℕ
  pub kept : ℕ

abbrev pub no_links : Links
no_links = record { all = []; last = 0; kept = 0 }

abbrev pub is_link : ℕ → Link → Bool
is_link number x = x.number == number

abbrev pub look : Links → ℕ → Option Link
look l number = find (is_link number) l.all

-- a link is changed
abbrev pub change_link : Links → ℕ → (Link → Link) → Links
change_link l number f = record l { all = change (is_link number) f l.all }

-- a new link has nothing on it, and is hot in both directions
abbrev pub fresh_link : ℕ → Sort → Link
fresh_link number sort = record { number = number; sort = sort; stack = set_link number opening; read_hot = true; write_hot = true; wrote = false; shut = false; closing = false; most = 0 }

-- the next link, which was kept, was made
abbrev pub add : Links → Sort → Links
add l sort = record { all = l.all ++ fresh_link (l.last + 1) sort ∷ []; last = l.last + 1; kept = l.kept - 1 }

-- one more link is kept for a call
abbrev pub keep : Links → Links
keep l = record l { kept = l.kept + 1 }

-- a kept link is given back
abbrev pub unkeep : Links → Links
unkeep l = record l { kept = l.kept - 1 }

-- a link is gone
abbrev pub gone : Links → ℕ → Links
gone l number = record l { all = without (is_link number) l.all }

-- there is room for what this receive may need
abbrev pub reserved : Want → Link → Link
reserved want x = record x { most = max x.most (limit_of_want want) }

-- it had its `write` in this round
abbrev pub as_wrote : Link → Link
as_wrote x = record x { wrote = true }

-- what is asked goes on from before the first kind: it had no `write` since
abbrev pub rested_link : Link → Link
rested_link x = record x { wrote = false }

abbrev pub rested : Links → Links
rested l = record l { all = map rested_link l.all }

abbrev pub as_closing : Link → Link
as_closing x = record x { closing = true }

abbrev pub as_shut : Link → Link
as_shut x = record x { shut = true }

abbrev pub as_stream : Link → Link
as_stream x = record x { sort = Stream }

abbrev pub with_stack : (Held → Held) → Link → Link
with_stack f x = record x { stack = f x.stack }

-- hot in these directions too
abbrev pub heated : (read write : Bool) → Link → Link
heated read write x = record x { read_hot = x.read_hot || read; write_hot = x.write_hot || write }

abbrev pub read_cold : Link → Link
read_cold x = record x { read_hot = false }

abbrev pub write_cold : Link → Link
write_cold x = record x { write_hot = false }

abbrev pub is_listening : Sort → Bool
is_listening Listening = true
is_listening sort = false

abbrev pub is_stream : Sort → Bool
is_stream Stream = true
is_stream sort = false

-- the coroutine whose call made it, where its `connect` isn't finished
abbrev pub connector : Sort → Option ℕ
connector (Connecting who) = Some who
connector sort = None
