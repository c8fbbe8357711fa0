-- Handles: a finite map from live numbers to things and owners, how many numbers are kept, and the last that was given.
use Rattle.std.specs.Prelude.{ℕ, ◌+◌, ◌-◌, ◌==◌, List, [], ◌∷◌, ◌++◌, length, map, filter, find, Bool, not, ◌&&◌, Option, None, nat_le, nat_lt}
use Rattle.std.specs.List.{last_or}
use Rattle.dill_base.specs.Maps.{change, without}
use Rattle.dill_handles.specs.declared.entry.Entry.{Entry}

-- numbers are given from 1 on, each is the last one's successor, and none is given again
pub record Handles (T : Type 0) : Type 0 where
  pub entries : List (Entry T)
  pub kept : ℕ
  pub last : ℕ

-- how many handles there are at most, those that are kept included
abbrev pub most_handles : ℕ
most_handles = 65536

-- the greatest number
abbrev pub last_number : ℕ
last_number = 2147483647

abbrev pub is_entry : {T : Type 0} → ℕ → Entry T → Bool
is_entry number x = x.number == number

abbrev pub is_owned : {T : Type 0} → ℕ → Entry T → Bool
is_owned owner x = x.owner == owner

module _ {T : Type 0} where
  abbrev pub no_handles : Handles T
  no_handles = record { entries = []; kept = 0; last = 0 }

  -- so many more may be kept: neither the handles nor the numbers that are left are too few
  abbrev pub has_room : Handles T → ℕ → Bool
  has_room h count = nat_le (length h.entries + h.kept + count) most_handles && nat_le (h.last + h.kept + count) last_number

  -- not one more may be kept
  abbrev pub is_full : Handles T → Bool
  is_full h = not (has_room h 1)

  -- so many numbers more are kept
  abbrev pub keep : Handles T → ℕ → Handles T
  keep h count = record h { kept = h.kept + count }

  -- so many kept numbers are given back
  abbrev pub unkeep : Handles T → ℕ → Handles T
  unkeep h count = record h { kept = h.kept - count }

  -- the number that is given next
  abbrev pub next_number : Handles T → ℕ
  next_number h = h.last + 1

  -- the next number, which was kept, names the thing
  abbrev pub make : Handles T → T → ℕ → Handles T
  make h thing owner = record {
    entries = h.entries ++ record { number = next_number h; thing = thing; owner = owner } ∷ [];
    kept = h.kept - 1;
    last = next_number h;
  }

  -- what a live number names, and its owner
  abbrev pub look : Handles T → ℕ → Option (Entry T)
  look h number = find (is_entry number) h.entries

  abbrev pub with_thing : (T → T) → Entry T → Entry T
  with_thing f x = record x { thing = f x.thing }

  abbrev pub with_owner : ℕ → Entry T → Entry T
  with_owner owner x = record x { owner = owner }

  -- the thing that a live number names is changed
  abbrev pub change_thing : Handles T → ℕ → (T → T) → Handles T
  change_thing h number f = record h { entries = change (is_entry number) (with_thing f) h.entries }

  -- a live number has another owner
  abbrev pub set_owner : Handles T → ℕ → ℕ → Handles T
  set_owner h number owner = record h { entries = change (is_entry number) (with_owner owner) h.entries }

  -- the number is dead
  abbrev pub retire : Handles T → ℕ → Handles T
  retire h number = record h { entries = without (is_entry number) h.entries }

  -- the number is dead, and the next one, which was kept, names its thing
  abbrev pub renumber : Handles T → ℕ → T → ℕ → Handles T
  renumber h number thing owner = make (retire h number) thing owner

  -- the numbers that a coroutine owns, rising
  abbrev pub numbers_of : Handles T → ℕ → List ℕ
  numbers_of h owner = map (λ x. x.number) (filter (is_owned owner) h.entries)

  -- the highest number below a bound that a coroutine owns
  abbrev pub owned_by : Handles T → ℕ → ℕ → Option ℕ
  owned_by h owner below = last_or None (filter (λ n. nat_lt n below) (numbers_of h owner))

  -- how many numbers are dead
  abbrev pub gone : Handles T → ℕ
  gone h = h.last - length h.entries
