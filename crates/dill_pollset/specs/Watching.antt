-- The links that are watched: in which directions each is wanted and hot, and which is due next.
use Rattle.std.specs.Prelude.{ℕ, ◌+◌, ◌-◌, ◌==◌, List, [], ◌∷◌, Bool, true, false, not, ◌&&◌, ◌||◌, if◌then◌else◌, min, nat_lt, Option, Some, None}
use Rattle.std.specs.List.{list_any}
use Rattle.dill_base.specs.Maps.{change, without}
use Rattle.dill_pollset.specs.declared.interest.Interest.{Interest}
use Rattle.dill_pollset.specs.declared.pollset.Change.{Change}
use Rattle.dill_pollset.specs.declared.pollset.Change.TheVariants.{Want, Heat, Cool}
use Rattle.dill_pollset.specs.declared.interest.Side.{Side}

-- links in rising order, and for how many more there is room
pub record Watched : Type 0 where
  pub interests : List Interest
  pub kept : ℕ

-- no link, and no room
abbrev pub nothing_watched : Watched
nothing_watched = record { interests = []; kept = 0 }

abbrev pub is_of : ℕ → Interest → Bool
is_of link x = x.link == link

-- the link is there
abbrev pub has_link : Watched → ℕ → Bool
has_link w link = list_any (is_of link) w.interests

-- room for one more
abbrev pub keep : Watched → Watched
keep w = record w { kept = w.kept + 1 }

-- room for one less
abbrev pub unkeep : Watched → Watched
unkeep w = record w { kept = w.kept - 1 }

-- a new link is hot in both directions, and wanted in none
abbrev pub fresh : ℕ → Interest
fresh link = record { link = link; reads = record { wanted = false; hot = true }; writes = record { wanted = false; hot = true } }

-- a link of a greater number
abbrev pub is_above : ℕ → Interest → Bool
is_above link x = nat_lt link x.link

-- before the first link of a greater number
abbrev pub placed : Interest → List Interest → List Interest
placed new [] = new ∷ []
placed new (x ∷ rest) = if nat_lt new.link x.link then new ∷ x ∷ rest else x ∷ placed new rest

-- one link more, for which there was room
abbrev pub add : Watched → ℕ → Watched
add w link = record { interests = placed (fresh link) w.interests; kept = w.kept - 1 }

-- one link less
abbrev pub drop_link : Watched → ℕ → Watched
drop_link w link = record w { interests = without (is_of link) w.interests }

-- a link with these interests
abbrev pub wanting : Bool → Bool → Interest → Interest
wanting read write x = record { link = x.link; reads = record { wanted = read; hot = x.reads.hot }; writes = record { wanted = write; hot = x.writes.hot } }

-- hot in these directions too
abbrev pub heated : Bool → Bool → Interest → Interest
heated read write x = record { link = x.link; reads = record { wanted = x.reads.wanted; hot = x.reads.hot || read }; writes = record { wanted = x.writes.wanted; hot = x.writes.hot || write } }

-- cold in these directions
abbrev pub cooled : Bool → Bool → Interest → Interest
cooled read write x = record { link = x.link; reads = record { wanted = x.reads.wanted; hot = x.reads.hot && not read }; writes = record { wanted = x.writes.wanted; hot = x.writes.hot && not write } }

-- what is said of a link in a direction or in both
abbrev pub changed : Change → Bool → Bool → Interest → Interest
changed Want read write x = wanting read write x
changed Heat read write x = heated read write x
changed Cool read write x = cooled read write x

-- a link that is there is changed
abbrev pub at_link : Watched → ℕ → (Interest → Interest) → Watched
at_link w link f = record w { interests = change (is_of link) f w.interests }

-- the direction for reading, or that for writing
abbrev pub side : Bool → Interest → Side
side true x = x.reads
side false x = x.writes

-- wanted and hot in that direction
abbrev pub is_due : Bool → Interest → Bool
is_due read x = (side read x).wanted && (side read x).hot

-- the lesser of two numbers, or the one that is there
abbrev pub lesser : Option ℕ → Option ℕ → Option ℕ
lesser None b = b
lesser (Some a) None = Some a
lesser (Some a) (Some b) = Some (min a b)

-- the number of a link that is due above a number
abbrev pub due_above : Bool → ℕ → Interest → Option ℕ
due_above read after x = if is_due read x && nat_lt after x.link then Some x.link else None

-- the least link above a number that is wanted and hot in that direction
abbrev pub next_due : Bool → ℕ → List Interest → Option ℕ
next_due read after [] = None
next_due read after (x ∷ rest) = lesser (due_above read after x) (next_due read after rest)
