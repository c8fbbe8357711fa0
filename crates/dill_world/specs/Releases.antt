-- The numbers that an ending releases, the ends and the links that they named, and the notes of that.
use Rattle.std.specs.Prelude.{ℕ, List, [], ◌∷◌, map, filter, fold, reverse, if◌then◌else◌}
use Rattle.dill_calls.specs.declared.ran.Note.{Note}
use Rattle.dill_calls.specs.declared.ran.Note.TheVariants.{Freed}
use Rattle.dill_handles.specs.Handles as handles
use Rattle.dill_handles.specs.declared.entry.Entry.{Entry}
use Rattle.dill_chan.specs.Channels.{Channels, drop_end}
use Rattle.dill_base.specs.Maps.{if_some}
use Rattle.dill_rules.specs.Answers.{end_of}
use Rattle.dill_rules.specs.Links.{Links, change_link, as_closing}
use Rattle.dill_rules.specs.Sockets.{link_of}
use Rattle.dill_rules.specs.declared.thing.Thing.{Thing}

-- the notes that these numbers were released
abbrev pub freed : List ℕ → List Note
freed numbers = map (λ n. Freed n) numbers

-- a handle's number, if a coroutine owns it
abbrev pub owned_number : ℕ → Entry Thing → List ℕ
owned_number who x = if handles.is_owned who x then x.number ∷ [] else []

-- the numbers of a coroutine, the highest first
abbrev pub falling : ℕ → List (Entry Thing) → List ℕ
falling who entries = reverse (map (λ x. x.number) (filter (handles.is_owned who) entries))

-- these numbers are dead
abbrev pub retire_all : handles.Handles Thing → List ℕ → handles.Handles Thing
retire_all h numbers = fold handles.retire h numbers

-- the numbers that notes say were released are dead
abbrev pub retire_noted_one : handles.Handles Thing → Note → handles.Handles Thing
retire_noted_one h (Freed n) = handles.retire h n
retire_noted_one h note = h

abbrev pub retire_noted : handles.Handles Thing → List Note → handles.Handles Thing
retire_noted h notes = fold retire_noted_one h notes

-- an end of a channel is gone, if a thing is one
abbrev pub drop_end_of : Channels → Thing → Channels
drop_end_of c thing = if_some (end_of thing) c (drop_end c)

-- the `close` of the link that a thing is on is due, if it is on one
abbrev pub close_link : Links → Thing → Links
close_link l thing = if_some (link_of thing) l (λ link. change_link l link as_closing)

-- the end that a number names is gone
abbrev pub drop_named : handles.Handles Thing → Channels → ℕ → Channels
drop_named h c number = if_some (handles.look h number) c (λ x. drop_end_of c x.thing)

-- the `close` of the link that a number names is due
abbrev pub close_named : handles.Handles Thing → Links → ℕ → Links
close_named h l number = if_some (handles.look h number) l (λ x. close_link l x.thing)

-- the ends that these numbers name, which die one after the other, are gone
abbrev pub drop_all : handles.Handles Thing → Channels → List ℕ → Channels
drop_all h c [] = c
drop_all h c (n ∷ ns) = drop_all (handles.retire h n) (drop_named h c n) ns

-- the end is gone that a number named that a note says was released
abbrev pub drop_noted_one : handles.Handles Thing → Channels → Note → Channels
drop_noted_one h c (Freed n) = drop_named h c n
drop_noted_one h c note = c

abbrev pub drop_noted : handles.Handles Thing → Channels → List Note → Channels
drop_noted h c [] = c
drop_noted h c (x ∷ xs) = drop_noted (retire_noted_one h x) (drop_noted_one h c x) xs

-- the `close` of each link that these numbers name, which die one after the other, is due
abbrev pub close_all_named : handles.Handles Thing → Links → List ℕ → Links
close_all_named h l [] = l
close_all_named h l (n ∷ ns) = close_all_named (handles.retire h n) (close_named h l n) ns

-- the `close` of the link is due that a number named that a note says was released
abbrev pub close_noted_one : handles.Handles Thing → Links → Note → Links
close_noted_one h l (Freed n) = close_named h l n
close_noted_one h l note = l

abbrev pub close_noted : handles.Handles Thing → Links → List Note → Links
close_noted h l [] = l
close_noted h l (x ∷ xs) = close_noted (retire_noted_one h x) (close_noted_one h l x) xs
