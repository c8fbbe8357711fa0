-- Owners: taking a handle, giving it a new number, releasing it, and the closing of a bundle.
use Rattle.std.specs.Prelude.{◌≡◌, ℕ, ◌==◌, [], ◌∷◌, ◌++◌, Bool, Option, Some}
use Rattle.dill_calls.specs.declared.ran.Note.TheVariants.{Moved, Freed}
use Rattle.dill_handles.specs.Handles as handles
use Rattle.dill_handles.specs.declared.entry.Entry.{Entry}
use Rattle.dill_scope.specs.Scopes as scopes
use Rattle.dill_chan.specs.Channels as channels
use Rattle.dill_base.specs.Maps.{if_some, without}
use Rattle.dill_rules.specs.declared.coroutine.Closing.{Closing}
use Rattle.dill_rules.specs.declared.thing.Thing.{Thing}
use Rattle.dill_rules.specs.declared.thing.Thing.TheVariants as things
use Rattle.dill_rules.specs.Links.{change_link, as_closing}
use Rattle.dill_rules.specs.World.{World, note}

abbrev pub is_closing_of : ℕ → Closing → Bool
is_closing_of bundle x = x.bundle == bundle

abbrev pub is_dead_as : ℕ → Closing → Bool
is_dead_as number x = x.number == number

module _ {V : Type 0} where
  -- what a live number names, and its owner
  abbrev pub entry_of : World V → ℕ → Option (Entry Thing)
  entry_of w number = handles.look w.handles number

  -- a bundle goes to the owner of its handle, and nothing else has an owner beside its handle's
  abbrev pub take_thing : World V → Thing → ℕ → World V
  take_thing w (things.Bundle name) owner = record w { scopes = scopes.take w.scopes name owner }
  take_thing w thing owner = w

  -- a coroutine becomes the owner of what a live number names
  abbrev pub take : World V → ℕ → ℕ → World V
  take w number owner =
      if_some (entry_of w number) w (λ x. take_thing (record w { handles = handles.set_owner w.handles number owner }) x.thing owner)

  -- the number is dead, and the next one, which was kept, names its thing for an owner
  abbrev pub move : World V → ℕ → ℕ → World V
  move w number owner =
      if_some (entry_of w number) w (λ x. note (take_thing (record w { handles = handles.renumber w.handles number x.thing owner }) x.thing owner) (Moved number (handles.next_number w.handles)))

  -- what becomes of a thing that is released: an end is gone, and the `close` of a link is due
  abbrev pub drop : World V → Thing → World V
  drop w (things.End end) = record w { channels = channels.drop_end w.channels end }
  drop w (things.Listener link) = record w { links = change_link w.links link as_closing }
  drop w (things.Socket link) = record w { links = change_link w.links link as_closing }
  drop w thing = w

  -- the number is dead, and its thing is gone
  abbrev pub release : World V → ℕ → World V
  release w number =
      if_some (entry_of w number) w (λ x. note (drop (record w { handles = handles.retire w.handles number }) x.thing) (Freed number))

  -- a bundle of an owner begins to close, and its number is dead
  abbrev pub close_bundle : World V → ℕ → ℕ → ℕ → World V
  close_bundle w owner name number = record w {
    handles = handles.retire w.handles number;
    scopes = scopes.close (scopes.take w.scopes name owner) name;
    closings = w.closings ++ record { bundle = name; number = number } ∷ [];
  }

  -- a bundle that has closed is gone
  abbrev pub free_bundle : World V → Closing → World V
  free_bundle w x = note (record w {
    scopes = scopes.drop_bundle w.scopes x.bundle;
    closings = without (is_closing_of x.bundle) w.closings;
  }) (Freed x.number)

  -- The owner of a bundle that has a live number is the owner of that number.
  pub record OneOwner (w : World V) : Type 0 where
    pub bundles : (number name : ℕ) (x : Entry Thing) → entry_of w number ≡ Some x → x.thing ≡ things.Bundle name → scopes.owner_of w.scopes name ≡ Some x.owner
