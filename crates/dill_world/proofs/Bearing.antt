-- Gifts may go to a child before or after it is there.
use Rattle.std.proofs.Common.{◌≡◌, ℕ, List, [], ◌∷◌, Option, Some, None, refl, ap, ◌∙◌}
use Rattle.dill_calls.specs.declared.ran.Note.TheVariants.{Moved}
use Rattle.dill_handles.specs.Handles as handles
use Rattle.dill_handles.specs.declared.entry.Entry.{Entry}
use Rattle.dill_base.specs.Maps.{if_some}
use Rattle.dill_rules.specs.declared.thing.Thing.{Thing}
use Rattle.dill_rules.specs.declared.thing.Thing.TheVariants as things
use Rattle.dill_rules.specs.World.{World, note}
use Rattle.dill_rules.specs.Owning.{entry_of, take_thing, move}
use Rattle.dill_rules.specs.Effects.{bear, give_all}

module _ {V : Type 0} (view : V) (home : ℕ) where
  take_bears : (w : World V) (thing : Thing) (owner : ℕ) → take_thing (bear w view home) thing owner ≡ bear (take_thing w thing owner) view home
  take_bears w (things.Bundle name) owner = refl
  take_bears w (things.End end) owner = refl
  take_bears w (things.Listener link) owner = refl
  take_bears w (things.Socket link) owner = refl
  take_bears w (things.Value kind value) owner = refl

  moved : (w : World V) (number owner : ℕ) → Entry Thing → World V
  moved w number owner x = note (take_thing (record w { handles = handles.renumber w.handles number x.thing owner }) x.thing owner) (Moved number (handles.next_number w.handles))

  found_bears : (w : World V) (number owner : ℕ) (found : Option (Entry Thing)) → if_some found (bear w view home) (moved (bear w view home) number owner) ≡ bear (if_some found w (moved w number owner)) view home
  unfolding moved
  found_bears w number owner None = refl
  found_bears w number owner (Some x) = ap (λ v. note v (Moved number (handles.next_number w.handles))) (take_bears (record w { handles = handles.renumber w.handles number x.thing owner }) x.thing owner)

  move_bears : (w : World V) (number owner : ℕ) → move (bear w view home) number owner ≡ bear (move w number owner) view home
  unfolding moved
  move_bears w number owner = found_bears w number owner (entry_of w number)

  pub give_all_bears : (numbers : List ℕ) (w : World V) (owner : ℕ) → give_all (bear w view home) numbers owner ≡ bear (give_all w numbers owner) view home
  give_all_bears [] w owner = refl
  give_all_bears (n ∷ ns) w owner = ap (λ v. give_all v ns owner) (move_bears w n owner) ∙ give_all_bears ns (move w n owner) owner
