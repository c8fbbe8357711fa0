-- Effects that leave the coroutines as they are.
use Rattle.std.proofs.Common.{◌≡◌, ◌∙◌, ◌==◌, ℕ, List, [], ◌∷◌, fold, filter, reverse, find, Bool, true, false, Option, Some, None, if◌then◌else◌, refl}
use Rattle.dill_calls.specs.declared.ran.Note.TheVariants.{Moved, Freed}
use Rattle.dill_handles.specs.Handles as handles
use Rattle.dill_base.specs.Maps.{if_some}
use Rattle.dill_rules.specs.declared.coroutine.Coroutine.{Coroutine}
use Rattle.dill_rules.specs.declared.thing.Thing.{Thing}
use Rattle.dill_rules.specs.declared.thing.Thing.TheVariants as things
use Rattle.dill_rules.specs.World.{World, note, from_start}
use Rattle.dill_rules.specs.Owning.{entry_of, take_thing, move, drop, release, close_bundle, free_bundle, is_dead_as}
use Rattle.dill_rules.specs.Taking.{bundle_of}
use Rattle.dill_rules.specs.Effects.{give_all}
use Rattle.dill_rules.specs.Settling.{close_owned, close_all, highest_first, is_owned_by, free_all, release_all, outcome_of, keep_end}

-- the same coroutines, and the same last number
pub record SameCrew {V : Type 0} (w v : World V) : Type 0 where
  pub coroutines : v.coroutines ≡ w.coroutines
  pub last : v.last_coroutine ≡ w.last_coroutine

module _ {V : Type 0} where
  pub no_change : (w : World V) → SameCrew w w
  no_change w = record { coroutines = refl; last = refl }

  pub crew_then : (w v u : World V) → SameCrew w v → SameCrew v u → SameCrew w u
  crew_then w v u a b = record { coroutines = b.coroutines ∙ a.coroutines; last = b.last ∙ a.last }

  pub some_crew : {A : Type 0} (o : Option A) (w v : World V) (f : A → World V) → SameCrew w v → ((a : A) → SameCrew w (f a)) → SameCrew w (if_some o v f)
  some_crew None w v f e h = e
  some_crew (Some a) w v f e h = h a

  pub fold_crew : {A : Type 0} (f : World V → A → World V) (xs : List A) (w : World V) → ((v : World V) (a : A) → SameCrew v (f v a)) → SameCrew w (fold f w xs)
  fold_crew f [] w h = no_change w
  fold_crew f (x ∷ xs) w h = crew_then w (f w x) (fold f (f w x) xs) (h w x) (fold_crew f xs (f w x) h)

  pub take_thing_crew : (w : World V) (thing : Thing) (owner : ℕ) → SameCrew w (take_thing w thing owner)
  take_thing_crew w (things.Bundle name) owner = record { coroutines = refl; last = refl }
  take_thing_crew w (things.End end) owner = no_change w
  take_thing_crew w (things.Listener link) owner = no_change w
  take_thing_crew w (things.Socket link) owner = no_change w
  take_thing_crew w (things.Value kind value) owner = no_change w

  pub move_crew : (w : World V) (number owner : ℕ) → SameCrew w (move w number owner)
  move_crew w number owner =
      some_crew (entry_of w number) w w (λ x. note (take_thing (record w { handles = handles.renumber w.handles number x.thing owner }) x.thing owner) (Moved number (handles.next_number w.handles))) (no_change w)
      (λ x. let t = take_thing_crew (record w { handles = handles.renumber w.handles number x.thing owner }) x.thing owner in record { coroutines = t.coroutines; last = t.last })

  drop_crew : (w : World V) (thing : Thing) → SameCrew w (drop w thing)
  drop_crew w (things.Bundle name) = no_change w
  drop_crew w (things.End end) = record { coroutines = refl; last = refl }
  drop_crew w (things.Listener link) = record { coroutines = refl; last = refl }
  drop_crew w (things.Socket link) = record { coroutines = refl; last = refl }
  drop_crew w (things.Value kind value) = no_change w

  pub release_crew : (w : World V) (number : ℕ) → SameCrew w (release w number)
  release_crew w number =
      some_crew (entry_of w number) w w (λ x. note (drop (record w { handles = handles.retire w.handles number }) x.thing) (Freed number)) (no_change w)
      (λ x. let t = drop_crew (record w { handles = handles.retire w.handles number }) x.thing in record { coroutines = t.coroutines; last = t.last })

  pub free_dead_crew : (w : World V) (number : ℕ) → SameCrew w (if_some (find (is_dead_as number) w.closings) w (free_bundle w))
  free_dead_crew w number = some_crew (find (is_dead_as number) w.closings) w w (free_bundle w) (no_change w) (λ x. record { coroutines = refl; last = refl })

  pub close_all_crew : (w : World V) (who : ℕ) → SameCrew w (close_all w who)
  close_all_crew w who =
      fold_crew (close_owned who) (filter (handles.is_owned who) w.handles.entries) w
      (λ v x. some_crew (bundle_of x.thing) v v (λ name. close_bundle v who name x.number) (no_change v) (λ name. record { coroutines = refl; last = refl }))

  pub give_all_crew : (w : World V) (numbers : List ℕ) (owner : ℕ) → SameCrew w (give_all w numbers owner)
  give_all_crew w numbers owner = fold_crew (λ now number. move now number owner) numbers w (λ v n. move_crew v n owner)

  -- a coroutine that finishes frees what it has
  pub bare_crew : (w : World V) (who : ℕ) → SameCrew w (release_all (free_all w who) who)
  bare_crew w who =
      crew_then w (free_all w who) (release_all (free_all w who) who)
      (fold_crew free_bundle (highest_first (filter (is_owned_by w who) w.closings)) w (λ v x. record { coroutines = refl; last = refl }))
      (fold_crew release (reverse (handles.numbers_of (free_all w who).handles who)) (free_all w who) (λ v n. release_crew v n))

  end_picks : (b : Bool) (w v : World V) → v.last_coroutine ≡ w.last_coroutine → (if b then v else w).last_coroutine ≡ w.last_coroutine
  end_picks true w v e = e
  end_picks false w v e = refl

  pub keep_end_last : (w : World V) (c : Coroutine V) → (keep_end w c).last_coroutine ≡ w.last_coroutine
  keep_end_last w c = end_picks (c.number == 1) w (from_start (record w { ended = Some (outcome_of c.mode) })) refl
