-- What keeps a world in order: answers and waits that close nothing, and handles that are made, moved and released.
use Rattle.std.proofs.Common.{◌≡◌, ◌∙◌, ℕ, ◌+◌, ◌≤◌, ◌==◌, List, [], ◌∷◌, ◌++◌, find, Bool, true, false, not, ◌||◌, Option, Some, None, refl, sym, ap, subst, arith}
use Rattle.std.proofs.lemmas.Bool.{and_parts}
use Rattle.std.specs.Prelude.{is_some, is_none}
use Rattle.std.specs.List.{list_all}
use Rattle.std.proofs.lemmas.Bool.Decides.{nat_tests}
use Rattle.rand_core.specs.Stream.{Stream}
use Rattle.dill_calls.specs.declared.answer.Answer.{Answer}
use Rattle.dill_calls.specs.declared.ran.Note.{Note}
use Rattle.dill_calls.specs.declared.ran.Note.TheVariants.{Moved, Freed}
use Rattle.dill_calls.specs.declared.word.Word.{Word}
use Rattle.dill_chan.specs.Channels.{Channels, leave}
use Rattle.dill_handles.specs.Handles as handles
use Rattle.dill_handles.specs.Handles.{Handles}
use Rattle.dill_handles.specs.declared.entry.Entry.{Entry}
use Rattle.dill_scope.specs.Scopes as scopes
use Rattle.dill_scope.specs.Scopes.{Scopes, owner_of}
use Rattle.dill_scope.specs.Forest.{Inside}
use Rattle.dill_base.specs.Maps.{if_some, change, without}
use Rattle.dill_rules.specs.declared.coroutine.Closing.{Closing}
use Rattle.dill_rules.specs.declared.coroutine.Coroutine.{Coroutine}
use Rattle.dill_rules.specs.declared.coroutine.Mode.{Mode}
use Rattle.dill_rules.specs.declared.coroutine.Mode.TheVariants as modes
use Rattle.dill_rules.specs.declared.thing.Thing.{Thing}
use Rattle.dill_rules.specs.declared.thing.Thing.TheVariants as things
use Rattle.dill_rules.specs.Links.{Links}
use Rattle.dill_rules.specs.Owning.{entry_of, is_dead_as, take_thing, move, drop, release}
use Rattle.dill_rules.specs.Taking.{bundle_of}
use Rattle.dill_rules.specs.World.{World, Place, is_coroutine, coroutine_of, with_mode, set_mode, reply, note, is_ending}
use Rattle.dill_rules.specs.Effects.{make, add_bundle}
use Rattle.laws_queue.specs.Well.{bit, is_at}
use Rattle.laws_sound.proofs.Lists.{all_found, all_without, all_follow, all_from}
use Rattle.laws_sound.specs.Order.{closes, waits_for, is_there, has_bundle, is_kept_open, has_waiter, has_closing, FitsTogether, IsInOrder, is_proper_thing}
use Rattle.laws_sound.specs.Orderly.{weigh}
use Rattle.laws_sound.proofs.Counting.{weightless, all_push}
use Rattle.laws_sound.proofs.Crews.{change_here}
use Rattle.laws_sound.proofs.Fitting.{closes_it, has_number, named, named_is, fits_anyway}
use Rattle.laws_sound.proofs.Handing.{equal, live, live_there, fits_make, fits_add_bundle}
use Rattle.laws_sound.proofs.Moving.{renumbered, fits_renumbered, fits_taken, fits_retired, fits_closed}
use Rattle.laws_sound.proofs.Nearly.{is_free, free_waits, nearly, near_change, settle_in}
use Rattle.laws_sound.proofs.Owners.{owns, new_is_free, bundle_other, take_other, close_same}

pub free_closes : (mode : Mode) → is_free mode ≡ true → (closes mode ≡ None) × (is_ending mode ≡ false)
free_closes mode e =
    let b = and_parts (is_none (closes mode)) (not (is_ending mode)) e in
    (none (closes mode) b.0, is_not (is_ending mode) b.1)
  where
    none : (o : Option ℕ) → is_none o ≡ true → o ≡ None
    none None f = refl
    none (Some n) f = cc

    is_not : (b : Bool) → not b ≡ true → b ≡ false
    is_not false f = refl
    is_not true f = cc

pub all_true : {X : Type 0} (xs : List X) → list_all (λ x. true) xs ≡ true
all_true [] = refl
all_true (x ∷ xs) = all_true xs

pub apart : (a b : ℕ) → not (a == b) ≡ true → a ≡ b → ⊥
apart a b e f = let t : (a == b) ≡ true = grind (arith, nat_tests) in let u : not true ≡ true = ap not (sym t) ∙ e in cc

module _ {V : Type 0} where
  -- what no part of it speaks of
  pub order_anyway : (w : World V) (c : Channels) (l : Links) (place : Place) (random : Stream) (moment : ℕ) (notes : List Note) → IsInOrder w → IsInOrder (record w { channels = c; links = l; place = place; random = random; moment = moment; notes = notes })
  order_anyway w c l place random moment notes o = record { fits = fits_anyway w c l place random moment notes o.fits; closings = o.closings; waiters = o.waiters; endings = o.endings }

  -- who waits for no bundle to close owns none that is closing
  pub free_owns : (w : World V) (who : ℕ) (c : Coroutine V) → IsInOrder w → coroutine_of w who ≡ Some c → is_free c.mode ≡ true → list_all (λ x. not (owns w.scopes who x.bundle)) w.closings ≡ true
  free_owns w who c o e free = all_follow (has_waiter w) (λ x. not (owns w.scopes who x.bundle)) w.closings (λ x f. at x (owner_of w.scopes x.bundle) f) o.closings
    where
      at : (x : Closing) (p : Option ℕ) → if_some p false (is_at (waits_for x.number) w.coroutines) ≡ true → not (if_some p false (λ owner. owner == who)) ≡ true
      at x None f = refl
      at x (Some n) f = by (n == who) refl
        where
          by : (b : Bool) → (n == who) ≡ b → not b ≡ true
          by true g =
              let here : is_at (waits_for x.number) w.coroutines who ≡ true = subst (λ m. is_at (waits_for x.number) w.coroutines m ≡ true) (equal n who g) f in
              let there : is_at (waits_for x.number) w.coroutines who ≡ waits_for x.number c.mode = ap (λ q. if_some q false (λ d. waits_for x.number d.mode)) e in
              let none = free_waits c.mode x.number free in
              cc
          by false g = refl

  -- who isn't ending may have live numbers of bundles
  pub going_open : (w : World V) (who : ℕ) (c : Coroutine V) → coroutine_of w who ≡ Some c → is_ending c.mode ≡ false → list_all (λ x. not (x.owner == who) || is_kept_open w x) w.handles.entries ≡ true
  going_open w who c e going = all_follow (λ x. true) (λ x. not (x.owner == who) || is_kept_open w x) w.handles.entries (λ x g. at x (x.owner == who) refl) (all_true w.handles.entries)
    where
      kept : (p : Option ℕ) (t : Bool) → t ≡ false → if_some p true (λ name. not t) ≡ true
      kept None t i = refl
      kept (Some n) t i = ap not i

      at : (x : Entry Thing) (b : Bool) → (x.owner == who) ≡ b → (not b || is_kept_open w x) ≡ true
      at x false g = refl
      at x true g = kept (bundle_of x.thing) (is_at is_ending w.coroutines x.owner) (ap (is_at is_ending w.coroutines) (equal x.owner who g) ∙ ap (λ q. if_some q false (λ d. is_ending d.mode)) e ∙ going)

  -- one that waits for no bundle to close changes, and still waits for none
  pub order_free : (w : World V) (who : ℕ) (c : Coroutine V) (f : Coroutine V → Coroutine V) → ((d : Coroutine V) → (f d).number ≡ d.number) → IsInOrder w → coroutine_of w who ≡ Some c → is_free c.mode ≡ true → is_free (f c).mode ≡ true → IsInOrder (record w { coroutines = change (is_coroutine who) f w.coroutines })
  order_free w who c f same o e free still =
      let v = record w { coroutines = change (is_coroutine who) f w.coroutines } in
      let here : coroutine_of v who ≡ Some (f c) = change_here f same who w.coroutines c e in
      let told = free_closes (f c).mode still in
      settle_in v who (f c) (near_change w who f same (nearly w who o)) here
      (all_follow (λ x. not (owns w.scopes who x.bundle)) (λ x. not (owns w.scopes who x.bundle) || waits_for x.number (f c).mode) w.closings (λ x g. ap (λ b. b || waits_for x.number (f c).mode) g) (free_owns w who c o e free))
      (ap (λ p. if_some p true (λ number. if_some (find (is_dead_as number) w.closings) false (λ x. has_bundle w (f c).number x.bundle))) told.0)
      (going_open v who (f c) here told.1)

  pub order_set : (w : World V) (who : ℕ) (c : Coroutine V) (mode : Mode) → IsInOrder w → coroutine_of w who ≡ Some c → is_free c.mode ≡ true → is_free mode ≡ true → IsInOrder (set_mode w who mode)
  order_set w who c mode o e free still = order_free w who c (with_mode mode) (λ d. refl) o e free still

  -- it is answered
  pub order_reply : (w : World V) (who : ℕ) (c : Coroutine V) (word : Word) (answer : Answer) → IsInOrder w → coroutine_of w who ≡ Some c → is_free c.mode ≡ true → IsInOrder (reply w who word answer)
  order_reply w who c word answer o e free =
      let v = set_mode w who (modes.Fresh word answer) in
      order_anyway v (leave w.channels who) w.links w.place w.random w.moment w.notes (order_set w who c (modes.Fresh word answer) o e free refl)

  -- ---- handles

  closing_as : (w : World V) (s : Scopes) (guard : Closing → Bool) → list_all guard w.closings ≡ true → ((x : Closing) → guard x ≡ true → owner_of s x.bundle ≡ owner_of w.scopes x.bundle) → (c : Coroutine V) → has_closing w c ≡ true → has_closing (record w { scopes = s }) c ≡ true
  closing_as w s guard all same c e = at (closes c.mode) e
    where
      at : (o : Option ℕ) → if_some o true (λ number. if_some (find (is_dead_as number) w.closings) false (λ x. has_bundle w c.number x.bundle)) ≡ true → if_some o true (λ number. if_some (find (is_dead_as number) w.closings) false (λ x. has_bundle (record w { scopes = s }) c.number x.bundle)) ≡ true
      at None f = refl
      at (Some number) f = by (find (is_dead_as number) w.closings) refl f
        where
          by : (o : Option Closing) → find (is_dead_as number) w.closings ≡ o → if_some o false (λ x. has_bundle w c.number x.bundle) ≡ true → if_some o false (λ x. has_bundle (record w { scopes = s }) c.number x.bundle) ≡ true
          by None g h = h
          by (Some x) g h = ap (λ p. if_some p false (λ owner. owner == c.number)) (same x (all_found guard (is_dead_as number) w.closings x all g)) ∙ h

  -- other handles and scopes, whose closings have the same owners
  pub order_with : (w : World V) (h : Handles Thing) (s : Scopes) (last : ℕ) (guard : Closing → Bool) → IsInOrder w → FitsTogether (record w { handles = h; scopes = s; last_bundle = last }) → list_all guard w.closings ≡ true → ((x : Closing) → guard x ≡ true → owner_of s x.bundle ≡ owner_of w.scopes x.bundle) → list_all (is_kept_open w) h.entries ≡ true → IsInOrder (record w { handles = h; scopes = s; last_bundle = last })
  order_with w h s last guard o fits all same kept = record {
    fits = fits;
    closings = all_from guard (has_waiter w) (has_waiter (record w { scopes = s })) w.closings (λ x f g. ap (λ p. if_some p false (is_at (waits_for x.number) w.coroutines)) (same x f) ∙ g) all o.closings;
    waiters = all_follow (has_closing w) (has_closing (record w { scopes = s })) w.coroutines (closing_as w s guard all same) o.waiters;
    endings = kept;
  }

  kept_open : (w : World V) (x : Entry Thing) → is_at is_ending w.coroutines x.owner ≡ false → is_kept_open w x ≡ true
  kept_open w x e = at (bundle_of x.thing)
    where
      at : (o : Option ℕ) → if_some o true (λ name. not (is_at is_ending w.coroutines x.owner)) ≡ true
      at None = refl
      at (Some n) = ap not e

  pub order_keep : (w : World V) (count : ℕ) → FitsTogether (record w { handles = handles.keep w.handles count }) → IsInOrder w → IsInOrder (record w { handles = handles.keep w.handles count })
  order_keep w count fits o = record { fits = fits; closings = o.closings; waiters = o.waiters; endings = o.endings }

  pub order_make : (w : World V) (thing : Thing) (who : ℕ) → bundle_of thing ≡ None → is_proper_thing thing ≡ true → is_there w who ≡ true → 1 ≤ w.handles.kept → IsInOrder w → IsInOrder (make w thing who)
  order_make w thing who none proper there kept o =
      let y : Entry Thing = record { number = handles.next_number w.handles; thing = thing; owner = who } in
      order_with w (handles.make w.handles thing who) w.scopes w.last_bundle (λ x. true) o (fits_make w thing who none proper there kept o.fits) (all_true w.closings) (λ x e. refl)
      (all_push (is_kept_open w) w.handles.entries y o.endings (ap (λ p. if_some p true (λ name. not (is_at is_ending w.coroutines who))) none))

  pub order_add_bundle : (w : World V) (who : ℕ) → is_there w who ≡ true → is_at is_ending w.coroutines who ≡ false → 1 ≤ w.handles.kept → IsInOrder w → IsInOrder (add_bundle w who)
  order_add_bundle w who there going kept o =
      let new = w.last_bundle + 1 in
      let y : Entry Thing = record { number = handles.next_number w.handles; thing = things.Bundle new; owner = who } in
      let n : named w.handles.entries w.closings new ≡ 0 = sym (named_is w.handles.entries w.closings new) ∙ o.fits.names new ∙ ap (λ p. bit (is_some p)) (new_is_free w.scopes new o.fits.bundles) in
      let none : weigh (λ x. bit (closes_it new x)) w.closings ≡ 0 = omega (arith, n) in
      order_with w (handles.make w.handles (things.Bundle new) who) (scopes.bundle w.scopes new who) new (λ x. not (closes_it new x)) o (fits_add_bundle w who there kept o.fits) (weightless (closes_it new) w.closings none)
      (λ x e. bundle_other w.scopes new who x.bundle (apart x.bundle new e)) (all_push (is_kept_open w) w.handles.entries y o.endings (kept_open w y going))

  -- a live number that moves
  module _ (w : World V) (number owner : ℕ) (x : Entry Thing) (o : IsInOrder w) (e : entry_of w number ≡ Some x) (there : is_there w owner ≡ true) (going : is_at is_ending w.coroutines owner ≡ false) where
    abbrev moved : Entry Thing
    moved = record { number = handles.next_number w.handles; thing = x.thing; owner = owner }

    moved_open : list_all (is_kept_open w) (without (has_number number) w.handles.entries ++ moved ∷ []) ≡ true
    moved_open = all_push (is_kept_open w) (without (has_number number) w.handles.entries) moved (all_without (is_kept_open w) (has_number number) w.handles.entries o.endings) (kept_open w moved going)

    order_renumbered : bundle_of x.thing ≡ None → IsInOrder (renumbered w number x.thing owner)
    order_renumbered none = order_with w (handles.renumber w.handles number x.thing owner) w.scopes w.last_bundle (λ y. true) o (fits_renumbered w number owner x o.fits e there none) (all_true w.closings) (λ y f. refl) moved_open

    order_taken : (name : ℕ) → x.thing ≡ things.Bundle name → (Inside w.scopes name owner → ⊥) → IsInOrder (record (renumbered w number x.thing owner) { scopes = scopes.take w.scopes name owner })
    order_taken name t out =
        let l = live w number name x o.fits e t in
        order_with w (handles.renumber w.handles number x.thing owner) (scopes.take w.scopes name owner) w.last_bundle (λ y. not (closes_it name y)) o (fits_taken w number owner x o.fits e there name t out) l.closings
        (λ y f. take_other w.scopes name owner y.bundle (apart y.bundle name f)) moved_open

    noted : (v : World V) → IsInOrder v → IsInOrder (note v (Moved number (handles.next_number w.handles)))
    noted v i = order_anyway v v.channels v.links v.place v.random v.moment (v.notes ++ Moved number (handles.next_number w.handles) ∷ []) i

    pub order_moved : (t : Thing) → x.thing ≡ t → ((name : ℕ) → x.thing ≡ things.Bundle name → Inside w.scopes name owner → ⊥) → IsInOrder (note (take_thing (renumbered w number t owner) t owner) (Moved number (handles.next_number w.handles)))
    order_moved (things.Bundle name) f out = subst (λ u. IsInOrder (note (record (renumbered w number u owner) { scopes = scopes.take w.scopes name owner }) (Moved number (handles.next_number w.handles)))) f (noted (record (renumbered w number x.thing owner) { scopes = scopes.take w.scopes name owner }) (order_taken name f (out name f)))
    order_moved (things.End end) f out = subst (λ u. IsInOrder (note (renumbered w number u owner) (Moved number (handles.next_number w.handles)))) f (noted (renumbered w number x.thing owner) (order_renumbered (ap bundle_of f)))
    order_moved (things.Listener link) f out = subst (λ u. IsInOrder (note (renumbered w number u owner) (Moved number (handles.next_number w.handles)))) f (noted (renumbered w number x.thing owner) (order_renumbered (ap bundle_of f)))
    order_moved (things.Socket link) f out = subst (λ u. IsInOrder (note (renumbered w number u owner) (Moved number (handles.next_number w.handles)))) f (noted (renumbered w number x.thing owner) (order_renumbered (ap bundle_of f)))
    order_moved (things.Value kind value) f out = subst (λ u. IsInOrder (note (renumbered w number u owner) (Moved number (handles.next_number w.handles)))) f (noted (renumbered w number x.thing owner) (order_renumbered (ap bundle_of f)))

  pub order_move : (w : World V) (number owner : ℕ) → IsInOrder w → is_there w owner ≡ true → is_at is_ending w.coroutines owner ≡ false → ((x : Entry Thing) (name : ℕ) → entry_of w number ≡ Some x → x.thing ≡ things.Bundle name → Inside w.scopes name owner → ⊥) → IsInOrder (move w number owner)
  order_move w number owner o there going out = at (entry_of w number) refl
    where
      at : (p : Option (Entry Thing)) → entry_of w number ≡ p → IsInOrder (if_some p w (λ x. note (take_thing (renumbered w number x.thing owner) x.thing owner) (Moved number (handles.next_number w.handles))))
      at None e = o
      at (Some x) e = order_moved w number owner x o e there going x.thing refl (λ name f. out x name e f)

  -- a number that names no bundle is released
  module _ (w : World V) (number : ℕ) (x : Entry Thing) (o : IsInOrder w) (e : entry_of w number ≡ Some x) (none : bundle_of x.thing ≡ None) where
    abbrev retired : World V
    retired = record w { handles = handles.retire w.handles number }

    order_retired : IsInOrder retired
    order_retired = order_with w (handles.retire w.handles number) w.scopes w.last_bundle (λ y. true) o (fits_retired w number x.owner x o.fits e (live_there w number x o.fits e) none) (all_true w.closings) (λ y f. refl) (all_without (is_kept_open w) (has_number number) w.handles.entries o.endings)

    order_dropped : (t : Thing) → bundle_of t ≡ None → IsInOrder (note (drop retired t) (Freed number))
    order_dropped (things.Bundle name) f = cc
    order_dropped (things.End end) f = order_anyway retired (drop retired (things.End end)).channels w.links w.place w.random w.moment (w.notes ++ Freed number ∷ []) order_retired
    order_dropped (things.Listener link) f = order_anyway retired w.channels (drop retired (things.Listener link)).links w.place w.random w.moment (w.notes ++ Freed number ∷ []) order_retired
    order_dropped (things.Socket link) f = order_anyway retired w.channels (drop retired (things.Socket link)).links w.place w.random w.moment (w.notes ++ Freed number ∷ []) order_retired
    order_dropped (things.Value kind value) f = order_anyway retired w.channels w.links w.place w.random w.moment (w.notes ++ Freed number ∷ []) order_retired

  pub order_release : (w : World V) (number : ℕ) → IsInOrder w → ((x : Entry Thing) → entry_of w number ≡ Some x → bundle_of x.thing ≡ None) → IsInOrder (release w number)
  order_release w number o none = at (entry_of w number) refl
    where
      at : (p : Option (Entry Thing)) → entry_of w number ≡ p → IsInOrder (if_some p w (λ x. note (drop (record w { handles = handles.retire w.handles number }) x.thing) (Freed number)))
      at None e = o
      at (Some x) e = order_dropped w number x o e (none x e) x.thing (none x e)

  -- the closing of a bundle begins
  pub order_closed : (w : World V) (name : ℕ) → IsInOrder w → IsInOrder (record w { scopes = scopes.close w.scopes name })
  order_closed w name o = order_with w w.handles (scopes.close w.scopes name) w.last_bundle (λ y. true) o (fits_closed w name o.fits) (all_true w.closings) (λ y f. close_same w.scopes name y.bundle) o.endings
