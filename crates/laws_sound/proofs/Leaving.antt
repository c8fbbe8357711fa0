-- Coroutines that come and go, and answers that get their places: what keeps a world in order.
use Rattle.std.proofs.Common.{◌≡◌, ◌∙◌, ℕ, ◌<◌, ◌==◌, List, [], ◌∷◌, ◌++◌, length, map, find, fold, Bool, true, false, not, ◌||◌, cond, Option, Some, None, if◌then◌else◌, refl, sym, ap, subst}
use Rattle.std.proofs.lemmas.Bool.{and_parts, or_right}
use Rattle.std.specs.Prelude.{filter, reverse}
use Rattle.std.specs.List.{list_all, list_any}
use Rattle.dill_calls.specs.declared.ran.Note.TheVariants.{Freed}
use Rattle.dill_handles.specs.Handles as handles
use Rattle.dill_handles.specs.declared.entry.Entry.{Entry}
use Rattle.dill_scope.specs.Scopes as scopes
use Rattle.dill_scope.specs.Scopes.{owner_of}
use Rattle.dill_scope.specs.Keeping.{IsKnown}
use Rattle.dill_scope.proofs.Numbered.{find_without_other}
use Rattle.dill_base.specs.Maps.{if_some, without}
use Rattle.dill_rules.specs.declared.coroutine.Closing.{Closing}
use Rattle.dill_rules.specs.declared.coroutine.Coroutine.{Coroutine}
use Rattle.dill_rules.specs.declared.coroutine.Mode.{Mode}
use Rattle.dill_rules.specs.declared.coroutine.Mode.TheVariants as modes
use Rattle.dill_rules.specs.declared.thing.Thing.{Thing}
use Rattle.dill_rules.specs.declared.thing.Thing.TheVariants as things
use Rattle.dill_rules.specs.Effects.{bear}
use Rattle.dill_rules.specs.Owning.{entry_of, is_dead_as, drop, release}
use Rattle.dill_rules.specs.Settling.{outcome_of, is_clear, free_all, release_all, leave, finish}
use Rattle.dill_rules.specs.State.{lined, lined_mode}
use Rattle.dill_rules.specs.Taking.{bundle_of}
use Rattle.dill_rules.specs.World.{World, from_start, is_coroutine, coroutine_of, note, is_ending}
use Rattle.laws_queue.specs.Well.{bit, is_at}
use Rattle.laws_sound.proofs.Lists.{all_map, all_found, all_without, all_follow, all_from}
use Rattle.laws_sound.specs.Order.{closes, waits_for, has_bundle, is_kept_open, has_waiter, has_closing, FitsTogether, IsInOrder}
use Rattle.laws_sound.proofs.Coming.{newborn, fits_born, fits_left}
use Rattle.laws_sound.specs.Orderly.{weigh}
use Rattle.laws_sound.proofs.Counting.{weightless, weightless_none, none_left, none_without, all_push, all_unique}
use Rattle.laws_sound.proofs.Crews.{other_without, map_numbers, map_numbered, map_length, map_at}
use Rattle.laws_sound.proofs.Finishing.{free_bare}
use Rattle.laws_sound.proofs.Fitting.{has_number, fits_crew}
use Rattle.laws_sound.proofs.Handing.{equal, unequal, same_number, tell}
use Rattle.laws_sound.proofs.Nearly.{settle_in}
use Rattle.laws_sound.proofs.Ordering.{apart, all_true, order_release}
use Rattle.laws_sound.proofs.Owners.{owns}
use Rattle.laws_sound.proofs.Shutting.{is_mine, once}
use Rattle.laws_sound.proofs.Sorting.{reverse_all, reverse_any, keys_all, keys_any}

-- the owner of what a number names, if it is live
abbrev held_as : ℕ → List (Entry Thing) → ℕ → Bool
held_as who es n = if_some (find (has_number n) es) true (is_mine who)

abbrev listed : ℕ → List ℕ → Entry Thing → Bool
listed who ns y = not (is_mine who y) || list_any (λ n. n == y.number) ns

or_none : (b : Bool) → (b || false) ≡ true → b ≡ true
or_none true e = refl
or_none false e = cc

module _ {V : Type 0} where
  -- ---- handles of one that is ending

  -- what a release leaves
  record Released (w v : World V) (number : ℕ) : Type 0 where
    coroutines : v.coroutines ≡ w.coroutines
    scopes : v.scopes ≡ w.scopes
    entries : v.handles.entries ≡ without (has_number number) w.handles.entries

  dropped : (w : World V) (number : ℕ) (thing : Thing) → Released w (note (drop (record w { handles = handles.retire w.handles number }) thing) (Freed number)) number
  dropped w number (things.Bundle name) = record { coroutines = refl; scopes = refl; entries = refl }
  dropped w number (things.End end) = record { coroutines = refl; scopes = refl; entries = refl }
  dropped w number (things.Listener link) = record { coroutines = refl; scopes = refl; entries = refl }
  dropped w number (things.Socket link) = record { coroutines = refl; scopes = refl; entries = refl }
  dropped w number (things.Value kind value) = record { coroutines = refl; scopes = refl; entries = refl }

  released : (w : World V) (number : ℕ) → Released w (release w number) number
  released w number = at (entry_of w number) refl
    where
      at : (p : Option (Entry Thing)) → entry_of w number ≡ p → Released w (if_some p w (λ x. note (drop (record w { handles = handles.retire w.handles number }) x.thing) (Freed number))) number
      at None e = record { coroutines = refl; scopes = refl; entries = sym (none_without (has_number number) w.handles.entries e) }
      at (Some x) e = dropped w number x.thing

  record Handless (w v : World V) (who : ℕ) : Type 0 where
    order : IsInOrder v
    coroutines : v.coroutines ≡ w.coroutines
    scopes : v.scopes ≡ w.scopes
    none : list_all (λ y. not (is_mine who y)) v.handles.entries ≡ true

  no_bundle : (w : World V) (who : ℕ) (c : Coroutine V) (x : Entry Thing) → coroutine_of w who ≡ Some c → is_ending c.mode ≡ true → is_mine who x ≡ true → is_kept_open w x ≡ true → bundle_of x.thing ≡ None
  no_bundle w who c x e ending mine kept = at (bundle_of x.thing) kept
    where
      at : (p : Option ℕ) → if_some p true (λ name. not (is_at is_ending w.coroutines x.owner)) ≡ true → p ≡ None
      at None f = refl
      at (Some n) f =
          let t : is_at is_ending w.coroutines x.owner ≡ true = ap (is_at is_ending w.coroutines) (equal x.owner who mine) ∙ ap (λ q. if_some q false (λ d. is_ending d.mode)) e ∙ ending in
          let n : not true ≡ true = ap not (sym t) ∙ f in
          cc

  release_each : (ns : List ℕ) (w : World V) (who : ℕ) (c : Coroutine V) → IsInOrder w → coroutine_of w who ≡ Some c → is_ending c.mode ≡ true → list_all (held_as who w.handles.entries) ns ≡ true → list_all (listed who ns) w.handles.entries ≡ true → Handless w (fold release w ns) who
  release_each [] w who c o e ending held lists = record { order = o; coroutines = refl; scopes = refl; none = all_follow (listed who []) (λ y. not (is_mine who y)) w.handles.entries (λ y f. or_none (not (is_mine who y)) f) lists }
  release_each (n ∷ ns) w who c o e ending held lists =
      let b = and_parts (held_as who w.handles.entries n) (list_all (held_as who w.handles.entries) ns) held in
      let r = released w n in
      let v = release w n in
      let order = order_release w n o (λ x f. no_bundle w who c x e ending (ap (λ p. if_some p true (is_mine who)) (sym f) ∙ b.0) (all_found (is_kept_open w) (has_number n) w.handles.entries x o.endings f)) in
      let there : coroutine_of v who ≡ Some c = ap (find (is_coroutine who)) r.coroutines ∙ e in
      let gone : weigh (λ y. bit (has_number n y)) (without (has_number n) w.handles.entries) ≡ 0 = none_left (has_number n) w.handles.entries (once w n o.fits) in
      let still : list_all (held_as who (without (has_number n) w.handles.entries)) ns ≡ true = all_follow (held_as who w.handles.entries) (held_as who (without (has_number n) w.handles.entries)) ns (λ m f. stays m (m == n) refl f gone) b.1 in
      let fewer : list_all (listed who ns) (without (has_number n) w.handles.entries) ≡ true = all_from (λ y. not (has_number n y)) (listed who (n ∷ ns)) (listed who ns) (without (has_number n) w.handles.entries) (λ y f g. less y f g) (weightless (has_number n) (without (has_number n) w.handles.entries) gone) (all_without (listed who (n ∷ ns)) (has_number n) w.handles.entries lists) in
      let next = release_each ns v who c order there ending (ap (λ es. list_all (held_as who es) ns) r.entries ∙ still) (ap (list_all (listed who ns)) r.entries ∙ fewer) in
      record { order = next.order; coroutines = next.coroutines ∙ r.coroutines; scopes = next.scopes ∙ r.scopes; none = next.none }
    where
      stays : (m : ℕ) (t : Bool) → (m == n) ≡ t → held_as who w.handles.entries m ≡ true → weigh (λ y. bit (has_number n y)) (without (has_number n) w.handles.entries) ≡ 0 → held_as who (without (has_number n) w.handles.entries) m ≡ true
      stays m true f g gone = ap (λ p. if_some p true (is_mine who)) (subst (λ k. find (has_number k) (without (has_number n) w.handles.entries) ≡ None) (sym (equal m n f)) (weightless_none (has_number n) (without (has_number n) w.handles.entries) gone))
      stays m false f g gone = ap (λ p. if_some p true (is_mine who)) (find_without_other (λ (y : Entry Thing). y.number) m n w.handles.entries (unequal m n f)) ∙ g

      less : (y : Entry Thing) → not (y.number == n) ≡ true → (not (is_mine who y) || ((n == y.number) || list_any (λ k. k == y.number) ns)) ≡ true → (not (is_mine who y) || list_any (λ k. k == y.number) ns) ≡ true
      less y f g =
          let other : (n == y.number) ≡ false = tell n y.number (λ h. apart y.number n f (sym h)) in
          ap (λ t. not (is_mine who y) || (t || list_any (λ k. k == y.number) ns)) (sym other) ∙ g

  -- all handles of one that is ending are released
  release_bare : (w : World V) (who : ℕ) (c : Coroutine V) → IsInOrder w → coroutine_of w who ≡ Some c → is_ending c.mode ≡ true → Handless w (release_all w who) who
  release_bare w who c o e ending =
      release_each (reverse (map (λ x. x.number) (filter (is_mine who) w.handles.entries))) w who c o e ending
      (reverse_all (held_as who w.handles.entries) (map (λ x. x.number) (filter (is_mine who) w.handles.entries)) (keys_all (is_mine who) (λ (x : Entry Thing). x.number) (held_as who w.handles.entries) w.handles.entries
      (all_unique (λ (x : Entry Thing). x.number) (is_mine who) (λ x. not (is_mine who x) || held_as who w.handles.entries x.number) w.handles.entries (λ n. once w n o.fits) (λ x f. held x (is_mine who x) refl f))))
      (all_unique (λ (x : Entry Thing). x.number) (is_mine who) (listed who (reverse (map (λ x. x.number) (filter (is_mine who) w.handles.entries)))) w.handles.entries (λ n. once w n o.fits) (λ x f. lists x (is_mine who x) refl f))
    where
      held : (x : Entry Thing) (b : Bool) → is_mine who x ≡ b → find (has_number x.number) w.handles.entries ≡ Some x → (not b || held_as who w.handles.entries x.number) ≡ true
      held x false f g = refl
      held x true f g = ap (λ p. if_some p true (is_mine who)) g ∙ f

      lists : (x : Entry Thing) (b : Bool) → is_mine who x ≡ b → find (has_number x.number) w.handles.entries ≡ Some x → (not b || list_any (λ k. k == x.number) (reverse (map (λ y. y.number) (filter (is_mine who) w.handles.entries)))) ≡ true
      lists x false f g = refl
      lists x true f g = reverse_any (λ k. k == x.number) (map (λ y. y.number) (filter (is_mine who) w.handles.entries)) (keys_any (is_mine who) (λ (y : Entry Thing). y.number) (λ k. k == x.number) (has_number x.number) w.handles.entries x g f (same_number x.number))

  -- ---- a coroutine is gone

  not_owned : (w : World V) (who : ℕ) (o : Option ℕ) → (o ≡ Some who → ⊥) → if_some o false (λ owner. owner == who) ≡ false
  not_owned w who None h = refl
  not_owned w who (Some n) h = tell n who (λ e. h (ap (λ m. Some m) e))

  order_left : (w : World V) (c : Coroutine V) → IsInOrder w → coroutine_of w c.number ≡ Some c → ((name : ℕ) → owner_of w.scopes name ≡ Some c.number → ⊥) → list_all (λ x. not (x.owner == c.number)) w.handles.entries ≡ true → IsInOrder (leave w c)
  order_left w c o e none bare = at (c.number == 1) (fits_left w c e none bare o.fits)
    where
      ds : List (Coroutine V)
      ds = without (is_coroutine c.number) w.coroutines

      at_other : (test : Mode → Bool) (n : ℕ) → (n ≡ c.number → ⊥) → is_at test (without (is_coroutine c.number) w.coroutines) n ≡ is_at test w.coroutines n
      at_other test n ne = ap (λ q. if_some q false (λ d. test d.mode)) (other_without c.number n w.coroutines ne)

      waits : (x : Closing) → has_waiter w x ≡ true → if_some (owner_of w.scopes x.bundle) false (is_at (waits_for x.number) (without (is_coroutine c.number) w.coroutines)) ≡ true
      waits x f = by (owner_of w.scopes x.bundle) (none x.bundle) f
        where
          by : (p : Option ℕ) → (p ≡ Some c.number → ⊥) → if_some p false (is_at (waits_for x.number) w.coroutines) ≡ true → if_some p false (is_at (waits_for x.number) (without (is_coroutine c.number) w.coroutines)) ≡ true
          by None g h = h
          by (Some n) g h = at_other (waits_for x.number) n (λ i. g (ap (λ m. Some m) i)) ∙ h

      going : (x : Entry Thing) → not (x.owner == c.number) ≡ true → is_kept_open w x ≡ true → if_some (bundle_of x.thing) true (λ name. not (is_at is_ending (without (is_coroutine c.number) w.coroutines) x.owner)) ≡ true
      going x f g = ap (λ t. if_some (bundle_of x.thing) true (λ name. not t)) (at_other is_ending x.owner (apart x.owner c.number f)) ∙ g

      at : (b : Bool) → FitsTogether (record (if b then from_start (record w { ended = Some (outcome_of c.mode) }) else w) { coroutines = without (is_coroutine c.number) w.coroutines; scopes = scopes.ended w.scopes c.number }) → IsInOrder (record (if b then from_start (record w { ended = Some (outcome_of c.mode) }) else w) { coroutines = without (is_coroutine c.number) w.coroutines; scopes = scopes.ended w.scopes c.number })
      at true fits = record {
        fits = fits;
        closings = all_follow (has_waiter w) (λ x. if_some (owner_of w.scopes x.bundle) false (is_at (waits_for x.number) (without (is_coroutine c.number) w.coroutines))) w.closings waits o.closings;
        waiters = all_without (has_closing w) (is_coroutine c.number) w.coroutines o.waiters;
        endings = all_from (λ x. not (x.owner == c.number)) (is_kept_open w) (λ x. if_some (bundle_of x.thing) true (λ name. not (is_at is_ending (without (is_coroutine c.number) w.coroutines) x.owner))) w.handles.entries going bare o.endings;
      }
      at false fits = record {
        fits = fits;
        closings = all_follow (has_waiter w) (λ x. if_some (owner_of w.scopes x.bundle) false (is_at (waits_for x.number) (without (is_coroutine c.number) w.coroutines))) w.closings waits o.closings;
        waiters = all_without (has_closing w) (is_coroutine c.number) w.coroutines o.waiters;
        endings = all_from (λ x. not (x.owner == c.number)) (is_kept_open w) (λ x. if_some (bundle_of x.thing) true (λ name. not (is_at is_ending (without (is_coroutine c.number) w.coroutines) x.owner))) w.handles.entries going bare o.endings;
      }

  -- an ending finishes
  pub order_finish : (w : World V) (c : Coroutine V) → IsInOrder w → coroutine_of w c.number ≡ Some c → is_ending c.mode ≡ true → is_clear w c.number ≡ true → IsInOrder (finish w c)
  order_finish w c o e ending clear =
      let who = c.number in
      let freed = free_all w who in
      let b = free_bare w who c o e ending clear in
      let there : coroutine_of freed who ≡ Some c = ap (find (is_coroutine who)) b.crew ∙ e in
      let free_order : IsInOrder freed = settle_in freed who c b.near there
      (all_follow (λ x. true) (λ x. not (owns freed.scopes who x.bundle) || waits_for x.number c.mode) freed.closings (λ x f. ap (λ t. not t || waits_for x.number c.mode) (not_owned freed who (owner_of freed.scopes x.bundle) (b.none x.bundle))) (all_true freed.closings))
      (no_call freed c.mode ending)
      (ap (λ h. list_all (λ x. not (x.owner == who) || is_kept_open freed x) h.entries) b.entries
      ∙ all_follow (is_kept_open w) (λ x. not (x.owner == who) || is_kept_open freed x) w.handles.entries (λ x f. or_right (not (x.owner == who)) (is_kept_open freed x) (ap (λ cs. if_some (bundle_of x.thing) true (λ name. not (is_at is_ending cs x.owner))) b.crew ∙ f)) o.endings) in
      let r = release_bare freed who c free_order there ending in
      let bare = release_all freed who in
      order_left bare c r.order (ap (find (is_coroutine who)) r.coroutines ∙ there) (λ name f. b.none name (ap (λ s. owner_of s name) (sym r.scopes) ∙ f)) r.none
    where
      no_call : (v : World V) (mode : Mode) → is_ending mode ≡ true → if_some (closes mode) true (λ number. if_some (find (is_dead_as number) v.closings) false (λ x. has_bundle v c.number x.bundle)) ≡ true
      no_call v (modes.Ending outcome) f = refl
      no_call v (modes.Pending call) f = cc
      no_call v modes.Running f = cc
      no_call v (modes.Fresh word answer) f = cc
      no_call v (modes.Answered word answer) f = cc

  -- ---- a new coroutine

  pub at_push : (test : Mode → Bool) (cs : List (Coroutine V)) (c : Coroutine V) (n : ℕ) → test c.mode ≡ false → is_at test (cs ++ c ∷ []) n ≡ is_at test cs n
  at_push test [] c n e = by (is_coroutine n c)
    where
      by : (b : Bool) → if_some (cond b (Some c) None) false (λ d. test d.mode) ≡ false
      by true = e
      by false = refl
  at_push test (x ∷ cs) c n e = by (is_coroutine n x) (at_push test cs c n e)
    where
      by : (b : Bool) → is_at test (cs ++ c ∷ []) n ≡ is_at test cs n → if_some (cond b (Some x) (find (is_coroutine n) (cs ++ c ∷ []))) false (λ d. test d.mode) ≡ if_some (cond b (Some x) (find (is_coroutine n) cs)) false (λ d. test d.mode)
      by true r = refl
      by false r = r

  pub order_born : (w : World V) (view : V) (home : ℕ) → IsKnown w.scopes home → length w.coroutines < 65536 → IsInOrder w → IsInOrder (bear w view home)
  order_born w view home known room o =
      let c = newborn w view in
      let v = bear w view home in
      record {
        fits = fits_born w view home known room o.fits;
        closings = all_follow (has_waiter w) (has_waiter v) w.closings (λ x f. waits x (owner_of w.scopes x.bundle) f) o.closings;
        waiters = all_push (has_closing w) w.coroutines c o.waiters refl;
        endings = all_follow (is_kept_open w) (is_kept_open v) w.handles.entries (λ x f. ap (λ t. if_some (bundle_of x.thing) true (λ name. not t)) (at_push is_ending w.coroutines c x.owner refl) ∙ f) o.endings;
      }
    where
      waits : (x : Closing) (p : Option ℕ) → if_some p false (is_at (waits_for x.number) w.coroutines) ≡ true → if_some p false (is_at (waits_for x.number) (w.coroutines ++ newborn w view ∷ [])) ≡ true
      waits x None f = f
      waits x (Some n) f = at_push (waits_for x.number) w.coroutines (newborn w view) n refl ∙ f

lined_closes : (mode : Mode) → closes (lined_mode mode) ≡ closes mode
lined_closes (modes.Fresh word answer) = refl
lined_closes (modes.Pending call) = refl
lined_closes modes.Running = refl
lined_closes (modes.Answered word answer) = refl
lined_closes (modes.Ending outcome) = refl

lined_waits : (number : ℕ) (mode : Mode) → waits_for number (lined_mode mode) ≡ waits_for number mode
lined_waits number (modes.Fresh word answer) = refl
lined_waits number (modes.Pending call) = refl
lined_waits number modes.Running = refl
lined_waits number (modes.Answered word answer) = refl
lined_waits number (modes.Ending outcome) = refl

pub lined_ends : (mode : Mode) → is_ending (lined_mode mode) ≡ is_ending mode
lined_ends (modes.Fresh word answer) = refl
lined_ends (modes.Pending call) = refl
lined_ends modes.Running = refl
lined_ends (modes.Answered word answer) = refl
lined_ends (modes.Ending outcome) = refl

module _ {V : Type 0} where
  -- the answers of a step get their places
  pub order_lined : (w : World V) → IsInOrder w → IsInOrder (record w { coroutines = map lined w.coroutines })
  order_lined w o =
      let ds = map lined w.coroutines in
      let v = record w { coroutines = ds } in
      record {
        fits = fits_crew w ds (map_numbers lined (λ c. refl) w.coroutines) (map_numbered lined (λ c. refl) w.coroutines 0 w.last_coroutine o.fits.numbered) (map_length lined (λ c. refl) w.coroutines) o.fits;
        closings = all_follow (has_waiter w) (has_waiter v) w.closings (λ x f. waits x (owner_of w.scopes x.bundle) f) o.closings;
        waiters = all_map (has_closing w) lined w.coroutines (λ c f. ap (λ p. if_some p true (λ number. if_some (find (is_dead_as number) w.closings) false (λ x. has_bundle w c.number x.bundle))) (lined_closes c.mode) ∙ f) o.waiters;
        endings = all_follow (is_kept_open w) (is_kept_open v) w.handles.entries (λ x f. ap (λ t. if_some (bundle_of x.thing) true (λ name. not t)) (map_at lined (λ c. refl) is_ending (λ c. lined_ends c.mode) w.coroutines x.owner) ∙ f) o.endings;
      }
    where
      waits : (x : Closing) (p : Option ℕ) → if_some p false (is_at (waits_for x.number) w.coroutines) ≡ true → if_some p false (is_at (waits_for x.number) (map lined w.coroutines)) ≡ true
      waits x None f = f
      waits x (Some n) f = map_at lined (λ c. refl) (waits_for x.number) (λ c. lined_waits x.number c.mode) w.coroutines n ∙ f
