-- Bundles that begin to close or are gone, and coroutines that come and go: what keeps a world in order.
use Rattle.std.proofs.Common.{◌≡◌, ◌∙◌, ℕ, ◌≤◌, ◌==◌, List, [], ◌∷◌, ◌++◌, find, fold, Bool, true, false, not, ◌&&◌, ◌||◌, Option, Some, None, refl, sym, ap, subst, arith}
use Rattle.std.proofs.lemmas.Bool.{and_parts, or_right}
use Rattle.std.specs.Prelude.{is_some, nat_le, filter}
use Rattle.std.specs.List.{list_all}
use Rattle.dill_base.specs.declared.errno.Errno.{Errno}
use Rattle.dill_calls.specs.declared.call.Call.TheVariants as calls
use Rattle.dill_calls.specs.declared.ran.Note.TheVariants.{Freed}
use Rattle.dill_handles.specs.declared.entry.Entry.{Entry}
use Rattle.dill_scope.specs.Scopes as scopes
use Rattle.dill_scope.specs.Scopes.{owner_of, is_empty}
use Rattle.dill_scope.specs.Forest.{Inside}
use Rattle.dill_scope.proofs.Numbered.{found_number}
use Rattle.dill_base.specs.Maps.{if_some, without}
use Rattle.dill_rules.specs.declared.coroutine.Closing.{Closing}
use Rattle.dill_rules.specs.declared.coroutine.Coroutine.{Coroutine}
use Rattle.dill_rules.specs.declared.coroutine.Mode.TheVariants as modes
use Rattle.dill_rules.specs.declared.thing.Thing.{Thing}
use Rattle.dill_rules.specs.declared.thing.Thing.TheVariants as things
use Rattle.dill_rules.specs.Owning.{entry_of, is_dead_as, close_bundle, free_bundle}
use Rattle.dill_rules.specs.Settling.{close_owned, close_all, end}
use Rattle.dill_rules.specs.Taking.{bundle_of}
use Rattle.dill_rules.specs.World.{World, coroutine_of, with_mode, set_mode, pend, note, is_ending}
use Rattle.laws_queue.specs.Well.{bit, is_at}
use Rattle.laws_sound.proofs.Lists.{all_found, all_without, all_follow, all_from}
use Rattle.laws_sound.specs.Order.{closes, waits_for, is_there, has_bundle, is_kept_open, has_closing, FitsTogether, IsInOrder}
use Rattle.laws_sound.specs.Orderly.{weigh}
use Rattle.laws_sound.proofs.Counting.{weightless, weightless_none, weighs_found, found_push, pushed_found, found_without, none_left, small_bit, all_push, filter_first, filter_none, filter_both}
use Rattle.laws_sound.proofs.Crews.{change_here}
use Rattle.laws_sound.proofs.Fitting.{names_it, closes_it, has_number, died_as, used_is, named, named_is, fits_anyway}
use Rattle.laws_sound.proofs.Going.{found_there}
use Rattle.laws_queue.proofs.Numbers.{found_number as number_found}
use Rattle.laws_sound.proofs.Handing.{equal, unequal, same_number, tell, live}
use Rattle.laws_sound.proofs.Moving.{fits_shut, fits_freed}
use Rattle.laws_sound.proofs.Nearly.{is_free, mine_or, Nearly, nearly, near_set, settle_in}
use Rattle.laws_sound.proofs.Ordering.{apart, all_true, free_owns, going_open}
use Rattle.laws_sound.proofs.Owners.{owns, owns_is, owned_no_root, shut_other, shut_here, drop_other}
use Rattle.laws_sound.proofs.Sound.{owner_is}

either_kept : (b c d : Bool) → (b ≡ false → c ≡ true → d ≡ true) → (b || c) ≡ true → (b || d) ≡ true
either_kept true c d h e = refl
either_kept false c d h e = h refl e

abbrev pub is_mine : ℕ → Entry Thing → Bool
is_mine who x = x.owner == who

abbrev pub is_bundle_entry : Entry Thing → Bool
is_bundle_entry x = is_some (bundle_of x.thing)

pub bundle_is : (thing : Thing) (name : ℕ) → bundle_of thing ≡ Some name → thing ≡ things.Bundle name
bundle_is (things.Bundle n) name e = let it : n ≡ name = cc in ap (λ m. things.Bundle m) it
bundle_is (things.End end) name e = cc
bundle_is (things.Listener link) name e = cc
bundle_is (things.Socket link) name e = cc
bundle_is (things.Value kind value) name e = cc

module _ {V : Type 0} where
  near_anyway : (w : World V) (who : ℕ) (number : ℕ) → Nearly w who → Nearly (note w (Freed number)) who
  near_anyway w who number near = record { fits = fits_anyway w w.channels w.links w.place w.random w.moment (w.notes ++ Freed number ∷ []) near.fits; closings = near.closings; waiters = near.waiters; endings = near.endings }

  -- the test of who is pending in `hclose`, in other scopes and with other closings
  closing_kept : (w v : World V) (c : Coroutine V) → ((number : ℕ) (x : Closing) → find (is_dead_as number) w.closings ≡ Some x → owns w.scopes c.number x.bundle ≡ true → (find (is_dead_as number) v.closings ≡ Some x) × (owns v.scopes c.number x.bundle ≡ true)) → has_closing w c ≡ true → has_closing v c ≡ true
  closing_kept w v c h e = at (closes c.mode) e
    where
      at : (o : Option ℕ) → if_some o true (λ number. if_some (find (is_dead_as number) w.closings) false (λ x. has_bundle w c.number x.bundle)) ≡ true → if_some o true (λ number. if_some (find (is_dead_as number) v.closings) false (λ x. has_bundle v c.number x.bundle)) ≡ true
      at None f = refl
      at (Some number) f = by (find (is_dead_as number) w.closings) refl f
        where
          by : (o : Option Closing) → find (is_dead_as number) w.closings ≡ o → if_some o false (λ x. has_bundle w c.number x.bundle) ≡ true → if_some (find (is_dead_as number) v.closings) false (λ x. has_bundle v c.number x.bundle) ≡ true
          by None g i = cc
          by (Some x) g i = let r = h number x g i in ap (λ p. if_some p false (λ y. has_bundle v c.number y.bundle)) r.0 ∙ r.1

  -- a bundle of its own, or one that it takes, begins to close
  pub near_shut : (w : World V) (who number name : ℕ) (x : Entry Thing) → Nearly w who → entry_of w number ≡ Some x → x.thing ≡ things.Bundle name → is_there w who ≡ true → (Inside w.scopes name who → ⊥) → Nearly (close_bundle w who name number) who
  near_shut w who number name x near e t there out =
      let l = live w number name x near.fits e t in
      let v = close_bundle w who name number in
      let s = scopes.close (scopes.take w.scopes name who) name in
      let dead : Closing = record { bundle = name; number = number } in
      record {
        fits = fits_shut w number who x near.fits e there name t out;
        closings = all_push (λ y. mine_or who (owner_of s y.bundle) (is_at (waits_for y.number) w.coroutines)) w.closings dead
            (all_from (λ y. not (closes_it name y)) (λ y. mine_or who (owner_of w.scopes y.bundle) (is_at (waits_for y.number) w.coroutines)) (λ y. mine_or who (owner_of s y.bundle) (is_at (waits_for y.number) w.coroutines)) w.closings
            (λ y f g. ap (λ o. mine_or who o (is_at (waits_for y.number) w.coroutines)) (shut_other w.scopes name who y.bundle (apart y.bundle name f)) ∙ g) l.closings near.closings)
            (ap (λ b. b || if_some (owner_of s name) false (is_at (waits_for number) w.coroutines)) (owns_is s who name (shut_here w.scopes name who x.owner l.owned)));
        waiters = all_follow (λ c. c.number == who || has_closing w c) (λ c. c.number == who || has_closing v c) w.coroutines
            (λ c f. either_kept (c.number == who) (has_closing w c) (has_closing v c)
            (λ other g. closing_kept w v c
            (λ n y h i. (found_push (is_dead_as n) w.closings dead y h, ap (λ o. if_some o false (λ owner. owner == c.number)) (shut_other w.scopes name who y.bundle (apart y.bundle name (all_found (λ z. not (closes_it name z)) (is_dead_as n) w.closings y l.closings h))) ∙ i)) g) f) near.waiters;
        endings = all_without (λ y. y.owner == who || is_kept_open w y) (has_number number) w.handles.entries near.endings;
      }

  -- an empty bundle of its own that is closing is gone
  pub near_freed : (w : World V) (who : ℕ) (x : Closing) → Nearly w who → owner_of w.scopes x.bundle ≡ Some who → weigh (λ y. bit (names_it x.bundle y)) w.handles.entries ≡ 0 → is_empty w.scopes x.bundle ≡ true → Nearly (free_bundle w x) who
  near_freed w who x near owned none empty =
      let s = scopes.drop_bundle w.scopes x.bundle in
      let ks = without (closes_it x.bundle) w.closings in
      let v = record w { scopes = s; closings = ks } in
      let n : named w.handles.entries w.closings x.bundle ≡ bit (is_some (owner_of w.scopes x.bundle)) = sym (named_is w.handles.entries w.closings x.bundle) ∙ near.fits.names x.bundle in
      let low = small_bit (is_some (owner_of w.scopes x.bundle)) in
      let left : weigh (λ y. bit (closes_it x.bundle y)) ks ≡ 0 = none_left (closes_it x.bundle) w.closings (omega (arith, n, low)) in
      near_anyway v who x.number (record {
        fits = fits_freed w x near.fits none (owned_no_root w.scopes x.bundle who near.fits.forest owned) empty;
        closings = all_from (λ y. not (closes_it x.bundle y)) (λ y. mine_or who (owner_of w.scopes y.bundle) (is_at (waits_for y.number) w.coroutines)) (λ y. mine_or who (owner_of s y.bundle) (is_at (waits_for y.number) w.coroutines)) ks
            (λ y f g. ap (λ o. mine_or who o (is_at (waits_for y.number) w.coroutines)) (drop_other w.scopes x.bundle y.bundle (apart y.bundle x.bundle f)) ∙ g) (weightless (closes_it x.bundle) ks left)
            (all_without (λ y. mine_or who (owner_of w.scopes y.bundle) (is_at (waits_for y.number) w.coroutines)) (closes_it x.bundle) w.closings near.closings);
        waiters = all_follow (λ c. c.number == who || has_closing w c) (λ c. c.number == who || has_closing v c) w.coroutines
            (λ c f. either_kept (c.number == who) (has_closing w c) (has_closing v c)
            (λ other g. closing_kept w v c
            (λ m y h i.
            let ne : y.bundle ≡ x.bundle → ⊥ = λ same. let o : owner_of w.scopes x.bundle ≡ Some c.number = subst (λ b. owner_of w.scopes b ≡ Some c.number) same (owner_is (owner_of w.scopes y.bundle) c.number i) in let it : who ≡ c.number = cc in unequal c.number who other (sym it) in
            (found_without (is_dead_as m) (closes_it x.bundle) w.closings y h (tell y.bundle x.bundle ne), ap (λ o. if_some o false (λ owner. owner == c.number)) (drop_other w.scopes x.bundle y.bundle ne) ∙ i)) g) f) near.waiters;
        endings = near.endings;
      })

  -- ---- `hclose` of a bundle

  -- a live number is no dead one
  fresh_number : (w : World V) (number : ℕ) (x : Entry Thing) → FitsTogether w → entry_of w number ≡ Some x → find (is_dead_as number) w.closings ≡ None
  fresh_number w number x f e =
      let u = used_is w.handles.entries w.closings number in
      let h = f.numbers number in
      let low = small_bit (nat_le number w.handles.last) in
      let one = weighs_found (has_number number) (has_number number) w.handles.entries x e (ap (λ n. n == number) (found_number (λ (y : Entry Thing). y.number) number w.handles.entries x e) ∙ same_number number) in
      weightless_none (died_as number) w.closings (omega (arith, u, h, low, one))

  -- `hclose` of a bundle waits for it
  pub order_hclose : (w : World V) (who number name : ℕ) (c : Coroutine V) (x : Entry Thing) → IsInOrder w → coroutine_of w who ≡ Some c → is_free c.mode ≡ true → entry_of w number ≡ Some x → x.thing ≡ things.Bundle name → (Inside w.scopes name who → ⊥) → IsInOrder (pend (close_bundle w who name number) who (calls.Hclose number))
  order_hclose w who number name c x o e free f t out =
      let shut = close_bundle w who name number in
      let mode = modes.Pending (calls.Hclose number) in
      let v = set_mode shut who mode in
      let s = scopes.close (scopes.take w.scopes name who) name in
      let dead : Closing = record { bundle = name; number = number } in
      let l = live w number name x o.fits f t in
      let here : coroutine_of v who ≡ Some (with_mode mode c) = change_here (with_mode mode) (λ d. refl) who w.coroutines c e in
      let mine : owner_of s name ≡ Some c.number = shut_here w.scopes name who x.owner l.owned ∙ ap (λ n. Some n) (sym (number_found who w.coroutines c e)) in
      settle_in v who (with_mode mode c) (near_set shut who mode (near_shut w who number name x (nearly w who o) f t (found_there w who c e) out)) here
      (all_push (λ y. not (owns s who y.bundle) || waits_for y.number mode) w.closings dead
      (all_from (λ y. not (closes_it name y)) (λ y. not (owns w.scopes who y.bundle)) (λ y. not (owns s who y.bundle) || waits_for y.number mode) w.closings
      (λ y g h. ap (λ b. b || waits_for y.number mode) (ap (λ p. not (if_some p false (λ owner. owner == who))) (shut_other w.scopes name who y.bundle (apart y.bundle name g)) ∙ h)) l.closings (free_owns w who c o e free))
      (or_right (not (owns s who name)) (number == number) (same_number number)))
      (ap (λ p. if_some p false (λ y. has_bundle v c.number y.bundle)) (pushed_found (is_dead_as number) w.closings dead (fresh_number w number x o.fits f) (same_number number)) ∙ owns_is s c.number name mine)
      (going_open v who (with_mode mode c) here refl)

  -- ---- an ending begins

  -- what closing one bundle after the other leaves
  record Shut (w : World V) (who : ℕ) (c : Coroutine V) : Type 0 where
    near : Nearly w who
    here : coroutine_of w who ≡ Some c
    none : list_all (λ x. not (is_mine who x && is_bundle_entry x)) w.handles.entries ≡ true

  pub once : (w : World V) (n : ℕ) → FitsTogether w → weigh (λ y. bit (has_number n y)) w.handles.entries ≤ 1
  once w n f =
      let u = used_is w.handles.entries w.closings n in
      let h = f.numbers n in
      let low = small_bit (nat_le n w.handles.last) in
      omega (arith, u, h, low)

  shut_all : (xs : List (Entry Thing)) (w : World V) (who : ℕ) (c : Coroutine V) → Nearly w who → coroutine_of w who ≡ Some c → filter (λ x. is_mine who x && is_bundle_entry x) w.handles.entries ≡ filter is_bundle_entry xs → Shut (fold (close_owned who) w xs) who c
  shut_all [] w who c near e same = record { near = near; here = e; none = filter_none (λ (x : Entry Thing). x.number) (λ x. is_mine who x && is_bundle_entry x) w.handles.entries same }
  shut_all (x ∷ xs) w who c near e same = at (bundle_of x.thing) refl (shut_all xs)
    where
      at : (p : Option ℕ) → bundle_of x.thing ≡ p → ((v : World V) (m : ℕ) (d : Coroutine V) → Nearly v m → coroutine_of v m ≡ Some d → filter (λ y. is_mine m y && is_bundle_entry y) v.handles.entries ≡ filter is_bundle_entry xs → Shut (fold (close_owned m) v xs) m d) → Shut (fold (close_owned who) (if_some p w (λ name. close_bundle w who name x.number)) xs) who c
      at None f next = next w who c near e (same ∙ (let t : is_bundle_entry x ≡ false = ap is_some f in rw t refl))
      at (Some name) f next =
          let t : is_bundle_entry x ≡ true = ap is_some f in
          let here : filter (λ y. is_mine who y && is_bundle_entry y) w.handles.entries ≡ x ∷ filter is_bundle_entry xs = same ∙ rw t refl in
          let first = filter_first (λ (y : Entry Thing). y.number) (λ y. is_mine who y && is_bundle_entry y) w.handles.entries x (filter is_bundle_entry xs) here (once w x.number near.fits) in
          let thing = bundle_is x.thing name f in
          let l = live w x.number name x near.fits first.found thing in
          let mine : x.owner ≡ who = equal x.owner who (and_parts (is_mine who x) (is_bundle_entry x) first.passed).0 in
          let owned : owner_of w.scopes name ≡ Some who = l.owned ∙ ap (λ n. Some n) mine in
          next (close_bundle w who name x.number) who c (near_shut w who x.number name x near first.found thing (found_there w who c e) (near.fits.forest.forest.outside name who owned)) e first.left

  -- a program has ended
  pub order_end : (w : World V) (who : ℕ) (c : Coroutine V) (outcome : Option Errno) → IsInOrder w → coroutine_of w who ≡ Some c → IsInOrder (end w who outcome)
  order_end w who c outcome o e =
      let mode = modes.Ending outcome in
      let shut = close_all w who in
      let r = shut_all (filter (is_mine who) w.handles.entries) w who c (nearly w who o) e (filter_both (is_mine who) is_bundle_entry w.handles.entries) in
      let v = set_mode shut who mode in
      settle_in v who (with_mode mode c) (near_set shut who mode r.near) (change_here (with_mode mode) (λ d. refl) who shut.coroutines c r.here)
      (all_follow (λ x. true) (λ x. not (owns shut.scopes who x.bundle) || true) shut.closings (λ x f. or_right (not (owns shut.scopes who x.bundle)) true refl) (all_true shut.closings))
      refl
      (all_follow (λ x. not (is_mine who x && is_bundle_entry x)) (λ x. not (x.owner == who) || is_kept_open v x) shut.handles.entries (λ x f. at (x.owner == who) (bundle_of x.thing) (not (is_at is_ending v.coroutines x.owner)) f) r.none)
    where
      at : (b : Bool) (p : Option ℕ) (k : Bool) → not (b && is_some p) ≡ true → (not b || if_some p true (λ n. k)) ≡ true
      at false p k f = refl
      at true None k f = refl
      at true (Some n) k f = cc
