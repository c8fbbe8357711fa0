-- A world that is in order but for what one coroutine waits for, and how it gets in order again.
use Rattle.std.proofs.Common.{◌≡◌, ◌∙◌, ℕ, ◌≤◌, ◌==◌, List, [], ◌∷◌, find, Bool, true, false, not, ◌&&◌, ◌||◌, cond, Option, Some, None, refl, sym, ap, subst, arith}
use Rattle.std.proofs.lemmas.Bool.{and_parts, and_from, or_right}
use Rattle.std.specs.Prelude.{is_none}
use Rattle.std.specs.List.{list_all}
use Rattle.std.proofs.lemmas.Bool.Decides.{nat_tests}
use Rattle.dill_calls.specs.declared.call.Call.TheVariants as calls
use Rattle.dill_handles.specs.declared.entry.Entry.{Entry}
use Rattle.dill_scope.specs.Scopes.{owner_of}
use Rattle.dill_base.specs.Maps.{if_some, change}
use Rattle.dill_rules.specs.declared.coroutine.Coroutine.{Coroutine}
use Rattle.dill_rules.specs.declared.coroutine.Mode.{Mode}
use Rattle.dill_rules.specs.declared.coroutine.Mode.TheVariants as modes
use Rattle.dill_rules.specs.declared.thing.Thing.{Thing}
use Rattle.dill_rules.specs.Taking.{bundle_of}
use Rattle.dill_rules.specs.World.{World, is_coroutine, coroutine_of, with_mode, set_mode, is_ending}
use Rattle.laws_queue.specs.Well.{Numbered, is_at}
use Rattle.laws_queue.proofs.Answered.{none_below}
use Rattle.laws_sound.proofs.Lists.{all_found, all_follow, all_from}
use Rattle.laws_sound.specs.Order.{closes, waits_for, is_kept_open, has_waiter, has_closing, FitsTogether, IsInOrder}
use Rattle.laws_sound.proofs.Crews.{change_numbers, change_length, change_other}
use Rattle.laws_sound.proofs.Fitting.{fits_crew}
use Rattle.laws_sound.proofs.Handing.{equal, unequal, same_number}
use Rattle.laws_sound.proofs.Owners.{owns}
use Rattle.laws_queue.proofs.Numbers.{numbered_change}

pub or_false : (a b : Bool) → (a || b) ≡ true → a ≡ false → b ≡ true
or_false true b e f = cc
or_false false b e f = e

-- the owner of a bundle passes a test, or is this one
abbrev pub mine_or : ℕ → Option ℕ → (ℕ → Bool) → Bool
mine_or who o test = if_some o false (λ owner. owner == who) || if_some o false test

-- two tests that agree but of this one
pub mine_as : (who : ℕ) (o : Option ℕ) (test more : ℕ → Bool) → ((n : ℕ) → (n ≡ who → ⊥) → more n ≡ test n) → mine_or who o test ≡ true → mine_or who o more ≡ true
mine_as who None test more h e = e
mine_as who (Some n) test more h e = at (n == who) refl e
  where
    at : (b : Bool) → (n == who) ≡ b → (b || test n) ≡ true → (b || more n) ≡ true
    at true f g = refl
    at false f g = h n (unequal n who f) ∙ g

-- and back, where this one passes too
pub mine_back : (who : ℕ) (o : Option ℕ) (test : ℕ → Bool) (b : Bool) → test who ≡ b → mine_or who o test ≡ true → (not (if_some o false (λ owner. owner == who)) || b) ≡ true → if_some o false test ≡ true
mine_back who None test b h e f = e
mine_back who (Some n) test b h e f = at (n == who) refl e f
  where
    at : (t : Bool) → (n == who) ≡ t → (t || test n) ≡ true → (not t || b) ≡ true → test n ≡ true
    at true g i j = ap test (equal n who g) ∙ h ∙ j
    at false g i j = i

module _ {V : Type 0} where
  -- what holds of whoever is found by its number holds of all
  pub all_by_number : (test : Coroutine V → Bool) (cs : List (Coroutine V)) (low high : ℕ) → Numbered low cs high → ((c : Coroutine V) → find (is_coroutine c.number) cs ≡ Some c → test c ≡ true) → list_all test cs ≡ true
  all_by_number test [] low high n h = refl
  all_by_number test (x ∷ cs) low high n h =
      and_from (test x) (list_all test cs) (h x (rw (same_number x.number) refl))
      (all_by_number test cs x.number high n.1 (λ c e. h c (skip c e (x.number == c.number) refl)))
    where
      skip : (c : Coroutine V) → find (is_coroutine c.number) cs ≡ Some c → (b : Bool) → (x.number == c.number) ≡ b → cond (x.number == c.number) (Some x) (find (is_coroutine c.number) cs) ≡ Some c
      skip c e true f =
          let l : c.number ≤ x.number = grind (arith, nat_tests) in
          let none = none_below cs x.number high c.number n.1 l in
          cc
      skip c e false f = rw f e

  -- the world is in order, but for what this coroutine waits for and has
  pub record Nearly (w : World V) (who : ℕ) : Type 0 where
    pub fits : FitsTogether w
    pub closings : list_all (λ x. mine_or who (owner_of w.scopes x.bundle) (is_at (waits_for x.number) w.coroutines)) w.closings ≡ true
    pub waiters : list_all (λ c. c.number == who || has_closing w c) w.coroutines ≡ true
    pub endings : list_all (λ x. x.owner == who || is_kept_open w x) w.handles.entries ≡ true

  pub nearly : (w : World V) (who : ℕ) → IsInOrder w → Nearly w who
  nearly w who order = record {
    fits = order.fits;
    closings = all_follow (has_waiter w) (λ x. mine_or who (owner_of w.scopes x.bundle) (is_at (waits_for x.number) w.coroutines)) w.closings (λ x e. or_right (owns w.scopes who x.bundle) (has_waiter w x) e) order.closings;
    waiters = all_follow (has_closing w) (λ c. c.number == who || has_closing w c) w.coroutines (λ c e. or_right (c.number == who) (has_closing w c) e) order.waiters;
    endings = all_follow (is_kept_open w) (λ x. x.owner == who || is_kept_open w x) w.handles.entries (λ x e. or_right (x.owner == who) (is_kept_open w x) e) order.endings;
  }

  all_change_at : (test pick : Coroutine V → Bool) (f : Coroutine V → Coroutine V) (cs : List (Coroutine V)) → ((c : Coroutine V) → pick c ≡ true → test (f c) ≡ true) → list_all test cs ≡ true → list_all test (change pick f cs) ≡ true
  all_change_at test pick f [] h e = refl
  all_change_at test pick f (c ∷ cs) h e =
      let b = and_parts (test c) (list_all test cs) e in
      at (pick c) refl b.0 b.1 (all_change_at test pick f cs h b.1)
    where
      at : (t : Bool) → pick c ≡ t → test c ≡ true → list_all test cs ≡ true → list_all test (change pick f cs) ≡ true → list_all test (cond t (f c ∷ cs) (c ∷ change pick f cs)) ≡ true
      at true g i j r = and_from (test (f c)) (list_all test cs) (h c g) j
      at false g i j r = and_from (test c) (list_all test (change pick f cs)) i r

  abbrev at_as : (test : Mode → Bool) → Option (Coroutine V) → Bool
  at_as test o = if_some o false (λ c. test c.mode)

  -- it changes, but for its number
  pub near_change : (w : World V) (who : ℕ) (f : Coroutine V → Coroutine V) → ((c : Coroutine V) → (f c).number ≡ c.number) → Nearly w who → Nearly (record w { coroutines = change (is_coroutine who) f w.coroutines }) who
  near_change w who f same near =
      let ds = change (is_coroutine who) f w.coroutines in
      let v = record w { coroutines = ds } in
      let other : (test : Mode → Bool) (n : ℕ) → (n ≡ who → ⊥) → is_at test ds n ≡ is_at test w.coroutines n = λ test n ne. ap (at_as test) (change_other f same who n w.coroutines ne) in
      record {
        fits = fits_crew w ds (change_numbers f same who w.coroutines) (numbered_change (is_coroutine who) f w.coroutines 0 w.last_coroutine same near.fits.numbered) (change_length f same who w.coroutines) near.fits;
        closings = all_follow (λ x. mine_or who (owner_of w.scopes x.bundle) (is_at (waits_for x.number) w.coroutines)) (λ x. mine_or who (owner_of w.scopes x.bundle) (is_at (waits_for x.number) ds)) w.closings
            (λ x e. mine_as who (owner_of w.scopes x.bundle) (is_at (waits_for x.number) w.coroutines) (is_at (waits_for x.number) ds) (other (waits_for x.number)) e) near.closings;
        waiters = all_change_at (λ c. c.number == who || has_closing w c) (is_coroutine who) f w.coroutines (λ c e. ap (λ n. n == who || has_closing w (f c)) (same c) ∙ ap (λ b. b || has_closing w (f c)) e) near.waiters;
        endings = all_follow (λ x. x.owner == who || is_kept_open w x) (λ x. x.owner == who || is_kept_open v x) w.handles.entries (λ x e. open_as x (x.owner == who) refl other e) near.endings;
      }
    where
      open_as : (x : Entry Thing) (b : Bool) → (x.owner == who) ≡ b → ((test : Mode → Bool) (n : ℕ) → (n ≡ who → ⊥) → is_at test (change (is_coroutine who) f w.coroutines) n ≡ is_at test w.coroutines n) → (b || is_kept_open w x) ≡ true → (b || is_kept_open (record w { coroutines = change (is_coroutine who) f w.coroutines }) x) ≡ true
      open_as x true g other e = refl
      open_as x false g other e = ap (λ t. if_some (bundle_of x.thing) true (λ name. not t)) (other is_ending x.owner (unequal x.owner who g)) ∙ e

  pub near_set : (w : World V) (who : ℕ) (mode : Mode) → Nearly w who → Nearly (set_mode w who mode) who
  near_set w who mode near = near_change w who (with_mode mode) (λ c. refl) near

  -- in order again
  pub settle_in : (w : World V) (who : ℕ) (c : Coroutine V) → Nearly w who → coroutine_of w who ≡ Some c → list_all (λ x. not (owns w.scopes who x.bundle) || waits_for x.number c.mode) w.closings ≡ true → has_closing w c ≡ true → list_all (λ x. not (x.owner == who) || is_kept_open w x) w.handles.entries ≡ true → IsInOrder w
  settle_in w who c near e waits closing kept = record {
    fits = near.fits;
    closings = all_from (λ x. mine_or who (owner_of w.scopes x.bundle) (is_at (waits_for x.number) w.coroutines)) (λ x. not (owns w.scopes who x.bundle) || waits_for x.number c.mode) (has_waiter w) w.closings
        (λ x f g. mine_back who (owner_of w.scopes x.bundle) (is_at (waits_for x.number) w.coroutines) (waits_for x.number c.mode) (ap (at_as (waits_for x.number)) e) f g) near.closings waits;
    waiters = all_by_number (has_closing w) w.coroutines 0 w.last_coroutine near.fits.numbered (λ d f. of_one d f (d.number == who) refl (all_found (λ y. y.number == who || has_closing w y) (is_coroutine d.number) w.coroutines d near.waiters f));
    endings = all_from (λ x. x.owner == who || is_kept_open w x) (λ x. not (x.owner == who) || is_kept_open w x) (is_kept_open w) w.handles.entries (λ x f g. either (x.owner == who) (is_kept_open w x) f g) near.endings kept;
  }
    where
      either : (a b : Bool) → (a || b) ≡ true → (not a || b) ≡ true → b ≡ true
      either true b f g = g
      either false b f g = f

      of_one : (d : Coroutine V) → coroutine_of w d.number ≡ Some d → (b : Bool) → (d.number == who) ≡ b → (b || has_closing w d) ≡ true → has_closing w d ≡ true
      of_one d f true g h =
          let there : coroutine_of w who ≡ Some d = subst (λ n. coroutine_of w n ≡ Some d) (equal d.number who g) f in
          let it : c ≡ d = cc in
          ap (has_closing w) (sym it) ∙ closing
      of_one d f false g h = h

-- it waits for no bundle to close
abbrev pub is_free : Mode → Bool
is_free mode = is_none (closes mode) && not (is_ending mode)

pub free_waits : (mode : Mode) (number : ℕ) → is_free mode ≡ true → waits_for number mode ≡ false
free_waits (modes.Pending (calls.Hclose closed)) number e = cc
free_waits (modes.Pending _) number e = refl
free_waits modes.Running number e = refl
free_waits (modes.Fresh word answer) number e = refl
free_waits (modes.Answered word answer) number e = refl
free_waits (modes.Ending outcome) number e = cc
