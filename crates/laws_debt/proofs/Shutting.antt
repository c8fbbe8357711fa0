-- What holds of each bundle under every owner stays so, whatever is called, and so do the notes of closings.
use Rattle.std.proofs.Common.{◌≡◌, ◌∙◌, ◌+◌, ◌≤◌, ℕ, List, [], ◌∷◌, Bool, true, false, cond, Option, Some, refl, arith, ◌==◌}
use Rattle.std.specs.List.{AllByRecursion}
use Rattle.dill_base.specs.Maps.{change}
use Rattle.dill_calls.specs.declared.ran.LackPlace.{LackPlace}
use Rattle.dill_calls.specs.Program.{Program}
use Rattle.dill_scope.specs.declared.forest.Bundle.{Bundle}
use Rattle.dill_scope.specs.Scopes as scopes
use Rattle.dill_rules.specs.Expiring.{expire_one}
use Rattle.dill_rules.specs.Settling.{settle_one, settle}
use Rattle.dill_rules.specs.Turning.{go_on}
use Rattle.dill_rules.specs.World.{World}
use Rattle.laws_debt.specs.Flags.{IsFlagged, AreNoted}
use Rattle.laws_debt.proofs.Flagging.{flagged_closed, flagged_freed, ranked_change, ranked_without, ranked_append}
use Rattle.std.proofs.lemmas.Bool.Decides.{nat_tests}
use Rattle.laws_debt.proofs.Walking.{unlike}
use Rattle.laws_debt.proofs.Lasting.{Parts, parts, Lasting, settle_one_lasts, settle_lasts, expire_lasts, go_on_lasts}
use Rattle.laws_queue.proofs.Lists.{all_append, all_without}

-- Something holds of each bundle.
pub record HoldIn (P : Bundle → Type 0) (low : ℕ) (p : Parts) : Type 0 where
  pub given : low ≤ p.last_bundle
  pub bundles : AllByRecursion P p.scopes.bundles
  pub flags : AreNoted p.scopes.bundles p.closings p.last_bundle

abbrev pub AllHold : {V : Type 0} → (Bundle → Type 0) → ℕ → World V → Type 0
AllHold P low w = HoldIn P low (parts w)

-- what holds of a bundle under each owner, of one whose closing has begun, and of a new one
pub record Lasts (P : Bundle → Type 0) (low : ℕ) : Type 0 where
  pub owned : (x : Bundle) (owner : ℕ) → P x → P (scopes.with_owner owner x)
  pub closed : (x : Bundle) → P x → P (scopes.as_closing x)
  pub made : (last owner : ℕ) → low ≤ last → P (record { name = last + 1; owner = Some owner; closing = false })

-- the same, where it is an owned one whose closing begins
pub record LastsOwned (P : Bundle → Type 0) (low : ℕ) : Type 0 where
  pub owned : (x : Bundle) (owner : ℕ) → P x → P (scopes.with_owner owner x)
  pub closed : (x : Bundle) (owner : ℕ) → P x → P (scopes.as_closing (scopes.with_owner owner x))
  pub made : (last owner : ℕ) → low ≤ last → P (record { name = last + 1; owner = Some owner; closing = false })

lasts_owned : (P : Bundle → Type 0) (low : ℕ) → Lasts P low → LastsOwned P low
lasts_owned P low lasts = record { owned = lasts.owned; closed = λ x owner a. lasts.closed (scopes.with_owner owner x) (lasts.owned x owner a); made = lasts.made }

-- a bundle of this name is closing
abbrev pub IsShutAs : ℕ → Bundle → Type 0
IsShutAs name x = (x.name == name) ≡ true → x.closing ≡ true

new_other : (a b : ℕ) → a ≤ b → ((b + 1) == a) ≡ false
new_other a b h = grind (arith, nat_tests)

pub shut_lasts : (name : ℕ) → Lasts (IsShutAs name) name
shut_lasts name = record { owned = λ x owner a. a; closed = λ x a e. refl; made = λ last owner l e. unlike ((last + 1) == name) (new_other name last l) e }

module _ {X : Type 0} (P : X → Type 0) where
  all_changed : (pick : X → Bool) (g : X → X) (xs : List X) → ((x : X) → P x → P (g x)) → AllByRecursion P xs → AllByRecursion P (change pick g xs)
  all_changed pick g [] h a = tt
  all_changed pick g (x ∷ xs) h a = at (pick x) (all_changed pick g xs h a.1)
    where
      at : (found : Bool) → AllByRecursion P (change pick g xs) → AllByRecursion P (cond found (g x ∷ xs) (x ∷ change pick g xs))
      at true rest = (h x a.0, a.1)
      at false rest = (a.0, rest)

  all_changed_twice : (pick : X → Bool) (f g : X → X) (xs : List X) → ((x : X) → pick (f x) ≡ pick x) → ((x : X) → P x → P (g (f x))) → AllByRecursion P xs → AllByRecursion P (change pick g (change pick f xs))
  all_changed_twice pick f g [] same h a = tt
  all_changed_twice pick f g (x ∷ xs) same h a = at (pick x) refl (all_changed_twice pick f g xs same h a.1)
    where
      at : (found : Bool) → pick x ≡ found → AllByRecursion P (change pick g (change pick f xs)) → AllByRecursion P (change pick g (cond found (f x ∷ xs) (x ∷ change pick f xs)))
      at true e rest = let now : pick (f x) ≡ true = same x ∙ e in rw now (h x a.0, a.1)
      at false e rest = rw e (a.0, rest)

pub all_units : {X : Type 0} (xs : List X) → AllByRecursion (λ x. Unit {0}) xs
all_units [] = tt
all_units (x ∷ xs) = (tt, all_units xs)

module _ (P : Bundle → Type 0) (low : ℕ) (lasts : LastsOwned P low) where
  holds_last : Lasting (λ last x. Unit {0}) (Unit {0}) (HoldIn P low)
  holds_last = record {
    known = λ p h. all_units p.entries;
    takes = λ p name owner h. record {
      given = h.given;
      bundles = all_changed P (scopes.is_bundle name) (scopes.with_owner owner) p.scopes.bundles (λ x a. lasts.owned x owner a) h.bundles;
      flags = record {
        ranked = ranked_change (scopes.is_bundle name) (scopes.with_owner owner) p.scopes.bundles 0 p.last_bundle (λ x. refl) h.flags.ranked;
        flagged = all_changed (IsFlagged p.closings) (scopes.is_bundle name) (scopes.with_owner owner) p.scopes.bundles (λ x a. a) h.flags.flagged;
      };
    };
    owns = λ p number owner h. record { given = h.given; bundles = h.bundles; flags = h.flags };
    makes = λ p thing owner e h. record { given = h.given; bundles = h.bundles; flags = h.flags };
    moves = λ p number owner x k h. record { given = h.given; bundles = h.bundles; flags = h.flags };
    closes = λ c p owner name number x e f k h. record {
      given = h.given;
      bundles = all_changed_twice P (scopes.is_bundle name) (scopes.with_owner owner) scopes.as_closing p.scopes.bundles (λ y. refl) (λ y a. lasts.closed y owner a) h.bundles;
      flags = record {
        ranked = ranked_change (scopes.is_bundle name) scopes.as_closing (scopes.take p.scopes name owner).bundles 0 p.last_bundle (λ y. refl) (ranked_change (scopes.is_bundle name) (scopes.with_owner owner) p.scopes.bundles 0 p.last_bundle (λ y. refl) h.flags.ranked);
        flagged = flagged_closed p.closings p.scopes.bundles name number owner h.flags.flagged;
      };
    };
    bundles = λ p who h.
        let g = h.given in
        let new : Bundle = record { name = p.last_bundle + 1; owner = Some who; closing = false } in
        record {
          given = omega (arith, g);
          bundles = all_append P p.scopes.bundles (new ∷ []) h.bundles (lasts.made p.last_bundle who g, tt);
          flags = record {
            ranked = ranked_append new p.scopes.bundles 0 p.last_bundle refl h.flags.ranked;
            flagged = all_append (IsFlagged p.closings) p.scopes.bundles (new ∷ []) h.flags.flagged (λ e. cc, tt);
          };
        };
    bears = λ p home who h. record { given = h.given; bundles = h.bundles; flags = h.flags };
    clears = record {
      retires = λ p number h. record { given = h.given; bundles = h.bundles; flags = h.flags };
      frees = λ p x h. record {
        given = h.given;
        bundles = all_without P (scopes.is_bundle x.bundle) p.scopes.bundles h.bundles;
        flags = record { ranked = ranked_without x.bundle p.scopes.bundles 0 p.last_bundle h.flags.ranked; flagged = flagged_freed p.closings p.scopes.bundles x.bundle p.last_bundle h.flags.ranked h.flags.flagged };
      };
      ends = λ p who h. record { given = h.given; bundles = h.bundles; flags = h.flags };
    };
  }

module _ {V : Type 0} (P : Bundle → Type 0) (low : ℕ) (lasts : LastsOwned P low) where
  pub settle_owned : (w : World V) → AllHold P low w → AllHold P low (settle w)
  settle_owned w h = settle_lasts (HoldIn P low) (λ last x. Unit {0}) (Unit {0}) (holds_last P low lasts) w h

  pub expire_one_owned : (w : World V) (who : ℕ) → AllHold P low w → AllHold P low (expire_one w who)
  expire_one_owned w who h = expire_lasts (HoldIn P low) (λ last x. Unit {0}) (Unit {0}) (holds_last P low lasts) w who h

  pub go_on_owned : (p : Program V) (lack : Option LackPlace) (w : World V) (who : ℕ) (view : V) → AllHold P low w → AllHold P low (go_on p lack w who view)
  go_on_owned p lack w who view h = go_on_lasts (HoldIn P low) (λ last x. Unit {0}) (Unit {0}) (holds_last P low lasts) tt p lack w who view h

module _ {V : Type 0} (P : Bundle → Type 0) (low : ℕ) (lasts : Lasts P low) where
  pub settle_one_shut : (w : World V) → AllHold P low w → AllHold P low (settle_one w)
  settle_one_shut w h = settle_one_lasts (HoldIn P low) (λ last x. Unit {0}) (Unit {0}) (holds_last P low (lasts_owned P low lasts)) w h

  pub settle_shut : (w : World V) → AllHold P low w → AllHold P low (settle w)
  settle_shut w h = settle_owned P low (lasts_owned P low lasts) w h

  pub expire_one_shut : (w : World V) (who : ℕ) → AllHold P low w → AllHold P low (expire_one w who)
  expire_one_shut w who h = expire_one_owned P low (lasts_owned P low lasts) w who h

  pub go_on_shut : (p : Program V) (lack : Option LackPlace) (w : World V) (who : ℕ) (view : V) → AllHold P low w → AllHold P low (go_on p lack w who view)
  go_on_shut p lack w who view h = go_on_owned P low (lasts_owned P low lasts) p lack w who view h
