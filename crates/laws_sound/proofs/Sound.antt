-- A world in order is sound, and where its root is closing everybody is cancelled.
use Rattle.std.proofs.Common.{◌≡◌, ◌∙◌, ℕ, ◌+◌, ◌≤◌, ◌==◌, List, [], ◌∷◌, map, find, Bool, true, false, cond, Option, Some, None, refl, sym, ap, subst, arith}
use Rattle.std.proofs.lemmas.Bool.{and_parts}
use Rattle.std.specs.Prelude.{is_some, option_map, nat_le}
use Rattle.std.proofs.lemmas.Bool.Decides.{nat_tests}
use Rattle.dill_handles.specs.declared.entry.Entry.{Entry}
use Rattle.dill_scope.specs.declared.forest.Bundle.{Bundle}
use Rattle.dill_scope.specs.declared.forest.Home.{Home}
use Rattle.dill_scope.specs.Scopes.{Scopes, is_home, is_bundle, home_of, owner_of, is_cancelled}
use Rattle.dill_scope.specs.Forest.{Inside, lives, under, Rooted, at_root, below, IsForest}
use Rattle.dill_scope.proofs.Chains.{search_is_cancelled}
use Rattle.dill_scope.proofs.Numbered.{found_in, found_number}
use Rattle.dill_base.specs.Maps.{if_some}
use Rattle.dill_rules.specs.declared.thing.Thing.{Thing}
use Rattle.dill_rules.specs.Owning.{entry_of}
use Rattle.dill_rules.specs.Taking.{bundle_of}
use Rattle.dill_rules.specs.World.{World}
use Rattle.laws_queue.specs.Well.{bit, occurs}
use Rattle.laws_sound.proofs.Lists.{all_found, occurs_found}
use Rattle.laws_sound.specs.Order.{is_there, has_bundle, is_held, FitsTogether}
use Rattle.laws_sound.specs.Laws.{is_closing, OrderIsSound, CancelsAll}

pub owner_is : (o : Option ℕ) (who : ℕ) → if_some o false (λ owner. owner == who) ≡ true → o ≡ Some who
owner_is None who e = cc
owner_is (Some owner) who e = let it : owner ≡ who = grind (arith, nat_tests) in ap (λ n. Some n) it

-- what is counted and at most a bit, is below the bound
within : (n k high m : ℕ) → 1 ≤ n → n + m ≤ bit (nat_le k high) → k ≤ high
within n k high m h e = at (nat_le k high) refl e
  where
    at : (b : Bool) → nat_le k high ≡ b → n + m ≤ bit b → k ≤ high
    at true f g = grind (arith, nat_tests)
    at false f g = absurd (omega arith)

module _ (V : Type 0) where
  pub order_is_sound : OrderIsSound V
  order_is_sound w order = record {
    forest = order.fits.forest.forest;
    owned = λ number x e. (and_parts (is_there w x.owner) (if_some (bundle_of x.thing) true (has_bundle w x.owner)) (held number x e)).0;
    given = λ number x e. within (occurs number (map (λ y. y.number) w.handles.entries)) number w.handles.last (occurs number (map (λ y. y.number) w.closings)) (occurs_found (λ y. y.number) number w.handles.entries x e) (order.fits.numbers number);
    room = order.fits.room;
    one = record { bundles = λ number name x e f. owner_is (owner_of w.scopes name) x.owner (ap (λ t. if_some (bundle_of t) true (has_bundle w x.owner)) (sym f) ∙ (and_parts (is_there w x.owner) (if_some (bundle_of x.thing) true (has_bundle w x.owner)) (held number x e)).1) };
  }
    where
      held : (number : ℕ) (x : Entry Thing) → entry_of w number ≡ Some x → is_held w x ≡ true
      held number x e = all_found (is_held w) (λ y. y.number == number) w.handles.entries x order.fits.held e

same_heads : (a b : ℕ) (x y : List ℕ) → ◌≡◌ {A = List ℕ} (a ∷ x) (b ∷ y) → (a ≡ b) × (x ≡ y)
same_heads a b x y e = (cc, cc)

empty_heads : (b : ℕ) (y : List ℕ) → ◌≡◌ {A = List ℕ} [] (b ∷ y) → ⊥
empty_heads b y e = cc

-- lists of the same numbers have the same ones
pub same_there : {X Y : Type 0} (f : X → ℕ) (g : Y → ℕ) (n : ℕ) (xs : List X) (ys : List Y) → map f xs ≡ map g ys → is_some (find (λ x. f x == n) xs) ≡ is_some (find (λ y. g y == n) ys)
same_there f g n [] [] e = refl
same_there f g n [] (y ∷ ys) e = absurd (empty_heads (g y) (map g ys) e)
same_there f g n (x ∷ xs) [] e = absurd (empty_heads (f x) (map f xs) (sym e))
same_there f g n (x ∷ xs) (y ∷ ys) e =
    let h = same_heads (f x) (g y) (map f xs) (map g ys) e in
    rw h.0 (at (g y == n) (same_there f g n xs ys h.1))
  where
    at : (t : Bool) → is_some (find (λ z. f z == n) xs) ≡ is_some (find (λ z. g z == n) ys) → is_some (cond t (Some x) (find (λ z. f z == n) xs)) ≡ is_some (cond t (Some y) (find (λ z. g z == n) ys))
    at true r = refl
    at false r = r

-- every chain of parents ends inside the root
pub rooted_inside : (s : Scopes) (who : ℕ) → Rooted s who → Inside s 0 who
rooted_inside s who (at_root e) = lives e
rooted_inside s who (below above e r) = under above e (rooted_inside s above r)

home_known : (s : Scopes) (who : ℕ) → is_some (find (is_home who) s.homes) ≡ true → (name : ℕ) × (home_of s who ≡ Some name)
home_known s who e = at (find (is_home who) s.homes) refl e
  where
    at : (o : Option Home) → find (is_home who) s.homes ≡ o → is_some o ≡ true → (name : ℕ) × (home_of s who ≡ Some name)
    at None f g = cc
    at (Some x) f g = (x.bundle, ap (option_map (λ y. y.bundle)) f)

-- a bundle that is closing is there
pub closing_found : (s : Scopes) (name : ℕ) → is_closing s name ≡ true → (x : Bundle) × (find (is_bundle name) s.bundles ≡ Some x) × (x.closing ≡ true)
closing_found s name e = at (find (is_bundle name) s.bundles) refl e
  where
    at : (o : Option Bundle) → find (is_bundle name) s.bundles ≡ o → if_some o false (λ x. x.closing) ≡ true → (x : Bundle) × (find (is_bundle name) s.bundles ≡ Some x) × (x.closing ≡ true)
    at None f g = cc
    at (Some x) f g = (x, f, g)

-- who is inside a bundle that is closing is cancelled
pub inside_cancelled : (s : Scopes) (name who : ℕ) → IsForest s → is_closing s name ≡ true → Inside s name who → is_cancelled s who ≡ true
inside_cancelled s name who forest e i =
    let x = closing_found s name e in
    let same : x.0.name ≡ name = found_number (λ y. y.name) name s.bundles x.0 x.1 in
    (search_is_cancelled s who forest).1 (record { closed = x.0; there = found_in (λ y. y.name) name s.bundles x.0 x.1; closing = x.2; inside = subst (λ n. Inside s n who) (sym same) i })

module _ {V : Type 0} where
  -- who is in the list of coroutines lives in a bundle
  pub there_home : (w : World V) (who : ℕ) → FitsTogether w → is_there w who ≡ true → (name : ℕ) × (home_of w.scopes who ≡ Some name)
  there_home w who fits e = home_known w.scopes who (same_there (λ x. x.who) (λ c. c.number) who w.scopes.homes w.coroutines fits.crew ∙ e)

  -- everybody is inside the root
  pub there_inside : (w : World V) (who : ℕ) → FitsTogether w → is_there w who ≡ true → Inside w.scopes 0 who
  there_inside w who fits e =
      let home = there_home w who fits e in
      rooted_inside w.scopes who (fits.forest.forest.rooted who home.0 home.1)

pub all_cancelled : (V : Type 0) → CancelsAll V
all_cancelled V w who order e there = inside_cancelled w.scopes 0 who order.fits.forest.forest e (there_inside w who order.fits there)
