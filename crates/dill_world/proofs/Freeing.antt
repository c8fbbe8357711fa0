-- What freeing the bundles of an ending comes to: in whatever order, the closings of other owners are left.
use Rattle.std.proofs.Common.{◌≡◌, ◌∙◌, ℕ, ◌==◌, List, [], ◌∷◌, ◌++◌, filter, fold, cond, Bool, true, false, not, nat_lt, refl, sym, ap, arith, append_assoc}
use Rattle.std.proofs.lemmas.List.{append-nil}
use Rattle.dill_calls.specs.declared.ran.Note.TheVariants.{Freed}
use Rattle.dill_scope.specs.Scopes as scopes
use Rattle.dill_scope.specs.Scopes.{Scopes}
use Rattle.dill_base.specs.Maps.{if_some, without}
use Rattle.dill_rules.specs.declared.coroutine.Closing.{Closing}
use Rattle.dill_rules.specs.World.{World}
use Rattle.dill_rules.specs.Owning.{free_bundle, is_closing_of}
use Rattle.dill_rules.specs.Settling.{placed, highest_first, free_all}
use Rattle.dill_world.specs.Freeings.{drop_each, without_each, notes_of, is_owned_closing, others_of}

is_same : (m n : ℕ) → (m == n) ≡ true → m ≡ n
is_same m n e = grind arith

commute_at : (a b : ℕ) (x : Closing) (xs : List Closing) (p q : Bool) → (x.bundle == a) ≡ p → (x.bundle == b) ≡ q → without (is_closing_of a) (without (is_closing_of b) xs) ≡ without (is_closing_of b) (without (is_closing_of a) xs) → without (is_closing_of a) (cond q xs (x ∷ without (is_closing_of b) xs)) ≡ without (is_closing_of b) (cond p xs (x ∷ without (is_closing_of a) xs))
commute_at a b x xs true true e f h = let it : a ≡ b = sym (is_same x.bundle a e) ∙ is_same x.bundle b f in rw it refl
commute_at a b x xs true false e f h = rw e refl
commute_at a b x xs false true e f h = rw f refl
commute_at a b x xs false false e f h = rw (e, f) (ap (λ ys. x ∷ ys) h)

commute : (a b : ℕ) (xs : List Closing) → without (is_closing_of a) (without (is_closing_of b) xs) ≡ without (is_closing_of b) (without (is_closing_of a) xs)
commute a b [] = refl
commute a b (x ∷ xs) = commute_at a b x xs (x.bundle == a) (x.bundle == b) refl refl (commute a b xs)

either_first : (b : Bool) (all : List Closing) (x y : Closing) (ys zs : List Closing) → without_each all (y ∷ zs) ≡ without_each all (x ∷ y ∷ ys) → without_each all (cond b (y ∷ zs) (x ∷ y ∷ ys)) ≡ without_each all (x ∷ y ∷ ys)
either_first true all x y ys zs h = h
either_first false all x y ys zs h = refl

placed_alike : (x : Closing) (ys all : List Closing) → without_each all (placed x ys) ≡ without_each all (x ∷ ys)
placed_alike x [] all = refl
placed_alike x (y ∷ ys) all =
    either_first (nat_lt x.number y.number) all x y ys (placed x ys) (
    placed_alike x ys (without (is_closing_of y.bundle) all) ∙ ap (λ now. without_each now ys) (commute x.bundle y.bundle all)
    )

-- the order in which they go makes no difference to which are left
pub sorted_alike : (xs all : List Closing) → without_each all (highest_first xs) ≡ without_each all xs
sorted_alike [] all = refl
sorted_alike (x ∷ xs) all = placed_alike x (highest_first xs) all ∙ sorted_alike xs (without (is_closing_of x.bundle) all)

module _ (s : Scopes) (who : ℕ) where
  apart_at : (x y : Closing) (b : Bool) → (x.bundle == y.bundle) ≡ b → is_owned_closing s who x ≡ false → is_owned_closing s who y ≡ true → b ≡ false
  apart_at x y true e f g =
      let it : x.bundle ≡ y.bundle = is_same x.bundle y.bundle e in
      let same : if_some (scopes.owner_of s x.bundle) false (λ owner. owner == who) ≡ if_some (scopes.owner_of s y.bundle) false (λ owner. owner == who) = ap (λ n. if_some (scopes.owner_of s n) false (λ owner. owner == who)) it in
      sym g ∙ sym same ∙ f
  apart_at x y false e f g = refl

  passed_by : (x : Closing) (b : Bool) (y : Closing) (ys rest all : List Closing) → is_owned_closing s who y ≡ b → is_owned_closing s who x ≡ false → ((now : List Closing) → without_each (x ∷ now) rest ≡ x ∷ without_each now rest) → without_each (x ∷ all) (cond b (y ∷ rest) rest) ≡ x ∷ without_each all (cond b (y ∷ rest) rest)
  passed_by x true y ys rest all e f h = ap (λ b. without_each (cond b all (x ∷ without (is_closing_of y.bundle) all)) rest) (apart_at x y (x.bundle == y.bundle) refl f e) ∙ h (without (is_closing_of y.bundle) all)
  passed_by x false y ys rest all e f h = h all

  stays : (x : Closing) (ys all : List Closing) → is_owned_closing s who x ≡ false → without_each (x ∷ all) (filter (is_owned_closing s who) ys) ≡ x ∷ without_each all (filter (is_owned_closing s who) ys)
  stays x [] all f = refl
  stays x (y ∷ ys) all f = passed_by x (is_owned_closing s who y) y ys (filter (is_owned_closing s who) ys) all refl f (λ now. stays x ys now f)

  others_at : (x : Closing) (xs : List Closing) (b : Bool) → is_owned_closing s who x ≡ b → without_each xs (filter (is_owned_closing s who) xs) ≡ others_of s who xs → without_each (x ∷ xs) (cond b (x ∷ filter (is_owned_closing s who) xs) (filter (is_owned_closing s who) xs)) ≡ cond (not b) (x ∷ others_of s who xs) (others_of s who xs)
  others_at x xs true e h = let it : (x.bundle == x.bundle) ≡ true = grind arith in ap (λ b. without_each (cond b xs (x ∷ without (is_closing_of x.bundle) xs)) (filter (is_owned_closing s who) xs)) it ∙ h
  others_at x xs false e h = stays x xs xs e ∙ ap (λ ys. x ∷ ys) h

  others_left : (xs : List Closing) → without_each xs (filter (is_owned_closing s who) xs) ≡ others_of s who xs
  others_left [] = refl
  others_left (x ∷ xs) = others_at x xs (is_owned_closing s who x) refl (others_left xs)

module _ {V : Type 0} where
  -- a world in which these bundles are gone
  abbrev pub freed_in : World V → List Closing → World V
  freed_in w xs = record w { scopes = drop_each w.scopes xs; closings = without_each w.closings xs; notes = w.notes ++ notes_of xs }

  frees : (xs : List Closing) (w : World V) → fold free_bundle w xs ≡ freed_in w xs
  frees [] w = rw (append-nil w.notes) refl
  frees (x ∷ xs) w =
      frees xs (free_bundle w x)
      ∙ ap (λ all. record (freed_in w (x ∷ xs)) { notes = all }) (append_assoc w.notes (Freed x.number ∷ []) (notes_of xs))

  -- to free all is to leave the closings of other owners, and to drop the bundles in their order
  pub frees_all : (who : ℕ) (w : World V) → free_all w who ≡ record w { scopes = drop_each w.scopes (highest_first (filter (is_owned_closing w.scopes who) w.closings)); closings = others_of w.scopes who w.closings; notes = w.notes ++ notes_of (highest_first (filter (is_owned_closing w.scopes who) w.closings)) }
  frees_all who w =
      let xs = filter (is_owned_closing w.scopes who) w.closings in
      let left : without_each w.closings (highest_first xs) ≡ others_of w.scopes who w.closings = sorted_alike xs w.closings ∙ others_left w.scopes who w.closings in
      frees (highest_first xs) w ∙ ap (λ all. record (freed_in w (highest_first xs)) { closings = all }) left
