-- Who is inside a bundle stays so, and nobody comes in, where homes and owners change only as told.
use Rattle.std.proofs.Common.{◌≡◌, ◌∙◌, ◌⊎◌, inl, inr, ◌+◌, ◌≤◌, ◌<◌, ◌==◌, ℕ, suc, List, [], ◌∷◌, map, find, Bool, true, false, Option, Some, None, option_map, is_some, refl, sym, ap, subst, arith}
use Rattle.std.specs.Prelude.{option_and_then}
use Rattle.std.specs.List.{AllByRecursion}
use Rattle.std.specs.List.Sorted.{IsStrictlyIncreasing}
use Rattle.dill_scope.specs.declared.forest.Bundle.{Bundle}
use Rattle.dill_scope.specs.declared.forest.Home.{Home}
use Rattle.dill_scope.specs.Scopes.{Scopes, is_home, is_bundle, home_of, owner_of, is_inside}
use Rattle.dill_scope.specs.Forest.{Inside, lives, under, Rooted, at_root, below, IsForest}
use Rattle.dill_scope.specs.Keeping.{IsThere, IsOrderedForest}
use Rattle.dill_scope.proofs.Carrying.{parent_told, parent_is}
use Rattle.dill_scope.proofs.Chains.{search_is_inside}
use Rattle.laws_queue.proofs.Lists.{all_found, found_passes, number_of, equal_number, above_of, some_same, all_to}

-- the owner of a bundle isn't inside that one
abbrev pub NotOf : Scopes → ℕ → ℕ → Type 0
NotOf s b name = (old : ℕ) → owner_of s name ≡ Some old → Inside s b old → ⊥

-- Where somebody owns a bundle now it did before, or the bundle is that one, or neither it nor its owner before is inside that one.
abbrev pub OwnerOk : Scopes → ℕ → ℕ → ℕ → Type 0
OwnerOk s b name owner = (owner_of s name ≡ Some owner) ⊎ (name ≡ b) ⊎ ((Inside s b owner → ⊥) × NotOf s b name)

abbrev pub BundleOk : Scopes → ℕ → Bundle → Type 0
BundleOk s b y = (owner : ℕ) → y.owner ≡ Some owner → OwnerOk s b y.name owner

-- Where somebody lives now it did before, or it is new, and neither lives in that one nor in a bundle of who is inside it.
abbrev pub HomeOk : Scopes → ℕ → Home → Type 0
HomeOk s b x = (home_of s x.who ≡ Some x.bundle) ⊎ ((home_of s x.who ≡ None) × (x.bundle ≡ b → ⊥) × NotOf s b x.bundle)

-- homes and owners after, by what was before
pub record Tracks (s : Scopes) (b : ℕ) (t : Scopes) : Type 0 where
  pub homes : AllByRecursion (HomeOk s b) t.homes
  pub owners : AllByRecursion (BundleOk s b) t.bundles

-- a home that is found
pub record HomeAt (P : Home → Type 0) (who home : ℕ) : Type 0 where
  pub x : Home
  pub is_who : x.who ≡ who
  pub in_home : x.bundle ≡ home
  pub holds : P x

home_found : (P : Home → Type 0) (who home : ℕ) (xs : List Home) (o : Option Home) → find (is_home who) xs ≡ o → option_map (λ (x : Home). x.bundle) o ≡ Some home → AllByRecursion P xs → HomeAt P who home
home_found P who home xs None e f a = cc
home_found P who home xs (Some x) e f a = record {
  x = x;
  is_who = number_of x.who who (found_passes (is_home who) xs x e);
  in_home = some_same x.bundle home f;
  holds = all_found P (is_home who) x xs e a;
}

pub home_at : (P : Home → Type 0) (t : Scopes) (who home : ℕ) → home_of t who ≡ Some home → AllByRecursion P t.homes → HomeAt P who home
home_at P t who home e a = home_found P who home t.homes (find (is_home who) t.homes) refl e a

-- an owner that is found
pub record OwnerAt (P : Bundle → Type 0) (name owner : ℕ) : Type 0 where
  pub y : Bundle
  pub is_name : y.name ≡ name
  pub by : y.owner ≡ Some owner
  pub holds : P y

owner_found : (P : Bundle → Type 0) (name owner : ℕ) (xs : List Bundle) (o : Option Bundle) → find (is_bundle name) xs ≡ o → option_and_then (λ (y : Bundle). y.owner) o ≡ Some owner → AllByRecursion P xs → OwnerAt P name owner
owner_found P name owner xs None e f a = cc
owner_found P name owner xs (Some y) e f a = record {
  y = y;
  is_name = number_of y.name name (found_passes (is_bundle name) xs y e);
  by = f;
  holds = all_found P (is_bundle name) y xs e a;
}

pub owner_at : (P : Bundle → Type 0) (t : Scopes) (name owner : ℕ) → owner_of t name ≡ Some owner → AllByRecursion P t.bundles → OwnerAt P name owner
owner_at P t name owner e a = owner_found P name owner t.bundles (find (is_bundle name) t.bundles) refl e a

module _ (s : Scopes) (b : ℕ) (t : Scopes) (tracks : Tracks s b t) where
  owner_told : (name owner : ℕ) → owner_of t name ≡ Some owner → OwnerOk s b name owner
  owner_told name owner e =
      let at = owner_at (BundleOk s b) t name owner e tracks.owners in
      subst (λ n. OwnerOk s b n owner) at.is_name (at.holds owner at.by)

  home_told : (who home : ℕ) → home_of t who ≡ Some home → (home_of s who ≡ Some home) ⊎ ((home_of s who ≡ None) × (home ≡ b → ⊥) × NotOf s b home)
  home_told who home e =
      let at = home_at (HomeOk s b) t who home e tracks.homes in
      subst (λ h. (home_of s who ≡ Some h) ⊎ ((home_of s who ≡ None) × (h ≡ b → ⊥) × NotOf s b h)) at.in_home
      (subst (λ n. (home_of s n ≡ Some at.x.bundle) ⊎ ((home_of s n ≡ None) × (at.x.bundle ≡ b → ⊥) × NotOf s b at.x.bundle)) at.is_who at.holds)

  lives_before : (who : ℕ) → (home_of s who ≡ Some b) ⊎ ((home_of s who ≡ None) × (b ≡ b → ⊥) × NotOf s b b) → Inside s b who
  lives_before who (inl e) = lives e
  lives_before who (inr n) = absurd (n.1 refl)

  under_before : (who home above : ℕ) → (home_of s who ≡ Some home) ⊎ ((home_of s who ≡ None) × (home ≡ b → ⊥) × NotOf s b home) → OwnerOk s b home above → Inside s b above → Inside s b who
  under_before who home above (inl e) (inl o) i = under above (parent_is s who home above e o) i
  under_before who home above (inl e) (inr (inl o)) i = lives (subst (λ h. home_of s who ≡ Some h) o e)
  under_before who home above (inl e) (inr (inr o)) i = absurd (o.0 i)
  under_before who home above (inr n) (inl o) i = absurd (n.2 above o i)
  under_before who home above (inr n) (inr (inl o)) i = absurd (n.1 o)
  under_before who home above (inr n) (inr (inr o)) i = absurd (o.0 i)

  -- nobody comes in
  pub inside_before : (who : ℕ) → Inside t b who → Inside s b who
  inside_before who (lives e) = lives_before who (home_told who b e)
  inside_before who (under above e i) =
      let up = parent_told t who above e in
      under_before who up.home above (home_told who up.home up.lives_in) (owner_told up.home above up.owned) (inside_before above i)

  module _ (nobody : owner_of s 0 ≡ None) (forest : IsOrderedForest t) where
    there_home : (o : Option ℕ) → is_some o ≡ true → (h : ℕ) × (o ≡ Some h)
    there_home None e = cc
    there_home (Some h) e = (h, refl)

    lives_after : (who home : ℕ) → home_of t who ≡ Some home → (home_of s who ≡ Some home) ⊎ ((home_of s who ≡ None) × (home ≡ b → ⊥) × NotOf s b home) → home_of s who ≡ Some b → Inside t b who
    lives_after who home e (inl f) g = let it = some_same home b (sym f ∙ g) in lives (subst (λ h. home_of t who ≡ Some h) it e)
    lives_after who home e (inr n) g = let it : ◌≡◌ {A = Option ℕ} None (Some b) = sym n.0 ∙ g in cc

    old_home : (who home h : ℕ) → home_of s who ≡ Some h → (home_of s who ≡ Some home) ⊎ ((home_of s who ≡ None) × (home ≡ b → ⊥) × NotOf s b home) → h ≡ home
    old_home who home h e (inl f) = some_same h home (sym e ∙ f)
    old_home who home h e (inr n) = let it : ◌≡◌ {A = Option ℕ} None (Some h) = sym n.0 ∙ e in cc

    -- who is inside and there is inside after
    pub inside_after : (who : ℕ) → Inside s b who → IsThere t who → Inside t b who
    inside_after who (lives e) there =
        let now = there_home (home_of t who) there in
        lives_after who now.0 now.1 (home_told who now.0 now.1) e
    inside_after who (under above e i) there =
        let now = there_home (home_of t who) there in
        let up = parent_told s who above e in
        let same = old_home who now.0 up.home up.lives_in (home_told who now.0 now.1) in
        let owned : owner_of s now.0 ≡ Some above = subst (λ h. owner_of s h ≡ Some above) same up.owned in
        at now.0 now.1 owned (forest.forest.rooted who now.0 now.1) (inside_after above i)
      where
        by_owner : (home up : ℕ) → home_of t who ≡ Some home → owner_of t home ≡ Some up → owner_of s home ≡ Some above → OwnerOk s b home up → (IsThere t above → Inside t b above) → Inside t b who
        by_owner home up f g o (inl k) rest =
            let it = some_same up above (sym k ∙ o) in
            let owned_now : owner_of t home ≡ Some above = subst (λ u. owner_of t home ≡ Some u) it g in
            under above (parent_is t who home above f owned_now) (rest (forest.ordered.owners home above owned_now))
        by_owner home up f g o (inr (inl k)) rest = lives (subst (λ h. home_of t who ≡ Some h) k f)
        by_owner home up f g o (inr (inr k)) rest = absurd (k.1 above o i)

        at : (home : ℕ) → home_of t who ≡ Some home → owner_of s home ≡ Some above → Rooted t who → (IsThere t above → Inside t b above) → Inside t b who
        at home f o (at_root g) rest =
            let root : home ≡ 0 = some_same home 0 (sym f ∙ g) in
            let it : ◌≡◌ {A = Option ℕ} None (Some above) = sym nobody ∙ subst (λ h. owner_of s h ≡ Some above) root o in
            cc
        at home f o (below higher g r) rest =
            let p = parent_told t who higher g in
            let same = some_same p.home home (sym p.lives_in ∙ f) in
            let owned : owner_of t home ≡ Some higher = subst (λ h. owner_of t h ≡ Some higher) same p.owned in
            by_owner home higher f owned o (owner_told home higher owned) rest

bool_same : (a c : Bool) → (a ≡ true → c ≡ true) → (c ≡ true → a ≡ true) → a ≡ c
bool_same true c h k = sym (h refl)
bool_same false true h k = cc_by (k refl)
  where
    cc_by : false ≡ true → false ≡ true
    cc_by e = e
bool_same false false h k = refl

-- the search finds the same
pub inside_same : (s : Scopes) (b : ℕ) (t : Scopes) → Tracks s b t → IsForest s → IsOrderedForest t → (who : ℕ) → IsThere t who → is_inside t b who ≡ is_inside s b who
inside_same s b t tracks old new who there =
    let after = search_is_inside t b who new.forest in
    let before = search_is_inside s b who old in
    bool_same (is_inside t b who) (is_inside s b who) (λ e. before.1 (inside_before s b t tracks who (after.0 e))) (λ e. after.1 (inside_after s b t tracks old.root new who (before.0 e) there))

-- each of a list whose keys rise is found by its key
module _ {X : Type 0} (key : X → ℕ) where
  pub rising_tail : (x : ℕ) (xs : List ℕ) → IsStrictlyIncreasing (x ∷ xs) → IsStrictlyIncreasing xs
  rising_tail x xs i k h =
      let r = i (suc k) (omega (arith, h)) in
      let e : suc k + 1 ≡ suc (k + 1) = omega arith in
      rw e at r

  pub all_higher : (low : ℕ) (x : X) (xs : List X) → IsStrictlyIncreasing (map key (x ∷ xs)) → low ≤ key x → AllByRecursion (λ y. low < key y) xs
  all_higher low x [] i l = tt
  all_higher low x (y ∷ ys) i l =
      let s = i 0 (omega arith) in
      let up : low < key y = omega (arith, l, s) in
      (up, all_higher low y ys (rising_tail (key x) (map key (y ∷ ys)) i) (omega (arith, up)))

  found_more : (x : X) (all : List X) (xs : List X) → AllByRecursion (λ y. key x < key y) xs → AllByRecursion (λ y. find (λ z. key z == key y) all ≡ Some y) xs → AllByRecursion (λ y. find (λ z. key z == key y) (x ∷ all) ≡ Some y) xs
  found_more x all [] a h = tt
  found_more x all (y ∷ ys) a h = (rw (above_of (key x) (key y) a.0) h.0, found_more x all ys a.1 h.1)

  pub all_by_key : (xs : List X) → IsStrictlyIncreasing (map key xs) → AllByRecursion (λ y. find (λ z. key z == key y) xs ≡ Some y) xs
  all_by_key [] i = tt
  all_by_key (x ∷ xs) i = (
    rw (equal_number (key x) (key x) refl) refl,
    found_more x xs xs (all_higher (key x) x xs i (omega arith)) (all_by_key xs (rising_tail (key x) (map key xs) i)),
  )

-- nothing has changed yet
pub tracks_self : (s : Scopes) (b : ℕ) → IsOrderedForest s → Tracks s b s
tracks_self s b f = record {
  homes = all_to (λ x. find (is_home x.who) s.homes ≡ Some x) (HomeOk s b) s.homes (λ x e. inl (ap (option_map (λ (y : Home). y.bundle)) e)) (all_by_key (λ (x : Home). x.who) s.homes f.ordered.homes);
  owners = all_to (λ y. find (is_bundle y.name) s.bundles ≡ Some y) (BundleOk s b) s.bundles (λ y e owner g. inl (ap (option_and_then (λ (z : Bundle). z.owner)) e ∙ g)) (all_by_key (λ (y : Bundle). y.name) s.bundles f.ordered.bundles);
}
