-- What keeps scopes a forest whose numbers are in order, and whom each change moves or cancels.
use Rattle.std.specs.Prelude.{◌≡◌, ◌↔◌, ◌⊎◌, ℕ, ◌<◌, true, map, find, Some, All, Contains, IsSome}
use Rattle.std.specs.List.Sorted.{IsStrictlyIncreasing}
use Rattle.dill_scope.specs.Scopes.{Scopes, is_bundle, home_of, owner_of, opening_scopes, is_inside, tree, is_empty, bundle, enter, take, close, ended, drop_bundle}
use Rattle.dill_scope.specs.Forest.{Inside, IsForest, Cancelled}

-- a coroutine that lives in some bundle
abbrev pub IsThere : Scopes → ℕ → Type 0
IsThere s who = IsSome (home_of s who)

-- a bundle that hasn't been dropped
abbrev pub IsKnown : Scopes → ℕ → Type 0
IsKnown s name = IsSome (find (is_bundle name) s.bundles)

-- above the number of every coroutine
abbrev pub IsNewCoroutine : Scopes → ℕ → Type 0
IsNewCoroutine s who = All (λ x. x.who < who) s.homes

-- above the name of every bundle
abbrev pub IsNewBundle : Scopes → ℕ → Type 0
IsNewBundle s name = All (λ x. x.name < name) s.bundles

-- Coroutines and bundles rise by their numbers, the root is there, every other bundle has an owner, and who owns one is there.
pub record IsOrdered (s : Scopes) : Type 0 where
  pub homes : IsStrictlyIncreasing (map (λ x. x.who) s.homes)
  pub bundles : IsStrictlyIncreasing (map (λ x. x.name) s.bundles)
  pub root : IsKnown s 0
  pub owned : (name : ℕ) → (name ≡ 0 → ⊥) → IsKnown s name → IsSome (owner_of s name)
  pub owners : (name owner : ℕ) → owner_of s name ≡ Some owner → IsThere s owner

-- a forest whose numbers are in order
pub record IsOrderedForest (s : Scopes) : Type 0 where
  pub forest : IsForest s
  pub ordered : IsOrdered s

-- the opening is a forest
abbrev pub OpeningIsForest : Type 0
OpeningIsForest = IsOrderedForest opening_scopes

-- a new bundle of an owner who is there keeps the forest
abbrev pub BundleKeepsForest : Type 0
BundleKeepsForest = (s : Scopes) (name owner : ℕ) → IsOrderedForest s → IsNewBundle s name → IsThere s owner → IsOrderedForest (bundle s name owner)

-- a new coroutine in a bundle that is there keeps the forest
abbrev pub EnterKeepsForest : Type 0
EnterKeepsForest = (s : Scopes) (name who : ℕ) → IsOrderedForest s → IsKnown s name → IsNewCoroutine s who → IsOrderedForest (enter s name who)

-- a new bundle of an owner who is there, with a new coroutine in it, keeps the forest
abbrev pub OpenKeepsForest : Type 0
OpenKeepsForest = (s : Scopes) (name owner who : ℕ) → IsOrderedForest s → IsNewBundle s name → IsThere s owner → IsNewCoroutine s who → IsOrderedForest (enter (bundle s name owner) name who)

-- taking by an owner who is there and isn't inside the bundle keeps the forest
abbrev pub TakeKeepsForest : Type 0
TakeKeepsForest = (s : Scopes) (name owner : ℕ) → IsOrderedForest s → IsThere s owner → (Inside s name owner → ⊥) → IsOrderedForest (take s name owner)

-- A forest, one of its bundles, and a coroutine that is there. Its taking leaves no forest.
pub record BadTaking : Type 0 where
  pub before : Scopes
  pub name : ℕ
  pub owner : ℕ
  pub ordered : IsOrderedForest before
  pub known : IsKnown before name
  pub there : IsThere before owner
  pub spoils : IsForest (take before name owner) → ⊥

-- the beginning of a closing keeps the forest
abbrev pub CloseKeepsForest : Type 0
CloseKeepsForest = (s : Scopes) (name : ℕ) → IsOrderedForest s → IsOrderedForest (close s name)

-- the end of a coroutine that owns no bundle keeps the forest
abbrev pub EndedKeepsForest : Type 0
EndedKeepsForest = (s : Scopes) (who : ℕ) → IsOrderedForest s → ((name : ℕ) → owner_of s name ≡ Some who → ⊥) → IsOrderedForest (ended s who)

-- dropping an empty bundle other than the root keeps the forest
abbrev pub DropKeepsForest : Type 0
DropKeepsForest = (s : Scopes) (name : ℕ) → IsOrderedForest s → (name ≡ 0 → ⊥) → is_empty s name ≡ true → IsOrderedForest (drop_bundle s name)

-- the tree of a bundle in a forest: rising, and exactly those inside
pub record IsTreeOf (s : Scopes) (name : ℕ) : Type 0 where
  pub rises : IsStrictlyIncreasing (tree s name)
  pub lists : (who : ℕ) → Contains (tree s name) who ↔ Inside s name who

-- the tree lists those inside
abbrev pub TreeListsInside : Type 0
TreeListsInside = (s : Scopes) (name : ℕ) → IsOrderedForest s → IsTreeOf s name

-- such coroutines are inside the same bundles in both
abbrev pub SamePlaces : Scopes → Scopes → (ℕ → Type 0) → Type 0
SamePlaces s t P = (name who : ℕ) → P who → Inside t name who ↔ Inside s name who

abbrev pub Everybody : ℕ → Type 0
Everybody who = Unit {0}

-- everybody else
abbrev pub Others : ℕ → ℕ → Type 0
Others who other = other ≡ who → ⊥

-- who lives in this bundle is inside that one
abbrev pub LivesInside : Scopes → ℕ → ℕ → Type 0
LivesInside s home name = (home ≡ name) ⊎ ((owner : ℕ) × (owner_of s home ≡ Some owner) × Inside s name owner)

-- a new bundle moves nobody
abbrev pub BundleMovesNobody : Type 0
BundleMovesNobody = (s : Scopes) (name owner : ℕ) → IsOrderedForest s → IsNewBundle s name → SamePlaces s (bundle s name owner) Everybody

-- a new coroutine moves nobody else
abbrev pub EnterMovesNoOther : Type 0
EnterMovesNoOther = (s : Scopes) (home who : ℕ) → IsOrderedForest s → IsNewCoroutine s who → SamePlaces s (enter s home who) (Others who)

-- a new coroutine is inside its bundle, and where the bundle's owner is
abbrev pub EnterPlaces : Type 0
EnterPlaces = (s : Scopes) (home who name : ℕ) → IsOrderedForest s → IsNewCoroutine s who → Inside (enter s home who) name who ↔ LivesInside s home name

-- the end of a coroutine that owns no bundle moves nobody else
abbrev pub EndedMovesNoOther : Type 0
EndedMovesNoOther = (s : Scopes) (who : ℕ) → IsOrderedForest s → ((name : ℕ) → owner_of s name ≡ Some who → ⊥) → SamePlaces s (ended s who) (Others who)

-- dropping an empty bundle moves nobody
abbrev pub DropMovesNobody : Type 0
DropMovesNobody = (s : Scopes) (name : ℕ) → is_empty s name ≡ true → SamePlaces s (drop_bundle s name) Everybody

-- the beginning of a closing changes no owner, and who is inside what
abbrev pub CloseMovesNobody : Type 0
CloseMovesNobody = (s : Scopes) (name at who : ℕ) → (owner_of (close s name) at ≡ owner_of s at) × (is_inside (close s name) at who ≡ is_inside s at who)

-- by the beginning of a closing those are cancelled who were, and those inside the bundle
abbrev pub CloseCancelsInside : Type 0
CloseCancelsInside = (s : Scopes) (name who : ℕ) → IsKnown s name → Cancelled (close s name) who ↔ (Cancelled s who ⊎ Inside s name who)

-- by taking at most those inside the bundle become cancelled, and only where the new owner is cancelled
abbrev pub TakeCancelsInside : Type 0
TakeCancelsInside = (s : Scopes) (name owner who : ℕ) → (Inside s name owner → ⊥) → Cancelled (take s name owner) who → Cancelled s who ⊎ (Inside s name who × Cancelled s owner)

-- Taking cancels nobody, where the new owner was the owner before or isn't cancelled.
abbrev pub TakeCancelsNobody : Type 0
TakeCancelsNobody = (s : Scopes) (name owner who : ℕ) → (Inside s name owner → ⊥) → ((owner_of s name ≡ Some owner → ⊥) → Cancelled s owner → ⊥) → Cancelled (take s name owner) who → Cancelled s who

-- Who is cancelled stays so, where the new owner was the owner before or the old owner isn't cancelled.
abbrev pub TakeFreesNobody : Type 0
TakeFreesNobody = (s : Scopes) (name owner old who : ℕ) → owner_of s name ≡ Some old → ((old ≡ owner → ⊥) → Cancelled s old → ⊥) → Cancelled s who → Cancelled (take s name owner) who
