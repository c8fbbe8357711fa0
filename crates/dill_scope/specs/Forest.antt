-- The forest of scopes: inside a bundle, as a relation, and when bundles and coroutines are a forest.
use Rattle.std.specs.Prelude.{◌≡◌, ◌↔◌, ℕ, true, Some, None, Contains}
use Rattle.dill_scope.specs.declared.forest.Bundle.{Bundle}
use Rattle.dill_scope.specs.Scopes.{Scopes, home_of, owner_of, parent, is_inside, is_cancelled}

-- who lives in the bundle is inside it, and so is whose parent is inside it
pub data Inside (s : Scopes) (name : ℕ) : ℕ → Type 0 where
  lives : {who : ℕ} → home_of s who ≡ Some name → Inside s name who
  under : {who : ℕ} (above : ℕ) → parent s who ≡ Some above → Inside s name above → Inside s name who

-- its chain of parents ends at a coroutine of bundle 0
pub data Rooted (s : Scopes) : ℕ → Type 0 where
  at_root : {who : ℕ} → home_of s who ≡ Some 0 → Rooted s who
  below : {who : ℕ} (above : ℕ) → parent s who ≡ Some above → Rooted s above → Rooted s who

-- Nobody is inside a bundle that it owns, every chain of parents ends at the root, and nobody owns the root.
pub record IsForest (s : Scopes) : Type 0 where
  pub outside : (name owner : ℕ) → owner_of s name ≡ Some owner → Inside s name owner → ⊥
  pub rooted : (who name : ℕ) → home_of s who ≡ Some name → Rooted s who
  pub root : owner_of s 0 ≡ None

-- inside a bundle whose closing has begun
pub record Cancelled (s : Scopes) (who : ℕ) : Type 0 where
  pub closed : Bundle
  pub there : Contains s.bundles closed
  pub closing : closed.closing ≡ true
  pub inside : Inside s closed.name who

-- in a forest the search finds exactly those who are inside
abbrev pub SearchIsInside : Type 0
SearchIsInside = (s : Scopes) (name who : ℕ) → IsForest s → (is_inside s name who ≡ true) ↔ Inside s name who

-- in a forest the test finds exactly those who are cancelled
abbrev pub SearchIsCancelled : Type 0
SearchIsCancelled = (s : Scopes) (who : ℕ) → IsForest s → (is_cancelled s who ≡ true) ↔ Cancelled s who
