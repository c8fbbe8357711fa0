-- What is inside and rooted in one state is so in another that has the same homes and owners.
use Rattle.std.proofs.Common.{◌≡◌, ℕ, refl, Option, Some, None}
use Rattle.std.specs.Prelude.{option_and_then, IsSome}
use Rattle.dill_scope.specs.Scopes.{Scopes, home_of, owner_of, parent}
use Rattle.dill_scope.specs.Forest.{Inside, lives, under, Rooted, at_root, below}

-- a parent is the owner of a home
pub record Parent (s : Scopes) (who above : ℕ) : Type 0 where
  pub home : ℕ
  pub lives_in : home_of s who ≡ Some home
  pub owned : owner_of s home ≡ Some above

parent_cons : (s : Scopes) (who above : ℕ) (o : Option ℕ) → home_of s who ≡ o → option_and_then (owner_of s) o ≡ Some above → Parent s who above
parent_cons s who above None h e = cc
parent_cons s who above (Some home) h e = record { home = home; lives_in = h; owned = e }

pub parent_told : (s : Scopes) (who above : ℕ) → parent s who ≡ Some above → Parent s who above
parent_told s who above e = parent_cons s who above (home_of s who) refl e

pub parent_is : (s : Scopes) (who home above : ℕ) → home_of s who ≡ Some home → owner_of s home ≡ Some above → parent s who ≡ Some above
parent_is s who home above h e = rw h e

-- who is inside a bundle lives somewhere
pub inside_lives : (s : Scopes) (name : ℕ) {who : ℕ} → Inside s name who → (home : ℕ) × (home_of s who ≡ Some home)
inside_lives s name (lives e) = (name, e)
inside_lives s name {who} (under above e i) = let p = parent_told s who above e in (p.home, p.lives_in)

-- who is inside a bundle is inside those that its owner is inside
pub inside_through : (s : Scopes) (name low owner : ℕ) {who : ℕ} → owner_of s low ≡ Some owner → Inside s low who → Inside s name owner → Inside s name who
inside_through s name low owner {who} o (lives e) i = under owner (parent_is s who low owner e o) i
inside_through s name low owner o (under above e j) i = under above e (inside_through s name low owner o j i)

module _ (s t : Scopes) (P : ℕ → Type 0) where
  -- from such coroutines on, homes and owners are the same
  pub record Carries : Type 0 where
    pub homes : (who name : ℕ) → P who → home_of s who ≡ Some name → home_of t who ≡ Some name
    pub owners : (who name owner : ℕ) → P who → home_of s who ≡ Some name → owner_of s name ≡ Some owner → owner_of t name ≡ Some owner
    pub goes_on : (who name owner : ℕ) → P who → home_of s who ≡ Some name → owner_of s name ≡ Some owner → P owner

  module _ (c : Carries) where
    carry_parent : (who above : ℕ) → P who → parent s who ≡ Some above → (parent t who ≡ Some above) × P above
    carry_parent who above p e =
        let up = parent_told s who above e in (
          parent_is t who up.home above (c.homes who up.home p up.lives_in) (c.owners who up.home above p up.lives_in up.owned),
          c.goes_on who up.home above p up.lives_in up.owned,
        )

    pub carry_inside : (name : ℕ) {who : ℕ} → P who → Inside s name who → Inside t name who
    carry_inside name {who} p (lives e) = lives (c.homes who name p e)
    carry_inside name {who} p (under above e i) = let up = carry_parent who above p e in under above up.0 (carry_inside name up.1 i)

    pub carry_rooted : {who : ℕ} → P who → Rooted s who → Rooted t who
    carry_rooted {who} p (at_root e) = at_root (c.homes who 0 p e)
    carry_rooted {who} p (below above e r) = let up = carry_parent who above p e in below above up.0 (carry_rooted up.1 r)

pub some_told : {X : Type 0} (o : Option X) → IsSome o → (x : X) × (o ≡ Some x)
some_told None e = cc
some_told (Some x) e = (x, refl)

pub some_is : {X : Type 0} (o : Option X) (x : X) → o ≡ Some x → IsSome o
some_is o x e = rw e refl
