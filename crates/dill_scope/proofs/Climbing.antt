-- One step of the search for who is inside a bundle.
use Rattle.std.proofs.Common.{◌≡◌, ℕ, suc, ◌==◌, Bool, true, false, ◌⊎◌, inl, inr, refl, eq-eqb, Some}
use Rattle.std.proofs.lemmas.Bool.Decides.{Decides-eqb}
use Rattle.dill_scope.specs.Scopes.{Scopes, home_of, owner_of, inside_within}

unequal : (a b : ℕ) (t : Bool) → (a == b) ≡ t → (a ≡ b → ⊥) → t ≡ false
unequal a b true e n = absurd (n ((Decides-eqb a b).0 e))
unequal a b false e n = refl

-- two numbers that differ fail the test
pub differ : (a b : ℕ) → (a ≡ b → ⊥) → (a == b) ≡ false
differ a b n = unequal a b (a == b) refl n

decided : (a b : ℕ) (t : Bool) → (a == b) ≡ t → (a ≡ b) ⊎ (a ≡ b → ⊥)
decided a b true e = inl ((Decides-eqb a b).0 e)
decided a b false e = inr (λ same. let t : (a == b) ≡ true = eq-eqb a b same in let n : false ≡ true = rw (← e) t in cc)

-- two numbers are one or not
pub same_or_not : (a b : ℕ) → (a ≡ b) ⊎ (a ≡ b → ⊥)
same_or_not a b = decided a b (a == b) refl

-- who lives elsewhere is inside where its parent is
pub climb : (s : Scopes) (name who home owner k : ℕ) → home_of s who ≡ Some home → (home ≡ name → ⊥) → owner_of s home ≡ Some owner → inside_within (suc k) s name who ≡ inside_within k s name owner
climb s name who home owner k e f h = rw (e, differ home name f, h) refl
