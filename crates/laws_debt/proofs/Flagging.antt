-- How the flags of bundles stay noted as bundles come, change owners, begin to close and are gone.
use Rattle.std.proofs.Common.{◌≡◌, ◌⊎◌, inl, inr, ◌+◌, ◌≤◌, ◌==◌, ℕ, List, [], ◌∷◌, ◌++◌, map, Bool, true, false, cond, refl, sym, ap, subst, arith}
use Rattle.std.specs.List.{AllByRecursion}
use Rattle.std.proofs.lemmas.Bool.Decides.{nat_tests}
use Rattle.dill_scope.specs.declared.forest.Bundle.{Bundle}
use Rattle.dill_scope.specs.Scopes.{is_bundle, with_owner, as_closing}
use Rattle.dill_base.specs.Maps.{change, without}
use Rattle.dill_rules.specs.declared.coroutine.Closing.{Closing}
use Rattle.dill_rules.specs.Owning.{is_closing_of}
use Rattle.laws_queue.specs.Well.{bit, occurs}
use Rattle.laws_debt.specs.Flags.{Ranked, IsFlagged}
use Rattle.laws_queue.proofs.Lists.{all_to, equal_number, number_of}

-- where the test holds of what is changed
pub all_picked : {X : Type 0} (P Q : X → Type 0) (pick : X → Bool) (g : X → X) (xs : List X) → ((x : X) → pick x ≡ true → P x → Q (g x)) → ((x : X) → P x → Q x) → AllByRecursion P xs → AllByRecursion Q (change pick g xs)
all_picked P Q pick g [] h k a = tt
all_picked P Q pick g (x ∷ xs) h k a = at (pick x) refl (all_picked P Q pick g xs h k a.1)
  where
    at : (b : Bool) → pick x ≡ b → AllByRecursion Q (change pick g xs) → AllByRecursion Q (cond b (g x ∷ xs) (x ∷ change pick g xs))
    at true i rest = (h x i a.0, all_to P Q xs k a.1)
    at false i rest = (k x a.0, rest)

-- the names of closings
abbrev pub closed_names : List Closing → List ℕ
closed_names closings = map (λ c. c.bundle) closings

occurs_more : (n : ℕ) (xs ys : List Closing) → occurs n (closed_names (xs ++ ys)) ≡ occurs n (closed_names xs) + occurs n (closed_names ys)
occurs_more n [] ys = omega arith
occurs_more n (x ∷ xs) ys = let r = occurs_more n xs ys in omega (arith, r)

unlike_number : (a b n : ℕ) → (a == b) ≡ true → (n == b) ≡ false → (a == n) ≡ false
unlike_number a b n e f = grind (arith, nat_tests)

occurs_without : (n bundle : ℕ) (xs : List Closing) → (n == bundle) ≡ false → occurs n (closed_names (without (is_closing_of bundle) xs)) ≡ occurs n (closed_names xs)
occurs_without n bundle [] e = refl
occurs_without n bundle (x ∷ xs) e = at (x.bundle == bundle) refl (occurs_without n bundle xs e)
  where
    at : (b : Bool) → (x.bundle == bundle) ≡ b → occurs n (closed_names (without (is_closing_of bundle) xs)) ≡ occurs n (closed_names xs) → occurs n (closed_names (cond b xs (x ∷ without (is_closing_of bundle) xs))) ≡ occurs n (closed_names (x ∷ xs))
    at true i r = let nought : bit (x.bundle == n) ≡ 0 = ap bit (unlike_number x.bundle bundle n i e) in omega (arith, nought)
    at false i r = ap (λ k. bit (x.bundle == n) + k) r

flagged_more : (xs ys : List Closing) (x : Bundle) → IsFlagged xs x → IsFlagged (xs ++ ys) x
flagged_more xs ys x f e = at (f e)
  where
    at : (x.name ≡ 0) ⊎ (1 ≤ occurs x.name (closed_names xs)) → (x.name ≡ 0) ⊎ (1 ≤ occurs x.name (closed_names (xs ++ ys)))
    at (inl i) = inl i
    at (inr i) = inr (let m = occurs_more x.name xs ys in omega (arith, i, m))

flagged_now : (xs : List Closing) (x : Bundle) (name number : ℕ) → (x.name == name) ≡ true → IsFlagged (xs ++ record { bundle = name; number = number } ∷ []) (as_closing x)
flagged_now xs x name number i e =
    let same = number_of x.name name i in
    let one : bit (name == x.name) ≡ 1 = ap bit (equal_number name x.name (sym same)) in
    inr (let m = occurs_more x.name xs (record { bundle = name; number = number } ∷ []) in omega (arith, m, one))

-- a bundle begins to close
pub flagged_closed : (xs : List Closing) (bs : List Bundle) (name number owner : ℕ) → AllByRecursion (IsFlagged xs) bs → AllByRecursion (IsFlagged (xs ++ record { bundle = name; number = number } ∷ [])) (change (is_bundle name) as_closing (change (is_bundle name) (with_owner owner) bs))
flagged_closed xs bs name number owner a =
    all_picked (IsFlagged xs) (IsFlagged (xs ++ record { bundle = name; number = number } ∷ [])) (is_bundle name) as_closing (change (is_bundle name) (with_owner owner) bs) (λ x i f. flagged_now xs x name number i) (λ x f. flagged_more xs (record { bundle = name; number = number } ∷ []) x f)
    (all_picked (IsFlagged xs) (IsFlagged xs) (is_bundle name) (with_owner owner) bs (λ x i f. f) (λ x f. f) a)

flagged_less : (xs : List Closing) (name : ℕ) (x : Bundle) → (x.name == name) ≡ false → IsFlagged xs x → IsFlagged (without (is_closing_of name) xs) x
flagged_less xs name x i f e = at (f e)
  where
    at : (x.name ≡ 0) ⊎ (1 ≤ occurs x.name (closed_names xs)) → (x.name ≡ 0) ⊎ (1 ≤ occurs x.name (closed_names (without (is_closing_of name) xs)))
    at (inl j) = inl j
    at (inr j) = inr (subst (λ k. 1 ≤ k) (sym (occurs_without x.name name xs i)) j)

beyond : (a b c : ℕ) → a + 1 ≤ b → (a == c) ≡ true → (b == c) ≡ false
beyond a b c h e = grind (arith, nat_tests)

pub ranked_others : (name : ℕ) (bs : List Bundle) (low high : ℕ) → name + 1 ≤ low → Ranked low bs high → AllByRecursion (λ x. (x.name == name) ≡ false) bs
ranked_others name [] low high l r = tt
ranked_others name (x ∷ bs) low high l r =
    let m = r.0 in
    let up : name + 1 ≤ x.name = omega (arith, l, m) in
    (beyond name x.name name up (equal_number name name refl), ranked_others name bs (x.name + 1) high (omega (arith, up)) r.1)

pub both_all : {X : Type 0} (P Q R : X → Type 0) (xs : List X) → ((x : X) → P x → Q x → R x) → AllByRecursion P xs → AllByRecursion Q xs → AllByRecursion R xs
both_all P Q R [] h a b = tt
both_all P Q R (x ∷ xs) h a b = (h x a.0 b.0, both_all P Q R xs h a.1 b.1)

-- what is left without a bundle has another name
pub all_but : (P Q : Bundle → Type 0) (name : ℕ) (bs : List Bundle) (low high : ℕ) → Ranked low bs high → ((x : Bundle) → (x.name == name) ≡ false → P x → Q x) → AllByRecursion P bs → AllByRecursion Q (without (is_bundle name) bs)
all_but P Q name [] low high r h a = tt
all_but P Q name (x ∷ bs) low high r h a = at (x.name == name) refl (all_but P Q name bs (x.name + 1) high r.1 h a.1)
  where
    at : (b : Bool) → (x.name == name) ≡ b → AllByRecursion Q (without (is_bundle name) bs) → AllByRecursion Q (cond b bs (x ∷ without (is_bundle name) bs))
    at true i rest =
        let same = number_of x.name name i in
        both_all (λ y. (y.name == name) ≡ false) P Q bs h (ranked_others name bs (x.name + 1) high (omega (arith, same)) r.1) a.1
    at false i rest = (h x i a.0, rest)

-- a bundle is gone, and its closing is noted no more
pub flagged_freed : (xs : List Closing) (bs : List Bundle) (name high : ℕ) → Ranked 0 bs high → AllByRecursion (IsFlagged xs) bs → AllByRecursion (IsFlagged (without (is_closing_of name) xs)) (without (is_bundle name) bs)
flagged_freed xs bs name high r a = all_but (IsFlagged xs) (IsFlagged (without (is_closing_of name) xs)) name bs 0 high r (λ x i f. flagged_less xs name x i f) a

ranked_from : (bs : List Bundle) (low less high : ℕ) → less ≤ low → Ranked low bs high → Ranked less bs high
ranked_from [] low less high l r = omega (arith, l, r)
ranked_from (x ∷ bs) low less high l r = let m = r.0 in (omega (arith, l, m), r.1)

pub ranked_change : (pick : Bundle → Bool) (g : Bundle → Bundle) (bs : List Bundle) (low high : ℕ) → ((x : Bundle) → (g x).name ≡ x.name) → Ranked low bs high → Ranked low (change pick g bs) high
ranked_change pick g [] low high k r = r
ranked_change pick g (x ∷ bs) low high k r = at (pick x) (ranked_change pick g bs (x.name + 1) high k r.1)
  where
    at : (b : Bool) → Ranked (x.name + 1) (change pick g bs) high → Ranked low (cond b (g x ∷ bs) (x ∷ change pick g bs)) high
    at true rest = (subst (λ n. low ≤ n) (sym (k x)) r.0, subst (λ n. Ranked (n + 1) bs high) (sym (k x)) r.1)
    at false rest = (r.0, rest)

pub ranked_without : (name : ℕ) (bs : List Bundle) (low high : ℕ) → Ranked low bs high → Ranked low (without (is_bundle name) bs) high
ranked_without name [] low high r = r
ranked_without name (x ∷ bs) low high r = at (x.name == name) (ranked_without name bs (x.name + 1) high r.1)
  where
    at : (b : Bool) → Ranked (x.name + 1) (without (is_bundle name) bs) high → Ranked low (cond b bs (x ∷ without (is_bundle name) bs)) high
    at true rest = ranked_from bs (x.name + 1) low high (let m = r.0 in omega (arith, m)) r.1
    at false rest = (r.0, rest)

pub ranked_append : (x : Bundle) (bs : List Bundle) (low high : ℕ) → x.name ≡ high + 1 → Ranked low bs high → Ranked low (bs ++ x ∷ []) (high + 1)
ranked_append x [] low high e r = (omega (arith, e, r), omega (arith, e))
ranked_append x (y ∷ bs) low high e r = (r.0, ranked_append x bs (y.name + 1) high e r.1)
