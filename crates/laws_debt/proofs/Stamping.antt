-- Stamps: which answers came before a closing, as answers are given, taken and queued.
use Rattle.std.proofs.Common.{◌≡◌, ◌∙◌, ◌+◌, ◌≤◌, ◌<◌, ◌==◌, ℕ, List, [], ◌∷◌, ◌++◌, map, filter, find, Bool, true, false, not, ◌&&◌, ◌||◌, cond, Option, Some, None, option_map, nat_lt, refl, sym, ap, arith}
use Rattle.std.specs.List.{AllByRecursion, list_any}
use Rattle.std.proofs.lemmas.Bool.Decides.{nat_tests}
use Rattle.dill_scope.specs.declared.forest.Bundle.{Bundle}
use Rattle.dill_base.specs.Maps.{if_some}
use Rattle.dill_rules.specs.State.{Stamp, is_stamp_of, stamp_of, stamped}
use Rattle.laws_queue.specs.Stands.{Rise}
use Rattle.laws_queue.proofs.Lists.{all_found, some_same}
use Rattle.laws_queue.proofs.Numbers.{find_append}

-- ---- answers

-- stamps from a number on are none below it
pub stamped_from : (low next : ℕ) (ns : List ℕ) → low ≤ next → AllByRecursion (λ x. low ≤ x.at) (stamped next ns)
stamped_from low next [] l = tt
stamped_from low next (n ∷ ns) l = (l, stamped_from low (next + 1) ns (omega (arith, l)))

pub find_behind : {X : Type 0} (test : X → Bool) (xs ys : List X) → find test xs ≡ None → find test (xs ++ ys) ≡ find test ys
find_behind test [] ys e = refl
find_behind test (x ∷ xs) ys e = at (test x) e (find_behind test xs ys)
  where
    at : (b : Bool) → cond b (Some x) (find test xs) ≡ None → (find test xs ≡ None → find test (xs ++ ys) ≡ find test ys) → cond b (Some x) (find test (xs ++ ys)) ≡ find test ys
    at true f rest = cc
    at false f rest = rest f

not_less : (a t : ℕ) → t ≤ a → nat_lt a t ≡ false
not_less a t h = grind (arith, nat_tests)

pub is_less : (a t : ℕ) → a < t → nat_lt a t ≡ true
is_less a t h = grind (arith, nat_tests)

-- the answer of a coroutine came before a moment
abbrev pub came : List Stamp → ℕ → ℕ → Bool
came xs n t = if_some (stamp_of xs n) false (λ a. nat_lt a t)

late_one : (n t : ℕ) (ys : List Stamp) (o : Option Stamp) → find (is_stamp_of n) ys ≡ o → AllByRecursion (λ x. t ≤ x.at) ys → if_some (option_map (λ (x : Stamp). x.at) o) false (λ a. nat_lt a t) ≡ false
late_one n t ys None e a = refl
late_one n t ys (Some x) e a = not_less x.at t (all_found (λ (y : Stamp). t ≤ y.at) (is_stamp_of n) x ys e a)

-- what is stamped later came later
pub came_before : (n t : ℕ) (xs ys : List Stamp) → AllByRecursion (λ x. t ≤ x.at) ys → came (xs ++ ys) n t ≡ came xs n t
came_before n t xs ys a = at (find (is_stamp_of n) xs) refl
  where
    at : (o : Option Stamp) → find (is_stamp_of n) xs ≡ o → came (xs ++ ys) n t ≡ came xs n t
    at None e =
        let behind = find_behind (is_stamp_of n) xs ys e in
        ap (λ o. if_some (option_map (λ (x : Stamp). x.at) o) false (λ b. nat_lt b t)) behind ∙ late_one n t ys (find (is_stamp_of n) ys) refl a ∙ sym (ap (λ o. if_some (option_map (λ (x : Stamp). x.at) o) false (λ b. nat_lt b t)) e)
    at (Some x) e = ap (λ o. if_some (option_map (λ (y : Stamp). y.at) o) false (λ b. nat_lt b t)) (find_append (is_stamp_of n) xs ys x e ∙ sym e)

unlike_same : (a n who : ℕ) → (a == who) ≡ true → (n == who) ≡ false → (a == n) ≡ false
unlike_same a n who e f = grind (arith, nat_tests)

-- the answer of another stays where one is taken away
pub others_stay : (n who : ℕ) (xs : List Stamp) → (n == who) ≡ false → find (is_stamp_of n) (filter (λ x. not (is_stamp_of who x)) xs) ≡ find (is_stamp_of n) xs
others_stay n who [] e = refl
others_stay n who (x ∷ xs) e = at (x.of == who) refl (others_stay n who xs e)
  where
    at : (b : Bool) → (x.of == who) ≡ b → find (is_stamp_of n) (filter (λ y. not (is_stamp_of who y)) xs) ≡ find (is_stamp_of n) xs → find (is_stamp_of n) (cond (not b) (x ∷ filter (λ y. not (is_stamp_of who y)) xs) (filter (λ y. not (is_stamp_of who y)) xs)) ≡ cond (x.of == n) (Some x) (find (is_stamp_of n) xs)
    at true i r = r ∙ ap (λ c. cond c (Some x) (find (is_stamp_of n) xs)) (sym (unlike_same x.of n who i e))
    at false i r = ap (λ o. cond (x.of == n) (Some x) o) r

pub taken_gone : (who : ℕ) (xs : List Stamp) → find (is_stamp_of who) (filter (λ x. not (is_stamp_of who x)) xs) ≡ None
taken_gone who [] = refl
taken_gone who (x ∷ xs) = at (x.of == who) refl (taken_gone who xs)
  where
    at : (b : Bool) → (x.of == who) ≡ b → find (is_stamp_of who) (filter (λ y. not (is_stamp_of who y)) xs) ≡ None → find (is_stamp_of who) (cond (not b) (x ∷ filter (λ y. not (is_stamp_of who y)) xs) (filter (λ y. not (is_stamp_of who y)) xs)) ≡ None
    at true i r = r
    at false i r = rw i r

-- whose number is among those that are queued has a stamp, before the next one
pub queued_stamp : (n low next : ℕ) (xs : List Stamp) → Rise low xs next → list_any (λ m. m == n) (map (λ x. x.of) xs) ≡ true → (x : Stamp) × (find (is_stamp_of n) xs ≡ Some x) × (x.at < next)
queued_stamp n low next [] r e = cc
queued_stamp n low next (x ∷ xs) r e = at (x.of == n) refl e (queued_stamp n (x.at + 1) next xs r.1)
  where
    last : (ys : List Stamp) (from : ℕ) → Rise from ys next → from ≤ next
    last [] from s = s
    last (y ∷ ys) from s = let l = last ys (y.at + 1) s.1 in let m = s.0 in omega (arith, l, m)

    at : (b : Bool) → (x.of == n) ≡ b → (b || list_any (λ m. m == n) (map (λ y. y.of) xs)) ≡ true → (list_any (λ m. m == n) (map (λ y. y.of) xs) ≡ true → (y : Stamp) × (find (is_stamp_of n) xs ≡ Some y) × (y.at < next)) → (y : Stamp) × (cond (x.of == n) (Some x) (find (is_stamp_of n) xs) ≡ Some y) × (y.at < next)
    at true i f rest = (x, ap (λ c. cond c (Some x) (find (is_stamp_of n) xs)) i, let l = last xs (x.at + 1) r.1 in omega (arith, l))
    at false i f rest =
        let y = rest f in
        (y.0, ap (λ c. cond c (Some x) (find (is_stamp_of n) xs)) i ∙ y.1, y.2)

-- whose number isn't has none
pub unqueued : (n : ℕ) (xs : List Stamp) → list_any (λ m. m == n) (map (λ x. x.of) xs) ≡ false → find (is_stamp_of n) xs ≡ None
unqueued n [] e = refl
unqueued n (x ∷ xs) e = at (x.of == n) e (unqueued n xs)
  where
    at : (b : Bool) → (b || list_any (λ m. m == n) (map (λ y. y.of) xs)) ≡ false → (list_any (λ m. m == n) (map (λ y. y.of) xs) ≡ false → find (is_stamp_of n) xs ≡ None) → cond b (Some x) (find (is_stamp_of n) xs) ≡ None
    at true f rest = cc
    at false f rest = rest f

-- ---- closings

-- the bundles whose closing begins, and that have no stamp
abbrev pub new_closings : List Bundle → List Stamp → ℕ → List Stamp
new_closings bs known next = map (λ name. record { of = name; at = next }) (map (λ x. x.name) (filter (λ x. x.closing && not (list_any (is_stamp_of x.name) known)) bs))

none_any : (test : Stamp → Bool) (xs : List Stamp) → find test xs ≡ None → list_any test xs ≡ false
none_any test [] e = refl
none_any test (x ∷ xs) e = at (test x) e (none_any test xs)
  where
    at : (b : Bool) → cond b (Some x) (find test xs) ≡ None → (find test xs ≡ None → list_any test xs ≡ false) → (b || list_any test xs) ≡ false
    at true f rest = cc
    at false f rest = rest f

-- one that closes and has no stamp gets it now
pub closing_stamped : (y : Bundle) (known : List Stamp) (next : ℕ) (bs : List Bundle) → find (λ z. z.name == y.name) bs ≡ Some y → y.closing ≡ true → find (is_stamp_of y.name) known ≡ None → find (is_stamp_of y.name) (new_closings bs known next) ≡ Some (record { of = y.name; at = next })
closing_stamped y known next [] e c n = cc
closing_stamped y known next (x ∷ xs) e c n = at (x.name == y.name) refl e (λ f. closing_stamped y known next xs f c n)
  where
    skip : (b : Bool) → (x.name == y.name) ≡ false → find (is_stamp_of y.name) (new_closings xs known next) ≡ Some (record { of = y.name; at = next }) → find (is_stamp_of y.name) (map (λ name. record { of = name; at = next }) (map (λ z. z.name) (cond b (x ∷ filter (λ z. z.closing && not (list_any (is_stamp_of z.name) known)) xs) (filter (λ z. z.closing && not (list_any (is_stamp_of z.name) known)) xs)))) ≡ Some (record { of = y.name; at = next })
    skip true i r = rw i r
    skip false i r = r

    at : (b : Bool) → (x.name == y.name) ≡ b → cond b (Some x) (find (λ z. z.name == y.name) xs) ≡ Some y → (find (λ z. z.name == y.name) xs ≡ Some y → find (is_stamp_of y.name) (new_closings xs known next) ≡ Some (record { of = y.name; at = next })) → find (is_stamp_of y.name) (new_closings (x ∷ xs) known next) ≡ Some (record { of = y.name; at = next })
    at true i f rest =
        let it = some_same x y f in
        let closes : x.closing ≡ true = ap (λ (z : Bundle). z.closing) it ∙ c in
        let fresh : list_any (is_stamp_of x.name) known ≡ false = none_any (is_stamp_of x.name) known (ap (λ (z : Bundle). find (is_stamp_of z.name) known) it ∙ n) in
        let kept : (x.closing && not (list_any (is_stamp_of x.name) known)) ≡ true = ap (λ b. b && not (list_any (is_stamp_of x.name) known)) closes ∙ ap not fresh in
        let same : x.name ≡ y.name = ap (λ (z : Bundle). z.name) it in
        rw (kept, i) (ap {A = ℕ} {B = Option Stamp} (λ m. Some (record { of = m; at = next })) same)
    at false i f rest = skip (x.closing && not (list_any (is_stamp_of x.name) known)) i (rest f)

-- one that isn't closing gets none
pub open_unstamped : (name : ℕ) (known : List Stamp) (next : ℕ) (bs : List Bundle) → AllByRecursion (λ z. (z.name == name) ≡ true → z.closing ≡ false) bs → find (is_stamp_of name) (new_closings bs known next) ≡ None
open_unstamped name known next [] a = refl
open_unstamped name known next (x ∷ xs) a = at (x.closing && not (list_any (is_stamp_of x.name) known)) refl (open_unstamped name known next xs a.1)
  where
    closes : (c d : Bool) → (c && d) ≡ true → c ≡ true
    closes true d e = refl
    closes false d e = cc

    other : (c : Bool) → (x.name == name) ≡ c → x.closing ≡ true → (x.name == name) ≡ false
    other true i e = absurd (let it : true ≡ false = sym e ∙ a.0 i in cc)
    other false i e = i

    at : (b : Bool) → (x.closing && not (list_any (is_stamp_of x.name) known)) ≡ b → find (is_stamp_of name) (new_closings xs known next) ≡ None → find (is_stamp_of name) (map (λ m. record { of = m; at = next }) (map (λ z. z.name) (cond b (x ∷ filter (λ z. z.closing && not (list_any (is_stamp_of z.name) known)) xs) (filter (λ z. z.closing && not (list_any (is_stamp_of z.name) known)) xs)))) ≡ None
    at true i r = rw (other (x.name == name) refl (closes x.closing (not (list_any (is_stamp_of x.name) known)) i)) r
    at false i r = r

-- where each bundle is below a bound, so is each new stamp
pub stamps_low : (P : ℕ → Type 0) (known : List Stamp) (next high : ℕ) (bs : List Bundle) → next < high → AllByRecursion (λ z. P z.name) bs → AllByRecursion {X = Stamp} (λ x. P x.of × (x.at < high)) (new_closings bs known next)
stamps_low P known next high [] l a = tt
stamps_low P known next high (x ∷ xs) l a = at (x.closing && not (list_any (is_stamp_of x.name) known)) (stamps_low P known next high xs l a.1)
  where
    at : (b : Bool) → AllByRecursion {X = Stamp} (λ z. P z.of × (z.at < high)) (new_closings xs known next) → AllByRecursion {X = Stamp} (λ z. P z.of × (z.at < high)) (map (λ m. record { of = m; at = next }) (map (λ z. z.name) (cond b (x ∷ filter (λ z. z.closing && not (list_any (is_stamp_of z.name) known)) xs) (filter (λ z. z.closing && not (list_any (is_stamp_of z.name) known)) xs))))
    at true r = ((a.0, l), r)
    at false r = r
