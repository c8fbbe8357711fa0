-- The first place at which a test passes, and what is found, taken out, changed or put there.
use Rattle.std.proofs.Common.{◌≡◌, ℕ, zero, suc, ◌+◌, ◌<◌, ◌≤◌, List, [], ◌∷◌, length, get_or, take, set, Bool, true, false, refl, sym, ◌∙◌, ap, subst, arith}
use Rattle.std.specs.Prelude.{◌==◌, cond, not, map, filter, find, Some}
use Rattle.std.specs.List.{list_any, list_all, position_or_len, remove, insert}
use Rattle.std.proofs.Common.{inl, inr}
use Rattle.std.proofs.lemmas.Bool.{or_parts, and_parts, and_from, not-true, not_from_false, ne_eqb, eq-eqb, eqb-true, both_ways, cases_Bool, false≢true}
use Rattle.std.proofs.lemmas.List.Folds.{find_at}
use Rattle.std.proofs.lemmas.Option.{slice_get_read}
use Rattle.std.proofs.lemmas.List.{take_all}
use Rattle.dill_slots.specs.declared.slot.Timer.{Timer}
use Rattle.dill_slots.specs.Pairs.{each_pair, differ, roomy}
use Rattle.dill_slots.specs.Slots.{is_earlier, placed, is_timer_of, is_others_timer, are_two_timers}

pub one_plus : (n : ℕ) → 1 + n ≡ suc n
one_plus n = omega arith

module _ {X : Type 0} (p : X → Bool) where
  -- the place is there where the test first passes
  pub position_found : (xs : List X) (i : ℕ) (d : X) → i < length xs → list_any p (take i xs) ≡ false → p (get_or xs i d) ≡ true → position_or_len p xs ≡ i
  position_found [] i d lt none pass = absurd (omega arith)
  position_found (y ∷ ys) zero d lt none pass = rw pass refl
  position_found (y ∷ ys) (suc i) d lt none pass =
      let e : p y ≡ false = (or_parts (p y) (list_any p (take i ys)) none).0 in
      rw e (one_plus (position_or_len p ys) ∙ ap suc (position_found ys i d (omega arith) (or_parts (p y) (list_any p (take i ys)) none).1 pass))

  -- the test passes nowhere
  pub position_none : (xs : List X) → list_any p xs ≡ false → position_or_len p xs ≡ length xs
  position_none [] none = refl
  position_none (y ∷ ys) none =
      let e : p y ≡ false = (or_parts (p y) (list_any p ys) none).0 in
      rw e (one_plus (position_or_len p ys) ∙ ap suc (position_none ys (or_parts (p y) (list_any p ys) none).1))

  -- nor in the whole list
  pub whole_none : (xs : List X) (i : ℕ) → length xs ≤ i → list_any p (take i xs) ≡ false → position_or_len p xs ≡ length xs
  whole_none xs i le none = position_none xs (subst (λ (l : List X). list_any p l ≡ false) (take_all i xs le) none)

  -- the test passes somewhere
  pub position_within : (xs : List X) → list_any p xs ≡ true → position_or_len p xs < length xs
  position_within [] some = absurd (false≢true some)
  position_within (y ∷ ys) some =
      elim (cases_Bool (p y)) [
        | inl e ↦ rw e (omega arith)
        | inr e ↦ let rest : list_any p ys ≡ true = rw e at some in let below = position_within ys rest in rw e (omega arith)
      ]

  -- an element that passes is found
  pub found_where : (xs : List X) (x : X) → position_or_len p xs < length xs → x ≡ get_or xs (position_or_len p xs) x → find p xs ≡ Some x
  found_where xs x lt is = find_at p xs ∙ slice_get_read xs (length xs) (position_or_len p xs) x refl lt is

  -- where all pass, all are kept
  pub all_kept : (r : X → Bool) (xs : List X) → list_all r xs ≡ true → filter r xs ≡ xs
  all_kept r [] all = refl
  all_kept r (y ∷ ys) all = rw (and_parts (r y) (list_all r ys) all).0 (ap (λ (l : List X). y ∷ l) (all_kept r ys (and_parts (r y) (list_all r ys) all).1))

  -- one that passes excludes the others
  abbrev Excludes : (X → X → Bool) → Type 0
  Excludes q = (x y : X) → p x ≡ true → q x y ≡ true → not (p y) ≡ true

  others_pass : (q : X → X → Bool) → Excludes q → (y : X) → p y ≡ true → (ys : List X) → list_all (q y) ys ≡ true → list_all (λ x. not (p x)) ys ≡ true
  others_pass q excludes y pass [] all = refl
  others_pass q excludes y pass (z ∷ zs) all =
      and_from (not (p z)) (list_all (λ x. not (p x)) zs) (excludes y z pass (and_parts (q y z) (list_all (q y) zs) all).0) (others_pass q excludes y pass zs (and_parts (q y z) (list_all (q y) zs) all).1)

  -- to take out the one that passes is to keep those that don't
  pub taken_out : (q : X → X → Bool) → Excludes q → (xs : List X) → each_pair q xs ≡ true → remove xs (position_or_len p xs) ≡ filter (λ x. not (p x)) xs
  taken_out q excludes [] pairs = refl
  taken_out q excludes (y ∷ ys) pairs =
      let parts = and_parts (list_all (q y) ys) (each_pair q ys) pairs in
      elim (cases_Bool (p y)) [
        | inl e ↦ rw e (sym (all_kept (λ x. not (p x)) ys (others_pass q excludes y e ys parts.0)))
        | inr e ↦ rw (e, one_plus (position_or_len p ys)) (ap (λ (l : List X). y ∷ l) (taken_out q excludes ys parts.1))
      ]

  -- nothing is taken out where nothing passes
  pub none_out : (xs : List X) → list_any p xs ≡ false → filter (λ x. not (p x)) xs ≡ xs
  none_out [] none = refl
  none_out (y ∷ ys) none = rw (or_parts (p y) (list_any p ys) none).0 (ap (λ (l : List X). y ∷ l) (none_out ys (or_parts (p y) (list_any p ys) none).1))

  -- nothing passes where no place is found
  pub none_found : (xs : List X) → length xs ≤ position_or_len p xs → list_any p xs ≡ false
  none_found xs le = elim (cases_Bool (list_any p xs)) [ inl e ↦ (let below = position_within xs e in absurd (omega arith)) | inr e ↦ e ]

  others_stay : (f : X → X) (ys : List X) → list_all (λ x. not (p x)) ys ≡ true → map (λ x. cond (p x) (f x) x) ys ≡ ys
  others_stay f [] all = refl
  others_stay f (z ∷ zs) all =
      rw (not-true (p z) (and_parts (not (p z)) (list_all (λ x. not (p x)) zs) all).0) (ap (λ (l : List X). z ∷ l) (others_stay f zs (and_parts (not (p z)) (list_all (λ x. not (p x)) zs) all).1))

  -- to change the one that passes is to write at its place
  pub changed_there : (q : X → X → Bool) → Excludes q → (f : X → X) (xs : List X) (x : X) → each_pair q xs ≡ true → position_or_len p xs < length xs → x ≡ get_or xs (position_or_len p xs) x → map (λ x. cond (p x) (f x) x) xs ≡ set xs (position_or_len p xs) (f x)
  changed_there q excludes f [] x pairs lt is = absurd (omega arith)
  changed_there q excludes f (y ∷ ys) x pairs lt is =
      let parts = and_parts (list_all (q y) ys) (each_pair q ys) pairs in
      elim (cases_Bool (p y)) [
        | inl e ↦ let here : x ≡ y = rw e at is in rw (e, here) (ap (λ (l : List X). f y ∷ l) (others_stay f ys (others_pass q excludes y e ys parts.0)))
        | inr e ↦
            let within : position_or_len p ys < length ys = omega (arith, rw e at lt) in
            let there : x ≡ get_or ys (position_or_len p ys) x = rw (e, one_plus (position_or_len p ys)) at is in
            rw (e, one_plus (position_or_len p ys)) (ap (λ (l : List X). y ∷ l) (changed_there q excludes f ys x parts.1 within there))
      ]

-- a timer at its place in the order
pub placed_there : (t : Timer) (xs : List Timer) → insert xs (position_or_len (is_earlier t) xs) t ≡ placed t xs
placed_there t [] = refl
placed_there t (y ∷ ys) =
    elim (cases_Bool (is_earlier t y)) [
      | inl e ↦ rw e refl
      | inr e ↦ rw (e, one_plus (position_or_len (is_earlier t) ys)) (ap (λ (l : List Timer). y ∷ l) (placed_there t ys))
    ]

-- two numbers exclude each other
pub two_numbers : (a b n : ℕ) → (a == n) ≡ true → differ a b ≡ true → not (b == n) ≡ true
two_numbers a b n here two =
    not_from_false (b == n) (ne_eqb b n (λ e. both_ways (a == b) (not-true (a == b) two) (eq-eqb a b (eqb-true a n here ∙ sym e))))

-- what is there after a timer was put
pub timer_put : (t : Timer) (slice items new : List Timer) (room at : ℕ) (ok : Bool) → slice ≡ items → at ≡ position_or_len (is_earlier t) slice → ok ≡ true → new ≡ cond ok (insert items at t) items → roomy new room ≡ roomy (placed t items) room
timer_put t slice items new room at ok same place done is =
    ap (λ (l : List Timer). roomy l room) (is ∙ ap (λ (b : Bool). cond b (insert items at t) items) done ∙ ap (λ (i : ℕ). insert items i t) (place ∙ ap (λ (l : List Timer). position_or_len (is_earlier t) l) same) ∙ placed_there t items)

-- what is there after the timer of a slot was taken out
pub timer_cleared : (slot : ℕ) (slice items new : List Timer) (room at : ℕ) → each_pair are_two_timers items ≡ true → slice ≡ items → at ≡ position_or_len (is_timer_of slot) slice → new ≡ remove items at → roomy new room ≡ roomy (filter (is_others_timer slot) items) room
timer_cleared slot slice items new room at once same place is =
    ap (λ (l : List Timer). roomy l room) (is ∙ ap (λ (i : ℕ). remove items i) (place ∙ ap (λ (l : List Timer). position_or_len (is_timer_of slot) l) same) ∙ taken_out (is_timer_of slot) are_two_timers (λ x y. two_numbers x.slot y.slot slot) items once)

-- what is there where a slot has no timer
pub timer_kept : (slot : ℕ) (slice items : List Timer) (room at : ℕ) → slice ≡ items → at ≡ position_or_len (is_timer_of slot) slice → length slice ≤ at → roomy items room ≡ roomy (filter (is_others_timer slot) items) room
timer_kept slot slice items room at same place le =
    let none : list_any (is_timer_of slot) slice ≡ false = none_found (is_timer_of slot) slice (omega (arith, place)) in
    ap (λ (l : List Timer). roomy l room) (sym (none_out (is_timer_of slot) items (subst (λ (l : List Timer). list_any (is_timer_of slot) l ≡ false) same none)))
