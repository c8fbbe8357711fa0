-- Who waits, one after the other, that their numbers rise, and that none waits above a number before the first place above it.
use Rattle.std.proofs.Common.{◌≡◌, ◌∙◌, ℕ, zero, suc, ◌<◌, ◌≤◌, List, [], ◌∷◌, length, drop, map, filter_map, find, cond, Bool, true, false, Option, Some, None, nat_lt, slice_index_or, refl, sym, arith}
use Rattle.std.proofs.lemmas.Bool.Decides.{nat_tests}
use Rattle.std.specs.List.Sorted.{IsNonDecreasingBy}
use Rattle.std.specs.Option.{option_map}
use Rattle.std.specs.List.{cons_option}
use Rattle.dill_calls.specs.declared.call.Call.{Call}
use Rattle.dill_calls.specs.declared.word.Word.{Word}
use Rattle.dill_calls.specs.CallTable.{word_of}
use Rattle.dill_rules.specs.declared.coroutine.Coroutine.{Coroutine}
use Rattle.dill_rules.specs.Waiting.{Waiter, waiter_of}
use Rattle.dill_rules.specs.World.{pending_call}
use Rattle.laws_queue.specs.Well.{Numbered}
use Rattle.dill_drive.specs.Waiting.{next_above, Rises}
use Rattle.dill_core.specs.Placing.{AreUpTo}
use Rattle.dill_steps.specs.Timing.{as_pair}

found_next : (after : ℕ) (x : Waiter) (xs : List Waiter) (b : Bool) → option_map as_pair (find (λ y. nat_lt after y.who) xs) ≡ next_above after (map as_pair xs) → option_map as_pair (cond b (Some x) (find (λ y. nat_lt after y.who) xs)) ≡ cond b (Some (as_pair x)) (next_above after (map as_pair xs))
found_next after x xs true e = refl
found_next after x xs false e = e

-- the first of those who wait above a number, told as a pair
pub next_waiter : (after : ℕ) (xs : List Waiter) → option_map as_pair (find (λ x. nat_lt after x.who) xs) ≡ next_above after (map (λ x. (x.who, x.word)) xs)
next_waiter after [] = refl
next_waiter after (x ∷ xs) = found_next after x xs (nat_lt after x.who) (next_waiter after xs)

rises_above : (xs : List (ℕ × Word)) (low less : ℕ) → less < low → Rises low xs → Rises less xs
rises_above [] low less h r = tt
rises_above (x ∷ xs) low less h r = (omega (arith, h, r.0), r.1)

module _ {V : Type 0} where
  rises_with : (c : Coroutine V) (o : Option Call) (xs : List Waiter) (low : ℕ) → low < c.number → Rises c.number (map (λ x. (x.who, x.word)) xs) → Rises low (map (λ x. (x.who, x.word)) (cons_option (option_map (λ call. record { who = c.number; word = word_of call }) o) xs))
  rises_with c None xs low h r = rises_above (map (λ x. (x.who, x.word)) xs) c.number low h r
  rises_with c (Some call) xs low h r = (h, r)

  -- the numbers of those who wait rise
  pub waiters_rise : (cs : List (Coroutine V)) (low high : ℕ) → Numbered low cs high → Rises low (map (λ x. (x.who, x.word)) (filter_map waiter_of cs))
  waiters_rise [] low high n = tt
  waiters_rise (c ∷ cs) low high n = rises_with c (pending_call c.mode) (filter_map waiter_of cs) low n.0 (waiters_rise cs c.number high n.1)

  above_low : (cs : List (Coroutine V)) (low high : ℕ) → Numbered low cs high → (k : ℕ) (d : Coroutine V) → k < length cs → low < (slice_index_or cs k d).number
  above_low [] low high n k d less = absurd (omega arith)
  above_low (c ∷ cs) low high n zero d less = n.0
  above_low (c ∷ cs) low high n (suc k) d less = let more = above_low cs c.number high n.1 k d (omega arith) in omega (arith, n.0, more)

  -- so they don't fall
  pub non_decreasing : (cs : List (Coroutine V)) (low high : ℕ) → Numbered low cs high → IsNonDecreasingBy (λ c. c.number) cs
  non_decreasing [] low high n i j d le less = absurd (omega arith)
  non_decreasing (c ∷ cs) low high n zero zero d le less = omega arith
  non_decreasing (c ∷ cs) low high n zero (suc j) d le less = let more = above_low cs c.number high n.1 j d (omega arith) in omega (arith, more)
  non_decreasing (c ∷ cs) low high n (suc i) zero d le less = absurd (omega arith)
  non_decreasing (c ∷ cs) low high n (suc i) (suc j) d le less = non_decreasing cs c.number high n.1 i j d (omega arith) (omega arith)

  not_above : (c : Coroutine V) (o : Option Call) (after : ℕ) (xs : List Waiter) → c.number ≤ after → find (λ x. nat_lt after x.who) (cons_option (option_map (λ call. record { who = c.number; word = word_of call }) o) xs) ≡ find (λ x. nat_lt after x.who) xs
  not_above c None after xs le = refl
  not_above c (Some call) after xs le =
      let test : nat_lt after c.number ≡ false = grind (arith, nat_tests) in
      rw test refl

  -- the first of those who wait above a number stands behind those up to it
  pub waits_behind : (cs : List (Coroutine V)) (n after : ℕ) → AreUpTo after cs n → find (λ x. nat_lt after x.who) (filter_map waiter_of (drop n cs)) ≡ find (λ x. nat_lt after x.who) (filter_map waiter_of cs)
  waits_behind cs zero after low = refl
  waits_behind [] (suc n) after low = refl
  waits_behind (c ∷ cs) (suc n) after low = waits_behind cs n after (λ k d less. low (suc k) d (omega arith)) ∙ sym (not_above c (pending_call c.mode) after (filter_map waiter_of cs) (low zero c (omega arith)))
