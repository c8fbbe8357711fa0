-- Each change leaves slots consistent.
use Rattle.std.proofs.Common.{◌≡◌, ℕ, ◌<◌, List, [], ◌∷◌, ◌++◌, length, Bool, true, false, refl, sym, ◌∙◌, ap, arith, inl, inr, length-append}
use Rattle.std.specs.Prelude.{◌||◌, ◌&&◌, ◌==◌, nat_lt, nat_le, not, map, filter}
use Rattle.std.specs.List.{list_any, list_all}
use Rattle.std.proofs.lemmas.Bool.{and_parts, and_from, not-true, not_from_false, ne_eqb, both_ways, eq-eqb, eqb-true, cases_Bool}
use Rattle.std.proofs.lemmas.Bool.Decides.{nat_tests}
use Rattle.std.proofs.lemmas.List.{length-map}
use Rattle.dill_slots.specs.declared.slot.Slot.{Slot}
use Rattle.dill_slots.specs.declared.slot.Timer.{Timer}
use Rattle.dill_slots.specs.declared.slot.Waiting.{Waiting}
use Rattle.dill_slots.specs.Pairs.{each_pair, differ}
use Rattle.dill_slots.specs.Slots.{Slots, IsConsistent, no_slots, most_slots, most_clauses, is_earlier, is_in_order, are_two_timers, is_timer_of, is_others_timer, placed, not_passed, is_slot, is_other, is_live, is_ready, has_timer, is_new_id, has_lower_id, are_two, is_timed, insert, remove, with_value, set_value, push_ready, pop_ready, clear_timer, expire, is_others_wait, is_wait_of, is_wait_under, are_two_waits, is_waiting, waits_under, may_wait, wait_on, leave}
use Rattle.dill_slots.proofs.Keeping.{none_all, all_weaker, all_both, all_added, any_added, pair_added, all_filtered, pair_filtered, any_filtered, length_filtered, all_rest, pair_rest, any_mapped, pair_mapped}

differ_back : (a b : ℕ) → differ a b ≡ true → differ b a ≡ true
differ_back a b two = not_from_false (b == a) (ne_eqb b a (λ e. both_ways (a == b) (not-true (a == b) two) (eq-eqb a b (sym e))))

-- what has one number doesn't have another
other_than : (a b n : ℕ) → not (b == n) ≡ true → (a == b) ≡ true → not (a == n) ≡ true
other_than a b n two here = not_from_false (a == n) (ne_eqb a n (λ e. both_ways (b == n) (not-true (b == n) two) (eq-eqb b n (sym (eqb-true a b here) ∙ e))))

-- of two timers one isn't before the other and behind it
before_back : (a b c d : ℕ) → (nat_lt a c || (a == c && nat_lt b d)) ≡ true → (nat_lt c a || (c == a && nat_lt d b)) ≡ false
before_back a b c d h = grind (arith, nat_tests)

before_through : (a b c d e f : ℕ) → (nat_lt a c || (a == c && nat_lt b d)) ≡ true → (nat_lt e c || (e == c && nat_lt f d)) ≡ false → (nat_lt e a || (e == a && nat_lt f b)) ≡ false
before_through a b c d e f h k = grind (arith, nat_tests)

all_placed : (p : Timer → Bool) (t : Timer) (xs : List Timer) → p t ≡ true → list_all p xs ≡ true → list_all p (placed t xs) ≡ true
all_placed p t [] pass all = and_from (p t) true pass refl
all_placed p t (y ∷ ys) pass all =
    let parts = and_parts (p y) (list_all p ys) all in
    elim (cases_Bool (is_earlier t y)) [
      | inl e ↦ rw e (and_from (p t) (list_all p (y ∷ ys)) pass all)
      | inr e ↦ rw e (and_from (p y) (list_all p (placed t ys)) parts.0 (all_placed p t ys pass parts.1))
    ]

in_order_placed : (t : Timer) (xs : List Timer) → each_pair is_in_order xs ≡ true → each_pair is_in_order (placed t xs) ≡ true
in_order_placed t [] pairs = refl
in_order_placed t (y ∷ ys) pairs =
    let parts = and_parts (list_all (is_in_order y) ys) (each_pair is_in_order ys) pairs in
    elim (cases_Bool (is_earlier t y)) [
      | inl e ↦
          let first : is_in_order t y ≡ true = not_from_false (is_earlier y t) (before_back t.deadline t.id y.deadline y.id e) in
          let others : list_all (is_in_order t) ys ≡ true = all_weaker (is_in_order y) (is_in_order t) (λ z h. not_from_false (is_earlier z t) (before_through t.deadline t.id y.deadline y.id z.deadline z.id e (not-true (is_earlier z y) h))) ys parts.0 in
          rw e (and_from (list_all (is_in_order t) (y ∷ ys)) (each_pair is_in_order (y ∷ ys)) (and_from (is_in_order t y) (list_all (is_in_order t) ys) first others) pairs)
      | inr e ↦
          rw e (and_from (list_all (is_in_order y) (placed t ys)) (each_pair is_in_order (placed t ys)) (all_placed (is_in_order y) t ys (not_from_false (is_earlier t y) e) parts.0) (in_order_placed t ys parts.1))
    ]

two_placed : (t : Timer) (xs : List Timer) → each_pair are_two_timers xs ≡ true → list_all (are_two_timers t) xs ≡ true → each_pair are_two_timers (placed t xs) ≡ true
two_placed t [] pairs all = refl
two_placed t (y ∷ ys) pairs all =
    let parts = and_parts (list_all (are_two_timers y) ys) (each_pair are_two_timers ys) pairs in
    let others = and_parts (are_two_timers t y) (list_all (are_two_timers t) ys) all in
    elim (cases_Bool (is_earlier t y)) [
      | inl e ↦ rw e (and_from (list_all (are_two_timers t) (y ∷ ys)) (each_pair are_two_timers (y ∷ ys)) all pairs)
      | inr e ↦
          rw e (and_from (list_all (are_two_timers y) (placed t ys)) (each_pair are_two_timers (placed t ys)) (all_placed (are_two_timers y) t ys (differ_back t.slot y.slot others.0) parts.0) (two_placed t ys parts.1 others.1))
    ]

all_not_passed : (p : Timer → Bool) (moment : ℕ) (xs : List Timer) → list_all p xs ≡ true → list_all p (not_passed moment xs) ≡ true
all_not_passed p moment [] all = all
all_not_passed p moment (x ∷ xs) all =
    elim (cases_Bool (nat_le x.deadline moment)) [ inl e ↦ rw e (and_parts (p x) (list_all p xs) all).1 | inr e ↦ rw e all ]

pair_not_passed : (q : Timer → Timer → Bool) (moment : ℕ) (xs : List Timer) → each_pair q xs ≡ true → each_pair q (not_passed moment xs) ≡ true
pair_not_passed q moment [] pairs = pairs
pair_not_passed q moment (x ∷ xs) pairs =
    elim (cases_Bool (nat_le x.deadline moment)) [ inl e ↦ rw e (and_parts (list_all (q x) xs) (each_pair q xs) pairs).1 | inr e ↦ rw e pairs ]

module _ {T : Type 0} where
  pub consistent_none : IsConsistent (no_slots {T = T})
  consistent_none = record {
    rising = refl;
    once_live = refl;
    few = omega arith;
    once_ready = refl;
    ready_live = refl;
    in_order = refl;
    once_timed = refl;
    timed_live = refl;
    once_waiting = refl;
    waiting_live = refl;
  }

  pub consistent_inserted : (s : Slots T) (slot id : ℕ) (value : T) → IsConsistent s → is_new_id s id ≡ true → is_live s slot ≡ false → length s.live < most_slots → IsConsistent (insert s slot id value)
  consistent_inserted s slot id value h above free room =
      let x : Slot T = record { slot = slot; id = id; value = value } in
      record {
        rising = pair_added has_lower_id s.live x h.rising above;
        once_live = pair_added are_two s.live x h.once_live (none_all (is_slot slot) s.live free);
        few = omega (arith, length-append s.live (x ∷ []));
        once_ready = h.once_ready;
        ready_live = all_weaker (is_live s) (is_live (insert s slot id value)) (λ n some. any_added (is_slot n) s.live x some) s.ready h.ready_live;
        in_order = h.in_order;
        once_timed = h.once_timed;
        timed_live = all_weaker (is_timed s.live) (is_timed (s.live ++ x ∷ [])) (λ t some. any_added (λ (y : Slot T). (y.slot == t.slot) && (y.id == t.id)) s.live x some) s.timers h.timed_live;
        once_waiting = h.once_waiting;
        waiting_live = all_weaker (may_wait s.live) (may_wait (s.live ++ x ∷ [])) (λ w both. let parts = and_parts (list_any (is_slot w.slot) s.live) (nat_lt w.clause most_clauses) both in and_from (list_any (is_slot w.slot) (s.live ++ x ∷ [])) (nat_lt w.clause most_clauses) (any_added (is_slot w.slot) s.live x parts.0) parts.1) s.waits h.waiting_live;
      }

  pub consistent_removed : (s : Slots T) (slot : ℕ) → IsConsistent s → is_ready s slot ≡ false → has_timer s slot ≡ false → is_waiting s slot ≡ false → IsConsistent (remove s slot)
  consistent_removed s slot h unready untimed unwaiting = record {
    rising = pair_filtered has_lower_id (is_other slot) s.live h.rising;
    once_live = pair_filtered are_two (is_other slot) s.live h.once_live;
    few = omega (arith, length_filtered (is_other slot) s.live, h.few);
    once_ready = h.once_ready;
    ready_live = all_both (λ n. not (n == slot)) (is_live s) (is_live (remove s slot)) (λ n two some. any_filtered (is_slot n) (is_other slot) (λ x here. other_than x.slot n slot two here) s.live some) s.ready (none_all (λ n. n == slot) s.ready unready) h.ready_live;
    in_order = h.in_order;
    once_timed = h.once_timed;
    timed_live = all_both (is_others_timer slot) (is_timed s.live) (is_timed (filter (is_other slot) s.live)) (λ t two some. any_filtered (λ (y : Slot T). (y.slot == t.slot) && (y.id == t.id)) (is_other slot) (λ y here. other_than y.slot t.slot slot two (and_parts (y.slot == t.slot) (y.id == t.id) here).0) s.live some) s.timers (none_all (is_timer_of slot) s.timers untimed) h.timed_live;
    once_waiting = h.once_waiting;
    waiting_live = all_both (is_others_wait slot) (may_wait s.live) (may_wait (filter (is_other slot) s.live)) (λ w two both. let parts = and_parts (list_any (is_slot w.slot) s.live) (nat_lt w.clause most_clauses) both in and_from (list_any (is_slot w.slot) (filter (is_other slot) s.live)) (nat_lt w.clause most_clauses) (any_filtered (is_slot w.slot) (is_other slot) (λ x here. other_than x.slot w.slot slot two here) s.live parts.0) parts.1) s.waits (none_all (is_wait_of slot) s.waits unwaiting) h.waiting_live;
  }

  pub consistent_pushed : (s : Slots T) (slot : ℕ) → IsConsistent s → is_live s slot ≡ true → is_ready s slot ≡ false → IsConsistent (push_ready s slot)
  consistent_pushed s slot h live unready = record {
    rising = h.rising;
    once_live = h.once_live;
    few = h.few;
    once_ready = pair_added differ s.ready slot h.once_ready (none_all (λ n. n == slot) s.ready unready);
    ready_live = all_added (is_live s) s.ready slot h.ready_live live;
    in_order = h.in_order;
    once_timed = h.once_timed;
    timed_live = h.timed_live;
    once_waiting = h.once_waiting;
    waiting_live = h.waiting_live;
  }

  pub consistent_popped : (s : Slots T) → IsConsistent s → IsConsistent (pop_ready s)
  consistent_popped s h = record {
    rising = h.rising;
    once_live = h.once_live;
    few = h.few;
    once_ready = pair_rest differ s.ready h.once_ready;
    ready_live = all_rest (is_live s) s.ready h.ready_live;
    in_order = h.in_order;
    once_timed = h.once_timed;
    timed_live = h.timed_live;
    once_waiting = h.once_waiting;
    waiting_live = h.waiting_live;
  }

  pub consistent_timed : (s : Slots T) (t : Timer) → IsConsistent s → is_timed s.live t ≡ true → has_timer s t.slot ≡ false → IsConsistent (record s { timers = placed t s.timers })
  consistent_timed s t h live untimed = record {
    rising = h.rising;
    once_live = h.once_live;
    few = h.few;
    once_ready = h.once_ready;
    ready_live = h.ready_live;
    in_order = in_order_placed t s.timers h.in_order;
    once_timed = two_placed t s.timers h.once_timed (all_weaker (is_others_timer t.slot) (are_two_timers t) (λ x two. differ_back x.slot t.slot two) s.timers (none_all (is_timer_of t.slot) s.timers untimed));
    timed_live = all_placed (is_timed s.live) t s.timers live h.timed_live;
    once_waiting = h.once_waiting;
    waiting_live = h.waiting_live;
  }

  pub consistent_cleared : (s : Slots T) (slot : ℕ) → IsConsistent s → IsConsistent (clear_timer s slot)
  consistent_cleared s slot h = record {
    rising = h.rising;
    once_live = h.once_live;
    few = h.few;
    once_ready = h.once_ready;
    ready_live = h.ready_live;
    in_order = pair_filtered is_in_order (is_others_timer slot) s.timers h.in_order;
    once_timed = pair_filtered are_two_timers (is_others_timer slot) s.timers h.once_timed;
    timed_live = all_filtered (is_timed s.live) (is_others_timer slot) s.timers h.timed_live;
    once_waiting = h.once_waiting;
    waiting_live = h.waiting_live;
  }

  pub consistent_expired : (s : Slots T) (moment : ℕ) → IsConsistent s → IsConsistent (expire s moment)
  consistent_expired s moment h = record {
    rising = h.rising;
    once_live = h.once_live;
    few = h.few;
    once_ready = h.once_ready;
    ready_live = h.ready_live;
    in_order = pair_not_passed is_in_order moment s.timers h.in_order;
    once_timed = pair_not_passed are_two_timers moment s.timers h.once_timed;
    timed_live = all_not_passed (is_timed s.live) moment s.timers h.timed_live;
    once_waiting = h.once_waiting;
    waiting_live = h.waiting_live;
  }

  pub slot_same : (slot : ℕ) (value : T) (x : Slot T) → (with_value slot value x).slot ≡ x.slot
  slot_same slot value x = elim (cases_Bool (x.slot == slot)) [ inl e ↦ rw e refl | inr e ↦ rw e refl ]

  id_same : (slot : ℕ) (value : T) (x : Slot T) → (with_value slot value x).id ≡ x.id
  id_same slot value x = elim (cases_Bool (x.slot == slot)) [ inl e ↦ rw e refl | inr e ↦ rw e refl ]

  -- the test of a number sees nothing of a value
  pub any_same : (slot : ℕ) (value : T) (n : ℕ) (live : List (Slot T)) → list_any (is_slot n) (map (with_value slot value) live) ≡ list_any (is_slot n) live
  any_same slot value n live = any_mapped (is_slot n) (with_value slot value) (λ x. ap (λ (m : ℕ). m == n) (slot_same slot value x)) live

  timed_same : (slot : ℕ) (value : T) (t : Timer) (live : List (Slot T)) → is_timed (map (with_value slot value) live) t ≡ is_timed live t
  timed_same slot value t live =
      any_mapped (λ (y : Slot T). (y.slot == t.slot) && (y.id == t.id)) (with_value slot value) (λ x. ap (λ (m : ℕ). (m == t.slot) && ((with_value slot value x).id == t.id)) (slot_same slot value x) ∙ ap (λ (m : ℕ). (x.slot == t.slot) && (m == t.id)) (id_same slot value x)) live

  pub consistent_changed : (s : Slots T) (slot : ℕ) (value : T) → IsConsistent s → IsConsistent (set_value s slot value)
  consistent_changed s slot value h = record {
    rising = pair_mapped has_lower_id (with_value slot value) (λ x y. ap (λ (m : ℕ). nat_lt m (with_value slot value y).id) (id_same slot value x) ∙ ap (λ (m : ℕ). nat_lt x.id m) (id_same slot value y)) s.live ∙ h.rising;
    once_live = pair_mapped are_two (with_value slot value) (λ x y. ap (λ (m : ℕ). differ m (with_value slot value y).slot) (slot_same slot value x) ∙ ap (λ (m : ℕ). differ x.slot m) (slot_same slot value y)) s.live ∙ h.once_live;
    few = omega (arith, length-map s.live (with_value slot value), h.few);
    once_ready = h.once_ready;
    ready_live = all_weaker (is_live s) (is_live (set_value s slot value)) (λ n some. any_same slot value n s.live ∙ some) s.ready h.ready_live;
    in_order = h.in_order;
    once_timed = h.once_timed;
    timed_live = all_weaker (is_timed s.live) (is_timed (map (with_value slot value) s.live)) (λ t some. timed_same slot value t s.live ∙ some) s.timers h.timed_live;
    once_waiting = h.once_waiting;
    waiting_live = all_weaker (may_wait s.live) (may_wait (map (with_value slot value) s.live)) (λ w both. let parts = and_parts (list_any (is_slot w.slot) s.live) (nat_lt w.clause most_clauses) both in and_from (list_any (is_slot w.slot) (map (with_value slot value) s.live)) (nat_lt w.clause most_clauses) (any_same slot value w.slot s.live ∙ parts.0) parts.1) s.waits h.waiting_live;
  }

  pub consistent_waited : (s : Slots T) (slot clause queue : ℕ) → IsConsistent s → is_live s slot ≡ true → nat_lt clause most_clauses ≡ true → waits_under s slot clause ≡ false → IsConsistent (wait_on s slot clause queue)
  consistent_waited s slot clause queue h live below new =
      let w : Waiting = record { slot = slot; clause = clause; queue = queue } in
      record {
        rising = h.rising;
        once_live = h.once_live;
        few = h.few;
        once_ready = h.once_ready;
        ready_live = h.ready_live;
        in_order = h.in_order;
        once_timed = h.once_timed;
        timed_live = h.timed_live;
        once_waiting = pair_added are_two_waits s.waits w h.once_waiting (none_all (is_wait_under slot clause) s.waits new);
        waiting_live = all_added (may_wait s.live) s.waits w h.waiting_live (and_from (list_any (is_slot slot) s.live) (nat_lt clause most_clauses) live below);
      }

  pub consistent_left : (s : Slots T) (slot : ℕ) → IsConsistent s → IsConsistent (leave s slot)
  consistent_left s slot h = record {
    rising = h.rising;
    once_live = h.once_live;
    few = h.few;
    once_ready = h.once_ready;
    ready_live = h.ready_live;
    in_order = h.in_order;
    once_timed = h.once_timed;
    timed_live = h.timed_live;
    once_waiting = pair_filtered are_two_waits (is_others_wait slot) s.waits h.once_waiting;
    waiting_live = all_filtered (may_wait s.live) (is_others_wait slot) s.waits h.waiting_live;
  }
