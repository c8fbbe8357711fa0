-- Each call leaves the parts whole: numbers are spare or live, and there is room for what may be put.
use Rattle.std.proofs.Common.{◌≡◌, ℕ, ◌+◌, ◌<◌, ◌≤◌, List, [], ◌∷◌, ◌++◌, length, true, false, refl, sym, ◌∙◌, ap, subst, arith, inl, inr, length-append, length-drop}
use Rattle.std.specs.Prelude.{◌&&◌, ◌==◌, nat_lt, not, map, filter, drop, slice_get, Option, unwrap_or}
use Rattle.std.specs.List.{list_any, list_all}
use Rattle.std.proofs.lemmas.Bool.{and_parts, or_cases, not-true, not_from_false, ne_eqb, both_ways, eqb-true, ltb-true, lt-ltb, cases_Bool, false≢true}
use Rattle.std.proofs.lemmas.List.{length-map}
use Rattle.dill_slots.specs.declared.slot.Slot.{Slot}
use Rattle.dill_slots.specs.declared.slot.Timer.{Timer}
use Rattle.dill_slots.specs.declared.slot.Waiting.{Waiting}
use Rattle.dill_slots.specs.Pairs.{each_pair, has, differ, Roomy, roomy}
use Rattle.dill_slots.specs.Slots.{IsConsistent, most_slots, is_earlier, is_timer_of, is_wait_of, is_wait_under, most_clauses, placed, is_slot, is_other, with_value, is_timed}
use Rattle.dill_slots.specs.Whole.{slots_of, AreSpare, IsWhole, Grows, FitsOneMore, next_number}
use Rattle.dill_slots.proofs.Keeping.{all_none, all_weaker, any_weaker, all_added, none_added, pair_added, all_filtered, none_filtered, none_left, all_both, all_mapped}
use Rattle.dill_slots.proofs.Room.{no_more, no_more_clauses}
use Rattle.dill_slots.proofs.Consistent.{consistent_none, consistent_inserted, consistent_removed, consistent_pushed, consistent_timed, consistent_waited, consistent_changed, slot_same, any_same}

length_placed : (t : Timer) (xs : List Timer) → length (placed t xs) ≡ length xs + 1
length_placed t [] = refl
length_placed t (y ∷ ys) = let rest = length_placed t ys in elim (cases_Bool (is_earlier t y)) [ inl e ↦ rw e (omega arith) | inr e ↦ rw e (omega arith) ]

numbers_below : (xs : List ℕ) (m n : ℕ) → m ≤ n → list_all (λ x. nat_lt x m) xs ≡ true → list_all (λ x. nat_lt x n) xs ≡ true
numbers_below xs m n le all = all_weaker (λ x. nat_lt x m) (λ x. nat_lt x n) (λ x h. lt-ltb x n (omega (arith, ltb-true x m h))) xs all

module _ {T : Type 0} where
  -- no slot has a number that all are below
  below_dead : (live : List (Slot T)) (n : ℕ) → list_all (λ x. nat_lt x.slot n) live ≡ true → list_any (is_slot n) live ≡ false
  below_dead live n below =
      all_none (is_slot n) live (all_weaker (λ x. nat_lt x.slot n) (λ x. not (x.slot == n)) (λ x h. not_from_false (x.slot == n) (ne_eqb x.slot n (λ e. omega (arith, ltb-true x.slot n h)))) live below)

  -- a live number is below what all are below
  live_below : (live : List (Slot T)) (n most : ℕ) → list_any (is_slot n) live ≡ true → list_all (λ x. nat_lt x.slot most) live ≡ true → nat_lt n most ≡ true
  live_below [] n most some below = absurd (false≢true some)
  live_below (x ∷ xs) n most some below =
      let parts = and_parts (nat_lt x.slot most) (list_all (λ y. nat_lt y.slot most) xs) below in
      elim (or_cases (x.slot == n) (list_any (is_slot n) xs) some) [
        | inl e ↦ subst (λ (m : ℕ). nat_lt m most ≡ true) (eqb-true x.slot n e) parts.0
        | inr e ↦ live_below xs n most e parts.1
      ]

  all_below : (live : List (Slot T)) (m n : ℕ) → m ≤ n → list_all (λ x. nat_lt x.slot m) live ≡ true → list_all (λ x. nat_lt x.slot n) live ≡ true
  all_below live m n le all = all_weaker (λ x. nat_lt x.slot m) (λ x. nat_lt x.slot n) (λ x h. lt-ltb x.slot n (omega (arith, ltb-true x.slot m h))) live all

  -- the next number isn't live
  pub next_dead : (live : List (Slot T)) (free : List ℕ) → AreSpare live free → list_any (is_slot (next_number free (length live))) live ≡ false
  next_dead live [] h = below_dead live (length live) (all_below live (length live + 0) (length live) (omega arith) h.live_below)
  next_dead live (n ∷ rest) h = not-true (list_any (is_slot n) live) (and_parts (not (list_any (is_slot n) live)) (list_all (λ m. not (list_any (is_slot m) live)) rest) h.dead).0

  spare_taken : (live : List (Slot T)) (free : List ℕ) (x : Slot T) → AreSpare live free → x.slot ≡ next_number free (length live) → length live < most_slots → AreSpare (live ++ x ∷ []) (drop 1 free)
  spare_taken live [] x h is room = record {
    once = refl;
    dead = refl;
    free_below = refl;
    live_below = all_added (λ y. nat_lt y.slot (length (live ++ x ∷ []) + 0)) live x (all_below live (length live + 0) (length (live ++ x ∷ []) + 0) (omega (arith, length-append live (x ∷ []))) h.live_below) (lt-ltb x.slot (length (live ++ x ∷ []) + 0) (omega (arith, is, length-append live (x ∷ []))));
    few = omega (arith, length-append live (x ∷ []));
  }
  spare_taken live (n ∷ rest) x h is room =
      let once = and_parts (list_all (differ n) rest) (each_pair differ rest) h.once in
      let dead = and_parts (not (list_any (is_slot n) live)) (list_all (λ m. not (list_any (is_slot m) live)) rest) h.dead in
      let below = and_parts (nat_lt n (length live + length (n ∷ rest))) (list_all (λ m. nat_lt m (length live + length (n ∷ rest))) rest) h.free_below in
      let longer : length (live ++ x ∷ []) + length rest ≡ length live + length (n ∷ rest) = omega (arith, length-append live (x ∷ [])) in
      let here : nat_lt x.slot (length live + length (n ∷ rest)) ≡ true = subst (λ (m : ℕ). nat_lt m (length live + length (n ∷ rest)) ≡ true) (sym is) below.0 in
      record {
        once = once.1;
        dead = all_both (differ n) (λ m. not (list_any (is_slot m) live)) (λ m. not (list_any (is_slot m) (live ++ x ∷ []))) (λ m two none. not_from_false (list_any (is_slot m) (live ++ x ∷ [])) (none_added (is_slot m) live x (not-true (list_any (is_slot m) live) none) (subst (λ (k : ℕ). (k == m) ≡ false) (sym is) (not-true (n == m) two)))) rest once.0 dead.1;
        free_below = numbers_below rest (length live + length (n ∷ rest)) (length (live ++ x ∷ []) + length rest) (omega (arith, longer)) below.1;
        live_below = all_added (λ y. nat_lt y.slot (length (live ++ x ∷ []) + length rest)) live x (all_below live (length live + length (n ∷ rest)) (length (live ++ x ∷ []) + length rest) (omega (arith, longer)) h.live_below) (lt-ltb x.slot (length (live ++ x ∷ []) + length rest) (omega (arith, longer, ltb-true x.slot (length live + length (n ∷ rest)) here)));
        few = omega (arith, longer, h.few);
      }

  spare_removed : (live : List (Slot T)) (free : List ℕ) (n : ℕ) → AreSpare live free → list_any (is_slot n) live ≡ true → length (filter (is_other n) live) + 1 ≡ length live → AreSpare (filter (is_other n) live) (free ++ n ∷ [])
  spare_removed live free n h some fewer =
      let left = filter (is_other n) live in
      let same : length left + length (free ++ n ∷ []) ≡ length live + length free = omega (arith, fewer, length-append free (n ∷ [])) in
      let two = all_weaker (λ m. not (list_any (is_slot m) live)) (λ m. differ m n) (λ m none. not_from_false (m == n) (ne_eqb m n (λ e. both_ways (list_any (is_slot m) live) (not-true (list_any (is_slot m) live) none) (subst (λ (k : ℕ). list_any (is_slot k) live ≡ true) (sym e) some)))) free h.dead in
      let below = live_below live n (length live + length free) some h.live_below in
      record {
        once = pair_added differ free n h.once two;
        dead = all_added (λ m. not (list_any (is_slot m) left)) free n (all_weaker (λ m. not (list_any (is_slot m) live)) (λ m. not (list_any (is_slot m) left)) (λ m none. not_from_false (list_any (is_slot m) left) (none_filtered (is_slot m) (is_other n) live (not-true (list_any (is_slot m) live) none))) free h.dead) (not_from_false (list_any (is_slot n) left) (none_left (is_slot n) live));
        free_below = all_added (λ m. nat_lt m (length left + length (free ++ n ∷ []))) free n (numbers_below free (length live + length free) (length left + length (free ++ n ∷ [])) (omega (arith, same)) h.free_below) (lt-ltb n (length left + length (free ++ n ∷ [])) (omega (arith, same, ltb-true n (length live + length free) below)));
        live_below = all_filtered (λ x. nat_lt x.slot (length left + length (free ++ n ∷ []))) (is_other n) live (all_below live (length live + length free) (length left + length (free ++ n ∷ [])) (omega (arith, same)) h.live_below);
        few = omega (arith, same, h.few);
      }

  spare_changed : (live : List (Slot T)) (free : List ℕ) (slot : ℕ) (value : T) → AreSpare live free → AreSpare (map (with_value slot value) live) free
  spare_changed live free slot value h =
      let f = with_value slot value in
      let same : length (map f live) ≡ length live = length-map live f in
      record {
        once = h.once;
        dead = all_weaker (λ m. not (list_any (is_slot m) live)) (λ m. not (list_any (is_slot m) (map f live))) (λ m none. ap not (any_same slot value m live) ∙ none) free h.dead;
        free_below = numbers_below free (length live + length free) (length (map f live) + length free) (omega (arith, same)) h.free_below;
        live_below = all_mapped (λ x. nat_lt x.slot (length (map f live) + length free)) f (λ x. ap (λ (m : ℕ). nat_lt m (length (map f live) + length free)) (slot_same slot value x)) live ∙ all_below live (length live + length free) (length (map f live) + length free) (omega (arith, same)) h.live_below;
        few = omega (arith, same, h.few);
      }

  pub whole_none : IsWhole {T = T} [] (roomy [] 0) (roomy [] 0) (roomy [] 0) (roomy [] 0)
  whole_none = record {
    consistent = consistent_none;
    spare = record { once = refl; dead = refl; free_below = refl; live_below = refl; few = omega arith };
    free_room = omega arith;
    ready_room = omega arith;
    timer_room = omega arith;
    wait_room = omega arith;
  }

  -- more room
  pub whole_grown : (live grown : List (Slot T)) (free free' ready ready' : Roomy ℕ) (timers timers' : Roomy Timer) (waits waits' : Roomy Waiting) → IsWhole live free ready timers waits → grown ≡ live → Grows free free' → Grows ready ready' → Grows timers timers' → Grows waits waits' → IsWhole grown free' ready' timers' waits'
  whole_grown live grown free free' ready ready' timers timers' waits waits' h same f r t v = rw same (record {
    consistent = rw (r.same, t.same, v.same) h.consistent;
    spare = rw f.same h.spare;
    free_room = omega (arith, h.free_room, f.more, ap length f.same);
    ready_room = omega (arith, h.ready_room, r.more);
    timer_room = omega (arith, h.timer_room, t.more);
    wait_room = omega (arith, h.wait_room, v.more);
  })

  -- a new slot
  pub whole_inserted : (live : List (Slot T)) (free ready : Roomy ℕ) (timers : Roomy Timer) (waits : Roomy Waiting) (x : Slot T) → IsWhole live free ready timers waits → FitsOneMore (length live) free ready timers waits → x.slot ≡ next_number free.items (length live) → list_all (λ y. nat_lt y.id x.id) live ≡ true → length live < most_slots
      → IsWhole (live ++ x ∷ []) (roomy (drop 1 free.items) free.room) ready timers waits
  whole_inserted live free ready timers waits x h fits is above room =
      let dead : list_any (is_slot x.slot) live ≡ false = subst (λ (m : ℕ). list_any (is_slot m) live ≡ false) (sym is) (next_dead live free.items h.spare) in
      record {
        consistent = consistent_inserted (slots_of live ready timers waits) x.slot x.id x.value h.consistent above dead room;
        spare = spare_taken live free.items x h.spare is room;
        free_room = omega (arith, fits.free_room, length-append live (x ∷ []), length-drop 1 free.items);
        ready_room = omega (arith, fits.ready_room, length-append live (x ∷ []));
        timer_room = omega (arith, fits.timer_room, length-append live (x ∷ []));
        wait_room = omega (arith, fits.wait_room, length-append live (x ∷ []));
      }

  -- a new slot, from what each step to it left
  pub whole_added : (live grown after : List (Slot T)) (free freed ready : Roomy ℕ) (timers : Roomy Timer) (waits : Roomy Waiting) (popped : Option ℕ) (count slot id : ℕ) (value : T) → IsWhole grown free ready timers waits → FitsOneMore (length live) free ready timers waits → grown ≡ live → popped ≡ slice_get free.items 0
      → freed ≡ roomy (drop 1 free.items) free.room → slot ≡ unwrap_or popped count → count ≡ length live → after ≡ grown ++ record { slot = slot; id = id; value = value } ∷ [] → list_all (λ y. nat_lt y.id id) live ≡ true → length live < most_slots → IsWhole after freed ready timers waits
  whole_added live grown after free freed ready timers waits popped count slot id value h fits same first rest is counted put above room =
      let next : slot ≡ next_number free.items (length grown) = is ∙ ap (λ (o : Option ℕ). unwrap_or o count) first ∙ ap (λ (n : ℕ). next_number free.items n) (counted ∙ ap length (sym same)) in
      let fits_grown = subst (λ (l : List (Slot T)). FitsOneMore (length l) free ready timers waits) (sym same) fits in
      let above_grown = subst (λ (l : List (Slot T)). list_all (λ y. nat_lt y.id id) l ≡ true) (sym same) above in
      let whole = whole_inserted grown free ready timers waits (record { slot = slot; id = id; value = value }) h fits_grown next above_grown (omega (arith, room, ap length same)) in
      rw (put, rest) whole

  -- the number of a new slot wasn't live
  pub taken_dead : (live grown : List (Slot T)) (free ready : Roomy ℕ) (timers : Roomy Timer) (waits : Roomy Waiting) (popped : Option ℕ) (count slot : ℕ) → IsWhole grown free ready timers waits → grown ≡ live → popped ≡ slice_get free.items 0 → slot ≡ unwrap_or popped count → count ≡ length live → list_any (is_slot slot) live ≡ false
  taken_dead live grown free ready timers waits popped count slot h same first is counted =
      let next : slot ≡ next_number free.items (length grown) = is ∙ ap (λ (o : Option ℕ). unwrap_or o count) first ∙ ap (λ (n : ℕ). next_number free.items n) (counted ∙ ap length (sym same)) in
      subst (λ (l : List (Slot T)). list_any (is_slot slot) l ≡ false) same (subst (λ (n : ℕ). list_any (is_slot n) grown ≡ false) (sym next) (next_dead grown free.items h.spare))

  -- a slot is gone
  pub whole_removed : (live left : List (Slot T)) (free free' ready : Roomy ℕ) (timers : Roomy Timer) (waits : Roomy Waiting) (slot : ℕ) → IsWhole live free ready timers waits → list_any (is_slot slot) live ≡ true → has ready.items slot ≡ false → list_any (is_timer_of slot) timers.items ≡ false → list_any (is_wait_of slot) waits.items ≡ false → left ≡ filter (is_other slot) live → length left + 1 ≡ length live
      → free' ≡ roomy (free.items ++ slot ∷ []) free.room → IsWhole left free' ready timers waits
  whole_removed live left free free' ready timers waits slot h some unready untimed unwaiting is fewer freed =
      let less : length (filter (is_other slot) live) + 1 ≡ length live = subst (λ (l : List (Slot T)). length l + 1 ≡ length live) is fewer in
      rw (is, freed) (record {
        consistent = consistent_removed (slots_of live ready timers waits) slot h.consistent unready untimed unwaiting;
        spare = spare_removed live free.items slot h.spare some less;
        free_room = omega (arith, h.free_room, less, length-append free.items (slot ∷ []));
        ready_room = omega (arith, h.ready_room, less);
        timer_room = omega (arith, h.timer_room, less);
        wait_room = omega (arith, h.wait_room, less);
      })

  -- another ready queue
  pub whole_readied : (live : List (Slot T)) (free ready ready' : Roomy ℕ) (timers : Roomy Timer) (waits : Roomy Waiting) → IsWhole live free ready timers waits → ready'.room ≡ ready.room → IsConsistent (slots_of live ready' timers waits) → IsWhole live free ready' timers waits
  whole_readied live free ready ready' timers waits h room consistent = record { consistent = consistent; spare = h.spare; free_room = h.free_room; ready_room = omega (arith, room, h.ready_room); timer_room = h.timer_room; wait_room = h.wait_room }

  -- other timers
  pub whole_timed : (live : List (Slot T)) (free ready : Roomy ℕ) (timers timers' : Roomy Timer) (waits : Roomy Waiting) → IsWhole live free ready timers waits → timers'.room ≡ timers.room → IsConsistent (slots_of live ready timers' waits) → IsWhole live free ready timers' waits
  whole_timed live free ready timers timers' waits h room consistent = record { consistent = consistent; spare = h.spare; free_room = h.free_room; ready_room = h.ready_room; timer_room = omega (arith, room, h.timer_room); wait_room = h.wait_room }

  -- other waits
  pub whole_waiting : (live : List (Slot T)) (free ready : Roomy ℕ) (timers : Roomy Timer) (waits waits' : Roomy Waiting) → IsWhole live free ready timers waits → waits'.room ≡ waits.room → IsConsistent (slots_of live ready timers waits') → IsWhole live free ready timers waits'
  whole_waiting live free ready timers waits waits' h room consistent = record { consistent = consistent; spare = h.spare; free_room = h.free_room; ready_room = h.ready_room; timer_room = h.timer_room; wait_room = omega (arith, room, h.wait_room) }

  -- another value
  pub whole_changed : (live : List (Slot T)) (free ready : Roomy ℕ) (timers : Roomy Timer) (waits : Roomy Waiting) (slot : ℕ) (value : T) → IsWhole live free ready timers waits → IsWhole (map (with_value slot value) live) free ready timers waits
  whole_changed live free ready timers waits slot value h =
      let same : length (map (with_value slot value) live) ≡ length live = length-map live (with_value slot value) in
      record {
        consistent = consistent_changed (slots_of live ready timers waits) slot value h.consistent;
        spare = spare_changed live free.items slot value h.spare;
        free_room = omega (arith, same, h.free_room);
        ready_room = omega (arith, same, h.ready_room);
        timer_room = omega (arith, same, h.timer_room);
        wait_room = omega (arith, same, h.wait_room);
      }

  -- there is room for a live slot that isn't ready
  pub ready_fits : (live : List (Slot T)) (free ready : Roomy ℕ) (timers : Roomy Timer) (waits : Roomy Waiting) (slot : ℕ) → IsWhole live free ready timers waits → list_any (is_slot slot) live ≡ true → has ready.items slot ≡ false → length ready.items < ready.room
  ready_fits live free ready timers waits slot h some unready =
      let pushed = consistent_pushed (slots_of live ready timers waits) slot h.consistent some unready in
      let few = no_more (λ (n : ℕ). n) (λ (x : Slot T). x.slot) (ready.items ++ slot ∷ []) live pushed.once_ready pushed.ready_live in
      omega (arith, few, h.ready_room, length-append ready.items (slot ∷ []))

  -- there is room for a timer of a live slot that has none
  pub timer_fits : (live : List (Slot T)) (free ready : Roomy ℕ) (timers : Roomy Timer) (waits : Roomy Waiting) (t : Timer) → IsWhole live free ready timers waits → is_timed live t ≡ true → list_any (is_timer_of t.slot) timers.items ≡ false → length timers.items < timers.room
  timer_fits live free ready timers waits t h timed untimed =
      let put = consistent_timed (slots_of live ready timers waits) t h.consistent timed untimed in
      let live_all = all_weaker (is_timed live) (λ (x : Timer). list_any (is_slot x.slot) live) (λ x some. any_weaker (λ (y : Slot T). (y.slot == x.slot) && (y.id == x.id)) (is_slot x.slot) (λ y both. (and_parts (y.slot == x.slot) (y.id == x.id) both).0) live some) (placed t timers.items) put.timed_live in
      let few = no_more (λ (x : Timer). x.slot) (λ (x : Slot T). x.slot) (placed t timers.items) live put.once_timed live_all in
      omega (arith, few, h.timer_room, length_placed t timers.items)

  -- there is room for a clause of a live slot that doesn't wait
  pub wait_fits : (live : List (Slot T)) (free ready : Roomy ℕ) (timers : Roomy Timer) (waits : Roomy Waiting) (slot clause queue : ℕ) → IsWhole live free ready timers waits → list_any (is_slot slot) live ≡ true → nat_lt clause most_clauses ≡ true → list_any (is_wait_under slot clause) waits.items ≡ false → length waits.items < waits.room
  wait_fits live free ready timers waits slot clause queue h some below new =
      let w : Waiting = record { slot = slot; clause = clause; queue = queue } in
      let put = consistent_waited (slots_of live ready timers waits) slot clause queue h.consistent some below new in
      let few = no_more_clauses (λ (x : Waiting). x.slot) (λ (x : Waiting). x.clause) (λ (x : Slot T). x.slot) (waits.items ++ w ∷ []) live put.once_waiting put.waiting_live in
      omega (arith, few, h.wait_room, length-append waits.items (w ∷ []))
