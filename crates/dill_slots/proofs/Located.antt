-- What stands at the place of a live slot.
use Rattle.std.proofs.Common.{◌≡◌, ℕ, ◌<◌, List, [], ◌∷◌, length, get_or, set, true, false, refl, sym, ◌∙◌, ap, subst, arith, inl, inr}
use Rattle.std.specs.Prelude.{◌&&◌, ◌==◌, map, filter, find, slice_get, Bool, Option, Some, None, option_map, unwrap_or, not, nat_le, nat_lt, Result, Ok, Err, OnOk, IfSome}
use Rattle.std.specs.List.{list_any, list_all, position_or_len, remove}
use Rattle.std.specs.Result.{is_err}
use Rattle.std.proofs.lemmas.Bool.{and_from, and_parts, eq-eqb, not-false, cases_Bool, false≢true}
use Rattle.std.proofs.lemmas.List.Folds.{list_any_at}
use Rattle.std.proofs.lemmas.List.Sums.{prefix_len_stops}
use Rattle.dill_slots.specs.declared.slot.Slot.{Slot}
use Rattle.dill_slots.specs.declared.slot.Timer.{Timer}
use Rattle.dill_slots.specs.declared.slot.Waiting.{Waiting}
use Rattle.dill_slots.specs.Pairs.{each_pair, Roomy, roomy}
use Rattle.dill_slots.specs.Slots.{is_slot, is_other, are_two, with_value, is_timed, set_timer, placed, first_passed, first_of, waits_on, place_of_wait, may_wait, most_clauses}
use Rattle.dill_slots.specs.Whole.{slots_of}
use Rattle.dill_slots.proofs.Keeping.{any_weaker}
use Rattle.dill_slots.proofs.Finding.{position_within, found_where, taken_out, changed_there, two_numbers}

module _ {T : Type 0} where
  -- a place that was looked up in the list of live slots
  pub record IsPlace (live : List (Slot T)) (slot at : ℕ) : Type 0 where
    pub is : at ≡ position_or_len (is_slot slot) live
    pub some : list_any (is_slot slot) live ≡ true

  pub place_in : (live slice : List (Slot T)) (slot at : ℕ) → list_any (is_slot slot) live ≡ true → slice ≡ live → at ≡ position_or_len (is_slot slot) slice → IsPlace live slot at
  place_in live slice slot at some same is = record { is = is ∙ ap (position_or_len (is_slot slot)) same; some = some }

  pub place_within : (live : List (Slot T)) (slot at : ℕ) → IsPlace live slot at → at < length live
  place_within live slot at h = omega (arith, h.is, position_within (is_slot slot) live h.some)

  -- what is found is what stands there
  found_there : (live : List (Slot T)) (slot at : ℕ) (x : Slot T) → IsPlace live slot at → x ≡ get_or live at x → find (is_slot slot) live ≡ Some x
  found_there live slot at x h is = found_where (is_slot slot) live x (position_within (is_slot slot) live h.some) (subst (λ (i : ℕ). x ≡ get_or live i x) h.is is)

  pub value_there : (live : List (Slot T)) (slot at : ℕ) (x : Slot T) → IsPlace live slot at → x ≡ get_or live at x → option_map (λ x. x.value) (find (is_slot slot) live) ≡ Some x.value
  value_there live slot at x h is = ap (option_map (λ (x : Slot T). x.value)) (found_there live slot at x h is)

  pub id_there : (live : List (Slot T)) (slot at : ℕ) (x : Slot T) → IsPlace live slot at → x ≡ get_or live at x → unwrap_or (option_map (λ x. x.id) (find (is_slot slot) live)) 0 ≡ x.id
  id_there live slot at x h is = ap (λ o. unwrap_or (option_map (λ (x : Slot T). x.id) o) 0) (found_there live slot at x h is)

  pub removed_there : (live : List (Slot T)) (slot at : ℕ) → IsPlace live slot at → each_pair are_two live ≡ true → remove live at ≡ filter (is_other slot) live
  removed_there live slot at h once = ap (remove live) h.is ∙ taken_out (is_slot slot) are_two (λ x y. two_numbers x.slot y.slot slot) live once

  pub set_there : (live : List (Slot T)) (slot at : ℕ) (x : Slot T) (value : T) → IsPlace live slot at → each_pair are_two live ≡ true → x ≡ get_or live at x → set live at (record x { value = value }) ≡ map (with_value slot value) live
  set_there live slot at x value h once is =
      ap (λ (i : ℕ). set live i (record x { value = value })) h.is ∙ sym (changed_there (is_slot slot) are_two (λ x y. two_numbers x.slot y.slot slot) (λ (y : Slot T). record y { value = value }) live x once (position_within (is_slot slot) live h.some) (subst (λ (i : ℕ). x ≡ get_or live i x) h.is is))

  -- a timer of what stands there is one of a live slot
  pub timed_there : (live : List (Slot T)) (slot at deadline : ℕ) (x : Slot T) → IsPlace live slot at → x ≡ get_or live at x → is_timed live (record { deadline = deadline; id = x.id; slot = slot }) ≡ true
  timed_there live slot at deadline x h is =
      let within = position_within (is_slot slot) live h.some in
      let here : x ≡ get_or live (position_or_len (is_slot slot) live) x = subst (λ (i : ℕ). x ≡ get_or live i x) h.is is in
      let there : (x.slot == slot) ≡ true = subst (λ (y : Slot T). is_slot slot y ≡ true) (sym here) (not-false (is_slot slot (get_or live (position_or_len (is_slot slot) live) x)) (prefix_len_stops (λ y. not (is_slot slot y)) live x within)) in
      list_any_at (λ (y : Slot T). (y.slot == slot) && (y.id == x.id)) live at x (place_within live slot at h) (subst (λ (y : Slot T). ((y.slot == slot) && (y.id == x.id)) ≡ true) is (and_from (x.slot == slot) (x.id == x.id) there (eq-eqb x.id x.id refl)))

  -- the value of other parts
  pub slots_same : (live live' : List (Slot T)) (ready : Roomy ℕ) (timers : Roomy Timer) (waits : Roomy Waiting) → live ≡ live' → slots_of live ready timers waits ≡ slots_of live' ready timers waits
  slots_same live live' ready timers waits e = ap (λ (l : List (Slot T)). slots_of l ready timers waits) e

  pub timed_same : (live : List (Slot T)) (ready : Roomy ℕ) (timers timers' : Roomy Timer) (waits : Roomy Waiting) (slot at deadline : ℕ) (x : Slot T) → IsPlace live slot at → x ≡ get_or live at x → timers' ≡ roomy (placed (record { deadline = deadline; id = x.id; slot = slot }) timers.items) timers.room
      → slots_of live ready timers' waits ≡ set_timer (slots_of live ready timers waits) slot deadline
  timed_same live ready timers timers' waits slot at deadline x h is put =
      ap (λ (t : Roomy Timer). slots_of live ready t waits) (put ∙ ap (λ (id : ℕ). roomy (placed (record { deadline = deadline; id = id; slot = slot }) timers.items) timers.room) (sym (id_there live slot at x h is)))

  -- a timer that is passed is one of a live slot
  pub passed_live : (live : List (Slot T)) (moment : ℕ) (timers : List Timer) (t : Timer) → list_all (is_timed live) timers ≡ true → first_passed moment timers ≡ Some t → list_any (is_slot t.slot) live ≡ true
  passed_live live moment [] t all is = absurd (cc)
  passed_live live moment (x ∷ xs) t all is =
      elim (cases_Bool (nat_le x.deadline moment)) [
        | inl e ↦
            let same : Some x ≡ Some t = rw e at is in
            let here : x ≡ t = cc in
            subst (λ (y : Timer). list_any (is_slot y.slot) live ≡ true) here (any_weaker (λ (y : Slot T). (y.slot == x.slot) && (y.id == x.id)) (is_slot x.slot) (λ y both. (and_parts (y.slot == x.slot) (y.id == x.id) both).0) live (and_parts (is_timed live x) (list_all (is_timed live) xs) all).0)
        | inr e ↦ (let none : None ≡ Some t = rw e at is in absurd (cc))
      ]

  -- the first that waits on a queue is one of a live slot
  pub waiting_is_live : (live : List (Slot T)) (queue : ℕ) (waits : List Waiting) (x : ℕ × ℕ) → list_all (may_wait live) waits ≡ true → first_of queue waits ≡ Some x → list_any (is_slot x.0) live ≡ true
  waiting_is_live live queue [] x all is = absurd (cc)
  waiting_is_live live queue (w ∷ ws) x all is =
      let parts = and_parts (may_wait live w) (list_all (may_wait live) ws) all in
      elim (cases_Bool (w.queue == queue)) [
        | inl e ↦
            let same : Some (w.slot, w.clause) ≡ Some x = rw e at is in
            let here : (w.slot, w.clause) ≡ x = cc in
            subst (λ (y : ℕ × ℕ). list_any (is_slot y.0) live ≡ true) here (and_parts (list_any (is_slot w.slot) live) (nat_lt w.clause most_clauses) parts.0).0
        | inr e ↦ waiting_is_live live queue ws x parts.1 (rw e at is)
      ]

  -- and so is what was found
  pub found_is_live : (live : List (Slot T)) (queue : ℕ) (waits : List Waiting) (o : Option (ℕ × ℕ)) → list_all (may_wait live) waits ≡ true → o ≡ first_of queue waits → IfSome o (λ x. list_any (is_slot x.0) live ≡ true)
  found_is_live live queue waits None all is = tt
  found_is_live live queue waits (Some x) all is = waiting_is_live live queue waits x all (sym is)

-- the first of those that pass is the first that is found
pub find_first : {X : Type 0} (p : X → Bool) (xs : List X) → find p xs ≡ slice_get (filter p xs) 0
find_first p [] = refl
find_first p (x ∷ xs) = elim (cases_Bool (p x)) [ inl e ↦ rw e refl | inr e ↦ rw e (find_first p xs) ]

pub first_found : (queue : ℕ) (slice waits : List Waiting) (found : Option (ℕ × ℕ)) → slice ≡ waits → found ≡ option_map place_of_wait (find (waits_on queue) slice) → found ≡ first_of queue waits
first_found queue slice waits found same is = is ∙ ap (λ l. option_map place_of_wait (find (waits_on queue) l)) same ∙ ap (option_map place_of_wait) (find_first (waits_on queue) waits)

-- what holds on success, where there was no error
pub on_success : {A B : Type 0} {P : Type 0} (r : Result A B) → is_err r ≡ false → OnOk r P → P
on_success (Ok x) e p = p
on_success (Err x) e p = absurd (false≢true (sym e))
