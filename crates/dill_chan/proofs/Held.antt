-- Each call leaves clauses and seats in order, and room for what may wait.
use Rattle.std.proofs.Common.{◌≡◌, ◌∙◌, ℕ, ◌+◌, ◌*◌, ◌<◌, ◌≤◌, List, [], ◌∷◌, ◌++◌, length, Bool, true, false, refl, sym, arith, length-append}
use Rattle.std.specs.Prelude.{◌==◌, nat_lt, not, filter}
use Rattle.std.specs.List.{list_any, list_all}
use Rattle.std.proofs.lemmas.Bool.{and_parts, and_from, lt-ltb, not-true, not_from_false, ne_eqb, both_ways, eq-eqb, eqb-true}
use Rattle.dill_slots.specs.Pairs.{has}
use Rattle.dill_slots.proofs.Keeping.{none_all, all_weaker, all_both, all_added, any_added, pair_added, all_filtered, any_filtered, pair_filtered, length_filtered}
use Rattle.dill_slots.proofs.Room.{no_more_clauses}
use Rattle.dill_chan.specs.declared.end.End.{End}
use Rattle.dill_chan.specs.declared.end.Wait.{Wait}
use Rattle.dill_chan.specs.declared.meeting.Meeting.{Meeting}
use Rattle.dill_chan.specs.declared.meeting.Meeting.TheVariants.{Met, Ended, Waits}
use Rattle.dill_chan.specs.Meetings.{meeting}
use Rattle.dill_chan.specs.Seats.{IsHeld, is_of, is_others, is_under, are_two_waits, may_wait, most_clauses, most_seats, channels_of, left_by, entered}

pub held_none : (room : ℕ) → IsHeld [] [] room
held_none room = record { rising = refl; few = omega arith; once = refl; among = refl; enough = omega arith }

-- one more seat
pub held_seat : (waits : List Wait) (seats : List ℕ) (who room more : ℕ) → IsHeld waits seats room → list_all (λ other. nat_lt other who) seats ≡ true → length seats < most_seats → (length seats + 1) * most_clauses ≤ more → IsHeld waits (seats ++ who ∷ []) more
held_seat waits seats who room more h above few enough = record {
  rising = pair_added nat_lt seats who h.rising above;
  few = omega (arith, few, length-append seats (who ∷ []));
  once = h.once;
  among = all_weaker (may_wait seats) (may_wait (seats ++ who ∷ [])) (λ x both. let parts = and_parts (list_any (λ other. other == x.who) seats) (nat_lt x.clause most_clauses) both in and_from (list_any (λ other. other == x.who) (seats ++ who ∷ [])) (nat_lt x.clause most_clauses) (any_added (λ other. other == x.who) seats who parts.0) parts.1) waits h.among;
  enough = omega (arith, enough, length-append seats (who ∷ []));
}

other_seat : (who m other : ℕ) → not (who == m) ≡ true → (other == who) ≡ true → not (other == m) ≡ true
other_seat who m other two here = not_from_false (other == m) (ne_eqb other m (λ e. both_ways (who == m) (not-true (who == m) two) (eq-eqb who m (sym (eqb-true other who here) ∙ e))))

-- one seat less
pub held_unseat : (waits : List Wait) (seats : List ℕ) (who room : ℕ) → IsHeld waits seats room → list_any (is_of who) waits ≡ false → IsHeld waits (filter (λ other. not (other == who)) seats) room
held_unseat waits seats who room h none = record {
  rising = pair_filtered nat_lt (λ other. not (other == who)) seats h.rising;
  few = omega (arith, h.few, length_filtered (λ other. not (other == who)) seats);
  once = h.once;
  among = all_both (is_others who) (may_wait seats) (may_wait (filter (λ other. not (other == who)) seats)) (λ x two both. let parts = and_parts (list_any (λ other. other == x.who) seats) (nat_lt x.clause most_clauses) both in and_from (list_any (λ other. other == x.who) (filter (λ other. not (other == who)) seats)) (nat_lt x.clause most_clauses) (any_filtered (λ other. other == x.who) (λ other. not (other == who)) (λ other here. other_seat x.who who other two here) seats parts.0) parts.1) waits (none_all (is_of who) waits none) h.among;
  enough = omega (arith, h.enough, length_filtered (λ other. not (other == who)) seats);
}

-- fewer wait
pub held_fewer : (p : Wait → Bool) (waits : List Wait) (seats : List ℕ) (room : ℕ) → IsHeld waits seats room → IsHeld (filter p waits) seats room
held_fewer p waits seats room h = record {
  rising = h.rising;
  few = h.few;
  once = pair_filtered are_two_waits p waits h.once;
  among = all_filtered (may_wait seats) p waits h.among;
  enough = h.enough;
}

-- one more waits
held_wait : (waits : List Wait) (seats : List ℕ) (room : ℕ) (w : Wait) → IsHeld waits seats room → has seats w.who ≡ true → w.clause < most_clauses → list_any (is_under w.who w.clause) waits ≡ false → IsHeld (waits ++ w ∷ []) seats room
held_wait waits seats room w h seat below new = record {
  rising = h.rising;
  few = h.few;
  once = pair_added are_two_waits waits w h.once (none_all (is_under w.who w.clause) waits new);
  among = all_added (may_wait seats) waits w h.among (and_from (list_any (λ other. other == w.who) seats) (nat_lt w.clause most_clauses) seat (lt-ltb w.clause most_clauses below));
  enough = h.enough;
}

-- there is room for it
pub wait_fits : (waits : List Wait) (seats : List ℕ) (room : ℕ) (w : Wait) → IsHeld waits seats room → has seats w.who ≡ true → w.clause < most_clauses → list_any (is_under w.who w.clause) waits ≡ false → length waits < room
wait_fits waits seats room w h seat below new =
    let put = held_wait waits seats room w h seat below new in
    let few = no_more_clauses (λ (x : Wait). x.who) (λ (x : Wait). x.clause) (λ (n : ℕ). n) (waits ++ w ∷ []) seats put.once put.among in
    omega (arith, few, h.enough, length-append waits (w ∷ []))

held_left : (m : Meeting) (ends : List End) (waits : List Wait) (last : ℕ) (seats : List ℕ) (room : ℕ) (w : Wait) → IsHeld waits seats room → IsHeld (waits ++ w ∷ []) seats room → IsHeld (left_by m (channels_of ends waits last) w).waits seats room
held_left (Met x) ends waits last seats room w h put = held_fewer (is_others x.other) waits seats room h
held_left Ended ends waits last seats room w h put = h
held_left Waits ends waits last seats room w h put = put

-- a clause was entered
pub held_entered : (ends : List End) (waits left : List Wait) (last : ℕ) (seats : List ℕ) (room : ℕ) (w : Wait) → IsHeld waits seats room → has seats w.who ≡ true → w.clause < most_clauses → list_any (is_under w.who w.clause) waits ≡ false → left ≡ (entered (channels_of ends waits last) w).waits → IsHeld left seats room
held_entered ends waits left last seats room w h seat below new is =
    rw is (held_left (meeting (channels_of ends waits last) w.who w.end w.want) ends waits last seats room w h (held_wait waits seats room w h seat below new))

-- one more seat, from what each step to it left
pub held_seated : (waits grown : List Wait) (seats also after : List ℕ) (who room more : ℕ) → IsHeld waits seats room → list_all (λ other. nat_lt other who) seats ≡ true → length seats < most_seats → grown ≡ waits → also ≡ seats → after ≡ also ++ who ∷ [] → (length seats + 1) * most_clauses ≤ more → IsHeld grown after more
held_seated waits grown seats also after who room more h above few same still put enough = rw (put, same, still) (held_seat waits seats who room more h above few enough)
