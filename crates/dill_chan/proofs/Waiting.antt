-- Clauses of a coroutine that waited nowhere are put behind the others: none waits twice, and there is room for them.
use Rattle.std.proofs.Common.{◌≡◌, ◌∙◌, Result, Ok, Err, IfOk, is_ok, if◌then◌else◌, ℕ, ◌+◌, ◌≤◌, List, [], ◌∷◌, ◌++◌, length, Bool, true, false, refl, sym, ap, subst, arith, length-append}
use Rattle.std.specs.Prelude.{◌==◌, ◌&&◌, nat_lt, nat_le, not}
use Rattle.std.specs.List.{list_any, list_all}
use Rattle.std.proofs.lemmas.Bool.{and_parts, and_from, not-true, ne_eqb, both_ways, eq-eqb, eqb-true}
use Rattle.std.proofs.lemmas.Bool.Decides.{nat_tests}
use Rattle.std.proofs.lemmas.List.Folds.{list_all-append}
use Rattle.dill_slots.specs.Pairs.{each_pair, has}
use Rattle.dill_slots.proofs.Keeping.{none_all, all_weaker}
use Rattle.dill_slots.proofs.Room.{no_more_clauses}
use Rattle.dill_base.specs.declared.errno.NoMemory.{NoMemory}
use Rattle.dill_chan.specs.declared.end.End.{End}
use Rattle.dill_chan.specs.declared.end.Wait.{Wait}
use Rattle.dill_chan.specs.declared.meeting.Meeting.{Meeting}
use Rattle.dill_chan.specs.Meetings.{meeting}
use Rattle.dill_chan.specs.Choosing.{comes_of}
use Rattle.dill_chan.specs.Seats.{IsHeld, is_of, are_two_waits, are_clauses, may_wait, most_clauses, channels_of}

-- a clause of this coroutine, of a number that isn't below
abbrev stands_from : ℕ → ℕ → Wait → Bool
stands_from who n x = x.who == who && nat_le n x.clause

at_least : (m n : ℕ) → nat_le m n ≡ true → m ≤ n
at_least m n e = grind (arith, nat_tests)

still_least : (m n k : ℕ) → m ≤ n → nat_le n k ≡ true → nat_le m k ≡ true
still_least m n k less e = grind (arith, nat_tests)

below : (who m n : ℕ) → m ≤ n → (x : Wait) → stands_from who n x ≡ true → stands_from who m x ≡ true
below who m n less x s =
    let parts = and_parts (x.who == who) (nat_le n x.clause) s in
    and_from (x.who == who) (nat_le m x.clause) parts.0 (still_least m n x.clause less parts.1)

-- what one of them is, and what the others are
head_of : (who n : ℕ) (x : Wait) (xs : List Wait) → are_clauses who n (x ∷ xs) ≡ true → (x.who == who ≡ true) × (nat_le n x.clause ≡ true) × (nat_lt x.clause most_clauses ≡ true) × (are_clauses who (x.clause + 1) xs ≡ true)
head_of who n x xs e =
    let parts = and_parts (x.who == who && (nat_le n x.clause && nat_lt x.clause most_clauses)) (are_clauses who (x.clause + 1) xs) e in
    let here = and_parts (x.who == who) (nat_le n x.clause && nat_lt x.clause most_clauses) parts.0 in
    let within = and_parts (nat_le n x.clause) (nat_lt x.clause most_clauses) here.1 in
    (here.0, within.0, within.1, parts.1)

all_from : (who n : ℕ) (xs : List Wait) → are_clauses who n xs ≡ true → list_all (stands_from who n) xs ≡ true
all_from who n [] e = refl
all_from who n (x ∷ xs) e =
    let h = head_of who n x xs e in
    let least = at_least n x.clause h.1 in
    and_from (stands_from who n x) (list_all (stands_from who n) xs) (and_from (x.who == who) (nat_le n x.clause) h.0 h.1) (all_weaker (stands_from who (x.clause + 1)) (stands_from who n) (below who n (x.clause + 1) (omega (arith, least))) xs (all_from who (x.clause + 1) xs h.3))

not_second : (a b : Bool) → b ≡ false → not (a && b) ≡ true
not_second true b e = rw e refl
not_second false b e = refl

not_first : (a b : Bool) → a ≡ false → not (a && b) ≡ true
not_first a b e = rw e refl

later_two : (who : ℕ) (x y : Wait) → stands_from who (x.clause + 1) y ≡ true → are_two_waits x y ≡ true
later_two who x y s =
    let least = at_least (x.clause + 1) y.clause (and_parts (y.who == who) (nat_le (x.clause + 1) y.clause) s).1 in
    not_second (x.who == y.who) (x.clause == y.clause) (ne_eqb x.clause y.clause (λ e. omega (arith, e, least)))

-- none of them stands twice
once_of : (who n : ℕ) (xs : List Wait) → are_clauses who n xs ≡ true → each_pair are_two_waits xs ≡ true
once_of who n [] e = refl
once_of who n (x ∷ xs) e =
    let h = head_of who n x xs e in
    and_from (list_all (are_two_waits x) xs) (each_pair are_two_waits xs) (all_weaker (stands_from who (x.clause + 1)) (are_two_waits x) (later_two who x) xs (all_from who (x.clause + 1) xs h.3)) (once_of who (x.clause + 1) xs h.3)

others_two : (who : ℕ) (w x : Wait) → not (is_of who w) ≡ true → stands_from who 0 x ≡ true → are_two_waits w x ≡ true
others_two who w x two s =
    let mine = eqb-true x.who who (and_parts (x.who == who) (nat_le 0 x.clause) s).0 in
    not_first (w.who == x.who) (w.clause == x.clause) (ne_eqb w.who x.who (λ e. both_ways (w.who == who) (not-true (w.who == who) two) (eq-eqb w.who who (e ∙ mine))))

-- nor beside one of another coroutine
apart : (who : ℕ) (ws xs : List Wait) → list_all (λ w. not (is_of who w)) ws ≡ true → list_all (stands_from who 0) xs ≡ true → list_all (λ w. list_all (are_two_waits w) xs) ws ≡ true
apart who ws xs others mine = all_weaker (λ w. not (is_of who w)) (λ w. list_all (are_two_waits w) xs) (λ w two. all_weaker (stands_from who 0) (are_two_waits w) (λ x s. others_two who w x two s) xs mine) ws others

pair_joined : (t : Wait → Wait → Bool) (xs ys : List Wait) → each_pair t xs ≡ true → each_pair t ys ≡ true → list_all (λ x. list_all (t x) ys) xs ≡ true → each_pair t (xs ++ ys) ≡ true
pair_joined t [] ys a b c = b
pair_joined t (x ∷ xs) ys a b c =
    let first = and_parts (list_all (t x) xs) (each_pair t xs) a in
    let cross = and_parts (list_all (t x) ys) (list_all (λ y. list_all (t y) ys) xs) c in
    and_from (list_all (t x) (xs ++ ys)) (each_pair t (xs ++ ys)) (list_all-append (t x) xs ys ∙ and_from (list_all (t x) xs) (list_all (t x) ys) first.0 cross.0) (pair_joined t xs ys first.1 b cross.1)

-- they may wait
may_all : (who n : ℕ) (seats : List ℕ) (xs : List Wait) → has seats who ≡ true → are_clauses who n xs ≡ true → list_all (may_wait seats) xs ≡ true
may_all who n seats [] seat e = refl
may_all who n seats (x ∷ xs) seat e =
    let h = head_of who n x xs e in
    and_from (may_wait seats x) (list_all (may_wait seats) xs) (and_from (list_any (λ other. other == x.who) seats) (nat_lt x.clause most_clauses) (subst (λ m. has seats m ≡ true) (sym (eqb-true x.who who h.0)) seat) h.2) (may_all who (x.clause + 1) seats xs seat h.3)

-- all of them wait
pub held_all : (waits xs : List Wait) (seats : List ℕ) (who room more : ℕ) → IsHeld waits seats room → list_any (is_of who) waits ≡ false → has seats who ≡ true → are_clauses who 0 xs ≡ true → room ≤ more → IsHeld (waits ++ xs) seats more
held_all waits xs seats who room more h none seat e less = record {
  rising = h.rising;
  few = h.few;
  once = pair_joined are_two_waits waits xs h.once (once_of who 0 xs e) (apart who waits xs (none_all (is_of who) waits none) (all_from who 0 xs e));
  among = list_all-append (may_wait seats) waits xs ∙ and_from (list_all (may_wait seats) waits) (list_all (may_wait seats) xs) h.among (may_all who 0 seats xs seat e);
  enough = omega (arith, h.enough, less);
}

-- there is room for them
pub all_fit : (waits xs : List Wait) (seats : List ℕ) (who room : ℕ) → IsHeld waits seats room → list_any (is_of who) waits ≡ false → has seats who ≡ true → are_clauses who 0 xs ≡ true → length waits + length xs ≤ room
all_fit waits xs seats who room h none seat e =
    let put = held_all waits xs seats who room room h none seat e (omega arith) in
    let few = no_more_clauses (λ (x : Wait). x.who) (λ (x : Wait). x.clause) (λ (n : ℕ). n) (waits ++ xs) seats put.once put.among in
    omega (arith, few, h.enough, length-append waits xs)

-- what a look at the slices of ends and clauses tells of the whole
pub comes_with : (ends slice : List End) (waits cut : List Wait) (last : ℕ) (w : Wait) (r : Result Meeting NoMemory) → slice ≡ ends → cut ≡ waits → IfOk r (λ m. m ≡ meeting (channels_of slice cut 0) w.who w.end w.want) → IfOk r (λ m. m ≡ comes_of (channels_of ends waits last) w)
comes_with ends slice waits cut last w (Ok m) e f is = is ∙ ap (λ l. meeting (channels_of l cut 0) w.who w.end w.want) e ∙ ap (λ l. meeting (channels_of ends l 0) w.who w.end w.want) f
comes_with ends slice waits cut last w (Err x) e f is = tt

-- they were moved, as there was room for them
pub appended : {E : Type 0} (r : Result (Unit {0}) E) (now waits xs : List Wait) → is_ok r ≡ true → now ≡ (if is_ok r then waits ++ xs else waits) → now ≡ waits ++ xs
appended r now waits xs i e = e ∙ ap (λ b. if b then waits ++ xs else waits) i
