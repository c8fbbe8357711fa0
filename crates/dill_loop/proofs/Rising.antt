-- Marks in rising number: after one is added or some are gone, and how many there are at most.
use Rattle.std.proofs.Common.{◌≡◌, ℕ, zero, suc, ◌+◌, ◌*◌, ◌≤◌, Bool, true, false, not, ◌||◌, List, [], ◌∷◌, length, drop, filter, cond, refl, ap, sym, ◌∙◌, arith, true≢false, nat_lt, ◌==◌, if◌then◌else◌}
use Rattle.std.specs.List.{list_any}
use Rattle.dill_kernel.specs.declared.ready.Ready.{Ready}
use Rattle.dill_loop.specs.Network.{Pair, Listener, Place, Queued, Live, Closed, is_at, has_end, marked, both}
use Rattle.dill_loop.specs.Consistent.{AreRising, AreAmong}
use Rattle.dill_loop.proofs.Telling.{same, before, behind, or_second}

rising_from : (low high : ℕ) (xs : List Ready) → low ≤ high → AreRising high xs → AreRising low xs
rising_from low high [] le h = tt
rising_from low high (m ∷ ms) le h = (omega (arith, le, h.0), h.1)

rising_cases : (mark m : Ready) (ms : List Ready) (low : ℕ) (b c : Bool) → (mark.link == m.link) ≡ b → nat_lt mark.link m.link ≡ c → low ≤ mark.link → low ≤ m.link → AreRising (m.link + 1) ms → (m.link + 1 ≤ mark.link → AreRising (m.link + 1) (marked mark ms)) → AreRising low (if b then both mark m ∷ ms else if c then mark ∷ m ∷ ms else m ∷ marked mark ms)
rising_cases mark m ms low true c e f le lem h rest =
    let s : mark.link ≡ m.link = same mark.link m.link e in
    (le, rising_from (mark.link + 1) (m.link + 1) ms (omega (arith, s)) h)
rising_cases mark m ms low false true e f le lem h rest = (le, (omega (arith, before mark.link m.link f), h))
rising_cases mark m ms low false false e f le lem h rest = (lem, rest (omega (arith, behind mark.link m.link e f)))

pub rising_marked : (mark : Ready) (low : ℕ) (xs : List Ready) → low ≤ mark.link → AreRising low xs → AreRising low (marked mark xs)
rising_marked mark low [] le h = (le, tt)
rising_marked mark low (m ∷ ms) le h = rising_cases mark m ms low (mark.link == m.link) (nat_lt mark.link m.link) refl refl le h.0 h.1 (λ more. rising_marked mark (m.link + 1) ms more h.1)

among_cases : (test : ℕ → Bool) (mark m : Ready) (ms : List Ready) (b c : Bool) → test mark.link ≡ true → test m.link ≡ true → AreAmong test ms → AreAmong test (marked mark ms) → AreAmong test (if b then both mark m ∷ ms else if c then mark ∷ m ∷ ms else m ∷ marked mark ms)
among_cases test mark m ms true c t u h rest = (t, h)
among_cases test mark m ms false true t u h rest = (t, (u, h))
among_cases test mark m ms false false t u h rest = (u, rest)

pub among_marked : (test : ℕ → Bool) (mark : Ready) (xs : List Ready) → test mark.link ≡ true → AreAmong test xs → AreAmong test (marked mark xs)
among_marked test mark [] t h = (t, tt)
among_marked test mark (m ∷ ms) t h = among_cases test mark m ms (mark.link == m.link) (nat_lt mark.link m.link) t h.0 h.1 (among_marked test mark ms t h.1)

pub among_more : (test other : ℕ → Bool) → ((x : ℕ) → test x ≡ true → other x ≡ true) → (xs : List Ready) → AreAmong test xs → AreAmong other xs
among_more test other f [] h = tt
among_more test other f (m ∷ ms) h = (f m.link h.0, among_more test other f ms h.1)

rising_kept : (m : Ready) (low : ℕ) (b : Bool) (ms : List Ready) → low ≤ m.link → AreRising (m.link + 1) ms → AreRising low (cond b (m ∷ ms) ms)
rising_kept m low true ms le h = (le, h)
rising_kept m low false ms le h = rising_from low (m.link + 1) ms (omega (arith, le)) h

pub rising_filter : (keep : Ready → Bool) (low : ℕ) (xs : List Ready) → AreRising low xs → AreRising low (filter keep xs)
rising_filter keep low [] h = tt
rising_filter keep low (m ∷ ms) h = rising_kept m low (keep m) (filter keep ms) h.0 (rising_filter keep (m.link + 1) ms h.1)

among_kept : (off test other : ℕ → Bool) → ((x : ℕ) → off x ≡ false → test x ≡ true → other x ≡ true) → (m : Ready) (ms : List Ready) (b : Bool) → off m.link ≡ b → test m.link ≡ true → AreAmong other ms → AreAmong other (cond (not b) (m ∷ ms) ms)
among_kept off test other f m ms true e t h = h
among_kept off test other f m ms false e t h = (f m.link e t, h)

pub among_filter : (off test other : ℕ → Bool) → ((x : ℕ) → off x ≡ false → test x ≡ true → other x ≡ true) → (xs : List Ready) → AreAmong test xs → AreAmong other (filter (λ m. not (off m.link)) xs)
among_filter off test other f [] h = tt
among_filter off test other f (m ∷ ms) h = among_kept off test other f m (filter (λ m'. not (off m'.link)) ms) (off m.link) refl h.0 (among_filter off test other f ms h.1)

pub rising_drop : (k low : ℕ) (xs : List Ready) → AreRising low xs → AreRising low (drop k xs)
rising_drop zero low xs h = h
rising_drop (suc k) low [] h = tt
rising_drop (suc k) low (m ∷ ms) h = rising_from low (m.link + 1) (drop k ms) (omega (arith, h.0)) (rising_drop k (m.link + 1) ms h.1)

pub among_drop : (test : ℕ → Bool) (k : ℕ) (xs : List Ready) → AreAmong test xs → AreAmong test (drop k xs)
among_drop test zero xs h = h
among_drop test (suc k) [] h = tt
among_drop test (suc k) (m ∷ ms) h = among_drop test k ms h.1

-- ---- how many there are

module _ (off : ℕ → Bool) (one : (a b : ℕ) → off a ≡ true → off b ≡ true → a ≡ b) where
  off_by : (a x : ℕ) (b : Bool) → off x ≡ b → off a ≡ true → a + 1 ≤ x → b ≡ false
  off_by a x true e h le =
      let s : a ≡ x = one a x h e in
      absurd (omega (arith, s, le))
  off_by a x false e h le = refl

  all_kept : (low : ℕ) (xs : List Ready) → AreRising low xs → ((x : ℕ) → low ≤ x → off x ≡ false) → filter (λ m. not (off m.link)) xs ≡ xs
  all_kept low [] h none = refl
  all_kept low (m ∷ ms) h none =
      let rest = all_kept (m.link + 1) ms h.1 (λ x le. none x (omega (arith, le, h.0))) in
      rw (none m.link h.0) (ap (λ ys. m ∷ ys) rest)

  less_cases : (m : Ready) (ms : List Ready) (b : Bool) → off m.link ≡ b → AreRising (m.link + 1) ms → length ms ≤ length (filter (λ m'. not (off m'.link)) ms) + 1 → length (m ∷ ms) ≤ length (cond (not b) (m ∷ filter (λ m'. not (off m'.link)) ms) (filter (λ m'. not (off m'.link)) ms)) + 1
  less_cases m ms true e h rest =
      let kept = all_kept (m.link + 1) ms h (λ x le. off_by m.link x (off x) refl e le) in
      rw kept (omega arith)
  less_cases m ms false e h rest = omega (arith, rest)

  -- at most one mark is gone
  pub one_less : (low : ℕ) (xs : List Ready) → AreRising low xs → length xs ≤ length (filter (λ m. not (off m.link)) xs) + 1
  one_less low [] h = omega arith
  one_less low (m ∷ ms) h = less_cases m ms (off m.link) refl h.1 (one_less (m.link + 1) ms h.1)

one_place : (p : Place) (a b : ℕ) → is_at a p ≡ true → is_at b p ≡ true → a ≡ b
one_place (Queued n) a b e f = absurd (true≢false (sym e))
one_place (Live n) a b e f = sym (same n a e) ∙ same n b f
one_place Closed a b e f = absurd (true≢false (sym e))

pub most_pairs : (ps : List Pair) (xs : List Ready) → AreRising 0 xs → AreAmong (λ x. list_any (has_end x) ps) xs → length xs ≤ 2 * length ps
most_pairs [] [] h a = omega arith
most_pairs [] (m ∷ ms) h a = absurd (true≢false (sym a.0))
most_pairs (p ∷ ps) xs h a =
    let ys = filter (λ m. not (is_at m.link p.dialed.place)) xs in
    let zs = filter (λ m. not (is_at m.link p.taken.place)) ys in
    let hy = rising_filter (λ m. not (is_at m.link p.dialed.place)) 0 xs h in
    let hz = rising_filter (λ m. not (is_at m.link p.taken.place)) 0 ys hy in
    let ay = among_filter (λ x. is_at x p.dialed.place) (λ x. list_any (has_end x) (p ∷ ps)) (λ x. is_at x p.taken.place || list_any (has_end x) ps) (λ x e t. taken_left (is_at x p.dialed.place) (is_at x p.taken.place) (list_any (has_end x) ps) e t) xs a in
    let az = among_filter (λ x. is_at x p.taken.place) (λ x. is_at x p.taken.place || list_any (has_end x) ps) (λ x. list_any (has_end x) ps) (λ x e t. or_second (is_at x p.taken.place) (list_any (has_end x) ps) e t) ys ay in
    let less1 = one_less (λ x. is_at x p.dialed.place) (one_place p.dialed.place) 0 xs h in
    let less2 = one_less (λ x. is_at x p.taken.place) (one_place p.taken.place) 0 ys hy in
    let rest = most_pairs ps zs hz az in
    omega (arith, less1, less2, rest)
  where
    taken_left : (a b c : Bool) → a ≡ false → ((a || b) || c) ≡ true → (b || c) ≡ true
    taken_left true b c e t = absurd (true≢false e)
    taken_left false b c e t = t

pub most_marks : (ls : List Listener) (ps : List Pair) (xs : List Ready) → AreRising 0 xs → AreAmong (λ x. list_any (λ l. l.link == x) ls || list_any (has_end x) ps) xs → length xs ≤ length ls + 2 * length ps
most_marks [] ps xs h a = omega (arith, most_pairs ps xs h a)
most_marks (l ∷ ls) ps xs h a =
    let ys = filter (λ m. not (l.link == m.link)) xs in
    let hy = rising_filter (λ m. not (l.link == m.link)) 0 xs h in
    let ay = among_filter (λ x. l.link == x) (λ x. list_any (λ k. k.link == x) (l ∷ ls) || list_any (has_end x) ps) (λ x. list_any (λ k. k.link == x) ls || list_any (has_end x) ps) (λ x e t. others (l.link == x) (list_any (λ k. k.link == x) ls) (list_any (has_end x) ps) e t) xs a in
    let less = one_less (λ x. l.link == x) (λ x y e f. sym (same l.link x e) ∙ same l.link y f) 0 xs h in
    let rest = most_marks ls ps ys hy ay in
    omega (arith, less, rest)
  where
    others : (a b c : Bool) → a ≡ false → ((a || b) || c) ≡ true → (b || c) ≡ true
    others true b c e t = absurd (true≢false e)
    others false b c e t = t
