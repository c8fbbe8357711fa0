-- Where the end of a stream is, after streams are changed, added or gone.
use Rattle.std.proofs.Common.{◌≡◌, ℕ, Bool, true, false, not, ◌||◌, ◌==◌, List, [], ◌∷◌, ◌++◌, map, filter, find, cond, Option, Some, refl, sym, ◌∙◌, true≢false, if◌then◌else◌}
use Rattle.std.specs.List.{list_any}
use Rattle.dill_base.specs.Maps.{change}
use Rattle.dill_loop.specs.Network.{Pair, End, Place, Queued, Live, Closed, is_at, is_closed, has_end, waits_at, is_queued_at, other_end, with_own, with_other}
use Rattle.dill_loop.specs.Calls.{closed_end, is_over, linked, refused_at}
use Rattle.dill_loop.proofs.Telling.{itself, one_of, or_left, or_right, or_both, or_second, and_first, and_second}

module _ {X : Type 0} (u : X → Bool) where
  changed_cases : (f : X → X) (x : X) (b : Bool) (xs ys : List X) → (b ≡ true → u x ≡ true → u (f x) ≡ true) → (list_any u xs ≡ true → list_any u ys ≡ true) → (u x || list_any u xs) ≡ true → list_any u (cond b (f x ∷ xs) (x ∷ ys)) ≡ true
  changed_cases f x true xs ys keep rest h = or_both (u x) (list_any u xs) (u (f x)) (list_any u xs) (keep refl) (λ e. e) h
  changed_cases f x false xs ys keep rest h = or_both (u x) (list_any u xs) (u x) (list_any u ys) (λ e. e) rest h

  -- a change of the first that passes a test keeps what is asked for
  pub any_changed : (test : X → Bool) (f : X → X) → ((x : X) → test x ≡ true → u x ≡ true → u (f x) ≡ true) → (xs : List X) → list_any u xs ≡ true → list_any u (change test f xs) ≡ true
  any_changed test f keep [] h = h
  any_changed test f keep (x ∷ xs) h = changed_cases f x (test x) xs (change test f xs) (keep x) (any_changed test f keep xs) h

  first_cases : (f : X → X) (x y : X) (b : Bool) (xs ys : List X) (o : Option X) → cond b (Some x) o ≡ Some y → u (f y) ≡ true → (o ≡ Some y → list_any u ys ≡ true) → list_any u (cond b (f x ∷ xs) (x ∷ ys)) ≡ true
  first_cases f x y true xs ys o e now rest =
      let s : x ≡ y = cc in
      or_left (u (f x)) (list_any u xs) (rw s now)
  first_cases f x y false xs ys o e now rest = or_right (u x) (list_any u ys) (rest e)

  -- what the change of the first itself gives
  pub any_first : (test : X → Bool) (f : X → X) (y : X) → u (f y) ≡ true → (xs : List X) → find test xs ≡ Some y → list_any u (change test f xs) ≡ true
  any_first test f y now [] e = cc
  any_first test f y now (x ∷ xs) e = first_cases f x y (test x) xs (change test f xs) (find test xs) e now (any_first test f y now xs)

  found_cases : (x y : X) (b : Bool) (xs : List X) (o : Option X) → cond b (Some x) o ≡ Some y → u y ≡ true → (o ≡ Some y → list_any u xs ≡ true) → (u x || list_any u xs) ≡ true
  found_cases x y true xs o e now rest =
      let s : x ≡ y = cc in
      or_left (u x) (list_any u xs) (rw s now)
  found_cases x y false xs o e now rest = or_right (u x) (list_any u xs) (rest e)

  -- what is found is there
  pub any_found : (test : X → Bool) (y : X) → u y ≡ true → (xs : List X) → find test xs ≡ Some y → list_any u xs ≡ true
  any_found test y now [] e = cc
  any_found test y now (x ∷ xs) e = found_cases x y (test x) xs (find test xs) e now (any_found test y now xs)

  filter_cases : (x : X) (b : Bool) (xs ys : List X) → (u x ≡ true → b ≡ true) → (list_any u xs ≡ true → list_any u ys ≡ true) → (u x || list_any u xs) ≡ true → list_any u (cond b (x ∷ ys) ys) ≡ true
  filter_cases x true xs ys keep rest h = or_both (u x) (list_any u xs) (u x) (list_any u ys) (λ e. e) rest h
  filter_cases x false xs ys keep rest h = rest (off (u x) refl h)
    where
      off : (c : Bool) → u x ≡ c → (c || list_any u xs) ≡ true → list_any u xs ≡ true
      off true e k = absurd (true≢false (sym (keep e)))
      off false e k = k

  pub any_filter : (keep : X → Bool) → ((x : X) → u x ≡ true → keep x ≡ true) → (xs : List X) → list_any u xs ≡ true → list_any u (filter keep xs) ≡ true
  any_filter keep all [] h = h
  any_filter keep all (x ∷ xs) h = filter_cases x (keep x) xs (filter keep xs) (all x) (any_filter keep all xs) h

  pub any_map : (f : X → X) → ((x : X) → u x ≡ true → u (f x) ≡ true) → (xs : List X) → list_any u xs ≡ true → list_any u (map f xs) ≡ true
  any_map f all [] h = h
  any_map f all (x ∷ xs) h = or_both (u x) (list_any u xs) (u (f x)) (list_any u (map f xs)) (all x) (any_map f all xs) h

  pub any_more : (xs ys : List X) → list_any u xs ≡ true → list_any u (xs ++ ys) ≡ true
  any_more [] ys h = absurd (true≢false (sym h))
  any_more (x ∷ xs) ys h = or_both (u x) (list_any u xs) (u x) (list_any u (xs ++ ys)) (λ e. e) (any_more xs ys) h

-- ---- places

pub at_live : (l : ℕ) (place : Place) → place ≡ Live l → is_at l place ≡ true
at_live l place e = rw e (itself l)

-- an end that has a link isn't closed
pub open_at : (x : ℕ) (place : Place) → is_at x place ≡ true → is_closed place ≡ false
open_at x (Queued n) e = absurd (true≢false (sym e))
open_at x (Live n) e = refl
open_at x Closed e = absurd (true≢false (sym e))

-- a place at one link isn't at another
pub apart : (x link : ℕ) (place : Place) → (x == link) ≡ false → is_at link place ≡ true → is_at x place ≡ false
apart x link (Queued n) ne e = refl
apart x link (Live n) ne e = one_of n x link e ne
apart x link Closed ne e = refl

-- an end that waits has no link
pub waiting_apart : (x listener : ℕ) (place : Place) → is_queued_at listener place ≡ true → is_at x place ≡ false
waiting_apart x listener (Queued n) e = refl
waiting_apart x listener (Live n) e = absurd (true≢false (sym e))
waiting_apart x listener Closed e = absurd (true≢false (sym e))

-- ---- streams

not_over_by : (x : ℕ) (p : Pair) (b : Bool) → is_at x p.dialed.place ≡ b → (b || is_at x p.taken.place) ≡ true → not (is_over p) ≡ true
not_over_by x p true e h = and_first (is_closed p.dialed.place) (is_closed p.taken.place) (open_at x p.dialed.place e)
not_over_by x p false e h = and_second (is_closed p.dialed.place) (is_closed p.taken.place) (open_at x p.taken.place h)

-- a stream with an end at a link isn't over
pub not_over : (x : ℕ) (p : Pair) → has_end x p ≡ true → not (is_over p) ≡ true
not_over x p h = not_over_by x p (is_at x p.dialed.place) refl h

module _ (f : End → End) (stays : (e : End) → (f e).place ≡ e.place) where
  own_by : (x link : ℕ) (p : Pair) (b : Bool) → has_end x p ≡ true → has_end x (if b then record p { dialed = f p.dialed } else record p { taken = f p.taken }) ≡ true
  own_by x link p true h = rw (stays p.dialed) h
  own_by x link p false h = rw (stays p.taken) h

  pub own_stays : (x link : ℕ) (p : Pair) → has_end x p ≡ true → has_end x (with_own link f p) ≡ true
  own_stays x link p h = own_by x link p (is_at link p.dialed.place) h

  other_by : (x link : ℕ) (p : Pair) (b : Bool) → has_end x p ≡ true → has_end x (if b then record p { taken = f p.taken } else record p { dialed = f p.dialed }) ≡ true
  other_by x link p true h = rw (stays p.taken) h
  other_by x link p false h = rw (stays p.dialed) h

  pub other_stays : (x link : ℕ) (p : Pair) → has_end x p ≡ true → has_end x (with_other link f p) ≡ true
  other_stays x link p h = other_by x link p (is_at link p.dialed.place) h

there_by : (l : ℕ) (p : Pair) (b : Bool) → (if b then p.taken else p.dialed).place ≡ Live l → has_end l p ≡ true
there_by l p true e = or_right (is_at l p.dialed.place) (is_at l p.taken.place) (at_live l p.taken.place e)
there_by l p false e = or_left (is_at l p.dialed.place) (is_at l p.taken.place) (at_live l p.dialed.place e)

-- the link of the other end is there
pub other_there : (l link : ℕ) (p : Pair) → (other_end link p).place ≡ Live l → has_end l p ≡ true
other_there l link p e = there_by l p (is_at link p.dialed.place) e

left_by : (l : ℕ) (p : Pair) (b : Bool) → (if b then p.taken else p.dialed).place ≡ Live l → has_end l (if b then record p { dialed = closed_end p.dialed } else record p { taken = closed_end p.taken }) ≡ true
left_by l p true e = at_live l p.taken.place e
left_by l p false e = or_left (is_at l p.dialed.place) false (at_live l p.dialed.place e)

-- it is there when the end at this link is closed
pub other_left : (l link : ℕ) (p : Pair) → (other_end link p).place ≡ Live l → has_end l (with_own link closed_end p) ≡ true
other_left l link p e = left_by l p (is_at link p.dialed.place) e

closed_by : (x link : ℕ) (p : Pair) (b : Bool) → is_at link p.dialed.place ≡ b → (x == link) ≡ false → (b || is_at link p.taken.place) ≡ true → has_end x p ≡ true → has_end x (if b then record p { dialed = closed_end p.dialed } else record p { taken = closed_end p.taken }) ≡ true
closed_by x link p true e ne at h = or_second (is_at x p.dialed.place) (is_at x p.taken.place) (apart x link p.dialed.place ne e) h
closed_by x link p false e ne at h = or_both (is_at x p.dialed.place) (is_at x p.taken.place) (is_at x p.dialed.place) false (λ a. a) (λ a. sym (apart x link p.taken.place ne at) ∙ a) h

-- another link stays where it is
pub closed_stays : (x link : ℕ) (p : Pair) → (x == link) ≡ false → has_end link p ≡ true → has_end x p ≡ true → has_end x (with_own link closed_end p) ≡ true
closed_stays x link p ne at h = closed_by x link p (is_at link p.dialed.place) refl ne at h

-- who waits is given a link, and no other link goes
pub linked_stays : (x listener link : ℕ) (p : Pair) → waits_at listener p ≡ true → has_end x p ≡ true → has_end x (linked link p) ≡ true
linked_stays x listener link p w h = or_both (is_at x p.dialed.place) (is_at x p.taken.place) (is_at x p.dialed.place) (is_at x (Live link)) (λ a. a) (λ a. absurd (true≢false (sym a ∙ waiting_apart x listener p.taken.place w))) h

refused_by : (x listener : ℕ) (p : Pair) (b : Bool) → waits_at listener p ≡ b → has_end x p ≡ true → has_end x (if b then record p { taken = closed_end p.taken } else p) ≡ true
refused_by x listener p true w h = or_both (is_at x p.dialed.place) (is_at x p.taken.place) (is_at x p.dialed.place) false (λ a. a) (λ a. sym (waiting_apart x listener p.taken.place w) ∙ a) h
refused_by x listener p false w h = h

-- who waits at a listener is closed, and no link goes
pub refused_stays : (x listener : ℕ) (p : Pair) → has_end x p ≡ true → has_end x (refused_at listener p) ≡ true
refused_stays x listener p h = refused_by x listener p (waits_at listener p) refl h
