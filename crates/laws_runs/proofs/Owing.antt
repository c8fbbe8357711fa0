-- What is owed of a core is the debt of the root in the state that it stands for.
use Rattle.std.proofs.Common.{◌≡◌, ◌∙◌, ◌+◌, ◌≤◌, ◌<◌, ◌==◌, ℕ, List, [], ◌∷◌, ◌++◌, map, filter, find, Bool, true, false, not, ◌&&◌, ◌||◌, cond, Option, Some, None, if◌then◌else◌, is_some, nat_lt, refl, sym, ap, subst, arith}
use Rattle.std.proofs.lemmas.Bool.Decides.{nat_tests}
use Rattle.std.proofs.lemmas.List.Folds.{find-append}
use Rattle.std.proofs.Math.Seq.{take-append_seam}
use Rattle.std.specs.List.{AllByRecursion, list_any}
use Rattle.std.specs.List.Sorted.{IsStrictlyIncreasing}
use Rattle.std.specs.Option.{option_or, option_map}
use Rattle.dill_calls.specs.Program.{Program}
use Rattle.dill_scope.specs.declared.forest.Bundle.{Bundle}
use Rattle.dill_scope.specs.Scopes as scopes
use Rattle.dill_scope.specs.Scopes.{is_bundle, is_inside}
use Rattle.dill_scope.proofs.Chains.{search_is_inside}
use Rattle.dill_base.specs.Maps.{if_some}
use Rattle.dill_rules.specs.declared.coroutine.Coroutine.{Coroutine}
use Rattle.dill_rules.specs.Debts as debts
use Rattle.dill_rules.specs.Settling.{settle}
use Rattle.dill_rules.specs.State.{State, Stamp, fresh, is_stamp_of, shut, stamp_of, stamped}
use Rattle.dill_rules.specs.World.{World, begin, from_start, is_ending}
use Rattle.laws_sound.specs.LinklessLaws.{FollowsLinkless}
use Rattle.laws_queue.specs.Kept.{Kept, kept_shut}
use Rattle.laws_queue.specs.Stands.{Rise, StandsFor}
use Rattle.laws_sound.specs.Order.{FitsTogether}
use Rattle.laws_sound.proofs.Sound.{there_inside}
use Rattle.laws_debt.specs.Closing.{IsStable}
use Rattle.laws_debt.specs.Laws.{EndsClosing}
use Rattle.laws_debt.specs.Owed.{is_early, owed, owed_by, share_by}
use Rattle.laws_queue.proofs.Lists.{number_of}
use Rattle.laws_sound.proofs.Counting.{is_total, total_same}
use Rattle.laws_debt.proofs.Tracking.{all_by_key}
use Rattle.laws_runs.proofs.Unshut.{IsUnshut, IsUnstamped}

-- ---- everybody is inside the root

all_kept : {X : Type 0} (test : X → Bool) (xs : List X) → AllByRecursion (λ x. test x ≡ true) xs → filter test xs ≡ xs
all_kept test [] a = refl
all_kept test (x ∷ xs) a = ap (λ b. cond b (x ∷ filter test xs) (filter test xs)) a.0 ∙ ap (λ ys. x ∷ ys) (all_kept test xs a.1)

module _ {V : Type 0} where
  all_inside : (w : World V) → FitsTogether w → (cs : List (Coroutine V)) → AllByRecursion (λ c. find (λ d. d.number == c.number) w.coroutines ≡ Some c) cs → AllByRecursion (λ c. is_inside w.scopes 0 c.number ≡ true) cs
  all_inside w fits [] a = tt
  all_inside w fits (c ∷ cs) a = ((search_is_inside w.scopes 0 c.number fits.forest.forest).1 (there_inside w c.number fits (ap is_some a.0)), all_inside w fits cs a.1)

  everybody : (w : World V) → FitsTogether w → filter (λ c. is_inside w.scopes 0 c.number) w.coroutines ≡ w.coroutines
  everybody w fits =
      let rise : IsStrictlyIncreasing (map (λ (c : Coroutine V). c.number) w.coroutines) = subst IsStrictlyIncreasing fits.crew fits.forest.ordered.homes in
      all_kept (λ c. is_inside w.scopes 0 c.number) w.coroutines (all_inside w fits w.coroutines (all_by_key (λ (c : Coroutine V). c.number) w.coroutines rise))

-- ---- the stamps

-- an answer of a new stamp came behind
late_stamp : (next at : ℕ) → next < at → nat_lt at next ≡ false
late_stamp next at h = grind (arith, nat_tests)

early_stamp : (at next : ℕ) → at < next → nat_lt at next ≡ true
early_stamp at next h = grind (arith, nat_tests)

abbrev came_before : ℕ → Option Stamp → Bool
came_before next o = if_some (option_map (λ x. x.at) o) false (λ at. nat_lt at next)

new_late : (next t who : ℕ) (ns : List ℕ) → next < t → came_before next (find (is_stamp_of who) (stamped t ns)) ≡ false
new_late next t who [] h = refl
new_late next t who (n ∷ ns) h = at (n == who) (new_late next (t + 1) who ns (omega (arith, h)))
  where
    at : (b : Bool) → came_before next (find (is_stamp_of who) (stamped (t + 1) ns)) ≡ false → came_before next (cond b (Some (record { of = n; at = t })) (find (is_stamp_of who) (stamped (t + 1) ns))) ≡ false
    at true r = late_stamp next t h
    at false r = r

rise_ends : (low : ℕ) (xs : List Stamp) (next : ℕ) → Rise low xs next → low ≤ next
rise_ends low [] next h = h
rise_ends low (x ∷ xs) next h = let r = rise_ends (x.at + 1) xs next h.1 in omega (arith, h.0, r)

old_early : (low next who : ℕ) (xs : List Stamp) (ns : List ℕ) → Rise low xs next → came_before next (find (is_stamp_of who) (xs ++ stamped (next + 1) ns)) ≡ list_any (λ n. n == who) (map (λ x. x.of) xs)
old_early low next who [] ns h = new_late next (next + 1) who ns (omega arith)
old_early low next who (x ∷ xs) ns h = at (x.of == who) (old_early (x.at + 1) next who xs ns h.1)
  where
    at : (b : Bool) → came_before next (find (is_stamp_of who) (xs ++ stamped (next + 1) ns)) ≡ list_any (λ n. n == who) (map (λ y. y.of) xs)
        → came_before next (cond b (Some x) (find (is_stamp_of who) (xs ++ stamped (next + 1) ns))) ≡ (b || list_any (λ n. n == who) (map (λ y. y.of) xs))
    at true r = early_stamp x.at next (let e = rise_ends (x.at + 1) xs next h.1 in omega (arith, e))
    at false r = r

-- the root has its stamp once it is closed
unknown : (known : List Stamp) → IsUnstamped known → list_any (is_stamp_of 0) known ≡ false
unknown [] e = refl
unknown (x ∷ xs) e = at (is_stamp_of 0 x) e (unknown xs)
  where
    at : (b : Bool) → cond b (Some x) (find (is_stamp_of 0) xs) ≡ None → (IsUnstamped xs → list_any (is_stamp_of 0) xs ≡ false) → (b || list_any (is_stamp_of 0) xs) ≡ false
    at true f rest = cc
    at false f rest = rest f

abbrev new_stamps : ℕ → List Bundle → List Stamp
new_stamps next xs = map (λ name. record { of = name; at = next }) (map (λ x. x.name) xs)

root_stamped : (next : ℕ) (known : List Stamp) (xs : List Bundle) → IsUnstamped known → if_some (find (is_bundle 0) xs) false (λ x. x.closing) ≡ true
    → stamp_of (new_stamps next (filter (λ x. x.closing && not (list_any (is_stamp_of x.name) known)) xs)) 0 ≡ Some next
root_stamped next known [] none e = cc
root_stamped next known (x ∷ xs) none e = at (x.name == 0) refl e (root_stamped next known xs none)
  where
    rest : List Bundle
    rest = filter (λ y. y.closing && not (list_any (is_stamp_of y.name) known)) xs

    picked : (x.name == 0) ≡ true → x.closing ≡ true → (x.closing && not (list_any (is_stamp_of x.name) known)) ≡ true
    picked f g = ap (λ n. x.closing && not (list_any (is_stamp_of n) known)) (number_of x.name 0 f) ∙ ap (λ b. x.closing && not b) (unknown known none) ∙ ap (λ b. b && true) g

    skipped : (b : Bool) → (x.name == 0) ≡ false → stamp_of (new_stamps next rest) 0 ≡ Some next → stamp_of (new_stamps next (cond b (x ∷ rest) rest)) 0 ≡ Some next
    skipped true f r = ap (λ b. option_map (λ y. y.at) (cond b (Some (record { of = x.name; at = next })) (find (is_stamp_of 0) (new_stamps next rest)))) f ∙ r
    skipped false f r = r

    at : (b : Bool) → (x.name == 0) ≡ b → if_some (cond b (Some x) (find (is_bundle 0) xs)) false (λ y. y.closing) ≡ true
        → (if_some (find (is_bundle 0) xs) false (λ y. y.closing) ≡ true → stamp_of (new_stamps next rest) 0 ≡ Some next)
        → stamp_of (new_stamps next (cond (x.closing && not (list_any (is_stamp_of x.name) known)) (x ∷ rest) rest)) 0 ≡ Some next
    at true f g r =
        ap (λ b. stamp_of (new_stamps next (cond b (x ∷ rest) rest)) 0) (picked f g)
        ∙ ap (λ b. option_map (λ (y : Stamp). y.at) (cond b (Some (record { of = x.name; at = next })) (find (is_stamp_of 0) (new_stamps next rest)))) f
    at false f g r = skipped (x.closing && not (list_any (is_stamp_of x.name) known)) f (r g)

-- ---- what is owed

module _ {V : Type 0} (p : Program V) (follows : FollowsLinkless p) (ends : EndsClosing p) where
  abbrev debt_by : (ℕ → Bool) → World V → ℕ
  debt_by early w = owed_by p early (filter (λ c. is_inside w.scopes 0 c.number) w.coroutines)

  shares_same : (f g : ℕ → Bool) → ((who : ℕ) → f who ≡ g who) → (cs : List (Coroutine V)) → owed_by p f cs ≡ owed_by p g cs
  shares_same f g h cs =
      is_total (share_by p f) cs
      ∙ total_same (share_by p f) (share_by p g) cs (λ c. ap (λ b. if is_ending c.mode then 0 else (if b then 1 + p.most c.body else p.left c.body)) (h c.number))
      ∙ sym (is_total (share_by p g) cs)

  -- the world in which the root is closed
  abbrev closed_world : State V → World V
  closed_world s = settle (record (from_start (begin s.world)) { scopes = scopes.close s.world.scopes 0 })

  root_stamp : (k : Kept V) (s : State V) → IsStable p k → StandsFor k s → IsUnshut s → stamp_of (shut s).closings 0 ≡ Some s.next
  root_stamp k s stable stands h =
      let w = closed_world s in
      let new = new_stamps s.next (filter (λ x. x.closing && not (list_any (is_stamp_of x.name) s.closings)) w.scopes.bundles) in
      let closing = subst (λ (v : World V). if_some (find (is_bundle 0) v.scopes.bundles) false (λ x. x.closing) ≡ true) (follows.shut k s stable.linkless stands).world (ends.shut k stable).closing in
      ap (option_map (λ (x : Stamp). x.at)) (find-append (is_stamp_of 0) s.closings new ∙ ap (λ o. option_or o (find (is_stamp_of 0) new)) h.none)
      ∙ root_stamped s.next s.closings w.scopes.bundles h.none closing

  -- who is early by the stamps is early by the queue
  early_same : (k : Kept V) (s : State V) → IsStable p k → StandsFor k s → IsUnshut s → (who : ℕ) → debts.is_early (shut s) 0 who ≡ is_early (kept_shut k) who
  early_same k s stable stands h who =
      let w = closed_world s in
      let answered = stamp_of (shut s).answers who in
      ap (λ o. if_some o false (λ closed. if_some answered false (λ at. nat_lt at closed))) (root_stamp k s stable stands h)
      ∙ old_early 0 s.next who s.answers (fresh w) stands.rise
      ∙ ap (list_any (λ n. n == who)) (sym stands.order)
      ∙ ap (list_any (λ n. n == who)) (sym (take-append_seam k.ready (fresh (settle (record (from_start (begin k.world)) { scopes = scopes.close k.world.scopes 0 })))))

  -- what is owed is the debt
  pub owed_is_debt : (k : Kept V) (s : State V) → IsStable p k → StandsFor k s → IsUnshut s → owed p (kept_shut k) ≡ debts.debt p (shut s) 0
  owed_is_debt k s stable stands h =
      let now = kept_shut k in
      let order = (ends.shut k stable).stable.order.order in
      let same : debt_by (is_early now) (shut s).world ≡ debts.debt p (shut s) 0 = sym (shares_same (debts.is_early (shut s) 0) (is_early now) (early_same k s stable stands h) (filter (λ c. is_inside (shut s).world.scopes 0 c.number) (shut s).world.coroutines)) in
      ap (owed_by p (is_early now)) (sym (everybody now.world order.fits))
      ∙ ap (debt_by (is_early now)) (follows.shut k s stable.linkless stands).world
      ∙ same
