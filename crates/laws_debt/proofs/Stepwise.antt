-- A step of a state: closings have their stamps behind it, and what is given to who is inside one lowers.
use Rattle.std.proofs.Common.{◌≡◌, ◌∙◌, ◌+◌, ◌≤◌, ◌<◌, ◌==◌, ℕ, List, [], ◌∷◌, ◌++◌, length, map, filter, find, Bool, true, false, cond, Option, Some, None, option_map, is_some, if◌then◌else◌, nat_lt, refl, sym, ap, subst, arith}
use Rattle.std.specs.List.{AllByRecursion, list_any}
use Rattle.std.proofs.lemmas.Bool.Decides.{nat_tests}
use Rattle.dill_calls.specs.Program.{Program, IsLawful, Lowers}
use Rattle.dill_scope.specs.declared.forest.Bundle.{Bundle}
use Rattle.dill_scope.specs.Scopes.{Scopes, is_bundle, is_inside}
use Rattle.dill_scope.specs.Keeping.{IsThere}
use Rattle.dill_base.specs.Maps.{if_some}
use Rattle.dill_rules.specs.declared.coroutine.Coroutine.{Coroutine}
use Rattle.dill_rules.specs.declared.coroutine.Mode.{Mode}
use Rattle.dill_rules.specs.declared.coroutine.Mode.TheVariants as modes
use Rattle.dill_rules.specs.Debts.{is_early, debt}
use Rattle.dill_rules.specs.State.{State, Stamp, is_stamp_of, stamp_of, stamped, lined_mode, lined, fresh, line_up}
use Rattle.dill_rules.specs.World.{World, is_coroutine, is_ending, is_answered}
use Rattle.laws_sound.proofs.Sound.{closing_found}
use Rattle.laws_sound.specs.Linkless.{MakesLinkless}
use Rattle.laws_queue.specs.Kept.{Kept, queued}
use Rattle.laws_queue.specs.Lending.{wordless}
use Rattle.laws_queue.specs.Stands.{StandsFor}
use Rattle.laws_sound.specs.Laws.{is_closing}
use Rattle.laws_sound.specs.Order.{is_there, IsInOrder}
use Rattle.laws_sound.proofs.Fitting.{there_is}
use Rattle.laws_debt.specs.Closing.{IsStable}
use Rattle.laws_debt.specs.Flags.{Ranked, HasFlags}
use Rattle.laws_debt.specs.Owed.{share_by}
use Rattle.laws_debt.specs.Says.{LowersIn, IsLowering}
use Rattle.laws_debt.specs.Steady.{HasStamps, LowersInside, IsEven}
use Rattle.laws_debt.proofs.Bounded.{each_found}
use Rattle.laws_debt.proofs.Falling.{share_in, LowersAt, Falls, ranked_bound}
use Rattle.laws_debt.proofs.Flagging.{both_all}
use Rattle.laws_sound.proofs.Leaving.{lined_ends}
use Rattle.laws_debt.proofs.Lining.{lowers_lined}
use Rattle.laws_queue.proofs.Lists.{all_found, all_append, all_to, found_passes, number_of, some_same}
use Rattle.laws_debt.proofs.Shutting.{AllHold, Lasts}
use Rattle.laws_debt.proofs.Stamping.{stamped_from, find_behind, is_less, came, came_before, queued_stamp, unqueued, new_closings, closing_stamped, open_unstamped, stamps_low}
use Rattle.laws_debt.proofs.Tracking.{all_by_key}
use Rattle.laws_debt.proofs.Walking.{unlike}
use Rattle.laws_queue.proofs.Numbers.{find_append}
use Rattle.laws_sound.specs.Orderly.{weigh}
use Rattle.laws_sound.proofs.Counting.{weigh_alike, is_total}

-- an answer that was given in this step lowers
abbrev pub LowersFresh : Mode → Type 0
LowersFresh (modes.Fresh word answer) = Lowers word answer
LowersFresh _ = Unit {0}

-- a bundle that is closing stays so, and one that isn't has no stamp of a closing yet
abbrev pub StampOk : Scopes → List Stamp → Bundle → Type 0
StampOk s closings y = (is_closing s y.name ≡ true → y.closing ≡ true) × (is_closing s y.name ≡ false → find (is_stamp_of y.name) closings ≡ None)

higher : (a b : ℕ) → a ≤ b → (a == b + 1) ≡ false
higher a b h = other a b h
  where
    other : (a b : ℕ) → a ≤ b → (a == b + 1) ≡ false
    other a b h = grind (arith, nat_tests)

no_stamp : (n m next : ℕ) (xs : List Stamp) → m ≤ n → AllByRecursion {X = Stamp} (λ x. (x.of ≤ m) × (x.at < next)) xs → find (is_stamp_of (n + 1)) xs ≡ None
no_stamp n m next [] l a = refl
no_stamp n m next (x ∷ xs) l a =
    let low = a.0.0 in
    rw (higher x.of n (omega (arith, l, low))) (no_stamp n m next xs l a.1)

none_of : {X : Type 0} (o : Option X) → is_some o ≡ false → o ≡ None
none_of None e = refl
none_of (Some x) e = cc

mapped_some : {X Y : Type 0} (f : X → Y) (o : Option X) → is_some (option_map f o) ≡ is_some o
mapped_some f None = refl
mapped_some f (Some x) = refl

some_stamp : (o : Option Stamp) → is_some o ≡ true → (x : Stamp) × (o ≡ Some x)
some_stamp None e = cc
some_stamp (Some x) e = (x, refl)

module _ {V : Type 0} where
  -- a bundle that is there is closing where it is found to be
  closing_is : (w : World V) (y : Bundle) → find (is_bundle y.name) w.scopes.bundles ≡ Some y → is_closing w.scopes y.name ≡ y.closing
  closing_is w y e = ap (λ o. if_some o false (λ (x : Bundle). x.closing)) e

  pub stamp_lasts : (w : World V) (closings : List Stamp) (next : ℕ) → HasFlags w → AllByRecursion {X = Stamp} (λ x. (x.of ≤ w.last_bundle) × (x.at < next)) closings → Lasts (StampOk w.scopes closings) w.last_bundle
  stamp_lasts w closings next f a = record {
    owned = λ x owner h. h;
    closed = λ x h. ((λ e. refl), h.1);
    made = λ last owner l. (
      (λ e.
          let x = closing_found w.scopes (last + 1) e in
          let name = number_of x.0.name (last + 1) (found_passes (is_bundle (last + 1)) w.scopes.bundles x.0 x.1) in
          let bound = ranked_bound w.scopes.bundles 0 w.last_bundle (last + 1) x.0 f.ranked x.1 in
          absurd (omega (arith, l, name, bound))),
      (λ e. no_stamp last w.last_bundle next closings l a),
    );
  }

  pub stamps_self : (w : World V) (closings : List Stamp) → IsInOrder w → AllByRecursion (λ y. is_some (stamp_of closings y.name) ≡ y.closing) w.scopes.bundles → AllByRecursion (StampOk w.scopes closings) w.scopes.bundles
  stamps_self w closings o a =
      both_all (λ y. find (is_bundle y.name) w.scopes.bundles ≡ Some y) (λ y. is_some (stamp_of closings y.name) ≡ y.closing) (StampOk w.scopes closings) w.scopes.bundles
      (λ y e s. ((λ c. sym (closing_is w y e) ∙ c), (λ c. none_of (find (is_stamp_of y.name) closings) (sym (mapped_some (λ (x : Stamp). x.at) (find (is_stamp_of y.name) closings)) ∙ s ∙ sym (closing_is w y e) ∙ c))))
      (all_by_key (λ (y : Bundle). y.name) w.scopes.bundles o.fits.forest.ordered.bundles) a

  -- a bundle that is closing has a stamp
  has_stamp : (w : World V) (closings : List Stamp) (b : ℕ) → AllByRecursion (λ y. is_some (stamp_of closings y.name) ≡ y.closing) w.scopes.bundles → is_closing w.scopes b ≡ true → (x : Stamp) × (find (is_stamp_of b) closings ≡ Some x)
  has_stamp w closings b a c =
      let y = closing_found w.scopes b c in
      let name = number_of y.0.name b (found_passes (is_bundle b) w.scopes.bundles y.0 y.1) in
      let has = all_found (λ (z : Bundle). is_some (stamp_of closings z.name) ≡ z.closing) (is_bundle b) y.0 w.scopes.bundles y.1 a in
      let some : is_some (find (is_stamp_of y.0.name) closings) ≡ true = sym (mapped_some (λ (x : Stamp). x.at) (find (is_stamp_of y.0.name) closings)) ∙ has ∙ y.2 in
      some_stamp (find (is_stamp_of b) closings) (subst (λ n. is_some (find (is_stamp_of n) closings) ≡ true) name some)

  -- who is there lives somewhere
  pub all_there : (w : World V) → IsInOrder w → AllByRecursion (λ c. IsThere w.scopes c.number) w.coroutines
  all_there w o =
      all_to (λ c. find (is_coroutine c.number) w.coroutines ≡ Some c) (λ c. IsThere w.scopes c.number) w.coroutines (λ c e. there_is w c.number o.fits (ap (λ (q : Option (Coroutine V)). is_some q) e))
      (each_found w.coroutines 0 w.last_coroutine o.fits.numbered)

total_filter : {X : Type 0} (f : X → ℕ) (test : X → Bool) (xs : List X) → weigh f (filter test xs) ≡ weigh (λ x. if test x then f x else 0) xs
total_filter f test [] = refl
total_filter f test (x ∷ xs) = at (test x) (total_filter f test xs)
  where
    at : (b : Bool) → weigh f (filter test xs) ≡ weigh (λ y. if test y then f y else 0) xs → weigh f (cond b (x ∷ filter test xs) (filter test xs)) ≡ (if b then f x else 0) + weigh (λ y. if test y then f y else 0) xs
    at true r = ap (λ n. f x + n) r
    at false r = omega (arith, r)

pub total_all : {X : Type 0} (f g : X → ℕ) (xs : List X) → AllByRecursion (λ x. f x ≡ g x) xs → weigh f xs ≡ weigh g xs
total_all f g [] a = refl
total_all f g (x ∷ xs) a = let one = a.0 in let r = total_all f g xs a.1 in omega (arith, one, r)

all_unmap : {X : Type 0} (P : X → Type 0) (f : X → X) (xs : List X) → AllByRecursion P (map f xs) → AllByRecursion (λ x. P (f x)) xs
all_unmap P f [] a = tt
all_unmap P f (x ∷ xs) a = (a.0, all_unmap P f xs a.1)

all_remap : {X : Type 0} (P : X → Type 0) (f : X → X) (xs : List X) → AllByRecursion (λ x. P (f x)) xs → AllByRecursion P (map f xs)
all_remap P f [] a = tt
all_remap P f (x ∷ xs) a = (a.0, all_remap P f xs a.1)

-- where it was answered in this step, or has no early answer
fresh_lowers : (mode : Mode) (b : Bool) → LowersFresh mode → (is_answered mode ≡ true → b ≡ true) → b ≡ false → LowersIn (lined_mode mode)
fresh_lowers (modes.Pending call) b l h e = tt
fresh_lowers modes.Running b l h e = tt
fresh_lowers (modes.Fresh word answer) b l h e = l
fresh_lowers (modes.Answered word answer) b l h e = unlike b e (h refl)
fresh_lowers (modes.Ending outcome) b l h e = tt

module _ {V : Type 0} (p : Program V) where
  -- the debt, as a sum over all
  pub debt_total : (w : World V) (s : State V) (b : ℕ) → w ≡ wordless s.world → debt p s b ≡ weigh (share_in p (is_inside w.scopes b) (is_early s b)) w.coroutines
  debt_total w s b e =
      is_total (share_by p (is_early s b)) (filter (λ c. is_inside s.world.scopes b c.number) s.world.coroutines)
      ∙ total_filter (share_by p (is_early s b)) (λ c. is_inside s.world.scopes b c.number) s.world.coroutines
      ∙ ap (λ (u : World V). weigh (share_in p (is_inside u.scopes b) (is_early s b)) u.coroutines) (sym e)

module _ {V : Type 0} (p : Program V) (law : IsLawful p) (unlinked : MakesLinkless p) where
  -- who was early and isn't gone
  abbrev pub less_early : State V → ℕ → (ℕ → Bool) → ℕ → Bool
  less_early s b gone n = if gone n then false else is_early s b n

  -- a step from a world to another, in which some answers were taken
  pub record Stepped (k : Kept V) (s : State V) (v : World V) (gone : ℕ → Bool) (answers : List Stamp) : Type 0 where
    pub holds : AllHold (StampOk k.world.scopes s.closings) k.world.last_bundle v
    pub falls : (b : ℕ) → is_closing k.world.scopes b ≡ true → Falls p law unlinked k.world b (is_early s b) (less_early s b gone) v
    pub begun : (b : ℕ) → is_closing k.world.scopes b ≡ false → is_closing v.scopes b ≡ true → AllByRecursion (λ c. is_inside v.scopes b c.number ≡ true → LowersFresh c.mode) v.coroutines
    pub answered : AllByRecursion (λ c. is_answered c.mode ≡ true → (gone c.number ≡ false) × (list_any (λ m. m == c.number) k.ready ≡ true)) v.coroutines
    pub left : (n : ℕ) → gone n ≡ false → find (is_stamp_of n) answers ≡ find (is_stamp_of n) s.answers
    pub lost : (n : ℕ) → gone n ≡ true → find (is_stamp_of n) answers ≡ None

  module _ (k : Kept V) (s : State V) (stable : IsStable p k) (stands : StandsFor k s) (stamps : HasStamps s) (v : World V) (gone : ℕ → Bool) (answers : List Stamp) (step : Stepped k s v gone answers) (ready : List ℕ) (early : ℕ) (after : IsStable p (queued v ready early)) (u : World V) (stands_after : StandsFor (queued v ready early) (line_up u answers s.closings s.next)) where
    -- the state after the step
    abbrev pub next_state : State V
    next_state = line_up u answers s.closings s.next

    same_scopes : v.scopes ≡ u.scopes
    same_scopes = ap (λ (w : World V). w.scopes) stands_after.world

    same_last : v.last_bundle ≡ u.last_bundle
    same_last = ap (λ (w : World V). w.last_bundle) stands_after.world

    low_before : AllByRecursion {X = Stamp} (λ x. (x.of ≤ k.world.last_bundle) × (x.at < s.next)) s.closings
    low_before = subst (λ (w : World V). AllByRecursion {X = Stamp} (λ x. (x.of ≤ w.last_bundle) × (x.at < s.next)) s.closings) (sym stands.world) stamps.low

    each_before : AllByRecursion (λ y. is_some (stamp_of s.closings y.name) ≡ y.closing) k.world.scopes.bundles
    each_before = subst (λ (w : World V). AllByRecursion (λ y. is_some (stamp_of s.closings y.name) ≡ y.closing) w.scopes.bundles) (sym stands.world) stamps.each

    -- the stamp of a bundle that was closing
    old_stamp : (b : ℕ) → is_closing k.world.scopes b ≡ true → (x : Stamp) × (find (is_stamp_of b) s.closings ≡ Some x) × (x.at < s.next)
    old_stamp b c =
        let x = has_stamp k.world s.closings b each_before c in
        (x.0, x.1, (all_found (λ (z : Stamp). (z.of ≤ k.world.last_bundle) × (z.at < s.next)) (is_stamp_of b) x.0 s.closings x.1 low_before).1)

    late_stamps : (t : ℕ) → t ≤ s.next → AllByRecursion {X = Stamp} (λ x. t ≤ x.at) (stamped (s.next + 1) (fresh u))
    late_stamps t l = stamped_from t (s.next + 1) (fresh u) (omega (arith, l))

    came_now : (n t : ℕ) → t ≤ s.next → (g : Bool) → gone n ≡ g → came (answers ++ stamped (s.next + 1) (fresh u)) n t ≡ (if g then false else came s.answers n t)
    came_now n t l true g = came_before n t answers (stamped (s.next + 1) (fresh u)) (late_stamps t l) ∙ ap (λ o. if_some (option_map (λ (x : Stamp). x.at) o) false (λ a. nat_lt a t)) (step.lost n g)
    came_now n t l false g = came_before n t answers (stamped (s.next + 1) (fresh u)) (late_stamps t l) ∙ ap (λ o. if_some (option_map (λ (x : Stamp). x.at) o) false (λ a. nat_lt a t)) (step.left n g)

    less_is : (n t b : ℕ) (x : Stamp) → find (is_stamp_of b) s.closings ≡ Some x → x.at ≡ t → (g : Bool) → gone n ≡ g → less_early s b gone n ≡ (if g then false else came s.answers n t)
    less_is n t b x e f true g = ap (λ c. if c then false else is_early s b n) g
    less_is n t b x e f false g =
        ap (λ c. if c then false else is_early s b n) g
        ∙ ap (λ o. if_some (option_map (λ (z : Stamp). z.at) o) false (λ closed. came s.answers n closed)) e
        ∙ ap (λ c. came s.answers n c) f

    -- of a bundle that was closing the same are early, but for who is gone
    early_kept : (b : ℕ) → is_closing k.world.scopes b ≡ true → (n : ℕ) → is_early next_state b n ≡ less_early s b gone n
    early_kept b c n =
        let x = old_stamp b c in
        let bound = x.2 in
        let there = find_append (is_stamp_of b) s.closings (new_closings u.scopes.bundles s.closings s.next) x.0 x.1 in
        ap (λ o. if_some (option_map (λ (z : Stamp). z.at) o) false (λ closed. came (answers ++ stamped (s.next + 1) (fresh u)) n closed)) there
        ∙ came_now n x.0.at (omega (arith, bound)) (gone n) refl
        ∙ sym (less_is n x.0.at b x.0 x.1 refl (gone n) refl)

    bundle_found : AllByRecursion (λ y. find (is_bundle y.name) v.scopes.bundles ≡ Some y) v.scopes.bundles
    bundle_found = all_by_key (λ (y : Bundle). y.name) v.scopes.bundles after.order.order.fits.forest.ordered.bundles

    -- the stamp of a bundle that begins to close
    new_stamp : (y : Bundle) → find (is_bundle y.name) v.scopes.bundles ≡ Some y → y.closing ≡ true → find (is_stamp_of y.name) s.closings ≡ None → find (is_stamp_of y.name) (s.closings ++ new_closings v.scopes.bundles s.closings s.next) ≡ Some (record { of = y.name; at = s.next })
    new_stamp y e c n = find_behind (is_stamp_of y.name) s.closings (new_closings v.scopes.bundles s.closings s.next) n ∙ closing_stamped y s.closings s.next v.scopes.bundles e c n

    others_open : (y : Bundle) → find (is_bundle y.name) v.scopes.bundles ≡ Some y → y.closing ≡ false → AllByRecursion (λ z. (z.name == y.name) ≡ true → z.closing ≡ false) v.scopes.bundles
    others_open y e c =
        all_to (λ z. find (is_bundle z.name) v.scopes.bundles ≡ Some z) (λ z. (z.name == y.name) ≡ true → z.closing ≡ false) v.scopes.bundles
        (λ z f i.
        let here : find (is_bundle y.name) v.scopes.bundles ≡ Some z = subst (λ n. find (is_bundle n) v.scopes.bundles ≡ Some z) (number_of z.name y.name i) f in
        ap (λ (x : Bundle). x.closing) (some_same z y (sym here ∙ e)) ∙ c) bundle_found

    stamp_each : (y : Bundle) → find (is_bundle y.name) v.scopes.bundles ≡ Some y → StampOk k.world.scopes s.closings y → (c : Bool) → y.closing ≡ c → (w : Bool) → is_closing k.world.scopes y.name ≡ w → is_some (stamp_of (s.closings ++ new_closings v.scopes.bundles s.closings s.next) y.name) ≡ y.closing
    stamp_each y e h true c true w =
        let x = old_stamp y.name w in
        ap (λ o. is_some (option_map (λ (z : Stamp). z.at) o)) (find_append (is_stamp_of y.name) s.closings (new_closings v.scopes.bundles s.closings s.next) x.0 x.1) ∙ sym c
    stamp_each y e h true c false w = ap (λ o. is_some (option_map (λ (z : Stamp). z.at) o)) (new_stamp y e c (h.1 w)) ∙ sym c
    stamp_each y e h false c true w = unlike y.closing c (h.0 w)
    stamp_each y e h false c false w =
        ap (λ o. is_some (option_map (λ (z : Stamp). z.at) o)) (find_behind (is_stamp_of y.name) s.closings (new_closings v.scopes.bundles s.closings s.next) (h.1 w) ∙ open_unstamped y.name s.closings s.next v.scopes.bundles (others_open y e c)) ∙ sym c

    names_low : (bs : List Bundle) (low high : ℕ) → Ranked low bs high → AllByRecursion (λ z. z.name ≤ high) bs
    names_low [] low high r = tt
    names_low (x ∷ bs) low high r = (let l = last bs (x.name + 1) r.1 in omega (arith, l), names_low bs (x.name + 1) high r.1)
      where
        last : (cs : List Bundle) (from : ℕ) → Ranked from cs high → from ≤ high + 1
        last [] from q = q
        last (z ∷ cs) from q = let l = last cs (z.name + 1) q.1 in let m = q.0 in omega (arith, l, m)

    -- each bundle that is closing has its stamp, and no other
    pub stamps_after : HasStamps next_state
    stamps_after =
        let given = step.holds.given in
        let old = all_to (λ (x : Stamp). (x.of ≤ k.world.last_bundle) × (x.at < s.next)) (λ x. (x.of ≤ v.last_bundle) × (x.at < s.next + 1 + length (fresh u))) s.closings (λ x h. (let a = h.0 in omega (arith, a, given), let a = h.1 in omega (arith, a))) low_before in
        let new = stamps_low (λ n. n ≤ v.last_bundle) s.closings s.next (s.next + 1 + length (fresh u)) v.scopes.bundles (omega arith) (names_low v.scopes.bundles 0 v.last_bundle step.holds.flags.ranked) in
        let low = all_append (λ (x : Stamp). (x.of ≤ v.last_bundle) × (x.at < s.next + 1 + length (fresh u))) s.closings (new_closings v.scopes.bundles s.closings s.next) old new in
        let each = both_all (λ y. find (is_bundle y.name) v.scopes.bundles ≡ Some y) (StampOk k.world.scopes s.closings) (λ y. is_some (stamp_of (s.closings ++ new_closings v.scopes.bundles s.closings s.next) y.name) ≡ y.closing) v.scopes.bundles
        (λ y e h. stamp_each y e h y.closing refl (is_closing k.world.scopes y.name) refl) bundle_found step.holds.bundles in
        record {
          low = subst (λ n. AllByRecursion {X = Stamp} (λ x. (x.of ≤ n) × (x.at < s.next + 1 + length (fresh u))) (s.closings ++ new_closings u.scopes.bundles s.closings s.next)) same_last
              (subst (λ (t : Scopes). AllByRecursion {X = Stamp} (λ x. (x.of ≤ v.last_bundle) × (x.at < s.next + 1 + length (fresh u))) (s.closings ++ new_closings t.bundles s.closings s.next)) same_scopes low);
          each = subst (λ (t : Scopes). AllByRecursion (λ y. is_some (stamp_of (s.closings ++ new_closings t.bundles s.closings s.next) y.name) ≡ y.closing) t.bundles) same_scopes each;
        }

    -- the answers that came before a bundle began to close
    early_when : (b : ℕ) → is_closing k.world.scopes b ≡ false → is_closing v.scopes b ≡ true → (n : ℕ) → gone n ≡ false → is_early next_state b n ≡ came s.answers n s.next
    early_when b c d n g =
        let y = closing_found v.scopes b d in
        let name = number_of y.0.name b (found_passes (is_bundle b) v.scopes.bundles y.0 y.1) in
        let ok = all_found (StampOk k.world.scopes s.closings) (is_bundle b) y.0 v.scopes.bundles y.1 step.holds.bundles in
        let here : find (is_bundle y.0.name) v.scopes.bundles ≡ Some y.0 = subst (λ m. find (is_bundle m) v.scopes.bundles ≡ Some y.0) (sym name) y.1 in
        let none = ok.1 (ap (is_closing k.world.scopes) name ∙ c) in
        let there : find (is_stamp_of b) (s.closings ++ new_closings u.scopes.bundles s.closings s.next) ≡ Some (record { of = y.0.name; at = s.next }) =
        subst (λ (t : Scopes). find (is_stamp_of b) (s.closings ++ new_closings t.bundles s.closings s.next) ≡ Some (record { of = y.0.name; at = s.next })) same_scopes
        (subst (λ m. find (is_stamp_of m) (s.closings ++ new_closings v.scopes.bundles s.closings s.next) ≡ Some (record { of = y.0.name; at = s.next })) name (new_stamp y.0 here y.2 none)) in
        ap (λ o. if_some (option_map (λ (z : Stamp). z.at) o) false (λ closed. came (answers ++ stamped (s.next + 1) (fresh u)) n closed)) there
        ∙ came_now n s.next (omega arith) false g

    -- of a bundle that begins to close all are early that were queued before
    early_new : (b : ℕ) → is_closing k.world.scopes b ≡ false → is_closing v.scopes b ≡ true → (n : ℕ) → gone n ≡ false → list_any (λ m. m == n) k.ready ≡ true → is_early next_state b n ≡ true
    early_new b c d n g q =
        let x = queued_stamp n 0 s.next s.answers stands.rise (subst (λ xs. list_any (λ m. m == n) xs ≡ true) stands.order q) in
        early_when b c d n g ∙ ap (λ o. if_some (option_map (λ (z : Stamp). z.at) o) false (λ a. nat_lt a s.next)) x.1 ∙ is_less x.0.at s.next x.2

    -- and nobody else
    early_none : (b : ℕ) → is_closing k.world.scopes b ≡ false → is_closing v.scopes b ≡ true → (n : ℕ) → gone n ≡ false → list_any (λ m. m == n) k.ready ≡ false → is_early next_state b n ≡ false
    early_none b c d n g q =
        let x = unqueued n s.answers (subst (λ xs. list_any (λ m. m == n) xs ≡ false) stands.order q) in
        early_when b c d n g ∙ ap (λ o. if_some (option_map (λ (z : Stamp). z.at) o) false (λ a. nat_lt a s.next)) x

    -- exactly those are early that were queued before
    pub early_queued : (b : ℕ) → is_closing k.world.scopes b ≡ false → is_closing v.scopes b ≡ true → (n : ℕ) → gone n ≡ false → is_early next_state b n ≡ list_any (λ m. m == n) k.ready
    early_queued b c d n g = at (list_any (λ m. m == n) k.ready) refl
      where
        at : (q : Bool) → list_any (λ m. m == n) k.ready ≡ q → is_early next_state b n ≡ list_any (λ m. m == n) k.ready
        at true e = early_new b c d n g e ∙ sym e
        at false e = early_none b c d n g e ∙ sym e

    there_after : AllByRecursion (λ c. IsThere v.scopes c.number) v.coroutines
    there_after = all_unmap (λ (c : Coroutine V). IsThere v.scopes c.number) lined v.coroutines (all_there (queued v ready early).world after.order.order)

    -- what is given to who is inside one that was closing lowers
    lowers_old : (b : ℕ) → is_closing k.world.scopes b ≡ true → AllByRecursion (λ c. is_inside v.scopes b c.number ≡ true → IsLowering (is_early next_state b) (lined c)) v.coroutines
    lowers_old b c =
        let f = step.falls b c in
        both_all (λ (d : Coroutine V). IsThere v.scopes d.number) (LowersAt p (is_inside k.world.scopes b) (less_early s b gone)) (λ d. is_inside v.scopes b d.number ≡ true → IsLowering (is_early next_state b) (lined d)) v.coroutines
        (λ d there l i e. lowers_lined d.mode (l (sym (f.places d.number there) ∙ i) (sym (early_kept b c d.number) ∙ e))) there_after f.lowers

    lowers_new : (b : ℕ) → is_closing k.world.scopes b ≡ false → is_closing v.scopes b ≡ true → AllByRecursion (λ c. is_inside v.scopes b c.number ≡ true → IsLowering (is_early next_state b) (lined c)) v.coroutines
    lowers_new b c d =
        both_all (λ (x : Coroutine V). is_inside v.scopes b x.number ≡ true → LowersFresh x.mode) (λ x. is_answered x.mode ≡ true → (gone x.number ≡ false) × (list_any (λ m. m == x.number) k.ready ≡ true)) (λ x. is_inside v.scopes b x.number ≡ true → IsLowering (is_early next_state b) (lined x)) v.coroutines
        (λ x l a i e. fresh_lowers x.mode (is_early next_state b x.number) (l i) (λ j. let q = a j in early_new b c d x.number q.0 q.1) e) (step.begun b c d) step.answered

    lowers_each : (b : ℕ) → is_closing v.scopes b ≡ true → (c : Bool) → is_closing k.world.scopes b ≡ c → AllByRecursion (λ x. is_inside v.scopes b x.number ≡ true → IsLowering (is_early next_state b) (lined x)) v.coroutines
    lowers_each b d true c = lowers_old b c
    lowers_each b d false c = lowers_new b c d

    pub lowers_after : (b : ℕ) → is_closing next_state.world.scopes b ≡ true → LowersInside next_state b
    lowers_after b d =
        let here : is_closing v.scopes b ≡ true = subst (λ (t : Scopes). is_closing t b ≡ true) (sym same_scopes) d in
        let all = all_remap (λ (x : Coroutine V). is_inside v.scopes b x.number ≡ true → IsLowering (is_early next_state b) x) lined v.coroutines (lowers_each b here (is_closing k.world.scopes b) refl) in
        subst (λ (w : World V). AllByRecursion (λ x. is_inside w.scopes b x.number ≡ true → IsLowering (is_early next_state b) x) w.coroutines) stands_after.world all

    -- the state is even again
    abbrev pub even_after : IsEven p next_state
    even_after = record { kept = queued v ready early; stable = after; stands = stands_after; stamps = stamps_after; lowers = lowers_after }

    share_lined : (tree f : ℕ → Bool) (c : Coroutine V) → share_in p tree f (lined c) ≡ share_in p tree f c
    share_lined tree f c = ap (λ e. if tree c.number then (if e then 0 else (if f c.number then 1 + p.most c.body else p.left c.body)) else 0) (lined_ends c.mode)

    -- the debt behind the step
    pub debt_after : (b : ℕ) → is_closing k.world.scopes b ≡ true → debt p next_state b ≡ weigh (share_in p (is_inside k.world.scopes b) (less_early s b gone)) v.coroutines
    debt_after b c =
        let f = step.falls b c in
        let pointwise = both_all (λ (x : Coroutine V). IsThere v.scopes x.number) (λ x. IsThere v.scopes x.number) (λ x. share_in p (is_inside v.scopes b) (is_early next_state b) (lined x) ≡ share_in p (is_inside k.world.scopes b) (less_early s b gone) (lined x)) v.coroutines
        (λ x there _. ap (λ t. if t then share_by p (is_early next_state b) (lined x) else 0) (f.places x.number there) ∙ ap (λ e. if is_inside k.world.scopes b x.number then (if is_ending (lined_mode x.mode) then 0 else (if e then 1 + p.most x.body else p.left x.body)) else 0) (early_kept b c x.number)) there_after there_after in
        debt_total p (queued v ready early).world next_state b stands_after.world
        ∙ total_all (share_in p (is_inside v.scopes b) (is_early next_state b)) (share_in p (is_inside k.world.scopes b) (less_early s b gone)) (map lined v.coroutines) (all_remap (λ x. share_in p (is_inside v.scopes b) (is_early next_state b) x ≡ share_in p (is_inside k.world.scopes b) (less_early s b gone) x) lined v.coroutines pointwise)
        ∙ weigh_alike (share_in p (is_inside k.world.scopes b) (less_early s b gone)) lined v.coroutines (share_lined (is_inside k.world.scopes b) (less_early s b gone))

    -- who is there is inside exactly where it was
    pub places_after : (b : ℕ) → is_closing k.world.scopes b ≡ true → (n : ℕ) → is_there next_state.world n ≡ true → is_inside next_state.world.scopes b n ≡ is_inside s.world.scopes b n
    places_after b c n there =
        let here : is_there (queued v ready early).world n ≡ true = subst (λ (w : World V). is_there w n ≡ true) (sym stands_after.world) there in
        ap (λ (t : Scopes). is_inside t b n) (sym same_scopes) ∙ (step.falls b c).places n (there_is (queued v ready early).world n after.order.order.fits here) ∙ ap (λ (w : World V). is_inside w.scopes b n) stands.world
