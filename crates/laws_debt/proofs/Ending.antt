-- From the closing of the root on, each turn lowers what is owed, and somebody has an answer until `main` has ended: it is a bundle that everybody is inside of.
use Rattle.std.proofs.Common.{◌≡◌, ◌∙◌, ◌+◌, ◌-◌, ◌^◌, ◌≤◌, ◌<◌, ◌==◌, ℕ, zero, suc, List, [], ◌∷◌, ◌++◌, length, map, take, fold, find, Bool, true, false, cond, Option, Some, None, is_some, if◌then◌else◌, refl, sym, ap, subst, arith}
use Rattle.std.specs.List.{AllByRecursion, list_any}
use Rattle.std.specs.List.Sorted.{IsStrictlyIncreasing}
use Rattle.dill_base.specs.declared.errno.Errno.{Errno}
use Rattle.dill_calls.specs.declared.ran.LackPlace.{LackPlace}
use Rattle.dill_calls.specs.Program.{Program, IsLawful}
use Rattle.dill_scope.specs.declared.forest.Bundle.{Bundle}
use Rattle.dill_scope.specs.Scopes as scopes
use Rattle.dill_base.specs.Maps.{if_some, change}
use Rattle.dill_rules.specs.declared.coroutine.Coroutine.{Coroutine}
use Rattle.dill_rules.specs.State.{lined, fresh}
use Rattle.laws_queue.specs.Kept.{Kept, has_answer, queued, turn_first, kept_turn, kept_shut, root_closed}
use Rattle.laws_sound.specs.Linkless.{MakesLinkless}
use Rattle.laws_queue.specs.Well.{bit, occurs, IsQueue}
use Rattle.laws_sound.specs.Order.{IsInOrder}
use Rattle.laws_sound.specs.Orderly.{weigh}
use Rattle.laws_debt.specs.Closing.{IsStable, IsClosing}
use Rattle.laws_debt.specs.Owed.{share_by, is_early, owed}
use Rattle.laws_debt.specs.Says.{IsLowering, AllLower}
use Rattle.laws_sound.proofs.Going.{linkless_long}
use Rattle.dill_scope.specs.Scopes.{home_of, is_inside}
use Rattle.dill_scope.specs.Forest.{Inside}
use Rattle.dill_scope.specs.Keeping.{IsThere}
use Rattle.dill_scope.proofs.Carrying.{some_told}
use Rattle.dill_scope.proofs.Chains.{search_is_inside}
use Rattle.dill_rules.specs.World.{World, is_coroutine, begin}
use Rattle.dill_rules.specs.Settling.{settle, IsSettled}
use Rattle.dill_rules.specs.Turning.{go_on, turn}
use Rattle.laws_queue.specs.Laws.{MayTurn, KeepsWell}
use Rattle.laws_sound.specs.Laws.{KeepsSettled, is_closing, RootGoesOn}
use Rattle.laws_debt.specs.Laws.{KeepsStable, EndsClosing, turn_until}
use Rattle.laws_sound.proofs.Leaving.{lined_ends}
use Rattle.laws_sound.proofs.Sound.{rooted_inside}
use Rattle.laws_sound.proofs.Turns.{closed_linkless}
use Rattle.laws_sound.proofs.Counting.{is_total, weigh_alike}
use Rattle.laws_debt.proofs.Bounded.{owes_few, all_early}
use Rattle.laws_debt.proofs.Falling.{share_in, LowersAt, closing_shut, settle_falls, turn_falls}
use Rattle.laws_debt.proofs.Flagging.{both_all}
use Rattle.laws_debt.proofs.Keeping.{root_flags, good_stable, turn_is}
use Rattle.laws_debt.proofs.Lining.{lowers_lined}
use Rattle.laws_queue.proofs.Lists.{all_found, all_to, all_map, found_passes, equal_number, above_other}
use Rattle.laws_queue.proofs.Numbers.{found_number}
use Rattle.laws_debt.proofs.Lowering.{first_gone, others_same}
use Rattle.laws_debt.proofs.Shutting.{AllHold, IsShutAs, shut_lasts, settle_shut, go_on_shut}
use Rattle.laws_debt.proofs.Stepwise.{all_there, total_all}
use Rattle.laws_debt.proofs.Tracking.{tracks_self, rising_tail, all_higher}
use Rattle.laws_debt.proofs.Tree.{InTree}
use Rattle.laws_debt.proofs.Walking.{unlike}
use Rattle.laws_debt.proofs.Within.{KeepsWithin}

-- ---- the root, once it is closing

root_found : (o : Option Bundle) → is_some o ≡ true → ((x : Bundle) → o ≡ Some x → x.closing ≡ true) → if_some o false (λ x. x.closing) ≡ true
root_found None e h = cc
root_found (Some x) e h = h x refl

-- a bundle whose closing begins is the only one of its name
root_shuts : (xs : List Bundle) → IsStrictlyIncreasing (map (λ y. y.name) xs) → AllByRecursion (IsShutAs 0) (change (scopes.is_bundle 0) scopes.as_closing xs)
root_shuts [] i = tt
root_shuts (x ∷ xs) i =
    let rest : AllByRecursion (IsShutAs 0) xs = all_to (λ y. 0 < y.name) (IsShutAs 0) xs (λ y l e. unlike (y.name == 0) (above_other 0 y.name 0 l (omega arith)) e) (all_higher (λ (y : Bundle). y.name) 0 x xs i (omega arith)) in
    at (x.name == 0) refl rest (root_shuts xs (rising_tail (λ (y : Bundle). y.name) x.name (map (λ z. z.name) xs) i))
  where
    at : (b : Bool) → (x.name == 0) ≡ b → AllByRecursion (IsShutAs 0) xs → AllByRecursion (IsShutAs 0) (change (scopes.is_bundle 0) scopes.as_closing xs) → AllByRecursion (IsShutAs 0) (cond b (scopes.as_closing x ∷ xs) (x ∷ change (scopes.is_bundle 0) scopes.as_closing xs))
    at true e r s = ((λ f. refl), r)
    at false e r s = ((λ f. unlike (x.name == 0) e f), s)

module _ {V : Type 0} where
  root_shut : (w : World V) → IsInOrder w → AllHold (IsShutAs 0) 0 w → is_closing w.scopes 0 ≡ true
  root_shut w i h =
      root_found (find (scopes.is_bundle 0) w.scopes.bundles) i.fits.forest.ordered.root
      (λ x e. all_found (IsShutAs 0) (scopes.is_bundle 0) x w.scopes.bundles e h.bundles (found_passes (scopes.is_bundle 0) w.scopes.bundles x e))

pub take_all : (xs ys : List ℕ) → take (length xs) (xs ++ ys) ≡ xs
take_all [] ys = refl
take_all (x ∷ xs) ys = ap (λ zs. x ∷ zs) (take_all xs ys)

take_front : (k : ℕ) (xs ys : List ℕ) → k ≤ length xs → take k (xs ++ ys) ≡ take k xs
take_front zero xs ys l = refl
take_front (suc k) [] ys l = absurd (omega (arith, l))
take_front (suc k) (x ∷ xs) ys l = ap (λ zs. x ∷ zs) (take_front k xs ys (omega (arith, l)))

length_more : (xs ys : List ℕ) → length xs ≤ length (xs ++ ys)
length_more [] ys = omega arith
length_more (x ∷ xs) ys = let r = length_more xs ys in omega (arith, r)

-- who is first in a queue stands nowhere else in it
absent_rest : (who : ℕ) (rest : List ℕ) (b : Bool) → occurs who (who ∷ rest) ≡ bit b → occurs who rest ≡ 0
absent_rest who rest true e = let one : bit (who == who) ≡ 1 = ap bit (equal_number who who refl) in omega (arith, e, one)
absent_rest who rest false e = let one : bit (who == who) ≡ 1 = ap bit (equal_number who who refl) in omega (arith, e, one)

-- who lives somewhere is inside the root
pub home_inside : {V : Type 0} (w : World V) (n : ℕ) → IsInOrder w → IsThere w.scopes n → Inside w.scopes 0 n
home_inside w n o e = let h = some_told (home_of w.scopes n) e in rooted_inside w.scopes n (o.fits.forest.forest.rooted n h.0 h.1)

-- ---- the root as a bundle that is closing: everybody is inside it

module _ {V : Type 0} (p : Program V) (tree : ℕ → Bool) where
  root_all : (v : World V) → IsInOrder v → ((n : ℕ) → IsThere v.scopes n → is_inside v.scopes 0 n ≡ tree n) → AllByRecursion (λ c. tree c.number ≡ true) v.coroutines
  root_all v o places =
      all_to (λ (c : Coroutine V). IsThere v.scopes c.number) (λ c. tree c.number ≡ true) v.coroutines
      (λ c e. sym (places c.number e) ∙ (search_is_inside v.scopes 0 c.number o.fits.forest.forest).1 (home_inside v c.number o e)) (all_there v o)

  shares_all : (f : ℕ → Bool) (cs : List (Coroutine V)) → AllByRecursion (λ c. tree c.number ≡ true) cs → weigh (share_in p tree f) cs ≡ weigh (share_by p f) cs
  shares_all f cs a = total_all (share_in p tree f) (share_by p f) cs (all_to (λ c. tree c.number ≡ true) (λ c. share_in p tree f c ≡ share_by p f c) cs (λ c e. ap (λ t. if t then share_by p f c else 0) e) a)

  -- a place in the queue changes nothing of it
  shares_lined : (f : ℕ → Bool) (cs : List (Coroutine V)) → weigh (share_in p tree f) (map lined cs) ≡ weigh (share_in p tree f) cs
  shares_lined f cs = weigh_alike (share_in p tree f) lined cs (λ c. ap (λ b. if tree c.number then (if b then 0 else (if f c.number then 1 + p.most c.body else p.left c.body)) else 0) (lined_ends c.mode))

  lowers_queued : (v : World V) (ready : List ℕ) (early : ℕ) (less : ℕ → Bool) → IsInOrder (queued v ready early).world → ((n : ℕ) → IsThere v.scopes n → is_inside v.scopes 0 n ≡ tree n) → AllByRecursion (LowersAt p tree less) v.coroutines → AllLower less (map lined v.coroutines)
  lowers_queued v ready early less o places a =
      both_all (λ c. tree c.number ≡ true) (LowersAt p tree less) (IsLowering less) (map lined v.coroutines) (λ c i l. l i)
      (root_all (queued v ready early).world o places) (all_map (LowersAt p tree less) lined v.coroutines (λ c l i e. lowers_lined c.mode (l i e)) a)

-- those of a queue of whom is counted
abbrev early_of : ℕ → List ℕ → ℕ → Bool
early_of early ready n = list_any (λ m. m == n) (take early ready)

module _ {V : Type 0} (p : Program V) (law : IsLawful p) (unlinked : MakesLinkless p) (within : KeepsWithin p) where
  module _ (calm : KeepsSettled p) (stable : KeepsStable p) (goes : RootGoesOn p) where
    few : (k : Kept V) → IsClosing p k → owed p k ≤ 2 ^ 48
    few k s = subst (λ n. n ≤ 2 ^ 48) (sym (is_total (share_by p (is_early k)) k.world.coroutines)) (owes_few p law (is_early k) k.world.coroutines s.stable.well.lives s.stable.order.order.fits.few)

    shut : (k : Kept V) → IsStable p k → IsClosing p (kept_shut k)
    shut k s =
        let w = root_closed k.world in
        let order = within.closed k.world s.order in
        let forest = order.order.fits.forest in
        let holds : AllHold (IsShutAs 0) 0 w = record { given = omega arith; bundles = root_shuts k.world.scopes.bundles s.order.order.fits.forest.ordered.bundles; flags = root_flags k.world s.flags } in
        let self : InTree p w.scopes 0 forest.forest w = record { linkless = closed_linkless k.world s.linkless; order = order; sits = (good_stable p k s).sits; holds = holds; tracks = tracks_self w.scopes 0 forest } in
        let tree = is_inside w.scopes 0 in
        let all : ℕ → Bool = λ n. list_any (λ m. m == n) k.ready in
        let lowers = all_to (IsLowering all) (LowersAt p tree all) k.world.coroutines (λ c l i. l) (all_early k.ready k.world.coroutines 0 k.world.last_coroutine s.well.numbered s.well.queue s.rest) in
        let over = settle_falls p law unlinked w w 0 forest.forest all all self lowers (omega arith) in
        let holds_then = settle_shut (IsShutAs 0) 0 (shut_lasts 0) w holds in
        let after = kept_shut k in
        let kept = stable.shut k s in
        let lower = lowers_queued p tree (settle w) k.ready (length k.ready) all kept.order.order over.places over.lowers in
        record {
          stable = kept;
          closing = root_shut after.world kept.order.order (record { given = holds_then.given; bundles = holds_then.bundles; flags = kept.flags });
          settled = calm.shut k s.well s.linkless;
          early = length_more k.ready (fresh (settle w));
          lowers = subst (λ q. AllLower (λ n. list_any (λ m. m == n) q) after.world.coroutines) (sym (take_all k.ready (fresh (settle w)))) lower;
        }

    -- the root stays closing over a turn
    turned_shut : (k : Kept V) (lack : Option LackPlace) (who : ℕ) → IsClosing p k → (may : MayTurn p k.world who) → AllHold (IsShutAs 0) 0 (turn p lack k.world who)
    turned_shut k lack who s may =
        let w = k.world in
        let moved = go_on p lack (begin w) who may.one.body in
        let holds = go_on_shut (IsShutAs 0) 0 (shut_lasts 0) p lack (begin w) who may.one.body (record { given = omega arith; bundles = closing_shut w 0 s.stable.order.order s.closing; flags = s.stable.flags }) in
        subst (AllHold (IsShutAs 0) 0) (sym (turn_is p law unlinked lack w who may.one may.found)) (settle_shut (IsShutAs 0) 0 (shut_lasts 0) moved holds)

    -- the turn of the first of a queue leaves the root closing, and lowers what is owed
    turned_first : (k : Kept V) (lack : Option LackPlace) (who : ℕ) (rest : List ℕ) → KeepsWell p → IsClosing p k → k.ready ≡ who ∷ rest → IsClosing p (kept_turn p lack k) × (owed p (kept_turn p lack k) < owed p k)
    turned_first k lack who rest keeps s e =
        let w = k.world in
        let tree = is_inside w.scopes 0 in
        let now = early_of k.early (who ∷ rest) in
        let less = early_of (k.early - 1) rest in
        let may = keeps.first k who rest s.stable.well e in
        let once = (subst (λ q. IsQueue q w.coroutines) e s.stable.well.queue).once who in
        let gone = first_gone who rest k.early (absent_rest who rest _ once) in
        let lowers : AllLower now w.coroutines = subst (λ q. AllLower (λ n. list_any (λ m. m == n) (take k.early q)) w.coroutines) e s.lowers in
        let t = turn_falls p law unlinked keeps within k lack who rest 0 now less s.stable s.settled e s.closing gone (others_same who rest k.early) (all_to (IsLowering now) (LowersAt p tree now) w.coroutines (λ c l i. l) lowers) in
        let v = turn p lack w who in
        let after = queued v rest (k.early - 1) in
        let is : kept_turn p lack k ≡ after = ap (turn_first p lack k) e in
        let kept : IsStable p after = subst (IsStable p) is (stable.turned k lack s.stable) in
        let early : k.early ≤ length (who ∷ rest) = subst (λ q. k.early ≤ length q) e s.early in
        let fewer_left : k.early - 1 ≤ length rest = omega (arith, early) in
        let front = take_front (k.early - 1) rest (fresh v) fewer_left in
        let same : is_early after ≡ less = ap (λ q. λ n. list_any (λ m. m == n) q) front in
        let holds = turned_shut k lack who s may in
        let closing : IsClosing p after = record {
          stable = kept;
          closing = root_shut after.world kept.order.order (record { given = holds.given; bundles = holds.bundles; flags = kept.flags });
          settled = subst (λ (l : Kept V). IsSettled l.world) is (calm.turned k lack s.stable.well s.stable.linkless s.stable.order s.settled);
          early = let m = length_more rest (fresh v) in omega (arith, fewer_left, m);
          lowers = subst (λ f. AllLower f after.world.coroutines) (sym same) (lowers_queued p tree v rest (k.early - 1) less kept.order.order t.falling.places t.falling.lowers);
        } in
        let here = root_all p tree after.world kept.order.order t.falling.places in
        let before = root_all p tree w s.stable.order.order (λ n i. refl) in
        let inside : tree who ≡ true = ap tree (sym (found_number who w.coroutines may.one may.found)) ∙ all_found (λ c. tree c.number ≡ true) (is_coroutine who) may.one w.coroutines may.found before in
        let owes : owed p after ≡ weigh (share_in p tree less) v.coroutines = is_total (share_by p (is_early after)) after.world.coroutines ∙ ap (λ f. weigh (share_by p f) after.world.coroutines) same ∙ sym (shares_all p tree less after.world.coroutines here) ∙ shares_lined p tree less v.coroutines in
        let was : owed p k ≡ weigh (share_in p tree now) w.coroutines = is_total (share_by p (is_early k)) w.coroutines ∙ ap (λ q. weigh (share_by p (λ n. list_any (λ m. m == n) (take k.early q))) w.coroutines) e ∙ sym (shares_all p tree now w.coroutines before) in
        let falls = t.strictly inside in
        let lower : owed p after < owed p k = omega (arith, owes, was, falls) in
        subst (λ (l : Kept V). IsClosing p l × (owed p l < owed p k)) (sym is) (closing, lower)

    turned : (k : Kept V) (lack : Option LackPlace) → KeepsWell p → IsClosing p k → IsClosing p (kept_turn p lack k)
    turned k lack keeps s = at k.ready refl
      where
        at : (ready : List ℕ) → k.ready ≡ ready → IsClosing p (kept_turn p lack k)
        at [] e = subst (IsClosing p) (sym (ap (turn_first p lack k) e)) s
        at (who ∷ rest) e = (turned_first k lack who rest keeps s e).0

    fewer : (k : Kept V) (lack : Option LackPlace) → KeepsWell p → IsClosing p k → has_answer k.ready ≡ true → owed p (kept_turn p lack k) < owed p k
    fewer k lack keeps s h = at k.ready refl h
      where
        at : (ready : List ℕ) → k.ready ≡ ready → has_answer ready ≡ true → owed p (kept_turn p lack k) < owed p k
        at [] e h = cc
        at (who ∷ rest) e h = (turned_first k lack who rest keeps s e).1

    goes_on : (k : Kept V) → IsClosing p k → k.world.ended ≡ None → has_answer k.ready ≡ true
    goes_on k s e = goes k s.stable.well (linkless_long k.world s.stable.linkless) s.stable.order.order s.settled s.stable.rest s.closing e

    stays_ended : (k : Kept V) (lacks : List (Option LackPlace)) → is_some k.world.ended ≡ true → is_some (fold (turn_until p) k lacks).world.ended ≡ true
    stays_ended k [] e = e
    stays_ended k (lack ∷ lacks) e =
        let same : turn_until p k lack ≡ k = ap (λ b. if b then k else kept_turn p lack k) e in
        ap (λ l. is_some (fold (turn_until p) l lacks).world.ended) same ∙ stays_ended k lacks e

    ends : (k : Kept V) (lacks : List (Option LackPlace)) → KeepsWell p → IsClosing p k → owed p k ≤ length lacks → is_some (fold (turn_until p) k lacks).world.ended ≡ true
    ends k [] keeps s l = at k.world.ended refl
      where
        at : (o : Option (Option Errno)) → k.world.ended ≡ o → is_some o ≡ true
        at None e = absurd (let f = fewer k None keeps s (goes_on k s e) in omega (arith, f, l))
        at (Some outcome) e = refl
    ends k (lack ∷ lacks) keeps s l = at k.world.ended refl (λ t m. ends (kept_turn p lack k) lacks keeps t m)
      where
        at : (o : Option (Option Errno)) → k.world.ended ≡ o → (IsClosing p (kept_turn p lack k) → owed p (kept_turn p lack k) ≤ length lacks → is_some (fold (turn_until p) (kept_turn p lack k) lacks).world.ended ≡ true) → is_some (fold (turn_until p) k (lack ∷ lacks)).world.ended ≡ true
        at None e rest =
            let same : turn_until p k lack ≡ kept_turn p lack k = ap (λ (o : Option (Option Errno)). if is_some o then k else kept_turn p lack k) e in
            let f = fewer k lack keeps s (goes_on k s e) in
            ap (λ x. is_some (fold (turn_until p) x lacks).world.ended) same ∙ rest (turned k lack keeps s) (omega (arith, f, l))
        at (Some outcome) e rest = stays_ended k (lack ∷ lacks) (ap (λ (o : Option (Option Errno)). is_some o) e)

    pub ends_closing : KeepsWell p → EndsClosing p
    ends_closing keeps = record {
      shut = shut;
      turned = λ k lack s. turned k lack keeps s;
      fewer = λ k lack s h. fewer k lack keeps s h;
      few = few;
      goes_on = goes_on;
      ends = λ k lacks s l. ends k lacks keeps s l;
    }
