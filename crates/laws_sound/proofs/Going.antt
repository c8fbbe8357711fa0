-- Where a bundle is closing in which somebody lives, somebody inside it has an answer: else each of them would wait for one deeper.
use Rattle.std.proofs.Common.{◌≡◌, ◌∙◌, ℕ, zero, suc, ◌+◌, ◌<◌, ◌==◌, List, [], ◌∷◌, length, get_or, map, find, Bool, true, false, not, ◌&&◌, ◌||◌, cond, ◌⊎◌, inl, inr, Option, Some, None, refl, sym, ap, subst, arith}
use Rattle.std.proofs.lemmas.Bool.{and_from, and_parts}
use Rattle.std.specs.Prelude.{is_some, is_none, option_map, option_and_then, filter}
use Rattle.std.specs.List.{list_all, list_any}
use Rattle.std.specs.List.Sorted.{IsStrictlyIncreasing}
use Rattle.std.specs.Option.{option_or}
use Rattle.std.proofs.lemmas.Bool.Decides.{nat_tests}
use Rattle.dill_calls.specs.declared.answer.Answer.{Answer}
use Rattle.dill_calls.specs.declared.call.Call.{Call}
use Rattle.dill_calls.specs.declared.call.Call.TheVariants as calls
use Rattle.dill_calls.specs.Program.{Program}
use Rattle.dill_scope.specs.declared.forest.Bundle.{Bundle}
use Rattle.dill_scope.specs.declared.forest.Home.{Home}
use Rattle.dill_scope.specs.Scopes.{Scopes, home_of, owner_of, inside_within, is_empty}
use Rattle.dill_scope.specs.Forest.{Inside, lives, under}
use Rattle.dill_scope.proofs.Carrying.{parent_is}
use Rattle.dill_scope.proofs.Chains.{search_is_inside}
use Rattle.dill_scope.proofs.Climbing.{climb}
use Rattle.dill_base.specs.Maps.{if_some, first_some}
use Rattle.dill_rules.specs.declared.coroutine.Closing.{Closing}
use Rattle.dill_rules.specs.declared.coroutine.Coroutine.{Coroutine}
use Rattle.dill_rules.specs.declared.coroutine.Mode.{Mode}
use Rattle.dill_rules.specs.declared.coroutine.Mode.TheVariants as modes
use Rattle.dill_base.specs.declared.errno.Errno.TheVariants.{Ecanceled, Ebadf}
use Rattle.dill_calls.specs.declared.answer.Answer.TheVariants.{Fault}
use Rattle.dill_rules.specs.Answers.{answer_of, when, when_empty, lost_its_number, own_answer}
use Rattle.dill_rules.specs.Owning.{is_dead_as}
use Rattle.dill_rules.specs.Settling.{can_finish, is_clear, answer_due, IsSettled}
use Rattle.dill_rules.specs.Taking.{is_cancelled}
use Rattle.dill_rules.specs.World.{World, is_coroutine, coroutine_of, pending_call, is_answered, is_ending}
use Rattle.laws_sound.specs.Linkless.{may_wait, waits_linkless, IsLinkless}
use Rattle.laws_queue.specs.Kept.{has_answer}
use Rattle.laws_queue.specs.Well.{Numbered, bit, occurs}
use Rattle.laws_sound.proofs.Lists.{all_found, all_follow}
use Rattle.laws_queue.proofs.Numbers.{found_number}
use Rattle.dill_calls.specs.CallTable.{word_of, blocks}
use Rattle.laws_sound.specs.Laws.{is_closing, is_resting, waits_long, WaitsLong, IsAtRest, HasGoing, GoesOn, RootGoesOn, BundleGoesOn}
use Rattle.laws_sound.specs.Order.{is_there, has_bundle, has_closing, closes, FitsTogether, IsInOrder}
use Rattle.laws_sound.proofs.Sound.{owner_is, same_there, inside_cancelled, there_inside}

number_is : (a b : ℕ) → (a == b) ≡ true → a ≡ b
number_is a b e = grind (arith, nat_tests)

is_number : (a b : ℕ) → a ≡ b → (a == b) ≡ true
is_number a b e = grind (arith, nat_tests)

above_not : (a b : ℕ) → a < b → (a == b) ≡ false
above_not a b h = grind (arith, nat_tests)

-- each number is above the one before
Climbs : ℕ → List ℕ → Type 0
Climbs low [] = Unit {0}
Climbs low (n ∷ ns) = (low < n) × Climbs n ns

climbs : {V : Type 0} (cs : List (Coroutine V)) (low high : ℕ) → Numbered low cs high → Climbs low (map (λ c. c.number) cs)
unfolding Climbs
climbs [] low high n = tt
climbs (c ∷ cs) low high n = (n.0, climbs cs c.number high n.1)

increasing_rest : (x : ℕ) (xs : List ℕ) → IsStrictlyIncreasing (x ∷ xs) → IsStrictlyIncreasing xs
increasing_rest x xs i k h =
    let r : get_or (x ∷ xs) (suc k) 0 < get_or (x ∷ xs) (suc k + 1) 0 = i (suc k) (omega (arith, h)) in
    let e : suc k + 1 ≡ suc (k + 1) = omega arith in
    rw e at r

climbing : (n : ℕ) (ns : List ℕ) → IsStrictlyIncreasing (n ∷ ns) → Climbs n ns
unfolding Climbs
climbing n [] i = tt
climbing n (m ∷ ms) i = (i 0 (omega arith), climbing m ms (increasing_rest n (m ∷ ms) i))

-- one that passes a test, and is found by its number
record Picked {X : Type 0} (key : X → ℕ) (test : X → Bool) (low : ℕ) (xs : List X) : Type 0 where
  one : X
  above : low < key one
  found : find (λ y. key y == key one) xs ≡ Some one
  passed : test one ≡ true

module _ {X : Type 0} (key : X → ℕ) (test : X → Bool) where
  picked : (low : ℕ) (xs : List X) → Climbs low (map key xs) → list_any test xs ≡ true → Picked key test low xs
  unfolding Climbs
  picked low [] c e = cc
  picked low (x ∷ xs) c e = at (test x) refl e (picked (key x) xs c.1)
    where
      at : (t : Bool) → test x ≡ t → (t || list_any test xs) ≡ true → (list_any test xs ≡ true → Picked key test (key x) xs) → Picked key test low (x ∷ xs)
      at true f g rest = record { one = x; above = c.0; found = rw (is_number (key x) (key x) refl) refl; passed = f }
      at false f g rest =
          let r = rest g in
          record { one = r.one; above = omega (arith, c.0, r.above); found = rw (above_not (key x) (key r.one) r.above) r.found; passed = r.passed }

  record Found (xs : List X) : Type 0 where
    one : X
    found : find (λ y. key y == key one) xs ≡ Some one
    passed : test one ≡ true

  -- where the numbers rise
  found_passing : (xs : List X) → IsStrictlyIncreasing (map key xs) → list_any test xs ≡ true → Found xs
  unfolding Climbs
  found_passing [] i e = cc
  found_passing (x ∷ xs) i e = at (test x) refl e
    where
      at : (t : Bool) → test x ≡ t → (t || list_any test xs) ≡ true → Found (x ∷ xs)
      at true f g = record { one = x; found = rw (is_number (key x) (key x) refl) refl; passed = f }
      at false f g =
          let r = picked (key x) xs (climbing (key x) (map key xs) i) g in
          record { one = r.one; found = rw (above_not (key x) (key r.one) r.above) r.found; passed = r.passed }

or_last : (b : Bool) → (b || false) ≡ true → b ≡ true
or_last true e = refl
or_last false e = cc

not_not : (b : Bool) → not b ≡ false → b ≡ true
not_not true e = refl
not_not false e = cc

pub none_when : (b : Bool) (answer : Answer) → when b answer ≡ None → b ≡ false
none_when true answer e = cc
none_when false answer e = refl

pub or_none : {A : Type 0} (o p : Option A) → option_or o p ≡ None → (o ≡ None) × (p ≡ None)
or_none None p e = (refl, e)
or_none (Some a) p e = cc

pub pending_in : (mode : Mode) (call : Call) → pending_call mode ≡ Some call → mode ≡ modes.Pending call
pending_in (modes.Pending other) call e = let it : other ≡ call = cc in ap (λ x. modes.Pending x) it
pending_in modes.Running call e = cc
pending_in (modes.Fresh word answer) call e = cc
pending_in (modes.Answered word answer) call e = cc
pending_in (modes.Ending outcome) call e = cc

module _ {V : Type 0} where
  pub none_passes : (test : Coroutine V → Bool) (pick : Coroutine V → Bool) (cs : List (Coroutine V)) (c : Coroutine V) → find test cs ≡ None → find pick cs ≡ Some c → test c ≡ false
  none_passes test pick [] c e f = cc
  none_passes test pick (x ∷ cs) c e f = at (test x) (pick x) refl e f (none_passes test pick cs c)
    where
      at : (t u : Bool) → test x ≡ t → cond t (Some x) (find test cs) ≡ None → cond u (Some x) (find pick cs) ≡ Some c → (find test cs ≡ None → find pick cs ≡ Some c → test c ≡ false) → test c ≡ false
      at true u g h i rest = cc
      at false true g h i rest = let it : x ≡ c = cc in ap test (sym it) ∙ g
      at false false g h i rest = rest h i

  pub none_given : {A : Type 0} (f : Coroutine V → Option A) (pick : Coroutine V → Bool) (cs : List (Coroutine V)) (c : Coroutine V) → first_some f cs ≡ None → find pick cs ≡ Some c → f c ≡ None
  none_given f pick [] c e g = cc
  none_given f pick (x ∷ cs) c e g = at (pick x) g (or_none (f x) (first_some f cs) e) (none_given f pick cs c)
    where
      at : (u : Bool) → cond u (Some x) (find pick cs) ≡ Some c → (f x ≡ None) × (first_some f cs ≡ None) → (first_some f cs ≡ None → find pick cs ≡ Some c → f c ≡ None) → f c ≡ None
      at true i h rest = let it : x ≡ c = cc in ap f (sym it) ∙ h.0
      at false i h rest = rest h.1 i

  pub there_found : (w : World V) (who : ℕ) → is_there w who ≡ true → (c : Coroutine V) × (coroutine_of w who ≡ Some c)
  there_found w who e = at (coroutine_of w who) e
    where
      at : (o : Option (Coroutine V)) → is_some o ≡ true → (c : Coroutine V) × (o ≡ Some c)
      at None f = cc
      at (Some c) f = (c, refl)

  pub found_there : (w : World V) (who : ℕ) (c : Coroutine V) → coroutine_of w who ≡ Some c → is_there w who ≡ true
  found_there w who c e = ap is_some e

  -- somebody lives there
  record Resident (w : World V) (name : ℕ) : Type 0 where
    who : ℕ
    home : home_of w.scopes who ≡ Some name
    there : is_there w who ≡ true

  resident : (w : World V) (name : ℕ) → FitsTogether w → is_empty w.scopes name ≡ false → Resident w name
  unfolding Climbs
  resident w name fits e =
      let any = not_not (list_any (λ x. x.bundle == name) w.scopes.homes) e in
      let up : Climbs 0 (map (λ x. x.who) w.scopes.homes) = subst (Climbs 0) (sym fits.crew) (climbs w.coroutines 0 w.last_coroutine fits.numbered) in
      let r = picked (λ (x : Home). x.who) (λ x. x.bundle == name) 0 w.scopes.homes up any in
      let here : home_of w.scopes r.one.who ≡ Some r.one.bundle = ap (option_map (λ x. x.bundle)) r.found in
      record {
        who = r.one.who;
        home = here ∙ ap (λ n. Some n) (number_is r.one.bundle name r.passed);
        there = sym (same_there (λ x. x.who) (λ c. c.number) r.one.who w.scopes.homes w.coroutines fits.crew) ∙ ap is_some r.found;
      }

  -- somebody lives in a bundle of this coroutine
  pub record Deeper (w : World V) (who : ℕ) : Type 0 where
    pub name : ℕ
    pub owned : owner_of w.scopes name ≡ Some who
    pub lived : is_empty w.scopes name ≡ false

  pub no_answer : (w : World V) (who : ℕ) (c : Coroutine V) (call : Call) → IsSettled w → coroutine_of w who ≡ Some c → c.mode ≡ modes.Pending call → answer_of w c.number call ≡ None
  no_answer w who c call settled e f = at (answer_of w c.number call) (ap (λ m. if_some (pending_call m) None (λ d. if_some (answer_of w c.number d) None (λ a. Some (c.number, d, a)))) (sym f) ∙ none_given (answer_due w) (is_coroutine who) w.coroutines c settled.answers e)
    where
      at : (o : Option Answer) → ◌≡◌ {A = Option (ℕ × Call × Answer)} (if_some o None (λ a. Some (c.number, call, a))) None → o ≡ None
      at None g = refl
      at (Some a) g = cc

  -- a call that blocks has no answer only where its caller isn't cancelled
  not_cancelled : (w : World V) (who : ℕ) (call : Call) → answer_of w who call ≡ None → is_cancelled w who ≡ true → blocks (word_of call) ≡ true → ⊥
  not_cancelled w who call e f g = at (blocks (word_of call) && is_cancelled w who) (and_from (blocks (word_of call)) (is_cancelled w who) g f) (or_none (when (blocks (word_of call) && is_cancelled w who) (Fault Ecanceled)) (option_or (when (lost_its_number w call) (Fault Ebadf)) (own_answer w call)) e).0
    where
      at : (b : Bool) → b ≡ true → when b (Fault Ecanceled) ≡ None → ⊥
      at true h i = cc
      at false h i = cc

  closes_deeper : (w : World V) (who number : ℕ) → if_some (find (is_dead_as number) w.closings) false (λ x. has_bundle w who x.bundle) ≡ true → when_empty w (if_some (find (is_dead_as number) w.closings) None (λ x. Some x.bundle)) ≡ None → Deeper w who
  closes_deeper w who number e f = at (find (is_dead_as number) w.closings) e f
    where
      at : (o : Option Closing) → if_some o false (λ x. has_bundle w who x.bundle) ≡ true → when_empty w (if_some o None (λ x. Some x.bundle)) ≡ None → Deeper w who
      at None g h = cc
      at (Some x) g h = record { name = x.bundle; owned = owner_is (owner_of w.scopes x.bundle) who g; lived = none_when (is_empty w.scopes x.bundle) _ h }

has_owner : ℕ → Bundle → Bool
has_owner who x = if_some x.owner false (λ o. o == who)

lived_in : (s : Scopes) (who : ℕ) (bs : List Bundle) → list_all (is_empty s) (map (λ x. x.name) (filter (λ x. if_some x.owner false (λ o. o == who)) bs)) ≡ false → list_any (λ x. has_owner who x && not (is_empty s x.name)) bs ≡ true
unfolding has_owner
lived_in s who [] e = cc
lived_in s who (x ∷ bs) e = at (has_owner who x) (is_empty s x.name) refl refl e (lived_in s who bs)
  where
    at : (t u : Bool) → has_owner who x ≡ t → is_empty s x.name ≡ u → list_all (is_empty s) (map (λ y. y.name) (cond t (x ∷ filter (has_owner who) bs) (filter (has_owner who) bs))) ≡ false → (list_all (is_empty s) (map (λ y. y.name) (filter (has_owner who) bs)) ≡ false → list_any (λ y. has_owner who y && not (is_empty s y.name)) bs ≡ true) → ((t && not u) || list_any (λ y. has_owner who y && not (is_empty s y.name)) bs) ≡ true
    at true true f g h rest = let i : (is_empty s x.name && list_all (is_empty s) (map (λ y. y.name) (filter (has_owner who) bs))) ≡ false = h in rest (ap (λ b. b && list_all (is_empty s) (map (λ y. y.name) (filter (has_owner who) bs))) (sym g) ∙ i)
    at true false f g h rest = refl
    at false u f g h rest = rest h

module _ {V : Type 0} where
  pub ending_deeper : (w : World V) (who : ℕ) → FitsTogether w → is_clear w who ≡ false → Deeper w who
  unfolding has_owner
  ending_deeper w who fits e =
      let any = lived_in w.scopes who w.scopes.bundles e in
      let r = found_passing (λ (x : Bundle). x.name) (λ x. has_owner who x && not (is_empty w.scopes x.name)) w.scopes.bundles fits.forest.ordered.bundles any in
      let b = and_parts (has_owner who r.one) (not (is_empty w.scopes r.one.name)) r.passed in
      record {
        name = r.one.name;
        owned = ap (λ o. option_and_then (λ x. x.owner) o) r.found ∙ owner_is r.one.owner who b.0;
        lived = is_not (is_empty w.scopes r.one.name) b.1;
      }
    where
      is_not : (b : Bool) → not b ≡ true → b ≡ false
      is_not false f = refl
      is_not true f = cc

  -- who waits in order, at rest and settled, is answered or has a bundle that somebody lives in
  record Waits (w : World V) : Type 0 where
    order : IsInOrder w
    long : WaitsLong w
    settled : IsSettled w
    rest : IsAtRest w

  stands : (w : World V) (who : ℕ) (c : Coroutine V) (mode : Mode) → Waits w → coroutine_of w who ≡ Some c → is_cancelled w who ≡ true → c.mode ≡ mode → (is_answered mode ≡ true) ⊎ Deeper w who
  stands w who c (modes.Answered word answer) h e f g = inl refl
  stands w who c (modes.Ending outcome) h e f g =
      let n : can_finish w c ≡ false = none_passes (can_finish w) (is_coroutine who) w.coroutines c h.settled.endings e in
      inr (ending_deeper w who h.order.fits (ap (is_clear w) (sym (found_number who w.coroutines c e)) ∙ ap (λ m. is_ending m && is_clear w c.number) (sym g) ∙ n))
  stands w who c (modes.Pending call) h e f g = inr (pending call g (ap waits_long (sym g) ∙ all_found (λ d. waits_long d.mode) (is_coroutine who) w.coroutines c h.long e))
    where
      none : (call : Call) → c.mode ≡ modes.Pending call → answer_of w who call ≡ None
      none call i = ap (λ n. answer_of w n call) (sym (found_number who w.coroutines c e)) ∙ no_answer w who c call h.settled e i

      pending : (call : Call) → c.mode ≡ modes.Pending call → waits_long (modes.Pending call) ≡ true → Deeper w who
      pending (calls.Hclose number) i j =
          let held : if_some (find (is_dead_as number) w.closings) false (λ x. has_bundle w c.number x.bundle) ≡ true = ap (λ m. if_some (closes m) true (λ n. if_some (find (is_dead_as n) w.closings) false (λ x. has_bundle w c.number x.bundle))) (sym i) ∙ all_found (has_closing w) (is_coroutine who) w.coroutines c h.order.waiters e in
          closes_deeper w who number (ap (λ n. if_some (find (is_dead_as number) w.closings) false (λ x. has_bundle w n x.bundle)) (sym (found_number who w.coroutines c e)) ∙ held) (none (calls.Hclose number) i)
      pending call i j = absurd (not_cancelled w who call (none call i) f (or_last (blocks (word_of call)) j))
  stands w who c modes.Running h e f g = let r : is_resting c.mode ≡ true = all_found (λ d. is_resting d.mode) (is_coroutine who) w.coroutines c h.rest e in cc
  stands w who c (modes.Fresh word answer) h e f g = let r : is_resting c.mode ≡ true = all_found (λ d. is_resting d.mode) (is_coroutine who) w.coroutines c h.rest e in cc

  deeper : (w : World V) (name : ℕ) → Waits w → is_closing w.scopes name ≡ true → (m d who : ℕ) → d + m ≡ length w.scopes.homes → inside_within d w.scopes 0 who ≡ false → Inside w.scopes name who → is_there w who ≡ true → HasGoing w name
  deeper w name h e zero d who l f i there =
      let same : d ≡ length w.scopes.homes = omega (arith, l) in
      let found : inside_within d w.scopes 0 who ≡ true = subst (λ k. inside_within k w.scopes 0 who ≡ true) (sym same) ((search_is_inside w.scopes 0 who h.order.fits.forest.forest).1 (there_inside w who h.order.fits there)) in
      cc
  deeper w name h e (suc m) d who l f i there =
      let c = there_found w who there in
      elim (stands w who c.0 c.0.mode h c.1 (inside_cancelled w.scopes name who h.order.fits.forest.forest e i) refl) [
        | inl a ↦ record { who = who; inside = i; answered = ap (λ o. if_some o false (λ x. is_answered x.mode)) c.1 ∙ a }
        | inr low ↦ down low (deeper w name h e m (suc d))
      ]
    where
      down : Deeper w who → ((kid : ℕ) → suc d + m ≡ length w.scopes.homes → inside_within (suc d) w.scopes 0 kid ≡ false → Inside w.scopes name kid → is_there w kid ≡ true → HasGoing w name) → HasGoing w name
      down low next =
          let r = resident w low.name h.order.fits low.lived in
          let other : low.name ≡ 0 → ⊥ = λ z. let o : owner_of w.scopes 0 ≡ Some who = subst (λ n. owner_of w.scopes n ≡ Some who) z low.owned in let n = h.order.fits.forest.forest.root in cc in
          next r.who (omega (arith, l)) (climb w.scopes 0 r.who low.name who d r.home other low.owned ∙ f) (under who (parent_is w.scopes r.who low.name who r.home low.owned) i) r.there

-- without links it is so
pub linkless_long : {V : Type 0} (w : World V) → IsLinkless w → WaitsLong w
linkless_long w linkless = all_follow waits_linkless (λ c. waits_long c.mode) w.coroutines (λ c e. by_mode c.mode e) linkless.calls
  where
    by_mode : (mode : Mode) → if_some (pending_call mode) true may_wait ≡ true → waits_long mode ≡ true
    by_mode (modes.Pending (calls.Msleep deadline)) e = refl
    by_mode (modes.Pending (calls.BundleWait number deadline)) e = refl
    by_mode (modes.Pending (calls.Hclose number)) e = refl
    by_mode (modes.Pending (calls.Chsend number bytes deadline)) e = refl
    by_mode (modes.Pending (calls.Chrecv number size deadline)) e = refl
    by_mode (modes.Pending (calls.Choose deadline all)) e = refl
    by_mode (modes.Pending _) e = cc
    by_mode _ e = refl

pub closing_goes_on : (V : Type 0) → GoesOn V
closing_goes_on V w name order long settled rest e lived =
    let r = resident w name order.fits lived in
    deeper w name (record { order = order; long = long; settled = settled; rest = rest }) e (length w.scopes.homes) 0 r.who (omega arith) refl (lives r.home) r.there

queued_one : (ready : List ℕ) (who : ℕ) → occurs who ready ≡ 1 → has_answer ready ≡ true
queued_one [] who e = absurd (omega arith)
queued_one (n ∷ ns) who e = refl

main_there : {V : Type 0} (w : World V) → FitsTogether w → w.ended ≡ None → is_there w 1 ≡ true
main_there w fits e = sym fits.main ∙ ap is_none e

pub root_goes_on : {V : Type 0} (p : Program V) → RootGoesOn p
root_goes_on p k well long order settled rest e lives_on =
    let there = main_there k.world order.fits lives_on in
    let one = deeper k.world 0 (record { order = order; long = long; settled = settled; rest = rest }) e (length k.world.scopes.homes) 0 1 (omega arith) refl (there_inside k.world 1 order.fits there) there in
    queued_one k.ready one.who (well.queue.once one.who ∙ ap bit one.answered)

pub bundle_goes_on : {V : Type 0} (p : Program V) → BundleGoesOn p
bundle_goes_on {V} p k name well long order settled rest e lived =
    let one = closing_goes_on V k.world name order long settled rest e lived in
    record { who = one.who; inside = one.inside; queued = well.queue.once one.who ∙ ap bit one.answered }
