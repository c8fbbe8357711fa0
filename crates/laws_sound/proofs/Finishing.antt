-- Bundles that have closed, coroutines that come and go: what keeps a world in order.
use Rattle.std.proofs.Common.{◌≡◌, ◌∙◌, ℕ, zero, suc, ◌≤◌, ◌==◌, List, [], ◌∷◌, ◌++◌, map, find, fold, Bool, true, false, not, ◌&&◌, ◌||◌, cond, Option, Some, None, refl, sym, ap, subst, arith}
use Rattle.std.proofs.lemmas.Bool.{and_parts, and_from}
use Rattle.std.specs.Prelude.{is_some, nat_le, filter, option_and_then}
use Rattle.std.specs.List.{list_all}
use Rattle.std.proofs.lemmas.Bool.Decides.{nat_tests}
use Rattle.dill_calls.specs.declared.answer.Answer.{Answer}
use Rattle.dill_calls.specs.declared.call.Call.TheVariants as calls
use Rattle.dill_calls.specs.declared.ran.Note.TheVariants.{Freed}
use Rattle.dill_calls.specs.declared.word.Word.TheVariants as words
use Rattle.dill_chan.specs.Channels as channels
use Rattle.dill_handles.specs.declared.entry.Entry.{Entry}
use Rattle.dill_scope.specs.declared.forest.Bundle.{Bundle}
use Rattle.dill_scope.specs.Scopes as scopes
use Rattle.dill_scope.specs.Scopes.{Scopes, is_bundle, owner_of, is_empty, bundles_of}
use Rattle.dill_scope.proofs.Numbered.{found_number}
use Rattle.dill_base.specs.Maps.{if_some, without}
use Rattle.dill_rules.specs.declared.coroutine.Closing.{Closing}
use Rattle.dill_rules.specs.declared.coroutine.Coroutine.{Coroutine}
use Rattle.dill_rules.specs.declared.coroutine.Mode.TheVariants as modes
use Rattle.dill_rules.specs.declared.thing.Thing.{Thing}
use Rattle.dill_rules.specs.Giving.{give_close}
use Rattle.dill_rules.specs.Owning.{is_dead_as, free_bundle}
use Rattle.dill_rules.specs.Settling.{highest_first, is_clear, is_owned_by, free_all}
use Rattle.dill_rules.specs.Taking.{bundle_of}
use Rattle.dill_rules.specs.World.{World, is_coroutine, coroutine_of, with_mode, set_mode, reply, is_ending}
use Rattle.laws_queue.specs.Well.{bit, is_at}
use Rattle.laws_sound.proofs.Lists.{all_found, all_without, all_follow, all_both, all_from}
use Rattle.laws_sound.specs.Order.{closes, waits_for, is_there, has_bundle, is_held, is_kept_open, has_waiter, has_closing, FitsTogether, IsInOrder}
use Rattle.laws_sound.specs.Orderly.{weigh}
use Rattle.laws_sound.proofs.Counting.{weightless, weighs_found, heavy_found, weigh_found, none_left, only_found, small_bit}
use Rattle.laws_sound.proofs.Crews.{change_here}
use Rattle.laws_sound.proofs.Fitting.{names_it, closes_it, died_as, used_is, named, named_is}
use Rattle.laws_queue.proofs.Numbers.{found_number as number_found}
use Rattle.laws_sound.proofs.Handing.{equal, unequal, same_number}
use Rattle.laws_sound.proofs.Nearly.{Nearly, nearly, near_set, settle_in}
use Rattle.laws_sound.proofs.Ordering.{apart, all_true, order_anyway, going_open}
use Rattle.laws_sound.proofs.Owners.{owns, owns_is, owns_as, drop_other, drop_here}
use Rattle.laws_sound.proofs.Shutting.{near_freed}
use Rattle.laws_sound.proofs.Sorting.{sorted_weight, sorted_all, picked_less, picked_same, picked_all}
use Rattle.laws_sound.proofs.Sound.{owner_is}

module _ {V : Type 0} where
  -- a closing is named by no live number beside
  closing_unnamed : (w : World V) (x : Closing) (pick : Closing → Bool) → FitsTogether w → find pick w.closings ≡ Some x → weigh (λ y. bit (names_it x.bundle y)) w.handles.entries ≡ 0
  closing_unnamed w x pick f e =
      let n : named w.handles.entries w.closings x.bundle ≡ bit (is_some (owner_of w.scopes x.bundle)) = sym (named_is w.handles.entries w.closings x.bundle) ∙ f.names x.bundle in
      let low = small_bit (is_some (owner_of w.scopes x.bundle)) in
      let one = weighs_found pick (closes_it x.bundle) w.closings x e (same_number x.bundle) in
      omega (arith, n, low, one)

  -- the closing of a number is found, and is that of its waiter
  record Held (w : World V) (who number : ℕ) : Type 0 where
    one : Closing
    found : find (is_dead_as number) w.closings ≡ Some one
    owned : owner_of w.scopes one.bundle ≡ Some who

  held_closing : (w : World V) (who number : ℕ) (c : Coroutine V) → IsInOrder w → coroutine_of w who ≡ Some c → c.mode ≡ modes.Pending (calls.Hclose number) → Held w who number
  held_closing w who number c o e m = at (find (is_dead_as number) w.closings) refl
      (ap (λ k. if_some (closes k) true (λ n. if_some (find (is_dead_as n) w.closings) false (λ x. has_bundle w c.number x.bundle))) (sym m) ∙ all_found (has_closing w) (is_coroutine who) w.coroutines c o.waiters e)
    where
      at : (p : Option Closing) → find (is_dead_as number) w.closings ≡ p → if_some p false (λ x. has_bundle w c.number x.bundle) ≡ true → Held w who number
      at None f g = cc
      at (Some x) f g = record { one = x; found = f; owned = owner_is (owner_of w.scopes x.bundle) c.number g ∙ ap (λ n. Some n) (number_found who w.coroutines c e) }

  -- no other closing is its own
  not_waiting : (w : World V) (who number : ℕ) (c : Coroutine V) (y : Closing) → coroutine_of w who ≡ Some c → c.mode ≡ modes.Pending (calls.Hclose number) → has_waiter w y ≡ true → not (died_as number y) ≡ true → not (owns w.scopes who y.bundle) ≡ true
  not_waiting w who number c y e m h n = at (owner_of w.scopes y.bundle) h
    where
      at : (p : Option ℕ) → if_some p false (is_at (waits_for y.number) w.coroutines) ≡ true → not (if_some p false (λ owner. owner == who)) ≡ true
      at None f = refl
      at (Some k) f = by (k == who) refl
        where
          by : (b : Bool) → (k == who) ≡ b → not b ≡ true
          by true g =
              let there : is_at (waits_for y.number) w.coroutines k ≡ waits_for y.number c.mode = ap (is_at (waits_for y.number) w.coroutines) (equal k who g) ∙ ap (λ q. if_some q false (λ d. waits_for y.number d.mode)) e in
              let t : (number == y.number) ≡ true = ap (waits_for y.number) (sym m) ∙ sym there ∙ f in
              absurd (apart y.number number n (sym (equal number y.number t)))
          by false g = refl

  -- an `hclose` is answered
  pub order_give_close : (w : World V) (who number : ℕ) (c : Coroutine V) (answer : Answer) → IsInOrder w → coroutine_of w who ≡ Some c → c.mode ≡ modes.Pending (calls.Hclose number) → ((x : Closing) → find (is_dead_as number) w.closings ≡ Some x → is_empty w.scopes x.bundle ≡ true) → IsInOrder (give_close w who number answer)
  order_give_close w who number c answer o e m empty =
      let h = held_closing w who number c o e m in
      let x = h.one in
      let none = closing_unnamed w x (is_dead_as number) o.fits h.found in
      let freed = free_bundle w x in
      let mode = modes.Fresh words.Hclose answer in
      let v = set_mode freed who mode in
      let ks = without (closes_it x.bundle) w.closings in
      let n : named w.handles.entries w.closings x.bundle ≡ bit (is_some (owner_of w.scopes x.bundle)) = sym (named_is w.handles.entries w.closings x.bundle) ∙ o.fits.names x.bundle in
      let low = small_bit (is_some (owner_of w.scopes x.bundle)) in
      let few : weigh (λ y. bit (closes_it x.bundle y)) w.closings ≤ 1 = omega (arith, n, low) in
      let gone : weigh (λ y. bit (closes_it x.bundle y)) ks ≡ 0 = none_left (closes_it x.bundle) w.closings few in
      let it = only_found (is_dead_as number) (closes_it x.bundle) w.closings x h.found (same_number x.bundle) few in
      let u = used_is w.handles.entries w.closings number in
      let k = o.fits.numbers number in
      let small = small_bit (nat_le number w.handles.last) in
      let dead : bit (died_as number x) ≡ 1 = ap (λ j. bit (j == number)) (found_number (λ (y : Closing). y.number) number w.closings x h.found) ∙ ap bit (same_number number) in
      let less = weigh_found (λ y. bit (died_as number y)) (closes_it x.bundle) w.closings x it in
      let other : weigh (λ y. bit (died_as number y)) ks ≡ 0 = omega (arith, u, k, small, dead, less) in
      let near = near_set freed who mode (near_freed w who x (nearly w who o) h.owned none (empty x h.found)) in
      let here = change_here (with_mode mode) (λ d. refl) who w.coroutines c e in
      let in_order = settle_in v who (with_mode mode c) near here
      (all_from (λ y. not (closes_it x.bundle y)) (λ y. has_waiter w y && not (died_as number y)) (λ y. not (owns freed.scopes who y.bundle) || waits_for y.number mode) ks
      (λ y f g. let b = and_parts (has_waiter w y) (not (died_as number y)) g in ap (λ t. t || waits_for y.number mode) (ap not (owns_as w.scopes freed.scopes who y.bundle (drop_other w.scopes x.bundle y.bundle (apart y.bundle x.bundle f))) ∙ not_waiting w who number c y e m b.0 b.1))
      (weightless (closes_it x.bundle) ks gone) (all_both (has_waiter w) (λ y. not (died_as number y)) ks (all_without (has_waiter w) (closes_it x.bundle) w.closings o.closings) (weightless (died_as number) ks other)))
      refl (going_open v who (with_mode mode c) here refl) in
      subst (λ p. IsInOrder (reply (if_some p w (free_bundle w)) who words.Hclose answer)) (sym h.found) (order_anyway v (channels.leave w.channels who) w.links w.place w.random w.moment (w.notes ++ Freed x.number ∷ []) in_order)

-- a bundle that is found is one of its owner's
bundles_all : (test : ℕ → Bool) (bs : List Bundle) (who name : ℕ) (z : Bundle) → list_all test (map (λ x. x.name) (filter (λ x. if_some x.owner false (λ o. o == who)) bs)) ≡ true → find (is_bundle name) bs ≡ Some z → z.owner ≡ Some who → test z.name ≡ true
bundles_all test [] who name z e f g = cc
bundles_all test (x ∷ bs) who name z e f g = at (is_bundle name x) (if_some x.owner false (λ o. o == who)) refl f e (bundles_all test bs who name z)
  where
    at : (t b : Bool) → (if_some x.owner false (λ o. o == who)) ≡ b → cond t (Some x) (find (is_bundle name) bs) ≡ Some z → list_all test (map (λ y. y.name) (cond b (x ∷ filter (λ y. if_some y.owner false (λ o. o == who)) bs) (filter (λ y. if_some y.owner false (λ o. o == who)) bs))) ≡ true → (list_all test (map (λ y. y.name) (filter (λ y. if_some y.owner false (λ o. o == who)) bs)) ≡ true → find (is_bundle name) bs ≡ Some z → z.owner ≡ Some who → test z.name ≡ true) → test z.name ≡ true
    at true true h i j rest = let it : x ≡ z = cc in ap (λ y. test y.name) (sym it) ∙ (and_parts (test x.name) (list_all test (map (λ y. y.name) (filter (λ y. if_some y.owner false (λ o. o == who)) bs))) j).0
    at true false h i j rest =
        let it : x ≡ z = cc in
        let n : if_some z.owner false (λ o. o == who) ≡ false = ap (λ y. if_some y.owner false (λ o. o == who)) (sym it) ∙ h in
        let t : if_some z.owner false (λ o. o == who) ≡ true = ap (λ p. if_some p false (λ o. o == who)) g ∙ same_number who in
        cc
    at false true h i j rest = rest (and_parts (test x.name) (list_all test (map (λ y. y.name) (filter (λ y. if_some y.owner false (λ o. o == who)) bs))) j).1 i g
    at false false h i j rest = rest j i g

-- all of its bundles are empty
clear_empty : (s : Scopes) (who name : ℕ) → list_all (is_empty s) (bundles_of s who) ≡ true → owner_of s name ≡ Some who → is_empty s name ≡ true
clear_empty s who name e f = at (find (is_bundle name) s.bundles) refl f
  where
    at : (p : Option Bundle) → find (is_bundle name) s.bundles ≡ p → option_and_then (λ x. x.owner) p ≡ Some who → is_empty s name ≡ true
    at None g h = cc
    at (Some z) g h = ap (is_empty s) (sym (found_number (λ (x : Bundle). x.name) name s.bundles z g)) ∙ bundles_all (is_empty s) s.bundles who name z e g h

module _ {V : Type 0} where
  -- who is ending has no live number of a bundle
  ending_unnamed : (w : World V) (who name : ℕ) (c : Coroutine V) → IsInOrder w → coroutine_of w who ≡ Some c → is_ending c.mode ≡ true → owner_of w.scopes name ≡ Some who → weigh (λ y. bit (names_it name y)) w.handles.entries ≡ 0
  ending_unnamed w who name c o e ending owned = at (weigh (λ y. bit (names_it name y)) w.handles.entries) refl
    where
      at : (k : ℕ) → weigh (λ y. bit (names_it name y)) w.handles.entries ≡ k → k ≡ 0
      at zero f = refl
      at (suc k) f =
          let y = heavy_found (names_it name) w.handles.entries (omega (arith, f)) in
          let held = (and_parts (is_there w y.0.owner) (if_some (bundle_of y.0.thing) true (has_bundle w y.0.owner)) (all_found (is_held w) (names_it name) w.handles.entries y.0 o.fits.held y.1)).1 in
          let kept = all_found (is_kept_open w) (names_it name) w.handles.entries y.0 o.endings y.1 in
          absurd (by y.0 (bundle_of y.0.thing) y.2 held kept)
        where
          by : (y : Entry Thing) (p : Option ℕ) → if_some p false (λ m. m == name) ≡ true → if_some p true (has_bundle w y.owner) ≡ true → if_some p true (λ n. not (is_at is_ending w.coroutines y.owner)) ≡ true → ⊥
          by y None g h i = cc
          by y (Some m) g h i =
              let it : owner_of w.scopes m ≡ Some y.owner = owner_is (owner_of w.scopes m) y.owner h in
              let same : owner_of w.scopes name ≡ Some y.owner = subst (λ n. owner_of w.scopes n ≡ Some y.owner) (equal m name g) it in
              let mine : who ≡ y.owner = cc in
              let t : is_at is_ending w.coroutines y.owner ≡ true = ap (is_at is_ending w.coroutines) (sym mine) ∙ ap (λ q. if_some q false (λ d. is_ending d.mode)) e ∙ ending in
              let n : not true ≡ true = ap not (sym t) ∙ i in
              cc

  -- closings that are to be freed: empty bundles that no live number names
  ready : World V → ℕ → Closing → Bool
  ready w who x = is_empty w.scopes x.bundle && nat_le (weigh (λ y. bit (names_it x.bundle y)) w.handles.entries) 0

  record Freeing (w : World V) (who : ℕ) (xs : List Closing) : Type 0 where
    near : Nearly w who
    fit : list_all (ready w who) xs ≡ true
    owned : list_all (λ x. owns w.scopes who x.bundle) xs ≡ true
    each : (name : ℕ) → weigh (λ x. bit (closes_it name x)) xs ≤ 1
    every : (name : ℕ) → owner_of w.scopes name ≡ Some who → 1 ≤ weigh (λ x. bit (closes_it name x)) xs

  -- no bundle of its own is left
  pub record Bare (w v : World V) (who : ℕ) : Type 0 where
    pub near : Nearly v who
    pub crew : v.coroutines ≡ w.coroutines
    pub entries : v.handles ≡ w.handles
    pub none : (name : ℕ) → owner_of v.scopes name ≡ Some who → ⊥

  free_each : (xs : List Closing) (w : World V) (who : ℕ) → Freeing w who xs → Bare w (fold free_bundle w xs) who
  unfolding ready
  free_each [] w who h = record { near = h.near; crew = refl; entries = refl; none = λ name e. let n = h.every name e in absurd (omega (arith, n)) }
  free_each (x ∷ xs) w who h =
      let b = and_parts (ready w who x) (list_all (ready w who) xs) h.fit in
      let c = and_parts (is_empty w.scopes x.bundle) (nat_le (weigh (λ y. bit (names_it x.bundle y)) w.handles.entries) 0) b.0 in
      let o = and_parts (owns w.scopes who x.bundle) (list_all (λ y. owns w.scopes who y.bundle) xs) h.owned in
      let mine = owner_is (owner_of w.scopes x.bundle) who o.0 in
      let none : weigh (λ y. bit (names_it x.bundle y)) w.handles.entries ≡ 0 = no_more (weigh (λ y. bit (names_it x.bundle y)) w.handles.entries) c.1 in
      let v = free_bundle w x in
      let one : bit (closes_it x.bundle x) ≡ 1 = ap bit (same_number x.bundle) in
      let once = h.each x.bundle in
      let gone : weigh (λ y. bit (closes_it x.bundle y)) xs ≡ 0 = omega (arith, one, once) in
      let next = free_each xs v who (record {
        near = near_freed w who x h.near mine none c.0;
        fit = b.1;
        owned = all_from (λ y. not (closes_it x.bundle y)) (λ y. owns w.scopes who y.bundle) (λ y. owns v.scopes who y.bundle) xs
            (λ y f g. owns_as w.scopes v.scopes who y.bundle (drop_other w.scopes x.bundle y.bundle (apart y.bundle x.bundle f)) ∙ g) (weightless (closes_it x.bundle) xs gone) o.1;
        each = λ name. let l = h.each name in omega (arith, l);
        every = λ name e. later name e (x.bundle == name) refl mine;
      }) in
      record { near = next.near; crew = next.crew; entries = next.entries; none = next.none }
    where
      no_more : (k : ℕ) → nat_le k 0 ≡ true → k ≡ 0
      no_more k e = grind (arith, nat_tests)

      later : (name : ℕ) → owner_of (free_bundle w x).scopes name ≡ Some who → (t : Bool) → (x.bundle == name) ≡ t → owner_of w.scopes x.bundle ≡ Some who → 1 ≤ weigh (λ y. bit (closes_it name y)) xs
      later name e true f mine =
          let gone : owner_of (scopes.drop_bundle w.scopes x.bundle) name ≡ None = subst (λ n. owner_of (scopes.drop_bundle w.scopes x.bundle) n ≡ None) (equal x.bundle name f) (drop_here w.scopes x.bundle h.near.fits.forest) in
          cc
      later name e false f mine =
          let same = drop_other w.scopes x.bundle name (λ g. unequal x.bundle name f (sym g)) in
          let n = h.every name (sym same ∙ e) in
          let nought : bit (closes_it name x) ≡ 0 = ap bit f in
          omega (arith, n, nought)

  -- all bundles of one that is ending are gone
  pub free_bare : (w : World V) (who : ℕ) (c : Coroutine V) → IsInOrder w → coroutine_of w who ≡ Some c → is_ending c.mode ≡ true → is_clear w who ≡ true → Bare w (free_all w who) who
  unfolding ready
  free_bare w who c o e ending clear =
      free_each (highest_first mine) w who (record {
        near = nearly w who o;
        fit = sorted_all (ready w who) mine (picked_all (is_owned_by w who) (ready w who) w.closings (all_follow (λ x. true) (λ x. not (is_owned_by w who x) || ready w who x) w.closings (λ x f. fit x (is_owned_by w who x) refl) (all_true w.closings)));
        owned = sorted_all (λ x. owns w.scopes who x.bundle) mine (picked_all (is_owned_by w who) (λ x. owns w.scopes who x.bundle) w.closings (all_follow (λ x. true) (λ x. not (is_owned_by w who x) || owns w.scopes who x.bundle) w.closings (λ x f. excluded (is_owned_by w who x)) (all_true w.closings)));
        each = λ name.
            let s = sorted_weight (λ x. bit (closes_it name x)) mine in
            let l = picked_less (is_owned_by w who) (λ x. bit (closes_it name x)) w.closings in
            let n = names name in
            let b = small_bit (is_some (owner_of w.scopes name)) in
            omega (arith, s, l, n, b);
        every = λ name f.
            let s = sorted_weight (λ x. bit (closes_it name x)) mine in
            let l = picked_same (is_owned_by w who) (closes_it name) w.closings (λ x g. owns_is w.scopes who x.bundle (subst (λ m. owner_of w.scopes m ≡ Some who) (sym (equal x.bundle name g)) f)) in
            let n = names name in
            let u = ending_unnamed w who name c o e ending f in
            let b : bit (is_some (owner_of w.scopes name)) ≡ 1 = ap (λ p. bit (is_some p)) f in
            omega (arith, s, l, n, u, b);
      })
    where
      mine : List Closing
      mine = filter (is_owned_by w who) w.closings

      names : (name : ℕ) → named w.handles.entries w.closings name ≡ bit (is_some (owner_of w.scopes name))
      names name = sym (named_is w.handles.entries w.closings name) ∙ o.fits.names name

      excluded : (b : Bool) → (not b || b) ≡ true
      excluded true = refl
      excluded false = refl

      none_le : (k : ℕ) → k ≡ 0 → nat_le k 0 ≡ true
      none_le k f = grind (arith, nat_tests)

      fit : (x : Closing) (b : Bool) → is_owned_by w who x ≡ b → (not b || ready w who x) ≡ true
      fit x false f = refl
      fit x true f =
          let owned = owner_is (owner_of w.scopes x.bundle) who f in
          and_from (is_empty w.scopes x.bundle) (nat_le (weigh (λ y. bit (names_it x.bundle y)) w.handles.entries) 0) (clear_empty w.scopes who x.bundle clear owned) (none_le (weigh (λ y. bit (names_it x.bundle y)) w.handles.entries) (ending_unnamed w who x.bundle c o e ending owned))
