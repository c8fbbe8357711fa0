-- The worlds of a step in which a bundle is closing: who is inside it stays the same, but for who is gone, and is cancelled.
use Rattle.std.proofs.Common.{◌≡◌, ◌∙◌, ◌⊎◌, inl, inr, ◌+◌, ◌≤◌, ◌==◌, ℕ, zero, suc, List, [], ◌∷◌, length, map, find, Bool, true, false, ◌&&◌, Option, Some, None, option_map, is_some, nat_le, if◌then◌else◌, refl, sym, ap, subst, arith}
use Rattle.std.proofs.lemmas.Bool.{and_parts}
use Rattle.std.specs.Prelude.{option_and_then}
use Rattle.std.specs.List.{AllByRecursion}
use Rattle.dill_calls.specs.declared.answer.Answer.TheVariants.{Fault}
use Rattle.dill_calls.specs.declared.ran.LackPlace.{LackPlace}
use Rattle.dill_calls.specs.CallTable.{word_of, build_takes_memory}
use Rattle.dill_calls.specs.Program.{Program, Move, Calls, Ends}
use Rattle.dill_handles.specs.Handles as handles
use Rattle.dill_handles.specs.declared.entry.Entry.{Entry}
use Rattle.dill_scope.specs.declared.forest.Bundle.{Bundle}
use Rattle.dill_scope.specs.declared.forest.Home.{Home}
use Rattle.dill_scope.specs.Scopes.{Scopes, is_bundle, owner_of, is_inside}
use Rattle.dill_scope.specs.Forest.{Inside, lives, under, Rooted, at_root, below, IsForest}
use Rattle.dill_scope.specs.Keeping.{IsThere}
use Rattle.dill_scope.proofs.Carrying.{parent_told}
use Rattle.dill_scope.proofs.Chains.{search_is_inside}
use Rattle.dill_scope.proofs.Numbered.{none_below}
use Rattle.dill_base.specs.Maps.{if_some}
use Rattle.dill_rules.specs.declared.coroutine.Coroutine.{Coroutine}
use Rattle.dill_rules.specs.declared.thing.Thing.{Thing}
use Rattle.dill_rules.specs.World.{World, coroutine_of, reply}
use Rattle.dill_rules.specs.Entering.{entered, lack_fault}
use Rattle.dill_rules.specs.Owning.{entry_of}
use Rattle.dill_rules.specs.Taking.{bundle_of, is_cancelled}
use Rattle.dill_rules.specs.Settling.{end, settle_one, settle_within, settle}
use Rattle.dill_rules.specs.Turning.{is_build, is_entry, may_lack_build, resume, answer_given, move_of, make_move, lack_move, go_on}
use Rattle.laws_sound.specs.Linkless.{MovesLinkless, IsLinkless}
use Rattle.laws_queue.specs.Well.{bit, occurs}
use Rattle.laws_sound.proofs.Lists.{all_found}
use Rattle.laws_sound.proofs.Steps.{settle_one_linkless, pass_linkless}
use Rattle.laws_sound.specs.Laws.{is_closing}
use Rattle.laws_sound.specs.Order.{is_there, is_held, has_bundle, IsInOrder}
use Rattle.laws_sound.specs.Orderly.{IsOrderly}
use Rattle.laws_sound.proofs.Counting.{holds, weigh_filter, weighs_found}
use Rattle.laws_sound.proofs.Fitting.{next_is_new, there_is}
use Rattle.laws_sound.proofs.Answering.{settle_one_good}
use Rattle.laws_sound.proofs.Owners.{owned_no_root}
use Rattle.laws_sound.proofs.Sound.{owner_is, inside_cancelled, closing_found}
use Rattle.laws_debt.specs.Flags.{IsFlagged, HasFlags}
use Rattle.laws_sound.proofs.Turns.{entered_linkless}
use Rattle.laws_debt.proofs.Flagging.{closed_names}
use Rattle.laws_debt.proofs.Holding.{Facts, TracksIn, tracks_clear, enter_tracks, end_tracks}
use Rattle.laws_debt.proofs.Lasting.{settle_one_quiet}
use Rattle.laws_queue.proofs.Lists as lists
use Rattle.laws_queue.proofs.Lists.{equal_number, number_of, all_to}
use Rattle.laws_debt.proofs.Walking.{AllSit, leads_sits, settle_one_calm, settle_calm, Leads}
use Rattle.laws_debt.proofs.Shutting.{AllHold, settle_one_shut, IsShutAs, shut_lasts}
use Rattle.laws_debt.proofs.Tracking.{Tracks, inside_same}

-- ---- what is known of a world in order

-- each of a list is found by its key, where no key stands twice
module _ {X : Type 0} (key : X → ℕ) where
  counted : (y : X) (xs : List X) → find (λ z. key z == key y) xs ≡ Some y → 1 ≤ occurs (key y) (map key xs)
  counted y [] e = cc
  counted y (x ∷ xs) e = at (key x == key y) e (counted y xs)
    where
      at : (c : Bool) → (if c then Some x else find (λ z. key z == key y) xs) ≡ Some y → (find (λ z. key z == key y) xs ≡ Some y → 1 ≤ occurs (key y) (map key xs)) → 1 ≤ bit c + occurs (key y) (map key xs)
      at true f r = omega arith
      at false f r = let s = r f in omega (arith, s)

  pub all_once : (xs : List X) → ((n : ℕ) → occurs n (map key xs) ≤ 1) → AllByRecursion (λ y. find (λ z. key z == key y) xs ≡ Some y) xs
  all_once [] h = tt
  all_once (x ∷ xs) h = (
    rw (equal_number (key x) (key x) refl) refl,
    all_to (λ y. find (λ z. key z == key y) xs ≡ Some y) (λ y. find (λ z. key z == key y) (x ∷ xs) ≡ Some y) xs (λ y e. later y e) (all_once xs (λ n. let m = h n in omega (arith, m))),
  )
    where
      pick : (y : X) (c : Bool) → (key x == key y) ≡ c → 1 ≤ occurs (key y) (map key xs) → c ≡ false
      pick y true i o = absurd (let m = h (key y) in let one : bit (key x == key y) ≡ 1 = ap bit i in omega (arith, m, one, o))
      pick y false i o = refl

      later : (y : X) → find (λ z. key z == key y) xs ≡ Some y → find (λ z. key z == key y) (x ∷ xs) ≡ Some y
      later y e = rw (pick y (key x == key y) refl (counted y xs e)) e

bit_small : (c : Bool) → bit c ≤ 1
bit_small true = omega arith
bit_small false = omega arith

module _ {V : Type 0} where
  held_owned : (w : World V) → IsInOrder w → (n : ℕ) (x : Entry Thing) (name : ℕ) → entry_of w n ≡ Some x → bundle_of x.thing ≡ Some name → owner_of w.scopes name ≡ Some x.owner
  held_owned w o n x name e f =
      let held = all_found (is_held w) (handles.is_entry n) w.handles.entries x o.fits.held e in
      let part = and_parts (is_there w x.owner) (if_some (bundle_of x.thing) true (has_bundle w x.owner)) held in
      let has : has_bundle w x.owner name ≡ true = sym (ap (λ q. if_some q true (has_bundle w x.owner)) f) ∙ part.1 in
      owner_is (owner_of w.scopes name) x.owner has

  once_used : (w : World V) → IsInOrder w → (n : ℕ) → occurs n (map (λ x. x.number) w.handles.entries) ≤ 1
  once_used w o n =
      let u = o.fits.numbers n in
      let s = bit_small (nat_le n w.handles.last) in
      omega (arith, u, s)

  -- no live number names a bundle that is closing
  closing_dead : (w : World V) (b : ℕ) → IsInOrder w → HasFlags w → is_closing w.scopes b ≡ true → (n : ℕ) (x : Entry Thing) → entry_of w n ≡ Some x → bundle_of x.thing ≡ Some b → ⊥
  closing_dead w b o flags c n x e f =
      let y = closing_found w.scopes b c in
      let flagged = lists.all_found (IsFlagged w.closings) (is_bundle b) y.0 w.scopes.bundles y.1 flags.flagged y.2 in
      let name : y.0.name ≡ b = number_of y.0.name b (lists.found_passes (is_bundle b) w.scopes.bundles y.0 y.1) in
      let owned = held_owned w o n x b e f in
      at name flagged owned
    where
      at : {m : ℕ} → m ≡ b → (m ≡ 0) ⊎ (1 ≤ occurs m (closed_names w.closings)) → owner_of w.scopes b ≡ Some x.owner → ⊥
      at i (inl z) owned = owned_no_root w.scopes b x.owner o.fits.forest owned (sym i ∙ z)
      at i (inr z) owned =
          let there : holds (bundle_of x.thing) b ≡ true = ap (λ q. holds q b) f ∙ equal_number b b refl in
          let live = weighs_found (handles.is_entry n) (λ (y : Entry Thing). holds (bundle_of y.thing) b) w.handles.entries x e there in
          let same = weigh_filter (λ (y : Entry Thing). bundle_of y.thing) b w.handles.entries in
          let noted = subst (λ k. 1 ≤ occurs k (closed_names w.closings)) i z in
          let names = o.fits.names b in
          let small = bit_small (is_some (owner_of w.scopes b)) in
          omega (arith, live, same, noted, names, small)

  pub facts_of : (w : World V) (b : ℕ) → IsInOrder w → HasFlags w → is_closing w.scopes b ≡ true → Facts w b
  facts_of w b o flags c = record {
    off = λ n i. inside_cancelled w.scopes b n o.fits.forest.forest c i;
    owned = held_owned w o;
    each = all_once (λ (x : Entry Thing). x.number) w.handles.entries (once_used w o);
    dead = closing_dead w b o flags c;
    known = let y = closing_found w.scopes b c in ap (λ (q : Option Bundle). is_some q) y.1;
    new_bundle = none_below (λ (y : Bundle). y.name) (w.last_bundle + 1) w.scopes.bundles o.fits.bundles;
    new_home = ap (option_map (λ (x : Home). x.bundle)) (none_below (λ (x : Home). x.who) (w.last_coroutine + 1) w.scopes.homes (next_is_new w o.fits));
  }

-- ---- going on

module _ {V : Type 0} (p : Program V) where
  facts_resumed : (w : World V) (who : ℕ) (view : V) (b : ℕ) → Facts w b → Facts (resume w who view) b
  facts_resumed w who view b f = record { off = f.off; owned = f.owned; each = f.each; dead = f.dead; known = f.known; new_bundle = f.new_bundle; new_home = f.new_home }

  from_move : (lack : Option LackPlace) (w : World V) (who : ℕ) (b : ℕ) (short : V) (next : V × Move) → Facts w b → Tracks w.scopes b w.scopes → MovesLinkless next → Tracks w.scopes b (if is_build lack && may_lack_build next.1 then lack_move (resume w who short) who next.1 else make_move p (is_entry lack) (resume w who next.0) who next.0 next.1).scopes
  from_move lack w who b short (new, Calls call) f h linkless = at (is_build lack && build_takes_memory (word_of call))
    where
      at : (c : Bool) → Tracks w.scopes b (if c then reply (resume w who short) who (word_of call) (Fault (lack_fault (resume w who short) who (word_of call))) else make_move p (is_entry lack) (resume w who new) who new (Calls call)).scopes
      at true = h
      at false = enter_tracks p (resume w who new) b (facts_resumed w who new b f) (is_entry lack) who new (entered w.moment call) (entered_linkless w.moment call linkless) h
  from_move lack w who b short (new, Ends outcome) f h linkless = at (is_build lack)
    where
      over : Tracks w.scopes b (end (resume w who new) who outcome).scopes
      over = end_tracks p (resume w who new) b (facts_resumed w who new b f) who outcome h

      at : (c : Bool) → Tracks w.scopes b (if c && false then resume w who short else make_move p (is_entry lack) (resume w who new) who new (Ends outcome)).scopes
      at true = over
      at false = over

  pub go_on_tracks : (lack : Option LackPlace) (w : World V) (who : ℕ) (view : V) (b : ℕ) → Facts w b → Tracks w.scopes b w.scopes → MovesLinkless (move_of p w who view) → Tracks w.scopes b (go_on p lack w who view).scopes
  go_on_tracks lack w who view b f h linkless = from_move lack w who b (p.short view (answer_given w who).1) (move_of p w who view) f h linkless

-- ---- the worlds of a step

-- Somebody is there and inside a bundle. Then the bundle is there.
holds_home : {V : Type 0} (w : World V) (b n : ℕ) → IsInOrder w → Inside w.scopes b n → is_some (find (is_bundle b) w.scopes.bundles) ≡ true
holds_home w b n o (lives e) = at (o.fits.forest.forest.rooted n b e)
  where
    some_bundle : (q : Option Bundle) (owner : ℕ) → option_and_then (λ (y : Bundle). y.owner) q ≡ Some owner → is_some q ≡ true
    some_bundle None owner f = cc
    some_bundle (Some y) owner f = refl

    at : Rooted w.scopes n → is_some (find (is_bundle b) w.scopes.bundles) ≡ true
    at (at_root f) = let same : b ≡ 0 = lists.some_same b 0 (sym e ∙ f) in subst (λ k. is_some (find (is_bundle k) w.scopes.bundles) ≡ true) (sym same) o.fits.forest.ordered.root
    at (below up f r) =
        let p = parent_told w.scopes n up f in
        let same : p.home ≡ b = lists.some_same p.home b (sym p.lives_in ∙ e) in
        some_bundle (find (is_bundle b) w.scopes.bundles) up (subst (λ k. owner_of w.scopes k ≡ Some up) same p.owned)
holds_home w b n o (under above e i) = holds_home w b above o i

some_closing : (q : Option Bundle) → is_some q ≡ true → ((x : Bundle) → q ≡ Some x → x.closing ≡ true) → if_some q false (λ x. x.closing) ≡ true
some_closing None e h = cc
some_closing (Some x) e h = h x refl

module _ {V : Type 0} (p : Program V) (s : Scopes) (b : ℕ) (forest : IsForest s) where
  -- who is inside the bundle, before the step
  abbrev pub in_tree : ℕ → Bool
  in_tree n = is_inside s b n

  pub record InTree (w : World V) : Type 0 where
    pub linkless : IsLinkless w
    pub order : IsOrderly w
    pub sits : AllSit p w.coroutines
    pub holds : AllHold (IsShutAs b) b w
    pub tracks : Tracks s b w.scopes

  -- the same are inside
  pub tree_same : (w : World V) (n : ℕ) → IsInOrder w → Tracks s b w.scopes → IsThere w.scopes n → is_inside w.scopes b n ≡ in_tree n
  tree_same w n o t there = inside_same s b w.scopes t forest o.fits.forest n there

  -- and cancelled
  pub tree_off : (w : World V) (who : ℕ) (c : Coroutine V) → InTree w → coroutine_of w who ≡ Some c → in_tree who ≡ true → is_cancelled w who ≡ true
  tree_off w who c i e t =
      let there = there_is w who i.order.order.fits (ap (λ (q : Option (Coroutine V)). is_some q) e) in
      let inside = (search_is_inside w.scopes b who i.order.order.fits.forest.forest).0 (tree_same w who i.order.order i.tracks there ∙ t) in
      let closing = some_closing (find (is_bundle b) w.scopes.bundles) (holds_home w b who i.order.order inside) (λ x f. lists.all_found (IsShutAs b) (is_bundle b) x w.scopes.bundles f i.holds.bundles (lists.found_passes (is_bundle b) w.scopes.bundles x f)) in
      inside_cancelled w.scopes b who i.order.order.fits.forest.forest closing inside

  one_leads : (w : World V) → InTree w → Leads p in_tree w (settle_one w)
  one_leads w i = settle_one_calm p in_tree InTree tree_off w i i.sits i.order.order.fits.numbered

  tree_settles : (w : World V) → InTree w → InTree (settle_one w)
  tree_settles w i = record {
    linkless = settle_one_linkless w i.linkless;
    order = (settle_one_good w i.order).good;
    sits = leads_sits p in_tree w (settle_one w) (one_leads w i) i.sits;
    holds = settle_one_shut (IsShutAs b) b (shut_lasts b) w i.holds;
    tracks = settle_one_quiet (TracksIn s b) (tracks_clear s b) w i.linkless i.tracks;
  }

  pub tree_leads : (w : World V) → InTree w → Leads p in_tree w (settle w)
  tree_leads w i = settle_calm p in_tree InTree tree_off tree_settles w i i.sits i.order.order.fits.numbered

  within_tree : (k : ℕ) (w : World V) → InTree w → InTree (settle_within k w)
  within_tree zero w i = i
  within_tree (suc k) w i = within_tree k (settle_one w) (tree_settles w i)

  pub settled_tree : (w : World V) → InTree w → InTree (settle w)
  settled_tree w i =
      let done = settle_within (length w.coroutines) w in
      let there = within_tree (length w.coroutines) w i in
      subst InTree (sym (pass_linkless done there.linkless)) there
