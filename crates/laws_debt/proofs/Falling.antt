-- A turn while a bundle is closing: what its coroutines owe falls where one of them has the turn, and else isn't raised.
use Rattle.std.proofs.Common.{◌≡◌, ◌∙◌, ◌+◌, ◌≤◌, ◌<◌, ◌==◌, ℕ, List, [], ◌∷◌, find, Bool, true, false, cond, Option, Some, if◌then◌else◌, refl, sym, ap, subst, arith}
use Rattle.std.specs.List.{AllByRecursion}
use Rattle.dill_calls.specs.declared.ran.LackPlace.{LackPlace}
use Rattle.dill_calls.specs.Program.{Program, IsLawful}
use Rattle.dill_scope.specs.declared.forest.Bundle.{Bundle}
use Rattle.dill_scope.specs.Scopes.{is_bundle, is_inside}
use Rattle.dill_scope.specs.Forest.{IsForest}
use Rattle.dill_scope.specs.Keeping.{IsThere}
use Rattle.dill_scope.proofs.Chains.{search_is_inside}
use Rattle.dill_base.specs.Maps.{change}
use Rattle.dill_rules.specs.declared.coroutine.Coroutine.{Coroutine}
use Rattle.dill_rules.specs.declared.coroutine.Mode.{Mode}
use Rattle.dill_rules.specs.declared.coroutine.Mode.TheVariants as modes
use Rattle.dill_rules.specs.World.{World, is_coroutine, coroutine_of, begin, with_mode, is_ending, is_answered}
use Rattle.dill_rules.specs.Settling.{settle, IsSettled}
use Rattle.dill_rules.specs.Turning.{as_running, resume, given_of, answer_given, go_on, turn}
use Rattle.laws_sound.proofs.Sound.{closing_found}
use Rattle.laws_sound.specs.Linkless.{MakesLinkless}
use Rattle.laws_queue.specs.Kept.{Kept}
use Rattle.laws_queue.specs.Laws.{KeepsWell}
use Rattle.laws_queue.specs.Well.{Numbered}
use Rattle.laws_sound.specs.Laws.{is_closing}
use Rattle.laws_sound.specs.Order.{IsInOrder}
use Rattle.laws_debt.specs.Closing.{IsStable}
use Rattle.laws_debt.specs.Flags.{Ranked}
use Rattle.laws_debt.specs.Owed.{share_by}
use Rattle.laws_debt.specs.Says.{Says, SaysIn, IsLowering}
use Rattle.laws_sound.proofs.Linkless.{begin_linkless}
use Rattle.laws_sound.proofs.Turns.{go_on_linkless}
use Rattle.laws_debt.proofs.Within.{KeepsWithin}
use Rattle.laws_debt.proofs.Evolving.{EvolvesCalm, Suits, evolves_calm, evolves_total}
use Rattle.laws_queue.proofs.Evolving.{newborn}
use Rattle.laws_debt.proofs.Holding.{new_outside as new_outside_of}
use Rattle.laws_debt.proofs.Keeping.{good_stable, turn_is}
use Rattle.laws_queue.proofs.Lists.{all_found, all_to, found_passes, number_of, some_same}
use Rattle.laws_debt.proofs.Lowering.{less_at, others_lower, others_share, share_falls, answered_owes}
use Rattle.laws_debt.proofs.Walking.{leads_sits, unlike}
use Rattle.laws_debt.proofs.Shutting.{go_on_shut, IsShutAs, shut_lasts}
use Rattle.laws_debt.proofs.Tracking.{tracks_self, all_by_key}
use Rattle.laws_debt.proofs.Tree.{InTree, tree_same, tree_off, tree_leads, settled_tree, facts_of, go_on_tracks}
use Rattle.laws_debt.proofs.Unmet.{unmet}
use Rattle.laws_debt.proofs.Turning.{sits_resumed, given_is, Went, called, ended, go_on_went, went_leads, all_resumed, total_resumed}
use Rattle.laws_queue.proofs.Numbers.{found_changed, found_number}
use Rattle.laws_sound.specs.Orderly.{weigh}
use Rattle.laws_sound.proofs.Counting.{weigh_change}

-- ---- sums over those inside

module _ {V : Type 0} (p : Program V) (tree : ℕ → Bool) (early : ℕ → Bool) where
  -- what one owes, if it is inside
  abbrev pub share_in : Coroutine V → ℕ
  share_in c = if tree c.number then share_by p early c else 0

  -- the answer of one who is inside lowers, unless it came early
  abbrev pub LowersAt : Coroutine V → Type 0
  LowersAt c = tree c.number ≡ true → IsLowering early c

  inside_less : (t b e : Bool) (x : ℕ) → e ≡ false → (if t then (if b then 0 else x) else 0) ≤ (if t then (if e then 0 else x) else 0)
  inside_less true b e x f = less_at b e x f
  inside_less false b e x f = omega arith

  in_moved : (c : Coroutine V) (mode : Mode) → is_ending c.mode ≡ false → share_in (with_mode mode c) ≤ share_in c
  in_moved c mode e = inside_less (tree c.number) (is_ending mode) (is_ending c.mode) (if early c.number then 1 + p.most c.body else p.left c.body) e

  in_born : (number : ℕ) (view : V) → tree number ≡ false → share_in (newborn number view) ≡ 0
  in_born number view e = ap (λ t. if t then share_by p early (newborn number view) else 0) e

  -- steps besides the turn raise nothing
  pub owed_tree : (cs ds : List (Coroutine V)) (k l : ℕ) → EvolvesCalm p tree cs k ds l → weigh share_in ds ≤ weigh share_in cs
  owed_tree cs ds k l e = evolves_total p tree share_in in_moved in_born cs ds k l e

  suits_lowers : (c : Coroutine V) (mode : Mode) → Suits p tree c mode → LowersAt (with_mode mode c)
  suits_lowers c (modes.Pending call) s t e = tt
  suits_lowers c modes.Running s t e = absurd s
  suits_lowers c (modes.Fresh word answer) s t e = s.1 t
  suits_lowers c (modes.Answered word answer) s t e = absurd s
  suits_lowers c (modes.Ending outcome) s t e = tt

  pub lowers_tree : (cs ds : List (Coroutine V)) (k l : ℕ) → EvolvesCalm p tree cs k ds l → AllByRecursion LowersAt cs → AllByRecursion LowersAt ds
  lowers_tree cs ds k l e a = evolves_calm p tree LowersAt suits_lowers (λ number view b q t. unlike (tree number) q t) cs ds k l e a

-- ---- the world in which a bundle is closing

pub ranked_bound : (bs : List Bundle) (low high name : ℕ) (x : Bundle) → Ranked low bs high → find (is_bundle name) bs ≡ Some x → x.name ≤ high
ranked_bound [] low high name x r e = cc
ranked_bound (y ∷ bs) low high name x r e = at (is_bundle name y) e (λ f. ranked_bound bs (y.name + 1) high name x r.1 f)
  where
    last : (cs : List Bundle) (from : ℕ) → Ranked from cs high → from ≤ high + 1
    last [] from s = s
    last (z ∷ cs) from s = let l = last cs (z.name + 1) s.1 in let m = s.0 in omega (arith, l, m)

    at : (b : Bool) → cond b (Some y) (find (is_bundle name) bs) ≡ Some x → (find (is_bundle name) bs ≡ Some x → x.name ≤ high) → x.name ≤ high
    at true f rest = let it = some_same y x f in subst (λ z. z.name ≤ high) it (let l = last bs (y.name + 1) r.1 in omega (arith, l))
    at false f rest = rest f

module _ {V : Type 0} where
  -- it is closing under its name alone
  pub closing_shut : (w : World V) (b : ℕ) → IsInOrder w → is_closing w.scopes b ≡ true → AllByRecursion (IsShutAs b) w.scopes.bundles
  closing_shut w b o c =
      let x = closing_found w.scopes b c in
      all_to (λ y. find (is_bundle y.name) w.scopes.bundles ≡ Some y) (IsShutAs b) w.scopes.bundles
      (λ y e i.
      let here : find (is_bundle b) w.scopes.bundles ≡ Some y = subst (λ n. find (is_bundle n) w.scopes.bundles ≡ Some y) (number_of y.name b i) e in
      ap (λ z. z.closing) (some_same y x.0 (sym here ∙ x.1)) ∙ x.2) (all_by_key (λ (y : Bundle). y.name) w.scopes.bundles o.fits.forest.ordered.bundles)

module _ {V : Type 0} (p : Program V) (law : IsLawful p) (unlinked : MakesLinkless p) where
  -- a world between steps is one of its own step
  pub tree_self : (k : Kept V) (b : ℕ) → (s : IsStable p k) → is_closing k.world.scopes b ≡ true → InTree p k.world.scopes b s.order.order.fits.forest.forest k.world
  tree_self k b s c =
      let w = k.world in
      let x = closing_found w.scopes b c in
      let name : x.0.name ≡ b = number_of x.0.name b (found_passes (is_bundle b) w.scopes.bundles x.0 x.1) in
      record {
        linkless = s.linkless;
        order = s.order;
        sits = (good_stable p k s).sits;
        holds = record { given = subst (λ n. n ≤ w.last_bundle) name (ranked_bound w.scopes.bundles 0 w.last_bundle b x.0 s.flags.ranked x.1); bundles = closing_shut w b s.order.order c; flags = s.flags };
        tracks = tracks_self w.scopes b s.order.order.fits.forest;
      }

  bool_false : (t : Bool) → (t ≡ true → ⊥) → t ≡ false
  bool_false true h = absurd (h refl)
  bool_false false h = refl

  -- who isn't born yet isn't inside
  pub new_outside : (k : Kept V) (b : ℕ) → (s : IsStable p k) → is_closing k.world.scopes b ≡ true → is_inside k.world.scopes b (k.world.last_coroutine + 1) ≡ false
  new_outside k b s c =
      bool_false (is_inside k.world.scopes b (k.world.last_coroutine + 1))
      (λ e. new_outside_of k.world b (facts_of k.world b s.order.order s.flags c) ((search_is_inside k.world.scopes b (k.world.last_coroutine + 1) s.order.order.fits.forest.forest).0 e))

  -- a step from a world to another, before those that it answered are queued
  pub record Falls (w : World V) (b : ℕ) (early less : ℕ → Bool) (v : World V) : Type 0 where
    pub places : (n : ℕ) → IsThere v.scopes n → is_inside v.scopes b n ≡ is_inside w.scopes b n
    pub lowers : AllByRecursion (LowersAt p (is_inside w.scopes b) less) v.coroutines
    pub owes : weigh (share_in p (is_inside w.scopes b) less) v.coroutines ≤ weigh (share_in p (is_inside w.scopes b) early) w.coroutines

  -- settling behind what has been done
  pub settle_falls : (w moved : World V) (b : ℕ) (forest : IsForest w.scopes) (early less : ℕ → Bool) → InTree p w.scopes b forest moved → AllByRecursion (LowersAt p (is_inside w.scopes b) less) moved.coroutines → weigh (share_in p (is_inside w.scopes b) less) moved.coroutines ≤ weigh (share_in p (is_inside w.scopes b) early) w.coroutines → Falls w b early less (settle moved)
  settle_falls w moved b forest early less i l o =
      let v = settle moved in
      let after = settled_tree p w.scopes b forest moved i in
      let leads = tree_leads p w.scopes b forest moved i in
      let kept = owed_tree p (is_inside w.scopes b) less moved.coroutines v.coroutines moved.last_coroutine v.last_coroutine leads in
      record {
        places = λ n there. tree_same p w.scopes b forest v n after.order.order after.tracks there;
        lowers = lowers_tree p (is_inside w.scopes b) less moved.coroutines v.coroutines moved.last_coroutine v.last_coroutine leads l;
        owes = omega (arith, kept, o);
      }

  module _ (early less : ℕ → Bool) (who : ℕ) (gone : less who ≡ false) (same : (n : ℕ) → (n == who) ≡ false → less n ≡ early n) (tree : ℕ → Bool) where
    others_in : (x : Coroutine V) → (x.number == who) ≡ false → share_in p tree less x ≡ share_in p tree early x
    others_in x i = ap (λ n. if tree x.number then n else 0) (others_share p early less who gone same x i)

    -- a share of who is inside, or none
    in_is : (f : ℕ → Bool) (c : Coroutine V) (t : Bool) → tree c.number ≡ t → share_in p tree f c ≡ (if t then share_by p f c else 0)
    in_is f c t e = ap (λ b. if b then share_by p f c else 0) e

    -- the turn of one by a call, or by an ending
    record Owes (now was : ℕ) (t : Bool) : Type 0 where
      no_more : now ≤ was
      falls : t ≡ true → now < was

    by_end : (t : Bool) (tg tr tf g h f y : ℕ) → tr + f ≡ tf + g → tg + g ≡ tr + h → h ≡ 0 → f ≡ (if t then y else 0) → 1 ≤ y → Owes tg tf t
    by_end true tg tr tf g h f y e d z j l = record { no_more = omega (arith, e, d, z, j, l); falls = λ u. omega (arith, e, d, z, j, l) }
    by_end false tg tr tf g h f y e d z j l = record { no_more = omega (arith, e, d, z, j); falls = λ u. cc }

    none_left : (t : Bool) → ◌≡◌ {A = ℕ} (if t then 0 else 0) 0
    none_left true = refl
    none_left false = refl

    went_owes : (w : World V) (c : Coroutine V) (v : World V) → coroutine_of w who ≡ Some c → is_answered c.mode ≡ true → 1 ≤ p.left c.body → SaysIn (p.said c.body) c.mode → (tree c.number ≡ true → IsLowering early c) → Numbered 0 w.coroutines w.last_coroutine → (b : Bool) → tree c.number ≡ b → Went p law tree (begin w) who c (given_of c.mode).1 v → Owes (weigh (share_in p tree less) v.coroutines) (weigh (share_in p tree early) w.coroutines) b
    went_owes w c v found answered some says lowers numbered true i (called word view goes leads) =
        let number = found_number who w.coroutines c found in
        let share = share_falls p early less who gone same c view word number answered says (lowers i) goes in
        let both = total_resumed who view (share_in p tree early) (share_in p tree less) c w.coroutines 0 w.last_coroutine numbered found others_in in
        let now : share_in p tree less (as_running view c) ≡ share_by p less (as_running view c) = in_is less (as_running view c) true i in
        let was : share_in p tree early c ≡ share_by p early c = in_is early c true i in
        let kept = owed_tree p tree less (resume (begin w) who view).coroutines v.coroutines w.last_coroutine v.last_coroutine leads in
        record { no_more = omega (arith, both, now, was, share, kept); falls = λ u. omega (arith, both, now, was, share, kept) }
    went_owes w c v found answered some says lowers numbered false i (called word view goes leads) =
        let both = total_resumed who view (share_in p tree early) (share_in p tree less) c w.coroutines 0 w.last_coroutine numbered found others_in in
        let now : share_in p tree less (as_running view c) ≡ 0 = in_is less (as_running view c) false i in
        let was : share_in p tree early c ≡ 0 = in_is early c false i in
        let kept = owed_tree p tree less (resume (begin w) who view).coroutines v.coroutines w.last_coroutine v.last_coroutine leads in
        record { no_more = omega (arith, both, now, was, kept); falls = λ u. cc }
    went_owes w c v found answered some says lowers numbered b i (ended view outcome ends last) =
        let owes = answered_owes p early less who gone same c answered some in
        let here = found_changed (is_coroutine who) (as_running view) c w.coroutines (λ d. refl) found in
        let one = total_resumed who view (share_in p tree early) (share_in p tree less) c w.coroutines 0 w.last_coroutine numbered found others_in in
        let two = weigh_change (share_in p tree less) (is_coroutine who) (with_mode (modes.Ending outcome)) (change (is_coroutine who) (as_running view) w.coroutines) (as_running view c) here in
        let last_share : share_in p tree less (with_mode (modes.Ending outcome) (as_running view c)) ≡ 0 = none_left (tree c.number) in
        let over = by_end b (weigh (share_in p tree less) (change (is_coroutine who) (with_mode (modes.Ending outcome)) (change (is_coroutine who) (as_running view) w.coroutines))) (weigh (share_in p tree less) (change (is_coroutine who) (as_running view) w.coroutines)) (weigh (share_in p tree early) w.coroutines) (share_in p tree less (as_running view c)) (share_in p tree less (with_mode (modes.Ending outcome) (as_running view c))) (share_in p tree early c) (share_by p early c) one two last_share (in_is early c b i) owes in
        subst (λ cs. Owes (weigh (share_in p tree less) cs) (weigh (share_in p tree early) w.coroutines) b) (sym ends) over

  -- the turn of the first of the queue, and whether what is owed fell
  pub record TurnFalls (w : World V) (b : ℕ) (early less : ℕ → Bool) (who : ℕ) (v : World V) : Type 0 where
    pub falling : Falls w b early less v
    pub strictly : is_inside w.scopes b who ≡ true → weigh (share_in p (is_inside w.scopes b) less) v.coroutines < weigh (share_in p (is_inside w.scopes b) early) w.coroutines

  module _ (keeps : KeepsWell p) (within : KeepsWithin p) where
    pub turn_falls : (k : Kept V) (lack : Option LackPlace) (who : ℕ) (rest : List ℕ) (b : ℕ) (early less : ℕ → Bool) → (s : IsStable p k) → IsSettled k.world → k.ready ≡ who ∷ rest → is_closing k.world.scopes b ≡ true → less who ≡ false → ((n : ℕ) → (n == who) ≡ false → less n ≡ early n) → AllByRecursion (LowersAt p (is_inside k.world.scopes b) early) k.world.coroutines → TurnFalls k.world b early less who (turn p lack k.world who)
    turn_falls k lack who rest b early less s nothing_due e closing gone same lowers =
        let w = k.world in
        let forest = s.order.order.fits.forest.forest in
        let tree = is_inside w.scopes b in
        let may = keeps.first k who rest s.well e in
        let c = may.one in
        let now = begin w in
        let moved = go_on p lack now who c.body in
        let self = tree_self k b s closing in
        let facts = facts_of w b s.order.order s.flags closing in
        let number = found_number who w.coroutines c may.found in
        let says = all_found (Says p) (is_coroutine who) c w.coroutines may.found s.says in
        let lowering = all_found (LowersAt p tree early) (is_coroutine who) c w.coroutines may.found lowers in
        let linkless_move = unlinked c.body (answer_given now who).1 may.real may.some in
        let born : tree (w.last_coroutine + 1) ≡ false = new_outside k b s closing in
        let went : Went p law tree now who c (answer_given now who).1 moved = go_on_went p law tree lack now who c unlinked may.some (record { found = may.found; real = may.real; cancelled = λ q. tree_off p w.scopes b forest w who c self may.found q; born = λ q. born; sits = self.sits; met = λ other its answer g q. unmet p w self.sits nothing_due other its answer g (λ d h. tree_off p w.scopes b forest w other d self h q) }) in
        let from = went_leads p law tree now who c (answer_given now who).1 moved may.found went in
        let view = from.0 in
        let sits = leads_sits p tree (resume now who view) moved from.1 (sits_resumed p now who view c may.found self.sits) in
        let resumed = all_resumed who view (LowersAt p tree early) (LowersAt p tree less) w.coroutines 0 w.last_coroutine s.well.numbered
        (λ x i l t. others_lower p early less who gone same x i (l t)) (λ x i t f. tt) lowers in
        let in_moved : InTree p w.scopes b forest moved = record {
          linkless = go_on_linkless p lack now who c.body linkless_move (begin_linkless w s.linkless);
          order = within.moved k lack who rest c s.well s.order e may.found;
          sits = sits;
          holds = go_on_shut (IsShutAs b) b (shut_lasts b) p lack now who c.body (record { given = self.holds.given; bundles = self.holds.bundles; flags = self.holds.flags });
          tracks = go_on_tracks p lack now who c.body b (record { off = facts.off; owned = facts.owned; each = facts.each; dead = facts.dead; known = facts.known; new_bundle = facts.new_bundle; new_home = facts.new_home }) self.tracks linkless_move;
        } in
        let lower = lowers_tree p tree less (resume now who view).coroutines moved.coroutines w.last_coroutine moved.last_coroutine from.1 resumed in
        let owes = went_owes early less who gone same tree w c moved may.found may.answered may.some says lowering s.well.numbered (tree c.number) refl (subst (λ a. Went p law tree now who c a.1 moved) (given_is w who c may.found) went) in
        let settled = settle_falls w moved b forest early less in_moved lower owes.no_more in
        let after = tree_leads p w.scopes b forest moved in_moved in
        let kept = owed_tree p tree less moved.coroutines (settle moved).coroutines moved.last_coroutine (settle moved).last_coroutine after in
        let strictly : tree who ≡ true → weigh (share_in p tree less) (settle moved).coroutines < weigh (share_in p tree early) w.coroutines = λ t. let f = owes.falls (ap tree number ∙ t) in omega (arith, kept, f) in
        subst (TurnFalls w b early less who) (sym (turn_is p law unlinked lack w who c may.found)) (record { falling = settled; strictly = strictly })
