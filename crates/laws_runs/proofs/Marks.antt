-- Each state of a run is steady and marked: the bundle of each noted closing is closing.
use Rattle.std.proofs.Common.{◌≡◌, ◌∙◌, ℕ, ◌+◌, ◌≤◌, ◌==◌, List, [], ◌∷◌, map, fold, find, Bool, true, false, cond, if◌then◌else◌, Option, Some, None, is_some, nat_le, refl, sym, ap, subst, arith}
use Rattle.std.proofs.lemmas.Bool.Decides.{nat_tests}
use Rattle.std.specs.List.{AllByRecursion}
use Rattle.std.specs.Prelude.{option_and_then}
use Rattle.rand_core.specs.Stream.{Stream}
use Rattle.dill_calls.specs.declared.call.Call.{Call}
use Rattle.dill_calls.specs.declared.call.Call.TheVariants as calls
use Rattle.dill_calls.specs.declared.ran.LackPlace.{LackPlace}
use Rattle.dill_calls.specs.Program.{Program, IsLawful}
use Rattle.dill_kernel.specs.declared.ready.Ready.{Ready}
use Rattle.dill_handles.specs.declared.entry.Entry.{Entry}
use Rattle.dill_scope.specs.declared.forest.Bundle.{Bundle}
use Rattle.dill_scope.specs.Scopes.{as_closing, is_bundle, owner_of}
use Rattle.dill_base.specs.Maps.{if_some}
use Rattle.dill_rules.specs.declared.coroutine.Closing.{Closing}
use Rattle.dill_rules.specs.declared.thing.Thing.{Thing}
use Rattle.dill_rules.specs.Answers.{bundle_dead_as}
use Rattle.dill_rules.specs.Debts.{debt}
use Rattle.dill_rules.specs.Expiring.{passed}
use Rattle.dill_rules.specs.Hearing.{heat_ready}
use Rattle.dill_rules.specs.Owning.{is_dead_as}
use Rattle.dill_rules.specs.Seen.{lend, turn_seen}
use Rattle.dill_rules.specs.Settling.{settle}
use Rattle.dill_rules.specs.State.{State, expired, opening_state, shut, woke}
use Rattle.dill_rules.specs.Turning.{go_on}
use Rattle.dill_rules.specs.declared.coroutine.Coroutine.{Coroutine}
use Rattle.dill_rules.specs.World.{World, begin, call_of, coroutine_of}
use Rattle.dill_drive.specs.ByRules.{machine_of}
use Rattle.dill_drive.specs.Play.{opening, play}
use Rattle.laws_sound.specs.Linkless.{MakesLinkless}
use Rattle.laws_sound.specs.LinklessLaws.{FollowsLinkless}
use Rattle.laws_queue.specs.Kept.{Kept, kept_expire_next, kept_expired, kept_late, kept_shut, kept_turn, kept_woke, turn_first, root_closed}
use Rattle.laws_queue.specs.Laws.{KeepsWell}
use Rattle.laws_queue.specs.Lending.{wordless}
use Rattle.laws_queue.specs.Stands.{StandsFor}
use Rattle.laws_queue.specs.Well.{bit, occurs}
use Rattle.laws_sound.specs.Laws.{is_closing, KeepsOrder}
use Rattle.laws_sound.specs.Order.{IsInOrder}
use Rattle.laws_sound.proofs.Lists.{occurs_found}
use Rattle.laws_debt.proofs.Debting.{bit_falls}
use Rattle.laws_debt.specs.Debts.{Step, Turn, Expire, Shut, Wake, step, is_turn_inside, DebtFalls}
use Rattle.laws_debt.specs.Laws.{KeepsStable}
use Rattle.laws_debt.specs.Steady.{IsSteady}
use Rattle.laws_debt.proofs.Flagging.{all_picked, ranked_change}
use Rattle.laws_debt.proofs.Lasting.{settle_lasts, expire_lasts, go_on_lasts}
use Rattle.laws_queue.proofs.Lists.{all_found, equal_number, found_passes, number_of}
use Rattle.laws_runs.specs.Closes.{ClosesWell, RunsCloseWell, is_hclose_of, turns_waited, waits_in_close}
use Rattle.laws_runs.proofs.Lasting.{Lasts, lasts_over}
use Rattle.laws_runs.proofs.Marking.{IsMarked, IsTied, IsOther, IsLive, MarkedIn, Marked, lasts_marked, times_closed}
use Rattle.laws_runs.proofs.Waiting.{waiting_is_for_somebody}

-- ---- steps of what a core keeps

module _ {V : Type 0} (tie : Closing) where
  root_marked : (w : World V) → Marked tie w → Marked tie (root_closed w)
  root_marked w h = record {
    ranked = ranked_change (is_bundle 0) as_closing w.scopes.bundles 0 w.last_bundle (λ x. refl) h.ranked;
    marked = all_picked (IsMarked w.closings) (IsMarked w.closings) (is_bundle 0) as_closing w.scopes.bundles (λ x i f e. cc) (λ x f. f) h.marked;
    noted = h.noted;
    things = h.things;
    tied = h.tied;
    others = h.others;
    given = h.given;
  }

  heated_marked : (ready : List Ready) (w : World V) → Marked tie w → Marked tie (fold heat_ready w ready)
  heated_marked [] w h = h
  heated_marked (x ∷ xs) w h = heated_marked xs (heat_ready w x) h

  to_state : (k : Kept V) (s : State V) → StandsFor k s → Marked tie k.world → Marked tie s.world
  to_state k s stands h = subst (Marked tie) stands.world h

  to_kept : (k : Kept V) (s : State V) → StandsFor k s → Marked tie s.world → Marked tie k.world
  to_kept k s stands h = subst (Marked tie) (sym stands.world) h

  settle_marked : (w : World V) → Marked tie w → Marked tie (settle w)
  settle_marked w h = settle_lasts (MarkedIn tie) (IsLive tie) (Unit {0}) (lasts_marked tie) w h

  turned_marked : (p : Program V) (k : Kept V) (lack : Option LackPlace) → Marked tie k.world → Marked tie (kept_turn p lack k).world
  turned_marked p k lack h = at k.ready
    where
      turned : (who : ℕ) (o : Option (Coroutine V)) → Marked tie (if_some o k.world (λ c. settle (go_on p lack (begin k.world) who c.body)))
      turned who None = h
      turned who (Some c) = settle_marked (go_on p lack (begin k.world) who c.body) (go_on_lasts (MarkedIn tie) (IsLive tie) (Unit {0}) (lasts_marked tie) tt p lack (begin k.world) who c.body h)

      at : (ready : List ℕ) → Marked tie (turn_first p lack k ready).world
      at [] = h
      at (who ∷ rest) = turned who (coroutine_of k.world who)

  late_marked : (xs : List ℕ) (k : Kept V) → Marked tie k.world → Marked tie (fold kept_expire_next k xs).world
  late_marked [] k h = h
  late_marked (x ∷ xs) k h = late_marked xs (kept_expire_next k x) (expire_lasts (MarkedIn tie) (IsLive tie) (Unit {0}) (lasts_marked tie) k.world x h)

  expired_marked : (k : Kept V) → Marked tie k.world → Marked tie (kept_expired k).world
  expired_marked k h = settle_marked (kept_late k).world (late_marked (passed k.world) (record k { world = begin k.world }) h)

-- ---- what is noted is closing

found_noted : (test : Closing → Bool) (xs : List Closing) (x : Closing) → find test xs ≡ Some x → 1 ≤ times_closed x.bundle xs
found_noted test [] x e = cc
found_noted test (y ∷ xs) x e = at (test y) e (found_noted test xs x)
  where
    at : (b : Bool) → cond b (Some y) (find test xs) ≡ Some x → (find test xs ≡ Some x → 1 ≤ times_closed x.bundle xs) → 1 ≤ times_closed x.bundle (y ∷ xs)
    at true f rest = let same : y ≡ x = cc in let one : bit (y.bundle == x.bundle) ≡ 1 = ap bit (equal_number y.bundle x.bundle (ap (λ (z : Closing). z.bundle) same)) in omega (arith, one)
    at false f rest = let r = rest f in omega (arith, r)

bit_true : (b : Bool) → 1 ≤ bit b → b ≡ true
bit_true true l = refl
bit_true false l = absurd (omega (arith, l))

module _ {V : Type 0} (tie : Closing) (w : World V) (order : IsInOrder w) (h : Marked tie w) where
  owned_closing : (name : ℕ) (o : Option Bundle) → find (is_bundle name) w.scopes.bundles ≡ o → 1 ≤ times_closed name w.closings → is_some (option_and_then (λ x. x.owner) o) ≡ true → if_some o false (λ x. x.closing) ≡ true
  owned_closing name None e l s = cc
  owned_closing name (Some y) e l s = at y.closing refl
    where
      at : (b : Bool) → y.closing ≡ b → b ≡ true
      at true f = refl
      at false f =
          let none = all_found (IsMarked w.closings) (is_bundle name) y w.scopes.bundles e h.marked f in
          let same = number_of y.name name (found_passes (is_bundle name) w.scopes.bundles y e) in
          let nought : times_closed name w.closings ≡ 0 = subst (λ n. times_closed n w.closings ≡ 0) same none in
          absurd (omega (arith, l, nought))

  noted_closing : (name : ℕ) → 1 ≤ times_closed name w.closings → is_closing w.scopes name ≡ true
  noted_closing name l =
      let names = order.fits.names name in
      let more : 1 ≤ bit (is_some (owner_of w.scopes name)) = omega (arith, l, names) in
      owned_closing name (find (is_bundle name) w.scopes.bundles) refl l (bit_true (is_some (owner_of w.scopes name)) more)

  dead_closing : (number name : ℕ) → bundle_dead_as w number ≡ Some name → is_closing w.scopes name ≡ true
  dead_closing number name e = at (find (is_dead_as number) w.closings) refl e
    where
      at : (o : Option Closing) → find (is_dead_as number) w.closings ≡ o → if_some o None (λ x. Some x.bundle) ≡ Some name → is_closing w.scopes name ≡ true
      at None f g = cc
      at (Some x) f g = let same : x.bundle ≡ name = cc in noted_closing name (subst (λ n. 1 ≤ times_closed n w.closings) same (found_noted (is_dead_as number) w.closings x f))

-- ---- steps of steady states

-- a steady state that is marked
pub record IsSteadyMarked {V : Type 0} (tie : Closing) (p : Program V) (s : State V) : Type 0 where
  pub steady : IsSteady p s
  pub marked : Marked tie s.world

module _ {V : Type 0} (tie : Closing) (p : Program V) (law : IsLawful p) (unlinked : MakesLinkless p) (keeps : KeepsWell p) (ordered : KeepsOrder p) (stays : KeepsStable p) (follows : FollowsLinkless p) (debts : DebtFalls p) where
  -- what a core keeps of it is stable and marked
  kept_marked : (s : State V) (h : IsSteadyMarked tie p s) → Marked tie h.steady.even.kept.world
  kept_marked s h = to_kept tie h.steady.even.kept s h.steady.even.stands h.marked

  after_turn : (s : State V) (lack : Option LackPlace) (random : Stream) → IsSteadyMarked tie p s → IsSteadyMarked tie p (turn_seen p s lack random).0
  after_turn s lack random h =
      let even = h.steady.even in
      record {
        steady = debts.steady (lend s random) (Turn lack) (debts.lent s random h.steady);
        marked = to_state tie (kept_turn p lack even.kept) (turn_seen p s lack random).0 (follows.turned even.kept s lack random even.stable.well even.stable.linkless even.stands) (turned_marked tie p even.kept lack (kept_marked s h));
      }

  after_expiry : (s : State V) → IsSteadyMarked tie p s → IsSteadyMarked tie p (expired s)
  after_expiry s h =
      let even = h.steady.even in
      record { steady = debts.steady s Expire h.steady; marked = to_state tie (kept_expired even.kept) (expired s) (follows.expired even.kept s even.stable.linkless even.stands) (expired_marked tie even.kept (kept_marked s h)) }

  after_shut : (s : State V) → IsSteadyMarked tie p s → IsSteadyMarked tie p (shut s)
  after_shut s h =
      let even = h.steady.even in
      record { steady = debts.steady s Shut h.steady; marked = to_state tie (kept_shut even.kept) (shut s) (follows.shut even.kept s even.stable.linkless even.stands) (settle_marked tie (root_closed even.kept.world) (root_marked tie even.kept.world (kept_marked s h))) }

  after_wake : (s : State V) (told : ℕ) (ready : List Ready) → IsSteadyMarked tie p s → IsSteadyMarked tie p (woke s told ready)
  after_wake s told ready h =
      let even = h.steady.even in
      record { steady = debts.steady s (Wake told ready) h.steady; marked = to_state tie (kept_woke even.kept told ready) (woke s told ready) (follows.woke even.kept s told ready even.stands) (heated_marked tie ready (begin even.kept.world) (kept_marked s h)) }

  pub marked_step : (s : State V) (x : Step) → IsSteadyMarked tie p s → IsSteadyMarked tie p (step p s x)
  marked_step s (Turn lack) h = after_turn s lack s.world.random h
  marked_step s Expire h = after_expiry s h
  marked_step s Shut h = after_shut s h
  marked_step s (Wake told ready) h = after_wake s told ready h

  marked_lasts : Lasts (machine_of p) (IsSteadyMarked tie p)
  marked_lasts = record {
    woke = after_wake;
    none = λ s h. follows.next_try h.steady.even.kept s h.steady.even.stable.linkless h.steady.even.stands;
    expire = after_expiry;
    turn = after_turn;
    shut = after_shut;
  }

  marked_closing : (s : State V) → IsSteadyMarked tie p s → (number name : ℕ) → bundle_dead_as s.world number ≡ Some name → is_closing s.world.scopes name ≡ true
  marked_closing s h number name e =
      let order : IsInOrder (wordless s.world) = subst IsInOrder h.steady.even.stands.world h.steady.even.stable.order.order in
      dead_closing tie (wordless s.world) order h.marked number name e

-- ---- how long an `hclose` waits

hclose_of : (number : ℕ) (call : Call) → is_hclose_of number call ≡ true → call ≡ calls.Hclose number
hclose_of number (calls.Hclose closed) e = ap (λ n. calls.Hclose n) (number_of closed number e)
hclose_of number _ e = cc

module _ {V : Type 0} (w : World V) (who number : ℕ) where
  pends_in : waits_in_close w who number ≡ true → call_of w who ≡ Some (calls.Hclose number)
  pends_in e = at (call_of w who) e
    where
      at : (o : Option Call) → if_some o false (is_hclose_of number) ≡ true → o ≡ Some (calls.Hclose number)
      at None f = cc
      at (Some call) f = ap (λ x. Some x) (hclose_of number call f)

module _ {V : Type 0} (w : World V) (number name : ℕ) where
  -- it died with the closing of the bundle that it is tied to
  dead_tied : (bundle : ℕ) → AllByRecursion (IsTied (record { bundle = bundle; number = number })) w.closings → bundle_dead_as w number ≡ Some name → name ≡ bundle
  dead_tied bundle tied e = at (find (is_dead_as number) w.closings) refl e
    where
      at : (o : Option Closing) → find (is_dead_as number) w.closings ≡ o → if_some o None (λ x. Some x.bundle) ≡ Some name → name ≡ bundle
      at None f g = cc
      at (Some x) f g =
          let same : x.bundle ≡ name = cc in
          sym same ∙ all_found (IsTied (record { bundle = bundle; number = number })) (is_dead_as number) x w.closings f tied (number_of x.number number (found_passes (is_dead_as number) w.closings x f))

-- a number that occurs at most once is noted with one bundle
unused : (number : ℕ) (P : ℕ → Type 0) (xs : List Closing) → occurs number (map (λ x. x.number) xs) ≡ 0 → AllByRecursion (λ x. x.number ≡ number → P x.bundle) xs
unused number P [] e = tt
unused number P (x ∷ xs) e = ((λ f. let one : bit (x.number == number) ≡ 1 = ap bit (equal_number x.number number f) in absurd (omega (arith, e, one))), unused number P xs (omega (arith, e)))

only_one : (number name : ℕ) (xs : List Closing) → if_some (find (is_dead_as number) xs) None (λ x. Some x.bundle) ≡ Some name → occurs number (map (λ x. x.number) xs) ≤ 1 → AllByRecursion (IsTied (record { bundle = name; number = number })) xs
only_one number name [] e l = tt
only_one number name (x ∷ xs) e l = at (x.number == number) refl e (only_one number name xs)
  where
    at : (b : Bool) → (x.number == number) ≡ b → if_some (cond b (Some x) (find (is_dead_as number) xs)) None (λ y. Some y.bundle) ≡ Some name
        → (if_some (find (is_dead_as number) xs) None (λ y. Some y.bundle) ≡ Some name → occurs number (map (λ y. y.number) xs) ≤ 1 → AllByRecursion (IsTied (record { bundle = name; number = number })) xs)
        → AllByRecursion (IsTied (record { bundle = name; number = number })) (x ∷ xs)
    at true f g rest =
        let same : x.bundle ≡ name = cc in
        let one : bit (x.number == number) ≡ 1 = ap bit f in
        ((λ h. same), unused number (λ n. n ≡ name) xs (omega (arith, l, one)))
    at false f g rest = ((λ h. let one = equal_number x.number number h in cc), rest g (omega (arith, l)))

not_live : (number name : ℕ) (es : List (Entry Thing)) → occurs number (map (λ x. x.number) es) ≡ 0 → AllByRecursion (IsOther (record { bundle = name; number = number })) es
not_live number name [] e = tt
not_live number name (x ∷ es) e = ((λ f. let one : bit (x.number == number) ≡ 1 = ap bit (equal_number x.number number f) in absurd (omega (arith, e, one))), not_live number name es (omega (arith, e)))

below : (n m : ℕ) → nat_le n m ≡ true → n ≤ m
below n m e = grind (arith, nat_tests)

bit_most : (b : Bool) → bit b ≤ 1
bit_most true = omega arith
bit_most false = omega arith

module _ {V : Type 0} (w : World V) (order : IsInOrder w) (number name : ℕ) where
  abbrev tie_of : Closing
  tie_of = record { bundle = name; number = number }

  dead_noted : bundle_dead_as w number ≡ Some name → 1 ≤ occurs number (map (λ x. x.number) w.closings)
  dead_noted e = at (find (is_dead_as number) w.closings) refl e
    where
      at : (o : Option Closing) → find (is_dead_as number) w.closings ≡ o → if_some o None (λ x. Some x.bundle) ≡ Some name → 1 ≤ occurs number (map (λ x. x.number) w.closings)
      at None f g = cc
      at (Some x) f g = occurs_found (λ (y : Closing). y.number) number w.closings x f

  tied_by : (other : Closing) → bundle_dead_as w number ≡ Some name → Marked other w → Marked tie_of w
  tied_by other e h =
      let noted = dead_noted e in
      let most = bit_most (nat_le number w.handles.last) in
      let used = order.fits.numbers number in
      record {
        ranked = h.ranked;
        marked = h.marked;
        noted = h.noted;
        things = h.things;
        tied = only_one number name w.closings e (omega (arith, most, used));
        others = not_live number name w.handles.entries (omega (arith, most, used, noted));
        given = below number w.handles.last (bit_true (nat_le number w.handles.last) (omega (arith, used, noted)));
      }

module _ {V : Type 0} (p : Program V) (law : IsLawful p) (unlinked : MakesLinkless p) (keeps : KeepsWell p) (ordered : KeepsOrder p) (stays : KeepsStable p) (follows : FollowsLinkless p) (debts : DebtFalls p) where
  module _ (who number name : ℕ) where
    abbrev tie : Closing
    tie = record { bundle = name; number = number }

    -- as long as it waits the bundle is closing
    tied_closing : (s : State V) → IsSteadyMarked tie p s → waits_in_close s.world who number ≡ true → is_closing s.world.scopes name ≡ true
    tied_closing s h e =
        let c = (waiting_is_for_somebody p s h.steady).closing who number (pends_in s.world who number e) in
        let same = dead_tied s.world number c.name name h.marked.tied c.dead in
        subst (λ n. is_closing s.world.scopes n ≡ true) same (marked_closing tie p law unlinked keeps ordered stays follows debts s h number c.name c.dead)

    waits_within : (xs : List Step) (s : State V) → IsSteadyMarked tie p s → turns_waited p s who number name xs ≤ debt p s name
    waits_within [] s h = omega arith
    waits_within (x ∷ xs) s h = at (waits_in_close s.world who number) refl (waits_within xs (step p s x) (marked_step tie p law unlinked keeps ordered stays follows debts s x h))
      where
        at : (b : Bool) → waits_in_close s.world who number ≡ b → turns_waited p (step p s x) who number name xs ≤ debt p (step p s x) name → (if b then bit (is_turn_inside s name x) + turns_waited p (step p s x) who number name xs else 0) ≤ debt p s name
        at false e rest = omega arith
        at true e rest =
            let closing = tied_closing s h e in
            bit_falls (is_turn_inside s name x) (turns_waited p (step p s x) who number name xs) (debt p (step p s x) name) (debt p s name) rest (λ i. debts.falls s x name h.steady closing i) (debts.no_more s x name h.steady closing)

  closes_well : (tie : Closing) (s : State V) → IsSteadyMarked tie p s → ClosesWell p s
  closes_well tie s h =
      let order : IsInOrder (wordless s.world) = subst IsInOrder h.steady.even.stands.world h.steady.even.stable.order.order in
      let closing = marked_closing tie p law unlinked keeps ordered stays follows debts s h in
      record {
        closing = closing;
        waits = λ who number e.
            let c = (waiting_is_for_somebody p s h.steady).closing who number e in
            let is = closing number c.name c.dead in
            record { name = c.name; dead = c.dead; owned = c.owned; closing = is; lived = c.lived; going = debts.goes_on s c.name h.steady is c.lived };
        within = λ who number name e xs.
            let tied = tied_by (wordless s.world) order number name tie e h.marked in
            waits_within who number name xs s (record { steady = h.steady; marked = tied });
      }

-- ---- whole runs

-- the number that is never given, and the root
abbrev no_tie : Closing
no_tie = record { bundle = 0; number = 0 }

module _ {V : Type 0} (p : Program V) (law : IsLawful p) (unlinked : MakesLinkless p) (keeps : KeepsWell p) (ordered : KeepsOrder p) (stays : KeepsStable p) (follows : FollowsLinkless p) (debts : DebtFalls p) where
  opening_marked : (view : V) (random : Stream) → Marked no_tie (opening_state view random).world
  opening_marked view random = record { ranked = (omega arith, omega arith); marked = ((λ e. refl), tt); noted = tt; things = tt; tied = tt; others = tt; given = omega arith }

  pub runs_close_well : RunsCloseWell p
  runs_close_well view random keys traced most replies lacks halt n begins =
      let begun = opening (machine_of p) traced most (opening_state view random) keys replies lacks halt in
      closes_well p law unlinked keeps ordered stays follows debts no_tie (play (machine_of p) traced most n begun).config.state
      (lasts_over (machine_of p) (IsSteadyMarked no_tie p) (marked_lasts no_tie p law unlinked keeps ordered stays follows debts) traced most n begun (record { steady = debts.opening view random begins; marked = opening_marked view random }))
