-- No step but the closing of the root closes it: up to then it is open, and has no stamp.
use Rattle.std.proofs.Common.{◌≡◌, ◌∙◌, ◌==◌, ℕ, List, [], ◌∷◌, map, filter, fold, find, Bool, true, false, not, ◌&&◌, cond, Option, Some, None, is_some, refl, sym, ap, subst, arith}
use Rattle.std.proofs.lemmas.List.Folds.{find-append}
use Rattle.std.specs.List.{AllByRecursion, list_all, list_any}
use Rattle.std.specs.Option.{option_or}
use Rattle.std.specs.Prelude.{option_and_then}
use Rattle.rand_core.specs.Stream.{Stream}
use Rattle.dill_calls.specs.declared.call.Call.{Call}
use Rattle.dill_calls.specs.declared.call.Call.TheVariants as calls
use Rattle.dill_calls.specs.declared.answer.Answer.{Answer}
use Rattle.dill_calls.specs.declared.ran.LackPlace.{LackPlace}
use Rattle.dill_calls.specs.Program.{Program, IsLawful}
use Rattle.dill_kernel.specs.declared.ready.Ready.{Ready}
use Rattle.dill_scope.specs.declared.forest.Bundle.{Bundle}
use Rattle.dill_scope.specs.Scopes.{Scopes, is_bundle, owner_of}
use Rattle.dill_scope.specs.Keeping.{IsOrderedForest}
use Rattle.dill_base.specs.Maps.{if_some}
use Rattle.dill_rules.specs.declared.coroutine.Closing.{Closing}
use Rattle.dill_rules.specs.Entering.{late_answer}
use Rattle.dill_rules.specs.declared.coroutine.Coroutine.{Coroutine}
use Rattle.dill_rules.specs.Expiring.{expire_one, passed}
use Rattle.dill_rules.specs.Giving.{give}
use Rattle.dill_rules.specs.Hearing.{heat_ready}
use Rattle.dill_rules.specs.Owning.{free_bundle, is_dead_as}
use Rattle.dill_rules.specs.Settling.{settle}
use Rattle.dill_rules.specs.Seen.{lend, turn_seen}
use Rattle.dill_rules.specs.State.{State, Stamp, is_stamp_of, closed_now, expire_next, expired, line_up, lined, next_turn, opening_state, turn_of, woke}
use Rattle.dill_rules.specs.Turning.{go_on, turn}
use Rattle.dill_rules.specs.World.{World, begin, call_of, coroutine_of}
use Rattle.laws_sound.specs.LinklessLaws.{FollowsLinkless}
use Rattle.laws_queue.specs.Kept.{Kept, kept_expire_next, kept_expired, kept_late, kept_turn, turn_first}
use Rattle.laws_queue.specs.Laws.{KeepsWell}
use Rattle.laws_queue.specs.Lending.{wordless}
use Rattle.laws_sound.specs.Linkless.{MakesLinkless, IsLinkless, may_wait, waits_linkless}
use Rattle.laws_sound.proofs.Lists.{all_map}
use Rattle.laws_queue.specs.Stands.{StandsFor}
use Rattle.laws_sound.proofs.Linkless.{linkless_with}
use Rattle.laws_sound.proofs.Steps.{call_waits}
use Rattle.laws_sound.proofs.Turns.{expire_one_linkless}
use Rattle.laws_debt.specs.Closing.{IsStable}
use Rattle.laws_debt.specs.Laws.{KeepsStable}
use Rattle.laws_queue.proofs.Lists.{all_without, equal_number, number_of}
use Rattle.laws_debt.proofs.Shutting.{AllHold, LastsOwned, settle_owned, expire_one_owned, go_on_owned}
use Rattle.laws_debt.proofs.Tracking.{all_by_key}
use Rattle.laws_queue.proofs.Lining.{lined_pending}

-- the root is open
abbrev pub IsOpenRoot : Bundle → Type 0
IsOpenRoot x = x.name ≡ 0 → x.closing ≡ false

abbrev pub RootIsOpen : Scopes → Type 0
RootIsOpen s = AllByRecursion IsOpenRoot s.bundles

-- a bundle that nobody owns is open
abbrev IsOpenUnowned : Bundle → Type 0
IsOpenUnowned x = x.owner ≡ None → x.closing ≡ false

unowned_lasts : LastsOwned IsOpenUnowned 0
unowned_lasts = record { owned = λ x owner a e. cc; closed = λ x owner a e. cc; made = λ last owner l e. cc }

-- nobody owns the root, and every other bundle has an owner
owned_by : (s : Scopes) → IsOrderedForest s → (x : Bundle) → find (is_bundle x.name) s.bundles ≡ Some x → owner_of s x.name ≡ x.owner
owned_by s forest x e = ap (option_and_then (λ (y : Bundle). y.owner)) e

unowned_open : (s : Scopes) → IsOrderedForest s → RootIsOpen s → AllByRecursion IsOpenUnowned s.bundles
unowned_open s forest a = all_both s.bundles (all_by_key (λ (x : Bundle). x.name) s.bundles forest.ordered.bundles) a
  where
    is_root : (x : Bundle) → find (is_bundle x.name) s.bundles ≡ Some x → x.owner ≡ None → (b : Bool) → (x.name == 0) ≡ b → x.name ≡ 0
    is_root x e none true f = number_of x.name 0 f
    is_root x e none false f =
        let owned = forest.ordered.owned x.name (λ g. cc (f, equal_number x.name 0 g)) (ap is_some e) in
        let nobody : is_some (owner_of s x.name) ≡ false = ap is_some (owned_by s forest x e ∙ none) in
        cc (owned, nobody)

    all_both : (xs : List Bundle) → AllByRecursion (λ x. find (is_bundle x.name) s.bundles ≡ Some x) xs → AllByRecursion IsOpenRoot xs → AllByRecursion IsOpenUnowned xs
    all_both [] e a = tt
    all_both (x ∷ xs) e a = ((λ none. a.0 (is_root x e.0 none (x.name == 0) refl)), all_both xs e.1 a.1)

root_open : (s : Scopes) → IsOrderedForest s → AllByRecursion IsOpenUnowned s.bundles → RootIsOpen s
root_open s forest a = all_both s.bundles (all_by_key (λ (x : Bundle). x.name) s.bundles forest.ordered.bundles) a
  where
    nobody : (x : Bundle) → find (is_bundle x.name) s.bundles ≡ Some x → x.name ≡ 0 → x.owner ≡ None
    nobody x e f = sym (owned_by s forest x e) ∙ ap (owner_of s) f ∙ forest.forest.root

    all_both : (xs : List Bundle) → AllByRecursion (λ x. find (is_bundle x.name) s.bundles ≡ Some x) xs → AllByRecursion IsOpenUnowned xs → AllByRecursion IsOpenRoot xs
    all_both [] e a = tt
    all_both (x ∷ xs) e a = ((λ f. a.0 (nobody x e.0 f)), all_both xs e.1 a.1)

-- ---- no stamp for the root

none_among : (next : ℕ) (known : List Stamp) (xs : List Bundle) → AllByRecursion IsOpenRoot xs → find (is_stamp_of 0) (map (λ name. record { of = name; at = next }) (map (λ x. x.name) (filter (λ x. x.closing && not (list_any (is_stamp_of x.name) known)) xs))) ≡ None
none_among next known [] a = refl
none_among next known (x ∷ xs) a = at x.closing refl (none_among next known xs a.1)
  where
    rest : List Bundle
    rest = filter (λ y. y.closing && not (list_any (is_stamp_of y.name) known)) xs

    is_other : (b : Bool) → (x.name == 0) ≡ b → x.closing ≡ true → (x.name == 0) ≡ false
    is_other true e f = cc (a.0 (number_of x.name 0 e), f)
    is_other false e f = e

    in_list : (b : Bool) → (x.name == 0) ≡ false → find (is_stamp_of 0) (map (λ name. record { of = name; at = next }) (map (λ y. y.name) rest)) ≡ None
        → find (is_stamp_of 0) (map (λ name. record { of = name; at = next }) (map (λ y. y.name) (cond b (x ∷ rest) rest))) ≡ None
    in_list true e f = ap (λ c. cond c (Some (record { of = x.name; at = next })) (find (is_stamp_of 0) (map (λ name. record { of = name; at = next }) (map (λ y. y.name) rest)))) e ∙ f
    in_list false e f = f

    at : (b : Bool) → x.closing ≡ b → find (is_stamp_of 0) (map (λ name. record { of = name; at = next }) (map (λ y. y.name) rest)) ≡ None
        → find (is_stamp_of 0) (map (λ name. record { of = name; at = next }) (map (λ y. y.name) (cond (x.closing && not (list_any (is_stamp_of x.name) known)) (x ∷ rest) rest))) ≡ None
    at true e f = in_list (x.closing && not (list_any (is_stamp_of x.name) known)) (is_other (x.name == 0) refl e) f
    at false e f = ap (λ b. find (is_stamp_of 0) (map (λ name. record { of = name; at = next }) (map (λ y. y.name) (cond (b && not (list_any (is_stamp_of x.name) known)) (x ∷ rest) rest)))) e ∙ f

-- the root has no stamp
abbrev pub IsUnstamped : List Stamp → Type 0
IsUnstamped closings = find (is_stamp_of 0) closings ≡ None

module _ {V : Type 0} where
  none_lined : (w : World V) (answers closings : List Stamp) (next : ℕ) → RootIsOpen w.scopes → IsUnstamped closings → IsUnstamped (line_up w answers closings next).closings
  none_lined w answers closings next a none =
      let new = map (λ name. record { of = name; at = next }) (closed_now w closings) in
      find-append (is_stamp_of 0) closings new ∙ ap (λ o. option_or o (find (is_stamp_of 0) new)) none ∙ none_among next closings w.scopes.bundles a

  -- ---- steps that free bundles at most

  freed_open : (w : World V) (o : Option Closing) → RootIsOpen w.scopes → RootIsOpen (if_some o w (free_bundle w)).scopes
  freed_open w None a = a
  freed_open w (Some x) a = all_without IsOpenRoot (is_bundle x.bundle) w.scopes.bundles a

  give_open : (w : World V) (who : ℕ) (call : Call) (answer : Answer) → may_wait call ≡ true → RootIsOpen w.scopes → RootIsOpen (give w who call answer).scopes
  give_open w who (calls.Msleep deadline) answer e a = a
  give_open w who (calls.BundleWait number deadline) answer e a = a
  give_open w who (calls.Chsend number bytes deadline) answer e a = a
  give_open w who (calls.Chrecv number size deadline) answer e a = a
  give_open w who (calls.Choose deadline all) answer e a = a
  give_open w who (calls.Hclose number) answer e a = freed_open w (find (is_dead_as number) w.closings) a
  give_open w who _ answer e a = cc

  expire_open : (w : World V) (who : ℕ) → IsLinkless w → RootIsOpen w.scopes → RootIsOpen (expire_one w who).scopes
  expire_open w who linkless a = at (call_of w who) refl
    where
      at : (o : Option Call) → call_of w who ≡ o → RootIsOpen (if_some o w (λ call. give w who call (late_answer call))).scopes
      at None e = a
      at (Some call) e = give_open w who call (late_answer call) (call_waits w who call linkless e) a

  -- between two steps of a state: the root is open, and has no stamp
  pub record IsUnshut (s : State V) : Type 0 where
    pub root : RootIsOpen s.world.scopes
    pub none : IsUnstamped s.closings

  lined_waits : (cs : List (Coroutine V)) → list_all waits_linkless cs ≡ true → list_all waits_linkless (map lined cs) ≡ true
  lined_waits cs e = all_map waits_linkless lined cs (λ c f. ap (λ o. if_some o true may_wait) (lined_pending c.mode) ∙ f) e

  lined_linkless : (w : World V) (answers closings : List Stamp) (next : ℕ) → IsLinkless w → IsLinkless (line_up w answers closings next).world
  lined_linkless w answers closings next linkless = linkless_with w (line_up w answers closings next).world refl refl (λ h. h) (λ h. lined_waits w.coroutines h) linkless

  late_unshut : (xs : List ℕ) (s : State V) → IsLinkless s.world → IsUnshut s → IsUnshut (fold expire_next s xs)
  late_unshut [] s linkless h = h
  late_unshut (x ∷ xs) s linkless h =
      let w = expire_one s.world x in
      let a = expire_open s.world x linkless h.root in
      late_unshut xs (expire_next s x) (lined_linkless w s.answers s.closings s.next (expire_one_linkless s.world x linkless)) (record { root = a; none = none_lined w s.answers s.closings s.next a h.none })

  -- ---- the other steps

  heated_same : (ready : List Ready) (w : World V) → (fold heat_ready w ready).scopes ≡ w.scopes
  heated_same [] w = refl
  heated_same (x ∷ xs) w = heated_same xs (heat_ready w x)

  pub opening_unshut : (view : V) (random : Stream) → IsUnshut (opening_state view random)
  opening_unshut view random = record { root = ((λ e. refl), tt); none = refl }

  pub woke_unshut : (s : State V) (told : ℕ) (ready : List Ready) → IsUnshut s → IsUnshut (woke s told ready)
  woke_unshut s told ready h = record { root = subst RootIsOpen (sym (heated_same ready (begin s.world))) h.root; none = h.none }

  to_state : (k : Kept V) (s : State V) → StandsFor k s → RootIsOpen k.world.scopes → RootIsOpen s.world.scopes
  to_state k s stands a = subst (λ (w : World V). RootIsOpen w.scopes) stands.world a

  to_kept : (k : Kept V) (s : State V) → StandsFor k s → RootIsOpen s.world.scopes → RootIsOpen k.world.scopes
  to_kept k s stands a = subst (λ (w : World V). RootIsOpen w.scopes) (sym stands.world) a

module _ {V : Type 0} (p : Program V) (law : IsLawful p) (unlinked : MakesLinkless p) (keeps : KeepsWell p) (stays : KeepsStable p) (follows : FollowsLinkless p) where
  abbrev Holds : World V → Type 0
  Holds w = AllHold IsOpenUnowned 0 w

  holds_of : (k : Kept V) → IsStable p k → RootIsOpen k.world.scopes → Holds k.world
  holds_of k s a = record { given = omega arith; bundles = unowned_open k.world.scopes s.order.order.fits.forest a; flags = s.flags }

  turned_holds : (k : Kept V) (lack : Option LackPlace) → Holds k.world → Holds (kept_turn p lack k).world
  turned_holds k lack h = at k.ready
    where
      turned : (who : ℕ) (o : Option (Coroutine V)) → Holds (if_some o k.world (λ c. settle (go_on p lack (begin k.world) who c.body)))
      turned who None = h
      turned who (Some c) = settle_owned IsOpenUnowned 0 unowned_lasts (go_on p lack (begin k.world) who c.body) (go_on_owned IsOpenUnowned 0 unowned_lasts p lack (begin k.world) who c.body h)

      at : (ready : List ℕ) → Holds (turn_first p lack k ready).world
      at [] = h
      at (who ∷ rest) = turned who (coroutine_of k.world who)

  late_holds : (xs : List ℕ) (k : Kept V) → Holds k.world → Holds (fold kept_expire_next k xs).world
  late_holds [] k h = h
  late_holds (x ∷ xs) k h = late_holds xs (kept_expire_next k x) (expire_one_owned IsOpenUnowned 0 unowned_lasts k.world x h)

  expired_holds : (k : Kept V) → Holds k.world → Holds (kept_expired k).world
  expired_holds k h = settle_owned IsOpenUnowned 0 unowned_lasts (kept_late k).world (late_holds (passed k.world) (record k { world = begin k.world }) h)

  -- a turn
  turned_stamps : (lack : Option LackPlace) (s : State V) (o : Option ℕ) → RootIsOpen (if_some o s (turn_of p lack s)).world.scopes → IsUnstamped s.closings → IsUnstamped (if_some o s (turn_of p lack s)).closings
  turned_stamps lack s None a none = none
  turned_stamps lack s (Some who) a none = none_lined (turn p lack s.world who) (filter (λ x. not (is_stamp_of who x)) s.answers) s.closings s.next a none

  pub turned_unshut : (k : Kept V) (s : State V) (lack : Option LackPlace) (random : Stream) → IsStable p k → StandsFor k s → IsUnshut s → IsUnshut (turn_seen p s lack random).0
  turned_unshut k s lack random stable stands h =
      let now = stays.turned k lack stable in
      let held = root_open (kept_turn p lack k).world.scopes now.order.order.fits.forest (turned_holds k lack (holds_of k stable (to_kept k s stands h.root))).bundles in
      let root = to_state (kept_turn p lack k) (turn_seen p s lack random).0 (follows.turned k s lack random stable.well stable.linkless stands) held in
      record { root = root; none = turned_stamps lack (lend s random) (next_turn (lend s random)) root h.none }

  -- deadlines
  pub expired_unshut : (k : Kept V) (s : State V) → IsStable p k → StandsFor k s → IsUnshut s → IsUnshut (expired s)
  expired_unshut k s stable stands h =
      let now = stays.expired k stable in
      let held = root_open (kept_expired k).world.scopes now.order.order.fits.forest (expired_holds k (holds_of k stable (to_kept k s stands h.root))).bundles in
      let root = to_state (kept_expired k) (expired s) (follows.expired k s stable.linkless stands) held in
      let began : State V = record s { world = begin s.world } in
      let linkless : IsLinkless (wordless s.world) = subst IsLinkless stands.world stable.linkless in
      let late = late_unshut (passed s.world) began (record { links = linkless.links; place = linkless.place; things = linkless.things; calls = linkless.calls }) (record { root = h.root; none = h.none }) in
      let last = fold expire_next began (passed s.world) in
      record { root = root; none = none_lined (settle last.world) last.answers last.closings last.next root late.none }
