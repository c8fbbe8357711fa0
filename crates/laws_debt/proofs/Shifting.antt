-- The closing of the root, an expiry and a settling, as steps of a state.
use Rattle.std.proofs.Common.{◌≡◌, ◌∙◌, ◌≤◌, ◌<◌, ◌==◌, ℕ, List, find, Bool, true, false, Option, Some, None, is_some, refl, sym, ap, subst, arith}
use Rattle.std.specs.List.{AllByRecursion, list_any}
use Rattle.dill_calls.specs.declared.answer.Answer.{Answer}
use Rattle.dill_calls.specs.declared.call.Call.{Call}
use Rattle.dill_calls.specs.declared.call.Call.TheVariants as calls
use Rattle.dill_calls.specs.Program.{Program, IsLawful}
use Rattle.dill_scope.specs.Scopes as scopes
use Rattle.dill_scope.specs.Scopes.{Scopes, is_bundle, is_inside}
use Rattle.dill_base.specs.Maps.{if_some}
use Rattle.dill_rules.specs.declared.coroutine.Coroutine.{Coroutine}
use Rattle.dill_rules.specs.declared.coroutine.Mode.{Mode}
use Rattle.dill_rules.specs.declared.coroutine.Mode.TheVariants as modes
use Rattle.dill_rules.specs.Debts.{is_early}
use Rattle.dill_rules.specs.State.{State, Stamp, stamp_of}
use Rattle.dill_rules.specs.World.{World, is_coroutine, call_of, with_mode, is_answered}
use Rattle.dill_rules.specs.Answers.{answer_of}
use Rattle.dill_rules.specs.Entering.{late_answer}
use Rattle.dill_rules.specs.Expiring.{due_of, expire_one}
use Rattle.dill_rules.specs.Giving.{give}
use Rattle.dill_rules.specs.Settling.{settle, IsSettled}
use Rattle.dill_rules.specs.Taking.{is_cancelled}
use Rattle.laws_queue.specs.Kept.{Kept, queued, root_closed}
use Rattle.laws_sound.specs.Linkless.{MakesLinkless, may_wait}
use Rattle.laws_queue.specs.Stands.{StandsFor}
use Rattle.laws_sound.proofs.Turns.{closed_linkless}
use Rattle.laws_sound.specs.Laws.{is_closing, is_timed}
use Rattle.laws_debt.specs.Closing.{IsStable}
use Rattle.laws_debt.specs.Says.{IsLowering}
use Rattle.laws_debt.specs.Steady.{HasStamps, LowersInside}
use Rattle.laws_debt.proofs.Beginning.{old_flags, settle_flags}
use Rattle.laws_debt.proofs.Bounded.{each_found, queued_early}
use Rattle.laws_debt.proofs.Evolving.{Suits, evolves_calm}
use Rattle.laws_debt.proofs.Falling.{LowersAt, owed_tree, lowers_tree, tree_self, settle_falls}
use Rattle.laws_debt.proofs.Flagging.{all_picked}
use Rattle.laws_debt.proofs.Holding.{tracks_close}
use Rattle.laws_debt.proofs.Keeping.{nobody_calm, AnyBundle, good_stable, root_flags, settles}
use Rattle.laws_queue.proofs.Lists.{all_to}
use Rattle.laws_debt.proofs.Moving.{unfresh_all as all_unfresh_of, begun_settles, flag_was}
use Rattle.laws_debt.proofs.Walking.{AllSit, call_pends, pending_waits, expire_calm, change_calls, Leads, unlike}
use Rattle.laws_debt.proofs.Unmet.{cancels_some, unanswered}
use Rattle.laws_debt.proofs.Shutting.{settle_shut, AllHold, Lasts, expire_one_shut, IsShutAs}
use Rattle.laws_debt.proofs.Stepwise.{StampOk, stamp_lasts, stamps_self, Stepped, less_early}
use Rattle.laws_debt.proofs.Tree.{InTree, tree_off}
use Rattle.laws_sound.proofs.Stepping.{order_root_closed, calls_lined}

-- nobody's answer is taken
abbrev pub none_gone : ℕ → Bool
none_gone n = false

module _ {V : Type 0} (p : Program V) (law : IsLawful p) (unlinked : MakesLinkless p) where
  abbrev HadBefore : List ℕ → Coroutine V → Type 0
  HadBefore ready c = is_answered c.mode ≡ true → (false ≡ false) × (list_any (λ m. m == c.number) ready ≡ true)

  suits_before : (ready : List ℕ) (c : Coroutine V) (mode : Mode) → Suits p nobody_calm c mode → HadBefore ready (with_mode mode c)
  suits_before ready c (modes.Pending call) s e = cc
  suits_before ready c modes.Running s e = absurd s
  suits_before ready c (modes.Fresh word answer) s e = cc
  suits_before ready c (modes.Answered word answer) s e = absurd s
  suits_before ready c (modes.Ending outcome) s e = cc

  -- who has an answer had it before
  had_before : (k : Kept V) (v : World V) → IsStable p k → Leads p nobody_calm k.world v → AllByRecursion (HadBefore k.ready) v.coroutines
  had_before k v s e =
      let w = k.world in
      let found = each_found w.coroutines 0 w.last_coroutine s.well.numbered in
      let before = all_to (λ d. find (is_coroutine d.number) w.coroutines ≡ Some d) (HadBefore k.ready) w.coroutines (λ d f a. (refl, queued_early k.ready w.coroutines s.well.queue d f a)) found in
      evolves_calm p nobody_calm (HadBefore k.ready) (λ c mode q. suits_before k.ready c mode q) (λ number view q r a. cc) w.coroutines v.coroutines w.last_coroutine v.last_coroutine e before

  here_low : (k : Kept V) (s : State V) → StandsFor k s → HasStamps s → AllByRecursion {X = Stamp} (λ x. (x.of ≤ k.world.last_bundle) × (x.at < s.next)) s.closings
  here_low k s stands stamps = subst (λ (w : World V). AllByRecursion {X = Stamp} (λ x. (x.of ≤ w.last_bundle) × (x.at < s.next)) s.closings) (sym stands.world) stamps.low

  here_each : (k : Kept V) (s : State V) → StandsFor k s → HasStamps s → AllByRecursion (λ y. is_some (stamp_of s.closings y.name) ≡ y.closing) k.world.scopes.bundles
  here_each k s stands stamps = subst (λ (w : World V). AllByRecursion (λ y. is_some (stamp_of s.closings y.name) ≡ y.closing) w.scopes.bundles) (sym stands.world) stamps.each

  here_lowers : (k : Kept V) (s : State V) (b : ℕ) → StandsFor k s → ((c : ℕ) → is_closing s.world.scopes c ≡ true → LowersInside s c) → is_closing k.world.scopes b ≡ true → AllByRecursion (LowersAt p (is_inside k.world.scopes b) (is_early s b)) k.world.coroutines
  here_lowers k s b stands lowers c = subst (λ (w : World V). AllByRecursion (λ d. is_inside w.scopes b d.number ≡ true → IsLowering (is_early s b) d) w.coroutines) (sym stands.world) (lowers b (subst (λ (w : World V). is_closing w.scopes b ≡ true) stands.world c))

  start_holds : (k : Kept V) (s : State V) → IsStable p k → StandsFor k s → HasStamps s → AllHold (StampOk k.world.scopes s.closings) k.world.last_bundle k.world
  start_holds k s stable stands stamps = record { given = omega arith; bundles = stamps_self k.world s.closings stable.order.order (here_each k s stands stamps); flags = stable.flags }

  lasts_of : (k : Kept V) (s : State V) → IsStable p k → StandsFor k s → HasStamps s → Lasts (StampOk k.world.scopes s.closings) k.world.last_bundle
  lasts_of k s stable stands stamps = stamp_lasts k.world s.closings s.next stable.flags (here_low k s stands stamps)

  -- ---- a settling

  pub settle_steps : (k : Kept V) (s : State V) → (stable : IsStable p k) → StandsFor k s → HasStamps s → ((b : ℕ) → is_closing s.world.scopes b ≡ true → LowersInside s b) → Stepped p law unlinked k s (settle k.world) none_gone s.answers
  settle_steps k s stable stands stamps lowers =
      let w = k.world in
      let good = good_stable p k stable in
      record {
        holds = settle_shut (StampOk w.scopes s.closings) w.last_bundle (lasts_of k s stable stands stamps) w (start_holds k s stable stands stamps);
        falls = λ b c. settle_falls p law unlinked w w b stable.order.order.fits.forest.forest (is_early s b) (less_early p law unlinked s b none_gone) (tree_self p law unlinked k b stable c) (here_lowers k s b stands lowers c) (omega arith);
        begun = λ b c d.
            let flags = settle_flags w.scopes w (old_flags w.scopes stable.order.order.fits.forest) in
            unlike (is_closing w.scopes b) c (flag_was w.scopes (settle w).scopes b flags d);
        answered = had_before k (settle w) stable (settles p w good.sits good.numbered);
        left = λ n g. refl;
        lost = λ n g. cc;
      }

  -- ---- the closing of the root

  shut_tree : (k : Kept V) (b : ℕ) → (stable : IsStable p k) → is_closing k.world.scopes b ≡ true → InTree p k.world.scopes b stable.order.order.fits.forest.forest (root_closed k.world)
  shut_tree k b stable c =
      let w = k.world in
      let self = tree_self p law unlinked k b stable c in
      record {
        linkless = closed_linkless w stable.linkless;
        order = order_root_closed w stable.order;
        sits = self.sits;
        holds = record {
          given = self.holds.given;
          bundles = all_picked (IsShutAs b) (IsShutAs b) (is_bundle 0) scopes.as_closing w.scopes.bundles (λ x i f e. refl) (λ x f. f) self.holds.bundles;
          flags = root_flags w stable.flags;
        };
        tracks = tracks_close w.scopes b w.scopes 0 self.tracks;
      }

  pub shut_steps : (k : Kept V) (s : State V) → (stable : IsStable p k) → StandsFor k s → HasStamps s → ((b : ℕ) → is_closing s.world.scopes b ≡ true → LowersInside s b) → Stepped p law unlinked k s (settle (root_closed k.world)) none_gone s.answers
  shut_steps k s stable stands stamps lowers =
      let w = k.world in
      let r = root_closed w in
      let good = good_stable p k stable in
      let lasts = lasts_of k s stable stands stamps in
      let start = start_holds k s stable stands stamps in
      let closed : AllHold (StampOk w.scopes s.closings) w.last_bundle r = record {
        given = start.given;
        bundles = all_picked (StampOk w.scopes s.closings) (StampOk w.scopes s.closings) (is_bundle 0) scopes.as_closing w.scopes.bundles (λ x i f. lasts.closed x f) (λ x f. f) start.bundles;
        flags = root_flags w stable.flags;
      } in
      let any : AllHold AnyBundle 0 r = record { given = omega arith; bundles = all_to (StampOk w.scopes s.closings) AnyBundle r.scopes.bundles (λ x f. tt) closed.bundles; flags = closed.flags } in
      record {
        holds = settle_shut (StampOk w.scopes s.closings) w.last_bundle lasts r closed;
        falls = λ b c. settle_falls p law unlinked w r b stable.order.order.fits.forest.forest (is_early s b) (less_early p law unlinked s b none_gone) (shut_tree k b stable c) (here_lowers k s b stands lowers c) (omega arith);
        begun = λ b c d. begun_settles p r b (closed_linkless w stable.linkless) (order_root_closed w stable.order) good.sits any (all_unfresh_of w.coroutines stable.rest) d;
        answered = had_before k (settle r) stable (settles p r good.sits good.numbered);
        left = λ n g. refl;
        lost = λ n g. cc;
      }

  -- ---- an expiry

  -- who is cancelled waits for no deadline
  abbrev pub Hushed : World V → Type 0
  Hushed w = (n : ℕ) (call : Call) → is_cancelled w n ≡ true → call_of w n ≡ Some call → due_of call ≡ None

  hushes : (w : World V) (n : ℕ) (call : Call) → may_wait call ≡ true → is_cancelled w n ≡ true → answer_of w n call ≡ None → due_of call ≡ None
  hushes w n (calls.Msleep deadline) m c e = absurd (cancels_some (is_cancelled w n) _ _ c e)
  hushes w n (calls.BundleWait number deadline) m c e = absurd (cancels_some (is_cancelled w n) _ _ c e)
  hushes w n (calls.Chsend number bytes deadline) m c e = absurd (cancels_some (is_cancelled w n) _ _ c e)
  hushes w n (calls.Chrecv number size deadline) m c e = absurd (cancels_some (is_cancelled w n) _ _ c e)
  hushes w n (calls.Choose deadline all) m c e = absurd (cancels_some (is_cancelled w n) _ _ c e)
  hushes w n (calls.Hclose number) m c e = refl
  hushes w n _ m c e = cc

  -- nothing is due of who is cancelled, once a world has settled
  pub hushed_settled : (k : Kept V) → IsStable p k → IsSettled k.world → Hushed k.world
  hushed_settled k stable settled n call c e =
      let w = k.world in
      let good = good_stable p k stable in
      let d = call_pends p w n call e in
      hushes w n call (pending_waits p w n call good.sits d) c (unanswered w n call settled d)

  -- what is given up at its deadline leaves the bundles, and the calls of others
  pub record Leaves (w v : World V) : Type 0 where
    pub scopes_same : v.scopes ≡ w.scopes
    pub calls_were : (n : ℕ) (call : Call) → call_of v n ≡ Some call → call_of w n ≡ Some call

  give_leaves : (w : World V) (x : ℕ) (call : Call) (answer : Answer) → may_wait call ≡ true → is_some (due_of call) ≡ true → Leaves w (give w x call answer)
  give_leaves w x (calls.Msleep deadline) answer m d = record { scopes_same = refl; calls_were = λ n call e. change_calls n x (λ c. c.body) (modes.Fresh _ answer) call w.coroutines refl e }
  give_leaves w x (calls.BundleWait number deadline) answer m d = record { scopes_same = refl; calls_were = λ n call e. change_calls n x (λ c. c.body) (modes.Fresh _ answer) call w.coroutines refl e }
  give_leaves w x (calls.Chsend number bytes deadline) answer m d = record { scopes_same = refl; calls_were = λ n call e. change_calls n x (λ c. c.body) (modes.Fresh _ answer) call w.coroutines refl e }
  give_leaves w x (calls.Chrecv number size deadline) answer m d = record { scopes_same = refl; calls_were = λ n call e. change_calls n x (λ c. c.body) (modes.Fresh _ answer) call w.coroutines refl e }
  give_leaves w x (calls.Choose deadline all) answer m d = record { scopes_same = refl; calls_were = λ n call e. change_calls n x (λ c. c.body) (modes.Fresh _ answer) call w.coroutines refl e }
  give_leaves w x (calls.Hclose number) answer m d = cc
  give_leaves w x _ answer m d = cc

  pub expire_leaves : (w : World V) (x : ℕ) → AllSit p w.coroutines → is_timed w x ≡ true → Leaves w (expire_one w x)
  expire_leaves w x a t = at (call_of w x) refl t
    where
      at : (o : Option Call) → call_of w x ≡ o → if_some o true (λ call. is_some (due_of call)) ≡ true → Leaves w (if_some o w (λ call. give w x call (late_answer call)))
      at None e f = record { scopes_same = refl; calls_were = λ n call g. g }
      at (Some call) e f = give_leaves w x call (late_answer call) (pending_waits p w x call a (call_pends p w x call e)) f

  pub hushed_expire : (w : World V) (x : ℕ) → AllSit p w.coroutines → is_timed w x ≡ true → Hushed w → Hushed (expire_one w x)
  hushed_expire w x a t h n call c e =
      let l = expire_leaves w x a t in
      h n call (subst (λ (s : Scopes). scopes.is_cancelled s n ≡ true) l.scopes_same c) (l.calls_were n call e)

  pub hushed_queued : (v : World V) (ready : List ℕ) (early : ℕ) → Hushed v → Hushed (queued v ready early).world
  hushed_queued v ready early h n call c e = h n call c (sym (calls_lined v.coroutines n) ∙ e)

  -- who is cancelled has no deadline
  untimed : (k : Kept V) (x : ℕ) (call : Call) → Hushed k.world → is_timed k.world x ≡ true → call_of k.world x ≡ Some call → is_cancelled k.world x ≡ true → ⊥
  untimed k x call h t e c =
      let none = h x call c e in
      let some : is_some (due_of call) ≡ true = sym (ap (λ o. if_some o true (λ d. is_some (due_of d))) e) ∙ t in
      let it : false ≡ true = sym (ap (λ (o : Option ℕ). is_some o) none) ∙ some in
      cc

  pub expire_steps : (k : Kept V) (s : State V) (x : ℕ) → (stable : IsStable p k) → StandsFor k s → HasStamps s → ((b : ℕ) → is_closing s.world.scopes b ≡ true → LowersInside s b) → Hushed k.world → is_timed k.world x ≡ true → Stepped p law unlinked k s (expire_one k.world x) none_gone s.answers
  expire_steps k s x stable stands stamps lowers hushed timed =
      let w = k.world in
      let good = good_stable p k stable in
      let leaves = expire_leaves w x good.sits timed in
      let v = expire_one w x in
      record {
        holds = expire_one_shut (StampOk w.scopes s.closings) w.last_bundle (lasts_of k s stable stands stamps) w x (start_holds k s stable stands stamps);
        falls = λ b c.
            let tree = is_inside w.scopes b in
            let less = less_early p law unlinked s b none_gone in
            let leads = expire_calm p tree w x good.sits (λ call e t. absurd (untimed k x call hushed timed e (tree_off p w.scopes b stable.order.order.fits.forest.forest w x (call_pends p w x call e).one (tree_self p law unlinked k b stable c) (call_pends p w x call e).found t))) in
            record {
              places = λ n there. ap (λ (t : Scopes). is_inside t b n) leaves.scopes_same;
              lowers = lowers_tree p tree less w.coroutines v.coroutines w.last_coroutine v.last_coroutine leads (here_lowers k s b stands lowers c);
              owes = owed_tree p tree less w.coroutines v.coroutines w.last_coroutine v.last_coroutine leads;
            };
        begun = λ b c d. unlike (is_closing w.scopes b) c (subst (λ (t : Scopes). is_closing t b ≡ true) leaves.scopes_same d);
        answered = had_before k v stable (expire_calm p nobody_calm w x good.sits (λ call e c. cc));
        left = λ n g. refl;
        lost = λ n g. cc;
      }
