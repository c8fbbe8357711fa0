-- The laws of the debt of a bundle that is closing.
use Rattle.std.proofs.Common.{◌≡◌, ◌∙◌, ◌+◌, ◌-◌, ◌≤◌, ◌<◌, ◌==◌, ℕ, List, [], ◌∷◌, length, filter, fold, sum_by, Bool, true, false, not, cond, Option, Some, None, is_some, if◌then◌else◌, refl, sym, ap, subst, arith}
use Rattle.std.proofs.lemmas.Bool.{and_parts, and_from}
use Rattle.std.specs.List.{AllByRecursion, list_all, list_any}
use Rattle.dill_calls.specs.declared.ran.LackPlace.{LackPlace}
use Rattle.dill_calls.specs.Program.{Program, IsLawful, Begins}
use Rattle.rand_core.specs.Stream.{Stream}
use Rattle.dill_kernel.specs.declared.ready.Ready.{Ready}
use Rattle.dill_scope.specs.declared.forest.Bundle.{Bundle}
use Rattle.dill_scope.specs.Scopes.{Scopes, is_inside, is_empty}
use Rattle.dill_scope.specs.Keeping.{IsThere}
use Rattle.dill_scope.proofs.Chains.{search_is_inside}
use Rattle.dill_base.specs.Maps.{if_some}
use Rattle.dill_rules.specs.declared.coroutine.Coroutine.{Coroutine}
use Rattle.dill_rules.specs.Debts.{is_early, share, debt}
use Rattle.dill_rules.specs.Expiring.{due_of, passed, expire_one}
use Rattle.dill_rules.specs.Hearing.{heat_ready}
use Rattle.dill_rules.specs.Seen.{lend}
use Rattle.dill_rules.specs.Settling.{settle, IsSettled}
use Rattle.dill_rules.specs.State.{State, Stamp, is_stamp_of, stamp_of, opening_state, line_up, next_turn, turn_of, fresh, turned, expire_next, expired, shut, woke}
use Rattle.dill_rules.specs.Turning.{turn}
use Rattle.dill_rules.specs.World.{World, begin, is_ending}
use Rattle.laws_sound.specs.Linkless.{MakesLinkless}
use Rattle.laws_sound.specs.LinklessLaws.{FollowsLinkless}
use Rattle.laws_queue.specs.Kept.{Kept, opening_kept, queued, turn_first, kept_shut, kept_woke, root_closed}
use Rattle.laws_queue.specs.Laws.{KeepsWell}
use Rattle.laws_queue.specs.Lending.{wordless}
use Rattle.laws_queue.specs.Stands.{StandsFor}
use Rattle.laws_queue.specs.Well.{bit}
use Rattle.laws_queue.proofs.Following.{next_is, nobody_next}
use Rattle.laws_sound.proofs.LinklessLaws.{follows_linkless, expired_next, settled_after}
use Rattle.laws_sound.proofs.Calming.{steps_keep_settled}
use Rattle.laws_queue.proofs.Keeping.{steps_keep_well}
use Rattle.laws_sound.specs.Laws.{is_closing, is_timed, HasGoing, KeepsSettled}
use Rattle.laws_sound.proofs.Going.{closing_goes_on, linkless_long}
use Rattle.laws_sound.proofs.Stepping.{passed_timed, expire_timed, calls_lined}
use Rattle.laws_debt.specs.Closing.{IsStable}
use Rattle.laws_debt.specs.Debts.{Step, Turn, Expire, Shut, Wake, step, SamePlaces, is_turn_inside, turns_inside, DebtFalls, DebtsFall}
use Rattle.laws_debt.specs.Laws.{KeepsStable, EndsClosing}
use Rattle.laws_debt.specs.Owed.{share_by, is_early as early_in, owed}
use Rattle.laws_debt.specs.Says.{IsLowering}
use Rattle.laws_debt.specs.Steady.{LowersInside, IsEven, IsSteady}
use Rattle.laws_debt.proofs.Ending.{home_inside, take_all}
use Rattle.laws_debt.proofs.Falling.{share_in, LowersAt, turn_falls}
use Rattle.laws_debt.proofs.Keeping.{good_stable}
use Rattle.laws_queue.proofs.Lists.{all_to, equal_number}
use Rattle.laws_sound.proofs.Counting.{is_total}
use Rattle.laws_debt.proofs.Moving.{turn_steps}
use Rattle.laws_debt.proofs.Rooting.{steps_keep_stable, root_debt_falls}
use Rattle.laws_debt.proofs.Shifting.{none_gone, Hushed, hushed_settled, hushed_expire, hushed_queued, expire_leaves, settle_steps, shut_steps, expire_steps}
use Rattle.laws_debt.proofs.Walking.{unlike}
use Rattle.laws_debt.proofs.Stepwise.{Stepped, less_early, debt_total, total_all, all_there, early_queued, even_after, debt_after, places_after}
use Rattle.laws_debt.proofs.Within.{KeepsWithin, keeps_within}

pub bit_falls : (t : Bool) (rest now was : ℕ) → rest ≤ now → (t ≡ true → now < was) → now ≤ was → bit t + rest ≤ was
bit_falls true rest now was r f n = let l = f refl in omega (arith, r, l)
bit_falls false rest now was r f n = omega (arith, r, n)

module _ {V : Type 0} (p : Program V) (law : IsLawful p) (unlinked : MakesLinkless p) where
  keeps : KeepsWell p
  keeps = steps_keep_well p law

  follows : FollowsLinkless p
  follows = follows_linkless p law unlinked

  calm : KeepsSettled p
  calm = steps_keep_settled p law unlinked

  stable_steps : KeepsStable p
  stable_steps = steps_keep_stable p law unlinked

  root_ends : EndsClosing p
  root_ends = root_debt_falls p law unlinked

  within_steps : KeepsWithin p
  within_steps = keeps_within p keeps

  -- what a step comes to, of a bundle that is closing
  record Comes (s t : State V) (b : ℕ) : Type 0 where
    places : SamePlaces s t b
    no_more : debt p t b ≤ debt p s b

  -- ---- the turn

  turn_after : (s : State V) (lack : Option LackPlace) (even : IsEven p s) (who : ℕ) (rest : List ℕ) → even.kept.ready ≡ who ∷ rest → StandsFor (queued (turn p lack even.kept.world who) rest (even.kept.early - 1)) (turn_of p lack s who)
  turn_after s lack even who rest e =
      let k = even.kept in
      let stands = follows.turned k s lack s.world.random even.stable.well even.stable.linkless even.stands in
      let next : turned p lack s ≡ turn_of p lack s who = ap (λ o. if_some o s (turn_of p lack s)) (next_is k.ready s who rest even.stands.order even.stands.rise e) in
      subst (StandsFor (queued (turn p lack k.world who) rest (k.early - 1))) next (subst (λ (l : Kept V). StandsFor l (turned p lack s)) (ap (turn_first p lack k) e) stands)

  turn_stable : (lack : Option LackPlace) (k : Kept V) (who : ℕ) (rest : List ℕ) → IsStable p k → k.ready ≡ who ∷ rest → IsStable p (queued (turn p lack k.world who) rest (k.early - 1))
  turn_stable lack k who rest s e = subst (IsStable p) (ap (turn_first p lack k) e) (stable_steps.turned k lack s)

  turn_step : (s : State V) (lack : Option LackPlace) (even : IsEven p s) (who : ℕ) (rest : List ℕ) → IsSettled even.kept.world → even.kept.ready ≡ who ∷ rest → Stepped p law unlinked even.kept s (turn p lack even.kept.world who) (λ n. n == who) (filter (λ x. not (is_stamp_of who x)) s.answers)
  turn_step s lack even who rest settled e = turn_steps p law unlinked keeps within_steps even.kept s lack who rest even.stable settled even.stands even.stamps even.lowers e

  turn_steady : (s : State V) (lack : Option LackPlace) (st : IsSteady p s) (who : ℕ) (rest : List ℕ) → st.even.kept.ready ≡ who ∷ rest → IsSteady p (turn_of p lack s who)
  turn_steady s lack st who rest e =
      let even = st.even in
      let k = even.kept in
      record {
        even = even_after p law unlinked k s even.stable even.stands even.stamps (turn p lack k.world who) (λ n. n == who) (filter (λ x. not (is_stamp_of who x)) s.answers) (turn_step s lack even who rest st.settled e) rest (k.early - 1) (turn_stable lack k who rest even.stable e) (turn p lack s.world who) (turn_after s lack even who rest e);
        settled = subst (λ (l : Kept V). IsSettled l.world) (ap (turn_first p lack k) e) (calm.turned k lack even.stable.well even.stable.linkless even.stable.order st.settled);
      }

  turn_comes : (s : State V) (lack : Option LackPlace) (st : IsSteady p s) (who : ℕ) (rest : List ℕ) (b : ℕ) → st.even.kept.ready ≡ who ∷ rest → is_closing s.world.scopes b ≡ true → Comes s (turn_of p lack s who) b × (is_inside s.world.scopes b who ≡ true → debt p (turn_of p lack s who) b < debt p s b)
  turn_comes s lack st who rest b e c =
      let even = st.even in
      let k = even.kept in
      let gone : ℕ → Bool = λ n. n == who in
      let left = filter (λ x. not (is_stamp_of who x)) s.answers in
      let here : is_closing k.world.scopes b ≡ true = subst (λ (w : World V). is_closing w.scopes b ≡ true) (sym even.stands.world) c in
      let steps = turn_step s lack even who rest st.settled e in
      let now = debt_after p law unlinked k s even.stable even.stands even.stamps (turn p lack k.world who) gone left steps rest (k.early - 1) (turn_stable lack k who rest even.stable e) (turn p lack s.world who) (turn_after s lack even who rest e) b here in
      let was = debt_total p k.world s b even.stands.world in
      let lowers : AllByRecursion (LowersAt p (is_inside k.world.scopes b) (is_early s b)) k.world.coroutines =
      subst (λ (w : World V). AllByRecursion (λ d. is_inside w.scopes b d.number ≡ true → IsLowering (is_early s b) d) w.coroutines) (sym even.stands.world) (even.lowers b c) in
      let falls = turn_falls p law unlinked keeps within_steps k lack who rest b (is_early s b) (less_early p law unlinked s b gone) even.stable st.settled e here (ap (λ g. if g then false else is_early s b who) (equal_number who who refl)) (λ n i. ap (λ g. if g then false else is_early s b n) i) lowers in
      let owes = falls.falling.owes in (
        record {
          places = λ n there. places_after p law unlinked k s even.stable even.stands even.stamps (turn p lack k.world who) gone left steps rest (k.early - 1) (turn_stable lack k who rest even.stable e) (turn p lack s.world who) (turn_after s lack even who rest e) b here n there;
          no_more = omega (arith, now, was, owes);
        },
        λ i. let less = falls.strictly (subst (λ (w : World V). is_inside w.scopes b who ≡ true) (sym even.stands.world) i) in omega (arith, now, was, less),
      )

  same_comes : (s : State V) (b : ℕ) → Comes s s b
  same_comes s b = record { places = λ n there. refl; no_more = omega arith }

  turned_is : (s : State V) (lack : Option LackPlace) (even : IsEven p s) (who : ℕ) (rest : List ℕ) → even.kept.ready ≡ who ∷ rest → turned p lack s ≡ turn_of p lack s who
  turned_is s lack even who rest e = ap (λ o. if_some o s (turn_of p lack s)) (next_is even.kept.ready s who rest even.stands.order even.stands.rise e)

  turned_none : (s : State V) (lack : Option LackPlace) (even : IsEven p s) → even.kept.ready ≡ [] → turned p lack s ≡ s
  turned_none s lack even e = ap (λ o. if_some o s (turn_of p lack s)) (nobody_next even.kept.ready s even.stands.order e)

  turned_steady : (s : State V) (lack : Option LackPlace) → IsSteady p s → IsSteady p (turned p lack s)
  turned_steady s lack st = at st.even.kept.ready refl
    where
      at : (ready : List ℕ) → st.even.kept.ready ≡ ready → IsSteady p (turned p lack s)
      at [] e = subst (IsSteady p) (sym (turned_none s lack st.even e)) st
      at (who ∷ rest) e = subst (IsSteady p) (sym (turned_is s lack st.even who rest e)) (turn_steady s lack st who rest e)

  turned_comes : (s : State V) (lack : Option LackPlace) (b : ℕ) → IsSteady p s → is_closing s.world.scopes b ≡ true → Comes s (turned p lack s) b × (if_some (next_turn s) false (is_inside s.world.scopes b) ≡ true → debt p (turned p lack s) b < debt p s b)
  turned_comes s lack b st c = at st.even.kept.ready refl
    where
      at : (ready : List ℕ) → st.even.kept.ready ≡ ready → Comes s (turned p lack s) b × (if_some (next_turn s) false (is_inside s.world.scopes b) ≡ true → debt p (turned p lack s) b < debt p s b)
      at [] e = (
        subst (λ t. Comes s t b) (sym (turned_none s lack st.even e)) (same_comes s b),
        λ i. let none : if_some (next_turn s) false (is_inside s.world.scopes b) ≡ false = ap (λ o. if_some o false (is_inside s.world.scopes b)) (nobody_next st.even.kept.ready s st.even.stands.order e) in unlike (if_some (next_turn s) false (is_inside s.world.scopes b)) none i,
      )
      at (who ∷ rest) e =
          let and_parts = turn_comes s lack st who rest b e c in (
            subst (λ t. Comes s t b) (sym (turned_is s lack st.even who rest e)) and_parts.0,
            λ i. subst (λ t. debt p t b < debt p s b) (sym (turned_is s lack st.even who rest e)) (and_parts.1 (sym (ap (λ o. if_some o false (is_inside s.world.scopes b)) (next_is st.even.kept.ready s who rest st.even.stands.order st.even.stands.rise e)) ∙ i)),
          )

  -- ---- steps in which no answer is taken

  module _ (s : State V) (even : IsEven p s) (v : World V) (steps : Stepped p law unlinked even.kept s v none_gone s.answers) (early : ℕ) (stable : IsStable p (queued v even.kept.ready early)) (u : World V) (stands : StandsFor (queued v even.kept.ready early) (line_up u s.answers s.closings s.next)) where
    abbrev other_even : IsEven p (line_up u s.answers s.closings s.next)
    other_even = even_after p law unlinked even.kept s even.stable even.stands even.stamps v none_gone s.answers steps even.kept.ready early stable u stands

    other_comes : (b : ℕ) → is_closing s.world.scopes b ≡ true → Comes s (line_up u s.answers s.closings s.next) b
    other_comes b c =
        let k = even.kept in
        let here : is_closing k.world.scopes b ≡ true = subst (λ (w : World V). is_closing w.scopes b ≡ true) (sym even.stands.world) c in
        let now = debt_after p law unlinked k s even.stable even.stands even.stamps v none_gone s.answers steps k.ready early stable u stands b here in
        let was = debt_total p k.world s b even.stands.world in
        let owes = (steps.falls b here).owes in
        record {
          places = λ n there. places_after p law unlinked k s even.stable even.stands even.stamps v none_gone s.answers steps k.ready early stable u stands b here n there;
          no_more = omega (arith, now, was, owes);
        }

  -- ---- the closing of the root

  shut_steady : (s : State V) → IsSteady p s → IsSteady p (shut s)
  shut_steady s st =
      let even = st.even in
      let k = even.kept in
      let steps = shut_steps p law unlinked k s even.stable even.stands even.stamps even.lowers in
      record {
        even = other_even s even (settle (root_closed k.world)) steps (length k.ready) (stable_steps.shut k even.stable) _ (follows.shut k s even.stable.linkless even.stands);
        settled = calm.shut k even.stable.well even.stable.linkless;
      }

  shut_comes : (s : State V) (b : ℕ) → IsSteady p s → is_closing s.world.scopes b ≡ true → Comes s (shut s) b
  shut_comes s b st c =
      let even = st.even in
      let k = even.kept in
      other_comes s even (settle (root_closed k.world)) (shut_steps p law unlinked k s even.stable even.stands even.stamps even.lowers) (length k.ready) (stable_steps.shut k even.stable) _ (follows.shut k s even.stable.linkless even.stands) b c

  -- ---- expiries

  timed_lined : (v : World V) (ready : List ℕ) (early n : ℕ) → is_timed v n ≡ true → is_timed (queued v ready early).world n ≡ true
  timed_lined v ready early n e = ap (λ o. if_some o true (λ call. is_some (due_of call))) (calls_lined v.coroutines n) ∙ e

  all_follow : (test more : ℕ → Bool) (xs : List ℕ) → ((n : ℕ) → test n ≡ true → more n ≡ true) → list_all test xs ≡ true → list_all more xs ≡ true
  all_follow test more [] h e = refl
  all_follow test more (x ∷ xs) h e =
      let b = and_parts (test x) (list_all test xs) e in
      and_from (more x) (list_all more xs) (h x b.0) (all_follow test more xs h b.1)

  -- between two expiries
  record Expires (s t : State V) (xs : List ℕ) : Type 0 where
    even_now : IsEven p t
    hushed : Hushed p law unlinked even_now.kept.world
    timed : list_all (is_timed even_now.kept.world) xs ≡ true
    scopes_still : t.world.scopes ≡ s.world.scopes
    owed_still : (b : ℕ) → is_closing s.world.scopes b ≡ true → debt p t b ≤ debt p s b

  expires_one : (s t : State V) (x : ℕ) (xs : List ℕ) → Expires s t (x ∷ xs) → Expires s (expire_next t x) xs
  expires_one s t x xs m =
      let even = m.even_now in
      let k = even.kept in
      let w = k.world in
      let b = and_parts (is_timed w x) (list_all (is_timed w) xs) m.timed in
      let v = expire_one w x in
      let sits = (good_stable p k even.stable).sits in
      let steps = expire_steps p law unlinked k t x even.stable even.stands even.stamps even.lowers m.hushed b.0 in
      let stands = expired_next k t x even.stable.linkless even.stands in
      let stable = stable_steps.expires k x even.stable b.0 in
      let leaves = expire_leaves p law unlinked w x sits b.0 in
      record {
        even_now = other_even t even v steps k.early stable (expire_one t.world x) stands;
        hushed = hushed_queued p law unlinked v k.ready k.early (hushed_expire p law unlinked w x sits b.0 m.hushed);
        timed = all_follow (is_timed w) (is_timed (queued v k.ready k.early).world) xs (λ n e. timed_lined v k.ready k.early n (expire_timed w x n e)) b.1;
        scopes_still = sym (ap (λ (u : World V). u.scopes) stands.world) ∙ leaves.scopes_same ∙ ap (λ (u : World V). u.scopes) even.stands.world ∙ m.scopes_still;
        owed_still = λ c e.
            let here : is_closing t.world.scopes c ≡ true = subst (λ (q : Scopes). is_closing q c ≡ true) (sym m.scopes_still) e in
            let now = (other_comes t even v steps k.early stable (expire_one t.world x) stands c here).no_more in
            let was = m.owed_still c e in
            omega (arith, now, was);
      }

  expires_all : (s t : State V) (xs : List ℕ) → Expires s t xs → Expires s (fold expire_next t xs) []
  expires_all s t [] m = m
  expires_all s t (x ∷ xs) m = expires_all s (expire_next t x) xs (expires_one s t x xs m)

  abbrev begun_even : (s : State V) → IsEven p s → IsEven p (record s { world = begin s.world })
  begun_even s even = record {
    kept = record even.kept { world = begin even.kept.world };
    stable = stable_steps.started even.kept even.stable;
    stands = record { world = ap begin even.stands.world; order = even.stands.order; rise = even.stands.rise };
    stamps = record { low = even.stamps.low; each = even.stamps.each };
    lowers = even.lowers;
  }

  expires_start : (s : State V) (st : IsSteady p s) → Expires s (record s { world = begin s.world }) (passed s.world)
  expires_start s st =
      let k = st.even.kept in
      record {
        even_now = begun_even s st.even;
        hushed = hushed_settled p law unlinked k st.even.stable st.settled;
        timed = subst (λ xs. list_all (is_timed k.world) xs ≡ true) (ap passed st.even.stands.world) (passed_timed k.world st.even.stable.order.order);
        scopes_still = refl;
        owed_still = λ b e. omega arith;
      }

  late_of : (s : State V) (st : IsSteady p s) → Expires s (fold expire_next (record s { world = begin s.world }) (passed s.world)) []
  late_of s st = expires_all s (record s { world = begin s.world }) (passed s.world) (expires_start s st)

  expired_steady : (s : State V) → IsSteady p s → IsSteady p (expired s)
  expired_steady s st =
      let late = fold expire_next (record s { world = begin s.world }) (passed s.world) in
      let m = late_of s st in
      let even = m.even_now in
      let k = even.kept in
      record {
        even = other_even late even (settle k.world) (settle_steps p law unlinked k late even.stable even.stands even.stamps even.lowers) k.early (stable_steps.settled k even.stable) (settle late.world) (settled_after k late even.stable.linkless even.stands);
        settled = calm.settled k even.stable.well even.stable.linkless;
      }

  expired_comes : (s : State V) (b : ℕ) → IsSteady p s → is_closing s.world.scopes b ≡ true → Comes s (expired s) b
  expired_comes s b st c =
      let late = fold expire_next (record s { world = begin s.world }) (passed s.world) in
      let m = late_of s st in
      let even = m.even_now in
      let k = even.kept in
      let here : is_closing late.world.scopes b ≡ true = subst (λ (q : Scopes). is_closing q b ≡ true) (sym m.scopes_still) c in
      let comes = other_comes late even (settle k.world) (settle_steps p law unlinked k late even.stable even.stands even.stamps even.lowers) k.early (stable_steps.settled k even.stable) (settle late.world) (settled_after k late even.stable.linkless even.stands) b here in
      let was = m.owed_still b c in
      let now = comes.no_more in
      record {
        places = λ n there. comes.places n there ∙ ap (λ (q : Scopes). is_inside q b n) m.scopes_still;
        no_more = omega (arith, was, now);
      }

  -- ---- after a wait

  record Heated (w v : World V) : Type 0 where
    scopes_kept : v.scopes ≡ w.scopes
    crew_kept : v.coroutines ≡ w.coroutines
    last_kept : v.last_bundle ≡ w.last_bundle

  heats : (ready : List Ready) (w : World V) → Heated w (fold heat_ready w ready)
  heats [] w = record { scopes_kept = refl; crew_kept = refl; last_kept = refl }
  heats (x ∷ xs) w = let r = heats xs (heat_ready w x) in record { scopes_kept = r.scopes_kept; crew_kept = r.crew_kept; last_kept = r.last_kept }

  woke_heated : (s : State V) (told : ℕ) (ready : List Ready) → Heated s.world (woke s told ready).world
  woke_heated s told ready = let r = heats ready (begin s.world) in record { scopes_kept = r.scopes_kept; crew_kept = r.crew_kept; last_kept = r.last_kept }

  -- nothing else of a world is looked at
  lowers_moved : (s : State V) (t : Scopes) (cs : List (Coroutine V)) (b : ℕ) → t ≡ s.world.scopes → cs ≡ s.world.coroutines → LowersInside s b → AllByRecursion (λ c. is_inside t b c.number ≡ true → IsLowering (is_early s b) c) cs
  lowers_moved s t cs b e f l = subst (λ xs. AllByRecursion (λ c. is_inside t b c.number ≡ true → IsLowering (is_early s b) c) xs) (sym f) (subst (λ q. AllByRecursion (λ c. is_inside q b c.number ≡ true → IsLowering (is_early s b) c) s.world.coroutines) (sym e) l)

  abbrev woke_even : (s : State V) (told : ℕ) (ready : List Ready) → IsEven p s → IsEven p (woke s told ready)
  woke_even s told ready even =
      let h = woke_heated s told ready in
      record {
        kept = kept_woke even.kept told ready;
        stable = stable_steps.woke even.kept told ready even.stable;
        stands = follows.woke even.kept s told ready even.stands;
        stamps = record {
          low = subst (λ n. AllByRecursion {X = Stamp} (λ x. (x.of ≤ n) × (x.at < s.next)) s.closings) (sym h.last_kept) even.stamps.low;
          each = subst (λ (t : Scopes). AllByRecursion (λ y. is_some (stamp_of s.closings y.name) ≡ y.closing) t.bundles) (sym h.scopes_kept) even.stamps.each;
        };
        lowers = λ b c. lowers_moved s (woke s told ready).world.scopes (woke s told ready).world.coroutines b h.scopes_kept h.crew_kept (even.lowers b (subst (λ (t : Scopes). is_closing t b ≡ true) h.scopes_kept c));
      }

  debt_moved : (s : State V) (t : Scopes) (cs : List (Coroutine V)) (b : ℕ) → t ≡ s.world.scopes → cs ≡ s.world.coroutines → sum_by (share p s b) (filter (λ c. is_inside t b c.number) cs) ≡ debt p s b
  debt_moved s t cs b e f = ap (λ xs. sum_by (share p s b) (filter (λ c. is_inside t b c.number) xs)) f ∙ ap (λ q. sum_by (share p s b) (filter (λ c. is_inside q b c.number) s.world.coroutines)) e

  woke_comes : (s : State V) (told : ℕ) (ready : List Ready) (b : ℕ) → Comes s (woke s told ready) b
  woke_comes s told ready b =
      let h = woke_heated s told ready in
      let same : debt p (woke s told ready) b ≡ debt p s b = debt_moved s (woke s told ready).world.scopes (woke s told ready).world.coroutines b h.scopes_kept h.crew_kept in
      record { places = λ n there. ap (λ (q : Scopes). is_inside q b n) h.scopes_kept; no_more = omega (arith, same) }

  -- ---- the laws

  no_closing : (c : Bool) (b : ℕ) → if_some (cond c (Some (record { name = 0; owner = None; closing = false })) None) false (λ (x : Bundle). x.closing) ≡ true → ⊥
  no_closing true b e = let it : false ≡ true = e in cc
  no_closing false b e = let it : false ≡ true = e in cc

  opening : (view : V) (random : Stream) → Begins p view → IsSteady p (opening_state view random)
  opening view random b = record {
    even = record {
      kept = opening_kept view;
      stable = stable_steps.opening view b;
      stands = follows.opening view random;
      stamps = record { low = tt; each = (refl, tt) };
      lowers = λ n c. absurd (no_closing (0 == n) n c);
    };
    settled = record { endings = refl; answers = refl };
  }

  lent : (s : State V) (random : Stream) → IsSteady p s → IsSteady p (lend s random)
  lent s random st = record {
    even = record {
      kept = st.even.kept;
      stable = st.even.stable;
      stands = record { world = st.even.stands.world; order = st.even.stands.order; rise = st.even.stands.rise };
      stamps = record { low = st.even.stamps.low; each = st.even.stamps.each };
      lowers = st.even.lowers;
    };
    settled = st.settled;
  }

  steady : (s : State V) (x : Step) → IsSteady p s → IsSteady p (step p s x)
  steady s (Turn lack) st = turned_steady s lack st
  steady s Expire st = expired_steady s st
  steady s Shut st = shut_steady s st
  steady s (Wake told ready) st = record { even = woke_even s told ready st.even; settled = calm.woke st.even.kept told ready st.even.stable.linkless st.settled }

  comes : (s : State V) (x : Step) (b : ℕ) → IsSteady p s → is_closing s.world.scopes b ≡ true → Comes s (step p s x) b
  comes s (Turn lack) b st c = (turned_comes s lack b st c).0
  comes s Expire b st c = expired_comes s b st c
  comes s Shut b st c = shut_comes s b st c
  comes s (Wake told ready) b st c = woke_comes s told ready b

  falls : (s : State V) (x : Step) (b : ℕ) → IsSteady p s → is_closing s.world.scopes b ≡ true → is_turn_inside s b x ≡ true → debt p (step p s x) b < debt p s b
  falls s (Turn lack) b st c i = (turned_comes s lack b st c).1 i
  falls s Expire b st c i = let it : false ≡ true = i in cc
  falls s Shut b st c i = let it : false ≡ true = i in cc
  falls s (Wake told ready) b st c i = let it : false ≡ true = i in cc

  goes_on : (s : State V) (b : ℕ) → IsSteady p s → is_closing s.world.scopes b ≡ true → is_empty s.world.scopes b ≡ false → HasGoing s.world b
  goes_on s b st c e =
      let k = st.even.kept in
      let same = st.even.stands.world in
      let here : is_closing k.world.scopes b ≡ true = subst (λ (w : World V). is_closing w.scopes b ≡ true) (sym same) c in
      let full : is_empty k.world.scopes b ≡ false = subst (λ (w : World V). is_empty w.scopes b ≡ false) (sym same) e in
      let g = closing_goes_on V k.world b st.even.stable.order.order (linkless_long k.world st.even.stable.linkless) st.settled st.even.stable.rest here full in
      let there : HasGoing (wordless s.world) b = subst (λ w. HasGoing w b) same g in
      record { who = there.who; inside = there.inside; answered = there.answered }

  -- at its closing everybody is inside the root, and exactly those are early that were queued
  owed_root : (k : Kept V) (s : State V) → IsStable p k → StandsFor k s → IsSteady p s → is_closing s.world.scopes 0 ≡ false → owed p (kept_shut k) ≡ debt p (shut s) 0
  owed_root k s stable stands st open_root =
      let v = settle (root_closed k.world) in
      let after = kept_shut k in
      let kept = stable_steps.shut k stable in
      let steps = shut_steps p law unlinked k s stable stands st.even.stamps st.even.lowers in
      let stands_after = follows.shut k s stable.linkless stands in
      let shut_now : is_closing v.scopes 0 ≡ true = (root_ends.shut k stable).closing in
      let open_here : is_closing k.world.scopes 0 ≡ false = subst (λ (w : World V). is_closing w.scopes 0 ≡ false) (sym stands.world) open_root in
      let queue = take_all (k.ready) (fresh v) in
      let there = all_there after.world kept.order.order in
      let same = all_to (λ (c : Coroutine V). IsThere after.world.scopes c.number) (λ c. share_by p (early_in after) c ≡ share_in p (is_inside after.world.scopes 0) (is_early (shut s) 0) c) after.world.coroutines
      (λ c e.
      let inside = (search_is_inside after.world.scopes 0 c.number kept.order.order.fits.forest.forest).1 (home_inside after.world c.number kept.order.order e) in
      let early = early_queued p law unlinked k s stable stands st.even.stamps v none_gone s.answers steps k.ready (length k.ready) kept _ stands_after 0 open_here shut_now c.number refl in
      ap (λ xs. if is_ending c.mode then 0 else (if list_any (λ m. m == c.number) xs then 1 + p.most c.body else p.left c.body)) queue
      ∙ ap (λ b. if is_ending c.mode then 0 else (if b then 1 + p.most c.body else p.left c.body)) (sym early)
      ∙ ap (λ b. if b then share_by p (is_early (shut s) 0) c else 0) (sym inside)) there in
      is_total (share_by p (early_in after)) after.world.coroutines
      ∙ total_all (share_by p (early_in after)) (share_in p (is_inside after.world.scopes 0) (is_early (shut s) 0)) after.world.coroutines same
      ∙ sym (debt_total p after.world (shut s) 0 stands_after.world)

  none_inside : (s : State V) (b : ℕ) (xs : List Step) → is_closing s.world.scopes b ≡ false → turns_inside p s b xs ≡ 0
  none_inside s b [] c = refl
  none_inside s b (x ∷ xs) c = ap (λ t. if t then bit (is_turn_inside s b x) + turns_inside p (step p s x) b xs else 0) c

  within : (s : State V) (b : ℕ) (xs : List Step) → IsSteady p s → is_closing s.world.scopes b ≡ true → turns_inside p s b xs ≤ debt p s b
  within s b [] st c = omega arith
  within s b (x ∷ xs) st c =
      let t = step p s x in
      let rest = at t (is_closing t.world.scopes b) refl (within t b xs (steady s x st)) in
      let all = bit_falls (is_turn_inside s b x) (turns_inside p t b xs) (debt p t b) (debt p s b) rest (λ i. falls s x b st c i) (comes s x b st c).no_more in
      subst (λ g. (if g then bit (is_turn_inside s b x) + turns_inside p t b xs else 0) ≤ debt p s b) (sym c) all
    where
      at : (t : State V) (g : Bool) → is_closing t.world.scopes b ≡ g → (is_closing t.world.scopes b ≡ true → turns_inside p t b xs ≤ debt p t b) → turns_inside p t b xs ≤ debt p t b
      at t true i h = h i
      at t false i h = let none = none_inside t b xs i in omega (arith, none)

  pub debt_falls : DebtFalls p
  debt_falls = record {
    opening = opening;
    lent = lent;
    steady = steady;
    falls = falls;
    no_more = λ s x b st c. (comes s x b st c).no_more;
    places = λ s x b st c. (comes s x b st c).places;
    goes_on = goes_on;
    root = owed_root;
    within = within;
  }

pub debts_fall : {V : Type 0} (p : Program V) → DebtsFall p
debts_fall p law unlinked = debt_falls p law unlinked
