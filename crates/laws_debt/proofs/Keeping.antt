-- Each step keeps what holds between steps.
use Rattle.std.proofs.Common.{◌≡◌, ◌∙◌, inl, ◌-◌, ◌≤◌, ℕ, List, [], ◌∷◌, length, fold, Bool, true, false, Option, Some, refl, sym, ap, subst, arith}
use Rattle.std.proofs.lemmas.Bool.{and_parts}
use Rattle.std.specs.List.{AllByRecursion, list_all}
use Rattle.dill_calls.specs.declared.ran.LackPlace.{LackPlace}
use Rattle.dill_calls.specs.declared.word.Word.{Word}
use Rattle.dill_calls.specs.Program.{Program, IsLawful, Begins}
use Rattle.dill_kernel.specs.declared.ready.Ready.{Ready}
use Rattle.dill_scope.specs.declared.forest.Bundle.{Bundle}
use Rattle.dill_scope.specs.Scopes as scopes
use Rattle.dill_base.specs.Maps.{if_some}
use Rattle.dill_rules.specs.declared.coroutine.Coroutine.{Coroutine}
use Rattle.dill_rules.specs.declared.coroutine.Mode.{Mode}
use Rattle.dill_rules.specs.declared.coroutine.Mode.TheVariants as modes
use Rattle.dill_rules.specs.World.{World, is_coroutine, coroutine_of, begin}
use Rattle.dill_rules.specs.Expiring.{expire_one, passed}
use Rattle.dill_rules.specs.Hearing.{heat_ready}
use Rattle.dill_rules.specs.Settling.{settle}
use Rattle.dill_rules.specs.State.{lined_mode, lined}
use Rattle.dill_rules.specs.Turning.{as_running, resume, answer_given, go_on, turn}
use Rattle.laws_queue.specs.Kept.{Kept, opening_kept, queued, turn_first, kept_turn, kept_expire_next, kept_late, kept_expired, kept_shut, kept_woke, root_closed}
use Rattle.laws_queue.specs.Laws.{MayTurn, KeepsWell}
use Rattle.laws_sound.specs.Linkless.{MakesLinkless, may_wait, waits_linkless, IsLinkless}
use Rattle.laws_sound.specs.LinklessLaws.{KeepsLinkless}
use Rattle.laws_sound.proofs.Linkless.{begin_linkless}
use Rattle.laws_sound.proofs.LinklessLaws.{steps_keep_linkless}
use Rattle.laws_queue.specs.Well.{Numbered, IsWell}
use Rattle.laws_sound.specs.Laws.{KeepsOrder, is_resting, is_timed, IsAtRest, KeepsRest}
use Rattle.laws_sound.proofs.Resting.{steps_keep_rest}
use Rattle.laws_sound.specs.Orderly.{IsOrderly}
use Rattle.laws_debt.specs.Closing.{IsStable}
use Rattle.laws_debt.specs.Flags.{IsFlagged, HasFlags}
use Rattle.laws_debt.specs.Laws.{KeepsStable}
use Rattle.laws_debt.specs.Says.{SaysIn, Says, AllSay}
use Rattle.laws_debt.proofs.Entering.{start_only}
use Rattle.laws_debt.proofs.Flagging.{all_picked, ranked_change}
use Rattle.laws_queue.proofs.Lining.{lined_pending, numbered_lined}
use Rattle.laws_queue.proofs.Lists.{all_map, all_to, number_of}
use Rattle.laws_debt.proofs.Walking.{Sits, AllSit, leads_sits, numbered_calm, settle_calm, expire_calm, Leads}
use Rattle.laws_debt.proofs.Shutting.{AllHold, Lasts, settle_shut, expire_one_shut, go_on_shut}
use Rattle.laws_debt.proofs.Turning.{sits_resumed, go_on_went, went_leads}
use Rattle.laws_queue.proofs.Numbers.{numbered_change}

-- nobody is among the calm
abbrev pub nobody_calm : ℕ → Bool
nobody_calm who = false

-- of a bundle nothing is asked
abbrev pub AnyBundle : Bundle → Type 0
AnyBundle x = Unit {0}

pub any_lasts : Lasts AnyBundle 0
any_lasts = record { owned = λ x owner a. tt; closed = λ x a. tt; made = λ last owner l. tt }

all_any : (xs : List Bundle) → AllByRecursion AnyBundle xs
all_any [] = tt
all_any (x ∷ xs) = (tt, all_any xs)

module _ {V : Type 0} (p : Program V) where
  -- a world in which nobody's program disagrees with what it waits for, and handles are proper
  pub record IsGood (w : World V) : Type 0 where
    pub numbered : Numbered 0 w.coroutines w.last_coroutine
    pub sits : AllSit p w.coroutines
    pub holds : AllHold AnyBundle 0 w

  pub settles : (w : World V) → AllSit p w.coroutines → Numbered 0 w.coroutines w.last_coroutine → Leads p nobody_calm w (settle w)
  settles w a n = settle_calm p nobody_calm (λ v. Unit {0}) (λ v who c i e f. cc) (λ v i. tt) w tt a n

  pub good_settle : (w : World V) → IsGood w → IsGood (settle w)
  good_settle w g =
      let e = settles w g.sits g.numbered in
      record {
        numbered = numbered_calm p nobody_calm w (settle w) e g.numbered;
        sits = leads_sits p nobody_calm w (settle w) e g.sits;
        holds = settle_shut AnyBundle 0 any_lasts w g.holds;
      }

  pub good_expire : (w : World V) (who : ℕ) → IsGood w → IsGood (expire_one w who)
  good_expire w who g =
      let e = expire_calm p nobody_calm w who g.sits (λ call i c. cc) in
      record {
        numbered = numbered_calm p nobody_calm w (expire_one w who) e g.numbered;
        sits = leads_sits p nobody_calm w (expire_one w who) e g.sits;
        holds = expire_one_shut AnyBundle 0 any_lasts w who g.holds;
      }

  all_sit : (cs : List (Coroutine V)) → list_all waits_linkless cs ≡ true → AllSay p cs → AllSit p cs
  all_sit [] e a = tt
  all_sit (c ∷ cs) e a = let h = and_parts (waits_linkless c) (list_all waits_linkless cs) e in ((h.0, a.0), all_sit cs h.1 a.1)

  pub good_stable : (k : Kept V) → IsStable p k → IsGood k.world
  good_stable k s = record {
    numbered = s.well.numbered;
    sits = all_sit k.world.coroutines s.linkless.calls s.says;
    holds = record { given = omega arith; bundles = all_any k.world.scopes.bundles; flags = s.flags };
  }

  says_lined : (said : Word) (mode : Mode) → SaysIn said mode → SaysIn said (lined_mode mode)
  says_lined said (modes.Pending call) s = s
  says_lined said modes.Running s = tt
  says_lined said (modes.Fresh word answer) s = s
  says_lined said (modes.Answered word answer) s = s
  says_lined said (modes.Ending outcome) s = tt

  -- who was answered in a step is queued
  pub stable_queued : (v : World V) (ready : List ℕ) (early : ℕ) → IsWell p (queued v ready early) → IsLinkless (queued v ready early).world → IsOrderly (queued v ready early).world → IsAtRest (queued v ready early).world → IsGood v → IsStable p (queued v ready early)
  stable_queued v ready early well linkless order rest g = record {
    well = well;
    linkless = linkless;
    order = order;
    says = all_map (Says p) lined v.coroutines (λ c s. says_lined (p.said c.body) c.mode s) (all_to (Sits p) (Says p) v.coroutines (λ c s. s.1) g.sits);
    rest = rest;
    flags = g.holds.flags;
  }

module _ {V : Type 0} (p : Program V) where
  lined_sits : (c : Coroutine V) (mode : Mode) → c.mode ≡ mode → Sits p c → Sits p (lined c)
  lined_sits c mode e s = (ap (λ o. if_some o true may_wait) (lined_pending c.mode) ∙ s.0, says_lined p (p.said c.body) c.mode s.1)

  -- a place in the queue keeps a world good
  pub good_queued : (v : World V) (ready : List ℕ) (early : ℕ) → IsGood p v → IsGood p (queued v ready early).world
  good_queued v ready early g = record {
    numbered = numbered_lined v.coroutines 0 v.last_coroutine g.numbered;
    sits = all_map (Sits p) lined v.coroutines (λ c s. lined_sits c c.mode refl s) g.sits;
    holds = record { given = g.holds.given; bundles = g.holds.bundles; flags = g.holds.flags };
  }

-- the turn of the first of the queue
module _ {V : Type 0} (p : Program V) (law : IsLawful p) (unlinked : MakesLinkless p) where
  -- the world in which it has made its call, or is ending
  pub good_moved : (lack : Option LackPlace) (w : World V) (who : ℕ) → MayTurn p w who → (one : Coroutine V) → coroutine_of w who ≡ Some one → 1 ≤ p.left one.body → p.real one.body ≡ true → IsGood p w → IsGood p (go_on p lack (begin w) who one.body)
  good_moved lack w who may one found some real g =
      let b = begin w in
      let answer = (answer_given b who).1 in
      let moved = go_on p lack b who one.body in
      let went = go_on_went p law nobody_calm lack b who one unlinked some (record { found = found; real = real; cancelled = λ e. cc; born = λ e. refl; sits = g.sits; met = λ other its answer e f. cc }) in
      let from = went_leads p law nobody_calm b who one answer moved found went in
      let view = from.0 in
      let before = resume b who view in
      let sits = sits_resumed p b who view one found g.sits in
      let numbered = numbered_change (is_coroutine who) (as_running view) w.coroutines 0 w.last_coroutine (λ d. refl) g.numbered in
      let numbered_then = numbered_calm p nobody_calm before moved from.1 numbered in
      record {
        numbered = numbered_then;
        sits = leads_sits p nobody_calm before moved from.1 sits;
        holds = go_on_shut AnyBundle 0 any_lasts p lack b who one.body g.holds;
      }

  pub turn_is : (lack : Option LackPlace) (w : World V) (who : ℕ) (c : Coroutine V) → coroutine_of w who ≡ Some c → turn p lack w who ≡ settle (go_on p lack (begin w) who c.body)
  turn_is lack w who c e = ap (λ o. if_some o w (λ d. settle (go_on p lack (begin w) who d.body))) e

  pub good_turn : (lack : Option LackPlace) (w : World V) (who : ℕ) → MayTurn p w who → IsGood p w → IsGood p (turn p lack w who)
  good_turn lack w who may g =
      subst (IsGood p) (sym (turn_is lack w who may.one may.found)) (good_settle p (go_on p lack (begin w) who may.one.body) (good_moved lack w who may may.one may.found may.some may.real g))

module _ {V : Type 0} where
  heated : (ready : List Ready) (w : World V) → ((fold heat_ready w ready).coroutines ≡ w.coroutines) × ((fold heat_ready w ready).handles.entries ≡ w.handles.entries)
  heated [] w = (refl, refl)
  heated (x ∷ xs) w = let r = heated xs (heat_ready w x) in (r.0, r.1)

  pub root_flags : (w : World V) → HasFlags w → HasFlags (root_closed w)
  root_flags w f = record {
    ranked = ranked_change (scopes.is_bundle 0) scopes.as_closing w.scopes.bundles 0 w.last_bundle (λ x. refl) f.ranked;
    flagged = all_picked (IsFlagged w.closings) (IsFlagged w.closings) (scopes.is_bundle 0) scopes.as_closing w.scopes.bundles (λ x i a e. inl (number_of x.name 0 i)) (λ x a. a) f.flagged;
  }

  heat_flags : (ready : List Ready) (w : World V) → HasFlags w → HasFlags (fold heat_ready w ready)
  heat_flags [] w f = f
  heat_flags (x ∷ xs) w f = heat_flags xs (heat_ready w x) (record { ranked = f.ranked; flagged = f.flagged })

module _ {V : Type 0} (p : Program V) (law : IsLawful p) (unlinked : MakesLinkless p) (keeps : KeepsWell p) (ordered : KeepsOrder p) where
  stays : KeepsLinkless p
  stays = steps_keep_linkless p law unlinked

  rests : KeepsRest p
  rests = steps_keep_rest p law

  opening : (view : V) → Begins p view → IsStable p (opening_kept view)
  opening view b = record {
    well = keeps.opening view b;
    linkless = stays.opening view;
    order = ordered.opening view;
    says = (start_only (p.said view) b.start, tt);
    rest = refl;
    flags = record { ranked = (omega arith, omega arith); flagged = (λ e. cc, tt) };
  }

  turned : (k : Kept V) (lack : Option LackPlace) → IsStable p k → IsStable p (kept_turn p lack k)
  turned k lack s = at k.ready refl
    where
      at : (ready : List ℕ) → k.ready ≡ ready → IsStable p (turn_first p lack k ready)
      at [] e = s
      at (who ∷ rest) e =
          let may = keeps.first k who rest s.well e in
          let is : kept_turn p lack k ≡ turn_first p lack k (who ∷ rest) = ap (turn_first p lack k) e in
          stable_queued p (turn p lack k.world who) rest (k.early - 1) (subst (IsWell p) is (keeps.turned k lack s.well)) (subst (λ (l : Kept V). IsLinkless l.world) is (stays.turned k lack s.well s.linkless)) (subst (λ (l : Kept V). IsOrderly l.world) is (ordered.turned k lack s.well s.order)) (subst (λ (l : Kept V). IsAtRest l.world) is (rests.turned k lack s.well s.order s.rest)) (good_turn p law unlinked lack k.world who may (good_stable p k s))

  started : (k : Kept V) → IsStable p k → IsStable p (record k { world = begin k.world })
  started k s = record { well = keeps.started k s.well; linkless = begin_linkless k.world s.linkless; order = ordered.started k s.order; says = s.says; rest = s.rest; flags = s.flags }

  expires : (k : Kept V) (who : ℕ) → IsStable p k → is_timed k.world who ≡ true → IsStable p (kept_expire_next k who)
  expires k who s e = stable_queued p (expire_one k.world who) k.ready k.early (keeps.expires k who s.well) (stays.expires k who s.linkless) (ordered.expires k who s.order e) (rests.expires k who s.rest) (good_expire p k.world who (good_stable p k s))

  good_late : (xs : List ℕ) (k : Kept V) → IsGood p k.world → IsGood p (fold kept_expire_next k xs).world
  good_late [] k g = g
  good_late (x ∷ xs) k g = good_late xs (kept_expire_next k x) (good_queued p (expire_one k.world x) k.ready k.early (good_expire p k.world x g))

  expired : (k : Kept V) → IsStable p k → IsStable p (kept_expired k)
  expired k s =
      let g = good_stable p k s in
      let begun : IsGood p (begin k.world) = record { numbered = g.numbered; sits = g.sits; holds = record { given = omega arith; bundles = g.holds.bundles; flags = g.holds.flags } } in
      let late = good_late (passed k.world) (record k { world = begin k.world }) begun in
      stable_queued p (settle (kept_late k).world) (kept_late k).ready (kept_late k).early (keeps.expired k s.well) (stays.expired k s.linkless) (ordered.expired k s.order) (rests.expired k s.rest) (good_settle p (kept_late k).world late)

  settled : (k : Kept V) → IsStable p k → IsStable p (queued (settle k.world) k.ready k.early)
  settled k s = stable_queued p (settle k.world) k.ready k.early (keeps.settled k s.well) (stays.settled k s.linkless) (ordered.settled k s.order) (rests.settled k s.rest) (good_settle p k.world (good_stable p k s))

  pub good_closed : (w : World V) → IsGood p w → IsGood p (root_closed w)
  good_closed w g = record { numbered = g.numbered; sits = g.sits; holds = record { given = omega arith; bundles = all_any (root_closed w).scopes.bundles; flags = root_flags w g.holds.flags } }

  shut : (k : Kept V) → IsStable p k → IsStable p (kept_shut k)
  shut k s = stable_queued p (settle (root_closed k.world)) k.ready (length k.ready) (keeps.shut k s.well) (stays.shut k s.linkless) (ordered.shut k s.order) (rests.shut k s.rest) (good_settle p (root_closed k.world) (good_closed k.world (good_stable p k s)))

  woke : (k : Kept V) (told : ℕ) (ready : List Ready) → IsStable p k → IsStable p (kept_woke k told ready)
  woke k told ready s =
      let h = heated ready (begin k.world) in
      record {
        well = keeps.woke k told ready s.well;
        linkless = stays.woke k told ready s.linkless;
        order = ordered.woke k told ready s.order;
        says = subst (AllSay p) (sym h.0) s.says;
        rest = subst (λ cs. list_all (λ c. is_resting c.mode) cs ≡ true) (sym h.0) s.rest;
        flags = let f = heat_flags ready (begin k.world) (record { ranked = s.flags.ranked; flagged = s.flags.flagged }) in record { ranked = f.ranked; flagged = f.flagged };
      }

  pub keeps_stable : KeepsStable p
  keeps_stable = record {
    opening = opening;
    turned = turned;
    started = started;
    expires = expires;
    settled = settled;
    expired = expired;
    shut = shut;
    woke = woke;
  }
