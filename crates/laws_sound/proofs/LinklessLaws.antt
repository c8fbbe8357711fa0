-- The steps of programs that make no call of a link leave a world without links so, and draw no random number.
use Rattle.std.proofs.Common.{◌≡◌, ◌∙◌, ◌-◌, ℕ, List, [], ◌∷◌, length, fold, true, Option, Some, refl, sym, ap, subst}
use Rattle.rand_core.specs.Stream.{Stream}
use Rattle.dill_calls.specs.declared.ran.LackPlace.{LackPlace}
use Rattle.dill_calls.specs.Program.{Program, IsLawful}
use Rattle.dill_kernel.specs.declared.ready.Ready.{Ready}
use Rattle.dill_base.specs.Maps.{if_some}
use Rattle.dill_rules.specs.declared.coroutine.Coroutine.{Coroutine}
use Rattle.dill_rules.specs.World.{World, begin, coroutine_of}
use Rattle.dill_rules.specs.Expiring.{expire_one, passed}
use Rattle.dill_rules.specs.Hearing.{heat_ready}
use Rattle.dill_rules.specs.Links.{rested}
use Rattle.dill_rules.specs.Seen.{lend}
use Rattle.dill_rules.specs.Settling.{settle}
use Rattle.dill_rules.specs.State.{State, lined, after, turned, expire_next, expired, shut}
use Rattle.dill_rules.specs.Turning.{move_of, answer_given, turn}
use Rattle.laws_queue.specs.Following.{Follows}
use Rattle.laws_queue.specs.Kept.{Kept, queued, turn_first, kept_turn, kept_expire_next, kept_late, kept_expired, root_closed, kept_shut, kept_woke, lend_kept, returned}
use Rattle.laws_queue.specs.Laws.{KeepsWell}
use Rattle.laws_queue.specs.Lending.{no_random, wordless}
use Rattle.laws_queue.specs.Stands.{StandsFor}
use Rattle.laws_queue.specs.Well.{IsWell}
use Rattle.laws_queue.proofs.Following.{follows_states, stands_queued}
use Rattle.laws_queue.proofs.Keeping.{steps_keep_well}
use Rattle.laws_queue.proofs.Lining.{lined_pending}
use Rattle.laws_sound.specs.Linkless.{MovesLinkless, MakesLinkless, may_wait, waits_linkless, IsLinkless}
use Rattle.laws_sound.specs.LinklessLaws.{StepsKeepLinkless, FollowsStatesLinkless}
use Rattle.laws_sound.proofs.Lists.{all_map}
use Rattle.laws_sound.proofs.Linkless.{linkless_with, begin_linkless}
use Rattle.laws_sound.proofs.Steps.{settle_linkless, settle_lent}
use Rattle.laws_sound.proofs.Turns.{turn_lent, expire_one_linkless, expire_one_lent, closed_linkless}
use Rattle.laws_sound.proofs.Untried.{ask_none}

module _ {V : Type 0} where
  queued_linkless : (w : World V) (ready : List ℕ) (early : ℕ) → IsLinkless w → IsLinkless (queued w ready early).world
  queued_linkless w ready early linkless =
      linkless_with w (queued w ready early).world refl refl (λ h. h) (all_map waits_linkless lined w.coroutines (λ c f. ap (λ o. if_some o true may_wait) (lined_pending c.mode) ∙ f)) linkless

  heated_linkless : (ready : List Ready) (w : World V) → IsLinkless w → IsLinkless (fold heat_ready w ready)
  heated_linkless [] w linkless = linkless
  heated_linkless (x ∷ xs) w linkless =
      heated_linkless xs (heat_ready w x) (record {
        links = ap (λ l. (heat_ready (record w { links = l }) x).links) linkless.links;
        place = linkless.place;
        things = linkless.things;
        calls = linkless.calls;
      })

  woke_linkless : (k : Kept V) (told : ℕ) (ready : List Ready) → IsLinkless k.world → IsLinkless (kept_woke k told ready).world
  woke_linkless k told ready linkless =
      let heated = heated_linkless ready (begin k.world) (begin_linkless k.world linkless) in
      record { links = ap rested heated.links; place = refl; things = heated.things; calls = heated.calls }

  late_linkless : (xs : List ℕ) (k : Kept V) → IsLinkless k.world → IsLinkless (fold kept_expire_next k xs).world
  late_linkless [] k linkless = linkless
  late_linkless (x ∷ xs) k linkless = late_linkless xs (kept_expire_next k x) (queued_linkless (expire_one k.world x) k.ready k.early (expire_one_linkless k.world x linkless))

  begun_late_linkless : (k : Kept V) → IsLinkless k.world → IsLinkless (kept_late k).world
  begun_late_linkless k linkless = late_linkless (passed k.world) (record k { world = begin k.world }) (begin_linkless k.world linkless)

  settled_linkless : (k : Kept V) → IsLinkless k.world → IsLinkless (queued (settle k.world) k.ready k.early).world
  settled_linkless k linkless = queued_linkless (settle k.world) k.ready k.early (settle_linkless k.world linkless)

  -- what is lent to what is kept is lent to its steps
  late_lent : (u : Stream) (xs : List ℕ) (k : Kept V) → IsLinkless k.world → fold kept_expire_next (lend_kept k u) xs ≡ lend_kept (fold kept_expire_next k xs) u
  late_lent u [] k linkless = refl
  late_lent u (x ∷ xs) k linkless =
      ap (λ w. fold kept_expire_next (queued w k.ready k.early) xs) (expire_one_lent u k.world x linkless).same
      ∙ late_lent u xs (kept_expire_next k x) (queued_linkless (expire_one k.world x) k.ready k.early (expire_one_linkless k.world x linkless))

  expired_lent : (u : Stream) (k : Kept V) → IsLinkless k.world → kept_expired (lend_kept k u) ≡ lend_kept (kept_expired k) u
  expired_lent u k linkless =
      let late = kept_late k in
      ap (λ (l : Kept V). queued (settle l.world) l.ready l.early) (late_lent u (passed k.world) (record k { world = begin k.world }) (begin_linkless k.world linkless))
      ∙ ap (λ w. queued w late.ready late.early) (settle_lent u late.world (begun_late_linkless k linkless)).same

  shut_lent : (u : Stream) (k : Kept V) → IsLinkless k.world → kept_shut (lend_kept k u) ≡ lend_kept (kept_shut k) u
  shut_lent u k linkless = ap (λ w. queued w k.ready (length k.ready)) (settle_lent u (root_closed k.world) (closed_linkless k.world linkless)).same

  -- a core has no random numbers of its own
  unlent : (k : Kept V) (s : State V) → StandsFor k s → returned k ≡ k
  unlent k s stands = ap (λ w. record k { world = w }) (ap wordless stands.world ∙ sym stands.world)

  -- a step that looks at no random number, of what stands for a state
  unlent_step : (f : Kept V → Kept V) (k : Kept V) (s : State V) (u : Stream) → ((u : Stream) → f (lend_kept k u) ≡ lend_kept (f k) u) → StandsFor k s → returned (f (lend_kept k u)) ≡ f k
  unlent_step f k s u blind stands = ap returned (blind u) ∙ sym (blind no_random) ∙ ap f (unlent k s stands)

  unlent_linkless : (w : World V) → IsLinkless (wordless w) → IsLinkless w
  unlent_linkless w linkless = record { links = linkless.links; place = linkless.place; things = linkless.things; calls = linkless.calls }

  linkless_of : (k : Kept V) (s : State V) → IsLinkless k.world → StandsFor k s → IsLinkless s.world
  linkless_of k s linkless stands = unlent_linkless s.world (subst IsLinkless stands.world linkless)

  pub expired_next : (k : Kept V) (s : State V) (who : ℕ) → IsLinkless k.world → StandsFor k s → StandsFor (kept_expire_next k who) (expire_next s who)
  expired_next k s who linkless stands =
      stands_queued (expire_one k.world who) k.ready k.early (expire_one s.world who) s.answers s.closings s.next
      (ap (λ w. expire_one w who) stands.world ∙ (expire_one_lent no_random s.world who (linkless_of k s linkless stands)).same) stands.order stands.rise

  pub settled_after : (k : Kept V) (s : State V) → IsLinkless k.world → StandsFor k s → StandsFor (queued (settle k.world) k.ready k.early) (after s (settle s.world))
  settled_after k s linkless stands =
      stands_queued (settle k.world) k.ready k.early (settle s.world) s.answers s.closings s.next
      (ap settle stands.world ∙ (settle_lent no_random s.world (linkless_of k s linkless stands)).same) stands.order stands.rise

module _ {V : Type 0} (p : Program V) (law : IsLawful p) (unlinked : MakesLinkless p) where
  keeps : KeepsWell p
  keeps = steps_keep_well p law

  goes : (k : Kept V) (who : ℕ) (rest : List ℕ) → IsWell p k → k.ready ≡ who ∷ rest → (c : Coroutine V) → coroutine_of k.world who ≡ Some c → MovesLinkless (move_of p k.world who c.body)
  goes k who rest well e c f =
      let may = keeps.first k who rest well e in
      let there = may.found in
      let it : may.one ≡ c = cc in
      subst (λ d. MovesLinkless (move_of p k.world who d.body)) it (unlinked may.one.body (answer_given k.world who).1 may.real may.some)

  turned_linkless : (k : Kept V) (lack : Option LackPlace) → IsWell p k → IsLinkless k.world → IsLinkless (kept_turn p lack k).world
  turned_linkless k lack well linkless = at k.ready refl
    where
      at : (ready : List ℕ) → k.ready ≡ ready → IsLinkless (turn_first p lack k ready).world
      at [] e = linkless
      at (who ∷ rest) e = queued_linkless (turn p lack k.world who) rest (k.early - 1) (turn_lent k.world.random p lack k.world who (goes k who rest well e) linkless).linkless

  turned_lent : (u : Stream) (k : Kept V) (lack : Option LackPlace) → IsWell p k → IsLinkless k.world → kept_turn p lack (lend_kept k u) ≡ lend_kept (kept_turn p lack k) u
  turned_lent u k lack well linkless = at k.ready refl
    where
      at : (ready : List ℕ) → k.ready ≡ ready → turn_first p lack (lend_kept k u) ready ≡ lend_kept (turn_first p lack k ready) u
      at [] e = refl
      at (who ∷ rest) e = ap (λ w. queued w rest (k.early - 1)) (turn_lent u p lack k.world who (goes k who rest well e) linkless).same

  follows : Follows p
  follows = follows_states p law

  turned_stands : (k : Kept V) (s : State V) (lack : Option LackPlace) (random : Stream) → IsWell p k → IsLinkless k.world → StandsFor k s → StandsFor (kept_turn p lack k) (turned p lack (lend s random))
  turned_stands k s lack random well linkless stands =
      subst (λ l. StandsFor l (turned p lack (lend s random))) (unlent_step (kept_turn p lack) k s random (λ u. turned_lent u k lack well linkless) stands) (follows.turned k s lack random well stands).stands

  turned_random : (k : Kept V) (s : State V) (lack : Option LackPlace) (random : Stream) → IsWell p k → IsLinkless k.world → StandsFor k s → (turned p lack (lend s random)).world.random ≡ random
  turned_random k s lack random well linkless stands = sym (follows.turned k s lack random well stands).random ∙ ap (λ (l : Kept V). l.world.random) (turned_lent random k lack well linkless)

  expired_stands : (k : Kept V) (s : State V) → IsLinkless k.world → StandsFor k s → StandsFor (kept_expired k) (expired s)
  expired_stands k s linkless stands = subst (λ l. StandsFor l (expired s)) (unlent_step kept_expired k s s.world.random (λ u. expired_lent u k linkless) stands) (follows.expired k s s.world.random stands).stands

  shut_stands : (k : Kept V) (s : State V) → IsLinkless k.world → StandsFor k s → StandsFor (kept_shut k) (shut s)
  shut_stands k s linkless stands = subst (λ l. StandsFor l (shut s)) (unlent_step kept_shut k s s.world.random (λ u. shut_lent u k linkless) stands) (follows.shut k s s.world.random stands).stands

pub steps_keep_linkless : {V : Type 0} (p : Program V) → StepsKeepLinkless p
steps_keep_linkless p law unlinked = record {
  opening = λ view. record { links = refl; place = refl; things = refl; calls = refl };
  turned = turned_linkless p law unlinked;
  expires = λ k who linkless. queued_linkless (expire_one k.world who) k.ready k.early (expire_one_linkless k.world who linkless);
  settled = settled_linkless;
  expired = λ k linkless. settled_linkless (kept_late k) (begun_late_linkless k linkless);
  shut = λ k linkless. queued_linkless (settle (root_closed k.world)) k.ready (length k.ready) (settle_linkless (root_closed k.world) (closed_linkless k.world linkless));
  woke = woke_linkless;
}

pub follows_linkless : {V : Type 0} (p : Program V) → FollowsStatesLinkless p
follows_linkless p law unlinked =
    let follows = follows_states p law in
    record {
      opening = follows.opening;
      seen = follows.seen;
      next_try = λ k s linkless stands. ask_none s.world (linkless_of k s linkless stands);
      turned = turned_stands p law unlinked;
      random = turned_random p law unlinked;
      expired = expired_stands p law unlinked;
      shut = shut_stands p law unlinked;
      woke = follows.woke;
    }
