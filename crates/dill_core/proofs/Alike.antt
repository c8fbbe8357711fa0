-- A core, and the rules from the state that it stands for: nothing different is seen of the two.
use Rattle.std.proofs.Common.{◌≡◌, ◌∙◌, sym, ap, subst}
use Rattle.rand_core.specs.Stream.{Stream}
use Rattle.dill_calls.specs.Program.{Program, Begins}
use Rattle.dill_rules.specs.Seen.{turn_seen}
use Rattle.dill_rules.specs.State.{State, opening_state, expired, shut, woke}
use Rattle.dill_rules.specs.World.{World}
use Rattle.laws_sound.specs.LinklessLaws.{KeepsLinkless, FollowsLinkless}
use Rattle.laws_queue.specs.Kept.{Kept, opening_kept, kept_turn, kept_expired, kept_shut, kept_woke}
use Rattle.laws_queue.specs.Laws.{KeepsWell}
use Rattle.laws_queue.specs.Lending.{no_random}
use Rattle.laws_sound.specs.Linkless.{IsLinkless}
use Rattle.laws_queue.specs.Stands.{StandsFor}
use Rattle.laws_queue.specs.Well.{IsWell}
use Rattle.dill_drive.specs.ByRules.{machine_of}
use Rattle.dill_drive.proofs.Alike.{Alike}
use Rattle.dill_world.specs.Store.{world_of}
use Rattle.dill_core.specs.CoreMachine.{core_machine}
use Rattle.dill_core.specs.Holding.{Holding, kept_of, held_of, store_of}

module _ {V : Type 0} where
  -- a world without random numbers is stored whole
  stored_world : (w : World V) → w.random ≡ no_random → world_of (store_of w) ≡ w
  stored_world w random = ap (λ (u : Stream). record w { random = u }) (sym random)

module _ {V : Type 0} (p : Program V) where
  -- a core stands for the state for which what it keeps does
  abbrev pub Stands : Holding V → State V → Type 0
  Stands h s = IsWell p (kept_of h) × IsLinkless (kept_of h).world × StandsFor (kept_of h) s

  -- what is kept well and stands for a state is held whole
  held : (k : Kept V) (s : State V) → IsWell p k → IsLinkless k.world → StandsFor k s → Stands (held_of k) s
  held k s well linkless stands =
      let random : k.world.random ≡ no_random = ap (λ (w : World V). w.random) stands.world in
      let whole : kept_of (held_of k) ≡ k = ap (λ (w : World V). record k { world = w }) (stored_world k.world random) in
      (subst (IsWell p) (sym whole) well, subst (λ (l : Kept V). IsLinkless l.world) (sym whole) linkless, subst (λ (l : Kept V). StandsFor l s) (sym whole) stands)

  module _ (keeps : KeepsWell p) (stays : KeepsLinkless p) (follows : FollowsLinkless p) where
    pub alike : Alike (core_machine p) (machine_of p) Stands
    alike = record {
      ended = λ h s (well, linkless, stands). (follows.seen (kept_of h) s well stands).ended;
      answered = λ h s (well, linkless, stands). (follows.seen (kept_of h) s well stands).answered;
      stuck = λ h s (well, linkless, stands) on. (follows.seen (kept_of h) s well stands).stuck;
      limit = λ h s (well, linkless, stands) on. (follows.seen (kept_of h) s well stands).limit;
      woke = λ h s moment ready (well, linkless, stands). held (kept_woke (kept_of h) moment ready) (woke s moment ready) (keeps.woke (kept_of h) moment ready well) (stays.woke (kept_of h) moment ready linkless) (follows.woke (kept_of h) s moment ready stands);
      next_try = λ h s (well, linkless, stands). follows.next_try (kept_of h) s linkless stands;
      hear = λ h s ask reply keys stands due. cc;
      expire = λ h s (well, linkless, stands). held (kept_expired (kept_of h)) (expired s) (keeps.expired (kept_of h) well) (stays.expired (kept_of h) linkless) (follows.expired (kept_of h) s linkless stands);
      may_lack = λ h s place (well, linkless, stands) on may. (follows.seen (kept_of h) s well stands).may_lack place ∙ may;
      ran = λ h s lack (well, linkless, stands) on may. (follows.seen (kept_of h) s well stands).ran lack;
      turn = λ h s lack keys (well, linkless, stands) on may. (
        held (kept_turn p lack (kept_of h)) (turn_seen p s lack keys).0 (keeps.turned (kept_of h) lack well) (stays.turned (kept_of h) lack well linkless) (follows.turned (kept_of h) s lack keys well linkless stands),
        follows.random (kept_of h) s lack keys well linkless stands,
      );
      shut = λ h s (well, linkless, stands). held (kept_shut (kept_of h)) (shut s) (keeps.shut (kept_of h) well) (stays.shut (kept_of h) linkless) (follows.shut (kept_of h) s linkless stands);
      notes = λ h s (well, linkless, stands). (follows.seen (kept_of h) s well stands).notes;
      waiting = λ h s (well, linkless, stands). (follows.seen (kept_of h) s well stands).waiting;
      made = λ h s (well, linkless, stands). (follows.seen (kept_of h) s well stands).made;
      gone = λ h s (well, linkless, stands). (follows.seen (kept_of h) s well stands).gone;
    }

    -- before the first turn
    pub stands_first : (h : Holding V) (view : V) (random : Stream) → Begins p view → kept_of h ≡ opening_kept view → Stands h (opening_state view random)
    stands_first h view random begins is = (subst (IsWell p) (sym is) (keeps.opening view begins), subst (λ (k : Kept V). IsLinkless k.world) (sym is) (stays.opening view), subst (λ (k : Kept V). StandsFor k (opening_state view random)) (sym is) (follows.opening view random))
