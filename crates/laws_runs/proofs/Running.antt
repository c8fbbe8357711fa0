-- Each step of a run up to its stop keeps: a stable core stands for the state, and nothing is counted. Or it is the stop.
use Rattle.std.proofs.Common.{◌≡◌, ◌⊎◌, inl, inr, ◌∙◌, ℕ, zero, suc, ◌≤◌, ◌^◌, ◌==◌, List, [], ◌∷◌, Some, Bool, true, false, cond, find, refl, sym, ap, subst}
use Rattle.std.specs.List.{AllByRecursion}
use Rattle.dill_scope.specs.declared.forest.Bundle.{Bundle}
use Rattle.dill_scope.specs.Scopes.{is_bundle}
use Rattle.dill_base.specs.Maps.{if_some}
use Rattle.laws_sound.specs.Linkless.{MakesLinkless}
use Rattle.laws_queue.proofs.Lists.{number_of}
use Rattle.dill_calls.specs.Program.{Program, IsLawful}
use Rattle.dill_rules.specs.Debts.{debt}
use Rattle.laws_queue.specs.Laws.{KeepsWell}
use Rattle.laws_runs.proofs.Owing.{owed_is_debt}
use Rattle.laws_runs.proofs.Unshut.{IsOpenRoot, IsUnshut, expired_unshut, opening_unshut, turned_unshut, woke_unshut}
use Rattle.dill_rules.specs.State.{State, opening_state}
use Rattle.dill_drive.specs.ByRules.{machine_of}
use Rattle.dill_drive.specs.Machine.{Machine}
use Rattle.dill_drive.specs.Play.{Playing, advance, opening, play}
use Rattle.dill_drive.specs.Story.{Place, Writing, Over, Config}
use Rattle.laws_sound.specs.LinklessLaws.{FollowsLinkless}
use Rattle.laws_debt.specs.Owed.{owed}
use Rattle.laws_queue.specs.Kept.{Kept, kept_expired, kept_shut, kept_turn, kept_woke, opening_kept}
use Rattle.laws_queue.specs.Stands.{StandsFor}
use Rattle.laws_debt.specs.Closing.{IsStable}
use Rattle.laws_debt.specs.Laws.{EndsClosing, KeepsStable}
use Rattle.laws_runs.specs.Bound.{IsAtStop, StopsWithin, RunsAreBounded}
use Rattle.laws_runs.proofs.Lasting.{is_early, Changes, stays, expires, wakes, turns, Steps, before, stops, out, tests, goes, counts, sums, ends, advances}
use Rattle.laws_runs.proofs.Playing.{closing_is_bounded}

-- the root is open, if it is there
root_open : (bs : List Bundle) → AllByRecursion IsOpenRoot bs → if_some (find (is_bundle 0) bs) false (λ x. x.closing) ≡ false
root_open [] a = refl
root_open (x ∷ bs) a = at (x.name == 0) refl (root_open bs a.1)
  where
    at : (b : Bool) → (x.name == 0) ≡ b → if_some (find (is_bundle 0) bs) false (λ y. y.closing) ≡ false → if_some (cond b (Some x) (find (is_bundle 0) bs)) false (λ y. y.closing) ≡ false
    at true e r = a.0 (number_of x.name 0 e)
    at false e r = r

-- a stable core stands for the state, whose root is open
record Stable {V : Type 0} (p : Program V) (s : State V) : Type 0 where
  pub kept : Kept V
  pub stands : StandsFor kept s
  pub stable : IsStable p kept
  pub unshut : IsUnshut s

record IsEarly {V : Type 0} (p : Program V) (c : Config (State V)) : Type 0 where
  pub state : Stable p c.state
  pub none : c.tally.closing ≡ 0
  pub place : is_early c.place ≡ true

module _ {V : Type 0} (p : Program V) (law : IsLawful p) (unlinked : MakesLinkless p) (well : KeepsWell p) (keeps : KeepsStable p) (follows : FollowsLinkless p) (traced : Bool) (most : ℕ) where
  abbrev m : Machine (State V)
  m = machine_of p

  -- a step from a state leads on, or it is the stop
  abbrev Leads : State V → Config (State V) → Type 0
  Leads s c = IsEarly p c ⊎ IsAtStop s c

  changes : (s t : State V) → Changes m s t → Stable p s → Stable p t
  changes s t (stays e) h = subst (Stable p) (sym e) h
  changes s t (expires e) h = subst (Stable p) (sym e)
      (record { kept = kept_expired h.kept; stands = follows.expired h.kept s h.stable.linkless h.stands; stable = keeps.expired h.kept h.stable; unshut = expired_unshut p law unlinked well keeps follows h.kept s h.stable h.stands h.unshut })
  changes s t (wakes told ready e) h = subst (Stable p) (sym e)
      (record { kept = kept_woke h.kept told ready; stands = follows.woke h.kept s told ready h.stands; stable = keeps.woke h.kept told ready h.stable; unshut = woke_unshut s told ready h.unshut })
  changes s t (turns lack random e) h = subst (Stable p) (sym e)
      (record { kept = kept_turn p lack h.kept; stands = follows.turned h.kept s lack random h.stable.well h.stable.linkless h.stands; stable = keeps.turned h.kept lack h.stable; unshut = turned_unshut p law unlinked well keeps follows h.kept s lack random h.stable h.stands h.unshut })

  over_early : (place : Place) → (place ≡ Over) ⊎ (place ≡ Writing Over) → is_early place ≡ true
  over_early place (inl e) = ap is_early e
  over_early place (inr e) = ap is_early e

  leads : (c d : Config (State V)) → Steps m c d → IsEarly p c → Leads c.state d
  leads c d (before s n q k) h = inl (record { state = changes c.state d.state s h.state; none = n ∙ h.none; place = k h.place })
  leads c d (stops s n q at) h = inr (record { place = at; state = s; none = n ∙ h.none })
  leads c d (out is at s n) h = cc (ap is_early is, h.place)
  leads c d (tests is at s n e) h = cc (ap is_early is, h.place)
  leads c d (goes is at s n e) h = cc (ap is_early is, h.place)
  leads c d (counts lack random is at s n) h = cc (ap is_early is, h.place)
  leads c d (sums is at s n) h = inl (record { state = subst (Stable p) (sym s) h.state; none = n ∙ h.none; place = over_early d.place at })
  leads c d (ends is at s n) h = inl (record { state = subst (Stable p) (sym s) h.state; none = n ∙ h.none; place = ap is_early at })

  step : (run : Playing (State V)) → IsEarly p run.config → Leads run.config.state (advance m traced most run).config
  step run h = leads run.config (advance m traced most run).config (advances m traced most run (follows.next_try h.state.kept run.config.state h.state.stable.linkless h.state.stands)) h

  -- no turn is counted, or the run stops
  abbrev IsBounded : Playing (State V) → ℕ → Type 0
  IsBounded begun count = (count ≡ 0) ⊎ StopsWithin p traced most begun count

  later : (run : Playing (State V)) (count : ℕ) → IsBounded (advance m traced most run) count → IsBounded run count
  later run count (inl none) = inl none
  later run count (inr s) = inr (record { steps = suc s.steps; open_root = s.open_root; stop = s.stop; few = s.few; small = s.small })

  -- the stop, and all that comes behind it
  stops_within : (laws : EndsClosing p) (n : ℕ) (run : Playing (State V)) → Stable p run.config.state → IsAtStop run.config.state (advance m traced most run).config → StopsWithin p traced most run (play m traced most n (advance m traced most run)).config.tally.closing
  stops_within laws n run h stop =
      let there = advance m traced most run in
      let count = (play m traced most n there).config.tally.closing in
      let same : owed p (kept_shut h.kept) ≡ debt p there.config.state 0 = owed_is_debt p follows laws h.kept run.config.state h.stable h.stands h.unshut ∙ ap (λ s. debt p s 0) (sym stop.state) in
      record {
        steps = 0;
        open_root = root_open run.config.state.world.scopes.bundles h.unshut.root;
        stop = stop;
        few = subst (λ x. count ≤ x) same (closing_is_bounded p follows laws h.kept run.config.state traced most there h.stands h.stable stop n);
        small = subst (λ x. x ≤ 2 ^ 48) same (laws.few (kept_shut h.kept) (laws.shut h.kept h.stable));
      }

  plays : (laws : EndsClosing p) (n : ℕ) (run : Playing (State V)) → IsEarly p run.config → IsBounded run (play m traced most n run).config.tally.closing
  plays laws zero run h = inl h.none
  plays laws (suc n) run h = at (step run h) (plays laws n (advance m traced most run))
    where
      at : Leads run.config.state (advance m traced most run).config → (IsEarly p (advance m traced most run).config → IsBounded (advance m traced most run) (play m traced most n (advance m traced most run)).config.tally.closing) → IsBounded run (play m traced most n (advance m traced most run)).config.tally.closing
      at (inl early) rest = later run (play m traced most n (advance m traced most run)).config.tally.closing (rest early)
      at (inr stop) rest = inr (stops_within laws n run h.state stop)

pub runs_are_bounded : {V : Type 0} (p : Program V) → IsLawful p → MakesLinkless p → KeepsWell p → KeepsStable p → FollowsLinkless p → EndsClosing p → RunsAreBounded p
runs_are_bounded p law unlinked well keeps follows laws view random keys traced most replies lacks halt n begins =
    let begun = opening (machine_of p) traced most (opening_state view random) keys replies lacks halt in
    plays p law unlinked well keeps follows traced most laws n begun (record {
      state = record { kept = opening_kept view; stands = follows.opening view random; stable = keeps.opening view begins; unshut = opening_unshut view random };
      none = refl;
      place = refl;
    })
