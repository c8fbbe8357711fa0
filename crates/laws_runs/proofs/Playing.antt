-- Each step of a run behind its stop keeps: what was counted and what is owed are together no more than was owed.
use Rattle.std.proofs.Common.{◌≡◌, ◌⊎◌, inl, inr, ◌∙◌, ℕ, zero, suc, ◌+◌, ◌≤◌, length, Option, None, Bool, true, false, is_some, sym, ap, subst, arith}
use Rattle.rand_core.specs.Stream.{Stream}
use Rattle.dill_calls.specs.declared.ran.LackPlace.{LackPlace}
use Rattle.dill_calls.specs.Program.{Program}
use Rattle.dill_rules.specs.Seen.{turn_seen}
use Rattle.dill_rules.specs.State.{State, shut}
use Rattle.dill_drive.specs.ByRules.{machine_of}
use Rattle.dill_drive.specs.Machine.{Machine}
use Rattle.dill_drive.specs.Play.{Playing, advance, play}
use Rattle.dill_drive.specs.Story.{Place, Last, Closes, Writing, Over, Config}
use Rattle.laws_sound.specs.LinklessLaws.{FollowsLinkless}
use Rattle.laws_queue.specs.Kept.{Kept, kept_shut, kept_turn}
use Rattle.laws_queue.specs.Stands.{StandsFor}
use Rattle.laws_debt.specs.Closing.{IsStable, IsClosing}
use Rattle.laws_debt.specs.Laws.{EndsClosing}
use Rattle.laws_debt.specs.Owed.{owed}
use Rattle.laws_runs.specs.Bound.{IsAtStop, ClosingIsBounded}
use Rattle.laws_runs.proofs.Again.{noted, again_same}
use Rattle.laws_runs.proofs.Lasting.{is_behind, IsClosingPlace, Steps, before, stops, out, tests, goes, counts, sums, ends, advances}

-- the summary is written, or is to be
abbrev pub is_summed : Place → Bool
is_summed Closes = true
is_summed (Writing Over) = true
is_summed Over = true
is_summed _ = false

-- A closing core stands for the state; what was counted, and what is owed of it, are together at most this total.
pub record Holds {V : Type 0} (p : Program V) (total : ℕ) (s : State V) (count : ℕ) : Type 0 where
  pub kept : Kept V
  pub stands : StandsFor kept s
  pub closing : IsClosing p kept
  pub few : count + owed p kept ≤ total

-- so it is behind the stop; and `main` hasn't ended where a turn is made, and has ended where the summary comes
pub record IsWithin {V : Type 0} (p : Program V) (total : ℕ) (c : Config (State V)) : Type 0 where
  pub holds : Holds p total c.state c.tally.closing
  pub place : is_behind c.place ≡ true
  pub going : c.place ≡ Last → c.state.world.ended ≡ None
  pub ended : is_summed c.place ≡ true → is_some c.state.world.ended ≡ true

module _ {V : Type 0} (p : Program V) (follows : FollowsLinkless p) (laws : EndsClosing p) (total : ℕ) where
  -- a turn is counted, and lowers what is owed
  pub turn_holds : (s : State V) (count : ℕ) (lack : Option LackPlace) (random : Stream) → Holds p total s count → s.world.ended ≡ None → Holds p total (turn_seen p s lack random).0 (count + 1)
  turn_holds s count lack random h going =
      let well = h.closing.stable.well in
      let more = laws.goes_on h.kept h.closing (sym (follows.seen h.kept s well h.stands).ended ∙ going) in
      let fewer = laws.fewer h.kept lack h.closing more in
      record {
        kept = kept_turn p lack h.kept;
        stands = follows.turned h.kept s lack random well h.closing.stable.linkless h.stands;
        closing = laws.turned h.kept lack h.closing;
        few = omega (arith, fewer, h.few);
      }

  -- the same of a core whose early ones are as they were
  noted_stands : (k : Kept V) (s : State V) → StandsFor (record (noted k) { early = length k.ready }) s → StandsFor (noted k) s
  noted_stands k s h = record { world = h.world; order = h.order; rise = h.rise }

  noted_stable : (k : Kept V) → IsStable p (record (noted k) { early = length k.ready }) → IsStable p (noted k)
  noted_stable k h = record {
    well = record { lives = h.well.lives; numbered = h.well.numbered; queue = h.well.queue };
    linkless = h.linkless;
    order = h.order;
    says = h.says;
    rest = h.rest;
    flags = h.flags;
  }

  noted_closing : (k : Kept V) → IsClosing p k → IsClosing p (record (noted k) { early = length k.ready }) → IsClosing p (noted k)
  noted_closing k c h = record { stable = noted_stable k h.stable; closing = h.closing; settled = h.settled; early = c.early; lowers = c.lowers }

  -- closing the root again owes no more
  pub shut_holds : (s : State V) (count : ℕ) → Holds p total s count → Holds p total (shut s) count
  shut_holds s count h =
      let k = h.kept in
      let same = again_same p k h.closing in
      record {
        kept = noted k;
        stands = noted_stands k (shut s) (subst (λ x. StandsFor x (shut s)) same (follows.shut k s h.closing.stable.linkless h.stands));
        closing = noted_closing k h.closing (subst (IsClosing p) same (laws.shut k h.closing.stable));
        few = h.few;
      }

  module _ (traced : Bool) (most : ℕ) where
    abbrev m : Machine (State V)
    m = machine_of p

    -- where the place is none of these nothing is asked of `main`
    elsewhere : (c : Config (State V)) → Holds p total c.state c.tally.closing → is_behind c.place ≡ true → is_summed c.place ≡ false → (c.place ≡ Last → ⊥) → IsWithin p total c
    elsewhere c h b q l = record { holds = h; place = b; going = λ e. absurd (l e); ended = λ e. cc }

    at_closing : (c : Config (State V)) → Holds p total c.state c.tally.closing → IsClosingPlace c.place → IsWithin p total c
    at_closing c h (inl e) = elsewhere c h (ap is_behind e) (ap is_summed e) (λ f. cc)
    at_closing c h (inr e) = elsewhere c h (ap is_behind e) (ap is_summed e) (λ f. cc)

    at_sum : (c : Config (State V)) → Holds p total c.state c.tally.closing → is_some c.state.world.ended ≡ true → (c.place ≡ Over) ⊎ (c.place ≡ Writing Over) → IsWithin p total c
    at_sum c h e (inl f) = record { holds = h; place = ap is_behind f; going = λ g. cc; ended = λ g. e }
    at_sum c h e (inr f) = record { holds = h; place = ap is_behind f; going = λ g. cc; ended = λ g. e }

    the_same : (c d : Config (State V)) → d.state ≡ c.state → d.tally.closing ≡ c.tally.closing → Holds p total c.state c.tally.closing → Holds p total d.state d.tally.closing
    the_same c d s n h = subst (λ t. Holds p total t d.tally.closing) (sym s) (subst (Holds p total c.state) (sym n) h)

    same_end : (c d : Config (State V)) → d.state ≡ c.state → is_some c.state.world.ended ≡ true → is_some d.state.world.ended ≡ true
    same_end c d s e = ap (λ (t : State V). is_some t.world.ended) s ∙ e

    pub step_on : (c d : Config (State V)) → Steps m c d → IsWithin p total c → IsWithin p total d
    step_on c d (before s n q k) h = cc (h.place, q)
    step_on c d (stops s n q at) h = cc (h.place, q)
    step_on c d (out is at (inl s) n) h = at_closing d (the_same c d s n h.holds) (inl at)
    step_on c d (out is at (inr s) n) h = at_closing d (subst (λ t. Holds p total t d.tally.closing) (sym s) (subst (Holds p total (shut c.state)) (sym n) (shut_holds c.state c.tally.closing h.holds))) (inl at)
    step_on c d (tests is at s n e) h = record { holds = the_same c d s n h.holds; place = ap is_behind at; going = λ f. cc; ended = λ f. same_end c d s e }
    step_on c d (goes is at s n e) h = record { holds = the_same c d s n h.holds; place = ap is_behind at; going = λ f. ap (λ (t : State V). t.world.ended) s ∙ e; ended = λ f. cc (ap is_summed at, f) }
    step_on c d (counts lack random is at s n) h = at_closing d (subst (λ t. Holds p total t d.tally.closing) (sym s) (subst (Holds p total (turn_seen p c.state lack random).0) (sym n) (turn_holds c.state c.tally.closing lack random h.holds (h.going is)))) at
    step_on c d (sums is at s n) h = at_sum d (the_same c d s n h.holds) (same_end c d s (h.ended (ap is_summed is))) at
    step_on c d (ends (inl is) at s n) h = at_sum d (the_same c d s n h.holds) (same_end c d s (h.ended (ap is_summed is))) (inl at)
    step_on c d (ends (inr is) at s n) h = at_sum d (the_same c d s n h.holds) (same_end c d s (h.ended (ap is_summed is))) (inl at)

    pub goes_on_by : (run : Playing (State V)) → IsWithin p total run.config → Steps m run.config (advance m traced most run).config
    goes_on_by run within = advances m traced most run (follows.next_try within.holds.kept run.config.state within.holds.closing.stable.linkless within.holds.stands)

    step_within : (run : Playing (State V)) → IsWithin p total run.config → IsWithin p total (advance m traced most run).config
    step_within run within = step_on run.config (advance m traced most run).config (goes_on_by run within) within

    play_within : (n : ℕ) (run : Playing (State V)) → IsWithin p total run.config → IsWithin p total (play m traced most n run).config
    play_within zero run within = within
    play_within (suc n) run within = play_within n (advance m traced most run) (step_within run within)

    -- at the stop nothing is counted yet
    pub stop_within : (k : Kept V) (s : State V) (c : Config (State V)) → StandsFor k s → IsStable p k → IsAtStop s c → owed p (kept_shut k) ≤ total → IsWithin p total c
    stop_within k s c stands stable stop few =
        at_closing c (record {
          kept = kept_shut k;
          stands = subst (λ x. StandsFor (kept_shut k) x) (sym stop.state) (follows.shut k s stable.linkless stands);
          closing = laws.shut k stable;
          few = omega (arith, stop.none, few);
        }) stop.place

module _ {V : Type 0} (p : Program V) (follows : FollowsLinkless p) (ends : EndsClosing p) where
  pub closing_is_bounded : ClosingIsBounded p
  closing_is_bounded k s traced most run stands stable stop n =
      let total = owed p (kept_shut k) in
      let within = play_within p follows ends total traced most n run (stop_within p follows ends total traced most k s run.config stands stable stop (omega arith)) in
      let few = within.holds.few in
      omega (arith, few)
