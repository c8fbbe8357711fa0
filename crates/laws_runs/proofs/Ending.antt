-- From a stop on each step brings the run nearer to its end.
use Rattle.std.proofs.Common.{◌≡◌, ◌⊎◌, inl, inr, ℕ, zero, suc, ◌+◌, ◌*◌, ◌≤◌, is_some, Bool, true, refl, sym, ap, subst, arith}
use Rattle.dill_calls.specs.Program.{Program}
use Rattle.dill_rules.specs.State.{State}
use Rattle.dill_drive.specs.ByRules.{machine_of}
use Rattle.dill_drive.specs.Machine.{Machine}
use Rattle.dill_drive.specs.Play.{IsOver, Playing, advance, play}
use Rattle.dill_drive.specs.Story.{Place, Closing, Last, Closes, Writing, Over, Config}
use Rattle.laws_sound.specs.LinklessLaws.{FollowsLinkless}
use Rattle.laws_queue.specs.Kept.{kept_shut}
use Rattle.laws_debt.specs.Laws.{EndsClosing}
use Rattle.laws_debt.specs.Owed.{owed}
use Rattle.laws_runs.specs.Bound.{StoppedRunsEnd}
use Rattle.laws_runs.proofs.Lasting.{is_behind, IsClosingPlace, Steps, before, stops, out, tests, goes, counts, sums, ends}
use Rattle.laws_runs.proofs.Playing.{IsWithin, is_summed, step_on, goes_on_by, stop_within}

-- how many steps are left behind a place, but for those of turns
abbrev rank : Place → ℕ
rank (Writing Closing) = 4
rank Closing = 3
rank Last = 2
rank Closes = 2
rank (Writing Over) = 1
rank _ = 0

closing_rank : (place : Place) → IsClosingPlace place → rank place ≤ 4
closing_rank place (inl e) = subst (λ n. n ≤ 4) (sym (ap rank e)) (omega arith)
closing_rank place (inr e) = subst (λ n. n ≤ 4) (sym (ap rank e)) (omega arith)

sum_rank : (place : Place) → (place ≡ Over) ⊎ (place ≡ Writing Over) → rank place ≤ 1
sum_rank place (inl e) = subst (λ n. n ≤ 1) (sym (ap rank e)) (omega arith)
sum_rank place (inr e) = subst (λ n. n ≤ 1) (sym (ap rank e)) (omega arith)

only_over : (place : Place) → is_behind place ≡ true → rank place ≡ 0 → place ≡ Over
only_over Over b e = refl
only_over Closing b e = absurd (omega (arith, e))
only_over Last b e = absurd (omega (arith, e))
only_over Closes b e = absurd (omega (arith, e))
only_over (Writing Closing) b e = absurd (omega (arith, e))
only_over (Writing Over) b e = absurd (omega (arith, e))
only_over (Writing next) b e = cc
only_over place b e = cc

-- the run is over, or no more than so many steps are left
abbrev Nears : {S : Type 0} → ℕ → ℕ → Config S → Type 0
Nears total n c = (c.place ≡ Over) ⊎ (3 * total + rank c.place ≤ n + 3 * c.tally.closing)

module _ {V : Type 0} (p : Program V) (follows : FollowsLinkless p) (laws : EndsClosing p) (total : ℕ) (traced : Bool) (most : ℕ) where
  abbrev m : Machine (State V)
  m = machine_of p

  nearer : (n : ℕ) (c d : Config (State V)) → Steps m c d → is_behind c.place ≡ true → (3 * total + rank c.place ≤ suc n + 3 * c.tally.closing) → Nears total n d
  nearer n c d (before s k q e) b l = cc (b, q)
  nearer n c d (stops s k q at) b l = cc (b, q)
  nearer n c d (out is at s k) b l = let a = ap rank is in let e = ap rank at in inr (omega (arith, a, e, k, l))
  nearer n c d (tests is at s k e) b l = let a = ap rank is in let f = ap rank at in inr (omega (arith, a, f, k, l))
  nearer n c d (goes is at s k e) b l = let a = ap rank is in let f = ap rank at in inr (omega (arith, a, f, k, l))
  nearer n c d (counts lack random is at s k) b l = let a = ap rank is in let e = closing_rank d.place at in inr (omega (arith, a, e, k, l))
  nearer n c d (sums is at s k) b l = let a = ap rank is in let e = sum_rank d.place at in inr (omega (arith, a, e, k, l))
  nearer n c d (ends is at s k) b l = inl at

  stays_over : (n : ℕ) (c d : Config (State V)) → Steps m c d → c.place ≡ Over → Nears total n d
  stays_over n c d (before s k q e) is = cc (ap is_behind is, q)
  stays_over n c d (stops s k q at) is = cc (ap is_behind is, q)
  stays_over n c d (out was at s k) is = cc (is, was)
  stays_over n c d (tests was at s k e) is = cc (is, was)
  stays_over n c d (goes was at s k e) is = cc (is, was)
  stays_over n c d (counts lack random was at s k) is = cc (is, was)
  stays_over n c d (sums was at s k) is = cc (is, was)
  stays_over n c d (ends was at s k) is = inl at

  near : (n : ℕ) (c d : Config (State V)) → Steps m c d → is_behind c.place ≡ true → Nears total (suc n) c → Nears total n d
  near n c d s b (inl e) = stays_over n c d s e
  near n c d s b (inr l) = nearer n c d s b l

  now_over : (c : Config (State V)) → IsWithin p total c → Nears total 0 c → c.place ≡ Over
  now_over c h (inl e) = e
  now_over c h (inr l) = let few = h.holds.few in only_over c.place h.place (omega (arith, l, few))

  play_ends : (n : ℕ) (run : Playing (State V)) → IsWithin p total run.config → Nears total n run.config → IsOver m traced most (play m traced most n run) × (is_some (play m traced most n run).config.state.world.ended ≡ true)
  play_ends zero run h l = let over = now_over run.config h l in (over, h.ended (ap is_summed over))
  play_ends (suc n) run h l =
      let after = advance m traced most run in
      let s = goes_on_by p follows laws total traced most run h in
      play_ends n after (step_on p follows laws total traced most run.config after.config s h) (near n run.config after.config s h.place l)

pub stopped_runs_end : {V : Type 0} (p : Program V) → FollowsLinkless p → EndsClosing p → StoppedRunsEnd p
stopped_runs_end p follows laws k s traced most run stands stable stop n l =
    let total = owed p (kept_shut k) in
    let four = closing_rank run.config.place stop.place in
    play_ends p follows laws total traced most n run (stop_within p follows laws total traced most k s run.config stands stable stop (omega arith)) (inr (omega (arith, four, l)))
