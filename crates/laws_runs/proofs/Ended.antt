-- A run that has stopped ends within what the debt of the root says.
use Rattle.std.proofs.Common.{◌≡◌, ◌∙◌, ℕ, ◌+◌, ◌*◌, ◌≤◌, Bool, sym, ap, subst}
use Rattle.dill_calls.specs.Program.{Program}
use Rattle.dill_rules.specs.Debts.{debt}
use Rattle.dill_rules.specs.State.{State, opening_state}
use Rattle.dill_drive.specs.ByRules.{machine_of}
use Rattle.dill_drive.specs.Play.{Playing, opening, play}
use Rattle.laws_sound.specs.LinklessLaws.{FollowsLinkless}
use Rattle.laws_queue.specs.Kept.{kept_shut}
use Rattle.laws_debt.specs.Debts.{DebtFalls}
use Rattle.laws_debt.specs.Laws.{EndsClosing}
use Rattle.laws_debt.specs.Owed.{owed}
use Rattle.laws_debt.specs.Steady.{IsSteady}
use Rattle.laws_runs.specs.Bound.{stepped}
use Rattle.laws_runs.specs.Ends.{EndsWell, RunsEnd, StopsAt}
use Rattle.laws_runs.proofs.Ending.{stopped_runs_end}
use Rattle.laws_runs.proofs.Playing.{closing_is_bounded}
use Rattle.laws_runs.proofs.Steadying.{runs_are_steady}

module _ {V : Type 0} (p : Program V) (follows : FollowsLinkless p) (debts : DebtFalls p) (ends : EndsClosing p) where
  ends_well : (traced : Bool) (most : ℕ) (begun : Playing (State V)) (steps : ℕ) → IsSteady p (play (machine_of p) traced most steps begun).config.state → StopsAt p traced most begun steps → EndsWell p traced most (stepped p traced most begun steps)
  ends_well traced most begun steps steady at =
      let s = (play (machine_of p) traced most steps begun).config.state in
      let run = stepped p traced most begun steps in
      let even = steady.even in
      let k = even.kept in
      let same : owed p (kept_shut k) ≡ debt p run.config.state 0 = debts.root k s even.stable even.stands steady at.open_root ∙ ap (λ t. debt p t 0) (sym at.stop.state) in
      record {
        few = λ n. subst (λ x. (play (machine_of p) traced most n run).config.tally.closing ≤ x) same (closing_is_bounded p follows ends k s traced most run even.stands even.stable at.stop n);
        ends = λ n l. let end = stopped_runs_end p follows ends k s traced most run even.stands even.stable at.stop n (subst (λ x. 3 * x + 4 ≤ n) (sym same) l) in record { over = end.0; ended = end.1 };
      }

  pub runs_end : RunsEnd p
  runs_end view random keys traced most replies lacks halt steps begins at =
      ends_well traced most (opening (machine_of p) traced most (opening_state view random) keys replies lacks halt) steps (runs_are_steady p follows debts view random keys traced most replies lacks halt steps begins) at
