-- Each state of a run is steady.
use Rattle.dill_calls.specs.Program.{Program}
use Rattle.dill_rules.specs.Seen.{lend}
use Rattle.dill_rules.specs.State.{opening_state}
use Rattle.dill_drive.specs.ByRules.{machine_of}
use Rattle.dill_drive.specs.Play.{opening}
use Rattle.laws_sound.specs.LinklessLaws.{FollowsLinkless}
use Rattle.laws_debt.specs.Debts.{DebtFalls, Turn, Expire, Shut, Wake}
use Rattle.laws_debt.specs.Steady.{IsSteady}
use Rattle.laws_runs.specs.States.{RunsAreSteady}
use Rattle.laws_runs.proofs.Lasting.{Lasts, lasts_over}

module _ {V : Type 0} (p : Program V) (follows : FollowsLinkless p) (debts : DebtFalls p) where
  steady_lasts : Lasts (machine_of p) (IsSteady p)
  steady_lasts = record {
    woke = λ s told ready h. debts.steady s (Wake told ready) h;
    none = λ s h. follows.next_try h.even.kept s h.even.stable.linkless h.even.stands;
    expire = λ s h. debts.steady s Expire h;
    turn = λ s lack random h. debts.steady (lend s random) (Turn lack) (debts.lent s random h);
    shut = λ s h. debts.steady s Shut h;
  }

  pub runs_are_steady : RunsAreSteady p
  runs_are_steady view random keys traced most replies lacks halt n begins =
      lasts_over (machine_of p) (IsSteady p) steady_lasts traced most n (opening (machine_of p) traced most (opening_state view random) keys replies lacks halt) (debts.opening view random begins)
