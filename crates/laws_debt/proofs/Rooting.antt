-- The laws of a closing root.
use Rattle.dill_calls.specs.Program.{Program}
use Rattle.laws_debt.specs.Laws.{StepsKeepStable, RootDebtFalls}
use Rattle.laws_queue.proofs.Keeping.{steps_keep_well}
use Rattle.laws_sound.proofs.Calming.{steps_keep_settled}
use Rattle.laws_sound.proofs.Going.{root_goes_on}
use Rattle.laws_sound.proofs.Stepping.{steps_keep_order}
use Rattle.laws_debt.proofs.Ending.{ends_closing}
use Rattle.laws_debt.proofs.Keeping.{keeps_stable}
use Rattle.laws_debt.proofs.Within.{keeps_within}

pub steps_keep_stable : {V : Type 0} (p : Program V) → StepsKeepStable p
steps_keep_stable p law unlinked = keeps_stable p law unlinked (steps_keep_well p law) (steps_keep_order p law)

pub root_debt_falls : {V : Type 0} (p : Program V) → RootDebtFalls p
root_debt_falls p law unlinked =
    let keeps = steps_keep_well p law in
    ends_closing p law unlinked (keeps_within p keeps) (steps_keep_settled p law unlinked) (steps_keep_stable p law unlinked) (root_goes_on p) keeps
