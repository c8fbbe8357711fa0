-- A run that the driver ended has begun.
use Rattle.std.proofs.Common.{◌≡◌, true, refl}
use Rattle.dill_drive.specs.Progress.{IsEnd}
use Rattle.dill_drive.specs.Tells.{status_of}
use Rattle.dill_drive.specs.declared.run_end.RunEnd.{RunEnd}
use Rattle.dill_drive.specs.declared.run_end.RunEnd.TheVariants as ends
use Rattle.dill_core.specs.Begun.{has_begun}

pub driven_begun : (end : RunEnd) → IsEnd (status_of end) → has_begun end ≡ true
driven_begun ends.Ended is = refl
driven_begun (ends.Faulted errno) is = refl
driven_begun ends.Stuck is = refl
driven_begun ends.Spent is = refl
driven_begun ends.WaitFault is = refl
driven_begun ends.WriteFault is = refl
driven_begun ends.NoMemory is = absurd is
