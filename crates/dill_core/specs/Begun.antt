-- Whether a run began, and what is so where it didn't.
use Rattle.std.specs.Prelude.{◌≡◌, Bool, true, false}
use Rattle.dill_drive.specs.declared.run_end.RunEnd.{RunEnd}
use Rattle.dill_drive.specs.declared.run_end.RunEnd.TheVariants as ends

-- memory for its core wasn't refused
abbrev pub has_begun : RunEnd → Bool
has_begun ends.NoMemory = false
has_begun end = true

-- nothing was asked, written or drawn
pub record IsUntouched {K W R : Type 0} (kernel kernel' : K) (out out' : W) (keys keys' : R) : Type 0 where
  pub asks : kernel' ≡ kernel
  pub writes : out' ≡ out
  pub draws : keys' ≡ keys
