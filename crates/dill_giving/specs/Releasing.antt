-- What is released with the number of a call, and how many kept numbers are given back.
use Rattle.std.specs.Prelude.{ℕ, Option}
use Rattle.dill_base.specs.Maps.{if_some}
use Rattle.dill_handles.specs.Handles as handles
use Rattle.dill_rules.specs.Owning.{release}
use Rattle.dill_rules.specs.World.{World}

module _ {V : Type 0} where
  -- what a handle names is released, and so many kept numbers are given back
  abbrev pub released : World V → Option ℕ → ℕ → World V
  released w handle kept = if_some handle w (λ number. release (record w { handles = handles.unkeep w.handles kept }) number)
