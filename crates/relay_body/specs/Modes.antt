-- What the modes of passing statements mean.
use Rattle.std.specs.Prelude.{ℕ}
use Rattle.dill_meaning.specs.Walks as walks
use Rattle.relay_body.specs.declared.mode.Mode.{Mode}
use Rattle.relay_body.specs.declared.mode.Mode.TheVariants.{Runs, ToElse, ToEndIf, ToEndLoop, ToFinally}

-- the mode of a walk that it is
abbrev pub meant : Mode → walks.Mode
meant Runs = walks.Runs
meant (ToElse depth) = walks.ToElse depth
meant (ToEndIf depth) = walks.ToEndIf depth
meant (ToEndLoop depth) = walks.ToEndLoop depth
meant ToFinally = walks.ToFinally

-- how many blocks of its sort began on the way
abbrev pub depth_of : Mode → ℕ
depth_of (ToElse depth) = depth
depth_of (ToEndIf depth) = depth
depth_of (ToEndLoop depth) = depth
depth_of _ = 0
