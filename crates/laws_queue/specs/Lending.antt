-- Random numbers of a world: those that nobody asks for, and others that are lent to it for a step.
use Rattle.std.specs.Prelude.{[]}
use Rattle.rand_core.specs.Stream.{Stream}
use Rattle.dill_rules.specs.World.{World}

-- random numbers that nobody asks for
abbrev pub no_random : Stream
no_random = record { u32_after = λ asked. 0; u64_after = λ asked. 0; bytes_after = λ asked count. [] }

-- a world whose random numbers are others
abbrev pub lent : {V : Type 0} → Stream → World V → World V
lent random w = record w { random = random }

-- a world but for its random numbers
abbrev pub wordless : {V : Type 0} → World V → World V
wordless w = lent no_random w
