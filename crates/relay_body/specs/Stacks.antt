-- The loops that a coroutine has entered.
use Rattle.std.specs.Prelude.{ℕ, List, [], ◌∷◌, Option, Some, None}
use Rattle.dill_meaning.specs.Effects.{one_less}
use Rattle.dill_meaning.specs.Views.{Round}
use Rattle.relay_body.specs.declared.rounds.OpenLoop.{OpenLoop}

-- a slot that is taken
abbrev pub round_of : OpenLoop → Round
round_of slot = record { first = slot.first; left = slot.left }

-- how many statements stand before the innermost loop's first
abbrev pub first_of : List Round → Option ℕ
first_of [] = None
first_of (round ∷ outer) = Some round.first

-- with a round less to come of the innermost loop
abbrev pub round_less : List Round → List Round
round_less [] = []
round_less (round ∷ outer) = record { first = round.first; left = one_less round.left } ∷ outer
