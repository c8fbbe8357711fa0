-- Channels as the tests find them.
use Rattle.std.specs.Prelude.{[], ◌∷◌}
use Rattle.dill_chan.specs.Channels.{make, no_channels}
use Rattle.dill_chan.specs.Seats.{Seated}

-- three seats and one channel
abbrev pub one_channel : Seated
one_channel = record { channels = make no_channels; seats = 1 ∷ 2 ∷ 3 ∷ [] }
