use Rattle.laws_fits.proofs.Rooms.{reads_have_room}
use Rattle.laws_fits.proofs.laws.reads_have_room.Goals as goal

pub returns : goal.returns
returns g c = reads_have_room c.need_laws.ensures c.needs_are_short.ensures
