use Rattle.laws_looks.proofs.Shorts.{needs_are_short}
use Rattle.laws_looks.proofs.laws.needs_are_short.Goals as goal

pub returns : goal.returns
returns g c = needs_are_short c.prefix_laws.ensures c.suffix_laws.ensures c.http_laws.ensures.lines c.handshake_laws.ensures
