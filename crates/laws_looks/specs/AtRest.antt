-- Where no look finds anything, no random number is seen: so it is of settling, of what expires and as the root closes.
use Rattle.std.specs.Prelude.{◌≡◌}
use Rattle.rand_core.specs.Stream.{Stream}
use Rattle.dill_rules.specs.World.{World}
use Rattle.dill_rules.specs.Settling.{settle}
use Rattle.laws_queue.specs.Kept.{Kept, kept_expired, kept_shut, lend_kept}
use Rattle.laws_queue.specs.Lending.{lent}
use Rattle.laws_looks.specs.Calm.{Restful}

-- With other random numbers lent to it, a world at rest is so too, does the same, and leaves these.
pub record RestSeesNoRandom (V : Type 0) : Type 0 where
  pub rests : (w : World V) (u : Stream) → Restful w → Restful (lent u w)
  pub settles : (w : World V) (u : Stream) → Restful w → settle (lent u w) ≡ lent u (settle w)
  pub expired : (k : Kept V) (u : Stream) → Restful k.world → kept_expired (lend_kept k u) ≡ lend_kept (kept_expired k) u
  pub shut : (k : Kept V) (u : Stream) → Restful k.world → kept_shut (lend_kept k u) ≡ lend_kept (kept_shut k) u
