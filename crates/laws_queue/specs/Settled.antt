-- Settling, but for the looks behind it, goes on until nothing is due.
use Rattle.std.specs.Prelude.{length}
use Rattle.dill_rules.specs.World.{World}
use Rattle.dill_rules.specs.Settling.{IsSettled, settle_within}
use Rattle.laws_queue.specs.Well.{Numbered}

abbrev pub SettlesAll : (V : Type 0) → Type 0
SettlesAll V = (w : World V) → Numbered 0 w.coroutines w.last_coroutine → IsSettled (settle_within (length w.coroutines) w)
