-- What slots are after a value was written through a reference into them.
use Rattle.std.specs.Prelude.{ℕ}
use Rattle.std.specs.Borrow.{Fml, Lends, MutBor, RattleType}
use Rattle.dill_slots.specs.Slots.{Slots, set_value}
use Rattle.dill_slots.specs.contracts.slots.Slots.{the_row}

module _ (T : RattleType) (s : MutBor (Slots T.Denot)) (slot : ℕ) where
  -- the slots end with the last value behind r in this slot
  abbrev pub lends_value : MutBor T.Denot → Fml
  lends_value r = Lends (the_row T) T s r (set_value s.now slot)
