-- What a world is after one of its links was changed through a reference into it.
use Rattle.std.specs.Prelude.{ℕ}
use Rattle.std.specs.Borrow.{Fml, Lends, MutBor, RattleType}
use Rattle.dill_rules.specs.Links.{Link}
use Rattle.dill_links.specs.Lending.{set_row}
use Rattle.dill_links.specs.contracts.row.LinkRow as rows
use Rattle.dill_world.specs.Store.{Store}
use Rattle.dill_world.specs.contracts.world.World.{the_row}

module _ (B : RattleType) (s : MutBor (Store B.Denot)) (link : ℕ) where
  -- the world ends with the last link behind r in this place
  abbrev pub lends_link : MutBor Link → Fml
  lends_link r = Lends (the_row B) rows.the_row s r (λ row. record s.now { links = set_row s.now.links link row })
