use Rattle.std.proofs.Common.{◌≡◌, ℕ, true, Option, IfSome, sym, subst}
use Rattle.dill_rules.specs.Expiring.{passed}
use Rattle.laws_sound.specs.Laws.{is_timed}
use Rattle.laws_sound.proofs.Stepping.{passed_timed}
use Rattle.dill_world.specs.Store.{world_of}
use Rattle.dill_core.specs.Holding.{Holding}
use Rattle.dill_core.proofs.Late.{first_all}
use Rattle.dill_core.proofs.crew.Core.first_passed.Goals as goal

pub returns-clause-timed : goal.returns-clause-timed
returns-clause-timed g c =
    let w = world_of c.self.inside.world in
    let first = first_all (is_timed w) (passed w) (passed_timed w c.self.invariant.stable.order.order) in
    subst (λ (h : Holding g.row.B.Denot). IfSome c.first_passed.result (λ who. is_timed (world_of h.world) who ≡ true)) c.self.view_is
    (subst (λ (o : Option ℕ). IfSome o (λ who. is_timed w who ≡ true)) (sym c.first_passed.ensures) first)
