use Rattle.std.proofs.Common.{◌≡◌, true, sym, subst, refl, lit≤}
use Rattle.dill_tests.specs.Brief.{brief}
use Rattle.dill_steps.specs.Turned.{MayGoOn}
use Rattle.dill_tests.proofs.steps.main_that_ends_at_its_start_is_gone_after_its_turn.Goals as goal

pub turn-ran-requires : goal.turn-ran-requires
turn-ran-requires g c = subst (λ w. MayGoOn brief w 1) (sym c.in-Ok.ensures) (record { one = _; found = refl; real = refl; some = lit≤ tt })
