use Rattle.std.proofs.Common.{sym}
use Rattle.dill_rules.specs.Owning.{is_dead_as, is_closing_of}
use Rattle.dill_world.proofs.Picking.{found_too, same_number}
use Rattle.dill_world.proofs.world.World.free_dead.Goals as goal

pub free_bundle-requires : goal.free_bundle-requires
free_bundle-requires g c =
    let x = c.in-Some.found.now in
    found_too (is_dead_as c.args.number) (is_closing_of x.bundle) c.args.self.now.closings x (rw c.closings.ensures at (sym c.in-Some.ensures)) (same_number x.bundle)
