use Rattle.std.proofs.Common.{◌∙◌, length, refl, sym, ap}
use Rattle.dill_steps.specs.Needs.{HasView}
use Rattle.dill_world.specs.Store.{world_of}
use Rattle.dill_steps.proofs.Told.{told_length}
use Rattle.dill_steps.proofs.entering.child_of.Goals as goal

pub child-requires : goal.child-requires
child-requires g c =
    let has : HasView (world_of c.args.world.now) c.args.who c.in-Some.one.now.body = record { one = c.in-Some.one.now; found = sym c.in-Some.ensures.value; same = refl } in
    let told_all = ap length (c.as_slice.ensures.value ∙ c.in_ok-numbers.ensures) ∙ told_length c.args.next c.args.args.now in
    rw c.body.ensures (ap (g.B.Body.means.knows c.in-Some.one.now.body c.args.program) told_all ∙ c.requires.known c.in-Some.one.now.body has)
