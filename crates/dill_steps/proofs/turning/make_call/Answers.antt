use Rattle.dill_world.specs.Store.{world_of}
use Rattle.dill_steps.proofs.Going.{called}
use Rattle.dill_steps.proofs.turning.make_call.Goals as goal

pub returns-clause-went : goal.returns-clause-went
returns-clause-went g c = λ view has.
    rw c.entry_lack.ensures (called g.B.Body.means (world_of c.args.world.now) (world_of c.enter-lacks.new.world) c.args.who view c.args.call c.take_text-text.result.1 c.entered-entering.result c.enter-lacks.result c.take_text-text.result.0
    c.take_text-text.ensures.text c.take_text-text.ensures.rest (rw c.moment-moment.ensures at c.entered-entering.ensures.value) (λ e. c.enter-lacks.ensures.met e view has) (c.enter-lacks.ensures.entered view has))
