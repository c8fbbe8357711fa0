use Rattle.std.proofs.Common.{◌∙◌, sym}
use Rattle.dill_rules.specs.Trying.{is_awaited_on}
use Rattle.dill_world.specs.Store.{world_of}
use Rattle.dill_tries.specs.Dues.{sort_of}
use Rattle.dill_tries.proofs.Found.{anybody}
use Rattle.dill_tries.proofs.pending.is_pending_on.Goals as goal

pub returns : goal.returns
returns g c =
    let w = world_of c.args.world.now in
    (rw c.coroutines.ensures.rows at c.anybody_awaits.ensures) ∙ sym (anybody (is_awaited_on w c.args.link (sort_of c.args.sort)) w.coroutines)
