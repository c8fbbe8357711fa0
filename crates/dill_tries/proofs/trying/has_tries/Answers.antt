use Rattle.std.proofs.Common.{◌∙◌, false, sym, ap, is_some}
use Rattle.dill_rules.specs.Trying.{next_link}
use Rattle.dill_rules.specs.World.{at_start}
use Rattle.dill_world.specs.Store.{world_of}
use Rattle.dill_tries.specs.Dues.{try_of}
use Rattle.dill_tries.proofs.Found.{some_map}
use Rattle.dill_tries.proofs.Rounds.{first_of_all, any_try}
use Rattle.dill_tries.proofs.trying.has_tries.Goals as goal

pub returns : goal.returns
returns g c =
    let w = world_of c.args.world.now in
    c.is_some.ensures ∙ sym (some_map (try_of (next_link w)) c.first_of.result) ∙ ap is_some (c.first_of.ensures ∙ sym (first_of_all w at_start false)) ∙ any_try w
