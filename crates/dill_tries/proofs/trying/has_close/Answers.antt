use Rattle.std.proofs.Common.{◌∙◌, sym, ap, is_some}
use Rattle.dill_rules.specs.Trying.{next_link}
use Rattle.dill_world.specs.Store.{world_of}
use Rattle.dill_tries.specs.Dues.{try_of}
use Rattle.dill_tries.proofs.Found.{some_map}
use Rattle.dill_tries.proofs.Rounds.{any_close}
use Rattle.dill_tries.proofs.trying.has_close.Goals as goal

pub returns : goal.returns
returns g c =
    let w = world_of c.args.world.now in
    c.is_some.ensures ∙ sym (some_map (try_of (next_link w)) c.first_of_kind.result) ∙ ap is_some c.first_of_kind.ensures ∙ any_close w
