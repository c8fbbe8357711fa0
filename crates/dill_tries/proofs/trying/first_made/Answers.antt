use Rattle.std.proofs.Common.{◌∙◌, ap, option_map}
use Rattle.dill_rules.specs.Trying.{next_link}
use Rattle.dill_world.specs.Store.{world_of, place_of}
use Rattle.dill_tries.specs.Dues.{try_of}
use Rattle.dill_tries.proofs.Made.{first_made}
use Rattle.dill_tries.proofs.trying.first_made.Goals as goal

pub returns : goal.returns
returns g c =
    let w = world_of c.args.world.now in
    ap (option_map (try_of (next_link w))) (rw c.coroutines.ensures.rows at c.first_in.ensures) ∙ first_made w (place_of c.args.round.place) c.args.round.marks c.args.kind
