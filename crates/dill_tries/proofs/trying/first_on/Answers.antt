use Rattle.std.proofs.Common.{◌∙◌, Some, sym, ap, option_map}
use Rattle.dill_rules.specs.Trying.{next_link}
use Rattle.dill_world.specs.Store.{world_of, place_of}
use Rattle.dill_tries.specs.Dues.{is_due, is_sought_try, try_on}
use Rattle.dill_tries.proofs.Found.{found}
use Rattle.dill_tries.proofs.trying.first_on.Goals as goal

pub returns-in-None : goal.returns-in-None
returns-in-None g c =
    let w = world_of c.args.world.now in
    ap (option_map (try_on (next_link w) c.args.kind)) c.in-None.ensures
    ∙ sym (found (is_due w c.args.kind) (try_on (next_link w) c.args.kind) (is_sought_try w (place_of c.args.round.place) c.args.round.marks) w.links.all)

pub returns-in-Some : goal.returns-in-Some
returns-in-Some g c =
    let w = world_of c.args.world.now in
    ap (λ x. Some x) (c.due_on.ensures (next_link w))
    ∙ ap (option_map (try_on (next_link w) c.args.kind)) c.in-Some.ensures
    ∙ sym (found (is_due w c.args.kind) (try_on (next_link w) c.args.kind) (is_sought_try w (place_of c.args.round.place) c.args.round.marks) w.links.all)
