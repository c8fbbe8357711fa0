use Rattle.std.proofs.Common.{◌≡◌, ◌∙◌, [], find, true, false, if◌then◌else◌, is_some, sym, ap}
use Rattle.dill_rules.specs.Trying.{tries, closes, is_stopped, is_next}
use Rattle.dill_world.specs.Store.{world_of}
use Rattle.dill_tries.specs.Dues.{first_of, all_kinds, is_sought_try}
use Rattle.dill_tries.proofs.Rounds.{first_of_all}
use Rattle.dill_tries.proofs.trying.next_try.Goals as goal

pub returns-then-is_some : goal.returns-then-is_some
returns-then-is_some g c =
    let w = world_of c.args.world.now in
    let ended : is_some w.ended ≡ true = ap is_some (sym c.ended.ensures) ∙ sym c.if-is_some.ensures in
    c.first_of_kind.ensures
    ∙ ap (λ place. find (is_sought_try w place true) (closes w)) c.place.ensures
    ∙ ap (λ b. find (is_next w) (if b then closes w else (if is_stopped w then [] else tries w))) (sym ended)

pub returns : goal.returns
returns g c =
    let w = world_of c.args.world.now in
    let ended : is_some w.ended ≡ false = ap is_some (sym c.ended.ensures) ∙ sym c.if-is_some.ensures in
    c.first_of.ensures
    ∙ ap (λ place. first_of w place true all_kinds) c.place.ensures
    ∙ sym (first_of_all w w.place true)
    ∙ ap (λ b. find (is_next w) (if b then [] else tries w)) c.if-is_stopped.ensures
    ∙ ap (λ b. find (is_next w) (if b then closes w else (if is_stopped w then [] else tries w))) (sym ended)
