use Rattle.std.proofs.Common.{◌∙◌, map, nat_lt}
use Rattle.dill_scope.specs.Scopes.{is_inside}
use Rattle.dill_scope.proofs.Firsts.{first_of_both}
use Rattle.dill_scope.proofs.scopes.Scopes.in_tree.Goals as goal

pub returns : goal.returns
returns c =
    let s = c.args.self.now in
    c.first_above.ensures ∙ first_of_both (is_inside s c.args.bundle) (nat_lt c.args.after) (map (λ x. x.who) s.homes)
