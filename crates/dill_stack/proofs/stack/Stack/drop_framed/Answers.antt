use Rattle.std.proofs.Common.{◌≤◌, subst, length, List, arith}
use Rattle.dill_stack.specs.Layers.{TermLayer}
use Rattle.dill_stack.specs.Rooms.{Stocked}
use Rattle.dill_stack.specs.Standing.{ends_of, tower, base_layers}
use Rattle.dill_stack.proofs.Drops.{top_there}
use Rattle.dill_stack.proofs.stack.Stack.drop_framed.Goals as goal

pub drop_under_end-requires : goal.drop_under_end-requires
drop_under_end-requires c =
    let l : 1 ≤ length c.self.inside.terms.items = subst (λ (ts : List TermLayer). 1 ≤ length ts) c.as_slice.ensures.value c.in-len1-up.len_at_least in
    let h : 1 ≤ length (ends_of (tower c.self.inside.terms.items (base_layers c.self.inside.base))) = omega (arith, l, top_there c.self.inside.terms.items c.self.inside.base) in
    record { plain = c.requires.plain; top = subst (λ (s : Stocked). 1 ≤ length (ends_of s.held.layers)) c.self.view_is h }
