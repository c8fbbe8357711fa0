use Rattle.std.proofs.Common.{◌≡◌, ◌∙◌, [], sym, ap, Ok}
use Rattle.dill_stack.specs.Standing.{ends_of}
use Rattle.dill_stack.proofs.Endings.{ends_nothing, none_ends, end_plain}
use Rattle.dill_stack.proofs.stack.Stack.end_on_link.Goals as goal

pub returns-in_default-clause-due : goal.returns-in_default-clause-due
returns-in_default-clause-due c =
    let e : c.self.inside.terms.items ≡ [] = none_ends c.self.inside.terms.items c.self.inside.base (ap (λ s. ends_of s.held.layers) c.self.view_is ∙ c.requires.bare) in
    λ random. ends_nothing c.args.self.now.held.layers c.self.inside.terms.items c.self.inside.base random c.args.self.now.held (ap (λ s. s.held.layers) (sym c.self.view_is)) e c.in_default.not-Bytes c.in_default.not-Http ∙ ap (λ x. Ok (c.args.self.now.held, x)) (sym (end_plain c.args.self.now.held.layers c.self.inside.terms.items c.self.inside.base random (ap (λ s. s.held.layers) (sym c.self.view_is)) e))
