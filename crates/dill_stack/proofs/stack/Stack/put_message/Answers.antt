use Rattle.std.proofs.Common.{◌≡◌, ◌∙◌, ap, refl, if◌then◌else◌}
use Rattle.dill_stack.specs.Composed.{drawn_key, random_after}
use Rattle.dill_stack.specs.Standing.{base_layers}
use Rattle.dill_stack.proofs.Sends.{framed}
use Rattle.dill_stack.proofs.Towers.{on_tower}
use Rattle.dill_stack.proofs.stack.Stack.put_message.Goals as goal

pub returns-in-Ok : goal.returns-in-Ok
returns-in-Ok g c =
    let left : g.R.Rng.stream c.draw-key.new.keys ≡ random_after c.args.self.now.held.layers (g.R.Rng.stream c.args.keys.now) = c.draw-key.ensures.left ∙ ap (λ b. if b then (drawn_key (g.R.Rng.stream c.args.keys.now)).1 else g.R.Rng.stream c.args.keys.now) c.masks-masks.ensures in
    framed c.draw-key.result c.args.message.now _ c.args.self.now _ (g.R.Rng.stream c.args.keys.now) (g.R.Rng.stream c.draw-key.new.keys) (c.spells.ensures.due (g.R.Rng.stream c.args.keys.now)) (rw (c.push_framed.ensures, c.in-Ok.ensures.ok) (rw (← c.self.view_is) (rw (on_tower c.draw-key.result c.self.inside.terms.items (base_layers c.self.inside.base) c.args.message.now) refl))) (λ h. c.draw-key.ensures.key (c.masks-masks.ensures ∙ h)) left
