use Rattle.std.proofs.Common.{◌≡◌, ◌∙◌, subst}
use Rattle.dill_stack.specs.Framing.{masks_of}
use Rattle.dill_stack.specs.Receiving.{ws_of}
use Rattle.dill_stack.specs.Rooms.{Stocked}
use Rattle.dill_stack.proofs.Passers.{masks_is}
use Rattle.dill_stack.proofs.stack.Stack.masks_pongs.Goals as goal

pub returns : goal.returns
returns c = subst (λ (s : Stocked). c.masks.result ≡ masks_of (ws_of s.held.layers)) c.self.view_is (c.masks.ensures ∙ masks_is c.self.inside.terms.items c.self.inside.base)
