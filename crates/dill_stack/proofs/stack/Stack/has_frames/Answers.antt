use Rattle.std.proofs.Common.{◌≡◌, ◌∙◌, subst}
use Rattle.std.specs.Prelude.{is_some}
use Rattle.dill_stack.specs.Receiving.{ws_of}
use Rattle.dill_stack.specs.Rooms.{Stocked}
use Rattle.dill_stack.proofs.Seers.{frames_there}
use Rattle.dill_stack.proofs.stack.Stack.has_frames.Goals as goal

pub returns : goal.returns
returns c = subst (λ (s : Stocked). c.is_frames.result ≡ is_some (ws_of s.held.layers)) c.self.view_is (c.is_frames.ensures ∙ frames_there c.self.inside.terms.items c.self.inside.base)
