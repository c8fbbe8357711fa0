use Rattle.std.proofs.Common.{◌∙◌, ap, drop}
use Rattle.std.proofs.lemmas.List.{drop-take}
use Rattle.dill_stack.specs.Rooms.{roomy}
use Rattle.dill_stack.proofs.unread.Unread.cut.Goals as goal

pub returns : goal.returns
returns c = rw (← c.self.view_is) (ap (λ xs. roomy xs c.self.inside.room) (ap (drop c.self.inside.used) c.truncate.ensures.items ∙ drop-take c.self.inside.used c.args.count c.self.inside.bytes.items))
