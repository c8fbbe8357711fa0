-- The text of the items so far.
use Rattle.std.proofs.Common.{◌≡◌, take, flat_map}
use Rattle.dill_meaning.specs.Calls.{item_text}
use Rattle.dill_meaning.specs.Values.{values_of}
use Rattle.relay_body.specs.Seen.{seen}
use Rattle.relay_body.proofs.held.Held.text_of.Given as goal

abbrev pub invariant-loop-item : goal.invariant-loop-item
invariant-loop-item l = l.text ≡ flat_map item_text (values_of (seen l.self) (take l.item-index l.items))
