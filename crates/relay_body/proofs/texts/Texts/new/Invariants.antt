-- As many registers as rounds of the loop, each without bytes.
use Rattle.std.proofs.Common.{◌≡◌, [], replicate}
use Rattle.relay_body.proofs.texts.Texts.new.Given as goal

abbrev pub invariant-loop-index : goal.invariant-loop-index
invariant-loop-index l = l.texts.items ≡ replicate l._index []
