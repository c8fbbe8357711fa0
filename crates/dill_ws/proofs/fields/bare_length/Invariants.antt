use Rattle.std.proofs.Common.{◌≡◌, ◌+◌, ◌≤◌, length, take}
use Rattle.std.specs.List.{suffix_len}
use Rattle.dill_http.specs.Bytes.{is_blank}
use Rattle.dill_ws.proofs.fields.bare_length.Given as goal

abbrev pub invariant-loop-end : goal.invariant-loop-end
invariant-loop-end l = record {
  within : l.end ≤ length l.item;
  trimmed : l.end + suffix_len is_blank l.item ≡ length l.item + suffix_len is_blank (take l.end l.item);
}

abbrev pub decreases-loop-end : goal.decreases-loop-end
decreases-loop-end l = l.end
