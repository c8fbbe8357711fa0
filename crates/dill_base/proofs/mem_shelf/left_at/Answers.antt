use Rattle.std.proofs.Common.{◌∙◌, sym, ap, arith, drop}
use Rattle.std.proofs.lemmas.List.{drop_all}
use Rattle.dill_base.proofs.Held.{left_past, left_is, rest_from}
use Rattle.dill_base.proofs.mem_shelf.left_at.Goals as goal

pub returns-then-place-held-clause-left : goal.returns-then-place-held-clause-left
returns-then-place-held-clause-left c = sym (left_past c.args.held.now c.args.place c.args.at c.if-place-held.true)

pub returns-then-at-bytes-clause-left : goal.returns-then-at-bytes-clause-left
returns-then-at-bytes-clause-left c =
    let bytes = c.as_slice-bytes.result.now in
    let is = sym c.as_slice-bytes.ensures in
    sym (left_is c.args.held.now c.args.place c.args.at c.index-held-place.result (omega arith) ∙ ap (λ l. drop c.args.at l) is ∙ drop_all c.args.at bytes c.if-at-bytes.true)

pub returns-else-at-bytes-clause-left : goal.returns-else-at-bytes-clause-left
returns-else-at-bytes-clause-left c =
    let bytes = c.as_slice-bytes.result.now in
    let is = sym c.as_slice-bytes.ensures in
    rest_from bytes c.args.at ∙ sym (left_is c.args.held.now c.args.place c.args.at c.index-held-place.result (omega arith) ∙ ap (λ l. drop c.args.at l) is)
