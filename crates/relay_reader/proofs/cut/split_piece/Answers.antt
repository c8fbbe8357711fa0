use Rattle.std.proofs.Common.{◌∙◌, ◌∷◌, ◌+◌, List, ℕ, length, take, drop, ap, sym, arith, add-one}
use Rattle.std.proofs.lemmas.List.{drop_all}
use Rattle.dill_script.specs.Lines.{pieces}
use Rattle.relay_reader.proofs.Cutting.{pieces_front, pieces_all, rest_from}
use Rattle.relay_reader.proofs.cut.split_piece.Goals as goal

pub returns-then-byte-eq10-clause-pieces : goal.returns-then-byte-eq10-clause-pieces
returns-then-byte-eq10-clause-pieces c =
    let bytes = c.args.bytes.now in
    let i = c.loop-i.i in
    pieces_front bytes i (omega arith) c.loop-i.invariant c.if-byte-eq10.true ∙ ap (λ (l : List ℕ). take i bytes ∷ pieces l) (ap (λ (n : ℕ). drop n bytes) (sym (add-one i)) ∙ sym (rest_from bytes (i + 1)))

pub returns-clause-pieces : goal.returns-clause-pieces
returns-clause-pieces c =
    let bytes = c.args.bytes.now in
    pieces_all bytes c.requires (λ k less. c.loop-i.invariant k (omega arith)) ∙ ap (λ (l : List ℕ). bytes ∷ pieces l) (sym (rest_from bytes (length bytes) ∙ drop_all (length bytes) bytes (omega arith)))
