use Rattle.std.proofs.Common.{List, ℕ, sym, subst}
use Rattle.relay_main.specs.Reading.{ReadOf}
use Rattle.relay_main.proofs.Shown.{unchecked}
use Rattle.relay_main.proofs.checking.check_over.Goals as goal

pub returns : goal.returns
returns g c =
    let of : ReadOf (g.F.Shelf.files c.args.shelf.now) c.args.name.now c.as_slice.result.now = subst (λ (l : List ℕ). ReadOf (g.F.Shelf.files c.args.shelf.now) c.args.name.now l) (sym c.as_slice.ensures.value) c.in-Ok.ensures.read in
    unchecked g.W.Sink.told g.W.Sink.faults (g.F.Shelf.files c.args.shelf.now) c.args.name.now c.as_slice.result.now (g.F.Shelf.faults c.args.shelf.now) (g.F.Shelf.faults c.read_all.new.shelf) c.args.out.now c.args.err.now c.refuse.new.err
    c.in-Err.refusal c.refuse.result of c.in-Err.ensures c.in-Ok.ensures.kept c.refuse.ensures
