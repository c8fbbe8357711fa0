use Rattle.std.proofs.Common.{◌∙◌, sym, ap}
use Rattle.dill_base.specs.Causes.{is_listed}
use Rattle.dill_base.proofs.Held.{reads_shelf, after_read_is}
use Rattle.dill_base.proofs.mem_shelf.MemShelfShelf.read.Goals as goal

pub returns-clause-piece : goal.returns-clause-piece
returns-clause-piece c =
    let s = c.self.inside in
    let left = c.left_at.ensures.left in
    reads_shelf s.held.items s.fails.items s.place s.at c.copy_front-count.result s.calls s.count c.args.self.now c.args.buf.now c.copy_front-count.new.buf c.piece.result c.self.view_is c.requires
    (rw (left, c.as_slice-2.ensures.value) at c.copy_front-count.ensures.count) (rw (left, c.as_slice-2.ensures.value) at c.copy_front-count.ensures.front) c.piece.ensures

pub returns-clause-exact : goal.returns-clause-exact
returns-clause-exact c =
    let s = c.self.inside in
    after_read_is s.held.items s.fails.items s.place s.at c.copy_front-count.result _ s.calls _ s.count c.args.self.now c.self.view_is c.saturating_add-self-inside.ensures
    (ap (λ l. is_listed l c.saturating_add-self-inside.result) (sym c.as_slice.ensures.value) ∙ sym c.listed.ensures ∙ c.if-listed.false) (rw (c.left_at.ensures.left, c.as_slice-2.ensures.value) at c.copy_front-count.ensures.count)
