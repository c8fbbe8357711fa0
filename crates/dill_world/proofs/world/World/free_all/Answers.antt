use Rattle.std.proofs.Common.{◌≡◌, ◌∙◌, ◌++◌, length-append, ap, refl, length, arith}
use Rattle.dill_world.specs.Gathering.{going}
use Rattle.dill_world.specs.Freeings.{others_of, notes_of}
use Rattle.dill_world.proofs.Closing.{part_behind}
use Rattle.dill_world.proofs.Gathered.{freed_world, freed_lengths, left_there, length_notes}
use Rattle.dill_world.proofs.world.World.free_all.Goals as goal

pub note_each-requires : goal.note_each-requires
note_each-requires g c =
    let s = c.self.inside.scopes in
    let old = c.self.inside.closings.items in
    let all = c.gather-first.new.closings.items in
    let p = part_behind (others_of s c.args.who old) (going s c.args.who old) all c.gather-first.result c.gather-first.ensures.items c.gather-first.ensures.from in
    let n = freed_lengths s c.args.who all old (going s c.args.who old) (others_of s c.args.who old) c.gather-first.ensures.items refl refl in
    let i = c.self.invariant in
    let k = length_notes (going s c.args.who old) in
    rw (c.deref-2.ensures.value, p) (omega (arith, n, k, i.0, c.gather-first.ensures.len))

pub invariant_of-self : goal.invariant_of-self
invariant_of-self g c =
    let s = c.self.inside.scopes in
    let old = c.self.inside.closings.items in
    let all = c.gather-first.new.closings.items in
    let p = part_behind (others_of s c.args.who old) (going s c.args.who old) all c.gather-first.result c.gather-first.ensures.items c.gather-first.ensures.from in
    let n = freed_lengths s c.args.who all old (going s c.args.who old) (others_of s c.args.who old) c.gather-first.ensures.items refl refl in
    let l = ap length (c.truncate.ensures.items ∙ left_there s c.args.who c.gather-first.result all old c.gather-first.ensures.items c.gather-first.ensures.from) in
    let noted : c.note_each.new.notes.items ≡ c.self.inside.notes.items ++ notes_of (going s c.args.who old) = rw p at (rw c.deref-2.ensures.value at c.note_each.ensures.items) in
    let m = ap length noted ∙ length-append c.self.inside.notes.items (notes_of (going s c.args.who old)) in
    let i = c.self.invariant in (
      omega (arith, n, l, m, i.0, c.gather-first.ensures.len, c.note_each.ensures.capacity),
      omega (arith, n, l, i.1, c.gather-first.ensures.len, c.gather-first.ensures.capacity, c.truncate.ensures.capacity),
      i.2,
      i.3,
    )

pub returns : goal.returns
returns g c =
    let s = c.self.inside.scopes in
    let old = c.self.inside.closings.items in
    let all = c.gather-first.new.closings.items in
    let p = part_behind (others_of s c.args.who old) (going s c.args.who old) all c.gather-first.result c.gather-first.ensures.items c.gather-first.ensures.from in
    let l = left_there s c.args.who c.gather-first.result all old c.gather-first.ensures.items c.gather-first.ensures.from in
    rw (← c.self.view_is) (freed_world c.args.who _ c.drop_each.new.scopes _ c.truncate.new.self.items c.note_each.new.notes.items p (c.truncate.ensures.items ∙ l) (rw c.deref.ensures.value at c.drop_each.ensures) (rw c.deref-2.ensures.value at c.note_each.ensures.items))
