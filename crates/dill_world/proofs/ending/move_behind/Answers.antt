use Rattle.std.proofs.Common.{◌≡◌, ◌+◌, ◌-◌, suc, length, arith}
use Rattle.std.specs.Result.{is_ok}
use Rattle.std.specs.List.{insert}
use Rattle.dill_world.proofs.Gathered.{moved, picked, whole_part}
use Rattle.dill_world.proofs.ending.move_behind.Goals as goal

pub returns-clause-items : goal.returns-clause-items
returns-clause-items c =
    let less = c.remove-x.new.self.items in
    let grown : length c.insert.new.self.items ≡ suc (length less) = grind arith in
    let more = picked (is_ok c.insert.result) (insert less (c.args.from - 1 + c.spot.result) c.remove-x.result) less c.insert.new.self.items c.insert.ensures.items grown in
    moved c.args.closings.now.items less c.insert.new.self.items c.args.i c.args.from c.spot.result c.remove-x.result _ c.remove-x.ensures.value c.remove-x.ensures.items
    (whole_part (c.args.from - 1) less c.deref.result.now c.deref.ensures.value)
    c.spot.ensures.value more
