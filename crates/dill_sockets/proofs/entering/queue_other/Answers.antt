use Rattle.std.proofs.Common.{◌∙◌, sym, Ok}
use Rattle.dill_calls.specs.CallTable.{word_of}
use Rattle.dill_rules.specs.Directions.{line_said}
use Rattle.dill_sockets.specs.Entering.{end_due, line_due}
use Rattle.dill_sockets.proofs.Entered.{if_there}
use Rattle.dill_sockets.proofs.entering.queue_other.Goals as goal

pub returns-then-says_line : goal.returns-then-says_line
returns-then-says_line g c =
    let random = g.R.Rng.stream c.args.keys.now in
    let s = c.args.stack.now.held in
    rw (if_there (end_due (word_of c.args.call.now) random s) (Ok (s, random)) (λ said. line_due said random s) (line_said c.args.call.now) (sym c.says_line.ensures ∙ c.if-says_line.true)) (c.queue_said.ensures random)
