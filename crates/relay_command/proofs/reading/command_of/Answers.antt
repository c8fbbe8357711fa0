use Rattle.std.proofs.Common.{◌∙◌, map, string_bytes}
use Rattle.std.proofs.lemmas.Option.{IfSome_then}
use Rattle.relay_command.proofs.Behind.{all_args}
use Rattle.relay_command.proofs.Bounds.{fitting_args}
use Rattle.relay_command.proofs.reading.command_of.Goals as goal

pub returns-clause-command : goal.returns-clause-command
returns-clause-command c = c.command_behind.ensures ∙ all_args c.new.result (map string_bytes c.args.args.now) c.new.ensures

pub returns-clause-turns : goal.returns-clause-turns
returns-clause-turns c =
    let consistent = fitting_args (map string_bytes c.args.args.now) c.command_behind.result (c.command_behind.ensures ∙ all_args c.new.result (map string_bytes c.args.args.now) c.new.ensures) in
    IfSome_then c.command_behind.result consistent (λ command is. (is.turns.least, is.turns.most))

pub returns-clause-cut : goal.returns-clause-cut
returns-clause-cut c =
    let consistent = fitting_args (map string_bytes c.args.args.now) c.command_behind.result (c.command_behind.ensures ∙ all_args c.new.result (map string_bytes c.args.args.now) c.new.ensures) in
    IfSome_then c.command_behind.result consistent (λ command is. (is.cut.least, is.cut.most))

pub returns-clause-load : goal.returns-clause-load
returns-clause-load c =
    let consistent = fitting_args (map string_bytes c.args.args.now) c.command_behind.result (c.command_behind.ensures ∙ all_args c.new.result (map string_bytes c.args.args.now) c.new.ensures) in
    IfSome_then c.command_behind.result consistent (λ command is. is.load)
