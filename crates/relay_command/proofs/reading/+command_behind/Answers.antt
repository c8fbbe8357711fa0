use Rattle.std.proofs.Common.{◌∙◌, ap, option_map, string_bytes}
use Rattle.relay_command.specs.Told.{told}
use Rattle.relay_command.proofs.Behind.{stops, goes}
use Rattle.relay_command.proofs.reading.+command_behind.Goals as goal

pub returns-in_err-with : goal.returns-in_err-with
returns-in_err-with t c =
    ap (option_map told) c.from_residual-in_err-with.ensures ∙ stops string_bytes c.args.found c.in_ok-piece.piece c.args.args.now c.in-Some.rest.now c.in_ok-piece.left.now c.in-Some.arg.now c.as_str.result.now c.in-Some.ensures.cases.0 c.as_str.ensures.value c.in_ok-piece.ensures.piece c.in_err-with.ensures

pub returns : goal.returns
returns t c =
    c.command_behind.ensures ∙ goes string_bytes c.args.found c.in_ok-with.field-0 c.in_ok-piece.piece c.args.args.now c.in-Some.rest.now c.in_ok-piece.left.now c.in-Some.arg.now c.as_str.result.now c.in-Some.ensures.cases.0 c.as_str.ensures.value c.in_ok-piece.ensures.piece c.in_ok-with.ensures
