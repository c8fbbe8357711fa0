use Rattle.std.proofs.Common.{string_bytes}
use Rattle.relay_command.proofs.Piecing.{option_with, alone_with}
use Rattle.relay_command.proofs.piece.first_piece.Goals as goal

pub returns-in_ok-value-in-Some-clause-piece : goal.returns-in_ok-value-in-Some-clause-piece
returns-in_ok-value-in-Some-clause-piece c =
    option_with string_bytes c.args.arg.now c.as_bytes.result.now _ c.as_bytes-in-Some.result.now c.in_ok-value-in-Some.value.now c.args.rest.now c.in_ok-value-in-Some.left.now c.requires c.as_bytes.ensures.value c.in-Some.ensures c.in_ok-value-in-Some.ensures.cases.0 c.as_bytes-in-Some.ensures.value

pub returns-in_ok-alone-in-None-clause-piece : goal.returns-in_ok-alone-in-None-clause-piece
returns-in_ok-alone-in-None-clause-piece c =
    alone_with string_bytes c.args.arg.now c.as_bytes.result.now _ c.args.rest.now c.requires c.as_bytes.ensures.value c.in-None.ensures c.in_ok-alone-in-None.ensures
