use Rattle.std.proofs.Common.{◌∙◌, string_bytes}
use Rattle.relay_command.proofs.Behind.{free_last, free_more}
use Rattle.relay_command.proofs.found.Found.command_with.Goals as goal

pub returns-in_ok-with-in-len1 : goal.returns-in_ok-with-in-len1
returns-in_ok-with-in-len1 c =
    c.command-in-len1.ensures ∙ free_last string_bytes c.args.self c.in_ok-with-in-len1.field-0 c.as_str.result c.args.args.now c.arg-item.result c.in-len1.len_at_least c.in-len1.len_below c.arg-item.is c.as_str.ensures.value c.in_ok-with-in-len1.ensures

pub returns-in_default : goal.returns-in_default
returns-in_default c = free_more string_bytes c.args.self c.args.args.now c.in_default.len_at_least
