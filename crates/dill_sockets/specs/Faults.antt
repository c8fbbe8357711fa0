-- What a stack refuses of a call: two faults at most.
use Rattle.std.specs.Prelude.{List, [], ◌∷◌, ◌++◌, Option, None, Some, option_to_list}
use Rattle.dill_base.specs.declared.errno.Errno.{Errno}
use Rattle.dill_base.specs.Maps.{if_some}
use Rattle.dill_calls.specs.declared.call.Call.{Call}
use Rattle.dill_http.specs.Writing.{fault_of}
use Rattle.dill_rules.specs.Directions.{line_said}

-- two that there may be
abbrev pub both : Option Errno → Option Errno → List Errno
both first None = option_to_list first
both first (Some e) = option_to_list first ++ e ∷ []

-- why the line of a call can't be written
abbrev pub spelling_fault : Call → Option Errno
spelling_fault call = if_some (line_said call) None fault_of
