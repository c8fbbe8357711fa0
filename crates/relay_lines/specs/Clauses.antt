-- One clause of those that a call takes.
use Rattle.std.specs.Prelude.{codes, if◌then◌else◌, Option, None}
use Rattle.dill_script.specs.declared.form.Operand.{Operand}
use Rattle.dill_script.specs.Operands.{send_of, recv_of}
use Rattle.dill_script.specs.Tokens.{Token, is_plain}

-- `send`, an end and BYTES, or `recv`, an end and NUM
abbrev pub clause_in : Token → Token → Token → Option Operand
clause_in word end what = if is_plain (codes "send") word then send_of end what else (if is_plain (codes "recv") word then recv_of end what else None)
