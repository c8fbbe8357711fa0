-- The line that is to be written, or its refusal.
use Rattle.std.specs.Prelude.{ℕ, List, ◌++◌, length, if◌then◌else◌, nat_lt, Option, Some, None, Result, Ok, Err}
use Rattle.dill_base.specs.declared.errno.Errno.{Errno}
use Rattle.dill_base.specs.declared.errno.Errno.TheVariants.{Einval, Emsgsize}
use Rattle.dill_http.specs.Lines.{line_limit, crlf}
use Rattle.dill_http.specs.Heads.{Said, is_right, line_of}

-- the refusal: the form is judged first, then the length
abbrev pub fault_of : Said → Option Errno
fault_of said =
    if is_right said then (if nat_lt line_limit (length (line_of said)) then Some Emsgsize else None)
    else Some Einval

-- the bytes, where there is no refusal
abbrev pub unless : Option Errno → List ℕ → Result (List ℕ) Errno
unless None w = Ok w
unless (Some e) w = Err e

-- the line with its CRLF, or its refusal
unfoldable pub line_due : Said → Result (List ℕ) Errno
line_due said = unless (fault_of said) (line_of said ++ crlf)
