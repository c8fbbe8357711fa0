-- What an error of the system is to the caller of a kernel.
use Rattle.std.specs.Prelude.{if◌then◌else◌}
use Rattle.std.specs.declared.io.ErrorKind.{ErrorKind}
use Rattle.std.specs.declared.io.ErrorKind.TheVariants.{ConnectionRefused, AddrInUse, ConnectionReset, ConnectionAborted, BrokenPipe, OutOfMemory}
use Rattle.dill_kernel.specs.Entry.{is_want}
use Rattle.dill_kernel.specs.declared.replies.KernelFault.{KernelFault}
use Rattle.dill_kernel.specs.declared.replies.KernelFault.TheVariants.{Refused, InUse, Reset, NoMemory, Other}

-- the fault of a call that makes a link
abbrev pub making_fault : ErrorKind → KernelFault
making_fault ConnectionRefused = Refused
making_fault AddrInUse = InUse
making_fault ConnectionReset = Reset
making_fault ConnectionAborted = Reset
making_fault BrokenPipe = Reset
making_fault OutOfMemory = NoMemory
making_fault _ = Other

-- the fault of any other call
abbrev pub plain_fault : ErrorKind → KernelFault
plain_fault kind = if is_want (making_fault kind) then Other else making_fault kind
