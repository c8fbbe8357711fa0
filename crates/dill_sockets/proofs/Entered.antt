-- Lines that are written, lengths that are refused, and what is done where there is one.
use Rattle.std.proofs.Common.{◌≡◌, ◌<◌, ℕ, Bool, List, ◌++◌, Result, Ok, Err, Option, Some, None, is_some, true, refl, arith}
use Rattle.dill_base.specs.declared.errno.Errno.{Errno}
use Rattle.dill_base.specs.declared.errno.Errno.TheVariants.{Einval}
use Rattle.dill_base.specs.declared.errno.WriteFault.{WriteFault}
use Rattle.dill_base.specs.Maps.{if_some}
use Rattle.dill_base.specs.Writing.{Writes}
use Rattle.dill_http.specs.Heads.{Said, line_of}
use Rattle.dill_http.specs.Lines.{crlf}
use Rattle.dill_http.specs.Writing.{fault_of, line_due, unless}
use Rattle.dill_stack.specs.declared.layer.Layer.TheVariants.{Prefix}
use Rattle.dill_stack.specs.Attaching.{attach}
use Rattle.dill_stack.specs.Held.{Held}
use Rattle.dill_stack.specs.Refusals.{attach_fault}

line_at : (fault : Option Errno) (w line : List ℕ) → fault ≡ None → unless fault w ≡ Ok line → line ≡ w
line_at None w line e due = cc
line_at (Some f) w line e due = cc

-- a line that has a spelling is written as it
pub written_line : (said : Said) (written : Result (List ℕ) WriteFault) (line : List ℕ) → written ≡ Ok line → fault_of said ≡ None → Writes written (line_due said) → line ≡ line_of said ++ crlf
unfolding line_due
written_line said written line is free writes = line_at (fault_of said) (line_of said ++ crlf) line free (rw is at writes)

-- no length has more than eight bytes
pub long_prefix : (size : ℕ) (little : Bool) (s : Held) → 8 < size → attach (Prefix (record { size = size; little = little })) s ≡ Err Einval
unfolding attach attach_fault
long_prefix size little s long = grind (arith, long)

module _ {A B : Type 0} (d e : B) (f : A → B) where
  -- there is one, whatever were done else
  pub if_there : (o : Option A) → is_some o ≡ true → if_some o d f ≡ if_some o e f
  if_there None is = cc
  if_there (Some a) is = refl
