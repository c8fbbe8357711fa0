-- A machine without coroutines, for the tests of the driver: it makes a listener and a link, writes and reads in one round, and lets both go once its `main` has ended.
use Rattle.std.specs.Prelude.{◌≡◌, ℕ, zero, suc, ◌+◌, ◌==◌, List, [], ◌∷◌, Option, Some, None, true, false, nat_le, if◌then◌else◌}
use Rattle.dill_base.specs.declared.status.Address.{Address}
use Rattle.dill_base.specs.declared.errno.Errno.{Errno}
use Rattle.dill_calls.specs.declared.answer.Answer.TheVariants.{Number}
use Rattle.dill_calls.specs.declared.word.Word.TheVariants.{Start}
use Rattle.dill_kernel.specs.declared.ready.Limit.TheVariants.{NoWait}
use Rattle.dill_kernel.specs.declared.replies.KernelAsk.{KernelAsk}
use Rattle.dill_kernel.specs.declared.replies.KernelAsk.TheVariants.{Listen, Connect, Write, Read, Close}
use Rattle.dill_drive.specs.Machine.{Machine}

abbrev pub home : Address
home = record { ip = 127 ∷ 0 ∷ 0 ∷ 1 ∷ []; port = 7000 }

-- what is written
abbrev pub greeting : List ℕ
greeting = 104 ∷ 105 ∷ []

-- what is asked after so many replies
abbrev pub asks_after : ℕ → Option KernelAsk
asks_after zero = Some (Listen 1 home 16)
asks_after (suc zero) = Some (Connect 2 home)
asks_after (suc (suc zero)) = Some (Write 2 greeting)
asks_after (suc (suc (suc zero))) = Some (Read 2 4096)
asks_after (suc (suc (suc (suc zero)))) = Some (Close 1)
asks_after (suc (suc (suc (suc (suc zero))))) = Some (Close 2)
asks_after (suc (suc (suc (suc (suc (suc more)))))) = None

-- `main` has ended once its link was read
abbrev pub ended_after : ℕ → Option (Option Errno)
ended_after heard = if nat_le 4 heard then Some None else None

-- its state is how many replies it has heard
abbrev pub visitor : Machine ℕ
visitor = record {
  ended = ended_after;
  answered = λ s. s == 3;
  stuck = λ s. false;
  limit = λ s. NoWait;
  woke = λ s moment ready. s;
  next_try = asks_after;
  hear = λ s ask reply keys. (s + 1, keys);
  expire = λ s. s;
  may_lack = λ s place. false;
  ran = λ s lack. record { who = 0; word = Start; given = Number 0; lack = None; «end» = None; text = None };
  turn = λ s lack keys. (s, keys);
  shut = λ s. 6;
  notes = λ s. [];
  waiting = λ s. [];
  made = λ s. 0;
  gone = λ s. 0;
}

-- once its `main` has ended, nobody needs an answer
pub rests : (s : ℕ) → ended_after s ≡ Some None → ended_after s ≡ None → (s == 3) ≡ true
rests s closed going = cc
