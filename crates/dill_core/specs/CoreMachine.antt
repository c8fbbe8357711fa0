-- What a core holds, as the machine of a run's story. It draws no random number, and asks the kernel for nothing but waits.
use Rattle.std.specs.Prelude.{None}
use Rattle.dill_calls.specs.Program.{Program}
use Rattle.dill_handles.specs.Handles as handles
use Rattle.laws_queue.specs.Kept.{has_answer, kept_turn, kept_ran, kept_may_lack, kept_expired, kept_shut, kept_woke, kept_limit, kept_stuck, kept_waiting}
use Rattle.dill_drive.specs.Machine.{Machine}
use Rattle.dill_core.specs.Holding.{Holding, kept_of, held_of}

-- the machine whose states are those that a core holds, of programs that mean this: each step is that of what is kept
abbrev pub core_machine : {V : Type 0} → Program V → Machine (Holding V)
core_machine p = record {
  ended = λ h. h.world.ended;
  answered = λ h. has_answer h.ready;
  stuck = λ h. kept_stuck (kept_of h);
  limit = λ h. kept_limit (kept_of h);
  woke = λ h told ready. held_of (kept_woke (kept_of h) told ready);
  next_try = λ h. None;
  hear = λ h ask reply keys. (h, keys);
  expire = λ h. held_of (kept_expired (kept_of h));
  may_lack = λ h place. kept_may_lack p (kept_of h) place;
  ran = λ h lack. kept_ran p lack (kept_of h);
  turn = λ h lack keys. (held_of (kept_turn p lack (kept_of h)), keys);
  shut = λ h. held_of (kept_shut (kept_of h));
  notes = λ h. h.world.notes;
  waiting = λ h. kept_waiting (kept_of h);
  made = λ h. h.world.handles.last;
  gone = λ h. handles.gone h.world.handles;
}
