-- The rules as the machine of a run's story.
use Rattle.dill_calls.specs.Program.{Program}
use Rattle.dill_rules.specs.Seen.{turn_seen, ran_seen, ask_seen, hear_seen, notes_seen, waiting_seen, made_seen, gone_seen}
use Rattle.dill_rules.specs.State.{State, is_answered, woke, expired, shut, may_lack}
use Rattle.dill_rules.specs.Waiting.{limit, is_stuck}
use Rattle.dill_drive.specs.Machine.{Machine}

-- the machine whose states are those of the rules, of programs that mean this
abbrev pub machine_of : {V : Type 0} → Program V → Machine (State V)
machine_of p = record {
  ended = λ s. s.world.ended;
  answered = is_answered;
  stuck = is_stuck;
  limit = limit;
  woke = woke;
  next_try = ask_seen;
  hear = hear_seen;
  expire = expired;
  may_lack = may_lack p;
  ran = ran_seen p;
  turn = turn_seen p;
  shut = shut;
  notes = notes_seen;
  waiting = waiting_seen;
  made = made_seen;
  gone = gone_seen;
}
