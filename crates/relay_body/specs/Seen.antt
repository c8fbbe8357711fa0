-- What a coroutine holds, as the view that the programs of scripts have of it.
use Rattle.std.specs.Rc.{rc_value}
use Rattle.dill_meaning.specs.Views.{ScriptView}
use Rattle.relay_body.specs.declared.held.Held.{Held}

-- the view of what is held
abbrev pub seen : Held → ScriptView
seen held = record { script = rc_value held.script; program = held.program; passed = held.passed; numbers = held.numbers; texts = held.texts; err = held.err; rounds = held.rounds; outcome = held.outcome }
