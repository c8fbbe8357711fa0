-- A turn: a coroutine is given its answer, and its next call is entered, or it ends; then the world settles.
use Rattle.std.specs.Prelude.{ℕ, List, Bool, true, false, ◌&&◌, Option, Some, None, if◌then◌else◌}
use Rattle.dill_base.specs.declared.errno.Errno.{Errno}
use Rattle.dill_calls.specs.declared.answer.Answer.{Answer}
use Rattle.dill_calls.specs.declared.answer.Answer.TheVariants.{Number, Fault}
use Rattle.dill_calls.specs.declared.call.Call.TheVariants as calls
use Rattle.dill_calls.specs.declared.ran.LackPlace.{LackPlace}
use Rattle.dill_calls.specs.declared.ran.LackPlace.TheVariants.{Build, Entry}
use Rattle.dill_calls.specs.declared.ran.Ran.{Ran}
use Rattle.dill_calls.specs.declared.word.Word.{Word}
use Rattle.dill_calls.specs.declared.word.Word.TheVariants as words
use Rattle.dill_calls.specs.CallTable.{word_of, build_takes_memory}
use Rattle.dill_calls.specs.Program.{Program, Move, Calls, Ends}
use Rattle.dill_base.specs.Maps.{if_some, change}
use Rattle.dill_rules.specs.declared.coroutine.Coroutine.{Coroutine}
use Rattle.dill_rules.specs.declared.coroutine.Mode.{Mode}
use Rattle.dill_rules.specs.declared.coroutine.Mode.TheVariants as modes
use Rattle.dill_rules.specs.World.{World, is_coroutine, coroutine_of, reply, begin}
use Rattle.dill_rules.specs.Entering.{entered, enter, may_lack_entry, lack_fault}
use Rattle.dill_rules.specs.Settling.{end, settle}

abbrev pub is_build : Option LackPlace → Bool
is_build (Some Build) = true
is_build _ = false

abbrev pub is_entry : Option LackPlace → Bool
is_entry (Some Entry) = true
is_entry _ = false

-- the text of a `print` that is entered
abbrev pub text_of : Move → Option (List ℕ)
text_of (Calls (calls.Print text)) = Some text
text_of move = None

-- how a program ends that does
abbrev pub end_of : Move → Option (Option Errno)
end_of (Calls call) = None
end_of (Ends outcome) = Some outcome

-- the program needs memory to build its next call
abbrev pub may_lack_build : Move → Bool
may_lack_build (Calls call) = build_takes_memory (word_of call)
may_lack_build (Ends outcome) = false

-- the answer that waits to be given, with the word of its call
abbrev pub given_of : Mode → Word × Answer
given_of (modes.Answered word answer) = (word, answer)
given_of mode = (words.Start, Number 0)

module _ {V : Type 0} where
  abbrev pub as_running : V → Coroutine V → Coroutine V
  as_running view c = record c { body = view; mode = modes.Running }

  -- a coroutine has its answer, and makes its call
  abbrev pub resume : World V → ℕ → V → World V
  resume w who view = record w { coroutines = change (is_coroutine who) (as_running view) w.coroutines }

  -- the answer that a coroutine is given at its turn, with the word of its call
  abbrev pub answer_given : World V → ℕ → Word × Answer
  answer_given w who = if_some (coroutine_of w who) (words.Start, Number 0) (λ c. given_of c.mode)

  -- what its program goes on to, from the view before
  abbrev pub move_of : Program V → World V → ℕ → V → V × Move
  move_of p w who view = p.next view (answer_given w who).1

  -- the turn may be refused memory there
  abbrev pub may_lack_move : Program V → World V → ℕ → V × Move → LackPlace → Bool
  may_lack_move p w who (view, Calls call) Build = build_takes_memory (word_of call)
  may_lack_move p w who (view, Calls call) Entry = may_lack_entry p (resume w who view) who view (entered w.moment call)
  may_lack_move p w who (view, Ends outcome) place = false

  -- its next call is entered, or it ends
  abbrev pub make_move : Program V → Bool → World V → ℕ → V → Move → World V
  make_move p lacks w who view (Calls call) = enter p lacks w who view (entered w.moment call)
  make_move p lacks w who view (Ends outcome) = end w who outcome

  -- the call couldn't be built
  abbrev pub lack_move : World V → ℕ → Move → World V
  lack_move w who (Calls call) = reply w who (word_of call) (Fault (lack_fault w who (word_of call)))
  lack_move w who (Ends outcome) = w

  -- the coroutine goes on, refused memory or not
  abbrev pub go_on : Program V → Option LackPlace → World V → ℕ → V → World V
  go_on p lack w who view =
      let next = move_of p w who view in
      if is_build lack && may_lack_build next.1 then lack_move (resume w who (p.short view (answer_given w who).1)) who next.1
      else make_move p (is_entry lack) (resume w who next.0) who next.0 next.1

  -- the turn of a coroutine, but for the places of those that it answers
  abbrev pub turn : Program V → Option LackPlace → World V → ℕ → World V
  turn p lack w who = if_some (coroutine_of w who) w (λ c. settle (go_on p lack (begin w) who c.body))

  -- the lack that the turn meets: none where it takes no memory there
  abbrev pub lack_met : Program V → Option LackPlace → World V → ℕ → V → Option LackPlace
  lack_met p None w who view = None
  lack_met p (Some place) w who view = if may_lack_move p w who (move_of p w who view) place then Some place else None

  -- what a turn shows
  abbrev pub shown : Program V → Option LackPlace → World V → ℕ → V → Ran
  shown p lack w who view =
      let next = move_of p w who view in
      let met = lack_met p lack w who view in
      record {
        who = who;
        word = (answer_given w who).0;
        given = (answer_given w who).1;
        lack = met;
        «end» = end_of next.1;
        text = if is_build met then None else text_of next.1;
      }
