-- Worked runs of turns that are refused memory.
use Rattle.std.specs.Prelude.{◌≡◌, true, ℕ, List, [], ◌∷◌, codes}
use Rattle.dill_calls.specs.declared.call.Call.TheVariants as calls
use Rattle.dill_rows.specs.Play.{Tries, Text, Play, playing}
use Rattle.dill_rows.specs.Playing.{plain}
use Rattle.std.specs.Prelude.{not, ◌||◌, Option, Some, None, bytes_eq}
use Rattle.dill_calls.specs.declared.ran.LackPlace.{LackPlace}
use Rattle.dill_calls.specs.declared.ran.LackPlace.TheVariants.{Build, Entry}
use Rattle.dill_calls.specs.Program.{Program}
use Rattle.dill_base.specs.Maps.{if_some}
use Rattle.relay_trace.specs.Lines.{ran_bytes}
use Rattle.dill_rules.specs.State.{State, opening_state, turned, ran, may_lack}
use Rattle.dill_rows.specs.Play.{first_of}
use Rattle.dill_rows.specs.Playing.{zeros}
use Rattle.dill_rows.specs.Runs.{text}

abbrev pub makes_two : ℕ → List ℕ → Text
makes_two program args = plain 0 (Tries (calls.Hmake 256 7) ∷ Tries (calls.Hmake 256 8) ∷ Tries (calls.Print (codes "x")) ∷ Tries calls.Now ∷ [])

abbrev pub lacking : Program Play
lacking = playing makes_two

-- before the first turn, and after a first turn that was refused memory at its entry, and a second that wasn't
abbrev pub before : State Play
before = opening_state (first_of (makes_two 0 [])) zeros

abbrev pub refused : State Play
refused = turned lacking (Some Entry) before

abbrev pub made : State Play
made = turned lacking None refused

-- a print that couldn't be built, and a call that needs nothing
abbrev pub unbuilt : State Play
unbuilt = turned lacking (Some Build) made

abbrev pub plain_call : State Play
plain_call = turned lacking (Some Entry) unbuilt

-- the lines of the next turn
abbrev pub next_lines : Option LackPlace → State Play → List ℕ
next_lines lack s = if_some (ran lacking lack s) [] (ran_bytes true)

-- A refusal of memory changes nothing but the answer, and only what takes memory meets one.
pub record LacksChangeNothing : Type 0 where
  pub entry : bytes_eq (next_lines None refused) (text (codes "1 hmake ENOMEM" ∷ [])) ≡ true
  pub number : bytes_eq (next_lines None made) (text (codes "1 hmake =1" ∷ codes "x" ∷ [])) ≡ true
  pub build : bytes_eq (next_lines (Some Build) made) (text (codes "1 hmake =1" ∷ [])) ≡ true
  pub print : bytes_eq (next_lines None unbuilt) (text (codes "1 print ENOMEM" ∷ [])) ≡ true
  pub answer : bytes_eq (next_lines None plain_call) (text (codes "1 now =0" ∷ codes "1 end ok" ∷ [])) ≡ true
  pub may : may_lack lacking before Entry ≡ true
  pub may_not : not (may_lack lacking made Entry) ≡ true
  pub may_build : may_lack lacking made Build ≡ true
  pub may_nothing : not (may_lack lacking unbuilt Entry || may_lack lacking unbuilt Build) ≡ true
