-- What a turn leads to, by the call, the lack or the end that the code has of its program.
use Rattle.std.specs.Prelude.{◌≡◌, ℕ, ◌≤◌, [], Bool, true, false, ◌&&◌, Option, Some, None, if◌then◌else◌}
use Rattle.dill_calls.specs.declared.answer.Answer.{Answer}
use Rattle.dill_calls.specs.declared.body.Next.{Next}
use Rattle.dill_calls.specs.declared.body.Next.TheVariants as nexts
use Rattle.dill_calls.specs.declared.call.Call.{Call}
use Rattle.dill_calls.specs.declared.call.Call.TheVariants as calls
use Rattle.dill_calls.specs.declared.ran.LackPlace.{LackPlace}
use Rattle.dill_calls.specs.declared.ran.LackPlace.TheVariants.{Build, Entry}
use Rattle.dill_calls.specs.CallTable.{build_takes_memory}
use Rattle.dill_calls.specs.Program.{Program, Move, Calls, Ends, moved_word}
use Rattle.dill_plain.specs.Plain.{is_plain}
use Rattle.dill_rules.specs.declared.coroutine.Coroutine.{Coroutine}
use Rattle.dill_rules.specs.World.{World, coroutine_of}
use Rattle.dill_rules.specs.Entering.{entered, may_lack_entry}
use Rattle.dill_rules.specs.Turning.{is_build, is_entry, text_of, end_of, resume, may_lack_build, make_move, lack_move}
use Rattle.dill_steps.specs.declared.turning.Went.{Went}

-- what a program went on to, by what its code has
abbrev pub MovesAs : Next → Move → Type 0
MovesAs (nexts.Call call) move = move ≡ Calls call
MovesAs (nexts.Lack word) move = (build_takes_memory word ≡ true) × (moved_word move ≡ Some word)
MovesAs (nexts.End outcome) move = move ≡ Ends outcome

-- memory for its call was refused
abbrev pub is_lack : Next → Bool
is_lack (nexts.Lack word) = true
is_lack next = false

-- its call is plain, if it makes one
abbrev pub IsPlainNext : Next → Type 0
IsPlainNext (nexts.Call call) = is_plain call ≡ true
IsPlainNext next = Unit {0}

-- a `print` without its text
abbrev pub without_text : Call → Call
without_text (calls.Print text) = calls.Print []
without_text call = call

-- the lack of an entry that was refused memory or not
abbrev pub at_entry : Bool → Option LackPlace
at_entry lacks = if lacks then Some Entry else None

-- the coroutine is there, and may be given an answer
pub record MayGoOn {V : Type 0} (p : Program V) (w : World V) (who : ℕ) : Type 0 where
  pub one : Coroutine V
  pub found : coroutine_of w who ≡ Some one
  pub real : p.real one.body ≡ true
  pub some : 1 ≤ p.left one.body

module _ {V : Type 0} where
  -- the world after a program went on, refused memory or not
  abbrev pub gone_on : Program V → Option LackPlace → World V → ℕ → V → Move → World V
  gone_on p lack w who view move = if is_build lack && may_lack_build move then lack_move w who move else make_move p (is_entry lack) w who view move

  -- the entry of its call may be refused memory
  abbrev pub may_lack_there : Program V → World V → ℕ → V → Move → Bool
  may_lack_there p w who view (Calls call) = may_lack_entry p w who view (entered w.moment call)
  may_lack_there p w who view (Ends outcome) = false

  -- it was refused memory only where it takes some
  abbrev pub Meets : Program V → World V → ℕ → V → Move → Option LackPlace → Type 0
  Meets p w who view move None = Unit {0}
  Meets p w who view move (Some Build) = may_lack_build move ≡ true
  Meets p w who view move (Some Entry) = may_lack_there p w who view move ≡ true

  -- the world after a program's move, and what is shown of it
  pub record WentSo (p : Program V) (old new : World V) (who : ℕ) (view : V) (next : Next) (move : Move) (went : Went) : Type 0 where
    pub world : new ≡ gone_on p went.lack old who view move
    pub ends : went.outcome ≡ end_of move
    pub text : went.text ≡ (if is_build went.lack then None else text_of move)
    pub met : Meets p old who view move went.lack
    pub lacks : is_build went.lack ≡ is_lack next

  -- the world after a coroutine went on from an answer
  pub record Gone (p : Program V) (old new : World V) (who : ℕ) (given : Answer) (went : Went) : Type 0 where
    pub one : Coroutine V
    pub found : coroutine_of old who ≡ Some one
    pub view : V
    pub next : Next
    pub moved : view ≡ (if is_build went.lack then p.short one.body given else (p.next one.body given).0)
    pub so : WentSo p (resume old who view) new who view next (p.next one.body given).1 went
