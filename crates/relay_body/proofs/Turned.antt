-- A turn of what is held is a turn of its program, and leaves it running.
use Rattle.std.proofs.Common.{◌≡◌, Bool, true, false, Option, Some, None, refl, sym, ap, ◌∙◌, subst}
use Rattle.dill_calls.specs.declared.answer.Answer.{Answer}
use Rattle.dill_calls.specs.declared.body.Next.{Next}
use Rattle.dill_calls.specs.declared.body.Next.TheVariants as nexts
use Rattle.dill_calls.specs.declared.call.Call.{Call}
use Rattle.dill_calls.specs.Program.{Turns, moved_word}
use Rattle.dill_script.specs.declared.statement.Statement.{Statement}
use Rattle.dill_meaning.specs.Meaning.{moved}
use Rattle.dill_meaning.specs.Views.{ScriptView, statements_of, ahead, pending}
use Rattle.dill_meaning.specs.Walks.{Stop, walk, given, stop_of}
use Rattle.dill_meaning.proofs.Given.{GoesFrom, given_goes}
use Rattle.dill_meaning.proofs.Walking.{statements_kept}
use Rattle.relay_body.specs.declared.held.Held.{Held}
use Rattle.relay_body.specs.declared.mode.Mode.{Mode}
use Rattle.relay_body.specs.Depths.{Fits, IsWalking}
use Rattle.relay_body.specs.Modes.{meant}
use Rattle.relay_body.specs.Running.{has_open, is_runnable, is_running, running}
use Rattle.relay_body.specs.Seen.{seen}
use Rattle.relay_body.specs.Steps.{Goes, answered}
use Rattle.relay_body.specs.Stopping.{made_at, WalksTo, MakesOne}
use Rattle.relay_body.specs.Answered.{given_fits}
use Rattle.relay_body.specs.Bools.{and_left, and_right}
use Rattle.relay_body.specs.Lawful.{kept_running}

-- what is held is on its way where its answer was taken
pub walks_given : (old new : Held) (mode : Mode) (answer : Answer) → is_running (seen old) ≡ true → Goes new mode (answered (seen old) answer) → IsWalking (meant mode) (seen new)
walks_given old new mode answer r g =
    let view = seen old in
    let gone = given view answer (pending view) in
    let k : GoesFrom view answer (pending view) gone.1 = given_goes view answer (pending view) in
    let fits : Fits (statements_of gone.1) gone.0 gone.1 = subst (λ list. Fits list gone.0 gone.1) (sym (statements_kept view gone.1 k.script k.program)) (given_fits (statements_of view) view answer (and_right (is_runnable view.script) (has_open view) r)) in
    let walking : IsWalking gone.0 gone.1 = record { runnable = subst (λ script. is_runnable script ≡ true) (sym k.script) (and_left (is_runnable view.script) (has_open view) r); fits = fits } in
    subst (λ m. IsWalking m (seen new)) (sym g.way) (subst (λ v. IsWalking gone.0 v) (sym g.view) walking)

moved_running : (view : ScriptView) (made : Option (Statement × Call)) → is_running view ≡ true → is_running (moved view made).0 ≡ true
moved_running view None r = r
moved_running view (Some (statement, call)) r = kept_running view statement r

-- it runs where its call was made
pub runs_made : (old new : Held) (next : Next) → is_running (seen old) ≡ true → MakesOne old new next → is_running (seen new) ≡ true
runs_made old new (nexts.Call call) r m = subst (λ v. is_running v ≡ true) (ap (λ p. p.0) m) (moved_running (seen old) (made_at (seen old) true) r)
runs_made old new (nexts.Lack word) r m = subst (λ held. is_running (seen held) ≡ true) (sym m.2) r
runs_made old new (nexts.End outcome) r m = absurd m

-- where a turn stops
pub stops_at : (old taken there : Held) (mode : Mode) (answer : Answer) (stopped : Bool) → Goes taken mode (answered (seen old) answer) → WalksTo taken there mode stopped → stop_of (seen old) answer ≡ record { view = seen there; made = made_at (seen there) stopped }
stops_at old taken there mode answer stopped g w =
    let gone = answered (seen old) answer in
    sym (ap (λ m. walk m (seen taken) (ahead (seen taken))) g.way ∙ ap (λ v. walk gone.0 v (ahead v)) g.view) ∙ w

turned : (view : ScriptView) (answer : Answer) (there new : Held) (next : Next) (stop : Stop) → stop_of view answer ≡ stop → stop ≡ record { view = seen there; made = made_at (seen there) true } → MakesOne there new next → Turns running view answer (seen new) next
turned view answer there new (nexts.Call call) stop e f m = ap (λ s. moved s.view s.made) e ∙ ap (λ s. moved s.view s.made) f ∙ m
turned view answer there new (nexts.Lack word) stop e f m =
    (m.0, ap (λ s. moved_word (moved s.view s.made).1) e ∙ ap (λ s. moved_word (moved s.view s.made).1) f ∙ m.1, ap seen m.2 ∙ sym (ap (λ s. s.view) e ∙ ap (λ s. s.view) f))
turned view answer there new (nexts.End outcome) stop e f m = absurd m

-- a turn that makes a call
pub turns_made : (old taken there new : Held) (mode : Mode) (answer : Answer) (next : Next) → Goes taken mode (answered (seen old) answer) → WalksTo taken there mode true → MakesOne there new next → Turns running (seen old) answer (seen new) next
turns_made old taken there new mode answer next g w m = turned (seen old) answer there new next (stop_of (seen old) answer) refl (stops_at old taken there mode answer true g w) m

-- a turn that ends
pub turns_ended : (old taken there : Held) (mode : Mode) (answer : Answer) → Goes taken mode (answered (seen old) answer) → WalksTo taken there mode false → Turns running (seen old) answer (seen there) (nexts.End there.outcome)
turns_ended old taken there mode answer g w = ap (λ s. moved s.view s.made) (stops_at old taken there mode answer false g w)
