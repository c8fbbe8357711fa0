-- Steps of the definitions in the form in which the code takes them.
use Rattle.std.specs.Prelude.{◌≡◌, ℕ, ◌+◌, ◌==◌, List, find, Option, Some, None, MatchOption, IsSomeAnd, if◌then◌else◌}
use Rattle.dill_base.specs.declared.errno.Errno.{Errno}
use Rattle.dill_calls.specs.declared.answer.Answer.{Answer}
use Rattle.dill_calls.specs.declared.body.Next.{Next}
use Rattle.dill_calls.specs.Program.{Program, Turns}
use Rattle.dill_chan.specs.Channels as channels
use Rattle.dill_scope.specs.Scopes as scopes
use Rattle.dill_base.specs.Maps.{change, without}
use Rattle.dill_rules.specs.World.{World, is_coroutine, coroutine_of, from_start}
use Rattle.dill_rules.specs.declared.coroutine.Coroutine.{Coroutine}
use Rattle.dill_rules.specs.declared.thing.Thing.TheVariants as things
use Rattle.dill_rules.specs.Effects.{make, bear, add_bundle}
use Rattle.dill_rules.specs.Turning.{as_running, resume}

module _ {V : Type 0} where
  -- how `main` ended is kept, and what is asked goes on from before the first kind then
  abbrev pub keep_outcome : World V → ℕ → Option Errno → World V
  keep_outcome w who outcome = if who == 1 then from_start (record w { ended = Some outcome }) else w

  -- a coroutine is gone, whose program ended so
  abbrev pub left : World V → ℕ → Option Errno → World V
  left w who outcome = record (keep_outcome w who outcome) { coroutines = without (is_coroutine who) w.coroutines; scopes = scopes.ended w.scopes who }

  -- a new channel, whose ends have numbers and this owner
  abbrev pub add_channel : World V → ℕ → World V
  add_channel w who =
      let ends = channels.next_ends w.channels in
      make (make (record w { channels = channels.make w.channels }) (things.End ends.0) who) (things.End ends.1) who

  -- a new bundle of a coroutine, and a new coroutine in it
  abbrev pub bear_apart : World V → ℕ → V → World V
  bear_apart w who view = bear (add_bundle w who) view (w.last_bundle + 1)

  -- a coroutine went on from an answer, and its program is at its next call or its end
  abbrev pub WentOn : Program V → Coroutine V → Answer → Option Next → (V → Type 0) → Type 0
  WentOn p c given said After = IsSomeAnd said (λ next. (view : V) × Turns p c.body given view next × After view)

  -- a coroutine of a list went on, where it is there
  abbrev pub RunsOn : Program V → List (Coroutine V) → List (Coroutine V) → ℕ → Answer → Option Next → Type 0
  RunsOn p old new who given said = MatchOption (find (is_coroutine who) old) ((said ≡ None) × (new ≡ old)) (λ c. WentOn p c given said (λ view. new ≡ change (is_coroutine who) (as_running view) old))

  -- a coroutine of a world went on, where it is there
  abbrev pub Resumed : Program V → World V → World V → ℕ → Answer → Option Next → Type 0
  Resumed p old new who given said = MatchOption (coroutine_of old who) ((said ≡ None) × (new ≡ old)) (λ c. WentOn p c given said (λ view. new ≡ resume old who view))
