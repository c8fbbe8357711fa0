-- The calls whose entry may want memory, and the body that a coroutine runs.
use Rattle.std.specs.Prelude.{◌≡◌, ℕ, Bool, true, false, Some, None}
use Rattle.dill_calls.specs.declared.call.Call.{Call}
use Rattle.dill_calls.specs.declared.call.Call.TheVariants as calls
use Rattle.dill_calls.specs.Program.{Program}
use Rattle.dill_rules.specs.declared.coroutine.Coroutine.{Coroutine}
use Rattle.dill_rules.specs.Refusals.{refuse}
use Rattle.dill_rules.specs.World.{World, coroutine_of}

-- it enters clauses at channels
abbrev pub is_at_channel : Call → Bool
is_at_channel (calls.Chsend number bytes deadline) = true
is_at_channel (calls.Chrecv number size deadline) = true
is_at_channel (calls.Choose deadline all) = true
is_at_channel call = false

-- it makes handles or a coroutine, gives a handle another number, or enters clauses at channels
abbrev pub needs_memory : Call → Bool
needs_memory (calls.Hmake kind value) = true
needs_memory (calls.Hown number) = true
needs_memory calls.Bundle = true
needs_memory (calls.Go program args) = true
needs_memory (calls.BundleGo number program args) = true
needs_memory calls.Chmake = true
needs_memory (calls.Chsend number bytes deadline) = true
needs_memory (calls.Chrecv number size deadline) = true
needs_memory (calls.Choose deadline all) = true
needs_memory call = false

-- the coroutine is there, and its program has this view
pub record HasView {V : Type 0} (w : World V) (who : ℕ) (view : V) : Type 0 where
  pub one : Coroutine V
  pub found : coroutine_of w who ≡ Some one
  pub same : one.body ≡ view

-- the coroutine's call has no refusal
pub record Enters {V : Type 0} (p : Program V) (w : World V) (who : ℕ) (call : Call) : Type 0 where
  pub view : V
  pub has : HasView w who view
  pub free : refuse p w who view call ≡ None
