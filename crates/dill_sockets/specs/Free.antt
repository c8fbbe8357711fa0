-- What a call that isn't refused finds: its line has a spelling, its close frame may be sent, its layer fits, and a handshake finds no layers.
use Rattle.std.specs.Prelude.{◌≡◌, ℕ, [], true, Some, None, IfSome}
use Rattle.dill_calls.specs.declared.call.Call.{Call}
use Rattle.dill_calls.specs.CallTable.{word_of}
use Rattle.dill_calls.specs.Program.{Program}
use Rattle.dill_stack.specs.Interface.{Held}
use Rattle.dill_stack.specs.Refusals.{is_allowed_parting}
use Rattle.dill_stack.specs.Standing.{FitsBelow}
use Rattle.dill_rules.specs.Directions.{is_handshake, layer_of, parting_of}
use Rattle.dill_rules.specs.Refusals.{refuse}
use Rattle.dill_rules.specs.Sockets.{stack_of}
use Rattle.dill_rules.specs.World.{World}
use Rattle.dill_sockets.specs.Faults.{spelling_fault}

-- a call on this stack that isn't refused
pub record IsFree {V : Type 0} (p : Program V) (w : World V) (who : ℕ) (view : V) (call : Call) (s : Held) : Type 0 where
  pub refused : refuse p w who view call ≡ None
  pub there : stack_of w call ≡ Some s

-- whatever the call, its entry may be made
pub record FreeCalls (V : Type 0) : Type 0 where
  pub spelled : (p : Program V) (w : World V) (who : ℕ) (view : V) (call : Call) (s : Held) → IsFree p w who view call s → spelling_fault call ≡ None
  pub allowed : (p : Program V) (w : World V) (who : ℕ) (view : V) (call : Call) (s : Held) → IsFree p w who view call s → IfSome (parting_of call) (λ parting. is_allowed_parting parting ≡ true)
  pub fits : (p : Program V) (w : World V) (who : ℕ) (view : V) (call : Call) (s : Held) → IsFree p w who view call s → IfSome (layer_of call) (λ layer. FitsBelow layer s.layers)
  pub bare : (p : Program V) (w : World V) (who : ℕ) (view : V) (call : Call) (s : Held) → IsFree p w who view call s → is_handshake (word_of call) ≡ true → s.layers ≡ []
