-- What an `hclose` of a run waits for: a bundle that is closing, in which somebody goes on.
use Rattle.std.specs.Prelude.{◌≡◌, ℕ, ◌+◌, ◌≤◌, ◌==◌, List, [], ◌∷◌, Option, Bool, true, false, Some, if◌then◌else◌}
use Rattle.rand_core.specs.Stream.{Stream}
use Rattle.dill_calls.specs.declared.call.Call.{Call}
use Rattle.dill_calls.specs.declared.call.Call.TheVariants as calls
use Rattle.dill_calls.specs.Program.{Program, Begins}
use Rattle.dill_kernel.specs.declared.replies.KernelReply.{KernelReply}
use Rattle.dill_scope.specs.Scopes.{is_empty, owner_of}
use Rattle.dill_base.specs.Maps.{if_some}
use Rattle.dill_rules.specs.Answers.{bundle_dead_as}
use Rattle.dill_rules.specs.Debts.{debt}
use Rattle.dill_rules.specs.State.{State, opening_state}
use Rattle.dill_rules.specs.World.{World, call_of}
use Rattle.dill_drive.specs.ByRules.{machine_of}
use Rattle.dill_drive.specs.Play.{Lack, opening, play}
use Rattle.laws_queue.specs.Well.{bit}
use Rattle.laws_sound.specs.Laws.{is_closing, HasGoing}
use Rattle.laws_debt.specs.Debts.{Step, is_turn_inside, step}

-- an `hclose` of this number
abbrev pub is_hclose_of : ℕ → Call → Bool
is_hclose_of number (calls.Hclose closed) = closed == number
is_hclose_of number _ = false

module _ {V : Type 0} where
  -- A number died with the closing of a bundle that this coroutine owns. The bundle is closing, somebody lives in it, and somebody inside it has an answer.
  pub record ClosesGoing (w : World V) (who number : ℕ) : Type 0 where
    pub name : ℕ
    pub dead : bundle_dead_as w number ≡ Some name
    pub owned : owner_of w.scopes name ≡ Some who
    pub closing : is_closing w.scopes name ≡ true
    pub lived : is_empty w.scopes name ≡ false
    pub going : HasGoing w name

  -- the coroutine is pending in it
  abbrev pub waits_in_close : World V → ℕ → ℕ → Bool
  waits_in_close w who number = if_some (call_of w who) false (is_hclose_of number)

  -- how many turns those inside a bundle take, as long as a coroutine is pending in `hclose` of a number
  abbrev pub turns_waited : Program V → State V → ℕ → ℕ → ℕ → List Step → ℕ
  turns_waited p s who number name [] = 0
  turns_waited p s who number name (x ∷ xs) = if waits_in_close s.world who number then bit (is_turn_inside s name x) + turns_waited p (step p s x) who number name xs else 0

  -- The bundle of a number that died with its closing is closing, and whoever is pending in `hclose` waits for such a one. Whatever the next steps are, as long as it waits those inside the bundle take at most as many turns as the bundle's debt.
  pub record ClosesWell (p : Program V) (s : State V) : Type 0 where
    pub closing : (number name : ℕ) → bundle_dead_as s.world number ≡ Some name → is_closing s.world.scopes name ≡ true
    pub waits : (who number : ℕ) → call_of s.world who ≡ Some (calls.Hclose number) → ClosesGoing s.world who number
    pub within : (who number name : ℕ) → bundle_dead_as s.world number ≡ Some name → (xs : List Step) → turns_waited p s who number name xs ≤ debt p s name

-- So it is in each state of a run from its beginning.
abbrev pub RunsCloseWell : {V : Type 0} → Program V → Type 0
RunsCloseWell {V} p = (view : V) (random keys : Stream) (traced : Bool) (most : ℕ) (replies : List KernelReply) (lacks : List Lack) (halt : Option ℕ) (n : ℕ) → Begins p view
    → ClosesWell p (play (machine_of p) traced most n (opening (machine_of p) traced most (opening_state view random) keys replies lacks halt)).config.state
