-- Laws of the debt of a bundle that is closing: a turn of who is inside it lowers it, no step raises it, nobody comes in, and nobody leaves but by being gone.
use Rattle.std.specs.Prelude.{◌≡◌, ℕ, ◌+◌, ◌<◌, ◌≤◌, List, [], ◌∷◌, Bool, true, false, Option, if◌then◌else◌}
use Rattle.dill_calls.specs.declared.ran.LackPlace.{LackPlace}
use Rattle.dill_calls.specs.Program.{Program, IsLawful, Begins}
use Rattle.rand_core.specs.Stream.{Stream}
use Rattle.dill_kernel.specs.declared.ready.Ready.{Ready}
use Rattle.dill_scope.specs.Scopes.{is_inside, is_empty}
use Rattle.dill_base.specs.Maps.{if_some}
use Rattle.dill_rules.specs.Debts.{debt}
use Rattle.dill_rules.specs.Seen.{lend}
use Rattle.dill_rules.specs.State.{State, opening_state, next_turn, turned, expired, shut, woke}
use Rattle.laws_sound.specs.Linkless.{MakesLinkless}
use Rattle.laws_queue.specs.Kept.{Kept, kept_shut}
use Rattle.laws_queue.specs.Stands.{StandsFor}
use Rattle.laws_queue.specs.Well.{bit}
use Rattle.laws_sound.specs.Laws.{is_closing, HasGoing}
use Rattle.laws_sound.specs.Order.{is_there}
use Rattle.laws_debt.specs.Closing.{IsStable}
use Rattle.laws_debt.specs.Owed.{owed}
use Rattle.laws_debt.specs.Steady.{IsSteady}

-- a step of a state without a kernel's reply
pub data Step : Type 0 where
  Turn : Option LackPlace → Step
  Expire : Step
  Shut : Step
  Wake : ℕ → List Ready → Step

module _ {V : Type 0} where
  abbrev pub step : Program V → State V → Step → State V
  step p s (Turn lack) = turned p lack s
  step p s Expire = expired s
  step p s Shut = shut s
  step p s (Wake told ready) = woke s told ready

  -- Who is there after a step is inside the bundle exactly where it was. So nobody comes in: who is new wasn't there.
  abbrev pub SamePlaces : State V → State V → ℕ → Type 0
  SamePlaces s t b = (n : ℕ) → is_there t.world n ≡ true → is_inside t.world.scopes b n ≡ is_inside s.world.scopes b n

  -- the step is a turn of who is inside the bundle
  abbrev pub is_turn_inside : State V → ℕ → Step → Bool
  is_turn_inside s b (Turn lack) = if_some (next_turn s) false (is_inside s.world.scopes b)
  is_turn_inside s b x = false

  -- how many turns those inside the bundle take, as long as it is closing
  abbrev pub turns_inside : Program V → State V → ℕ → List Step → ℕ
  turns_inside p s b [] = 0
  turns_inside p s b (x ∷ xs) = if is_closing s.world.scopes b then bit (is_turn_inside s b x) + turns_inside p (step p s x) b xs else 0

  -- so it is of programs that make no call of a link
  pub record DebtFalls (p : Program V) : Type 0 where
    pub opening : (view : V) (random : Stream) → Begins p view → IsSteady p (opening_state view random)
    -- other random numbers change nothing of it
    pub lent : (s : State V) (random : Stream) → IsSteady p s → IsSteady p (lend s random)
    pub steady : (s : State V) (x : Step) → IsSteady p s → IsSteady p (step p s x)
    pub falls : (s : State V) (x : Step) (b : ℕ) → IsSteady p s → is_closing s.world.scopes b ≡ true → is_turn_inside s b x ≡ true → debt p (step p s x) b < debt p s b
    pub no_more : (s : State V) (x : Step) (b : ℕ) → IsSteady p s → is_closing s.world.scopes b ≡ true → debt p (step p s x) b ≤ debt p s b
    pub places : (s : State V) (x : Step) (b : ℕ) → IsSteady p s → is_closing s.world.scopes b ≡ true → SamePlaces s (step p s x) b
    pub goes_on : (s : State V) (b : ℕ) → IsSteady p s → is_closing s.world.scopes b ≡ true → is_empty s.world.scopes b ≡ false → HasGoing s.world b
    -- what is owed at the closing of the root is the debt of the root
    pub root : (k : Kept V) (s : State V) → IsStable p k → StandsFor k s → IsSteady p s → is_closing s.world.scopes 0 ≡ false → owed p (kept_shut k) ≡ debt p (shut s) 0
    pub within : (s : State V) (b : ℕ) (xs : List Step) → IsSteady p s → is_closing s.world.scopes b ≡ true → turns_inside p s b xs ≤ debt p s b

abbrev pub DebtsFall : {V : Type 0} → Program V → Type 0
DebtsFall p = IsLawful p → MakesLinkless p → DebtFalls p
