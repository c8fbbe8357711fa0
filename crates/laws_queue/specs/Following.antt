-- Where a core stands for a state, its steps lead to what it stands for after the state's own steps, and the same is seen of both.
use Rattle.std.specs.Prelude.{◌≡◌, ℕ, List, Option}
use Rattle.rand_core.specs.Stream.{Stream}
use Rattle.dill_calls.specs.declared.ran.LackPlace.{LackPlace}
use Rattle.dill_calls.specs.Program.{Program, IsLawful}
use Rattle.dill_kernel.specs.declared.ready.Ready.{Ready}
use Rattle.dill_kernel.specs.declared.replies.KernelReply.{KernelReply}
use Rattle.dill_rules.specs.Seen.{lend, ran_seen, ask_seen, notes_seen, waiting_seen, made_seen, gone_seen}
use Rattle.dill_rules.specs.State.{State, opening_state, is_answered, may_lack, turned, hear, expired, shut, woke}
use Rattle.dill_rules.specs.Waiting.{limit, is_stuck}
use Rattle.dill_handles.specs.Handles as handles
use Rattle.laws_queue.specs.Kept.{Kept, opening_kept, has_answer, kept_turn, kept_ran, kept_may_lack, kept_ask, kept_hear, kept_expired, kept_shut, kept_woke, kept_limit, kept_stuck, kept_waiting, lend_kept, returned}
use Rattle.laws_queue.specs.Stands.{StandsFor}
use Rattle.laws_queue.specs.Well.{IsWell}

-- what is seen of both is the same
pub record SeenAlike {V : Type 0} (p : Program V) (k : Kept V) (s : State V) : Type 0 where
  pub ended : s.world.ended ≡ k.world.ended
  pub answered : is_answered s ≡ has_answer k.ready
  pub stuck : is_stuck s ≡ kept_stuck k
  pub limit : limit s ≡ kept_limit k
  pub next_try : ask_seen s ≡ kept_ask k
  pub may_lack : (place : LackPlace) → may_lack p s place ≡ kept_may_lack p k place
  pub ran : (lack : Option LackPlace) → ran_seen p s lack ≡ kept_ran p lack k
  pub notes : notes_seen s ≡ k.world.notes
  pub waiting : waiting_seen s ≡ kept_waiting k
  pub made : made_seen s ≡ k.world.handles.last
  pub gone : gone_seen s ≡ handles.gone k.world.handles

-- After a step with the same random numbers lent to both, the core stands for the state, and the same are left.
pub record StandsAfter {V : Type 0} (k : Kept V) (s : State V) : Type 0 where
  pub stands : StandsFor (returned k) s
  pub random : k.world.random ≡ s.world.random

-- so it is of programs that keep their law, whatever they call
pub record Follows {V : Type 0} (p : Program V) : Type 0 where
  pub opening : (view : V) (random : Stream) → StandsFor (opening_kept view) (opening_state view random)
  pub seen : (k : Kept V) (s : State V) → IsWell p k → StandsFor k s → SeenAlike p k s
  pub turned : (k : Kept V) (s : State V) (lack : Option LackPlace) (random : Stream) → IsWell p k → StandsFor k s → StandsAfter (kept_turn p lack (lend_kept k random)) (turned p lack (lend s random))
  pub heard : (k : Kept V) (s : State V) (said : Option KernelReply) (random : Stream) → StandsFor k s → StandsAfter (kept_hear (lend_kept k random) said) (hear (lend s random) said)
  pub expired : (k : Kept V) (s : State V) (random : Stream) → StandsFor k s → StandsAfter (kept_expired (lend_kept k random)) (expired (lend s random))
  pub shut : (k : Kept V) (s : State V) (random : Stream) → StandsFor k s → StandsAfter (kept_shut (lend_kept k random)) (shut (lend s random))
  pub woke : (k : Kept V) (s : State V) (told : ℕ) (ready : List Ready) → StandsFor k s → StandsFor (kept_woke k told ready) (woke s told ready)

abbrev pub FollowsStates : {V : Type 0} → Program V → Type 0
FollowsStates p = IsLawful p → Follows p
