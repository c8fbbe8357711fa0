-- Sound states, and laws of the rules.
use Rattle.std.specs.Prelude.{◌≡◌, ℕ, ◌+◌, ◌≤◌, Bool, true, length, Some, is_some}
use Rattle.rand_core.specs.Stream.{Stream}
use Rattle.dill_base.specs.declared.errno.Errno.{Errno}
use Rattle.dill_calls.specs.declared.answer.Answer.{Answer}
use Rattle.dill_calls.specs.declared.answer.Answer.TheVariants.{Fault}
use Rattle.dill_calls.specs.declared.call.Call.{Call}
use Rattle.dill_calls.specs.CallTable.{word_of, deadline_of}
use Rattle.dill_calls.specs.Program.{Program}
use Rattle.dill_handles.specs.declared.entry.Entry.{Entry}
use Rattle.dill_scope.specs.Forest.{IsForest}
use Rattle.dill_rules.specs.declared.thing.Thing.{Thing}
use Rattle.dill_rules.specs.World.{World, coroutine_of, reply, opening}
use Rattle.dill_rules.specs.Naming.{numbers_of}
use Rattle.dill_rules.specs.Owning.{entry_of, OneOwner}
use Rattle.dill_rules.specs.Answers.{answer_of}
use Rattle.dill_rules.specs.Channeling.{without_bytes, clause_answer}
use Rattle.dill_rules.specs.Refusals.{refuse}
use Rattle.dill_rules.specs.Entering.{enter}

-- Bundles and coroutines are a forest, each live number has an owner that is there, no number is greater than the last one, and no more than 65,536 are live or kept.
pub record IsSound {V : Type 0} (w : World V) : Type 0 where
  pub forest : IsForest w.scopes
  pub owned : (number : ℕ) (x : Entry Thing) → entry_of w number ≡ Some x → is_some (coroutine_of w x.owner) ≡ true
  pub given : (number : ℕ) (x : Entry Thing) → entry_of w number ≡ Some x → number ≤ w.handles.last
  pub room : length w.handles.entries + w.handles.kept ≤ 65536
  pub one : OneOwner w

-- A pending call without the bytes that it sends at channels has the same word, deadline and numbers as with them, and is answered the same, whoever makes it.
pub record BytesTellNothing (V : Type 0) : Type 0 where
  pub word : (call : Call) → word_of (without_bytes call) ≡ word_of call
  pub deadline : (call : Call) → deadline_of (without_bytes call) ≡ deadline_of call
  pub numbers : (call : Call) → numbers_of (without_bytes call) ≡ numbers_of call
  pub clause : (call : Call) (index : ℕ) (answer : Answer) → clause_answer (without_bytes call) index answer ≡ clause_answer call index answer
  pub answer : (w : World V) (who : ℕ) (call : Call) → answer_of w who (without_bytes call) ≡ answer_of w who call

-- the opening world is sound
abbrev pub OpeningIsSound : (V : Type 0) → Type 0
OpeningIsSound V = (view : V) (random : Stream) → IsSound (opening view random)

-- A refusal at entry changes nothing but that the caller has its answer, whether memory is refused or not.
abbrev pub RefusalChangesNothing : (V : Type 0) → Type 0
RefusalChangesNothing V = (p : Program V) (lacks : Bool) (w : World V) (who : ℕ) (view : V) (call : Call) (e : Errno) → refuse p w who view call ≡ Some e → enter p lacks w who view call ≡ reply w who (word_of call) (Fault e)
