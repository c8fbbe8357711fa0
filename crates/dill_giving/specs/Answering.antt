-- The answers that are given without a look at a stack.
use Rattle.std.specs.Prelude.{◌≡◌, ℕ, length, Bool, true, not, ◌&&◌, ◌||◌, nat_le, Option, Some, None, if◌then◌else◌}
use Rattle.dill_base.specs.declared.errno.Errno.{Errno}
use Rattle.dill_calls.specs.declared.answer.Answer.{Answer}
use Rattle.dill_calls.specs.declared.answer.Answer.TheVariants.{Fault}
use Rattle.dill_calls.specs.declared.call.Call.{Call}
use Rattle.dill_calls.specs.declared.call.Call.TheVariants as calls
use Rattle.dill_calls.specs.declared.word.Word.{Word}
use Rattle.dill_calls.specs.CallTable.{word_of, gives_up}
use Rattle.dill_rules.specs.Directions.{is_receive, is_handshake}
use Rattle.dill_rules.specs.Entering.{late_answer}
use Rattle.dill_rules.specs.Giving.{is_read}
use Rattle.dill_rules.specs.LinkAnswers.{is_tcp_close}
use Rattle.dill_rules.specs.Lookless.{lookless_of}
use Rattle.dill_rules.specs.World.{World}

-- the errno of an answer that is a fault
abbrev pub fault_in : Answer → Option Errno
fault_in (Fault e) = Some e
fault_in answer = None

-- a choice has at most 16 clauses
abbrev pub has_few_clauses : Call → Bool
has_few_clauses (calls.Choose deadline all) = nat_le (length all) 16
has_few_clauses call = true

-- a receive, a handshake or a detach, which may be answered by what a look passes
abbrev pub may_read : Word → Bool
may_read word = is_receive word || (is_handshake word || (gives_up word && not (is_tcp_close word)))

-- the answer comes from no look
abbrev pub needs_no_look : Word → Answer → Bool
needs_no_look word answer = if may_read word then not (is_read answer) else true

-- What is answered without a look needs none, nor does the answer of a passed deadline or of a cancelled caller.
pub record NoLooks (V : Type 0) : Type 0 where
  pub lookless : (w : World V) (who : ℕ) (call : Call) (answer : Answer) → lookless_of w who call ≡ Some answer → needs_no_look (word_of call) answer ≡ true
  pub late : (call : Call) → needs_no_look (word_of call) (late_answer call) ≡ true
