-- How many bytes are unread where no look finds anything: fewer than the pending call needs, so that there is room for what comes.
use Rattle.std.specs.Prelude.{◌≡◌, ℕ, ◌<◌, length, true, Some}
use Rattle.dill_calls.specs.declared.call.Call.{Call}
use Rattle.dill_calls.specs.CallTable.{word_of, named_by}
use Rattle.dill_stack.specs.declared.parting.Parting.{Parting}
use Rattle.dill_stack.specs.declared.want.Want.{Want}
use Rattle.dill_stack.specs.Interface.{is_sent, need, head_need, parting_need}
use Rattle.dill_stack.specs.Layers.{IsStanding}
use Rattle.dill_stack.specs.Needs.{needs_head}
use Rattle.dill_stack.specs.Standing.{IsDroppable}
use Rattle.dill_stack.specs.Taking.{FitsTop}
use Rattle.dill_rules.specs.Directions.{is_handshake, asked, parting_of}
use Rattle.dill_rules.specs.Links.{Link, look}
use Rattle.dill_rules.specs.World.{World}
use Rattle.laws_looks.specs.Readers.{Pends}
use Rattle.laws_looks.specs.Calm.{Names, Restful}

-- a pending call is on this link
pub record Awaits {V : Type 0} (w : World V) (call : Call) (x : Link) : Type 0 where
  pub restful : Restful w
  pub who : ℕ
  pub pends : Pends w who call
  pub number : ℕ
  pub named : named_by call ≡ Some number
  pub link : ℕ
  pub names : Names w number link
  pub there : look w.links link ≡ Some x

-- A receive whose top fits it; a handshake and a detach that need bytes, the detach of layers that have short lengths and terminators.
pub record NeedsAreShort (V : Type 0) : Type 0 where
  pub receives : (w : World V) (call : Call) (x : Link) (want : Want) → Awaits w call x → asked call ≡ Some want → IsStanding x.stack.layers → FitsTop want x.stack.layers → length x.stack.unread < need want x.stack
  pub greets : (w : World V) (call : Call) (x : Link) → Awaits w call x → is_handshake (word_of call) ≡ true → needs_head x.stack ≡ true → length x.stack.unread < head_need
  pub leaves : (w : World V) (call : Call) (x : Link) (parting : Parting) → Awaits w call x → parting_of call ≡ Some parting → IsDroppable x.stack.layers → is_sent x.stack ≡ true → length x.stack.unread < parting_need
