-- The kinds of things, and which of them a call is for.
use Rattle.std.specs.Prelude.{ℕ, ◌==◌, Bool, false, not, ◌||◌, Option, Some, None, option_map, is_none}
use Rattle.std.specs.List.{list_any}
use Rattle.dill_calls.specs.declared.call.Call.{Call}
use Rattle.dill_calls.specs.declared.call.Call.TheVariants as calls
use Rattle.dill_calls.specs.CallTable.{named_by}
use Rattle.dill_stack.specs.declared.layer.Top.{Top}
use Rattle.dill_stack.specs.Interface.{top}
use Rattle.dill_base.specs.Maps.{if_some}
use Rattle.dill_rules.specs.declared.thing.Thing.{Thing}
use Rattle.dill_rules.specs.declared.thing.Thing.TheVariants as things
use Rattle.dill_rules.specs.Links.{look}
use Rattle.dill_rules.specs.World.{World}
use Rattle.dill_rules.specs.Directions.{kind_of_top, needs_top}
use Rattle.dill_rules.specs.Naming.{numbers_of, chosen}
use Rattle.dill_rules.specs.Owning.{entry_of}

-- the value of an application's handle, and 0 of every other
abbrev pub value_of : Thing → ℕ
value_of (things.Value kind value) = value
value_of thing = 0

-- the kind that a call needs of the handle that it names first
abbrev pub kind_needed : Call → Option ℕ
kind_needed (calls.Hquery number kind) = Some kind
kind_needed (calls.BundleGo number program args) = Some 1
kind_needed (calls.BundleWait number deadline) = Some 1
kind_needed (calls.Chsend number bytes deadline) = Some 2
kind_needed (calls.Chrecv number size deadline) = Some 2
kind_needed (calls.Chdone number) = Some 2
kind_needed (calls.TcpAccept number deadline) = Some 3
kind_needed (calls.TcpDone number deadline) = Some 4
kind_needed (calls.TcpClose number deadline) = Some 4
kind_needed (calls.Bsend number bytes deadline) = Some 4
kind_needed (calls.Brecv number size deadline) = Some 4
kind_needed (calls.PrefixAttach number size big) = Some 4
kind_needed (calls.SuffixAttach number bytes) = Some 4
kind_needed (calls.HttpAttach number) = Some 4
kind_needed (calls.WsAttachClient number text resource host deadline) = Some 4
kind_needed (calls.WsAttachServer number text deadline) = Some 4
kind_needed (calls.WsAttachNohttp number client text) = Some 4
kind_needed (calls.Msend number bytes deadline) = Some 5
kind_needed (calls.Mrecv number size deadline) = Some 5
kind_needed (calls.TermAttach number bytes) = Some 5
kind_needed _ = None

module _ {V : Type 0} where
  -- what stands on top of a link
  abbrev pub top_on : World V → ℕ → Option Top
  top_on w link = option_map (λ x. top x.stack) (look w.links link)

  -- 1 a bundle, 2 an end of a channel, 3 a listener, 4 to 6 a socket by its top; 256 and above an application's
  abbrev pub kind_of : World V → Thing → ℕ
  kind_of w (things.Bundle name) = 1
  kind_of w (things.End end) = 2
  kind_of w (things.Listener link) = 3
  kind_of w (things.Socket link) = if_some (top_on w link) 0 kind_of_top
  kind_of w (things.Value kind value) = kind

  abbrev pub is_of_kind : World V → ℕ → ℕ → Bool
  is_of_kind w kind number = if_some (entry_of w number) false (λ x. kind_of w x.thing == kind)

  -- a call on it is a call on a number that isn't live
  abbrev pub is_dead : World V → ℕ → Bool
  is_dead w number = is_none (entry_of w number)

  -- EBADF: one of the numbers isn't live
  abbrev pub names_dead : World V → Call → Bool
  names_dead w call = list_any (is_dead w) (numbers_of call)

  -- the handle that the call names first is of another kind
  abbrev pub is_other_kind : World V → Call → Bool
  is_other_kind w call = if_some (named_by call) false (λ number. if_some (kind_needed call) false (λ kind. not (is_of_kind w kind number)))

  -- the top of the stack passes a test
  abbrev pub has_top : World V → (Top → Bool) → Thing → Bool
  has_top w test (things.Socket link) = if_some (top_on w link) false test
  has_top w test thing = false

  -- the layer of the call doesn't stand on top
  abbrev pub is_other_top : World V → Call → Bool
  is_other_top w call = if_some (named_by call) false (λ number. if_some (needs_top call) false (λ test. if_some (entry_of w number) false (λ x. not (has_top w test x.thing))))

  -- ENOTSUP: a handle is of another kind than the call names
  abbrev pub names_other : World V → Call → Bool
  names_other w call = is_other_kind w call || (is_other_top w call || list_any (λ number. not (is_of_kind w 2 number)) (chosen call))
