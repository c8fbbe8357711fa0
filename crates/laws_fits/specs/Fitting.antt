-- What holds of the stack of each link between two steps: its layers stand, nothing is queued but for a pending call, and each pending call finds what it was entered with.
use Rattle.std.specs.Prelude.{◌≡◌, ℕ, ◌≤◌, List, length, Bool, true, false, not, ◌&&◌, ◌||◌, Option, Some, is_some}
use Rattle.rand_core.specs.Stream.{Stream}
use Rattle.dill_calls.specs.declared.call.Call.{Call}
use Rattle.dill_calls.specs.declared.ran.LackPlace.{LackPlace}
use Rattle.dill_calls.specs.CallTable.{word_of, named_by}
use Rattle.dill_calls.specs.Program.{Program, IsLawful}
use Rattle.dill_kernel.specs.declared.ready.Ready.{Ready}
use Rattle.dill_kernel.specs.declared.replies.KernelReply.{KernelReply}
use Rattle.dill_stack.specs.declared.parting.Parting.{Parting}
use Rattle.dill_stack.specs.declared.want.Want.{Want}
use Rattle.dill_stack.specs.declared.task.Task.{Task}
use Rattle.dill_stack.specs.declared.task.Task.TheVariants.{Greets, Expects, Answers, Leaves}
use Rattle.dill_stack.specs.Interface.{Held, is_sent, limit_of_want}
use Rattle.dill_stack.specs.Formed.{IsFormed}
use Rattle.dill_stack.specs.Layers.{IsStanding}
use Rattle.dill_stack.specs.Taking.{FitsTop}
use Rattle.dill_rules.specs.Directions.{is_send, is_handshake, asked, parting_of}
use Rattle.dill_rules.specs.LinkAnswers.{is_tcp_done}
use Rattle.dill_rules.specs.Links.{Link, look}
use Rattle.dill_rules.specs.Settling.{settle}
use Rattle.dill_rules.specs.Sockets.{link_number}
use Rattle.dill_rules.specs.World.{World, begin}
use Rattle.laws_queue.specs.Kept.{Kept, opening_kept, queued, kept_turn, kept_hear, kept_expire_next, kept_expired, kept_shut, kept_woke, lend_kept}
use Rattle.laws_queue.specs.Well.{IsWell}
use Rattle.laws_sound.specs.Orderly.{IsOrderly}
use Rattle.laws_looks.specs.Readers.{Pends, LooksApart}
use Rattle.laws_looks.specs.Calm.{Names}

-- a handshake goes on
abbrev pub is_greeting : Task → Bool
is_greeting (Greets accept) = true
is_greeting Expects = true
is_greeting Answers = true
is_greeting _ = false

abbrev pub shakes : Call → Bool
shakes call = is_handshake (word_of call)

-- the call may have an item of its own queued: a send but the end of a link, a handshake or a detach
abbrev pub queues : Call → Bool
queues call = is_send (word_of call) && not (is_tcp_done (word_of call)) || (shakes call || is_some (parting_of call))

-- Its layers stand on one another as they may and are of forms that an attach takes. Where its sending direction is broken, or a client's head is awaited, no item of a call is queued.
pub record IsSolid (s : Held) : Type 0 where
  pub standing : IsStanding s.layers
  pub formed : IsFormed s.layers
  pub broken : s.sending.broken ≡ true → is_sent s ≡ true
  pub expects : s.task ≡ Expects → is_sent s ≡ true

-- A pending receive has its top, and room for what it asks for; a handshake or a detach goes on.
pub record FitsCall (call : Call) (x : Link) : Type 0 where
  pub receives : (want : Want) → asked call ≡ Some want → (limit_of_want want ≤ x.most) × FitsTop want x.stack.layers
  pub greets : shakes call ≡ true → is_greeting x.stack.task ≡ true
  pub leaves : (parting : Parting) → parting_of call ≡ Some parting → (x.stack.task ≡ Leaves) × (1 ≤ length x.stack.layers)

module _ {V : Type 0} where
  -- a call that passes the test is pending on the link
  pub record Holds (w : World V) (test : Call → Bool) (link : ℕ) : Type 0 where
    pub who : ℕ
    pub call : Call
    pub number : ℕ
    pub pends : Pends w who call
    pub passes : test call ≡ true
    pub named : named_by call ≡ Some number
    pub linked : link_number w number ≡ Some link

  -- No link that a number names is closing. The stack of each link that isn't closing is solid, has an item of a call queued only where a call is pending on it that queues one, and awaits a client's head only where a handshake is; and each pending call fits its link.
  pub record IsFitting (w : World V) : Type 0 where
    pub «open» : (n l : ℕ) (x : Link) → Names w n l → look w.links l ≡ Some x → x.closing ≡ false
    pub solid : (l : ℕ) (x : Link) → look w.links l ≡ Some x → x.closing ≡ false → IsSolid x.stack
    pub sends : (l : ℕ) (x : Link) → look w.links l ≡ Some x → x.closing ≡ false → is_sent x.stack ≡ false → Holds w queues l
    pub expects : (l : ℕ) (x : Link) → look w.links l ≡ Some x → x.closing ≡ false → x.stack.task ≡ Expects → Holds w shakes l
    pub calls : (who : ℕ) (call : Call) (n l : ℕ) (x : Link) → Pends w who call → named_by call ≡ Some n → Names w n l → look w.links l ≡ Some x → FitsCall call x

-- so it is between two steps of programs that keep their law, whatever they call and whatever the kernel replies
pub record KeepsFitting {V : Type 0} (p : Program V) : Type 0 where
  pub opening : (view : V) → IsFitting (opening_kept view).world
  pub lent : (k : Kept V) (random : Stream) → IsFitting k.world → IsFitting (lend_kept k random).world
  pub turned : (k : Kept V) (lack : Option LackPlace) → IsWell p k → IsOrderly k.world → LooksApart k.world → IsFitting k.world → IsFitting (kept_turn p lack k).world
  pub hears : (k : Kept V) (said : Option KernelReply) → IsWell p k → IsOrderly k.world → LooksApart k.world → IsFitting k.world → IsFitting (kept_hear k said).world
  pub started : (k : Kept V) → IsFitting k.world → IsFitting (begin k.world)
  pub expires : (k : Kept V) (who : ℕ) → IsWell p k → IsOrderly k.world → LooksApart k.world → IsFitting k.world → IsFitting (kept_expire_next k who).world
  pub settled : (k : Kept V) → IsWell p k → IsOrderly k.world → LooksApart k.world → IsFitting k.world → IsFitting (queued (settle k.world) k.ready k.early).world
  pub expired : (k : Kept V) → IsWell p k → IsOrderly k.world → LooksApart k.world → IsFitting k.world → IsFitting (kept_expired k).world
  pub shut : (k : Kept V) → IsWell p k → IsOrderly k.world → LooksApart k.world → IsFitting k.world → IsFitting (kept_shut k).world
  pub woke : (k : Kept V) (told : ℕ) (ready : List Ready) → IsFitting k.world → IsFitting (kept_woke k told ready).world

abbrev pub StepsKeepFitting : {V : Type 0} → Program V → Type 0
StepsKeepFitting p = IsLawful p → KeepsFitting p
