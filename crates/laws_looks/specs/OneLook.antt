-- Where settling needs no look, or one look of one coroutine before it.
use Rattle.std.specs.Prelude.{◌≡◌, ℕ, true, find, Option, Some, None}
use Rattle.dill_base.specs.Maps.{if_some}
use Rattle.dill_calls.specs.declared.call.Call.{Call}
use Rattle.dill_calls.specs.CallTable.{word_of, named_by}
use Rattle.dill_calls.specs.CallTable as table
use Rattle.dill_calls.specs.Program.{Program}
use Rattle.dill_calls.specs.declared.ran.LackPlace.{LackPlace}
use Rattle.dill_kernel.specs.declared.replies.KernelAsk.{KernelAsk}
use Rattle.dill_kernel.specs.declared.replies.KernelAsk.TheVariants as asks
use Rattle.dill_kernel.specs.declared.replies.KernelReply.{KernelReply}
use Rattle.dill_rules.specs.declared.coroutine.Coroutine.{Coroutine}
use Rattle.dill_rules.specs.World.{World, coroutine_of, is_answered, pending_call, begin}
use Rattle.dill_rules.specs.Links.{Link, look}
use Rattle.dill_rules.specs.Sockets.{link_number}
use Rattle.dill_rules.specs.Directions.{is_handshake}
use Rattle.dill_rules.specs.Owning.{take}
use Rattle.dill_rules.specs.Refusals.{refuse}
use Rattle.dill_rules.specs.LinkAnswers.{reads}
use Rattle.dill_rules.specs.Answers.{answer_of}
use Rattle.dill_rules.specs.Linking.{enter_receive, enter_handshake, dropped_for, begin_giving_up}
use Rattle.dill_rules.specs.Entering.{keep_for}
use Rattle.dill_rules.specs.Turning.{resume, go_on}
use Rattle.dill_rules.specs.Hearing.{heard}
use Rattle.dill_rules.specs.Trying.{Try}
use Rattle.dill_rules.specs.Settling.{can_finish, settle}
use Rattle.dill_rules.specs.Lookless.{settle_lookless, look_once}
use Rattle.laws_queue.specs.Kept.{Kept, kept_late, root_closed}
use Rattle.laws_sound.specs.Order.{IsInOrder}
use Rattle.laws_sound.specs.Orderly.{IsOrderly}
use Rattle.laws_looks.specs.Readers.{In, Pends, LooksApart}
use Rattle.laws_looks.specs.Calm.{Spent, Names, Restful, IsCalm}

module _ {V : Type 0} where
  -- Nothing is due but of this coroutine, and no look of another finds anything.
  pub record StirsOne (w : World V) (who : ℕ) : Type 0 where
    pub endings : find (can_finish w) w.coroutines ≡ None
    pub waits : (c : Coroutine V) (call : Call) → In c w.coroutines → (c.number ≡ who → ⊥) → pending_call c.mode ≡ Some call → answer_of w c.number call ≡ None
    pub calm : (other : ℕ) (call : Call) (n l : ℕ) (x : Link) → Pends w other call → (other ≡ who → ⊥) → reads call ≡ true → named_by call ≡ Some n → Names w n l → look w.links l ≡ Some x → Spent call x.stack

  -- nobody but this coroutine looks at the stack of a link
  abbrev pub LooksAt : World V → ℕ → ℕ → Type 0
  LooksAt w link who = (other : ℕ) (call : Call) (n : ℕ) → Pends w other call → reads call ≡ true → named_by call ≡ Some n → link_number w n ≡ Some link → other ≡ who

-- Where no look finds anything, none is needed: so it is with what expires, and as the root closes. Where one coroutine
-- stirs, its look is the only one, and may go before all else.
pub record OneLookSettles (V : Type 0) : Type 0 where
  pub rests : (w : World V) → Restful w → settle w ≡ settle_lookless w
  pub expires : (k : Kept V) → Restful k.world → settle (kept_late k).world ≡ settle_lookless (kept_late k).world
  pub shuts : (k : Kept V) → Restful k.world → settle (root_closed k.world) ≡ settle_lookless (root_closed k.world)
  pub stirs : (w : World V) (who : ℕ) → IsInOrder w → LooksApart w → StirsOne w who → settle w ≡ settle_lookless (look_once w who)

-- the link whose stack is asked for
abbrev pub asked_link : KernelAsk → Option ℕ
asked_link (asks.Write link bytes) = Some link
asked_link (asks.Shut link) = Some link
asked_link (asks.Read link size) = Some link
asked_link _ = None

-- So it is behind each reply of the kernel: one look of whoever looks at the stack that was asked for, before all else, is enough.
pub record OneLookHears (V : Type 0) : Type 0 where
  pub hears : (w : World V) (x : Try) (said : Option KernelReply) (who : ℕ) → IsInOrder w → IsCalm w → ((link : ℕ) → asked_link x.ask ≡ Some link → LooksAt w link who) → settle (heard w x said) ≡ settle_lookless (look_once (heard w x said) who)

module _ {V : Type 0} where
  -- the caller goes on, and its call keeps the numbers that it draws
  abbrev pub called : World V → ℕ → V → Call → World V
  called w who view call = keep_for (resume w who view) call

  -- a call that gives a stack up, or a handshake, takes its number
  abbrev pub taken_for : World V → ℕ → Call → World V
  taken_for w who call = dropped_for (if_some (named_by call) w (λ number. take w number who)) call

-- And so it is as a call is entered that looks at its stack: a receive, a handshake, or a detach or `tcp_close` that isn't
-- over at once. The look of the caller, before all else, is enough.
pub record OneLookEnters {V : Type 0} (p : Program V) : Type 0 where
  pub receives : (w : World V) (who : ℕ) (view : V) (call : Call) (v : World V) → v ≡ enter_receive (called w who view call) who call → IsInOrder w → IsCalm w
      → IsInOrder v → LooksApart v → settle v ≡ settle_lookless (look_once v who)
  pub handshakes : (w : World V) (who : ℕ) (view : V) (call : Call) (v : World V) → v ≡ enter_handshake (called w who view call) who call → IsInOrder w → IsCalm w
      → refuse p (resume w who view) who view call ≡ None → is_handshake (word_of call) ≡ true → IsInOrder v → LooksApart v → settle v ≡ settle_lookless (look_once v who)
  pub gives_up : (w : World V) (who : ℕ) (view : V) (call : Call) (v : World V) → v ≡ begin_giving_up (taken_for (called w who view call) who call) who call → IsInOrder w → IsCalm w
      → refuse p (resume w who view) who view call ≡ None → table.gives_up (word_of call) ≡ true → IsInOrder v → LooksApart v → settle v ≡ settle_lookless (look_once v who)

-- So in a turn, whatever is called: one look of its coroutine, before all else, is enough.
pub record OneLookTurns {V : Type 0} (p : Program V) : Type 0 where
  pub turns : (lack : Option LackPlace) (w : World V) (who : ℕ) (c : Coroutine V) (v : World V) → v ≡ go_on p lack (begin w) who c.body → IsOrderly w → IsCalm w
      → coroutine_of w who ≡ Some c → is_answered c.mode ≡ true → settle v ≡ settle_lookless (look_once v who)
