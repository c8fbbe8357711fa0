-- What the calls on links do that aren't refused: what they queue, attach, begin, and that they are pending.
use Rattle.std.specs.Prelude.{ℕ, List, ◌++◌, Bool, true, false, Option, Some, None, Result, Ok, Err, if◌then◌else◌}
use Rattle.rand_core.specs.Stream.{Stream}
use Rattle.dill_base.specs.declared.errno.Errno.{Errno}
use Rattle.dill_base.specs.declared.errno.Errno.TheVariants.{Ecanceled}
use Rattle.dill_calls.specs.declared.answer.Answer.TheVariants.{Number, Fault}
use Rattle.dill_calls.specs.declared.call.Call.{Call}
use Rattle.dill_calls.specs.declared.call.Call.TheVariants as calls
use Rattle.dill_calls.specs.CallTable.{word_of, blocks, named_by}
use Rattle.dill_handles.specs.Handles as handles
use Rattle.dill_http.specs.Heads.{Said, line_of}
use Rattle.dill_http.specs.Lines.{crlf}
use Rattle.dill_stack.specs.declared.layer.Layer.{Layer}
use Rattle.dill_stack.specs.declared.parting.Parting.{Parting}
use Rattle.dill_stack.specs.Interface.{Held, frame, line, done, attach, expect_greet, greet, parting_fault, detach_start, drop_unread}
use Rattle.dill_base.specs.Maps.{if_some}
use Rattle.dill_rules.specs.Links as links
use Rattle.dill_rules.specs.Links.{heated, with_stack, reserved}
use Rattle.dill_rules.specs.World.{World, reply, pend}
use Rattle.dill_rules.specs.Owning.{take, move, release}
use Rattle.dill_rules.specs.Taking.{is_cancelled}
use Rattle.dill_rules.specs.Effects.{next_number}
use Rattle.dill_rules.specs.Directions.{message_of, line_said, is_first, is_end, asked, layer_of, parting_of}
use Rattle.dill_rules.specs.Sockets.{stack_of, on_named, put_stack}

-- what is done with a good result, or else d
abbrev pub if_ok : {A B : Type 0} → Result A Errno → B → (A → B) → B
if_ok (Ok x) d f = f x
if_ok (Err e) d f = d

-- a stack with the random numbers, of which none was drawn
abbrev pub with_random : Stream → Result Held Errno → Result (Held × Stream) Errno
with_random random (Ok s) = Ok (s, random)
with_random random (Err e) = Err e

-- a client's head is queued, and a server waits for one
abbrev pub greet_by : Call → Stream → Held → Result (Held × Stream) Errno
greet_by (calls.WsAttachClient number text resource host deadline) random s = greet text resource host random s
greet_by (calls.WsAttachServer number text deadline) random s = with_random random (expect_greet text s)
greet_by call random s = Ok (s, random)

module _ {V : Type 0} where
  -- the stack and the random numbers that are left
  abbrev pub put : World V → ℕ → Held × Stream → World V
  put w number now = record (put_stack w number now.0) { random = now.1 }

  -- the stack does what is asked of it
  abbrev pub ask_stack : World V → Call → (Stream → Held → Result (Held × Stream) Errno) → World V
  ask_stack w call f = if_some (named_by call) w (λ number. if_some (stack_of w call) w (λ s. if_ok (f w.random s) w (put w number)))

  -- these directions of the call's link are hot
  abbrev pub heat : World V → Call → (read write : Bool) → World V
  heat w call read write = if_some (named_by call) w (λ number. on_named w number (heated read write))

  -- a message is queued whole
  abbrev pub queue_message : World V → Call → List ℕ → World V
  queue_message w call m = ask_stack w call (λ random s. frame m random s)

  -- a line is queued with its CRLF
  abbrev pub queue_line : World V → Call → Said → World V
  queue_line w call said = ask_stack w call (λ random s. with_random random (line (is_first said) (line_of said ++ crlf) s))

  -- the sending direction ends
  abbrev pub queue_end : World V → Call → World V
  queue_end w call = ask_stack w call done

  -- what a send queues
  abbrev pub queue : World V → Call → World V
  queue w call = if_some (message_of call) (if_some (line_said call) (if is_end (word_of call) then queue_end w call else w) (queue_line w call)) (queue_message w call)

  -- a send, or an end
  abbrev pub enter_send : World V → ℕ → Call → World V
  enter_send w who call = pend (queue (heat w call false true) call) who call

  -- from the entry of a receive on there is room for what it may need
  abbrev pub reserve : World V → Call → World V
  reserve w call = if_some (named_by call) w (λ number. if_some (asked call) w (λ want. on_named w number (reserved want)))

  abbrev pub enter_receive : World V → ℕ → Call → World V
  enter_receive w who call = pend (heat (reserve w call) call true false) who call

  -- a listen, an accept or a connect keeps a link
  abbrev pub enter_link : World V → ℕ → Call → World V
  enter_link w who call = pend (heat (record w { links = links.keep w.links }) call true false) who call

  -- a layer stands on the call's stack
  abbrev pub put_layer : World V → Call → Layer → World V
  put_layer w call layer = ask_stack w call (λ random s. with_random random (attach layer s))

  -- a layer is attached, and the socket has a new number, which the caller owns
  abbrev pub attach_layer : World V → ℕ → Call → World V
  attach_layer w who call = if_some (named_by call) w (λ number. if_some (layer_of call) w (λ layer. move (put_layer w call layer) number who))

  -- the answer is the new number
  abbrev pub enter_attach : World V → ℕ → Call → World V
  enter_attach w who call = reply (attach_layer w who call) who (word_of call) (Number (next_number w))

  -- the errno with which a call that gives its stack up ends at once: the caller is cancelled, or the stack can't be left
  abbrev pub given_up_at_once : World V → ℕ → Call → Option Errno
  given_up_at_once w who call = if is_cancelled w who then Some Ecanceled else if_some (stack_of w call) None parting_fault

  -- the whole stack is released, and what the call kept is given back
  abbrev pub give_stack_up : World V → ℕ → Call → Errno → ℕ → World V
  give_stack_up w who call e kept =
      reply (if_some (named_by call) w (λ number. release (record w { handles = handles.unkeep w.handles kept }) number)) who (word_of call) (Fault e)

  -- a detach begins, and uses both directions where it may wait
  abbrev pub begin_detach : World V → ℕ → Call → Parting → World V
  begin_detach w who call parting = pend (heat (ask_stack w call (λ random s. detach_start parting random s)) call (blocks (word_of call)) (blocks (word_of call))) who call

  -- a detach, or `tcp_close`, which begins nothing on the stack
  abbrev pub begin_giving_up : World V → ℕ → Call → World V
  begin_giving_up w who call = if_some (parting_of call) (pend (heat w call true true) who call) (begin_detach w who call)

  -- `tcp_close` uses all that is unread from its entry on
  abbrev pub dropped_for : World V → Call → World V
  dropped_for w call = if_some (parting_of call) (if_some (named_by call) w (λ number. on_named w number (with_stack drop_unread))) (λ parting. w)

  -- the caller becomes the owner, and then the stack is given up at once, or the call is pending
  abbrev pub enter_giving_up : World V → ℕ → Call → ℕ → World V
  enter_giving_up w who call kept =
      let own = dropped_for (if_some (named_by call) w (λ number. take w number who)) call in
      if_some (given_up_at_once own who call) (begin_giving_up own who call) (λ e. give_stack_up own who call e kept)

  -- A handshake: the caller becomes the owner, the layer is on the stack from its entry, and both directions are used.
  abbrev pub enter_handshake : World V → ℕ → Call → World V
  enter_handshake w who call = pend (heat (ask_stack (if_some (named_by call) w (λ number. take w number who)) call (greet_by call)) call true true) who call
