-- What the answer of a pending call does besides: a bundle is free, a stack is used, moved or released, and what was kept is given back.
use Rattle.std.specs.Prelude.{ℕ, ◌==◌, find, Bool, true, false, not, ◌&&◌, ◌||◌, if◌then◌else◌}
use Rattle.dill_base.specs.declared.errno.Errno.TheVariants as errnos
use Rattle.dill_calls.specs.declared.answer.Answer.{Answer}
use Rattle.dill_calls.specs.declared.answer.Answer.TheVariants.{Number, Fault}
use Rattle.dill_calls.specs.declared.call.Call.{Call}
use Rattle.dill_calls.specs.declared.call.Call.TheVariants as calls
use Rattle.dill_calls.specs.declared.word.Word.{Word}
use Rattle.dill_calls.specs.declared.word.Word.TheVariants as words
use Rattle.dill_calls.specs.CallTable.{word_of, gives_up, named_by}
use Rattle.dill_handles.specs.Handles as handles
use Rattle.dill_stack.specs.Interface.{Held, withdraw}
pub use Rattle.dill_stack.specs.Interface.{unmark_done as undone}
use Rattle.dill_base.specs.Maps.{if_some}
use Rattle.dill_rules.specs.Links as link
use Rattle.dill_rules.specs.Links.{Link, connector, as_closing, with_stack}
use Rattle.dill_rules.specs.World.{World, reply}
use Rattle.dill_rules.specs.Naming.{draws_of, links}
use Rattle.dill_rules.specs.Owning.{is_dead_as, move, release, free_bundle}
use Rattle.dill_rules.specs.Effects.{next_number}
use Rattle.dill_rules.specs.Directions.{is_send, is_receive, is_handshake}
use Rattle.dill_rules.specs.Sockets.{stack_of, on_link, on_named}
use Rattle.dill_rules.specs.Linking.{put, give_stack_up}
use Rattle.dill_rules.specs.LinkAnswers.{is_tcp_done, is_tcp_close, look_of}

-- the call was given up before it was done
abbrev pub is_given_up : Answer → Bool
is_given_up (Fault errnos.Ecanceled) = true
is_given_up (Fault errnos.Etimedout) = true
is_given_up answer = false

-- the answer of a receive comes from the bytes that are there
abbrev pub is_read : Answer → Bool
is_read (Fault errnos.Epipe) = true
is_read (Fault errnos.Eproto) = true
is_read (Fault errnos.Emsgsize) = true
is_read (Fault e) = false
is_read answer = true

-- the call wasn't done
abbrev pub is_fault : Answer → Bool
is_fault (Fault e) = true
is_fault answer = false

-- What an answer of a send does to its stack: one that is given up takes back what has not begun to go, and else breaks its direction; a `tcp_done` that fails leaves the direction not done, since it is done only where its `shut` was made. A link that fails takes nothing else back.
abbrev pub after_send : Word → Answer → Held → Held
after_send word answer s = if is_given_up answer then withdraw s else (if is_tcp_done word && is_fault answer then undone s else s)

-- a link whose `connect` this coroutine made, and whose `close` isn't due
abbrev pub is_connecting_for : ℕ → Link → Bool
is_connecting_for who x = not x.closing && if_some (connector x.sort) false (λ n. n == who)

module _ {V : Type 0} where
  -- the stack of a call after its look, and the random numbers that are left
  abbrev pub look_on : World V → Call → World V
  look_on w call =
      if_some (named_by call) w (λ number. if_some (stack_of w call) w (λ s. put w number ((look_of call w.random s).stack, (look_of call w.random s).random)))

  -- the answer of `hclose` of a bundle frees the bundle
  abbrev pub give_close : World V → ℕ → ℕ → Answer → World V
  give_close w who number answer = reply (if_some (find (is_dead_as number) w.closings) w (free_bundle w)) who words.Hclose answer

  -- a send is answered
  abbrev pub give_send : World V → ℕ → Call → Answer → World V
  give_send w who call answer =
      reply (if_some (named_by call) w (λ number. on_named w number (with_stack (after_send (word_of call) answer)))) who (word_of call) answer

  -- a receive uses bytes only where it is answered by them
  abbrev pub give_receive : World V → ℕ → Call → Answer → World V
  give_receive w who call answer = reply (if is_read answer then look_on w call else w) who (word_of call) answer

  -- the socket has a new number, which is the answer
  abbrev pub give_number : World V → ℕ → Call → ℕ → World V
  give_number w who call number = reply (move (look_on w call) number who) who (word_of call) (Number (next_number w))

  -- A handshake or a detach that succeeds answers a new number. Where the stack's read fails it, what that read passed and queued stays so.
  abbrev pub give_attached : World V → ℕ → Call → Answer → World V
  give_attached w who call (Fault e) = give_stack_up (if is_read (Fault e) then look_on w call else w) who call e (draws_of call)
  give_attached w who call answer = if_some (named_by call) (reply w who (word_of call) answer) (give_number w who call)

  -- `tcp_close` frees the socket, however it is answered
  abbrev pub give_closed : World V → ℕ → Call → Answer → World V
  give_closed w who call (Fault e) = give_stack_up w who call e 0
  give_closed w who call answer = reply (if_some (named_by call) w (release w)) who (word_of call) answer

  -- the number that was kept is given back, and so is the link, or the `close` of the link that was made is due
  abbrev pub forgo : World V → ℕ → World V
  forgo w who =
      let less = record w { handles = handles.unkeep w.handles 1 } in
      if_some (find (is_connecting_for who) w.links.all) (record less { links = link.unkeep w.links }) (λ x. on_link less x.number as_closing)

  -- a listen, an accept or a connect has an errno
  abbrev pub give_forgone : World V → ℕ → Call → Answer → World V
  give_forgone w who call answer = reply (forgo w who) who (word_of call) answer

  -- by the class of the call
  abbrev pub give_class : World V → ℕ → Call → Answer → World V
  give_class w who call answer = if is_send (word_of call) then give_send w who call answer
      else (if is_receive (word_of call) then give_receive w who call answer
      else (if is_tcp_close (word_of call) then give_closed w who call answer
      else (if is_handshake (word_of call) || gives_up (word_of call) then give_attached w who call answer
      else (if links (word_of call) then give_forgone w who call answer
      else reply w who (word_of call) answer))))

  -- a pending call is answered
  abbrev pub give : World V → ℕ → Call → Answer → World V
  give w who (calls.Hclose number) answer = give_close w who number answer
  give w who call answer = give_class w who call answer
