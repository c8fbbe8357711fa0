-- The answer from scratch of a call on a link: a broken direction, what was sent, and what the stack reads.
use Rattle.std.specs.Prelude.{Bool, true, false, not, ◌&&◌, ◌||◌, Option, Some, None, if◌then◌else◌}
use Rattle.rand_core.specs.Stream.{Stream}
use Rattle.dill_base.specs.declared.errno.Errno.TheVariants.{Econnreset}
use Rattle.dill_calls.specs.declared.answer.Answer.{Answer}
use Rattle.dill_calls.specs.declared.answer.Answer.TheVariants.{Number, Fault}
use Rattle.dill_calls.specs.declared.call.Call.{Call}
use Rattle.dill_calls.specs.declared.word.Word.{Word}
use Rattle.dill_calls.specs.declared.word.Word.TheVariants as words
use Rattle.dill_calls.specs.CallTable.{word_of, gives_up, named_by}
use Rattle.dill_stack.specs.declared.want.ReadOut.{ReadOut}
use Rattle.dill_stack.specs.declared.want.ReadOut.TheVariants as outs
use Rattle.dill_stack.specs.Interface.{Held, Looked, Heard, greeted, is_broken, is_sent, read, detach_finish, drop_unread, has_ended}
use Rattle.dill_base.specs.Maps.{if_some}
use Rattle.dill_rules.specs.Links.{Link}
use Rattle.dill_rules.specs.World.{World}
use Rattle.dill_rules.specs.Directions.{is_send, is_receive, is_handshake, asked, parting_of}
use Rattle.dill_rules.specs.Naming.{uses_link}
use Rattle.dill_rules.specs.Sockets.{link_named}

abbrev pub is_tcp_done : Word → Bool
is_tcp_done words.TcpDone = true
is_tcp_done _ = false

abbrev pub is_tcp_close : Word → Bool
is_tcp_close words.TcpClose = true
is_tcp_close _ = false

-- a look at a handshake draws no random number
abbrev pub heard_as : Stream → Heard → Looked
heard_as random h = record { stack = h.stack; said = h.said; random = random }

-- a look that finds nothing
abbrev pub still : Stream → Held → Looked
still random s = record { stack = s; said = outs.Need; random = random }

-- the look of a call at its stack, by its word: `tcp_close` drops all that is unread
abbrev pub look_by : Call → Stream → Held → Looked
look_by call random s = if is_handshake (word_of call) then heard_as random (greeted s)
    else (if is_tcp_close (word_of call) then still random (drop_unread s) else still random s)

-- a receive reads, and a detach drops
abbrev pub look_of : Call → Stream → Held → Looked
look_of call random s = if_some (asked call) (if_some (parting_of call) (look_by call random s) (λ parting. detach_finish random s)) (λ want. read want random s)

-- what a look answers
abbrev pub answer_said : ReadOut → Option Answer
answer_said (outs.Given answer) = Some answer
answer_said outs.Need = None
answer_said (outs.Fault e) = Some (Fault e)

-- the directions that a call uses are broken: a receive's, a send's, or one of both
abbrev pub is_broken_for : Word → Held → Bool
is_broken_for word s = if is_receive word then s.receiving.broken else (if is_send word then s.sending.broken else is_broken s)

-- 0 where a test holds
abbrev pub zero_when : Bool → Option Answer
zero_when test = if test then Some (Number 0) else None

-- a send once all of its item has gone, `tcp_done` once the `shut` was made, `tcp_close` once the peer has ended too, and else what the look says
abbrev pub whole_answer : Call → Stream → Link → Option Answer
whole_answer call random x = if is_tcp_done (word_of call) then zero_when x.shut
    else (if is_send (word_of call) then zero_when (is_sent x.stack)
    else (if is_tcp_close (word_of call) then zero_when (x.shut && has_ended x.stack)
    else answer_said (look_of call random x.stack).said))

-- a call that is answered by its stack
abbrev pub is_on_stack : Word → Bool
is_on_stack word = is_send word || (is_receive word || (is_handshake word || gives_up word))

-- the call looks at its stack: a receive, a handshake, a detach or `tcp_close`
abbrev pub reads : Call → Bool
reads call = is_on_stack (word_of call) && not (is_send (word_of call))

-- the call attaches a layer, and is answered at its entry
abbrev pub attaches : Word → Bool
attaches words.PrefixAttach = true
attaches words.SuffixAttach = true
attaches words.TermAttach = true
attaches words.HttpAttach = true
attaches words.WsAttachNohttp = true
attaches _ = false

-- a call of a link: it waits for one, is answered by its stack, or attaches a layer to it
abbrev pub is_of_link : Word → Bool
is_of_link word = uses_link word || (is_on_stack word || attaches word)

-- ECONNRESET before all else
abbrev pub stack_answer : Call → Stream → Link → Option Answer
stack_answer call random x = if is_broken_for (word_of call) x.stack then Some (Fault Econnreset) else whole_answer call random x

module _ {V : Type 0} where
  -- what a pending call on a link is answered by its stack
  abbrev pub link_answer : World V → Call → Option Answer
  link_answer w call = if is_on_stack (word_of call) then if_some (named_by call) None (λ number. if_some (link_named w number) None (stack_answer call w.random)) else None
