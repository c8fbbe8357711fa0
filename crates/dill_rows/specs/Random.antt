-- Worked runs in which each random number is another one: which frame of a WebSocket client takes which number.
use Rattle.std.specs.Prelude.{◌≡◌, true, ℕ, zero, ◌+◌, ◌*◌, List, [], ◌∷◌, length, replicate, Bool, false, None, codes}
use Rattle.rand_core.specs.Stream.{Stream}
use Rattle.dill_base.specs.declared.deadline.Deadline.TheVariants.{Never, At}
use Rattle.dill_calls.specs.declared.call.Call.TheVariants as calls
use Rattle.dill_calls.specs.declared.lists.Arg.TheVariants.{Show}
use Rattle.dill_kernel.specs.declared.replies.KernelReply.{KernelReply}
use Rattle.dill_kernel.specs.declared.replies.KernelReply.TheVariants.{Woke, Done, NotYet, Came, Took}
use Rattle.dill_calls.specs.declared.ran.LackPlace.TheVariants.{Entry}
use Rattle.dill_drive.specs.Play.{Playing, Lack, play, opening}
use Rattle.dill_rules.specs.State.{State, opening_state}
use Rattle.dill_drive.specs.ByRules.{machine_of}
use Rattle.dill_rows.specs.Stories.{tells}
use Rattle.dill_rows.specs.Play.{Does, Tries, Text, Play, playing, first_of}
use Rattle.dill_rows.specs.Playing.{plain, nth, idle, place, connected}
use Rattle.dill_rows.specs.Runs.{Run, listed, run_within, begun, does, text}

-- random numbers that count: all four bytes of the first are 1, of the second 2
abbrev pub counting : Stream
counting = record { u32_after = λ calls. (length calls + 1) * 16843009; u64_after = λ calls. 0; bytes_after = λ calls n. replicate n 0 }

-- traced, over a list of replies, with these numbers
abbrev pub counted : List KernelReply → ℕ → (ℕ → List ℕ → Text) → Run Play (List KernelReply)
counted replies steps table = run_within (playing table) listed true 1000000000 steps (begun (first_of (table 0 [])) counting replies)

-- two clients, an end over the first, which is left, and a message of the second
abbrev pub ends_first : ℕ → List ℕ → Text
ends_first program args = plain 0 (Does (calls.TcpConnect (place 9) Never) ∷ Does (calls.TcpConnect (place 9) Never) ∷ Does (calls.WsAttachNohttp 1 true true) ∷ Does (calls.TermAttach 3 (codes "bye")) ∷ Does (calls.WsAttachNohttp 2 true true) ∷ Tries (calls.TermDetach 4 Never) ∷ Does (calls.Msend 5 (codes "hi") Never) ∷ [])

-- the same with a close frame
abbrev pub closes_first : ℕ → List ℕ → Text
closes_first program args = plain 0 (Does (calls.TcpConnect (place 9) Never) ∷ Does (calls.TcpConnect (place 9) Never) ∷ Does (calls.WsAttachNohttp 1 true true) ∷ Does (calls.WsAttachNohttp 2 true true) ∷ Tries (calls.WsDetach 3 0 [] Never) ∷ Does (calls.Msend 4 (codes "hi") Never) ∷ [])

-- two links, and what a detach over the first sends and meets: a ping, and a text that isn't UTF-8
abbrev pub spoilt : ℕ → ℕ → List KernelReply
spoilt first second = connected (idle 0 ∷ Done ∷ Done ∷ idle 0 ∷ Took first ∷ Came (137 ∷ 0 ∷ 129 ∷ 1 ∷ 128 ∷ []) ∷ idle 0 ∷ Took second ∷ [])

-- A detach that fails by what it read has answered the ping before it: that pong has used up its number. Behind a close frame no ping is answered.
pub record FailedDetachNumbers : Type 0 where
  pub ponged : does (counted (spoilt 9 8) 60 ends_first) (codes "1 start =0" ∷ codes "1 tcp_connect =1" ∷ codes "1 tcp_connect =2" ∷ codes "moved 1 3" ∷ codes "1 ws_attach_nohttp =3" ∷ codes "moved 3 4" ∷ codes "1 term_attach =4" ∷ codes "moved 2 5" ∷ codes "1 ws_attach_nohttp =5" ∷ codes "freed 4" ∷ codes "1 term_detach EPROTO" ∷ codes "1 msend =0" ∷ codes "1 end ok" ∷ codes "freed 5" ∷ codes "summary status=0 errno=none turns=8 rounds=5 closing=0 made=5 gone=5 lacks=0" ∷ []) (codes "wait 0" ∷ codes "wait 0" ∷ codes "connect 1" ∷ codes "finish 1" ∷ codes "wait 0" ∷ codes "connect 2" ∷ codes "finish 2" ∷ codes "wait 0" ∷ codes "write 1 #9:818301010101637864" ∷ codes "read 1" ∷ codes "wait 0" ∷ codes "close 1" ∷ codes "write 2 #8:8182030303036b6a" ∷ codes "close 2" ∷ []) ≡ true
  pub not_ponged : does (counted (spoilt 6 8) 60 closes_first) (codes "1 start =0" ∷ codes "1 tcp_connect =1" ∷ codes "1 tcp_connect =2" ∷ codes "moved 1 3" ∷ codes "1 ws_attach_nohttp =3" ∷ codes "moved 2 4" ∷ codes "1 ws_attach_nohttp =4" ∷ codes "freed 3" ∷ codes "1 ws_detach EPROTO" ∷ codes "1 msend =0" ∷ codes "1 end ok" ∷ codes "freed 4" ∷ codes "summary status=0 errno=none turns=7 rounds=5 closing=0 made=4 gone=4 lacks=0" ∷ []) (codes "wait 0" ∷ codes "wait 0" ∷ codes "connect 1" ∷ codes "finish 1" ∷ codes "wait 0" ∷ codes "connect 2" ∷ codes "finish 2" ∷ codes "wait 0" ∷ codes "write 1 #6:888001010101" ∷ codes "read 1" ∷ codes "wait 0" ∷ codes "close 1" ∷ codes "write 2 #8:8182020202026a6b" ∷ codes "close 2" ∷ []) ≡ true

-- a message is received, and one is sent
abbrev pub receives_first : ℕ → List ℕ → Text
receives_first program args = plain 0 (Does (calls.TcpConnect (place 9) Never) ∷ Does (calls.WsAttachNohttp 1 true true) ∷ Does (calls.Mrecv 2 9 Never) ∷ Does (calls.Msend 2 (codes "x") Never) ∷ [])

-- one receives while another sends
abbrev pub receives_beside : ℕ → List ℕ → Text
receives_beside zero args = plain 0 (Does (calls.TcpConnect (place 9) Never) ∷ Does (calls.WsAttachNohttp 1 true true) ∷ Does (calls.Go 1 (Show 2 ∷ [])) ∷ Does (calls.Msleep (At 5)) ∷ Does (calls.Msend 2 (codes "x") Never) ∷ [])
receives_beside program args = plain 1 (Does (calls.Mrecv (nth args 0) 9 Never) ∷ [])

-- only this is ready
abbrev pub told : (read write : Bool) → KernelReply
told read write = Woke 5 (record { link = 1; read = read; write = write } ∷ [])

-- A pong takes the place of one that hasn't begun to go, which has used up its number, and goes before what was queued after that one.
pub record ReplacedPongs : Type 0 where
  pub replaced : does (counted (connected (idle 0 ∷ Came (137 ∷ 1 ∷ 1 ∷ 137 ∷ 1 ∷ 2 ∷ 129 ∷ 1 ∷ 97 ∷ []) ∷ idle 0 ∷ Took 7 ∷ idle 0 ∷ Took 7 ∷ [])) 60 receives_first) (codes "1 start =0" ∷ codes "1 tcp_connect =1" ∷ codes "moved 1 2" ∷ codes "1 ws_attach_nohttp =2" ∷ codes "1 mrecv #1:61" ∷ codes "1 msend =0" ∷ codes "1 end ok" ∷ codes "freed 2" ∷ codes "summary status=0 errno=none turns=5 rounds=5 closing=0 made=2 gone=2 lacks=0" ∷ []) (codes "wait 0" ∷ codes "wait 0" ∷ codes "connect 1" ∷ codes "finish 1" ∷ codes "wait 0" ∷ codes "read 1" ∷ codes "wait 0" ∷ codes "write 1 #7:8a810202020200" ∷ codes "wait 0" ∷ codes "write 1 #7:8181030303037b" ∷ codes "close 1" ∷ []) ≡ true
  pub in_place : does (counted (connected (idle 0 ∷ Came (137 ∷ 1 ∷ 1 ∷ []) ∷ idle 0 ∷ NotYet ∷ NotYet ∷ idle 5 ∷ idle 5 ∷ NotYet ∷ told true false ∷ Came (137 ∷ 1 ∷ 2 ∷ []) ∷ idle 5 ∷ NotYet ∷ told false true ∷ Took 7 ∷ idle 5 ∷ Took 7 ∷ [])) 70 receives_beside) (codes "1 start =0" ∷ codes "1 tcp_connect =1" ∷ codes "moved 1 2" ∷ codes "1 ws_attach_nohttp =2" ∷ codes "1 go =3" ∷ codes "2 start =0" ∷ codes "1 msleep =0" ∷ codes "1 msend =0" ∷ codes "1 end ok" ∷ codes "2 mrecv ECANCELED" ∷ codes "2 end ECANCELED" ∷ codes "freed 3" ∷ codes "freed 2" ∷ codes "summary status=0 errno=none turns=8 rounds=10 closing=0 made=3 gone=3 lacks=0" ∷ []) (codes "wait 0" ∷ codes "wait 0" ∷ codes "connect 1" ∷ codes "finish 1" ∷ codes "wait 0" ∷ codes "read 1" ∷ codes "wait 0" ∷ codes "write 1 #7:8a810101010100" ∷ codes "read 1" ∷ codes "wait until 5" ∷ codes "wait 0" ∷ codes "write 1 #7:8a810101010100" ∷ codes "wait" ∷ codes "read 1" ∷ codes "wait 0" ∷ codes "read 1" ∷ codes "wait" ∷ codes "write 1 #7:8a810303030301" ∷ codes "wait 0" ∷ codes "write 1 #7:8181020202027a" ∷ codes "close 1" ∷ []) ≡ true

-- an end over a client of WebSocket, which is left, and a message behind it
abbrev pub leaves_end : ℕ → List ℕ → Text
leaves_end program args = plain 0 (Does (calls.TcpConnect (place 9) Never) ∷ Does (calls.WsAttachNohttp 1 true true) ∷ Does (calls.TermAttach 2 (codes "bye")) ∷ Does (calls.TermDetach 3 Never) ∷ Does (calls.Msend 4 (codes "hi") Never) ∷ [])

-- A detach isn't kept waiting by the pong that it queued: it is handed back with the stack, and goes before the next message.
pub record HandedBackPong : Type 0 where
  pub run : does (counted (connected (idle 0 ∷ Took 9 ∷ Came (137 ∷ 0 ∷ 129 ∷ 3 ∷ codes "bye") ∷ idle 0 ∷ Took 6 ∷ idle 0 ∷ Took 8 ∷ [])) 60 leaves_end) (codes "1 start =0" ∷ codes "1 tcp_connect =1" ∷ codes "moved 1 2" ∷ codes "1 ws_attach_nohttp =2" ∷ codes "moved 2 3" ∷ codes "1 term_attach =3" ∷ codes "moved 3 4" ∷ codes "1 term_detach =4" ∷ codes "1 msend =0" ∷ codes "1 end ok" ∷ codes "freed 4" ∷ codes "summary status=0 errno=none turns=6 rounds=5 closing=0 made=4 gone=4 lacks=0" ∷ []) (codes "wait 0" ∷ codes "wait 0" ∷ codes "connect 1" ∷ codes "finish 1" ∷ codes "wait 0" ∷ codes "write 1 #9:818301010101637864" ∷ codes "read 1" ∷ codes "wait 0" ∷ codes "write 1 #6:8a8002020202" ∷ codes "wait 0" ∷ codes "write 1 #8:8182030303036b6a" ∷ codes "close 1" ∷ []) ≡ true

-- calls that are refused, or refused memory, before a message goes
abbrev pub sends_at_last : ℕ → List ℕ → Text
sends_at_last program args = plain 0 (Does (calls.TcpConnect (place 9) Never) ∷ Tries (calls.WsAttachClient 1 true (codes "/") (codes "h") Never) ∷ Does (calls.WsAttachNohttp 1 true true) ∷ Tries (calls.Msend 2 (128 ∷ []) Never) ∷ Tries (calls.Msend 2 (codes "x") Never) ∷ Does (calls.Msend 2 (codes "x") Never) ∷ [])

-- a message that doesn't go in time, and one that does
abbrev pub sends_again : ℕ → List ℕ → Text
sends_again program args = plain 0 (Does (calls.TcpConnect (place 9) Never) ∷ Does (calls.WsAttachNohttp 1 true true) ∷ Tries (calls.Msend 2 (codes "x") (At 0)) ∷ Does (calls.Msend 2 (codes "x") Never) ∷ [])

-- a detach that can't send any more, and a message over another link
abbrev pub leaves_shut : ℕ → List ℕ → Text
leaves_shut program args = plain 0 (Does (calls.TcpConnect (place 9) Never) ∷ Does (calls.TcpConnect (place 9) Never) ∷ Does (calls.TcpDone 1 Never) ∷ Does (calls.WsAttachNohttp 1 true true) ∷ Does (calls.WsAttachNohttp 2 true true) ∷ Tries (calls.WsDetach 3 0 [] Never) ∷ Does (calls.Msend 4 (codes "x") Never) ∷ [])

-- the story of a run with these numbers, over replies and refusals of memory
abbrev pub counted_story : ℕ → (ℕ → List ℕ → Text) → List KernelReply → List Lack → Playing (State Play)
counted_story steps table replies lacks = play (machine_of (playing table)) true 1000000000 steps (opening (machine_of (playing table)) true 1000000000 (opening_state (first_of (table 0 [])) counting) counting replies lacks None)

-- A call that is refused, or refused memory, takes no number, and neither does a detach that can't send; a frame that was queued has used up its own, gone or not.
pub record NumbersTaken : Type 0 where
  pub refused : tells (counted_story 120 sends_at_last (connected (idle 0 ∷ Took 7 ∷ [])) ((2, Entry) ∷ (5, Entry) ∷ [])) (text (codes "1 start =0" ∷ codes "1 tcp_connect =1" ∷ codes "1 ws_attach_client ENOMEM" ∷ codes "moved 1 2" ∷ codes "1 ws_attach_nohttp =2" ∷ codes "1 msend EINVAL" ∷ codes "1 msend ENOMEM" ∷ codes "1 msend =0" ∷ codes "1 end ok" ∷ codes "freed 2" ∷ codes "summary status=0 errno=none turns=7 rounds=3 closing=0 made=2 gone=2 lacks=2" ∷ [])) (codes "wait 0" ∷ codes "wait 0" ∷ codes "connect 1" ∷ codes "finish 1" ∷ codes "wait 0" ∷ codes "write 1 #7:81810101010179" ∷ codes "close 1" ∷ []) ≡ true
  pub late : does (counted (connected (idle 0 ∷ NotYet ∷ idle 0 ∷ Took 7 ∷ [])) 50 sends_again) (codes "1 start =0" ∷ codes "1 tcp_connect =1" ∷ codes "moved 1 2" ∷ codes "1 ws_attach_nohttp =2" ∷ codes "1 msend ETIMEDOUT" ∷ codes "1 msend =0" ∷ codes "1 end ok" ∷ codes "freed 2" ∷ codes "summary status=0 errno=none turns=5 rounds=4 closing=0 made=2 gone=2 lacks=0" ∷ []) (codes "wait 0" ∷ codes "wait 0" ∷ codes "connect 1" ∷ codes "finish 1" ∷ codes "wait 0" ∷ codes "write 1 #7:81810101010179" ∷ codes "wait 0" ∷ codes "write 1 #7:8181020202027a" ∷ codes "close 1" ∷ []) ≡ true
  pub shut : does (counted (connected (idle 0 ∷ Done ∷ Done ∷ idle 0 ∷ Done ∷ idle 0 ∷ Took 7 ∷ [])) 60 leaves_shut) (codes "1 start =0" ∷ codes "1 tcp_connect =1" ∷ codes "1 tcp_connect =2" ∷ codes "1 tcp_done =0" ∷ codes "moved 1 3" ∷ codes "1 ws_attach_nohttp =3" ∷ codes "moved 2 4" ∷ codes "1 ws_attach_nohttp =4" ∷ codes "freed 3" ∷ codes "1 ws_detach EPIPE" ∷ codes "1 msend =0" ∷ codes "1 end ok" ∷ codes "freed 4" ∷ codes "summary status=0 errno=none turns=8 rounds=5 closing=0 made=4 gone=4 lacks=0" ∷ []) (codes "wait 0" ∷ codes "wait 0" ∷ codes "connect 1" ∷ codes "finish 1" ∷ codes "wait 0" ∷ codes "connect 2" ∷ codes "finish 2" ∷ codes "wait 0" ∷ codes "shut 1" ∷ codes "wait 0" ∷ codes "close 1" ∷ codes "write 2 #7:81810101010179" ∷ codes "close 2" ∷ []) ≡ true
