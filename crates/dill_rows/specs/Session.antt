-- A worked run of a WebSocket server over one connection: a handshake, a text, fragments with a ping between them, and a frame that is refused.
use Rattle.std.specs.Prelude.{◌≡◌, true, ℕ, List, [], ◌∷◌, ◌++◌, codes}
use Rattle.dill_base.specs.declared.deadline.Deadline.TheVariants.{Never}
use Rattle.dill_calls.specs.declared.call.Call.TheVariants as calls
use Rattle.dill_kernel.specs.declared.replies.KernelReply.{KernelReply}
use Rattle.dill_kernel.specs.declared.replies.KernelReply.TheVariants.{Came, Took}
use Rattle.dill_stack.specs.HandshakeRows.{chat_head, chat_answer, hello_frame}
use Rattle.relay_trace.specs.Lines.{sized}
use Rattle.dill_rows.specs.Play.{Does, Tries, Text}
use Rattle.dill_rows.specs.Playing.{plain, replayed, idle, place, connected}
use Rattle.dill_rows.specs.Runs.{does}

abbrev pub serves : ℕ → List ℕ → Text
serves program args = plain 0 (Does (calls.TcpConnect (place 9) Never) ∷ Does (calls.WsAttachServer 1 true Never) ∷ Does (calls.Mrecv 2 64 Never) ∷ Does (calls.Mrecv 2 64 Never) ∷ Tries (calls.Mrecv 2 64 Never) ∷ Tries (calls.Mrecv 2 64 Never) ∷ Does (calls.Msend 2 (codes "x") Never) ∷ [])

-- the client's head and a first frame, the fragments, and the frame that is refused, with what the server's writes are told
abbrev pub session_replies : List KernelReply
session_replies = connected (idle 0 ∷ Came (chat_head ++ hello_frame) ∷ idle 0 ∷ Took 129 ∷ idle 0 ∷ Came (1 ∷ 131 ∷ 0 ∷ 0 ∷ 0 ∷ 0 ∷ codes "Hel") ∷ idle 0 ∷ Came (137 ∷ 128 ∷ 0 ∷ 0 ∷ 0 ∷ 0 ∷ []) ∷ idle 0 ∷ Took 2 ∷ Came (128 ∷ 130 ∷ 0 ∷ 0 ∷ 0 ∷ 0 ∷ codes "lo") ∷ idle 0 ∷ Came (129 ∷ 254 ∷ 0 ∷ []) ∷ idle 0 ∷ Came (5 ∷ []) ∷ idle 0 ∷ Took 3 ∷ [])

-- The head and a first frame come in one piece, each fragment in a piece of its own, and a longer form of a length is refused at its last byte. The other direction is whole.
pub record WebsocketSession : Type 0 where
  pub run : does (replayed session_replies 60 serves) (codes "1 start =0" ∷ codes "1 tcp_connect =1" ∷ codes "moved 1 2" ∷ codes "1 ws_attach_server =2" ∷ codes "1 mrecv #5:48656c6c6f" ∷ codes "1 mrecv #5:48656c6c6f" ∷ codes "1 mrecv EPROTO" ∷ codes "1 mrecv ECONNRESET" ∷ codes "1 msend =0" ∷ codes "1 end ok" ∷ codes "freed 2" ∷ codes "summary status=0 errno=none turns=8 rounds=10 closing=0 made=2 gone=2 lacks=0" ∷ []) (codes "wait 0" ∷ codes "wait 0" ∷ codes "connect 1" ∷ codes "finish 1" ∷ codes "wait 0" ∷ codes "read 1" ∷ codes "wait 0" ∷ (codes "write 1 " ++ sized chat_answer) ∷ codes "wait 0" ∷ codes "read 1" ∷ codes "wait 0" ∷ codes "read 1" ∷ codes "wait 0" ∷ codes "write 1 #2:8a00" ∷ codes "read 1" ∷ codes "wait 0" ∷ codes "read 1" ∷ codes "wait 0" ∷ codes "read 1" ∷ codes "wait 0" ∷ codes "write 1 #3:810178" ∷ codes "close 1" ∷ []) ≡ true
