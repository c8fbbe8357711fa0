-- Worked runs of WebSocket handshakes: a client's session, and heads that are refused.
use Rattle.std.specs.Prelude.{◌≡◌, true, ℕ, List, [], ◌∷◌, ◌++◌, codes}
use Rattle.dill_base.specs.declared.deadline.Deadline.TheVariants.{Never}
use Rattle.dill_calls.specs.declared.call.Call.TheVariants as calls
use Rattle.dill_kernel.specs.declared.replies.KernelReply.TheVariants.{Done, Came, Took}
use Rattle.dill_stack.specs.HandshakeRows.{chat_answer}
use Rattle.relay_trace.specs.Lines.{sized}
use Rattle.dill_rows.specs.Play.{Does, Tries, Text}
use Rattle.dill_rows.specs.Playing.{plain, replayed, idle, place, connected}
use Rattle.dill_rows.specs.Runs.{does}
use Rattle.dill_rows.specs.Random.{counted}

-- a client's head whose key is four random numbers, and the answer to it
abbrev pub key_head : List ℕ
key_head = codes "GET / HTTP/1.1\r\nHost: h\r\nUpgrade: websocket\r\nConnection: Upgrade\r\nSec-WebSocket-Key: AQEBAQICAgIDAwMDBAQEBA==\r\nSec-WebSocket-Version: 13\r\n\r\n"

abbrev pub key_answer : List ℕ
key_answer = codes "HTTP/1.1 101 Switching Protocols\r\nUpgrade: websocket\r\nConnection: Upgrade\r\nSec-WebSocket-Accept: EwrXH5SFF6piM/adNMerpI8d1tI=\r\n\r\n"

abbrev pub dials : ℕ → List ℕ → Text
dials program args = plain 0 (Does (calls.TcpConnect (place 9) Never) ∷ Does (calls.WsAttachClient 1 true (codes "/") (codes "h") Never) ∷ Does (calls.Msend 2 (codes "x") Never) ∷ [])

abbrev pub dials_beside : ℕ → List ℕ → Text
dials_beside program args = plain 0 (Does (calls.TcpConnect (place 9) Never) ∷ Does (calls.TcpConnect (place 9) Never) ∷ Does (calls.WsAttachNohttp 2 true true) ∷ Tries (calls.WsAttachClient 1 true (codes "/") (codes "h") Never) ∷ Does (calls.Msend 3 (codes "x") Never) ∷ [])

-- A client's key is four random numbers, and its first frame takes the fifth; so does another link's where the server's answer is refused, and the stack is released.
pub record ClientSession : Type 0 where
  pub run : does (counted (connected (idle 0 ∷ Took 140 ∷ Came key_answer ∷ idle 0 ∷ Took 7 ∷ [])) 40 dials) (codes "1 start =0" ∷ codes "1 tcp_connect =1" ∷ codes "moved 1 2" ∷ codes "1 ws_attach_client =2" ∷ codes "1 msend =0" ∷ codes "1 end ok" ∷ codes "freed 2" ∷ codes "summary status=0 errno=none turns=4 rounds=4 closing=0 made=2 gone=2 lacks=0" ∷ []) (codes "wait 0" ∷ codes "wait 0" ∷ codes "connect 1" ∷ codes "finish 1" ∷ codes "wait 0" ∷ (codes "write 1 " ++ sized key_head) ∷ codes "read 1" ∷ codes "wait 0" ∷ codes "write 1 #7:8181050505057d" ∷ codes "close 1" ∷ []) ≡ true
  pub refused : does (counted (connected (idle 0 ∷ Done ∷ Done ∷ idle 0 ∷ Took 140 ∷ Came chat_answer ∷ idle 0 ∷ Took 7 ∷ [])) 50 dials_beside) (codes "1 start =0" ∷ codes "1 tcp_connect =1" ∷ codes "1 tcp_connect =2" ∷ codes "moved 2 3" ∷ codes "1 ws_attach_nohttp =3" ∷ codes "freed 1" ∷ codes "1 ws_attach_client EPROTO" ∷ codes "1 msend =0" ∷ codes "1 end ok" ∷ codes "freed 3" ∷ codes "summary status=0 errno=none turns=6 rounds=5 closing=0 made=3 gone=3 lacks=0" ∷ []) (codes "wait 0" ∷ codes "wait 0" ∷ codes "connect 1" ∷ codes "finish 1" ∷ codes "wait 0" ∷ codes "connect 2" ∷ codes "finish 2" ∷ codes "wait 0" ∷ (codes "write 1 " ++ sized key_head) ∷ codes "read 1" ∷ codes "wait 0" ∷ codes "close 1" ∷ codes "write 2 #7:8181050505057d" ∷ codes "close 2" ∷ []) ≡ true

abbrev pub refuses : ℕ → List ℕ → Text
refuses program args = plain 0 (Does (calls.TcpConnect (place 9) Never) ∷ Tries (calls.WsAttachServer 1 true Never) ∷ [])

-- A server that refuses a client's head sends nothing.
pub record RefusedHead : Type 0 where
  pub run : does (replayed (connected (idle 0 ∷ Came (codes "GET / HTTP/1.1\r\nHost: h\r\n\r\n") ∷ [])) 40 refuses) (codes "1 start =0" ∷ codes "1 tcp_connect =1" ∷ codes "freed 1" ∷ codes "1 ws_attach_server EPROTO" ∷ codes "1 end ok" ∷ codes "summary status=0 errno=none turns=3 rounds=3 closing=0 made=1 gone=1 lacks=0" ∷ []) (codes "wait 0" ∷ codes "wait 0" ∷ codes "connect 1" ∷ codes "finish 1" ∷ codes "wait 0" ∷ codes "read 1" ∷ codes "close 1" ∷ []) ≡ true
