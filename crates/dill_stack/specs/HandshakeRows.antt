-- Handshakes worked by hand, and a server's session behind one (RFC 6455, section 1.3).
use Rattle.std.specs.Prelude.{◌≡◌, ℕ, List, [], ◌∷◌, ◌++◌, true, false, map, take, Some, codes, length}
use Rattle.dill_base.specs.declared.errno.Errno.TheVariants.{Epipe, Econnreset, Eproto}
use Rattle.dill_stack.specs.declared.layer.Top.TheVariants as top
use Rattle.dill_stack.specs.declared.want.Want.TheVariants.{Message}
use Rattle.dill_stack.specs.declared.want.ReadOut.TheVariants.{Need, Fault}
use Rattle.dill_stack.specs.Held.{Held, opening, came, ended, top}
use Rattle.dill_stack.specs.Refusals.{read_fault}
use Rattle.dill_stack.specs.Sending.{offered, took}
use Rattle.dill_stack.specs.Attaching.{expect_greet}
use Rattle.dill_stack.specs.Greeting.{greet, greeted}
use Rattle.dill_stack.specs.RowTerms.{random, or_same, or_same_drawn, reads, said, bytes, zero_given, with_bytes, with_end_behind}

-- a client's head, and the server's answer to it
abbrev pub chat_head : List ℕ
chat_head = codes "GET /chat HTTP/1.1\r\nHost: h\r\nUpgrade: websocket\r\nConnection: keep-alive, Upgrade\r\nSec-WebSocket-Key: dGhlIHNhbXBsZSBub25jZQ==\r\nSec-WebSocket-Version: 13\r\n\r\n"

-- the server's answer
abbrev pub chat_answer : List ℕ
chat_answer = codes "HTTP/1.1 101 Switching Protocols\r\nUpgrade: websocket\r\nConnection: Upgrade\r\nSec-WebSocket-Accept: s3pPLMBiTxaQ9kYGzzhZRbK+xOo=\r\n\r\n"

-- the text `Hello`, masked
abbrev pub hello_frame : List ℕ
hello_frame = 129 ∷ 133 ∷ 55 ∷ 250 ∷ 33 ∷ 61 ∷ 127 ∷ 159 ∷ 77 ∷ 81 ∷ 88 ∷ []

-- the same in two fragments with a ping between them, masked with zeros
abbrev pub fragments : List ℕ
fragments = 1 ∷ 131 ∷ 0 ∷ 0 ∷ 0 ∷ 0 ∷ 72 ∷ 101 ∷ 108 ∷ 137 ∷ 128 ∷ 0 ∷ 0 ∷ 0 ∷ 0 ∷ 128 ∷ 130 ∷ 0 ∷ 0 ∷ 0 ∷ 0 ∷ 108 ∷ 111 ∷ []

-- a server that waits for a head, on which this came
abbrev pub expecting : List ℕ → Held
expecting u = or_same (with_bytes u) (expect_greet true (with_bytes u))

-- a client's head and a frame came in one piece; the server's head was queued, and went
abbrev pub heard : Held
heard = (greeted (expecting (chat_head ++ hello_frame))).stack

-- the whole of it has gone
abbrev pub answering : Held
answering = took 129 heard

-- the handshake is over
abbrev pub opened : Held
opened = (greeted answering).stack

-- the text was read
abbrev pub after_hello : Held
after_hello = reads (Message 64) opened

-- then the fragments came
abbrev pub with_fragments : Held
with_fragments = came fragments after_hello

-- they were read, and the pong has gone
abbrev pub after_fragments : Held
after_fragments = took 2 (reads (Message 64) with_fragments)

-- then the first n bytes of a frame whose length is not in its least form came
abbrev pub spoilt : ℕ → Held
spoilt n = came (take n (129 ∷ 254 ∷ 0 ∷ 5 ∷ [])) after_fragments

-- a server's handshake
pub record ServerRows : Type 0 where
  pub need : (greeted (expecting (chat_head ++ hello_frame))).said ≡ Need
  pub answer : offered heard ≡ chat_answer
  pub not_before : (greeted (took 128 heard)).said ≡ Need
  pub given : (greeted answering).said ≡ zero_given
  pub kept : opened.unread ≡ hello_frame

-- what is read behind it
pub record SessionRows : Type 0 where
  pub hello : said (Message 64) opened ≡ bytes (codes "Hello")
  pub joined : said (Message 64) with_fragments ≡ bytes (codes "Hello")
  pub pong : offered (reads (Message 64) with_fragments) ≡ 138 ∷ 0 ∷ []
  pub longer_form : map (λ n. said (Message 64) (spoilt n)) (3 ∷ 4 ∷ []) ≡ Need ∷ Fault Eproto ∷ []
  pub broken : read_fault (Message 64) false (reads (Message 64) (spoilt 4)) ≡ Some Econnreset

-- a server's handshake on which this came before the peer ended
abbrev pub expecting_end : List ℕ → Held
expecting_end u = or_same (with_end_behind u) (expect_greet true (with_end_behind u))

-- a client's handshake, whose head has gone
abbrev pub greeting : Held
greeting = or_same_drawn opening (greet true (codes "/") (codes "h") random opening)

-- the head has gone
abbrev pub greeting_sent : Held
greeting_sent = took (length (offered greeting)) greeting

-- the head that it sends
abbrev pub client_head : List ℕ
client_head = codes "GET / HTTP/1.1\r\nHost: h\r\nUpgrade: websocket\r\nConnection: Upgrade\r\nSec-WebSocket-Key: N/ohPTf6IT03+iE9N/ohPQ==\r\nSec-WebSocket-Version: 13\r\n\r\n"

-- heads that are cut, sent and refused
pub record HandshakeRows : Type 0 where
  pub cuts : map (λ n. (greeted (expecting_end (take n chat_head))).said) (0 ∷ 1 ∷ 20 ∷ 60 ∷ []) ≡ Fault Epipe ∷ Fault Eproto ∷ Fault Eproto ∷ Fault Eproto ∷ []
  pub sent : offered greeting ≡ client_head
  pub on_top : top greeting ≡ top.Ws
  pub not_sent : (greeted (came (codes "x") greeting)).said ≡ Need
  pub other_answer : (greeted (came chat_answer greeting_sent)).said ≡ Fault Eproto
  pub cut_answer : map (λ n. (greeted (ended (came (take n chat_answer) greeting_sent))).said) (0 ∷ 7 ∷ 100 ∷ []) ≡ Fault Epipe ∷ Fault Eproto ∷ Fault Eproto ∷ []
