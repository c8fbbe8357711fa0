-- WebSocket layers worked by hand (RFC 6455, section 5.7, and a session).
use Rattle.std.specs.Prelude.{◌≡◌, ℕ, List, [], ◌∷◌, ◌++◌, true, false, map, take, Some, codes}
use Rattle.dill_base.specs.declared.errno.Errno.TheVariants.{Einval, Epipe, Econnreset, Emsgsize, Eproto}
use Rattle.dill_ws.specs.declared.side.Side.TheVariants.{Client, Server}
use Rattle.dill_stack.specs.declared.layer.Layer.TheVariants as layer
use Rattle.dill_stack.specs.declared.want.Want.TheVariants.{Message}
use Rattle.dill_stack.specs.declared.want.ReadOut.{ReadOut}
use Rattle.dill_stack.specs.declared.want.ReadOut.TheVariants.{Need, Fault}
use Rattle.dill_stack.specs.declared.parting.Parting.TheVariants as parting
use Rattle.dill_stack.specs.Held.{Held, came}
use Rattle.dill_stack.specs.Refusals.{send_fault, read_fault, detach_fault}
use Rattle.dill_stack.specs.Sending.{offered, took}
use Rattle.dill_stack.specs.RowTerms.{attached, sends, leaves, reads, said, left, bytes, with_bytes, with_end_behind}

-- a server's layer on which this came, and the same where the peer then ended
abbrev pub server : List ℕ → Held
server u = attached (layer.Ws Server true) (with_bytes u)

-- the same, where the peer ended behind these bytes
abbrev pub server_end : List ℕ → Held
server_end u = attached (layer.Ws Server true) (with_end_behind u)

-- a client's layer on which this came
abbrev pub client : List ℕ → Held
client u = attached (layer.Ws Client true) (with_bytes u)

-- a masked frame of a text
abbrev pub hello_frame : List ℕ
hello_frame = 129 ∷ 133 ∷ 55 ∷ 250 ∷ 33 ∷ 61 ∷ 127 ∷ 159 ∷ 77 ∷ 81 ∷ 88 ∷ []

-- a fragment, a ping and the rest, masked with zeros
abbrev pub fragments : List ℕ
fragments = 1 ∷ 131 ∷ 0 ∷ 0 ∷ 0 ∷ 0 ∷ 72 ∷ 101 ∷ 108 ∷ 137 ∷ 128 ∷ 0 ∷ 0 ∷ 0 ∷ 0 ∷ 128 ∷ 130 ∷ 0 ∷ 0 ∷ 0 ∷ 0 ∷ 108 ∷ 111 ∷ []

-- two pings at a client
abbrev pub two_pings : List ℕ
two_pings = 137 ∷ 1 ∷ 1 ∷ 137 ∷ 1 ∷ 2 ∷ []

-- what a read of this stack answers after the end behind the first bytes of an item
abbrev pub cuts : List ℕ → List ℕ → List ReadOut
cuts item counts = map (λ n. said (Message 9) (server_end (take n item))) counts

-- what these layers answer, send and hold
pub record WsRows : Type 0 where
  -- the standard's text frame, both ways
  pub read_hello : said (Message 64) (server hello_frame) ≡ bytes (codes "Hello")
  pub sent_hello : offered (sends (codes "Hello") (client [])) ≡ hello_frame
  pub sent_plain : offered (sends (codes "Hello") (server [])) ≡ 129 ∷ 5 ∷ codes "Hello"
  pub no_text : send_fault (128 ∷ []) false (server []) ≡ Some Einval
  -- fragments are joined and pings answered
  pub joined : said (Message 64) (server fragments) ≡ bytes (codes "Hello")
  pub ponged : offered (reads (Message 64) (server fragments)) ≡ 138 ∷ 0 ∷ []
  pub kept : (reads (Message 64) (server (take 15 fragments))).unread ≡ []
  pub joined_later : said (Message 64) (came (128 ∷ 130 ∷ 0 ∷ 0 ∷ 0 ∷ 0 ∷ 108 ∷ 111 ∷ []) (reads (Message 64) (server (take 15 fragments)))) ≡ bytes (codes "Hello")
  pub short_later : read_fault (Message 2) false (reads (Message 64) (server (take 15 fragments))) ≡ Some Emsgsize
  pub last_pong : offered (reads (Message 64) (client two_pings)) ≡ 138 ∷ 129 ∷ 55 ∷ 250 ∷ 33 ∷ 61 ∷ 53 ∷ []
  -- refusals at the byte that shows them
  pub longer_form : map (λ n. said (Message 64) (server (take n (129 ∷ 254 ∷ 0 ∷ 5 ∷ [])))) (1 ∷ 2 ∷ 3 ∷ 4 ∷ []) ≡ Need ∷ Need ∷ Need ∷ Fault Eproto ∷ []
  pub over_limit : map (λ n. said (Message 100) (server (take n (130 ∷ 254 ∷ 0 ∷ 126 ∷ [])))) (3 ∷ 4 ∷ []) ≡ Need ∷ Fault Emsgsize ∷ []
  pub broken : read_fault (Message 100) false (reads (Message 100) (server (130 ∷ 254 ∷ 0 ∷ 126 ∷ []))) ≡ Some Econnreset
  pub unmasked : said (Message 64) (server (129 ∷ 5 ∷ [])) ≡ Fault Eproto
  pub no_utf8 : said (Message 64) (client (129 ∷ 1 ∷ 128 ∷ [])) ≡ Fault Eproto
  -- ends
  pub closed : said (Message 64) (client (136 ∷ 0 ∷ 7 ∷ [])) ≡ Fault Epipe
  pub closed_rest : (reads (Message 64) (client (136 ∷ 0 ∷ 7 ∷ []))).unread ≡ 7 ∷ []
  pub bad_code : said (Message 64) (client (136 ∷ 2 ∷ 3 ∷ 237 ∷ [])) ≡ Fault Eproto
  pub hello_cuts : cuts hello_frame (0 ∷ 1 ∷ 2 ∷ 6 ∷ 10 ∷ 11 ∷ []) ≡ Fault Epipe ∷ Fault Eproto ∷ Fault Eproto ∷ Fault Eproto ∷ Fault Eproto ∷ bytes (codes "Hello") ∷ []
  pub fragment_cuts : cuts fragments (9 ∷ 15 ∷ 22 ∷ 23 ∷ []) ≡ Fault Eproto ∷ Fault Eproto ∷ Fault Eproto ∷ bytes (codes "Hello") ∷ []
  -- a detach sends a close frame, drops messages, and leaves what stands behind the peer's
  pub closing : offered (leaves (parting.Close 1000 (codes "x")) (server [])) ≡ 136 ∷ 3 ∷ 3 ∷ 232 ∷ 120 ∷ []
  pub closing_bare : offered (leaves (parting.Close 0 []) (client [])) ≡ 136 ∷ 128 ∷ 55 ∷ 250 ∷ 33 ∷ 61 ∷ []
  pub parted : left (took 2 (leaves (parting.Close 0 []) (server (hello_frame ++ 136 ∷ 128 ∷ 0 ∷ 0 ∷ 0 ∷ 0 ∷ 7 ∷ [])))) ≡ with_bytes (7 ∷ [])
  pub wrong_code : detach_fault (parting.Close 1005 []) true (server []) ≡ Some Einval
