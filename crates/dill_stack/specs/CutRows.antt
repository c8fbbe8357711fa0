-- What a receive or a handshake answers where the peer ended behind each first part of one whole item.
use Rattle.std.specs.Prelude.{◌≡◌, ℕ, zero, suc, List, [], ◌∷◌, ◌++◌, true, map, take, length, replicate, codes}
use Rattle.dill_base.specs.declared.errno.Errno.TheVariants.{Epipe, Eproto}
use Rattle.dill_ws.specs.declared.side.Side.TheVariants.{Server}
use Rattle.dill_stack.specs.declared.layer.Layer.{Layer}
use Rattle.dill_stack.specs.declared.layer.Layer.TheVariants as layer
use Rattle.dill_stack.specs.declared.want.Want.{Want}
use Rattle.dill_stack.specs.declared.want.Want.TheVariants.{Message, Request, Field}
use Rattle.dill_stack.specs.declared.want.ReadOut.{ReadOut}
use Rattle.dill_stack.specs.declared.want.ReadOut.TheVariants.{Given, Need, Fault}
use Rattle.dill_stack.specs.Held.{Held, came, ended}
use Rattle.dill_stack.specs.Receiving.{read}
use Rattle.dill_stack.specs.Greeting.{greeted}
use Rattle.dill_http.specs.Lines.{crlf}
use Rattle.dill_stack.specs.RowTerms.{random, attached, big2, with_end_behind}
use Rattle.dill_stack.specs.HandshakeRows.{chat_head, chat_answer, expecting_end, greeting_sent}

-- the numbers below n
abbrev pub below : ℕ → List ℕ
below zero = []
below (suc n) = below n ++ n ∷ []

-- the answer of the first of some receives that is given none
abbrev pub or_next : ReadOut → (Held → ReadOut) → Held → ReadOut
or_next (Given answer) again s = again s
or_next out again s = out

-- the last answer of these receives
abbrev pub last_said : List Want → Held → ReadOut
last_said [] s = Need
last_said (want ∷ wants) s = or_next (read want random s).said (last_said wants) (read want random s).stack

-- the answers behind each proper first part of the item
abbrev pub cuts : (List ℕ → ReadOut) → List ℕ → List ReadOut
cuts answer item = map (λ n. answer (take n item)) (below (length item))

-- EPIPE at the boundary, and EPROTO behind each byte of the item
abbrev pub all_cut : List ℕ → List ReadOut
all_cut [] = []
all_cut (b ∷ item) = Fault Epipe ∷ replicate (length item) (Fault Eproto)

-- what a receive of this layer answers
abbrev pub received : Layer → List Want → List ℕ → ReadOut
received l wants u = last_said wants (attached l (with_end_behind u))

-- a request with one field
abbrev pub small_head : List ℕ
small_head = codes "GET / HTTP/1.1\r\na: b\r\n\r\n"

-- a masked fragment, a ping and the last fragment
abbrev pub small_frames : List ℕ
small_frames = 1 ∷ 129 ∷ 0 ∷ 0 ∷ 0 ∷ 0 ∷ 72 ∷ 137 ∷ 128 ∷ 0 ∷ 0 ∷ 0 ∷ 0 ∷ 128 ∷ 129 ∷ 0 ∷ 0 ∷ 0 ∷ 0 ∷ 105 ∷ []

-- a message behind its length, one before its end, a head, and a message in fragments
pub record CutRows : Type 0 where
  pub prefix : cuts (received (layer.Prefix big2) (Message 9 ∷ [])) (0 ∷ 2 ∷ 7 ∷ 8 ∷ []) ≡ all_cut (0 ∷ 2 ∷ 7 ∷ 8 ∷ [])
  pub suffix : cuts (received (layer.Suffix crlf) (Message 9 ∷ [])) (97 ∷ 98 ∷ crlf) ≡ all_cut (97 ∷ 98 ∷ crlf)
  pub head : cuts (received layer.Http (Request ∷ Field ∷ Field ∷ [])) small_head ≡ all_cut small_head
  pub frames : cuts (received (layer.Ws Server true) (Message 9 ∷ [])) small_frames ≡ all_cut small_frames

-- the head of a client
pub record HandshakeCutRows : Type 0 where
  pub client_head : cuts (λ u. (greeted (expecting_end u)).said) chat_head ≡ all_cut chat_head

-- the head of a server
pub record AnswerCutRows : Type 0 where
  pub server_head : cuts (λ u. (greeted (ended (came u greeting_sent))).said) chat_answer ≡ all_cut chat_answer
