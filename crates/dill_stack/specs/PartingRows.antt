-- Detaches worked by hand: ends over ends, ends over frames, and what is sent and dropped.
use Rattle.std.specs.Prelude.{◌≡◌, ℕ, List, [], ◌∷◌, ◌++◌, false, length, Some, None, codes}
use Rattle.dill_base.specs.declared.errno.Errno.TheVariants.{Epipe, Econnreset, Eproto}
use Rattle.dill_ws.specs.declared.side.Side.TheVariants.{Client}
use Rattle.dill_stack.specs.declared.layer.Layer.TheVariants as layer
use Rattle.dill_stack.specs.declared.layer.Top.TheVariants as top
use Rattle.dill_stack.specs.declared.want.Want.TheVariants.{Message}
use Rattle.dill_stack.specs.declared.want.ReadOut.TheVariants.{Fault}
use Rattle.dill_stack.specs.declared.parting.Parting.TheVariants as parting
use Rattle.dill_stack.specs.Held.{Held, Pong, ended, broke, top}
use Rattle.dill_stack.specs.Refusals.{send_fault, done_fault}
use Rattle.dill_stack.specs.Sending.{offered, took, withdraw}
use Rattle.dill_stack.specs.Parting.{parting_fault}
use Rattle.dill_stack.specs.RowTerms.{attached, ends, leaves, reads, left, left_said, zero_given, big2, with_bytes}

-- all that a detach sends has gone
abbrev pub gone : Held → Held
gone s = took (length (offered s)) s

-- an end by `a` over an end by `b` over messages behind two bytes
abbrev pub ends_over : List ℕ → Held
ends_over u = attached (layer.Term (codes "a")) (attached (layer.Term (codes "b")) (attached (layer.Prefix big2) (with_bytes u)))

-- the lower end alone
abbrev pub one_end : List ℕ → Held
one_end u = attached (layer.Term (codes "b")) (attached (layer.Prefix big2) (with_bytes u))

-- an end by `bye` over a client's frames
abbrev pub bye_over : List ℕ → Held
bye_over u = attached (layer.Term (codes "bye")) (attached (layer.Ws Client false) (with_bytes u))

-- a ping, a message, the end, and a byte behind it
abbrev pub frames_to_drop : List ℕ
frames_to_drop = (137 ∷ 1 ∷ 9 ∷ []) ++ (130 ∷ 2 ∷ codes "hi") ++ (130 ∷ 3 ∷ codes "bye") ++ 7 ∷ []

abbrev pub bye_left : Held
bye_left = gone (leaves parting.Plain (bye_over frames_to_drop))

pub record PartingRows : Type 0 where
  -- ends over ends
  pub lower_met : left_said (gone (leaves parting.Plain (ends_over (0 ∷ 1 ∷ 98 ∷ [])))) ≡ Fault Epipe
  pub lower_met_before : left_said (gone (leaves parting.Plain (attached (layer.Term (codes "a")) (reads (Message 9) (one_end (0 ∷ 1 ∷ 98 ∷ [])))))) ≡ Fault Epipe
  pub not_at_entry : parting_fault (attached (layer.Term (codes "a")) (reads (Message 9) (one_end (0 ∷ 1 ∷ 98 ∷ [])))) ≡ None
  pub lower_done : parting_fault (attached (layer.Term (codes "a")) (gone (ends (one_end [])))) ≡ Some Epipe
  pub lower_done_send : send_fault (codes "x") false (attached (layer.Term (codes "a")) (gone (ends (one_end [])))) ≡ Some Epipe
  pub link_done : parting_fault (attached (layer.Term (codes "b")) (attached (layer.Prefix big2) (ends (with_bytes [])))) ≡ Some Epipe
  pub nothing_to_send : parting_fault (attached (layer.Prefix big2) (ends (with_bytes []))) ≡ None
  pub broken : parting_fault (broke (one_end [])) ≡ Some Econnreset
  pub upper_met : left (gone (leaves parting.Plain (ends_over (0 ∷ 1 ∷ 120 ∷ 0 ∷ 1 ∷ 97 ∷ 7 ∷ [])))) ≡ one_end (7 ∷ [])
  -- what was sent is sent no more, and what is given up is not sent
  pub sent_once : offered (leaves parting.Plain (gone (ends (one_end [])))) ≡ []
  pub taken_back : withdraw (ends (one_end [])) ≡ one_end []
  pub midway : done_fault false (withdraw (took 1 (ends (one_end [])))) ≡ Some Epipe
  -- an end over frames: the ping is answered, and the answer may still be queued behind the detach
  pub bye_sent : offered (leaves parting.Plain (bye_over [])) ≡ 130 ∷ 131 ∷ 55 ∷ 250 ∷ 33 ∷ 61 ∷ 85 ∷ 131 ∷ 68 ∷ []
  pub bye_said : left_said bye_left ≡ zero_given
  pub bye_top : top (left bye_left) ≡ top.Ws
  pub bye_rest : (left bye_left).unread ≡ 7 ∷ []
  pub bye_pong : (left bye_left).queue ≡ record { bytes = 138 ∷ 129 ∷ 55 ∷ 250 ∷ 33 ∷ 61 ∷ 62 ∷ []; gone = 0; origin = Pong } ∷ []
  -- a close frame: pings behind it are not answered, and texts are judged
  pub no_pong : (left (gone (leaves (parting.Close 0 []) (attached (layer.Ws Client false) (with_bytes (137 ∷ 0 ∷ [])))))).queue ≡ []
  pub judged : left_said (gone (leaves (parting.Close 0 []) (attached (layer.Ws Client false) (with_bytes (129 ∷ 1 ∷ 128 ∷ []))))) ≡ Fault Eproto
  pub peer_ended : left_said (gone (leaves (parting.Close 0 []) (attached (layer.Ws Client false) (ended (with_bytes []))))) ≡ Fault Epipe
