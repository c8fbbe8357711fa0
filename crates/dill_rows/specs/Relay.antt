-- Worked runs of a relay from PREFIX to WebSocket over the network in memory.
use Rattle.std.specs.Prelude.{◌≡◌, true, false, ℕ, suc, zero, List, [], ◌∷◌, codes}
use Rattle.dill_base.specs.declared.deadline.Deadline.TheVariants.{Never, After}
use Rattle.dill_calls.specs.declared.call.Call.TheVariants as calls
use Rattle.dill_calls.specs.declared.lists.Arg.TheVariants.{Give}
use Rattle.dill_rows.specs.Play.{Does, Puts, Text}
use Rattle.dill_rows.specs.Playing.{plain, nth, looped, place}
use Rattle.dill_rows.specs.Runs.{prints}
use Rattle.std.specs.Prelude.{Some, None}

abbrev pub relays : ℕ → List ℕ → Text
relays zero args = plain 0 ((Puts (Some 0) (λ n b. calls.TcpListen (place 7001) 16)) ∷ (Puts (Some 1) (λ n b. calls.TcpListen (place 7002) 16)) ∷ (Puts (Some 2) (λ n b. calls.Go 1 (Give (nth n 1) ∷ []))) ∷ (Puts (Some 3) (λ n b. calls.Go 2 (Give (nth n 0) ∷ []))) ∷ (Puts (Some 4) (λ n b. calls.TcpConnect (place 7001) (After 1000))) ∷ (Puts (Some 4) (λ n b. calls.PrefixAttach (nth n 4) 2 true)) ∷ (Puts None (λ n b. calls.Msend (nth n 4) (codes "hi") (After 1000))) ∷ (Puts None (λ n b. calls.Mrecv (nth n 4) 65536 (After 1000))) ∷ (Puts None (λ n b. calls.Print b)) ∷ (Puts None (λ n b. calls.Hclose (nth n 4))) ∷ Does calls.Yield ∷ (Puts (Some 4) (λ n b. calls.TcpConnect (place 7001) (After 1000))) ∷ (Puts (Some 4) (λ n b. calls.PrefixAttach (nth n 4) 2 true)) ∷ (Puts None (λ n b. calls.Msend (nth n 4) (codes "hi") (After 1000))) ∷ (Puts None (λ n b. calls.Mrecv (nth n 4) 65536 (After 1000))) ∷ (Puts None (λ n b. calls.Print b)) ∷ (Puts None (λ n b. calls.Hclose (nth n 4))) ∷ Does calls.Yield ∷ (Puts (Some 4) (λ n b. calls.TcpConnect (place 7001) (After 1000))) ∷ (Puts (Some 4) (λ n b. calls.PrefixAttach (nth n 4) 2 true)) ∷ (Puts None (λ n b. calls.Msend (nth n 4) (codes "hi") (After 1000))) ∷ (Puts None (λ n b. calls.Mrecv (nth n 4) 65536 (After 1000))) ∷ (Puts None (λ n b. calls.Print b)) ∷ (Puts None (λ n b. calls.Hclose (nth n 4))) ∷ (Puts None (λ n b. calls.BundleWait (nth n 2) Never)) ∷ (Puts None (λ n b. calls.BundleWait (nth n 3) Never)) ∷ [])
relays (suc zero) args = plain 1 ((Puts (Some 1) (λ n b. calls.TcpAccept (nth n 0) Never)) ∷ (Puts (Some 1) (λ n b. calls.WsAttachServer (nth n 1) true (After 1000))) ∷ (Puts None (λ n b. calls.Mrecv (nth n 1) 65536 (After 1000))) ∷ (Puts None (λ n b. calls.Msend (nth n 1) b (After 1000))) ∷ (Puts None (λ n b. calls.Hclose (nth n 1))) ∷ Does calls.Yield ∷ (Puts (Some 1) (λ n b. calls.TcpAccept (nth n 0) Never)) ∷ (Puts (Some 1) (λ n b. calls.WsAttachServer (nth n 1) true (After 1000))) ∷ (Puts None (λ n b. calls.Mrecv (nth n 1) 65536 (After 1000))) ∷ (Puts None (λ n b. calls.Msend (nth n 1) b (After 1000))) ∷ (Puts None (λ n b. calls.Hclose (nth n 1))) ∷ Does calls.Yield ∷ (Puts (Some 1) (λ n b. calls.TcpAccept (nth n 0) Never)) ∷ (Puts (Some 1) (λ n b. calls.WsAttachServer (nth n 1) true (After 1000))) ∷ (Puts None (λ n b. calls.Mrecv (nth n 1) 65536 (After 1000))) ∷ (Puts None (λ n b. calls.Msend (nth n 1) b (After 1000))) ∷ (Puts None (λ n b. calls.Hclose (nth n 1))) ∷ [])
relays program args = plain 1 ((Puts (Some 1) (λ n b. calls.TcpAccept (nth n 0) Never)) ∷ (Puts (Some 1) (λ n b. calls.PrefixAttach (nth n 1) 2 true)) ∷ (Puts (Some 2) (λ n b. calls.TcpConnect (place 7002) (After 1000))) ∷ (Puts (Some 2) (λ n b. calls.WsAttachClient (nth n 2) true (codes "/") (codes "127.0.0.1:7002") (After 1000))) ∷ (Puts None (λ n b. calls.Mrecv (nth n 1) 65536 (After 1000))) ∷ (Puts None (λ n b. calls.Msend (nth n 2) b (After 1000))) ∷ (Puts None (λ n b. calls.Mrecv (nth n 2) 65536 (After 1000))) ∷ (Puts None (λ n b. calls.Msend (nth n 1) b (After 1000))) ∷ (Puts None (λ n b. calls.Hclose (nth n 2))) ∷ (Puts None (λ n b. calls.Hclose (nth n 1))) ∷ Does calls.Yield ∷ (Puts (Some 1) (λ n b. calls.TcpAccept (nth n 0) Never)) ∷ (Puts (Some 1) (λ n b. calls.PrefixAttach (nth n 1) 2 true)) ∷ (Puts (Some 2) (λ n b. calls.TcpConnect (place 7002) (After 1000))) ∷ (Puts (Some 2) (λ n b. calls.WsAttachClient (nth n 2) true (codes "/") (codes "127.0.0.1:7002") (After 1000))) ∷ (Puts None (λ n b. calls.Mrecv (nth n 1) 65536 (After 1000))) ∷ (Puts None (λ n b. calls.Msend (nth n 2) b (After 1000))) ∷ (Puts None (λ n b. calls.Mrecv (nth n 2) 65536 (After 1000))) ∷ (Puts None (λ n b. calls.Msend (nth n 1) b (After 1000))) ∷ (Puts None (λ n b. calls.Hclose (nth n 2))) ∷ (Puts None (λ n b. calls.Hclose (nth n 1))) ∷ Does calls.Yield ∷ (Puts (Some 1) (λ n b. calls.TcpAccept (nth n 0) Never)) ∷ (Puts (Some 1) (λ n b. calls.PrefixAttach (nth n 1) 2 true)) ∷ (Puts (Some 2) (λ n b. calls.TcpConnect (place 7002) (After 1000))) ∷ (Puts (Some 2) (λ n b. calls.WsAttachClient (nth n 2) true (codes "/") (codes "127.0.0.1:7002") (After 1000))) ∷ (Puts None (λ n b. calls.Mrecv (nth n 1) 65536 (After 1000))) ∷ (Puts None (λ n b. calls.Msend (nth n 2) b (After 1000))) ∷ (Puts None (λ n b. calls.Mrecv (nth n 2) 65536 (After 1000))) ∷ (Puts None (λ n b. calls.Msend (nth n 1) b (After 1000))) ∷ (Puts None (λ n b. calls.Hclose (nth n 2))) ∷ (Puts None (λ n b. calls.Hclose (nth n 1))) ∷ [])

-- Three clients over PREFIX to a WebSocket upstream.
pub record RelayToWebsocket : Type 0 where
  pub run : prints (looped false 1000000000 700 relays) (codes "hi" ∷ codes "hi" ∷ codes "hi" ∷ codes "summary status=0 errno=none turns=78 rounds=44 closing=0 made=30 gone=30 lacks=0" ∷ []) ≡ true

abbrev pub load : ℕ → List ℕ → Text
load zero args = plain 0 ((Puts (Some 0) (λ n b. calls.TcpListen (place 7000) 16)) ∷ (Puts (Some 1) (λ n b. calls.Go 1 (Give (nth n 0) ∷ []))) ∷ (Puts (Some 2) (λ n b. calls.TcpConnect (place 7000) Never)) ∷ (Puts (Some 2) (λ n b. calls.PrefixAttach (nth n 2) 2 true)) ∷ (Puts None (λ n b. calls.Msend (nth n 2) (codes "hello") Never)) ∷ (Puts None (λ n b. calls.Mrecv (nth n 2) 64 Never)) ∷ (Puts None (λ n b. calls.Hclose (nth n 2))) ∷ Does calls.Yield ∷ (Puts (Some 2) (λ n b. calls.TcpConnect (place 7000) Never)) ∷ (Puts (Some 2) (λ n b. calls.PrefixAttach (nth n 2) 2 true)) ∷ (Puts None (λ n b. calls.Msend (nth n 2) (codes "hello") Never)) ∷ (Puts None (λ n b. calls.Mrecv (nth n 2) 64 Never)) ∷ (Puts None (λ n b. calls.Hclose (nth n 2))) ∷ Does calls.Yield ∷ (Puts (Some 2) (λ n b. calls.TcpConnect (place 7000) Never)) ∷ (Puts (Some 2) (λ n b. calls.PrefixAttach (nth n 2) 2 true)) ∷ (Puts None (λ n b. calls.Msend (nth n 2) (codes "hello") Never)) ∷ (Puts None (λ n b. calls.Mrecv (nth n 2) 64 Never)) ∷ (Puts None (λ n b. calls.Hclose (nth n 2))) ∷ Does calls.Yield ∷ (Puts (Some 2) (λ n b. calls.TcpConnect (place 7000) Never)) ∷ (Puts (Some 2) (λ n b. calls.PrefixAttach (nth n 2) 2 true)) ∷ (Puts None (λ n b. calls.Msend (nth n 2) (codes "hello") Never)) ∷ (Puts None (λ n b. calls.Mrecv (nth n 2) 64 Never)) ∷ (Puts None (λ n b. calls.Hclose (nth n 2))) ∷ (Puts None (λ n b. calls.BundleWait (nth n 1) Never)) ∷ [])
load program args = plain 1 ((Puts (Some 1) (λ n b. calls.TcpAccept (nth n 0) Never)) ∷ (Puts (Some 1) (λ n b. calls.PrefixAttach (nth n 1) 2 true)) ∷ (Puts None (λ n b. calls.Mrecv (nth n 1) 64 Never)) ∷ (Puts None (λ n b. calls.Msend (nth n 1) b Never)) ∷ (Puts None (λ n b. calls.Hclose (nth n 1))) ∷ Does calls.Yield ∷ (Puts (Some 1) (λ n b. calls.TcpAccept (nth n 0) Never)) ∷ (Puts (Some 1) (λ n b. calls.PrefixAttach (nth n 1) 2 true)) ∷ (Puts None (λ n b. calls.Mrecv (nth n 1) 64 Never)) ∷ (Puts None (λ n b. calls.Msend (nth n 1) b Never)) ∷ (Puts None (λ n b. calls.Hclose (nth n 1))) ∷ Does calls.Yield ∷ (Puts (Some 1) (λ n b. calls.TcpAccept (nth n 0) Never)) ∷ (Puts (Some 1) (λ n b. calls.PrefixAttach (nth n 1) 2 true)) ∷ (Puts None (λ n b. calls.Mrecv (nth n 1) 64 Never)) ∷ (Puts None (λ n b. calls.Msend (nth n 1) b Never)) ∷ (Puts None (λ n b. calls.Hclose (nth n 1))) ∷ Does calls.Yield ∷ (Puts (Some 1) (λ n b. calls.TcpAccept (nth n 0) Never)) ∷ (Puts (Some 1) (λ n b. calls.PrefixAttach (nth n 1) 2 true)) ∷ (Puts None (λ n b. calls.Mrecv (nth n 1) 64 Never)) ∷ (Puts None (λ n b. calls.Msend (nth n 1) b Never)) ∷ (Puts None (λ n b. calls.Hclose (nth n 1))) ∷ [])

-- A load of four clients: twelve turns and three rounds for each, and three turns and two rounds besides.
pub record LoadOfFour : Type 0 where
  pub run : prints (looped false 1000000000 300 load) (codes "summary status=0 errno=none turns=51 rounds=14 closing=0 made=19 gone=19 lacks=0" ∷ []) ≡ true
