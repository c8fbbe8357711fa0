-- Worked runs of links over the network in memory.
use Rattle.std.specs.Prelude.{◌≡◌, true, false, ℕ, zero, List, [], ◌∷◌, codes}
use Rattle.dill_base.specs.declared.deadline.Deadline.TheVariants.{Never}
use Rattle.dill_calls.specs.declared.call.Call.TheVariants as calls
use Rattle.dill_calls.specs.declared.lists.Arg.TheVariants.{Give}
use Rattle.dill_rows.specs.Play.{Does, Text}
use Rattle.dill_rows.specs.Playing.{plain, nth, looped, place}
use Rattle.dill_rows.specs.Runs.{prints, does}
use Rattle.dill_rows.specs.Sockets.{detaches, accepts}

-- a server and one client over PREFIX, by the numbers that the run gives
abbrev pub load : ℕ → List ℕ → Text
load zero args = plain 0 (Does (calls.TcpListen (place 7000) 16) ∷ Does (calls.Go 1 (Give 1 ∷ [])) ∷ Does (calls.TcpConnect (place 7000) Never) ∷ Does (calls.PrefixAttach 4 2 true) ∷ Does (calls.Msend 6 (codes "hello") Never) ∷ Does (calls.Mrecv 6 64 Never) ∷ Does (calls.Hclose 6) ∷ Does (calls.BundleWait 2 Never) ∷ [])
load program args = plain 1 (Does (calls.TcpAccept (nth args 0) Never) ∷ Does (calls.PrefixAttach 5 2 true) ∷ Does (calls.Mrecv 7 64 Never) ∷ Does (calls.Msend 7 (codes "hello") Never) ∷ Does (calls.Hclose 7) ∷ [])

-- A load of one client over the network in memory; a budget stops it, and its link is closed once.
pub record LoadCounts : Type 0 where
  pub run : prints (looped false 1000000000 80 load) (codes "summary status=0 errno=none turns=15 rounds=5 closing=0 made=7 gone=7 lacks=0" ∷ []) ≡ true
  pub spent : does (looped false 5 60 load) (codes "summary status=7 errno=none turns=3 rounds=2 closing=3 made=3 gone=3 lacks=0" ∷ []) (codes "wait 0" ∷ codes "wait 0" ∷ codes "listen 1" ∷ codes "close 1" ∷ []) ≡ true

-- The same detach that is cancelled, over the network in memory.
pub record LoopedDetach : Type 0 where
  pub run : prints (looped true 1000000000 80 detaches) (codes "1 start =0" ∷ codes "1 tcp_listen =1" ∷ codes "1 tcp_connect =2" ∷ codes "moved 2 4" ∷ codes "1 go =3" ∷ codes "2 start =0" ∷ codes "moved 4 5" ∷ codes "2 prefix_attach =5" ∷ codes "moved 5 6" ∷ codes "2 term_attach =6" ∷ codes "1 msleep =0" ∷ codes "freed 6" ∷ codes "2 term_detach ECANCELED" ∷ codes "2 hclose EBADF" ∷ codes "2 end ok" ∷ codes "freed 3" ∷ codes "1 hclose =0" ∷ codes "1 end ok" ∷ codes "freed 1" ∷ codes "summary status=0 errno=none turns=11 rounds=5 closing=0 made=6 gone=6 lacks=0" ∷ []) ≡ true

-- A wait for ever fails in the network in memory.
pub record LoopedWait : Type 0 where
  pub run : prints (looped true 1000000000 40 accepts) (codes "1 start =0" ∷ codes "1 tcp_listen =1" ∷ codes "1 tcp_accept ECANCELED" ∷ codes "1 end ECANCELED" ∷ codes "freed 1" ∷ codes "summary status=9 errno=none turns=2 rounds=4 closing=1 made=1 gone=1 lacks=0" ∷ []) ≡ true
