-- Worked runs of handles of those that are cancelled, by others and by themselves, and of a listener that is awaited.
use Rattle.std.specs.Prelude.{◌≡◌, true, ℕ, zero, suc, List, [], ◌∷◌, codes}
use Rattle.dill_base.specs.declared.deadline.Deadline.TheVariants.{Never}
use Rattle.dill_calls.specs.declared.call.Call.TheVariants as calls
use Rattle.dill_calls.specs.declared.lists.Arg.TheVariants.{Show, Give}
use Rattle.dill_kernel.specs.declared.replies.KernelReply.TheVariants.{Done}
use Rattle.dill_rows.specs.Play.{Does, Tries, Text}
use Rattle.dill_rows.specs.Playing.{plain, nth, played, replayed, idle, place, connected}
use Rattle.dill_rows.specs.Runs.{prints, does}

abbrev pub takes_late : ℕ → List ℕ → Text
takes_late zero args = plain 0 (Does calls.Bundle ∷ Does (calls.BundleGo 1 1 []) ∷ Does (calls.Go 2 []) ∷ Does calls.Yield ∷ Does (calls.Hclose 1) ∷ [])
takes_late (suc zero) args = record { count = 0; body = Does calls.Bundle ∷ Does (calls.Msleep Never) ∷ []; last = Tries (calls.Msleep Never) ∷ Tries (calls.Msleep Never) ∷ [] }
takes_late (suc (suc zero)) args = plain 0 (Does calls.Yield ∷ Tries (calls.BundleGo 3 3 []) ∷ Tries (calls.Hown 3) ∷ Tries (calls.BundleWait 3 Never) ∷ [])
takes_late program args = plain 0 []

-- A handle of a coroutine that is cancelled can't be taken, and its bundle takes no child; it may be waited for.
pub record CancelledOwner : Type 0 where
  pub run : prints (played 60 takes_late) (codes "1 start =0" ∷ codes "1 bundle =1" ∷ codes "1 bundle_go =0" ∷ codes "2 start =0" ∷ codes "1 go =2" ∷ codes "3 start =0" ∷ codes "2 bundle =3" ∷ codes "1 yield =0" ∷ codes "3 yield =0" ∷ codes "2 msleep ECANCELED" ∷ codes "3 bundle_go EBUSY" ∷ codes "2 msleep ECANCELED" ∷ codes "3 hown EBUSY" ∷ codes "2 msleep ECANCELED" ∷ codes "2 end ECANCELED" ∷ codes "freed 3" ∷ codes "freed 1" ∷ codes "3 bundle_wait =0" ∷ codes "3 end ok" ∷ codes "1 hclose =0" ∷ codes "1 end ok" ∷ codes "freed 2" ∷ codes "summary status=0 errno=none turns=16 rounds=1 closing=0 made=3 gone=3 lacks=0" ∷ []) ≡ true

abbrev pub takes_own : ℕ → List ℕ → Text
takes_own zero args = plain 0 (Does (calls.TcpConnect (place 9) Never) ∷ Does calls.Bundle ∷ Does (calls.BundleGo 2 1 (Give 1 ∷ [])) ∷ Does calls.Yield ∷ Does (calls.Hclose 2) ∷ [])
takes_own program args = plain 1 (Tries (calls.Msleep Never) ∷ Does (calls.Hown 3) ∷ Tries (calls.PrefixAttach 4 2 true) ∷ Does (calls.Hquery 4 4) ∷ Does (calls.Hclose 4) ∷ Does calls.Now ∷ Tries calls.Yield ∷ [])

-- What is its own a cancelled coroutine may renumber, query and close; what blocks or makes it may not do.
pub record CancelledOwn : Type 0 where
  pub run : prints (replayed (connected []) 60 takes_own) (codes "1 start =0" ∷ codes "1 tcp_connect =1" ∷ codes "1 bundle =2" ∷ codes "moved 1 3" ∷ codes "1 bundle_go =0" ∷ codes "2 start =0" ∷ codes "1 yield =0" ∷ codes "2 msleep ECANCELED" ∷ codes "moved 3 4" ∷ codes "2 hown =4" ∷ codes "2 prefix_attach ECANCELED" ∷ codes "2 hquery =0" ∷ codes "freed 4" ∷ codes "2 hclose =0" ∷ codes "2 now =0" ∷ codes "2 yield ECANCELED" ∷ codes "2 end ok" ∷ codes "freed 2" ∷ codes "1 hclose =0" ∷ codes "1 end ok" ∷ codes "summary status=0 errno=none turns=14 rounds=2 closing=0 made=4 gone=4 lacks=0" ∷ []) ≡ true

abbrev pub accepts_twice : ℕ → List ℕ → Text
accepts_twice zero args = plain 0 (Does (calls.TcpListen (place 9) 1) ∷ Does (calls.Go 1 []) ∷ Does calls.Yield ∷ Tries (calls.TcpAccept 1 Never) ∷ Tries (calls.Hown 1) ∷ [])
accepts_twice program args = plain 0 (Does (calls.TcpAccept 1 Never) ∷ [])

-- A listener at which somebody waits can't be awaited again, nor be taken.
pub record AwaitedListener : Type 0 where
  pub run : prints (replayed (idle 0 ∷ idle 0 ∷ Done ∷ []) 50 accepts_twice) (codes "1 start =0" ∷ codes "1 tcp_listen =1" ∷ codes "1 go =2" ∷ codes "2 start =0" ∷ codes "1 yield =0" ∷ codes "1 tcp_accept EBUSY" ∷ codes "1 hown EBUSY" ∷ codes "1 end ok" ∷ codes "2 tcp_accept ECANCELED" ∷ codes "2 end ECANCELED" ∷ codes "freed 2" ∷ codes "freed 1" ∷ codes "summary status=0 errno=none turns=8 rounds=2 closing=0 made=2 gone=2 lacks=0" ∷ []) ≡ true

abbrev pub attaches_anothers : ℕ → List ℕ → Text
attaches_anothers zero args = plain 0 (Does (calls.TcpConnect (place 9) Never) ∷ Does (calls.Go 1 (Show 1 ∷ [])) ∷ Does (calls.BundleWait 2 Never) ∷ Tries (calls.Hquery 1 4) ∷ Tries (calls.Hquery 3 5) ∷ [])
attaches_anothers program args = plain 1 (Does (calls.PrefixAttach (nth args 0) 2 true) ∷ [])

-- Who attaches a layer to another's socket owns it from then on.
pub record TakenByAttach : Type 0 where
  pub run : prints (replayed (connected []) 40 attaches_anothers) (codes "1 start =0" ∷ codes "1 tcp_connect =1" ∷ codes "1 go =2" ∷ codes "2 start =0" ∷ codes "moved 1 3" ∷ codes "2 prefix_attach =3" ∷ codes "2 end ok" ∷ codes "freed 3" ∷ codes "1 bundle_wait =0" ∷ codes "1 hquery EBADF" ∷ codes "1 hquery EBADF" ∷ codes "1 end ok" ∷ codes "freed 2" ∷ codes "summary status=0 errno=none turns=8 rounds=2 closing=0 made=3 gone=3 lacks=0" ∷ []) ≡ true

abbrev pub owner_ends : ℕ → List ℕ → Text
owner_ends zero args = plain 0 (Does (calls.TcpConnect (place 9) Never) ∷ Does (calls.Go 1 (Give 1 ∷ [])) ∷ Does (calls.Go 2 []) ∷ Does (calls.BundleWait 2 Never) ∷ Does (calls.BundleWait 4 Never) ∷ [])
owner_ends (suc zero) args = plain 1 (Does calls.Yield ∷ Does calls.Yield ∷ [])
owner_ends program args = plain 0 (Tries (calls.Brecv 3 1 Never) ∷ [])

abbrev pub listen_cancelled : ℕ → List ℕ → Text
listen_cancelled zero args = plain 0 (Does calls.Bundle ∷ Does (calls.BundleGo 1 1 []) ∷ Does calls.Yield ∷ Does (calls.Hclose 1) ∷ [])
listen_cancelled program args = plain 0 (Tries (calls.TcpListen (place 9) 1) ∷ [])

-- A receive at a socket whose owner ends learns that its number is dead. A listen that is cancelled is never asked for.
pub record OwnersAndListens : Type 0 where
  pub owner : prints (replayed (connected []) 50 owner_ends) (codes "1 start =0" ∷ codes "1 tcp_connect =1" ∷ codes "moved 1 3" ∷ codes "1 go =2" ∷ codes "2 start =0" ∷ codes "1 go =4" ∷ codes "3 start =0" ∷ codes "2 yield =0" ∷ codes "2 yield =0" ∷ codes "2 end ok" ∷ codes "freed 3" ∷ codes "1 bundle_wait =0" ∷ codes "3 brecv EBADF" ∷ codes "3 end ok" ∷ codes "1 bundle_wait =0" ∷ codes "1 end ok" ∷ codes "freed 4" ∷ codes "freed 2" ∷ codes "summary status=0 errno=none turns=11 rounds=2 closing=0 made=4 gone=4 lacks=0" ∷ []) ≡ true
  pub listen : does (replayed (idle 0 ∷ []) 50 listen_cancelled) (codes "1 start =0" ∷ codes "1 bundle =1" ∷ codes "1 bundle_go =0" ∷ codes "2 start =0" ∷ codes "1 yield =0" ∷ codes "2 tcp_listen ECANCELED" ∷ codes "2 end ok" ∷ codes "freed 1" ∷ codes "1 hclose =0" ∷ codes "1 end ok" ∷ codes "summary status=0 errno=none turns=7 rounds=1 closing=0 made=1 gone=1 lacks=0" ∷ []) (codes "wait 0" ∷ []) ≡ true
