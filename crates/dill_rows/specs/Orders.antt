-- Worked runs of the order in which things are given up, end and are answered.
use Rattle.std.specs.Prelude.{◌≡◌, true, ℕ, zero, suc, List, [], ◌∷◌, codes}
use Rattle.dill_base.specs.declared.deadline.Deadline.TheVariants.{Never, At}
use Rattle.dill_calls.specs.declared.call.Call.TheVariants as calls
use Rattle.dill_calls.specs.declared.lists.Arg.TheVariants.{Show}
use Rattle.dill_calls.specs.declared.lists.Clause.TheVariants.{Recv}
use Rattle.dill_kernel.specs.declared.replies.KernelReply.TheVariants.{Done, NotYet}
use Rattle.dill_rows.specs.Play.{Does, Tries, Text}
use Rattle.dill_rows.specs.Playing.{plain, nth, played, replayed, idle, place, connected}
use Rattle.dill_rows.specs.Runs.{prints, does}

abbrev pub expires : ℕ → List ℕ → Text
expires zero args = plain 0 (Does (calls.TcpConnect (place 9) Never) ∷ Does (calls.TcpConnect (place 9) Never) ∷ Does (calls.TcpConnect (place 9) Never) ∷ Does calls.Bundle ∷ Does (calls.BundleGo 4 1 (Show 1 ∷ Show 7 ∷ [])) ∷ Does (calls.BundleGo 4 1 (Show 3 ∷ Show 6 ∷ [])) ∷ Does (calls.BundleGo 4 1 (Show 2 ∷ Show 6 ∷ [])) ∷ Does (calls.BundleWait 4 Never) ∷ [])
expires program args = plain 2 (Tries (calls.TcpClose (nth args 0) (At (nth args 1))) ∷ [])

-- What expires at one moment is released and answered in the order of deadlines, and at one deadline in that of coroutines.
pub record ExpiryOrder : Type 0 where
  pub run : does (replayed (connected (idle 0 ∷ Done ∷ Done ∷ idle 0 ∷ Done ∷ Done ∷ idle 0 ∷ Done ∷ Done ∷ Done ∷ NotYet ∷ NotYet ∷ NotYet ∷ idle 9 ∷ [])) 80 expires) (codes "1 start =0" ∷ codes "1 tcp_connect =1" ∷ codes "1 tcp_connect =2" ∷ codes "1 tcp_connect =3" ∷ codes "1 bundle =4" ∷ codes "1 bundle_go =0" ∷ codes "2 start =0" ∷ codes "1 bundle_go =0" ∷ codes "3 start =0" ∷ codes "1 bundle_go =0" ∷ codes "4 start =0" ∷ codes "freed 3" ∷ codes "freed 2" ∷ codes "freed 1" ∷ codes "3 tcp_close ETIMEDOUT" ∷ codes "3 end ok" ∷ codes "4 tcp_close ETIMEDOUT" ∷ codes "4 end ok" ∷ codes "2 tcp_close ETIMEDOUT" ∷ codes "2 end ok" ∷ codes "1 bundle_wait =0" ∷ codes "1 end ok" ∷ codes "freed 4" ∷ codes "summary status=0 errno=none turns=15 rounds=6 closing=0 made=4 gone=4 lacks=0" ∷ []) (codes "wait 0" ∷ codes "wait 0" ∷ codes "connect 1" ∷ codes "finish 1" ∷ codes "wait 0" ∷ codes "connect 2" ∷ codes "finish 2" ∷ codes "wait 0" ∷ codes "connect 3" ∷ codes "finish 3" ∷ codes "wait 0" ∷ codes "shut 1" ∷ codes "shut 2" ∷ codes "shut 3" ∷ codes "read 1" ∷ codes "read 2" ∷ codes "read 3" ∷ codes "wait until 6" ∷ codes "close 1" ∷ codes "close 2" ∷ codes "close 3" ∷ []) ≡ true

abbrev pub chain : ℕ → List ℕ → Text
chain zero args = plain 0 (Does (calls.Go 1 []) ∷ Does calls.Yield ∷ Does calls.Yield ∷ Does calls.Yield ∷ Does (calls.Hclose 1) ∷ [])
chain (suc zero) args = plain 0 (Does (calls.Go 2 []) ∷ Does (calls.Msleep Never) ∷ [])
chain (suc (suc zero)) args = plain 0 (Does (calls.Go 3 []) ∷ Does (calls.Msleep Never) ∷ [])
chain program args = record { count = 0; body = Does (calls.Msleep Never) ∷ []; last = Tries (calls.Msleep Never) ∷ [] }

-- The end of the innermost lets those around it end in the same step, and the closing is answered after them.
pub record EndingsChain : Type 0 where
  pub run : prints (played 50 chain) (codes "1 start =0" ∷ codes "1 go =1" ∷ codes "2 start =0" ∷ codes "1 yield =0" ∷ codes "2 go =2" ∷ codes "3 start =0" ∷ codes "1 yield =0" ∷ codes "3 go =3" ∷ codes "4 start =0" ∷ codes "1 yield =0" ∷ codes "2 msleep ECANCELED" ∷ codes "2 end ECANCELED" ∷ codes "3 msleep ECANCELED" ∷ codes "3 end ECANCELED" ∷ codes "4 msleep ECANCELED" ∷ codes "4 msleep ECANCELED" ∷ codes "4 end ECANCELED" ∷ codes "freed 3" ∷ codes "freed 2" ∷ codes "freed 1" ∷ codes "1 hclose =0" ∷ codes "1 end ok" ∷ codes "summary status=0 errno=none turns=15 rounds=1 closing=0 made=3 gone=3 lacks=0" ∷ []) ≡ true

abbrev pub comes_inside : ℕ → List ℕ → Text
comes_inside zero args = plain 0 (Does calls.Bundle ∷ Does calls.Bundle ∷ Does (calls.BundleGo 1 1 (Show 2 ∷ [])) ∷ Does (calls.BundleGo 2 2 (Show 1 ∷ [])) ∷ Does calls.Yield ∷ Does calls.Yield ∷ Does (calls.Hclose 1) ∷ [])
comes_inside (suc zero) args = plain 1 (Does calls.Yield ∷ Does (calls.Hown (nth args 0)) ∷ Does (calls.Msleep Never) ∷ [])
comes_inside program args = plain 1 (Tries (calls.BundleWait (nth args 0) Never) ∷ [])

-- Who waits for a bundle, and came to be inside it since, is cancelled by its closing.
pub record WaiterCameInside : Type 0 where
  pub run : prints (played 50 comes_inside) (codes "1 start =0" ∷ codes "1 bundle =1" ∷ codes "1 bundle =2" ∷ codes "1 bundle_go =0" ∷ codes "2 start =0" ∷ codes "1 bundle_go =0" ∷ codes "3 start =0" ∷ codes "2 yield =0" ∷ codes "moved 2 3" ∷ codes "1 yield =0" ∷ codes "2 hown =3" ∷ codes "1 yield =0" ∷ codes "2 msleep ECANCELED" ∷ codes "2 end ECANCELED" ∷ codes "3 bundle_wait ECANCELED" ∷ codes "3 end ok" ∷ codes "freed 3" ∷ codes "freed 1" ∷ codes "1 hclose =0" ∷ codes "1 end ok" ∷ codes "summary status=0 errno=none turns=14 rounds=1 closing=0 made=3 gone=3 lacks=0" ∷ []) ≡ true

abbrev pub waits_outside : ℕ → List ℕ → Text
waits_outside zero args = plain 0 (Does calls.Bundle ∷ Does (calls.BundleGo 1 1 []) ∷ Does (calls.Go 2 (Show 1 ∷ [])) ∷ Does calls.Yield ∷ Does (calls.Hclose 1) ∷ [])
waits_outside (suc zero) args = plain 0 (Does (calls.Msleep Never) ∷ [])
waits_outside program args = plain 1 (Tries (calls.BundleWait (nth args 0) Never) ∷ [])

-- Who waits for it outside learns that its number is dead.
pub record WaiterOutside : Type 0 where
  pub run : prints (played 50 waits_outside) (codes "1 start =0" ∷ codes "1 bundle =1" ∷ codes "1 bundle_go =0" ∷ codes "2 start =0" ∷ codes "1 go =2" ∷ codes "3 start =0" ∷ codes "1 yield =0" ∷ codes "2 msleep ECANCELED" ∷ codes "2 end ECANCELED" ∷ codes "freed 1" ∷ codes "3 bundle_wait EBADF" ∷ codes "3 end ok" ∷ codes "1 hclose =0" ∷ codes "1 end ok" ∷ codes "freed 2" ∷ codes "summary status=0 errno=none turns=10 rounds=1 closing=0 made=2 gone=2 lacks=0" ∷ []) ≡ true

abbrev pub refused_choices : ℕ → List ℕ → Text
refused_choices program args = plain 0 (Does calls.Chmake ∷ Does calls.Bundle ∷ Does (calls.Chdone 1) ∷ Tries (calls.Choose Never (Recv 2 1 ∷ Recv 3 1 ∷ [])) ∷ Tries (calls.Choose Never (Recv 2 1 ∷ Recv 2 1048577 ∷ [])) ∷ Tries (calls.Choose Never (Recv 2 1048577 ∷ Recv 9 1 ∷ [])) ∷ [])

abbrev pub choice_dies : ℕ → List ℕ → Text
choice_dies zero args = plain 0 (Does calls.Chmake ∷ Does (calls.Go 1 []) ∷ Does calls.Yield ∷ Does (calls.Hclose 1) ∷ [])
choice_dies program args = plain 0 (Tries (calls.Choose Never (Recv 1 1 ∷ Recv 2 1 ∷ [])) ∷ [])

-- A choice is refused whole for one clause, though an earlier one could be done; an end that dies while it waits makes that clause done.
pub record ChoiceClauses : Type 0 where
  pub refused : prints (played 30 refused_choices) (codes "1 start =0" ∷ codes "1 chmake =1,2" ∷ codes "1 bundle =3" ∷ codes "1 chdone =0" ∷ codes "1 choose ENOTSUP" ∷ codes "1 choose EINVAL" ∷ codes "1 choose EBADF" ∷ codes "1 end ok" ∷ codes "freed 3" ∷ codes "freed 2" ∷ codes "freed 1" ∷ codes "summary status=0 errno=none turns=7 rounds=1 closing=0 made=3 gone=3 lacks=0" ∷ []) ≡ true
  pub dies : prints (played 30 choice_dies) (codes "1 start =0" ∷ codes "1 chmake =1,2" ∷ codes "1 go =3" ∷ codes "2 start =0" ∷ codes "1 yield =0" ∷ codes "freed 1" ∷ codes "1 hclose =0" ∷ codes "1 end ok" ∷ codes "2 choose @0 EBADF" ∷ codes "2 end ok" ∷ codes "freed 3" ∷ codes "freed 2" ∷ codes "summary status=0 errno=none turns=7 rounds=1 closing=0 made=3 gone=3 lacks=0" ∷ []) ≡ true
