-- Worked runs of what a cancelled coroutine is answered, and of turns that take no memory.
use Rattle.std.specs.Prelude.{◌≡◌, true, false, not, ◌||◌, ℕ, zero, suc, List, [], ◌∷◌, codes, None}
use Rattle.dill_base.specs.declared.deadline.Deadline.TheVariants.{Never}
use Rattle.dill_calls.specs.declared.call.Call.TheVariants as calls
use Rattle.dill_calls.specs.declared.lists.Arg.TheVariants.{Show}
use Rattle.dill_calls.specs.declared.ran.LackPlace.TheVariants.{Build, Entry}
use Rattle.dill_kernel.specs.declared.replies.KernelReply.TheVariants.{Came}
use Rattle.dill_rules.specs.State.{may_lack}
use Rattle.dill_rows.specs.Play.{Does, Tries, Text}
use Rattle.dill_rows.specs.Playing.{plain, nth, played, replayed, idle, place, connected}
use Rattle.dill_rows.specs.Runs.{prints, does, text}
use Rattle.dill_rows.specs.Stories.{story, tells}
use Rattle.dill_rows.specs.Lacks.{makes_two, lacking, plain_call}

abbrev pub lacks_cancelled : ℕ → List ℕ → Text
lacks_cancelled zero args = plain 0 (Does calls.Bundle ∷ Does (calls.BundleGo 1 1 []) ∷ Does (calls.Hclose 1) ∷ [])
lacks_cancelled program args = plain 0 (Tries (calls.Msleep Never) ∷ Tries (calls.Chsend 9 (codes "x") Never) ∷ Tries (calls.WsDetach 9 0 (codes "x") Never) ∷ [])

-- A cancelled caller that lacks memory hears that it is cancelled, unless its call gives a stack up, and the lack is counted.
pub record CancelledLacks : Type 0 where
  pub run : tells (story true 1000000000 60 lacks_cancelled (idle 0 ∷ []) ((5, Build) ∷ (6, Build) ∷ []) None) (text (codes "1 start =0" ∷ codes "1 bundle =1" ∷ codes "1 bundle_go =0" ∷ codes "2 start =0" ∷ codes "2 msleep ECANCELED" ∷ codes "2 chsend ECANCELED" ∷ codes "2 ws_detach ENOMEM" ∷ codes "2 end ok" ∷ codes "freed 1" ∷ codes "1 hclose =0" ∷ codes "1 end ok" ∷ codes "summary status=0 errno=none turns=8 rounds=1 closing=0 made=1 gone=1 lacks=2" ∷ [])) (codes "wait 0" ∷ []) ≡ true

-- The turn in which a program ends takes no memory, and a refusal that is meant for it isn't used.
pub record EndsTakeNothing : Type 0 where
  pub may_not : not (may_lack lacking plain_call Entry || may_lack lacking plain_call Build) ≡ true
  pub unused : tells (story false 1000000000 60 makes_two (idle 0 ∷ []) ((5, Entry) ∷ []) None) (text (codes "x" ∷ codes "summary status=0 errno=none turns=5 rounds=1 closing=0 made=2 gone=2 lacks=0" ∷ [])) (codes "wait 0" ∷ []) ≡ true

abbrev pub reads_cancelled : ℕ → List ℕ → Text
reads_cancelled zero args = plain 0 (Does (calls.TcpConnect (place 9) Never) ∷ Does (calls.Brecv 1 1 Never) ∷ Does calls.Bundle ∷ Does (calls.BundleGo 2 1 (Show 1 ∷ [])) ∷ Does calls.Yield ∷ Does (calls.Hclose 2) ∷ Does (calls.Brecv 1 2 Never) ∷ [])
reads_cancelled program args = plain 1 (Tries (calls.Msleep Never) ∷ Tries (calls.Brecv (nth args 0) 1 Never) ∷ [])

abbrev pub takes_cancelled : ℕ → List ℕ → Text
takes_cancelled zero args = plain 0 (Does calls.Chmake ∷ Does calls.Bundle ∷ Does (calls.BundleGo 3 1 []) ∷ Does (calls.Go 2 []) ∷ Does calls.Yield ∷ Does (calls.Hclose 3) ∷ Does (calls.Chrecv 2 1 Never) ∷ [])
takes_cancelled (suc zero) args = plain 0 (Tries (calls.Msleep Never) ∷ Tries (calls.Chrecv 2 1 Never) ∷ [])
takes_cancelled program args = plain 0 (Tries (calls.Chsend 1 (codes "x") Never) ∷ [])

-- A cancelled coroutine is given nothing, though bytes are there or a sender waits; the next one is.
pub record CancelledReceives : Type 0 where
  pub bytes : does (replayed (connected (idle 0 ∷ Came (codes "abc") ∷ [])) 60 reads_cancelled) (codes "1 start =0" ∷ codes "1 tcp_connect =1" ∷ codes "1 brecv #1:61" ∷ codes "1 bundle =2" ∷ codes "1 bundle_go =0" ∷ codes "2 start =0" ∷ codes "1 yield =0" ∷ codes "2 msleep ECANCELED" ∷ codes "2 brecv ECANCELED" ∷ codes "2 end ok" ∷ codes "freed 2" ∷ codes "1 hclose =0" ∷ codes "1 brecv #2:6263" ∷ codes "1 end ok" ∷ codes "freed 1" ∷ codes "summary status=0 errno=none turns=11 rounds=3 closing=0 made=2 gone=2 lacks=0" ∷ []) (codes "wait 0" ∷ codes "wait 0" ∷ codes "connect 1" ∷ codes "finish 1" ∷ codes "wait 0" ∷ codes "read 1" ∷ codes "close 1" ∷ []) ≡ true
  pub item : prints (played 60 takes_cancelled) (codes "1 start =0" ∷ codes "1 chmake =1,2" ∷ codes "1 bundle =3" ∷ codes "1 bundle_go =0" ∷ codes "2 start =0" ∷ codes "1 go =4" ∷ codes "3 start =0" ∷ codes "1 yield =0" ∷ codes "2 msleep ECANCELED" ∷ codes "2 chrecv ECANCELED" ∷ codes "2 end ok" ∷ codes "freed 3" ∷ codes "1 hclose =0" ∷ codes "1 chrecv #1:78" ∷ codes "1 end ok" ∷ codes "3 chsend =0" ∷ codes "3 end ok" ∷ codes "freed 4" ∷ codes "freed 2" ∷ codes "freed 1" ∷ codes "summary status=0 errno=none turns=13 rounds=1 closing=0 made=4 gone=4 lacks=0" ∷ []) ≡ true
