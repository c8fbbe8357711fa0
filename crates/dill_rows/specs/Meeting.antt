-- Worked runs of channels: ends that die or are done while others wait, and who is met first.
use Rattle.std.specs.Prelude.{◌≡◌, true, ℕ, zero, suc, List, [], ◌∷◌, codes}
use Rattle.dill_base.specs.declared.deadline.Deadline.TheVariants.{Never, At}
use Rattle.dill_calls.specs.declared.call.Call.TheVariants as calls
use Rattle.dill_calls.specs.declared.lists.Clause.TheVariants.{Send, Recv}
use Rattle.dill_rows.specs.Play.{Does, Tries, Text}
use Rattle.dill_rows.specs.Playing.{plain, played}
use Rattle.dill_rows.specs.Runs.{prints}

abbrev pub end_dies : ℕ → List ℕ → Text
end_dies zero args = plain 0 (Does calls.Chmake ∷ Does (calls.Go 1 []) ∷ Does (calls.Go 2 []) ∷ Does calls.Yield ∷ Does (calls.Hclose 1) ∷ Does (calls.BundleWait 3 Never) ∷ Does (calls.BundleWait 4 Never) ∷ [])
end_dies (suc zero) args = plain 0 (Tries (calls.Chrecv 1 1 Never) ∷ [])
end_dies program args = plain 0 (Tries (calls.Chrecv 2 1 Never) ∷ [])

abbrev pub end_done : ℕ → List ℕ → Text
end_done zero args = plain 0 (Does calls.Chmake ∷ Does (calls.Go 1 []) ∷ Does calls.Yield ∷ Does (calls.Chdone 1) ∷ Tries (calls.Chdone 1) ∷ Tries (calls.Chrecv 2 1 Never) ∷ Does (calls.Go 2 []) ∷ Does (calls.Chrecv 1 1 Never) ∷ [])
end_done (suc zero) args = plain 0 (Tries (calls.Chsend 1 (codes "x") Never) ∷ [])
end_done program args = plain 0 (Does (calls.Chsend 2 (codes "y") Never) ∷ [])

-- An end that is closed is dead to those who wait at it, and the end of all for those at the other; one that is done sends no more, and still receives.
pub record EndsOfChannels : Type 0 where
  pub dies : prints (played 50 end_dies) (codes "1 start =0" ∷ codes "1 chmake =1,2" ∷ codes "1 go =3" ∷ codes "2 start =0" ∷ codes "1 go =4" ∷ codes "3 start =0" ∷ codes "1 yield =0" ∷ codes "freed 1" ∷ codes "1 hclose =0" ∷ codes "2 chrecv EBADF" ∷ codes "2 end ok" ∷ codes "3 chrecv EPIPE" ∷ codes "3 end ok" ∷ codes "1 bundle_wait =0" ∷ codes "1 bundle_wait =0" ∷ codes "1 end ok" ∷ codes "freed 4" ∷ codes "freed 3" ∷ codes "freed 2" ∷ codes "summary status=0 errno=none turns=12 rounds=1 closing=0 made=4 gone=4 lacks=0" ∷ []) ≡ true
  pub done : prints (played 50 end_done) (codes "1 start =0" ∷ codes "1 chmake =1,2" ∷ codes "1 go =3" ∷ codes "2 start =0" ∷ codes "1 yield =0" ∷ codes "1 chdone =0" ∷ codes "2 chsend EPIPE" ∷ codes "2 end ok" ∷ codes "1 chdone EPIPE" ∷ codes "1 chrecv EPIPE" ∷ codes "1 go =4" ∷ codes "3 start =0" ∷ codes "1 chrecv #1:79" ∷ codes "1 end ok" ∷ codes "3 chsend =0" ∷ codes "3 end ok" ∷ codes "freed 4" ∷ codes "freed 3" ∷ codes "freed 2" ∷ codes "freed 1" ∷ codes "summary status=0 errno=none turns=13 rounds=1 closing=0 made=4 gone=4 lacks=0" ∷ []) ≡ true

abbrev pub two_wait : ℕ → List ℕ → Text
two_wait zero args = plain 0 (Does calls.Chmake ∷ Does (calls.Go 1 []) ∷ Does (calls.Go 2 []) ∷ Does calls.Yield ∷ Does (calls.Chsend 1 (codes "a") Never) ∷ Does (calls.Chsend 1 (codes "b") Never) ∷ Tries (calls.Choose (At 0) (Send 1 (codes "x") ∷ Recv 2 1 ∷ [])) ∷ Tries (calls.Chrecv 2 1 (At 0)) ∷ Does (calls.Msleep (At 0)) ∷ [])
two_wait (suc zero) args = plain 0 (Does calls.Yield ∷ Does (calls.Chrecv 2 1 Never) ∷ [])
two_wait program args = plain 0 (Does (calls.Chrecv 2 1 Never) ∷ [])

-- Who has waited longest is met first, the higher coroutine too. A choice doesn't meet itself, and a passed deadline is met at entry.
pub record LongestWaiting : Type 0 where
  pub run : prints (played 60 two_wait) (codes "1 start =0" ∷ codes "1 chmake =1,2" ∷ codes "1 go =3" ∷ codes "2 start =0" ∷ codes "1 go =4" ∷ codes "3 start =0" ∷ codes "2 yield =0" ∷ codes "1 yield =0" ∷ codes "1 chsend =0" ∷ codes "3 chrecv #1:61" ∷ codes "3 end ok" ∷ codes "1 chsend =0" ∷ codes "2 chrecv #1:62" ∷ codes "2 end ok" ∷ codes "1 choose ETIMEDOUT" ∷ codes "1 chrecv ETIMEDOUT" ∷ codes "1 msleep =0" ∷ codes "1 end ok" ∷ codes "freed 4" ∷ codes "freed 3" ∷ codes "freed 2" ∷ codes "freed 1" ∷ codes "summary status=0 errno=none turns=15 rounds=1 closing=0 made=4 gone=4 lacks=0" ∷ []) ≡ true
