-- Worked runs of handles, bundles and sleeping.
use Rattle.std.specs.Prelude.{◌≡◌, true, ℕ, suc, zero, List, [], ◌∷◌, codes, decimal, map}
use Rattle.dill_base.specs.declared.deadline.Deadline.TheVariants.{Never, At}
use Rattle.dill_calls.specs.declared.call.Call.TheVariants as calls
use Rattle.dill_calls.specs.declared.lists.Arg.TheVariants.{Show}
use Rattle.dill_rules.specs.Debts.{debt}
use Rattle.dill_rows.specs.Play.{Does, Tries, Again, Text, playing}
use Rattle.dill_rows.specs.Playing.{plain, nth, played, untraced}
use Rattle.dill_rows.specs.Runs.{prints}

-- three sleepers to 50 by way of 30, 20 and 10
abbrev pub sleepers : ℕ → List ℕ → Text
sleepers zero args = plain 0 (Does calls.Bundle ∷ Does (calls.BundleGo 1 1 (Show 30 ∷ Show 1 ∷ [])) ∷ Does (calls.BundleGo 1 1 (Show 20 ∷ Show 2 ∷ [])) ∷ Does (calls.BundleGo 1 1 (Show 10 ∷ Show 3 ∷ [])) ∷ Does (calls.BundleWait 1 Never) ∷ [])
sleepers program args = plain 2 (Does (calls.Msleep (At (nth args 0))) ∷ Does (calls.Msleep (At 50)) ∷ Does (calls.Print (decimal (nth args 1))) ∷ [])

-- Three deadlines at one moment pass in the order of the coroutines.
pub record EqualDeadlines : Type 0 where
  pub run : prints (untraced 1000000000 60 sleepers) (codes "1" ∷ codes "2" ∷ codes "3" ∷ codes "summary status=0 errno=none turns=18 rounds=5 closing=0 made=1 gone=1 lacks=0" ∷ []) ≡ true

abbrev pub sleeper : ℕ → List ℕ → Text
sleeper program args = plain 0 (Does (calls.Msleep Never) ∷ [])

-- A run in which all wait for ever is stuck.
pub record SleepForever : Type 0 where
  pub run : prints (played 20 sleeper) (codes "1 start =0" ∷ codes "waiting 1 msleep" ∷ codes "1 msleep ECANCELED" ∷ codes "1 end ECANCELED" ∷ codes "summary status=8 errno=none turns=1 rounds=1 closing=1 made=0 gone=0 lacks=0" ∷ []) ≡ true

abbrev pub renumbers : ℕ → ℕ → List ℕ → Text
renumbers kind program args = plain 0 (Does (calls.Hmake 256 7) ∷ Does (calls.Hown 1) ∷ Tries (calls.Hquery 1 256) ∷ Tries (calls.Hquery 2 kind) ∷ Does (calls.Hclose 2) ∷ [])

-- A number that was given up is dead, and its thing lives on under the next one.
pub record RenumberedHandle : Type 0 where
  pub run : prints (played 30 (renumbers 256)) (codes "1 start =0" ∷ codes "1 hmake =1" ∷ codes "moved 1 2" ∷ codes "1 hown =2" ∷ codes "1 hquery EBADF" ∷ codes "1 hquery =7" ∷ codes "freed 2" ∷ codes "1 hclose =0" ∷ codes "1 end ok" ∷ codes "summary status=0 errno=none turns=6 rounds=1 closing=0 made=2 gone=2 lacks=0" ∷ []) ≡ true
  pub other_kind : prints (played 30 (renumbers 257)) (codes "1 start =0" ∷ codes "1 hmake =1" ∷ codes "moved 1 2" ∷ codes "1 hown =2" ∷ codes "1 hquery EBADF" ∷ codes "1 hquery ENOTSUP" ∷ codes "freed 2" ∷ codes "1 hclose =0" ∷ codes "1 end ok" ∷ codes "summary status=0 errno=none turns=6 rounds=1 closing=0 made=2 gone=2 lacks=0" ∷ []) ≡ true

abbrev pub closed_whole : ℕ → List ℕ → Text
closed_whole zero args = plain 0 (Does calls.Bundle ∷ Does calls.Chmake ∷ Does (calls.BundleGo 1 1 []) ∷ Does (calls.BundleGo 1 2 (Show 2 ∷ [])) ∷ Does (calls.BundleGo 1 3 []) ∷ Does (calls.Hclose 1) ∷ [])
closed_whole (suc zero) args = plain 0 (Does (calls.Msleep Never) ∷ [])
closed_whole (suc (suc zero)) args = plain 1 (Does (calls.Chrecv (nth args 0) 1 Never) ∷ [])
closed_whole program args = plain 0 (Again ∷ [])

-- the debt of the first bundle after so many steps
abbrev pub debt_of : (ℕ → List ℕ → Text) → ℕ → ℕ
debt_of table steps = debt (playing table) (played steps table).state 1

-- A bundle that is closed ends all its coroutines before it answers. At its closing those that wait count 1 each, and the one whose start came before it 3; then each turn of theirs lowers the sum.
pub record BundleClosedWhole : Type 0 where
  pub run : prints (played 40 closed_whole) (codes "1 start =0" ∷ codes "1 bundle =1" ∷ codes "1 chmake =2,3" ∷ codes "1 bundle_go =0" ∷ codes "2 start =0" ∷ codes "1 bundle_go =0" ∷ codes "3 start =0" ∷ codes "1 bundle_go =0" ∷ codes "4 start =0" ∷ codes "2 msleep ECANCELED" ∷ codes "2 end ECANCELED" ∷ codes "3 chrecv ECANCELED" ∷ codes "3 end ECANCELED" ∷ codes "4 yield ECANCELED" ∷ codes "4 end ECANCELED" ∷ codes "freed 1" ∷ codes "1 hclose =0" ∷ codes "1 end ok" ∷ codes "freed 3" ∷ codes "freed 2" ∷ codes "summary status=0 errno=none turns=13 rounds=1 closing=0 made=3 gone=3 lacks=0" ∷ []) ≡ true
  pub debts : map (debt_of closed_whole) (10 ∷ 11 ∷ 12 ∷ 13 ∷ 14 ∷ []) ≡ 5 ∷ 3 ∷ 2 ∷ 1 ∷ 0 ∷ []
