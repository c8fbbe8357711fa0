-- Worked runs of taking, closing within closing, and budgets.
use Rattle.std.specs.Prelude.{◌≡◌, true, ℕ, suc, zero, List, [], ◌∷◌, codes, map}
use Rattle.dill_base.specs.declared.deadline.Deadline.TheVariants.{Never, After}
use Rattle.dill_calls.specs.declared.call.Call.TheVariants as calls
use Rattle.dill_calls.specs.declared.lists.Arg.TheVariants.{Show}
use Rattle.dill_rows.specs.Play.{Does, Tries, Again, Text}
use Rattle.dill_rows.specs.Playing.{plain, nth, played, untraced}
use Rattle.dill_rows.specs.Runs.{prints}
use Rattle.dill_rows.specs.Bundles.{debt_of}

abbrev pub own_bundle : ℕ → List ℕ → Text
own_bundle zero args = plain 0 (Does calls.Bundle ∷ Does (calls.BundleGo 1 1 (Show 1 ∷ [])) ∷ Does (calls.BundleWait 1 Never) ∷ [])
own_bundle program args = plain 1 (Tries (calls.Hclose (nth args 0)) ∷ [])

-- A coroutine can't close the bundle that it lives in.
pub record OwnBundle : Type 0 where
  pub run : prints (played 30 own_bundle) (codes "1 start =0" ∷ codes "1 bundle =1" ∷ codes "1 bundle_go =0" ∷ codes "2 start =0" ∷ codes "2 hclose EBUSY" ∷ codes "2 end ok" ∷ codes "1 bundle_wait =0" ∷ codes "1 end ok" ∷ codes "freed 1" ∷ codes "summary status=0 errno=none turns=6 rounds=1 closing=0 made=1 gone=1 lacks=0" ∷ []) ≡ true

abbrev pub crossed : ℕ → List ℕ → Text
crossed zero args = plain 0 (Does calls.Bundle ∷ Does calls.Bundle ∷ Does (calls.BundleGo 1 1 (Show 2 ∷ [])) ∷ Does (calls.BundleGo 2 1 (Show 1 ∷ [])) ∷ Does (calls.BundleWait 1 Never) ∷ [])
crossed program args = plain 1 (Tries (calls.Hclose (nth args 0)) ∷ [])

-- Of two that would close each other's bundle the first one does, and the other is cancelled.
pub record CrossedGifts : Type 0 where
  pub run : prints (played 40 crossed) (codes "1 start =0" ∷ codes "1 bundle =1" ∷ codes "1 bundle =2" ∷ codes "1 bundle_go =0" ∷ codes "2 start =0" ∷ codes "1 bundle_go =0" ∷ codes "3 start =0" ∷ codes "3 hclose ECANCELED" ∷ codes "3 end ok" ∷ codes "freed 2" ∷ codes "2 hclose =0" ∷ codes "2 end ok" ∷ codes "1 bundle_wait =0" ∷ codes "1 end ok" ∷ codes "freed 1" ∷ codes "summary status=0 errno=none turns=10 rounds=1 closing=0 made=2 gone=2 lacks=0" ∷ []) ≡ true

abbrev pub nested : ℕ → List ℕ → Text
nested zero args = plain 0 (Does (calls.Go 1 []) ∷ Does calls.Yield ∷ Does calls.Yield ∷ Does (calls.Hclose 1) ∷ [])
nested (suc zero) args = plain 0 (Does (calls.Go 2 []) ∷ Does (calls.Hclose 2) ∷ [])
nested program args = record { count = 0; body = Does (calls.Msleep Never) ∷ []; last = Tries (calls.Msleep Never) ∷ [] }

-- A closing reaches the whole tree at once, and what is done last is cancelled too.
pub record NestedClose : Type 0 where
  pub run : prints (played 40 nested) (codes "1 start =0" ∷ codes "1 go =1" ∷ codes "2 start =0" ∷ codes "1 yield =0" ∷ codes "2 go =2" ∷ codes "3 start =0" ∷ codes "1 yield =0" ∷ codes "3 msleep ECANCELED" ∷ codes "3 msleep ECANCELED" ∷ codes "3 end ECANCELED" ∷ codes "freed 2" ∷ codes "2 hclose =0" ∷ codes "2 end ok" ∷ codes "freed 1" ∷ codes "1 hclose =0" ∷ codes "1 end ok" ∷ codes "summary status=0 errno=none turns=11 rounds=1 closing=0 made=2 gone=2 lacks=0" ∷ []) ≡ true

abbrev pub counted : ℕ → List ℕ → Text
counted program args = plain 0 (Does (calls.Msleep (After 10)) ∷ Does calls.Yield ∷ Does (calls.Msleep (After 10)) ∷ Does calls.Yield ∷ Does (calls.Msleep (After 10)) ∷ Does calls.Now ∷ Does (calls.Print (codes "30")) ∷ [])

-- A deadline after a while counts from its entry, and a budget stops the run.
pub record CountedSleeps : Type 0 where
  pub run : prints (untraced 1000000000 40 counted) (codes "30" ∷ codes "summary status=0 errno=none turns=8 rounds=4 closing=0 made=0 gone=0 lacks=0" ∷ []) ≡ true
  pub spent : prints (untraced 5 40 counted) (codes "summary status=7 errno=none turns=3 rounds=2 closing=1 made=0 gone=0 lacks=0" ∷ []) ≡ true

abbrev pub closes_nothing : ℕ → List ℕ → Text
closes_nothing program args = plain 0 (Does (calls.Hclose 9) ∷ [])

-- A call on a number that isn't live ends a program that doesn't try it.
pub record FaultEndsMain : Type 0 where
  pub run : prints (untraced 1000000000 20 closes_nothing) (codes "summary status=1 errno=EBADF turns=2 rounds=1 closing=0 made=0 gone=0 lacks=0" ∷ []) ≡ true

abbrev pub keeps_handle : ℕ → List ℕ → Text
keeps_handle program args = plain 0 (Does (calls.Hmake 256 7) ∷ Does (calls.Hown 1) ∷ Tries (calls.Hquery 1 256) ∷ Does (calls.Hquery 2 256) ∷ [])

-- What a coroutine owns is released at its end.
pub record RenumberedWithoutClose : Type 0 where
  pub run : prints (played 30 keeps_handle) (codes "1 start =0" ∷ codes "1 hmake =1" ∷ codes "moved 1 2" ∷ codes "1 hown =2" ∷ codes "1 hquery EBADF" ∷ codes "1 hquery =7" ∷ codes "1 end ok" ∷ codes "freed 2" ∷ codes "summary status=0 errno=none turns=5 rounds=1 closing=0 made=2 gone=2 lacks=0" ∷ []) ≡ true

abbrev pub owns_its_bundle : ℕ → List ℕ → Text
owns_its_bundle zero args = plain 0 (Does calls.Bundle ∷ Does (calls.BundleGo 1 1 (Show 1 ∷ [])) ∷ Does (calls.BundleWait 1 Never) ∷ [])
owns_its_bundle program args = plain 1 (Tries (calls.Hown (nth args 0)) ∷ [])

-- A coroutine can't own the bundle that it lives in.
pub record OwnBundleBusy : Type 0 where
  pub run : prints (played 30 owns_its_bundle) (codes "1 start =0" ∷ codes "1 bundle =1" ∷ codes "1 bundle_go =0" ∷ codes "2 start =0" ∷ codes "2 hown EBUSY" ∷ codes "2 end ok" ∷ codes "1 bundle_wait =0" ∷ codes "1 end ok" ∷ codes "freed 1" ∷ codes "summary status=0 errno=none turns=6 rounds=1 closing=0 made=1 gone=1 lacks=0" ∷ []) ≡ true

abbrev pub sleeper_and_yielder : ℕ → List ℕ → Text
sleeper_and_yielder zero args = plain 0 (Does calls.Bundle ∷ Does (calls.BundleGo 1 1 []) ∷ Does (calls.BundleGo 1 2 []) ∷ Does (calls.Hclose 1) ∷ [])
sleeper_and_yielder (suc zero) args = plain 0 (Does (calls.Msleep Never) ∷ [])
sleeper_and_yielder program args = plain 0 (Again ∷ [])

-- A closed bundle ends within the turns that its coroutines declare.
pub record SleeperAndYielder : Type 0 where
  pub run : prints (played 40 sleeper_and_yielder) (codes "1 start =0" ∷ codes "1 bundle =1" ∷ codes "1 bundle_go =0" ∷ codes "2 start =0" ∷ codes "1 bundle_go =0" ∷ codes "3 start =0" ∷ codes "2 msleep ECANCELED" ∷ codes "2 end ECANCELED" ∷ codes "3 yield ECANCELED" ∷ codes "3 end ECANCELED" ∷ codes "freed 1" ∷ codes "1 hclose =0" ∷ codes "1 end ok" ∷ codes "summary status=0 errno=none turns=9 rounds=1 closing=0 made=1 gone=1 lacks=0" ∷ []) ≡ true
  pub debts : map (debt_of sleeper_and_yielder) (7 ∷ 8 ∷ 9 ∷ 10 ∷ []) ≡ 4 ∷ 2 ∷ 1 ∷ 0 ∷ []
