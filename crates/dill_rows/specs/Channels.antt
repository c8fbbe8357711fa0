-- Worked runs of channels and choices.
use Rattle.std.specs.Prelude.{◌≡◌, true, ℕ, zero, List, [], ◌∷◌, codes}
use Rattle.dill_base.specs.declared.deadline.Deadline.TheVariants.{Never, At}
use Rattle.dill_calls.specs.declared.call.Call.TheVariants as calls
use Rattle.dill_calls.specs.declared.lists.Arg.TheVariants.{Show}
use Rattle.dill_calls.specs.declared.lists.Clause.TheVariants.{Send, Recv}
use Rattle.dill_rows.specs.Play.{Does, Tries, Text}
use Rattle.dill_rows.specs.Playing.{plain, nth, played}
use Rattle.dill_rows.specs.Runs.{prints}

abbrev pub unequal : ℕ → List ℕ → Text
unequal zero args = plain 0 (Does calls.Chmake ∷ Does (calls.Go 1 (Show 1 ∷ [])) ∷ Tries (calls.Chrecv 2 4 Never) ∷ Tries (calls.Chrecv 2 4 Never) ∷ [])
unequal program args = plain 1 (Tries (calls.Chsend (nth args 0) (codes "abc") Never) ∷ Tries (calls.Chdone (nth args 0)) ∷ [])

-- Unequal sizes fail both, and a receive where the sending is done has its end.
pub record UnequalSizes : Type 0 where
  pub run : prints (played 40 unequal) (codes "1 start =0" ∷ codes "1 chmake =1,2" ∷ codes "1 go =3" ∷ codes "2 start =0" ∷ codes "1 chrecv EMSGSIZE" ∷ codes "2 chsend EMSGSIZE" ∷ codes "1 chrecv EPIPE" ∷ codes "1 end ok" ∷ codes "2 chdone =0" ∷ codes "2 end ok" ∷ codes "freed 3" ∷ codes "freed 2" ∷ codes "freed 1" ∷ codes "summary status=0 errno=none turns=8 rounds=1 closing=0 made=3 gone=3 lacks=0" ∷ []) ≡ true

abbrev pub chooses : ℕ → List ℕ → Text
chooses zero args = plain 0 (Does calls.Chmake ∷ Does calls.Chmake ∷ Tries (calls.Choose (At 0) []) ∷ Tries (calls.Choose (At 0) (Recv 2 1 ∷ Recv 4 1 ∷ [])) ∷ Does (calls.Go 1 (Show 1 ∷ [])) ∷ Does (calls.Go 1 (Show 3 ∷ [])) ∷ Does calls.Yield ∷ Does (calls.Choose Never (Recv 4 1 ∷ Recv 2 1 ∷ [])) ∷ Does (calls.Print (codes "0x")) ∷ [])
chooses program args = plain 1 (Does (calls.Chsend (nth args 0) (codes "x") Never) ∷ [])

-- A choice takes its least clause that can be done.
pub record ChoosesEarliest : Type 0 where
  pub run : prints (played 60 chooses) (codes "1 start =0" ∷ codes "1 chmake =1,2" ∷ codes "1 chmake =3,4" ∷ codes "1 choose EINVAL" ∷ codes "1 choose ETIMEDOUT" ∷ codes "1 go =5" ∷ codes "2 start =0" ∷ codes "1 go =6" ∷ codes "3 start =0" ∷ codes "1 yield =0" ∷ codes "1 choose @0 #1:78" ∷ codes "0x" ∷ codes "3 chsend =0" ∷ codes "3 end ok" ∷ codes "1 print =0" ∷ codes "1 end ok" ∷ codes "2 chsend ECANCELED" ∷ codes "2 end ECANCELED" ∷ codes "freed 6" ∷ codes "freed 5" ∷ codes "freed 4" ∷ codes "freed 3" ∷ codes "freed 2" ∷ codes "freed 1" ∷ codes "summary status=0 errno=none turns=14 rounds=1 closing=0 made=6 gone=6 lacks=0" ∷ []) ≡ true

-- one waits in a choice of two receives, and another enters a choice of two sends
abbrev pub two_choices : ℕ → List ℕ → Text
two_choices zero args = plain 0 (Does calls.Chmake ∷ Does calls.Chmake ∷ Does (calls.Go 1 []) ∷ Does calls.Yield ∷ Does (calls.Choose Never (Send 3 (codes "b") ∷ Send 1 (codes "a") ∷ [])) ∷ [])
two_choices program args = plain 0 (Does (calls.Choose Never (Recv 2 1 ∷ Recv 4 1 ∷ [])) ∷ [])

-- The choice that is entered decides by its own least clause.
pub record ChoiceMeetsChoice : Type 0 where
  pub run : prints (played 40 two_choices) (codes "1 start =0" ∷ codes "1 chmake =1,2" ∷ codes "1 chmake =3,4" ∷ codes "1 go =5" ∷ codes "2 start =0" ∷ codes "1 yield =0" ∷ codes "1 choose @0 =0" ∷ codes "1 end ok" ∷ codes "2 choose @1 #1:62" ∷ codes "2 end ok" ∷ codes "freed 5" ∷ codes "freed 4" ∷ codes "freed 3" ∷ codes "freed 2" ∷ codes "freed 1" ∷ codes "summary status=0 errno=none turns=8 rounds=1 closing=0 made=5 gone=5 lacks=0" ∷ []) ≡ true
