-- Stories of a traced run whose output fails at each of its lines, before any byte of it.
use Rattle.std.specs.Prelude.{◌≡◌, ℕ, List, [], ◌∷◌, Bool, true, Some, codes, take, is_none}
use Rattle.dill_base.specs.declared.status.Status.{Status}
use Rattle.dill_base.specs.declared.status.Status.TheVariants.{Sink}
use Rattle.dill_calls.specs.declared.call.Call.TheVariants as calls
use Rattle.dill_kernel.specs.declared.ready.Limit.TheVariants.{NoWait}
use Rattle.dill_kernel.specs.declared.replies.KernelAsk.{KernelAsk}
use Rattle.dill_kernel.specs.declared.replies.KernelAsk.TheVariants.{Wait}
use Rattle.dill_drive.specs.Play.{Playing}
use Rattle.dill_rules.specs.State.{State}
use Rattle.dill_rows.specs.Play.{Does, Text, Play}
use Rattle.dill_rows.specs.Playing.{plain, idle}
use Rattle.dill_rows.specs.Runs.{text}
use Rattle.dill_rows.specs.Stories.{story}

abbrev pub two_prints : ℕ → List ℕ → Text
two_prints program args = plain 0 (Does (calls.Print (codes "hello")) ∷ Does (calls.Print (codes "bye")) ∷ [])

-- the lines of the trace
abbrev pub traced_lines : List (List ℕ)
traced_lines = codes "1 start =0" ∷ codes "hello" ∷ codes "1 print =0" ∷ codes "bye" ∷ codes "1 print =0" ∷ codes "1 end ok" ∷ codes "summary status=0 errno=none turns=3 rounds=1 closing=0 made=0 gone=0 lacks=0" ∷ []

-- what went out, how the run ended, what was asked, and whether the failure was met
pub record Outcome : Type 0 where
  pub bytes : List ℕ
  pub status : Status
  pub asks : List KernelAsk
  pub met : Bool

abbrev pub outcome : Playing (State Play) → Outcome
outcome p = record { bytes = p.bytes; status = p.config.status; asks = p.asks; met = is_none p.halt }

-- a write fails behind so many bytes
abbrev pub fails_behind : ℕ → Outcome
fails_behind count = outcome (story true 1000000000 40 two_prints (idle 0 ∷ []) [] (Some count))

-- exactly so many lines are there
abbrev pub shows : ℕ → Outcome
shows count = record { bytes = text (take count traced_lines); status = Sink; asks = Wait NoWait ∷ []; met = true }

-- Each of the seven writes fails: exactly the lines before it are there.
pub record OutputFails : Type 0 where
  pub first : fails_behind 0 ≡ shows 0
  pub second : fails_behind 11 ≡ shows 1
  pub third : fails_behind 17 ≡ shows 2
  pub fourth : fails_behind 28 ≡ shows 3
  pub fifth : fails_behind 32 ≡ shows 4
  pub sixth : fails_behind 43 ≡ shows 5
  pub seventh : fails_behind 52 ≡ shows 6
