-- Worked stories of the rules: over a list of replies, with refused memory, and with a write that fails.
use Rattle.std.specs.Prelude.{◌≡◌, ℕ, List, [], ◌∷◌, ◌&&◌, Bool, true, false, Option, Some, None, codes, bytes_eq, flat_map, take}
use Rattle.dill_calls.specs.declared.ran.LackPlace.TheVariants.{Build, Entry}
use Rattle.dill_drive.specs.ByRules.{machine_of}
use Rattle.dill_drive.specs.Play.{Playing, Lack, play, opening}
use Rattle.dill_kernel.specs.declared.replies.KernelReply.{KernelReply}
use Rattle.dill_kernel.specs.declared.replies.KernelReply.TheVariants.{Came}
use Rattle.relay_trace.specs.Lines.{line}
use Rattle.dill_rules.specs.State.{State, opening_state}
use Rattle.dill_rows.specs.Play.{Text, Play, playing, first_of}
use Rattle.dill_rows.specs.Playing.{zeros, idle, connected}
use Rattle.dill_rows.specs.Runs.{ask_text, text}
use Rattle.dill_rows.specs.Bundles.{sleeper}
use Rattle.dill_rows.specs.Closing.{counted}
use Rattle.dill_rows.specs.Connecting.{receives}
use Rattle.dill_rows.specs.Lacks.{makes_two}

-- so many steps of the story of `main`, over these replies, refusals and so many bytes before a write fails
abbrev pub story : Bool → ℕ → ℕ → (ℕ → List ℕ → Text) → List KernelReply → List Lack → Option ℕ → Playing (State Play)
story traced most steps table replies lacks halt =
    play (machine_of (playing table)) traced most steps (opening (machine_of (playing table)) traced most (opening_state (first_of (table 0 [])) zeros) zeros replies lacks halt)

-- these bytes went out, and this was asked
abbrev pub tells : {S : Type 0} → Playing S → List ℕ → List (List ℕ) → Bool
tells p bytes asks = bytes_eq p.bytes bytes && bytes_eq (flat_map (λ ask. line (ask_text ask)) p.asks) (text asks)

-- Stories of worked runs, the last two with a write that fails: the run stops, and what was made is closed.
pub record WorkedStories : Type 0 where
  pub connection : tells (story false 1000000000 120 receives (connected (idle 0 ∷ Came (codes "ab") ∷ idle 0 ∷ Came (codes "cd") ∷ [])) [] None) (text (codes "abc" ∷ codes "summary status=0 errno=none turns=4 rounds=4 closing=0 made=1 gone=1 lacks=0" ∷ [])) (codes "wait 0" ∷ codes "wait 0" ∷ codes "connect 1" ∷ codes "finish 1" ∷ codes "wait 0" ∷ codes "read 1" ∷ codes "wait 0" ∷ codes "read 1" ∷ codes "close 1" ∷ []) ≡ true
  pub stuck : tells (story true 1000000000 40 sleeper (idle 0 ∷ []) [] None) (text (codes "1 start =0" ∷ codes "waiting 1 msleep" ∷ codes "1 msleep ECANCELED" ∷ codes "1 end ECANCELED" ∷ codes "summary status=8 errno=none turns=1 rounds=1 closing=1 made=0 gone=0 lacks=0" ∷ [])) (codes "wait 0" ∷ []) ≡ true
  pub sleeps : tells (story false 1000000000 80 counted (idle 0 ∷ idle 10 ∷ idle 20 ∷ idle 30 ∷ []) [] None) (text (codes "30" ∷ codes "summary status=0 errno=none turns=8 rounds=4 closing=0 made=0 gone=0 lacks=0" ∷ [])) (codes "wait 0" ∷ codes "wait until 10" ∷ codes "wait until 20" ∷ codes "wait until 30" ∷ []) ≡ true
  pub spent : tells (story false 5 80 counted (idle 0 ∷ idle 10 ∷ []) [] None) (text (codes "summary status=7 errno=none turns=3 rounds=2 closing=1 made=0 gone=0 lacks=0" ∷ [])) (codes "wait 0" ∷ codes "wait until 10" ∷ []) ≡ true
  pub lacking : tells (story false 1000000000 60 makes_two (idle 0 ∷ []) ((1, Entry) ∷ (3, Build) ∷ []) None) (text (codes "summary status=0 errno=none turns=5 rounds=1 closing=0 made=1 gone=1 lacks=2" ∷ [])) (codes "wait 0" ∷ []) ≡ true
  pub halted : tells (story true 1000000000 120 receives (connected (idle 0 ∷ Came (codes "ab") ∷ idle 0 ∷ Came (codes "cd") ∷ [])) [] (Some 40)) (take 40 (text (codes "1 start =0" ∷ codes "1 tcp_connect =1" ∷ codes "1 brecv #3:616263" ∷ codes "abc" ∷ codes "1 print =0" ∷ codes "1 end ok" ∷ codes "freed 1" ∷ codes "summary status=0 errno=none turns=4 rounds=4 closing=0 made=1 gone=1 lacks=0" ∷ []))) (codes "wait 0" ∷ codes "wait 0" ∷ codes "connect 1" ∷ codes "finish 1" ∷ codes "wait 0" ∷ codes "read 1" ∷ codes "wait 0" ∷ codes "read 1" ∷ codes "close 1" ∷ []) ≡ true
  pub halted_early : tells (story true 1000000000 120 receives (connected (idle 0 ∷ Came (codes "ab") ∷ idle 0 ∷ Came (codes "cd") ∷ [])) [] (Some 11)) (codes "1 start =0\n") (codes "wait 0" ∷ codes "wait 0" ∷ codes "connect 1" ∷ codes "finish 1" ∷ codes "close 1" ∷ []) ≡ true
