-- Worked runs whose story, over the same replies, writes the same bytes and asks the same.
use Rattle.std.specs.Prelude.{◌≡◌, ℕ, ◌*◌, List, [], ◌∷◌, ◌&&◌, Bool, true, false, None, codes, bytes_eq, flat_map}
use Rattle.dill_base.specs.declared.deadline.Deadline.TheVariants.{Never}
use Rattle.dill_calls.specs.declared.call.Call.TheVariants as calls
use Rattle.dill_kernel.specs.declared.replies.KernelFault.TheVariants as faults
use Rattle.dill_kernel.specs.declared.replies.KernelReply.{KernelReply}
use Rattle.dill_kernel.specs.declared.replies.KernelReply.TheVariants.{Woke, Done, NotYet, Came, Took, Failed}
use Rattle.dill_drive.specs.Play.{Playing}
use Rattle.relay_trace.specs.Lines.{line}
use Rattle.dill_rules.specs.State.{State}
use Rattle.dill_rows.specs.Play.{Does, Text, Play}
use Rattle.dill_rows.specs.Playing.{played_over, looped, idle, connected}
use Rattle.dill_rows.specs.Runs.{Run, listed, ask_text}
use Rattle.dill_rows.specs.Stories.{story}
use Rattle.dill_rows.specs.Sockets.{tower, accepts, detaches}
use Rattle.dill_rows.specs.Readings.{accepts_closed, connects_cancelled}
use Rattle.dill_rows.specs.InUse.{handshakes, leaving}
use Rattle.dill_rows.specs.Stops.{closes, pinged, ping_comes, refused_beside, both_wait}
use Rattle.dill_rows.specs.Orders.{expires, chain, comes_inside}
use Rattle.dill_rows.specs.Cancelled.{reads_cancelled}
use Rattle.dill_rows.specs.Session.{serves, session_replies}
use Rattle.dill_rows.specs.Outside.{sleeps, looks, wants, without_memory}

-- the bytes and the asks of a run, and those of a story
abbrev pub is_same : {N : Type 0} → Run Play N → Playing (State Play) → Bool
is_same r p = bytes_eq r.out p.bytes && bytes_eq r.asks (flat_map (λ ask. line (ask_text ask)) p.asks)

-- both with a budget, over these replies, in so many steps of the run
abbrev pub agree_within : ℕ → List KernelReply → ℕ → (ℕ → List ℕ → Text) → Bool
agree_within most replies steps table = is_same (played_over listed replies true most steps table) (story true most (3 * steps) table replies [] None)

abbrev pub agree : List KernelReply → ℕ → (ℕ → List ℕ → Text) → Bool
agree replies steps table = agree_within 1000000000 replies steps table

pub record SameStories : Type 0 where
  -- links, layers and handshakes
  pub session : agree session_replies 60 serves ≡ true
  pub detaches : agree (connected (idle 0 ∷ Came (0 ∷ 1 ∷ 97 ∷ 0 ∷ 0 ∷ 120 ∷ 121 ∷ 122 ∷ []) ∷ idle 0 ∷ Took 2 ∷ [])) 50 tower ≡ true
  pub occupied : agree (connected []) 50 handshakes ≡ true
  pub left : agree (connected (idle 0 ∷ Done ∷ Done ∷ [])) 60 leaving ≡ true
  pub listener_closed : agree (idle 0 ∷ idle 0 ∷ Done ∷ []) 40 accepts_closed ≡ true
  pub connect_cancelled : agree (idle 0 ∷ idle 0 ∷ Done ∷ NotYet ∷ idle 5 ∷ idle 5 ∷ idle 9 ∷ []) 50 connects_cancelled ≡ true
  -- bundles, expiry and cancelling
  pub expiry : agree (connected (idle 0 ∷ Done ∷ Done ∷ idle 0 ∷ Done ∷ Done ∷ idle 0 ∷ Done ∷ Done ∷ Done ∷ NotYet ∷ NotYet ∷ NotYet ∷ idle 9 ∷ [])) 80 expires ≡ true
  pub endings : agree (idle 0 ∷ []) 50 chain ≡ true
  pub waiter : agree (idle 0 ∷ []) 50 comes_inside ≡ true
  pub cancelled : agree (connected (idle 0 ∷ Came (codes "abc") ∷ [])) 60 reads_cancelled ≡ true
  -- rounds, waits and stops
  pub moments : agree (idle 0 ∷ idle 5 ∷ idle 3 ∷ idle 6 ∷ []) 40 sleeps ≡ true
  pub rounds : agree (idle 0 ∷ idle 0 ∷ []) 120 looks ≡ true
  pub heat : agree (connected (idle 0 ∷ NotYet ∷ idle 5 ∷ idle 9 ∷ [])) 50 refused_beside ≡ true
  pub memory : agree without_memory 50 wants ≡ true
  pub wait_failed : agree (connected (Failed faults.Other ∷ [])) 40 closes ≡ true
  pub spent : agree_within 4 (connected []) 40 closes ≡ true
  pub stuck : agree (idle 0 ∷ []) 40 both_wait ≡ true
  pub stuck_pong : agree (ping_comes []) 40 (pinged (Does (calls.Msleep Never) ∷ [])) ≡ true

-- the run over the network in memory does what the story does over these replies, which are those of the network
abbrev pub agree_looped : List KernelReply → ℕ → (ℕ → List ℕ → Text) → Bool
agree_looped replies steps table = is_same (looped true 1000000000 steps table) (story true 1000000000 (3 * steps) table replies [] None)

-- Runs over the network in memory, and their stories.
pub record NetworkStories : Type 0 where
  pub wait_failed : agree_looped (idle 0 ∷ idle 0 ∷ Done ∷ idle 0 ∷ NotYet ∷ Failed faults.Other ∷ []) 40 accepts ≡ true
  pub detach : agree_looped (idle 0 ∷ idle 0 ∷ Done ∷ idle 0 ∷ Done ∷ Done ∷ Woke 0 (record { link = 1; read = true; write = false } ∷ []) ∷ Took 2 ∷ NotYet ∷ idle 10 ∷ []) 80 detaches ≡ true
