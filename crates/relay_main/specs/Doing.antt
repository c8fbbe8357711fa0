-- What is done with a command, and with arguments that are none.
use Rattle.std.specs.Prelude.{◌≡◌, ℕ, List, Option, Bool, true, false}
use Rattle.rand_core.specs.Stream.{Stream}
use Rattle.dill_base.specs.Shelves.{Files}
use Rattle.dill_base.specs.declared.status.Status.{Status}
use Rattle.dill_base.specs.declared.status.Status.TheVariants as status
use Rattle.dill_kernel.specs.Entry.{Entry}
use Rattle.dill_loop.specs.Network.{opening}
use Rattle.dill_loop.specs.Steps.{LoopStep, Looped}
use Rattle.relay_command.specs.declared.command.Mode.{Mode}
use Rattle.relay_command.specs.declared.command.Mode.TheVariants.{Run, Trace, Check, Load}
use Rattle.relay_command.specs.declared.command.Net.{Net}
use Rattle.relay_command.specs.declared.command.Net.TheVariants.{Real, Loop}
use Rattle.relay_main.specs.Checking.{Checks}
use Rattle.relay_main.specs.Outcome.{Says, Still, Shows}
use Rattle.relay_main.specs.Usage.{usage}

-- the kernel over a network in memory in which nothing has happened, with reads of at most so many bytes
abbrev pub begun : ℕ → Looped
begun cut = record { net = opening cut; faults = 0 }

-- A run over a new network in memory with this cut shows what stands behind its status.
pub record LoopShows {W : Type 0} (told : W → Option (List ℕ)) (writes : W → ℕ) (files : Option Files) (name : List ℕ) (traced : Bool) (most cut : ℕ) (shelf shelf' : ℕ) (keys keys' : Stream) (out out' err err' : W) (end : Status) : Type 0 where
  pub net : Looped
  pub shows : Shows (λ old entry new. LoopStep old.net entry new.net) (λ k. k.faults) told writes files name traced most shelf shelf' (begun cut) net keys keys' out out' err err' end

-- arguments that are no command
pub record Refuses {K W : Type 0} (told : W → Option (List ℕ)) (writes : W → ℕ) (shelf shelf' : ℕ) (kernel kernel' : K) (keys keys' : Stream) (out out' err err' : W) (end : Status) : Type 0 where
  pub status : end ≡ status.Words
  pub shelf_same : shelf' ≡ shelf
  pub still : Still kernel kernel' keys keys' out out'
  pub says : Says told writes err err' usage

module _ {K W : Type 0} (step : K → Entry → K → Type 0) (failures : K → ℕ) (told : W → Option (List ℕ)) (writes : W → ℕ) (files : Option Files) where
  -- a run over the network that is named; over the one in memory the kernel isn't used
  abbrev pub RunsOn : Net → List ℕ → Bool → ℕ → ℕ → ℕ → ℕ → K → K → Stream → Stream → W → W → W → W → Status → Type 0
  RunsOn Real name traced most cut shelf shelf' kernel kernel' keys keys' out out' err err' end = Shows step failures told writes files name traced most shelf shelf' kernel kernel' keys keys' out out' err err' end
  RunsOn Loop name traced most cut shelf shelf' kernel kernel' keys keys' out out' err err' end = (kernel' ≡ kernel) × LoopShows told writes files name traced most cut shelf shelf' keys keys' out out' err err' end

  -- loads aren't built yet
  abbrev pub Does : Mode → Net → List ℕ → ℕ → ℕ → ℕ → ℕ → K → K → Stream → Stream → W → W → W → W → Status → Type 0
  Does Run net name most cut shelf shelf' kernel kernel' keys keys' out out' err err' end = RunsOn net name false most cut shelf shelf' kernel kernel' keys keys' out out' err err' end
  Does Trace net name most cut shelf shelf' kernel kernel' keys keys' out out' err err' end = RunsOn net name true most cut shelf shelf' kernel kernel' keys keys' out out' err err' end
  Does Check net name most cut shelf shelf' kernel kernel' keys keys' out out' err err' end = (kernel' ≡ kernel) × (keys' ≡ keys) × Checks told writes files name shelf shelf' out out' err err' end
  Does Load net name most cut shelf shelf' kernel kernel' keys keys' out out' err err' end = Refuses told writes shelf shelf' kernel kernel' keys keys' out out' err err' end
