-- What holds of each state that a run comes through.
use Rattle.std.specs.Prelude.{ℕ, List, Option, Bool}
use Rattle.rand_core.specs.Stream.{Stream}
use Rattle.dill_calls.specs.Program.{Program, Begins}
use Rattle.dill_kernel.specs.declared.replies.KernelReply.{KernelReply}
use Rattle.dill_rules.specs.State.{opening_state}
use Rattle.dill_drive.specs.ByRules.{machine_of}
use Rattle.dill_drive.specs.Play.{Lack, opening, play}
use Rattle.laws_debt.specs.Steady.{IsSteady}

-- Each state of a run from its beginning is steady, however far the run goes and whatever comes from outside.
abbrev pub RunsAreSteady : {V : Type 0} → Program V → Type 0
RunsAreSteady {V} p = (view : V) (random keys : Stream) (traced : Bool) (most : ℕ) (replies : List KernelReply) (lacks : List Lack) (halt : Option ℕ) (n : ℕ) → Begins p view
    → IsSteady p (play (machine_of p) traced most n (opening (machine_of p) traced most (opening_state view random) keys replies lacks halt)).config.state
