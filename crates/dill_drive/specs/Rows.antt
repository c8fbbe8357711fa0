-- Runs that the definitions compute, from what comes from outside.
use Rattle.std.specs.Prelude.{◌≡◌, ℕ, List, [], ◌∷◌, ◌++◌, Some, Option, Bool, None, true, false, codes}
use Rattle.rand_core.specs.Stream.{Stream}
use Rattle.dill_base.specs.declared.status.Status.{Status}
use Rattle.dill_base.specs.declared.status.Status.TheVariants as status
use Rattle.dill_calls.specs.declared.ran.LackPlace.TheVariants.{Build}
use Rattle.dill_kernel.specs.declared.ready.Limit.TheVariants.{NoWait}
use Rattle.dill_kernel.specs.declared.replies.KernelAsk.{KernelAsk}
use Rattle.dill_kernel.specs.declared.replies.KernelAsk.TheVariants.{Wait}
use Rattle.dill_kernel.specs.declared.replies.KernelReply.{KernelReply}
use Rattle.dill_kernel.specs.declared.replies.KernelReply.TheVariants.{Woke}
use Rattle.dill_rules.specs.State.{State, opening_state}
use Rattle.dill_drive.specs.ByRules.{machine_of}
use Rattle.dill_drive.specs.Prints.{View, printing, starting}
use Rattle.dill_drive.specs.Play.{Lack, Playing, play, opening}

-- words of a generator that draws none
abbrev pub no_random : Stream
no_random = record { u32_after = λ _. 0; u64_after = λ _. 0; bytes_after = λ _ _. [] }

-- two prints
abbrev pub two : View
two = starting (codes "hello" ∷ codes "bye" ∷ [])

abbrev pub hello_bye : List ℕ
hello_bye = codes "hello\nbye\n"

abbrev pub traced_hello_bye : List ℕ
traced_hello_bye = codes "1 start =0\nhello\n1 print =0\nbye\n1 print =0\n1 end ok\n"

abbrev pub summary : List ℕ
summary = codes "summary status=0 errno=none turns=3 rounds=1 closing=0 made=0 gone=0 lacks=0\n"

-- what is seen of a run: its asks, its bytes and its status
pub record Seen : Type 0 where
  pub asks : List KernelAsk
  pub bytes : List ℕ
  pub status : Status

abbrev pub seen : Playing (State View) → Seen
seen p = record { asks = p.asks; bytes = p.bytes; status = p.config.status }

abbrev pub waits_once : List ℕ → Status → Seen
waits_once bytes status = record { asks = Wait NoWait ∷ []; bytes = bytes; status = status }

-- so many steps of the rules, from two prints on
abbrev pub run : Bool → ℕ → List KernelReply → Option ℕ → Playing (State View)
run traced most replies halt = play (machine_of printing) traced most 30 (opening (machine_of printing) traced most (opening_state two no_random) no_random replies [] halt)

-- one wait that told the moment 0 and nothing ready
abbrev pub woke_once : List KernelReply
woke_once = Woke 0 [] ∷ []

-- the refusals that are left of a list at the end
abbrev pub left_of : List Lack → List Lack
left_of lacks = (play (machine_of printing) false 1000 30 (opening (machine_of printing) false 1000 (opening_state two no_random) no_random woke_once lacks None)).lacks

pub record Rows : Type 0 where
  pub two_prints : seen (run false 1000 woke_once None) ≡ waits_once (hello_bye ++ summary) status.Well
  pub two_prints_traced : seen (run true 1000 woke_once None) ≡ waits_once (traced_hello_bye ++ summary) status.Well
  -- the first wait fails: the prints still run, as the closing turns
  pub failed_wait : seen (run false 1000 [] None)
      ≡ waits_once (hello_bye ++ codes "summary status=9 errno=none turns=0 rounds=1 closing=3 made=0 gone=0 lacks=0\n") status.Wait
  -- the second write fails before any byte, and nothing more is written
  pub failed_output : seen (run false 1000 woke_once (Some 6)) ≡ waits_once (codes "hello\n") status.Sink
  -- the summary is cut short
  pub half_a_summary : seen (run false 1000 woke_once (Some 14)) ≡ waits_once (codes "hello\nbye\nsumm") status.Sink
  -- a budget of two: one round and one turn, and the rest after the stop
  pub spent : seen (run false 2 woke_once None)
      ≡ waits_once (hello_bye ++ codes "summary status=7 errno=none turns=1 rounds=1 closing=2 made=0 gone=0 lacks=0\n") status.Spent
  -- a refusal that isn't met stays, and keeps none behind it from being met; a turn meets one at most
  pub unmet_is_left : left_of ((0, Build) ∷ (1, Build) ∷ []) ≡ (0, Build) ∷ []
  pub one_in_a_turn : left_of ((1, Build) ∷ (1, Build) ∷ []) ≡ (1, Build) ∷ []
