-- A whole run over a kernel that is a function: its lines, its asks and its counts.
use Rattle.std.specs.Prelude.{codes, decimal, bytes_eq, flat_map, ℕ, zero, suc, ◌+◌, ◌-◌, ◌==◌, List, [], ◌∷◌, ◌++◌, Bool, not, ◌&&◌, ◌||◌, Option, Some, None, if◌then◌else◌, is_some, max}
use Rattle.rand_core.specs.Stream.{Stream}
use Rattle.dill_base.specs.declared.errno.Errno.{Errno}
use Rattle.dill_base.specs.declared.status.Status.{Status}
use Rattle.dill_base.specs.declared.status.Status.TheVariants as status
use Rattle.dill_calls.specs.Program.{Program}
use Rattle.dill_handles.specs.Handles.{gone}
use Rattle.dill_kernel.specs.declared.ready.Limit.{Limit}
use Rattle.dill_kernel.specs.declared.ready.Limit.TheVariants.{NoWait, Until, Forever}
use Rattle.dill_kernel.specs.declared.replies.KernelAsk.{KernelAsk}
use Rattle.dill_kernel.specs.declared.replies.KernelAsk.TheVariants as asks
use Rattle.dill_kernel.specs.declared.replies.KernelReply.{KernelReply}
use Rattle.dill_kernel.specs.declared.replies.KernelReply.TheVariants as replies
use Rattle.relay_trace.specs.declared.summary.Summary.{Summary}
use Rattle.relay_trace.specs.Lines.{line, sized, ran_bytes, note_line, waiting_line, summary_line}
use Rattle.dill_base.specs.Maps.{if_some}
use Rattle.dill_drive.specs.Story.{lacks_by}
use Rattle.dill_rules.specs.Hearing.{fitting}
use Rattle.dill_rules.specs.Trying.{Try, next_try}
use Rattle.dill_rules.specs.State.{State, opening_state, is_answered, turned, ran, expired, shut, woke, hear}
use Rattle.dill_rules.specs.Waiting.{waiters, limit, is_stuck}

pub data Phase : Type 0 where
  Round : Phase
  Tries : Phase
  Turns : ℕ → Phase
  Closing : Phase
  Closes : Phase
  Over : Phase

-- a kernel as a function: its reply, and what it is after it
pub record Outside (N : Type 0) : Type 0 where
  pub says : N → KernelAsk → Option KernelReply
  pub goes : N → KernelAsk → N

-- a run so far
pub record Run (V N : Type 0) : Type 0 where
  pub state : State V
  pub net : N
  pub phase : Phase
  pub status : Status
  pub turns : ℕ
  pub rounds : ℕ
  pub closing : ℕ
  pub lacks : ℕ
  pub out : List ℕ
  pub asks : List ℕ

-- an ask as a line: its word and its link, with the moment of a wait and the bytes of a write
abbrev pub limit_text : Limit → List ℕ
limit_text NoWait = codes "wait 0"
limit_text (Until due) = codes "wait until " ++ decimal due
limit_text Forever = codes "wait"

abbrev pub numbered : List ℕ → ℕ → List ℕ
numbered word link = word ++ codes " " ++ decimal link

abbrev pub ask_text : KernelAsk → List ℕ
ask_text (asks.Wait most) = limit_text most
ask_text (asks.Listen link address backlog) = numbered (codes "listen") link
ask_text (asks.Connect link address) = numbered (codes "connect") link
ask_text (asks.Finish link) = numbered (codes "finish") link
ask_text (asks.Accept listener link) = numbered (numbered (codes "accept") listener) link
ask_text (asks.Write link bytes) = numbered (codes "write") link ++ codes " " ++ sized bytes
ask_text (asks.Shut link) = numbered (codes "shut") link
ask_text (asks.Read link size) = numbered (codes "read") link
ask_text (asks.Close link) = numbered (codes "close") link

-- no link, and a clock that goes on to each deadline
abbrev pub clock_says : ℕ → KernelAsk → Option KernelReply
clock_says moment (asks.Wait NoWait) = Some (replies.Woke moment [])
clock_says moment (asks.Wait (Until due)) = Some (replies.Woke (max moment due) [])
clock_says moment other = None

abbrev pub clock_goes : ℕ → KernelAsk → ℕ
clock_goes moment (asks.Wait (Until due)) = max moment due
clock_goes moment other = moment

abbrev pub clock : Outside ℕ
clock = record { says = clock_says; goes = clock_goes }

-- replies from a list, one for each ask
abbrev pub first_reply : List KernelReply → Option KernelReply
first_reply [] = None
first_reply (reply ∷ rest) = Some reply

abbrev pub list_says : List KernelReply → KernelAsk → Option KernelReply
list_says replies ask = first_reply replies

abbrev pub rest_of : List KernelReply → List KernelReply
rest_of [] = []
rest_of (reply ∷ rest) = rest

-- a close takes none
abbrev pub list_goes : List KernelReply → KernelAsk → List KernelReply
list_goes replies (asks.Close link) = replies
list_goes replies ask = rest_of replies

abbrev pub listed : Outside (List KernelReply)
listed = record { says = list_says; goes = list_goes }

-- a close is done whatever is said
abbrev pub reply_to : {N : Type 0} → Outside N → N → KernelAsk → Option KernelReply
reply_to outside net (asks.Close link) = Some replies.Done
reply_to outside net ask = outside.says net ask

module _ {V N : Type 0} (p : Program V) (outside : Outside N) (traced : Bool) (most : ℕ) where
  -- some bytes go out
  abbrev pub says : Run V N → List ℕ → Run V N
  says r bytes = record r { out = r.out ++ bytes }

  -- the notes of a step, where they are traced
  abbrev pub noted : Run V N → Run V N
  noted r = says r (if traced then flat_map note_line r.state.world.notes else [])

  -- an ask is made
  abbrev pub asking : Run V N → KernelAsk → Run V N
  asking r ask = record r { net = outside.goes r.net ask; asks = r.asks ++ line (ask_text ask) }

  -- the root is closed
  abbrev pub stopped : Run V N → Status → Run V N
  stopped r end = noted (record r { state = shut r.state; phase = Closing; status = end })

  abbrev pub is_spent : Run V N → Bool
  is_spent r = r.turns + r.rounds == most

  abbrev pub has_ended : Run V N → Bool
  has_ended r = is_some r.state.world.ended

  abbrev pub one_turn : Run V N → Run V N
  one_turn r = noted (record r { state = turned p None r.state; out = r.out ++ if_some (ran p None r.state) [] (ran_bytes traced) })

  -- after the wait of a round
  abbrev pub waited : Run V N → Option KernelReply → Run V N
  waited r (Some (replies.Woke moment ready)) = record r { state = woke r.state moment ready; phase = Tries }
  waited r other = stopped r status.Wait

  -- a round begins by its wait
  abbrev pub one_wait : Run V N → KernelAsk → Run V N
  one_wait r ask = waited (record (asking r ask) { rounds = r.rounds + 1 }) (outside.says r.net ask)

  -- a try of the round, or a close behind the run
  abbrev pub one_try : Run V N → Try → Run V N
  one_try r x =
      let said = reply_to outside r.net x.ask in
      noted (record (asking r x.ask) { state = hear r.state said; lacks = lacks_by (fitting x.ask said) r.lacks })

  -- status 1 where `main` ended with an errno
  abbrev pub final : Status → Option (Option Errno) → Status
  final status.Well (Some (Some errno)) = status.Fault
  final other outcome = other

  -- which errno the summary names
  abbrev pub named : Status → Option (Option Errno) → Option Errno
  named status.Fault (Some outcome) = outcome
  named other outcome = None

  abbrev pub summary_of : Run V N → Status → Summary
  summary_of r end = record {
    status = end;
    errno = named end r.state.world.ended;
    turns = r.turns;
    rounds = r.rounds;
    closing = r.closing;
    counts = record { made = r.state.world.handles.last; gone = gone r.state.world.handles; lacks = r.lacks };
  }

  -- the summary is the last line
  abbrev pub finished : Run V N → Status → Run V N
  finished r end = says (record r { phase = Over; status = end }) (summary_line (summary_of r end))

  abbrev pub waits : Run V N → List ℕ
  waits r = flat_map (λ x. waiting_line x.who x.word) (waiters r.state.world)

  abbrev pub step_at : Run V N → Phase → Run V N
  step_at r Round = if has_ended r then record r { phase = Closes }
      else (if is_stuck r.state then stopped (says r (waits r)) status.Stuck
      else (if is_spent r then stopped r status.Spent else one_wait r (asks.Wait (limit r.state))))
  step_at r Tries = if_some (next_try r.state.world) (noted (record r { state = expired r.state; phase = Turns 64 })) (one_try r)
  step_at r (Turns left) = if has_ended r || (not (is_answered r.state) || left == 0) then record r { phase = Round }
      else (if is_spent r then stopped r status.Spent else record (one_turn r) { phase = Turns (left - 1); turns = r.turns + 1 })
  step_at r Closing = if has_ended r then record r { phase = Closes } else record (one_turn r) { closing = r.closing + 1 }
  step_at r Closes = if_some (next_try r.state.world) (finished r (final r.status r.state.world.ended)) (one_try r)
  step_at r Over = r

  abbrev pub step : Run V N → Run V N
  step r = step_at r r.phase

  abbrev pub run_within : ℕ → Run V N → Run V N
  run_within zero r = r
  run_within (suc k) r = run_within k (step r)

abbrev pub begun : {V N : Type 0} → V → Stream → N → Run V N
begun view random net = record { state = opening_state view random; net = net; phase = Round; status = status.Well; turns = 0; rounds = 0; closing = 0; lacks = 0; out = []; asks = [] }

-- lines as one text
abbrev pub text : List (List ℕ) → List ℕ
text lines = flat_map line lines

-- nothing is kept for a call any more
abbrev pub is_settled : {V N : Type 0} → Run V N → Bool
is_settled r = r.state.world.handles.kept == 0 && r.state.world.links.kept == 0

-- a run printed these lines
abbrev pub prints : {V N : Type 0} → Run V N → List (List ℕ) → Bool
prints r lines = is_settled r && bytes_eq r.out (text lines)

-- a run printed these lines and asked so
abbrev pub does : {V N : Type 0} → Run V N → List (List ℕ) → List (List ℕ) → Bool
does r lines asks = prints r lines && bytes_eq r.asks (text asks)
