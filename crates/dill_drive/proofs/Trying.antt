-- The tries of a run: the kernel is asked for what is due, and its reply is heard.
use Rattle.std.proofs.Common.{◌≡◌, ◌∙◌, ℕ, List, [], ◌∷◌, Option, Some, Bool, true, false, Result, Ok, Err, is_err, refl, sym, ap, subst, arith}
use Rattle.std.specs.Io.KnownBytes.{Appends}
use Rattle.rand_core.specs.Stream.{Stream}
use Rattle.dill_base.specs.declared.status.Status.{Status}
use Rattle.dill_base.specs.declared.status.Status.TheVariants as status
use Rattle.dill_calls.specs.declared.ran.Note.{Note}
use Rattle.dill_kernel.specs.declared.replies.KernelAsk.{KernelAsk}
use Rattle.dill_kernel.specs.declared.replies.KernelFault.{KernelFault}
use Rattle.dill_kernel.specs.declared.replies.KernelReply.{KernelReply}
use Rattle.dill_kernel.specs.Entry.{Entry, ReplyHasCause, fits, is_failure, plain}
use Rattle.relay_trace.specs.Flows.{AppendsProper}
use Rattle.dill_drive.specs.declared.progress.Progress.{Progress}
use Rattle.dill_drive.specs.declared.tally.Tally.{Tally}
use Rattle.dill_drive.specs.Asks.{Counted}
use Rattle.dill_drive.specs.Machine.{Machine}
use Rattle.dill_drive.specs.Progress.{Runs, Heard, Hears, IsTrying, KeepsTurns}
use Rattle.dill_drive.specs.Waiting.{note_lines}
use Rattle.dill_drive.specs.Story.{Config, Place, here, showing, Round, Asking, Trying, Turns, Due, Stopping, Closing, Last, Closes, Writing, Over, is_sink, is_well, one_reply}
use Rattle.dill_drive.specs.Leading.{Leads}
use Rattle.dill_drive.proofs.Statuses.{not_sink}
use Rattle.dill_drive.proofs.Steps.{leads_then, shown, hushed, cut, tried}

-- a call without a failure, and one whose failure is its error
pub quiet_cause : (before now : ℕ) → now ≡ before → ReplyHasCause before now false
quiet_cause before now same = record { later = omega (arith, same); rose = λ never. cc; kept = λ _. same }

pub plain_cause : (before now : ℕ) (result : Result (Unit {0}) KernelFault) → ReplyHasCause before now (is_err result) → ReplyHasCause before now (is_failure (plain result))
plain_cause before now (Ok x) cause = cause
plain_cause before now (Err fault) cause = cause

-- the kernel was asked, and what it replied was heard
pub hears : {S K : Type 0} (m : Machine S) (step : K → Entry → K → Type 0) (faults : K → ℕ) (a b : K) (p p' : Progress S) (ask : KernelAsk) (said reply : KernelReply) (keys keys' : Stream)
    → m.next_try p.core ≡ Some ask → said ≡ reply → fits ask reply ≡ true → step a (record { ask = ask; reply = reply }) b → ReplyHasCause (faults a) (faults b) (is_failure reply)
    → ((x : KernelAsk) → m.next_try p.core ≡ Some x → Heard m p p' x said keys keys') → Hears m (Counted step faults) a b p p' ask keys keys'
hears m step faults a b p p' ask said reply keys keys' due same fit one cause heard =
    record { reply = reply; fit = fit; step = (one, cause); heard = subst (λ (r : KernelReply). Heard m p p' ask r keys keys') same (heard ask due) }

-- a reply counts no turn
pub keeps_turns : (ta ta' : Tally) (reply : KernelReply) → ta' ≡ one_reply ta reply → KeepsTurns ta ta'
keeps_turns ta ta' reply is = record { turns = ap (λ (x : Tally). x.turns) is; rounds = ap (λ (x : Tally). x.rounds) is; closing = ap (λ (x : Tally). x.closing) is }

pub keeps_trans : (a b c : Tally) → KeepsTurns a b → KeepsTurns b c → KeepsTurns a c
keeps_trans a b c p q = record { turns = q.turns ∙ p.turns; rounds = q.rounds ∙ p.rounds; closing = q.closing ∙ p.closing }

module _ {S K : Type 0} (m : Machine S) (step : K → Entry → K → Type 0) (a b : K) (v w : S) (ask : KernelAsk) (reply : KernelReply) (ta ta' : Tally) (keys keys' : Stream) (traced : Bool) (most : ℕ) (t u : Option (List ℕ))
    (due : m.next_try v ≡ Some ask) (fit : fits ask reply ≡ true) (one : step a (record { ask = ask; reply = reply }) b) (after : w ≡ (m.hear v ask reply keys).0) (random : keys' ≡ (m.hear v ask reply keys).1) (counted : ta' ≡ one_reply ta reply) where
  by_call : (c d : Config S) → Leads m traced most c d (record { ask = ask; reply = reply } ∷ []) t u → Runs m step a b traced most c d t u
  by_call c d leads = record { entries = record { ask = ask; reply = reply } ∷ []; went = (b, one, refl); leads = leads }

  abbrev lines : List ℕ
  lines = note_lines traced (m.notes (m.hear v ask reply keys).0)

  -- what is known of the notes is known of those after the reply
  written : (notes : List Note) → notes ≡ m.notes w → Appends t u (note_lines traced notes) → Appends t u lines
  written notes said out = rw (said, after) at out

  part : (notes : List Note) → notes ≡ m.notes w → AppendsProper t u (note_lines traced notes) → AppendsProper t u lines
  part notes said q = rw (said, after) at q

  first : (place : Place) (st : Status) → IsTrying place → Leads m traced most (here v place st ta keys) (showing m traced most (here (m.hear v ask reply keys).0 place st (one_reply ta reply) (m.hear v ask reply keys).1) place lines) (record { ask = ask; reply = reply } ∷ []) t t
  first place st is = tried m traced most v place ask reply st ta keys t is due fit

  -- the notes went out
  pub goes : (notes : List Note) (place : Place) (st : Status) → IsTrying place → is_sink st ≡ false → notes ≡ m.notes w → Appends t u (note_lines traced notes) → Runs m step a b traced most (here v place st ta keys) (here w place st ta' keys') t u
  goes notes place st is writes said out =
      let out' = written notes said out in
      rw (after, random, counted) (by_call _ _ (leads_then m traced most _ _ _ (record { ask = ask; reply = reply } ∷ []) t t u (first place st is) (shown m traced most (m.hear v ask reply keys).0 place place lines st (one_reply ta reply) (m.hear v ask reply keys).1 t u writes out')))

  -- they didn't, in a run that nothing had stopped
  stops_at : (place : Place) → IsTrying place → AppendsProper t u lines → Leads m traced most (here v place status.Well ta keys) (here (m.shut (m.hear v ask reply keys).0) Closing status.Sink (one_reply ta reply) (m.hear v ask reply keys).1) (record { ask = ask; reply = reply } ∷ []) t u
  stops_at Trying is q = leads_then m traced most _ _ _ (record { ask = ask; reply = reply } ∷ []) t t u (first Trying status.Well tt) (cut m traced most (m.hear v ask reply keys).0 Trying Trying lines status.Well (one_reply ta reply) (m.hear v ask reply keys).1 t u refl q)
  stops_at Closes is q = leads_then m traced most _ _ _ (record { ask = ask; reply = reply } ∷ []) t t u (first Closes status.Well tt) (cut m traced most (m.hear v ask reply keys).0 Closes Closes lines status.Well (one_reply ta reply) (m.hear v ask reply keys).1 t u refl q)
  stops_at Round is q = absurd is
  stops_at Asking is q = absurd is
  stops_at (Turns left) is q = absurd is
  stops_at (Due left) is q = absurd is
  stops_at Stopping is q = absurd is
  stops_at Closing is q = absurd is
  stops_at Last is q = absurd is
  stops_at (Writing next) is q = absurd is
  stops_at Over is q = absurd is

  pub stops : (y : S) (notes : List Note) (place : Place) → IsTrying place → notes ≡ m.notes w → y ≡ m.shut w → AppendsProper t u (note_lines traced notes) → Runs m step a b traced most (here v place status.Well ta keys) (here y Closing status.Sink ta' keys') t u
  stops y notes place is said shut q =
      let q' = part notes said q in
      rw (shut, after, random, counted) (by_call _ _ (stops_at place is q'))

  -- .. in one that was stopped
  pub breaks : (notes : List Note) (st : Status) → (st ≡ status.Sink → ⊥) → is_well st ≡ false → notes ≡ m.notes w → AppendsProper t u (note_lines traced notes) → Runs m step a b traced most (here v Closes st ta keys) (here w Closes status.Sink ta' keys') t u
  breaks notes st ne stop said q =
      let q' = part notes said q in
      let cut_off = rw stop at (cut m traced most (m.hear v ask reply keys).0 Closes Closes lines st (one_reply ta reply) (m.hear v ask reply keys).1 t u (not_sink st ne) q') in
      rw (after, random, counted) (by_call _ _ (leads_then m traced most _ _ _ (record { ask = ask; reply = reply } ∷ []) t t u (first Closes st tt) cut_off))

  -- after a failed write none is made
  pub silent : u ≡ t → Runs m step a b traced most (here v Closes status.Sink ta keys) (here w Closes status.Sink ta' keys') t u
  silent same =
      let quiet = subst (λ (x : Option (List ℕ)). Leads m traced most (showing m traced most (here (m.hear v ask reply keys).0 Closes status.Sink (one_reply ta reply) (m.hear v ask reply keys).1) Closes lines) (here (m.hear v ask reply keys).0 Closes status.Sink (one_reply ta reply) (m.hear v ask reply keys).1) [] t x) (sym same)
      (hushed m traced most (m.hear v ask reply keys).0 Closes Closes lines status.Sink (one_reply ta reply) (m.hear v ask reply keys).1 t refl) in
      rw (after, random, counted) (by_call _ _ (leads_then m traced most _ _ _ (record { ask = ask; reply = reply } ∷ []) t t u (first Closes status.Sink tt) quiet))
