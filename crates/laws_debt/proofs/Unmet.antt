-- Once nothing is due, nobody who is cancelled is pending in a call that blocks. So whoever is met is not cancelled, or its call is an `hclose`, of which each answer lowers.
use Rattle.std.proofs.Common.{◌≡◌, ◌∙◌, inl, inr, ℕ, Bool, true, false, Option, Some, None, if◌then◌else◌, refl, sym, ap}
use Rattle.std.specs.Option.{option_or}
use Rattle.dill_calls.specs.declared.answer.Answer.{Answer}
use Rattle.dill_calls.specs.declared.call.Call.{Call}
use Rattle.dill_calls.specs.declared.call.Call.TheVariants as calls
use Rattle.dill_calls.specs.CallTable.{word_of}
use Rattle.dill_calls.specs.Program.{Program, Lowers}
use Rattle.dill_rules.specs.declared.coroutine.Coroutine.{Coroutine}
use Rattle.dill_rules.specs.Answers.{answer_of}
use Rattle.dill_rules.specs.Settling.{IsSettled}
use Rattle.dill_rules.specs.Taking.{is_cancelled}
use Rattle.dill_rules.specs.World.{World, coroutine_of, call_of}
use Rattle.laws_queue.proofs.Numbers.{found_number}
use Rattle.laws_sound.proofs.Going.{no_answer, pending_in}
use Rattle.laws_sound.specs.Linkless.{may_wait}
use Rattle.laws_debt.proofs.Walking.{AllSit, PendsIn, call_pends, pending_waits}

pub cancels_some : (c : Bool) (x : Answer) (rest : Option Answer) → c ≡ true → option_or (if c then Some x else None) rest ≡ None → ⊥
cancels_some true x rest e f = let it : ◌≡◌ {A = Option Answer} (Some x) None = f in cc
cancels_some false x rest e f = cc

module _ {V : Type 0} where
  -- nothing is due of who is pending
  pub unanswered : (w : World V) (n : ℕ) (call : Call) → IsSettled w → PendsIn w n call → answer_of w n call ≡ None
  unanswered w n call settled d = ap (λ m. answer_of w m call) (sym (found_number n w.coroutines d.one d.found)) ∙ no_answer w n d.one call settled d.found (pending_in d.one.mode call d.pends)

  lowers_unmet : (w : World V) (n : ℕ) (call : Call) (answer : Answer) → may_wait call ≡ true → is_cancelled w n ≡ true → answer_of w n call ≡ None → Lowers (word_of call) answer
  lowers_unmet w n (calls.Msleep deadline) answer m c e = absurd (cancels_some (is_cancelled w n) _ _ c e)
  lowers_unmet w n (calls.BundleWait number deadline) answer m c e = absurd (cancels_some (is_cancelled w n) _ _ c e)
  lowers_unmet w n (calls.Chsend number bytes deadline) answer m c e = absurd (cancels_some (is_cancelled w n) _ _ c e)
  lowers_unmet w n (calls.Chrecv number size deadline) answer m c e = absurd (cancels_some (is_cancelled w n) _ _ c e)
  lowers_unmet w n (calls.Choose deadline all) answer m c e = absurd (cancels_some (is_cancelled w n) _ _ c e)
  lowers_unmet w n (calls.Hclose number) answer m c e = inr (inl refl)
  lowers_unmet w n _ answer m c e = cc

  pub unmet : (p : Program V) (w : World V) → AllSit p w.coroutines → IsSettled w → (n : ℕ) (call : Call) (answer : Answer) → call_of w n ≡ Some call → ((c : Coroutine V) → coroutine_of w n ≡ Some c → is_cancelled w n ≡ true) → Lowers (word_of call) answer
  unmet p w sits settled n call answer e cancelled =
      let d = call_pends p w n call e in
      lowers_unmet w n call answer (pending_waits p w n call sits d) (cancelled d.one d.found) (unanswered w n call settled d)
