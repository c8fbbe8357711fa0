-- What an answer does, by what is kept of its call.
use Rattle.std.proofs.Common.{◌≡◌, ◌∙◌, ℕ, ◌-◌, Option, Some, None, refl, ap, arith}
use Rattle.dill_base.specs.declared.errno.Errno.{Errno}
use Rattle.dill_base.specs.Maps.{if_some}
use Rattle.dill_calls.specs.declared.answer.Answer.{Answer}
use Rattle.dill_calls.specs.declared.answer.Answer.TheVariants.{Fault}
use Rattle.dill_calls.specs.declared.call.Call.{Call}
use Rattle.dill_calls.specs.CallTable.{word_of, named_by}
use Rattle.dill_rules.specs.Giving.{give_closed}
use Rattle.dill_rules.specs.Owning.{release}
use Rattle.dill_rules.specs.World.{World, reply}
use Rattle.dill_giving.specs.declared.asked.Asked.{Asked}
use Rattle.dill_giving.specs.Answering.{fault_in}
use Rattle.dill_giving.specs.Asking.{asked_of}
use Rattle.dill_giving.specs.Releasing.{released}

-- the fault that an answer is
pub fault_is : (answer : Answer) (e : Errno) → fault_in answer ≡ Some e → answer ≡ Fault e
fault_is (Fault n) e is =
    let same : n ≡ e = cc in
    ap (λ k. Fault k) same
fault_is _ e is = cc

module _ {V : Type 0} (w : World V) (who : ℕ) (call : Call) (x : Asked) (is : asked_of call ≡ x) where
  released_at : (o : Option ℕ) → if_some o w (release w) ≡ released w o 0
  released_at None = refl
  released_at (Some number) =
      let none : w.handles.kept ≡ w.handles.kept - 0 = omega arith in
      ap (λ k. release (record w { handles = record w.handles { kept = k } }) number) none

  closed_at : (answer : Answer) → give_closed w who call answer ≡ reply (released w (named_by call) 0) who (word_of call) answer
  closed_at (Fault e) = refl
  closed_at answer = ap (λ u. reply u who (word_of call) answer) (released_at (named_by call))

  pub gave_closed : (answer : Answer) → give_closed w who call answer ≡ reply (released w x.handle 0) who x.word answer
  gave_closed answer = closed_at answer ∙ ap (λ y. reply (released w y.handle 0) who y.word answer) is
