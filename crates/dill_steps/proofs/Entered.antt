-- A call is entered in one of three ways: refused, refused memory, or done.
use Rattle.std.proofs.Common.{◌≡◌, ◌∙◌, ◌+◌, ℕ, Bool, true, false, ◌&&◌, Some, None, is_none, if◌then◌else◌, refl, ap, sym, arith}
use Rattle.dill_base.specs.declared.errno.Errno.{Errno}
use Rattle.dill_base.specs.declared.errno.Errno.TheVariants.{Enomem}
use Rattle.dill_calls.specs.declared.answer.Answer.TheVariants.{Fault}
use Rattle.dill_calls.specs.declared.call.Call.{Call}
use Rattle.dill_calls.specs.declared.call.Call.TheVariants as calls
use Rattle.dill_calls.specs.CallTable.{word_of, takes_memory}
use Rattle.dill_calls.specs.Program.{Program}
use Rattle.dill_base.specs.Maps.{if_some}
use Rattle.dill_plain.specs.Plain.{is_plain}
use Rattle.dill_rules.specs.World.{World, reply}
use Rattle.dill_rules.specs.Entering.{enter, done, keep_for, may_lack_entry}
use Rattle.dill_rules.specs.Naming.{draws_of}
use Rattle.dill_rules.specs.Refusals.{refuse}
use Rattle.dill_steps.specs.Needs.{needs_memory, is_at_channel}

pub some_of : {A : Type 0} {x y : A} → Some x ≡ Some y → x ≡ y
some_of e = cc

-- what wants memory at its entry takes it
pub needs_takes : (call : Call) → needs_memory call ≡ true → takes_memory (word_of call) ≡ true
needs_takes (calls.Hmake kind value) n = refl
needs_takes (calls.Hown number) n = refl
needs_takes calls.Bundle n = refl
needs_takes (calls.Go program args) n = refl
needs_takes (calls.BundleGo number program args) n = refl
needs_takes calls.Chmake n = refl
needs_takes (calls.Chsend number bytes deadline) n = refl
needs_takes (calls.Chrecv number size deadline) n = refl
needs_takes (calls.Choose deadline all) n = refl
needs_takes _ n = cc

-- what wants none draws no number
draws_none : (call : Call) → is_plain call ≡ true → needs_memory call ≡ false → draws_of call ≡ 0
draws_none (calls.Print text) plain n = refl
draws_none calls.Now plain n = refl
draws_none calls.Yield plain n = refl
draws_none (calls.Msleep deadline) plain n = refl
draws_none (calls.Hquery number kind) plain n = refl
draws_none (calls.Hclose number) plain n = refl
draws_none (calls.BundleWait number deadline) plain n = refl
draws_none (calls.Chdone number) plain n = refl
draws_none (calls.Pass word fault) plain n = refl
draws_none (calls.Hmake kind value) plain n = cc
draws_none (calls.Hown number) plain n = cc
draws_none calls.Bundle plain n = cc
draws_none (calls.Go program args) plain n = cc
draws_none (calls.BundleGo number program args) plain n = cc
draws_none _ plain n = cc

-- nor does what enters clauses at channels
clauses_draw_none : (call : Call) → is_at_channel call ≡ true → draws_of call ≡ 0
clauses_draw_none (calls.Chsend number bytes deadline) at = refl
clauses_draw_none (calls.Chrecv number size deadline) at = refl
clauses_draw_none (calls.Choose deadline all) at = refl
clauses_draw_none _ at = cc

keeps_as_many : {V : Type 0} (w : World V) (call : Call) → draws_of call ≡ 0 → keep_for w call ≡ w
keeps_as_many w call e =
    let none : w.handles.kept + draws_of call ≡ w.handles.kept = omega (arith, e) in
    ap (λ k. record w { handles = record w.handles { kept = k } }) none

pub clauses_keep_none : {V : Type 0} (w : World V) (call : Call) → is_at_channel call ≡ true → keep_for w call ≡ w
clauses_keep_none w call at = keeps_as_many w call (clauses_draw_none call at)

module _ {V : Type 0} (p : Program V) (w : World V) (who : ℕ) (view : V) (call : Call) where
  -- .. and keeps none
  pub keeps_none : is_plain call ≡ true → needs_memory call ≡ false → keep_for w call ≡ w
  keeps_none plain n = keeps_as_many w call (draws_none call plain n)

  pub enters_refused : (lacks : Bool) (e : Errno) → refuse p w who view call ≡ Some e → reply w who (word_of call) (Fault e) ≡ enter p lacks w who view call
  enters_refused lacks e h = sym (ap (λ o. if_some o (if lacks && takes_memory (word_of call) then reply w who (word_of call) (Fault Enomem) else done p w who view call) (λ x. reply w who (word_of call) (Fault x))) h)

  pub enters_lacking : refuse p w who view call ≡ None → takes_memory (word_of call) ≡ true → reply w who (word_of call) (Fault Enomem) ≡ enter p true w who view call
  enters_lacking h t =
      sym (ap (λ o. if_some o (if takes_memory (word_of call) then reply w who (word_of call) (Fault Enomem) else done p w who view call) (λ x. reply w who (word_of call) (Fault x))) h
      ∙ ap (λ b. if b then reply w who (word_of call) (Fault Enomem) else done p w who view call) t)

  pub enters_done : refuse p w who view call ≡ None → done p w who view call ≡ enter p false w who view call
  enters_done h = sym (ap (λ o. if_some o (done p w who view call) (λ x. reply w who (word_of call) (Fault x))) h)

  pub may_lack : refuse p w who view call ≡ None → takes_memory (word_of call) ≡ true → may_lack_entry p w who view call ≡ true
  may_lack h t = ap (λ b. b && is_none (refuse p w who view call)) t ∙ ap is_none h
