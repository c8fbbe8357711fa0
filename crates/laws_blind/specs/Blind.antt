-- What looks at no stack sees no random number: with others lent to its world it does the same, and leaves these.
use Rattle.std.specs.Prelude.{◌≡◌, ℕ, List, Bool, false, Option}
use Rattle.rand_core.specs.Stream.{Stream}
use Rattle.dill_base.specs.declared.errno.Errno.{Errno}
use Rattle.dill_calls.specs.declared.call.Call.{Call}
use Rattle.dill_calls.specs.CallTable.{word_of}
use Rattle.dill_calls.specs.Program.{Program}
use Rattle.dill_kernel.specs.declared.ready.Ready.{Ready}
use Rattle.dill_kernel.specs.declared.replies.KernelReply.{KernelReply}
use Rattle.dill_rules.specs.World.{World}
use Rattle.dill_rules.specs.LinkAnswers.{is_of_link}
use Rattle.dill_rules.specs.Refusals.{refuse}
use Rattle.dill_rules.specs.Entering.{enter}
use Rattle.dill_rules.specs.Trying.{Try}
use Rattle.dill_rules.specs.Expiring.{expire_one}
use Rattle.dill_rules.specs.Hearing.{heard, woken}
use Rattle.dill_rules.specs.Settling.{end}
use Rattle.dill_rules.specs.Lookless.{lookless_of, settle_lookless}
use Rattle.laws_queue.specs.Kept.{Kept, kept_late, lend_kept}
use Rattle.laws_queue.specs.Lending.{lent}

-- So it is of settling without looks, an expiry, all expiries of a step, an end, a call that is none of a link, a reply of the kernel, and a wait.
-- No refusal of any call sees one, nor does what is answered without a look.
pub record SeesNoRandom {V : Type 0} (p : Program V) : Type 0 where
  pub settles : (w : World V) (u : Stream) → settle_lookless (lent u w) ≡ lent u (settle_lookless w)
  pub expires : (w : World V) (who : ℕ) (u : Stream) → expire_one (lent u w) who ≡ lent u (expire_one w who)
  pub late : (k : Kept V) (u : Stream) → kept_late (lend_kept k u) ≡ lend_kept (kept_late k) u
  pub ends : (w : World V) (who : ℕ) (outcome : Option Errno) (u : Stream) → end (lent u w) who outcome ≡ lent u (end w who outcome)
  pub enters : (lacks : Bool) (w : World V) (who : ℕ) (view : V) (call : Call) (u : Stream) → is_of_link (word_of call) ≡ false → enter p lacks (lent u w) who view call ≡ lent u (enter p lacks w who view call)
  pub refuses : (w : World V) (who : ℕ) (view : V) (call : Call) (u : Stream) → refuse p (lent u w) who view call ≡ refuse p w who view call
  pub answers : (w : World V) (who : ℕ) (call : Call) (u : Stream) → lookless_of (lent u w) who call ≡ lookless_of w who call
  pub heard : (w : World V) (x : Try) (said : Option KernelReply) (u : Stream) → heard (lent u w) x said ≡ lent u (heard w x said)
  pub woken : (w : World V) (ready : List Ready) (u : Stream) → woken (lent u w) ready ≡ lent u (woken w ready)
