-- Where nothing is due, who waits for a bundle to be empty waits for somebody who lives in it.
use Rattle.std.proofs.Common.{◌≡◌, ◌∙◌, ℕ, find, true, false, ◌&&◌, Option, Some, None, refl, sym, ap, subst}
use Rattle.std.specs.Option.{option_or}
use Rattle.dill_base.specs.declared.deadline.Deadline.{Deadline}
use Rattle.dill_base.specs.declared.errno.Errno.{Errno}
use Rattle.dill_calls.specs.declared.call.Call.{Call}
use Rattle.dill_calls.specs.declared.call.Call.TheVariants as calls
use Rattle.dill_calls.specs.Program.{Program}
use Rattle.dill_scope.specs.Scopes.{is_empty, owner_of}
use Rattle.dill_base.specs.Maps.{if_some}
use Rattle.dill_rules.specs.declared.coroutine.Closing.{Closing}
use Rattle.dill_rules.specs.declared.coroutine.Coroutine.{Coroutine}
use Rattle.dill_rules.specs.declared.coroutine.Mode.TheVariants as modes
use Rattle.dill_rules.specs.Answers.{answer_of, bundle_dead_as, lost_its_number, when, when_empty}
use Rattle.dill_rules.specs.Owning.{is_dead_as}
use Rattle.dill_rules.specs.Settling.{can_finish, is_clear, IsSettled}
use Rattle.dill_rules.specs.Taking.{bundle_named, is_cancelled}
use Rattle.dill_rules.specs.World.{World, call_of, coroutine_of, is_coroutine, is_ending, pending_call}
use Rattle.laws_queue.specs.Lending.{wordless}
use Rattle.laws_sound.proofs.Lists.{all_found}
use Rattle.laws_sound.specs.Order.{closes, has_bundle, has_closing, IsInOrder}
use Rattle.laws_sound.proofs.Going.{or_none, none_when, none_passes, ending_deeper, no_answer, pending_in}
use Rattle.laws_queue.proofs.Numbers.{found_number}
use Rattle.laws_sound.proofs.Sound.{owner_is}
use Rattle.laws_runs.specs.Waits.{AwaitsLived, ClosesLived, OwnsLived, WaitsForSomebody, WaitingIsForSomebody}

-- ---- who is ending

module _ {V : Type 0} (w : World V) (order : IsInOrder w) (settled : IsSettled w) where
  ends_lived : (who : ℕ) (c : Coroutine V) (outcome : Option Errno) → coroutine_of w who ≡ Some c → c.mode ≡ modes.Ending outcome → OwnsLived w who
  ends_lived who c outcome e f =
      let none : can_finish w c ≡ false = none_passes (can_finish w) (is_coroutine who) w.coroutines c settled.endings e in
      let clear : is_clear w c.number ≡ false = ap (λ m. is_ending m && is_clear w c.number) (sym f) ∙ none in
      let d = ending_deeper w who order.fits (ap (is_clear w) (sym (found_number who w.coroutines c e)) ∙ clear) in
      record { name = d.name; owned = d.owned; lived = d.lived }

  -- ---- who is pending

  -- nothing is answered
  none_answered : (who : ℕ) (c : Coroutine V) (call : Call) → coroutine_of w who ≡ Some c → c.mode ≡ modes.Pending call → answer_of w who call ≡ None
  none_answered who c call e f = ap (λ n. answer_of w n call) (sym (found_number who w.coroutines c e)) ∙ no_answer w who c call settled e f

  record Pends (who : ℕ) (call : Call) : Type 0 where
    one : Coroutine V
    found : coroutine_of w who ≡ Some one
    mode : one.mode ≡ modes.Pending call

  pends : (who : ℕ) (call : Call) → call_of w who ≡ Some call → Pends who call
  pends who call e = at (coroutine_of w who) refl e
    where
      at : (o : Option (Coroutine V)) → coroutine_of w who ≡ o → if_some o None (λ c. pending_call c.mode) ≡ Some call → Pends who call
      at None f g = cc
      at (Some c) f g = record { one = c; found = f; mode = pending_in c.mode call g }

  closes_at : (who number : ℕ) → if_some (find (is_dead_as number) w.closings) false (λ x. has_bundle w who x.bundle) ≡ true → when_empty w (bundle_dead_as w number) ≡ None → ClosesLived w who number
  closes_at who number e f = at (find (is_dead_as number) w.closings) refl e f
    where
      at : (o : Option Closing) → find (is_dead_as number) w.closings ≡ o → if_some o false (λ x. has_bundle w who x.bundle) ≡ true → when_empty w (if_some o None (λ x. Some x.bundle)) ≡ None → ClosesLived w who number
      at None is g h = cc
      at (Some x) is g h = record { name = x.bundle; dead = ap (λ o. if_some o None (λ (y : Closing). Some y.bundle)) is; owned = owner_is (owner_of w.scopes x.bundle) who g; lived = none_when (is_empty w.scopes x.bundle) _ h }

  closes_lived : (who number : ℕ) → call_of w who ≡ Some (calls.Hclose number) → ClosesLived w who number
  closes_lived who number e =
      let it = pends who (calls.Hclose number) e in
      let has : if_some (closes it.one.mode) true (λ n. if_some (find (is_dead_as n) w.closings) false (λ x. has_bundle w it.one.number x.bundle)) ≡ true = all_found (has_closing w) (is_coroutine who) w.coroutines it.one order.waiters it.found in
      let held : if_some (find (is_dead_as number) w.closings) false (λ x. has_bundle w it.one.number x.bundle) ≡ true = ap (λ m. if_some (closes m) true (λ n. if_some (find (is_dead_as n) w.closings) false (λ x. has_bundle w it.one.number x.bundle))) (sym it.mode) ∙ has in
      closes_at who number (ap (λ n. if_some (find (is_dead_as number) w.closings) false (λ x. has_bundle w n x.bundle)) (sym (found_number who w.coroutines it.one it.found)) ∙ held) (none_answered who it.one (calls.Hclose number) it.found it.mode)

  awaits_lived : (who number : ℕ) (deadline : Deadline) → call_of w who ≡ Some (calls.BundleWait number deadline) → AwaitsLived w who number
  awaits_lived who number deadline e =
      let call = calls.BundleWait number deadline in
      let it = pends who call e in
      let first = or_none (when (true && is_cancelled w who) _) (option_or (when (lost_its_number w call) _) (when_empty w (bundle_named w number))) (none_answered who it.one call it.found it.mode) in
      let second = or_none (when (lost_its_number w call) _) (when_empty w (bundle_named w number)) first.1 in
      record {
        going = none_when (is_cancelled w who) _ first.0;
        live = none_when (lost_its_number w call) _ second.0;
        lived = λ name f. none_when (is_empty w.scopes name) _ (ap (when_empty w) (sym f) ∙ second.1);
      }

  waits_for_somebody : WaitsForSomebody w
  waits_for_somebody = record { closing = closes_lived; awaiting = awaits_lived; ending = ends_lived }

module _ {V : Type 0} where
  -- random numbers change nothing of it
  worded : (w : World V) → WaitsForSomebody (wordless w) → WaitsForSomebody w
  worded w h = record {
    closing = λ who number e. let c = h.closing who number e in record { name = c.name; dead = c.dead; owned = c.owned; lived = c.lived };
    awaiting = λ who number deadline e. let c = h.awaiting who number deadline e in record { going = c.going; live = c.live; lived = c.lived };
    ending = λ who c outcome e f. let d = h.ending who c outcome e f in record { name = d.name; owned = d.owned; lived = d.lived };
  }

pub waiting_is_for_somebody : {V : Type 0} (p : Program V) → WaitingIsForSomebody p
waiting_is_for_somebody {V} p s steady =
    let k = steady.even.kept in
    worded s.world (subst (λ (w : World V). WaitsForSomebody w) steady.even.stands.world (waits_for_somebody k.world steady.even.stable.order.order steady.settled))
