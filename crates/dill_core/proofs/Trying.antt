-- Where there are no links, nobody's wait ends by one.
use Rattle.std.proofs.Common.{◌≡◌, ◌∙◌, List, [], ◌∷◌, length, filter_map, not, ◌&&◌, ◌||◌, Bool, true, false, Option, Some, None, if◌then◌else◌, is_some, is_none, nat_lt, refl, ap}
use Rattle.std.proofs.lemmas.Bool.{and_parts}
use Rattle.std.specs.List.{list_all, list_any, cons_option}
use Rattle.std.specs.Option.{option_map}
use Rattle.dill_calls.specs.declared.call.Call.{Call}
use Rattle.dill_calls.specs.declared.call.Call.TheVariants as calls
use Rattle.dill_calls.specs.CallTable.{word_of}
use Rattle.dill_kernel.specs.declared.ready.Limit.TheVariants.{NoWait}
use Rattle.dill_base.specs.Maps.{if_some}
use Rattle.dill_rules.specs.declared.coroutine.Coroutine.{Coroutine}
use Rattle.dill_rules.specs.Naming.{uses_link}
use Rattle.dill_rules.specs.Trying.{Try, tries}
use Rattle.dill_rules.specs.Waiting.{Waiter, waiter_of, until, least_due, has_close, awaits_link}
use Rattle.dill_rules.specs.World.{pending_call}
use Rattle.laws_queue.specs.Kept.{Kept, has_answer, kept_limit, kept_stuck}
use Rattle.laws_sound.specs.Linkless.{may_wait, waits_linkless, IsLinkless}
use Rattle.laws_sound.proofs.Untried.{tries_none, closes_none}

-- a call that may wait without links uses none
uses_none : (call : Call) → may_wait call ≡ true → uses_link (word_of call) ≡ false
uses_none (calls.Msleep deadline) e = refl
uses_none (calls.Hclose number) e = refl
uses_none (calls.BundleWait number deadline) e = refl
uses_none (calls.Chsend number bytes deadline) e = refl
uses_none (calls.Chrecv number size deadline) e = refl
uses_none (calls.Choose deadline all) e = refl
uses_none _ e = cc

module _ {V : Type 0} where
  awaits_at : (c : Coroutine V) (o : Option Call) (ws : List Waiter) → if_some o true may_wait ≡ true → list_any (λ x. uses_link x.word) ws ≡ false → list_any (λ x. uses_link x.word) (cons_option (option_map (λ call. record { who = c.number; word = word_of call }) o) ws) ≡ false
  awaits_at c None ws e r = r
  awaits_at c (Some call) ws e r = ap (λ b. b || list_any (λ (x : Waiter). uses_link x.word) ws) (uses_none call e) ∙ r

  awaits_none : (cs : List (Coroutine V)) → list_all waits_linkless cs ≡ true → list_any (λ x. uses_link x.word) (filter_map waiter_of cs) ≡ false
  awaits_none [] e = refl
  awaits_none (c ∷ cs) e =
      let b = and_parts (waits_linkless c) (list_all waits_linkless cs) e in
      awaits_at c (pending_call c.mode) (filter_map waiter_of cs) b.0 (awaits_none cs b.1)

  -- where nobody has an answer the next wait lasts until the least deadline
  pub limit_is : (k : Kept V) → IsLinkless k.world → has_answer k.ready ≡ false → kept_limit k ≡ until (least_due k.world)
  limit_is k linkless none =
      ap (λ (xs : List Try). if has_answer k.ready || nat_lt 0 (length xs) then NoWait else until (least_due k.world)) (tries_none k.world linkless) ∙ ap (λ b. if b || false then NoWait else until (least_due k.world)) none

  pub no_limit : (k : Kept V) → has_answer k.ready ≡ true → kept_limit k ≡ NoWait
  no_limit k some = ap (λ b. if b || nat_lt 0 (length (tries k.world)) then NoWait else until (least_due k.world)) some

  -- and where there is no deadline either, nobody can go on
  pub stuck_is : (k : Kept V) → IsLinkless k.world → has_answer k.ready ≡ false → kept_stuck k ≡ is_none (least_due k.world)
  stuck_is k linkless none =
      ap (λ (xs : List Try). not (has_answer k.ready || nat_lt 0 (length xs)) && (not (awaits_link k.world) && is_none (least_due k.world))) (closes_none k.world linkless)
      ∙ ap (λ b. not (has_answer k.ready || false) && (not b && is_none (least_due k.world))) (awaits_none k.world.coroutines linkless.calls)
      ∙ ap (λ b. not (b || false) && is_none (least_due k.world)) none

  pub not_stuck : (k : Kept V) → has_answer k.ready ≡ true → kept_stuck k ≡ false
  not_stuck k some = ap (λ b. not (b || has_close k.world) && (not (awaits_link k.world) && is_none (least_due k.world))) some

pub none_is : {X : Type 0} (o : Option X) (b : Bool) → is_some o ≡ not b → b ≡ is_none o
none_is None true e = refl
none_is None false e = cc
none_is (Some x) true e = cc
none_is (Some x) false e = refl
