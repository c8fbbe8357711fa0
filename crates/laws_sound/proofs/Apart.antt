-- Where nobody waits for a stack, the looks behind settling change nothing, and so nothing is due behind them.
use Rattle.std.proofs.Common.{◌≡◌, ◌∙◌, ℕ, zero, suc, List, [], ◌∷◌, length, fold, find, Bool, true, false, not, ◌&&◌, Option, Some, None, if◌then◌else◌, refl, sym, ap, subst}
use Rattle.std.proofs.lemmas.Bool.{and_parts}
use Rattle.std.specs.List.{list_all}
use Rattle.dill_calls.specs.declared.answer.Answer.{Answer}
use Rattle.dill_calls.specs.declared.call.Call.{Call}
use Rattle.dill_calls.specs.declared.call.Call.TheVariants as calls
use Rattle.dill_calls.specs.CallTable.{word_of}
use Rattle.dill_base.specs.Maps.{if_some, first_some}
use Rattle.dill_rules.specs.declared.coroutine.Coroutine.{Coroutine}
use Rattle.dill_rules.specs.declared.coroutine.Mode.{Mode}
use Rattle.dill_rules.specs.declared.coroutine.Mode.TheVariants as modes
use Rattle.dill_rules.specs.Directions.{is_send}
use Rattle.dill_rules.specs.Giving.{give, look_on}
use Rattle.dill_rules.specs.LinkAnswers.{is_on_stack}
use Rattle.dill_rules.specs.Settling.{can_finish, finish, free_all, release_all, answer_due, give_first, settle_one, settle_within, pass_one, pass_all, IsSettled}
use Rattle.dill_rules.specs.World.{World, is_coroutine, with_mode, pending_call}
use Rattle.laws_queue.proofs.Acting.{give_gives}
use Rattle.laws_queue.proofs.Crew.{bare_crew}
use Rattle.laws_queue.proofs.Settling.{settles_all}
use Rattle.laws_sound.specs.Laws.{is_apart, IsApart, SettlesApart}
use Rattle.laws_sound.specs.Linkless.{may_wait, waits_linkless, IsLinkless}
use Rattle.laws_sound.proofs.Lists.{all_change, all_follow, all_without}

pub waits_apart : (mode : Mode) → if_some (pending_call mode) true may_wait ≡ true → is_apart mode ≡ true
waits_apart (modes.Pending (calls.Msleep deadline)) e = refl
waits_apart (modes.Pending (calls.BundleWait number deadline)) e = refl
waits_apart (modes.Pending (calls.Hclose number)) e = refl
waits_apart (modes.Pending (calls.Chsend number bytes deadline)) e = refl
waits_apart (modes.Pending (calls.Chrecv number size deadline)) e = refl
waits_apart (modes.Pending (calls.Choose deadline all)) e = refl
waits_apart (modes.Pending _) e = cc
waits_apart _ e = refl

module _ {V : Type 0} where
  pass_call : (w : World V) (c : Coroutine V) → is_apart c.mode ≡ true → pass_one w c ≡ w
  pass_call w c e = at (pending_call c.mode) e
    where
      by : (call : Call) (b d : Bool) → not b ≡ true → (if b && d then look_on w call else w) ≡ w
      by call true d f = cc
      by call false d f = refl

      at : (o : Option Call) → if_some o true (λ call. not (is_on_stack (word_of call))) ≡ true → if_some o w (λ call. if is_on_stack (word_of call) && not (is_send (word_of call)) then look_on w call else w) ≡ w
      at None f = refl
      at (Some call) f = by call (is_on_stack (word_of call)) (not (is_send (word_of call))) f

  pass_list : (w : World V) (cs : List (Coroutine V)) → list_all (λ c. is_apart c.mode) cs ≡ true → fold pass_one w cs ≡ w
  pass_list w [] e = refl
  pass_list w (c ∷ cs) e =
      let h = and_parts (is_apart c.mode) (list_all (λ d. is_apart d.mode) cs) e in
      ap (λ v. fold pass_one v cs) (pass_call w c h.0) ∙ pass_list w cs h.1

  -- nobody's stack is looked at
  pub pass_apart : (w : World V) → IsApart w → pass_all w ≡ w
  pass_apart w e = pass_list w w.coroutines e

  apart_give : (w : World V) (who : ℕ) (call : Call) (answer : Answer) → IsApart w → IsApart (give w who call answer)
  apart_give w who call answer e =
      let g = give_gives w who call answer in
      subst (λ cs. list_all (λ c. is_apart c.mode) cs ≡ true) (sym g.coroutines) (all_change (λ c. is_apart c.mode) (is_coroutine who) (with_mode (modes.Fresh (word_of call) g.answer)) w.coroutines (λ c f. refl) e)

  apart_one : (w : World V) → IsApart w → IsApart (settle_one w)
  apart_one w e = at (find (can_finish w) w.coroutines)
    where
      first : (o : Option (ℕ × Call × Answer)) → IsApart (if_some o w (λ x. give w x.0 x.1 x.2))
      first None = e
      first (Some x) = apart_give w x.0 x.1 x.2 e

      at : (o : Option (Coroutine V)) → IsApart (if_some o (give_first w) (finish w))
      at None = first (first_some (answer_due w) w.coroutines)
      at (Some c) = all_without (λ d. is_apart d.mode) (is_coroutine c.number) (release_all (free_all w c.number) c.number).coroutines (ap (list_all (λ d. is_apart d.mode)) (bare_crew w c.number).coroutines ∙ e)

  apart_within : (n : ℕ) (w : World V) → IsApart w → IsApart (settle_within n w)
  apart_within zero w e = e
  apart_within (suc n) w e = apart_within n (settle_one w) (apart_one w e)

  -- without links nobody does
  pub linkless_apart : (w : World V) → IsLinkless w → IsApart w
  linkless_apart w linkless = all_follow waits_linkless (λ c. is_apart c.mode) w.coroutines (λ c e. waits_apart c.mode e) linkless.calls

pub settles_apart : (V : Type 0) → SettlesApart V
settles_apart V w e n =
    let done = settle_within (length w.coroutines) w in
    subst IsSettled (sym (pass_apart done (apart_within (length w.coroutines) w e))) (settles_all V w n)
