-- What answers look at in a world without links.
use Rattle.std.proofs.Common.{◌≡◌, ◌∙◌, ◌+◌, ℕ, List, [], ◌∷◌, true, Option, Some, None, refl, ap}
use Rattle.std.proofs.lemmas.Bool.{and_parts}
use Rattle.std.specs.List.{list_all}
use Rattle.std.specs.Option.{option_or}
use Rattle.dill_calls.specs.declared.answer.Answer.{Answer}
use Rattle.dill_calls.specs.declared.call.Call.{Call}
use Rattle.dill_calls.specs.declared.call.Call.TheVariants as calls
use Rattle.dill_calls.specs.declared.ran.Note.{Note}
use Rattle.rand_core.specs.Stream.{Stream}
use Rattle.dill_base.specs.Maps.{if_some, first_some}
use Rattle.dill_rules.specs.declared.coroutine.Coroutine.{Coroutine}
use Rattle.dill_rules.specs.Links.{Links}
use Rattle.dill_rules.specs.Taking.{is_cancelled}
use Rattle.dill_base.specs.declared.errno.Errno.TheVariants.{Ecanceled}
use Rattle.laws_sound.specs.Linkless.{may_wait, waits_linkless}
use Rattle.dill_calls.specs.declared.answer.Answer.TheVariants as answers
use Rattle.dill_calls.specs.declared.answer.Answer.TheVariants.{Fault}
use Rattle.dill_calls.specs.declared.lists.Clause.{Clause}
use Rattle.dill_chan.specs.declared.end.Want.{Want}
use Rattle.dill_rules.specs.Answers.{answer_of, when, want_of, clause_fault, choice_fault}
use Rattle.dill_rules.specs.Naming.{end_of_clause}
use Rattle.dill_rules.specs.Settling.{answer_due}
use Rattle.dill_rules.specs.World.{World, Place, pending_call}

module _ {V : Type 0} where
  -- the least fault of a choice is the same in worlds where each clause has the same one
  pub choice_same : (v w : World V) → ((number : ℕ) (want : Want) → clause_fault v number want ≡ clause_fault w number want) → (index : ℕ) (xs : List Clause) → choice_fault v index xs ≡ choice_fault w index xs
  choice_same v w h index [] = refl
  choice_same v w h index (x ∷ xs) =
      ap (λ o. if_some o (choice_fault v (index + 1) xs) (λ e. Some (answers.Chosen index (Some e) None))) (h (end_of_clause x) (want_of x))
      ∙ ap (λ r. if_some (clause_fault w (end_of_clause x) (want_of x)) r (λ e. Some (answers.Chosen index (Some e) None))) (choice_same v w h (index + 1) xs)

  -- the same but for what answers of no link don't look at
  abbrev pub changed : World V → List (Coroutine V) → Links → Place → Stream → ℕ → List Note → World V
  changed w ds l place random moment notes = record w { coroutines = ds; links = l; place = place; random = random; moment = moment; notes = notes }

  pub answer_same : (w : World V) (ds : List (Coroutine V)) (l : Links) (place : Place) (random : Stream) (moment : ℕ) (notes : List Note) (n : ℕ) (call : Call) → may_wait call ≡ true → answer_of (changed w ds l place random moment notes) n call ≡ answer_of w n call
  answer_same w ds l place random moment notes n (calls.Msleep deadline) e = refl
  answer_same w ds l place random moment notes n (calls.Hclose number) e = refl
  answer_same w ds l place random moment notes n (calls.BundleWait number deadline) e = refl
  answer_same w ds l place random moment notes n (calls.Chsend number bytes deadline) e = refl
  answer_same w ds l place random moment notes n (calls.Chrecv number size deadline) e = refl
  answer_same w ds l place random moment notes n (calls.Choose deadline all) e = ap (λ o. option_or (when (is_cancelled w n) (Fault Ecanceled)) (option_or None o)) (choice_same (changed w ds l place random moment notes) w (λ number want. refl) 0 all)
  answer_same w ds l place random moment notes n _ e = cc

  due_same : (w v : World V) (n : ℕ) (o : Option Call) → ((call : Call) → may_wait call ≡ true → answer_of v n call ≡ answer_of w n call) → if_some o true may_wait ≡ true → ◌≡◌ {A = Option (ℕ × Call × Answer)} (if_some o None (λ call. if_some (answer_of v n call) None (λ a. Some (n, call, a)))) (if_some o None (λ call. if_some (answer_of w n call) None (λ a. Some (n, call, a))))
  due_same w v n None same e = refl
  due_same w v n (Some call) same e = ap (λ r. if_some r None (λ a. Some (n, call, a))) (same call e)

  -- and so is the first answer that is due
  pub first_same : (w : World V) (ds : List (Coroutine V)) (l : Links) (place : Place) (random : Stream) (moment : ℕ) (notes : List Note) (cs : List (Coroutine V)) → list_all waits_linkless cs ≡ true → first_some (answer_due (changed w ds l place random moment notes)) cs ≡ first_some (answer_due w) cs
  first_same w ds l place random moment notes [] e = refl
  first_same w ds l place random moment notes (c ∷ cs) e =
      let v = changed w ds l place random moment notes in
      let h = and_parts (waits_linkless c) (list_all waits_linkless cs) e in
      ap (λ o. option_or o (first_some (answer_due v) cs)) (due_same w v c.number (pending_call c.mode) (answer_same w ds l place random moment notes c.number) h.0)
      ∙ ap (λ o. option_or (answer_due w c) o) (first_same w ds l place random moment notes cs h.1)
