-- A call that is none of a link sees no random number as it is entered, nor does an end, and no refusal does.
use Rattle.std.proofs.Common.{◌≡◌, ◌∙◌, ◌+◌, ℕ, List, [], ◌∷◌, filter, Bool, false, ◌&&◌, Option, Some, None, is_none, if◌then◌else◌, refl, ap}
use Rattle.std.specs.Option.{option_or}
use Rattle.rand_core.specs.Stream.{Stream}
use Rattle.dill_base.specs.declared.errno.Errno.{Errno}
use Rattle.dill_base.specs.declared.errno.Errno.TheVariants.{Ecanceled}
use Rattle.dill_base.specs.Maps.{if_some}
use Rattle.dill_calls.specs.declared.answer.Answer.TheVariants.{Number, Fault}
use Rattle.dill_calls.specs.declared.call.Call.{Call}
use Rattle.dill_calls.specs.declared.call.Call.TheVariants as calls
use Rattle.dill_calls.specs.declared.lists.Arg.{Arg}
use Rattle.dill_calls.specs.declared.lists.Clause.{Clause}
use Rattle.dill_calls.specs.declared.word.Word.TheVariants as words
use Rattle.dill_calls.specs.CallTable.{word_of, takes_memory}
use Rattle.dill_calls.specs.Program.{Program}
use Rattle.dill_chan.specs.Meetings.{has_ended}
use Rattle.dill_chan.specs.declared.end.Want.TheVariants.{Send}
use Rattle.dill_chan.specs.declared.meeting.Meeting.{Meeting}
use Rattle.dill_chan.specs.declared.meeting.Meeting.TheVariants as meetings
use Rattle.dill_handles.specs.Handles as handles
use Rattle.dill_rules.specs.declared.coroutine.Mode.TheVariants as modes
use Rattle.dill_rules.specs.declared.thing.Thing.{Thing}
use Rattle.dill_rules.specs.declared.thing.Thing.TheVariants as things
use Rattle.dill_rules.specs.World.{World, call_of, reply, pend, set_mode}
use Rattle.dill_rules.specs.Naming.{gifts_of, end_of_clause}
use Rattle.dill_rules.specs.Owning.{entry_of, move}
use Rattle.dill_rules.specs.LinkAnswers.{is_of_link}
use Rattle.dill_rules.specs.Taking.{bundle_of, bundle_named, is_cancelled}
use Rattle.dill_rules.specs.Refusals.{refuse}
use Rattle.dill_rules.specs.Answers.{when, end_named}
use Rattle.dill_rules.specs.Effects.{next_number, add_bundle, bear, close_thing, told, start}
use Rattle.dill_rules.specs.Channeling.{clause_answer, clauses_of, without_bytes, is_waiting, done_at, meeting_of, meet, wait_at, wait_all, first_done, enter_channel}
use Rattle.dill_rules.specs.Entering.{keep_for, perform, is_late, is_too_late, late_answer, meet_deadline, done, enter}
use Rattle.dill_rules.specs.Settling.{close_owned, end}
use Rattle.laws_queue.specs.Lending.{lent}
use Rattle.laws_blind.proofs.Giving.{some_lent, if_lent, fold_lent, move_lent, release_lent, choice_blind}

module _ {V : Type 0} (u : Stream) where
  -- ---- channels

  done_lent : (w : World V) (who end : ℕ) → done_at (lent u w) who end ≡ lent u (done_at w who end)
  done_lent w who end = if_lent u (has_ended w.channels end (Send [])) _ _ refl refl

  first_done_blind : (w : World V) (who index : ℕ) (xs : List Clause) → first_done (lent u w) who index xs ≡ first_done w who index xs
  first_done_blind w who index [] = refl
  first_done_blind w who index (x ∷ xs) = ap (λ r. if is_waiting (meeting_of w who x) then r else Some (index, meeting_of w who x)) (first_done_blind w who (index + 1) xs)

  wait_all_lent : (w : World V) (who index : ℕ) (xs : List Clause) → wait_all (lent u w) who index xs ≡ lent u (wait_all w who index xs)
  wait_all_lent w who index [] = refl
  wait_all_lent w who index (x ∷ xs) =
      ap (λ v. wait_all v who (index + 1) xs) (some_lent u (end_named w (end_of_clause x)) _ _ refl (λ end e. refl)) ∙ wait_all_lent (wait_at w who index x) who (index + 1) xs

  met_lent : (w : World V) (who : ℕ) (call : Call) (index : ℕ) (m : Meeting) → meet (lent u w) who call index m ≡ lent u (meet w who call index m)
  met_lent w who call index (meetings.Met x) = ap (λ v. reply v who (word_of call) (clause_answer call index x.answer)) (some_lent u (call_of w x.other) _ _ refl (λ its e. refl))
  met_lent w who call index meetings.Ended = refl
  met_lent w who call index meetings.Waits = refl

  channel_lent : (w : World V) (who : ℕ) (call : Call) → enter_channel (lent u w) who call ≡ lent u (enter_channel w who call)
  channel_lent w who call =
      let cs = clauses_of call in
      ap (λ o. if_some o (wait_all (pend (lent u w) who (without_bytes call)) who 0 cs) (λ x. meet (lent u w) who call x.0 x.1)) (first_done_blind w who 0 cs)
      ∙ some_lent u (first_done w who 0 cs) _ _ (wait_all_lent (pend w who (without_bytes call)) who 0 cs) (λ x e. met_lent w who call x.0 x.1)

  -- ---- effects

  close_thing_lent : (w : World V) (who number : ℕ) (thing : Thing) → close_thing (lent u w) who number thing ≡ lent u (close_thing w who number thing)
  close_thing_lent w who number (things.Bundle name) = refl
  close_thing_lent w who number thing = ap (λ v. reply v who words.Hclose (Number 0)) (release_lent u w number)

  start_lent : (p : Program V) (w : World V) (view : V) (home program : ℕ) (args : List Arg) → start p (lent u w) view home program args ≡ lent u (start p w view home program args)
  start_lent p w view home program args =
      ap (λ v. bear v (p.child view program (told (next_number w) args)) home) (fold_lent u (λ now number. move now number (w.last_coroutine + 1)) (gifts_of args) w (λ v number. move_lent u v number (w.last_coroutine + 1)))

  perform_lent : (p : Program V) (w : World V) (who : ℕ) (view : V) (call : Call) → is_of_link (word_of call) ≡ false → perform p (lent u w) who view call ≡ lent u (perform p w who view call)
  perform_lent p w who view (calls.Print text) e = refl
  perform_lent p w who view calls.Now e = refl
  perform_lent p w who view calls.Yield e = refl
  perform_lent p w who view (calls.Msleep deadline) e = refl
  perform_lent p w who view (calls.Hmake kind value) e = refl
  perform_lent p w who view (calls.Hquery number kind) e = some_lent u (entry_of w number) _ _ refl (λ x f. refl)
  perform_lent p w who view (calls.Hown number) e = ap (λ v. reply v who words.Hown (Number (next_number w))) (move_lent u w number who)
  perform_lent p w who view (calls.Hclose number) e = some_lent u (entry_of w number) _ _ refl (λ x f. close_thing_lent w who number x.thing)
  perform_lent p w who view calls.Bundle e = refl
  perform_lent p w who view (calls.Go program args) e = ap (λ v. reply v who words.Go (Number (next_number w))) (start_lent p (add_bundle w who) view (w.last_bundle + 1) program args)
  perform_lent p w who view (calls.BundleGo number program args) e = some_lent u (bundle_named w number) _ _ refl (λ home f. ap (λ v. reply v who words.BundleGo (Number 0)) (start_lent p w view home program args))
  perform_lent p w who view (calls.BundleWait number deadline) e = refl
  perform_lent p w who view (calls.Pass word fault) e = refl
  perform_lent p w who view calls.Chmake e = refl
  perform_lent p w who view (calls.Chdone number) e = some_lent u (end_named w number) _ _ refl (λ end f. done_lent w who end)
  perform_lent p w who view (calls.Chsend number bytes deadline) e = channel_lent w who (calls.Chsend number bytes deadline)
  perform_lent p w who view (calls.Chrecv number size deadline) e = channel_lent w who (calls.Chrecv number size deadline)
  perform_lent p w who view (calls.Choose deadline all) e = channel_lent w who (calls.Choose deadline all)
  perform_lent p w who view call e = cc

  -- ---- entries and ends

  -- a call that may be too late is on no stack
  late_blind : (w : World V) (who : ℕ) (call : Call) → is_too_late (lent u w) who call ≡ is_too_late w who call
  late_blind w who (calls.Choose deadline all) =
      ap (λ o. is_late w.moment (calls.Choose deadline all) && is_none (option_or (when (is_cancelled w who) (Fault Ecanceled)) (option_or None o))) (choice_blind u w 0 all)
  late_blind w who call = refl

  meet_lent : (w : World V) (who : ℕ) → meet_deadline (lent u w) who ≡ lent u (meet_deadline w who)
  meet_lent w who = some_lent u (call_of w who) _ _ refl (λ call e.
      ap (λ b. if b then reply (lent u w) who (word_of call) (late_answer call) else lent u w) (late_blind w who call) ∙ if_lent u (is_too_late w who call) _ _ refl refl)

  done_with : (p : Program V) (w : World V) (who : ℕ) (view : V) (call : Call) → is_of_link (word_of call) ≡ false → done p (lent u w) who view call ≡ lent u (done p w who view call)
  done_with p w who view call e =
      let k = keep_for w call in
      ap (λ v. meet_deadline v who) (perform_lent p k who view call e) ∙ meet_lent (perform p k who view call) who

  pub enter_lent : (p : Program V) (lacks : Bool) (w : World V) (who : ℕ) (view : V) (call : Call) → is_of_link (word_of call) ≡ false → enter p lacks (lent u w) who view call ≡ lent u (enter p lacks w who view call)
  enter_lent p lacks w who view call e =
      some_lent u (refuse p w who view call) _ _ (if_lent u (lacks && takes_memory (word_of call)) _ _ refl (done_with p w who view call e)) (λ f g. refl)

  pub end_lent : (w : World V) (who : ℕ) (outcome : Option Errno) → end (lent u w) who outcome ≡ lent u (end w who outcome)
  end_lent w who outcome =
      ap (λ v. set_mode v who (modes.Ending outcome)) (fold_lent u (close_owned who) (filter (handles.is_owned who) w.handles.entries) w (λ v x. some_lent u (bundle_of x.thing) _ _ refl (λ name e. refl)))

  pub refuse_blind : (p : Program V) (w : World V) (who : ℕ) (view : V) (call : Call) → refuse p (lent u w) who view call ≡ refuse p w who view call
  refuse_blind p w who view call = refl
