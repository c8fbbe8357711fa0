-- A turn of a program that makes no call of a link, an expiry and a closing look at no random number, and leave a world without links so.
use Rattle.std.proofs.Common.{◌≡◌, ◌∙◌, ◌+◌, ℕ, List, [], ◌∷◌, filter, Bool, true, false, not, ◌&&◌, is_none, Option, Some, None, if◌then◌else◌, refl, ap}
use Rattle.dill_base.specs.declared.errno.Errno.{Errno}
use Rattle.dill_base.specs.declared.errno.Errno.TheVariants.{Enomem}
use Rattle.dill_calls.specs.declared.call.Call.{Call}
use Rattle.dill_calls.specs.declared.call.Call.TheVariants as calls
use Rattle.dill_calls.specs.declared.lists.Arg.{Arg}
use Rattle.dill_calls.specs.declared.ran.LackPlace.{LackPlace}
use Rattle.dill_calls.specs.declared.word.Word.TheVariants as words
use Rattle.dill_calls.specs.CallTable.{word_of, takes_memory}
use Rattle.dill_calls.specs.Program.{Program, Move, Calls, Ends}
use Rattle.rand_core.specs.Stream.{Stream}
use Rattle.dill_handles.specs.Handles as handles
use Rattle.dill_base.specs.Maps.{if_some}
use Rattle.dill_rules.specs.Links.{rested}
use Rattle.dill_rules.specs.declared.coroutine.Coroutine.{Coroutine}
use Rattle.dill_rules.specs.declared.coroutine.Mode.TheVariants as modes
use Rattle.dill_rules.specs.declared.thing.Thing.{Thing}
use Rattle.dill_rules.specs.declared.thing.Thing.TheVariants as things
use Rattle.dill_rules.specs.Naming.{gifts_of}
use Rattle.dill_rules.specs.Kinds.{value_of}
use Rattle.dill_rules.specs.Owning.{entry_of, move, close_bundle, release}
use Rattle.dill_rules.specs.Taking.{bundle_of, bundle_named}
use Rattle.dill_rules.specs.Refusals.{refuse}
use Rattle.dill_rules.specs.Entering.{entered, keep_for, perform, is_late, is_too_late, late_answer, meet_deadline, done, enter, lack_fault}
use Rattle.dill_rules.specs.Expiring.{expire_one}
use Rattle.dill_rules.specs.Settling.{close_owned, close_all, end, settle}
use Rattle.dill_rules.specs.Turning.{is_build, is_entry, as_running, may_lack_build, resume, answer_given, move_of, make_move, lack_move, go_on, turn}
use Rattle.laws_queue.specs.Kept.{root_closed}
use Rattle.laws_queue.specs.Lending.{lent}
use Rattle.dill_rules.specs.LinkAnswers.{is_of_link}
use Rattle.laws_sound.specs.Linkless.{MovesLinkless, may_wait, waits_linkless, IsLinkless}
use Rattle.dill_rules.specs.Naming.{uses_link}
use Rattle.laws_sound.proofs.Lists.{all_change}
use Rattle.dill_base.specs.declared.errno.Errno.TheVariants.{Epipe}
use Rattle.dill_calls.specs.declared.answer.Answer.TheVariants.{Number, Pair, Fault}
use Rattle.dill_calls.specs.declared.lists.Clause.{Clause}
use Rattle.dill_chan.specs.Channels as channels
use Rattle.dill_chan.specs.Meetings.{has_ended}
use Rattle.dill_chan.specs.declared.end.Want.TheVariants.{Send}
use Rattle.dill_chan.specs.declared.meeting.Meeting.{Meeting}
use Rattle.dill_chan.specs.declared.meeting.Meeting.TheVariants as meetings
use Rattle.dill_rules.specs.Answers.{want_of, end_named}
use Rattle.dill_rules.specs.Channeling.{clause_answer, clauses_of, without_bytes, is_waiting, done_at, make_channel, meeting_of, meet, wait_at, wait_all, first_done, enter_channel}
use Rattle.dill_rules.specs.Effects.{make, add_bundle, bear, close_thing, start, give_all, told, next_number, passed_answer}
use Rattle.dill_rules.specs.Naming.{end_of_clause}
use Rattle.dill_rules.specs.World.{World, is_coroutine, coroutine_of, call_of, reply, pend, begin, set_mode}
use Rattle.laws_sound.proofs.Linkless.{linkless_with, set_mode_linkless, pend_linkless, begin_linkless, make_linkless, add_bundle_linkless, close_bundle_linkless, bear_linkless, reply_linkless}
use Rattle.laws_sound.proofs.Settles.{answer_same}
use Rattle.laws_sound.proofs.Steps.{Lent, here, and_so, some_lent, if_lent, fold_lent, replied, reply_behind, move_lent, release_lent, give_lent, settle_lent, call_waits}

-- a deadline from its entry on makes no call another
pub entered_linkless : (moment : ℕ) (call : Call) → is_of_link (word_of call) ≡ false → is_of_link (word_of (entered moment call)) ≡ false
entered_linkless moment (calls.Pass word fault) e = e
entered_linkless moment call e = e

module _ {V : Type 0} (u : Stream) where
  -- ---- channels

  make_channel_lent : (w : World V) (who : ℕ) → IsLinkless w → Lent u (make_channel ((lent u) w) who) (make_channel w who)
  make_channel_lent w who l =
      let ends = channels.next_ends w.channels in
      let more : World V = record w { channels = channels.make w.channels } in
      let first = make_linkless more (things.End ends.0) who refl (linkless_with w more refl refl (λ h. h) (λ h. h) l) in
      record { same = refl; linkless = reply_linkless (make (make more (things.End ends.0) who) (things.End ends.1) who) who words.Chmake (Pair (next_number w) (next_number w + 1)) (make_linkless (make more (things.End ends.0) who) (things.End ends.1) who refl first) }

  done_lent : (w : World V) (who end : ℕ) → IsLinkless w → Lent u (done_at ((lent u) w) who end) (done_at w who end)
  done_lent w who end l =
      let ended : World V = record w { channels = channels.done w.channels end } in
      if_lent u (has_ended w.channels end (Send [])) (reply ((lent u) w) who words.Chdone (Fault Epipe)) (reply ((lent u) ended) who words.Chdone (Number 0)) (reply w who words.Chdone (Fault Epipe)) (reply ended who words.Chdone (Number 0))
      (replied u w who words.Chdone (Fault Epipe) l) (replied u ended who words.Chdone (Number 0) (linkless_with w ended refl refl (λ h. h) (λ h. h) l))

  first_done_blind : (w : World V) (who index : ℕ) (xs : List Clause) → first_done ((lent u) w) who index xs ≡ first_done w who index xs
  first_done_blind w who index [] = refl
  first_done_blind w who index (x ∷ xs) = ap (λ r. if is_waiting (meeting_of w who x) then r else Some (index, meeting_of w who x)) (first_done_blind w who (index + 1) xs)

  wait_all_lent : (w : World V) (who index : ℕ) (xs : List Clause) → IsLinkless w → Lent u (wait_all ((lent u) w) who index xs) (wait_all w who index xs)
  wait_all_lent w who index [] l = here u w l
  wait_all_lent w who index (x ∷ xs) l =
      and_so u (wait_at ((lent u) w) who index x) (wait_at w who index x) (λ v. wait_all v who (index + 1) xs)
      (some_lent u (end_named w (end_of_clause x)) ((lent u) w) w (λ end. record ((lent u) w) { channels = channels.wait w.channels (record { who = who; clause = index; end = end; want = want_of x }) })
      (λ end. record w { channels = channels.wait w.channels (record { who = who; clause = index; end = end; want = want_of x }) }) (here u w l) (λ end e. record { same = refl; linkless = linkless_with w _ refl refl (λ h. h) (λ h. h) l }))
      (λ r. wait_all_lent (wait_at w who index x) who (index + 1) xs r)

  met_lent : (w : World V) (who : ℕ) (call : Call) (index : ℕ) (m : Meeting) → IsLinkless w → Lent u (meet ((lent u) w) who call index m) (meet w who call index m)
  met_lent w who call index (meetings.Met x) l =
      reply_behind u (if_some (call_of w x.other) ((lent u) w) (λ its. reply ((lent u) w) x.other (word_of its) (clause_answer its x.clause x.others))) (if_some (call_of w x.other) w (λ its. reply w x.other (word_of its) (clause_answer its x.clause x.others))) who (word_of call) (clause_answer call index x.answer)
      (some_lent u (call_of w x.other) ((lent u) w) w (λ its. reply ((lent u) w) x.other (word_of its) (clause_answer its x.clause x.others)) (λ its. reply w x.other (word_of its) (clause_answer its x.clause x.others)) (here u w l)
      (λ its e. replied u w x.other (word_of its) (clause_answer its x.clause x.others) l))
  met_lent w who call index meetings.Ended l = replied u w who (word_of call) (clause_answer call index (Fault Epipe)) l
  met_lent w who call index meetings.Waits l = here u w l

  enter_channel_lent : (w : World V) (who : ℕ) (call : Call) → may_wait (without_bytes call) ≡ true → IsLinkless w → Lent u (enter_channel ((lent u) w) who call) (enter_channel w who call)
  enter_channel_lent w who call e l =
      let cs = clauses_of call in
      let bare = without_bytes call in
      let r = some_lent u (first_done w who 0 cs) (wait_all (pend ((lent u) w) who bare) who 0 cs) (wait_all (pend w who bare) who 0 cs) (λ x. meet ((lent u) w) who call x.0 x.1) (λ x. meet w who call x.0 x.1)
      (wait_all_lent (pend w who bare) who 0 cs (pend_linkless w who bare e l)) (λ x f. met_lent w who call x.0 x.1 l) in
      record { same = ap (λ o. if_some o (wait_all (pend ((lent u) w) who bare) who 0 cs) (λ x. meet ((lent u) w) who call x.0 x.1)) (first_done_blind w who 0 cs) ∙ r.same; linkless = r.linkless }

  -- ---- calls

  waits : (w : World V) (who : ℕ) (call : Call) → may_wait call ≡ true → IsLinkless w → Lent u (pend ((lent u) w) who call) (pend w who call)
  waits w who call e l = record { same = refl; linkless = pend_linkless w who call e l }

  close_thing_lent : (w : World V) (who number : ℕ) (thing : Thing) → IsLinkless w → Lent u (close_thing ((lent u) w) who number thing) (close_thing w who number thing)
  close_thing_lent w who number (things.Bundle name) l = waits (close_bundle w who name number) who (calls.Hclose number) refl (close_bundle_linkless w who name number l)
  close_thing_lent w who number (things.End end) l = reply_behind u (release ((lent u) w) number) (release w number) who words.Hclose (Number 0) (release_lent u w number l)
  close_thing_lent w who number (things.Listener link) l = reply_behind u (release ((lent u) w) number) (release w number) who words.Hclose (Number 0) (release_lent u w number l)
  close_thing_lent w who number (things.Socket link) l = reply_behind u (release ((lent u) w) number) (release w number) who words.Hclose (Number 0) (release_lent u w number l)
  close_thing_lent w who number (things.Value kind value) l = reply_behind u (release ((lent u) w) number) (release w number) who words.Hclose (Number 0) (release_lent u w number l)

  module _ (p : Program V) where
    start_lent : (w : World V) (view : V) (home program : ℕ) (args : List Arg) → IsLinkless w → Lent u (start p ((lent u) w) view home program args) (start p w view home program args)
    start_lent w view home program args l =
        let child = p.child view program (told (next_number w) args) in
        let owner = w.last_coroutine + 1 in
        and_so u (give_all ((lent u) w) (gifts_of args) owner) (give_all w (gifts_of args) owner) (λ v. bear v child home)
        (fold_lent u (λ now number. move now number owner) (gifts_of args) w l (λ v n r. move_lent u v n owner r))
        (λ r. record { same = refl; linkless = bear_linkless (give_all w (gifts_of args) owner) child home r })

    perform_lent : (w : World V) (who : ℕ) (view : V) (call : Call) → is_of_link (word_of call) ≡ false → IsLinkless w → Lent u (perform p ((lent u) w) who view call) (perform p w who view call)
    perform_lent w who view (calls.Print text) e l = replied u w who words.Print (Number 0) l
    perform_lent w who view calls.Now e l = replied u w who words.Now (Number w.moment) l
    perform_lent w who view calls.Yield e l = replied u w who words.Yield (Number 0) l
    perform_lent w who view (calls.Msleep deadline) e l = waits w who (calls.Msleep deadline) refl l
    perform_lent w who view (calls.Hmake kind value) e l = replied u (make w (things.Value kind value) who) who words.Hmake (Number (next_number w)) (make_linkless w (things.Value kind value) who refl l)
    perform_lent w who view (calls.Hquery number kind) e l =
        some_lent u (entry_of w number) ((lent u) w) w (λ x. reply ((lent u) w) who words.Hquery (Number (value_of x.thing))) (λ x. reply w who words.Hquery (Number (value_of x.thing))) (here u w l) (λ x f. replied u w who words.Hquery (Number (value_of x.thing)) l)
    perform_lent w who view (calls.Hown number) e l = reply_behind u (move ((lent u) w) number who) (move w number who) who words.Hown (Number (next_number w)) (move_lent u w number who l)
    perform_lent w who view (calls.Hclose number) e l =
        some_lent u (entry_of w number) ((lent u) w) w (λ x. close_thing ((lent u) w) who number x.thing) (λ x. close_thing w who number x.thing) (here u w l) (λ x f. close_thing_lent w who number x.thing l)
    perform_lent w who view calls.Bundle e l = replied u (add_bundle w who) who words.Bundle (Number (next_number w)) (add_bundle_linkless w who l)
    perform_lent w who view (calls.Go program args) e l =
        let made = add_bundle w who in
        reply_behind u (start p ((lent u) made) view (w.last_bundle + 1) program args) (start p made view (w.last_bundle + 1) program args) who words.Go (Number (next_number w)) (start_lent made view (w.last_bundle + 1) program args (add_bundle_linkless w who l))
    perform_lent w who view (calls.BundleGo number program args) e l =
        some_lent u (bundle_named w number) ((lent u) w) w (λ home. reply (start p ((lent u) w) view home program args) who words.BundleGo (Number 0)) (λ home. reply (start p w view home program args) who words.BundleGo (Number 0)) (here u w l)
        (λ home f. reply_behind u (start p ((lent u) w) view home program args) (start p w view home program args) who words.BundleGo (Number 0) (start_lent w view home program args l))
    perform_lent w who view (calls.BundleWait number deadline) e l = waits w who (calls.BundleWait number deadline) refl l
    perform_lent w who view (calls.Pass word fault) e l = replied u w who word (passed_answer fault) l
    perform_lent w who view calls.Chmake e l = make_channel_lent w who l
    perform_lent w who view (calls.Chdone number) e l = some_lent u (end_named w number) ((lent u) w) w (done_at ((lent u) w) who) (done_at w who) (here u w l) (λ end f. done_lent w who end l)
    perform_lent w who view (calls.Chsend number bytes deadline) e l = enter_channel_lent w who (calls.Chsend number bytes deadline) refl l
    perform_lent w who view (calls.Chrecv number size deadline) e l = enter_channel_lent w who (calls.Chrecv number size deadline) refl l
    perform_lent w who view (calls.Choose deadline all) e l = enter_channel_lent w who (calls.Choose deadline all) refl l
    perform_lent w who view _ e l = cc

    late_blind : (w : World V) (who : ℕ) (call : Call) → may_wait call ≡ true → is_too_late ((lent u) w) who call ≡ is_too_late w who call
    late_blind w who call e = ap (λ o. is_late w.moment call && (not (uses_link (word_of call)) && is_none o)) (answer_same w w.coroutines w.links w.place u w.moment w.notes who call e)

    late_lent : (w : World V) (who : ℕ) (call : Call) → may_wait call ≡ true → IsLinkless w → Lent u (if is_too_late ((lent u) w) who call then reply ((lent u) w) who (word_of call) (late_answer call) else (lent u) w) (if is_too_late w who call then reply w who (word_of call) (late_answer call) else w)
    late_lent w who call e l =
        let r = if_lent u (is_too_late w who call) (reply ((lent u) w) who (word_of call) (late_answer call)) ((lent u) w) (reply w who (word_of call) (late_answer call)) w (replied u w who (word_of call) (late_answer call) l) (here u w l) in
        record { same = ap (λ b. if b then reply ((lent u) w) who (word_of call) (late_answer call) else (lent u) w) (late_blind w who call e) ∙ r.same; linkless = r.linkless }

    meet_lent : (w : World V) (who : ℕ) → IsLinkless w → Lent u (meet_deadline ((lent u) w) who) (meet_deadline w who)
    meet_lent w who l =
        some_lent u (call_of w who) ((lent u) w) w (λ call. if is_too_late ((lent u) w) who call then reply ((lent u) w) who (word_of call) (late_answer call) else (lent u) w)
        (λ call. if is_too_late w who call then reply w who (word_of call) (late_answer call) else w) (here u w l) (λ call e. late_lent w who call (call_waits w who call l e) l)

    done_with : (w : World V) (who : ℕ) (view : V) (call : Call) → is_of_link (word_of call) ≡ false → IsLinkless w → Lent u (done p ((lent u) w) who view call) (done p w who view call)
    done_with w who view call e l =
        let k = keep_for w call in
        and_so u (perform p ((lent u) k) who view call) (perform p k who view call) (λ v. meet_deadline v who) (perform_lent k who view call e (linkless_with w k refl refl (λ h. h) (λ h. h) l)) (λ r. meet_lent (perform p k who view call) who r)

    enter_lent : (lacks : Bool) (w : World V) (who : ℕ) (view : V) (call : Call) → is_of_link (word_of call) ≡ false → IsLinkless w → Lent u (enter p lacks ((lent u) w) who view call) (enter p lacks w who view call)
    enter_lent lacks w who view call e l = at (refuse p w who view call)
      where
        at : (o : Option Errno) → Lent u (if_some o (if lacks && takes_memory (word_of call) then reply ((lent u) w) who (word_of call) (Fault Enomem) else done p ((lent u) w) who view call) (λ f. reply ((lent u) w) who (word_of call) (Fault f))) (if_some o (if lacks && takes_memory (word_of call) then reply w who (word_of call) (Fault Enomem) else done p w who view call) (λ f. reply w who (word_of call) (Fault f)))
        at None = if_lent u (lacks && takes_memory (word_of call)) (reply ((lent u) w) who (word_of call) (Fault Enomem)) (done p ((lent u) w) who view call) (reply w who (word_of call) (Fault Enomem)) (done p w who view call) (replied u w who (word_of call) (Fault Enomem) l) (done_with w who view call e l)
        at (Some f) = replied u w who (word_of call) (Fault f) l

    end_lent : (w : World V) (who : ℕ) (outcome : Option Errno) → IsLinkless w → Lent u (end ((lent u) w) who outcome) (end w who outcome)
    end_lent w who outcome l =
        and_so u (close_all ((lent u) w) who) (close_all w who) (λ v. set_mode v who (modes.Ending outcome))
        (fold_lent u (close_owned who) (filter (handles.is_owned who) w.handles.entries) w l
        (λ v x r. some_lent u (bundle_of x.thing) ((lent u) v) v (λ name. close_bundle ((lent u) v) who name x.number) (λ name. close_bundle v who name x.number) (here u v r) (λ name f. record { same = refl; linkless = close_bundle_linkless v who name x.number r })))
        (λ r. record { same = refl; linkless = set_mode_linkless (close_all w who) who (modes.Ending outcome) refl r })

    resume_linkless : (w : World V) (who : ℕ) (view : V) → IsLinkless w → IsLinkless (resume w who view)
    resume_linkless w who view linkless = linkless_with w (resume w who view) refl refl (λ h. h) (all_change waits_linkless (is_coroutine who) (as_running view) w.coroutines (λ c e. refl)) linkless

    make_move_lent : (lacks : Bool) (w : World V) (who : ℕ) (view : V) (move : Move) → MovesLinkless (view, move) → IsLinkless w → Lent u (make_move p lacks ((lent u) w) who view move) (make_move p lacks w who view move)
    make_move_lent lacks w who view (Calls call) e l = enter_lent lacks w who view (entered w.moment call) (entered_linkless w.moment call e) l
    make_move_lent lacks w who view (Ends outcome) e l = end_lent w who outcome l

    lack_lent : (w : World V) (who : ℕ) (move : Move) → IsLinkless w → Lent u (lack_move ((lent u) w) who move) (lack_move w who move)
    lack_lent w who (Calls call) l = replied u w who (word_of call) (Fault (lack_fault w who (word_of call))) l
    lack_lent w who (Ends outcome) l = here u w l

    -- the move of a coroutine that may go on is none of a link
    pub go_on_lent : (lack : Option LackPlace) (w : World V) (who : ℕ) (view : V) → MovesLinkless (move_of p w who view) → IsLinkless w → Lent u (go_on p lack ((lent u) w) who view) (go_on p lack w who view)
    go_on_lent lack w who view e l =
        let next = move_of p w who view in
        let short = p.short view (answer_given w who).1 in
        if_lent u (is_build lack && may_lack_build next.1) (lack_move ((lent u) (resume w who short)) who next.1) (make_move p (is_entry lack) ((lent u) (resume w who next.0)) who next.0 next.1) (lack_move (resume w who short) who next.1) (make_move p (is_entry lack) (resume w who next.0) who next.0 next.1)
        (lack_lent (resume w who short) who next.1 (resume_linkless w who short l)) (make_move_lent (is_entry lack) (resume w who next.0) who next.0 next.1 e (resume_linkless w who next.0 l))

    -- the coroutine that has a turn goes on by a call of no link, or ends
    abbrev pub GoesLinkless : World V → ℕ → Type 0
    GoesLinkless w who = (c : Coroutine V) → coroutine_of w who ≡ Some c → MovesLinkless (move_of p w who c.body)

    pub turn_lent : (lack : Option LackPlace) (w : World V) (who : ℕ) → GoesLinkless w who → IsLinkless w → Lent u (turn p lack ((lent u) w) who) (turn p lack w who)
    turn_lent lack w who goes l =
        some_lent u (coroutine_of w who) ((lent u) w) w (λ c. settle (go_on p lack ((lent u) (begin w)) who c.body)) (λ c. settle (go_on p lack (begin w) who c.body)) (here u w l)
        (λ c e. and_so u (go_on p lack ((lent u) (begin w)) who c.body) (go_on p lack (begin w) who c.body) settle (go_on_lent lack (begin w) who c.body (goes c e) (begin_linkless w l)) (λ r. settle_lent u (go_on p lack (begin w) who c.body) r))

  pub expire_one_lent : (w : World V) (who : ℕ) → IsLinkless w → Lent u (expire_one ((lent u) w) who) (expire_one w who)
  expire_one_lent w who l = some_lent u (call_of w who) ((lent u) w) w _ _ (here u w l) (λ call e. give_lent u w who call (late_answer call) (call_waits w who call l e) l)

module _ {V : Type 0} where
  pub go_on_linkless : (p : Program V) (lack : Option LackPlace) (w : World V) (who : ℕ) (view : V) → MovesLinkless (move_of p w who view) → IsLinkless w → IsLinkless (go_on p lack w who view)
  go_on_linkless p lack w who view e l = (go_on_lent w.random p lack w who view e l).linkless

  pub expire_one_linkless : (w : World V) (who : ℕ) → IsLinkless w → IsLinkless (expire_one w who)
  expire_one_linkless w who l = (expire_one_lent w.random w who l).linkless

  pub closed_linkless : (w : World V) → IsLinkless w → IsLinkless (root_closed w)
  closed_linkless w linkless = record { links = ap rested linkless.links; place = refl; things = linkless.things; calls = linkless.calls }
