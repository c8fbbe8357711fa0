-- What holds of bundles, handles and closings alone, and lasts over each change of these, lasts over every call, answer, reply and ending, whatever is called.
use Rattle.std.proofs.Common.{◌≡◌, ◌+◌, ◌==◌, ℕ, zero, suc, List, [], ◌∷◌, ◌++◌, length, fold, filter, reverse, find, Bool, true, false, ◌&&◌, ◌||◌, Option, Some, None, if◌then◌else◌, refl, sym, ap, subst}
use Rattle.std.specs.List.{AllByRecursion}
use Rattle.dill_base.specs.declared.errno.Errno.{Errno}
use Rattle.dill_base.specs.declared.errno.Errno.TheVariants.{Enomem, Epipe}
use Rattle.dill_base.specs.Maps.{if_some, first_some, change, without}
use Rattle.dill_calls.specs.declared.answer.Answer.{Answer}
use Rattle.dill_calls.specs.declared.answer.Answer.TheVariants.{Number, Fault}
use Rattle.dill_calls.specs.declared.call.Call.{Call}
use Rattle.dill_calls.specs.declared.call.Call.TheVariants as calls
use Rattle.dill_calls.specs.declared.lists.Arg.{Arg}
use Rattle.dill_calls.specs.declared.lists.Clause.{Clause}
use Rattle.dill_calls.specs.declared.ran.LackPlace.{LackPlace}
use Rattle.dill_calls.specs.declared.ran.Note.TheVariants.{Moved, Freed}
use Rattle.dill_calls.specs.declared.word.Word.TheVariants as words
use Rattle.dill_calls.specs.CallTable.{word_of, named_by, blocks, gives_up, takes_memory}
use Rattle.dill_calls.specs.Program.{Program, Move, Calls, Ends}
use Rattle.dill_chan.specs.declared.end.Want.TheVariants.{Send}
use Rattle.dill_chan.specs.declared.meeting.Meeting.{Meeting}
use Rattle.dill_chan.specs.declared.meeting.Meeting.TheVariants as meetings
use Rattle.dill_chan.specs.Channels as channels
use Rattle.dill_chan.specs.Meetings.{has_ended}
use Rattle.dill_handles.specs.Handles as handles
use Rattle.dill_handles.specs.declared.entry.Entry.{Entry}
use Rattle.dill_scope.specs.Scopes as scopes
use Rattle.dill_scope.specs.Scopes.{Scopes}
use Rattle.dill_stack.specs.Interface.{attach, detach_start}
use Rattle.dill_stack.specs.declared.parting.Parting.{Parting}
use Rattle.dill_rules.specs.declared.coroutine.Closing.{Closing}
use Rattle.dill_rules.specs.declared.coroutine.Coroutine.{Coroutine}
use Rattle.dill_rules.specs.declared.thing.Thing.{Thing}
use Rattle.dill_rules.specs.declared.thing.Thing.TheVariants as things
use Rattle.dill_rules.specs.Answers.{end_named}
use Rattle.dill_rules.specs.Channeling.{without_bytes, done_at, clauses_of, first_done, wait_at, wait_all, meet, enter_channel}
use Rattle.dill_rules.specs.Directions.{is_send, is_receive, is_handshake, layer_of, parting_of}
use Rattle.dill_rules.specs.Effects.{add_bundle, close_thing, start, give_all}
use Rattle.dill_rules.specs.Entering.{keep_for, perform_on_link, perform, is_too_late, late_answer, meet_deadline, done, enter, entered}
use Rattle.dill_rules.specs.Expiring.{expire_one}
use Rattle.dill_rules.specs.Giving.{is_read, look_on, after_send, give_send, give_receive, give_number, give_attached, give_closed, forgo, give_forgone, give_class, give, is_connecting_for}
use Rattle.dill_rules.specs.Kinds.{value_of}
use Rattle.dill_rules.specs.LinkAnswers.{is_tcp_close}
use Rattle.dill_rules.specs.Linking.{with_random, greet_by, ask_stack, heat, enter_send, enter_receive, enter_link, put_layer, enter_attach, given_up_at_once, give_stack_up, begin_detach, begin_giving_up, dropped_for, enter_giving_up, enter_handshake}
use Rattle.dill_rules.specs.Links.{with_stack, as_closing}
use Rattle.dill_rules.specs.Links as link
use Rattle.dill_rules.specs.Naming.{gifts_of, links, draws_of, end_of_clause}
use Rattle.dill_rules.specs.Owning.{entry_of, take_thing, take, move, drop, release, close_bundle, is_dead_as, is_closing_of, free_bundle}
use Rattle.dill_rules.specs.Refusals.{refuse}
use Rattle.dill_rules.specs.Settling.{close_owned, end, can_finish, highest_first, is_owned_by, free_all, release_all, outcome_of, finish, answer_due, give_first, settle_one, settle_within, settle}
use Rattle.dill_rules.specs.Sockets.{on_link, on_named}
use Rattle.dill_rules.specs.Taking.{bundle_of, bundle_named}
use Rattle.dill_rules.specs.Turning.{is_build, is_entry, may_lack_build, resume, answer_given, move_of, make_move, lack_move, go_on}
use Rattle.dill_rules.specs.World.{World, call_of, reply, pend, note, from_start}
use Rattle.laws_sound.specs.Linkless.{may_wait, IsLinkless}
use Rattle.laws_sound.proofs.Steps.{first_waits}
use Rattle.laws_queue.proofs.Besides.{Besides, on_named_besides, ask_stack_besides, heat_besides, ready_besides, queue_besides, dropped_besides, look_besides, pass_all_besides}
use Rattle.laws_queue.proofs.Lists.{all_found, all_filter, found_passes, number_of}

-- bundles, handles and closings of a world
pub record Parts : Type 0 where
  pub scopes : Scopes
  pub entries : List (Entry Thing)
  pub last : ℕ
  pub closings : List Closing
  pub last_bundle : ℕ

abbrev pub parts : {V : Type 0} → World V → Parts
parts w = record { scopes = w.scopes; entries = w.handles.entries; last = w.handles.last; closings = w.closings; last_bundle = w.last_bundle }

abbrev pub made : Parts → Thing → ℕ → Parts
made p thing owner = record p { entries = p.entries ++ record { number = p.last + 1; thing = thing; owner = owner } ∷ []; last = p.last + 1 }

abbrev pub retired : Parts → ℕ → Parts
retired p number = record p { entries = without (handles.is_entry number) p.entries }

abbrev pub closed : Parts → ℕ → ℕ → ℕ → Parts
closed p owner name number = record (retired p number) { scopes = scopes.close (scopes.take p.scopes name owner) name; closings = p.closings ++ record { bundle = name; number = number } ∷ [] }

abbrev pub freed : Parts → Closing → Parts
freed p x = record p { scopes = scopes.drop_bundle p.scopes x.bundle; closings = without (is_closing_of x.bundle) p.closings }

abbrev pub bundled : Parts → ℕ → Parts
bundled p who = record (made p (things.Bundle (p.last_bundle + 1)) who) { scopes = scopes.bundle p.scopes (p.last_bundle + 1) who; last_bundle = p.last_bundle + 1 }

-- it lasts as numbers, closings and homes are gone
pub record Clearing (I : Parts → Type 0) : Type 0 where
  pub retires : (p : Parts) (number : ℕ) → I p → I (retired p number)
  pub frees : (p : Parts) (x : Closing) → I p → I (freed p x)
  pub ends : (p : Parts) (who : ℕ) → I p → I (record p { scopes = scopes.ended p.scopes who })

-- It lasts over each change, over a closing where that may be. What is known of each live number may be used where that number is moved, or its bundle is closed.
pub record Lasting (Known : ℕ → Entry Thing → Type 0) (C : Type 0) (I : Parts → Type 0) : Type 0 where
  pub known : (p : Parts) → I p → AllByRecursion (Known p.last_bundle) p.entries
  pub takes : (p : Parts) (name owner : ℕ) → I p → I (record p { scopes = scopes.take p.scopes name owner })
  pub owns : (p : Parts) (number owner : ℕ) → I p → I (record p { entries = change (handles.is_entry number) (handles.with_owner owner) p.entries })
  pub makes : (p : Parts) (thing : Thing) (owner : ℕ) → bundle_of thing ≡ None → I p → I (made p thing owner)
  pub moves : (p : Parts) (number owner : ℕ) (x : Entry Thing) → Known p.last_bundle x → I p → I (made (retired p number) x.thing owner)
  pub closes : C → (p : Parts) (owner name number : ℕ) (x : Entry Thing) → x.number ≡ number → bundle_of x.thing ≡ Some name → Known p.last_bundle x → I p → I (closed p owner name number)
  pub bundles : (p : Parts) (who : ℕ) → I p → I (bundled p who)
  pub bears : (p : Parts) (home who : ℕ) → I p → I (record p { scopes = scopes.enter p.scopes home who })
  pub clears : Clearing I

-- the call that closes a bundle
abbrev pub closes_bundle : Call → Bool
closes_bundle (calls.Hclose number) = true
closes_bundle _ = false

module _ {V : Type 0} (I : Parts → Type 0) where
  abbrev pub Holds : World V → Type 0
  Holds w = I (parts w)

  pub either : {A : Type 0} (o : Option A) (w : World V) (f : A → World V) → Holds w → ((a : A) → o ≡ Some a → Holds (f a)) → Holds (if_some o w f)
  either None w f h g = h
  either (Some a) w f h g = g a refl

  pub which : (b : Bool) (v w : World V) → Holds v → Holds w → Holds (if b then v else w)
  which true v w h g = h
  which false v w h g = g

  pub each : {A : Type 0} (f : World V → A → World V) (xs : List A) (w : World V) → ((v : World V) (a : A) → Holds v → Holds (f v a)) → Holds w → Holds (fold f w xs)
  each f [] w g h = h
  each f (x ∷ xs) w g h = each f xs (f w x) g (g w x h)

  pub beside : {w v : World V} → Besides w v → Holds w → Holds v
  beside b h = subst I (sym (ap (λ (u : World V). parts u) b.same)) h

  named_lasts : (call : Call) (w : World V) (f : ℕ → World V) → Holds w → ((number : ℕ) → Holds (f number)) → Holds (if_some (named_by call) w f)
  named_lasts call w f h g = either (named_by call) w f h (λ number e. g number)

  take_thing_by : (w : World V) (thing : Thing) (owner : ℕ) → ((name : ℕ) → bundle_of thing ≡ Some name → I (record (parts w) { scopes = scopes.take w.scopes name owner })) → Holds w → Holds (take_thing w thing owner)
  take_thing_by w (things.Bundle name) owner k h = k name refl
  take_thing_by w (things.End end) owner k h = h
  take_thing_by w (things.Listener link) owner k h = h
  take_thing_by w (things.Socket link) owner k h = h
  take_thing_by w (things.Value kind value) owner k h = h

  -- over a move, where it lasts over the new number and then over the new owner
  pub move_by : (w : World V) (number owner : ℕ) → ((x : Entry Thing) → entry_of w number ≡ Some x → I (made (retired (parts w) number) x.thing owner)) → ((x : Entry Thing) (name : ℕ) → entry_of w number ≡ Some x → bundle_of x.thing ≡ Some name → I (record (made (retired (parts w) number) x.thing owner) { scopes = scopes.take w.scopes name owner })) → Holds w → Holds (move w number owner)
  move_by w number owner m k h =
      either (entry_of w number) w (λ x. note (take_thing (record w { handles = handles.renumber w.handles number x.thing owner }) x.thing owner) (Moved number (handles.next_number w.handles))) h
      (λ x e. take_thing_by (record w { handles = handles.renumber w.handles number x.thing owner }) x.thing owner (λ name f. k x name e f) (m x e))

  -- ---- channels

  wait_lasts : (w : World V) (who index : ℕ) (xs : List Clause) → Holds w → Holds (wait_all w who index xs)
  wait_lasts w who index [] h = h
  wait_lasts w who index (x ∷ xs) h = wait_lasts (wait_at w who index x) who (index + 1) xs (either (end_named w (end_of_clause x)) w _ h (λ end e. h))

  meeting_lasts : (w : World V) (who : ℕ) (call : Call) (index : ℕ) (m : Meeting) → Holds w → Holds (meet w who call index m)
  meeting_lasts w who call index (meetings.Met x) h = either (call_of w x.other) w _ h (λ other e. h)
  meeting_lasts w who call index meetings.Ended h = h
  meeting_lasts w who call index meetings.Waits h = h

  pub channel_lasts : (w : World V) (who : ℕ) (call : Call) → Holds w → Holds (enter_channel w who call)
  channel_lasts w who call h = at (first_done w who 0 (clauses_of call))
    where
      at : (o : Option (ℕ × Meeting)) → Holds (if_some o (wait_all (pend w who (without_bytes call)) who 0 (clauses_of call)) (λ x. meet w who call x.0 x.1))
      at None = wait_lasts (pend w who (without_bytes call)) who 0 (clauses_of call) h
      at (Some x) = meeting_lasts w who call x.0 x.1 h

  pub done_at_lasts : (w : World V) (who end : ℕ) → Holds w → Holds (done_at w who end)
  done_at_lasts w who end h = which (has_ended w.channels end (Send [])) (reply w who words.Chdone (Fault Epipe)) (reply (record w { channels = channels.done w.channels end }) who words.Chdone (Number 0)) h h

  pub meet_lasts : (w : World V) (who : ℕ) → Holds w → Holds (meet_deadline w who)
  meet_lasts w who h =
      either (call_of w who) w (λ call. if is_too_late w who call then reply w who (word_of call) (late_answer call) else w) h
      (λ call e. which (is_too_late w who call) (reply w who (word_of call) (late_answer call)) w h h)

  module _ (c : Clearing I) where
    drop_lasts : (w : World V) (thing : Thing) → Holds w → Holds (drop w thing)
    drop_lasts w (things.Bundle name) h = h
    drop_lasts w (things.End end) h = h
    drop_lasts w (things.Listener link) h = h
    drop_lasts w (things.Socket link) h = h
    drop_lasts w (things.Value kind value) h = h

    pub release_lasts : (w : World V) (number : ℕ) → Holds w → Holds (release w number)
    release_lasts w number h =
        either (entry_of w number) w (λ x. note (drop (record w { handles = handles.retire w.handles number }) x.thing) (Freed number)) h
        (λ x e. drop_lasts (record w { handles = handles.retire w.handles number }) x.thing (c.retires (parts w) number h))

    pub close_by : (w : World V) (who number : ℕ) (thing : Thing) → ((name : ℕ) → bundle_of thing ≡ Some name → I (closed (parts w) who name number)) → Holds w → Holds (close_thing w who number thing)
    close_by w who number (things.Bundle name) k h = k name refl
    close_by w who number (things.End end) k h = release_lasts w number h
    close_by w who number (things.Listener link) k h = release_lasts w number h
    close_by w who number (things.Socket link) k h = release_lasts w number h
    close_by w who number (things.Value kind value) k h = release_lasts w number h

    freed_lasts : (w : World V) (number : ℕ) → Holds w → Holds (if_some (find (is_dead_as number) w.closings) w (free_bundle w))
    freed_lasts w number h = either (find (is_dead_as number) w.closings) w (free_bundle w) h (λ x e. c.frees (parts w) x h)

    finish_lasts : (w : World V) (one : Coroutine V) → Holds w → Holds (finish w one)
    finish_lasts w one h =
        let free = free_all w one.number in
        let bare = release_all free one.number in
        let fewer = each free_bundle (highest_first (filter (is_owned_by w one.number) w.closings)) w (λ v x i. c.frees (parts v) x i) h in
        let bare_lasts = each release (reverse (handles.numbers_of free.handles one.number)) free (λ v n i. release_lasts v n i) fewer in
        at (one.number == 1) bare bare_lasts
      where
        at : (b : Bool) (v : World V) → Holds v → I (record (parts (if b then from_start (record v { ended = Some (outcome_of one.mode) }) else v)) { scopes = scopes.ended v.scopes one.number })
        at true v i = c.ends (parts v) one.number i
        at false v i = c.ends (parts v) one.number i

    -- an answer of a call that waits for no link
    quiet_lasts : (w : World V) (who : ℕ) (call : Call) (answer : Answer) → may_wait call ≡ true → Holds w → Holds (give w who call answer)
    quiet_lasts w who (calls.Msleep deadline) answer e h = h
    quiet_lasts w who (calls.BundleWait number deadline) answer e h = h
    quiet_lasts w who (calls.Chsend number bytes deadline) answer e h = h
    quiet_lasts w who (calls.Chrecv number size deadline) answer e h = h
    quiet_lasts w who (calls.Choose deadline all) answer e h = h
    quiet_lasts w who (calls.Hclose number) answer e h = freed_lasts w number h
    quiet_lasts w who _ answer e h = cc

    settle_one_by : (w : World V) → ((x : ℕ × Call × Answer) → first_some (answer_due w) w.coroutines ≡ Some x → Holds (give w x.0 x.1 x.2)) → Holds w → Holds (settle_one w)
    settle_one_by w k h = at (find (can_finish w) w.coroutines)
      where
        at : (o : Option (Coroutine V)) → Holds (if_some o (give_first w) (finish w))
        at None = either (first_some (answer_due w) w.coroutines) w (λ x. give w x.0 x.1 x.2) h k
        at (Some c) = finish_lasts w c h

    -- a step of settling of a world without links
    pub settle_one_quiet : (w : World V) → IsLinkless w → Holds w → Holds (settle_one w)
    settle_one_quiet w linkless h = settle_one_by w (λ x e. quiet_lasts w x.0 x.1 x.2 (first_waits w w.coroutines x linkless.calls e) h) h

  module _ (Known : ℕ → Entry Thing → Type 0) (C : Type 0) (l : Lasting Known C I) where
    -- ---- effects

    known_of : (w : World V) (number : ℕ) (x : Entry Thing) → entry_of w number ≡ Some x → Holds w → Known w.last_bundle x
    known_of w number x e h = all_found (Known w.last_bundle) (handles.is_entry number) x w.handles.entries e (l.known (parts w) h)

    take_thing_lasts : (w : World V) (thing : Thing) (owner : ℕ) → Holds w → Holds (take_thing w thing owner)
    take_thing_lasts w thing owner h = take_thing_by w thing owner (λ name e. l.takes (parts w) name owner h) h

    take_lasts : (w : World V) (number owner : ℕ) → Holds w → Holds (take w number owner)
    take_lasts w number owner h = either (entry_of w number) w _ h (λ x e. take_thing_lasts (record w { handles = handles.set_owner w.handles number owner }) x.thing owner (l.owns (parts w) number owner h))

    move_lasts : (w : World V) (number owner : ℕ) → Holds w → Holds (move w number owner)
    move_lasts w number owner h =
        let moved : (x : Entry Thing) → entry_of w number ≡ Some x → I (made (retired (parts w) number) x.thing owner) = λ x e. l.moves (parts w) number owner x (known_of w number x e h) h in
        move_by w number owner moved (λ x name e f. l.takes (made (retired (parts w) number) x.thing owner) name owner (moved x e)) h

    give_all_lasts : (w : World V) (numbers : List ℕ) (owner : ℕ) → Holds w → Holds (give_all w numbers owner)
    give_all_lasts w numbers owner h = each (λ now number. move now number owner) numbers w (λ v n i. move_lasts v n owner i) h

    start_lasts : (p : Program V) (w : World V) (view : V) (home program : ℕ) (args : List Arg) → Holds w → Holds (start p w view home program args)
    start_lasts p w view home program args h =
        let given = give_all w (gifts_of args) (w.last_coroutine + 1) in
        l.bears (parts given) home (given.last_coroutine + 1) (give_all_lasts w (gifts_of args) (w.last_coroutine + 1) h)

    close_thing_lasts : C → (w : World V) (who number : ℕ) (x : Entry Thing) → entry_of w number ≡ Some x → Holds w → Holds (close_thing w who number x.thing)
    close_thing_lasts c w who number x e h =
        close_by l.clears w who number x.thing (λ name f. l.closes c (parts w) who name number x (number_of x.number number (found_passes (handles.is_entry number) w.handles.entries x e)) f (known_of w number x e h) h) h

    -- ---- links

    give_up_lasts : (w : World V) (who : ℕ) (call : Call) (e : Errno) (kept : ℕ) → Holds w → Holds (give_stack_up w who call e kept)
    give_up_lasts w who call e kept h = named_lasts call w (λ number. release (record w { handles = handles.unkeep w.handles kept }) number) h (λ number. release_lasts l.clears (record w { handles = handles.unkeep w.handles kept }) number h)

    begin_lasts : (w : World V) (who : ℕ) (call : Call) (o : Option Parting) → Holds w → Holds (if_some o (pend (heat w call true true) who call) (begin_detach w who call))
    begin_lasts w who call None h = beside (heat_besides w call true true) h
    begin_lasts w who call (Some parting) h =
        let asked = ask_stack w call (λ random s. detach_start parting random s) in
        beside (heat_besides asked call (blocks (word_of call)) (blocks (word_of call))) (beside (ask_stack_besides w call (λ random s. detach_start parting random s)) h)

    giving_lasts : (w : World V) (who : ℕ) (call : Call) (kept : ℕ) → Holds w → Holds (enter_giving_up w who call kept)
    giving_lasts w who call kept h =
        let taken = if_some (named_by call) w (λ number. take w number who) in
        let own = dropped_for taken call in
        at own (given_up_at_once own who call) (beside (dropped_besides taken call) (named_lasts call w (λ number. take w number who) h (λ number. take_lasts w number who h)))
      where
        at : (own : World V) (o : Option Errno) → Holds own → Holds (if_some o (begin_giving_up own who call) (λ e. give_stack_up own who call e kept))
        at own None i = begin_lasts own who call (parting_of call) i
        at own (Some e) i = give_up_lasts own who call e kept i

    handshake_lasts : (w : World V) (who : ℕ) (call : Call) → Holds w → Holds (enter_handshake w who call)
    handshake_lasts w who call h =
        let taken = if_some (named_by call) w (λ number. take w number who) in
        let asked = ask_stack taken call (greet_by call) in
        beside (heat_besides asked call true true) (beside (ask_stack_besides taken call (greet_by call)) (named_lasts call w (λ number. take w number who) h (λ number. take_lasts w number who h)))

    attach_lasts : (w : World V) (who : ℕ) (call : Call) → Holds w → Holds (enter_attach w who call)
    attach_lasts w who call h =
        named_lasts call w (λ number. if_some (layer_of call) w (λ layer. move (put_layer w call layer) number who)) h
        (λ number. either (layer_of call) w (λ layer. move (put_layer w call layer) number who) h
        (λ layer e. move_lasts (put_layer w call layer) number who (beside (ask_stack_besides w call (λ random s. with_random random (attach layer s))) h)))

    on_link_lasts : (w : World V) (who : ℕ) (call : Call) → Holds w → Holds (perform_on_link w who call)
    on_link_lasts w who call h =
        let hot = heat w call false true in
        let more = record w { links = link.keep w.links } in
        which (is_send (word_of call)) (enter_send w who call) _ (beside (queue_besides hot call) (beside (heat_besides w call false true) h))
        (which (is_receive (word_of call)) (enter_receive w who call) _ (beside (ready_besides w call) h)
        (which (gives_up (word_of call)) (enter_giving_up w who call (draws_of call)) _ (giving_lasts w who call (draws_of call) h)
        (which (links (word_of call)) (enter_link w who call) _ (beside (heat_besides more call true false) h)
        (which (is_handshake (word_of call)) (enter_handshake w who call) (enter_attach w who call) (handshake_lasts w who call h) (attach_lasts w who call h)))))

    -- ---- calls

    perform_lasts : (p : Program V) (w : World V) (who : ℕ) (view : V) (call : Call) → (closes_bundle call ≡ true → C) → Holds w → Holds (perform p w who view call)
    perform_lasts p w who view (calls.Print text) may h = h
    perform_lasts p w who view calls.Now may h = h
    perform_lasts p w who view calls.Yield may h = h
    perform_lasts p w who view (calls.Msleep deadline) may h = h
    perform_lasts p w who view (calls.Hmake kind value) may h = l.makes (parts w) (things.Value kind value) who refl h
    perform_lasts p w who view (calls.Hquery number kind) may h = either (entry_of w number) w (λ x. reply w who words.Hquery (Number (value_of x.thing))) h (λ x e. h)
    perform_lasts p w who view (calls.Hown number) may h = move_lasts w number who h
    perform_lasts p w who view (calls.Hclose number) may h = either (entry_of w number) w (λ x. close_thing w who number x.thing) h (λ x e. close_thing_lasts (may refl) w who number x e h)
    perform_lasts p w who view calls.Bundle may h = l.bundles (parts w) who h
    perform_lasts p w who view (calls.Go program args) may h = start_lasts p (add_bundle w who) view (w.last_bundle + 1) program args (l.bundles (parts w) who h)
    perform_lasts p w who view (calls.BundleGo number program args) may h = either (bundle_named w number) w (λ home. reply (start p w view home program args) who words.BundleGo (Number 0)) h (λ home e. start_lasts p w view home program args h)
    perform_lasts p w who view (calls.BundleWait number deadline) may h = h
    perform_lasts p w who view calls.Chmake may h =
        let ends = channels.next_ends w.channels in
        l.makes (made (parts w) (things.End ends.0) who) (things.End ends.1) who refl (l.makes (parts w) (things.End ends.0) who refl h)
    perform_lasts p w who view (calls.Chsend number bytes deadline) may h = channel_lasts w who (calls.Chsend number bytes deadline) h
    perform_lasts p w who view (calls.Chrecv number size deadline) may h = channel_lasts w who (calls.Chrecv number size deadline) h
    perform_lasts p w who view (calls.Chdone number) may h = either (end_named w number) w (λ end. done_at w who end) h (λ end e. done_at_lasts w who end h)
    perform_lasts p w who view (calls.Choose deadline all) may h = channel_lasts w who (calls.Choose deadline all) h
    perform_lasts p w who view (calls.Pass word fault) may h = h
    perform_lasts p w who view call may h = on_link_lasts w who call h

    pub enter_lasts : (p : Program V) (lacks : Bool) (w : World V) (who : ℕ) (view : V) (call : Call) → (closes_bundle call ≡ true → C) → Holds w → Holds (enter p lacks w who view call)
    enter_lasts p lacks w who view call may h = at (refuse p w who view call)
      where
        at : (o : Option Errno) → Holds (if_some o (if lacks && takes_memory (word_of call) then reply w who (word_of call) (Fault Enomem) else done p w who view call) (λ e. reply w who (word_of call) (Fault e)))
        at None =
            which (lacks && takes_memory (word_of call)) (reply w who (word_of call) (Fault Enomem)) (done p w who view call) h
            (meet_lasts (perform p (keep_for w call) who view call) who (perform_lasts p (keep_for w call) who view call may h))
        at (Some e) = h

    -- ---- answers

    give_class_lasts : (w : World V) (who : ℕ) (call : Call) (answer : Answer) → Holds w → Holds (give_class w who call answer)
    give_class_lasts w who call answer h =
        which (is_send (word_of call)) (give_send w who call answer) _ (named_lasts call w (λ number. on_named w number (with_stack (after_send (word_of call) answer))) h (λ number. beside (on_named_besides w number (with_stack (after_send (word_of call) answer))) h))
        (which (is_receive (word_of call)) (give_receive w who call answer) _ (which (is_read answer) (look_on w call) w (beside (look_besides w call) h) h)
        (which (is_tcp_close (word_of call)) (give_closed w who call answer) _ (closing answer)
        (which (is_handshake (word_of call) || gives_up (word_of call)) (give_attached w who call answer) _ (attached answer)
        (which (links (word_of call)) (give_forgone w who call answer) (reply w who (word_of call) answer) forgone h))))
      where
        closing : (a : Answer) → Holds (give_closed w who call a)
        closing (Fault e) = give_up_lasts w who call e 0 h
        closing a = named_lasts call w (release w) h (λ number. release_lasts l.clears w number h)

        attached : (a : Answer) → Holds (give_attached w who call a)
        attached (Fault e) = give_up_lasts (if is_read (Fault e) then look_on w call else w) who call e (draws_of call) (which (is_read (Fault e)) (look_on w call) w (beside (look_besides w call) h) h)
        attached a = either (named_by call) (reply w who (word_of call) a) (give_number w who call) h (λ number e. move_lasts (look_on w call) number who (beside (look_besides w call) h))

        forgone : Holds (forgo w who)
        forgone =
            let less = record w { handles = handles.unkeep w.handles 1 } in
            either (find (is_connecting_for who) w.links.all) (record less { links = link.unkeep w.links }) (λ x. on_link less x.number as_closing) h (λ x e. h)

    give_lasts : (w : World V) (who : ℕ) (call : Call) (answer : Answer) → Holds w → Holds (give w who call answer)
    give_lasts w who (calls.Hclose number) answer h = freed_lasts l.clears w number h
    give_lasts w who call answer h = give_class_lasts w who call answer h

    pub expire_lasts : (w : World V) (who : ℕ) → Holds w → Holds (expire_one w who)
    expire_lasts w who h = either (call_of w who) w (λ call. give w who call (late_answer call)) h (λ call e. give_lasts w who call (late_answer call) h)

    -- ---- endings and settling

    closes_owned : C → (who : ℕ) (xs : List (Entry Thing)) (w : World V) → AllByRecursion (Known w.last_bundle) xs → Holds w → Holds (fold (close_owned who) w xs)
    closes_owned c who [] w a h = h
    closes_owned c who (x ∷ xs) w a h = at (bundle_of x.thing) refl (closes_owned c who xs)
      where
        at : (o : Option ℕ) → bundle_of x.thing ≡ o → ((v : World V) → AllByRecursion (Known v.last_bundle) xs → Holds v → Holds (fold (close_owned who) v xs)) → Holds (fold (close_owned who) (if_some o w (λ name. close_bundle w who name x.number)) xs)
        at None e rest = rest w a.1 h
        at (Some name) e rest = rest (close_bundle w who name x.number) a.1 (l.closes c (parts w) who name x.number x refl e a.0 h)

    end_lasts : C → (w : World V) (who : ℕ) (outcome : Option Errno) → Holds w → Holds (end w who outcome)
    end_lasts c w who outcome h = closes_owned c who (filter (handles.is_owned who) w.handles.entries) w (all_filter (Known w.last_bundle) (handles.is_owned who) w.handles.entries (l.known (parts w) h)) h

    pub settle_one_lasts : (w : World V) → Holds w → Holds (settle_one w)
    settle_one_lasts w h = settle_one_by l.clears w (λ x e. give_lasts w x.0 x.1 x.2 h) h

    within_lasts : (n : ℕ) (w : World V) → Holds w → Holds (settle_within n w)
    within_lasts zero w h = h
    within_lasts (suc n) w h = within_lasts n (settle_one w) (settle_one_lasts w h)

    pub settle_lasts : (w : World V) → Holds w → Holds (settle w)
    settle_lasts w h = beside (pass_all_besides (settle_within (length w.coroutines) w)) (within_lasts (length w.coroutines) w h)

    -- ---- turns

    make_move_lasts : C → (p : Program V) (lacks : Bool) (w : World V) (who : ℕ) (view : V) (next : Move) → Holds w → Holds (make_move p lacks w who view next)
    make_move_lasts c p lacks w who view (Calls call) h = enter_lasts p lacks w who view (entered w.moment call) (λ e. c) h
    make_move_lasts c p lacks w who view (Ends outcome) h = end_lasts c w who outcome h

    lack_lasts : (w : World V) (who : ℕ) (next : Move) → Holds w → Holds (lack_move w who next)
    lack_lasts w who (Calls call) h = h
    lack_lasts w who (Ends outcome) h = h

    pub go_on_lasts : C → (p : Program V) (lack : Option LackPlace) (w : World V) (who : ℕ) (view : V) → Holds w → Holds (go_on p lack w who view)
    go_on_lasts c p lack w who view h =
        let next = move_of p w who view in
        let short = p.short view (answer_given w who).1 in
        which (is_build lack && may_lack_build next.1) (lack_move (resume w who short) who next.1) (make_move p (is_entry lack) (resume w who next.0) who next.0 next.1)
        (lack_lasts (resume w who short) who next.1 h) (make_move_lasts c p (is_entry lack) (resume w who next.0) who next.0 next.1 h)
