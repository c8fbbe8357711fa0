-- What the calls that are on no stack leave of numbers, links and pending calls.
use Rattle.std.proofs.Common.{◌≡◌, ◌⊎◌, inl, inr, ℕ, ◌+◌, List, [], ◌∷◌, ◌++◌, true, false, Option, Some, None, refl, ap, arith}
use Rattle.std.specs.Prelude.{filter, is_some}
use Rattle.dill_base.specs.declared.errno.Errno.{Errno}
use Rattle.dill_base.specs.declared.errno.Errno.TheVariants.{Epipe}
use Rattle.dill_scope.proofs.Numbered.{found_number}
use Rattle.dill_base.specs.Maps.{if_some}
use Rattle.dill_calls.specs.declared.answer.Answer.{Answer}
use Rattle.dill_calls.specs.declared.answer.Answer.TheVariants.{Number, Fault}
use Rattle.dill_calls.specs.declared.call.Call.{Call}
use Rattle.dill_calls.specs.declared.call.Call.TheVariants as calls
use Rattle.dill_calls.specs.declared.lists.Arg.{Arg}
use Rattle.dill_calls.specs.declared.lists.Clause.{Clause}
use Rattle.dill_calls.specs.declared.word.Word.{Word}
use Rattle.dill_calls.specs.declared.word.Word.TheVariants as words
use Rattle.dill_calls.specs.CallTable.{word_of, named_by, is_hclose}
use Rattle.dill_calls.specs.Program.{Program}
use Rattle.dill_chan.specs.Channels as channels
use Rattle.dill_chan.specs.declared.end.Want.TheVariants.{Send}
use Rattle.dill_chan.specs.declared.meeting.Meeting.{Meeting}
use Rattle.dill_chan.specs.declared.meeting.Meeting.TheVariants as meetings
use Rattle.dill_chan.specs.declared.meeting.Met.{Met}
use Rattle.dill_chan.specs.Meetings.{has_ended}
use Rattle.dill_handles.specs.Handles as handles
use Rattle.dill_handles.specs.declared.entry.Entry.{Entry}
use Rattle.dill_rules.specs.declared.coroutine.Mode.TheVariants as modes
use Rattle.dill_rules.specs.declared.thing.Thing.{Thing}
use Rattle.dill_rules.specs.declared.thing.Thing.TheVariants as things
use Rattle.dill_rules.specs.World.{World, call_of, with_mode, reply, pend}
use Rattle.dill_rules.specs.Answers.{end_named}
use Rattle.dill_rules.specs.Channeling.{without_bytes, wait_at, clauses_of, first_done, clause_answer, meet, wait_all, enter_channel, done_at}
use Rattle.dill_rules.specs.Effects.{make, add_bundle, bear, close_thing, start, give_all, told, next_number, passed_answer}
use Rattle.dill_rules.specs.Entering.{perform_on_link, perform}
use Rattle.dill_rules.specs.Kinds.{value_of}
use Rattle.dill_rules.specs.LinkAnswers.{is_on_stack}
use Rattle.dill_rules.specs.Naming.{gifts_of, taken_by}
use Rattle.dill_rules.specs.Owning.{entry_of, move, release, close_bundle}
use Rattle.dill_rules.specs.Settling.{close_owned, close_all, end}
use Rattle.dill_rules.specs.Taking.{bundle_of, bundle_named}
use Rattle.laws_looks.specs.Readers.{In, Pends}
use Rattle.laws_looks.proofs.Lists.{find_in, in_filter}
use Rattle.laws_fits.proofs.Tidy.{Same, Tidy, in_other, tidy_same, tidy_not, tidy_some, tidy_if, tidy_more, tidy_each, tidy_make, tidy_move, tidy_retire, tidy_release, tidy_mode, tidy_reply}

-- a bundle has the number
abbrev pub IsBundle : List (Entry Thing) → ℕ → Type 0
IsBundle es n = (x : Entry Thing) × In x es × (x.number ≡ n) × (is_some (bundle_of x.thing) ≡ true)

-- the call takes the number, or a bundle has it
abbrev pub Taken : List (Entry Thing) → Call → ℕ → Type 0
Taken es call n = ((is_hclose (word_of call) ≡ false) × In n (taken_by call)) ⊎ IsBundle es n

in_left : {X : Type 0} (xs ys : List X) (x : X) → In x xs → In x (xs ++ ys)
in_left [] ys x i = absurd i
in_left (y ∷ xs) ys x (inl same) = inl same
in_left (y ∷ xs) ys x (inr i) = inr (in_left xs ys x i)

module _ {V : Type 0} where
  -- how a call is done that isn't refused
  pub data Performs (w : World V) (who : ℕ) (call : Call) : World V → Type 0 where
    on_link : Performs w who call (perform_on_link w who call)
    elsewhere : {v : World V} → ((n : ℕ) → named_by call ≡ Some n → is_on_stack (word_of call) ≡ false) → Tidy Same (Taken w.handles.entries call) (Some who) w v → Performs w who call v

  -- who waits for no stack is answered
  tidy_answer : {T : ℕ → Type 0} {gone : Option ℕ} (w : World V) (other : ℕ) (word : Word) (answer : Answer) → ((more : Call) → Pends w other more → is_on_stack (word_of more) ≡ true → ⊥) → Tidy Same T gone w (reply w other word answer)
  tidy_answer w other word answer off = record {
    names = λ n l p. inl p;
    last = omega arith;
    links = λ l y i o. record { x = y; there = i; «open» = o; most = omega arith; stack = refl };
    lost = λ n l g. inl g;
    still = λ who more p on ne. record { one = p.one; there = in_other other (with_mode (modes.Fresh word answer)) w.coroutines p.one p.there (λ same. off more (record { one = p.one; there = p.there; number = same; mode = p.mode }) on); number = p.number; mode = p.mode };
    once = λ o. o;
    «open» = λ o all. all;
  }

  tidy_bear : {T : ℕ → Type 0} {gone : Option ℕ} (w : World V) (view : V) (home : ℕ) → Tidy Same T gone w (bear w view home)
  tidy_bear w view home = record {
    names = λ n l p. inl p;
    last = omega arith;
    links = λ l y i o. record { x = y; there = i; «open» = o; most = omega arith; stack = refl };
    lost = λ n l g. inl g;
    still = λ other more p on ne. record { one = p.one; there = in_left w.coroutines _ p.one p.there; number = p.number; mode = p.mode };
    once = λ o. o;
    «open» = λ o all. all;
  }

  -- nobody whom it meets waits for a stack
  abbrev pub MeetsOff : World V → ℕ → Call → Type 0
  MeetsOff w who call = (index : ℕ) (m : Met) → first_done w who 0 (clauses_of call) ≡ Some (index, meetings.Met m) → (more : Call) → Pends w m.other more → is_on_stack (word_of more) ≡ true → ⊥

  tidy_wait : {T : ℕ → Type 0} {gone : Option ℕ} (xs : List Clause) (w : World V) (who index : ℕ) → Tidy Same T gone w (wait_all w who index xs)
  tidy_wait [] w who index = tidy_not w
  tidy_wait (x ∷ xs) w who index = tidy_more w (wait_at w who index x) (wait_all (wait_at w who index x) who (index + 1) xs) (tidy_some (end_named w _) w w _ (tidy_not w) (λ end. tidy_same w _ refl refl refl refl)) (tidy_wait xs (wait_at w who index x) who (index + 1))

  tidy_channel : {T : ℕ → Type 0} (w : World V) (who : ℕ) (call : Call) → MeetsOff w who call → Tidy Same T (Some who) w (enter_channel w who call)
  tidy_channel {T} w who call off = at (first_done w who 0 (clauses_of call)) refl
    where
      met : (index : ℕ) (m : Meeting) → first_done w who 0 (clauses_of call) ≡ Some (index, m) → Tidy Same T (Some who) w (meet w who call index m)
      met index (meetings.Met x) e =
          let u = if_some (call_of w x.other) w (λ d. reply w x.other (word_of d) (clause_answer d x.clause x.others)) in
          tidy_more w u (reply u who (word_of call) (clause_answer call index x.answer)) (tidy_some (call_of w x.other) w w (λ d. reply w x.other (word_of d) (clause_answer d x.clause x.others)) (tidy_not w) (λ d. tidy_answer w x.other (word_of d) (clause_answer d x.clause x.others) (off index x e))) (tidy_reply u who (word_of call) (clause_answer call index x.answer) refl)
      met index meetings.Ended e = tidy_reply w who (word_of call) (clause_answer call index (Fault Epipe)) refl
      met index meetings.Waits e = tidy_not w

      at : (o : Option (ℕ × Meeting)) → first_done w who 0 (clauses_of call) ≡ o → Tidy Same T (Some who) w (if_some o (wait_all (pend w who (without_bytes call)) who 0 (clauses_of call)) (λ x. meet w who call x.0 x.1))
      at None e = let u = pend w who (without_bytes call) in tidy_more w u (wait_all u who 0 (clauses_of call)) (tidy_mode w who (with_mode (modes.Pending (without_bytes call))) refl) (tidy_wait (clauses_of call) u who 0)
      at (Some x) e = met x.0 x.1 e

  module _ {T : ℕ → Type 0} (w : World V) (who : ℕ) where
    replies : (v : World V) (word : Word) (answer : Answer) → Tidy Same T (Some who) w v → Tidy Same T (Some who) w (reply v who word answer)
    replies v word answer t = tidy_more w v (reply v who word answer) t (tidy_reply v who word answer refl)

    bundles : Tidy Same T (Some who) w (add_bundle w who)
    bundles = let u = make w (things.Bundle (w.last_bundle + 1)) who in tidy_more w u (add_bundle w who) (tidy_make w (things.Bundle (w.last_bundle + 1)) who refl) (tidy_same u (add_bundle w who) refl refl refl refl)

    starts : (p : Program V) (u : World V) (view : V) (home program : ℕ) (args : List Arg) → ((n : ℕ) → In n (gifts_of args) → T n) → Tidy Same T (Some who) w u → Tidy Same T (Some who) w (start p u view home program args)
    starts p u view home program args t h =
        let owner = u.last_coroutine + 1 in
        let g = give_all u (gifts_of args) owner in
        tidy_more w g (start p u view home program args) (tidy_more w u g h (tidy_each (λ now number. move now number owner) (gifts_of args) u (λ v n i. tidy_move v n owner (t n i))))
        (tidy_bear g (p.child view program (told (next_number u) args)) home)

  closes : (w : World V) (who number : ℕ) → Tidy Same (Taken w.handles.entries (calls.Hclose number)) (Some who) w (if_some (entry_of w number) w (λ x. close_thing w who number x.thing))
  closes w who number = at (entry_of w number) refl
    where
      by : (x : Entry Thing) (thing : Thing) → entry_of w number ≡ Some x → x.thing ≡ thing → Tidy Same (Taken w.handles.entries (calls.Hclose number)) (Some who) w (close_thing w who number thing)
      by x (things.Bundle name) e f =
          let less : World V = record w { handles = handles.retire w.handles number } in
          let u = close_bundle w who name number in
          let bundle : IsBundle w.handles.entries number = (x, find_in (handles.is_entry number) w.handles.entries x e, found_number (λ (y : Entry Thing). y.number) number w.handles.entries x e, ap (λ t. is_some (bundle_of t)) f) in
          tidy_more w u (pend u who (calls.Hclose number)) (tidy_more w less u (tidy_retire w number (inr bundle)) (tidy_same less u refl refl refl refl)) (tidy_mode u who (with_mode (modes.Pending (calls.Hclose number))) refl)
      by x (things.End end) e f = replies w who (release w number) words.Hclose (Number 0) (tidy_release w number)
      by x (things.Listener l) e f = replies w who (release w number) words.Hclose (Number 0) (tidy_release w number)
      by x (things.Socket l) e f = replies w who (release w number) words.Hclose (Number 0) (tidy_release w number)
      by x (things.Value kind value) e f = replies w who (release w number) words.Hclose (Number 0) (tidy_release w number)

      at : (o : Option (Entry Thing)) → entry_of w number ≡ o → Tidy Same (Taken w.handles.entries (calls.Hclose number)) (Some who) w (if_some o w (λ x. close_thing w who number x.thing))
      at None e = tidy_not w
      at (Some x) e = by x x.thing e refl

  pub performs : (p : Program V) (w : World V) (who : ℕ) (view : V) (call : Call) → MeetsOff w who call → Performs w who call (perform p w who view call)
  performs p w who view (calls.Print text) m = elsewhere (λ n e. refl) (replies w who w words.Print (Number 0) (tidy_not w))
  performs p w who view calls.Now m = elsewhere (λ n e. refl) (replies w who w words.Now (Number w.moment) (tidy_not w))
  performs p w who view calls.Yield m = elsewhere (λ n e. refl) (replies w who w words.Yield (Number 0) (tidy_not w))
  performs p w who view (calls.Pass word fault) m = elsewhere (λ n e. cc) (replies w who w word (passed_answer fault) (tidy_not w))
  performs p w who view (calls.Msleep deadline) m = elsewhere (λ n e. refl) (tidy_mode w who (with_mode (modes.Pending (calls.Msleep deadline))) refl)
  performs p w who view (calls.BundleWait number deadline) m = elsewhere (λ n e. refl) (tidy_mode w who (with_mode (modes.Pending (calls.BundleWait number deadline))) refl)
  performs p w who view (calls.Hmake kind value) m = elsewhere (λ n e. refl) (replies w who (make w (things.Value kind value) who) words.Hmake (Number (next_number w)) (tidy_make w (things.Value kind value) who refl))
  performs p w who view (calls.Hquery number kind) m = elsewhere (λ n e. refl) (tidy_some (entry_of w number) w w (λ x. reply w who words.Hquery (Number (value_of x.thing))) (tidy_not w) (λ x. replies w who w words.Hquery (Number (value_of x.thing)) (tidy_not w)))
  performs p w who view (calls.Hown number) m = elsewhere (λ n e. refl) (replies w who (move w number who) words.Hown (Number (next_number w)) (tidy_move w number who (inl (refl, inl refl))))
  performs p w who view (calls.Hclose number) m = elsewhere (λ n e. refl) (closes w who number)
  performs p w who view calls.Bundle m = elsewhere (λ n e. refl) (replies w who (add_bundle w who) words.Bundle (Number (next_number w)) (bundles w who))
  performs p w who view (calls.Go program args) m =
      let u = add_bundle w who in
      elsewhere (λ n e. refl) (replies w who (start p u view (w.last_bundle + 1) program args) words.Go (Number (next_number w)) (starts w who p u view (w.last_bundle + 1) program args (λ n i. inl (refl, i)) (bundles w who)))
  performs p w who view (calls.BundleGo number program args) m =
      elsewhere (λ n e. refl)
      (tidy_some (bundle_named w number) w w (λ home. reply (start p w view home program args) who words.BundleGo (Number 0)) (tidy_not w)
      (λ home. replies w who (start p w view home program args) words.BundleGo (Number 0) (starts w who p w view home program args (λ n i. inl (refl, i)) (tidy_not w))))
  performs p w who view calls.Chmake m =
      let ends = channels.next_ends w.channels in
      let c : World V = record w { channels = channels.make w.channels } in
      let one = make c (things.End ends.0) who in
      let two = make one (things.End ends.1) who in
      elsewhere (λ n e. refl) (replies w who two words.Chmake _ (tidy_more w one two (tidy_more w c one (tidy_same w c refl refl refl refl) (tidy_make c (things.End ends.0) who refl)) (tidy_make one (things.End ends.1) who refl)))
  performs p w who view (calls.Chsend number bytes deadline) m = elsewhere (λ n e. refl) (tidy_channel w who (calls.Chsend number bytes deadline) m)
  performs p w who view (calls.Chrecv number size deadline) m = elsewhere (λ n e. refl) (tidy_channel w who (calls.Chrecv number size deadline) m)
  performs p w who view (calls.Choose deadline all) m = elsewhere (λ n e. refl) (tidy_channel w who (calls.Choose deadline all) m)
  performs p w who view (calls.Chdone number) m =
      elsewhere (λ n e. refl)
      (tidy_some (end_named w number) w w (done_at w who) (tidy_not w)
      (λ x. let c : World V = record w { channels = channels.done w.channels x } in
      tidy_if (has_ended w.channels x (Send [])) w (reply w who words.Chdone (Fault Epipe)) (reply c who words.Chdone (Number 0)) (replies w who w words.Chdone (Fault Epipe) (tidy_not w)) (replies w who c words.Chdone (Number 0) (tidy_same w c refl refl refl refl))))
  performs p w who view call m = on_link

  -- who ends closes its bundles
  pub tidy_end : (w : World V) (who : ℕ) (outcome : Option Errno) → Tidy Same (IsBundle w.handles.entries) (Some who) w (end w who outcome)
  tidy_end w who outcome =
      let shut = close_all w who in
      tidy_more w shut (end w who outcome)
      (tidy_each (close_owned who) (filter (handles.is_owned who) w.handles.entries) w (λ v x i. closed v x (bundle_of x.thing) refl (in_filter (handles.is_owned who) w.handles.entries x i).0))
      (tidy_mode shut who (with_mode (modes.Ending outcome)) refl)
    where
      closed : (v : World V) (x : Entry Thing) (o : Option ℕ) → bundle_of x.thing ≡ o → In x w.handles.entries → Tidy Same (IsBundle w.handles.entries) (Some who) v (if_some o v (λ name. close_bundle v who name x.number))
      closed v x None e i = tidy_not v
      closed v x (Some name) e i =
          let less : World V = record v { handles = handles.retire v.handles x.number } in
          tidy_more v less (close_bundle v who name x.number) (tidy_retire v x.number (x, i, refl, ap is_some e)) (tidy_same less (close_bundle v who name x.number) refl refl refl refl)
