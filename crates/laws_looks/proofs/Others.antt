-- In a turn no look of another than its coroutine finds anything.
use Rattle.std.proofs.Common.{◌≡◌, ◌∙◌, ◌⊎◌, inl, inr, ℕ, ◌+◌, ◌<◌, ◌==◌, List, [], ◌∷◌, ◌++◌, cond, Bool, true, false, ◌||◌, Option, Some, None, if◌then◌else◌, refl, sym, ap, subst}
use Rattle.std.specs.Prelude.{Result, Ok, is_none}
use Rattle.std.proofs.lemmas.Bool.{or_right}
use Rattle.rand_core.specs.Stream.{Stream}
use Rattle.dill_base.specs.declared.errno.Errno.{Errno}
use Rattle.dill_base.specs.declared.errno.Errno.TheVariants as errnos
use Rattle.dill_base.specs.Maps.{if_some, change}
use Rattle.dill_calls.specs.declared.answer.Answer.{Answer}
use Rattle.dill_calls.specs.declared.answer.Answer.TheVariants.{Fault, Number}
use Rattle.dill_calls.specs.declared.call.Call.{Call}
use Rattle.dill_calls.specs.declared.call.Call.TheVariants as calls
use Rattle.dill_calls.specs.declared.lists.Arg.{Arg}
use Rattle.dill_calls.specs.declared.lists.Clause.{Clause}
use Rattle.dill_calls.specs.declared.word.Word.{Word}
use Rattle.dill_calls.specs.declared.word.Word.TheVariants as words
use Rattle.dill_calls.specs.CallTable.{word_of, named_by, blocks, gives_up}
use Rattle.dill_calls.specs.Program.{Program}
use Rattle.dill_chan.specs.declared.end.Want.TheVariants.{Send}
use Rattle.dill_chan.specs.declared.meeting.Meeting.{Meeting}
use Rattle.dill_chan.specs.declared.meeting.Meeting.TheVariants as meetings
use Rattle.dill_chan.specs.Channels as channels
use Rattle.dill_chan.specs.Meetings.{has_ended}
use Rattle.dill_handles.specs.declared.entry.Entry.{Entry}
use Rattle.dill_http.specs.Heads.{Said, line_of}
use Rattle.dill_http.specs.Lines.{crlf}
use Rattle.dill_stack.specs.declared.layer.Layer.{Layer}
use Rattle.dill_stack.specs.declared.parting.Parting.{Parting}
use Rattle.dill_stack.specs.declared.want.Want.{Want}
use Rattle.dill_stack.specs.Interface.{Held, frame, line, attach, detach_start, drop_unread}
use Rattle.dill_stack.specs.Interface as stack
use Rattle.dill_rules.specs.declared.coroutine.Coroutine.{Coroutine}
use Rattle.dill_rules.specs.declared.thing.Thing.{Thing}
use Rattle.dill_rules.specs.declared.thing.Thing.TheVariants as things
use Rattle.dill_rules.specs.World.{World, is_coroutine, call_of, reply, pend}
use Rattle.dill_rules.specs.Links as link
use Rattle.dill_rules.specs.Links.{with_stack, reserved}
use Rattle.dill_rules.specs.Naming.{links, gifts_of, draws_of}
use Rattle.dill_rules.specs.Kinds.{value_of}
use Rattle.dill_rules.specs.Owning.{entry_of, take, move}
use Rattle.dill_rules.specs.Taking.{bundle_named}
use Rattle.dill_rules.specs.Answers.{end_named}
use Rattle.dill_rules.specs.Directions.{is_send, is_receive, is_handshake, is_first, is_end, message_of, line_said, asked, layer_of, parting_of}
use Rattle.dill_rules.specs.Channeling.{without_bytes, done_at, clauses_of, clause_answer, meet, wait_at, wait_all, first_done, enter_channel}
use Rattle.dill_rules.specs.Effects.{make, add_bundle, close_thing, start, passed_answer}
use Rattle.dill_rules.specs.Linking.{with_random, greet_by, ask_stack, heat, reserve, queue_message, queue_line, queue_end, enter_send, enter_receive, enter_link, put_layer, enter_attach, given_up_at_once, give_stack_up, begin_detach, begin_giving_up, enter_giving_up, enter_handshake}
use Rattle.dill_rules.specs.Refusals.{refuse}
use Rattle.dill_rules.specs.Sockets.{on_named}
use Rattle.dill_rules.specs.Entering.{perform_on_link, perform, is_too_late, late_answer, meet_deadline, done}
use Rattle.dill_rules.specs.Turning.{as_running, resume}
use Rattle.dill_rules.specs.LinkAnswers.{reads}
use Rattle.laws_sound.specs.Order.{IsInOrder}
use Rattle.laws_looks.specs.Readers.{In, Pends}
use Rattle.laws_looks.specs.Calm.{Spent, NamesIn, IsCalm}
use Rattle.laws_looks.specs.OneLook.{StirsOne, called, taken_for}
use Rattle.laws_looks.proofs.Lists.{equal_is}
use Rattle.laws_looks.proofs.Fewer.{named_once}
use Rattle.laws_looks.proofs.Spent.{Halves, frame_half, line_half, done_half, half_spent, asked_is}
use Rattle.laws_looks.proofs.Quieted.{due_waits}
use Rattle.laws_looks.proofs.Restful.{named_link, names_number}
use Rattle.laws_looks.proofs.Beside.{AnyCall, Beside, not_beside, then_beside, some_beside, if_beside, each_beside, named_beside, heat_beside, ask_beside, make_beside, retire_beside, take_beside, move_beside, release_beside, up_beside}
use Rattle.laws_looks.proofs.Enters.{TakesIt, takes_it, layer_takes, by_class, Fit, fits, Turns, over, does, turns_others}
use Rattle.laws_looks.proofs.Stirring.{live_low, CalmBut, Spares, calm_but}

-- ---- calls that are on no link

-- how a call is done that isn't refused
pub data Performs {V : Type 0} (w : World V) (who : ℕ) (call : Call) : World V → Type 0 where
  on_link : Performs w who call (perform_on_link w who call)
  answers : (word : Word) (answer : Answer) → Performs w who call (reply w who word answer)
  elsewhere : {v : World V} → reads call ≡ false → Beside AnyCall w v → Performs w who call v

module _ {V : Type 0} where
  start_beside : (p : Program V) (w : World V) (view : V) (home program : ℕ) (args : List Arg) → Beside AnyCall w (start p w view home program args)
  start_beside p w view home program args = each_beside AnyCall (λ v n. move v n (w.last_coroutine + 1)) (gifts_of args) w (λ v n. move_beside AnyCall v n (w.last_coroutine + 1))

  wait_beside : (xs : List Clause) (w : World V) (who index : ℕ) → Beside AnyCall w (wait_all w who index xs)
  wait_beside [] w who index = not_beside AnyCall w
  wait_beside (x ∷ xs) w who index = then_beside AnyCall w (wait_at w who index x) (wait_all (wait_at w who index x) who (index + 1) xs) (some_beside AnyCall (end_named w _) w _ (λ end. not_beside AnyCall w)) (wait_beside xs (wait_at w who index x) who (index + 1))

  channel_beside : (w : World V) (who : ℕ) (call : Call) → Beside AnyCall w (enter_channel w who call)
  channel_beside w who call = at (first_done w who 0 (clauses_of call))
    where
      met : (index : ℕ) (m : Meeting) → Beside AnyCall w (meet w who call index m)
      met index (meetings.Met x) = some_beside AnyCall (call_of w x.other) w (λ d. reply w x.other (word_of d) (clause_answer d x.clause x.others)) (λ d. not_beside AnyCall w)
      met index meetings.Ended = not_beside AnyCall w
      met index meetings.Waits = not_beside AnyCall w

      at : (o : Option (ℕ × Meeting)) → Beside AnyCall w (if_some o (wait_all (pend w who (without_bytes call)) who 0 (clauses_of call)) (λ x. meet w who call x.0 x.1))
      at None = wait_beside (clauses_of call) (pend w who (without_bytes call)) who 0
      at (Some x) = met x.0 x.1

  close_beside : (w : World V) (who number : ℕ) (thing : Thing) → Beside AnyCall w (close_thing w who number thing)
  close_beside w who number (things.Bundle name) = retire_beside AnyCall w number
  close_beside w who number (things.End end) = release_beside AnyCall w number
  close_beside w who number (things.Listener l) = release_beside AnyCall w number
  close_beside w who number (things.Socket l) = release_beside AnyCall w number
  close_beside w who number (things.Value kind value) = release_beside AnyCall w number

  pub performs : (p : Program V) (w : World V) (who : ℕ) (view : V) (call : Call) → Performs w who call (perform p w who view call)
  performs p w who view (calls.Print text) = answers words.Print (Number 0)
  performs p w who view calls.Now = answers words.Now (Number w.moment)
  performs p w who view calls.Yield = answers words.Yield (Number 0)
  performs p w who view (calls.Pass word fault) = answers word (passed_answer fault)
  performs p w who view (calls.Msleep deadline) = elsewhere refl (not_beside AnyCall w)
  performs p w who view (calls.BundleWait number deadline) = elsewhere refl (not_beside AnyCall w)
  performs p w who view (calls.Hmake kind value) = elsewhere refl (make_beside AnyCall w (things.Value kind value) who)
  performs p w who view (calls.Hquery number kind) = elsewhere refl (some_beside AnyCall (entry_of w number) w (λ x. reply w who words.Hquery (Number (value_of x.thing))) (λ x. not_beside AnyCall w))
  performs p w who view (calls.Hown number) = elsewhere refl (move_beside AnyCall w number who)
  performs p w who view (calls.Hclose number) = elsewhere refl (some_beside AnyCall (entry_of w number) w (λ x. close_thing w who number x.thing) (λ x. close_beside w who number x.thing))
  performs p w who view calls.Bundle = elsewhere refl (make_beside AnyCall w (things.Bundle (w.last_bundle + 1)) who)
  performs p w who view (calls.Go program args) =
      let one = add_bundle w who in
      elsewhere refl (then_beside AnyCall w one (start p one view (w.last_bundle + 1) program args) (make_beside AnyCall w (things.Bundle (w.last_bundle + 1)) who) (start_beside p one view (w.last_bundle + 1) program args))
  performs p w who view (calls.BundleGo number program args) = elsewhere refl (some_beside AnyCall (bundle_named w number) w (λ home. reply (start p w view home program args) who words.BundleGo (Number 0)) (λ home. start_beside p w view home program args))
  performs p w who view calls.Chmake =
      let ends = channels.next_ends w.channels in
      let one = make (record w { channels = channels.make w.channels }) (things.End ends.0) who in
      elsewhere refl (then_beside AnyCall w one (make one (things.End ends.1) who) (make_beside AnyCall w (things.End ends.0) who) (make_beside AnyCall one (things.End ends.1) who))
  performs p w who view (calls.Chsend number bytes deadline) = elsewhere refl (channel_beside w who (calls.Chsend number bytes deadline))
  performs p w who view (calls.Chrecv number size deadline) = elsewhere refl (channel_beside w who (calls.Chrecv number size deadline))
  performs p w who view (calls.Choose deadline all) = elsewhere refl (channel_beside w who (calls.Choose deadline all))
  performs p w who view (calls.Chdone number) =
      elsewhere refl (some_beside AnyCall (end_named w number) w (done_at w who)
      (λ x. if_beside AnyCall (has_ended w.channels x (Send [])) w (reply w who words.Chdone (Fault errnos.Epipe)) (reply (record w { channels = channels.done w.channels x }) who words.Chdone (Number 0)) (not_beside AnyCall w) (not_beside AnyCall w)))
  performs p w who view call = on_link

  -- ---- calls on links

  heat_after : (S : Call → ℕ → Type 0) (w u : World V) (call : Call) (read write : Bool) → Beside S w u → Beside S w (heat u call read write)
  heat_after S w u call read write b = then_beside S w u (heat u call read write) b (heat_beside S u call read write)

  pub receive_beside : (S : Call → ℕ → Type 0) (w : World V) (who : ℕ) (call : Call) → Beside S w (enter_receive w who call)
  receive_beside S w who call =
      heat_after S w (reserve w call) call true false
      (some_beside S (named_by call) w (λ n. if_some (asked call) w (λ want. on_named w n (reserved want)))
      (λ n. some_beside S (asked call) w (λ want. on_named w n (reserved want)) (λ want. named_beside S w n (reserved want) (λ x. refl) (λ l x e i more s p. p))))

  late_beside : (S : Call → ℕ → Type 0) (w : World V) (who : ℕ) → Beside S w (meet_deadline w who)
  late_beside S w who = some_beside S (call_of w who) w (λ c. if is_too_late w who c then reply w who (word_of c) (late_answer c) else w) (λ c. if_beside S (is_too_late w who c) w (reply w who (word_of c) (late_answer c)) w (not_beside S w) (not_beside S w))

  -- who stays where somebody else stands elsewhere
  in_kept : (who : ℕ) (f : Coroutine V → Coroutine V) (cs : List (Coroutine V)) (d : Coroutine V) → In d cs → (d.number ≡ who → ⊥) → In d (change (is_coroutine who) f cs)
  in_kept who f [] d i ne = i
  in_kept who f (c ∷ cs) d i ne = at (c.number == who) refl i (λ j. in_kept who f cs d j ne)
    where
      at : (b : Bool) → (c.number == who) ≡ b → (d ≡ c) ⊎ In d cs → (In d cs → In d (change (is_coroutine who) f cs)) → In d (cond b (f c ∷ cs) (c ∷ change (is_coroutine who) f cs))
      at true g (inl same) rest = absurd (ne (ap (λ (x : Coroutine V). x.number) same ∙ equal_is c.number who g))
      at true g (inr j) rest = inr j
      at false g (inl same) rest = inl same
      at false g (inr j) rest = inr (rest j)

  pub still_pends : (w : World V) (who : ℕ) (view : V) (other : ℕ) (more : Call) → Pends w other more → (other ≡ who → ⊥) → Pends (resume w who view) other more
  still_pends w who view other more q ne = record { one = q.one; there = in_kept who (as_running view) w.coroutines q.one q.there (λ same. ne (sym q.number ∙ same)); number = q.number; mode = q.mode }

-- none, or a receive
abbrev Nobody : Call → Type 0
Nobody _ = ⊥

abbrev Asks : Call → Type 0
Asks more = (want : Want) × (asked more ≡ Some want)

module _ {V : Type 0} where
  stirs_calm : (w : World V) (who : ℕ) → IsCalm w → StirsOne w who
  stirs_calm w who c = record { endings = c.settled.endings; waits = λ d more i ne e. due_waits w c.settled.answers d i more e; calm = λ other more n l x p ne. c.restful.calm other more n l x p }

  pub any_calm : (w v : World V) (who : ℕ) → IsInOrder w → IsCalm w → ((other : ℕ) (more : Call) → Pends v other more → (other ≡ who → ⊥) → Pends w other more) → Beside AnyCall w v → CalmBut v who
  any_calm w v who o c pends b = calm_but AnyCall w v who o.fits (stirs_calm w who c) pends (λ other more n l q ne rd e nm. tt) b

  -- who looks at the link of the call is as is said
  abbrev On : World V → Call → (Call → Type 0) → Call → ℕ → Type 0
  On w call Q more l = (n : ℕ) → named_by call ≡ Some n → NamesIn w.handles.entries n l ⊎ (w.handles.last < n) → Q more

  module _ (p : Program V) (w : World V) (who : ℕ) (view : V) (call : Call) (o : IsInOrder w) (c : IsCalm w) (free : refuse p (resume w who view) who view call ≡ None) where
    abbrev k : World V
    k = called w who view call

    fit : Fit (resume w who view) call
    fit = fits p (resume w who view) who view call free

    spares_on : (Q : Call → Type 0) → ((other : ℕ) (more : Call) (n : ℕ) → Pends (resume w who view) other more → reads more ≡ true → named_by call ≡ Some n → named_by more ≡ Some n → Q more) → Spares (On w call Q) w who
    spares_on Q h other more n l q ne rd e nm m f nn = at nn (entry_of w m) refl (fit.live m f)
      where
        at : NamesIn w.handles.entries m l ⊎ (w.handles.last < m) → (x : Option (Entry Thing)) → entry_of w m ≡ x → is_none x ≡ false → Q more
        at (inl r) x g i = h other more m (still_pends w who view other more q ne) rd f (e ∙ ap Some (named_once w c.apart n m l (names_number w n l o nm) (names_number w m l o r)))
        at (inr r) None g i = cc
        at (inr r) (Some x) g i = absurd (live_low w m x o.fits g r)

    ask_on : (Q : Call → Type 0) (u : World V) (f : Stream → Held → Result (Held × Stream) Errno) → ((s : Held) (now : Held × Stream) → f u.random s ≡ Ok now → (more : Call) → Q more → Spent more s → Spent more now.0) → Beside (On w call Q) w u → Beside (On w call Q) w (ask_stack u call f)
    ask_on Q u f h b = then_beside (On w call Q) w u (ask_stack u call f) b (ask_beside (On w call Q) u call f (λ n l s now e g i more on q. h s now i more (on n e (b.names n l (named_link u n l g))) q))

    -- ---- a send

    sends_spare : is_send (word_of call) ≡ true → Spares (On w call Asks) w who
    sends_spare s = spares_on Asks (λ other more n q rd f g. at other more n q rd f g (by_class more rd))
      where
        at : (other : ℕ) (more : Call) (n : ℕ) → Pends (resume w who view) other more → reads more ≡ true → named_by call ≡ Some n → named_by more ≡ Some n → (is_receive (word_of more) ≡ true) ⊎ ((is_handshake (word_of more) || gives_up (word_of more)) ≡ true) → Asks more
        at other more n q rd f g (inl r) = asked_is more n g r
        at other more n q rd f g (inr t) = absurd (fit.occupied n other more q f g rd t)

    send_beside : Beside (On w call Asks) w (enter_send k who call)
    send_beside = at (message_of call) (line_said call) (is_end (word_of call))
      where
        hot : World V
        hot = heat (called w who view call) call false true

        hot_beside : Beside (On w call Asks) w hot
        hot_beside = heat_beside (On w call Asks) k call false true

        asks : (f : Stream → Held → Result (Held × Stream) Errno) → ((u : Stream) (s : Held) → Halves s (f u s)) → Beside (On w call Asks) w (ask_stack hot call f)
        asks f half = ask_on Asks hot f (λ s now i more q t. half_spent more q.0 s now.0 q.1 (half hot.random s now i) t) hot_beside

        at : (m : Option (List ℕ)) (said : Option Said) (b : Bool) → Beside (On w call Asks) w (if_some m (if_some said (if b then queue_end hot call else hot) (queue_line hot call)) (queue_message hot call))
        at (Some m) said b = asks (λ u s. frame m u s) (frame_half m)
        at None (Some said) b = asks (λ u s. with_random u (line (is_first said) (line_of said ++ crlf) s)) (line_half (is_first said) (line_of said ++ crlf))
        at None None true = asks stack.done done_half
        at None None false = hot_beside

    -- ---- what takes its number

    takes_spare : ((n : ℕ) → named_by call ≡ Some n → TakesIt call n) → Spares (On w call Nobody) w who
    takes_spare t = spares_on Nobody (λ other more n q rd f g. fit.taker n other more q (t n f) f g)

    ask_alone : (u : World V) (f : Stream → Held → Result (Held × Stream) Errno) → Beside (On w call Nobody) w u → Beside (On w call Nobody) w (ask_stack u call f)
    ask_alone u f b = ask_on Nobody u f (λ s now i more q t. absurd q) b

    abbrev taken : World V
    taken = if_some (named_by call) (called w who view call) (λ n. take (called w who view call) n who)

    taken_beside : Beside (On w call Nobody) w taken
    taken_beside = some_beside (On w call Nobody) (named_by call) k (λ n. take k n who) (λ n. take_beside (On w call Nobody) k n who)

    own_beside : Beside (On w call Nobody) w (taken_for k who call)
    own_beside = at (parting_of call) (named_by call) refl
      where
        at : (q : Option Parting) (o : Option ℕ) → named_by call ≡ o → Beside (On w call Nobody) w (if_some q (if_some o taken (λ n. on_named taken n (with_stack drop_unread))) (λ parting. taken))
        at (Some q) o e = taken_beside
        at None None e = taken_beside
        at None (Some n) e = then_beside (On w call Nobody) w taken (on_named taken n (with_stack drop_unread)) taken_beside (named_beside (On w call Nobody) taken n (with_stack drop_unread) (λ x. refl) (λ l x g i more on q. absurd (on n e (taken_beside.names n l (named_link taken n l g)))))

    pub handshake_beside : Beside (On w call Nobody) w (enter_handshake k who call)
    handshake_beside = let said = ask_stack taken call (greet_by call) in heat_after (On w call Nobody) w said call true true (ask_alone taken (greet_by call) taken_beside)

    pub begun_beside : Beside (On w call Nobody) w (begin_giving_up (taken_for k who call) who call)
    begun_beside = at (parting_of call)
      where
        own : World V
        own = taken_for (called w who view call) who call

        at : (q : Option Parting) → Beside (On w call Nobody) w (if_some q (pend (heat own call true true) who call) (begin_detach own who call))
        at None = heat_after (On w call Nobody) w own call true true own_beside
        at (Some parting) =
            let said = ask_stack own call (λ random s. detach_start parting random s) in
            heat_after (On w call Nobody) w said call (blocks (word_of call)) (blocks (word_of call)) (ask_alone own (λ random s. detach_start parting random s) own_beside)

    giving_beside : Beside (On w call Nobody) w (enter_giving_up k who call (draws_of call))
    giving_beside = at (given_up_at_once (taken_for k who call) who call)
      where
        at : (q : Option Errno) → Beside (On w call Nobody) w (if_some q (begin_giving_up (taken_for k who call) who call) (λ e. give_stack_up (taken_for k who call) who call e (draws_of call)))
        at None = begun_beside
        at (Some e) = let own = taken_for k who call in then_beside (On w call Nobody) w own (give_stack_up own who call e (draws_of call)) own_beside (up_beside (On w call Nobody) own who call e (draws_of call))

    -- a layer is attached, if it is a call that does
    abbrev attached : Option Layer → World V
    attached q = if_some (named_by call) (called w who view call) (λ n. if_some q (called w who view call) (λ layer. move (put_layer (called w who view call) call layer) n who))

    attach_beside : (layer : Layer) → Beside (On w call Nobody) w (attached (Some layer))
    attach_beside layer =
        let S = On w call Nobody in
        let put = put_layer k call layer in
        some_beside S (named_by call) k (λ n. move put n who) (λ n. then_beside S w put (move put n who) (ask_alone k (λ random s. with_random random (attach layer s)) (not_beside S w)) (move_beside S put n who))

    -- ---- behind the entry

    pub alone_calm : (is_handshake (word_of call) || gives_up (word_of call)) ≡ true → (v : World V) → ((other : ℕ) (more : Call) → Pends v other more → (other ≡ who → ⊥) → Pends w other more) → Beside (On w call Nobody) w v → CalmBut v who
    alone_calm t v pends b = calm_but (On w call Nobody) w v who o.fits (stirs_calm w who c) pends (takes_spare (λ n e. takes_it call n e t)) b

    module _ (v : World V) (pends : (other : ℕ) (more : Call) → Pends v other more → (other ≡ who → ⊥) → Pends w other more) where
      late : (S : Call → ℕ → Type 0) (u : World V) → Beside S w u → v ≡ meet_deadline u who → Beside S w v
      late S u b is = subst (Beside S w) (sym is) (then_beside S w u (meet_deadline u who) b (late_beside S u who))

      any_late : (u : World V) → Beside AnyCall w u → v ≡ meet_deadline u who → CalmBut v who
      any_late u b is = any_calm w v who o c pends (late AnyCall u b is)

      linked_calm : v ≡ meet_deadline (perform_on_link k who call) who → CalmBut v who
      linked_calm is = at (is_send (word_of call)) refl (is_receive (word_of call)) (gives_up (word_of call)) refl (links (word_of call)) (is_handshake (word_of call)) refl is
        where
          alone : (u : World V) → (is_handshake (word_of call) || gives_up (word_of call)) ≡ true → Beside (On w call Nobody) w u → v ≡ meet_deadline u who → CalmBut v who
          alone u t b i = alone_calm t v pends (late (On w call Nobody) u b i)

          by : (Q : Call → Type 0) (u : World V) → Spares (On w call Q) w who → Beside (On w call Q) w u → v ≡ meet_deadline u who → CalmBut v who
          by Q u spares b i = calm_but (On w call Q) w v who o.fits (stirs_calm w who c) pends spares (late (On w call Q) u b i)

          attaches : (q : Option Layer) → layer_of call ≡ q → v ≡ meet_deadline (enter_attach k who call) who → CalmBut v who
          attaches (Some layer) e i = by Nobody (enter_attach k who call) (takes_spare (λ n f. layer_takes call n layer f e)) (subst (λ q. Beside (On w call Nobody) w (attached q)) (sym e) (attach_beside layer)) i
          attaches None e i = any_late (enter_attach k who call) (subst (λ q. Beside AnyCall w (attached q)) (sym e) (some_beside AnyCall (named_by call) k (λ n. k) (λ n. not_beside AnyCall w))) i

          at : (s : Bool) → is_send (word_of call) ≡ s → (r t : Bool) → gives_up (word_of call) ≡ t → (l h : Bool) → is_handshake (word_of call) ≡ h
              → v ≡ meet_deadline (if s then enter_send k who call else (if r then enter_receive k who call else (if t then enter_giving_up k who call (draws_of call) else (if l then enter_link k who call else (if h then enter_handshake k who call else enter_attach k who call))))) who → CalmBut v who
          at true se r t te l h he i = by Asks (enter_send k who call) (sends_spare se) send_beside i
          at false se true t te l h he i = any_late (enter_receive k who call) (receive_beside AnyCall k who call) i
          at false se false true te l h he i = alone (enter_giving_up k who call (draws_of call)) (or_right (is_handshake (word_of call)) (gives_up (word_of call)) te) giving_beside i
          at false se false false te true h he i = any_late (enter_link k who call) (heat_beside AnyCall (record k { links = link.keep k.links }) call true false) i
          at false se false false te false true he i = alone (enter_handshake k who call) (ap (λ b. b || gives_up (word_of call)) he) handshake_beside i
          at false se false false te false false he i = attaches (layer_of call) refl i

      done_calm : v ≡ done p (resume w who view) who view call → CalmBut v who
      done_calm is = at (performs p k who view call) is
        where
          at : {u : World V} → Performs k who call u → v ≡ meet_deadline u who → CalmBut v who
          at on_link i = linked_calm i
          at (answers word answer) i = any_late (reply k who word answer) (not_beside AnyCall w) i
          at {u} (elsewhere off b) i = any_late u b i

  pub others_calm : (p : Program V) (w : World V) (who : ℕ) (v : World V) → IsInOrder w → IsCalm w → Turns p w who v → CalmBut v who
  others_calm p w who v o c t = at (turns_others p w who t) t
    where
      at : {u : World V} → ((other : ℕ) (more : Call) → Pends u other more → (other ≡ who → ⊥) → Pends w other more) → Turns p w who u → CalmBut u who
      at {u} pends (over view f s) = any_calm w u who o c pends s
      at pends (does view call free) = done_calm p w who view call o c free (done p (resume w who view) who view call) pends refl
