-- How each answer, each reply of the kernel and each call changes the coroutines: who is answered, who waits, whom the caller meets, and who is born.
use Rattle.std.proofs.Common.{◌≡◌, ◌∙◌, ◌+◌, ℕ, List, [], ◌∷◌, ◌++◌, find, Bool, true, false, ◌||◌, Option, Some, None, if◌then◌else◌, refl, sym, ap}
use Rattle.dill_base.specs.declared.errno.Errno.{Errno}
use Rattle.dill_base.specs.declared.errno.Errno.TheVariants.{Epipe}
use Rattle.dill_base.specs.Maps.{if_some, change}
use Rattle.dill_calls.specs.declared.answer.Answer.{Answer}
use Rattle.dill_calls.specs.declared.answer.Answer.TheVariants.{Number, Fault}
use Rattle.dill_calls.specs.declared.answer.Answer.TheVariants as answers
use Rattle.dill_calls.specs.declared.call.Call.{Call}
use Rattle.dill_calls.specs.declared.call.Call.TheVariants as calls
use Rattle.dill_calls.specs.declared.lists.Arg.{Arg}
use Rattle.dill_calls.specs.declared.lists.Clause.{Clause}
use Rattle.dill_calls.specs.declared.word.Word.{Word}
use Rattle.dill_calls.specs.declared.word.Word.TheVariants as words
use Rattle.dill_calls.specs.CallTable.{word_of, named_by, blocks, gives_up}
use Rattle.dill_calls.specs.Program.{Program}
use Rattle.dill_chan.specs.declared.end.Want.TheVariants.{Send}
use Rattle.dill_chan.specs.declared.meeting.Meeting.{Meeting}
use Rattle.dill_chan.specs.declared.meeting.Meeting.TheVariants as meetings
use Rattle.dill_chan.specs.Channels as channels
use Rattle.dill_chan.specs.Meetings.{has_ended}
use Rattle.dill_handles.specs.Handles as handles
use Rattle.dill_handles.specs.declared.entry.Entry.{Entry}
use Rattle.dill_kernel.specs.declared.replies.KernelAsk.{KernelAsk}
use Rattle.dill_kernel.specs.declared.replies.KernelAsk.TheVariants as asks
use Rattle.dill_kernel.specs.declared.replies.KernelReply.{KernelReply}
use Rattle.dill_kernel.specs.declared.replies.KernelReply.TheVariants as replies
use Rattle.dill_stack.specs.Interface.{detach_start}
use Rattle.dill_stack.specs.declared.parting.Parting.{Parting}
use Rattle.dill_rules.specs.declared.coroutine.Coroutine.{Coroutine}
use Rattle.dill_rules.specs.declared.coroutine.Mode.TheVariants as modes
use Rattle.dill_rules.specs.declared.thing.Thing.{Thing}
use Rattle.dill_rules.specs.declared.thing.Thing.TheVariants as things
use Rattle.dill_rules.specs.Answers.{end_named}
use Rattle.dill_rules.specs.Channeling.{without_bytes, done_at, clauses_of, is_waiting, meeting_of, first_done, wait_all, clause_answer, meet, enter_channel}
use Rattle.dill_rules.specs.Directions.{is_send, is_receive, is_handshake, parting_of}
use Rattle.dill_rules.specs.Effects.{make, add_bundle, close_thing, bear, start, give_all, told, next_number, passed_answer}
use Rattle.dill_rules.specs.Entering.{perform_on_link, perform}
use Rattle.dill_rules.specs.Giving.{is_read, look_on, after_send, give_send, give_receive, give_number, give_attached, give_closed, forgo, give_forgone, give_class, give}
use Rattle.dill_rules.specs.Hearing.{listen_fault, connect_fault, accept_fault, fitting, linking_call, fail, give_handle, made, connector_of, heard_listen, heard_connect, heard_finish, heard_accept, heard_write, heard_shut, heard_read, heard_ask, heard}
use Rattle.dill_rules.specs.Kinds.{value_of}
use Rattle.dill_rules.specs.LinkAnswers.{is_tcp_close}
use Rattle.dill_rules.specs.Linking.{greet_by, ask_stack, heat, reserve, queue, enter_send, enter_receive, enter_link, attach_layer, enter_attach, given_up_at_once, give_stack_up, begin_detach, dropped_for, enter_giving_up, enter_handshake}
use Rattle.dill_rules.specs.Links.{with_stack, as_stream}
use Rattle.dill_rules.specs.declared.link.Sort.TheVariants.{Listening, Stream}
use Rattle.dill_rules.specs.Links as link
use Rattle.dill_rules.specs.Naming.{gifts_of, links, draws_of, bears}
use Rattle.dill_rules.specs.Owning.{entry_of, move, close_bundle, release, is_dead_as, free_bundle, take}
use Rattle.dill_rules.specs.Refusals.{is_accept}
use Rattle.dill_rules.specs.Sockets.{on_link, on_named}
use Rattle.dill_rules.specs.Taking.{bundle_named}
use Rattle.dill_rules.specs.Trying.{Try, pending_on, next_link}
use Rattle.dill_rules.specs.World.{World, is_coroutine, call_of, with_mode, reply, pend, pending_call}
use Rattle.laws_queue.proofs.Besides.{besides_crew, besides_then, with_links, on_named_besides, ask_stack_besides, heat_besides, ready_besides, queue_besides, dropped_besides, look_besides}
use Rattle.laws_queue.proofs.Crew.{SameCrew, no_change, some_crew, crew_then, move_crew, release_crew, free_dead_crew, give_all_crew}
use Rattle.laws_queue.proofs.Linked.{if_crew, take_named_crew, release_named_crew, attach_crew, forgo_crew, wait_all_crew}

-- ---- answers

module _ {V : Type 0} where
  -- who was pending has its answer, and else the coroutines are as they were
  pub record Gives (w : World V) (who : ℕ) (word : Word) (v : World V) : Type 0 where
    pub answer : Answer
    pub coroutines : v.coroutines ≡ change (is_coroutine who) (with_mode (modes.Fresh word answer)) w.coroutines
    pub last : v.last_coroutine ≡ w.last_coroutine

  pub gives : (w v : World V) (who : ℕ) (word : Word) (answer : Answer) → SameCrew w v → Gives w who word (reply v who word answer)
  gives w v who word answer s = record { answer = answer; coroutines = ap (change (is_coroutine who) (with_mode (modes.Fresh word answer))) s.coroutines; last = s.last }

  if_gives : (b : Bool) (w : World V) (who : ℕ) (word : Word) (v u : World V) → Gives w who word v → Gives w who word u → Gives w who word (if b then v else u)
  if_gives true w who word v u e f = e
  if_gives false w who word v u e f = f

  either_gives : {A : Type 0} (o : Option A) (w : World V) (who : ℕ) (word : Word) (v : World V) (f : A → World V) → Gives w who word v → ((a : A) → Gives w who word (f a)) → Gives w who word (if_some o v f)
  either_gives None w who word v f e h = e
  either_gives (Some a) w who word v f e h = h a

  up_gives : (w v : World V) (who : ℕ) (call : Call) (e : Errno) (kept : ℕ) → SameCrew w v → Gives w who (word_of call) (give_stack_up v who call e kept)
  up_gives w v who call e kept s =
      let u = if_some (named_by call) v (λ number. release (record v { handles = handles.unkeep v.handles kept }) number) in
      gives w u who (word_of call) (Fault e) (crew_then w v u s (release_named_crew v call kept))

  attached_gives : (w : World V) (who : ℕ) (call : Call) (answer : Answer) → Gives w who (word_of call) (give_attached w who call answer)
  attached_gives w who call (Fault e) = up_gives w (if is_read (Fault e) then look_on w call else w) who call e (draws_of call) (if_crew (is_read (Fault e)) w (look_on w call) w (besides_crew (look_besides w call)) (no_change w))
  attached_gives w who call answer =
      either_gives (named_by call) w who (word_of call) (reply w who (word_of call) answer) (give_number w who call) (gives w w who (word_of call) answer (no_change w))
      (λ number. gives w (move (look_on w call) number who) who (word_of call) (Number (next_number w)) (crew_then w (look_on w call) (move (look_on w call) number who) (besides_crew (look_besides w call)) (move_crew (look_on w call) number who)))

  closed_gives : (w : World V) (who : ℕ) (call : Call) (answer : Answer) → Gives w who (word_of call) (give_closed w who call answer)
  closed_gives w who call (Fault e) = up_gives w w who call e 0 (no_change w)
  closed_gives w who call answer = gives w (if_some (named_by call) w (release w)) who (word_of call) answer (some_crew (named_by call) w w (release w) (no_change w) (release_crew w))

  class_gives : (w : World V) (who : ℕ) (call : Call) (answer : Answer) → Gives w who (word_of call) (give_class w who call answer)
  class_gives w who call answer =
      let word = word_of call in
      if_gives (is_send word) w who word (give_send w who call answer) _
      (gives w (if_some (named_by call) w (λ number. on_named w number (with_stack (after_send word answer)))) who word answer (some_crew (named_by call) w w (λ number. on_named w number (with_stack (after_send word answer))) (no_change w) (λ number. besides_crew (on_named_besides w number (with_stack (after_send word answer))))))
      (if_gives (is_receive word) w who word (give_receive w who call answer) _
      (gives w (if is_read answer then look_on w call else w) who word answer (if_crew (is_read answer) w (look_on w call) w (besides_crew (look_besides w call)) (no_change w)))
      (if_gives (is_tcp_close word) w who word (give_closed w who call answer) _ (closed_gives w who call answer)
      (if_gives (is_handshake word || gives_up word) w who word (give_attached w who call answer) _ (attached_gives w who call answer)
      (if_gives (links word) w who word (give_forgone w who call answer) (reply w who word answer) (gives w (forgo w who) who word answer (forgo_crew w who)) (gives w w who word answer (no_change w))))))

  -- every giving answers
  pub give_gives : (w : World V) (who : ℕ) (call : Call) (answer : Answer) → Gives w who (word_of call) (give w who call answer)
  give_gives w who (calls.Hclose number) answer = gives w (if_some (find (is_dead_as number) w.closings) w (free_bundle w)) who words.Hclose answer (free_dead_crew w number)
  give_gives w who call answer = class_gives w who call answer

-- ---- replies of the kernel

-- the coroutines are as they were, or one that was pending has its answer
pub data Hears {V : Type 0} (w : World V) : World V → Type 0 where
  nobody : {v : World V} → SameCrew w v → Hears w v
  one : {v : World V} (who : ℕ) (call : Call) → call_of w who ≡ Some call → Gives w who (word_of call) v → Hears w v

module _ {V : Type 0} where
  -- who is pending in a listen, an accept or a connect
  linked_call : (w : World V) (who : ℕ) (call : Call) → linking_call w who ≡ Some call → call_of w who ≡ Some call
  linked_call w who call e = at (call_of w who) e
    where
      by_word : (c : Call) (b : Bool) → (if b then Some c else None) ≡ Some call → ◌≡◌ {A = Option Call} (Some c) (Some call)
      by_word c true f = f
      by_word c false f = cc

      at : (o : Option Call) → if_some o None (λ c. if links (word_of c) then Some c else None) ≡ Some call → o ≡ Some call
      at None f = cc
      at (Some c) f = by_word c (links (word_of c)) f

  some_hears : {A : Type 0} (o : Option A) (w : World V) (f : A → World V) → ((a : A) → o ≡ Some a → Hears w (f a)) → Hears w (if_some o w f)
  some_hears None w f h = nobody (no_change w)
  some_hears (Some a) w f h = h a refl

  fail_hears : (w : World V) (e : Errno) (who : ℕ) → Hears w (fail w e who)
  fail_hears w e who = some_hears (linking_call w who) w (λ call. give w who call (Fault e)) (λ call f. one who call (linked_call w who call f) (give_gives w who call (Fault e)))

  -- behind an effect on links
  handle_hears : (w : World V) (l : link.Links) (thing : Thing) (who : ℕ) → Hears w (give_handle (record w { links = l }) thing who)
  handle_hears w l thing who = at (linking_call w who) refl
    where
      m : World V
      m = record w { links = l }

      at : (o : Option Call) → linking_call w who ≡ o → Hears w (if_some o m (λ call. reply (make m thing who) who (word_of call) (Number (next_number m))))
      at None f = nobody (record { coroutines = refl; last = refl })
      at (Some call) f = one who call (linked_call w who call f) (gives w (make m thing who) who (word_of call) (Number (next_number m)) (record { coroutines = refl; last = refl }))

  listen_hears : (w : World V) (who : ℕ) (said : KernelReply) → Hears w (heard_listen w who said)
  listen_hears w who (replies.Failed fault) = fail_hears w (listen_fault fault) who
  listen_hears w who said = handle_hears w (link.add w.links Listening) (things.Listener (next_link w)) who

  connect_hears : (w : World V) (who : ℕ) (said : KernelReply) → Hears w (heard_connect w who said)
  connect_hears w who (replies.Failed fault) = fail_hears w (connect_fault fault) who
  connect_hears w who said = nobody (record { coroutines = refl; last = refl })

  finish_hears : (w : World V) (n : ℕ) (said : KernelReply) → Hears w (heard_finish w n said)
  finish_hears w n (replies.Failed fault) = some_hears (connector_of w n) w (fail w (connect_fault fault)) (λ who e. fail_hears w (connect_fault fault) who)
  finish_hears w n replies.NotYet = nobody (record { coroutines = refl; last = refl })
  finish_hears w n said = some_hears (connector_of w n) w (give_handle (on_link w n as_stream) (things.Socket n)) (λ who e. handle_hears w (on_link w n as_stream).links (things.Socket n) who)

  accept_hears : (w : World V) (n : ℕ) (said : KernelReply) → Hears w (heard_accept w n said)
  accept_hears w n (replies.Failed fault) = some_hears (pending_on w is_accept n) w (fail w (accept_fault fault)) (λ who e. fail_hears w (accept_fault fault) who)
  accept_hears w n replies.NotYet = nobody (record { coroutines = refl; last = refl })
  accept_hears w n said = some_hears (pending_on w is_accept n) w (made w Stream things.Socket) (λ who e. handle_hears w (link.add w.links Stream) (things.Socket (next_link w)) who)

  write_crew : (w : World V) (l : link.Links) (n : ℕ) (said : KernelReply) → SameCrew w (heard_write (record w { links = l }) n said)
  write_crew w l n (replies.Took count) = record { coroutines = refl; last = refl }
  write_crew w l n replies.NotYet = record { coroutines = refl; last = refl }
  write_crew w l n said = record { coroutines = refl; last = refl }

  shut_crew : (w : World V) (n : ℕ) (said : KernelReply) → SameCrew w (heard_shut w n said)
  shut_crew w n replies.Done = record { coroutines = refl; last = refl }
  shut_crew w n said = record { coroutines = refl; last = refl }

  read_crew : (w : World V) (n : ℕ) (said : KernelReply) → SameCrew w (heard_read w n said)
  read_crew w n (replies.Came bytes) = record { coroutines = refl; last = refl }
  read_crew w n replies.End = record { coroutines = refl; last = refl }
  read_crew w n replies.NotYet = record { coroutines = refl; last = refl }
  read_crew w n said = record { coroutines = refl; last = refl }

  ask_hears : (w : World V) (number : ℕ) (ask : KernelAsk) (said : KernelReply) → Hears w (heard_ask w number ask said)
  ask_hears w number (asks.Close n) said = nobody (record { coroutines = refl; last = refl })
  ask_hears w number (asks.Listen n address backlog) said = listen_hears w number said
  ask_hears w number (asks.Connect n address) said = connect_hears w number said
  ask_hears w number (asks.Finish n) said = finish_hears w n said
  ask_hears w number (asks.Accept listener n) said = accept_hears w listener said
  ask_hears w number (asks.Write n bytes) said = nobody (write_crew w (on_link w n link.as_wrote).links n said)
  ask_hears w number (asks.Shut n) said = nobody (shut_crew w n said)
  ask_hears w number (asks.Read n size) said = nobody (read_crew w n said)
  ask_hears w number (asks.Wait limit) said = nobody (no_change w)

  placed_hears : (w m v : World V) → m.coroutines ≡ w.coroutines → m.last_coroutine ≡ w.last_coroutine → Hears m v → Hears w v
  placed_hears w m v e f (nobody s) = nobody (record { coroutines = s.coroutines ∙ e; last = s.last ∙ f })
  placed_hears w m v e f (one who call g h) =
      one who call (ap (λ cs. if_some (find (is_coroutine who) cs) None (λ c. pending_call c.mode)) (sym e) ∙ g)
      (record { answer = h.answer; coroutines = h.coroutines ∙ ap (change (is_coroutine who) (with_mode (modes.Fresh (word_of call) h.answer))) e; last = h.last ∙ f })

  pub heard_hears : (w : World V) (x : Try) (said : Option KernelReply) → Hears w (heard w x said)
  heard_hears w x said =
      let at : World V = record w { place = record { kind = x.kind; number = x.number } } in
      placed_hears w at (heard w x said) refl refl (ask_hears at x.number x.ask (fitting x.ask said))

-- ---- calls

-- the calls that may stay pending
abbrev pub may_pend : Call → Bool
may_pend (calls.Print text) = false
may_pend calls.Now = false
may_pend calls.Yield = false
may_pend (calls.Hmake kind value) = false
may_pend (calls.Hquery number kind) = false
may_pend (calls.Hown number) = false
may_pend calls.Bundle = false
may_pend (calls.Go program args) = false
may_pend (calls.BundleGo number program args) = false
may_pend calls.Chmake = false
may_pend (calls.Chdone number) = false
may_pend (calls.Pass word fault) = false
may_pend _ = true

-- the calls that may meet another's
abbrev pub may_meet : Call → Bool
may_meet (calls.Chsend number bytes deadline) = true
may_meet (calls.Chrecv number size deadline) = true
may_meet (calls.Choose deadline all) = true
may_meet _ = false

-- nothing is done of the call: its number isn't live, or of another kind
pub data Idles {V : Type 0} (w : World V) : Call → Type 0 where
  dead : {call : Call} (number : ℕ) → named_by call ≡ Some number → entry_of w number ≡ None → Idles w call
  no_bundle : (number program : ℕ) (args : List Arg) → bundle_named w number ≡ None → Idles w (calls.BundleGo number program args)
  no_end : (number : ℕ) → end_named w number ≡ None → Idles w (calls.Chdone number)

-- The caller is answered, or it waits, at channels without its bytes; or one that it meets is answered, or a child begins of which something holds, and then it is answered itself.
pub data Acts {V : Type 0} (B : V → Type 0) (w : World V) (who : ℕ) (call : Call) : World V → Type 0 where
  idles : Idles w call → Acts B w who call w
  answered : {v : World V} → Gives w who (word_of call) v → Acts B w who call v
  waits : {v : World V} → may_pend call ≡ true → SameCrew (pend w who call) v → Acts B w who call v
  waits_bare : {v : World V} → may_meet call ≡ true → SameCrew (pend w who (without_bytes call)) v → Acts B w who call v
  meets : {v : World V} (other : ℕ) (its : Call) (answer : Answer) → may_meet call ≡ true → call_of w other ≡ Some its → Gives (reply w other (word_of its) answer) who (word_of call) v → Acts B w who call v
  bore : {v : World V} (view : V) (home : ℕ) → B view → bears (word_of call) ≡ true → Gives (bear w view home) who (word_of call) v → Acts B w who call v

-- it holds of the child that the call starts
abbrev pub Bearing : {V : Type 0} → (V → Type 0) → Program V → V → Call → Type 0
Bearing B p view (calls.Go program args) = (next : ℕ) → B (p.child view program (told next args))
Bearing B p view (calls.BundleGo number program args) = (next : ℕ) → B (p.child view program (told next args))
Bearing B p view call = Unit {0}

module _ {V : Type 0} where
  pended : (w v : World V) (who : ℕ) (call : Call) → SameCrew w v → SameCrew (pend w who call) (pend v who call)
  pended w v who call s = record { coroutines = ap (change (is_coroutine who) (with_mode (modes.Pending call))) s.coroutines; last = s.last }

  born : (w v : World V) (view : V) (home : ℕ) → SameCrew w v → SameCrew (bear w view home) (bear v view home)
  born w v view home s = record {
    coroutines = at v.coroutines v.last_coroutine s.coroutines s.last;
    last = ap (λ n. n + 1) s.last;
  }
    where
      at : (cs : List (Coroutine V)) (n : ℕ) → cs ≡ w.coroutines → n ≡ w.last_coroutine → cs ++ record { number = n + 1; body = view; mode = modes.Fresh words.Start (Number 0) } ∷ [] ≡ w.coroutines ++ record { number = w.last_coroutine + 1; body = view; mode = modes.Fresh words.Start (Number 0) } ∷ []
      at cs n e f = ap (λ ds. ds ++ record { number = n + 1; body = view; mode = modes.Fresh words.Start (Number 0) } ∷ []) e ∙ ap (λ m. w.coroutines ++ record { number = m + 1; body = view; mode = modes.Fresh words.Start (Number 0) } ∷ []) f

module _ {V : Type 0} (B : V → Type 0) where
  if_acts : (b : Bool) (w : World V) (who : ℕ) (call : Call) (v u : World V) → Acts B w who call v → Acts B w who call u → Acts B w who call (if b then v else u)
  if_acts true w who call v u e f = e
  if_acts false w who call v u e f = f

  -- a number that isn't live is named
  alive_acts : (w : World V) (who : ℕ) (call : Call) (number : ℕ) (f : Entry Thing → World V) → named_by call ≡ Some number → ((x : Entry Thing) → Acts B w who call (f x)) → Acts B w who call (if_some (entry_of w number) w f)
  alive_acts w who call number f e h = at (entry_of w number) refl
    where
      at : (o : Option (Entry Thing)) → entry_of w number ≡ o → Acts B w who call (if_some o w f)
      at None g = idles (dead number e g)
      at (Some x) g = h x

  replied : (w v : World V) (who : ℕ) (call : Call) (answer : Answer) → SameCrew w v → Acts B w who call (reply v who (word_of call) answer)
  replied w v who call answer s = answered (gives w v who (word_of call) answer s)

  pends : (w v : World V) (who : ℕ) (call : Call) → may_pend call ≡ true → SameCrew w v → Acts B w who call (pend v who call)
  pends w v who call m s = waits m (pended w v who call s)

  -- ---- channels

  -- what is done at its entry doesn't wait
  done_waits : (w : World V) (who i : ℕ) (xs : List Clause) (x : ℕ × Meeting) → first_done w who i xs ≡ Some x → is_waiting x.1 ≡ false
  done_waits w who i [] x e = cc
  done_waits w who i (y ∷ ys) x e = at (is_waiting (meeting_of w who y)) refl e (done_waits w who (i + 1) ys x)
    where
      at : (b : Bool) → is_waiting (meeting_of w who y) ≡ b → (if b then first_done w who (i + 1) ys else Some (i, meeting_of w who y)) ≡ Some x → (first_done w who (i + 1) ys ≡ Some x → is_waiting x.1 ≡ false) → is_waiting x.1 ≡ false
      at true f g rest = rest g
      at false f g rest = let it : ◌≡◌ {A = ℕ × Meeting} (i, meeting_of w who y) x = cc in ap (λ z. is_waiting z.1) (sym it) ∙ f

  meet_acts : (w : World V) (who : ℕ) (call : Call) (index : ℕ) (m : Meeting) → may_meet call ≡ true → is_waiting m ≡ false → Acts B w who call (meet w who call index m)
  meet_acts w who call index (meetings.Met x) k n = at (call_of w x.other) refl
    where
      at : (o : Option Call) → call_of w x.other ≡ o → Acts B w who call (reply (if_some o w (λ its. reply w x.other (word_of its) (clause_answer its x.clause x.others))) who (word_of call) (clause_answer call index x.answer))
      at None e = replied w w who call (clause_answer call index x.answer) (no_change w)
      at (Some its) e =
          let answer = clause_answer its x.clause x.others in
          meets x.other its answer k e (gives (reply w x.other (word_of its) answer) (reply w x.other (word_of its) answer) who (word_of call) (clause_answer call index x.answer) (no_change (reply w x.other (word_of its) answer)))
  meet_acts w who call index meetings.Ended k n = replied w w who call (clause_answer call index (Fault Epipe)) (no_change w)
  meet_acts w who call index meetings.Waits k n = cc

  channel_acts : (w : World V) (who : ℕ) (call : Call) → may_meet call ≡ true → Acts B w who call (enter_channel w who call)
  channel_acts w who call k = at (first_done w who 0 (clauses_of call)) refl
    where
      at : (o : Option (ℕ × Meeting)) → first_done w who 0 (clauses_of call) ≡ o → Acts B w who call (if_some o (wait_all (pend w who (without_bytes call)) who 0 (clauses_of call)) (λ x. meet w who call x.0 x.1))
      at None e = waits_bare k (wait_all_crew (pend w who (without_bytes call)) who 0 (clauses_of call))
      at (Some x) e = meet_acts w who call x.0 x.1 k (done_waits w who 0 (clauses_of call) x e)

  -- ---- links

  up_acts : (w v : World V) (who : ℕ) (call : Call) (e : Errno) (kept : ℕ) → SameCrew w v → Acts B w who call (give_stack_up v who call e kept)
  up_acts w v who call e kept s = answered (up_gives w v who call e kept s)

  giving_acts : (w : World V) (who : ℕ) (call : Call) (kept : ℕ) → may_pend call ≡ true → Acts B w who call (enter_giving_up w who call kept)
  giving_acts w who call kept m =
      let taken = if_some (named_by call) w (λ number. take w number who) in
      let own = dropped_for taken call in
      at own (crew_then w taken own (take_named_crew w call who) (besides_crew (dropped_besides taken call))) (given_up_at_once own who call) (parting_of call)
    where
      at : (own : World V) → SameCrew w own → (o : Option Errno) (q : Option Parting) → Acts B w who call (if_some o (if_some q (pend (heat own call true true) who call) (begin_detach own who call)) (λ e. give_stack_up own who call e kept))
      at own s None None = pends w (heat own call true true) who call m (crew_then w own (heat own call true true) s (besides_crew (heat_besides own call true true)))
      at own s None (Some parting) =
          let b = blocks (word_of call) in
          let asked = ask_stack own call (λ random h. detach_start parting random h) in
          pends w (heat asked call b b) who call m (crew_then w own (heat asked call b b) s (besides_crew (besides_then own asked (heat asked call b b) (ask_stack_besides own call (λ random h. detach_start parting random h)) (heat_besides asked call b b))))
      at own s (Some e) q = up_acts w own who call e kept s

  on_link_acts : (w : World V) (who : ℕ) (call : Call) → may_pend call ≡ true → Acts B w who call (perform_on_link w who call)
  on_link_acts w who call m =
      let word = word_of call in
      let hot = heat w call false true in
      let more = record w { links = link.keep w.links } in
      let taken = if_some (named_by call) w (λ number. take w number who) in
      let asked = ask_stack taken call (greet_by call) in
      if_acts (is_send word) w who call (enter_send w who call) _ (pends w (queue hot call) who call m (besides_crew (besides_then w hot (queue hot call) (heat_besides w call false true) (queue_besides hot call))))
      (if_acts (is_receive word) w who call (enter_receive w who call) _ (pends w (heat (reserve w call) call true false) who call m (besides_crew (ready_besides w call)))
      (if_acts (gives_up word) w who call (enter_giving_up w who call (draws_of call)) _ (giving_acts w who call (draws_of call) m)
      (if_acts (links word) w who call (enter_link w who call) _ (pends w (heat more call true false) who call m (besides_crew (besides_then w more (heat more call true false) (with_links w (link.keep w.links) w.random) (heat_besides more call true false))))
      (if_acts (is_handshake word) w who call (enter_handshake w who call) (enter_attach w who call)
      (pends w (heat asked call true true) who call m (crew_then w taken (heat asked call true true) (take_named_crew w call who) (besides_crew (besides_then taken asked (heat asked call true true) (ask_stack_besides taken call (greet_by call)) (heat_besides asked call true true)))))
      (replied w (attach_layer w who call) who call (Number (next_number w)) (attach_crew w who call))))))

  -- ---- the others

  close_acts : (w : World V) (who number : ℕ) (thing : Thing) → Acts B w who (calls.Hclose number) (close_thing w who number thing)
  close_acts w who number (things.Bundle name) = pends w (close_bundle w who name number) who (calls.Hclose number) refl (record { coroutines = refl; last = refl })
  close_acts w who number (things.End end) = replied w (release w number) who (calls.Hclose number) (Number 0) (release_crew w number)
  close_acts w who number (things.Listener l) = replied w (release w number) who (calls.Hclose number) (Number 0) (release_crew w number)
  close_acts w who number (things.Socket l) = replied w (release w number) who (calls.Hclose number) (Number 0) (release_crew w number)
  close_acts w who number (things.Value kind value) = replied w (release w number) who (calls.Hclose number) (Number 0) (release_crew w number)

  start_acts : (w m : World V) (who : ℕ) (call : Call) (view : V) (home owner : ℕ) (answer : Answer) → bears (word_of call) ≡ true → B view → SameCrew w m → (ns : List ℕ) → Acts B w who call (reply (bear (give_all m ns owner) view home) who (word_of call) answer)
  start_acts w m who call view home owner answer e b s ns =
      let given = give_all m ns owner in
      bore view home b e (gives (bear w view home) (bear given view home) who (word_of call) answer (born w given view home (crew_then w m given s (give_all_crew m ns owner))))

  -- whatever is called
  pub perform_acts : (p : Program V) (w : World V) (who : ℕ) (view : V) (call : Call) → Bearing B p view call → Acts B w who call (perform p w who view call)
  perform_acts p w who view (calls.Print text) k = replied w w who (calls.Print text) (Number 0) (no_change w)
  perform_acts p w who view calls.Now k = replied w w who calls.Now (Number w.moment) (no_change w)
  perform_acts p w who view calls.Yield k = replied w w who calls.Yield (Number 0) (no_change w)
  perform_acts p w who view (calls.Msleep deadline) k = pends w w who (calls.Msleep deadline) refl (no_change w)
  perform_acts p w who view (calls.Hmake kind value) k = replied w (make w (things.Value kind value) who) who (calls.Hmake kind value) (Number (next_number w)) (record { coroutines = refl; last = refl })
  perform_acts p w who view (calls.Hquery number kind) k =
      alive_acts w who (calls.Hquery number kind) number (λ x. reply w who words.Hquery (Number (value_of x.thing))) refl (λ x. replied w w who (calls.Hquery number kind) (Number (value_of x.thing)) (no_change w))
  perform_acts p w who view (calls.Hown number) k = replied w (move w number who) who (calls.Hown number) (Number (next_number w)) (move_crew w number who)
  perform_acts p w who view (calls.Hclose number) k = alive_acts w who (calls.Hclose number) number (λ x. close_thing w who number x.thing) refl (λ x. close_acts w who number x.thing)
  perform_acts p w who view calls.Bundle k = replied w (add_bundle w who) who calls.Bundle (Number (next_number w)) (record { coroutines = refl; last = refl })
  perform_acts p w who view (calls.Go program args) k =
      let made = add_bundle w who in
      start_acts w made who (calls.Go program args) (p.child view program (told (next_number made) args)) (w.last_bundle + 1) (made.last_coroutine + 1) (Number (next_number w)) refl (k (next_number made)) (record { coroutines = refl; last = refl }) (gifts_of args)
  perform_acts p w who view (calls.BundleGo number program args) k = at (bundle_named w number) refl
    where
      at : (o : Option ℕ) → bundle_named w number ≡ o → Acts B w who (calls.BundleGo number program args) (if_some o w (λ home. reply (start p w view home program args) who words.BundleGo (Number 0)))
      at None e = idles (no_bundle number program args e)
      at (Some home) e = start_acts w w who (calls.BundleGo number program args) (p.child view program (told (next_number w) args)) home (w.last_coroutine + 1) (Number 0) refl (k (next_number w)) (no_change w) (gifts_of args)
  perform_acts p w who view (calls.BundleWait number deadline) k = pends w w who (calls.BundleWait number deadline) refl (no_change w)
  perform_acts p w who view (calls.Pass word fault) k = replied w w who (calls.Pass word fault) (passed_answer fault) (no_change w)
  perform_acts p w who view calls.Chmake k =
      replied w (make (make (record w { channels = channels.make w.channels }) (things.End (channels.next_ends w.channels).0) who) (things.End (channels.next_ends w.channels).1) who) who calls.Chmake (answers.Pair (next_number w) (next_number w + 1)) (record { coroutines = refl; last = refl })
  perform_acts p w who view (calls.Chsend number bytes deadline) k = channel_acts w who (calls.Chsend number bytes deadline) refl
  perform_acts p w who view (calls.Chrecv number size deadline) k = channel_acts w who (calls.Chrecv number size deadline) refl
  perform_acts p w who view (calls.Choose deadline all) k = channel_acts w who (calls.Choose deadline all) refl
  perform_acts p w who view (calls.Chdone number) k = at (end_named w number) refl
    where
      at : (o : Option ℕ) → end_named w number ≡ o → Acts B w who (calls.Chdone number) (if_some o w (done_at w who))
      at None e = idles (no_end number e)
      at (Some end) e =
          if_acts (has_ended w.channels end (Send [])) w who (calls.Chdone number) (reply w who words.Chdone (Fault Epipe)) (reply (record w { channels = channels.done w.channels end }) who words.Chdone (Number 0))
          (replied w w who (calls.Chdone number) (Fault Epipe) (no_change w)) (replied w (record w { channels = channels.done w.channels end }) who (calls.Chdone number) (Number 0) (record { coroutines = refl; last = refl }))
  perform_acts p w who view call k = on_link_acts w who call refl
