-- A turn leaves as many links kept as pending calls that make a link have none.
use Rattle.std.proofs.Common.{◌≡◌, ◌∙◌, ℕ, ◌+◌, ◌-◌, ◌≤◌, List, [], ◌∷◌, ◌++◌, find, fold, Bool, true, false, not, ◌&&◌, Option, Some, None, if◌then◌else◌, refl, sym, ap, subst, arith}
use Rattle.std.specs.Prelude.{filter, Result}
use Rattle.std.proofs.lemmas.Bool.{and_parts}
use Rattle.rand_core.specs.Stream.{Stream}
use Rattle.dill_base.specs.declared.errno.Errno.{Errno}
use Rattle.dill_base.specs.declared.errno.Errno.TheVariants.{Enomem, Epipe}
use Rattle.dill_base.specs.Maps.{if_some, change}
use Rattle.dill_calls.specs.declared.answer.Answer.{Answer}
use Rattle.dill_calls.specs.declared.answer.Answer.TheVariants.{Fault, Number}
use Rattle.dill_calls.specs.declared.call.Call.{Call}
use Rattle.dill_calls.specs.declared.call.Call.TheVariants as calls
use Rattle.dill_calls.specs.declared.lists.Clause.{Clause}
use Rattle.dill_calls.specs.declared.ran.LackPlace.{LackPlace}
use Rattle.dill_calls.specs.declared.word.Word.{Word}
use Rattle.dill_calls.specs.declared.word.Word.TheVariants as words
use Rattle.dill_calls.specs.CallTable.{word_of, named_by, blocks, gives_up, takes_memory, build_takes_memory}
use Rattle.dill_calls.specs.Program.{Program, Move, Calls, Ends}
use Rattle.dill_chan.specs.declared.end.Want.TheVariants.{Send}
use Rattle.dill_chan.specs.Meetings.{has_ended}
use Rattle.dill_chan.specs.declared.meeting.Meeting.{Meeting}
use Rattle.dill_chan.specs.declared.meeting.Meeting.TheVariants as meetings
use Rattle.dill_chan.specs.declared.meeting.Met.{Met}
use Rattle.dill_handles.specs.Handles as handles
use Rattle.dill_handles.specs.declared.entry.Entry.{Entry}
use Rattle.dill_stack.specs.Interface.{Held, attach, detach_start}
use Rattle.dill_stack.specs.declared.parting.Parting.{Parting}
use Rattle.dill_rules.specs.declared.coroutine.Coroutine.{Coroutine}
use Rattle.dill_rules.specs.declared.coroutine.Mode.{Mode}
use Rattle.dill_rules.specs.declared.coroutine.Mode.TheVariants as modes
use Rattle.dill_rules.specs.declared.thing.Thing.{Thing}
use Rattle.dill_rules.specs.declared.thing.Thing.TheVariants as things
use Rattle.dill_rules.specs.World.{World, is_coroutine, coroutine_of, call_of, with_mode, reply, pend, begin, is_answered, pending_call}
use Rattle.dill_rules.specs.Answers.{end_named}
use Rattle.dill_rules.specs.Channeling.{without_bytes, wait_at, clauses_of, first_done, is_waiting, meeting_of, clause_answer, meet, wait_all, enter_channel, done_at}
use Rattle.dill_rules.specs.Directions.{is_send, is_receive, is_handshake, layer_of, parting_of}
use Rattle.dill_rules.specs.Effects.{add_bundle, bear, close_thing, give_all}
use Rattle.dill_rules.specs.Entering.{keep_for, perform_on_link, perform, is_late, is_too_late, late_answer, meet_deadline, done, enter, entered, lack_fault}
use Rattle.dill_rules.specs.Linking.{with_random, greet_by, ask_stack, heat, reserve, queue, enter_send, enter_receive, enter_link, put_layer, enter_attach, given_up_at_once, give_stack_up, begin_detach, dropped_for, enter_giving_up, enter_handshake}
use Rattle.dill_rules.specs.Links as link
use Rattle.dill_rules.specs.Links.{Links}
use Rattle.dill_rules.specs.Naming.{links, uses_link, draws_of, gifts_of, end_of_clause}
use Rattle.dill_rules.specs.Owning.{entry_of, take_thing, take, move, close_bundle}
use Rattle.dill_rules.specs.Refusals.{refuse}
use Rattle.dill_rules.specs.Settling.{close_owned, close_all, end}
use Rattle.dill_rules.specs.Taking.{bundle_of, bundle_named}
use Rattle.dill_rules.specs.Turning.{is_build, is_entry, as_running, may_lack_build, resume, answer_given, move_of, make_move, lack_move, go_on}
use Rattle.laws_queue.specs.Well.{bit, is_at, Numbered}
use Rattle.laws_queue.proofs.Acting.{Acts, idles, answered, waits, waits_bare, meets, bore, may_meet, Bearing, perform_acts, Gives}
use Rattle.laws_queue.proofs.Crew.{SameCrew, close_all_crew}
use Rattle.laws_queue.proofs.Linked.{wait_all_crew}
use Rattle.laws_queue.proofs.Numbers.{numbered_change, numbered_append}
use Rattle.laws_sound.specs.Orderly.{is_channel, is_meeting, IsOrderly}
use Rattle.laws_sound.proofs.Counting.{weigh_push, found_push}
use Rattle.laws_sound.proofs.Crews.{change_here, change_other}
use Rattle.laws_sound.proofs.Performing.{first_meets}
use Rattle.laws_sound.proofs.Making.{begins}
use Rattle.laws_looks.specs.Readers.{LooksApart}
use Rattle.laws_looks.specs.Keeping.{connects_for, connects, awaits, KeepsLinks}
use Rattle.laws_looks.proofs.Lists.{some_same, true_false}
use Rattle.laws_looks.proofs.Stays.{heat_stays, ready_stays, ask_stays, queue_stays, dropped_stays}
use Rattle.laws_looks.proofs.Fewer.{fewer_same, fewer_besides, fewer_then, fewer_some, fewer_change, fewer_apart}
use Rattle.laws_looks.proofs.Counted.{is_making, Even, even_same, even_then, even_soft, idle_awaits, making_awaits, is_number, moved, moved_idle, aside_keeps, some_even, if_even, release_even, move_even, up_even, Lasts}
use Rattle.laws_looks.proofs.Enters.{fewer_take, go_on_apart}
use Rattle.laws_queue.proofs.Besides.{besides_crew, dropped_besides, heat_besides}

open_links : (word : Word) → uses_link word ≡ false → links word ≡ false
open_links words.TcpListen e = cc
open_links words.TcpAccept e = cc
open_links words.TcpConnect e = cc
open_links _ e = refl

channel_idle : (word : Word) → is_channel word ≡ true → links word ≡ false
channel_idle words.Chsend e = refl
channel_idle words.Chrecv e = refl
channel_idle words.Choose e = refl
channel_idle _ e = cc

meeting_idle : (mode : Mode) → is_meeting mode ≡ true → is_making mode ≡ false
meeting_idle mode e = at (pending_call mode) e
  where
    at : (o : Option Call) → if_some o false (λ call. is_channel (word_of call)) ≡ true → if_some o false (λ call. links (word_of call)) ≡ false
    at None f = refl
    at (Some call) f = channel_idle (word_of call) f

answered_idle : (mode : Mode) → is_answered mode ≡ true → (is_making mode ≡ false) × (is_meeting mode ≡ false)
answered_idle (modes.Answered word answer) e = (refl, refl)
answered_idle (modes.Pending call) e = cc
answered_idle modes.Running e = cc
answered_idle (modes.Fresh word answer) e = cc
answered_idle (modes.Ending outcome) e = cc

bare_idle : (call : Call) → may_meet call ≡ true → is_making (modes.Pending (without_bytes call)) ≡ false
bare_idle (calls.Chsend number bytes deadline) e = refl
bare_idle (calls.Chrecv number size deadline) e = refl
bare_idle (calls.Choose deadline all) e = refl
bare_idle _ e = cc

module _ {V : Type 0} where
  -- the numbers of coroutines rise, and links are kept
  pub record Counts (w : World V) : Type 0 where
    pub numbered : Numbered 0 w.coroutines w.last_coroutine
    pub keeps : KeepsLinks w

  one_counts : (w v : World V) (who : ℕ) (c : Coroutine V) (f : Coroutine V → Coroutine V) → ((d : Coroutine V) → (f d).number ≡ d.number) → coroutine_of w who ≡ Some c → v.coroutines ≡ change (is_coroutine who) f w.coroutines → v.last_coroutine ≡ w.last_coroutine → is_making c.mode ≡ false → is_making (f c).mode ≡ false → Even w.links v.links → Counts w → Counts v
  one_counts w v who c f number found crew last was is e k = record {
    numbered = subst (λ n. Numbered 0 v.coroutines n) (sym last) (subst (λ cs. Numbered 0 cs w.last_coroutine) (sym crew) (numbered_change (is_coroutine who) f w.coroutines 0 w.last_coroutine number k.numbered));
    keeps = moved_idle w v who c f number (record { numbered = k.numbered; found = found }) crew was is e k.keeps;
  }

  aside_counts : (w v : World V) → v.coroutines ≡ w.coroutines → v.last_coroutine ≡ w.last_coroutine → Even w.links v.links → Counts w → Counts v
  aside_counts w v crew last e k = record {
    numbered = subst (λ n. Numbered 0 v.coroutines n) (sym last) (subst (λ cs. Numbered 0 cs w.last_coroutine) (sym crew) k.numbered);
    keeps = aside_keeps w v crew e k.keeps;
  }

  reply_counts : (w : World V) (who : ℕ) (c : Coroutine V) (word : Word) (answer : Answer) → coroutine_of w who ≡ Some c → is_making c.mode ≡ false → Counts w → Counts (reply w who word answer)
  reply_counts w who c word answer found was k = one_counts w (reply w who word answer) who c (with_mode (modes.Fresh word answer)) (λ d. refl) found refl refl was refl (even_same w.links) k

  bear_counts : (w : World V) (view : V) (home : ℕ) → Counts w → Counts (bear w view home)
  bear_counts w view home k = record {
    numbered = numbered_append child w.coroutines 0 w.last_coroutine k.numbered (omega arith);
    keeps = record {
      kept = let a = weigh_push (awaits w.links) w.coroutines child in let b = k.keeps.kept in omega (arith, a, b);
      once = λ n. at n (find (is_coroutine n) w.coroutines) refl (k.keeps.once n);
    };
  }
    where
      child : Coroutine V
      child = record { number = w.last_coroutine + 1; body = view; mode = modes.Fresh words.Start (Number 0) }

      at : (n : ℕ) (o : Option (Coroutine V)) → find (is_coroutine n) w.coroutines ≡ o → connects_for w.links n ≤ bit (if_some o false (λ c. connects c.mode)) → connects_for w.links n ≤ bit (is_at connects (w.coroutines ++ child ∷ []) n)
      at n None e h = omega (arith, h)
      at n (Some c) e h = let a = ap (λ o. bit (if_some o false (λ (d : Coroutine V). connects d.mode))) (found_push (is_coroutine n) w.coroutines child c e) in omega (arith, a, h)

  -- ---- what a call does to links

  asked_even : (w : World V) (call : Call) (f : Stream → Held → Result (Held × Stream) Errno) → Even w.links (ask_stack w call f).links
  asked_even w call f = even_soft w.links (ask_stack w call f).links (ask_stays w call f)

  heat_even : (w : World V) (call : Call) (read write : Bool) → Even w.links (heat w call read write).links
  heat_even w call read write = even_soft w.links (heat w call read write).links (heat_stays w call read write)

  taken_even : (w : World V) (call : Call) (who : ℕ) → (if_some (named_by call) w (λ number. take w number who)).links ≡ w.links
  taken_even w call who = at (named_by call)
    where
      thing_links : (v : World V) (thing : Thing) → (take_thing v thing who).links ≡ v.links
      thing_links v (things.Bundle name) = refl
      thing_links v (things.End end) = refl
      thing_links v (things.Listener l) = refl
      thing_links v (things.Socket l) = refl
      thing_links v (things.Value kind value) = refl

      by : (number : ℕ) (o : Option (Entry Thing)) → (if_some o w (λ x. take_thing (record w { handles = handles.set_owner w.handles number who }) x.thing who)).links ≡ w.links
      by number None = refl
      by number (Some x) = thing_links (record w { handles = handles.set_owner w.handles number who }) x.thing

      at : (o : Option ℕ) → (if_some o w (λ number. take w number who)).links ≡ w.links
      at None = refl
      at (Some number) = by number (entry_of w number)

  giving_even : (w : World V) (who : ℕ) (call : Call) (kept : ℕ) → LooksApart w → Even w.links (enter_giving_up w who call kept).links
  giving_even w who call kept a =
      let taken = if_some (named_by call) w (λ number. take w number who) in
      let own = dropped_for taken call in
      let fewer = fewer_then w taken own (fewer_some (named_by call) w (λ number. take w number who) (λ number. fewer_take w number who)) (fewer_besides taken own (dropped_besides taken call) (dropped_stays taken call)) in
      at own (subst (λ l. Even l own.links) (taken_even w call who) (even_soft taken.links own.links (dropped_stays taken call))) (fewer_apart w own fewer a) (given_up_at_once own who call) (parting_of call)
    where
      at : (own : World V) → Even w.links own.links → LooksApart own → (o : Option Errno) (q : Option Parting) → Even w.links (if_some o (if_some q (pend (heat own call true true) who call) (begin_detach own who call)) (λ e. give_stack_up own who call e kept)).links
      at own e f None None = even_then w.links own.links (heat own call true true).links e (heat_even own call true true)
      at own e f None (Some parting) =
          let asked = ask_stack own call (λ random s. detach_start parting random s) in
          let hot = heat asked call (blocks (word_of call)) (blocks (word_of call)) in
          even_then w.links own.links hot.links e (even_then own.links asked.links hot.links (asked_even own call (λ random s. detach_start parting random s)) (heat_even asked call (blocks (word_of call)) (blocks (word_of call))))
      at own e f (Some x) q = up_even w own who call x kept f e

  on_link_even : (w : World V) (who : ℕ) (call : Call) → LooksApart w → links (word_of call) ≡ false → Even w.links (perform_on_link w who call).links
  on_link_even w who call a idle =
      let word = word_of call in
      let hot = heat w call false true in
      let taken = if_some (named_by call) w (λ number. take w number who) in
      let asked = ask_stack taken call (greet_by call) in
      if_even (is_send word) w.links (enter_send w who call) _ (λ e. even_then w.links hot.links (queue hot call).links (heat_even w call false true) (even_soft hot.links (queue hot call).links (queue_stays hot call)))
      (λ e. if_even (is_receive word) w.links (enter_receive w who call) _ (λ f. even_soft w.links (heat (reserve w call) call true false).links (ready_stays w call))
      (λ f. if_even (gives_up word) w.links (enter_giving_up w who call (draws_of call)) _ (λ g. giving_even w who call (draws_of call) a)
      (λ g. if_even (links word) w.links (enter_link w who call) _ (λ h. absurd (true_false (links word) h idle))
      (λ h. if_even (is_handshake word) w.links (enter_handshake w who call) (enter_attach w who call)
      (λ i. subst (λ l. Even l (heat asked call true true).links) (taken_even w call who) (even_then taken.links asked.links (heat asked call true true).links (asked_even taken call (greet_by call)) (heat_even asked call true true)))
      (λ i. some_even (named_by call) w (λ number. if_some (layer_of call) w (λ layer. move (put_layer w call layer) number who))
      (λ number. some_even (layer_of call) w (λ layer. move (put_layer w call layer) number who)
      (λ layer. even_then w.links (put_layer w call layer).links (move (put_layer w call layer) number who).links (asked_even w call (λ random s. with_random random (attach layer s))) (move_even (put_layer w call layer) number who))))))))

  given_even : (ns : List ℕ) (w : World V) (owner : ℕ) → Even w.links (give_all w ns owner).links
  given_even [] w owner = even_same w.links
  given_even (n ∷ ns) w owner = let v = move w n owner in even_then w.links v.links (give_all v ns owner).links (move_even w n owner) (given_even ns v owner)

  waits_links : (xs : List Clause) (w : World V) (who index : ℕ) → Even w.links (wait_all w who index xs).links
  waits_links [] w who index = even_same w.links
  waits_links (x ∷ xs) w who index = let v = wait_at w who index x in even_then w.links v.links (wait_all v who (index + 1) xs).links (some_even (end_named w (end_of_clause x)) w _ (λ end. even_same w.links)) (waits_links xs v who (index + 1))

  close_even : (w : World V) (who number : ℕ) (thing : Thing) → LooksApart w → Even w.links (close_thing w who number thing).links
  close_even w who number (things.Bundle name) a = even_same w.links
  close_even w who number (things.End end) a = release_even w number a
  close_even w who number (things.Listener l) a = release_even w number a
  close_even w who number (things.Socket l) a = release_even w number a
  close_even w who number (things.Value kind value) a = release_even w number a

  -- but for channels
  perform_even : (p : Program V) (w : World V) (who : ℕ) (view : V) (call : Call) → LooksApart w → may_meet call ≡ false → links (word_of call) ≡ false → Even w.links (perform p w who view call).links
  perform_even p w who view (calls.Print text) a m idle = even_same w.links
  perform_even p w who view calls.Now a m idle = even_same w.links
  perform_even p w who view calls.Yield a m idle = even_same w.links
  perform_even p w who view (calls.Msleep deadline) a m idle = even_same w.links
  perform_even p w who view (calls.Hmake kind value) a m idle = even_same w.links
  perform_even p w who view (calls.Hquery number kind) a m idle = some_even (entry_of w number) w _ (λ x. even_same w.links)
  perform_even p w who view (calls.Hown number) a m idle = move_even w number who
  perform_even p w who view (calls.Hclose number) a m idle = some_even (entry_of w number) w (λ x. close_thing w who number x.thing) (λ x. close_even w who number x.thing a)
  perform_even p w who view calls.Bundle a m idle = even_same w.links
  perform_even p w who view (calls.Go program args) a m idle = let made = add_bundle w who in given_even (gifts_of args) made (made.last_coroutine + 1)
  perform_even p w who view (calls.BundleGo number program args) a m idle = some_even (bundle_named w number) w _ (λ home. given_even (gifts_of args) w (w.last_coroutine + 1))
  perform_even p w who view (calls.BundleWait number deadline) a m idle = even_same w.links
  perform_even p w who view calls.Chmake a m idle = even_same w.links
  perform_even p w who view (calls.Chdone number) a m idle = some_even (end_named w number) w (done_at w who) (λ end. if_even (has_ended w.channels end (Send [])) w.links (reply w who words.Chdone (Fault Epipe)) (reply _ who words.Chdone (Number 0)) (λ e. even_same w.links) (λ e. even_same w.links))
  perform_even p w who view (calls.Chsend number bytes deadline) a m idle = cc
  perform_even p w who view (calls.Chrecv number size deadline) a m idle = cc
  perform_even p w who view (calls.Choose deadline all) a m idle = cc
  perform_even p w who view (calls.Pass word fault) a m idle = even_same w.links
  perform_even p w who view call a m idle = on_link_even w who call a idle

  -- ---- what a call does to coroutines

  -- who makes a call, and everything is kept
  record Caller (w : World V) (who : ℕ) : Type 0 where
    one : Coroutine V
    found : coroutine_of w who ≡ Some one
    mode : one.mode ≡ modes.Running
    counts : Counts w
    apart : LooksApart w

  caller_idle : (w : World V) (who : ℕ) (h : Caller w who) → is_making h.one.mode ≡ false
  caller_idle w who h = ap is_making h.mode

  gives_counts : (w v : World V) (who : ℕ) (word : Word) (c : Coroutine V) → coroutine_of w who ≡ Some c → is_making c.mode ≡ false → Gives w who word v → Even w.links v.links → Counts w → Counts v
  gives_counts w v who word c found was g e k = one_counts w v who c (with_mode (modes.Fresh word g.answer)) (λ d. refl) found g.coroutines g.last was refl e k

  acts_counts : (w v : World V) (who : ℕ) (call : Call) → Caller w who → may_meet call ≡ false → links (word_of call) ≡ false → Even w.links v.links → Acts (λ (view : V). Unit {0}) w who call v → Counts v
  acts_counts w v who call h m idle e (idles i) = h.counts
  acts_counts w v who call h m idle e (answered g) = gives_counts w v who (word_of call) h.one h.found (caller_idle w who h) g e h.counts
  acts_counts w v who call h m idle e (waits n s) = one_counts w v who h.one (with_mode (modes.Pending call)) (λ d. refl) h.found s.coroutines s.last (caller_idle w who h) idle e h.counts
  acts_counts w v who call h m idle e (waits_bare n s) = absurd (true_false (may_meet call) n m)
  acts_counts w v who call h m idle e (meets other its answer n f g) = absurd (true_false (may_meet call) n m)
  acts_counts w v who call h m idle e (bore view home b n g) =
      gives_counts (bear w view home) v who (word_of call) h.one (found_push (is_coroutine who) w.coroutines _ h.one h.found) (caller_idle w who h) g e (bear_counts w view home h.counts)

  bearing_any : (p : Program V) (view : V) (call : Call) → Bearing (λ (v : V). Unit {0}) p view call
  bearing_any p view (calls.Go program args) = λ next. tt
  bearing_any p view (calls.BundleGo number program args) = λ next. tt
  bearing_any p view _ = tt

  reply_caller : (w : World V) (who : ℕ) (word : Word) (answer : Answer) → Caller w who → Counts (reply w who word answer)
  reply_caller w who word answer h = reply_counts w who h.one word answer h.found (caller_idle w who h) h.counts

  -- whom a call may meet waits at a channel
  abbrev pub MeetsWaiting : World V → ℕ → Call → Type 0
  MeetsWaiting w who call = (index : ℕ) (m : Met) → first_done w who 0 (clauses_of call) ≡ Some (index, meetings.Met m) → is_at is_meeting w.coroutines m.other ≡ true

  met_counts : (w : World V) (who : ℕ) (call : Call) (index : ℕ) (m : Met) → is_at is_meeting w.coroutines m.other ≡ true → Caller w who → Counts (meet w who call index (meetings.Met m))
  met_counts w who call index m waiting h = at (coroutine_of w m.other) refl waiting
    where
      answer : Call → Answer
      answer its = clause_answer its m.clause m.others

      at : (o : Option (Coroutine V)) → coroutine_of w m.other ≡ o → if_some o false (λ d. is_meeting d.mode) ≡ true → Counts (reply (if_some (call_of w m.other) w (λ its. reply w m.other (word_of its) (clause_answer its m.clause m.others))) who (word_of call) (clause_answer call index m.answer))
      at None e f = cc
      at (Some d) e f = by (call_of w m.other)
        where
          other : who ≡ m.other → ⊥
          other same =
              let it = some_same (coroutine_of w m.other) h.one d (ap (coroutine_of w) (sym same) ∙ h.found) e in
              let bad : is_meeting modes.Running ≡ true = ap is_meeting (sym h.mode) ∙ ap (λ (c : Coroutine V). is_meeting c.mode) it ∙ f in
              cc

          by : (o : Option Call) → Counts (reply (if_some o w (λ its. reply w m.other (word_of its) (clause_answer its m.clause m.others))) who (word_of call) (clause_answer call index m.answer))
          by None = reply_caller w who (word_of call) (clause_answer call index m.answer) h
          by (Some its) =
              let u = reply w m.other (word_of its) (clause_answer its m.clause m.others) in
              reply_counts u who h.one (word_of call) (clause_answer call index m.answer) (change_other (with_mode (modes.Fresh (word_of its) (clause_answer its m.clause m.others))) (λ c. refl) m.other who w.coroutines other ∙ h.found) (caller_idle w who h)
              (reply_counts w m.other d (word_of its) (clause_answer its m.clause m.others) e (meeting_idle d.mode f) h.counts)

  channel_counts : (w : World V) (who : ℕ) (call : Call) → may_meet call ≡ true → MeetsWaiting w who call → Caller w who → Counts (enter_channel w who call)
  channel_counts w who call m meeting h = at (first_done w who 0 (clauses_of call)) refl
    where
      by : (index : ℕ) (x : Meeting) → first_done w who 0 (clauses_of call) ≡ Some (index, x) → Counts (meet w who call index x)
      by index (meetings.Met x) e = met_counts w who call index x (meeting index x e) h
      by index meetings.Ended e = reply_caller w who (word_of call) (clause_answer call index (Fault Epipe)) h
      by index meetings.Waits e = h.counts

      at : (o : Option (ℕ × Meeting)) → first_done w who 0 (clauses_of call) ≡ o → Counts (if_some o (wait_all (pend w who (without_bytes call)) who 0 (clauses_of call)) (λ x. meet w who call x.0 x.1))
      at None e =
          let p = pend w who (without_bytes call) in
          let s = wait_all_crew p who 0 (clauses_of call) in
          one_counts w (wait_all p who 0 (clauses_of call)) who h.one (with_mode (modes.Pending (without_bytes call))) (λ d. refl) h.found s.coroutines s.last (caller_idle w who h) (bare_idle call m) (waits_links (clauses_of call) p who 0) h.counts
      at (Some x) e = by x.0 x.1 e

  -- a listen, an accept or a connect keeps a link
  link_counts : (w : World V) (who : ℕ) (call : Call) → links (word_of call) ≡ true → Caller w who → Counts (enter_link w who call)
  link_counts w who call makes h = record {
    numbered = subst (λ n. Numbered 0 v.coroutines n) (sym crew.last) (subst (λ cs. Numbered 0 cs w.last_coroutine) (sym changed) (numbered_change (is_coroutine who) f w.coroutines 0 w.last_coroutine (λ d. refl) h.counts.numbered));
    keeps = moved w v who h.one f (λ d. refl) (record { numbered = h.counts.numbered; found = h.found }) changed (λ n e. even.connects n)
        (let a = idle_awaits w.links h.one (caller_idle w who h) in let b = even.kept in let c = now in let d = none in omega (arith, a, b, c, d))
        (let a = none in omega (arith, a)) h.counts.keeps;
  }
    where
      f : Coroutine V → Coroutine V
      f = with_mode (modes.Pending call)

      more : World V
      more = record w { links = link.keep w.links }

      v : World V
      v = enter_link w who call

      even : Even more.links v.links
      even = heat_even more call true false

      crew : SameCrew more (heat more call true false)
      crew = besides_crew (heat_besides more call true false)

      changed : v.coroutines ≡ change (is_coroutine who) f w.coroutines
      changed = ap (change (is_coroutine who) f) crew.coroutines

      none : connects_for v.links who ≡ 0
      none =
          let a = even.connects who in
          let b = h.counts.keeps.once who in
          let c = ap bit (ap (λ q. if_some q false (λ (d : Coroutine V). connects d.mode)) h.found ∙ ap connects h.mode) in
          omega (arith, a, b, c)

      now : awaits v.links (f h.one) ≡ 1 - connects_for v.links who
      now = making_awaits v.links (f h.one) call refl makes ∙ ap (λ n. 1 - connects_for v.links n) (is_number w who h.one h.found)

  making_counts : (p : Program V) (w : World V) (who : ℕ) (view : V) (call : Call) → links (word_of call) ≡ true → Caller w who → Counts (perform p w who view call)
  making_counts p w who view (calls.TcpListen address backlog) e h = link_counts w who (calls.TcpListen address backlog) refl h
  making_counts p w who view (calls.TcpAccept number deadline) e h = link_counts w who (calls.TcpAccept number deadline) refl h
  making_counts p w who view (calls.TcpConnect address deadline) e h = link_counts w who (calls.TcpConnect address deadline) refl h
  making_counts p w who view (calls.Pass word fault) e h = reply_caller w who word _ h
  making_counts p w who view _ e h = cc

  meeting_counts : (p : Program V) (w : World V) (who : ℕ) (view : V) (call : Call) → may_meet call ≡ true → MeetsWaiting w who call → Caller w who → Counts (perform p w who view call)
  meeting_counts p w who view (calls.Chsend number bytes deadline) e m h = channel_counts w who (calls.Chsend number bytes deadline) refl m h
  meeting_counts p w who view (calls.Chrecv number size deadline) e m h = channel_counts w who (calls.Chrecv number size deadline) refl m h
  meeting_counts p w who view (calls.Choose deadline all) e m h = channel_counts w who (calls.Choose deadline all) refl m h
  meeting_counts p w who view _ e m h = cc

  perform_counts : (p : Program V) (w : World V) (who : ℕ) (view : V) (call : Call) → MeetsWaiting w who call → Caller w who → Counts (perform p w who view call)
  perform_counts p w who view call m h = at (may_meet call) (links (word_of call)) refl refl
    where
      at : (b c : Bool) → may_meet call ≡ b → links (word_of call) ≡ c → Counts (perform p w who view call)
      at true c e f = meeting_counts p w who view call e m h
      at false true e f = making_counts p w who view call f h
      at false false e f = acts_counts w (perform p w who view call) who call h e f (perform_even p w who view call h.apart e f) (perform_acts (λ (v : V). Unit {0}) p w who view call (bearing_any p view call))

  deadline_counts : (w : World V) (who : ℕ) → Counts w → Counts (meet_deadline w who)
  deadline_counts w who k = at (coroutine_of w who) refl
    where
      late : (c : Coroutine V) → coroutine_of w who ≡ Some c → (call : Call) → pending_call c.mode ≡ Some call → (b : Bool) → is_too_late w who call ≡ b → Counts (if b then reply w who (word_of call) (late_answer call) else w)
      late c e call f false g = k
      late c e call f true g =
          let p = and_parts (is_late w.moment call) (not (uses_link (word_of call)) && _) g in
          let q = and_parts (not (uses_link (word_of call))) _ p.1 in
          reply_counts w who c (word_of call) (late_answer call) e (ap (λ o. if_some o false (λ d. links (word_of d))) f ∙ open_links (word_of call) (not_is (uses_link (word_of call)) q.0)) k
        where
          not_is : (b : Bool) → not b ≡ true → b ≡ false
          not_is true h = cc
          not_is false h = refl

      by : (c : Coroutine V) → coroutine_of w who ≡ Some c → (o : Option Call) → pending_call c.mode ≡ o → Counts (if_some o w (λ call. if is_too_late w who call then reply w who (word_of call) (late_answer call) else w))
      by c e None f = k
      by c e (Some call) f = late c e call f (is_too_late w who call) refl

      at : (o : Option (Coroutine V)) → coroutine_of w who ≡ o → Counts (if_some (if_some o None (λ c. pending_call c.mode)) w (λ call. if is_too_late w who call then reply w who (word_of call) (late_answer call) else w))
      at None e = k
      at (Some c) e = by c e (pending_call c.mode) refl

  enter_counts : (p : Program V) (lacks : Bool) (w : World V) (who : ℕ) (view : V) (call : Call) → MeetsWaiting (keep_for w call) who call → Caller w who → Counts (enter p lacks w who view call)
  enter_counts p lacks w who view call m h = at (refuse p w who view call)
    where
      k : World V
      k = keep_for w call

      caller : Caller k who
      caller = record { one = h.one; found = h.found; mode = h.mode; counts = aside_counts w k refl refl (even_same w.links) h.counts; apart = fewer_apart w k (fewer_same w k refl refl refl) h.apart }

      lack : (b : Bool) → Counts (if b then reply w who (word_of call) (Fault Enomem) else done p w who view call)
      lack true = reply_caller w who (word_of call) (Fault Enomem) h
      lack false = deadline_counts (perform p k who view call) who (perform_counts p k who view call m caller)

      at : (o : Option Errno) → Counts (if_some o (if lacks && takes_memory (word_of call) then reply w who (word_of call) (Fault Enomem) else done p w who view call) (λ e. reply w who (word_of call) (Fault e)))
      at None = lack (lacks && takes_memory (word_of call))
      at (Some e) = reply_caller w who (word_of call) (Fault e) h

  closed_links : (who : ℕ) (xs : List (Entry Thing)) (w : World V) → (fold (close_owned who) w xs).links ≡ w.links
  closed_links who [] w = refl
  closed_links who (x ∷ xs) w = closed_links who xs (close_owned who w x) ∙ at (bundle_of x.thing)
    where
      at : (o : Option ℕ) → (if_some o w (λ name. close_bundle w who name x.number)).links ≡ w.links
      at None = refl
      at (Some name) = refl

  end_counts : (w : World V) (who : ℕ) (outcome : Option Errno) → Caller w who → Counts (end w who outcome)
  end_counts w who outcome h =
      let shut = close_all w who in
      let s = close_all_crew w who in
      one_counts w (end w who outcome) who h.one (with_mode (modes.Ending outcome)) (λ d. refl) h.found (ap (change (is_coroutine who) (with_mode (modes.Ending outcome))) s.coroutines) s.last (caller_idle w who h) refl
      (subst (Even w.links) (sym (closed_links who (filter (handles.is_owned who) w.handles.entries) w)) (even_same w.links)) h.counts

  module _ (p : Program V) (w : World V) (who : ℕ) (c : Coroutine V) (found : coroutine_of w who ≡ Some c) (answered_now : is_answered c.mode ≡ true) (order : IsOrderly w) (counts : Counts w) (apart : LooksApart w) where
    resumed : (view : V) → Caller (resume w who view) who
    resumed view = record {
      one = as_running view c;
      found = change_here (as_running view) (λ d. refl) who w.coroutines c found;
      mode = refl;
      counts = one_counts w (resume w who view) who c (as_running view) (λ d. refl) found refl refl (answered_idle c.mode answered_now).0 refl (even_same w.links) counts;
      apart = fewer_apart w (resume w who view) (fewer_change w who (as_running view) (λ d. refl)) apart;
    }

    first_same : (view : V) (call : Call) (index : ℕ) (xs : List Clause) → first_done (keep_for (resume w who view) call) who index xs ≡ first_done w who index xs
    first_same view call index [] = refl
    first_same view call index (x ∷ xs) = ap (λ r. if is_waiting (meeting_of w who x) then r else Some (index, meeting_of w who x)) (first_same view call (index + 1) xs)

    meets_waiting : (view : V) (call : Call) → MeetsWaiting (keep_for (resume w who view) call) who call
    meets_waiting view call index m e =
        let waiting = first_meets w who 0 index (clauses_of call) m (sym (first_same view call 0 (clauses_of call)) ∙ e) order in
        ap (λ o. if_some o false (λ (d : Coroutine V). is_meeting d.mode)) (change_other (as_running view) (λ d. refl) who m.other w.coroutines (other waiting)) ∙ waiting
      where
        other : is_at is_meeting w.coroutines m.other ≡ true → m.other ≡ who → ⊥
        other waiting same =
            let bad : is_meeting c.mode ≡ true = ap (λ o. if_some o false (λ (d : Coroutine V). is_meeting d.mode)) (sym found) ∙ ap (is_at is_meeting w.coroutines) (sym same) ∙ waiting in
            true_false (is_meeting c.mode) bad (answered_idle c.mode answered_now).1

    move_counts : (lack : Option LackPlace) (short : V) (next : V × Move) → Counts (if is_build lack && may_lack_build next.1 then lack_move (resume w who short) who next.1 else make_move p (is_entry lack) (resume w who next.0) who next.0 next.1)
    move_counts lack short (new, Calls call) = at (is_build lack && build_takes_memory (word_of call))
      where
        at : (b : Bool) → Counts (if b then reply (resume w who short) who (word_of call) (Fault (lack_fault (resume w who short) who (word_of call))) else make_move p (is_entry lack) (resume w who new) who new (Calls call))
        at true = reply_caller (resume w who short) who (word_of call) (Fault (lack_fault (resume w who short) who (word_of call))) (resumed short)
        at false = enter_counts p (is_entry lack) (resume w who new) who new (entered w.moment call) (meets_waiting new (entered w.moment call)) (resumed new)
    move_counts lack short (new, Ends outcome) = at (is_build lack)
      where
        at : (b : Bool) → Counts (if b && false then resume w who short else end (resume w who new) who outcome)
        at true = end_counts (resume w who new) who outcome (resumed new)
        at false = end_counts (resume w who new) who outcome (resumed new)

  -- the coroutine of a turn goes on from its answer
  pub go_on_lasts : (p : Program V) (lack : Option LackPlace) (w : World V) (who : ℕ) (c : Coroutine V) → coroutine_of w who ≡ Some c → is_answered c.mode ≡ true → IsOrderly w → Lasts w → Lasts (go_on p lack (begin w) who c.body)
  go_on_lasts p lack w who c e a order l =
      let b = begin w in
      let counts : Counts b = aside_counts w b refl refl (even_same w.links) (record { numbered = l.numbered; keeps = l.keeps }) in
      let moved = move_counts p b who c e a (begins w order) counts (fewer_apart w b (fewer_same w b refl refl refl) l.apart) lack (p.short c.body (answer_given b who).1) (move_of p b who c.body) in
      record { numbered = moved.numbered; apart = go_on_apart p lack w who c.body l.apart; keeps = moved.keeps }
