-- Calls of channels and of links, the closing of handles, children and the end of a program keep a world in order.
use Rattle.std.proofs.Common.{◌≡◌, ◌∙◌, ℕ, ◌+◌, ◌≤◌, List, [], ◌∷◌, length, find, fold, Bool, true, false, not, ◌&&◌, ◌||◌, Option, Some, None, if◌then◌else◌, refl, sym, ap, subst, arith, lit≤, nat_le, inl, inr, ◌⊎◌}
use Rattle.std.proofs.lemmas.Bool.Decides.{nat_tests}
use Rattle.std.specs.Prelude.{is_some, is_none, filter}
use Rattle.std.specs.List.{list_all}
use Rattle.std.proofs.lemmas.Bool.{and_parts, or_left, or_right}
use Rattle.dill_base.specs.declared.errno.Errno.{Errno}
use Rattle.dill_base.specs.declared.errno.Errno.TheVariants.{Epipe}
use Rattle.dill_calls.specs.declared.answer.Answer.{Answer}
use Rattle.dill_calls.specs.declared.answer.Answer.TheVariants.{Fault, Number}
use Rattle.dill_calls.specs.declared.call.Call.{Call}
use Rattle.dill_calls.specs.declared.call.Call.TheVariants as calls
use Rattle.dill_calls.specs.declared.lists.Clause.{Clause}
use Rattle.dill_calls.specs.declared.word.Word.{Word}
use Rattle.dill_calls.specs.declared.word.Word.TheVariants as words
use Rattle.dill_calls.specs.CallTable.{word_of, named_by, blocks, gives_up}
use Rattle.dill_chan.specs.declared.end.Wait.{Wait}
use Rattle.dill_chan.specs.declared.meeting.Meeting.{Meeting}
use Rattle.dill_chan.specs.declared.meeting.Meeting.TheVariants as meetings
use Rattle.dill_chan.specs.declared.meeting.Met.{Met}
use Rattle.dill_chan.specs.Channels as channels
use Rattle.dill_chan.specs.Meetings.{has_ended, can_meet, partner, met, meeting}
use Rattle.dill_handles.specs.Handles as handles
use Rattle.dill_handles.specs.declared.entry.Entry.{Entry}
use Rattle.dill_scope.proofs.Numbered.{find_without_other}
use Rattle.dill_scope.specs.Forest.{Inside}
use Rattle.dill_base.specs.Maps.{if_some}
use Rattle.dill_stack.specs.declared.parting.Parting.{Parting}
use Rattle.dill_stack.specs.Interface.{attach, detach_start}
use Rattle.dill_rules.specs.declared.coroutine.Coroutine.{Coroutine}
use Rattle.dill_rules.specs.declared.coroutine.Mode.TheVariants as modes
use Rattle.dill_rules.specs.declared.thing.Thing.{Thing}
use Rattle.dill_rules.specs.declared.thing.Thing.TheVariants as things
use Rattle.dill_rules.specs.World.{World, is_coroutine, coroutine_of, call_of, with_mode, reply, pend, is_ending}
use Rattle.dill_rules.specs.Links as link
use Rattle.dill_rules.specs.Naming.{links, draws_of, end_of_clause}
use Rattle.dill_rules.specs.Owning.{entry_of, take, move, release, close_bundle}
use Rattle.dill_rules.specs.Taking.{bundle_of}
use Rattle.dill_rules.specs.Answers.{want_of, end_named}
use Rattle.dill_rules.specs.Directions.{is_send, is_receive, is_handshake, layer_of, parting_of}
use Rattle.dill_rules.specs.LinkAnswers.{is_on_stack}
use Rattle.dill_rules.specs.Linking.{with_random, greet_by, ask_stack, heat, reserve, queue, enter_send, enter_receive, enter_link, put_layer, attach_layer, enter_attach, given_up_at_once, give_stack_up, begin_detach, dropped_for, enter_giving_up, enter_handshake}
use Rattle.dill_rules.specs.Channeling.{without_bytes, clauses_of, is_waiting, meeting_of, answer_clause, clause_answer, meet, wait_all, first_done, enter_channel}
use Rattle.dill_rules.specs.Effects.{close_thing, give_all, bear, next_number}
use Rattle.dill_rules.specs.Entering.{perform_on_link, is_too_late, late_answer, meet_deadline}
use Rattle.dill_rules.specs.Settling.{close_owned, close_all, end}
use Rattle.laws_queue.specs.Well.{bit, is_at}
use Rattle.laws_queue.proofs.Besides.{with_links, besides_then, heat_besides, ready_besides, ask_stack_besides, queue_besides, dropped_besides}
use Rattle.laws_queue.proofs.Crew.{give_all_crew, close_all_crew}
use Rattle.laws_sound.proofs.Lists.{all_found, all_change}
use Rattle.laws_sound.specs.Order.{IsInOrder}
use Rattle.laws_sound.specs.Orderly.{weigh, is_channel, is_meeting, waits_well, is_no_bundle, is_socketed, gives_number, kept_by, IsOrderly}
use Rattle.laws_sound.proofs.Coming.{newborn}
use Rattle.laws_sound.proofs.Counting.{weigh_push, weightless, found_push, all_push, all_unique}
use Rattle.laws_sound.proofs.Crews.{change_here, change_other}
use Rattle.laws_sound.proofs.Entering.{late_free, found_call}
use Rattle.laws_sound.proofs.Fitting.{has_number}
use Rattle.laws_sound.proofs.Handing.{same_number}
use Rattle.laws_sound.proofs.Leaving.{at_push}
use Rattle.laws_sound.proofs.Lists.{all_follow, all_from}
use Rattle.laws_sound.proofs.Nearly.{is_free}
use Rattle.laws_sound.proofs.Ordering.{apart, order_anyway}
use Rattle.laws_sound.proofs.Shutting.{once, order_hclose, order_end}
use Rattle.laws_sound.proofs.Sorting.{picked_all, picked_less}
use Rattle.laws_sound.proofs.Answering.{some_does, left_waits, move_stays, move_spent, Does, nothing, does_more, does_then, does_last, besides, unkept, releases, moves, move_waits, Goes, goes_not, goes_then, set_kept, answers_free, some_good, if_good, fold_handles, fold_same}
use Rattle.laws_sound.proofs.Noting.{Stays, stays_retired, sockets_stay, Counts, counts_then, move_counts}
use Rattle.laws_sound.proofs.Making.{running_free, running_meets, channel_free, shut_count, fits_socket, no_bundle_from, Makes, makes_after, there, going, replied, kept_waits, pended, takes_stack}

-- a call on channels has no number kept
-- a call without its bytes has its word
bare_word : (call : Call) → word_of (without_bytes call) ≡ word_of call
bare_word (calls.Chsend number bytes deadline) = refl
bare_word call = refl

channel_gives : (call : Call) → is_channel (word_of call) ≡ true → bit (gives_number (word_of call)) ≤ 0
channel_gives (calls.Hclose number) e = cc
channel_gives (calls.Pass word fault) e = at word e
  where
    at : (w : Word) → is_channel w ≡ true → bit (gives_number w) ≤ 0
    at words.Chsend f = lit≤ tt
    at words.Chrecv f = lit≤ tt
    at words.Choose f = lit≤ tt
    at _ f = cc
channel_gives (calls.Chsend number bytes deadline) e = lit≤ tt
channel_gives (calls.Chrecv number size deadline) e = lit≤ tt
channel_gives (calls.Choose deadline all) e = lit≤ tt
channel_gives _ e = cc

some_drawn : (b : Bool) (count : ℕ) → nat_le (bit b) count ≡ true → b ≡ true → 1 ≤ count
some_drawn true count e f = grind (arith, nat_tests)
some_drawn false count e f = cc

module _ {V : Type 0} where
  -- ---- channels

  pub waits_more : (u : World V) (who index : ℕ) (xs : List Clause) → IsOrderly u → is_at is_meeting u.coroutines who ≡ true → Goes u (wait_all u who index xs)
  waits_more u who index [] g m = goes_not u g
  waits_more u who index (x ∷ xs) g m = at (end_named u (end_of_clause x)) (λ v i. waits_more v who (index + 1) xs i)
    where
      waiting : ℕ → World V
      waiting end = record u { channels = channels.wait u.channels (record { who = who; clause = index; end = end; want = want_of x }) }

      one : (end : ℕ) → Goes u (waiting end)
      one end = record {
        noted = λ n. refl;
        good = record {
          order = order_anyway u (waiting end).channels u.links u.place u.random u.moment u.notes g.order;
          sockets = g.sockets;
          waits = all_push (waits_well u.coroutines) u.channels.waits (record { who = who; clause = index; end = end; want = want_of x }) g.waits m;
          kept = g.kept;
        };
      }

      at : (o : Option ℕ) → ((v : World V) → IsOrderly v → is_at is_meeting v.coroutines who ≡ true → Goes v (wait_all v who (index + 1) xs)) → Goes u (wait_all (if_some o u waiting) who (index + 1) xs)
      at None rest = rest u g m
      at (Some end) rest = goes_then u (waiting end) (wait_all (waiting end) who (index + 1) xs) (one end) (rest (waiting end) (one end).good m)

  -- whom a clause meets waits
  pub meets_waiting : (w : World V) (who : ℕ) (x : Clause) (m : Met) → meeting_of w who x ≡ meetings.Met m → IsOrderly w → is_at is_meeting w.coroutines m.other ≡ true
  meets_waiting w who x m e g = at (end_named w (end_of_clause x)) e
    where
      by_partner : (end : ℕ) (o : Option Wait) → partner w.channels who end (want_of x) ≡ o → if_some o meetings.Waits (λ y. met (want_of x) y) ≡ meetings.Met m → is_at is_meeting w.coroutines m.other ≡ true
      by_partner end None f h = cc
      by_partner end (Some y) f h =
          let it : y.who ≡ m.other = cc in
          ap (is_at is_meeting w.coroutines) (sym it) ∙ all_found (waits_well w.coroutines) (can_meet w.channels who end (want_of x)) w.channels.waits y g.waits f

      by_end : (end : ℕ) (b : Bool) → (if b then meetings.Ended else if_some (partner w.channels who end (want_of x)) meetings.Waits (λ y. met (want_of x) y)) ≡ meetings.Met m → is_at is_meeting w.coroutines m.other ≡ true
      by_end end true h = cc
      by_end end false h = by_partner end (partner w.channels who end (want_of x)) refl h

      at : (o : Option ℕ) → if_some o meetings.Waits (λ end. meeting w.channels who end (want_of x)) ≡ meetings.Met m → is_at is_meeting w.coroutines m.other ≡ true
      at None h = cc
      at (Some end) h = by_end end (has_ended w.channels end (want_of x)) h

  pub first_meets : (w : World V) (who index i : ℕ) (xs : List Clause) (m : Met) → first_done w who index xs ≡ Some (i, meetings.Met m) → IsOrderly w → is_at is_meeting w.coroutines m.other ≡ true
  first_meets w who index i [] m e g = cc
  first_meets w who index i (x ∷ xs) m e g = at (is_waiting (meeting_of w who x)) e (λ f. first_meets w who (index + 1) i xs m f g)
    where
      at : (b : Bool) → (if b then first_done w who (index + 1) xs else Some (index, meeting_of w who x)) ≡ Some (i, meetings.Met m) → (first_done w who (index + 1) xs ≡ Some (i, meetings.Met m) → is_at is_meeting w.coroutines m.other ≡ true) → is_at is_meeting w.coroutines m.other ≡ true
      at true f rest = rest f
      at false f rest = let it : ◌≡◌ {A = ℕ × Meeting} (index, meeting_of w who x) (i, meetings.Met m) = cc in meets_waiting w who x m (ap (λ y. y.1) it) g

  -- whom the caller meets is answered, and the caller still makes its call
  pub record Meets (w v : World V) (who : ℕ) : Type 0 where
    pub goes : Goes w v
    pub makes : Makes v who 0

  pub answers_met : (w : World V) (who other index : ℕ) (a : Answer) → Makes w who 0 → is_at is_meeting w.coroutines other ≡ true → Meets w (answer_clause w other index a) who
  answers_met w who other index a h m = at (call_of w other) refl
    where
      channel_of : (call : Call) (c : Coroutine V) → coroutine_of w other ≡ Some c → c.mode ≡ modes.Pending call → is_channel (word_of call) ≡ true
      channel_of call c e f = ap (λ k. is_meeting k) (sym f) ∙ ap (λ o. if_some o false (λ d. is_meeting d.mode)) (sym e) ∙ m

      apart_from : (c : Coroutine V) (call : Call) → coroutine_of w other ≡ Some c → c.mode ≡ modes.Pending call → who ≡ other → ⊥
      apart_from c call e f i =
          let here : coroutine_of w other ≡ Some h.one = subst (λ n. coroutine_of w n ≡ Some h.one) i h.found in
          let it : c ≡ h.one = cc in
          running_meets c.mode (ap (λ (d : Coroutine V). d.mode) it ∙ h.mode) (ap is_meeting f ∙ channel_of call c e f)

      at : (o : Option Call) → call_of w other ≡ o → Meets w (if_some o w (λ call. reply w other (word_of call) (clause_answer call index a))) who
      at None e = record { goes = goes_not w h.good; makes = h }
      at (Some call) e =
          let c = found_call w other call e in
          let free = channel_free call (channel_of call c.0 c.1 c.2) in
          let g = answers_free w w other (word_of call) (clause_answer call index a) c.0 h.good c.1 (ap (λ k. is_free k) c.2 ∙ free) (let k = h.good.kept in omega (arith, k)) (nothing w h.good.order) in
          record {
            goes = g;
            makes = record { good = g.good; one = h.one; found = change_other (with_mode (modes.Fresh (word_of call) (clause_answer call index a))) (λ d. refl) other who w.coroutines (apart_from c.0 call c.1 c.2) ∙ h.found; mode = h.mode; spare = let k = g.good.kept in omega (arith, k) };
          }

  pub meets_goes : (w : World V) (who : ℕ) (call : Call) (index : ℕ) (m : Meeting) → ((x : Met) → m ≡ meetings.Met x → is_at is_meeting w.coroutines x.other ≡ true) → Makes w who 0 → Goes w (meet w who call index m)
  meets_goes w who call index (meetings.Met x) e h =
      let o = answers_met w who x.other x.clause x.others h (e x refl) in
      let v = answer_clause w x.other x.clause x.others in
      goes_then w v (meet w who call index (meetings.Met x)) o.goes (replied v v who (word_of call) (clause_answer call index x.answer) o.makes (nothing v o.makes.good.order))
  meets_goes w who call index meetings.Ended e h = replied w w who (word_of call) (clause_answer call index (Fault Epipe)) h (nothing w h.good.order)
  meets_goes w who call index meetings.Waits e h = goes_not w h.good

  pub channel_goes : (w : World V) (who : ℕ) (call : Call) → is_channel (word_of call) ≡ true → is_on_stack (word_of call) ≡ false → Makes w who 0 → Goes w (enter_channel w who call)
  channel_goes w who call c s h = at (first_done w who 0 (clauses_of call)) refl
    where
      bare : Call
      bare = without_bytes call

      v : World V
      v = pend w who bare

      its : is_channel (word_of bare) ≡ true
      its = ap is_channel (bare_word call) ∙ c

      off : is_on_stack (word_of bare) ≡ false
      off = ap is_on_stack (bare_word call) ∙ s

      at : (o : Option (ℕ × Meeting)) → first_done w who 0 (clauses_of call) ≡ o → Goes w (if_some o (wait_all v who 0 (clauses_of call)) (λ x. meet w who call x.0 x.1))
      at None e =
          let one = pended w w who bare h (nothing w h.good.order) (channel_gives bare its) (channel_free bare its) (ap (λ b. if b then if_some (named_by bare) true (is_no_bundle w.handles) else true) off) in
          let here : is_at is_meeting v.coroutines who ≡ true = ap (λ o. if_some o false (λ d. is_meeting d.mode)) (change_here (with_mode (modes.Pending bare)) (λ d. refl) who w.coroutines h.one h.found) ∙ its in
          goes_then w v (wait_all v who 0 (clauses_of call)) one (waits_more v who 0 (clauses_of call) one.good here)
      at (Some x) e = meets_goes w who call x.0 x.1 (λ m f. first_meets w who 0 x.0 (clauses_of call) m (e ∙ ap (λ (y : Meeting). Some (x.0, y)) f) h.good) h

  -- ---- links

  pub named_does : (o : Option ℕ) (w : World V) (f : ℕ → World V) {n : ℕ} → IsInOrder w → ((number : ℕ) → o ≡ Some number → Does w (f number) n) → Does w (if_some o w f) n
  named_does None w f o h = does_more w w (omega arith) (nothing w o)
  named_does (Some n) w f o h = h n refl

  -- the number of a call on a stack, as it is entered
  abbrev pub OnStack : World V → Call → Type 0
  OnStack w call = (number : ℕ) → named_by call ≡ Some number → is_no_bundle w.handles number ≡ true

  pub fits_still : (w v : World V) (call : Call) → Does w v 0 → fits_socket w.handles call ≡ true → fits_socket v.handles call ≡ true
  fits_still w v call d e = at (is_on_stack (word_of call)) (named_by call) e
    where
      at : (b : Bool) (o : Option ℕ) → (if b then if_some o true (is_no_bundle w.handles) else true) ≡ true → (if b then if_some o true (is_no_bundle v.handles) else true) ≡ true
      at true None f = refl
      at true (Some n) f = d.stays n f
      at false o f = refl

  pub pends_behind : (w v : World V) (who : ℕ) (call : Call) {n : ℕ} → Makes w who n → Does w v 0 → bit (gives_number (word_of call)) ≤ n → is_free (modes.Pending call) ≡ true → fits_socket w.handles call ≡ true → Goes w (pend v who call)
  pends_behind w v who call h d enough free e = pended w v who call h d enough free (fits_still w v call d e)

  pub gives_up_goes : (w v : World V) (who : ℕ) (call : Call) (e : Errno) (count : ℕ) → Makes w who count → Does w v 0 → OnStack v call → Goes w (give_stack_up v who call e count)
  gives_up_goes w v who call e count h d on =
      let less : World V = record v { handles = handles.unkeep v.handles count } in
      let u = unkept v count d.order in
      replied w (if_some (named_by call) v (λ number. release less number)) who (word_of call) (Fault e) h
      (does_then w v (if_some (named_by call) v (λ number. release less number)) d (named_does (named_by call) v (λ number. release less number) d.order (λ number f. does_last v less (release less number) u (releases less number u.order (on number f)))))

  pub giving_goes : (w : World V) (who : ℕ) (call : Call) (count : ℕ) → Makes w who count → bit (gives_number (word_of call)) ≤ count → is_free (modes.Pending call) ≡ true → fits_socket w.handles call ≡ true → OnStack w call → Goes w (enter_giving_up w who call count)
  giving_goes w who call count h enough free fit on =
      let taken = if_some (named_by call) w (λ number. take w number who) in
      let own = dropped_for taken call in
      let t : Does w taken 0 = named_does (named_by call) w (λ number. take w number who) h.good.order (λ number f. takes_stack w number who h.good.order (on number f) (there w who h)) in
      let d : Does w own 0 = does_then w taken own t (besides taken own (dropped_besides taken call) t.order) in
      at own d (given_up_at_once own who call) (parting_of call)
    where
      at : (own : World V) → Does w own 0 → (o : Option Errno) (q : Option Parting) → Goes w (if_some o (if_some q (pend (heat own call true true) who call) (begin_detach own who call)) (λ e. give_stack_up own who call e count))
      at own d None None = pends_behind w (heat own call true true) who call h (does_then w own (heat own call true true) d (besides own (heat own call true true) (heat_besides own call true true) d.order)) enough free fit
      at own d None (Some parting) =
          let b = blocks (word_of call) in
          let asked = ask_stack own call (λ random s. detach_start parting random s) in
          pends_behind w (heat asked call b b) who call h (does_then w own (heat asked call b b) d (besides own (heat asked call b b) (besides_then own asked (heat asked call b b) (ask_stack_besides own call (λ random s. detach_start parting random s)) (heat_besides asked call b b)) d.order)) enough free fit
      at own d (Some e) q = gives_up_goes w own who call e count h d (λ number f. d.stays number (on number f))

  pub handshake_goes : (w : World V) (who : ℕ) (call : Call) {n : ℕ} → Makes w who n → bit (gives_number (word_of call)) ≤ n → is_free (modes.Pending call) ≡ true → fits_socket w.handles call ≡ true → OnStack w call → Goes w (enter_handshake w who call)
  handshake_goes w who call h enough free fit on =
      let taken = if_some (named_by call) w (λ number. take w number who) in
      let t : Does w taken 0 = named_does (named_by call) w (λ number. take w number who) h.good.order (λ number f. takes_stack w number who h.good.order (on number f) (there w who h)) in
      let asked = ask_stack taken call (greet_by call) in
      pends_behind w (heat asked call true true) who call h
      (does_then w taken (heat asked call true true) t (besides taken (heat asked call true true) (besides_then taken asked (heat asked call true true) (ask_stack_besides taken call (greet_by call)) (heat_besides asked call true true)) t.order)) enough free fit

  pub attach_goes : (w : World V) (who : ℕ) (call : Call) (count : ℕ) → Makes w who count → nat_le (bit (is_some (layer_of call))) count ≡ true → (is_some (layer_of call) ≡ true → OnStack w call) → Goes w (enter_attach w who call)
  attach_goes w who call count h drawn on =
      replied w (attach_layer w who call) who (word_of call) (Number (next_number w)) h
      (named_does (named_by call) w (λ number. if_some (layer_of call) w (λ layer. move (put_layer w call layer) number who)) h.good.order
      (λ number f. some_does (layer_of call) w (λ layer. move (put_layer w call layer) number who) (does_more w w (omega arith) (nothing w h.good.order))
      (λ layer g.
      let put = put_layer w call layer in
      let a = besides w put (ask_stack_besides w call (λ random s. with_random random (attach layer s))) h.good.order in
      let here = makes_after w put who h a in
      does_then w put (move put number who) a (does_more put (move put number who) (some_drawn (is_some (layer_of call)) count drawn (ap is_some g)) (moves put number who a.order (a.stays number (on (ap is_some g) number f)) (there put who here) (going put who here))))))

  -- the calls on links, by their classes
  pub link_goes : (w : World V) (who : ℕ) (call : Call) → Makes w who (draws_of call) → bit (gives_number (word_of call)) ≤ draws_of call → nat_le (bit (is_some (layer_of call))) (draws_of call) ≡ true → is_free (modes.Pending call) ≡ true → fits_socket w.handles call ≡ true → ((is_on_stack (word_of call) || is_some (layer_of call)) ≡ true → OnStack w call) → Goes w (perform_on_link w who call)
  link_goes w who call h enough drawn free fit on =
      let word = word_of call in
      let hot = heat w call false true in
      let kept_link = record w { links = link.keep w.links } in
      if_good (is_send word) w (enter_send w who call) _
      (λ e. pends_behind w (queue hot call) who call h (besides w (queue hot call) (besides_then w hot (queue hot call) (heat_besides w call false true) (queue_besides hot call)) h.good.order) enough free fit)
      (λ e. if_good (is_receive word) w (enter_receive w who call) _
      (λ f. pends_behind w (heat (reserve w call) call true false) who call h (besides w (heat (reserve w call) call true false) (ready_besides w call) h.good.order) enough free fit)
      (λ f. if_good (gives_up word) w (enter_giving_up w who call (draws_of call)) _
      (λ g. giving_goes w who call (draws_of call) h enough free fit (on (or_left (is_on_stack word) (is_some (layer_of call)) (stacks (is_send word) (is_receive word) (is_handshake word) (gives_up word) (inr g)))))
      (λ g. if_good (links word) w (enter_link w who call) _
      (λ i. pends_behind w (heat kept_link call true false) who call h (besides w (heat kept_link call true false) (besides_then w kept_link (heat kept_link call true false) (with_links w (link.keep w.links) w.random) (heat_besides kept_link call true false)) h.good.order) enough free fit)
      (λ i. if_good (is_handshake word) w (enter_handshake w who call) (enter_attach w who call)
      (λ j. handshake_goes w who call h enough free fit (on (or_left (is_on_stack word) (is_some (layer_of call)) (stacks (is_send word) (is_receive word) (is_handshake word) (gives_up word) (inl j)))))
      (λ j. attach_goes w who call (draws_of call) h drawn (λ l. on (or_right (is_on_stack word) (is_some (layer_of call)) l)))))))
    where
      stacks : (a b c d : Bool) → (c ≡ true) ⊎ (d ≡ true) → (a || (b || (c || d))) ≡ true
      stacks true b c d e = refl
      stacks false true c d e = refl
      stacks false false true d e = refl
      stacks false false false d (inl e) = cc
      stacks false false false d (inr e) = e

  -- ---- `hclose` and children

  pub released_goes : (w : World V) (who number : ℕ) (x : Entry Thing) → Makes w who 0 → entry_of w number ≡ Some x → bundle_of x.thing ≡ None → Goes w (reply (release w number) who words.Hclose (Number 0))
  released_goes w who number x h e none = replied w (release w number) who words.Hclose (Number 0) h (releases w number h.good.order (no_bundle_from w number x h.good.order.fits e none))

  pub close_goes : (w : World V) (who number : ℕ) (x : Entry Thing) (t : Thing) → x.thing ≡ t → Makes w who 0 → entry_of w number ≡ Some x → ((name : ℕ) → x.thing ≡ things.Bundle name → Inside w.scopes name who → ⊥) → Goes w (close_thing w who number t)
  close_goes w who number x (things.Bundle name) s h e out = record {
    noted = λ n. ap (λ k. k + bit (nat_le n w.handles.last)) (shut_count w.notes w.handles w.closings name number n x e);
    good = record {
      order = order_hclose w who number name h.one x h.good.order h.found (running_free h.one.mode h.mode) e s (out name s);
      sockets = all_change (is_socketed (handles.retire w.handles number)) (is_coroutine who) (with_mode (modes.Pending (calls.Hclose number))) w.coroutines (λ y f. refl) (sockets_stay w.handles (handles.retire w.handles number) w.coroutines (stays_retired w.handles number) h.good.sockets);
      waits = kept_waits w.coroutines who h.one (modes.Pending (calls.Hclose number)) w.channels.waits h.found h.mode h.good.waits;
      kept = let set = set_kept w who (modes.Pending (calls.Hclose number)) h.one h.found in let k = h.good.kept in omega (arith, set, k);
    };
  }
  close_goes w who number x (things.End end) s h e out = released_goes w who number x h e (ap bundle_of s)
  close_goes w who number x (things.Listener l) s h e out = released_goes w who number x h e (ap bundle_of s)
  close_goes w who number x (things.Socket l) s h e out = released_goes w who number x h e (ap bundle_of s)
  close_goes w who number x (things.Value kind value) s h e out = released_goes w who number x h e (ap bundle_of s)

pub found_some : {X : Type 0} (o : Option X) → is_some o ≡ true → (y : X) × (o ≡ Some y)
found_some None e = cc
found_some (Some y) e = (y, refl)

module _ {V : Type 0} where
  pub fold_counts : {A : Type 0} (f : World V → A → World V) (xs : List A) (w : World V) → ((v : World V) (a : A) → Counts v (f v a)) → Counts w (fold f w xs)
  fold_counts f [] w h = λ n. refl
  fold_counts f (x ∷ xs) w h = counts_then w (f w x) (fold f (f w x) xs) (h w x) (fold_counts f xs (f w x) h)

  -- each gift takes one of the kept numbers
  give_spent : (ns : List ℕ) (w : World V) (owner : ℕ) → w.handles.kept ≤ (give_all w ns owner).handles.kept + length ns
  give_spent [] w owner = omega arith
  give_spent (n ∷ ns) w owner = let one = move_spent w n owner in let r = give_spent ns (move w n owner) owner in omega (arith, one, r)

  -- a child begins, with its gifts, and then the caller is answered
  pub start_goes : (w m : World V) (who owner : ℕ) (view : V) (home : ℕ) (ns : List ℕ) (word : Word) (a : Answer) {spent count : ℕ} → spent + length ns ≤ count → Makes w who count → Does w m spent → IsInOrder (reply (bear (give_all m ns owner) view home) who word a) → Goes w (reply (bear (give_all m ns owner) view home) who word a)
  start_goes w m who owner view home ns word a enough h d o =
      let g = give_all m ns owner in
      let v = bear g view home in
      let crew : g.coroutines ≡ w.coroutines = (give_all_crew m ns owner).coroutines ∙ d.coroutines in
      let stays : Stays m.handles g.handles = fold_handles (λ now number. move now number owner) ns m (λ u n. move_stays u n owner) in
      let waits : g.channels.waits ≡ w.channels.waits = fold_same (λ u. u.channels.waits) (λ now number. move now number owner) ns m (λ u n. move_waits u n owner) ∙ d.waits in
      let sockets : list_all (is_socketed g.handles) g.coroutines ≡ true = subst (λ cs. list_all (is_socketed g.handles) cs ≡ true) (sym crew) (sockets_stay w.handles g.handles w.coroutines (λ n e. stays n (d.stays n e)) h.good.sockets) in
      let waiting : list_all (waits_well g.coroutines) g.channels.waits ≡ true = subst (λ cs. list_all (waits_well cs) g.channels.waits ≡ true) (sym crew) (subst (λ xs. list_all (waits_well w.coroutines) xs ≡ true) (sym waits) h.good.waits) in
      record {
        noted = counts_then w m v d.noted (fold_counts (λ now number. move now number owner) ns m (λ u n. move_counts u n owner));
        good = record {
          order = o;
          sockets = all_change (is_socketed g.handles) (is_coroutine who) (with_mode (modes.Fresh word a)) v.coroutines (λ x f. refl) (all_push (is_socketed g.handles) g.coroutines (newborn g view) sockets refl);
          waits = left_waits v.coroutines who (modes.Fresh word a) v.channels.waits (all_follow (waits_well g.coroutines) (waits_well v.coroutines) g.channels.waits (λ x e. at_push is_meeting g.coroutines (newborn g view) x.who refl ∙ e) waiting);
          kept =
              let here : coroutine_of v who ≡ Some h.one = found_push (is_coroutine who) g.coroutines (newborn g view) h.one (ap (find (is_coroutine who)) crew ∙ h.found) in
              let set = set_kept v who (modes.Fresh word a) h.one here in
              let more = weigh_push kept_by g.coroutines (newborn g view) in
              let same = ap (weigh kept_by) crew in
              let l = h.spare in
              let s = d.spent in
              let t = give_spent ns m owner in
              omega (arith, enough, set, more, same, l, s, t);
        };
      }

  -- a passed deadline is met at the entry
  pub meet_goes : (w : World V) (who : ℕ) → IsOrderly w → Goes w (meet_deadline w who)
  meet_goes w who g = some_good (call_of w who) w (λ call. if is_too_late w who call then reply w who (word_of call) (late_answer call) else w) g
      (λ call e. if_good (is_too_late w who call) w (reply w who (word_of call) (late_answer call)) w
      (λ f. let c = found_call w who call e in answers_free w w who (word_of call) (late_answer call) c.0 g c.1 (ap (λ m. is_free m) c.2 ∙ ap (λ q. is_none q && not (is_ending (modes.Pending call))) (late_free w who call f)) (let k = g.kept in omega (arith, k)) (nothing w g.order))
      (λ f. goes_not w g))

  -- ---- the end of a program

  pub close_each_counts : (xs : List (Entry Thing)) (w : World V) (who : ℕ) → list_all (λ x. is_some (find (has_number x.number) w.handles.entries)) xs ≡ true → ((n : ℕ) → weigh (λ x. bit (has_number n x)) xs ≤ 1) → Counts w (fold (close_owned who) w xs)
  close_each_counts [] w who e h = λ n. refl
  close_each_counts (x ∷ xs) w who e h = at (bundle_of x.thing) (λ v f. close_each_counts xs v who f (λ n. let l = h n in omega (arith, l)))
    where
      b : (is_some (find (has_number x.number) w.handles.entries) ≡ true) × (list_all (λ y. is_some (find (has_number y.number) w.handles.entries)) xs ≡ true)
      b = and_parts (is_some (find (has_number x.number) w.handles.entries)) (list_all (λ y. is_some (find (has_number y.number) w.handles.entries)) xs) e

      at : (o : Option ℕ) → ((v : World V) → list_all (λ y. is_some (find (has_number y.number) v.handles.entries)) xs ≡ true → Counts v (fold (close_owned who) v xs)) → Counts w (fold (close_owned who) (if_some o w (λ name. close_bundle w who name x.number)) xs)
      at None rest = rest w b.1
      at (Some name) rest =
          let v = close_bundle w who name x.number in
          let y = found_some (find (has_number x.number) w.handles.entries) b.0 in
          let one : Counts w v = λ n. ap (λ k. k + bit (nat_le n w.handles.last)) (shut_count w.notes w.handles w.closings name x.number n y.0 y.1) in
          let self : bit (has_number x.number x) ≡ 1 = ap bit (same_number x.number) in
          let l = h x.number in
          let gone : weigh (λ z. bit (has_number x.number z)) xs ≡ 0 = omega (arith, self, l) in
          let still : list_all (λ z. is_some (find (has_number z.number) v.handles.entries)) xs ≡ true =
          all_from (λ z. not (has_number x.number z)) (λ z. is_some (find (has_number z.number) w.handles.entries)) (λ z. is_some (find (has_number z.number) v.handles.entries)) xs
          (λ z f g. ap is_some (find_without_other (λ (q : Entry Thing). q.number) z.number x.number w.handles.entries (apart z.number x.number f)) ∙ g) (weightless (has_number x.number) xs gone) b.1 in
          counts_then w v (fold (close_owned who) v xs) one (rest v still)

  pub close_waits : (w : World V) (who : ℕ) (x : Entry Thing) → (close_owned who w x).channels.waits ≡ w.channels.waits
  close_waits w who x = at (bundle_of x.thing)
    where
      at : (o : Option ℕ) → (if_some o w (λ name. close_bundle w who name x.number)).channels.waits ≡ w.channels.waits
      at None = refl
      at (Some name) = refl

  close_kept : (w : World V) (who : ℕ) (x : Entry Thing) → (close_owned who w x).handles.kept ≡ w.handles.kept
  close_kept w who x = at (bundle_of x.thing)
    where
      at : (o : Option ℕ) → (if_some o w (λ name. close_bundle w who name x.number)).handles.kept ≡ w.handles.kept
      at None = refl
      at (Some name) = refl

  pub close_stays : (w : World V) (who : ℕ) (x : Entry Thing) → Stays w.handles (close_owned who w x).handles
  close_stays w who x = at (bundle_of x.thing)
    where
      at : (o : Option ℕ) → Stays w.handles (if_some o w (λ name. close_bundle w who name x.number)).handles
      at None = λ n e. e
      at (Some name) = stays_retired w.handles x.number

  pub end_goes : (w : World V) (who : ℕ) (outcome : Option Errno) → Makes w who 0 → Goes w (end w who outcome)
  end_goes w who outcome h =
      let mine = filter (handles.is_owned who) w.handles.entries in
      let shut = close_all w who in
      let crew = (close_all_crew w who).coroutines in
      let waits : shut.channels.waits ≡ w.channels.waits = fold_same (λ v. v.channels.waits) (close_owned who) mine w (λ v x. close_waits v who x) in
      let kept : shut.handles.kept ≡ w.handles.kept = fold_same (λ v. v.handles.kept) (close_owned who) mine w (λ v x. close_kept v who x) in
      let stays : Stays w.handles shut.handles = fold_handles (close_owned who) mine w (λ v x. close_stays v who x) in
      let here : find (is_coroutine who) shut.coroutines ≡ Some h.one = ap (find (is_coroutine who)) crew ∙ h.found in
      record {
        noted = close_each_counts mine w who
            (picked_all (handles.is_owned who) (λ x. is_some (find (has_number x.number) w.handles.entries)) w.handles.entries
            (all_unique (λ (x : Entry Thing). x.number) (handles.is_owned who) (λ x. not (handles.is_owned who x) || is_some (find (has_number x.number) w.handles.entries)) w.handles.entries (λ n. once w n h.good.order.fits) (λ x f. or_right (not (handles.is_owned who x)) (is_some (find (has_number x.number) w.handles.entries)) (ap is_some f))))
            (λ n. let l = picked_less (handles.is_owned who) (λ x. bit (has_number n x)) w.handles.entries in let o = once w n h.good.order.fits in omega (arith, l, o));
        good = record {
          order = order_end w who h.one outcome h.good.order h.found;
          sockets = all_change (is_socketed shut.handles) (is_coroutine who) (with_mode (modes.Ending outcome)) shut.coroutines (λ x f. refl) (subst (λ cs. list_all (is_socketed shut.handles) cs ≡ true) (sym crew) (sockets_stay w.handles shut.handles w.coroutines stays h.good.sockets));
          kept =
              let set = set_kept shut who (modes.Ending outcome) h.one here in
              let same = ap (weigh kept_by) crew in
              let k = h.good.kept in
              omega (arith, set, same, k, kept);
          waits = kept_waits shut.coroutines who h.one (modes.Ending outcome) shut.channels.waits here h.mode (subst (λ cs. list_all (waits_well cs) shut.channels.waits ≡ true) (sym crew) (subst (λ xs. list_all (waits_well w.coroutines) xs ≡ true) (sym waits) h.good.waits));
        };
      }
