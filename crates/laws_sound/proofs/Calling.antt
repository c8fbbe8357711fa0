-- Calls that are entered, and turns, keep a world in order, whatever is called.
use Rattle.std.proofs.Common.{◌≡◌, ◌∙◌, ℕ, ◌+◌, ◌==◌, [], length, Bool, true, false, ◌&&◌, Option, Some, None, if◌then◌else◌, refl, sym, ap, subst, arith, lit≤}
use Rattle.dill_base.specs.declared.errno.Errno.{Errno}
use Rattle.dill_base.specs.declared.errno.Errno.TheVariants.{Enomem, Epipe}
use Rattle.dill_calls.specs.declared.answer.Answer.TheVariants.{Fault, Number}
use Rattle.dill_calls.specs.declared.answer.Answer.TheVariants as answer
use Rattle.dill_calls.specs.declared.call.Call.{Call}
use Rattle.dill_calls.specs.declared.call.Call.TheVariants as calls
use Rattle.dill_calls.specs.declared.word.Word.TheVariants as words
use Rattle.dill_calls.specs.CallTable.{word_of, takes_memory, build_takes_memory}
use Rattle.dill_calls.specs.declared.ran.LackPlace.{LackPlace}
use Rattle.dill_calls.specs.Program.{Program, Move, Calls, Ends}
use Rattle.dill_chan.specs.declared.end.Wait.{Wait}
use Rattle.dill_chan.specs.declared.end.Want.TheVariants.{Send}
use Rattle.dill_chan.specs.Channels as channels
use Rattle.dill_chan.specs.Meetings.{has_ended}
use Rattle.dill_base.specs.Maps.{if_some, change}
use Rattle.dill_rules.specs.declared.coroutine.Coroutine.{Coroutine}
use Rattle.dill_rules.specs.declared.coroutine.Mode.{Mode}
use Rattle.dill_rules.specs.declared.coroutine.Mode.TheVariants as modes
use Rattle.dill_rules.specs.declared.thing.Thing.TheVariants as things
use Rattle.dill_rules.specs.World.{World, is_coroutine, coroutine_of, reply, begin, is_answered}
use Rattle.dill_rules.specs.Naming.{draws_of, gifts_of}
use Rattle.dill_rules.specs.Kinds.{value_of}
use Rattle.dill_rules.specs.Owning.{entry_of, move}
use Rattle.dill_rules.specs.Taking.{bundle_named, cannot_take}
use Rattle.dill_rules.specs.Answers.{end_named}
use Rattle.dill_rules.specs.Channeling.{done_at}
use Rattle.dill_rules.specs.Effects.{make, add_bundle, close_thing, start, told, next_number, passed_answer}
use Rattle.dill_rules.specs.Entering.{keep_for, perform, meet_deadline, done, enter, entered, lack_fault}
use Rattle.dill_rules.specs.Turning.{is_build, is_entry, as_running, may_lack_build, resume, answer_given, move_of, make_move, lack_move, go_on, turn}
use Rattle.dill_rules.specs.Refusals.{refuse}
use Rattle.dill_rules.specs.Settling.{end, settle}
use Rattle.laws_queue.specs.Well.{is_at}
use Rattle.laws_sound.proofs.Lists.{all_change}
use Rattle.laws_sound.specs.Order.{IsInOrder}
use Rattle.laws_sound.specs.Orderly.{is_meeting, waits_well, is_socketed, kept_by, IsOrderly}
use Rattle.laws_sound.proofs.Counting.{weigh_change}
use Rattle.laws_sound.proofs.Crews.{change_here, change_other}
use Rattle.laws_sound.proofs.Entering.{May, may, go_order, bundle_go_order, proper_kind, not_inside, one_taken}
use Rattle.laws_sound.proofs.Handing.{equal, unequal}
use Rattle.laws_sound.proofs.Lists.{all_follow}
use Rattle.laws_sound.proofs.Nearly.{is_free}
use Rattle.laws_sound.proofs.Ordering.{order_free}
use Rattle.laws_sound.proofs.Answering.{nothing, does_both, does_then, Goes, goes_not, goes_then, does_goes, some_good, if_good, settle_goes}
use Rattle.laws_sound.proofs.Making.{named_none, socket_fits, Makes, begins, there, going, caller, replied, kept, makes_kept, makes_handle, makes_bundle, moves_any, other_channels}
use Rattle.laws_sound.proofs.Performing.{channel_goes, pends_behind, link_goes, close_goes, start_goes, meet_goes, end_goes}

module _ {V : Type 0} (p : Program V) where
  -- the numbers that its answer draws are kept for who makes the call
  perform_goes : (w : World V) (who : ℕ) (view : V) (call : Call) → Makes w who 0 → May p w who view call → Makes (keep_for w call) who (draws_of call) → Goes (keep_for w call) (perform p (keep_for w call) who view call)
  perform_goes w who view (calls.Print text) h m g = let k = keep_for w (calls.Print text) in replied k k who words.Print (Number 0) g (nothing k g.good.order)
  perform_goes w who view calls.Now h m g = let k = keep_for w calls.Now in replied k k who words.Now (Number w.moment) g (nothing k g.good.order)
  perform_goes w who view calls.Yield h m g = let k = keep_for w calls.Yield in replied k k who words.Yield (Number 0) g (nothing k g.good.order)
  perform_goes w who view (calls.Msleep deadline) h m g = let k = keep_for w (calls.Msleep deadline) in pends_behind k k who (calls.Msleep deadline) g (nothing k g.good.order) (lit≤ tt) refl refl
  perform_goes w who view (calls.BundleWait number deadline) h m g = let k = keep_for w (calls.BundleWait number deadline) in pends_behind k k who (calls.BundleWait number deadline) g (nothing k g.good.order) (lit≤ tt) refl refl
  perform_goes w who view (calls.Pass word fault) h m g = let k = keep_for w (calls.Pass word fault) in replied k k who word (passed_answer fault) g (nothing k g.good.order)
  perform_goes w who view (calls.Hmake kind value) h m g =
      let k = keep_for w (calls.Hmake kind value) in
      replied k (make k (things.Value kind value) who) who words.Hmake (Number (next_number k)) g (makes_handle k (things.Value kind value) who refl (proper_kind p kind m.valid) (there k who g) (omega arith) g.good.order)
  perform_goes w who view (calls.Hquery number kind) h m g =
      let k = keep_for w (calls.Hquery number kind) in
      some_good (entry_of k number) k (λ x. reply k who words.Hquery (Number (value_of x.thing))) g.good (λ x e. replied k k who words.Hquery (Number (value_of x.thing)) g (nothing k g.good.order))
  perform_goes w who view (calls.Hown number) h m g =
      let k = keep_for w (calls.Hown number) in
      replied k (move k number who) who words.Hown (Number (next_number k)) g
      (moves_any k number who g.good.order (there k who g) (going k who g) (not_inside p w who (calls.Hown number) number h.good.order (one_taken p (cannot_take w who (calls.Hown number) number) m.takes)))
  perform_goes w who view (calls.Hclose number) h m g =
      let k = keep_for w (calls.Hclose number) in
      some_good (entry_of k number) k (λ x. close_thing k who number x.thing) g.good
      (λ x e. close_goes k who number x x.thing refl g e (λ name s. not_inside p w who (calls.Hclose number) number h.good.order (one_taken p (cannot_take w who (calls.Hclose number) number) m.takes) x name e s))
  perform_goes w who view calls.Bundle h m g =
      let k = keep_for w calls.Bundle in
      replied k (add_bundle k who) who words.Bundle (Number (next_number k)) g (makes_bundle k who (there k who g) (going k who g) (omega arith) g.good.order)
  perform_goes w who view (calls.Go program args) h m g =
      let k = keep_for w (calls.Go program args) in
      let made = add_bundle k who in
      start_goes k made who (made.last_coroutine + 1) (p.child view program (told (next_number made) args)) (k.last_bundle + 1) (gifts_of args) words.Go (Number (next_number k)) (omega arith) g
      (makes_bundle k who (there k who g) (going k who g) (omega arith) g.good.order) (go_order p w who view program args (caller w who h) m)
  perform_goes w who view (calls.BundleGo number program args) h m g =
      at (keep_for w (calls.BundleGo number program args)) g (bundle_named w number) (bundle_go_order p w who view number program args (caller w who h) m)
    where
      at : (k : World V) → Makes k who (length (gifts_of args)) → (o : Option ℕ) → IsInOrder (if_some o k (λ home. reply (start p k view home program args) who words.BundleGo (Number 0))) → Goes k (if_some o k (λ home. reply (start p k view home program args) who words.BundleGo (Number 0)))
      at k d None o = goes_not k d.good
      at k d (Some home) o = start_goes k k who (k.last_coroutine + 1) (p.child view program (told (next_number k) args)) home (gifts_of args) words.BundleGo (Number 0) (omega arith) d (nothing k d.good.order) o
  perform_goes w who view calls.Chmake h m g =
      let k = keep_for w calls.Chmake in
      let ends = channels.next_ends w.channels in
      let c : World V = record k { channels = channels.make k.channels } in
      let one = make c (things.End ends.0) who in
      let two = make one (things.End ends.1) who in
      let dc = other_channels k (channels.make k.channels) refl g.good.order in
      let d1 = makes_handle c (things.End ends.0) who refl refl (there k who g) (omega arith) dc.order in
      let d2 = makes_handle one (things.End ends.1) who refl refl (there k who g) (omega arith) d1.order in
      replied k two who words.Chmake (answer.Pair (next_number k) (next_number k + 1)) g (does_then k c two dc (does_both c one two (lit≤ tt) d1 d2))
  perform_goes w who view (calls.Chsend number bytes deadline) h m g = channel_goes (keep_for w (calls.Chsend number bytes deadline)) who (calls.Chsend number bytes deadline) refl refl g
  perform_goes w who view (calls.Chrecv number size deadline) h m g = channel_goes (keep_for w (calls.Chrecv number size deadline)) who (calls.Chrecv number size deadline) refl refl g
  perform_goes w who view (calls.Choose deadline all) h m g = channel_goes (keep_for w (calls.Choose deadline all)) who (calls.Choose deadline all) refl refl g
  perform_goes w who view (calls.Chdone number) h m g =
      let k = keep_for w (calls.Chdone number) in
      some_good (end_named k number) k (done_at k who) g.good
      (λ x e. if_good (has_ended k.channels x (Send [])) k (reply k who words.Chdone (Fault Epipe)) (reply (record k { channels = channels.done k.channels x }) who words.Chdone (Number 0))
      (λ f. replied k k who words.Chdone (Fault Epipe) g (nothing k g.good.order))
      (λ f. replied k (record k { channels = channels.done k.channels x }) who words.Chdone (Number 0) g (other_channels k (channels.done k.channels x) refl g.good.order)))
  perform_goes w who view call h m g = link_goes (keep_for w call) who call g (lit≤ tt) refl refl (socket_fits p w who view call h.good.order m) (λ s number f. named_none p w who view call number h.good.order m s f)

  -- a call is entered: refused, refused memory, or done
  enter_goes : (lacks : Bool) (w : World V) (who : ℕ) (view : V) (call : Call) → Makes w who 0 → Goes w (enter p lacks w who view call)
  enter_goes lacks w who view call h = at (refuse p w who view call) refl
    where
      lack : (b : Bool) → refuse p w who view call ≡ None → Goes w (if b then reply w who (word_of call) (Fault Enomem) else done p w who view call)
      lack true f = replied w w who (word_of call) (Fault Enomem) h (nothing w h.good.order)
      lack false f =
          let m = may p w who view call f in
          let k = keep_for w call in
          let one = perform_goes w who view call h m (makes_kept w who (draws_of call) m.room h) in
          let v = perform p k who view call in
          goes_then w k (meet_deadline v who) (does_goes w k h.good (kept w (draws_of call) m.room h.good.order)) (goes_then k v (meet_deadline v who) one (meet_goes v who one.good))

      at : (o : Option Errno) → refuse p w who view call ≡ o → Goes w (if_some o (if lacks && takes_memory (word_of call) then reply w who (word_of call) (Fault Enomem) else done p w who view call) (λ e. reply w who (word_of call) (Fault e)))
      at None f = lack (lacks && takes_memory (word_of call)) f
      at (Some e) f = replied w w who (word_of call) (Fault e) h (nothing w h.good.order)

  answered_mode : (mode : Mode) → is_answered mode ≡ true → (is_free mode ≡ true) × (is_meeting mode ≡ false)
  answered_mode (modes.Answered word a) e = (refl, refl)
  answered_mode (modes.Pending call) e = cc
  answered_mode modes.Running e = cc
  answered_mode (modes.Fresh word a) e = cc
  answered_mode (modes.Ending outcome) e = cc

  -- who has an answer is given it
  resumed : (w : World V) (who : ℕ) (view : V) (c : Coroutine V) → IsOrderly w → coroutine_of w who ≡ Some c → is_answered c.mode ≡ true → Makes (resume w who view) who 0
  resumed w who view c g e a =
      let m = answered_mode c.mode a in
      let now = weigh_change kept_by (is_coroutine who) (as_running view) w.coroutines c e in
      let k = g.kept in
      record {
        good = record {
          order = order_free w who c (as_running view) (λ d. refl) g.order e m.0 refl;
          sockets = all_change (is_socketed w.handles) (is_coroutine who) (as_running view) w.coroutines (λ x f. refl) g.sockets;
          waits = all_follow (waits_well w.coroutines) (waits_well (change (is_coroutine who) (as_running view) w.coroutines)) w.channels.waits (λ x f. at x m.1 (x.who == who) refl f) g.waits;
          kept = omega (arith, now, k);
        };
        one = as_running view c;
        found = change_here (as_running view) (λ d. refl) who w.coroutines c e;
        mode = refl;
        spare = omega (arith, now, k);
      }
    where
      at : (x : Wait) → is_meeting c.mode ≡ false → (b : Bool) → (x.who == who) ≡ b → is_at is_meeting w.coroutines x.who ≡ true → is_at is_meeting (change (is_coroutine who) (as_running view) w.coroutines) x.who ≡ true
      at x none true f h = let bad : is_meeting c.mode ≡ true = ap (λ o. if_some o false (λ d. is_meeting d.mode)) (sym e) ∙ ap (is_at is_meeting w.coroutines) (sym (equal x.who who f)) ∙ h in cc
      at x none false f h = ap (λ o. if_some o false (λ d. is_meeting d.mode)) (change_other (as_running view) (λ d. refl) who x.who w.coroutines (unequal x.who who f)) ∙ h

  from_resumed : (w : World V) (who : ℕ) (view : V) {v : World V} → Goes (resume w who view) v → Goes w v
  from_resumed w who view g = record { good = g.good; noted = g.noted }

  -- its program goes on from the answer
  moves_goes : (lack : Option LackPlace) (w : World V) (who : ℕ) (c : Coroutine V) (short : V) (next : V × Move) → IsOrderly w → coroutine_of w who ≡ Some c → is_answered c.mode ≡ true → Goes w (if is_build lack && may_lack_build next.1 then lack_move (resume w who short) who next.1 else make_move p (is_entry lack) (resume w who next.0) who next.0 next.1)
  moves_goes lack w who c short (new, Calls call) g e a = at (is_build lack && build_takes_memory (word_of call))
    where
      at : (b : Bool) → Goes w (if b then reply (resume w who short) who (word_of call) (Fault (lack_fault (resume w who short) who (word_of call))) else make_move p (is_entry lack) (resume w who new) who new (Calls call))
      at true = let r = resumed w who short c g e a in from_resumed w who short (replied (resume w who short) (resume w who short) who (word_of call) (Fault (lack_fault (resume w who short) who (word_of call))) r (nothing (resume w who short) r.good.order))
      at false = from_resumed w who new (enter_goes (is_entry lack) (resume w who new) who new (entered w.moment call) (resumed w who new c g e a))
  moves_goes lack w who c short (new, Ends outcome) g e a = at (is_build lack)
    where
      ended : Goes w (end (resume w who new) who outcome)
      ended = from_resumed w who new (end_goes (resume w who new) who outcome (resumed w who new c g e a))

      at : (b : Bool) → Goes w (if b && false then resume w who short else end (resume w who new) who outcome)
      at true = ended
      at false = ended

  -- the coroutine of a turn goes on from its answer
  pub go_on_goes : (lack : Option LackPlace) (w : World V) (who : ℕ) (c : Coroutine V) → IsOrderly w → coroutine_of w who ≡ Some c → is_answered c.mode ≡ true → Goes (begin w) (go_on p lack (begin w) who c.body)
  go_on_goes lack w who c g e a = moves_goes lack (begin w) who c (p.short c.body (answer_given (begin w) who).1) (move_of p (begin w) who c.body) (begins w g) e a

  -- a turn goes on, and then the world settles
  pub turn_is : (lack : Option LackPlace) (w : World V) (who : ℕ) (c : Coroutine V) → coroutine_of w who ≡ Some c → settle (go_on p lack (begin w) who c.body) ≡ turn p lack w who
  turn_is lack w who c e = sym (ap (λ q. if_some q w (λ d. settle (go_on p lack (begin w) who d.body))) e)

  pub turn_goes : (lack : Option LackPlace) (w : World V) (who : ℕ) (c : Coroutine V) → IsOrderly w → coroutine_of w who ≡ Some c → is_answered c.mode ≡ true → Goes (begin w) (turn p lack w who)
  turn_goes lack w who c g e a =
      let moved = go_on p lack (begin w) who c.body in
      let one = go_on_goes lack w who c g e a in
      subst (Goes (begin w)) (turn_is lack w who c e) (goes_then (begin w) moved (settle moved) one (settle_goes moved one.good))
