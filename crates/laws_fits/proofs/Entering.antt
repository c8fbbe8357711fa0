-- What fits still does as a call is entered that isn't refused.
use Rattle.std.proofs.Common.{◌≡◌, ◌∙◌, ◌⊎◌, inl, inr, ℕ, ◌<◌, ◌≤◌, List, [], ◌++◌, find, Bool, true, false, not, ◌&&◌, ◌||◌, Option, Some, None, if◌then◌else◌, refl, sym, ap, subst, arith}
use Rattle.std.specs.Prelude.{is_some, is_none, option_map, Result, Ok, Err}
use Rattle.dill_scope.proofs.Numbered.{found_number}
use Rattle.dill_stack.specs.Taking.{FitsTop}
use Rattle.std.proofs.lemmas.Bool.{and_parts}
use Rattle.rand_core.specs.Stream.{Stream}
use Rattle.dill_base.specs.declared.errno.Errno.{Errno}
use Rattle.dill_base.specs.declared.errno.Errno.TheVariants as errnos
use Rattle.dill_base.specs.Maps.{if_some}
use Rattle.dill_calls.specs.declared.answer.Answer.TheVariants.{Number}
use Rattle.dill_calls.specs.declared.call.Call.{Call}
use Rattle.dill_calls.specs.declared.call.Call.TheVariants as calls
use Rattle.dill_calls.specs.CallTable.{word_of, named_by, blocks, gives_up, is_hclose}
use Rattle.dill_calls.specs.Program.{Program}
use Rattle.dill_handles.specs.declared.entry.Entry.{Entry}
use Rattle.dill_http.specs.Heads.{Said, line_of}
use Rattle.dill_http.specs.Lines.{crlf}
use Rattle.dill_stack.specs.declared.layer.Layer.{Layer}
use Rattle.dill_stack.specs.declared.parting.Parting.{Parting}
use Rattle.dill_stack.specs.declared.task.Task.TheVariants.{Expects, Leaves}
use Rattle.dill_stack.specs.declared.want.Want.{Want}
use Rattle.dill_stack.specs.Interface.{Held, is_sent, frame, line, done as stack_done, attach, parting_fault, detach_start, drop_unread, limit_of_want}
use Rattle.dill_stack.specs.Standing.{FitsBelow}
use Rattle.dill_rules.specs.declared.coroutine.Coroutine.{Coroutine}
use Rattle.dill_rules.specs.declared.coroutine.Mode.TheVariants as modes
use Rattle.dill_rules.specs.declared.thing.Thing.{Thing}
use Rattle.dill_rules.specs.World.{World, is_coroutine, coroutine_of, call_of, with_mode, reply, pend, pending_call}
use Rattle.dill_rules.specs.Directions.{is_send, is_receive, is_handshake, message_of, line_said, is_first, is_end, asked, layer_of, parting_of, needs_top}
use Rattle.dill_rules.specs.Effects.{next_number}
use Rattle.dill_rules.specs.Entering.{keep_for, perform_on_link, is_late, is_too_late, late_answer, meet_deadline, done}
use Rattle.dill_rules.specs.Kinds.{kind_needed}
use Rattle.dill_rules.specs.LinkAnswers.{is_tcp_done, is_on_stack}
use Rattle.dill_rules.specs.Linking.{with_random, greet_by, ask_stack, heat, reserve, queue, queue_end, queue_line, queue_message, enter_send, enter_receive, enter_link, put_layer, enter_attach, given_up_at_once, give_stack_up, begin_detach, dropped_for, enter_giving_up, enter_handshake}
use Rattle.dill_rules.specs.Links as link
use Rattle.dill_rules.specs.Links.{Link, look, is_link, change_link, with_stack, reserved, heated}
use Rattle.dill_rules.specs.Naming.{links, uses_link, draws_of, taken_by}
use Rattle.dill_rules.specs.Owning.{entry_of, take, move}
use Rattle.dill_rules.specs.Sockets.{link_number, link_named, stack_of, on_link, on_named, handshake_fault}
use Rattle.dill_rules.specs.Taking.{is_cancelled}
use Rattle.laws_queue.proofs.Besides.{Besides, heat_besides, queue_besides, ask_stack_besides, dropped_besides}
use Rattle.laws_queue.proofs.Linked.{take_named_crew}
use Rattle.laws_looks.proofs.Restful.{named_link}
use Rattle.laws_queue.proofs.Numbers.{found_changed}
use Rattle.laws_looks.specs.Readers.{In, Pends, LooksApart}
use Rattle.laws_looks.specs.Calm.{Names}
use Rattle.laws_looks.proofs.Enters.{AsEntered, done_enters}
use Rattle.laws_looks.proofs.Fewer.{named_once}
use Rattle.laws_looks.proofs.Lists.{true_false, some_none, some_same, find_in}
use Rattle.laws_looks.proofs.Quieted.{found_change}
use Rattle.laws_fits.specs.Fitting.{shakes, queues, FitsCall, Holds}
use Rattle.laws_fits.proofs.Layers.{same_standing, same_formed, same_length}
use Rattle.laws_fits.proofs.Stacks.{Soft, soft_same, soft_may, dropped_soft}
use Rattle.laws_fits.proofs.Tidy.{Same, NoNumber, From, Shut, Tidy, tidy_then, tidy_same, tidy_not, tidy_links, tidy_named, tidy_some, tidy_if, tidy_more, tidy_first, tidy_take, tidy_move, tidy_mode, tidy_reply, take_links_all, take_named}
use Rattle.laws_fits.proofs.Fits.{shakes_queue, queues_on, off_fits, shakes_on, parting_on, Fitted, Fresh, once_of, fitted}
use Rattle.laws_fits.proofs.Acts.{On, on_dec, Acts, acts_off, acts_ask, tidy_heat}
use Rattle.laws_fits.proofs.Causes.{send_apart, receive_apart, Queueing, sending, going, queueing}
use Rattle.laws_fits.proofs.Giving.{names_same, tidy_up, up_shuts, makes_off}
use Rattle.laws_fits.proofs.Starts.{Queues, queues_soft, frame_queues, line_queues, done_queues, Attached, attached, Begun, greets, greets_ok, Leaving, leaves}
use Rattle.laws_fits.proofs.Refused.{Free, asks, asked_top, layer_top, bare_asks, parting_top, taken_alone, send_second, handshake_free}
use Rattle.laws_fits.proofs.Elsewhere.{IsBundle, Taken, Performs, on_link as linked, elsewhere, MeetsOff, performs}

some_is : {A : Type 0} (x y : A) → ◌≡◌ {A = Option A} (Some x) (Some y) → x ≡ y
some_is x y e = cc

ok_is : {A : Type 0} (x y : A) → ◌≡◌ {A = Result A Errno} (Ok x) (Ok y) → x ≡ y
ok_is x y e = cc

-- ---- tables

gives_asks : (call : Call) → gives_up (word_of call) ≡ true → asked call ≡ None
gives_asks (calls.Brecv m size deadline) e = cc
gives_asks (calls.Mrecv m limit deadline) e = cc
gives_asks (calls.HttpRecvrequest m deadline) e = cc
gives_asks (calls.HttpRecvstatus m deadline) e = cc
gives_asks (calls.HttpRecvfield m deadline) e = cc
gives_asks _ e = refl

gives_shakes : (call : Call) (n : ℕ) → named_by call ≡ Some n → gives_up (word_of call) ≡ true → shakes call ≡ false
gives_shakes (calls.WsAttachClient m text resource host deadline) n e f = cc
gives_shakes (calls.WsAttachServer m text deadline) n e f = cc
gives_shakes (calls.Pass word fault) n e f = cc
gives_shakes _ n e f = refl

-- a call on a stack that has a deadline is met in a round
late_off : (moment : ℕ) (call : Call) (n : ℕ) → named_by call ≡ Some n → is_on_stack (word_of call) ≡ true → is_late moment call ≡ true → uses_link (word_of call) ≡ true
late_off moment (calls.TcpDone m deadline) n e f g = refl
late_off moment (calls.TcpClose m deadline) n e f g = refl
late_off moment (calls.Bsend m bytes deadline) n e f g = refl
late_off moment (calls.Brecv m size deadline) n e f g = refl
late_off moment (calls.Msend m bytes deadline) n e f g = refl
late_off moment (calls.Mrecv m limit deadline) n e f g = refl
late_off moment (calls.TermDone m deadline) n e f g = refl
late_off moment (calls.HttpSendrequest m command resource deadline) n e f g = refl
late_off moment (calls.HttpSendstatus m code reason deadline) n e f g = refl
late_off moment (calls.HttpSendfield m name value deadline) n e f g = refl
late_off moment (calls.HttpRecvrequest m deadline) n e f g = refl
late_off moment (calls.HttpRecvstatus m deadline) n e f g = refl
late_off moment (calls.HttpRecvfield m deadline) n e f g = refl
late_off moment (calls.HttpDone m deadline) n e f g = refl
late_off moment (calls.WsAttachClient m text resource host deadline) n e f g = refl
late_off moment (calls.WsAttachServer m text deadline) n e f g = refl
late_off moment (calls.PrefixDetach m) n e f g = cc
late_off moment (calls.SuffixDetach m) n e f g = cc
late_off moment (calls.TermDetach m deadline) n e f g = refl
late_off moment (calls.HttpDetach m deadline) n e f g = refl
late_off moment (calls.WsDetach m code reason deadline) n e f g = refl
late_off moment _ n e f g = cc

message_off : (call : Call) (m : List ℕ) → message_of call ≡ Some m → is_tcp_done (word_of call) ≡ false
message_off (calls.Bsend n bytes deadline) m e = refl
message_off (calls.Msend n bytes deadline) m e = refl
message_off _ m e = cc

line_off : (call : Call) (said : Said) → line_said call ≡ Some said → is_tcp_done (word_of call) ≡ false
line_off (calls.HttpSendrequest n command resource deadline) said e = refl
line_off (calls.HttpSendstatus n code reason deadline) said e = refl
line_off (calls.HttpSendfield n name value deadline) said e = refl
line_off _ said e = cc

-- the end of a link is over the link
done_bare : (call : Call) (n : ℕ) → named_by call ≡ Some n → is_tcp_done (word_of call) ≡ true → (kind_needed call ≡ Some 4) × (needs_top call ≡ None)
done_bare (calls.TcpDone m deadline) n e f = (refl, refl)
done_bare _ n e f = cc

-- so is a handshake
shakes_bare : (call : Call) (n : ℕ) → named_by call ≡ Some n → shakes call ≡ true → (kind_needed call ≡ Some 4) × (needs_top call ≡ None) × (asked call ≡ None) × (parting_of call ≡ None)
shakes_bare (calls.WsAttachClient m text resource host deadline) n e f = (refl, refl, refl, refl)
shakes_bare (calls.WsAttachServer m text deadline) n e f = (refl, refl, refl, refl)
shakes_bare _ n e f = cc

leaves_apart : (call : Call) (parting : Parting) → parting_of call ≡ Some parting → (asked call ≡ None) × (shakes call ≡ false) × (queues call ≡ true)
leaves_apart (calls.PrefixDetach m) parting e = (refl, refl, refl)
leaves_apart (calls.SuffixDetach m) parting e = (refl, refl, refl)
leaves_apart (calls.TermDetach m deadline) parting e = (refl, refl, refl)
leaves_apart (calls.HttpDetach m deadline) parting e = (refl, refl, refl)
leaves_apart (calls.WsDetach m code reason deadline) parting e = (refl, refl, refl)
leaves_apart _ parting e = cc

-- what takes its number
takes_in : (call : Call) (n : ℕ) → named_by call ≡ Some n → (shakes call || (gives_up (word_of call) || is_some (layer_of call))) ≡ true → (is_hclose (word_of call) ≡ false) × In n (taken_by call)
takes_in (calls.TcpClose m deadline) n e f = (refl, inl (some_is n m (sym e)))
takes_in (calls.PrefixDetach m) n e f = (refl, inl (some_is n m (sym e)))
takes_in (calls.SuffixDetach m) n e f = (refl, inl (some_is n m (sym e)))
takes_in (calls.TermDetach m deadline) n e f = (refl, inl (some_is n m (sym e)))
takes_in (calls.HttpDetach m deadline) n e f = (refl, inl (some_is n m (sym e)))
takes_in (calls.WsDetach m code reason deadline) n e f = (refl, inl (some_is n m (sym e)))
takes_in (calls.WsAttachClient m text resource host deadline) n e f = (refl, inl (some_is n m (sym e)))
takes_in (calls.WsAttachServer m text deadline) n e f = (refl, inl (some_is n m (sym e)))
takes_in (calls.PrefixAttach m size big) n e f = (refl, inl (some_is n m (sym e)))
takes_in (calls.SuffixAttach m bytes) n e f = (refl, inl (some_is n m (sym e)))
takes_in (calls.TermAttach m bytes) n e f = (refl, inl (some_is n m (sym e)))
takes_in (calls.HttpAttach m) n e f = (refl, inl (some_is n m (sym e)))
takes_in (calls.WsAttachNohttp m client text) n e f = (refl, inl (some_is n m (sym e)))
takes_in _ n e f = cc

reads_of : (a b c d : Bool) → c ≡ true → a ≡ false → ((a || (b || c)) && not a) ≡ true
reads_of true b c d e f = cc
reads_of false true c d e f = refl
reads_of false false c d e f = ap (λ x. x && true) e

module _ {V : Type 0} where
  -- the caller, which runs, and what holds as it enters its call
  pub record Caller (w : World V) (who : ℕ) (call : Call) : Type 0 where
    pub fits : Fitted w
    pub apart : LooksApart w
    pub given : (n : ℕ) (x : Entry Thing) → entry_of w n ≡ Some x → n ≤ w.handles.last
    pub names : (n l : ℕ) → Names w n l → link_number w n ≡ Some l
    pub one : Coroutine V
    pub found : coroutine_of w who ≡ Some one
    pub running : (more : Call) → Pends w who more → ⊥
    pub bundles : (other : ℕ) (more : Call) (n : ℕ) → Pends w other more → is_on_stack (word_of more) ≡ true → named_by more ≡ Some n → IsBundle w.handles.entries n → ⊥
    pub free : Free w who call
    pub meets : MeetsOff (keep_for w call) who call

  -- the deadline meets none that queues
  tidy_met : {S : ℕ → Held → Held → Type 0} {T : ℕ → Type 0} (w v : World V) (who : ℕ) → Tidy S T (Some who) w v → Tidy S T (Some who) w (meet_deadline v who)
  tidy_met w v who t =
      tidy_more w v (meet_deadline v who) t
      (tidy_some (call_of v who) v v (λ c. if is_too_late v who c then reply v who (word_of c) (late_answer c) else v) (tidy_not v)
      (λ c. tidy_if (is_too_late v who c) v (reply v who (word_of c) (late_answer c)) v (tidy_reply v who (word_of c) (late_answer c) refl) (tidy_not v)))

  met_links : (v : World V) (who : ℕ) → (meet_deadline v who).links ≡ v.links
  met_links v who = at (call_of v who)
    where
      by : (c : Call) (b : Bool) → (if b then reply v who (word_of c) (late_answer c) else v).links ≡ v.links
      by c true = refl
      by c false = refl

      at : (o : Option Call) → (if_some o v (λ c. if is_too_late v who c then reply v who (word_of c) (late_answer c) else v)).links ≡ v.links
      at None = refl
      at (Some c) = by c (is_too_late v who c)

  -- a call on a stack isn't too late at its entry
  pub met_same : (v : World V) (who : ℕ) (call : Call) (n : ℕ) → named_by call ≡ Some n → is_on_stack (word_of call) ≡ true → ((c : Call) → call_of v who ≡ Some c → c ≡ call) → meet_deadline v who ≡ v
  met_same v who call n e on same = at (call_of v who) refl
    where
      late : (c : Call) → c ≡ call → (b : Bool) → is_too_late v who c ≡ b → (if b then reply v who (word_of c) (late_answer c) else v) ≡ v
      late c s false f = refl
      late c s true f =
          let one = and_parts (is_late v.moment c) (not (uses_link (word_of c)) && is_none _) f in
          let two = and_parts (not (uses_link (word_of c))) _ one.1 in
          let bad : false ≡ true = ap not (sym (late_off v.moment c n (ap named_by s ∙ e) (ap (λ m. is_on_stack (word_of m)) s ∙ on) one.0)) ∙ two.0 in
          cc

      at : (o : Option Call) → call_of v who ≡ o → if_some o v (λ c. if is_too_late v who c then reply v who (word_of c) (late_answer c) else v) ≡ v
      at None f = refl
      at (Some c) f = late c (same c f) (is_too_late v who c) refl

  still_pends : (u : World V) (who : ℕ) (call : Call) (n : ℕ) (one : Coroutine V) → coroutine_of u who ≡ Some one → named_by call ≡ Some n → queues call ≡ true → Pends (meet_deadline (pend u who call) who) who call
  still_pends u who call n one found e q = subst (λ z. Pends z who call) (sym is) there
    where
      v : World V
      v = pend u who call

      here : coroutine_of v who ≡ Some (with_mode (modes.Pending call) one)
      here = found_changed (is_coroutine who) (with_mode (modes.Pending call)) one u.coroutines (λ d. refl) found

      pending : call_of v who ≡ Some call
      pending = ap (λ o. if_some o None (λ (c : Coroutine V). pending_call c.mode)) here

      is : meet_deadline v who ≡ v
      is = met_same v who call n e (queues_on call q) (λ c f. some_same (call_of v who) c call f pending)

      there : Pends v who call
      there = record { one = with_mode (modes.Pending call) one; there = find_in (is_coroutine who) v.coroutines (with_mode (modes.Pending call) one) here; number = found_number (λ (d : Coroutine V). d.number) who u.coroutines one found; mode = refl }

  on_same : (w v : World V) (call : Call) (l : ℕ) → ((n : ℕ) → link_number v n ≡ link_number w n) → On w call l → On v call l
  on_same w v call l h o = record { number = o.number; named = o.named; linked = h o.number ∙ o.linked }

  -- what acts on a call's stack in a later world does so in an earlier one
  join_acts : (w v : World V) (call : Call) (R : Held → Held → Type 0) → ((n : ℕ) → link_number v n ≡ link_number w n) → (l : ℕ) (s t r : Held) → Same l s t → Acts v call R l t r → Acts w call R l s r
  join_acts w v call R h l s t r e a =
      subst (λ x. Acts w call R l x r) e (λ o. a.0 (on_same w v call l h o), λ off. a.1 (λ o. off (on_same v w call l (λ n. sym (h n)) o)))

  besides_named : (w v : World V) → Besides w v → (n : ℕ) → link_number v n ≡ link_number w n
  besides_named w v b n = ap (λ (x : World V). link_number x n) b.same

  module _ (p : Program V) (w : World V) (who : ℕ) (view : V) (call : Call) (h : Caller w who call) where
    abbrev k : World V
    k = keep_for w call

    abbrev New : ℕ → Call → Type 0
    New other more = (other ≡ who) × (more ≡ call)

    kept : {T : ℕ → Type 0} → Tidy Same T (Some who) w k
    kept = tidy_same w k refl refl refl refl

    low_named : (n : ℕ) → named_by call ≡ Some n → n ≤ w.handles.last
    low_named n e = at (entry_of w n) refl (h.free.fit.live n e)
      where
        at : (o : Option (Entry Thing)) → entry_of w n ≡ o → is_none o ≡ false → n ≤ w.handles.last
        at None f g = cc
        at (Some x) f g = h.given n x f

    owes : {S : ℕ → Held → Held → Type 0} {T : ℕ → Type 0} (z : World V) → z ≡ done p w who view call → Tidy S T (Some who) w z
        → ((other : ℕ) (more : Call) (n l : ℕ) → (other ≡ who → ⊥) → Pends w other more → queues more ≡ true → named_by more ≡ Some n → link_number w n ≡ Some l → T n → ⊥)
        → ((l : ℕ) (x y : Link) → look w.links l ≡ Some x → x.closing ≡ false → look z.links l ≡ Some y → y.closing ≡ false → S l x.stack y.stack → Soft (Holds z queues l) x.stack y.stack ⊎ Fresh z New l y)
        → ((n l : ℕ) (x y : Link) → is_on_stack (word_of call) ≡ true → On w call l → look w.links l ≡ Some x → look z.links l ≡ Some y → y.closing ≡ false → x.most ≤ y.most → S l x.stack y.stack → FitsCall call y)
        → Fitted z
    owes {S} {T} z is tidy free stacks fits = fitted {new = New} w z
        (record {
          tidy = tidy;
          calls = λ other more q on. entered other more on ((done_enters p w who view call).calls other more (subst (λ x. Pends x other more) is q));
          free = λ other more n l ne q u e f t. free other more n l (λ same. ne (ap Some (sym same))) q u e f t;
          own = λ other more n l x y g q u e f i c j d s. absurd (h.running more (subst (λ m. Pends w m more) (sym (some_is who other g)) q));
          stacks = stacks;
          fits = λ other more n l y q e nm i c. subst (λ m. FitsCall m y) (sym q.1) (its n l y (ap named_by (sym q.1) ∙ e) nm i c (is_on_stack (word_of call)) refl);
          low = λ other more n q e. let a = low_named n (ap named_by (sym q.1) ∙ e) in let b = tidy.last in omega (arith, a, b);
        }) (once_of w h.apart) h.fits
      where
        entered : (other : ℕ) (more : Call) → is_on_stack (word_of more) ≡ true → Pends w other more ⊎ AsEntered who call other more → Pends w other more ⊎ New other more
        entered other more on (inl q) = inl q
        entered other more on (inr q) = which q.1
          where
            which : (more ≡ call) ⊎ (is_on_stack (word_of more) ≡ false) → Pends w other more ⊎ New other more
            which (inl same) = inr (q.0, same)
            which (inr off) = absurd (true_false (is_on_stack (word_of more)) on off)

        its : (n l : ℕ) (y : Link) → named_by call ≡ Some n → Names z n l → look z.links l ≡ Some y → y.closing ≡ false → (b : Bool) → is_on_stack (word_of call) ≡ b → FitsCall call y
        its n l y e nm i c false off = off_fits call y off
        its n l y e nm i c true on = at (tidy.names n l nm) (tidy.links l y i c)
          where
            at : Names w n l ⊎ (w.handles.last < n) → From (S l) w.links l y → FitsCall call y
            at (inl named) f = fits n l f.x y on (record { number = n; named = e; linked = h.names n l named }) f.there i c f.most f.stack
            at (inr up) f = let a = low_named n e in absurd (omega (arith, a, up))

    no_free : (other : ℕ) (more : Call) (n l : ℕ) → (other ≡ who → ⊥) → Pends w other more → queues more ≡ true → named_by more ≡ Some n → link_number w n ≡ Some l → NoNumber n → ⊥
    no_free other more n l ne q u e f t = t

    -- nobody has anything queued on the link of a call that sends or takes
    nobody : (l : ℕ) → On w call l → (is_send (word_of call) ≡ true) ⊎ ((shakes call || (gives_up (word_of call) || is_some (layer_of call))) ≡ true) → Holds w queues l → ⊥
    nobody l o (inr t) q =
        let i = takes_in call o.number o.named t in
        taken_alone w who call o.number q.who q.call l h.free i.0 i.1 o.linked q.pends (q.named ∙ ap Some (named_once w h.apart q.number o.number l q.linked o.linked))
    nobody l o (inl s) q = at (queueing q.call q.number q.named q.passes)
      where
        named : named_by q.call ≡ Some o.number
        named = q.named ∙ ap Some (named_once w h.apart q.number o.number l q.linked o.linked)

        at : Queueing q.call → ⊥
        at (sending t d) = send_second w who call o.number q.who q.call h.free o.named s q.pends t named
        at (going t d) = h.free.fit.occupied o.number q.who q.call q.pends o.named named (reads_of (is_send (word_of q.call)) (is_receive (word_of q.call)) (is_handshake (word_of q.call) || gives_up (word_of q.call)) true t d) t

    pub quiet : (l : ℕ) (x : Link) → On w call l → look w.links l ≡ Some x → x.closing ≡ false → (is_send (word_of call) ≡ true) ⊎ ((shakes call || (gives_up (word_of call) || is_some (layer_of call))) ≡ true) → (is_sent x.stack ≡ true) × (x.stack.task ≡ Expects → ⊥)
    quiet l x o i c t = (sent (is_sent x.stack) refl, λ e. let q = h.fits.fits.expects l x i c e in nobody l o t (record { who = q.who; call = q.call; number = q.number; pends = q.pends; passes = shakes_queue q.call q.passes; named = q.named; linked = q.linked }))
      where
        sent : (b : Bool) → is_sent x.stack ≡ b → is_sent x.stack ≡ true
        sent true e = e
        sent false e = absurd (nobody l o t (h.fits.fits.sends l x i c e))

    -- and nobody is pending on the link of one that takes
    alone : (l : ℕ) → On w call l → (shakes call || (gives_up (word_of call) || is_some (layer_of call))) ≡ true → (other : ℕ) (more : Call) (m : ℕ) → Pends w other more → named_by more ≡ Some m → Names w m l → ⊥
    alone l o t other more m q e nm =
        let i = takes_in call o.number o.named t in
        taken_alone w who call o.number other more l h.free i.0 i.1 o.linked q (e ∙ ap Some (names_same w o.number m l (once_of w h.apart) o.linked nm))

    alone_new : {S : ℕ → Held → Held → Type 0} {T : ℕ → Type 0} (z : World V) → z ≡ done p w who view call → Tidy S T (Some who) w z → (l : ℕ) → On w call l → (shakes call || (gives_up (word_of call) || is_some (layer_of call))) ≡ true → (other : ℕ) (more : Call) (m : ℕ) → Pends z other more → is_on_stack (word_of more) ≡ true → named_by more ≡ Some m → Names z m l → New other more
    alone_new z is tidy l o t other more m q on e nm = at ((done_enters p w who view call).calls other more (subst (λ x. Pends x other more) is q))
      where
        old : Pends w other more → Names w m l ⊎ (w.handles.last < m) → ⊥
        old r (inl named) = alone l o t other more m r e named
        old r (inr up) = let b = h.fits.low other more m r on e in omega (arith, b, up)

        at : Pends w other more ⊎ AsEntered who call other more → New other more
        at (inl r) = absurd (old r (tidy.names m l nm))
        at (inr r) = which r.1
          where
            which : (more ≡ call) ⊎ (is_on_stack (word_of more) ≡ false) → New other more
            which (inl same) = (r.0, same)
            which (inr off) = absurd (true_false (is_on_stack (word_of more)) on off)

    -- the call holds what it queues
    holding : {S : ℕ → Held → Held → Type 0} (z : World V) (test : Call → Bool) → Tidy S NoNumber (Some who) w z → (l : ℕ) (y : Link) → look z.links l ≡ Some y → y.closing ≡ false → (o : On w call l) → test call ≡ true → Pends z who call → Holds z test l
    holding z test tidy l y i c o t q = at (tidy.lost o.number l o.linked)
      where
        at : (link_number z o.number ≡ Some l) ⊎ (NoNumber o.number ⊎ Shut z.links l) → Holds z test l
        at (inl e) = record { who = who; call = call; number = o.number; pends = q; passes = t; named = o.named; linked = e }
        at (inr (inl n)) = absurd n
        at (inr (inr s)) = absurd (true_false y.closing (s y i) c)

    -- ---- what is on no stack

    elsewhere_fits : (v : World V) → meet_deadline v who ≡ done p w who view call → ((n : ℕ) → named_by call ≡ Some n → is_on_stack (word_of call) ≡ false) → Tidy Same (Taken w.handles.entries call) (Some who) k v → Fitted (meet_deadline v who)
    elsewhere_fits v is off t = owes (meet_deadline v who) is (tidy_met w v who (tidy_more w k v kept t)) freed
        (λ l x y i c j d s. inl (soft_same (Holds (meet_deadline v who) queues l) x.stack y.stack s))
        (λ n l x y on o i j d m s. absurd (true_false (is_on_stack (word_of call)) on (off o.number o.named)))
      where
        freed : (other : ℕ) (more : Call) (n l : ℕ) → (other ≡ who → ⊥) → Pends w other more → queues more ≡ true → named_by more ≡ Some n → link_number w n ≡ Some l → Taken w.handles.entries call n → ⊥
        freed other more n l ne q u e f (inl t) = taken_alone w who call n other more l h.free t.0 t.1 f q e
        freed other more n l ne q u e f (inr b) = h.bundles other more n q (queues_on more u) e b

    -- ---- a send

    module _ (s : is_send (word_of call) ≡ true) where
      abbrev hot : World V
      hot = heat (keep_for w call) call false true

      abbrev R : Held → Held → Type 0
      R a b = Soft ⊥ a b ⊎ (Queues a b × (is_tcp_done (word_of call) ≡ true → a.layers ≡ [] → ⊥))

      asked_so : (f : Stream → Held → Result (Held × Stream) Errno) → ((u : Stream) (a : Held) (now : Held × Stream) → f u a ≡ Ok now → R a now.0) → Tidy (Acts hot call R) NoNumber (Some who) hot (ask_stack hot call f)
      asked_so f g = acts_ask hot call f R (λ l x o i. (λ now e. g hot.random x.stack now e, λ x_e e. inl (soft_same ⊥ x.stack x.stack refl)))

      queued : Tidy (Acts hot call R) NoNumber (Some who) hot (queue hot call)
      queued = at (message_of call) refl (line_said call) refl (is_end (word_of call))
        where
          still : Tidy (Acts hot call R) NoNumber (Some who) hot hot
          still = acts_off hot call R (λ l x o i. inl (soft_same ⊥ x.stack x.stack refl))

          ends : (a : Held) (now : Held × Stream) → (Soft ⊥ a now.0) ⊎ ((a.layers ≡ [] → ⊥) × Queues a now.0) → R a now.0
          ends a now (inl q) = inl q
          ends a now (inr q) = inr (q.1, λ d. q.0)

          at : (m : Option (List ℕ)) → message_of call ≡ m → (said : Option Said) → line_said call ≡ said → (b : Bool) → Tidy (Acts hot call R) NoNumber (Some who) hot (if_some m (if_some said (if b then queue_end hot call else hot) (queue_line hot call)) (queue_message hot call))
          at (Some m) e said g b = asked_so (λ u a. frame m u a) (λ u a now f. inr (frame_queues m u a now f, λ d. absurd (true_false (is_tcp_done (word_of call)) d (message_off call m e))))
          at None e (Some said) g b = asked_so (λ u a. with_random u (line (is_first said) (line_of said ++ crlf) a)) (λ u a now f. inr (line_queues (is_first said) (line_of said ++ crlf) u a now f, λ d. absurd (true_false (is_tcp_done (word_of call)) d (line_off call said g))))
          at None e None g true = asked_so stack_done (λ u a now f. ends a now (done_queues u a now f))
          at None e None g false = still

      send_fits : meet_deadline (enter_send k who call) who ≡ done p w who view call → Fitted (meet_deadline (enter_send k who call) who)
      send_fits is = owes z is tidy no_free stacks (λ n l x y on o i j d m a. fitting l y o)
        where
          u : World V
          u = queue hot call

          z : World V
          z = meet_deadline (enter_send k who call) who

          named : (n : ℕ) → link_number hot n ≡ link_number w n
          named n = besides_named k hot (heat_besides k call false true) n

          tidy : Tidy (Acts w call R) NoNumber (Some who) w z
          tidy = tidy_met w (pend u who call) who (tidy_more w u (pend u who call) (tidy_then w hot u (join_acts w hot call R named) (tidy_more w k hot kept (tidy_heat k call false true)) queued) (tidy_mode u who (with_mode (modes.Pending call)) refl))

          there : coroutine_of u who ≡ Some h.one
          there = ap (λ (x : World V). coroutine_of x who) (queue_besides hot call).same ∙ ap (λ (x : World V). coroutine_of x who) (heat_besides k call false true).same ∙ h.found

          stacks : (l : ℕ) (x y : Link) → look w.links l ≡ Some x → x.closing ≡ false → look z.links l ≡ Some y → y.closing ≡ false → Acts w call R l x.stack y.stack → Soft (Holds z queues l) x.stack y.stack ⊎ Fresh z New l y
          stacks l x y i c j d a = at (on_dec w call l)
            where
              which : (o : On w call l) → R x.stack y.stack → (b : Bool) → is_tcp_done (word_of call) ≡ b → Soft (Holds z queues l) x.stack y.stack
              which o (inl q) b e = soft_may (Holds z queues l) x.stack y.stack q
              which o (inr q) true e =
                  let bare = done_bare call o.number o.named e in
                  absurd (q.1 e (bare_asks call x.stack.layers bare.0 bare.1 (asks w who call l x h.free (first_or s) o i)))
                where
                  first_or : is_send (word_of call) ≡ true → (is_on_stack (word_of call) || is_some (layer_of call)) ≡ true
                  first_or t = ap (λ v. (v || (is_receive (word_of call) || (is_handshake (word_of call) || gives_up (word_of call)))) || is_some (layer_of call)) t
              which o (inr q) false e =
                  let more : queues call ≡ true = ap (λ v. v && not (is_tcp_done (word_of call)) || (shakes call || is_some (parting_of call))) s ∙ ap (λ v. not v || (shakes call || is_some (parting_of call))) e in
                  queues_soft (Holds z queues l) x.stack y.stack (holding z queues tidy l y j d o more (still_pends u who call o.number h.one there o.named more)) (quiet l x o i c (inl s)).1 q.0

              at : On w call l ⊎ (On w call l → ⊥) → Soft (Holds z queues l) x.stack y.stack ⊎ Fresh z New l y
              at (inl o) = inl (which o (a.0 o) (is_tcp_done (word_of call)) refl)
              at (inr off) = inl (soft_same (Holds z queues l) x.stack y.stack (a.1 off))

          fitting : (l : ℕ) (y : Link) → On w call l → FitsCall call y
          fitting l y o =
              let t = send_apart call o.number o.named s in
              record {
                receives = λ want e. absurd (some_none (asked call) want t.3 e);
                greets = λ e. absurd (true_false (shakes call) e t.1);
                leaves = λ parting e. absurd (some_none (parting_of call) parting t.2 e);
              }

    -- ---- a receive

    receive_fits : is_receive (word_of call) ≡ true → meet_deadline (enter_receive k who call) who ≡ done p w who view call → Fitted (meet_deadline (enter_receive k who call) who)
    receive_fits r is = owes z is tidy no_free (λ l x y i c j d e. inl (soft_same (Holds z queues l) x.stack y.stack e)) fitting
      where
        more : World V
        more = reserve k call

        z : World V
        z = meet_deadline (enter_receive k who call) who

        ready : Tidy Same NoNumber (Some who) more z
        ready = let u = heat more call true false in tidy_met more (pend u who call) who (tidy_more more u (pend u who call) (tidy_heat more call true false) (tidy_mode u who (with_mode (modes.Pending call)) refl))

        room : Tidy Same NoNumber (Some who) k more
        room = tidy_some (named_by call) k k (λ n. if_some (asked call) k (λ want. on_named k n (reserved want))) (tidy_not k)
            (λ n. tidy_some (asked call) k k (λ want. on_named k n (reserved want)) (tidy_not k) (λ want. tidy_named k n (reserved want) (λ x. refl) (λ x. refl) (λ x. omega arith) (λ m a ne. refl) (λ l x e i. refl)))

        tidy : Tidy Same NoNumber (Some who) w z
        tidy = tidy_more w more z (tidy_more w k more kept room) ready

        -- there is room for what it asks for
        roomy : (l : ℕ) (want : Want) (y : Link) → On w call l → asked call ≡ Some want → look more.links l ≡ Some y → limit_of_want want ≤ y.most
        roomy l want y o e i = by (found_change (reserved want) (λ x. refl) l l w.links.all y (sym (ap (λ (x : World V). look x.links l) is_more) ∙ i))
          where
            is_more : more ≡ on_link k l (reserved want)
            is_more =
                ap (λ q. if_some q k (λ n. if_some (asked call) k (λ v. on_named k n (reserved v)))) o.named ∙ ap (λ q. if_some q k (λ v. on_named k o.number (reserved v))) e ∙ ap (λ q. if_some q k (λ m. on_link k m (reserved want))) o.linked

            by : (x : Link) × (look w.links l ≡ Some x) × ((y ≡ x) ⊎ ((l ≡ l) × (y ≡ reserved want x))) → limit_of_want want ≤ y.most
            by q = which q.2
              where
                changed : look (change_link w.links l (reserved want)) l ≡ Some (reserved want q.0)
                changed = found_changed (is_link l) (reserved want) q.0 w.links.all (λ x. refl) q.1

                most : (y ≡ reserved want q.0) → limit_of_want want ≤ y.most
                most same = let g = ap (λ (v : Link). v.most) same in omega (arith, g)

                which : (y ≡ q.0) ⊎ ((l ≡ l) × (y ≡ reserved want q.0)) → limit_of_want want ≤ y.most
                which (inr same) = most same.1
                which (inl same) = most (some_same (look (change_link w.links l (reserved want)) l) y (reserved want q.0) (sym (ap (λ (x : World V). look x.links l) is_more) ∙ i) changed)

        fitting : (n l : ℕ) (x y : Link) → is_on_stack (word_of call) ≡ true → On w call l → look w.links l ≡ Some x → look z.links l ≡ Some y → y.closing ≡ false → x.most ≤ y.most → Same l x.stack y.stack → FitsCall call y
        fitting n l x y on o i j d m e =
            let t = receive_apart call o.number o.named r in
            let f = ready.links l y j d in
            record {
              receives = λ want g. (
                let a = roomy l want f.x o g f.there in let b = f.most in omega (arith, a, b),
                subst (λ (q : Held). FitsTop want q.layers) (sym e) (asked_top call want x.stack.layers g (asks w who call l x h.free (ap (λ b. b || is_some (layer_of call)) on) o i)),
              );
              greets = λ g. absurd (true_false (shakes call) g t.1);
              leaves = λ parting g. absurd (some_none (parting_of call) parting t.2 g);
            }

    -- ---- a listen, an accept or a connect

    link_fits : links (word_of call) ≡ true → meet_deadline (enter_link k who call) who ≡ done p w who view call → Fitted (meet_deadline (enter_link k who call) who)
    link_fits t is =
        let more : World V = record k { links = link.keep k.links } in
        let u = heat more call true false in
        let z = meet_deadline (pend u who call) who in
        owes z is (tidy_met w (pend u who call) who (tidy_more w u (pend u who call) (tidy_more w more u (tidy_more w k more kept (tidy_same k more refl refl refl refl)) (tidy_heat more call true false)) (tidy_mode u who (with_mode (modes.Pending call)) refl))) no_free
        (λ l x y i c j d e. inl (soft_same (Holds z queues l) x.stack y.stack e)) (λ n l x y on o i j d m e. absurd (true_false (is_on_stack (word_of call)) on (makes_off (word_of call) t)))

    -- ---- the number is taken first

    abbrev taken : World V
    taken = if_some (named_by call) (keep_for w call) (λ n. take (keep_for w call) n who)

    taken_tidy : {T : ℕ → Type 0} → Tidy Same T (Some who) w taken
    taken_tidy = tidy_more w k taken kept (tidy_some (named_by call) k k (λ n. take k n who) (tidy_not k) (λ n. tidy_take k n who))

    taken_named : (n : ℕ) → link_number taken n ≡ link_number w n
    taken_named n = at (named_by call)
      where
        at : (o : Option ℕ) → link_number (if_some o k (λ m. take k m who)) n ≡ link_number w n
        at None = refl
        at (Some m) = take_named k m who n

    taken_links : taken.links ≡ w.links
    taken_links = at (named_by call)
      where
        at : (o : Option ℕ) → (if_some o k (λ m. take k m who)).links ≡ w.links
        at None = refl
        at (Some m) = take_links_all k m who

    taken_found : coroutine_of taken who ≡ Some h.one
    taken_found = ap (find (is_coroutine who)) (take_named_crew k call who).coroutines ∙ h.found

    -- ---- a handshake

    handshake_fits : shakes call ≡ true → ((l : ℕ) (x : Link) → On w call l → look w.links l ≡ Some x → handshake_fault call x.stack ≡ None) → meet_deadline (enter_handshake k who call) who ≡ done p w who view call → Fitted (meet_deadline (enter_handshake k who call) who)
    handshake_fits t faults is = owes z is tidy no_free stacks (λ n l x y on o i j d m a. fitting l x y o (a.0 o))
      where
        said : World V
        said = ask_stack taken call (greet_by call)

        u : World V
        u = heat said call true true

        z : World V
        z = meet_deadline (pend u who call) who

        takes : (shakes call || (gives_up (word_of call) || is_some (layer_of call))) ≡ true
        takes = ap (λ b. b || (gives_up (word_of call) || is_some (layer_of call))) t

        begins : Tidy (Acts taken call Begun) NoNumber (Some who) taken said
        begins = acts_ask taken call (greet_by call) Begun
            (λ l x o i. let was = on_same taken w call l (λ n. sym (taken_named n)) o in
            let there = sym (ap (λ q. look q l) taken_links) ∙ i in
            (λ now e. greets call o.number taken.random x.stack now o.named t e, λ fault e. absurd (greets_ok call taken.random x.stack fault (faults l x was there) e)))

        tidy : Tidy (Acts w call Begun) NoNumber (Some who) w z
        tidy = tidy_met w (pend u who call) who (tidy_more w u (pend u who call) (tidy_more w said u (tidy_then w taken said (join_acts w taken call Begun taken_named) taken_tidy begins) (tidy_heat said call true true)) (tidy_mode u who (with_mode (modes.Pending call)) refl))

        there : coroutine_of u who ≡ Some h.one
        there = ap (λ (x : World V). coroutine_of x who) (heat_besides said call true true).same ∙ ap (λ (x : World V). coroutine_of x who) (ask_stack_besides taken call (greet_by call)).same ∙ taken_found

        stacks : (l : ℕ) (x y : Link) → look w.links l ≡ Some x → x.closing ≡ false → look z.links l ≡ Some y → y.closing ≡ false → Acts w call Begun l x.stack y.stack → Soft (Holds z queues l) x.stack y.stack ⊎ Fresh z New l y
        stacks l x y i c j d a = at (on_dec w call l)
          where
            fresh : On w call l → Fresh z New l y
            fresh o =
                let b = a.0 o in
                let bare = shakes_bare call o.number o.named t in
                let more = shakes_queue call t in
                let pends = still_pends u who call o.number h.one there o.named more in
                record {
                  solid = b.solid (bare_asks call x.stack.layers bare.0 bare.1 (asks w who call l x h.free (ap (λ v. v || is_some (layer_of call)) (shakes_on call t)) o i)) (quiet l x o i c (inr takes)).0;
                  sends = λ e. holding z queues tidy l y j d o more pends;
                  expects = λ e. holding z shakes tidy l y j d o t pends;
                  alone = alone_new z is tidy l o takes;
                }

            at : On w call l ⊎ (On w call l → ⊥) → Soft (Holds z queues l) x.stack y.stack ⊎ Fresh z New l y
            at (inl o) = inr (fresh o)
            at (inr off) = inl (soft_same (Holds z queues l) x.stack y.stack (a.1 off))

        fitting : (l : ℕ) (x y : Link) → On w call l → Begun x.stack y.stack → FitsCall call y
        fitting l x y o b =
            let bare = shakes_bare call o.number o.named t in
            record {
              receives = λ want e. absurd (some_none (asked call) want bare.2 e);
              greets = λ e. b.task;
              leaves = λ parting e. absurd (some_none (parting_of call) parting bare.3 e);
            }

    -- ---- a stack is given up

    module _ (g : gives_up (word_of call) ≡ true) where
      takes_up : (shakes call || (gives_up (word_of call) || is_some (layer_of call))) ≡ true
      takes_up = at (shakes call) g
        where
          at : (b : Bool) → gives_up (word_of call) ≡ true → (b || (gives_up (word_of call) || is_some (layer_of call))) ≡ true
          at true e = refl
          at false e = ap (λ v. v || is_some (layer_of call)) e

      abbrev own : World V
      own = dropped_for taken call

      abbrev D : Held → Held → Type 0
      D a b = Soft ⊥ a b

      own_tidy : Tidy (λ l a b. Soft ⊥ a b) NoNumber (Some who) taken own
      own_tidy = at (parting_of call) (named_by call)
        where
          still : Tidy (λ l a b. Soft ⊥ a b) NoNumber (Some who) taken taken
          still = tidy_links taken taken.links (λ l y i. (y, i, refl, omega arith, soft_same ⊥ y.stack y.stack refl))

          at : (q : Option Parting) (o : Option ℕ) → Tidy (λ l a b. Soft ⊥ a b) NoNumber (Some who) taken (if_some q (if_some o taken (λ n. on_named taken n (with_stack drop_unread))) (λ parting. taken))
          at (Some q) o = still
          at None None = still
          at None (Some n) = tidy_named taken n (with_stack drop_unread) (λ x. refl) (λ x. refl) (λ x. omega arith) (λ m a ne. soft_same ⊥ a a refl) (λ l x e i. dropped_soft x.stack)

      own_named : (n : ℕ) → link_number own n ≡ link_number w n
      own_named n = besides_named taken own (dropped_besides taken call) n ∙ taken_named n

      own_found : coroutine_of own who ≡ Some h.one
      own_found = ap (λ (x : World V). coroutine_of x who) (dropped_besides taken call).same ∙ taken_found

      up_fits : (e : Errno) → meet_deadline (give_stack_up own who call e (draws_of call)) who ≡ done p w who view call → Fitted (meet_deadline (give_stack_up own who call e (draws_of call)) who)
      up_fits e is = owes z is tidy no_free (λ l x y i c j d s. inl (soft_may (Holds z queues l) x.stack y.stack s)) (λ n l x y on o i j d m s. absurd (true_false y.closing (shuts l o y j) d))
        where
          v : World V
          v = give_stack_up own who call e (draws_of call)

          z : World V
          z = meet_deadline v who

          tidy : Tidy (λ l a b. Soft ⊥ a b) NoNumber (Some who) w z
          tidy = tidy_met w v who (tidy_more w own v (tidy_first w taken own taken_tidy own_tidy) (tidy_up own who call e (draws_of call) refl))

          shuts : (l : ℕ) → On w call l → Shut z.links l
          shuts l o y j = up_shuts own who call e (draws_of call) o.number l o.named (own_named o.number ∙ o.linked) y (ap (λ q. look q l) (sym (met_links v who)) ∙ j)

      close_fits : parting_of call ≡ None → meet_deadline (pend (heat own call true true) who call) who ≡ done p w who view call → Fitted (meet_deadline (pend (heat own call true true) who call) who)
      close_fits none is =
          let u = heat own call true true in
          let z = meet_deadline (pend u who call) who in
          owes z is (tidy_met w (pend u who call) who (tidy_more w u (pend u who call) (tidy_more w own u (tidy_first w taken own taken_tidy own_tidy) (tidy_heat own call true true)) (tidy_mode u who (with_mode (modes.Pending call)) refl))) no_free
          (λ l x y i c j d s. inl (soft_may (Holds z queues l) x.stack y.stack s))
          (λ n l x y on o i j d m s. record {
            receives = λ want e. absurd (some_none (asked call) want (gives_asks call g) e);
            greets = λ e. absurd (true_false (shakes call) e (gives_shakes call o.number o.named g));
            leaves = λ parting e. absurd (some_none (parting_of call) parting none e);
          })

      detach_fits : (parting : Parting) → parting_of call ≡ Some parting → given_up_at_once own who call ≡ None → meet_deadline (begin_detach own who call parting) who ≡ done p w who view call → Fitted (meet_deadline (begin_detach own who call parting) who)
      detach_fits parting e none is = owes z is tidy no_free stacks (λ n l x y on o i j d m a. fitting l x y o i (a.0 o))
        where
          b : Bool
          b = blocks (word_of call)

          said : World V
          said = ask_stack own call (λ random s. detach_start parting random s)

          u : World V
          u = heat said call b b

          z : World V
          z = meet_deadline (pend u who call) who

          same : own ≡ taken
          same = ap (λ q. if_some q (if_some (named_by call) taken (λ n. on_named taken n (with_stack drop_unread))) (λ t. taken)) e

          own_look : (l : ℕ) → look own.links l ≡ look w.links l
          own_look l = ap (λ (x : World V). look x.links l) same ∙ ap (λ q. look q l) taken_links

          -- its stack can be left
          left : (l : ℕ) (x : Link) → On w call l → look w.links l ≡ Some x → parting_fault x.stack ≡ None
          left l x o i = at (is_cancelled own who) none
            where
              stack : stack_of own call ≡ Some x.stack
              stack =
                  ap (λ q. if_some q None (λ n. option_map (λ y. y.stack) (link_named own n))) o.named
                  ∙ ap (λ q. option_map (λ (y : Link). y.stack) (if_some q None (look own.links))) (own_named o.number ∙ o.linked)
                  ∙ ap (λ q. option_map (λ (y : Link). y.stack) q) (own_look l ∙ i)

              at : (c : Bool) → (if c then Some errnos.Ecanceled else if_some (stack_of own call) None parting_fault) ≡ None → parting_fault x.stack ≡ None
              at true f = cc
              at false f = sym (ap (λ q. if_some q None parting_fault) stack) ∙ f

          begins : Tidy (Acts own call Leaving) NoNumber (Some who) own said
          begins = acts_ask own call (λ random s. detach_start parting random s) Leaving (λ l x o i. at l x o (sym (own_look l) ∙ i))
            where
              at : (l : ℕ) (x : Link) → On own call l → look w.links l ≡ Some x → ((now : Held × Stream) → detach_start parting own.random x.stack ≡ Ok now → Leaving x.stack now.0) × ((f : Errno) → detach_start parting own.random x.stack ≡ Err f → Leaving x.stack x.stack)
              at l x o i =
                  let was = on_same own w call l (λ n. sym (own_named n)) o in
                  let named = named_link w was.number l was.linked in
                  let open_now = h.fits.fits.«open» was.number l x named i in
                  let r = leaves parting own.random x.stack (h.fits.fits.solid l x i open_now) (left l x was i) in
                  (λ now f. subst (λ (q : Held × Stream). Leaving x.stack q.0) (ok_is r.0 now (sym r.1 ∙ f)) r.2, λ fault f. let bad : ◌≡◌ {A = Result (Held × Stream) Errno} (Ok r.0) (Err fault) = sym r.1 ∙ f in cc)

          still : Tidy Same NoNumber (Some who) w own
          still = subst (Tidy Same NoNumber (Some who) w) (sym same) taken_tidy

          tidy : Tidy (Acts w call Leaving) NoNumber (Some who) w z
          tidy = tidy_met w (pend u who call) who (tidy_more w u (pend u who call) (tidy_more w said u (tidy_then w own said (join_acts w own call Leaving own_named) still begins) (tidy_heat said call b b)) (tidy_mode u who (with_mode (modes.Pending call)) refl))

          there : coroutine_of u who ≡ Some h.one
          there = ap (λ (x : World V). coroutine_of x who) (heat_besides said call b b).same ∙ ap (λ (x : World V). coroutine_of x who) (ask_stack_besides own call (λ random s. detach_start parting random s)).same ∙ own_found

          stacks : (l : ℕ) (x y : Link) → look w.links l ≡ Some x → x.closing ≡ false → look z.links l ≡ Some y → y.closing ≡ false → Acts w call Leaving l x.stack y.stack → Soft (Holds z queues l) x.stack y.stack ⊎ Fresh z New l y
          stacks l x y i c j d a = at (on_dec w call l)
            where
              fresh : On w call l → Fresh z New l y
              fresh o =
                  let q = a.0 o in
                  let k = h.fits.fits.solid l x i c in
                  let more = (leaves_apart call parting e).2 in
                  record {
                    solid = record {
                      standing = same_standing x.stack.layers y.stack.layers q.layers k.standing;
                      formed = same_formed x.stack.layers y.stack.layers q.layers k.formed;
                      broken = λ f. let bad : true ≡ false = sym f ∙ q.broken in cc;
                      expects = λ f. let bad : Leaves ≡ Expects = sym q.task ∙ f in cc;
                    };
                    sends = λ f. holding z queues tidy l y j d o more (still_pends u who call o.number h.one there o.named more);
                    expects = λ f. let bad : Leaves ≡ Expects = sym q.task ∙ f in cc;
                    alone = alone_new z is tidy l o takes_up;
                  }

              at : On w call l ⊎ (On w call l → ⊥) → Soft (Holds z queues l) x.stack y.stack ⊎ Fresh z New l y
              at (inl o) = inr (fresh o)
              at (inr off) = inl (soft_same (Holds z queues l) x.stack y.stack (a.1 off))

          fitting : (l : ℕ) (x y : Link) → On w call l → look w.links l ≡ Some x → Leaving x.stack y.stack → FitsCall call y
          fitting l x y o i q =
              let t = leaves_apart call parting e in
              record {
                receives = λ want f. absurd (some_none (asked call) want t.0 f);
                greets = λ f. absurd (true_false (shakes call) f t.1);
                leaves = λ other f. (
                  q.task,
                  let a = parting_top call parting x.stack.layers e (asks w who call l x h.free (ap (λ v. v || is_some (layer_of call)) (parting_on call parting e)) o i) in let b = same_length x.stack.layers y.stack.layers q.layers in omega (arith, a, b),
                );
              }

      giving_fits : meet_deadline (enter_giving_up k who call (draws_of call)) who ≡ done p w who view call → Fitted (meet_deadline (enter_giving_up k who call (draws_of call)) who)
      giving_fits is = at (given_up_at_once own who call) refl (parting_of call) refl is
        where
          at : (o : Option Errno) → given_up_at_once own who call ≡ o → (q : Option Parting) → parting_of call ≡ q
              → meet_deadline (if_some o (if_some q (pend (heat own call true true) who call) (begin_detach own who call)) (λ e. give_stack_up own who call e (draws_of call))) who ≡ done p w who view call
              → Fitted (meet_deadline (if_some o (if_some q (pend (heat own call true true) who call) (begin_detach own who call)) (λ e. give_stack_up own who call e (draws_of call))) who)
          at (Some e) f q g i = up_fits e i
          at None f None g i = close_fits g i
          at None f (Some parting) g i = detach_fits parting g f i

    -- ---- a layer is attached

    attach_fits : is_on_stack (word_of call) ≡ false → meet_deadline (enter_attach k who call) who ≡ done p w who view call → Fitted (meet_deadline (enter_attach k who call) who)
    attach_fits off is = at (named_by call) refl (layer_of call) refl is
      where
        Z : Option ℕ → Option Layer → World V
        Z o q = meet_deadline (reply (if_some o k (λ n. if_some q k (λ layer. move (put_layer k call layer) n who))) who (word_of call) (Number (next_number k))) who

        plain : meet_deadline (reply k who (word_of call) (Number (next_number k))) who ≡ done p w who view call → Fitted (meet_deadline (reply k who (word_of call) (Number (next_number k))) who)
        plain i =
            let v = reply k who (word_of call) (Number (next_number k)) in
            owes (meet_deadline v who) i (tidy_met w v who (tidy_more w k v kept (tidy_reply k who (word_of call) (Number (next_number k)) refl))) no_free
            (λ l x y j c m d s. inl (soft_same (Holds (meet_deadline v who) queues l) x.stack y.stack s)) (λ n l x y on o j m d b s. absurd (true_false (is_on_stack (word_of call)) on off))

        layered : (n : ℕ) → named_by call ≡ Some n → (layer : Layer) → layer_of call ≡ Some layer → (z : World V) → z ≡ meet_deadline (reply (move (put_layer k call layer) n who) who (word_of call) (Number (next_number k))) who → z ≡ done p w who view call → Fitted z
        layered n e layer f z this i = owes {T = λ m. named_by call ≡ Some m} z i tidy
            (λ other more m l ne q u g j t. let b = takes_in call m t takes in taken_alone w who call m other more l h.free b.0 b.1 j q g) stacks
            (λ m l x y on o j d c b s. absurd (true_false (is_on_stack (word_of call)) on off))
          where
            takes : (shakes call || (gives_up (word_of call) || is_some (layer_of call))) ≡ true
            takes = let s : is_some (layer_of call) ≡ true = ap is_some f in last (shakes call) (gives_up (word_of call)) (is_some (layer_of call)) s
              where
                last : (a b c : Bool) → c ≡ true → (a || (b || c)) ≡ true
                last true b c g = refl
                last false true c g = refl
                last false false c g = g

            R : Held → Held → Type 0
            R a b = Attached a b ⊎ (b ≡ a)

            put : World V
            put = put_layer k call layer

            layers : Tidy (Acts k call (λ a b. Attached a b ⊎ (b ≡ a))) (λ m. named_by call ≡ Some m) (Some who) k put
            layers = acts_ask k call (λ random s. with_random random (attach layer s)) (λ a b. Attached a b ⊎ (b ≡ a))
                (λ l x o j. (λ now g. inl (done_at_once x now (attach layer x.stack) refl g (layer_top call layer x.stack.layers f (asks w who call l x h.free (ap (λ b. is_on_stack (word_of call) || b) (ap is_some f) ∙ or_true (is_on_stack (word_of call))) (on_same k w call l (λ m. refl) o) j))), λ fault g. inr refl))
              where
                or_true : (b : Bool) → (b || true) ≡ true
                or_true true = refl
                or_true false = refl

                done_at_once : (x : Link) (now : Held × Stream) (r : Result Held Errno) → attach layer x.stack ≡ r → with_random k.random r ≡ Ok now → FitsBelow layer x.stack.layers → Attached x.stack now.0
                done_at_once x now (Ok t) g j b = subst (λ (q : Held × Stream). Attached x.stack q.0) (ok_is (t, k.random) now j) (attached layer x.stack t g b)
                done_at_once x now (Err fault) g j b = cc

            tidy : Tidy (Acts w call (λ a b. Attached a b ⊎ (b ≡ a))) (λ m. named_by call ≡ Some m) (Some who) w z
            tidy =
                let m = move put n who in
                let v = reply m who (word_of call) (Number (next_number k)) in
                subst (Tidy (Acts w call (λ a b. Attached a b ⊎ (b ≡ a))) (λ j. named_by call ≡ Some j) (Some who) w) (sym this)
                (tidy_met w v who (tidy_more w m v (tidy_more w put m (tidy_then w k put (join_acts w k call (λ a b. Attached a b ⊎ (b ≡ a)) (λ j. refl)) kept layers) (tidy_move put n who e)) (tidy_reply m who (word_of call) (Number (next_number k)) refl)))

            stacks : (l : ℕ) (x y : Link) → look w.links l ≡ Some x → x.closing ≡ false → look z.links l ≡ Some y → y.closing ≡ false → Acts w call (λ a b. Attached a b ⊎ (b ≡ a)) l x.stack y.stack → Soft (Holds z queues l) x.stack y.stack ⊎ Fresh z New l y
            stacks l x y j c m d a = at (on_dec w call l)
              where
                which : On w call l → Attached x.stack y.stack ⊎ (y.stack ≡ x.stack) → Soft (Holds z queues l) x.stack y.stack ⊎ Fresh z New l y
                which o (inr same) = inl (soft_same (Holds z queues l) x.stack y.stack same)
                which o (inl q) =
                    let quiet_now = quiet l x o j c (inr takes) in
                    inr (record {
                      solid = q.solid (h.fits.fits.solid l x j c);
                      sends = λ g. let bad : true ≡ false = sym (q.sent ∙ quiet_now.0) ∙ g in cc;
                      expects = λ g. absurd (quiet_now.1 (sym q.task ∙ g));
                      alone = alone_new z i tidy l o takes;
                    })

                at : On w call l ⊎ (On w call l → ⊥) → Soft (Holds z queues l) x.stack y.stack ⊎ Fresh z New l y
                at (inl o) = which o (a.0 o)
                at (inr out) = inl (soft_same (Holds z queues l) x.stack y.stack (a.1 out))

        at : (o : Option ℕ) → named_by call ≡ o → (q : Option Layer) → layer_of call ≡ q
            → meet_deadline (reply (if_some o k (λ n. if_some q k (λ layer. move (put_layer k call layer) n who))) who (word_of call) (Number (next_number k))) who ≡ done p w who view call
            → Fitted (meet_deadline (reply (if_some o k (λ n. if_some q k (λ layer. move (put_layer k call layer) n who))) who (word_of call) (Number (next_number k))) who)
        at None e q f i = plain i
        at (Some n) e None f i = plain i
        at (Some n) e (Some layer) f i = layered n e layer f _ refl i

    -- ---- the call

    off_stack : (a b c d : Bool) → a ≡ false → b ≡ false → c ≡ false → d ≡ false → (a || (b || (d || c))) ≡ false
    off_stack true b c d e f g j = cc
    off_stack false true c d e f g j = cc
    off_stack false false c true e f g j = cc
    off_stack false false true false e f g j = cc
    off_stack false false false false e f g j = refl

    linked_fits : meet_deadline (perform_on_link k who call) who ≡ done p w who view call → Fitted (meet_deadline (perform_on_link k who call) who)
    linked_fits is = at (is_send (word_of call)) refl (is_receive (word_of call)) refl (gives_up (word_of call)) refl (links (word_of call)) refl (is_handshake (word_of call)) refl is
      where
        at : (s : Bool) → is_send (word_of call) ≡ s → (r : Bool) → is_receive (word_of call) ≡ r → (t : Bool) → gives_up (word_of call) ≡ t → (l : Bool) → links (word_of call) ≡ l → (j : Bool) → is_handshake (word_of call) ≡ j
            → meet_deadline (if s then enter_send k who call else (if r then enter_receive k who call else (if t then enter_giving_up k who call (draws_of call) else (if l then enter_link k who call else (if j then enter_handshake k who call else enter_attach k who call))))) who ≡ done p w who view call
            → Fitted (meet_deadline (if s then enter_send k who call else (if r then enter_receive k who call else (if t then enter_giving_up k who call (draws_of call) else (if l then enter_link k who call else (if j then enter_handshake k who call else enter_attach k who call))))) who)
        at true se r re t te l le j je i = send_fits se i
        at false se true re t te l le j je i = receive_fits re i
        at false se false re true te l le j je i = giving_fits te i
        at false se false re false te true le j je i = link_fits le i
        at false se false re false te false le true je i = handshake_fits je (λ l x o f. handshake_free w who call l x h.free te o f) i
        at false se false re false te false le false je i = attach_fits (off_stack (is_send (word_of call)) (is_receive (word_of call)) (gives_up (word_of call)) (is_handshake (word_of call)) se re te je) i

    pub done_fits : Fitted (done p w who view call)
    done_fits = at (performs p k who view call h.meets) refl
      where
        at : {v : World V} → Performs k who call v → meet_deadline v who ≡ done p w who view call → Fitted (meet_deadline v who)
        at linked i = linked_fits i
        at {v} (elsewhere off t) i = elsewhere_fits v i off t
