-- A turn adds one pending call at most, the one that is entered; and it is refused where another looks at its stack.
use Rattle.std.proofs.Common.{◌≡◌, ◌∙◌, ◌⊎◌, inl, inr, ℕ, ◌+◌, ◌≤◌, ◌==◌, List, [], ◌∷◌, ◌++◌, find, cond, Bool, true, false, not, ◌&&◌, ◌||◌, Option, Some, None, if◌then◌else◌, refl, sym, ap, subst, arith}
use Rattle.std.specs.Prelude.{filter, is_none}
use Rattle.std.specs.List.{list_any}
use Rattle.std.specs.Option.{option_to_list}
use Rattle.std.specs.Prelude.{Result}
use Rattle.std.proofs.lemmas.Bool.{or_parts, and_parts}
use Rattle.rand_core.specs.Stream.{Stream}
use Rattle.dill_base.specs.declared.errno.Errno.{Errno}
use Rattle.dill_base.specs.declared.errno.Errno.TheVariants as errnos
use Rattle.dill_calls.specs.declared.answer.Answer.{Answer}
use Rattle.dill_calls.specs.declared.answer.Answer.TheVariants.{Fault, Number}
use Rattle.dill_calls.specs.declared.call.Call.{Call}
use Rattle.dill_calls.specs.declared.call.Call.TheVariants as calls
use Rattle.dill_calls.specs.declared.lists.Arg.{Arg}
use Rattle.dill_calls.specs.declared.lists.Clause.{Clause}
use Rattle.dill_calls.specs.declared.word.Word.{Word}
use Rattle.dill_calls.specs.declared.word.Word.TheVariants as words
use Rattle.dill_calls.specs.CallTable.{word_of, named_by, blocks, takes, gives_up, takes_memory, build_takes_memory, is_hclose}
use Rattle.dill_calls.specs.declared.ran.LackPlace.{LackPlace}
use Rattle.dill_calls.specs.Program.{Program, Move, Calls, Ends}
use Rattle.dill_chan.specs.declared.end.Want.TheVariants.{Send}
use Rattle.dill_chan.specs.declared.meeting.Meeting.{Meeting}
use Rattle.dill_chan.specs.declared.meeting.Meeting.TheVariants as meetings
use Rattle.dill_chan.specs.Channels as channels
use Rattle.dill_chan.specs.Meetings.{has_ended}
use Rattle.dill_handles.specs.Handles as handles
use Rattle.dill_handles.specs.Handles.{Handles}
use Rattle.dill_handles.specs.declared.entry.Entry.{Entry}
use Rattle.dill_base.specs.Maps.{if_some, change}
use Rattle.dill_stack.specs.declared.layer.Layer.{Layer}
use Rattle.dill_stack.specs.declared.parting.Parting.{Parting}
use Rattle.dill_stack.specs.Interface.{Held, attach, detach_start}
use Rattle.dill_rules.specs.declared.coroutine.Coroutine.{Coroutine}
use Rattle.dill_rules.specs.declared.coroutine.Mode.TheVariants as modes
use Rattle.dill_rules.specs.declared.thing.Thing.{Thing}
use Rattle.dill_rules.specs.declared.thing.Thing.TheVariants as things
use Rattle.dill_rules.specs.World.{World, is_coroutine, coroutine_of, call_of, with_mode, reply, pend, begin, pending_call}
use Rattle.dill_rules.specs.Links as link
use Rattle.dill_rules.specs.Naming.{links, draws_of, gifts_of, gifts, chosen, taken_by}
use Rattle.dill_rules.specs.Kinds.{value_of, is_dead, names_dead}
use Rattle.dill_rules.specs.Owning.{entry_of, take_thing, take, move, release, close_bundle}
use Rattle.dill_rules.specs.Taking.{is_on, is_alone_on, is_pending, bundle_of, bundle_named, cannot_take, is_within, is_held_back, is_awaited, is_cancelled_taker, is_occupied}
use Rattle.dill_rules.specs.Answers.{end_named}
use Rattle.dill_rules.specs.Directions.{is_send, is_receive, is_handshake, layer_of, parting_of}
use Rattle.dill_rules.specs.LinkAnswers.{is_on_stack, reads}
use Rattle.dill_rules.specs.Sockets.{link_of}
use Rattle.dill_rules.specs.Linking.{with_random, greet_by, ask_stack, heat, reserve, queue, enter_send, enter_receive, enter_link, put_layer, attach_layer, enter_attach, given_up_at_once, give_stack_up, begin_detach, dropped_for, enter_giving_up, enter_handshake}
use Rattle.dill_rules.specs.Channeling.{without_bytes, done_at, clauses_of, answer_clause, clause_answer, meet, wait_at, wait_all, first_done, enter_channel}
use Rattle.dill_rules.specs.Effects.{make, add_bundle, close_thing, start, give_all, told, bear, next_number, passed_answer}
use Rattle.dill_rules.specs.Entering.{keep_for, perform_on_link, perform, is_too_late, late_answer, meet_deadline, done, enter, entered, lack_fault}
use Rattle.dill_rules.specs.Turning.{is_build, is_entry, as_running, may_lack_build, resume, answer_given, move_of, make_move, lack_move, go_on, turn}
use Rattle.dill_rules.specs.Refusals.{holds, is_accept, is_second, is_in_use, is_busy, is_closed_bundle, is_refused_by_stack, order, giving_order, refuse}
use Rattle.dill_rules.specs.Settling.{close_owned, close_all, end, settle}
use Rattle.laws_queue.specs.Well.{bit}
use Rattle.laws_queue.proofs.Besides.{heat_besides, ready_besides, ask_stack_besides, queue_besides, dropped_besides}
use Rattle.laws_queue.proofs.Crew.{take_thing_crew}
use Rattle.laws_sound.specs.Orderly.{weigh}
use Rattle.laws_sound.proofs.Counting.{weigh_push, weigh_without}
use Rattle.laws_sound.proofs.Noting.{take_handles}
use Rattle.laws_looks.specs.Readers.{In, Pends, reads_on, LooksApart}
use Rattle.laws_looks.proofs.Lists.{itself, equal_is, some_same, true_false, reads_parts, both_true, in_change, in_push, find_none, none_passes}
use Rattle.laws_looks.proofs.Stays.{Stays, stays_same, stays_then, stays_kept, heat_stays, ready_stays, ask_stays, queue_stays, dropped_stays}
use Rattle.laws_looks.proofs.Beside.{AnyCall, Beside, not_beside, some_beside, each_beside, retire_beside}
use Rattle.laws_looks.proofs.Fewer.{links_to, not_pending, weigh_linked, Fewer, pends_same, fewer_parts, fewer_same, fewer_not, fewer_then, fewer_besides, fewer_some, fewer_if, fewer_each, fewer_change, fewer_set, fewer_reply, replied, fewer_release, take_links, fewer_move, fewer_up, fewer_settle, fewer_apart}

owners_weigh : (l number owner : ℕ) (es : List (Entry Thing)) → weigh (links_to l) (change (handles.is_entry number) (handles.with_owner owner) es) ≡ weigh (links_to l) es
owners_weigh l number owner [] = refl
owners_weigh l number owner (x ∷ es) = at (handles.is_entry number x) (owners_weigh l number owner es)
  where
    at : (b : Bool) → weigh (links_to l) (change (handles.is_entry number) (handles.with_owner owner) es) ≡ weigh (links_to l) es → weigh (links_to l) (cond b (handles.with_owner owner x ∷ es) (x ∷ change (handles.is_entry number) (handles.with_owner owner) es)) ≡ links_to l x + weigh (links_to l) es
    at true e = refl
    at false e = ap (λ k. links_to l x + k) e

-- ---- what a call adds

-- who enters is pending in its call, or in one that is on no stack
abbrev pub AsEntered : ℕ → Call → ℕ → Call → Type 0
AsEntered who call other more = (other ≡ who) × ((more ≡ call) ⊎ (is_on_stack (word_of more) ≡ false))

module _ {V : Type 0} where
  -- who is pending was so before, or is the caller in its call
  pub record Enters (w : World V) (who : ℕ) (call : Call) (v : World V) : Type 0 where
    pub calls : (other : ℕ) (more : Call) → Pends v other more → Pends w other more ⊎ AsEntered who call other more
    pub links : (l : ℕ) → weigh (links_to l) v.handles.entries ≤ weigh (links_to l) w.handles.entries
    pub stays : Stays w.links v.links

  fewer_enters : (w : World V) (who : ℕ) (call : Call) (v : World V) → Fewer w v → Enters w who call v
  fewer_enters w who call v f = record { calls = λ other more e. inl (f.calls other more e); links = f.links; stays = f.stays }

  enters_then : (w : World V) (who : ℕ) (call : Call) (u v : World V) → Enters w who call u → Fewer u v → Enters w who call v
  enters_then w who call u v a b = record {
    calls = λ other more e. a.calls other more (b.calls other more e);
    links = λ l. let x = a.links l in let y = b.links l in omega (arith, x, y);
    stays = stays_then w.links u.links v.links a.stays b.stays;
  }

  fewer_first : (w : World V) (who : ℕ) (call : Call) (u v : World V) → Fewer w u → Enters u who call v → Enters w who call v
  fewer_first w who call u v a b = record {
    calls = λ other more e. at other more (b.calls other more e);
    links = λ l. let x = a.links l in let y = b.links l in omega (arith, x, y);
    stays = stays_then w.links u.links v.links a.stays b.stays;
  }
    where
      at : (other : ℕ) (more : Call) → Pends u other more ⊎ AsEntered who call other more → Pends w other more ⊎ AsEntered who call other more
      at other more (inl e) = inl (a.calls other more e)
      at other more (inr e) = inr e

  -- it is pending in a call, or in that call without the bytes that it sends
  pends_as : (w : World V) (who : ℕ) (call its : Call) (u : World V) → ((its ≡ call) ⊎ (is_on_stack (word_of its) ≡ false)) → Fewer w u → Enters w who call (pend u who its)
  pends_as w who call its u same f = fewer_first w who call u (pend u who its) f (record { calls = λ other more p. at other more p (in_change (is_coroutine who) (with_mode (modes.Pending its)) u.coroutines p.one p.there); links = λ l. omega arith; stays = stays_same u.links })
    where
      here : (more : Call) → its ≡ more → ((its ≡ call) ⊎ (is_on_stack (word_of its) ≡ false)) → (more ≡ call) ⊎ (is_on_stack (word_of more) ≡ false)
      here more is (inl e) = inl (sym is ∙ e)
      here more is (inr e) = inr (ap (λ c. is_on_stack (word_of c)) (sym is) ∙ e)

      at : (other : ℕ) (more : Call) (p : Pends (pend u who its) other more) → In p.one u.coroutines ⊎ ((c : Coroutine V) × (is_coroutine who c ≡ true) × (p.one ≡ with_mode (modes.Pending its) c)) → Pends u other more ⊎ AsEntered who call other more
      at other more p (inl i) = inl (record { one = p.one; there = i; number = p.number; mode = p.mode })
      at other more p (inr r) =
          let mode : ◌≡◌ {A = Option Call} (Some its) (Some more) = ap (λ (c : Coroutine V). pending_call c.mode) (sym r.2) ∙ p.mode in
          inr (sym p.number ∙ ap (λ (c : Coroutine V). c.number) r.2 ∙ equal_is r.0.number who r.1, here more (some_same (Some its) its more refl mode) same)

  enters_pend : (w : World V) (who : ℕ) (call : Call) (u : World V) → Fewer w u → Enters w who call (pend u who call)
  enters_pend w who call u f = pends_as w who call call u (inl refl) f

  enters_reply : (w : World V) (who : ℕ) (call : Call) (u : World V) (word : Word) (answer : Answer) → Fewer w u → Enters w who call (reply u who word answer)
  enters_reply w who call u word answer f = fewer_enters w who call (reply u who word answer) (replied w u who word answer f)

  enters_some : {A : Type 0} (w : World V) (who : ℕ) (call : Call) (o : Option A) (f : A → World V) → ((a : A) → Enters w who call (f a)) → Enters w who call (if_some o w f)
  enters_some w who call None f h = fewer_enters w who call w (fewer_not w)
  enters_some w who call (Some a) f h = h a

  enters_if : (w : World V) (who : ℕ) (call : Call) (b : Bool) (u v : World V) → Enters w who call u → Enters w who call v → Enters w who call (if b then u else v)
  enters_if w who call true u v e f = e
  enters_if w who call false u v e f = f

  fewer_make : (w : World V) (thing : Thing) (owner : ℕ) → link_of thing ≡ None → Fewer w (make w thing owner)
  fewer_make w thing owner e = record { calls = pends_same w (make w thing owner) refl; links = at; stays = stays_same w.links }
    where
      new : Entry Thing
      new = record { number = handles.next_number w.handles; thing = thing; owner = owner }

      at : (l : ℕ) → weigh (links_to l) (w.handles.entries ++ new ∷ []) ≤ weigh (links_to l) w.handles.entries
      at l =
          let p = weigh_push (links_to l) w.handles.entries new in
          let q : links_to l new ≡ 0 = ap (λ o. bit (if_some o false (λ m. m == l))) e in
          omega (arith, p, q)

  fewer_bundle : (w : World V) (who : ℕ) → Fewer w (add_bundle w who)
  fewer_bundle w who =
      let made = make w (things.Bundle (w.last_bundle + 1)) who in
      fewer_then w made (add_bundle w who) (fewer_make w (things.Bundle (w.last_bundle + 1)) who refl) (fewer_same made (add_bundle w who) refl refl refl)

  fewer_closing : (w : World V) (who name number : ℕ) → Fewer w (close_bundle w who name number)
  fewer_closing w who name number = record { calls = pends_same w (close_bundle w who name number) refl; links = λ l. weigh_without (links_to l) (handles.is_entry number) w.handles.entries; stays = stays_same w.links }

  pub fewer_take : (w : World V) (number owner : ℕ) → Fewer w (take w number owner)
  fewer_take w number owner =
      fewer_some (entry_of w number) w (λ x. take_thing (record w { handles = handles.set_owner w.handles number owner }) x.thing owner)
      (λ x. let less : World V = record w { handles = handles.set_owner w.handles number owner } in
      record {
        calls = pends_same w (take_thing less x.thing owner) (take_thing_crew less x.thing owner).coroutines;
        links = λ l. subst (λ (h : Handles Thing). weigh (links_to l) h.entries ≤ weigh (links_to l) w.handles.entries) (sym (take_handles less x.thing owner)) (let s = owners_weigh l number owner w.handles.entries in omega (arith, s));
        stays = subst (Stays w.links) (sym (take_links less x.thing owner)) (stays_same w.links);
      })

  fewer_bear : (w : World V) (view : V) (home : ℕ) → Fewer w (bear w view home)
  fewer_bear w view home = record { calls = λ who call p. at who call p (in_push w.coroutines child p.one p.there); links = λ l. omega arith; stays = stays_same w.links }
    where
      child : Coroutine V
      child = record { number = w.last_coroutine + 1; body = view; mode = modes.Fresh words.Start (Number 0) }

      at : (who : ℕ) (call : Call) (p : Pends (bear w view home) who call) → In p.one w.coroutines ⊎ (p.one ≡ child) → Pends w who call
      at who call p (inl i) = record { one = p.one; there = i; number = p.number; mode = p.mode }
      at who call p (inr same) = absurd (not_pending p.one child call refl same p.mode)

  fewer_start : (p : Program V) (w : World V) (view : V) (home program : ℕ) (args : List Arg) → Fewer w (start p w view home program args)
  fewer_start p w view home program args =
      let g = give_all w (gifts_of args) (w.last_coroutine + 1) in
      fewer_then w g (start p w view home program args) (fewer_each (λ now number. move now number (w.last_coroutine + 1)) (gifts_of args) w (λ v n. fewer_move v n (w.last_coroutine + 1))) (fewer_bear g (p.child view program (told (next_number w) args)) home)

  fewer_wait : (xs : List Clause) (w : World V) (who index : ℕ) → Fewer w (wait_all w who index xs)
  fewer_wait [] w who index = fewer_not w
  fewer_wait (x ∷ xs) w who index = fewer_then w (wait_at w who index x) (wait_all (wait_at w who index x) who (index + 1) xs) (fewer_some (end_named w _) w _ (λ end. fewer_same w _ refl refl refl)) (fewer_wait xs (wait_at w who index x) who (index + 1))

  enters_meet : (w : World V) (who : ℕ) (call : Call) (index : ℕ) (m : Meeting) → Enters w who call (meet w who call index m)
  enters_meet w who call index (meetings.Met x) = enters_reply w who call (answer_clause w x.other x.clause x.others) (word_of call) (clause_answer call index x.answer) (fewer_some (call_of w x.other) w (λ d. reply w x.other (word_of d) (clause_answer d x.clause x.others)) (λ d. fewer_reply w x.other (word_of d) (clause_answer d x.clause x.others)))
  enters_meet w who call index meetings.Ended = enters_reply w who call w (word_of call) (clause_answer call index (Fault errnos.Epipe)) (fewer_not w)
  enters_meet w who call index meetings.Waits = fewer_enters w who call w (fewer_not w)

  enters_channel : (w : World V) (who : ℕ) (call : Call) → is_on_stack (word_of (without_bytes call)) ≡ false → Enters w who call (enter_channel w who call)
  enters_channel w who call off = at (first_done w who 0 (clauses_of call))
    where
      waits : World V
      waits = pend w who (without_bytes call)

      at : (o : Option (ℕ × Meeting)) → Enters w who call (if_some o (wait_all waits who 0 (clauses_of call)) (λ x. meet w who call x.0 x.1))
      at None = enters_then w who call waits (wait_all waits who 0 (clauses_of call)) (pends_as w who call (without_bytes call) w (inr off) (fewer_not w)) (fewer_wait (clauses_of call) waits who 0)
      at (Some x) = enters_meet w who call x.0 x.1

  enters_close : (w : World V) (who number : ℕ) (thing : Thing) → Enters w who (calls.Hclose number) (close_thing w who number thing)
  enters_close w who number (things.Bundle name) = enters_pend w who (calls.Hclose number) (close_bundle w who name number) (fewer_closing w who name number)
  enters_close w who number (things.End end) = enters_reply w who (calls.Hclose number) (release w number) words.Hclose (Number 0) (fewer_release w number)
  enters_close w who number (things.Listener l) = enters_reply w who (calls.Hclose number) (release w number) words.Hclose (Number 0) (fewer_release w number)
  enters_close w who number (things.Socket l) = enters_reply w who (calls.Hclose number) (release w number) words.Hclose (Number 0) (fewer_release w number)
  enters_close w who number (things.Value kind value) = enters_reply w who (calls.Hclose number) (release w number) words.Hclose (Number 0) (fewer_release w number)

  -- ---- calls on links

  pub taken_by_call : (w : World V) (who : ℕ) (call : Call) → Fewer w (if_some (named_by call) w (λ number. take w number who))
  taken_by_call w who call = fewer_some (named_by call) w (λ number. take w number who) (λ number. fewer_take w number who)

  fewer_heat : (w : World V) (call : Call) (read write : Bool) → Fewer w (heat w call read write)
  fewer_heat w call read write = fewer_besides w (heat w call read write) (heat_besides w call read write) (heat_stays w call read write)

  fewer_asked : (w : World V) (call : Call) (f : Stream → Held → Result (Held × Stream) Errno) → Fewer w (ask_stack w call f)
  fewer_asked w call f = fewer_besides w (ask_stack w call f) (ask_stack_besides w call f) (ask_stays w call f)

  enters_giving : (w : World V) (who : ℕ) (call : Call) (count : ℕ) → Enters w who call (enter_giving_up w who call count)
  enters_giving w who call count =
      let taken = if_some (named_by call) w (λ number. take w number who) in
      let own = dropped_for taken call in
      at own (fewer_then w taken own (taken_by_call w who call) (fewer_besides taken own (dropped_besides taken call) (dropped_stays taken call))) (given_up_at_once own who call) (parting_of call)
    where
      at : (own : World V) → Fewer w own → (o : Option Errno) (q : Option Parting) → Enters w who call (if_some o (if_some q (pend (heat own call true true) who call) (begin_detach own who call)) (λ e. give_stack_up own who call e count))
      at own f None None = enters_pend w who call (heat own call true true) (fewer_then w own (heat own call true true) f (fewer_besides own (heat own call true true) (heat_besides own call true true) (heat_stays own call true true)))
      at own f None (Some parting) =
          let b = blocks (word_of call) in
          let asked = ask_stack own call (λ random s. detach_start parting random s) in
          enters_pend w who call (heat asked call b b) (fewer_then w own (heat asked call b b) f (fewer_then own asked (heat asked call b b) (fewer_asked own call (λ random s. detach_start parting random s)) (fewer_heat asked call b b)))
      at own f (Some e) q = fewer_enters w who call (give_stack_up own who call e count) (fewer_up w own who call e count f)

  enters_link : (w : World V) (who : ℕ) (call : Call) → Enters w who call (perform_on_link w who call)
  enters_link w who call =
      let word = word_of call in
      let hot = heat w call false true in
      let kept : World V = record w { links = link.keep w.links } in
      let taken = if_some (named_by call) w (λ number. take w number who) in
      let asked = ask_stack taken call (greet_by call) in
      enters_if w who call (is_send word) (enter_send w who call) _ (enters_pend w who call (queue hot call) (fewer_then w hot (queue hot call) (fewer_heat w call false true) (fewer_besides hot (queue hot call) (queue_besides hot call) (queue_stays hot call))))
      (enters_if w who call (is_receive word) (enter_receive w who call) _ (enters_pend w who call (heat (reserve w call) call true false) (fewer_besides w (heat (reserve w call) call true false) (ready_besides w call) (ready_stays w call)))
      (enters_if w who call (gives_up word) (enter_giving_up w who call (draws_of call)) _ (enters_giving w who call (draws_of call))
      (enters_if w who call (links word) (enter_link w who call) _ (enters_pend w who call (heat kept call true false) (fewer_then w kept (heat kept call true false) (fewer_parts w kept refl refl (stays_kept w.links (link.keep w.links).kept)) (fewer_heat kept call true false)))
      (enters_if w who call (is_handshake word) (enter_handshake w who call) (enter_attach w who call)
      (enters_pend w who call (heat asked call true true) (fewer_then w taken (heat asked call true true) (taken_by_call w who call) (fewer_then taken asked (heat asked call true true) (fewer_asked taken call (greet_by call)) (fewer_heat asked call true true))))
      (enters_reply w who call (attach_layer w who call) word (Number (next_number w)) attached)))))
    where
      attached : Fewer w (attach_layer w who call)
      attached = fewer_some (named_by call) w (λ number. if_some (layer_of call) w (λ layer. move (put_layer w call layer) number who))
          (λ number. fewer_some (layer_of call) w (λ layer. move (put_layer w call layer) number who)
          (λ layer. fewer_then w (put_layer w call layer) (move (put_layer w call layer) number who) (fewer_asked w call (λ random s. with_random random (attach layer s))) (fewer_move (put_layer w call layer) number who)))

  module _ (p : Program V) where
    perform_enters : (w : World V) (who : ℕ) (view : V) (call : Call) → Enters w who call (perform p w who view call)
    perform_enters w who view (calls.Print text) = enters_reply w who _ w words.Print (Number 0) (fewer_not w)
    perform_enters w who view calls.Now = enters_reply w who _ w words.Now (Number w.moment) (fewer_not w)
    perform_enters w who view calls.Yield = enters_reply w who _ w words.Yield (Number 0) (fewer_not w)
    perform_enters w who view (calls.Msleep deadline) = enters_pend w who (calls.Msleep deadline) w (fewer_not w)
    perform_enters w who view (calls.BundleWait number deadline) = enters_pend w who (calls.BundleWait number deadline) w (fewer_not w)
    perform_enters w who view (calls.Pass word fault) = enters_reply w who _ w word (passed_answer fault) (fewer_not w)
    perform_enters w who view (calls.Hmake kind value) = enters_reply w who _ (make w (things.Value kind value) who) words.Hmake (Number (next_number w)) (fewer_make w (things.Value kind value) who refl)
    perform_enters w who view (calls.Hquery number kind) = enters_some w who _ (entry_of w number) (λ x. reply w who words.Hquery (Number (value_of x.thing))) (λ x. enters_reply w who _ w words.Hquery (Number (value_of x.thing)) (fewer_not w))
    perform_enters w who view (calls.Hown number) = enters_reply w who _ (move w number who) words.Hown (Number (next_number w)) (fewer_move w number who)
    perform_enters w who view (calls.Hclose number) = enters_some w who (calls.Hclose number) (entry_of w number) (λ x. close_thing w who number x.thing) (λ x. enters_close w who number x.thing)
    perform_enters w who view calls.Bundle = enters_reply w who _ (add_bundle w who) words.Bundle (Number (next_number w)) (fewer_bundle w who)
    perform_enters w who view (calls.Go program args) =
        let made = add_bundle w who in
        enters_reply w who _ (start p made view (w.last_bundle + 1) program args) words.Go (Number (next_number w)) (fewer_then w made (start p made view (w.last_bundle + 1) program args) (fewer_bundle w who) (fewer_start p made view (w.last_bundle + 1) program args))
    perform_enters w who view (calls.BundleGo number program args) =
        enters_some w who _ (bundle_named w number) (λ home. reply (start p w view home program args) who words.BundleGo (Number 0)) (λ home. enters_reply w who _ (start p w view home program args) words.BundleGo (Number 0) (fewer_start p w view home program args))
    perform_enters w who view calls.Chmake =
        let ends = channels.next_ends w.channels in
        let c : World V = record w { channels = channels.make w.channels } in
        let one = make c (things.End ends.0) who in
        let two = make one (things.End ends.1) who in
        enters_reply w who _ two words.Chmake _ (fewer_then w c two (fewer_same w c refl refl refl) (fewer_then c one two (fewer_make c (things.End ends.0) who refl) (fewer_make one (things.End ends.1) who refl)))
    perform_enters w who view (calls.Chsend number bytes deadline) = enters_channel w who (calls.Chsend number bytes deadline) refl
    perform_enters w who view (calls.Chrecv number size deadline) = enters_channel w who (calls.Chrecv number size deadline) refl
    perform_enters w who view (calls.Choose deadline all) = enters_channel w who (calls.Choose deadline all) refl
    perform_enters w who view (calls.Chdone number) =
        enters_some w who _ (end_named w number) (done_at w who)
        (λ x. enters_if w who _ (has_ended w.channels x (Send [])) (reply w who words.Chdone (Fault errnos.Epipe)) (reply (record w { channels = channels.done w.channels x }) who words.Chdone (Number 0))
        (enters_reply w who _ w words.Chdone (Fault errnos.Epipe) (fewer_not w)) (enters_reply w who _ (record w { channels = channels.done w.channels x }) words.Chdone (Number 0) (fewer_same w _ refl refl refl)))
    perform_enters w who view call = enters_link w who call

  pub fewer_met : (w : World V) (who : ℕ) → Fewer w (meet_deadline w who)
  fewer_met w who = fewer_some (call_of w who) w (λ c. if is_too_late w who c then reply w who (word_of c) (late_answer c) else w) (λ c. fewer_if (is_too_late w who c) w _ w (fewer_reply w who (word_of c) (late_answer c)) (fewer_not w))

-- What a turn does: its coroutine goes on and nobody more is pending, or its call is done.
pub data Turns {V : Type 0} (p : Program V) (b : World V) (who : ℕ) : World V → Type 0 where
  over : (view : V) {v : World V} → Fewer (resume b who view) v → Beside AnyCall b v → Turns p b who v
  does : (view : V) (call : Call) → refuse p (resume b who view) who view call ≡ None → Turns p b who (done p (resume b who view) who view call)

-- ---- what a call isn't refused for

record NotBusy (f : Errno → Bool) : Type 0 where
  dead : f errnos.Ebadf ≡ false
  busy : f errnos.Ebusy ≡ false

not_busy : (f : Errno → Bool) (b : Bool) → find f (if b then giving_order else order) ≡ None → NotBusy f
not_busy f true e = record { dead = find_none f giving_order e errnos.Ebadf (inl refl); busy = find_none f giving_order e errnos.Ebusy (inr (inr (inr (inl refl)))) }
not_busy f false e = record { dead = find_none f order e errnos.Ebadf (inr (inl refl)); busy = find_none f order e errnos.Ebusy (inr (inr (inr (inr (inl refl))))) }

and_two : (a b : Bool) → a ≡ true → (a && b) ≡ false → b ≡ false
and_two true b e f = f
and_two false b e f = cc

not_and : (a b : Bool) → a ≡ false → (not a && b) ≡ false → b ≡ false
not_and true b e f = cc
not_and false b e f = f

reader_class : (a b c : Bool) → ((a || (b || c)) && not a) ≡ true → (b ≡ true) ⊎ (c ≡ true)
reader_class true b c e = cc
reader_class false true c e = inl refl
reader_class false false true e = inr refl
reader_class false false false e = cc

named_from : (o : Option ℕ) (n : ℕ) → if_some o false (λ m. m == n) ≡ true → o ≡ Some n
named_from None n e = cc
named_from (Some m) n e = ap Some (equal_is m n e)

-- the number that a handshake, a detach, `tcp_close` or an attach takes
pub record TakesIt (call : Call) (n : ℕ) : Type 0 where
  taken : taken_by call ≡ n ∷ []
  closes : is_hclose (word_of call) ≡ false
  takes_it : takes (word_of call) ≡ true

one_of : (m n : ℕ) → ◌≡◌ {A = Option ℕ} (Some m) (Some n) → m ∷ [] ≡ n ∷ []
one_of m n e = cc

pub takes_it : (call : Call) (n : ℕ) → named_by call ≡ Some n → (is_handshake (word_of call) || gives_up (word_of call)) ≡ true → TakesIt call n
takes_it (calls.TcpClose m deadline) n e f = record { taken = one_of m n e; closes = refl; takes_it = refl }
takes_it (calls.PrefixDetach m) n e f = record { taken = one_of m n e; closes = refl; takes_it = refl }
takes_it (calls.SuffixDetach m) n e f = record { taken = one_of m n e; closes = refl; takes_it = refl }
takes_it (calls.TermDetach m deadline) n e f = record { taken = one_of m n e; closes = refl; takes_it = refl }
takes_it (calls.HttpDetach m deadline) n e f = record { taken = one_of m n e; closes = refl; takes_it = refl }
takes_it (calls.WsDetach m code reason deadline) n e f = record { taken = one_of m n e; closes = refl; takes_it = refl }
takes_it (calls.WsAttachClient m text resource host deadline) n e f = record { taken = one_of m n e; closes = refl; takes_it = refl }
takes_it (calls.WsAttachServer m text deadline) n e f = record { taken = one_of m n e; closes = refl; takes_it = refl }
takes_it call n e f = cc

pub layer_takes : (call : Call) (n : ℕ) (layer : Layer) → named_by call ≡ Some n → layer_of call ≡ Some layer → TakesIt call n
layer_takes (calls.PrefixAttach m size big) n layer e f = record { taken = one_of m n e; closes = refl; takes_it = refl }
layer_takes (calls.SuffixAttach m bytes) n layer e f = record { taken = one_of m n e; closes = refl; takes_it = refl }
layer_takes (calls.TermAttach m bytes) n layer e f = record { taken = one_of m n e; closes = refl; takes_it = refl }
layer_takes (calls.HttpAttach m) n layer e f = record { taken = one_of m n e; closes = refl; takes_it = refl }
layer_takes (calls.WsAttachNohttp m client text) n layer e f = record { taken = one_of m n e; closes = refl; takes_it = refl }
layer_takes call n layer e f = cc

is_on_named : (call : Call) (n : ℕ) → named_by call ≡ Some n → is_on n call ≡ true
is_on_named call n e = ap (λ o. list_any (λ m. m == n) (option_to_list o ++ gifts call ++ chosen call)) e ∙ ap (λ b. b || list_any (λ m. m == n) (gifts call ++ chosen call)) (itself n)

-- by what class it looks
pub by_class : (call : Call) → reads call ≡ true → (is_receive (word_of call) ≡ true) ⊎ ((is_handshake (word_of call) || gives_up (word_of call)) ≡ true)
by_class call e = reader_class (is_send (word_of call)) (is_receive (word_of call)) (is_handshake (word_of call) || gives_up (word_of call)) e

send_reads : (a b : Bool) → a ≡ true → (b && not a) ≡ true → ⊥
send_reads true true e f = cc
send_reads true false e f = cc
send_reads false b e f = cc

module _ {V : Type 0} where
  not_awaited : (w : World V) (test : Call → Bool) (other : ℕ) (more : Call) → is_pending w test ≡ false → Pends w other more → test more ≡ false
  not_awaited w test other more e p = ap (λ q. if_some q false test) (sym p.mode) ∙ none_passes (λ (d : Coroutine V). if_some (pending_call d.mode) false test) w.coroutines e p.one p.there

  -- what it isn't refused for beside another pending call on its number
  pub record Fit (w : World V) (call : Call) : Type 0 where
    pub live : (n : ℕ) → named_by call ≡ Some n → is_dead w n ≡ false
    pub taker : (n other : ℕ) (more : Call) → Pends w other more → TakesIt call n → named_by call ≡ Some n → named_by more ≡ Some n → ⊥
    pub occupied : (n other : ℕ) (more : Call) → Pends w other more → named_by call ≡ Some n → named_by more ≡ Some n → reads more ≡ true → (is_handshake (word_of more) || gives_up (word_of more)) ≡ true → ⊥
    second : (n other : ℕ) (more : Call) → Pends w other more → named_by call ≡ Some n → named_by more ≡ Some n → is_receive (word_of call) ≡ true → is_receive (word_of more) ≡ true → ⊥

  enters_apart : (w : World V) (who : ℕ) (call : Call) (v : World V) → LooksApart w → Fit w call → Enters w who call v → LooksApart v
  enters_apart w who call v a fit h = record {
    readers = λ n one two c d e f r s. at n one two c d r s (h.calls one c e) (h.calls two d f);
    sends = λ n one two c d e f k m s. beside n one two c d k m s (h.calls one c e) (h.calls two d f);
    rising = h.stays.rising a.rising;
    named = λ l. let x = h.links l in let y = a.named l in let p = weigh_linked w l in let q = weigh_linked v l in let same = ap bit (h.stays.names l) in omega (arith, x, y, p, q, same);
  }
    where
      parts : (n : ℕ) (c : Call) → reads_on n c ≡ true → (reads c ≡ true) × (named_by c ≡ Some n)
      parts n c r = let b = and_parts (reads c) (if_some (named_by c) false (λ m. m == n)) r in (b.0, named_from (named_by c) n b.1)

      its : (c : Call) → is_on_stack (word_of c) ≡ true → (c ≡ call) ⊎ (is_on_stack (word_of c) ≡ false) → c ≡ call
      its c on (inl e) = e
      its c on (inr e) = absurd (true_false (is_on_stack (word_of c)) on e)

      looks : (n : ℕ) (c : Call) → reads_on n c ≡ true → is_on_stack (word_of c) ≡ true
      looks n c r = (reads_parts (is_on_stack (word_of c)) (is_send (word_of c)) (parts n c r).0).0

      says : (c : Call) → is_send (word_of c) ≡ true → is_on_stack (word_of c) ≡ true
      says c k = ap (λ b. b || (is_receive (word_of c) || (is_handshake (word_of c) || gives_up (word_of c)))) k

      clash : (n other : ℕ) (more : Call) → Pends w other more → reads_on n call ≡ true → reads_on n more ≡ true → ⊥
      clash n other more g r s = by (by_class call (parts n call r).0) (by_class more (parts n more s).0)
        where
          by : (is_receive (word_of call) ≡ true) ⊎ ((is_handshake (word_of call) || gives_up (word_of call)) ≡ true) → (is_receive (word_of more) ≡ true) ⊎ ((is_handshake (word_of more) || gives_up (word_of more)) ≡ true) → ⊥
          by (inr t) m = fit.taker n other more g (takes_it call n (parts n call r).1 t) (parts n call r).1 (parts n more s).1
          by (inl t) (inl m) = fit.second n other more g (parts n call r).1 (parts n more s).1 t m
          by (inl t) (inr m) = fit.occupied n other more g (parts n call r).1 (parts n more s).1 (parts n more s).0 m

      at : (n one two : ℕ) (c d : Call) → reads_on n c ≡ true → reads_on n d ≡ true → Pends w one c ⊎ AsEntered who call one c → Pends w two d ⊎ AsEntered who call two d → one ≡ two
      at n one two c d r s (inl e) (inl f) = a.readers n one two c d e f r s
      at n one two c d r s (inl e) (inr f) = absurd (clash n one c e (ap (reads_on n) (sym (its d (looks n d s) f.1)) ∙ s) r)
      at n one two c d r s (inr e) (inl f) = absurd (clash n two d f (ap (reads_on n) (sym (its c (looks n c r) e.1)) ∙ r) s)
      at n one two c d r s (inr e) (inr f) = e.0 ∙ sym f.0

      beside : (n one two : ℕ) (c d : Call) → is_send (word_of c) ≡ true → named_by c ≡ Some n → reads_on n d ≡ true → Pends w one c ⊎ AsEntered who call one c → Pends w two d ⊎ AsEntered who call two d → is_receive (word_of d) ≡ true
      beside n one two c d k m s (inl e) (inl f) = a.sends n one two c d e f k m s
      beside n one two c d k m s (inl e) (inr f) = by (by_class d (parts n d s).0)
        where
          same : d ≡ call
          same = its d (looks n d s) f.1

          by : (is_receive (word_of d) ≡ true) ⊎ ((is_handshake (word_of d) || gives_up (word_of d)) ≡ true) → is_receive (word_of d) ≡ true
          by (inl t) = t
          by (inr t) =
              let named = ap named_by (sym same) ∙ (parts n d s).1 in
              absurd (fit.taker n one c e (takes_it call n named (ap (λ x. is_handshake (word_of x) || gives_up (word_of x)) (sym same) ∙ t)) named m)
      beside n one two c d k m s (inr e) (inl f) = by (by_class d (parts n d s).0)
        where
          by : (is_receive (word_of d) ≡ true) ⊎ ((is_handshake (word_of d) || gives_up (word_of d)) ≡ true) → is_receive (word_of d) ≡ true
          by (inl t) = t
          by (inr t) = absurd (fit.occupied n two d f (ap named_by (sym (its c (says c k) e.1)) ∙ m) (parts n d s).1 (parts n d s).0 t)
      beside n one two c d k m s (inr e) (inr f) = absurd (send_reads (is_send (word_of d)) (is_on_stack (word_of d)) (ap (λ x. is_send (word_of x)) (its d (looks n d s) f.1 ∙ sym (its c (says c k) e.1)) ∙ k) (parts n d s).0)

  module _ (p : Program V) where
    pub fits : (w : World V) (who : ℕ) (view : V) (call : Call) → refuse p w who view call ≡ None → Fit w call
    fits w who view call e = record { live = live; taker = taker; occupied = occupied; second = second }
      where
        u : NotBusy (holds p w who view call)
        u = not_busy (holds p w who view call) (gives_up (word_of call)) e

        busy : (list_any (cannot_take w who call) (taken_by call) ≡ false) × ((is_occupied w call || (is_in_use w call || is_closed_bundle w who call)) ≡ false)
        busy = or_parts (list_any (cannot_take w who call) (taken_by call)) (is_occupied w call || (is_in_use w call || is_closed_bundle w who call)) (or_parts (is_busy w who call) (is_refused_by_stack w call errnos.Ebusy) u.busy).0

        rest : (is_occupied w call ≡ false) × ((is_in_use w call || is_closed_bundle w who call) ≡ false)
        rest = or_parts (is_occupied w call) (is_in_use w call || is_closed_bundle w who call) busy.1

        live : (n : ℕ) → named_by call ≡ Some n → is_dead w n ≡ false
        live n named = (or_parts (is_dead w n) (list_any (is_dead w) (gifts call ++ chosen call)) (ap (λ o. list_any (is_dead w) (option_to_list o ++ gifts call ++ chosen call)) (sym named) ∙ (or_parts (names_dead w call) (is_refused_by_stack w call errnos.Ebadf) u.dead).0)).0

        taker : (n other : ℕ) (more : Call) → Pends w other more → TakesIt call n → named_by call ≡ Some n → named_by more ≡ Some n → ⊥
        taker n other more g it named named_more = by (entry_of w n) (live n named) (or_parts (cannot_take w who call n) false (ap (list_any (cannot_take w who call)) (sym it.taken) ∙ busy.0)).0
          where
            by : (o : Option (Entry Thing)) → is_none o ≡ false → if_some o false (λ x. is_within w who call x.thing || (is_held_back w who x || (is_awaited w call n || is_cancelled_taker w who call x))) ≡ false → ⊥
            by None i j = cc
            by (Some x) i j =
                let one = or_parts (is_within w who call x.thing) (is_held_back w who x || (is_awaited w call n || is_cancelled_taker w who call x)) j in
                let two = or_parts (is_held_back w who x) (is_awaited w call n || is_cancelled_taker w who call x) one.1 in
                let three = or_parts (is_awaited w call n) (is_cancelled_taker w who call x) two.1 in
                true_false (is_on n more) (is_on_named more n named_more) (not_awaited w (is_on n) other more (not_and (is_hclose (word_of call)) (is_pending w (is_on n)) it.closes three.0) g)

        second : (n other : ℕ) (more : Call) → Pends w other more → named_by call ≡ Some n → named_by more ≡ Some n → is_receive (word_of call) ≡ true → is_receive (word_of more) ≡ true → ⊥
        second n other more g named named_more t m =
            let used : (is_send (word_of call) && is_second w n is_send || (is_receive (word_of call) && is_second w n is_receive || is_accept (word_of call) && is_second w n is_accept)) ≡ false =
            ap (λ o. if_some o false (λ number. is_send (word_of call) && is_second w number is_send || (is_receive (word_of call) && is_second w number is_receive || is_accept (word_of call) && is_second w number is_accept))) (sym named) ∙ (or_parts (is_in_use w call) (is_closed_bundle w who call) rest.1).0 in
            let one = or_parts (is_send (word_of call) && is_second w n is_send) (is_receive (word_of call) && is_second w n is_receive || is_accept (word_of call) && is_second w n is_accept) used in
            let two = or_parts (is_receive (word_of call) && is_second w n is_receive) (is_accept (word_of call) && is_second w n is_accept) one.1 in
            true_false (is_on n more) (is_on_named more n named_more) (and_two (is_receive (word_of more)) (is_on n more) m (not_awaited w (λ c. is_receive (word_of c) && is_on n c) other more (and_two (is_receive (word_of call)) (is_second w n is_receive) t two.0) g))

        occupied : (n other : ℕ) (more : Call) → Pends w other more → named_by call ≡ Some n → named_by more ≡ Some n → reads more ≡ true → (is_handshake (word_of more) || gives_up (word_of more)) ≡ true → ⊥
        occupied n other more g named named_more r m =
            let free : is_pending w (is_alone_on n) ≡ false = (or_parts (is_pending w (is_alone_on n)) (list_any (λ number. is_pending w (is_alone_on number)) (gifts call ++ chosen call)) (ap (λ o. list_any (λ number. is_pending w (is_alone_on number)) (option_to_list o ++ gifts call ++ chosen call)) (sym named) ∙ rest.0)).0 in
            true_false (is_alone_on n more) (both_true (takes (word_of more)) (is_on n more) (takes_it more n named_more m).takes_it (is_on_named more n named_more)) (not_awaited w (is_alone_on n) other more free g)

    -- ---- a turn

    pub done_enters : (w : World V) (who : ℕ) (view : V) (call : Call) → Enters w who call (done p w who view call)
    done_enters w who view call =
        let k = keep_for w call in
        let v = perform p k who view call in
        enters_then w who call v (meet_deadline v who) (fewer_first w who call k v (fewer_same w k refl refl refl) (perform_enters p k who view call)) (fewer_met v who)

    resumes : (w : World V) (who : ℕ) (view : V) → Fewer w (resume w who view)
    resumes w who view = fewer_change w who (as_running view) (λ c. refl)

    pub go_on_turns : (lack : Option LackPlace) (b : World V) (who : ℕ) (view : V) → Turns p b who (go_on p lack b who view)
    go_on_turns lack b who view = moves (p.short view (answer_given b who).1) (move_of p b who view)
      where
        replied_over : (new : V) (word : Word) (answer : Answer) → Turns p b who (reply (resume b who new) who word answer)
        replied_over new word answer = over new (fewer_reply (resume b who new) who word answer) (not_beside AnyCall b)

        ended : (new : V) (outcome : Option Errno) → Turns p b who (end (resume b who new) who outcome)
        ended new outcome =
            let r = resume b who new in
            let mine = filter (handles.is_owned who) b.handles.entries in
            let shut = close_all r who in
            over new
            (fewer_then r shut (end r who outcome) (fewer_each (close_owned who) mine r (λ v x. fewer_some (bundle_of x.thing) v (λ name. close_bundle v who name x.number) (λ name. fewer_closing v who name x.number))) (fewer_set shut who (modes.Ending outcome) refl))
            (each_beside AnyCall (close_owned who) mine r (λ v x. some_beside AnyCall (bundle_of x.thing) v (λ name. close_bundle v who name x.number) (λ name. retire_beside AnyCall v x.number)))

        enters : (new : V) (call : Call) → Turns p b who (enter p (is_entry lack) (resume b who new) who new call)
        enters new call = at (refuse p (resume b who new) who new call) refl
          where
            lacks : (t : Bool) → refuse p (resume b who new) who new call ≡ None → Turns p b who (if t then reply (resume b who new) who (word_of call) (Fault errnos.Enomem) else done p (resume b who new) who new call)
            lacks true e = replied_over new (word_of call) (Fault errnos.Enomem)
            lacks false e = does new call e

            at : (o : Option Errno) → refuse p (resume b who new) who new call ≡ o → Turns p b who (if_some o (if is_entry lack && takes_memory (word_of call) then reply (resume b who new) who (word_of call) (Fault errnos.Enomem) else done p (resume b who new) who new call) (λ e. reply (resume b who new) who (word_of call) (Fault e)))
            at None e = lacks (is_entry lack && takes_memory (word_of call)) e
            at (Some x) e = replied_over new (word_of call) (Fault x)

        moves : (short : V) (next : V × Move) → Turns p b who (if is_build lack && may_lack_build next.1 then lack_move (resume b who short) who next.1 else make_move p (is_entry lack) (resume b who next.0) who next.0 next.1)
        moves short (new, Calls call) = at (is_build lack && build_takes_memory (word_of call))
          where
            at : (t : Bool) → Turns p b who (if t then reply (resume b who short) who (word_of call) (Fault (lack_fault (resume b who short) who (word_of call))) else enter p (is_entry lack) (resume b who new) who new (entered b.moment call))
            at true = replied_over short (word_of call) (Fault (lack_fault (resume b who short) who (word_of call)))
            at false = enters new (entered b.moment call)
        moves short (new, Ends outcome) = at (is_build lack)
          where
            at : (t : Bool) → Turns p b who (if t && false then resume b who short else end (resume b who new) who outcome)
            at true = ended new outcome
            at false = ended new outcome

    turns_apart : (b : World V) (who : ℕ) {v : World V} → Turns p b who v → LooksApart b → LooksApart v
    turns_apart b who {v} (over view f s) a = let r = resume b who view in fewer_apart b v (fewer_then b r v (resumes b who view) f) a
    turns_apart b who (does view call free) a = let r = resume b who view in enters_apart r who call (done p r who view call) (fewer_apart b r (resumes b who view) a) (fits r who view call free) (done_enters r who view call)

    -- the others were pending before it
    pub turns_others : (b : World V) (who : ℕ) {v : World V} → Turns p b who v → (other : ℕ) (more : Call) → Pends v other more → (other ≡ who → ⊥) → Pends b other more
    turns_others b who (over view f s) other more q ne = (resumes b who view).calls other more (f.calls other more q)
    turns_others b who (does view call free) other more q ne = at ((done_enters (resume b who view) who view call).calls other more q)
      where
        at : Pends (resume b who view) other more ⊎ AsEntered who call other more → Pends b other more
        at (inl r) = (resumes b who view).calls other more r
        at (inr r) = absurd (ne r.0)

    pub go_on_apart : (lack : Option LackPlace) (w : World V) (who : ℕ) (view : V) → LooksApart w → LooksApart (go_on p lack (begin w) who view)
    go_on_apart lack w who view a = let b = begin w in turns_apart b who (go_on_turns lack b who view) (fewer_apart w b (fewer_same w b refl refl refl) a)

    pub turn_apart : (lack : Option LackPlace) (w : World V) (who : ℕ) → LooksApart w → LooksApart (turn p lack w who)
    turn_apart lack w who a = at (coroutine_of w who)
      where
        at : (o : Option (Coroutine V)) → LooksApart (if_some o w (λ c. settle (go_on p lack (begin w) who c.body)))
        at None = a
        at (Some c) = let moved = go_on p lack (begin w) who c.body in fewer_apart moved (settle moved) (fewer_settle moved) (go_on_apart lack w who c.body a)
