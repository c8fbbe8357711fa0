-- What is done before an answer, and what is answered, keep a world in order, whatever is released, moved or given up; so do settling and expiries.
use Rattle.std.proofs.Common.{◌≡◌, ◌∙◌, ℕ, zero, suc, ◌+◌, ◌==◌, List, [], ◌∷◌, length, map, find, fold, Bool, true, false, not, ◌&&◌, ◌||◌, ◌≤◌, Option, Some, None, if◌then◌else◌, refl, sym, ap, subst, arith, lit≤}
use Rattle.std.specs.Prelude.{is_some, filter, reverse}
use Rattle.std.specs.List.{list_all}
use Rattle.std.proofs.lemmas.Bool.{and_parts, or_right}
use Rattle.dill_base.specs.declared.errno.Errno.{Errno}
use Rattle.dill_calls.specs.declared.answer.Answer.{Answer}
use Rattle.dill_calls.specs.declared.answer.Answer.TheVariants.{Fault, Number}
use Rattle.dill_calls.specs.declared.call.Call.{Call}
use Rattle.dill_calls.specs.declared.call.Call.TheVariants as calls
use Rattle.dill_calls.specs.declared.ran.Note.TheVariants.{Moved, Freed}
use Rattle.dill_calls.specs.declared.word.Word.{Word}
use Rattle.dill_calls.specs.declared.word.Word.TheVariants as words
use Rattle.dill_calls.specs.CallTable.{word_of, named_by, gives_up}
use Rattle.dill_handles.specs.Handles as handles
use Rattle.dill_handles.specs.Handles.{Handles}
use Rattle.dill_handles.specs.declared.entry.Entry.{Entry}
use Rattle.dill_scope.specs.Scopes.{is_empty}
use Rattle.dill_base.specs.Maps.{if_some, first_some, change, without}
use Rattle.dill_rules.specs.declared.coroutine.Closing.{Closing}
use Rattle.dill_rules.specs.declared.coroutine.Coroutine.{Coroutine}
use Rattle.dill_rules.specs.declared.coroutine.Mode.{Mode}
use Rattle.dill_rules.specs.declared.coroutine.Mode.TheVariants as modes
use Rattle.dill_rules.specs.declared.thing.Thing.{Thing}
use Rattle.dill_rules.specs.declared.thing.Thing.TheVariants as things
use Rattle.dill_rules.specs.World.{World, is_coroutine, coroutine_of, call_of, with_mode, set_mode, reply, note, pending_call, is_ending, from_start}
use Rattle.dill_rules.specs.Links.{with_stack, as_closing}
use Rattle.dill_rules.specs.Links as link
use Rattle.dill_rules.specs.Naming.{links, draws_of}
use Rattle.dill_rules.specs.Owning.{entry_of, is_dead_as, take_thing, move, drop, release, free_bundle}
use Rattle.dill_rules.specs.Taking.{bundle_of}
use Rattle.dill_rules.specs.Directions.{is_send, is_receive, is_handshake}
use Rattle.dill_rules.specs.LinkAnswers.{is_tcp_close, is_on_stack}
use Rattle.dill_rules.specs.Sockets.{on_link, on_named}
use Rattle.dill_rules.specs.Linking.{give_stack_up}
use Rattle.dill_rules.specs.Giving.{is_read, look_on, after_send, is_connecting_for, give_send, give_receive, give_number, give_attached, give_closed, forgo, give_forgone, give_class, give}
use Rattle.dill_rules.specs.Effects.{next_number}
use Rattle.dill_rules.specs.Entering.{late_answer}
use Rattle.dill_rules.specs.Expiring.{expire_one, due_of}
use Rattle.dill_rules.specs.Answers.{when_empty, bundle_dead_as, answer_of}
use Rattle.dill_rules.specs.Settling.{highest_first, is_owned_by, can_finish, is_clear, free_all, release_all, outcome_of, keep_end, finish, answer_due, give_first, settle_one, settle_within, settle, pass_all}
use Rattle.laws_queue.specs.Well.{bit, is_at, occurs}
use Rattle.laws_queue.proofs.Besides.{Besides, as_was, with_links, some_besides, if_besides, on_link_besides, on_named_besides, look_besides, pass_all_besides}
use Rattle.laws_queue.proofs.Crew.{move_crew, release_crew, bare_crew, free_dead_crew}
use Rattle.laws_sound.proofs.Lists.{all_found, all_without, all_change}
use Rattle.laws_queue.proofs.Stepping.{by_number, due_first}
use Rattle.laws_queue.proofs.Lists.{found_passes}
use Rattle.laws_sound.specs.Laws.{is_timed}
use Rattle.laws_sound.specs.Order.{times_used, is_there, IsInOrder}
use Rattle.laws_sound.specs.Orderly.{is_meeting, waits_well, dead_by, NotesOnce, is_no_bundle, is_socketed, gives_number, kept_by, weigh, IsOrderly}
use Rattle.laws_sound.proofs.Counting.{weigh_map, weigh_change, weigh_without, only_found}
use Rattle.laws_sound.proofs.Fitting.{closes_it, used_is}
use Rattle.laws_sound.proofs.Sorting.{picked_all}
use Rattle.laws_sound.proofs.Handing.{equal, unequal, same_number}
use Rattle.laws_sound.proofs.Crews.{change_other, other_without}
use Rattle.dill_chan.specs.declared.end.Wait.{Wait}
use Rattle.laws_sound.proofs.Entering.{found_call}
use Rattle.laws_sound.proofs.Finishing.{order_give_close}
use Rattle.laws_sound.proofs.Leaving.{order_finish}
use Rattle.laws_sound.proofs.Lists.{all_follow}
use Rattle.laws_sound.proofs.Nearly.{is_free}
use Rattle.laws_sound.proofs.Ordering.{order_anyway, order_reply, order_move, order_release}
use Rattle.laws_sound.proofs.Noting.{Stays, stays_retired, stays_renumbered, names_none, counted, ending_meets, less_kept, itself, no_name, when_some, close_on_stack, timed_open, sockets_stay, Counts, counts_then, counts_same, drop_handles, take_handles, release_counts, move_counts, free_counts, release_each_counts, once_closed, free_all_counts}

-- a handshake or a detach has a number kept, and so has a call that makes a link
attaches_one : (a b c : Bool) → b ≡ true → c ≡ false → bit (a || (b && not c)) ≡ 1
attaches_one true b c e f = refl
attaches_one false true false e f = refl
attaches_one false true true e f = cc
attaches_one false false c e f = cc

pub links_one : (a b : Bool) → a ≡ true → bit (a || b) ≡ 1
links_one true b e = refl
links_one false b e = cc

draws_one : (call : Call) → (is_handshake (word_of call) || gives_up (word_of call)) ≡ true → draws_of call ≤ 1
draws_one (calls.Go program args) e = cc
draws_one (calls.BundleGo number program args) e = cc
draws_one calls.Chmake e = cc
draws_one call e = lit≤ tt

module _ {V : Type 0} where
  -- An effect that leaves the coroutines, keeps a world in order, leaves the numbers that name no bundle, and uses at most so many of the numbers that are kept.
  pub record Does (w v : World V) (count : ℕ) : Type 0 where
    pub order : IsInOrder v
    pub coroutines : v.coroutines ≡ w.coroutines
    pub stays : Stays w.handles v.handles
    pub noted : Counts w v
    pub waits : v.channels.waits ≡ w.channels.waits
    pub spent : w.handles.kept ≤ v.handles.kept + count

  pub nothing : (w : World V) → IsInOrder w → Does w w 0
  nothing w o = record { order = o; coroutines = refl; stays = λ n e. e; noted = λ n. refl; waits = refl; spent = omega arith }

  pub does_more : (w v : World V) {m n : ℕ} → m ≤ n → Does w v m → Does w v n
  does_more w v l d = record { order = d.order; coroutines = d.coroutines; stays = d.stays; noted = d.noted; waits = d.waits; spent = let s = d.spent in omega (arith, l, s) }

  pub does_both : (w v u : World V) {m n k : ℕ} → m + n ≤ k → Does w v m → Does v u n → Does w u k
  does_both w v u l a b = record {
    order = b.order;
    coroutines = b.coroutines ∙ a.coroutines;
    stays = λ n e. b.stays n (a.stays n e);
    noted = counts_then w v u a.noted b.noted;
    waits = b.waits ∙ a.waits;
    spent = let s = a.spent in let t = b.spent in omega (arith, l, s, t);
  }

  -- the first uses none, or the second
  pub does_then : (w v u : World V) {n : ℕ} → Does w v 0 → Does v u n → Does w u n
  does_then w v u a b = does_both w v u (omega arith) a b

  pub does_last : (w v u : World V) {n : ℕ} → Does w v n → Does v u 0 → Does w u n
  does_last w v u a b = does_both w v u (omega arith) a b

  pub besides : (w v : World V) → Besides w v → IsInOrder w → Does w v 0
  besides w v b o = subst (λ u. Does w u 0) (sym b.same) (record { order = order_anyway w w.channels b.links w.place b.random w.moment w.notes o; coroutines = refl; stays = λ n e. e; noted = λ n. refl; waits = refl; spent = omega arith })

  pub unkept : (w : World V) (count : ℕ) → IsInOrder w → Does w (record w { handles = handles.unkeep w.handles count }) count
  unkept w count o =
      let f = o.fits in
      record {
        order = record {
          fits = record { forest = f.forest; bundles = f.bundles; crew = f.crew; numbered = f.numbered; begun = f.begun; few = f.few; main = f.main; room = less_kept (length w.handles.entries) w.handles.kept count f.room; numbers = f.numbers; names = f.names; held = f.held; kinds = f.kinds };
          closings = o.closings;
          waiters = o.waiters;
          endings = o.endings;
        };
        coroutines = refl;
        stays = λ n e. e;
        noted = λ n. refl;
        waits = refl;
        spent = omega arith;
      }

  some_stays : {A : Type 0} (h : Handles Thing) (o : Option A) (w : World V) (f : A → World V) → Stays h w.handles → ((a : A) → Stays h (f a).handles) → Stays h (if_some o w f).handles
  some_stays h None w f e g = e
  some_stays h (Some a) w f e g = g a

  pub release_stays : (w : World V) (number : ℕ) → Stays w.handles (release w number).handles
  release_stays w number =
      some_stays w.handles (entry_of w number) w (λ x. note (drop (record w { handles = handles.retire w.handles number }) x.thing) (Freed number)) (itself w.handles)
      (λ x. subst (Stays w.handles) (sym (drop_handles (record w { handles = handles.retire w.handles number }) x.thing)) (stays_retired w.handles number))

  pub move_stays : (w : World V) (number owner : ℕ) → Stays w.handles (move w number owner).handles
  move_stays w number owner =
      some_stays w.handles (entry_of w number) w (λ x. note (take_thing (record w { handles = handles.renumber w.handles number x.thing owner }) x.thing owner) (Moved number (handles.next_number w.handles))) (itself w.handles)
      (λ x. subst (Stays w.handles) (sym (take_handles (record w { handles = handles.renumber w.handles number x.thing owner }) x.thing owner)) (stays_renumbered w.handles number owner x.thing))

  -- a part of a world stays, whatever is there
  some_same : {A X : Type 0} (part : World V → X) (x : X) (o : Option A) (w : World V) (f : A → World V) → part w ≡ x → ((a : A) → part (f a) ≡ x) → part (if_some o w f) ≡ x
  some_same part x None w f e g = e
  some_same part x (Some a) w f e g = g a

  drop_waits : (w : World V) (thing : Thing) → (drop w thing).channels.waits ≡ w.channels.waits
  drop_waits w (things.Bundle name) = refl
  drop_waits w (things.End end) = refl
  drop_waits w (things.Listener link) = refl
  drop_waits w (things.Socket link) = refl
  drop_waits w (things.Value kind value) = refl

  take_waits : (w : World V) (thing : Thing) (owner : ℕ) → (take_thing w thing owner).channels.waits ≡ w.channels.waits
  take_waits w (things.Bundle name) owner = refl
  take_waits w (things.End end) owner = refl
  take_waits w (things.Listener link) owner = refl
  take_waits w (things.Socket link) owner = refl
  take_waits w (things.Value kind value) owner = refl

  release_waits : (w : World V) (number : ℕ) → (release w number).channels.waits ≡ w.channels.waits
  release_waits w number =
      some_same (λ v. v.channels.waits) w.channels.waits (entry_of w number) w (λ x. note (drop (record w { handles = handles.retire w.handles number }) x.thing) (Freed number)) refl (λ x. drop_waits (record w { handles = handles.retire w.handles number }) x.thing)

  pub move_waits : (w : World V) (number owner : ℕ) → (move w number owner).channels.waits ≡ w.channels.waits
  move_waits w number owner =
      some_same (λ v. v.channels.waits) w.channels.waits (entry_of w number) w (λ x. note (take_thing (record w { handles = handles.renumber w.handles number x.thing owner }) x.thing owner) (Moved number (handles.next_number w.handles))) refl
      (λ x. take_waits (record w { handles = handles.renumber w.handles number x.thing owner }) x.thing owner)

  release_kept : (w : World V) (number : ℕ) → (release w number).handles.kept ≡ w.handles.kept
  release_kept w number =
      some_same (λ v. v.handles.kept) w.handles.kept (entry_of w number) w (λ x. note (drop (record w { handles = handles.retire w.handles number }) x.thing) (Freed number)) refl
      (λ x. ap (λ (h : Handles Thing). h.kept) (drop_handles (record w { handles = handles.retire w.handles number }) x.thing))

  pub move_spent : (w : World V) (number owner : ℕ) → w.handles.kept ≤ (move w number owner).handles.kept + 1
  move_spent w number owner = at (entry_of w number)
    where
      at : (o : Option (Entry Thing)) → w.handles.kept ≤ (if_some o w (λ x. note (take_thing (record w { handles = handles.renumber w.handles number x.thing owner }) x.thing owner) (Moved number (handles.next_number w.handles)))).handles.kept + 1
      at None = omega arith
      at (Some x) = subst (λ (h : Handles Thing). w.handles.kept ≤ h.kept + 1) (sym (take_handles (record w { handles = handles.renumber w.handles number x.thing owner }) x.thing owner)) (omega arith)

  -- whoever has its answer waits under no clause, and the others as before
  pub left_waits : (cs : List (Coroutine V)) (who : ℕ) (mode : Mode) (xs : List Wait) → list_all (waits_well cs) xs ≡ true → list_all (waits_well (change (is_coroutine who) (with_mode mode) cs)) (filter (λ x. not (x.who == who)) xs) ≡ true
  left_waits cs who mode xs e =
      picked_all (λ (x : Wait). not (x.who == who)) (waits_well (change (is_coroutine who) (with_mode mode) cs)) xs
      (all_follow (waits_well cs) (λ x. not (not (x.who == who)) || waits_well (change (is_coroutine who) (with_mode mode) cs) x) xs (λ x f. at x (x.who == who) refl f) e)
    where
      at : (x : Wait) (b : Bool) → (x.who == who) ≡ b → is_at is_meeting cs x.who ≡ true → (not (not b) || is_at is_meeting (change (is_coroutine who) (with_mode mode) cs) x.who) ≡ true
      at x true f g = refl
      at x false f g = ap (λ o. if_some o false (λ d. is_meeting d.mode)) (change_other (with_mode mode) (λ d. refl) who x.who cs (unequal x.who who f)) ∙ g

  -- a stack is released
  pub releases : (w : World V) (number : ℕ) → IsInOrder w → is_no_bundle w.handles number ≡ true → Does w (release w number) 0
  releases w number o e = record { order = order_release w number o (λ x f. names_none w number x e f); coroutines = (release_crew w number).coroutines; stays = release_stays w number; noted = release_counts w number; waits = release_waits w number; spent = let s = release_kept w number in omega (arith, s) }

  -- a stack has a new number, and an owner
  pub moves : (w : World V) (number owner : ℕ) → IsInOrder w → is_no_bundle w.handles number ≡ true → is_there w owner ≡ true → is_at is_ending w.coroutines owner ≡ false → Does w (move w number owner) 1
  moves w number owner o e there going = record {
    order = order_move w number owner o there going (λ x name f t i. no_name (bundle_of x.thing) name (names_none w number x e f) (ap bundle_of t));
    coroutines = (move_crew w number owner).coroutines;
    stays = move_stays w number owner;
    noted = move_counts w number owner;
    waits = move_waits w number owner;
    spent = move_spent w number owner;
  }

  -- ---- answers

  -- a step within settling, and what it keeps
  pub record Goes (w v : World V) : Type 0 where
    pub good : IsOrderly v
    pub noted : Counts w v

  pub goes_not : (w : World V) → IsOrderly w → Goes w w
  goes_not w g = record { good = g; noted = λ n. refl }

  pub goes_then : (w v u : World V) → Goes w v → Goes v u → Goes w u
  goes_then w v u a b = record { good = b.good; noted = counts_then w v u a.noted b.noted }

  -- no more are kept for all than before, where nobody is pending anew
  pub set_kept : (v : World V) (who : ℕ) (mode : Mode) (c : Coroutine V) → coroutine_of v who ≡ Some c → weigh kept_by (set_mode v who mode).coroutines + kept_by c ≡ weigh kept_by v.coroutines + kept_by (with_mode mode c)
  set_kept v who mode c e = weigh_change kept_by (is_coroutine who) (with_mode mode) v.coroutines c e

  pub does_good : (w v : World V) → IsOrderly w → Does w v 0 → IsOrderly v
  does_good w v g d = record {
    order = d.order;
    sockets = subst (λ cs. list_all (is_socketed v.handles) cs ≡ true) (sym d.coroutines) (sockets_stay w.handles v.handles w.coroutines d.stays g.sockets);
    waits = subst (λ cs. list_all (waits_well cs) v.channels.waits ≡ true) (sym d.coroutines) (subst (λ xs. list_all (waits_well w.coroutines) xs ≡ true) (sym d.waits) g.waits);
    kept = subst (λ cs. weigh kept_by cs ≤ v.handles.kept) (sym d.coroutines) (let k = g.kept in let s = d.spent in omega (arith, k, s));
  }

  pub does_goes : (w v : World V) → IsOrderly w → Does w v 0 → Goes w v
  does_goes w v g d = record { good = does_good w v g d; noted = d.noted }

  -- who is pending in a call that closes nothing, on a number that names no bundle if it is on a stack
  record Waits (w : World V) (who : ℕ) (call : Call) : Type 0 where
    good : IsOrderly w
    one : Coroutine V
    found : coroutine_of w who ≡ Some one
    mode : one.mode ≡ modes.Pending call
    free : is_free (modes.Pending call) ≡ true

  there : (w : World V) (who : ℕ) (call : Call) → Waits w who call → is_there w who ≡ true
  there w who call h = ap is_some h.found

  going : (w : World V) (who : ℕ) (call : Call) → Waits w who call → is_at is_ending w.coroutines who ≡ false
  going w who call h = ap (λ o. if_some o false (λ c. is_ending c.mode)) h.found ∙ ap is_ending h.mode

  -- an effect, and then the answer of one that waits for no bundle to close
  pub answers_free : (w v : World V) (who : ℕ) (word : Word) (answer : Answer) (c : Coroutine V) {n : ℕ} → IsOrderly w → coroutine_of w who ≡ Some c → is_free c.mode ≡ true → weigh kept_by w.coroutines + n ≤ w.handles.kept + kept_by c → Does w v n → Goes w (reply v who word answer)
  answers_free w v who word answer c g e free l d = record {
    noted = d.noted;
    good = record {
      order = order_reply v who c word answer d.order (ap (find (is_coroutine who)) d.coroutines ∙ e) free;
      sockets = all_change (is_socketed v.handles) (is_coroutine who) (with_mode (modes.Fresh word answer)) v.coroutines (λ x f. refl) (subst (λ cs. list_all (is_socketed v.handles) cs ≡ true) (sym d.coroutines) (sockets_stay w.handles v.handles w.coroutines d.stays g.sockets));
      waits = left_waits v.coroutines who (modes.Fresh word answer) v.channels.waits (subst (λ cs. list_all (waits_well cs) v.channels.waits ≡ true) (sym d.coroutines) (subst (λ xs. list_all (waits_well w.coroutines) xs ≡ true) (sym d.waits) g.waits));
      kept =
          let same = ap (weigh kept_by) d.coroutines in
          let set = set_kept v who (modes.Fresh word answer) c (ap (find (is_coroutine who)) d.coroutines ∙ e) in
          let s = d.spent in
          omega (arith, l, same, set, s);
    };
  }

  answers : (w v : World V) (who : ℕ) (call : Call) (word : Word) (answer : Answer) {n : ℕ} → Waits w who call → n ≤ bit (gives_number (word_of call)) → Does w v n → Goes w (reply v who word answer)
  answers w v who call word answer h l d =
      let own : kept_by h.one ≡ bit (gives_number (word_of call)) = ap (λ m. if_some (pending_call m) 0 (λ k. bit (gives_number (word_of k)))) h.mode in
      let k = h.good.kept in
      answers_free w v who word answer h.one h.good h.found (ap (λ m. is_free m) h.mode ∙ h.free) (omega (arith, own, k, l)) d

  pub some_good : {A : Type 0} (o : Option A) (w : World V) (f : A → World V) → IsOrderly w → ((a : A) → o ≡ Some a → Goes w (f a)) → Goes w (if_some o w f)
  some_good None w f e h = goes_not w e
  some_good (Some a) w f e h = h a refl

  -- what is there or not, each with its own effect
  either_good : {A : Type 0} (o : Option A) (w v : World V) (f : A → World V) → Goes w v → ((a : A) → o ≡ Some a → Goes w (f a)) → Goes w (if_some o v f)
  either_good None w v f e h = e
  either_good (Some a) w v f e h = h a refl

  pub if_good : (b : Bool) (w v u : World V) → (b ≡ true → Goes w v) → (b ≡ false → Goes w u) → Goes w (if b then v else u)
  if_good true w v u e f = e refl
  if_good false w v u e f = f refl

  pub some_does : {A : Type 0} (o : Option A) (w : World V) (f : A → World V) {n : ℕ} → Does w w n → ((a : A) → o ≡ Some a → Does w (f a) n) → Does w (if_some o w f) n
  some_does None w f e h = e
  some_does (Some a) w f e h = h a refl

  -- the number of a call on a stack
  named_socket : (w : World V) (who : ℕ) (call : Call) (number : ℕ) → Waits w who call → is_on_stack (word_of call) ≡ true → named_by call ≡ Some number → is_no_bundle w.handles number ≡ true
  named_socket w who call number h e f =
      let test : Option Call → Bool = λ o. if_some o true (λ d. if is_on_stack (word_of d) then if_some (named_by d) true (is_no_bundle w.handles) else true) in
      let all : test (pending_call h.one.mode) ≡ true = all_found (is_socketed w.handles) (is_coroutine who) w.coroutines h.one h.good.sockets h.found in
      let here : test (Some call) ≡ true = ap (λ m. test (pending_call m)) (sym h.mode) ∙ all in
      let on : (if is_on_stack (word_of call) then if_some (named_by call) true (is_no_bundle w.handles) else true) ≡ if_some (named_by call) true (is_no_bundle w.handles) = ap (λ b. if b then if_some (named_by call) true (is_no_bundle w.handles) else true) e in
      ap (λ o. if_some o true (is_no_bundle w.handles)) (sym f) ∙ sym on ∙ here

  -- the whole stack is given up
  stack_up : (w v : World V) (who : ℕ) (call : Call) (e : Errno) (kept : ℕ) → Waits w who call → is_on_stack (word_of call) ≡ true → kept ≤ bit (gives_number (word_of call)) → Does w v 0 → Goes w (give_stack_up v who call e kept)
  stack_up w v who call e kept h on l d =
      let less : World V = record v { handles = handles.unkeep v.handles kept } in
      let u = does_then w v less d (unkept v kept d.order) in
      answers w (if_some (named_by call) v (λ number. release less number)) who call (word_of call) (Fault e) h l (at (named_by call) refl u)
    where
      at : (o : Option ℕ) → named_by call ≡ o → Does w (record v { handles = handles.unkeep v.handles kept }) kept → Does w (if_some o v (λ number. release (record v { handles = handles.unkeep v.handles kept }) number)) kept
      at None f u = does_more w v (omega arith) d
      at (Some number) f u =
          let less : World V = record v { handles = handles.unkeep v.handles kept } in
          does_last w less (release less number) u (releases less number u.order (d.stays number (named_socket w who call number h on f)))

  attached : (w : World V) (who : ℕ) (call : Call) (answer : Answer) → Waits w who call → is_on_stack (word_of call) ≡ true → draws_of call ≤ bit (gives_number (word_of call)) → 1 ≤ bit (gives_number (word_of call)) → Goes w (give_attached w who call answer)
  attached w who call (Fault e) h on drawn one =
      stack_up w (if is_read (Fault e) then look_on w call else w) who call e (draws_of call) h on drawn
      (besides w (if is_read (Fault e) then look_on w call else w) (if_besides (is_read (Fault e)) w (look_on w call) w (look_besides w call) (as_was w)) h.good.order)
  attached w who call answer h on drawn one =
      either_good (named_by call) w (reply w who (word_of call) answer) (give_number w who call) (answers w w who call (word_of call) answer h (omega arith) (nothing w h.good.order))
      (λ number f.
      let looked = besides w (look_on w call) (look_besides w call) h.good.order in
      answers w (move (look_on w call) number who) who call (word_of call) (Number (next_number w)) h one
      (does_then w (look_on w call) (move (look_on w call) number who) looked
      (moves (look_on w call) number who looked.order (looked.stays number (named_socket w who call number h on f)) (ap (λ cs. is_some (find (is_coroutine who) cs)) looked.coroutines ∙ there w who call h) (ap (λ cs. is_at is_ending cs who) looked.coroutines ∙ going w who call h))))

  closed : (w : World V) (who : ℕ) (call : Call) (answer : Answer) → Waits w who call → is_on_stack (word_of call) ≡ true → Goes w (give_closed w who call answer)
  closed w who call (Fault e) h on = stack_up w w who call e 0 h on (omega arith) (nothing w h.good.order)
  closed w who call answer h on =
      answers w (if_some (named_by call) w (release w)) who call (word_of call) answer h (omega arith) (some_does (named_by call) w (release w) (nothing w h.good.order) (λ number f. releases w number h.good.order (named_socket w who call number h on f)))

  forgone : (w : World V) (who : ℕ) → IsInOrder w → Does w (forgo w who) 1
  forgone w who o =
      let less : World V = record w { handles = handles.unkeep w.handles 1 } in
      let u = unkept w 1 o in
      does_last w less (forgo w who) u (besides less (forgo w who) (some_besides (find (is_connecting_for who) w.links.all) less (record less { links = link.unkeep w.links }) (λ x. on_link less x.number as_closing) (with_links less (link.unkeep w.links) w.random) (λ x. on_link_besides less x.number as_closing)) u.order)

  give_class_good : (w : World V) (who : ℕ) (call : Call) (answer : Answer) → Waits w who call → Goes w (give_class w who call answer)
  give_class_good w who call answer h =
      let word = word_of call in
      if_good (is_send word) w (give_send w who call answer) _
      (λ e. answers w (if_some (named_by call) w (λ number. on_named w number (with_stack (after_send word answer)))) who call word answer h (omega arith)
      (besides w _ (some_besides (named_by call) w w (λ number. on_named w number (with_stack (after_send word answer))) (as_was w) (λ number. on_named_besides w number (with_stack (after_send word answer)))) h.good.order))
      (λ e. if_good (is_receive word) w (give_receive w who call answer) _
      (λ f. answers w (if is_read answer then look_on w call else w) who call word answer h (omega arith) (besides w _ (if_besides (is_read answer) w (look_on w call) w (look_besides w call) (as_was w)) h.good.order))
      (λ f. if_good (is_tcp_close word) w (give_closed w who call answer) _
      (λ g. closed w who call answer h (close_on_stack word g))
      (λ g. if_good (is_handshake word || gives_up word) w (give_attached w who call answer) _
      (λ i.
      let one = attaches_one (links word) (is_handshake word || gives_up word) (is_tcp_close word) i g in
      let few = draws_one call i in
      attached w who call answer h (or_right (is_send word) (is_receive word || (is_handshake word || gives_up word)) (or_right (is_receive word) (is_handshake word || gives_up word) i)) (omega (arith, one, few)) (omega (arith, one)))
      (λ i. if_good (links word) w (give_forgone w who call answer) (reply w who word answer)
      (λ j. answers w (forgo w who) who call word answer h (let one = links_one (links word) ((is_handshake word || gives_up word) && not (is_tcp_close word)) j in omega (arith, one)) (forgone w who h.good.order))
      (λ j. answers w w who call word answer h (omega arith) (nothing w h.good.order))))))

  -- whatever is answered
  pub give_good : (w : World V) (who : ℕ) (call : Call) (answer : Answer) (c : Coroutine V) → IsOrderly w → coroutine_of w who ≡ Some c → c.mode ≡ modes.Pending call → ((number : ℕ) → call ≡ calls.Hclose number → (x : Closing) → find (is_dead_as number) w.closings ≡ Some x → is_empty w.scopes x.bundle ≡ true) → Goes w (give w who call answer)
  give_good w who (calls.Hclose number) answer c g e f empty =
      let v = if_some (find (is_dead_as number) w.closings) w (free_bundle w) in
      let same : v.handles ≡ w.handles = freed_handles (find (is_dead_as number) w.closings) in
      record {
        noted = closed_counts (find (is_dead_as number) w.closings) refl;
        good = record {
          order = order_give_close w who number c answer g.order e f (empty number refl);
          sockets = all_change (is_socketed v.handles) (is_coroutine who) (with_mode (modes.Fresh words.Hclose answer)) v.coroutines (λ d i. refl) (subst (λ h. list_all (is_socketed h) v.coroutines ≡ true) (sym same) (subst (λ cs. list_all (is_socketed w.handles) cs ≡ true) (sym (free_dead_crew w number).coroutines) g.sockets));
          kept =
              let crew = (free_dead_crew w number).coroutines in
              let alike = ap (weigh kept_by) crew in
              let set = set_kept v who (modes.Fresh words.Hclose answer) c (ap (find (is_coroutine who)) crew ∙ e) in
              let k = g.kept in
              let h = ap (λ (t : Handles Thing). t.kept) same in
              omega (arith, alike, set, k, h);
          waits = left_waits v.coroutines who (modes.Fresh words.Hclose answer) v.channels.waits (subst (λ cs. list_all (waits_well cs) v.channels.waits ≡ true) (sym (free_dead_crew w number).coroutines) (subst (λ xs. list_all (waits_well w.coroutines) xs ≡ true) (sym (some_same (λ v. v.channels.waits) w.channels.waits (find (is_dead_as number) w.closings) w (free_bundle w) refl (λ x. refl))) g.waits));
        };
      }
    where
      freed_handles : (o : Option Closing) → (if_some o w (free_bundle w)).handles ≡ w.handles
      freed_handles None = refl
      freed_handles (Some x) = refl

      closed_counts : (o : Option Closing) → find (is_dead_as number) w.closings ≡ o → Counts w (if_some o w (free_bundle w))
      closed_counts None i = λ n. refl
      closed_counts (Some x) i = free_counts w x (ap (λ p. if_some p false (λ z. z.number == x.number)) (only_found (is_dead_as number) (closes_it x.bundle) w.closings x i (same_number x.bundle) (once_closed w g.order.fits x.bundle)) ∙ same_number x.number)
  give_good w who call answer c g e f empty = give_class_good w who call answer (record { good = g; one = c; found = e; mode = f; free = refl })

  -- ---- settling

  -- an `hclose` has an answer once its bundle is empty
  close_due : (w : World V) (number : ℕ) (answer : Answer) → when_empty w (bundle_dead_as w number) ≡ Some answer → (x : Closing) → find (is_dead_as number) w.closings ≡ Some x → is_empty w.scopes x.bundle ≡ true
  close_due w number answer e x f = when_some (is_empty w.scopes x.bundle) _ answer (ap (λ o. when_empty w (if_some o None (λ y. Some y.bundle))) (sym f) ∙ e)

  give_first_good : (w : World V) → IsOrderly w → Goes w (give_first w)
  give_first_good w g = some_good (first_some (answer_due w) w.coroutines) w (λ x. give w x.0 x.1 x.2) g due
    where
      due : (x : ℕ × Call × Answer) → first_some (answer_due w) w.coroutines ≡ Some x → Goes w (give w x.0 x.1 x.2)
      due x e =
          let d = (due_first w 0 w.last_coroutine w.coroutines x g.order.fits.numbered e).1 in
          let c = found_call w x.0 x.1 (ap (λ q. if_some q None (λ h. pending_call h.mode)) d.found ∙ d.call) in
          give_good w x.0 x.1 x.2 c.0 g c.1 c.2 (λ number s y f. close_due w number x.2 (ap (answer_of w x.0) (sym s) ∙ d.answer) y f)

  pub fold_handles : {A : Type 0} (f : World V → A → World V) (xs : List A) (w : World V) → ((v : World V) (a : A) → Stays v.handles (f v a).handles) → Stays w.handles (fold f w xs).handles
  fold_handles f [] w h = λ n e. e
  fold_handles f (x ∷ xs) w h = λ n e. fold_handles f xs (f w x) h n (h w x n e)

  freed_stays : (v : World V) (x : Closing) → Stays v.handles (free_bundle v x).handles
  freed_stays v x n e = e

  kept_stays : (b : Bool) (w v : World V) → v.handles ≡ w.handles → Stays w.handles (if b then v else w).handles
  kept_stays true w v s = subst (Stays w.handles) (sym s) (itself w.handles)
  kept_stays false w v s = λ n e. e

  -- a part of a world stays
  pub fold_same : {A X : Type 0} (part : World V → X) (f : World V → A → World V) (xs : List A) (w : World V) → ((v : World V) (a : A) → part (f v a) ≡ part v) → part (fold f w xs) ≡ part w
  fold_same part f [] w h = refl
  fold_same part f (x ∷ xs) w h = fold_same part f xs (f w x) h ∙ h w x

  if_same : {X : Type 0} (part : World V → X) (b : Bool) (w v : World V) → part v ≡ part w → part (if b then v else w) ≡ part w
  if_same part true w v e = e
  if_same part false w v e = refl

  -- who is ending waits under no clause
  gone_waits : (w : World V) (c : Coroutine V) → coroutine_of w c.number ≡ Some c → is_ending c.mode ≡ true → (xs : List Wait) → list_all (waits_well w.coroutines) xs ≡ true → list_all (waits_well (without (is_coroutine c.number) w.coroutines)) xs ≡ true
  gone_waits w c e ending xs h = all_follow (waits_well w.coroutines) (waits_well (without (is_coroutine c.number) w.coroutines)) xs (λ x f. at x (x.who == c.number) refl f) h
    where
      at : (x : Wait) (b : Bool) → (x.who == c.number) ≡ b → is_at is_meeting w.coroutines x.who ≡ true → is_at is_meeting (without (is_coroutine c.number) w.coroutines) x.who ≡ true
      at x true f g = absurd (ending_meets c.mode ending (ap (λ o. if_some o false (λ d. is_meeting d.mode)) (sym e) ∙ ap (is_at is_meeting w.coroutines) (sym (equal x.who c.number f)) ∙ g))
      at x false f g = ap (λ o. if_some o false (λ d. is_meeting d.mode)) (other_without c.number x.who w.coroutines (unequal x.who c.number f)) ∙ g

  end_counts : (b : Bool) (w v : World V) → v.notes ≡ w.notes → v.handles ≡ w.handles → v.closings ≡ w.closings → Counts w (if b then v else w)
  end_counts true w v e f g = counts_same w v e f g
  end_counts false w v e f g = λ n. refl

  finish_same : {X : Type 0} (part : World V → X) (w : World V) (c : Coroutine V) → ((v : World V) (number : ℕ) → part (release v number) ≡ part v) → ((v : World V) (x : Closing) → part (free_bundle v x) ≡ part v) → ((v : World V) (o : Option (Option Errno)) → part (from_start (record v { ended = o })) ≡ part v) → part (keep_end (release_all (free_all w c.number) c.number) c) ≡ part w
  finish_same part w c released freed ended =
      let free = free_all w c.number in
      let bare = release_all free c.number in
      if_same part (c.number == 1) bare (from_start (record bare { ended = Some (outcome_of c.mode) })) (ended bare (Some (outcome_of c.mode)))
      ∙ fold_same part release (reverse (handles.numbers_of free.handles c.number)) free released
      ∙ fold_same part free_bundle (highest_first (filter (is_owned_by w c.number) w.closings)) w freed

  finish_good : (w : World V) (c : Coroutine V) → IsOrderly w → find (can_finish w) w.coroutines ≡ Some c → Goes w (finish w c)
  finish_good w c g e =
      let b = and_parts (is_ending c.mode) (is_clear w c.number) (found_passes (can_finish w) w.coroutines c e) in
      let freed = free_all w c.number in
      let bare = release_all freed c.number in
      let one = fold_handles free_bundle (highest_first (filter (is_owned_by w c.number) w.closings)) w freed_stays in
      let two = fold_handles release (reverse (handles.numbers_of freed.handles c.number)) freed release_stays in
      let here = by_number 0 w.last_coroutine (can_finish w) w.coroutines c e g.order.fits.numbered in
      let same_waits : (finish w c).channels.waits ≡ w.channels.waits = finish_same (λ v. v.channels.waits) w c release_waits (λ v x. refl) (λ v o. refl) in
      let same_kept : (finish w c).handles.kept ≡ w.handles.kept = finish_same (λ v. v.handles.kept) w c release_kept (λ v x. refl) (λ v o. refl) in
      let three = kept_stays (c.number == 1) bare (from_start (record bare { ended = Some (outcome_of c.mode) })) refl in
      record {
        noted = counts_then w freed (finish w c) (free_all_counts w c.number g.order.fits) (counts_then freed bare (finish w c) (release_each_counts (reverse (handles.numbers_of freed.handles c.number)) freed) (end_counts (c.number == 1) bare (from_start (record bare { ended = Some (outcome_of c.mode) })) refl refl refl));
        good = record {
          order = order_finish w c g.order (by_number 0 w.last_coroutine (can_finish w) w.coroutines c e g.order.fits.numbered) b.0 b.1;
          sockets = all_without (is_socketed (finish w c).handles) (is_coroutine c.number) bare.coroutines
              (subst (λ cs. list_all (is_socketed (finish w c).handles) cs ≡ true) (sym (bare_crew w c.number).coroutines)
              (sockets_stay w.handles (finish w c).handles w.coroutines (λ n f. three n (two n (one n f))) g.sockets));
          kept =
              let crew = ap (λ cs. weigh kept_by (without (is_coroutine c.number) cs)) (bare_crew w c.number).coroutines in
              let less = weigh_without kept_by (is_coroutine c.number) w.coroutines in
              let k = g.kept in
              omega (arith, crew, less, k, same_kept);
          waits = subst (λ xs. list_all (waits_well (finish w c).coroutines) xs ≡ true) (sym same_waits) (subst (λ cs. list_all (waits_well (without (is_coroutine c.number) cs)) w.channels.waits ≡ true) (sym (bare_crew w c.number).coroutines) (gone_waits w c here b.0 w.channels.waits g.waits));
        };
      }

  pub settle_one_good : (w : World V) → IsOrderly w → Goes w (settle_one w)
  settle_one_good w g = at (find (can_finish w) w.coroutines) refl
    where
      at : (p : Option (Coroutine V)) → find (can_finish w) w.coroutines ≡ p → Goes w (if_some p (give_first w) (finish w))
      at None e = give_first_good w g
      at (Some c) e = finish_good w c g e

  within_good : (k : ℕ) (w : World V) → IsOrderly w → Goes w (settle_within k w)
  within_good zero w g = goes_not w g
  within_good (suc k) w g = let one = settle_one_good w g in goes_then w (settle_one w) (settle_within k (settle_one w)) one (within_good k (settle_one w) one.good)

  pub settle_goes : (w : World V) → IsOrderly w → Goes w (settle w)
  settle_goes w g =
      let done = settle_within (length w.coroutines) w in
      let kept = within_good (length w.coroutines) w g in
      let d = besides done (pass_all done) (pass_all_besides done) kept.good.order in
      goes_then w done (settle w) kept (does_goes done (pass_all done) kept.good d)

  -- ---- expiries

  pub expire_good : (w : World V) (who : ℕ) → IsOrderly w → is_timed w who ≡ true → Goes w (expire_one w who)
  expire_good w who g d = at (call_of w who) refl d
    where
      at : (p : Option Call) → call_of w who ≡ p → if_some p true (λ call. is_some (due_of call)) ≡ true → Goes w (if_some p w (λ call. give w who call (late_answer call)))
      at None e f = goes_not w g
      at (Some call) e f = let c = found_call w who call e in give_good w who call (late_answer call) c.0 g c.1 c.2 (λ number s. absurd (timed_open call number f s))

counted_is : {V : Type 0} (w : World V) (n : ℕ) → occurs n (map dead_by w.notes) + times_used w n ≡ counted w.notes w.handles w.closings n
counted_is w n = let a = weigh_map dead_by n w.notes in let b = used_is w.handles.entries w.closings n in omega (arith, a, b)

pub notes_each : {V : Type 0} (w v : World V) → Goes w v → NotesOnce w v
notes_each w v g n =
    let a = counted_is w n in
    let b = counted_is v n in
    let c = g.noted n in
    omega (arith, a, b, c)
