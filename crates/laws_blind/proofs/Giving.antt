-- An answer that no look gave sees no random number, and so does settling that looks at no stack.
use Rattle.std.proofs.Common.{◌≡◌, ◌∙◌, ◌+◌, ◌==◌, ℕ, zero, suc, List, [], ◌∷◌, length, fold, filter, reverse, find, Bool, true, false, not, ◌&&◌, ◌||◌, Option, Some, None, if◌then◌else◌, refl, sym, ap, subst}
use Rattle.std.specs.Option.{option_or}
use Rattle.rand_core.specs.Stream.{Stream}
use Rattle.dill_base.specs.declared.errno.Errno.{Errno}
use Rattle.dill_base.specs.declared.errno.Errno.TheVariants.{Ecanceled, Ebadf, Econnreset}
use Rattle.dill_base.specs.Maps.{if_some, first_some}
use Rattle.dill_calls.specs.declared.answer.Answer.{Answer}
use Rattle.dill_calls.specs.declared.answer.Answer.TheVariants.{Chosen, Fault}
use Rattle.dill_calls.specs.declared.call.Call.{Call}
use Rattle.dill_calls.specs.declared.call.Call.TheVariants as calls
use Rattle.dill_calls.specs.declared.lists.Clause.{Clause}
use Rattle.dill_calls.specs.declared.ran.Note.TheVariants.{Moved, Freed}
use Rattle.dill_calls.specs.declared.word.Word.{Word}
use Rattle.dill_calls.specs.declared.word.Word.TheVariants as words
use Rattle.dill_calls.specs.CallTable.{word_of, named_by, blocks, gives_up}
use Rattle.dill_handles.specs.Handles as handles
use Rattle.dill_stack.specs.Interface.{is_sent, has_ended}
use Rattle.dill_rules.specs.declared.coroutine.Coroutine.{Coroutine}
use Rattle.dill_rules.specs.declared.thing.Thing.{Thing}
use Rattle.dill_rules.specs.declared.thing.Thing.TheVariants as things
use Rattle.dill_rules.specs.World.{World, call_of, reply, note, begin, pending_call}
use Rattle.dill_rules.specs.Links.{Link, with_stack}
use Rattle.dill_rules.specs.Naming.{draws_of, links, end_of_clause}
use Rattle.dill_rules.specs.Owning.{entry_of, take_thing, move, drop, release, free_bundle, is_dead_as}
use Rattle.dill_rules.specs.Sockets.{link_number, link_named, on_named}
use Rattle.dill_rules.specs.Directions.{is_send, is_receive, is_handshake}
use Rattle.dill_rules.specs.LinkAnswers.{is_on_stack, is_tcp_done, is_tcp_close, is_broken_for, zero_when, reads}
use Rattle.dill_rules.specs.Answers.{when, want_of, clause_fault, choice_fault, own_answer, lost_its_number}
use Rattle.dill_rules.specs.Taking.{is_cancelled}
use Rattle.dill_rules.specs.Linking.{give_stack_up}
use Rattle.dill_rules.specs.Giving.{is_read, is_connecting_for, after_send, give_send, give_receive, give_attached, give_closed, forgo, give_class, give}
use Rattle.dill_rules.specs.Entering.{late_answer}
use Rattle.dill_rules.specs.Expiring.{expire_one, passed}
use Rattle.dill_rules.specs.Settling.{can_finish, highest_first, is_owned_by, free_all, release_all, leave, finish}
use Rattle.dill_rules.specs.Lookless.{stack_lookless, link_lookless, lookless_of, lookless_due, give_lookless, settle_one_lookless, lookless_within, settle_lookless}
use Rattle.laws_queue.specs.Kept.{Kept, queued, kept_expire_next, kept_late, lend_kept}
use Rattle.laws_queue.specs.Lending.{lent}
use Rattle.laws_queue.proofs.Lists.{some_same}

-- no look gave the answer of a call that looks: it comes from no bytes, or is that of `tcp_close`
abbrev pub Unread : Call → Answer → Type 0
Unread call answer = reads call ≡ true → is_tcp_close (word_of call) ≡ false → is_read answer ≡ false

pub receive_stays : (word : Word) → is_receive word ≡ true → is_tcp_close word ≡ false
receive_stays words.TcpClose e = cc
receive_stays word e = refl

pub done_sends : (word : Word) → is_tcp_done word ≡ true → is_send word ≡ true
done_sends words.TcpDone e = refl
done_sends word e = cc

pub late_unread : (call : Call) → Unread call (late_answer call)
late_unread (calls.Msleep deadline) rd c = cc
late_unread call rd c = refl

first_same : {X Y : Type 0} (f g : X → Option Y) (xs : List X) → ((x : X) → f x ≡ g x) → first_some f xs ≡ first_some g xs
first_same f g [] h = refl
first_same f g (x ∷ xs) h = ap (λ o. option_or o (first_some f xs)) (h x) ∙ ap (option_or (g x)) (first_same f g xs h)

or_cases : {X P : Type 0} (o r : Option X) {x : X} → option_or o r ≡ Some x → (o ≡ Some x → P) → (r ≡ Some x → P) → P
or_cases None r e f g = g e
or_cases (Some y) r e f g = f e

first_has : {X Y P : Type 0} (f : X → Option Y) (xs : List X) {y : Y} → ((x : X) → f x ≡ Some y → P) → first_some f xs ≡ Some y → P
first_has f [] h e = cc
first_has f (x ∷ xs) h e = or_cases (f x) (first_some f xs) e (h x) (first_has f xs h)

-- a fault that no bytes say
fault : (e : Errno) (answer : Answer) → is_read (Fault e) ≡ false → ◌≡◌ {A = Option Answer} (Some (Fault e)) (Some answer) → is_read answer ≡ false
fault e answer h k = ap is_read (sym (some_same (Fault e) answer k)) ∙ h

abbrev due : ℕ → Call → Answer → Option (ℕ × Call × Answer)
due n call answer = Some (n, call, answer)

stack_unread : (call : Call) (x : Link) (answer : Answer) → stack_lookless call x ≡ Some answer → not (is_send (word_of call)) ≡ true → is_tcp_close (word_of call) ≡ false → is_read answer ≡ false
stack_unread call x answer = at (is_broken_for (word_of call) x.stack) (is_tcp_done (word_of call)) (is_send (word_of call)) (is_tcp_close (word_of call)) (done_sends (word_of call))
  where
    at : (b d s c : Bool) → (d ≡ true → s ≡ true) → (if b then Some (Fault Econnreset) else (if d then zero_when x.shut else (if s then zero_when (is_sent x.stack) else (if c then zero_when (x.shut && has_ended x.stack) else None)))) ≡ Some answer
        → not s ≡ true → c ≡ false → is_read answer ≡ false
    at true d s c g e h k = fault Econnreset answer refl e
    at false true s c g e h k = let it : not s ≡ false = ap not (g refl) in cc
    at false false true c g e h k = cc
    at false false false true g e h k = cc
    at false false false false g e h k = cc

module _ {V : Type 0} where
  -- what is answered without a look
  pub lookless_unread : (w : World V) (who : ℕ) (call : Call) (answer : Answer) → lookless_of w who call ≡ Some answer → Unread call answer
  lookless_unread w who call answer e rd c = at (blocks (word_of call) && is_cancelled w who) (lost_its_number w call) (is_on_stack (word_of call)) e rd
    where
      linked : (o : Option Link) → if_some o None (stack_lookless call) ≡ Some answer → not (is_send (word_of call)) ≡ true → is_read answer ≡ false
      linked None f h = cc
      linked (Some x) f h = stack_unread call x answer f h c

      by : (o : Option ℕ) → if_some o None (λ number. if_some (link_named w number) None (stack_lookless call)) ≡ Some answer → not (is_send (word_of call)) ≡ true → is_read answer ≡ false
      by None f h = cc
      by (Some number) f h = linked (link_named w number) f h

      at : (b l o : Bool) → option_or (when b (Fault Ecanceled)) (option_or (when l (Fault Ebadf)) (if o then link_lookless w call else own_answer w call)) ≡ Some answer → (o && not (is_send (word_of call))) ≡ true → is_read answer ≡ false
      at true l o f h = fault Ecanceled answer refl f
      at false true o f h = fault Ebadf answer refl f
      at false false false f h = cc
      at false false true f h = by (named_by call) f h

  due_unread : (w : World V) (c : Coroutine V) (x : ℕ × Call × Answer) → lookless_due w c ≡ Some x → Unread x.1 x.2
  due_unread w c x e = at (pending_call c.mode) e
    where
      answered : (call : Call) (o : Option Answer) → lookless_of w c.number call ≡ o → if_some o None (λ answer. due c.number call answer) ≡ Some x → Unread x.1 x.2
      answered call None f g = cc
      answered call (Some answer) f g = subst (λ x. Unread x.1 x.2) (some_same (c.number, call, answer) x g) (lookless_unread w c.number call answer f)

      at : (o : Option Call) → if_some o None (λ call. if_some (lookless_of w c.number call) None (λ answer. due c.number call answer)) ≡ Some x → Unread x.1 x.2
      at None f = cc
      at (Some call) f = answered call (lookless_of w c.number call) refl f

module _ {V : Type 0} (u : Stream) where
  pub some_lent : {A : Type 0} (o : Option A) {n : World V} (w : World V) {g : A → World V} (f : A → World V) → n ≡ lent u w → ((a : A) → o ≡ Some a → g a ≡ lent u (f a)) → if_some o n g ≡ lent u (if_some o w f)
  some_lent None w f e h = e
  some_lent (Some a) w f e h = h a refl

  pub if_lent : (b : Bool) {m n : World V} (v w : World V) → m ≡ lent u v → n ≡ lent u w → (if b then m else n) ≡ lent u (if b then v else w)
  if_lent true v w e f = e
  if_lent false v w e f = f

  pub fold_lent : {A : Type 0} (f : World V → A → World V) (xs : List A) (w : World V) → ((v : World V) (a : A) → f (lent u v) a ≡ lent u (f v a)) → fold f (lent u w) xs ≡ lent u (fold f w xs)
  fold_lent f [] w h = refl
  fold_lent f (x ∷ xs) w h = ap (λ v. fold f v xs) (h w x) ∙ fold_lent f xs (f w x) h

  -- ---- owners

  take_thing_lent : (w : World V) (thing : Thing) (owner : ℕ) → take_thing (lent u w) thing owner ≡ lent u (take_thing w thing owner)
  take_thing_lent w (things.Bundle name) owner = refl
  take_thing_lent w thing owner = refl

  pub move_lent : (w : World V) (number owner : ℕ) → move (lent u w) number owner ≡ lent u (move w number owner)
  move_lent w number owner =
      some_lent (entry_of w number) _ _ refl (λ x e. ap (λ v. note v (Moved number (handles.next_number w.handles))) (take_thing_lent (record w { handles = handles.renumber w.handles number x.thing owner }) x.thing owner))

  drop_lent : (w : World V) (thing : Thing) → drop (lent u w) thing ≡ lent u (drop w thing)
  drop_lent w (things.Bundle name) = refl
  drop_lent w thing = refl

  pub release_lent : (w : World V) (number : ℕ) → release (lent u w) number ≡ lent u (release w number)
  release_lent w number = some_lent (entry_of w number) _ _ refl (λ x e. ap (λ v. note v (Freed number)) (drop_lent (record w { handles = handles.retire w.handles number }) x.thing))

  -- ---- answers

  on_named_lent : (w : World V) (number : ℕ) (f : Link → Link) → on_named (lent u w) number f ≡ lent u (on_named w number f)
  on_named_lent w number f = some_lent (link_number w number) _ _ refl (λ link e. refl)

  given_up_lent : (w : World V) (who : ℕ) (call : Call) (e : Errno) (kept : ℕ) → give_stack_up (lent u w) who call e kept ≡ lent u (give_stack_up w who call e kept)
  given_up_lent w who call e kept = ap (λ v. reply v who (word_of call) (Fault e)) (some_lent (named_by call) _ _ refl (λ number f. release_lent (record w { handles = handles.unkeep w.handles kept }) number))

  send_lent : (w : World V) (who : ℕ) (call : Call) (answer : Answer) → give_send (lent u w) who call answer ≡ lent u (give_send w who call answer)
  send_lent w who call answer = ap (λ v. reply v who (word_of call) answer) (some_lent (named_by call) _ _ refl (λ number e. on_named_lent w number (with_stack (after_send (word_of call) answer))))

  receive_lent : (w : World V) (who : ℕ) (call : Call) (answer : Answer) → is_read answer ≡ false → give_receive (lent u w) who call answer ≡ lent u (give_receive w who call answer)
  receive_lent w who call answer h = rw h refl

  attached_lent : (w : World V) (who : ℕ) (call : Call) (answer : Answer) → is_read answer ≡ false → give_attached (lent u w) who call answer ≡ lent u (give_attached w who call answer)
  attached_lent w who call (Fault e) h = rw h (given_up_lent w who call e (draws_of call))
  attached_lent w who call answer h = cc

  closed_lent : (w : World V) (who : ℕ) (call : Call) (answer : Answer) → give_closed (lent u w) who call answer ≡ lent u (give_closed w who call answer)
  closed_lent w who call (Fault e) = given_up_lent w who call e 0
  closed_lent w who call answer = ap (λ v. reply v who (word_of call) answer) (some_lent (named_by call) _ _ refl (λ number e. release_lent w number))

  forgo_lent : (w : World V) (who : ℕ) → forgo (lent u w) who ≡ lent u (forgo w who)
  forgo_lent w who = some_lent (find (is_connecting_for who) w.links.all) _ _ refl (λ x e. refl)

  class_lent : (w : World V) (who : ℕ) (call : Call) (answer : Answer) → Unread call answer → give_class (lent u w) who call answer ≡ lent u (give_class w who call answer)
  class_lent w who call answer h = at (is_send (word_of call)) (is_receive (word_of call)) (is_tcp_close (word_of call)) (is_handshake (word_of call) || gives_up (word_of call)) (links (word_of call)) h (receive_stays (word_of call))
    where
      at : (s r c a l : Bool) → (((s || (r || a)) && not s) ≡ true → c ≡ false → is_read answer ≡ false) → (r ≡ true → c ≡ false)
          → (if s then give_send (lent u w) who call answer else (if r then give_receive (lent u w) who call answer else (if c then give_closed (lent u w) who call answer else (if a then give_attached (lent u w) who call answer else (if l then reply (forgo (lent u w) who) who (word_of call) answer else reply (lent u w) who (word_of call) answer)))))
          ≡ lent u (if s then give_send w who call answer else (if r then give_receive w who call answer else (if c then give_closed w who call answer else (if a then give_attached w who call answer else (if l then reply (forgo w who) who (word_of call) answer else reply w who (word_of call) answer)))))
      at true r c a l g k = send_lent w who call answer
      at false true c a l g k = receive_lent w who call answer (g refl (k refl))
      at false false true a l g k = closed_lent w who call answer
      at false false false true l g k = attached_lent w who call answer (g refl refl)
      at false false false false true g k = ap (λ v. reply v who (word_of call) answer) (forgo_lent w who)
      at false false false false false g k = refl

  pub give_lent : (w : World V) (who : ℕ) (call : Call) (answer : Answer) → Unread call answer → give (lent u w) who call answer ≡ lent u (give w who call answer)
  give_lent w who (calls.Hclose number) answer h = ap (λ v. reply v who words.Hclose answer) (some_lent (find (is_dead_as number) w.closings) _ _ refl (λ x e. refl))
  give_lent w who call answer h = class_lent w who call answer h

  pub expire_lent : (w : World V) (who : ℕ) → expire_one (lent u w) who ≡ lent u (expire_one w who)
  expire_lent w who = some_lent (call_of w who) _ _ refl (λ call e. give_lent w who call (late_answer call) (late_unread call))

  late_lent : (xs : List ℕ) (k : Kept V) → fold kept_expire_next (lend_kept k u) xs ≡ lend_kept (fold kept_expire_next k xs) u
  late_lent [] k = refl
  late_lent (x ∷ xs) k = ap (λ w. fold kept_expire_next (queued w k.ready k.early) xs) (expire_lent k.world x) ∙ late_lent xs (kept_expire_next k x)

  -- the deadlines that have passed, before all settles
  pub kept_late_lent : (k : Kept V) → kept_late (lend_kept k u) ≡ lend_kept (kept_late k) u
  kept_late_lent k = late_lent (passed k.world) (record k { world = begin k.world })

  -- ---- what is answered without a look

  pub choice_blind : (w : World V) (index : ℕ) (xs : List Clause) → choice_fault (lent u w) index xs ≡ choice_fault w index xs
  choice_blind w index [] = refl
  choice_blind w index (x ∷ xs) = ap (λ o. if_some (clause_fault w (end_of_clause x) (want_of x)) o (λ e. Some (Chosen index (Some e) None))) (choice_blind w (index + 1) xs)

  pub lookless_blind : (w : World V) (who : ℕ) (call : Call) → lookless_of (lent u w) who call ≡ lookless_of w who call
  lookless_blind w who (calls.Choose deadline all) = ap (λ o. option_or (when (is_cancelled w who) (Fault Ecanceled)) (option_or None o)) (choice_blind w 0 all)
  lookless_blind w who call = refl

  due_blind : (w : World V) (c : Coroutine V) → lookless_due (lent u w) c ≡ lookless_due w c
  due_blind w c = at (pending_call c.mode)
    where
      at : (o : Option Call) → if_some o None (λ call. if_some (lookless_of (lent u w) c.number call) None (λ answer. due c.number call answer)) ≡ if_some o None (λ call. if_some (lookless_of w c.number call) None (λ answer. due c.number call answer))
      at None = refl
      at (Some call) = ap (λ o. if_some o None (λ answer. due c.number call answer)) (lookless_blind w c.number call)

  -- ---- settling

  give_lookless_lent : (w : World V) → give_lookless (lent u w) ≡ lent u (give_lookless w)
  give_lookless_lent w =
      ap (λ o. if_some o (lent u w) (λ x. give (lent u w) x.0 x.1 x.2)) (first_same (lookless_due (lent u w)) (lookless_due w) w.coroutines (due_blind w))
      ∙ some_lent (first_some (lookless_due w) w.coroutines) _ _ refl (λ x e. give_lent w x.0 x.1 x.2 (first_has (lookless_due w) w.coroutines (λ c. due_unread w c x) e))

  leave_lent : (w : World V) (c : Coroutine V) → leave (lent u w) c ≡ lent u (leave w c)
  leave_lent w c = ap (λ (v : World V). record v { coroutines = (leave w c).coroutines; scopes = (leave w c).scopes }) (if_lent (c.number == 1) _ _ refl refl)

  finish_lent : (w : World V) (c : Coroutine V) → finish (lent u w) c ≡ lent u (finish w c)
  finish_lent w c =
      let free = free_all w c.number in
      ap (λ v. leave (release_all v c.number) c) (fold_lent free_bundle (highest_first (filter (is_owned_by w c.number) w.closings)) w (λ v x. refl))
      ∙ ap (λ v. leave v c) (fold_lent release (reverse (handles.numbers_of free.handles c.number)) free release_lent)
      ∙ leave_lent (release_all free c.number) c

  one_lent : (w : World V) → settle_one_lookless (lent u w) ≡ lent u (settle_one_lookless w)
  one_lent w = some_lent (find (can_finish w) w.coroutines) _ _ (give_lookless_lent w) (λ c e. finish_lent w c)

  within_lent : (n : ℕ) (w : World V) → lookless_within n (lent u w) ≡ lent u (lookless_within n w)
  within_lent zero w = refl
  within_lent (suc n) w = ap (lookless_within n) (one_lent w) ∙ within_lent n (settle_one_lookless w)

  pub settle_lent : (w : World V) → settle_lookless (lent u w) ≡ lent u (settle_lookless w)
  settle_lent w = within_lent (length w.coroutines) w
