-- Where no look finds anything, what settles and what expires draws no random number, and no look finds anything then either.
use Rattle.std.proofs.Common.{◌≡◌, ◌∙◌, ◌⊎◌, inl, inr, ℕ, zero, suc, ◌≤◌, ◌==◌, List, [], ◌∷◌, length, find, fold, cond, Bool, true, false, not, ◌&&◌, ◌||◌, Option, Some, None, if◌then◌else◌, refl, sym, ap, subst, arith}
use Rattle.std.specs.Prelude.{filter, reverse, map, option_map}
use Rattle.dill_scope.specs.Scopes as scopes
use Rattle.dill_scope.specs.Scopes.{Scopes}
use Rattle.dill_rules.specs.World.{begin}
use Rattle.dill_rules.specs.State.{State, lined, after, expire_next, expired, shut}
use Rattle.dill_rules.specs.Expiring.{passed}
use Rattle.rand_core.specs.Stream.{Stream}
use Rattle.dill_base.specs.declared.errno.Errno.{Errno}
use Rattle.dill_calls.specs.declared.answer.Answer.{Answer}
use Rattle.dill_calls.specs.declared.answer.Answer.TheVariants.{Fault}
use Rattle.dill_calls.specs.declared.call.Call.{Call}
use Rattle.dill_calls.specs.declared.call.Call.TheVariants as calls
use Rattle.dill_calls.specs.declared.ran.Note.TheVariants.{Freed}
use Rattle.dill_calls.specs.declared.word.Word.{Word}
use Rattle.dill_calls.specs.declared.word.Word.TheVariants as words
use Rattle.dill_calls.specs.CallTable.{word_of, named_by, gives_up}
use Rattle.dill_handles.specs.Handles as handles
use Rattle.dill_handles.specs.declared.entry.Entry.{Entry}
use Rattle.dill_scope.proofs.Numbered.{found_number}
use Rattle.dill_base.specs.Maps.{if_some, change, without, first_some}
use Rattle.dill_stack.specs.Interface.{Held}
use Rattle.dill_rules.specs.declared.coroutine.Closing.{Closing}
use Rattle.dill_rules.specs.declared.coroutine.Coroutine.{Coroutine}
use Rattle.dill_rules.specs.declared.thing.Thing.{Thing}
use Rattle.dill_rules.specs.declared.thing.Thing.TheVariants as things
use Rattle.dill_rules.specs.World.{World, is_coroutine, coroutine_of, call_of, reply, note, pending_call, from_start}
use Rattle.dill_rules.specs.Links as link
use Rattle.dill_rules.specs.Links.{Link, Links, look, is_link, change_link, with_stack, as_closing}
use Rattle.dill_rules.specs.Naming.{links, draws_of}
use Rattle.dill_rules.specs.Owning.{entry_of, is_dead_as, drop, release, free_bundle}
use Rattle.dill_rules.specs.Sockets.{link_of, link_number, on_link, on_named}
use Rattle.dill_rules.specs.Directions.{is_send, is_receive, is_handshake}
use Rattle.dill_rules.specs.LinkAnswers.{is_tcp_close, reads}
use Rattle.dill_rules.specs.Linking.{give_stack_up}
use Rattle.dill_rules.specs.Giving.{is_read, look_on, after_send, is_connecting_for, give_close, give_send, give_receive, give_attached, give_closed, forgo, give_forgone, give_class, give}
use Rattle.dill_rules.specs.Answers.{answer_of}
use Rattle.dill_rules.specs.Entering.{late_answer}
use Rattle.dill_rules.specs.Expiring.{expire_one}
use Rattle.dill_rules.specs.Settling.{IsSettled, highest_first, is_owned_by, can_finish, free_all, release_all, outcome_of, leave, finish, answer_due, give_first, settle_one, settle_within, settle, pass_all}
use Rattle.dill_stack.specs.Again.{LooksAgain}
use Rattle.laws_queue.specs.Well.{bit, Numbered}
use Rattle.laws_queue.proofs.Besides.{pass_all_besides}
use Rattle.laws_queue.proofs.Settling.{settles_all}
use Rattle.laws_sound.specs.Order.{IsInOrder}
use Rattle.laws_sound.specs.Orderly.{IsOrderly, weigh}
use Rattle.laws_sound.proofs.Answering.{settle_goes}
use Rattle.laws_sound.proofs.Ordering.{order_anyway}
use Rattle.laws_sound.proofs.Fitting.{has_number}
use Rattle.laws_sound.proofs.Shutting.{once}
use Rattle.laws_queue.specs.Lending.{lent}
use Rattle.laws_blind.proofs.Giving.{Unread, receive_stays, late_unread, lookless_unread}
use Rattle.laws_looks.specs.Readers.{In, Pends, LooksApart}
use Rattle.laws_looks.specs.Calm.{Spent, Names, Restful, DrawsNothing}
use Rattle.laws_looks.proofs.Lists.{itself, both_true, in_without, find_in, first_in}
use Rattle.laws_looks.proofs.Stays.{find_rested}
use Rattle.laws_looks.proofs.Fewer.{named_once, pends_same, fewer_reply, fewer_lined, fewer_within, fewer_apart}
use Rattle.laws_looks.proofs.Quieted.{quiet_apart, passed_settled, due_as, calm_all, found_change}
use Rattle.laws_looks.proofs.Answered.{answers_same}
use Rattle.laws_looks.proofs.Spent.{SameHalf, half_spent, asked_is, after_half}

-- a link that is marked keeps its stack
marked : (mark : Link → Link) → ((x : Link) → (mark x).number ≡ x.number) → ((x : Link) → (mark x).stack ≡ x.stack) → (l m : ℕ) (xs : List Link) (y : Link) → find (is_link m) (change (is_link l) mark xs) ≡ Some y → (x : Link) × (find (is_link m) xs ≡ Some x) × (y.stack ≡ x.stack)
marked mark number stack l m xs y e = let r = found_change mark number l m xs y e in (r.0, r.1, at r.0 r.2)
  where
    at : (x : Link) → (y ≡ x) ⊎ ((m ≡ l) × (y ≡ mark x)) → y.stack ≡ x.stack
    at x (inl same) = ap (λ z. z.stack) same
    at x (inr here) = ap (λ z. z.stack) here.1 ∙ stack x

module _ {V : Type 0} where
  -- fewer are pending, fewer numbers are live, and stacks and words are as they were
  pub record Calmly (w v : World V) : Type 0 where
    pub random : v.random ≡ w.random
    pub pends : (who : ℕ) (call : Call) → Pends v who call → Pends w who call
    pub names : (n l : ℕ) → Names v n l → Names w n l
    pub stacks : (l : ℕ) (y : Link) → look v.links l ≡ Some y → (x : Link) × (look w.links l ≡ Some x) × (y.stack ≡ x.stack)

  -- rest sees no random number
  pub rest_lent : (w : World V) (u : Stream) → Restful w → Restful (lent u w)
  rest_lent w u r = record { calm = λ who call n l x p rd e nm i. r.calm who call n l x p rd e nm i; apart = λ who other call more n m l p q s rd e f i j. r.apart who other call more n m l p q s rd e f i j }

  pub calmly_same : (w v : World V) → v.random ≡ w.random → v.coroutines ≡ w.coroutines → v.handles ≡ w.handles → v.links ≡ w.links → Calmly w v
  calmly_same w v e f g h = record {
    random = e;
    pends = pends_same w v f;
    names = λ n l p. record { entry = p.entry; there = subst (λ (x : handles.Handles Thing). In p.entry x.entries) g p.there; number = p.number; link = p.link };
    stacks = λ l y i. (y, subst (λ (x : Links). look x l ≡ Some y) h i, refl);
  }

  -- a round begins
  pub calmly_rested : (w v : World V) → v.random ≡ w.random → v.coroutines ≡ w.coroutines → v.handles ≡ w.handles → v.links ≡ link.rested w.links → Calmly w v
  calmly_rested w v e f g h = record {
    random = e;
    pends = pends_same w v f;
    names = (calmly_same w (record w { handles = v.handles }) refl refl g refl).names;
    stacks = λ l y i. at l (look w.links l) refl y (sym (find_rested l w.links.all) ∙ ap (λ (x : Links). look x l) (sym h) ∙ i);
  }
    where
      at : (l : ℕ) (o : Option Link) → look w.links l ≡ o → (y : Link) → option_map link.rested_link o ≡ Some y → (x : Link) × (look w.links l ≡ Some x) × (y.stack ≡ x.stack)
      at l None i y j = cc
      at l (Some x) i y j = let it : link.rested_link x ≡ y = cc in (x, i, ap (λ (z : Link). z.stack) (sym it))

  calmly_then : (w v u : World V) → Calmly w v → Calmly v u → Calmly w u
  calmly_then w v u a b = record {
    random = b.random ∙ a.random;
    pends = λ who call p. a.pends who call (b.pends who call p);
    names = λ n l p. a.names n l (b.names n l p);
    stacks = λ l y i. let s = b.stacks l y i in let r = a.stacks l s.0 s.1 in (r.0, r.1, s.2 ∙ r.2);
  }

  calmly_some : {A : Type 0} (o : Option A) (w : World V) (f : A → World V) → ((a : A) → Calmly w (f a)) → Calmly w (if_some o w f)
  calmly_some None w f h = calmly_same w w refl refl refl refl
  calmly_some (Some a) w f h = h a

  calmly_each : {A : Type 0} (f : World V → A → World V) (xs : List A) (w : World V) → ((v : World V) (a : A) → Calmly v (f v a)) → Calmly w (fold f w xs)
  calmly_each f [] w h = calmly_same w w refl refl refl refl
  calmly_each f (x ∷ xs) w h = calmly_then w (f w x) (fold f (f w x) xs) (h w x) (calmly_each f xs (f w x) h)

  pub calmly_reply : (w : World V) (who : ℕ) (word : Word) (answer : Answer) → Calmly w (reply w who word answer)
  calmly_reply w who word answer = record {
    random = refl;
    pends = (fewer_reply w who word answer).calls;
    names = λ n l p. p;
    stacks = λ l y i. (y, i, refl);
  }

  pub calmly_mark : (w : World V) (l : ℕ) (mark : Link → Link) → ((x : Link) → (mark x).number ≡ x.number) → ((x : Link) → (mark x).stack ≡ x.stack) → Calmly w (on_link w l mark)
  calmly_mark w l mark number stack = record {
    random = refl;
    pends = λ who call p. p;
    names = λ n m p. p;
    stacks = λ m y i. marked mark number stack l m w.links.all y i;
  }

  calmly_drop : (w : World V) (thing : Thing) → Calmly w (drop w thing)
  calmly_drop w (things.Bundle name) = calmly_same w w refl refl refl refl
  calmly_drop w (things.End end) = calmly_same w _ refl refl refl refl
  calmly_drop w (things.Listener l) = calmly_mark w l as_closing (λ x. refl) (λ x. refl)
  calmly_drop w (things.Socket l) = calmly_mark w l as_closing (λ x. refl) (λ x. refl)
  calmly_drop w (things.Value kind value) = calmly_same w w refl refl refl refl

  calmly_retire : (w : World V) (number : ℕ) → Calmly w (record w { handles = handles.retire w.handles number })
  calmly_retire w number = record {
    random = refl;
    pends = λ who call p. p;
    names = λ n l p. record { entry = p.entry; there = in_without (handles.is_entry number) w.handles.entries p.entry p.there; number = p.number; link = p.link };
    stacks = λ l y i. (y, i, refl);
  }

  calmly_release : (w : World V) (number : ℕ) → Calmly w (release w number)
  calmly_release w number =
      calmly_some (entry_of w number) w (λ x. note (drop (record w { handles = handles.retire w.handles number }) x.thing) (Freed number))
      (λ x. let less : World V = record w { handles = handles.retire w.handles number } in
      calmly_then w less (note (drop less x.thing) (Freed number)) (calmly_retire w number) (calmly_then less (drop less x.thing) (note (drop less x.thing) (Freed number)) (calmly_drop less x.thing) (calmly_same (drop less x.thing) (note (drop less x.thing) (Freed number)) refl refl refl refl)))

  calmly_unkept : (w : World V) (count : ℕ) → Calmly w (record w { handles = handles.unkeep w.handles count })
  calmly_unkept w count = record {
    random = refl;
    pends = λ who call p. p;
    names = λ n l p. p;
    stacks = λ l y i. (y, i, refl);
  }

  calmly_up : (w : World V) (who : ℕ) (call : Call) (e : Errno) (kept : ℕ) → Calmly w (give_stack_up w who call e kept)
  calmly_up w who call e kept =
      let less : World V = record w { handles = handles.unkeep w.handles kept } in
      let v = if_some (named_by call) w (λ number. release less number) in
      calmly_then w v (reply v who (word_of call) (Fault e)) (calmly_some (named_by call) w (λ number. release less number) (λ number. calmly_then w less (release less number) (calmly_unkept w kept) (calmly_release less number))) (calmly_reply v who (word_of call) (Fault e))

  calmly_forgone : (w : World V) (who : ℕ) → Calmly w (forgo w who)
  calmly_forgone w who =
      let less : World V = record w { handles = handles.unkeep w.handles 1 } in
      calmly_then w less (forgo w who) (calmly_unkept w 1) (at less (find (is_connecting_for who) w.links.all))
    where
      at : (less : World V) (o : Option Link) → Calmly less (if_some o (record less { links = link.unkeep less.links }) (λ x. on_link less x.number as_closing))
      at less None = record { random = refl; pends = λ who call p. p; names = λ n l p. p; stacks = λ l y i. (y, i, refl) }
      at less (Some x) = calmly_mark less x.number as_closing (λ y. refl) (λ y. refl)

  calmly_free : (w : World V) (x : Closing) → Calmly w (free_bundle w x)
  calmly_free w x = calmly_same w (free_bundle w x) refl refl refl refl

  calmly_finish : (w : World V) (c : Coroutine V) → Calmly w (finish w c)
  calmly_finish w c =
      let freed = free_all w c.number in
      let bare = release_all freed c.number in
      calmly_then w freed (finish w c) (calmly_each free_bundle (highest_first (filter (is_owned_by w c.number) w.closings)) w calmly_free)
      (calmly_then freed bare (finish w c) (calmly_each release (reverse (handles.numbers_of freed.handles c.number)) freed calmly_release) (leaves bare))
    where
      ended : (b : Bool) (v u : World V) → Calmly v u → Calmly v (record (if b then u else v) { coroutines = without (is_coroutine c.number) v.coroutines })
      ended true v u s = record {
        random = s.random;
        pends = λ who call p. record { one = p.one; there = in_without (is_coroutine c.number) v.coroutines p.one p.there; number = p.number; mode = p.mode };
        names = s.names;
        stacks = s.stacks;
      }
      ended false v u s = record {
        random = refl;
        pends = λ who call p. record { one = p.one; there = in_without (is_coroutine c.number) v.coroutines p.one p.there; number = p.number; mode = p.mode };
        names = λ n l p. p;
        stacks = λ l y i. (y, i, refl);
      }

      leaves : (v : World V) → Calmly v (leave v c)
      leaves v =
          let start = from_start (record v { ended = Some (outcome_of c.mode) }) in
          let u = ended (c.number == 1) v start (calmly_rested v start refl refl refl refl) in
          record { random = u.random; pends = λ who call p. u.pends who call p; names = λ n l p. u.names n l p; stacks = u.stacks }

  -- what is calm stays so
  pub calmly_rests : (w v : World V) → Calmly w v → Restful w → Restful v
  calmly_rests w v c r = record {
    calm = λ who call n l y p rd e nm i. let s = c.stacks l y i in subst (Spent call) (sym s.2) (r.calm who call n l s.0 (c.pends who call p) rd e (c.names n l nm) s.1);
    apart = λ who other call more n m l p q s rd e f nm nn. r.apart who other call more n m l (c.pends who call p) (c.pends other more q) s rd e f (c.names n l nm) (c.names m l nn);
  }

  -- a calm step
  pub record Rests (w v : World V) : Type 0 where
    pub restful : Restful v
    pub random : v.random ≡ w.random

  rests_calmly : (w v : World V) → Restful w → Calmly w v → Rests w v
  rests_calmly w v r c = record { restful = calmly_rests w v c r; random = c.random }

  pub rests_then : (w v u : World V) → Rests w v → Rests v u → Rests w u
  rests_then w v u a b = record { restful = b.restful; random = b.random ∙ a.random }

  pub named_link : (w : World V) (n l : ℕ) → link_number w n ≡ Some l → Names w n l
  named_link w n l e = at (entry_of w n) refl e
    where
      at : (o : Option (Entry Thing)) → entry_of w n ≡ o → if_some o None (λ x. link_of x.thing) ≡ Some l → Names w n l
      at None f g = cc
      at (Some x) f g = record { entry = x; there = find_in (handles.is_entry n) w.handles.entries x f; number = found_number (λ (y : Entry Thing). y.number) n w.handles.entries x f; link = g }

  -- ---- a send is answered

  -- what a send leaves to receives leaves its link at rest
  pub half_rests : (w : World V) (who : ℕ) (call : Call) (n l : ℕ) (f : Held → Held) → Restful w → Pends w who call → is_send (word_of call) ≡ true → named_by call ≡ Some n → Names w n l → ((s : Held) → SameHalf s (f s)) → Restful (on_link w l (with_stack f))
  half_rests w who call n l f r p s e nl h = record { calm = λ other more m k y q rd g nm i. let c = found_change (with_stack f) (λ x. refl) l k w.links.all y i in calm other more m k y q rd g nm c.0 c.1 c.2; apart = r.apart }
    where
      calm : (other : ℕ) (more : Call) (m k : ℕ) (y : Link) → Pends w other more → reads more ≡ true → named_by more ≡ Some m → Names w m k → (x : Link) → look w.links k ≡ Some x → (y ≡ x) ⊎ ((k ≡ l) × (y ≡ with_stack f x)) → Spent more y.stack
      calm other more m k y q rd g nm x i (inl same) = subst (λ z. Spent more z.stack) (sym same) (r.calm other more m k x q rd g nm i)
      calm other more m k y q rd g nm x i (inr here) =
          let want = asked_is more m g (r.apart who other call more n m l p q s rd e g nl (subst (λ z. Names w m z) here.0 nm)) in
          subst (λ z. Spent more z.stack) (sym here.1) (half_spent more want.0 x.stack (f x.stack) want.1 (h x.stack) (r.calm other more m k x q rd g nm i))

  sent_rests : (w : World V) (who : ℕ) (call : Call) (answer : Answer) (n : ℕ) → Restful w → Pends w who call → is_send (word_of call) ≡ true → named_by call ≡ Some n → Rests w (on_named w n (with_stack (after_send (word_of call) answer)))
  sent_rests w who call answer n r p s e = at (link_number w n) refl
    where
      at : (o : Option ℕ) → link_number w n ≡ o → Rests w (if_some o w (λ l. on_link w l (with_stack (after_send (word_of call) answer))))
      at None i = record { restful = r; random = refl }
      at (Some l) i = record { restful = half_rests w who call n l (after_send (word_of call) answer) r p s e (named_link w n l i) (after_half (word_of call) answer); random = refl }

  -- ---- answers

  named_rests : (w : World V) (who : ℕ) (call : Call) (answer : Answer) → Restful w → Pends w who call → is_send (word_of call) ≡ true → Rests w (if_some (named_by call) w (λ n. on_named w n (with_stack (after_send (word_of call) answer))))
  named_rests w who call answer r p s = at (named_by call) refl
    where
      at : (o : Option ℕ) → named_by call ≡ o → Rests w (if_some o w (λ n. on_named w n (with_stack (after_send (word_of call) answer))))
      at None e = record { restful = r; random = refl }
      at (Some n) e = sent_rests w who call answer n r p s e

  rests_if : (b : Bool) (w v u : World V) → (b ≡ true → Rests w v) → (b ≡ false → Rests w u) → Rests w (if b then v else u)
  rests_if true w v u e f = e refl
  rests_if false w v u e f = f refl

  rests_reply : (w v : World V) (who : ℕ) (word : Word) (answer : Answer) → Rests w v → Rests w (reply v who word answer)
  rests_reply w v who word answer r = rests_then w v (reply v who word answer) r (rests_calmly v (reply v who word answer) r.restful (calmly_reply v who word answer))

  attached_rests : (w : World V) (who : ℕ) (call : Call) (answer : Answer) → Restful w → is_read answer ≡ false → Rests w (give_attached w who call answer)
  attached_rests w who call (Fault e) r f = at (is_read (Fault e)) f
    where
      at : (b : Bool) → b ≡ false → Rests w (give_stack_up (if b then look_on w call else w) who call e (draws_of call))
      at true g = cc
      at false g = rests_calmly w (give_stack_up w who call e (draws_of call)) r (calmly_up w who call e (draws_of call))
  attached_rests w who call answer r f = cc

  closed_rests : (w : World V) (who : ℕ) (call : Call) (answer : Answer) → Restful w → Rests w (give_closed w who call answer)
  closed_rests w who call (Fault e) r = rests_calmly w (give_stack_up w who call e 0) r (calmly_up w who call e 0)
  closed_rests w who call answer r =
      let v = if_some (named_by call) w (release w) in
      rests_calmly w (reply v who (word_of call) answer) r (calmly_then w v (reply v who (word_of call) answer) (calmly_some (named_by call) w (release w) (calmly_release w)) (calmly_reply v who (word_of call) answer))

  class_rests : (w : World V) (who : ℕ) (call : Call) (answer : Answer) → Restful w → Pends w who call → Unread call answer → Rests w (give_class w who call answer)
  class_rests w who call answer r p u =
      let word = word_of call in
      rests_if (is_send word) w (give_send w who call answer) _
      (λ e. let v = if_some (named_by call) w (λ number. on_named w number (with_stack (after_send word answer))) in rests_reply w v who word answer (named_rests w who call answer r p e))
      (λ e. rests_if (is_receive word) w (give_receive w who call answer) _
      (λ f. received f (u (reads_as (is_send word) (is_receive word) (is_handshake word || gives_up word) e (inl f)) (receive_stays word f)))
      (λ f. rests_if (is_tcp_close word) w (give_closed w who call answer) _
      (λ g. closed_rests w who call answer r)
      (λ g. rests_if (is_handshake word || gives_up word) w (give_attached w who call answer) _
      (λ i. attached_rests w who call answer r (u (reads_as (is_send word) (is_receive word) (is_handshake word || gives_up word) e (inr i)) g))
      (λ i. rests_if (links word) w (give_forgone w who call answer) (reply w who word answer)
      (λ j. rests_calmly w (give_forgone w who call answer) r (calmly_then w (forgo w who) (give_forgone w who call answer) (calmly_forgone w who) (calmly_reply (forgo w who) who word answer)))
      (λ j. rests_calmly w (reply w who word answer) r (calmly_reply w who word answer))))))
    where
      reads_as : (a b c : Bool) → a ≡ false → (b ≡ true) ⊎ (c ≡ true) → ((a || (b || c)) && not a) ≡ true
      reads_as true b c e f = cc
      reads_as false true c e f = refl
      reads_as false false true e f = refl
      reads_as false false false e (inl f) = cc
      reads_as false false false e (inr f) = cc

      received : is_receive (word_of call) ≡ true → is_read answer ≡ false → Rests w (give_receive w who call answer)
      received f g = at (is_read answer) g
        where
          at : (b : Bool) → b ≡ false → Rests w (reply (if b then look_on w call else w) who (word_of call) answer)
          at true h = cc
          at false h = rests_calmly w (reply w who (word_of call) answer) r (calmly_reply w who (word_of call) answer)

  pub give_rests : (w : World V) (who : ℕ) (call : Call) (answer : Answer) → Restful w → Pends w who call → Unread call answer → Rests w (give w who call answer)
  give_rests w who (calls.Hclose number) answer r p u =
      let v = if_some (find (is_dead_as number) w.closings) w (free_bundle w) in
      rests_calmly w (give_close w who number answer) r (calmly_then w v (reply v who words.Hclose answer) (calmly_some (find (is_dead_as number) w.closings) w (free_bundle w) (λ x. calmly_free w x)) (calmly_reply v who words.Hclose answer))
  give_rests w who call answer r p u = class_rests w who call answer r p u

  -- ---- what is due is no look's answer

  due_unread : (w : World V) (who : ℕ) (call : Call) (answer : Answer) → Restful w → Pends w who call → answer_of w who call ≡ Some answer → Unread call answer
  due_unread w who call answer r p e = lookless_unread w who call answer (sym (answers_same w who call (λ rd n l x f g h. r.calm who call n l x p rd f (named_link w n l g) h)) ∙ e)

  -- ---- settling and expiries

  due_call : (w : World V) (c : Coroutine V) (x : ℕ × Call × Answer) → answer_due w c ≡ Some x → (c.number ≡ x.0) × (pending_call c.mode ≡ Some x.1) × (answer_of w x.0 x.1 ≡ Some x.2)
  due_call w c x e = at (pending_call c.mode) refl e
    where
      by : (call : Call) → pending_call c.mode ≡ Some call → (o : Option Answer) → answer_of w c.number call ≡ o → if_some o None (λ answer. due_as c.number call answer) ≡ Some x → (c.number ≡ x.0) × (pending_call c.mode ≡ Some x.1) × (answer_of w x.0 x.1 ≡ Some x.2)
      by call f None g h = cc
      by call f (Some answer) g h =
          let it : ◌≡◌ {A = ℕ × Call × Answer} (c.number, call, answer) x = cc in
          subst (λ (y : ℕ × Call × Answer). (c.number ≡ y.0) × (pending_call c.mode ≡ Some y.1) × (answer_of w y.0 y.1 ≡ Some y.2)) it (refl, f, g)

      at : (o : Option Call) → pending_call c.mode ≡ o → if_some o None (λ call. if_some (answer_of w c.number call) None (λ answer. due_as c.number call answer)) ≡ Some x → (c.number ≡ x.0) × (pending_call c.mode ≡ Some x.1) × (answer_of w x.0 x.1 ≡ Some x.2)
      at None f g = cc
      at (Some call) f g = by call f (answer_of w c.number call) refl g

  first_rests : (w : World V) → Restful w → Rests w (give_first w)
  first_rests w r = at (first_some (answer_due w) w.coroutines) refl
    where
      at : (o : Option (ℕ × Call × Answer)) → first_some (answer_due w) w.coroutines ≡ o → Rests w (if_some o w (λ x. give w x.0 x.1 x.2))
      at None e = record { restful = r; random = refl }
      at (Some x) e =
          let i = first_in (answer_due w) w.coroutines x e in
          let d = due_call w i.0 x i.2 in
          let p : Pends w x.0 x.1 = record { one = i.0; there = i.1; number = d.0; mode = d.1 } in
          give_rests w x.0 x.1 x.2 r p (due_unread w x.0 x.1 x.2 r p d.2)

  pub one_rests : (w : World V) → Restful w → Rests w (settle_one w)
  one_rests w r = at (find (can_finish w) w.coroutines)
    where
      at : (o : Option (Coroutine V)) → Rests w (if_some o (give_first w) (finish w))
      at None = first_rests w r
      at (Some c) = rests_calmly w (finish w c) r (calmly_finish w c)

  pub within_rests : (k : ℕ) (w : World V) → Restful w → Rests w (settle_within k w)
  within_rests zero w r = record { restful = r; random = refl }
  within_rests (suc k) w r = let one = one_rests w r in rests_then w (settle_one w) (settle_within k (settle_one w)) one (within_rests k (settle_one w) one.restful)

  pub passes_rest : (w : World V) → Restful w → pass_all w ≡ w
  passes_rest w r = calm_all w.coroutines w (λ c i call e rd n l x f g h. r.calm c.number call n l x (record { one = c; there = i; number = refl; mode = e }) rd f (named_link w n l g) h)

  settle_rests : (w : World V) → Restful w → Rests w (settle w)
  settle_rests w r =
      let v = settle_within (length w.coroutines) w in
      let one = within_rests (length w.coroutines) w r in
      subst (Rests w) (sym (passes_rest v one.restful)) one

  pub expire_rests : (w : World V) (who : ℕ) → Restful w → Rests w (expire_one w who)
  expire_rests w who r = at (call_of w who) refl
    where
      pends : (call : Call) (o : Option (Coroutine V)) → coroutine_of w who ≡ o → if_some o None (λ c. pending_call c.mode) ≡ Some call → Pends w who call
      pends call None e f = cc
      pends call (Some c) e f = record { one = c; there = find_in (is_coroutine who) w.coroutines c e; number = found_number (λ (d : Coroutine V). d.number) who w.coroutines c e; mode = f }

      at : (o : Option Call) → call_of w who ≡ o → Rests w (if_some o w (λ call. give w who call (late_answer call)))
      at None e = record { restful = r; random = refl }
      at (Some call) e = give_rests w who call (late_answer call) r (pends call (coroutine_of w who) refl e) (late_unread call)

  -- ---- whole steps

  -- answers that get their place
  pub calmly_lined : (w : World V) → Calmly w (record w { coroutines = map lined w.coroutines })
  calmly_lined w = record {
    random = refl;
    pends = (fewer_lined w).calls;
    names = λ n l p. p;
    stacks = λ l y i. (y, i, refl);
  }

  after_rests : (s : State V) (w v : World V) → Rests w v → Rests w (after s v).world
  after_rests s w v r = rests_then w v (after s v).world r (rests_calmly v (after s v).world r.restful (calmly_lined v))

  late_rests : (xs : List ℕ) (s : State V) → Restful s.world → Rests s.world (fold expire_next s xs).world
  late_rests [] s r = record { restful = r; random = refl }
  late_rests (who ∷ xs) s r =
      let t = expire_next s who in
      let one = after_rests s s.world (expire_one s.world who) (expire_rests s.world who r) in
      rests_then s.world t.world (fold expire_next t xs).world one (late_rests xs t one.restful)

  expired_rests : (s : State V) → Restful s.world → Rests s.world (expired s).world
  expired_rests s r =
      let b : State V = record s { world = begin s.world } in
      let begun = rests_calmly s.world b.world r (calmly_same s.world b.world refl refl refl refl) in
      let late = fold expire_next b (passed s.world) in
      let one = rests_then s.world b.world late.world begun (late_rests (passed s.world) b begun.restful) in
      rests_then s.world late.world (expired s).world one (after_rests late late.world (settle late.world) (settle_rests late.world one.restful))

  shut_rests : (s : State V) → Restful s.world → Rests s.world (shut s).world
  shut_rests s r =
      let v : World V = record (from_start (begin s.world)) { scopes = scopes.close s.world.scopes 0 } in
      let one = rests_calmly s.world v r (calmly_rested s.world v refl refl refl refl) in
      rests_then s.world v (shut s).world one (after_rests s v (settle v) (settle_rests v one.restful))

-- the one of its number
pub member_weighs : (n : ℕ) (xs : List (Entry Thing)) (x : Entry Thing) → In x xs → x.number ≡ n → 1 ≤ weigh (λ y. bit (has_number n y)) xs
member_weighs n [] x i e = absurd i
member_weighs n (y ∷ ys) x (inl same) e =
    let one : bit (y.number == n) ≡ 1 = ap bit (ap (λ (z : Entry Thing). z.number == n) (sym same) ∙ ap (λ k. k == n) e ∙ itself n) in
    omega (arith, one)
member_weighs n (y ∷ ys) x (inr i) e = let r = member_weighs n ys x i e in omega (arith, r)

member_found : (n : ℕ) (xs : List (Entry Thing)) (x : Entry Thing) → weigh (λ y. bit (has_number n y)) xs ≤ 1 → In x xs → x.number ≡ n → find (has_number n) xs ≡ Some x
member_found n [] x l i e = absurd i
member_found n (y ∷ ys) x l i e = at (has_number n y) refl i (λ j k. member_found n ys x k j e)
  where
    at : (b : Bool) → has_number n y ≡ b → (x ≡ y) ⊎ In x ys → (In x ys → weigh (λ z. bit (has_number n z)) ys ≤ 1 → find (has_number n) ys ≡ Some x) → cond b (Some y) (find (has_number n) ys) ≡ Some x
    at true g (inl same) rest = ap Some (sym same)
    at true g (inr j) rest = let r = member_weighs n ys x j e in let one : bit (has_number n y) ≡ 1 = ap bit g in absurd (omega (arith, l, r, one))
    at false g (inl same) rest = let bad : true ≡ false = sym (itself n) ∙ ap (λ k. k == n) (sym e) ∙ ap (λ (z : Entry Thing). z.number == n) same ∙ g in cc
    at false g (inr j) rest = let none : bit (has_number n y) ≡ 0 = ap bit g in rest j (omega (arith, l, none))

module _ {V : Type 0} where
  pub names_number : (w : World V) (n l : ℕ) → IsInOrder w → Names w n l → link_number w n ≡ Some l
  names_number w n l o p = ap (λ q. if_some q None (λ x. link_of x.thing)) (member_found n w.handles.entries p.entry (once w n o.fits) p.there p.number) ∙ p.link

  -- behind the looks of a settled world no look finds anything
  pub rested : (laws : LooksAgain) (w : World V) → IsInOrder w → LooksApart w → IsSettled w → Restful (pass_all w)
  rested laws w o a s =
      let numbered = o.fits.numbered in
      let q = quiet_apart laws w numbered a s in
      let b = pass_all_besides w in
      let same : (pass_all w).coroutines ≡ w.coroutines = ap (λ (v : World V). v.coroutines) b.same in
      let hands : (pass_all w).handles ≡ w.handles = ap (λ (v : World V). v.handles) b.same in
      let to_old : (n l : ℕ) → Names (pass_all w) n l → Names w n l = λ n l p. record { entry = p.entry; there = subst (λ (x : handles.Handles Thing). In p.entry x.entries) hands p.there; number = p.number; link = p.link } in
      record {
        calm = λ who call n l x p rd e nm i.
            let o_p = pends_same w (pass_all w) same who call p in
            q.calm o_p.one o_p.there call o_p.mode rd n l x e (ap (λ (g : handles.Handles Thing). if_some (handles.look g n) None (λ y. link_of y.thing)) hands ∙ names_number w n l o (to_old n l nm)) i;
        apart = λ who other call more n m l p r sd rd e f nm nn.
            let at : n ≡ m = named_once w a n m l (names_number w n l o (to_old n l nm)) (names_number w m l o (to_old m l nn)) in
            a.sends m who other call more (pends_same w (pass_all w) same who call p) (pends_same w (pass_all w) same other more r) sd (e ∙ ap Some at)
            (both_true (reads more) (if_some (named_by more) false (λ k. k == m)) rd (ap (λ q. if_some q false (λ k. k == m)) f ∙ itself m));
      }

  -- the world before the looks is in order where the world behind them is
  before_looks : (w : World V) → IsInOrder (pass_all w) → IsInOrder w
  before_looks w o =
      let b = pass_all_besides w in
      let v = pass_all w in
      subst IsInOrder (ap (λ (x : World V). record x { links = w.links; random = w.random }) b.same) (order_anyway v v.channels w.links v.place w.random v.moment v.notes o)

  -- where the numbers of coroutines rise, and the world behind the settling is in order
  pub settles_from : LooksAgain → (w : World V) → Numbered 0 w.coroutines w.last_coroutine → IsInOrder (settle w) → LooksApart w → IsSettled (settle w) × Restful (settle w)
  settles_from laws w numbered order a =
      let n = length w.coroutines in
      let v = settle_within n w in
      let o = before_looks v order in
      let apart = fewer_apart w v (fewer_within n w) a in
      let s = settles_all V w numbered in
      (passed_settled laws v o.fits.numbered apart s, rested laws v o apart s)

  settles : LooksAgain → (w : World V) → IsOrderly w → LooksApart w → IsSettled (settle w) × Restful (settle w)
  settles laws w g a = settles_from laws w g.order.fits.numbered (settle_goes w g).good.order a

pub draws_nothing : {V : Type 0} → LooksAgain → DrawsNothing V
draws_nothing laws = record {
  settles = settles laws;
  settled = λ w r. let s = settle_rests w r in (s.restful, s.random);
  expires = λ w who r. let s = expire_rests w who r in (s.restful, s.random);
  expired = λ s r. let t = expired_rests s r in (t.restful, t.random);
  shut = λ s r. let t = shut_rests s r in (t.restful, t.random);
}
