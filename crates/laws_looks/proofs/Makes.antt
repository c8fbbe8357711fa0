-- A reply that makes a link, finishes a connect or lets a link go is seen by no look.
use Rattle.std.proofs.Common.{◌≡◌, ◌∙◌, ◌⊎◌, inl, inr, ℕ, ◌+◌, ◌≤◌, ◌<◌, List, [], ◌∷◌, ◌++◌, find, cond, Bool, true, false, not, ◌&&◌, Option, Some, None, if◌then◌else◌, refl, sym, ap, subst, arith}
use Rattle.std.specs.Prelude.{is_none}
use Rattle.dill_base.specs.declared.errno.Errno.{Errno}
use Rattle.dill_base.specs.Maps.{if_some, without}
use Rattle.dill_calls.specs.declared.answer.Answer.TheVariants.{Fault, Number}
use Rattle.dill_calls.specs.declared.call.Call.{Call}
use Rattle.dill_calls.specs.declared.word.Word.{Word}
use Rattle.dill_calls.specs.declared.word.Word.TheVariants as words
use Rattle.dill_calls.specs.CallTable.{word_of, named_by}
use Rattle.dill_handles.specs.Handles as handles
use Rattle.dill_handles.specs.declared.entry.Entry.{Entry}
use Rattle.dill_kernel.specs.declared.replies.KernelAsk.{KernelAsk}
use Rattle.dill_kernel.specs.declared.replies.KernelAsk.TheVariants as asks
use Rattle.dill_kernel.specs.declared.replies.KernelReply.{KernelReply}
use Rattle.dill_kernel.specs.declared.replies.KernelReply.TheVariants as replies
use Rattle.dill_stack.specs.Again.{LooksAgain}
use Rattle.dill_rules.specs.declared.coroutine.Coroutine.{Coroutine}
use Rattle.dill_rules.specs.declared.thing.Thing.{Thing}
use Rattle.dill_rules.specs.declared.thing.Thing.TheVariants as things
use Rattle.dill_rules.specs.World.{Place, World, coroutine_of, is_coroutine, reply, pending_call}
use Rattle.dill_rules.specs.Links as link
use Rattle.dill_rules.specs.Links.{Link, Links, look, is_link, fresh_link, change_link, connector, as_stream, read_cold, write_cold, as_wrote}
use Rattle.dill_rules.specs.declared.link.Sort.{Sort}
use Rattle.dill_rules.specs.declared.link.Sort.TheVariants.{Listening, Connecting, Stream}
use Rattle.dill_rules.specs.Naming as naming
use Rattle.dill_rules.specs.Effects.{make, next_number}
use Rattle.dill_rules.specs.Sockets.{on_link}
use Rattle.dill_rules.specs.Directions.{is_send}
use Rattle.dill_rules.specs.LinkAnswers.{is_on_stack, reads}
use Rattle.dill_rules.specs.Giving.{give}
use Rattle.dill_rules.specs.Refusals.{is_accept}
use Rattle.dill_rules.specs.Answers.{answer_of}
use Rattle.dill_rules.specs.Trying.{Try, next_link, pending_on}
use Rattle.dill_rules.specs.Settling.{settle}
use Rattle.dill_rules.specs.Hearing.{fitting, listen_fault, connect_fault, accept_fault, linking_call, fail, give_handle, made, connector_of, heard_listen, heard_connect, heard_finish, heard_accept, heard_ask, heard}
use Rattle.dill_rules.specs.Lookless.{settle_lookless, look_once}
use Rattle.laws_queue.specs.Well.{bit}
use Rattle.laws_sound.specs.Order.{IsInOrder}
use Rattle.laws_sound.specs.Orderly.{weigh}
use Rattle.laws_sound.proofs.Counting.{holds}
use Rattle.laws_sound.proofs.Ordering.{order_anyway}
use Rattle.dill_scope.proofs.Numbered.{found_number}
use Rattle.laws_looks.specs.Readers.{In, Pends, Rising, may_name}
use Rattle.laws_looks.specs.Calm.{Spent, Names, Restful, IsCalm}
use Rattle.laws_looks.specs.OneLook.{LooksAt, asked_link, OneLookHears}
use Rattle.laws_looks.proofs.Lists.{itself, equal_is, reads_parts, find_in, in_push}
use Rattle.laws_looks.proofs.Stays.{next_above}
use Rattle.laws_looks.proofs.Fewer.{links_to, weigh_linked}
use Rattle.laws_looks.proofs.Quieted.{due_waits}
use Rattle.laws_looks.proofs.Restful.{calmly_mark, calmly_reply, calmly_rests, give_rests}
use Rattle.laws_looks.proofs.Between.{calm_beside, calm_mark}
use Rattle.laws_looks.proofs.Stirring.{live, live_low, sends_on_stack}
use Rattle.laws_looks.proofs.Replies.{rest_once, once_read, once_written, once_shut}

found_push : (k : ℕ) (xs : List Link) (x y : Link) → find (is_link k) (xs ++ x ∷ []) ≡ Some y → (find (is_link k) xs ≡ Some y) ⊎ (is_link k x ≡ true)
found_push k [] x y e = at (is_link k x) refl e
  where
    at : (b : Bool) → is_link k x ≡ b → cond b (Some x) None ≡ Some y → (find (is_link k) [] ≡ Some y) ⊎ (is_link k x ≡ true)
    at true f g = inr f
    at false f g = cc
found_push k (z ∷ zs) x y e = at (is_link k z) e (found_push k zs x y)
  where
    at : (b : Bool) → cond b (Some z) (find (is_link k) (zs ++ x ∷ [])) ≡ Some y → (find (is_link k) (zs ++ x ∷ []) ≡ Some y → (find (is_link k) zs ≡ Some y) ⊎ (is_link k x ≡ true)) → (cond b (Some z) (find (is_link k) zs) ≡ Some y) ⊎ (is_link k x ≡ true)
    at true f rest = inl f
    at false f rest = rest f

found_above : (low high k : ℕ) (xs : List Link) (y : Link) → Rising low xs high → find (is_link k) xs ≡ Some y → low < k
found_above low high k [] y r e = cc
found_above low high k (x ∷ xs) y r e = at (is_link k x) refl e (found_above x.number high k xs y r.1)
  where
    at : (b : Bool) → is_link k x ≡ b → cond b (Some x) (find (is_link k) xs) ≡ Some y → (find (is_link k) xs ≡ Some y → x.number < k) → low < k
    at true f g rest = let q : x.number ≡ k = equal_is x.number k f in let l = r.0 in omega (arith, q, l)
    at false f g rest = let s = rest g in let l = r.0 in omega (arith, s, l)

-- a link that is left was there
found_left : (low high l k : ℕ) (xs : List Link) (y : Link) → Rising low xs high → find (is_link k) (without (is_link l) xs) ≡ Some y → find (is_link k) xs ≡ Some y
found_left low high l k [] y r e = e
found_left low high l k (x ∷ xs) y r e = at (is_link l x) (is_link k x) refl e (found_left x.number high l k xs y r.1)
  where
    at : (a b : Bool) → is_link k x ≡ b → find (is_link k) (cond a xs (x ∷ without (is_link l) xs)) ≡ Some y → (find (is_link k) (without (is_link l) xs) ≡ Some y → find (is_link k) xs ≡ Some y) → cond b (Some x) (find (is_link k) xs) ≡ Some y
    at true true f g rest =
        let q : x.number ≡ k = equal_is x.number k f in
        let s = found_above x.number high k xs y r.1 g in
        absurd (omega (arith, q, s))
    at true false f g rest = g
    at false true f g rest = sym (ap (λ c. cond c (Some x) (find (is_link k) (without (is_link l) xs))) f) ∙ g
    at false false f g rest = rest (sym (ap (λ c. cond c (Some x) (find (is_link k) (without (is_link l) xs))) f) ∙ g)

-- a call that makes a link is on no stack
makes_off : (word : Word) → naming.links word ≡ true → is_on_stack word ≡ false
makes_off words.TcpListen e = refl
makes_off words.TcpAccept e = refl
makes_off words.TcpConnect e = refl
makes_off _ e = cc

stack_off : (a b : Bool) → (a && not b) ≡ true → a ≡ false → ⊥
stack_off true b e f = cc
stack_off false b e f = cc

weighs_one : {X : Type 0} (f : X → ℕ) (xs : List X) (x : X) → In x xs → f x ≡ 1 → 1 ≤ weigh f xs
weighs_one f [] x i e = absurd i
weighs_one f (y ∷ ys) x (inl same) e = let q : f y ≡ 1 = ap f (sym same) ∙ e in omega (arith, q)
weighs_one f (y ∷ ys) x (inr i) e = let r = weighs_one f ys x i e in omega (arith, r)

module _ {V : Type 0} where
  -- the listen, accept or connect that fails is pending
  linking_pends : (w : World V) (who : ℕ) (call : Call) → linking_call w who ≡ Some call → Pends w who call × (naming.links (word_of call) ≡ true)
  linking_pends w who call e = at (coroutine_of w who) refl e
    where
      sort : (c : Coroutine V) (more : Call) → coroutine_of w who ≡ Some c → pending_call c.mode ≡ Some more → (b : Bool) → naming.links (word_of more) ≡ b → (if b then Some more else None) ≡ Some call → Pends w who call × (naming.links (word_of call) ≡ true)
      sort c more f g true h i =
          let it : more ≡ call = cc in
          (record { one = c; there = find_in (is_coroutine who) w.coroutines c f; number = found_number (λ (d : Coroutine V). d.number) who w.coroutines c f; mode = g ∙ ap Some it }, ap (λ m. naming.links (word_of m)) (sym it) ∙ h)
      sort c more f g false h i = cc

      by : (c : Coroutine V) → coroutine_of w who ≡ Some c → (q : Option Call) → pending_call c.mode ≡ q → if_some q None (λ more. if naming.links (word_of more) then Some more else None) ≡ Some call → Pends w who call × (naming.links (word_of call) ≡ true)
      by c f None g h = cc
      by c f (Some more) g h = sort c more f g (naming.links (word_of more)) refl h

      at : (q : Option (Coroutine V)) → coroutine_of w who ≡ q → if_some (if_some q None (λ c. pending_call c.mode)) None (λ more. if naming.links (word_of more) then Some more else None) ≡ Some call → Pends w who call × (naming.links (word_of call) ≡ true)
      at None f g = cc
      at (Some c) f g = by c f (pending_call c.mode) refl g

  module _ (w : World V) (o : IsInOrder w) (c : IsCalm w) where
    fails : (e : Errno) (who : ℕ) → Restful (fail w e who)
    fails e who = at (linking_call w who) refl
      where
        at : (q : Option Call) → linking_call w who ≡ q → Restful (if_some q w (λ call. give w who call (Fault e)))
        at None f = c.restful
        at (Some call) f =
            let p = linking_pends w who call f in
            (give_rests w who call (Fault e) c.restful p.0 (λ rd d. absurd (stack_off (is_on_stack (word_of call)) (is_send (word_of call)) rd (makes_off (word_of call) p.1)))).restful

    -- a link that is let go
    goes : (l : ℕ) → Restful (record w { links = link.gone w.links l })
    goes l = record {
      calm = λ other call n k y p rd e nm i. c.restful.calm other call n k y p rd e nm (found_left 0 w.links.last l k w.links.all y c.apart.rising i);
      apart = λ one two a b n m k p q s rd e f nm nn. c.restful.apart one two a b n m k p q s rd e f nm nn;
    }

    -- nothing names the next link
    unnamed : (n : ℕ) → Names w n (w.links.last + 1) → ⊥
    unnamed n p =
        let k = w.links.last + 1 in
        let one = weighs_one (links_to k) w.handles.entries p.entry p.there (ap (λ q. bit (holds q k)) p.link ∙ ap bit (itself k)) in
        let few = c.apart.named k in
        let same = weigh_linked w k in
        let none : bit (may_name w.links k) ≡ 0 = ap (λ b. bit (b && if_some (look w.links k) true (λ x. is_none (connector x.sort)))) (next_above w.links.last).0 in
        omega (arith, one, few, same, none)

    -- a link that is made
    adds : (sort : Sort) → Restful (record w { links = link.add w.links sort })
    adds sort = record {
      calm = λ other call n k y p rd e nm i. calm other call n k y p rd e nm (found_push k w.links.all (fresh_link (w.links.last + 1) sort) y i);
      apart = λ one two a b n m k p q s rd e f nm nn. c.restful.apart one two a b n m k p q s rd e f nm nn;
    }
      where
        calm : (other : ℕ) (call : Call) (n k : ℕ) (y : Link) → Pends w other call → reads call ≡ true → named_by call ≡ Some n → Names w n k → (find (is_link k) w.links.all ≡ Some y) ⊎ (is_link k (fresh_link (w.links.last + 1) sort) ≡ true) → Spent call y.stack
        calm other call n k y p rd e nm (inl i) = c.restful.calm other call n k y p rd e nm i
        calm other call n k y p rd e nm (inr i) = absurd (unnamed n (subst (λ z. Names w n z) (sym (equal_is (w.links.last + 1) k i)) nm))

    -- no pending call names the next number
    old_name : (l : Links) (thing : Thing) (owner other : ℕ) (call : Call) (n k : ℕ) → Pends w other call → is_on_stack (word_of call) ≡ true → named_by call ≡ Some n → Names (make (record w { links = l }) thing owner) n k → Names (record w { links = l }) n k
    old_name l thing owner other call n k p on e nm = at (in_push w.handles.entries (record { number = handles.next_number w.handles; thing = thing; owner = owner }) nm.entry nm.there)
      where
        at : In nm.entry w.handles.entries ⊎ (nm.entry ≡ record { number = handles.next_number w.handles; thing = thing; owner = owner }) → Names (record w { links = l }) n k
        at (inl i) = record { entry = nm.entry; there = i; number = nm.number; link = nm.link }
        at (inr same) =
            let waits : answer_of w other call ≡ None = subst (λ z. answer_of w z call ≡ None) p.number (due_waits w c.settled.answers p.one p.there call p.mode) in
            let x = live w other call n on e waits in
            absurd (live_low w n x.0 o.fits x.1 (let next : n ≡ w.handles.last + 1 = sym nm.number ∙ ap (λ (z : Entry Thing). z.number) same in omega (arith, next)))

    gives : (l : Links) (thing : Thing) (who : ℕ) → Restful (record w { links = l }) → Restful (give_handle (record w { links = l }) thing who)
    gives l thing who r = at (linking_call (record w { links = l }) who)
      where
        made_one : Restful (make (record w { links = l }) thing who)
        made_one = record {
          calm = λ other call n k y p rd e nm i.
              let on = (reads_parts (is_on_stack (word_of call)) (is_send (word_of call)) rd).0 in
              r.calm other call n k y p rd e (old_name l thing who other call n k p on e nm) i;
          apart = λ one two a b n m k p q s rd e f nm nn.
              let on = (reads_parts (is_on_stack (word_of b)) (is_send (word_of b)) rd).0 in
              r.apart one two a b n m k p q s rd e f
              (old_name l thing who one a n k p (sends_on_stack a s) e nm) (old_name l thing who two b m k q on f nn);
        }

        at : (q : Option Call) → Restful (if_some q (record w { links = l }) (λ call. reply (make (record w { links = l }) thing who) who (word_of call) (Number (next_number (record w { links = l })))))
        at None = r
        at (Some call) =
            let m = make (record w { links = l }) thing who in
            let v = reply m who (word_of call) (Number (next_number (record w { links = l }))) in
            calmly_rests m v (calmly_reply m who (word_of call) (Number (next_number (record w { links = l })))) made_one

    marks : (l : ℕ) (mark : Link → Link) → ((x : Link) → (mark x).number ≡ x.number) → ((x : Link) → (mark x).stack ≡ x.stack) → Restful (on_link w l mark)
    marks l mark number stack = calmly_rests w (on_link w l mark) (calmly_mark w l mark number stack) c.restful

    some_rests : {A : Type 0} (q : Option A) (f : A → World V) → ((a : A) → Restful (f a)) → Restful (if_some q w f)
    some_rests None f h = c.restful
    some_rests (Some a) f h = h a

    listens : (who : ℕ) (said : KernelReply) → Restful (heard_listen w who said)
    listens who (replies.Failed fault) = fails (listen_fault fault) who
    listens who said = gives (link.add w.links Listening) (things.Listener (next_link w)) who (adds Listening)

    connects : (who : ℕ) (said : KernelReply) → Restful (heard_connect w who said)
    connects who (replies.Failed fault) = fails (connect_fault fault) who
    connects who said = adds (Connecting who)

    finishes : (l : ℕ) (said : KernelReply) → Restful (heard_finish w l said)
    finishes l (replies.Failed fault) = some_rests (connector_of w l) (fail w (connect_fault fault)) (fails (connect_fault fault))
    finishes l replies.NotYet = marks l write_cold (λ x. refl) (λ x. refl)
    finishes l said = some_rests (connector_of w l) (give_handle (on_link w l as_stream) (things.Socket l)) (λ who. gives (change_link w.links l as_stream) (things.Socket l) who (marks l as_stream (λ x. refl) (λ x. refl)))

    accepts : (l : ℕ) (said : KernelReply) → Restful (heard_accept w l said)
    accepts l (replies.Failed fault) = some_rests (pending_on w is_accept l) (fail w (accept_fault fault)) (fails (accept_fault fault))
    accepts l replies.NotYet = marks l read_cold (λ x. refl) (λ x. refl)
    accepts l said = some_rests (pending_on w is_accept l) (made w Stream things.Socket) (λ who. gives (link.add w.links Stream) (things.Socket (next_link w)) who (adds Stream))

  module _ (laws : LooksAgain) where
    asks_once : (w : World V) (number who : ℕ) (ask : KernelAsk) (said : KernelReply) → IsInOrder w → IsCalm w → ((l : ℕ) → asked_link ask ≡ Some l → LooksAt w l who) → settle (heard_ask w number ask said) ≡ settle_lookless (look_once (heard_ask w number ask said) who)
    asks_once w number who (asks.Close l) said o c alone = rest_once (record w { links = link.gone w.links l }) who (goes w o c l)
    asks_once w number who (asks.Listen l address backlog) said o c alone = rest_once (heard_listen w number said) who (listens w o c number said)
    asks_once w number who (asks.Connect l address) said o c alone = rest_once (heard_connect w number said) who (connects w o c number said)
    asks_once w number who (asks.Finish l) said o c alone = rest_once (heard_finish w l said) who (finishes w o c l said)
    asks_once w number who (asks.Accept listener l) said o c alone = rest_once (heard_accept w listener said) who (accepts w o c listener said)
    asks_once w number who (asks.Write l bytes) said o c alone =
        let v = on_link w l as_wrote in
        once_written laws v l who (order_anyway w w.channels v.links w.place w.random w.moment w.notes o) (calm_mark w l as_wrote (λ x. refl) (λ x. refl) (λ x. refl) (λ call x. refl) c)
        (λ other call n p rd e f. alone l refl other call n p rd e f) said
    asks_once w number who (asks.Shut l) said o c alone = once_shut laws w l who o c (alone l refl) said
    asks_once w number who (asks.Read l size) said o c alone = once_read laws w l who o c (alone l refl) said
    asks_once w number who (asks.Wait limit) said o c alone = rest_once w who c.restful

    hears_once : (w : World V) (x : Try) (said : Option KernelReply) (who : ℕ) → IsInOrder w → IsCalm w → ((l : ℕ) → asked_link x.ask ≡ Some l → LooksAt w l who) → settle (heard w x said) ≡ settle_lookless (look_once (heard w x said) who)
    hears_once w x said who o c alone =
        let place : Place = record { kind = x.kind; number = x.number } in
        let u : World V = record w { place = place } in
        asks_once u x.number who x.ask (fitting x.ask said) (order_anyway w w.channels w.links place w.random w.moment w.notes o) (calm_beside w place w.moment w.notes c)
        (λ l e other call n p rd f g. alone l e other call n p rd f g)

pub one_look_hears : {V : Type 0} → LooksAgain → OneLookHears V
one_look_hears laws = record { hears = hears_once laws }
