-- What a reply may make is kept: a link, and a number for its handle.
use Rattle.std.proofs.Common.{◌≡◌, ◌∙◌, ◌⊎◌, inl, inr, ℕ, ◌≤◌, ◌==◌, List, [], ◌∷◌, find, cond, Bool, true, false, not, ◌&&◌, ◌||◌, Option, Some, None, if◌then◌else◌, refl, sym, ap, subst, arith}
use Rattle.std.specs.Prelude.{is_some}
use Rattle.std.specs.List.{list_any}
use Rattle.std.proofs.lemmas.Bool.{and_parts, or_parts, or_left}
use Rattle.dill_base.specs.Maps.{if_some}
use Rattle.dill_calls.specs.declared.call.Call.{Call}
use Rattle.dill_calls.specs.declared.call.Call.TheVariants as calls
use Rattle.dill_calls.specs.declared.word.Word.{Word}
use Rattle.dill_calls.specs.declared.word.Word.TheVariants as words
use Rattle.dill_calls.specs.CallTable.{word_of, gives_up}
use Rattle.dill_kernel.specs.declared.replies.KernelAsk.TheVariants as asks
use Rattle.dill_scope.proofs.Numbered.{found_number}
use Rattle.dill_rules.specs.declared.coroutine.Coroutine.{Coroutine}
use Rattle.dill_rules.specs.Directions.{is_handshake}
use Rattle.dill_rules.specs.Giving.{is_connecting_for}
use Rattle.dill_rules.specs.LinkAnswers.{is_tcp_close}
use Rattle.dill_rules.specs.Links.{Link, is_listening, connector}
use Rattle.dill_rules.specs.Naming.{links}
use Rattle.dill_rules.specs.Refusals.{is_accept}
use Rattle.dill_rules.specs.Trying.{Try, is_pending_on, next_link, listen_of, connect_of}
use Rattle.dill_rules.specs.World.{World, is_coroutine, coroutine_of, call_of, pending_call}
use Rattle.laws_queue.specs.Well.{bit, is_at, Numbered}
use Rattle.laws_sound.specs.Orderly.{gives_number, kept_by, weigh, IsOrderly}
use Rattle.laws_looks.specs.Readers.{In, Pends}
use Rattle.laws_looks.specs.Keeping.{is_connect, connects, KeepsLinks, LinksAreKept}
use Rattle.laws_looks.proofs.Lists.{itself, find_in}
use Rattle.laws_looks.proofs.Quieted.{found_of}
use Rattle.laws_fits.specs.Meeting.{may_link, for_handle, RepliesAreKept}
use Rattle.laws_fits.proofs.Rooms.{awaited}
use Rattle.laws_fits.proofs.Tries.{Sorts, closing, listening, connecting, finishing, accepting, writing, shutting, reading, next_sort}

weigh_in : {X : Type 0} (f : X → ℕ) (xs : List X) (x : X) → In x xs → f x ≤ weigh f xs
weigh_in f [] x i = absurd i
weigh_in f (y ∷ ys) x (inl same) = let e = ap f same in omega (arith, e)
weigh_in f (y ∷ ys) x (inr i) = let r = weigh_in f ys x i in omega (arith, r)

none_found : {X : Type 0} (test : X → Bool) (xs : List X) → list_any test xs ≡ false → find test xs ≡ None
none_found test [] e = refl
none_found test (x ∷ xs) e = let r = or_parts (test x) (list_any test xs) e in ap (λ b. cond b (Some x) (find test xs)) r.0 ∙ none_found test xs r.1

bit_true : (b : Bool) → 1 ≤ bit b → b ≡ true
bit_true true e = refl
bit_true false e = absurd (omega (arith, e))

-- ---- words

accept_links : (word : Word) → is_accept word ≡ true → (links word ≡ true) × (is_connect word ≡ false)
accept_links words.TcpAccept e = (refl, refl)
accept_links _ e = cc

connect_links : (word : Word) → is_connect word ≡ true → links word ≡ true
connect_links words.TcpConnect e = refl
connect_links _ e = cc

module _ {V : Type 0} where
  listen_links : (w : World V) (who : ℕ) (call : Call) (x : Try) → listen_of w who call ≡ Some x → (links (word_of call) ≡ true) × (is_connect (word_of call) ≡ false)
  listen_links w who (calls.TcpListen address backlog) x e = (refl, refl)
  listen_links w who _ x e = cc

  -- it has no link yet
  free_links : (w : World V) (who : ℕ) (call : Call) (x : Try) → connect_of w who call ≡ Some x → (links (word_of call) ≡ true) × (list_any (is_connecting_for who) w.links.all ≡ false)
  free_links w who (calls.TcpConnect address deadline) x e = (refl, at (list_any (is_connecting_for who) w.links.all) e)
    where
      at : (b : Bool) → (if b then None else Some (record { kind = 3; number = who; ask = asks.Connect (next_link w) address })) ≡ Some x → b ≡ false
      at true f = cc
      at false f = refl
  free_links w who _ x e = cc

  pended : (w : World V) (who : ℕ) (call : Call) → Numbered 0 w.coroutines w.last_coroutine → Pends w who call → call_of w who ≡ Some call
  pended w who call n p =
      let there : find (is_coroutine who) w.coroutines ≡ Some p.one = subst (λ k. find (is_coroutine k) w.coroutines ≡ Some p.one) p.number (found_of 0 w.last_coroutine w.coroutines p.one n p.there) in
      ap (λ o. if_some o None (λ (c : Coroutine V). pending_call c.mode)) there ∙ p.mode

  -- who is pending in a call that makes a link, and has none yet
  record Linker (w : World V) : Type 0 where
    who : ℕ
    call : Call
    pends : Pends w who call
    links_it : links (word_of call) ≡ true
    free : (is_connect (word_of call) ≡ false) ⊎ (find (is_connecting_for who) w.links.all ≡ None)

  linking : (w : World V) (x : Try) → Sorts w x → may_link x.ask ≡ true → Linker w
  linking w x (closing l e) m = let bad : false ≡ true = ap may_link (sym e) ∙ m in cc
  linking w x (listening who call q e) m = let r = listen_links w who call x e in record { who = who; call = call; pends = q; links_it = r.0; free = inl r.1 }
  linking w x (connecting who call q e) m = let r = free_links w who call x e in record { who = who; call = call; pends = q; links_it = r.0; free = inr (none_found (is_connecting_for who) w.links.all r.1) }
  linking w x (finishing o) m = let bad : false ≡ true = ap (λ (z : Try). may_link z.ask) (sym o.same) ∙ m in cc
  linking w x (accepting o) m =
      let one = and_parts (is_listening o.y.sort) (o.y.read_hot && is_pending_on w is_accept o.y.number) o.passes in
      let a = awaited w is_accept o.y.number (and_parts o.y.read_hot (is_pending_on w is_accept o.y.number) one.1).1 in
      let r = accept_links (word_of a.call) a.passes in
      record { who = a.who; call = a.call; pends = a.pends; links_it = r.0; free = inl r.1 }
  linking w x (writing o) m = let bad : false ≡ true = ap (λ (z : Try). may_link z.ask) (sym o.same) ∙ m in cc
  linking w x (shutting o) m = let bad : false ≡ true = ap (λ (z : Try). may_link z.ask) (sym o.same) ∙ m in cc
  linking w x (reading o) m = let bad : false ≡ true = ap (λ (z : Try). may_link z.ask) (sym o.same) ∙ m in cc

  pub pends_in : (w : World V) (who : ℕ) (call : Call) → call_of w who ≡ Some call → Pends w who call
  pends_in w who call e = at (coroutine_of w who) refl e
    where
      at : (o : Option (Coroutine V)) → coroutine_of w who ≡ o → if_some o None (λ c. pending_call c.mode) ≡ Some call → Pends w who call
      at None f g = cc
      at (Some c) f g = record { one = c; there = find_in (is_coroutine who) w.coroutines c f; number = found_number (λ (d : Coroutine V). d.number) who w.coroutines c f; mode = g }

  number_kept : (w : World V) (who : ℕ) (call : Call) → IsOrderly w → Pends w who call → gives_number (word_of call) ≡ true → 1 ≤ w.handles.kept
  number_kept w who call g p t =
      let most = weigh_in kept_by w.coroutines p.one p.there in
      let one : kept_by p.one ≡ 1 = ap (λ o. if_some o 0 (λ c. bit (gives_number (word_of c)))) p.mode ∙ ap bit t in
      let few = g.kept in
      omega (arith, most, one, few)

  link_kept : (w : World V) (who : ℕ) (call : Call) → IsOrderly w → Pends w who call → links (word_of call) ≡ true → 1 ≤ w.handles.kept
  link_kept w who call g p l = number_kept w who call g p (or_left (links (word_of call)) ((is_handshake (word_of call) || gives_up (word_of call)) && not (is_tcp_close (word_of call))) l)

  -- who made a link that connects is pending
  connected : (w : World V) (y : Link) → IsOrderly w → KeepsLinks w → In y w.links.all → y.closing ≡ false → (o : Option ℕ) → connector y.sort ≡ o → is_some o ≡ true → 1 ≤ w.handles.kept
  connected w y g k i «open» None e f = cc
  connected w y g k i «open» (Some who) e f = at (find (is_coroutine who) w.coroutines) refl (bit_true (is_at connects w.coroutines who) some)
    where
      its : is_connecting_for who y ≡ true
      its = ap (λ b. not b && if_some (connector y.sort) false (λ n. n == who)) «open» ∙ ap (λ o. if_some o false (λ n. n == who)) e ∙ itself who

      some : 1 ≤ bit (is_at connects w.coroutines who)
      some =
          let most = weigh_in (λ x. bit (is_connecting_for who x)) w.links.all y i in
          let one = ap bit its in
          let few = k.once who in
          omega (arith, most, one, few)

      by : (c : Coroutine V) → find (is_coroutine who) w.coroutines ≡ Some c → (o : Option Call) → pending_call c.mode ≡ o → if_some o false (λ call. is_connect (word_of call)) ≡ true → 1 ≤ w.handles.kept
      by c h None j t = cc
      by c h (Some call) j t =
          link_kept w who call g (record { one = c; there = find_in (is_coroutine who) w.coroutines c h; number = found_number (λ (d : Coroutine V). d.number) who w.coroutines c h; mode = j }) (connect_links (word_of call) t)

      at : (o : Option (Coroutine V)) → find (is_coroutine who) w.coroutines ≡ o → if_some o false (λ c. connects c.mode) ≡ true → 1 ≤ w.handles.kept
      at None h t = cc
      at (Some c) h t = by c h (pending_call c.mode) refl t

  handling : (w : World V) (x : Try) → IsOrderly w → KeepsLinks w → Sorts w x → for_handle x.ask ≡ true → 1 ≤ w.handles.kept
  handling w x g k (closing l e) m = let bad : false ≡ true = ap for_handle (sym e) ∙ m in cc
  handling w x g k (listening who call q e) m = link_kept w who call g q (listen_links w who call x e).0
  handling w x g k (connecting who call q e) m = link_kept w who call g q (free_links w who call x e).0
  handling w x g k (finishing o) m = connected w o.y g k o.there o.«open» (connector o.y.sort) refl (and_parts (is_some (connector o.y.sort)) o.y.write_hot o.passes).0
  handling w x g k (accepting o) m = let r = linking w x (accepting o) (ap (λ (z : Try). may_link z.ask) o.same) in link_kept w r.who r.call g r.pends r.links_it
  handling w x g k (writing o) m = let bad : false ≡ true = ap (λ (z : Try). for_handle z.ask) (sym o.same) ∙ m in cc
  handling w x g k (shutting o) m = let bad : false ≡ true = ap (λ (z : Try). for_handle z.ask) (sym o.same) ∙ m in cc
  handling w x g k (reading o) m = let bad : false ≡ true = ap (λ (z : Try). for_handle z.ask) (sym o.same) ∙ m in cc

  pub replies_are_kept : LinksAreKept V → RepliesAreKept V
  replies_are_kept law = record {
    links = λ w x g k e m. let r = linking w x (next_sort w x e) m in law w r.who r.call k (pended w r.who r.call g.fits.numbered r.pends) r.links_it r.free;
    handles = λ w x g k e m. handling w x g k (next_sort w x e) m;
    answers = λ w who call g e t. number_kept w who call g (pends_in w who call e) t;
  }
