-- Of which links a try is due.
use Rattle.std.proofs.Common.{◌≡◌, ◌∙◌, ◌⊎◌, inl, inr, ℕ, ◌<◌, ◌==◌, List, [], ◌∷◌, ◌++◌, find, cond, Bool, true, false, not, ◌&&◌, Option, Some, None, if◌then◌else◌, refl, sym, ap, subst, arith}
use Rattle.std.specs.Prelude.{filter, filter_map, map, is_some}
use Rattle.std.specs.List.{list_any}
use Rattle.std.proofs.lemmas.Bool.{and_parts}
use Rattle.dill_base.specs.Maps.{if_some}
use Rattle.dill_calls.specs.declared.call.Call.{Call}
use Rattle.dill_calls.specs.declared.call.Call.TheVariants as calls
use Rattle.dill_kernel.specs.declared.replies.KernelAsk.{KernelAsk}
use Rattle.dill_kernel.specs.declared.replies.KernelAsk.TheVariants as asks
use Rattle.dill_stack.specs.Interface.{offered}
use Rattle.dill_rules.specs.declared.coroutine.Coroutine.{Coroutine}
use Rattle.dill_rules.specs.Links.{Link, is_link, is_listening, is_stream, connector}
use Rattle.dill_rules.specs.Giving.{is_connecting_for}
use Rattle.dill_rules.specs.Refusals.{is_accept}
use Rattle.dill_rules.specs.Trying.{Try, read_size, is_ending_send, is_idle, is_pending_on, open_links, next_link, closes, listen_of, listens, connect_of, connects, finishes, accepts, writes, shuts, is_needy, reads, tries, is_stopped, tries_now, is_next, next_try}
use Rattle.dill_rules.specs.World.{World, pending_call}
use Rattle.laws_looks.specs.Readers.{In, Pends, Rising}
use Rattle.laws_looks.proofs.Lists.{itself, less_unequal, find_in, in_append, in_map, in_filter, in_picked}

above_link : (low high : ℕ) (xs : List Link) (y : Link) → Rising low xs high → In y xs → low < y.number
above_link low high [] y r i = absurd i
above_link low high (x ∷ xs) y r (inl same) = subst (λ (z : Link). low < z.number) (sym same) r.0
above_link low high (x ∷ xs) y r (inr i) = let s = above_link x.number high xs y r.1 i in let up = r.0 in omega (arith, s, up)

-- a link is found by its number
pub link_found : (low high : ℕ) (xs : List Link) (y : Link) → Rising low xs high → In y xs → find (is_link y.number) xs ≡ Some y
link_found low high [] y r i = absurd i
link_found low high (x ∷ xs) y r (inl same) = subst (λ (z : Link). cond (x.number == z.number) (Some x) (find (is_link z.number) xs) ≡ Some z) (sym same) (ap (λ b. cond b (Some x) (find (is_link x.number) xs)) (itself x.number))
link_found low high (x ∷ xs) y r (inr i) = ap (λ b. cond b (Some x) (find (is_link y.number) xs)) (less_unequal x.number y.number (above_link x.number high xs y r.1 i)) ∙ link_found x.number high xs y r.1 i

-- it asks something of a link that is there
abbrev is_link_ask : KernelAsk → Bool
is_link_ask (asks.Finish l) = true
is_link_ask (asks.Write l bytes) = true
is_link_ask (asks.Read l size) = true
is_link_ask _ = false

module _ {V : Type 0} where
  -- a link that isn't closing and passes the test has the try
  pub record Opened (w : World V) (test : Link → Bool) (f : Link → Try) (x : Try) : Type 0 where
    pub y : Link
    pub there : In y w.links.all
    pub «open» : y.closing ≡ false
    pub passes : test y ≡ true
    pub same : x ≡ f y

  opened : (w : World V) (test : Link → Bool) (f : Link → Try) (x : Try) → In x (map f (open_links w test)) → Opened w test f x
  opened w test f x i =
      let r = in_map f (open_links w test) x i in
      let s = in_filter (λ y. not y.closing && test y) w.links.all r.0 r.1 in
      let b = and_parts (not r.0.closing) (test r.0) s.1 in
      record { y = r.0; there = s.0; «open» = was r.0.closing b.0; passes = b.1; same = r.2 }
    where
      was : (b : Bool) → not b ≡ true → b ≡ false
      was true e = cc
      was false e = refl

  -- by what is asked
  pub data Sorts (w : World V) (x : Try) : Type 0 where
    closing : (l : ℕ) → x.ask ≡ asks.Close l → Sorts w x
    listening : (who : ℕ) (call : Call) → Pends w who call → listen_of w who call ≡ Some x → Sorts w x
    connecting : (who : ℕ) (call : Call) → Pends w who call → connect_of w who call ≡ Some x → Sorts w x
    finishing : Opened w (λ y. is_some (connector y.sort) && y.write_hot) (λ y. record { kind = 4; number = y.number; ask = asks.Finish y.number }) x → Sorts w x
    accepting : Opened w (λ y. is_listening y.sort && (y.read_hot && is_pending_on w is_accept y.number)) (λ y. record { kind = 5; number = y.number; ask = asks.Accept y.number (next_link w) }) x → Sorts w x
    writing : Opened w (λ y. is_stream y.sort && (y.write_hot && not (is_idle y.stack))) (λ y. record { kind = 6; number = y.number; ask = asks.Write y.number (offered y.stack) }) x → Sorts w x
    shutting : Opened w (λ y. is_stream y.sort && (not y.shut && (is_idle y.stack && is_pending_on w is_ending_send y.number))) (λ y. record { kind = 7; number = y.number; ask = asks.Shut y.number }) x → Sorts w x
    reading : Opened w (λ y. is_stream y.sort && (y.read_hot && (not y.stack.receiving.done && (not y.stack.receiving.broken && is_needy w y)))) (λ y. record { kind = 8; number = y.number; ask = asks.Read y.number read_size }) x → Sorts w x

  closes_sort : (w : World V) (x : Try) → In x (closes w) → Sorts w x
  closes_sort w x i = let r = in_map (λ (y : Link). record { kind = 1; number = y.number; ask = asks.Close y.number }) (filter (λ (y : Link). y.closing) w.links.all) x i in closing r.0.number (ap (λ (z : Try). z.ask) r.2)

  pending_sort : (w : World V) (x : Try) (f : ℕ → Call → Option Try) → In x (filter_map (λ (c : Coroutine V). if_some (pending_call c.mode) None (f c.number)) w.coroutines) → (who : ℕ) × (call : Call) × Pends w who call × (f who call ≡ Some x)
  pending_sort w x f i = let r = in_picked (λ (c : Coroutine V). if_some (pending_call c.mode) None (f c.number)) w.coroutines x i in at r.0 r.1 (pending_call r.0.mode) refl r.2
    where
      at : (c : Coroutine V) → In c w.coroutines → (o : Option Call) → pending_call c.mode ≡ o → if_some o None (f c.number) ≡ Some x → (n : ℕ) × (call : Call) × Pends w n call × (f n call ≡ Some x)
      at c j None g e = cc
      at c j (Some call) g e = (c.number, call, record { one = c; there = j; number = refl; mode = g }, e)

  sorts : (w : World V) (x : Try) → In x (tries w) → Sorts w x
  sorts w x i = eight (in_append (closes w ++ listens w ++ connects w ++ finishes w ++ accepts w ++ writes w ++ shuts w) (reads w) x i)
    where
      two : In x (closes w) ⊎ In x (listens w) → Sorts w x
      two (inl j) = closes_sort w x j
      two (inr j) = let r = pending_sort w x (listen_of w) j in listening r.0 r.1 r.2 r.3

      three : In x (closes w ++ listens w) ⊎ In x (connects w) → Sorts w x
      three (inl j) = two (in_append (closes w) (listens w) x j)
      three (inr j) = let r = pending_sort w x (connect_of w) j in connecting r.0 r.1 r.2 r.3

      four : In x (closes w ++ listens w ++ connects w) ⊎ In x (finishes w) → Sorts w x
      four (inl j) = three (in_append (closes w ++ listens w) (connects w) x j)
      four (inr j) = finishing (opened w _ _ x j)

      five : In x (closes w ++ listens w ++ connects w ++ finishes w) ⊎ In x (accepts w) → Sorts w x
      five (inl j) = four (in_append (closes w ++ listens w ++ connects w) (finishes w) x j)
      five (inr j) = accepting (opened w _ _ x j)

      six : In x (closes w ++ listens w ++ connects w ++ finishes w ++ accepts w) ⊎ In x (writes w) → Sorts w x
      six (inl j) = five (in_append (closes w ++ listens w ++ connects w ++ finishes w) (accepts w) x j)
      six (inr j) = writing (opened w _ _ x j)

      seven : In x (closes w ++ listens w ++ connects w ++ finishes w ++ accepts w ++ writes w) ⊎ In x (shuts w) → Sorts w x
      seven (inl j) = six (in_append (closes w ++ listens w ++ connects w ++ finishes w ++ accepts w) (writes w) x j)
      seven (inr j) = shutting (opened w _ _ x j)

      eight : In x (closes w ++ listens w ++ connects w ++ finishes w ++ accepts w ++ writes w ++ shuts w) ⊎ In x (reads w) → Sorts w x
      eight (inl j) = seven (in_append (closes w ++ listens w ++ connects w ++ finishes w ++ accepts w ++ writes w) (shuts w) x j)
      eight (inr j) = reading (opened w _ _ x j)

  pub next_sort : (w : World V) (x : Try) → next_try w ≡ Some x → Sorts w x
  next_sort w x e = at (is_some w.ended) (is_stopped w) (find_in (is_next w) (tries_now w) x e)
    where
      at : (a b : Bool) → In x (if a then closes w else (if b then [] else tries w)) → Sorts w x
      at true b i = closes_sort w x i
      at false true i = absurd i
      at false false i = sorts w x i

  -- what a listen or a connect asks
  listen_ask : (w : World V) (who : ℕ) (call : Call) (x : Try) (ask : KernelAsk) → listen_of w who call ≡ Some x → x.ask ≡ ask → is_link_ask ask ≡ false
  listen_ask w who (calls.TcpListen address backlog) x ask e f =
      let it : asks.Listen (next_link w) address backlog ≡ ask = ap (λ (o : Option Try). if_some o ask (λ z. z.ask)) e ∙ f in
      ap is_link_ask (sym it)
  listen_ask w who _ x ask e f = cc

  connect_ask : (w : World V) (who : ℕ) (call : Call) (x : Try) (ask : KernelAsk) → connect_of w who call ≡ Some x → x.ask ≡ ask → is_link_ask ask ≡ false
  connect_ask w who (calls.TcpConnect address deadline) x ask e f = at (list_any (is_connecting_for who) w.links.all) e
    where
      at : (b : Bool) → (if b then None else Some (record { kind = 3; number = who; ask = asks.Connect (next_link w) address })) ≡ Some x → is_link_ask ask ≡ false
      at true g = cc
      at false g =
          let it : asks.Connect (next_link w) address ≡ ask = ap (λ (o : Option Try). if_some o ask (λ z. z.ask)) g ∙ f in
          ap is_link_ask (sym it)
  connect_ask w who _ x ask e f = cc

  -- a `connect` is finished of a link that isn't closing
  pub finish_try : (w : World V) (x : Try) (l : ℕ) → next_try w ≡ Some x → x.ask ≡ asks.Finish l → Opened w (λ y. is_some (connector y.sort) && y.write_hot) (λ y. record { kind = 4; number = y.number; ask = asks.Finish y.number }) x
  finish_try w x l e f = at (next_sort w x e)
    where
      at : Sorts w x → Opened w (λ y. is_some (connector y.sort) && y.write_hot) (λ y. record { kind = 4; number = y.number; ask = asks.Finish y.number }) x
      at (closing k g) = let bad : asks.Close k ≡ asks.Finish l = sym g ∙ f in cc
      at (listening who call q g) = let bad : true ≡ false = listen_ask w who call x (asks.Finish l) g f in cc
      at (connecting who call q g) = let bad : true ≡ false = connect_ask w who call x (asks.Finish l) g f in cc
      at (finishing o) = o
      at (accepting o) = let bad : asks.Accept o.y.number (next_link w) ≡ asks.Finish l = ap (λ (z : Try). z.ask) (sym o.same) ∙ f in cc
      at (writing o) = let bad : asks.Write o.y.number (offered o.y.stack) ≡ asks.Finish l = ap (λ (z : Try). z.ask) (sym o.same) ∙ f in cc
      at (shutting o) = let bad : asks.Shut o.y.number ≡ asks.Finish l = ap (λ (z : Try). z.ask) (sym o.same) ∙ f in cc
      at (reading o) = let bad : asks.Read o.y.number read_size ≡ asks.Finish l = ap (λ (z : Try). z.ask) (sym o.same) ∙ f in cc

  -- bytes are written of what is offered
  pub write_try : (w : World V) (x : Try) (l : ℕ) (bytes : List ℕ) → next_try w ≡ Some x → x.ask ≡ asks.Write l bytes → Opened w (λ y. is_stream y.sort && (y.write_hot && not (is_idle y.stack))) (λ y. record { kind = 6; number = y.number; ask = asks.Write y.number (offered y.stack) }) x
  write_try w x l bytes e f = at (next_sort w x e)
    where
      at : Sorts w x → Opened w (λ y. is_stream y.sort && (y.write_hot && not (is_idle y.stack))) (λ y. record { kind = 6; number = y.number; ask = asks.Write y.number (offered y.stack) }) x
      at (closing k g) = let bad : asks.Close k ≡ asks.Write l bytes = sym g ∙ f in cc
      at (listening who call q g) = let bad : true ≡ false = listen_ask w who call x (asks.Write l bytes) g f in cc
      at (connecting who call q g) = let bad : true ≡ false = connect_ask w who call x (asks.Write l bytes) g f in cc
      at (finishing o) = let bad : asks.Finish o.y.number ≡ asks.Write l bytes = ap (λ (z : Try). z.ask) (sym o.same) ∙ f in cc
      at (accepting o) = let bad : asks.Accept o.y.number (next_link w) ≡ asks.Write l bytes = ap (λ (z : Try). z.ask) (sym o.same) ∙ f in cc
      at (writing o) = o
      at (shutting o) = let bad : asks.Shut o.y.number ≡ asks.Write l bytes = ap (λ (z : Try). z.ask) (sym o.same) ∙ f in cc
      at (reading o) = let bad : asks.Read o.y.number read_size ≡ asks.Write l bytes = ap (λ (z : Try). z.ask) (sym o.same) ∙ f in cc

  -- bytes are read that a pending call needs
  pub read_try : (w : World V) (x : Try) (l size : ℕ) → next_try w ≡ Some x → x.ask ≡ asks.Read l size → Opened w (λ y. is_stream y.sort && (y.read_hot && (not y.stack.receiving.done && (not y.stack.receiving.broken && is_needy w y)))) (λ y. record { kind = 8; number = y.number; ask = asks.Read y.number read_size }) x
  read_try w x l size e f = at (next_sort w x e)
    where
      at : Sorts w x → Opened w (λ y. is_stream y.sort && (y.read_hot && (not y.stack.receiving.done && (not y.stack.receiving.broken && is_needy w y)))) (λ y. record { kind = 8; number = y.number; ask = asks.Read y.number read_size }) x
      at (closing k g) = let bad : asks.Close k ≡ asks.Read l size = sym g ∙ f in cc
      at (listening who call q g) = let bad : true ≡ false = listen_ask w who call x (asks.Read l size) g f in cc
      at (connecting who call q g) = let bad : true ≡ false = connect_ask w who call x (asks.Read l size) g f in cc
      at (finishing o) = let bad : asks.Finish o.y.number ≡ asks.Read l size = ap (λ (z : Try). z.ask) (sym o.same) ∙ f in cc
      at (accepting o) = let bad : asks.Accept o.y.number (next_link w) ≡ asks.Read l size = ap (λ (z : Try). z.ask) (sym o.same) ∙ f in cc
      at (writing o) = let bad : asks.Write o.y.number (offered o.y.stack) ≡ asks.Read l size = ap (λ (z : Try). z.ask) (sym o.same) ∙ f in cc
      at (shutting o) = let bad : asks.Shut o.y.number ≡ asks.Read l size = ap (λ (z : Try). z.ask) (sym o.same) ∙ f in cc
      at (reading o) = o
