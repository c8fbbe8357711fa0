-- What fits still does behind a reply of the kernel.
use Rattle.std.proofs.Common.{◌≡◌, ◌∙◌, ◌⊎◌, inl, inr, ℕ, ◌+◌, ◌<◌, ◌≤◌, ◌==◌, List, [], ◌∷◌, ◌++◌, find, cond, Bool, true, false, ◌&&◌, Option, Some, None, if◌then◌else◌, refl, sym, ap, subst, arith}
use Rattle.std.specs.Prelude.{is_none}
use Rattle.dill_base.specs.declared.errno.Errno.{Errno}
use Rattle.dill_base.specs.Maps.{if_some, without}
use Rattle.dill_calls.specs.declared.answer.Answer.TheVariants.{Number, Fault}
use Rattle.dill_calls.specs.declared.call.Call.{Call}
use Rattle.dill_calls.specs.CallTable.{word_of, named_by}
use Rattle.dill_handles.specs.Handles as handles
use Rattle.dill_handles.specs.declared.entry.Entry.{Entry}
use Rattle.dill_kernel.specs.declared.replies.KernelAsk.{KernelAsk}
use Rattle.dill_kernel.specs.declared.replies.KernelAsk.TheVariants as asks
use Rattle.dill_kernel.specs.declared.replies.KernelReply.{KernelReply}
use Rattle.dill_kernel.specs.declared.replies.KernelReply.TheVariants as replies
use Rattle.dill_scope.proofs.Numbered.{find_without_other, find_push_kept}
use Rattle.dill_stack.specs.declared.task.Task.TheVariants.{Idle, Expects}
use Rattle.dill_stack.specs.Interface.{came, ended, broke, took, is_sent}
use Rattle.dill_rules.specs.declared.coroutine.Coroutine.{Coroutine}
use Rattle.dill_rules.specs.declared.coroutine.Mode.TheVariants as modes
use Rattle.dill_rules.specs.declared.link.Sort.{Sort}
use Rattle.dill_rules.specs.declared.link.Sort.TheVariants.{Listening, Connecting, Stream}
use Rattle.dill_rules.specs.declared.thing.Thing.{Thing}
use Rattle.dill_rules.specs.declared.thing.Thing.TheVariants as things
use Rattle.dill_rules.specs.Owning.{entry_of}
use Rattle.dill_rules.specs.World.{World, Place, is_coroutine, coroutine_of, with_mode, reply, pending_call}
use Rattle.dill_rules.specs.Effects.{make, next_number}
use Rattle.dill_rules.specs.Giving.{give}
use Rattle.dill_rules.specs.Hearing.{listen_fault, connect_fault, accept_fault, fitting, linking_call, fail, give_handle, made, broken, connector_of, heard_listen, heard_connect, heard_finish, heard_accept, heard_write, heard_shut, heard_read, heard_ask, heard}
use Rattle.dill_rules.specs.LinkAnswers.{is_on_stack}
use Rattle.dill_rules.specs.Links as link
use Rattle.dill_rules.specs.Links.{Link, Links, look, is_link, change_link, fresh_link, connector, with_stack, heated, read_cold, write_cold, as_wrote, as_shut, as_stream}
use Rattle.dill_rules.specs.Naming as naming
use Rattle.dill_rules.specs.Refusals.{is_accept}
use Rattle.dill_rules.specs.Sockets.{link_of, link_number, on_link}
use Rattle.dill_rules.specs.Trying.{Try, pending_on, next_link, next_try}
use Rattle.laws_queue.specs.Well.{bit, Numbered}
use Rattle.laws_queue.proofs.Acting.{Hears, nobody, one, heard_hears}
use Rattle.laws_queue.proofs.Numbers.{numbered_change}
use Rattle.laws_looks.specs.Readers.{In, Pends, Rising, may_name, LooksApart}
use Rattle.laws_looks.specs.Calm.{Names}
use Rattle.laws_looks.proofs.Lists.{equal_is, unequal_is, some_same, true_false, in_push}
use Rattle.laws_looks.proofs.Fewer.{weigh_linked, fewer_reply, fewer_same, fewer_apart, pends_same}
use Rattle.laws_looks.proofs.Hears.{heard_apart}
use Rattle.laws_looks.proofs.Stays.{next_above}
use Rattle.laws_looks.proofs.Quieted.{found_change}
use Rattle.laws_fits.specs.Fitting.{shakes, queues, IsSolid, FitsCall, Holds}
use Rattle.laws_fits.proofs.Stacks.{Soft, soft_same, came_soft, ended_soft, broke_soft, took_soft}
use Rattle.laws_fits.proofs.Tidy.{Same, NoNumber, Once, Opens, tidy_links, tidy_on, tidy_more, tidy_reply, member_links}
use Rattle.laws_fits.proofs.Fits.{NoCall, queues_on, Fitted, Lasts, once_of, same_fits, fitted, fitted_soft}
use Rattle.laws_fits.proofs.Giving.{makes_off, only, give_lasts}
use Rattle.laws_fits.proofs.Tries.{link_found, finish_try}

above : (low high k : ℕ) (xs : List Link) (y : Link) → Rising low xs high → find (is_link k) xs ≡ Some y → low < k
above low high k [] y r e = cc
above low high k (x ∷ xs) y r e = at (is_link k x) refl e (above x.number high k xs y r.1)
  where
    at : (b : Bool) → is_link k x ≡ b → cond b (Some x) (find (is_link k) xs) ≡ Some y → (find (is_link k) xs ≡ Some y → x.number < k) → low < k
    at true f g rest = let q : x.number ≡ k = equal_is x.number k f in let up = r.0 in omega (arith, q, up)
    at false f g rest = let s = rest g in let up = r.0 in omega (arith, s, up)

rising_low : (low : ℕ) (xs : List Link) (high : ℕ) → Rising low xs high → low ≤ high
rising_low low [] high r = r
rising_low low (x ∷ xs) high r = let a = r.0 in let b = rising_low x.number xs high r.1 in omega (arith, a, b)

-- no link has a number above the last
beyond : (low : ℕ) (xs : List Link) (y : Link) (high : ℕ) → Rising low xs high → find (is_link (high + 1)) xs ≡ Some y → ⊥
beyond low [] y high r e = cc
beyond low (x ∷ xs) y high r e = at (is_link (high + 1) x) refl e (beyond x.number xs y high r.1)
  where
    at : (b : Bool) → is_link (high + 1) x ≡ b → cond b (Some x) (find (is_link (high + 1)) xs) ≡ Some y → (find (is_link (high + 1)) xs ≡ Some y → ⊥) → ⊥
    at true f g rest = let q : x.number ≡ high + 1 = equal_is x.number (high + 1) f in let s = rising_low x.number xs high r.1 in omega (arith, q, s)
    at false f g rest = rest g

-- a link that is gone isn't found
gone_none : (low high l : ℕ) (xs : List Link) (y : Link) → Rising low xs high → find (is_link l) (without (is_link l) xs) ≡ Some y → ⊥
gone_none low high l [] y r e = cc
gone_none low high l (x ∷ xs) y r e = at (is_link l x) refl e (gone_none x.number high l xs y r.1)
  where
    at : (b : Bool) → is_link l x ≡ b → find (is_link l) (cond b xs (x ∷ without (is_link l) xs)) ≡ Some y → (find (is_link l) (without (is_link l) xs) ≡ Some y → ⊥) → ⊥
    at true f g rest = let q : x.number ≡ l = equal_is x.number l f in let s = above x.number high l xs y r.1 g in omega (arith, q, s)
    at false f g rest = rest (sym (ap (λ b. cond b (Some x) (find (is_link l) (without (is_link l) xs))) f) ∙ g)

-- what is found behind a new link
push_found : (l : ℕ) (xs : List Link) (x y : Link) → find (is_link l) (xs ++ x ∷ []) ≡ Some y → (find (is_link l) xs ≡ Some y) ⊎ ((x.number ≡ l) × (y ≡ x))
push_found l [] x y e = at (is_link l x) refl e
  where
    at : (b : Bool) → is_link l x ≡ b → cond b (Some x) None ≡ Some y → (None ≡ Some y) ⊎ ((x.number ≡ l) × (y ≡ x))
    at true f g = let it : x ≡ y = cc in inr (equal_is x.number l f, sym it)
    at false f g = cc
push_found l (z ∷ zs) x y e = at (is_link l z) e (push_found l zs x y)
  where
    at : (b : Bool) → cond b (Some z) (find (is_link l) (zs ++ x ∷ [])) ≡ Some y → (find (is_link l) (zs ++ x ∷ []) ≡ Some y → (find (is_link l) zs ≡ Some y) ⊎ ((x.number ≡ l) × (y ≡ x))) → (cond b (Some z) (find (is_link l) zs) ≡ Some y) ⊎ ((x.number ≡ l) × (y ≡ x))
    at true f rest = inl f
    at false f rest = rest f

-- a link that is made is solid
fresh_solid : (n : ℕ) (sort : Sort) → IsSolid (fresh_link n sort).stack
fresh_solid n sort = record { standing = tt; formed = tt; broken = λ e. refl; expects = λ e. refl }

module _ {V : Type 0} where
  -- who is pending in a listen, an accept or a connect
  record Linking (w : World V) (who : ℕ) (call : Call) : Type 0 where
    one : Coroutine V
    found : coroutine_of w who ≡ Some one
    mode : pending_call one.mode ≡ Some call
    makes : naming.links (word_of call) ≡ true

  linking : (w : World V) (who : ℕ) (call : Call) → linking_call w who ≡ Some call → Linking w who call
  linking w who call e = at (coroutine_of w who) refl e
    where
      sort : (c : Coroutine V) (more : Call) → coroutine_of w who ≡ Some c → pending_call c.mode ≡ Some more → (b : Bool) → naming.links (word_of more) ≡ b → (if b then Some more else None) ≡ Some call → Linking w who call
      sort c more f g true h i =
          let it : more ≡ call = cc in
          record { one = c; found = f; mode = g ∙ ap Some it; makes = ap (λ m. naming.links (word_of m)) (sym it) ∙ h }
      sort c more f g false h i = cc

      by : (c : Coroutine V) → coroutine_of w who ≡ Some c → (q : Option Call) → pending_call c.mode ≡ q → if_some q None (λ more. if naming.links (word_of more) then Some more else None) ≡ Some call → Linking w who call
      by c f None g h = cc
      by c f (Some more) g h = sort c more f g (naming.links (word_of more)) refl h

      at : (q : Option (Coroutine V)) → coroutine_of w who ≡ q → if_some (if_some q None (λ c. pending_call c.mode)) None (λ more. if naming.links (word_of more) then Some more else None) ≡ Some call → Linking w who call
      at None f g = cc
      at (Some c) f g = by c f (pending_call c.mode) refl g

  fit : {w : World V} → Lasts w → Fitted w
  fit h = record { fits = h.fits; low = h.low }

  fails : (w : World V) (e : Errno) (who : ℕ) → Lasts w → Fitted (fail w e who)
  fails w e who h = at (linking_call w who) refl
    where
      at : (o : Option Call) → linking_call w who ≡ o → Fitted (if_some o w (λ call. give w who call (Fault e)))
      at None f = fit h
      at (Some call) f =
          let k = linking w who call f in
          fit (give_lasts w who call (Fault e) k.one k.found k.mode h (λ on. absurd (true_false (is_on_stack (word_of call)) on (makes_off (word_of call) k.makes))))

  -- nothing names the next link
  unnamed : (w : World V) (n : ℕ) → LooksApart w → Names w n (w.links.last + 1) → ⊥
  unnamed w n a p =
      let k = w.links.last + 1 in
      let one = member_links k w.handles.entries p.entry p.there p.link in
      let few = a.named k in
      let same = weigh_linked w k in
      let none : bit (may_name w.links k) ≡ 0 = ap (λ b. bit (b && if_some (look w.links k) true (λ x. is_none (connector x.sort)))) (next_above w.links.last).0 in
      omega (arith, one, few, same, none)

  -- a link is made
  adds : (w : World V) (sort : Sort) → Lasts w → Fitted (record w { links = link.add w.links sort })
  adds w sort h = record {
    fits = record {
      «open» = λ n l y p i. opens n l y p (which l y i);
      solid = λ l y i c. solid l y c (which l y i);
      sends = λ l y i c e. holds queues (sends l y c e (which l y i));
      expects = λ l y i c e. holds shakes (expects l y c e (which l y i));
      calls = λ other more n l y p e nm i. calls other more n l y p e nm (which l y i);
    };
    low = h.low;
  }
    where
      x : Link
      x = fresh_link (w.links.last + 1) sort

      which : (l : ℕ) (y : Link) → look (link.add w.links sort) l ≡ Some y → (look w.links l ≡ Some y) ⊎ ((w.links.last + 1 ≡ l) × (y ≡ x))
      which l y i = push_found l w.links.all x y i

      opens : (n l : ℕ) (y : Link) → Names w n l → (look w.links l ≡ Some y) ⊎ ((w.links.last + 1 ≡ l) × (y ≡ x)) → y.closing ≡ false
      opens n l y p (inl i) = h.fits.«open» n l y p i
      opens n l y p (inr s) = ap (λ (z : Link). z.closing) s.1

      solid : (l : ℕ) (y : Link) → y.closing ≡ false → (look w.links l ≡ Some y) ⊎ ((w.links.last + 1 ≡ l) × (y ≡ x)) → IsSolid y.stack
      solid l y c (inl i) = h.fits.solid l y i c
      solid l y c (inr s) = subst (λ (z : Link). IsSolid z.stack) (sym s.1) (fresh_solid (w.links.last + 1) sort)

      sends : (l : ℕ) (y : Link) → y.closing ≡ false → is_sent y.stack ≡ false → (look w.links l ≡ Some y) ⊎ ((w.links.last + 1 ≡ l) × (y ≡ x)) → Holds w queues l
      sends l y c e (inl i) = h.fits.sends l y i c e
      sends l y c e (inr s) = let bad : true ≡ false = sym (ap (λ (z : Link). is_sent z.stack) s.1) ∙ e in cc

      expects : (l : ℕ) (y : Link) → y.closing ≡ false → y.stack.task ≡ Expects → (look w.links l ≡ Some y) ⊎ ((w.links.last + 1 ≡ l) × (y ≡ x)) → Holds w shakes l
      expects l y c e (inl i) = h.fits.expects l y i c e
      expects l y c e (inr s) = let bad : Idle ≡ Expects = sym (ap (λ (z : Link). z.stack.task) s.1) ∙ e in cc

      calls : (other : ℕ) (more : Call) (n l : ℕ) (y : Link) → Pends w other more → named_by more ≡ Some n → Names w n l → (look w.links l ≡ Some y) ⊎ ((w.links.last + 1 ≡ l) × (y ≡ x)) → FitsCall more y
      calls other more n l y p e nm (inl i) = h.fits.calls other more n l y p e nm i
      calls other more n l y p e nm (inr s) = absurd (unnamed w n h.apart (subst (Names w n) (sym s.0) nm))

      holds : (test : Call → Bool) {l : ℕ} → Holds w test l → Holds (record w { links = link.add w.links sort }) test l
      holds test p = record { who = p.who; call = p.call; number = p.number; pends = p.pends; passes = p.passes; named = p.named; linked = p.linked }

  -- it isn't closing
  added : (w : World V) (sort : Sort) → Lasts w → (y : Link) → look (link.add w.links sort) (w.links.last + 1) ≡ Some y → y.closing ≡ false
  added w sort h y i = at (push_found (w.links.last + 1) w.links.all (fresh_link (w.links.last + 1) sort) y i)
    where
      at : (look w.links (w.links.last + 1) ≡ Some y) ⊎ ((w.links.last + 1 ≡ w.links.last + 1) × (y ≡ fresh_link (w.links.last + 1) sort)) → y.closing ≡ false
      at (inl j) = absurd (beyond 0 w.links.all y w.links.last h.apart.rising j)
      at (inr s) = ap (λ (z : Link). z.closing) s.1

  -- a link has a handle, where it isn't closing
  handles_it : (w : World V) (thing : Thing) (k who : ℕ) → link_of thing ≡ Some k → ((y : Link) → look w.links k ≡ Some y → y.closing ≡ false) → Numbered 0 w.coroutines w.last_coroutine → Once w → LooksApart (give_handle w thing who) → Fitted w → Fitted (give_handle w thing who)
  handles_it w thing k who linked opens numbered once apart h = at (linking_call w who) refl apart
    where
      new : Entry Thing
      new = record { number = handles.next_number w.handles; thing = thing; owner = who }

      m : World V
      m = make w thing who

      kept : (n l : ℕ) (q : Option (Entry Thing)) → entry_of w n ≡ q → if_some q None (λ x. link_of x.thing) ≡ Some l → link_number m n ≡ Some l
      kept n l None e f = cc
      kept n l (Some x) e f = ap (λ q. if_some q None (λ (y : Entry Thing). link_of y.thing)) (find_push_kept (λ (y : Entry Thing). y.number) n w.handles.entries new x e) ∙ f

      named : (n l : ℕ) (p : Names m n l) → In p.entry w.handles.entries ⊎ (p.entry ≡ new) → Names w n l ⊎ (w.handles.last < n)
      named n l p (inl i) = inl (record { entry = p.entry; there = i; number = p.number; link = p.link })
      named n l p (inr same) = let e : n ≡ w.handles.last + 1 = sym p.number ∙ ap (λ (x : Entry Thing). x.number) same in inr (omega (arith, e))

      opened : (n l : ℕ) (y : Link) (p : Names m n l) → look w.links l ≡ Some y → Opens w → In p.entry w.handles.entries ⊎ (p.entry ≡ new) → y.closing ≡ false
      opened n l y p i all (inl j) = all n l y (record { entry = p.entry; there = j; number = p.number; link = p.link }) i
      opened n l y p i all (inr same) =
          let it : ◌≡◌ {A = Option ℕ} (Some k) (Some l) = sym linked ∙ ap (λ (x : Entry Thing). link_of x.thing) (sym same) ∙ p.link in
          let is : k ≡ l = cc in
          opens y (ap (look w.links) is ∙ i)

      replied : (call : Call) → linking_call w who ≡ Some call → LooksApart (reply m who (word_of call) (Number (next_number w))) → Fitted (reply m who (word_of call) (Number (next_number w)))
      replied call e a = fitted {S = Same} {T = NoNumber} {gone = Some who} {new = NoCall} w v
          (record {
            tidy = tidy_more w m v (record {
              names = λ n l p. named n l p (in_push w.handles.entries new p.entry p.there);
              last = omega arith;
              links = λ l y i o. record { x = y; there = i; «open» = o; most = omega arith; stack = refl };
              lost = λ n l f. inl (kept n l (entry_of w n) refl f);
              still = λ other more p on ne. p;
              once = λ o. once_of v a;
              «open» = λ o all n l y p i. opened n l y p i all (in_push w.handles.entries new p.entry p.there);
            }) (tidy_reply m who (word_of call) (Number (next_number w)) refl);
            calls = λ other more p on. inl (let q = (fewer_reply m who (word_of call) (Number (next_number w))).calls other more p in record { one = q.one; there = q.there; number = q.number; mode = q.mode });
            free = λ other more n l ne p q f g t. t;
            own = λ other more n l x y g p q f i j c d s. absurd (unqueued other more g p q);
            stacks = λ l x y i c j d s. inl (soft_same (Holds v queues l) x.stack y.stack s);
            fits = λ other more n l y q f nm i c. absurd q;
            low = λ other more n q f. absurd q;
          }) once h
        where
          v : World V
          v = reply m who (word_of call) (Number (next_number w))

          unqueued : (other : ℕ) (more : Call) → Some who ≡ Some other → Pends w other more → queues more ≡ true → ⊥
          unqueued other more g p q =
              let is : who ≡ other = cc in
              let c = linking w who call e in
              let same = only w who c.one call more numbered c.found c.mode (subst (λ z. Pends w z more) (sym is) p) in
              true_false (is_on_stack (word_of call)) (queues_on call (ap queues (sym same) ∙ q)) (makes_off (word_of call) c.makes)

      at : (o : Option Call) → linking_call w who ≡ o → LooksApart (if_some o w (λ call. reply (make w thing who) who (word_of call) (Number (next_number w)))) → Fitted (if_some o w (λ call. reply (make w thing who) who (word_of call) (Number (next_number w))))
      at None e a = h
      at (Some call) e a = replied call e a

  -- a link is another, softly
  softly : (w : World V) (l : ℕ) (f : Link → Link) → ((x : Link) → (f x).number ≡ x.number) → ((x : Link) → (f x).closing ≡ x.closing) → ((x : Link) → x.most ≤ (f x).most) → ((x : Link) → Soft ⊥ x.stack (f x).stack) → Once w → Fitted w → Fitted (on_link w l f)
  softly w l f number closing most soft once h =
      fitted_soft {S = λ m s t. Soft ⊥ s t} w (on_link w l f) (tidy_on w l f number closing most (λ m s ne. soft_same ⊥ s s refl) (λ x i. soft x)) (λ other more p. record { one = p.one; there = p.there; number = p.number; mode = p.mode }) (λ m s t a. a) once h

  aside : (w v : World V) → v.coroutines ≡ w.coroutines → v.handles ≡ w.handles → v.links ≡ w.links → Fitted w → Fitted v
  aside w v e g k h = record {
    fits = same_fits w v (pends_same w v e) (pends_same v w (sym e)) g k h.fits;
    low = λ other more n p on f. let a = h.low other more n (pends_same w v e other more p) on f in let b = ap (λ (q : handles.Handles Thing). q.last) g in omega (arith, a, b);
  }

  -- ---- replies

  listens : (w : World V) (who : ℕ) (said : KernelReply) → Lasts w → LooksApart (heard_listen w who said) → Fitted (heard_listen w who said)
  listens w who (replies.Failed fault) h a = fails w (listen_fault fault) who h
  listens w who said h a = handles_it (record w { links = link.add w.links Listening }) (things.Listener (next_link w)) (next_link w) who refl (added w Listening h) h.numbered (once_of w h.apart) a (adds w Listening h)

  connects : (w : World V) (who : ℕ) (said : KernelReply) → Lasts w → Fitted (heard_connect w who said)
  connects w who (replies.Failed fault) h = fails w (connect_fault fault) who h
  connects w who said h = adds w (Connecting who) h

  accepts : (w : World V) (l : ℕ) (said : KernelReply) → Lasts w → LooksApart (heard_accept w l said) → Fitted (heard_accept w l said)
  accepts w l (replies.Failed fault) h a = at (pending_on w is_accept l)
    where
      at : (o : Option ℕ) → Fitted (if_some o w (fail w (accept_fault fault)))
      at None = fit h
      at (Some who) = fails w (accept_fault fault) who h
  accepts w l replies.NotYet h a = softly w l read_cold (λ x. refl) (λ x. refl) (λ x. omega arith) (λ x. soft_same ⊥ x.stack x.stack refl) (once_of w h.apart) (fit h)
  accepts w l said h a = at (pending_on w is_accept l) a
    where
      at : (o : Option ℕ) → LooksApart (if_some o w (made w Stream things.Socket)) → Fitted (if_some o w (made w Stream things.Socket))
      at None b = fit h
      at (Some who) b = handles_it (record w { links = link.add w.links Stream }) (things.Socket (next_link w)) (next_link w) who refl (added w Stream h) h.numbered (once_of w h.apart) b (adds w Stream h)

  finishes : (w : World V) (l : ℕ) (said : KernelReply) → ((y : Link) → look w.links l ≡ Some y → y.closing ≡ false) → Lasts w → LooksApart (heard_finish w l said) → Fitted (heard_finish w l said)
  finishes w l (replies.Failed fault) opens h a = at (connector_of w l)
    where
      at : (o : Option ℕ) → Fitted (if_some o w (fail w (connect_fault fault)))
      at None = fit h
      at (Some who) = fails w (connect_fault fault) who h
  finishes w l replies.NotYet opens h a = softly w l write_cold (λ x. refl) (λ x. refl) (λ x. omega arith) (λ x. soft_same ⊥ x.stack x.stack refl) (once_of w h.apart) (fit h)
  finishes w l said opens h a = at (connector_of w l) a
    where
      v : World V
      v = on_link w l as_stream

      left : (y : Link) → look v.links l ≡ Some y → y.closing ≡ false
      left y i = let r = found_change as_stream (λ z. refl) l l w.links.all y i in by r.0 r.1 r.2
        where
          by : (z : Link) → look w.links l ≡ Some z → (y ≡ z) ⊎ ((l ≡ l) × (y ≡ as_stream z)) → y.closing ≡ false
          by z j (inl same) = ap (λ (q : Link). q.closing) same ∙ opens z j
          by z j (inr is) = ap (λ (q : Link). q.closing) is.1 ∙ opens z j

      at : (o : Option ℕ) → LooksApart (if_some o w (give_handle v (things.Socket l))) → Fitted (if_some o w (give_handle v (things.Socket l)))
      at None b = fit h
      at (Some who) b = handles_it v (things.Socket l) l who refl left h.numbered (once_of w h.apart) b (softly w l as_stream (λ x. refl) (λ x. refl) (λ x. omega arith) (λ x. soft_same ⊥ x.stack x.stack refl) (once_of w h.apart) (fit h))

  breaks : (w : World V) (l : ℕ) → Once w → Fitted w → Fitted (broken w l)
  breaks w l once h = softly w l (with_stack broke) (λ x. refl) (λ x. refl) (λ x. omega arith) (λ x. broke_soft x.stack) once h

  writes : (w : World V) (l : ℕ) (said : KernelReply) → Once w → Fitted w → Fitted (heard_write w l said)
  writes w l (replies.Took count) once h = softly w l (with_stack (took count)) (λ x. refl) (λ x. refl) (λ x. omega arith) (λ x. took_soft count x.stack) once h
  writes w l replies.NotYet once h = softly w l write_cold (λ x. refl) (λ x. refl) (λ x. omega arith) (λ x. soft_same ⊥ x.stack x.stack refl) once h
  writes w l said once h = breaks w l once h

  shuts : (w : World V) (l : ℕ) (said : KernelReply) → Lasts w → Fitted (heard_shut w l said)
  shuts w l replies.Done h = softly w l as_shut (λ x. refl) (λ x. refl) (λ x. omega arith) (λ x. soft_same ⊥ x.stack x.stack refl) (once_of w h.apart) (fit h)
  shuts w l said h = breaks w l (once_of w h.apart) (fit h)

  hears_read : (w : World V) (l : ℕ) (said : KernelReply) → Lasts w → Fitted (heard_read w l said)
  hears_read w l (replies.Came bytes) h = softly w l (with_stack (came bytes)) (λ x. refl) (λ x. refl) (λ x. omega arith) (λ x. came_soft bytes x.stack) (once_of w h.apart) (fit h)
  hears_read w l replies.End h = softly w l (with_stack ended) (λ x. refl) (λ x. refl) (λ x. omega arith) (λ x. ended_soft x.stack) (once_of w h.apart) (fit h)
  hears_read w l replies.NotYet h = softly w l read_cold (λ x. refl) (λ x. refl) (λ x. omega arith) (λ x. soft_same ⊥ x.stack x.stack refl) (once_of w h.apart) (fit h)
  hears_read w l said h = breaks w l (once_of w h.apart) (fit h)

  goes : (w : World V) (l : ℕ) → Lasts w → Fitted (record w { links = link.gone w.links l })
  goes w l h = fitted_soft {S = Same} w (record w { links = link.gone w.links l }) (tidy_links w (link.gone w.links l) (λ k y i. (y, left k y i (k == l) refl, refl, omega arith, refl)))
      (λ other more p. record { one = p.one; there = p.there; number = p.number; mode = p.mode }) (λ m s t e. soft_same ⊥ s t e) (once_of w h.apart) (fit h)
    where
      left : (k : ℕ) (y : Link) → look (link.gone w.links l) k ≡ Some y → (b : Bool) → (k == l) ≡ b → look w.links k ≡ Some y
      left k y i true e = absurd (gone_none 0 w.links.last l w.links.all y h.apart.rising (ap (look (link.gone w.links l)) (sym (equal_is k l e)) ∙ i))
      left k y i false e = sym (find_without_other (λ (x : Link). x.number) k l w.links.all (unequal_is k l e)) ∙ i

  asks_fit : (w : World V) (number : ℕ) (ask : KernelAsk) (said : KernelReply) → ((l : ℕ) (y : Link) → ask ≡ asks.Finish l → look w.links l ≡ Some y → y.closing ≡ false) → Lasts w → LooksApart (heard_ask w number ask said) → Fitted (heard_ask w number ask said)
  asks_fit w number (asks.Close l) said opens h a = goes w l h
  asks_fit w number (asks.Listen l address backlog) said opens h a = listens w number said h a
  asks_fit w number (asks.Connect l address) said opens h a = connects w number said h
  asks_fit w number (asks.Finish l) said opens h a = finishes w l said (λ y i. opens l y refl i) h a
  asks_fit w number (asks.Accept listener l) said opens h a = accepts w listener said h a
  asks_fit w number (asks.Write l bytes) said opens h a =
      writes (on_link w l as_wrote) l said (once_of w h.apart) (softly w l as_wrote (λ x. refl) (λ x. refl) (λ x. omega arith) (λ x. soft_same ⊥ x.stack x.stack refl) (once_of w h.apart) (fit h))
  asks_fit w number (asks.Shut l) said opens h a = shuts w l said h
  asks_fit w number (asks.Read l size) said opens h a = hears_read w l said h
  asks_fit w number (asks.Wait limit) said opens h a = fit h

  heard_numbered : (w v : World V) → Hears w v → Numbered 0 w.coroutines w.last_coroutine → Numbered 0 v.coroutines v.last_coroutine
  heard_numbered w v (nobody s) n = subst (λ k. Numbered 0 v.coroutines k) (sym s.last) (subst (λ cs. Numbered 0 cs w.last_coroutine) (sym s.coroutines) n)
  heard_numbered w v (one who call e g) n =
      subst (λ k. Numbered 0 v.coroutines k) (sym g.last) (subst (λ cs. Numbered 0 cs w.last_coroutine) (sym g.coroutines) (numbered_change (is_coroutine who) (with_mode (modes.Fresh (word_of call) g.answer)) w.coroutines 0 w.last_coroutine (λ d. refl) n))

  pub heard_lasts : (w : World V) (x : Try) (said : Option KernelReply) → next_try w ≡ Some x → Lasts w → Lasts (heard w x said)
  heard_lasts w x said e h =
      let place : Place = record { kind = x.kind; number = x.number } in
      let u : World V = record w { place = place } in
      let apart = heard_apart w x said h.apart in
      let moved = aside w u refl refl refl (fit h) in
      let f = asks_fit u x.number x.ask (fitting x.ask said) opens (record { fits = moved.fits; low = moved.low; apart = fewer_apart w u (fewer_same w u refl refl refl) h.apart; numbered = h.numbered }) apart in
      record { fits = f.fits; low = f.low; apart = apart; numbered = heard_numbered w (heard w x said) (heard_hears w x said) h.numbered }
    where
      opens : (l : ℕ) (y : Link) → x.ask ≡ asks.Finish l → look w.links l ≡ Some y → y.closing ≡ false
      opens l y f i =
          let o = finish_try w x l e f in
          let it : asks.Finish o.y.number ≡ asks.Finish l = ap (λ (z : Try). z.ask) (sym o.same) ∙ f in
          let number : o.y.number ≡ l = cc in
          let there : look w.links l ≡ Some o.y = ap (look w.links) (sym number) ∙ link_found 0 w.links.last w.links.all o.y h.apart.rising o.there in
          ap (λ (z : Link). z.closing) (some_same (look w.links l) y o.y i there) ∙ o.«open»
