-- A reply to what is asked next leaves as many links kept as pending calls that make a link have none.
use Rattle.std.proofs.Common.{◌≡◌, ◌∙◌, ◌⊎◌, inl, inr, ℕ, ◌+◌, ◌-◌, ◌≤◌, ◌<◌, ◌==◌, List, [], ◌∷◌, ◌++◌, find, cond, Bool, true, false, not, ◌&&◌, Option, Some, None, if◌then◌else◌, refl, sym, ap, subst, arith}
use Rattle.std.specs.Prelude.{is_none, is_some, filter}
use Rattle.std.specs.List.{list_any}
use Rattle.std.proofs.lemmas.Bool.{and_parts, or_parts}
use Rattle.std.proofs.lemmas.Bool.Decides.{nat_tests}
use Rattle.dill_base.specs.declared.errno.Errno.{Errno}
use Rattle.dill_base.specs.declared.status.Address.{Address}
use Rattle.dill_base.specs.declared.deadline.Deadline.{Deadline}
use Rattle.dill_base.specs.Maps.{if_some, change}
use Rattle.dill_calls.specs.declared.answer.Answer.TheVariants.{Fault, Number}
use Rattle.dill_calls.specs.declared.call.Call.{Call}
use Rattle.dill_calls.specs.declared.call.Call.TheVariants as calls
use Rattle.dill_calls.specs.declared.word.Word.{Word}
use Rattle.dill_calls.specs.declared.word.Word.TheVariants as words
use Rattle.dill_calls.specs.CallTable.{word_of}
use Rattle.dill_kernel.specs.declared.replies.KernelAsk.TheVariants as asks
use Rattle.dill_kernel.specs.declared.replies.KernelReply.{KernelReply}
use Rattle.dill_kernel.specs.declared.replies.KernelReply.TheVariants as replies
use Rattle.dill_stack.specs.Interface.{came, ended, broke, took, offered}
use Rattle.dill_rules.specs.declared.coroutine.Coroutine.{Coroutine}
use Rattle.dill_rules.specs.declared.coroutine.Mode.TheVariants as modes
use Rattle.dill_rules.specs.declared.thing.Thing.{Thing}
use Rattle.dill_rules.specs.declared.thing.Thing.TheVariants as things
use Rattle.dill_rules.specs.World.{World, is_coroutine, coroutine_of, call_of, with_mode, reply, pending_call}
use Rattle.dill_rules.specs.Effects.{make, next_number}
use Rattle.dill_rules.specs.Giving.{is_connecting_for, give}
use Rattle.dill_rules.specs.Hearing.{fitting, listen_fault, connect_fault, accept_fault, linking_call, fail, give_handle, made, connector_of, heard_listen, heard_connect, heard_finish, heard_accept, heard_write, heard_shut, heard_read, heard_ask, heard}
use Rattle.dill_rules.specs.Links as link
use Rattle.dill_rules.specs.Links.{Link, Links, look, is_link, is_listening, is_stream, connector, with_stack, as_stream, as_shut, as_wrote, read_cold, write_cold}
use Rattle.dill_rules.specs.declared.link.Sort.{Sort}
use Rattle.dill_rules.specs.declared.link.Sort.TheVariants.{Listening, Connecting, Stream}
use Rattle.dill_rules.specs.Naming.{links}
use Rattle.dill_rules.specs.Refusals.{is_accept}
use Rattle.dill_rules.specs.Sockets.{on_link}
use Rattle.dill_rules.specs.Trying.{Try, next_link, is_awaited_on, pending_on, is_pending_on, is_needy, is_idle, is_ending_send, read_size, is_stopped, is_next, closes, listen_of, listens, connect_of, connects, finishes, accepts, writes, shuts, reads, tries, tries_now, next_try}
use Rattle.laws_queue.specs.Well.{bit, is_at, Numbered}
use Rattle.laws_queue.proofs.Acting.{Hears, nobody, one, heard_hears}
use Rattle.laws_queue.proofs.Numbers.{numbered_change}
use Rattle.laws_sound.specs.Orderly.{weigh}
use Rattle.laws_sound.proofs.Counting.{weigh_found, weigh_change, weigh_push, none_weightless, small_bit}
use Rattle.laws_looks.specs.Readers.{In, Rising}
use Rattle.laws_looks.specs.Keeping.{connects_for, is_connect, awaits, KeepsLinks, LinksAreKept}
use Rattle.laws_looks.specs.Keeping as waiting
use Rattle.laws_looks.proofs.Lists.{itself, less_unequal, in_append, in_filter, in_picked, in_map, find_in, first_in}
use Rattle.laws_looks.proofs.Stays.{soft_change}
use Rattle.laws_looks.proofs.Fewer.{fewer_same, fewer_apart}
use Rattle.laws_looks.proofs.Quieted.{found_of}
use Rattle.laws_looks.proofs.Hears.{heard_apart}
use Rattle.laws_looks.proofs.Counted.{even_same, even_soft, connects_one, making_awaits, is_number, moved, aside_keeps, Lasts, soft_lasts, given_lasts}

-- ---- links

link_above : (low high : ℕ) (xs : List Link) (x : Link) → Rising low xs high → In x xs → low < x.number
link_above low high [] x r i = absurd i
link_above low high (y ∷ ys) x r (inl same) = subst (λ z. low < z.number) (sym same) r.0
link_above low high (y ∷ ys) x r (inr i) = let a = link_above y.number high ys x r.1 i in let b = r.0 in omega (arith, a, b)

in_found : (low high : ℕ) (xs : List Link) (x : Link) → Rising low xs high → In x xs → find (is_link x.number) xs ≡ Some x
in_found low high [] x r i = absurd i
in_found low high (y ∷ ys) x r (inl same) = subst (λ z. cond (is_link z.number y) (Some y) (find (is_link z.number) ys) ≡ Some z) (sym same) (ap (λ b. cond b (Some y) (find (is_link y.number) ys)) (itself y.number))
in_found low high (y ∷ ys) x r (inr i) = ap (λ b. cond b (Some y) (find (is_link x.number) ys)) (less_unequal y.number x.number (link_above y.number high ys x r.1 i)) ∙ in_found y.number high ys x r.1 i

none_connects : (who : ℕ) (xs : List Link) → list_any (is_connecting_for who) xs ≡ false → weigh (λ x. bit (is_connecting_for who x)) xs ≡ 0
none_connects who [] e = refl
none_connects who (x ∷ xs) e =
    let p = or_parts (is_connecting_for who x) (list_any (is_connecting_for who) xs) e in
    let a = ap bit p.0 in
    let b = none_connects who xs p.1 in
    omega (arith, a, b)

connect_makes : (word : Word) → is_connect word ≡ true → links word ≡ true
connect_makes words.TcpConnect e = refl
connect_makes _ e = cc

change_not : {X : Type 0} (test : X → Bool) (xs : List X) → xs ≡ change test (λ x. x) xs
change_not test [] = refl
change_not test (x ∷ xs) = at (test x) (change_not test xs)
  where
    at : (b : Bool) → xs ≡ change test (λ y. y) xs → x ∷ xs ≡ cond b (x ∷ xs) (x ∷ change test (λ y. y) xs)
    at true e = refl
    at false e = ap (λ ys. x ∷ ys) e

apart_numbers : (n who : ℕ) → (n == who) ≡ false → (who == n) ≡ false
apart_numbers n who e = grind (arith, nat_tests)

at_least : (b : Bool) → 1 ≤ bit b → b ≡ true
at_least true h = refl
at_least false h = absurd (omega (arith, h))

one_of_weight : {X : Type 0} (f : X → ℕ) (test : X → Bool) (xs : List X) (x : X) → find test xs ≡ Some x → f x ≤ weigh f xs
one_of_weight f test xs x e = let w = weigh_found f test xs x e in omega (arith, w)

accept_makes : (word : Word) → is_accept word ≡ true → (links word ≡ true) × (is_connect word ≡ false)
accept_makes words.TcpAccept e = (refl, refl)
accept_makes _ e = cc

is_open_link : (b c : Bool) → (not b && c) ≡ true → b ≡ false
is_open_link true c e = cc
is_open_link false c e = refl

module _ {V : Type 0} where
  -- who is pending in a call
  record In_call (w : World V) (who : ℕ) (c : Coroutine V) (call : Call) : Type 0 where
    found : coroutine_of w who ≡ Some c
    mode : pending_call c.mode ≡ Some call

  called : (w : World V) (who : ℕ) (c : Coroutine V) (call : Call) → In_call w who c call → links (word_of call) ≡ true → linking_call w who ≡ Some call
  called w who c call h e =
      ap (λ o. if_some (if_some o None (λ d. pending_call d.mode)) None (λ d. if links (word_of d) then Some d else None)) h.found
      ∙ ap (λ o. if_some o None (λ d. if links (word_of d) then Some d else None)) h.mode
      ∙ ap (λ b. if b then Some call else None) e

  member_call : (w : World V) (c : Coroutine V) (call : Call) → Numbered 0 w.coroutines w.last_coroutine → In c w.coroutines → pending_call c.mode ≡ Some call → In_call w c.number c call
  member_call w c call n i e = record { found = found_of 0 w.last_coroutine w.coroutines c n i; mode = e }

  -- who is pending in a listen, an accept or a connect
  linked_call : (w : World V) (who : ℕ) (call : Call) → linking_call w who ≡ Some call → call_of w who ≡ Some call
  linked_call w who call e = at (call_of w who) e
    where
      by_word : (c : Call) (b : Bool) → (if b then Some c else None) ≡ Some call → ◌≡◌ {A = Option Call} (Some c) (Some call)
      by_word c true f = f
      by_word c false f = cc

      at : (o : Option Call) → if_some o None (λ c. if links (word_of c) then Some c else None) ≡ Some call → o ≡ Some call
      at None f = cc
      at (Some c) f = by_word c (links (word_of c)) f

  failed_keeps : (w : World V) (e : Errno) (who : ℕ) → Lasts w → KeepsLinks (fail w e who)
  failed_keeps w e who l = at (linking_call w who) refl
    where
      by : (call : Call) (o : Option (Coroutine V)) → coroutine_of w who ≡ o → if_some o None (λ c. pending_call c.mode) ≡ Some call → KeepsLinks (give w who call (Fault e))
      by call None f g = cc
      by call (Some c) f g = (given_lasts w who call (Fault e) c f g l).keeps

      at : (q : Option Call) → linking_call w who ≡ q → KeepsLinks (if_some q w (λ call. give w who call (Fault e)))
      at None f = l.keeps
      at (Some call) f = by call (coroutine_of w who) refl (linked_call w who call f)

  some_keeps : {A : Type 0} (o : Option A) (w : World V) (f : A → World V) → KeepsLinks w → ((a : A) → o ≡ Some a → KeepsLinks (f a)) → KeepsLinks (if_some o w f)
  some_keeps None w f k h = k
  some_keeps (Some a) w f k h = h a refl

  -- who waits in a listen or an accept has no link that connects
  without_link : (w : World V) (who : ℕ) (c : Coroutine V) (call : Call) → In_call w who c call → is_connect (word_of call) ≡ false → KeepsLinks w → connects_for w.links who ≡ 0
  without_link w who c call h e k =
      let a = k.once who in
      let b = ap bit (ap (λ q. if_some q false (λ (d : Coroutine V). waiting.connects d.mode)) h.found ∙ ap (λ q. if_some q false (λ d. is_connect (word_of d))) h.mode ∙ e) in
      omega (arith, a, b)

  waits_one : (w : World V) (who : ℕ) (c : Coroutine V) (call : Call) → In_call w who c call → links (word_of call) ≡ true → awaits w.links c ≡ 1 - connects_for w.links who
  waits_one w who c call h e = making_awaits w.links c call h.mode e ∙ ap (λ n. 1 - connects_for w.links n) (is_number w who c h.found)

  one_kept : (w : World V) (who : ℕ) (c : Coroutine V) → coroutine_of w who ≡ Some c → KeepsLinks w → awaits w.links c ≤ w.links.kept
  one_kept w who c e k = let a = one_of_weight (awaits w.links) (is_coroutine who) w.coroutines c e in let b = k.kept in omega (arith, a, b)

  -- the link was made, and is named
  made_keeps : (w : World V) (sort : Sort) (thing : ℕ → Thing) (who : ℕ) (c : Coroutine V) (call : Call) → is_none (connector sort) ≡ true → In_call w who c call → links (word_of call) ≡ true → is_connect (word_of call) ≡ false → Lasts w → KeepsLinks (made w sort thing who)
  made_keeps w sort thing who c call lasting h makes plain l =
      subst (λ q. KeepsLinks (if_some q m (λ d. reply (make m (thing (next_link w)) who) who (word_of d) (Number (next_number m))))) (sym (called w who c call h makes))
      (moved w v who c (with_mode (modes.Fresh (word_of call) (Number (next_number m)))) (λ d. refl) (record { numbered = l.numbered; found = h.found }) refl (λ n e. same n)
      (let k = one_kept w who c h.found l.keeps in omega (arith, k, waits, none)) (let s = same who in omega (arith, s, none)) l.keeps)
    where
      m : World V
      m = record w { links = link.add w.links sort }

      v : World V
      v = reply (make m (thing (next_link w)) who) who (word_of call) (Number (next_number m))

      fresh : Link
      fresh = link.fresh_link (w.links.last + 1) sort

      not_connecting : (o : Option ℕ) (n : ℕ) → is_none o ≡ true → bit (if_some o false (λ k. k == n)) ≡ 0
      not_connecting None n e = refl
      not_connecting (Some k) n e = cc

      same : (n : ℕ) → connects_for v.links n ≡ connects_for w.links n
      same n = let p = weigh_push (λ x. bit (is_connecting_for n x)) w.links.all fresh in let q = not_connecting (connector sort) n lasting in omega (arith, p, q)

      none : connects_for w.links who ≡ 0
      none = without_link w who c call h plain l.keeps

      waits : awaits w.links c ≡ 1 - connects_for w.links who
      waits = waits_one w who c call h makes

  listen_keeps : (w : World V) (who : ℕ) (c : Coroutine V) (call : Call) (said : KernelReply) → In_call w who c call → links (word_of call) ≡ true → is_connect (word_of call) ≡ false → Lasts w → KeepsLinks (heard_listen w who said)
  listen_keeps w who c call (replies.Failed fault) h makes plain l = failed_keeps w (listen_fault fault) who l
  listen_keeps w who c call said h makes plain l = made_keeps w Listening things.Listener who c call refl h makes plain l

  -- a link that connects for a coroutine without one
  connecting_keeps : (w : World V) (who : ℕ) (c : Coroutine V) (call : Call) → In_call w who c call → is_connect (word_of call) ≡ true → connects_for w.links who ≡ 0 → Lasts w → KeepsLinks (record w { links = link.add w.links (Connecting who) })
  connecting_keeps w who c call h connect none l =
      moved w v who c (λ d. d) (λ d. refl) (record { numbered = l.numbered; found = h.found }) (change_not (is_coroutine who) w.coroutines) (λ n e. others n e)
      (let k = one_kept w who c h.found l.keeps in omega (arith, k, waits, now, mine, none)) (let p = ap bit pends in omega (arith, mine, none, p)) l.keeps
    where
      v : World V
      v = record w { links = link.add w.links (Connecting who) }

      fresh : Link
      fresh = link.fresh_link (w.links.last + 1) (Connecting who)

      counts : (n : ℕ) → connects_for v.links n ≡ connects_for w.links n + bit (who == n)
      counts n = weigh_push (λ x. bit (is_connecting_for n x)) w.links.all fresh

      others : (n : ℕ) → (n == who) ≡ false → connects_for v.links n ≡ connects_for w.links n
      others n e = let a = counts n in let b = ap bit (apart_numbers n who e) in omega (arith, a, b)

      mine : connects_for v.links who ≡ connects_for w.links who + 1
      mine = let a = counts who in let b = ap bit (itself who) in omega (arith, a, b)

      waits : awaits w.links c ≡ 1 - connects_for w.links who
      waits = waits_one w who c call h (connect_makes (word_of call) connect)

      now : awaits v.links c ≡ 1 - connects_for v.links who
      now = making_awaits v.links c call h.mode (connect_makes (word_of call) connect) ∙ ap (λ n. 1 - connects_for v.links n) (is_number w who c h.found)

      pends : waiting.connects c.mode ≡ true
      pends = ap (λ q. if_some q false (λ d. is_connect (word_of d))) h.mode ∙ connect

  connect_keeps : (w : World V) (who : ℕ) (c : Coroutine V) (call : Call) (said : KernelReply) → In_call w who c call → is_connect (word_of call) ≡ true → connects_for w.links who ≡ 0 → Lasts w → KeepsLinks (heard_connect w who said)
  connect_keeps w who c call (replies.Failed fault) h connect none l = failed_keeps w (connect_fault fault) who l
  connect_keeps w who c call said h connect none l = connecting_keeps w who c call h connect none l

  soft_keeps : (w : World V) (n : ℕ) (f : Link → Link) → ((x : Link) → (f x).number ≡ x.number) → ((x : Link) → (f x).sort ≡ x.sort) → ((x : Link) → (f x).closing ≡ x.closing) → Lasts w → KeepsLinks (on_link w n f)
  soft_keeps w n f number sort closing l = aside_keeps w (on_link w n f) refl (even_soft w.links (on_link w n f).links (soft_change w.links n f number sort closing)) l.keeps

  -- a `connect` is finished
  stream_keeps : (w : World V) (x : Link) (who : ℕ) → In x w.links.all → x.closing ≡ false → connector x.sort ≡ Some who → Lasts w → KeepsLinks (give_handle (on_link w x.number as_stream) (things.Socket x.number) who)
  stream_keeps w x who i lasting e l = at (coroutine_of w who) refl (at_least (is_at waiting.connects w.coroutines who) (let a = l.keeps.once who in omega (arith, a, some)))
    where
      here : find (is_link x.number) w.links.all ≡ Some x
      here = in_found 0 w.links.last w.links.all x l.apart.rising i

      its : is_connecting_for who x ≡ true
      its = ap (λ b. not b && if_some (connector x.sort) false (λ n. n == who)) lasting ∙ ap (λ o. if_some o false (λ n. n == who)) e ∙ itself who

      one : bit (is_connecting_for who x) ≡ 1
      one = ap bit its

      some : 1 ≤ connects_for w.links who
      some = let a = one_of_weight (λ y. bit (is_connecting_for who y)) (is_link x.number) w.links.all x here in omega (arith, a, one)

      m : World V
      m = on_link w x.number as_stream

      nothing : (b : Bool) → bit (b && false) ≡ 0
      nothing true = refl
      nothing false = refl

      counts : (n : ℕ) → connects_for m.links n + bit (is_connecting_for n x) ≡ connects_for w.links n
      counts n =
          let a = weigh_change (λ y. bit (is_connecting_for n y)) (is_link x.number) as_stream w.links.all x here in
          let b = nothing (not x.closing) in
          omega (arith, a, b)

      given : (c : Coroutine V) (call : Call) → In_call w who c call → is_connect (word_of call) ≡ true → KeepsLinks (give_handle m (things.Socket x.number) who)
      given c call h connect =
          let makes = connect_makes (word_of call) connect in
          let v = reply (make m (things.Socket x.number) who) who (word_of call) (Number (next_number m)) in
          let mine = counts who in
          let waits = waits_one w who c call h makes in
          let few = l.keeps.once who in
          let most = small_bit (is_at waiting.connects w.coroutines who) in
          subst (λ q. KeepsLinks (if_some q m (λ d. reply (make m (things.Socket x.number) who) who (word_of d) (Number (next_number m))))) (sym (called w who c call h makes))
          (moved w v who c (with_mode (modes.Fresh (word_of call) (Number (next_number m)))) (λ d. refl) (record { numbered = l.numbered; found = h.found }) refl
          (λ n f. let a = counts n in let b = ap bit (connects_one who n x its f) in omega (arith, a, b))
          (omega (arith, waits, some)) (omega (arith, mine, one, few, most)) l.keeps)

      by : (c : Coroutine V) → coroutine_of w who ≡ Some c → (o : Option Call) → pending_call c.mode ≡ o → if_some o false (λ call. is_connect (word_of call)) ≡ true → KeepsLinks (give_handle m (things.Socket x.number) who)
      by c f None g h = cc
      by c f (Some call) g h = given c call (record { found = f; mode = g }) h

      at : (o : Option (Coroutine V)) → coroutine_of w who ≡ o → if_some o false (λ c. waiting.connects c.mode) ≡ true → KeepsLinks (give_handle m (things.Socket x.number) who)
      at None f g = cc
      at (Some c) f g = by c f (pending_call c.mode) refl g

  finish_keeps : (w : World V) (x : Link) (said : KernelReply) → In x w.links.all → x.closing ≡ false → Lasts w → KeepsLinks (heard_finish w x.number said)
  finish_keeps w x (replies.Failed fault) i lasting l = some_keeps (connector_of w x.number) w (fail w (connect_fault fault)) l.keeps (λ who e. failed_keeps w (connect_fault fault) who l)
  finish_keeps w x replies.NotYet i lasting l = soft_keeps w x.number write_cold (λ y. refl) (λ y. refl) (λ y. refl) l
  finish_keeps w x said i lasting l =
      some_keeps (connector_of w x.number) w (give_handle (on_link w x.number as_stream) (things.Socket x.number)) l.keeps
      (λ who e. stream_keeps w x who i lasting (sym (ap (λ o. if_some o None (λ y. connector y.sort)) (in_found 0 w.links.last w.links.all x l.apart.rising i)) ∙ e) l)

  -- who is pending on a link in a call of a sort
  pending_found : (w : World V) (sort : Word → Bool) (n who : ℕ) → Numbered 0 w.coroutines w.last_coroutine → pending_on w sort n ≡ Some who → (c : Coroutine V) × (call : Call) × In_call w who c call × (sort (word_of call) ≡ true)
  pending_found w sort n who numbered e = at (first_in test w.coroutines who e)
    where
      test : Coroutine V → Option ℕ
      test c = if_some (pending_call c.mode) None (λ call. if is_awaited_on w n sort call then Some c.number else None)

      by : (c : Coroutine V) → In c w.coroutines → (o : Option Call) → pending_call c.mode ≡ o → if_some o None (λ call. if is_awaited_on w n sort call then Some c.number else None) ≡ Some who → (d : Coroutine V) × (call : Call) × In_call w who d call × (sort (word_of call) ≡ true)
      by c i None f g = cc
      by c i (Some call) f g = which (is_awaited_on w n sort call) refl g
        where
          which : (b : Bool) → is_awaited_on w n sort call ≡ b → (if b then Some c.number else None) ≡ Some who → (d : Coroutine V) × (its : Call) × In_call w who d its × (sort (word_of its) ≡ true)
          which false h k = cc
          which true h k =
              let same : c.number ≡ who = cc in
              (c, call, subst (λ m. In_call w m c call) same (member_call w c call numbered i f), (and_parts (sort (word_of call)) _ h).0)

      at : (c : Coroutine V) × In c w.coroutines × (test c ≡ Some who) → (d : Coroutine V) × (call : Call) × In_call w who d call × (sort (word_of call) ≡ true)
      at r = by r.0 r.1 (pending_call r.0.mode) refl r.2

  accept_keeps : (w : World V) (n : ℕ) (said : KernelReply) → Lasts w → KeepsLinks (heard_accept w n said)
  accept_keeps w n (replies.Failed fault) l = some_keeps (pending_on w is_accept n) w (fail w (accept_fault fault)) l.keeps (λ who e. failed_keeps w (accept_fault fault) who l)
  accept_keeps w n replies.NotYet l = soft_keeps w n read_cold (λ y. refl) (λ y. refl) (λ y. refl) l
  accept_keeps w n said l =
      some_keeps (pending_on w is_accept n) w (made w Stream things.Socket) l.keeps
      (λ who e. let p = pending_found w is_accept n who l.numbered e in let m = accept_makes (word_of p.1) p.3 in made_keeps w Stream things.Socket who p.0 p.1 refl p.2 m.0 m.1 l)

  write_keeps : (w : World V) (n : ℕ) (said : KernelReply) → Lasts w → KeepsLinks (heard_write w n said)
  write_keeps w n (replies.Took count) l = soft_keeps w n (with_stack (took count)) (λ y. refl) (λ y. refl) (λ y. refl) l
  write_keeps w n replies.NotYet l = soft_keeps w n write_cold (λ y. refl) (λ y. refl) (λ y. refl) l
  write_keeps w n said l = soft_keeps w n (with_stack broke) (λ y. refl) (λ y. refl) (λ y. refl) l

  shut_keeps : (w : World V) (n : ℕ) (said : KernelReply) → Lasts w → KeepsLinks (heard_shut w n said)
  shut_keeps w n replies.Done l = soft_keeps w n as_shut (λ y. refl) (λ y. refl) (λ y. refl) l
  shut_keeps w n said l = soft_keeps w n (with_stack broke) (λ y. refl) (λ y. refl) (λ y. refl) l

  read_keeps : (w : World V) (n : ℕ) (said : KernelReply) → Lasts w → KeepsLinks (heard_read w n said)
  read_keeps w n (replies.Came bytes) l = soft_keeps w n (with_stack (came bytes)) (λ y. refl) (λ y. refl) (λ y. refl) l
  read_keeps w n replies.End l = soft_keeps w n (with_stack ended) (λ y. refl) (λ y. refl) (λ y. refl) l
  read_keeps w n replies.NotYet l = soft_keeps w n read_cold (λ y. refl) (λ y. refl) (λ y. refl) l
  read_keeps w n said l = soft_keeps w n (with_stack broke) (λ y. refl) (λ y. refl) (λ y. refl) l

  gone_keeps : (w : World V) (x : Link) → In x w.links.all → x.closing ≡ true → Lasts w → KeepsLinks (record w { links = link.gone w.links x.number })
  gone_keeps w x i closing l = aside_keeps w (record w { links = link.gone w.links x.number }) refl (record { kept = refl; connects = same }) l.keeps
    where
      same : (n : ℕ) → connects_for (link.gone w.links x.number) n ≡ connects_for w.links n
      same n =
          let a = weigh_found (λ y. bit (is_connecting_for n y)) (is_link x.number) w.links.all x (in_found 0 w.links.last w.links.all x l.apart.rising i) in
          let b = ap (λ c. bit (not c && if_some (connector x.sort) false (λ k. k == n))) closing in
          omega (arith, a, b)

  -- ---- what is asked

  abbrev pub Replied : World V → Try → KernelReply → Type 0
  Replied w x said = KeepsLinks (heard_ask w x.number x.ask said)

  close_asked : (w : World V) (x : Try) (said : KernelReply) → In x (closes w) → Lasts w → Replied w x said
  close_asked w x said i l =
      let r = in_map (λ (y : Link). record { kind = 1; number = y.number; ask = asks.Close y.number }) _ x i in
      let f = in_filter (λ (y : Link). y.closing) w.links.all r.0 r.1 in
      subst (λ t. Replied w t said) (sym r.2) (gone_keeps w r.0 f.0 f.1 l)

  listen_asked : (w : World V) (x : Try) (said : KernelReply) → In x (listens w) → Lasts w → Replied w x said
  listen_asked w x said i l =
      let r = in_picked (λ c. if_some (pending_call c.mode) None (listen_of w c.number)) w.coroutines x i in
      at r.0 r.1 (pending_call r.0.mode) refl r.2
    where
      by : (c : Coroutine V) → In c w.coroutines → (call : Call) → pending_call c.mode ≡ Some call → listen_of w c.number call ≡ Some x → Replied w x said
      by c j (calls.TcpListen address backlog) e f =
          let it : record { kind = 2; number = c.number; ask = asks.Listen (next_link w) address backlog } ≡ x = cc in
          subst (λ t. Replied w t said) it (listen_keeps w c.number c (calls.TcpListen address backlog) said (member_call w c (calls.TcpListen address backlog) l.numbered j e) refl refl l)
      by c j _ e f = cc

      at : (c : Coroutine V) → In c w.coroutines → (o : Option Call) → pending_call c.mode ≡ o → if_some o None (listen_of w c.number) ≡ Some x → Replied w x said
      at c j None e f = cc
      at c j (Some call) e f = by c j call e f

  connect_asked : (w : World V) (x : Try) (said : KernelReply) → In x (connects w) → Lasts w → Replied w x said
  connect_asked w x said i l =
      let r = in_picked (λ c. if_some (pending_call c.mode) None (connect_of w c.number)) w.coroutines x i in
      at r.0 r.1 (pending_call r.0.mode) refl r.2
    where
      free : (c : Coroutine V) → In c w.coroutines → (address : Address) (deadline : Deadline) → pending_call c.mode ≡ Some (calls.TcpConnect address deadline) → (b : Bool) → list_any (is_connecting_for c.number) w.links.all ≡ b → (if b then None else Some (record { kind = 3; number = c.number; ask = asks.Connect (next_link w) address })) ≡ Some x → Replied w x said
      free c j address deadline e true f g = cc
      free c j address deadline e false f g =
          let it : record { kind = 3; number = c.number; ask = asks.Connect (next_link w) address } ≡ x = cc in
          subst (λ t. Replied w t said) it (connect_keeps w c.number c (calls.TcpConnect address deadline) said (member_call w c (calls.TcpConnect address deadline) l.numbered j e) refl (none_connects c.number w.links.all f) l)

      by : (c : Coroutine V) → In c w.coroutines → (call : Call) → pending_call c.mode ≡ Some call → connect_of w c.number call ≡ Some x → Replied w x said
      by c j (calls.TcpConnect address deadline) e f = free c j address deadline e (list_any (is_connecting_for c.number) w.links.all) refl f
      by c j _ e f = cc

      at : (c : Coroutine V) → In c w.coroutines → (o : Option Call) → pending_call c.mode ≡ o → if_some o None (connect_of w c.number) ≡ Some x → Replied w x said
      at c j None e f = cc
      at c j (Some call) e f = by c j call e f

  finish_asked : (w : World V) (x : Try) (said : KernelReply) → In x (finishes w) → Lasts w → Replied w x said
  finish_asked w x said i l =
      let test = λ (y : Link). not y.closing && (is_some (connector y.sort) && y.write_hot) in
      let r = in_map (λ (y : Link). record { kind = 4; number = y.number; ask = asks.Finish y.number }) (filter test w.links.all) x i in
      let f = in_filter test w.links.all r.0 r.1 in
      subst (λ t. Replied w t said) (sym r.2) (finish_keeps w r.0 said f.0 (is_open_link r.0.closing (is_some (connector r.0.sort) && r.0.write_hot) f.1) l)

  accept_asked : (w : World V) (x : Try) (said : KernelReply) → In x (accepts w) → Lasts w → Replied w x said
  accept_asked w x said i l =
      let r = in_map (λ (y : Link). record { kind = 5; number = y.number; ask = asks.Accept y.number (next_link w) }) (filter (λ y. not y.closing && (is_listening y.sort && (y.read_hot && is_pending_on w is_accept y.number))) w.links.all) x i in
      subst (λ t. Replied w t said) (sym r.2) (accept_keeps w r.0.number said l)

  write_asked : (w : World V) (x : Try) (said : KernelReply) → In x (writes w) → Lasts w → Replied w x said
  write_asked w x said i l =
      let r = in_map (λ (y : Link). record { kind = 6; number = y.number; ask = asks.Write y.number (offered y.stack) }) (filter (λ y. not y.closing && (is_stream y.sort && (y.write_hot && not (is_idle y.stack)))) w.links.all) x i in
      let v = on_link w r.0.number as_wrote in
      subst (λ t. Replied w t said) (sym r.2) (write_keeps v r.0.number said (soft_lasts w v refl refl refl (soft_change w.links r.0.number as_wrote (λ y. refl) (λ y. refl) (λ y. refl)) l))

  shut_asked : (w : World V) (x : Try) (said : KernelReply) → In x (shuts w) → Lasts w → Replied w x said
  shut_asked w x said i l =
      let r = in_map (λ (y : Link). record { kind = 7; number = y.number; ask = asks.Shut y.number }) (filter (λ y. not y.closing && (is_stream y.sort && (not y.shut && (is_idle y.stack && is_pending_on w is_ending_send y.number)))) w.links.all) x i in
      subst (λ t. Replied w t said) (sym r.2) (shut_keeps w r.0.number said l)

  read_asked : (w : World V) (x : Try) (said : KernelReply) → In x (reads w) → Lasts w → Replied w x said
  read_asked w x said i l =
      let r = in_map (λ (y : Link). record { kind = 8; number = y.number; ask = asks.Read y.number read_size }) (filter (λ y. not y.closing && (is_stream y.sort && (y.read_hot && (not y.stack.receiving.done && (not y.stack.receiving.broken && is_needy w y))))) w.links.all) x i in
      subst (λ t. Replied w t said) (sym r.2) (read_keeps w r.0.number said l)

  all_asked : (w : World V) (x : Try) (said : KernelReply) → In x (tries w) → Lasts w → Replied w x said
  all_asked w x said i l = eight (in_append (closes w ++ listens w ++ connects w ++ finishes w ++ accepts w ++ writes w ++ shuts w) (reads w) x i)
    where
      two : In x (closes w) ⊎ In x (listens w) → Replied w x said
      two (inl j) = close_asked w x said j l
      two (inr j) = listen_asked w x said j l

      three : In x (closes w ++ listens w) ⊎ In x (connects w) → Replied w x said
      three (inl j) = two (in_append (closes w) (listens w) x j)
      three (inr j) = connect_asked w x said j l

      four : In x (closes w ++ listens w ++ connects w) ⊎ In x (finishes w) → Replied w x said
      four (inl j) = three (in_append (closes w ++ listens w) (connects w) x j)
      four (inr j) = finish_asked w x said j l

      five : In x (closes w ++ listens w ++ connects w ++ finishes w) ⊎ In x (accepts w) → Replied w x said
      five (inl j) = four (in_append (closes w ++ listens w ++ connects w) (finishes w) x j)
      five (inr j) = accept_asked w x said j l

      six : In x (closes w ++ listens w ++ connects w ++ finishes w ++ accepts w) ⊎ In x (writes w) → Replied w x said
      six (inl j) = five (in_append (closes w ++ listens w ++ connects w ++ finishes w) (accepts w) x j)
      six (inr j) = write_asked w x said j l

      seven : In x (closes w ++ listens w ++ connects w ++ finishes w ++ accepts w ++ writes w) ⊎ In x (shuts w) → Replied w x said
      seven (inl j) = six (in_append (closes w ++ listens w ++ connects w ++ finishes w ++ accepts w) (writes w) x j)
      seven (inr j) = shut_asked w x said j l

      eight : In x (closes w ++ listens w ++ connects w ++ finishes w ++ accepts w ++ writes w ++ shuts w) ⊎ In x (reads w) → Replied w x said
      eight (inl j) = seven (in_append (closes w ++ listens w ++ connects w ++ finishes w ++ accepts w ++ writes w) (shuts w) x j)
      eight (inr j) = read_asked w x said j l

  now_asked : (w : World V) (x : Try) (said : KernelReply) → In x (tries_now w) → Lasts w → Replied w x said
  now_asked w x said i l = at (is_some w.ended) (is_stopped w) i
    where
      at : (b c : Bool) → In x (if b then closes w else (if c then [] else tries w)) → Replied w x said
      at true c j = close_asked w x said j l
      at false true j = absurd j
      at false false j = all_asked w x said j l

  heard_numbered : (w : World V) (x : Try) (said : Option KernelReply) → Numbered 0 w.coroutines w.last_coroutine → Numbered 0 (heard w x said).coroutines (heard w x said).last_coroutine
  heard_numbered w x said n = at (heard w x said) (heard_hears w x said)
    where
      at : (v : World V) → Hears w v → Numbered 0 v.coroutines v.last_coroutine
      at v (nobody s) = subst (λ m. Numbered 0 v.coroutines m) (sym s.last) (subst (λ cs. Numbered 0 cs w.last_coroutine) (sym s.coroutines) n)
      at v (one who call e g) = subst (λ m. Numbered 0 v.coroutines m) (sym g.last) (subst (λ cs. Numbered 0 cs w.last_coroutine) (sym g.coroutines) (numbered_change (is_coroutine who) (with_mode (modes.Fresh (word_of call) g.answer)) w.coroutines 0 w.last_coroutine (λ d. refl) n))

  -- the reply to what is asked next
  pub heard_lasts : (w : World V) (x : Try) (said : Option KernelReply) → next_try w ≡ Some x → Lasts w → Lasts (heard w x said)
  heard_lasts w x said e l =
      let v : World V = record w { place = record { kind = x.kind; number = x.number } } in
      let here : Lasts v = record { numbered = l.numbered; apart = fewer_apart w v (fewer_same w v refl refl refl) l.apart; keeps = aside_keeps w v refl (even_same w.links) l.keeps } in
      record {
        numbered = heard_numbered w x said l.numbered;
        apart = heard_apart w x said l.apart;
        keeps = now_asked v x (fitting x.ask said) (find_in (is_next w) (tries_now w) x e) here;
      }

  pub some_kept : (w : World V) (who : ℕ) (call : Call) → KeepsLinks w → call_of w who ≡ Some call → links (word_of call) ≡ true → (is_connect (word_of call) ≡ false) ⊎ (find (is_connecting_for who) w.links.all ≡ None) → 1 ≤ w.links.kept
  some_kept w who call k e makes free = at (coroutine_of w who) refl e
    where
      none : (c : Coroutine V) → In_call w who c call → (is_connect (word_of call) ≡ false) ⊎ (find (is_connecting_for who) w.links.all ≡ None) → connects_for w.links who ≡ 0
      none c h (inl plain) = without_link w who c call h plain k
      none c h (inr free_of) = none_weightless (is_connecting_for who) w.links.all free_of

      at : (o : Option (Coroutine V)) → coroutine_of w who ≡ o → if_some o None (λ c. pending_call c.mode) ≡ Some call → 1 ≤ w.links.kept
      at None f g = cc
      at (Some c) f g =
          let h : In_call w who c call = record { found = f; mode = g } in
          let a = one_kept w who c f k in
          let b = waits_one w who c call h makes in
          let d = none c h free in
          omega (arith, a, b, d)

pub links_are_kept : (V : Type 0) → LinksAreKept V
links_are_kept V = some_kept
