-- Behind the kernel's reply to an ask of a stack one look is enough.
use Rattle.std.proofs.Common.{◌≡◌, ◌∙◌, ℕ, ◌==◌, find, Bool, true, false, ◌&&◌, ◌||◌, Option, Some, None, if◌then◌else◌, refl, sym, ap}
use Rattle.std.specs.Prelude.{is_none}
use Rattle.rand_core.specs.Stream.{Stream}
use Rattle.dill_base.specs.declared.errno.Errno.TheVariants.{Econnreset}
use Rattle.dill_base.specs.Maps.{if_some}
use Rattle.dill_calls.specs.declared.answer.Answer.{Answer}
use Rattle.dill_calls.specs.declared.answer.Answer.TheVariants.{Fault}
use Rattle.dill_calls.specs.declared.call.Call.{Call}
use Rattle.dill_calls.specs.CallTable.{word_of, named_by}
use Rattle.dill_kernel.specs.declared.replies.KernelReply.{KernelReply}
use Rattle.dill_kernel.specs.declared.replies.KernelReply.TheVariants as replies
use Rattle.dill_stack.specs.Interface.{Held, is_sent, has_ended, came, ended, broke, took}
use Rattle.dill_stack.specs.Again.{LooksAgain}
use Rattle.dill_rules.specs.declared.coroutine.Coroutine.{Coroutine}
use Rattle.dill_rules.specs.World.{World, pending_call}
use Rattle.dill_rules.specs.Links.{Link, Links, look, change_link, with_stack, as_shut, read_cold, write_cold}
use Rattle.dill_rules.specs.Sockets.{link_number, link_named, on_link}
use Rattle.dill_rules.specs.Directions.{is_send, is_receive}
use Rattle.dill_rules.specs.Hearing.{heard_write, heard_shut, heard_read}
use Rattle.dill_rules.specs.LinkAnswers.{is_on_stack, is_tcp_done, is_tcp_close, is_broken_for, zero_when, answer_said, look_of, stack_answer, link_answer, reads}
use Rattle.dill_rules.specs.Settling.{settle}
use Rattle.laws_sound.specs.Order.{IsInOrder}
use Rattle.laws_sound.proofs.Ordering.{order_anyway}
use Rattle.laws_looks.specs.Readers.{In, Pends}
use Rattle.laws_looks.specs.Calm.{Spent, Names, Restful, IsCalm}
use Rattle.laws_looks.specs.OneLook.{StirsOne, LooksAt}
use Rattle.laws_looks.proofs.Lists.{itself, equal_is, some_none, find_in, find_none, find_passes, true_false, both_true}
use Rattle.dill_rules.specs.Lookless.{lookless_of, looked_for, settle_lookless, look_once}
use Rattle.laws_looks.proofs.Stays.{found_alike, stays_change}
use Rattle.laws_looks.proofs.Fewer.{fewer_parts, fewer_apart}
use Rattle.laws_looks.proofs.Spent.{SameHalf, half_of}
use Rattle.laws_looks.proofs.Quieted.{of_aside, due_waits, changed_other, calm_looks, Calm}
use Rattle.laws_looks.proofs.Restful.{named_link, names_number, calmly_mark, calmly_rests, half_rests}
use Rattle.laws_looks.proofs.Answered.{answers_same, join_looks}
use Rattle.laws_looks.proofs.Lookless.{rest_settles}
use Rattle.laws_looks.proofs.Stirred.{Looked, finds_none, finds, looked_is, stirred}

-- what a send is answered is the same where both directions, the `shut` and the queue are
abbrev SendsAlike : (Held → Held) → Type 0
SendsAlike f = (call : Call) (u : Stream) (x : Link) → is_send (word_of call) ≡ true → stack_answer call u (with_stack f x) ≡ stack_answer call u x

by_send : (call : Call) (u : Stream) (x : Link) (f : Held → Held) → is_send (word_of call) ≡ true → (f x.stack).receiving.broken ≡ x.stack.receiving.broken → (f x.stack).sending.broken ≡ x.stack.sending.broken → is_sent (f x.stack) ≡ is_sent x.stack → stack_answer call u (with_stack f x) ≡ stack_answer call u x
by_send call u x f s a b q = broken ∙ ap (λ r. if is_broken_for (word_of call) x.stack then Some (Fault Econnreset) else r) (whole (is_tcp_done (word_of call)) (is_send (word_of call)) s)
  where
    t : Held
    t = f x.stack

    rest : Option Answer
    rest = if is_tcp_done (word_of call) then zero_when x.shut else (if is_send (word_of call) then zero_when (is_sent t) else (if is_tcp_close (word_of call) then zero_when (x.shut && has_ended t) else answer_said (look_of call u t).said))

    broken : (if is_broken_for (word_of call) t then Some (Fault Econnreset) else rest) ≡ (if is_broken_for (word_of call) x.stack then Some (Fault Econnreset) else rest)
    broken = ap (λ d. if (if is_receive (word_of call) then d else (if is_send (word_of call) then t.sending.broken else (d || t.sending.broken))) then Some (Fault Econnreset) else rest) a
        ∙ ap (λ d. if (if is_receive (word_of call) then x.stack.receiving.broken else (if is_send (word_of call) then d else (x.stack.receiving.broken || d))) then Some (Fault Econnreset) else rest) b

    whole : (d s : Bool) → s ≡ true → (if d then zero_when x.shut else (if s then zero_when (is_sent t) else (if is_tcp_close (word_of call) then zero_when (x.shut && has_ended t) else answer_said (look_of call u t).said)))
        ≡ (if d then zero_when x.shut else (if s then zero_when (is_sent x.stack) else (if is_tcp_close (word_of call) then zero_when (x.shut && has_ended x.stack) else answer_said (look_of call u x.stack).said)))
    whole true s e = refl
    whole false true e = ap zero_when q
    whole false false e = cc

module _ {V : Type 0} where
  -- ---- where no look finds anything

  -- the one look changes nothing
  rest_looks : (w : World V) (who : ℕ) → Restful w → look_once w who ≡ w
  rest_looks w who r = at (find (λ (c : Coroutine V). c.number == who) w.coroutines) refl
    where
      looked : (c : Coroutine V) (call : Call) → In c w.coroutines → c.number ≡ who → pending_call c.mode ≡ Some call → (b : Bool) → reads call ≡ b → (o : Option Answer) → lookless_of w who call ≡ o → (if b && is_none o then looked_for w who call else w) ≡ w
      looked c call i n e false f o g = refl
      looked c call i n e true f (Some a) g = refl
      looked c call i n e true f None g = at (looked_is w who call f g)
        where
          calm : Calm w call
          calm m l x h j k = r.calm who call m l x (record { one = c; there = i; number = n; mode = e }) f h (named_link w m l j) k

          at : Looked w who call → looked_for w who call ≡ w
          at (finds_none h j) = j ∙ calm_looks w call calm
          at (finds a h j) = absurd (some_none (lookless_of w who call) a g (sym (answers_same w who call (λ d. calm)) ∙ h))

      by : (c : Coroutine V) → find (λ (c : Coroutine V). c.number == who) w.coroutines ≡ Some c → (q : Option Call) → pending_call c.mode ≡ q → if_some q w (λ call. if reads call && is_none (lookless_of w who call) then looked_for w who call else w) ≡ w
      by c e None f = refl
      by c e (Some call) f = looked c call (find_in (λ (c : Coroutine V). c.number == who) w.coroutines c e) (equal_is c.number who (find_passes (λ (c : Coroutine V). c.number == who) w.coroutines c e)) f (reads call) refl (lookless_of w who call) refl

      at : (q : Option (Coroutine V)) → find (λ (c : Coroutine V). c.number == who) w.coroutines ≡ q → if_some (if_some q None (λ c. pending_call c.mode)) w (λ call. if reads call && is_none (lookless_of w who call) then looked_for w who call else w) ≡ w
      at None e = refl
      at (Some c) e = by c e (pending_call c.mode) refl

  pub rest_once : (w : World V) (who : ℕ) → Restful w → settle w ≡ settle_lookless (look_once w who)
  rest_once w who r = rest_settles w r ∙ ap settle_lookless (sym (rest_looks w who r))

  -- ---- a stack is changed

  module _ (w : World V) (l : ℕ) (f : Held → Held) (o : IsInOrder w) (c : IsCalm w) where
    abbrev now : Links
    now = change_link w.links l (with_stack f)

    abbrev v : World V
    v = on_link w l (with_stack f)

    named_before : (n k : ℕ) → Names v n k → Names w n k
    named_before n k p = p

    pends_before : (who : ℕ) (call : Call) → Pends v who call → Pends w who call
    pends_before who call p = p

    -- others aren't answered behind it
    link_kept : (who other : ℕ) (call : Call) → LooksAt w l who → Pends w other call → (other ≡ who → ⊥) → ((n : ℕ) → named_by call ≡ Some n → link_number w n ≡ Some l → is_send (word_of call) ≡ true → (x : Link) → stack_answer call w.random (with_stack f x) ≡ stack_answer call w.random x) → link_answer w call ≡ None → link_answer v call ≡ None
    link_kept who other call alone p ne sends e = at (is_on_stack (word_of call)) refl (named_by call) refl e
      where
        here : (n k : ℕ) → is_on_stack (word_of call) ≡ true → named_by call ≡ Some n → link_number w n ≡ Some k → (b : Bool) → (k == l) ≡ b → (s : Bool) → is_send (word_of call) ≡ s → if_some (look w.links k) None (stack_answer call w.random) ≡ None → if_some (look now k) None (stack_answer call w.random) ≡ None
        here n k on g h false i s j q = ap (λ (r : Option Link). if_some r None (stack_answer call w.random)) (changed_other (with_stack f) (λ x. refl) l k w.links.all i) ∙ q
        here n k on g h true i true j q = found_alike (with_stack f) None (stack_answer call w.random) (λ x. refl) (sends n g (h ∙ ap Some (equal_is k l i)) j) l k w.links.all ∙ q
        here n k on g h true i false j q = absurd (ne (alone other call n p (join_looks (is_on_stack (word_of call)) (is_send (word_of call)) on j) g (h ∙ ap Some (equal_is k l i))))

        by : (n : ℕ) → is_on_stack (word_of call) ≡ true → named_by call ≡ Some n → (q : Option ℕ) → link_number w n ≡ q → if_some (if_some q None (look w.links)) None (stack_answer call w.random) ≡ None → if_some (if_some q None (look now)) None (stack_answer call w.random) ≡ None
        by n on g None h i = refl
        by n on g (Some k) h i = here n k on g h (k == l) refl (is_send (word_of call)) refl i

        at : (b : Bool) → is_on_stack (word_of call) ≡ b → (q : Option ℕ) → named_by call ≡ q → (if b then if_some q None (λ number. if_some (link_named w number) None (stack_answer call w.random)) else None) ≡ None → (if b then if_some q None (λ number. if_some (link_named v number) None (stack_answer call w.random)) else None) ≡ None
        at false on q g h = refl
        at true on None g h = refl
        at true on (Some n) g h = by n on g (link_number w n) refl h

    -- who looks at it is the only one that stirs
    stirs_changed : (who : ℕ) → LooksAt w l who → ((other : ℕ) (call : Call) (n : ℕ) → Pends w other call → named_by call ≡ Some n → link_number w n ≡ Some l → is_send (word_of call) ≡ true → (x : Link) → stack_answer call w.random (with_stack f x) ≡ stack_answer call w.random x) → StirsOne v who
    stirs_changed who alone sends = record {
      endings = c.settled.endings;
      waits = λ d call i ne e.
          let p : Pends w d.number call = record { one = d; there = i; number = refl; mode = e } in
          of_aside w w.coroutines now w.random w.place w.moment w.notes d.number call (link_kept who d.number call alone p ne (λ n g h j x. sends d.number call n p g h j x)) (due_waits w c.settled.answers d i call e);
      calm = λ other call n k x p ne rd e nm i. calm other call n k x (pends_before other call p) ne rd e (named_before n k nm) i (k == l) refl;
    }
      where
        calm : (other : ℕ) (call : Call) (n k : ℕ) (x : Link) → Pends w other call → (other ≡ who → ⊥) → reads call ≡ true → named_by call ≡ Some n → Names w n k → look now k ≡ Some x → (b : Bool) → (k == l) ≡ b → Spent call x.stack
        calm other call n k x p ne rd e nm i true g = absurd (ne (alone other call n p rd e (names_number w n k o nm ∙ ap Some (equal_is k l g))))
        calm other call n k x p ne rd e nm i false g = c.restful.calm other call n k x p rd e nm (sym (changed_other (with_stack f) (λ y. refl) l k w.links.all g) ∙ i)

    module _ (laws : LooksAgain) (who : ℕ) (alone : LooksAt w l who) where
      by_stirring : StirsOne v who → settle v ≡ settle_lookless (look_once v who)
      by_stirring s = stirred laws v who (order_anyway w w.channels now w.place w.random w.moment w.notes o) (fewer_apart w v (fewer_parts w v refl refl (stays_change w.links l (with_stack f) (λ y. refl) (λ y. refl))) c.apart) s

      -- sends are answered as before
      once_received : SendsAlike f → settle v ≡ settle_lookless (look_once v who)
      once_received h = by_stirring (stirs_changed who alone (λ other call n p e g s x. h call w.random x s))

      -- receives find nothing either
      once_sent : ((s : Held) → SameHalf s (f s)) → settle v ≡ settle_lookless (look_once v who)
      once_sent h = at (find sends_here w.coroutines) refl
        where
          on_here : Call → Bool
          on_here call = is_send (word_of call) && if_some (named_by call) false (λ n. if_some (link_number w n) false (λ k. k == l))

          sends_here : Coroutine V → Bool
          sends_here d = if_some (pending_call d.mode) false on_here

          parts : (a b : Bool) → (a && b) ≡ true → (a ≡ true) × (b ≡ true)
          parts true true e = (refl, refl)
          parts true false e = cc
          parts false b e = cc

          found : (d : Coroutine V) (call : Call) → In d w.coroutines → pending_call d.mode ≡ Some call → is_send (word_of call) ≡ true → (q : Option ℕ) → named_by call ≡ q → if_some q false (λ n. if_some (link_number w n) false (λ k. k == l)) ≡ true → Restful v
          found d call i e s None g j = cc
          found d call i e s (Some n) g j = linked (link_number w n) refl j
            where
              linked : (q : Option ℕ) → link_number w n ≡ q → if_some q false (λ k. k == l) ≡ true → Restful v
              linked None k m = cc
              linked (Some k) m p = half_rests w d.number call n l f c.restful (record { one = d; there = i; number = refl; mode = e }) s g (named_link w n l (m ∙ ap Some (equal_is k l p))) h

          sending : (d : Coroutine V) → In d w.coroutines → (q : Option Call) → pending_call d.mode ≡ q → if_some q false on_here ≡ true → Restful v
          sending d i None e g = cc
          sending d i (Some call) e g =
              let b = parts (is_send (word_of call)) (if_some (named_by call) false (λ n. if_some (link_number w n) false (λ k. k == l))) g in
              found d call i e b.0 (named_by call) refl b.1

          at : (q : Option (Coroutine V)) → find sends_here w.coroutines ≡ q → settle v ≡ settle_lookless (look_once v who)
          at (Some d) e = rest_once v who (sending d (find_in sends_here w.coroutines d e) (pending_call d.mode) refl (find_passes sends_here w.coroutines d e))
          at None e = by_stirring (stirs_changed who alone (λ other call n p g j s x. absurd (nobody other call n p g j s)))
            where
              nobody : (other : ℕ) (call : Call) (n : ℕ) → Pends w other call → named_by call ≡ Some n → link_number w n ≡ Some l → is_send (word_of call) ≡ true → ⊥
              nobody other call n p g j s =
                  true_false (sends_here p.one)
                  (ap (λ q. if_some q false on_here) p.mode ∙ both_true (is_send (word_of call)) (if_some (named_by call) false (λ m. if_some (link_number w m) false (λ k. k == l))) s (ap (λ q. if_some q false (λ m. if_some (link_number w m) false (λ k. k == l))) g ∙ ap (λ q. if_some q false (λ k. k == l)) j ∙ itself l))
                  (find_none sends_here w.coroutines e p.one p.there)

  -- ---- the replies

  module _ (laws : LooksAgain) (w : World V) (l who : ℕ) (o : IsInOrder w) (c : IsCalm w) (alone : LooksAt w l who) where
    marks : (mark : Link → Link) → ((x : Link) → (mark x).number ≡ x.number) → ((x : Link) → (mark x).stack ≡ x.stack) → settle (on_link w l mark) ≡ settle_lookless (look_once (on_link w l mark) who)
    marks mark number stack = rest_once (on_link w l mark) who (calmly_rests w (on_link w l mark) (calmly_mark w l mark number stack) c.restful)

    breaks : settle (on_link w l (with_stack broke)) ≡ settle_lookless (look_once (on_link w l (with_stack broke)) who)
    breaks = once_sent w l broke o c laws who alone (λ s. half_of s (broke s) refl refl refl)

    pub once_read : (said : KernelReply) → settle (heard_read w l said) ≡ settle_lookless (look_once (heard_read w l said) who)
    once_read (replies.Came bytes) = once_received w l (came bytes) o c laws who alone (λ call u x s. by_send call u x (came bytes) s refl refl refl)
    once_read replies.End = once_received w l ended o c laws who alone (λ call u x s. by_send call u x ended s refl refl refl)
    once_read replies.NotYet = marks read_cold (λ x. refl) (λ x. refl)
    once_read said = breaks

    pub once_written : (said : KernelReply) → settle (heard_write w l said) ≡ settle_lookless (look_once (heard_write w l said) who)
    once_written (replies.Took count) = once_sent w l (took count) o c laws who alone (λ s. half_of s (took count s) refl refl refl)
    once_written replies.NotYet = marks write_cold (λ x. refl) (λ x. refl)
    once_written said = breaks

    pub once_shut : (said : KernelReply) → settle (heard_shut w l said) ≡ settle_lookless (look_once (heard_shut w l said) who)
    once_shut replies.Done = marks as_shut (λ x. refl) (λ x. refl)
    once_shut said = breaks
