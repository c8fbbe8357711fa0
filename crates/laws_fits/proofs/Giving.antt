-- What fits still does as pending calls are answered, as endings finish and as the deadlines pass, and behind the looks of those that wait.
use Rattle.std.proofs.Common.{◌≡◌, ◌∙◌, ◌⊎◌, inl, inr, ℕ, zero, suc, ◌<◌, ◌≤◌, ◌==◌, List, [], ◌∷◌, find, cond, Bool, true, false, not, ◌&&◌, ◌||◌, Option, Some, None, if◌then◌else◌, refl, sym, ap, subst, arith}
use Rattle.std.specs.Prelude.{filter, reverse}
use Rattle.std.specs.Prelude.{is_none, nat_le}
use Rattle.std.proofs.lemmas.Bool.{and_parts}
use Rattle.dill_calls.specs.declared.ran.Note.TheVariants.{Freed}
use Rattle.dill_scope.proofs.Numbered.{found_number}
use Rattle.dill_rules.specs.declared.coroutine.Mode.{Mode}
use Rattle.dill_rules.specs.declared.coroutine.Mode.TheVariants as modes
use Rattle.dill_rules.specs.declared.thing.Thing.TheVariants as things
use Rattle.dill_rules.specs.World.{note, with_mode, from_start, is_ending}
use Rattle.dill_rules.specs.Giving.{undone}
use Rattle.dill_rules.specs.Owning.{drop}
use Rattle.dill_rules.specs.Settling.{can_finish, is_clear, highest_first, is_owned_by, free_all, release_all, outcome_of, finish, answer_due, give_first, settle_one, settle_within}
use Rattle.laws_queue.proofs.Besides.{look_besides}
use Rattle.laws_queue.proofs.Crew.{SameCrew, bare_crew, keep_end_last}
use Rattle.laws_queue.proofs.Numbers.{found_changed, numbered_without}
use Rattle.laws_queue.proofs.Stepping.{due_first, by_number}
use Rattle.laws_looks.proofs.Lists.{find_in}
use Rattle.laws_looks.proofs.Fewer.{fewer_finish}
use Rattle.dill_base.specs.declared.errno.Errno.{Errno}
use Rattle.dill_base.specs.Maps.{if_some, without, first_some}
use Rattle.dill_calls.specs.declared.answer.Answer.{Answer}
use Rattle.dill_calls.specs.declared.answer.Answer.TheVariants.{Number, Fault}
use Rattle.dill_calls.specs.declared.call.Call.{Call}
use Rattle.dill_calls.specs.declared.call.Call.TheVariants as calls
use Rattle.dill_calls.specs.declared.word.Word.{Word}
use Rattle.dill_calls.specs.declared.word.Word.TheVariants as words
use Rattle.dill_calls.specs.CallTable.{word_of, named_by, gives_up}
use Rattle.dill_handles.specs.Handles as handles
use Rattle.dill_handles.specs.declared.entry.Entry.{Entry}
use Rattle.dill_stack.specs.declared.task.Task.TheVariants.{Idle, Expects}
use Rattle.dill_stack.specs.Interface.{Held, Looked, read, detach_finish, is_sent, withdraw}
use Rattle.dill_stack.specs.Dropping.{is_given}
use Rattle.dill_rules.specs.declared.coroutine.Coroutine.{Coroutine}
use Rattle.dill_rules.specs.declared.thing.Thing.{Thing}
use Rattle.dill_rules.specs.World.{World, is_coroutine, coroutine_of, reply, pending_call}
use Rattle.dill_rules.specs.Directions.{is_send, is_receive, is_handshake, parting_of}
use Rattle.dill_rules.specs.Effects.{next_number}
use Rattle.dill_rules.specs.Entering.{late_answer}
use Rattle.dill_rules.specs.Expiring.{expire_one}
use Rattle.dill_rules.specs.Giving.{is_given_up, is_fault, is_read, look_on, after_send, is_connecting_for, give_send, give_receive, give_number, give_attached, give_closed, forgo, give_forgone, give_class, give}
use Rattle.dill_rules.specs.LinkAnswers.{is_tcp_done, is_tcp_close, look_by, look_of, is_on_stack}
use Rattle.dill_rules.specs.Linking.{give_stack_up}
use Rattle.dill_rules.specs.Links as link
use Rattle.dill_rules.specs.Links.{Link, Links, look, is_link, change_link, connector, with_stack, as_closing}
use Rattle.dill_rules.specs.Naming.{draws_of, links}
use Rattle.dill_rules.specs.Owning.{entry_of, is_dead_as, move, release, free_bundle}
use Rattle.dill_rules.specs.Sockets.{link_of, link_number, on_link, on_named}
use Rattle.laws_queue.specs.Well.{bit, Numbered}
use Rattle.laws_queue.proofs.Acting.{give_gives}
use Rattle.laws_queue.proofs.Numbers.{numbered_change}
use Rattle.laws_sound.specs.Orderly.{weigh}
use Rattle.laws_sound.proofs.Counting.{weigh_found}
use Rattle.laws_looks.specs.Readers.{In, Pends, reads_on, Rising, may_name, LooksApart}
use Rattle.laws_looks.specs.Calm.{Names}
use Rattle.laws_looks.proofs.Lists.{itself, equal_is, less_unequal, some_same, some_none, true_false, find_passes}
use Rattle.laws_looks.proofs.Fewer.{links_to, weigh_linked, fewer_give, fewer_apart}
use Rattle.laws_looks.proofs.Restful.{named_link}
use Rattle.laws_looks.proofs.Stirring.{reads_named}
use Rattle.laws_looks.proofs.Spent.{asked_is}
use Rattle.laws_looks.proofs.Quieted.{found_of, unpended, found_change}
use Rattle.laws_fits.specs.Fitting.{shakes, queues, Holds}
use Rattle.laws_fits.proofs.Stacks.{Soft, soft_same, soft_may, after_soft, withdraw_soft, read_soft, Over, finish_soft, greet_soft}
use Rattle.laws_fits.proofs.Tidy.{Same, NoNumber, From, Shut, Once, Opens, Tidy, tidy_then, tidy_same, tidy_not, tidy_some, tidy_more, tidy_each, tidy_move, tidy_release, tidy_reply, member_links}
use Rattle.laws_fits.proofs.Fits.{Near, near_same, near_rested, NoCall, queues_on, Lasts, once_of, Fresh, lasts}
use Rattle.laws_fits.proofs.Acts.{On, on_dec, Acts, acts_named, acts_off, acts_look}
use Rattle.laws_fits.proofs.Causes.{send_apart, receive_apart, close_apart, Goes, shaking, leaving, goes, Queueing, sending, going, queueing, Cause, cause_due, cause_late}

-- who stays where another leaves
in_without_other : {X : Type 0} (test : X → Bool) (xs : List X) (x : X) → In x xs → test x ≡ false → In x (without test xs)
in_without_other test [] x i f = i
in_without_other test (y ∷ ys) x i f = at (test y) refl i (λ j. in_without_other test ys x j f)
  where
    at : (b : Bool) → test y ≡ b → (x ≡ y) ⊎ In x ys → (In x ys → In x (without test ys)) → In x (cond b ys (y ∷ without test ys))
    at true g (inl same) rest = absurd (true_false (test y) g (ap test (sym same) ∙ f))
    at true g (inr j) rest = j
    at false g (inl same) rest = inl same
    at false g (inr j) rest = inr (rest j)

-- a link that passes a test is found by its number
found_link : (test : Link → Bool) (low high : ℕ) (xs : List Link) (x : Link) → Rising low xs high → find test xs ≡ Some x → (low < x.number) × (find (is_link x.number) xs ≡ Some x)
found_link test low high [] x r e = cc
found_link test low high (y ∷ ys) x r e = at (test y) e (found_link test y.number high ys x r.1)
  where
    at : (b : Bool) → cond b (Some y) (find test ys) ≡ Some x → (find test ys ≡ Some x → (y.number < x.number) × (find (is_link x.number) ys ≡ Some x)) → (low < x.number) × (cond (is_link x.number y) (Some y) (find (is_link x.number) ys) ≡ Some x)
    at true g rest =
        let it : y ≡ x = cc in
        subst (λ z. (low < z.number) × (cond (is_link z.number y) (Some y) (find (is_link z.number) ys) ≡ Some z)) it (r.0, ap (λ b. cond b (Some y) (find (is_link y.number) ys)) (itself y.number))
    at false g rest =
        let s = rest g in
        let up = r.0 in
        let more = s.0 in
        (omega (arith, up, more), ap (λ b. cond b (Some y) (find (is_link x.number) ys)) (less_unequal y.number x.number s.0) ∙ s.1)

connects_open : (who : ℕ) (x : Link) → is_connecting_for who x ≡ true → is_none (connector x.sort) ≡ false
connects_open who x e = at (not x.closing) (connector x.sort) e
  where
    at : (b : Bool) (o : Option ℕ) → (b && if_some o false (λ n. n == who)) ≡ true → is_none o ≡ false
    at true None f = cc
    at true (Some n) f = refl
    at false o f = cc

-- a call that makes a link is on no stack
pub makes_off : (word : Word) → links word ≡ true → is_on_stack word ≡ false
makes_off words.TcpListen e = refl
makes_off words.TcpAccept e = refl
makes_off words.TcpConnect e = refl
makes_off _ e = cc

module _ {V : Type 0} where
  -- a coroutine is pending in one call
  pub only : (w : World V) (who : ℕ) (c : Coroutine V) (call more : Call) → Numbered 0 w.coroutines w.last_coroutine → coroutine_of w who ≡ Some c → pending_call c.mode ≡ Some call → Pends w who more → more ≡ call
  only w who c call more n e f p =
      let there : coroutine_of w who ≡ Some p.one = subst (λ k. find (is_coroutine k) w.coroutines ≡ Some p.one) p.number (found_of 0 w.last_coroutine w.coroutines p.one n p.there) in
      let same : p.one ≡ c = some_same (coroutine_of w who) p.one c there e in
      some_same (pending_call c.mode) more call (ap (λ (d : Coroutine V). pending_call d.mode) (sym same) ∙ p.mode) f

  -- two numbers of one link are one
  pub names_same : (w : World V) (n m l : ℕ) → Once w → link_number w n ≡ Some l → Names w m l → m ≡ n
  names_same w n m l once e p = at (entry_of w n) refl e (m == n) refl
    where
      at : (o : Option (Entry Thing)) → entry_of w n ≡ o → if_some o None (λ x. link_of x.thing) ≡ Some l → (b : Bool) → (m == n) ≡ b → m ≡ n
      at o f g true h = equal_is m n h
      at None f g false h = cc
      at (Some x) f g false h =
          let one : links_to l x ≡ 1 = ap (λ q. bit (if_some q false (λ k. k == l))) g ∙ ap bit (itself l) in
          let found = weigh_found (links_to l) (handles.is_entry n) w.handles.entries x f in
          let more = member_links l (without (handles.is_entry n) w.handles.entries) p.entry (in_without_other (handles.is_entry n) w.handles.entries p.entry p.there (ap (λ k. k == n) p.number ∙ h)) p.link in
          let few = once l in
          absurd (omega (arith, one, found, more, few))

  -- nobody else is pending on the link of a handshake or a detach
  pub alone_on : (w : World V) (who : ℕ) (call : Call) (l other : ℕ) (more : Call) (m : ℕ) → LooksApart w → Pends w who call → On w call l → is_on_stack (word_of call) ≡ true → is_send (word_of call) ≡ false → is_receive (word_of call) ≡ false → Pends w other more → (other ≡ who → ⊥) → is_on_stack (word_of more) ≡ true → named_by more ≡ Some m → Names w m l → ⊥
  alone_on w who call l other more m a p o on s r q ne mon e nm = at (is_send (word_of more)) refl
    where
      number : m ≡ o.number
      number = names_same w o.number m l (once_of w a) o.linked nm

      joins : (b c : Bool) → b ≡ true → c ≡ false → (b && not c) ≡ true
      joins true true f g = cc
      joins true false f g = refl
      joins false c f g = cc

      looks : reads_on o.number call ≡ true
      looks = reads_named call o.number (joins (is_on_stack (word_of call)) (is_send (word_of call)) on s) o.named

      at : (b : Bool) → is_send (word_of more) ≡ b → ⊥
      at true f = true_false (is_receive (word_of call)) (a.sends o.number other who more call q p f (e ∙ ap Some number) looks) r
      at false f = ne (a.readers o.number other who more call q p (reads_named more o.number (joins (is_on_stack (word_of more)) (is_send (word_of more)) mon f) (e ∙ ap Some number)) looks)

  -- the link of a number that is released is closing
  release_shuts : (w : World V) (n l : ℕ) → link_number w n ≡ Some l → Shut (release w n).links l
  release_shuts w n l e = at (entry_of w n) e
    where
      less : World V
      less = record w { handles = handles.retire w.handles n }

      shut : Shut (change_link w.links l as_closing) l
      shut y i = by (found_change as_closing (λ z. refl) l l w.links.all y i)
        where
          by : (x : Link) × (look w.links l ≡ Some x) × ((y ≡ x) ⊎ ((l ≡ l) × (y ≡ as_closing x))) → y.closing ≡ true
          by r = which r.2
            where
              which : (y ≡ r.0) ⊎ ((l ≡ l) × (y ≡ as_closing r.0)) → y.closing ≡ true
              which (inr is) = ap (λ (q : Link). q.closing) is.1
              which (inl same) = ap (λ (q : Link). q.closing) (some_same (look (change_link w.links l as_closing) l) y (as_closing r.0) i (found_changed (is_link l) as_closing r.0 w.links.all (λ q. refl) r.1))

      by : (thing : Thing) → link_of thing ≡ Some l → Shut (drop less thing).links l
      by (things.Bundle name) f = cc
      by (things.End end) f = cc
      by (things.Listener k) f = let same : k ≡ l = cc in subst (λ j. Shut (change_link w.links j as_closing) l) (sym same) shut
      by (things.Socket k) f = let same : k ≡ l = cc in subst (λ j. Shut (change_link w.links j as_closing) l) (sym same) shut
      by (things.Value kind value) f = cc

      at : (o : Option (Entry Thing)) → if_some o None (λ x. link_of x.thing) ≡ Some l → Shut (if_some o w (λ x. note (drop less x.thing) (Freed n))).links l
      at None f = cc
      at (Some x) f = by x.thing f

  -- a stack is given up
  pub tidy_up : {T : ℕ → Type 0} {gone : Option ℕ} (w : World V) (who : ℕ) (call : Call) (e : Errno) (kept : ℕ) → gone ≡ Some who → Tidy Same T gone w (give_stack_up w who call e kept)
  tidy_up w who call e kept g =
      let less : World V = record w { handles = handles.unkeep w.handles kept } in
      let v = if_some (named_by call) w (λ number. release less number) in
      tidy_more w v (reply v who (word_of call) (Fault e)) (tidy_some (named_by call) w w (λ number. release less number) (tidy_not w) (λ number. tidy_more w less (release less number) (tidy_same w less refl refl refl refl) (tidy_release less number))) (tidy_reply v who (word_of call) (Fault e) g)

  pub up_shuts : (w : World V) (who : ℕ) (call : Call) (e : Errno) (kept n l : ℕ) → named_by call ≡ Some n → link_number w n ≡ Some l → Shut (give_stack_up w who call e kept).links l
  up_shuts w who call e kept n l f g =
      let less : World V = record w { handles = handles.unkeep w.handles kept } in
      subst (λ o. Shut (if_some o w (λ number. release less number)).links l) (sym f) (release_shuts less n l g)

  module _ (w : World V) (who : ℕ) (call : Call) (answer : Answer) (c : Coroutine V) (found : coroutine_of w who ≡ Some c) (pends : pending_call c.mode ≡ Some call) (h : Lasts w) (cause : is_on_stack (word_of call) ≡ true → Cause w call answer) where
    own_pends : Pends w who call
    own_pends = record { one = c; there = find_in (is_coroutine who) w.coroutines c found; number = found_number (λ (d : Coroutine V). d.number) who w.coroutines c found; mode = pends }

    -- who is answered isn't pending
    no_more : (v : World V) (other : ℕ) (more : Call) → v ≡ give w who call answer → Pends v other more → other ≡ who → ⊥
    no_more v other more is p same =
        let g = give_gives w who call answer in
        unpended w.last_coroutine who (with_mode (modes.Fresh (word_of call) g.answer)) (λ d. refl) (λ d. refl) w.coroutines more h.numbered
        (record { one = p.one; there = subst (In p.one) (ap (λ (x : World V). x.coroutines) is ∙ g.coroutines) p.there; number = p.number ∙ same; mode = p.mode })

    given : {S : ℕ → Held → Held → Type 0} {T : ℕ → Type 0} (v : World V) → v ≡ give w who call answer → Tidy S T (Some who) w v
        → ((other : ℕ) (more : Call) (n l : ℕ) → (other ≡ who → ⊥) → Pends w other more → queues more ≡ true → named_by more ≡ Some n → link_number w n ≡ Some l → T n → ⊥)
        → ((l : ℕ) (x y : Link) → On w call l → queues call ≡ true → look w.links l ≡ Some x → x.closing ≡ false → look v.links l ≡ Some y → y.closing ≡ false → S l x.stack y.stack → (is_sent y.stack ≡ true) × (shakes call ≡ true → y.stack.task ≡ Expects → ⊥))
        → ((l : ℕ) (x y : Link) → look w.links l ≡ Some x → x.closing ≡ false → look v.links l ≡ Some y → y.closing ≡ false → S l x.stack y.stack → Soft (Holds v queues l) x.stack y.stack ⊎ Fresh v NoCall l y)
        → Lasts v
    given {S} {T} v is tidy free own stacks =
        lasts {new = NoCall} w v
        (record {
          tidy = tidy;
          calls = λ other more p on. inl ((fewer_give w who call answer).calls other more (subst (λ z. Pends z other more) is p));
          free = λ other more n l ne p q e f t. free other more n l (λ same. ne (ap Some (sym same))) p q e f t;
          own = λ other more n l x y g p q e f i k j d s. its other more n l x y g p q e f i k j d s;
          stacks = stacks;
          fits = λ other more n l y q e nm i k. absurd q;
          low = λ other more n q e. absurd q;
        })
        (subst LooksApart (sym is) (fewer_apart w (give w who call answer) (fewer_give w who call answer) h.apart)) (subst (λ (z : World V). Numbered 0 z.coroutines z.last_coroutine) (sym is) numbered) h
      where
        numbered : Numbered 0 (give w who call answer).coroutines (give w who call answer).last_coroutine
        numbered =
            let g = give_gives w who call answer in
            subst (λ n. Numbered 0 (give w who call answer).coroutines n) (sym g.last) (subst (λ cs. Numbered 0 cs w.last_coroutine) (sym g.coroutines) (numbered_change (is_coroutine who) (with_mode (modes.Fresh (word_of call) g.answer)) w.coroutines 0 w.last_coroutine (λ d. refl) h.numbered))

        its : (other : ℕ) (more : Call) (n l : ℕ) (x y : Link) → Some who ≡ Some other → Pends w other more → queues more ≡ true → named_by more ≡ Some n → link_number w n ≡ Some l → look w.links l ≡ Some x → x.closing ≡ false → look v.links l ≡ Some y → y.closing ≡ false → S l x.stack y.stack → (is_sent y.stack ≡ true) × (shakes more ≡ true → y.stack.task ≡ Expects → ⊥)
        its other more n l x y g p q e f i k j d s =
            let who_is : who ≡ other = cc in
            let same : more ≡ call = only w who c call more h.numbered found pends (subst (λ z. Pends w z more) (sym who_is) p) in
            let r = own l x y (record { number = n; named = ap named_by (sym same) ∙ e; linked = f }) (ap queues (sym same) ∙ q) i k j d s in
            (r.0, λ t. r.1 (ap shakes (sym same) ∙ t))

    no_free : (other : ℕ) (more : Call) (n l : ℕ) → (other ≡ who → ⊥) → Pends w other more → queues more ≡ true → named_by more ≡ Some n → link_number w n ≡ Some l → NoNumber n → ⊥
    no_free other more n l ne p q e f t = t

    soft_stack : (v : World V) (l : ℕ) (x y : Link) → Soft ⊥ x.stack y.stack → Soft (Holds v queues l) x.stack y.stack ⊎ Fresh v NoCall l y
    soft_stack v l x y s = inl (soft_may (Holds v queues l) x.stack y.stack s)

    still_stack : (v : World V) (l : ℕ) (x y : Link) → y.stack ≡ x.stack → Soft (Holds v queues l) x.stack y.stack ⊎ Fresh v NoCall l y
    still_stack v l x y e = inl (soft_same (Holds v queues l) x.stack y.stack e)

    -- an answer that only replies
    bare_gives : (v : World V) → v ≡ give w who call answer → Tidy Same NoNumber (Some who) w v → queues call ≡ false → Lasts v
    bare_gives v is tidy none = given v is tidy no_free (λ l x y o q. absurd (true_false (queues call) q none)) (λ l x y i k j d s. still_stack v l x y s)

    -- ---- a send

    send_gives : is_send (word_of call) ≡ true → give_send w who call answer ≡ give w who call answer → Lasts (give_send w who call answer)
    send_gives s is = given {S = Acts w call R} v is (tidy_more w u v (named (named_by call) refl) (tidy_reply u who (word_of call) answer refl)) no_free own stacks
      where
        R : Held → Held → Type 0
        R a b = b ≡ after_send (word_of call) answer a

        u : World V
        u = if_some (named_by call) w (λ n. on_named w n (with_stack (after_send (word_of call) answer)))

        v : World V
        v = give_send w who call answer

        named : (o : Option ℕ) → named_by call ≡ o → Tidy (Acts w call R) NoNumber (Some who) w (if_some o w (λ n. on_named w n (with_stack (after_send (word_of call) answer))))
        named None e = acts_off w call R (λ l x o i. absurd (some_none (named_by call) o.number e o.named))
        named (Some n) e = acts_named w call n R (with_stack (after_send (word_of call) answer)) e (λ x. refl) (λ x. refl) (λ x. omega arith) (λ x. refl)

        own : (l : ℕ) (x y : Link) → On w call l → queues call ≡ true → look w.links l ≡ Some x → x.closing ≡ false → look v.links l ≡ Some y → y.closing ≡ false → Acts w call R l x.stack y.stack → (is_sent y.stack ≡ true) × (shakes call ≡ true → y.stack.task ≡ Expects → ⊥)
        own l x y o q i k j d a = (ap is_sent (a.0 o) ∙ sent (is_given_up answer) refl, λ t. absurd (true_false (shakes call) t (send_apart call o.number o.named s).1))
          where
            done : is_tcp_done (word_of call) ≡ false
            done = at (queueing call o.number o.named q)
              where
                at : Queueing call → is_tcp_done (word_of call) ≡ false
                at (sending t f) = f
                at (going t f) = absurd (true_false (is_send (word_of call)) s f)

            sent : (b : Bool) → is_given_up answer ≡ b → is_sent (after_send (word_of call) answer x.stack) ≡ true
            sent true e = ap (λ b. is_sent (if b then withdraw x.stack else (if is_tcp_done (word_of call) && is_fault answer then undone x.stack else x.stack))) e ∙ (withdraw_soft x.stack).1
            sent false e =
                ap (λ b. is_sent (if b then withdraw x.stack else (if is_tcp_done (word_of call) && is_fault answer then undone x.stack else x.stack))) e
                ∙ ap (λ b. is_sent (if b && is_fault answer then undone x.stack else x.stack)) done
                ∙ (cause (queues_on call q)).sent l x o i (h.fits.solid l x i k) s done e

        stacks : (l : ℕ) (x y : Link) → look w.links l ≡ Some x → x.closing ≡ false → look v.links l ≡ Some y → y.closing ≡ false → Acts w call R l x.stack y.stack → Soft (Holds v queues l) x.stack y.stack ⊎ Fresh v NoCall l y
        stacks l x y i k j d a = at (on_dec w call l)
          where
            at : On w call l ⊎ (On w call l → ⊥) → Soft (Holds v queues l) x.stack y.stack ⊎ Fresh v NoCall l y
            at (inl o) = soft_stack v l x y (subst (Soft ⊥ x.stack) (sym (a.0 o)) (after_soft (word_of call) answer x.stack))
            at (inr off) = still_stack v l x y (a.1 off)

    -- ---- a receive

    receive_gives : is_receive (word_of call) ≡ true → give_receive w who call answer ≡ give w who call answer → Lasts (give_receive w who call answer)
    receive_gives r is = given {S = Acts w call R} v is (tidy_more w u v (looked (is_read answer)) (tidy_reply u who (word_of call) answer refl)) no_free (λ l x y o q. absurd (true_false (queues call) q (receive_apart call o.number o.named r).0)) stacks
      where
        R : Held → Held → Type 0
        R a b = (b ≡ a) ⊎ (b ≡ (look_of call w.random a).stack)

        u : World V
        u = if is_read answer then look_on w call else w

        v : World V
        v = give_receive w who call answer

        looked : (b : Bool) → Tidy (Acts w call R) NoNumber (Some who) w (if b then look_on w call else w)
        looked true = tidy_then w (look_on w call) (look_on w call) (λ l s t z a e. (λ o. inr (e ∙ a.0 o), λ no. e ∙ a.1 no)) (acts_look w call) (tidy_not (look_on w call))
        looked false = acts_off w call R (λ l x o i. inl refl)

        stacks : (l : ℕ) (x y : Link) → look w.links l ≡ Some x → x.closing ≡ false → look v.links l ≡ Some y → y.closing ≡ false → Acts w call R l x.stack y.stack → Soft (Holds v queues l) x.stack y.stack ⊎ Fresh v NoCall l y
        stacks l x y i k j d a = at (on_dec w call l)
          where
            soft : (n : ℕ) → named_by call ≡ Some n → R x.stack y.stack → Soft ⊥ x.stack y.stack
            soft n e (inl same) = soft_same ⊥ x.stack y.stack same
            soft n e (inr looks) =
                let want = asked_is call n e r in
                let it : look_of call w.random x.stack ≡ read want.0 w.random x.stack = ap (λ o. if_some o (if_some (parting_of call) (look_by call w.random x.stack) (λ parting. detach_finish w.random x.stack)) (λ z. read z w.random x.stack)) want.1 in
                subst (Soft ⊥ x.stack) (sym (looks ∙ ap (λ (m : Looked). m.stack) it)) (read_soft want.0 w.random x.stack)

            at : On w call l ⊎ (On w call l → ⊥) → Soft (Holds v queues l) x.stack y.stack ⊎ Fresh v NoCall l y
            at (inl o) = soft_stack v l x y (soft o.number o.named (a.0 o))
            at (inr off) = still_stack v l x y (a.1 off)

    -- ---- a stack is given up

    -- behind a look, or not
    up_gives : (b : Bool) (e : Errno) (kept : ℕ) → give_stack_up (if b then look_on w call else w) who call e kept ≡ give w who call answer → Lasts (give_stack_up (if b then look_on w call else w) who call e kept)
    up_gives b e kept is = given {S = Acts w call R} v is (tidy_more w u v (looked b) (tidy_up u who call e kept refl)) no_free (λ l x y o q i k j d a. absurd (true_false y.closing (shuts l o y j) d)) stacks
      where
        R : Held → Held → Type 0
        R a t = Unit {0}

        u : World V
        u = if b then look_on w call else w

        v : World V
        v = give_stack_up u who call e kept

        looked : (t : Bool) → Tidy (Acts w call R) NoNumber (Some who) w (if t then look_on w call else w)
        looked true = tidy_then w (look_on w call) (look_on w call) (λ l s t z a f. (λ o. tt, λ no. f ∙ a.1 no)) (acts_look w call) (tidy_not (look_on w call))
        looked false = acts_off w call R (λ l x o i. tt)

        linked : (t : Bool) (n l : ℕ) → link_number w n ≡ Some l → link_number (if t then look_on w call else w) n ≡ Some l
        linked true n l f = ap (λ (z : World V). link_number z n) (look_besides w call).same ∙ f
        linked false n l f = f

        shuts : (l : ℕ) → On w call l → Shut v.links l
        shuts l o = up_shuts u who call e kept o.number l o.named (linked b o.number l o.linked)

        stacks : (l : ℕ) (x y : Link) → look w.links l ≡ Some x → x.closing ≡ false → look v.links l ≡ Some y → y.closing ≡ false → Acts w call R l x.stack y.stack → Soft (Holds v queues l) x.stack y.stack ⊎ Fresh v NoCall l y
        stacks l x y i k j d a = at (on_dec w call l)
          where
            at : On w call l ⊎ (On w call l → ⊥) → Soft (Holds v queues l) x.stack y.stack ⊎ Fresh v NoCall l y
            at (inl o) = absurd (true_false y.closing (shuts l o y j) d)
            at (inr off) = still_stack v l x y (a.1 off)

    closed_gives : is_tcp_close (word_of call) ≡ true → give_closed w who call answer ≡ give w who call answer → Lasts (give_closed w who call answer)
    closed_gives t is = at answer is
      where
        released : (a : Answer) → reply (if_some (named_by call) w (release w)) who (word_of call) a ≡ give w who call answer → Lasts (reply (if_some (named_by call) w (release w)) who (word_of call) a)
        released a f =
            let u = if_some (named_by call) w (release w) in
            let v = reply u who (word_of call) a in
            given v f (tidy_more w u v (tidy_some (named_by call) w w (release w) (tidy_not w) (tidy_release w)) (tidy_reply u who (word_of call) a refl)) no_free
            (λ l x y o q. absurd (true_false (queues call) q (close_apart call o.number o.named t).0)) (λ l x y i k j d s. still_stack v l x y s)

        at : (a : Answer) → give_closed w who call a ≡ give w who call answer → Lasts (give_closed w who call a)
        at (Fault e) f = up_gives false e 0 f
        at a f = released a f

    -- ---- a handshake or a detach

    module _ (takes : (is_handshake (word_of call) || gives_up (word_of call)) ≡ true) (unsent : is_send (word_of call) ≡ false) (unread : is_receive (word_of call) ≡ false) (unclosed : is_tcp_close (word_of call) ≡ false) where
      on : is_on_stack (word_of call) ≡ true
      on = at (is_send (word_of call)) (is_receive (word_of call)) takes
        where
          at : (a b : Bool) → (is_handshake (word_of call) || gives_up (word_of call)) ≡ true → (a || (b || (is_handshake (word_of call) || gives_up (word_of call)))) ≡ true
          at true b e = refl
          at false true e = refl
          at false false e = e

      number_gives : (a : Answer) → is_fault answer ≡ false → if_some (named_by call) (reply w who (word_of call) a) (give_number w who call) ≡ give w who call answer → Lasts (if_some (named_by call) (reply w who (word_of call) a) (give_number w who call))
      number_gives a whole is = at (named_by call) refl is
        where
          R : Held → Held → Type 0
          R s t = t ≡ (look_of call w.random s).stack

          T : ℕ → Type 0
          T m = named_by call ≡ Some m

          over : (l : ℕ) (x : Link) → On w call l → look w.links l ≡ Some x → Over x.stack (look_of call w.random x.stack).stack
          over l x o i = by (goes call o.number o.named takes unclosed)
            where
              said : is_given (look_of call w.random x.stack).said ≡ true
              said = (cause on).given l x o i unsent unclosed whole

              by : Goes call → Over x.stack (look_of call w.random x.stack).stack
              by (shaking t looks) =
                  let e = looks w.random x.stack in
                  subst (λ (m : Looked). Over x.stack m.stack) (sym e) ((greet_soft x.stack).1 (ap (λ (m : Looked). is_given m.said) (sym e) ∙ said))
              by (leaving parting t looks) =
                  let e = looks w.random x.stack in
                  subst (λ (m : Looked). Over x.stack m.stack) (sym e) ((finish_soft w.random x.stack).1 (ap (λ (m : Looked). is_given m.said) (sym e) ∙ said))

          ends : (l : ℕ) (x y : Link) → On w call l → look w.links l ≡ Some x → Acts w call R l x.stack y.stack → Over x.stack y.stack
          ends l x y o i s = subst (Over x.stack) (sym (s.0 o)) (over l x o i)

          named : (n : ℕ) → named_by call ≡ Some n → (v : World V) → v ≡ give_number w who call n → v ≡ give w who call answer → Lasts v
          named n e v this f = given {S = Acts w call R} {T = T} v f tidy
              (λ other more m l ne q u g h t. alone_on w who call l other more m h_apart own_pends (record { number = m; named = t; linked = h }) on unsent unread q ne (queues_on more u) g (named_link w m l h))
              (λ l x y o q i k j d s. let r = ends l x y o i s in (r.sent, λ t g. let bad : Idle ≡ Expects = sym r.task ∙ g in cc))
              stacks
            where
              h_apart : LooksApart w
              h_apart = h.apart

              tidy : Tidy (Acts w call R) T (Some who) w v
              tidy =
                  let u = look_on w call in
                  let m = move u n who in
                  let z = reply m who (word_of call) (Number (next_number w)) in
                  subst (Tidy (Acts w call R) T (Some who) w) (sym this) (tidy_more w m z (tidy_more w u m (acts_look w call) (tidy_move u n who e)) (tidy_reply m who (word_of call) (Number (next_number w)) refl))

              stacks : (l : ℕ) (x y : Link) → look w.links l ≡ Some x → x.closing ≡ false → look v.links l ≡ Some y → y.closing ≡ false → Acts w call R l x.stack y.stack → Soft (Holds v queues l) x.stack y.stack ⊎ Fresh v NoCall l y
              stacks l x y i k j d s = at (on_dec w call l)
                where
                  fresh : On w call l → Fresh v NoCall l y
                  fresh o =
                      let r = ends l x y o i s in
                      record {
                        solid = r.solid (h.fits.solid l x i k);
                        sends = λ u. absurd (true_false (is_sent y.stack) r.sent u);
                        expects = λ g. let bad : Idle ≡ Expects = sym r.task ∙ g in cc;
                        alone = λ other more m p g u nm. nobody other more m p g u (tidy.names m l nm);
                      }
                    where
                      nobody : (other : ℕ) (more : Call) (m : ℕ) → Pends v other more → is_on_stack (word_of more) ≡ true → named_by more ≡ Some m → Names w m l ⊎ (w.handles.last < m) → ⊥
                      nobody other more m p g u (inl nm) =
                          alone_on w who call l other more m h.apart own_pends o on unsent unread ((fewer_give w who call answer).calls other more (subst (λ z. Pends z other more) f p)) (no_more v other more f p) g u nm
                      nobody other more m p g u (inr up) =
                          let b = h.low other more m ((fewer_give w who call answer).calls other more (subst (λ z. Pends z other more) f p)) g u in omega (arith, b, up)

                  at : On w call l ⊎ (On w call l → ⊥) → Soft (Holds v queues l) x.stack y.stack ⊎ Fresh v NoCall l y
                  at (inl o) = inr (fresh o)
                  at (inr off) = still_stack v l x y (s.1 off)

          at : (q : Option ℕ) → named_by call ≡ q → if_some q (reply w who (word_of call) a) (give_number w who call) ≡ give w who call answer → Lasts (if_some q (reply w who (word_of call) a) (give_number w who call))
          at None e f = let v = reply w who (word_of call) a in given v f (tidy_reply w who (word_of call) a refl) no_free (λ l x y o q. absurd (some_none (named_by call) o.number e o.named)) (λ l x y i k j d s. still_stack v l x y s)
          at (Some n) e f = named n e (give_number w who call n) refl f

      attached_gives : give_attached w who call answer ≡ give w who call answer → Lasts (give_attached w who call answer)
      attached_gives is = at answer refl is
        where
          at : (a : Answer) → a ≡ answer → give_attached w who call a ≡ give w who call answer → Lasts (give_attached w who call a)
          at (Fault e) same f = up_gives (is_read (Fault e)) e (draws_of call) f
          at a same f = number_gives a (ap is_fault (sym same)) f

    -- ---- a listen, an accept or a connect

    tidy_forgo : Tidy Same NoNumber (Some who) w (forgo w who)
    tidy_forgo = at (find (is_connecting_for who) w.links.all) refl
      where
        less : World V
        less = record w { handles = handles.unkeep w.handles 1 }

        -- no number names a link that connects
        unnamed : (x : Link) → find (is_connecting_for who) w.links.all ≡ Some x → (n : ℕ) → Names w n x.number → ⊥
        unnamed x e n p =
            let there = found_link (is_connecting_for who) 0 w.links.last w.links.all x h.apart.rising e in
            let opens = connects_open who x (find_passes (is_connecting_for who) w.links.all x e) in
            let none : bit (may_name w.links x.number) ≡ 0 = ap (λ q. bit (nat_le x.number w.links.last && if_some q true (λ y. is_none (connector y.sort)))) there.1 ∙ ap (λ b. bit (nat_le x.number w.links.last && b)) opens ∙ off (nat_le x.number w.links.last) in
            let few = h.apart.named x.number in
            let weight = weigh_linked w x.number in
            let one = member_links x.number w.handles.entries p.entry p.there p.link in
            omega (arith, none, few, weight, one)
          where
            off : (b : Bool) → bit (b && false) ≡ 0
            off true = refl
            off false = refl

        closes : (x : Link) → find (is_connecting_for who) w.links.all ≡ Some x → Tidy Same NoNumber (Some who) w (on_link less x.number as_closing)
        closes x e = record {
          names = λ n l p. inl p;
          last = omega arith;
          links = λ l y i o. let r = found_change as_closing (λ z. refl) x.number l w.links.all y i in left l y o r.0 r.1 r.2;
          lost = λ n l g. inl g;
          still = λ other more p g ne. p;
          once = λ o. o;
          «open» = λ o all n l y p i. let r = found_change as_closing (λ z. refl) x.number l w.links.all y i in opened n l y p all r.0 r.1 r.2;
        }
          where
            left : (l : ℕ) (y : Link) → y.closing ≡ false → (z : Link) → look w.links l ≡ Some z → (y ≡ z) ⊎ ((l ≡ x.number) × (y ≡ as_closing z)) → From (Same l) w.links l y
            left l y o z i (inl same) = record { x = z; there = i; «open» = ap (λ (q : Link). q.closing) (sym same) ∙ o; most = let g = ap (λ (q : Link). q.most) same in omega (arith, g); stack = ap (λ (q : Link). q.stack) same }
            left l y o z i (inr is) = absurd (true_false y.closing (ap (λ (q : Link). q.closing) is.1) o)

            opened : (n l : ℕ) (y : Link) → Names w n l → Opens w → (z : Link) → look w.links l ≡ Some z → (y ≡ z) ⊎ ((l ≡ x.number) × (y ≡ as_closing z)) → y.closing ≡ false
            opened n l y p all z i (inl same) = ap (λ (q : Link). q.closing) same ∙ all n l z p i
            opened n l y p all z i (inr is) = absurd (unnamed x e n (subst (Names w n) is.0 p))

        at : (q : Option Link) → find (is_connecting_for who) w.links.all ≡ q → Tidy Same NoNumber (Some who) w (if_some q (record less { links = link.unkeep w.links }) (λ x. on_link less x.number as_closing))
        at None e = tidy_same w (record less { links = link.unkeep w.links }) refl refl refl refl
        at (Some x) e = closes x e

    forgone_gives : links (word_of call) ≡ true → give_forgone w who call answer ≡ give w who call answer → Lasts (give_forgone w who call answer)
    forgone_gives t is =
        let u = forgo w who in
        let v = give_forgone w who call answer in
        bare_gives v is (tidy_more w u v tidy_forgo (tidy_reply u who (word_of call) answer refl)) (unqueued (queues call) refl)
      where
        unqueued : (b : Bool) → queues call ≡ b → queues call ≡ false
        unqueued true e = absurd (true_false (is_on_stack (word_of call)) (queues_on call e) (makes_off (word_of call) t))
        unqueued false e = e

    if_gives : (b : Bool) (v u : World V) → (b ≡ true → v ≡ give w who call answer → Lasts v) → (b ≡ false → u ≡ give w who call answer → Lasts u) → (if b then v else u) ≡ give w who call answer → Lasts (if b then v else u)
    if_gives true v u f g e = f refl e
    if_gives false v u f g e = g refl e

    class_gives : give_class w who call answer ≡ give w who call answer → Lasts (give_class w who call answer)
    class_gives is =
        let word = word_of call in
        if_gives (is_send word) (give_send w who call answer) _ send_gives
        (λ s. if_gives (is_receive word) (give_receive w who call answer) _ receive_gives
        (λ r. if_gives (is_tcp_close word) (give_closed w who call answer) _ closed_gives
        (λ t. if_gives (is_handshake word || gives_up word) (give_attached w who call answer) _ (λ k. attached_gives k s r t)
        (λ k. if_gives (links word) (give_forgone w who call answer) (reply w who word answer) forgone_gives
        (λ l f. let v = reply w who word answer in given v f (tidy_reply w who word answer refl) no_free (λ m x y o q. absurd (none s k (queueing call o.number o.named q))) (λ m x y i j g d e. still_stack v m x y e)))))) is
      where
        none : is_send (word_of call) ≡ false → (is_handshake (word_of call) || gives_up (word_of call)) ≡ false → Queueing call → ⊥
        none s k (sending t f) = true_false (is_send (word_of call)) t s
        none s k (going t f) = true_false (is_handshake (word_of call) || gives_up (word_of call)) t k

  pub give_lasts : (w : World V) (who : ℕ) (call : Call) (answer : Answer) (c : Coroutine V) → coroutine_of w who ≡ Some c → pending_call c.mode ≡ Some call → Lasts w → (is_on_stack (word_of call) ≡ true → Cause w call answer) → Lasts (give w who call answer)
  give_lasts w who (calls.Hclose number) answer c found pends h cause =
      let u = if_some (find (is_dead_as number) w.closings) w (free_bundle w) in
      let v = reply u who words.Hclose answer in
      bare_gives w who (calls.Hclose number) answer c found pends h cause v refl
      (tidy_more w u v (tidy_some (find (is_dead_as number) w.closings) w w (free_bundle w) (tidy_not w) (λ x. tidy_same w (free_bundle w x) refl refl refl refl)) (tidy_reply u who words.Hclose answer refl)) refl
  give_lasts w who call answer c found pends h cause = class_gives w who call answer c found pends h cause refl

  -- ---- endings and deadlines

  pub expire_lasts : (w : World V) (who : ℕ) → Lasts w → Lasts (expire_one w who)
  expire_lasts w who h = at (coroutine_of w who) refl
    where
      by : (c : Coroutine V) → coroutine_of w who ≡ Some c → (o : Option Call) → pending_call c.mode ≡ o → Lasts (if_some o w (λ call. give w who call (late_answer call)))
      by c e None f = h
      by c e (Some call) f = give_lasts w who call (late_answer call) c e f h (cause_late w call)

      at : (o : Option (Coroutine V)) → coroutine_of w who ≡ o → Lasts (if_some (if_some o None (λ c. pending_call c.mode)) w (λ call. give w who call (late_answer call)))
      at None e = h
      at (Some c) e = by c e (pending_call c.mode) refl

  finish_lasts : (w : World V) (c : Coroutine V) → find (can_finish w) w.coroutines ≡ Some c → Lasts w → Lasts (finish w c)
  finish_lasts w c e h = lasts {S = Same} {T = NoNumber} {gone = Some c.number} {new = NoCall} w (finish w c)
      (record {
        tidy = tidy_more w bare (finish w c) (tidy_more w freed bare (tidy_each free_bundle (highest_first (filter (is_owned_by w c.number) w.closings)) w (λ v x i. tidy_same v (free_bundle v x) refl refl refl refl)) (tidy_each release (reverse (handles.numbers_of freed.handles c.number)) freed (λ v n i. tidy_release v n))) left;
        calls = λ other more p g. inl ((fewer_finish w c).calls other more p);
        free = λ other more n l ne p q f g t. t;
        own = λ other more n l x y g p q f i j k d s d2. absurd (ending other more g p);
        stacks = λ l x y i k j d s. inl (soft_same (Holds (finish w c) queues l) x.stack y.stack s);
        fits = λ other more n l y q f nm i k. absurd q;
        low = λ other more n q f. absurd q;
      })
      (fewer_apart w (finish w c) (fewer_finish w c) h.apart)
      (subst (λ n. Numbered 0 (finish w c).coroutines n) (sym last) (subst (λ cs. Numbered 0 (without (is_coroutine c.number) cs) w.last_coroutine) (sym crew.coroutines) (numbered_without (is_coroutine c.number) w.coroutines 0 w.last_coroutine h.numbered))) h
    where
      freed : World V
      freed = free_all w c.number

      bare : World V
      bare = release_all freed c.number

      crew : SameCrew w bare
      crew = bare_crew w c.number

      last : (finish w c).last_coroutine ≡ w.last_coroutine
      last = keep_end_last bare c ∙ crew.last

      ending : (other : ℕ) (more : Call) → Some c.number ≡ Some other → Pends w other more → ⊥
      ending other more g p =
          let is : c.number ≡ other = cc in
          let there : find (is_coroutine c.number) w.coroutines ≡ Some p.one = subst (λ k. find (is_coroutine k) w.coroutines ≡ Some p.one) (p.number ∙ sym is) (found_of 0 w.last_coroutine w.coroutines p.one h.numbered p.there) in
          let same : p.one ≡ c = some_same (find (is_coroutine c.number) w.coroutines) p.one c there (by_number 0 w.last_coroutine (can_finish w) w.coroutines c e h.numbered) in
          let ends = and_parts (is_ending c.mode) (is_clear w c.number) (find_passes (can_finish w) w.coroutines c e) in
          never c.mode more ends.0 (ap (λ (d : Coroutine V). pending_call d.mode) (sym same) ∙ p.mode)
        where
          never : (mode : Mode) (call : Call) → is_ending mode ≡ true → pending_call mode ≡ Some call → ⊥
          never (modes.Ending outcome) call f g = cc
          never (modes.Pending other) call f g = cc
          never modes.Running call f g = cc
          never (modes.Fresh word answer) call f g = cc
          never (modes.Answered word answer) call f g = cc

      left : Tidy Same NoNumber (Some c.number) bare (finish w c)
      left = at (c.number == 1)
        where
          gone : (v u : World V) → u.coroutines ≡ without (is_coroutine c.number) v.coroutines → u.handles ≡ v.handles → Near v.links u.links → Tidy Same NoNumber (Some c.number) v u
          gone v u f g k = record {
            names = λ n l p. inl (record { entry = p.entry; there = subst (λ (q : handles.Handles Thing). In p.entry q.entries) g p.there; number = p.number; link = p.link });
            last = let s = ap (λ (q : handles.Handles Thing). q.last) g in omega (arith, s);
            links = λ l y i o. let r = k l y i in record { x = r.0; there = r.1; «open» = sym r.2 ∙ o; most = let m = r.3 in omega (arith, m); stack = r.4 };
            lost = λ n l i. inl (ap (λ (q : handles.Handles Thing). if_some (handles.look q n) None (λ x. link_of x.thing)) g ∙ i);
            still = λ other more p s ne. record { one = p.one; there = subst (In p.one) (sym f) (in_without_other (is_coroutine c.number) v.coroutines p.one p.there (differs p.one other p.number ne)); number = p.number; mode = p.mode };
            once = λ o l. subst (λ (q : handles.Handles Thing). weigh (links_to l) q.entries ≤ 1) (sym g) (o l);
            «open» = λ o all n l y p i. let r = k l y i in r.2 ∙ all n l r.0 (record { entry = p.entry; there = subst (λ (q : handles.Handles Thing). In p.entry q.entries) g p.there; number = p.number; link = p.link }) r.1;
          }
            where
              differs : (d : Coroutine V) (other : ℕ) → d.number ≡ other → (Some c.number ≡ Some other → ⊥) → (d.number == c.number) ≡ false
              differs d other f ne = by (d.number == c.number) refl
                where
                  by : (b : Bool) → (d.number == c.number) ≡ b → (d.number == c.number) ≡ false
                  by true g = absurd (ne (ap Some (sym (equal_is d.number c.number g) ∙ f)))
                  by false g = g

          at : (b : Bool) → Tidy Same NoNumber (Some c.number) bare (record (if b then from_start (record bare { ended = Some (outcome_of c.mode) }) else bare) { coroutines = without (is_coroutine c.number) bare.coroutines; scopes = (finish w c).scopes })
          at true = gone bare (record (from_start (record bare { ended = Some (outcome_of c.mode) })) { coroutines = without (is_coroutine c.number) bare.coroutines; scopes = (finish w c).scopes }) refl refl (near_rested bare.links)
          at false = gone bare (record bare { coroutines = without (is_coroutine c.number) bare.coroutines; scopes = (finish w c).scopes }) refl refl (near_same bare.links bare.links refl)

  one_lasts : (w : World V) → Lasts w → Lasts (settle_one w)
  one_lasts w h = at (find (can_finish w) w.coroutines) refl
    where
      first : (o : Option (ℕ × Call × Answer)) → first_some (answer_due w) w.coroutines ≡ o → Lasts (if_some o w (λ x. give w x.0 x.1 x.2))
      first None e = h
      first (Some x) e = let d = (due_first w 0 w.last_coroutine w.coroutines x h.numbered e).1 in give_lasts w x.0 x.1 x.2 d.one d.found d.call h (λ on. cause_due w x.0 x.1 x.2 on d.answer)

      at : (o : Option (Coroutine V)) → find (can_finish w) w.coroutines ≡ o → Lasts (if_some o (give_first w) (finish w))
      at None e = first (first_some (answer_due w) w.coroutines) refl
      at (Some c) e = finish_lasts w c e h

  pub within_lasts : (n : ℕ) (w : World V) → Lasts w → Lasts (settle_within n w)
  within_lasts zero w h = h
  within_lasts (suc n) w h = within_lasts n (settle_one w) (one_lasts w h)
