-- Nothing is due behind the looks of those that wait, where one call at most looks at each stack.
use Rattle.std.proofs.Common.{◌≡◌, ◌∙◌, ◌⊎◌, inl, inr, ℕ, ◌+◌, ◌==◌, ◌<◌, List, [], ◌∷◌, find, fold, cond, Bool, true, false, not, ◌&&◌, ◌||◌, Option, Some, None, if◌then◌else◌, refl, sym, ap, subst, arith}
use Rattle.std.specs.Prelude.{option_map}
use Rattle.std.specs.Option.{option_or}
use Rattle.std.proofs.lemmas.Bool.Decides.{nat_tests}
use Rattle.rand_core.specs.Stream.{Stream}
use Rattle.dill_calls.specs.declared.answer.Answer.{Answer}
use Rattle.dill_calls.specs.declared.answer.Answer.TheVariants.{Fault, Chosen}
use Rattle.dill_base.specs.declared.errno.Errno.TheVariants.{Ecanceled, Ebadf, Econnreset}
use Rattle.dill_calls.specs.declared.call.Call.{Call}
use Rattle.dill_calls.specs.declared.call.Call.TheVariants as calls
use Rattle.dill_calls.specs.declared.lists.Clause.{Clause}
use Rattle.dill_calls.specs.declared.word.Word.{Word}
use Rattle.dill_calls.specs.CallTable.{word_of, named_by, blocks}
use Rattle.dill_base.specs.Maps.{if_some, change, first_some}
use Rattle.dill_stack.specs.declared.want.ReadOut.{ReadOut}
use Rattle.dill_stack.specs.declared.want.ReadOut.TheVariants as outs
use Rattle.dill_stack.specs.Interface.{Held, has_ended, is_sent}
use Rattle.dill_stack.specs.declared.direction.Direction.{Direction}
use Rattle.dill_stack.specs.Again.{LooksAgain}
use Rattle.dill_rules.specs.declared.coroutine.Coroutine.{Coroutine}
use Rattle.dill_calls.specs.declared.ran.Note.{Note}
use Rattle.dill_rules.specs.World.{Place, World, is_coroutine, pending_call}
use Rattle.dill_rules.specs.Links.{Link, Links, look, is_link, change_link, with_stack}
use Rattle.dill_rules.specs.Sockets.{link_number, link_named, stack_of, on_link}
use Rattle.dill_rules.specs.Naming.{end_of_clause}
use Rattle.dill_rules.specs.Directions.{is_send, is_receive}
use Rattle.dill_rules.specs.LinkAnswers.{is_on_stack, look_of, is_tcp_done, is_tcp_close, zero_when, answer_said, whole_answer, is_broken_for, stack_answer, link_answer, reads}
use Rattle.dill_rules.specs.Linking.{put}
use Rattle.dill_rules.specs.Answers.{when, want_of, clause_fault, choice_fault, own_answer, lost_its_number, answer_of}
use Rattle.dill_rules.specs.Taking.{is_cancelled}
use Rattle.dill_rules.specs.Giving.{look_on}
use Rattle.dill_rules.specs.Settling.{IsSettled, can_finish, answer_due, pass_one, pass_all}
use Rattle.laws_queue.specs.Well.{Numbered}
use Rattle.laws_queue.proofs.Besides.{pass_all_besides}
use Rattle.laws_blind.proofs.Giving.{done_sends}
use Rattle.laws_looks.specs.Readers.{In, PendsIn, Pends, reads_on, OneReader, NamedOnce, LooksApart, LooksSettle}
use Rattle.laws_looks.specs.Calm.{Spent}
use Rattle.laws_looks.proofs.Lists.{itself, equal_is, unequal_is, some_none, some_same, or_none, none_or, first_none, none_first, true_false, reads_parts, both_true}
use Rattle.laws_looks.proofs.Fewer.{not_pending, pends_same, named_once}
use Rattle.laws_looks.proofs.Spent.{look_spends}
use Rattle.laws_looks.proofs.Twice.{said_blind, looks_twice, close_looks, KeepsWay, look_keeps}

-- ---- lists

module _ {V : Type 0} where
  pub above : (low high : ℕ) (cs : List (Coroutine V)) (c : Coroutine V) → Numbered low cs high → In c cs → low < c.number
  above low high [] c n i = absurd i
  above low high (x ∷ cs) c n (inl same) = subst (λ d. low < d.number) (sym same) n.0
  above low high (x ∷ cs) c n (inr i) = let r = above x.number high cs c n.1 i in omega (arith, r, n.0)

  pub found_of : (low high : ℕ) (cs : List (Coroutine V)) (c : Coroutine V) → Numbered low cs high → In c cs → find (is_coroutine c.number) cs ≡ Some c
  found_of low high [] c n i = absurd i
  found_of low high (x ∷ cs) c n (inl same) = subst (λ d. cond (x.number == d.number) (Some x) (find (is_coroutine d.number) cs) ≡ Some d) (sym same) (ap (λ b. cond b (Some x) (find (is_coroutine x.number) cs)) (itself x.number))
  found_of low high (x ∷ cs) c n (inr i) =
      let r = above x.number high cs c n.1 i in
      ap (λ b. cond b (Some x) (find (is_coroutine c.number) cs)) (less x.number c.number r) ∙ found_of x.number high cs c n.1 i
    where
      less : (a b : ℕ) → a < b → (a == b) ≡ false
      less a b h = grind (arith, nat_tests)

  -- who is changed is so
  pub changed_is : (low high who : ℕ) (f : Coroutine V → Coroutine V) → ((c : Coroutine V) → (f c).number ≡ c.number) → (cs : List (Coroutine V)) (d : Coroutine V) → Numbered low cs high → In d (change (is_coroutine who) f cs) → d.number ≡ who → (c : Coroutine V) × (d ≡ f c)
  changed_is low high who f same [] d n i e = absurd i
  changed_is low high who f same (c ∷ cs) d n i e = at (c.number == who) refl i (λ j. changed_is c.number high who f same cs d n.1 j e)
    where
      at : (b : Bool) → (c.number == who) ≡ b → In d (cond b (f c ∷ cs) (c ∷ change (is_coroutine who) f cs)) → (In d (change (is_coroutine who) f cs) → (x : Coroutine V) × (d ≡ f x)) → (x : Coroutine V) × (d ≡ f x)
      at true g (inl it) rest = (c, it)
      at true g (inr j) rest =
          let r = above c.number high cs d n.1 j in
          let q : c.number ≡ who = equal_is c.number who g in
          absurd (omega (arith, r, q, e))
      at false g (inl it) rest = absurd (unequal_is c.number who g (ap (λ (x : Coroutine V). x.number) (sym it) ∙ e))
      at false g (inr j) rest = rest j

  -- who is put elsewhere isn't pending
  pub unpended : (high who : ℕ) (f : Coroutine V → Coroutine V) → ((c : Coroutine V) → (f c).number ≡ c.number) → ((c : Coroutine V) → pending_call (f c).mode ≡ None) → (cs : List (Coroutine V)) (call : Call) → Numbered 0 cs high → PendsIn (change (is_coroutine who) f cs) who call → ⊥
  unpended high who f same none cs call n p = let r = changed_is 0 high who f same cs p.one n p.there p.number in not_pending p.one (f r.0) call (none r.0) r.1 p.mode

-- ---- links that are changed

changed_here : (f : Link → Link) → ((x : Link) → (f x).number ≡ x.number) → (l : ℕ) (xs : List Link) (x : Link) → find (is_link l) xs ≡ Some x → find (is_link l) (change (is_link l) f xs) ≡ Some (f x)
changed_here f same l [] x e = cc
changed_here f same l (y ∷ ys) x e = at (is_link l y) refl e (changed_here f same l ys x)
  where
    at : (b : Bool) → is_link l y ≡ b → cond b (Some y) (find (is_link l) ys) ≡ Some x → (find (is_link l) ys ≡ Some x → find (is_link l) (change (is_link l) f ys) ≡ Some (f x)) → find (is_link l) (cond b (f y ∷ ys) (y ∷ change (is_link l) f ys)) ≡ Some (f x)
    at true g h rest =
        let it : y ≡ x = cc in
        let there : ((f y).number == l) ≡ true = ap (λ n. n == l) (same y) ∙ g in
        rw there (ap (λ d. Some (f d)) it)
    at false g h rest = rw g (rest h)

pub changed_other : (f : Link → Link) → ((x : Link) → (f x).number ≡ x.number) → (l m : ℕ) (xs : List Link) → (m == l) ≡ false → find (is_link m) (change (is_link l) f xs) ≡ find (is_link m) xs
changed_other f same l m [] ne = refl
changed_other f same l m (y ∷ ys) ne = at (is_link l y) (is_link m y) refl refl (changed_other f same l m ys ne)
  where
    at : (t u : Bool) → is_link l y ≡ t → is_link m y ≡ u → find (is_link m) (change (is_link l) f ys) ≡ find (is_link m) ys → find (is_link m) (cond t (f y ∷ ys) (y ∷ change (is_link l) f ys)) ≡ cond u (Some y) (find (is_link m) ys)
    at true true g h rest = let bad : (m == l) ≡ true = grind (arith, nat_tests) in cc
    at true false g h rest = let there : ((f y).number == m) ≡ false = ap (λ n. n == m) (same y) ∙ h in rw there refl
    at false true g h rest = rw h refl
    at false false g h rest = rw h rest

-- what is found then is as it was, or of that number and changed
pub found_change : (f : Link → Link) → ((x : Link) → (f x).number ≡ x.number) → (l m : ℕ) (xs : List Link) (y : Link) → find (is_link m) (change (is_link l) f xs) ≡ Some y → (x : Link) × (find (is_link m) xs ≡ Some x) × ((y ≡ x) ⊎ ((m ≡ l) × (y ≡ f x)))
found_change f same l m [] y e = cc
found_change f same l m (x ∷ xs) y e = at (is_link l x) refl (is_link m x) refl e (found_change f same l m xs y)
  where
    at : (t : Bool) → is_link l x ≡ t → (u : Bool) → is_link m x ≡ u → find (is_link m) (cond t (f x ∷ xs) (x ∷ change (is_link l) f xs)) ≡ Some y
        → (find (is_link m) (change (is_link l) f xs) ≡ Some y → (z : Link) × (find (is_link m) xs ≡ Some z) × ((y ≡ z) ⊎ ((m ≡ l) × (y ≡ f z))))
        → (z : Link) × (cond u (Some x) (find (is_link m) xs) ≡ Some z) × ((y ≡ z) ⊎ ((m ≡ l) × (y ≡ f z)))
    at true d true g h rest =
        let it : Some (f x) ≡ Some y = sym (ap (λ b. cond b (Some (f x)) (find (is_link m) xs)) (ap (λ n. n == m) (same x) ∙ g)) ∙ h in
        (x, refl, inr (sym (equal_is x.number m g) ∙ equal_is x.number l d, some_same (Some y) y (f x) refl (sym it)))
    at true d false g h rest = (y, sym (ap (λ b. cond b (Some (f x)) (find (is_link m) xs)) (ap (λ n. n == m) (same x) ∙ g)) ∙ h, inl refl)
    at false d true g h rest =
        let it : Some x ≡ Some y = sym (ap (λ b. cond b (Some x) (find (is_link m) (change (is_link l) f xs))) g) ∙ h in
        (x, refl, inl (some_same (Some y) y x refl (sym it)))
    at false d false g h rest = rest (sym (ap (λ b. cond b (Some x) (find (is_link m) (change (is_link l) f xs))) g) ∙ h)

-- a link that is changed to itself
put_same : (l : ℕ) (s : Held) (xs : List Link) (x : Link) → find (is_link l) xs ≡ Some x → x.stack ≡ s → change (is_link l) (with_stack (λ old. s)) xs ≡ xs
put_same l s [] x e f = refl
put_same l s (y ∷ ys) x e f = at (is_link l y) e (λ g. put_same l s ys x g f)
  where
    at : (b : Bool) → cond b (Some y) (find (is_link l) ys) ≡ Some x → (find (is_link l) ys ≡ Some x → change (is_link l) (with_stack (λ old. s)) ys ≡ ys) → cond b (record y { stack = s } ∷ ys) (y ∷ change (is_link l) (with_stack (λ old. s)) ys) ≡ y ∷ ys
    at true g rest =
        let it : y ≡ x = cc in
        ap (λ t. record y { stack = t } ∷ ys) (sym f ∙ ap (λ z. z.stack) (sym it))
    at false g rest = ap (λ zs. y ∷ zs) (rest g)

abbrev pub due_as : ℕ → Call → Answer → Option (ℕ × Call × Answer)
due_as n call answer = Some (n, call, answer)

-- ---- one look

no_answer : (r : ReadOut) → answer_said r ≡ None → r ≡ outs.Need
no_answer (outs.Given a) e = cc
no_answer outs.Need e = refl
no_answer (outs.Fault x) e = cc

some_broken : (b : Bool) (o : Option Answer) → (if b then Some (Fault Econnreset) else o) ≡ None → (b ≡ false) × (o ≡ None)
some_broken true o e = cc
some_broken false o e = (refl, e)

-- who looks and isn't answered found nothing
reader_needs : (call : Call) (u : Stream) (x : Link) → is_send (word_of call) ≡ false → stack_answer call u x ≡ None → (look_of call u x.stack).said ≡ outs.Need
reader_needs call u x n e = at (is_tcp_done (word_of call)) refl (is_tcp_close (word_of call)) refl (some_broken (is_broken_for (word_of call) x.stack) (whole_answer call u x) e).1
  where
    at : (a : Bool) → is_tcp_done (word_of call) ≡ a → (b : Bool) → is_tcp_close (word_of call) ≡ b
        → (if a then zero_when x.shut else (if is_send (word_of call) then zero_when (is_sent x.stack) else (if b then zero_when (x.shut && has_ended x.stack) else answer_said (look_of call u x.stack).said))) ≡ None → (look_of call u x.stack).said ≡ outs.Need
    at true f b g h = absurd (true_false (is_send (word_of call)) (done_sends (word_of call) f) n)
    at false f true g h = close_looks call u x.stack g
    at false f false g h = no_answer (look_of call u x.stack).said (ap (λ c. if c then zero_when (is_sent x.stack) else answer_said (look_of call u x.stack).said) (sym n) ∙ h)

broken_same : (word : Word) (s t : Held) → KeepsWay s t → is_broken_for word t ≡ is_broken_for word s
broken_same word s t k =
    ap (λ (d : Direction). if is_receive word then d.broken else (if is_send word then t.sending.broken else (d.broken || t.sending.broken))) k.receiving
    ∙ ap (λ (d : Direction). if is_receive word then s.receiving.broken else (if is_send word then d.broken else (s.receiving.broken || d.broken))) k.sending

zero_none : (b : Bool) → zero_when b ≡ None → b ≡ false
zero_none true e = cc
zero_none false e = refl

-- a call that isn't answered before a look isn't answered after it, if it sends or finds nothing itself
answer_stays : (call : Call) (u v : Stream) (x : Link) (t : Held) → KeepsWay x.stack t → (is_send (word_of call) ≡ true) ⊎ ((look_of call v t).said ≡ outs.Need) → stack_answer call u x ≡ None → stack_answer call v (record x { stack = t }) ≡ None
answer_stays call u v x t k h e =
    let b = some_broken (is_broken_for (word_of call) x.stack) (whole_answer call u x) e in
    ap (λ c. if c then Some (Fault Econnreset) else whole_answer call v (record x { stack = t })) (broken_same (word_of call) x.stack t k ∙ b.0)
    ∙ at (is_tcp_done (word_of call)) (is_send (word_of call)) refl (is_tcp_close (word_of call)) h b.1
  where
    at : (a s : Bool) → is_send (word_of call) ≡ s → (c : Bool) → (is_send (word_of call) ≡ true) ⊎ ((look_of call v t).said ≡ outs.Need)
        → (if a then zero_when x.shut else (if s then zero_when (is_sent x.stack) else (if c then zero_when (x.shut && has_ended x.stack) else answer_said (look_of call u x.stack).said))) ≡ None
        → (if a then zero_when x.shut else (if s then zero_when (is_sent t) else (if c then zero_when (x.shut && has_ended t) else answer_said (look_of call v t).said))) ≡ None
    at true s i c j g = g
    at false true i c j g = ap zero_when (k.unsent (zero_none (is_sent x.stack) g))
    at false false i true j g = ap (λ (d : Direction). zero_when (x.shut && d.done)) k.receiving ∙ g
    at false false i false (inl y) g = cc
    at false false i false (inr y) g = ap answer_said y

-- what it answers doesn't hang on the random numbers
pub answer_blind : (call : Call) (u v : Stream) (x : Link) → stack_answer call u x ≡ stack_answer call v x
answer_blind call u v x = ap (λ r. if is_broken_for (word_of call) x.stack then Some (Fault Econnreset) else (if is_tcp_done (word_of call) then zero_when x.shut else (if is_send (word_of call) then zero_when (is_sent x.stack) else (if is_tcp_close (word_of call) then zero_when (x.shut && has_ended x.stack) else answer_said r)))) (said_blind call u v x.stack)

module _ {V : Type 0} where
  -- the world with other links and random numbers
  abbrev with_look : World V → Links → Stream → World V
  with_look w l u = record w { links = l; random = u }

  -- a world but for its coroutines, its links and what no answer looks at
  abbrev pub aside : World V → List (Coroutine V) → Links → Stream → Place → ℕ → List Note → World V
  aside w cs l u place moment notes = record w { coroutines = cs; links = l; random = u; place = place; moment = moment; notes = notes }

  module _ (w : World V) (cs : List (Coroutine V)) (l : Links) (u : Stream) (place : Place) (moment : ℕ) (notes : List Note) where
    choice_same : (index : ℕ) (all : List Clause) → choice_fault (aside w cs l u place moment notes) index all ≡ choice_fault w index all
    choice_same index [] = refl
    choice_same index (x ∷ xs) = ap (λ o. if_some (clause_fault w (end_of_clause x) (want_of x)) o (λ e. Some (Chosen index (Some e) None))) (choice_same (index + 1) xs)

    own_aside : (call : Call) → (link_answer w call ≡ None → link_answer (aside w cs l u place moment notes) call ≡ None) → own_answer w call ≡ None → own_answer (aside w cs l u place moment notes) call ≡ None
    own_aside (calls.BundleWait number deadline) h e = e
    own_aside (calls.Hclose number) h e = e
    own_aside (calls.Chsend number bytes deadline) h e = e
    own_aside (calls.Chrecv number size deadline) h e = e
    own_aside (calls.Choose deadline all) h e = choice_same 0 all ∙ e
    own_aside call h e = h e

    pub of_aside : (who : ℕ) (call : Call) → (link_answer w call ≡ None → link_answer (aside w cs l u place moment notes) call ≡ None) → answer_of w who call ≡ None → answer_of (aside w cs l u place moment notes) who call ≡ None
    of_aside who call h e =
        let a = or_none (when (blocks (word_of call) && is_cancelled w who) (Fault Ecanceled)) (option_or (when (lost_its_number w call) (Fault Ebadf)) (own_answer w call)) e in
        let b = or_none (when (lost_its_number w call) (Fault Ebadf)) (own_answer w call) a.1 in
        none_or (when (blocks (word_of call) && is_cancelled w who) (Fault Ecanceled)) (option_or (when (lost_its_number w call) (Fault Ebadf)) (own_answer (aside w cs l u place moment notes) call)) a.0
        (none_or (when (lost_its_number w call) (Fault Ebadf)) (own_answer (aside w cs l u place moment notes) call) b.0 (own_aside call h b.1))

  -- the answer of the link, where nothing else is due
  own_is : (w : World V) (call : Call) → is_on_stack (word_of call) ≡ true → own_answer w call ≡ None → link_answer w call ≡ None
  own_is w (calls.BundleWait number deadline) h e = cc
  own_is w (calls.Hclose number) h e = cc
  own_is w (calls.Chsend number bytes deadline) h e = cc
  own_is w (calls.Chrecv number size deadline) h e = cc
  own_is w (calls.Choose deadline all) h e = cc
  own_is w call h e = e

  of_none : (w : World V) (who : ℕ) (call : Call) → is_on_stack (word_of call) ≡ true → answer_of w who call ≡ None → link_answer w call ≡ None
  of_none w who call h e =
      let a = or_none (when (blocks (word_of call) && is_cancelled w who) (Fault Ecanceled)) (option_or (when (lost_its_number w call) (Fault Ebadf)) (own_answer w call)) e in
      let b = or_none (when (lost_its_number w call) (Fault Ebadf)) (own_answer w call) a.1 in
      own_is w call h b.1

-- ---- the look of a call, by its link

module _ {V : Type 0} where
  -- the link that a call looks at, and the world behind the look
  pub record Found (w : World V) (call : Call) : Type 0 where
    pub number : ℕ
    pub link : ℕ
    pub x : Link
    pub named : named_by call ≡ Some number
    pub linked : link_number w number ≡ Some link
    pub there : look w.links link ≡ Some x
    pub is : look_on w call ≡ with_look w (change_link w.links link (with_stack (λ old. (look_of call w.random x.stack).stack))) (look_of call w.random x.stack).random

  -- it is on no link
  pub record Missing (w : World V) (call : Call) : Type 0 where
    pub is : look_on w call ≡ w
    pub none : (n l : ℕ) (x : Link) → named_by call ≡ Some n → link_number w n ≡ Some l → look w.links l ≡ Some x → ⊥

  pub look_cases : (w : World V) (call : Call) → Missing w call ⊎ Found w call
  look_cases w call = by (named_by call) refl
    where
      looked : (o : Option Held) (n : ℕ) → named_by call ≡ Some n → stack_of w call ≡ o → look_on w call ≡ if_some o w (λ s. put w n ((look_of call w.random s).stack, (look_of call w.random s).random))
      looked o n e f = ap (λ o. if_some o w (λ number. if_some (stack_of w call) w (λ s. put w number ((look_of call w.random s).stack, (look_of call w.random s).random)))) e ∙ ap (λ o. if_some o w (λ s. put w n ((look_of call w.random s).stack, (look_of call w.random s).random))) f

      at : (n l : ℕ) → named_by call ≡ Some n → link_number w n ≡ Some l → (o : Option Link) → look w.links l ≡ o → Missing w call ⊎ Found w call
      at n l e f None g =
          let stack : stack_of w call ≡ None = ap (λ o. if_some o None (λ number. option_map (λ x. x.stack) (link_named w number))) e ∙ ap (λ o. option_map (λ x. x.stack) (if_some o None (look w.links))) f ∙ ap (λ o. option_map (λ x. x.stack) o) g in
          inl (record {
            is = looked None n e stack;
            none = λ m k x i j h.
                let number : n ≡ m = some_same (named_by call) n m e i in
                let link : l ≡ k = some_same (link_number w n) l k f (ap (link_number w) number ∙ j) in
                some_none (look w.links l) x g (ap (look w.links) link ∙ h);
          })
      at n l e f (Some x) g =
          let stack : stack_of w call ≡ Some x.stack = ap (λ o. if_some o None (λ number. option_map (λ x. x.stack) (link_named w number))) e ∙ ap (λ o. option_map (λ x. x.stack) (if_some o None (look w.links))) f ∙ ap (λ o. option_map (λ x. x.stack) o) g in
          inr (record {
            number = n;
            link = l;
            x = x;
            named = e;
            linked = f;
            there = g;
            is = looked (Some x.stack) n e stack ∙ ap (λ o. let v : World V = record (if_some o w (λ k. on_link w k (with_stack (λ old. (look_of call w.random x.stack).stack)))) { random = (look_of call w.random x.stack).random } in v) f;
          })

      linked : (n : ℕ) → named_by call ≡ Some n → (o : Option ℕ) → link_number w n ≡ o → Missing w call ⊎ Found w call
      linked n e None f =
          let stack : stack_of w call ≡ None = ap (λ o. if_some o None (λ number. option_map (λ x. x.stack) (link_named w number))) e ∙ ap (λ o. option_map (λ x. x.stack) (if_some o None (look w.links))) f in
          inl (record { is = looked None n e stack; none = λ m k x i j h. some_none (link_number w n) k f (ap (link_number w) (some_same (named_by call) n m e i) ∙ j) })
      linked n e (Some l) f = at n l e f (look w.links l) refl

      by : (o : Option ℕ) → named_by call ≡ o → Missing w call ⊎ Found w call
      by None e = inl (record { is = ap (λ o. if_some o w (λ number. if_some (stack_of w call) w (λ s. put w number ((look_of call w.random s).stack, (look_of call w.random s).random)))) e; none = λ m k x i j h. some_none (named_by call) m e i })
      by (Some n) e = linked n e (link_number w n) refl

  -- the world behind the look
  abbrev pub behind : (w : World V) (call : Call) → Found w call → World V
  behind w call f = with_look w (change_link w.links f.link (with_stack (λ old. (look_of call w.random f.x.stack).stack))) (look_of call w.random f.x.stack).random

  -- who is on the link of the look sends, or is it
  abbrev pub Alone : (w : World V) (call : Call) → Found w call → Call → Type 0
  Alone w call f more = (number : ℕ) → is_on_stack (word_of more) ≡ true → named_by more ≡ Some number → link_number w number ≡ Some f.link → (is_send (word_of more) ≡ true) ⊎ (more ≡ call)

  -- no look finds anything at the stack of this call
  abbrev pub Calm : World V → Call → Type 0
  Calm w call = (number link : ℕ) (x : Link) → named_by call ≡ Some number → link_number w number ≡ Some link → look w.links link ≡ Some x → Spent call x.stack

  found_needs : (w : World V) (call : Call) (f : Found w call) → reads call ≡ true → link_answer w call ≡ None → ((look_of call w.random f.x.stack).said ≡ outs.Need)
  found_needs w call f r e =
      let b = both (is_on_stack (word_of call)) (is_send (word_of call)) r in
      let here : stack_answer call w.random f.x ≡ None =
      sym (ap (λ t. if t then if_some (named_by call) None (λ number. if_some (link_named w number) None (stack_answer call w.random)) else None) b.0
      ∙ ap (λ o. if_some o None (λ number. if_some (link_named w number) None (stack_answer call w.random))) f.named
      ∙ ap (λ o. if_some (if_some o None (look w.links)) None (stack_answer call w.random)) f.linked
      ∙ ap (λ o. if_some o None (stack_answer call w.random)) f.there) ∙ e in
      reader_needs call w.random f.x b.1 here
    where
      both : (a b : Bool) → (a && not b) ≡ true → (a ≡ true) × (b ≡ false)
      both true false e = (refl, refl)
      both true true e = cc
      both false b e = cc

  module _ (laws : LooksAgain) where
    -- a call on a stack isn't answered behind the look of another either
    link_stays : (w : World V) (call : Call) (f : Found w call) (more : Call) → (look_of call w.random f.x.stack).said ≡ outs.Need → Alone w call f more → link_answer w more ≡ None → link_answer (behind w call f) more ≡ None
    link_stays w call f more need alone e = at (is_on_stack (word_of more)) refl (named_by more) refl e
      where
        t : Held
        t = (look_of call w.random f.x.stack).stack

        u : Stream
        u = (look_of call w.random f.x.stack).random

        now : Links
        now = change_link w.links f.link (with_stack (λ old. t))

        blind : (o : Option Link) → if_some o None (stack_answer more w.random) ≡ None → if_some o None (stack_answer more u) ≡ None
        blind None g = refl
        blind (Some y) g = answer_blind more u w.random y ∙ g

        stays : (is_send (word_of more) ≡ true) ⊎ (more ≡ call) → (is_send (word_of more) ≡ true) ⊎ ((look_of more u t).said ≡ outs.Need)
        stays (inl s) = inl s
        stays (inr same) = inr (ap (λ c. (look_of c u t).said) same ∙ ap (λ l. l.said) (looks_twice laws call w.random u f.x.stack need))

        here : (n l : ℕ) → is_on_stack (word_of more) ≡ true → named_by more ≡ Some n → link_number w n ≡ Some l → (b : Bool) → (l == f.link) ≡ b → if_some (look w.links l) None (stack_answer more w.random) ≡ None → if_some (look now l) None (stack_answer more u) ≡ None
        here n l on named linked true g k =
            let same : l ≡ f.link = equal_is l f.link g in
            let old : look w.links l ≡ Some f.x = ap (look w.links) same ∙ f.there in
            let new : look now l ≡ Some (record f.x { stack = t }) = ap (look now) same ∙ changed_here (with_stack (λ o. t)) (λ x. refl) f.link w.links.all f.x f.there in
            ap (λ o. if_some o None (stack_answer more u)) new
            ∙ answer_stays more w.random u f.x t (look_keeps call w.random f.x.stack need) (stays (alone n on named (linked ∙ ap Some same))) (sym (ap (λ o. if_some o None (stack_answer more w.random)) old) ∙ k)
        here n l on named linked false g k = ap (λ o. if_some o None (stack_answer more u)) (changed_other (with_stack (λ o. t)) (λ x. refl) f.link l w.links.all g) ∙ blind (look w.links l) k

        by : (n : ℕ) → is_on_stack (word_of more) ≡ true → named_by more ≡ Some n → (p : Option ℕ) → link_number w n ≡ p → if_some (if_some p None (look w.links)) None (stack_answer more w.random) ≡ None → if_some (if_some p None (look now)) None (stack_answer more u) ≡ None
        by n on named None linked k = refl
        by n on named (Some l) linked k = here n l on named linked (l == f.link) refl k

        at : (b : Bool) → is_on_stack (word_of more) ≡ b → (o : Option ℕ) → named_by more ≡ o → (if b then if_some o None (λ number. if_some (link_named w number) None (stack_answer more w.random)) else None) ≡ None → (if b then if_some o None (λ number. if_some (link_named (behind w call f) number) None (stack_answer more u)) else None) ≡ None
        at false on o named k = refl
        at true on None named k = refl
        at true on (Some n) named k = by n on named (link_number w n) refl k

    -- the look is calm behind itself, and so is another that was
    calm_behind : (w : World V) (call : Call) (f : Found w call) (more : Call) → (look_of call w.random f.x.stack).said ≡ outs.Need → (more ≡ call) ⊎ Calm w more → reads more ≡ true → Alone w call f more → Calm (behind w call f) more
    calm_behind w call f more need calm r alone n l y named linked there = at (l == f.link) refl
      where
        t : Held
        t = (look_of call w.random f.x.stack).stack

        now : Links
        now = change_link w.links f.link (with_stack (λ old. t))

        both : (a b : Bool) → (a && not b) ≡ true → (a ≡ true) × (b ≡ false)
        both true false e = (refl, refl)
        both true true e = cc
        both false b e = cc

        own : more ≡ call → l ≡ f.link → Spent more y.stack
        own same at_link =
            let new : look now l ≡ Some (record f.x { stack = t }) = ap (look now) at_link ∙ changed_here (with_stack (λ o. t)) (λ x. refl) f.link w.links.all f.x f.there in
            let it : ◌≡◌ {A = Option Link} (Some y) (Some (record f.x { stack = t })) = sym there ∙ new in
            let is : y ≡ record f.x { stack = t } = cc in
            let stack : y.stack ≡ t = ap (λ x. x.stack) is in
            subst (λ s. Spent more s) (sym stack) (subst (λ c. Spent c t) (sym same) (look_spends laws call w.random f.x.stack need))

        which : (is_send (word_of more) ≡ true) ⊎ (more ≡ call) → more ≡ call
        which (inl s) = let b = both (is_on_stack (word_of more)) (is_send (word_of more)) r in let bad : true ≡ false = sym s ∙ b.1 in cc
        which (inr same) = same

        other : (more ≡ call) ⊎ Calm w more → (l == f.link) ≡ false → Spent more y.stack
        other (inl same) g =
            let it : Some n ≡ Some f.number = sym named ∙ ap named_by same ∙ f.named in
            let number : n ≡ f.number = cc in
            let link : Some l ≡ Some f.link = sym linked ∙ ap (link_number w) number ∙ f.linked in
            let same_link : l ≡ f.link = cc in
            absurd (unequal_is l f.link g same_link)
        other (inr was) g = was n l y named linked (sym (changed_other (with_stack (λ o. t)) (λ x. refl) f.link l w.links.all g) ∙ there)

        at : (b : Bool) → (l == f.link) ≡ b → Spent more y.stack
        at true g =
            let same : l ≡ f.link = equal_is l f.link g in
            own (which (alone n (both (is_on_stack (word_of more)) (is_send (word_of more)) r).0 named (linked ∙ ap Some same))) same
        at false g = other calm g

-- ---- all looks

join_reads : (a b : Bool) → a ≡ true → b ≡ false → (a && not b) ≡ true
join_reads true true e f = cc
join_reads true false e f = refl
join_reads false b e f = cc

module _ {V : Type 0} where
  -- nobody of these is answered
  abbrev pub Waits : World V → List (Coroutine V) → Type 0
  Waits w cs = (c : Coroutine V) → In c cs → (call : Call) → pending_call c.mode ≡ Some call → answer_of w c.number call ≡ None

  -- the coroutines of a world, one of which at most looks at a stack
  pub record Readers (w : World V) (cs : List (Coroutine V)) : Type 0 where
    pub same : w.coroutines ≡ cs
    pub numbered : Numbered 0 cs w.last_coroutine
    pub one : OneReader w
    pub once : NamedOnce w

  pends_at : (w : World V) (cs : List (Coroutine V)) → Readers w cs → (c : Coroutine V) (call : Call) → In c cs → pending_call c.mode ≡ Some call → Pends w c.number call
  pends_at w cs r c call i e = record { one = c; there = subst (In c) (sym r.same) i; number = refl; mode = e }

  pub alone_at : (w : World V) (cs : List (Coroutine V)) → Readers w cs → (c d : Coroutine V) (call more : Call) → In c cs → In d cs → pending_call c.mode ≡ Some call → pending_call d.mode ≡ Some more → reads call ≡ true → (f : Found w call) → Alone w call f more
  alone_at w cs r c d call more i j e g rc f n on named linked = at (is_send (word_of more)) refl
    where
      at : (b : Bool) → is_send (word_of more) ≡ b → (is_send (word_of more) ≡ true) ⊎ (more ≡ call)
      at true s = inl s
      at false s =
          let number : n ≡ f.number = r.once n f.number f.link linked f.linked in
          let reads_more : reads_on f.number more ≡ true = both_true (reads more) (if_some (named_by more) false (λ m. m == f.number)) (join_reads (is_on_stack (word_of more)) (is_send (word_of more)) on s) (ap (λ o. if_some o false (λ m. m == f.number)) (named ∙ ap Some number) ∙ itself f.number) in
          let reads_call : reads_on f.number call ≡ true = both_true (reads call) (if_some (named_by call) false (λ m. m == f.number)) rc (ap (λ o. if_some o false (λ m. m == f.number)) f.named ∙ itself f.number) in
          let who : c.number ≡ d.number = r.one f.number c.number d.number call more (pends_at w cs r c call i e) (pends_at w cs r d more j g) reads_call reads_more in
          let same : d ≡ c = some_same (find (is_coroutine d.number) cs) d c (found_of 0 w.last_coroutine cs d r.numbered j) (ap (λ k. find (is_coroutine k) cs) (sym who) ∙ found_of 0 w.last_coroutine cs c r.numbered i) in
          inr (some_same (pending_call d.mode) more call g (ap (λ x. pending_call x.mode) same ∙ e))

  -- what the look of one leaves
  pub record Step (w v : World V) (cs : List (Coroutine V)) (c : Coroutine V) : Type 0 where
    pub links : Links
    pub random : Stream
    pub same : v ≡ with_look w links random
    pub waits : Waits v cs
    pub calm : (d : Coroutine V) → In d cs → (more : Call) → pending_call d.mode ≡ Some more → reads more ≡ true → (c ≡ d) ⊎ Calm w more → Calm v more

  module _ (laws : LooksAgain) where
    pub pass_step : (w : World V) (cs : List (Coroutine V)) (c : Coroutine V) → Readers w cs → In c cs → Waits w cs → Step w (pass_one w c) cs c
    pass_step w cs c r i waits = at (pending_call c.mode) refl
      where
        rests : ((d : Coroutine V) → c ≡ d → (more : Call) → pending_call d.mode ≡ Some more → reads more ≡ true → ⊥) → Step w w cs c
        rests none = record { links = w.links; random = w.random; same = refl; waits = waits; calm = kept }
          where
            kept : (d : Coroutine V) → In d cs → (more : Call) → pending_call d.mode ≡ Some more → reads more ≡ true → (c ≡ d) ⊎ Calm w more → Calm w more
            kept d j more g rm (inl same) = absurd (none d same more g rm)
            kept d j more g rm (inr was) = was

        looks : (call : Call) → pending_call c.mode ≡ Some call → reads call ≡ true → Missing w call ⊎ Found w call → Step w (look_on w call) cs c
        looks call e rc (inl m) = subst (λ v. Step w v cs c) (sym m.is) (record { links = w.links; random = w.random; same = refl; waits = waits; calm = kept })
          where
            kept : (d : Coroutine V) → In d cs → (more : Call) → pending_call d.mode ≡ Some more → reads more ≡ true → (c ≡ d) ⊎ Calm w more → Calm w more
            kept d j more g rm (inl same) =
                let it : call ≡ more = some_same (pending_call c.mode) call more e (ap (λ x. pending_call x.mode) same ∙ g) in
                λ n l x named linked there. absurd (m.none n l x (ap named_by it ∙ named) linked there)
            kept d j more g rm (inr was) = was
        looks call e rc (inr f) =
            let on = (reads_parts (is_on_stack (word_of call)) (is_send (word_of call)) rc).0 in
            let need = found_needs w call f rc (of_none w c.number call on (waits c i call e)) in
            subst (λ v. Step w v cs c) (sym f.is)
            (record {
              links = (behind w call f).links;
              random = (behind w call f).random;
              same = refl;
              waits = λ d j more g. of_aside w w.coroutines (behind w call f).links (behind w call f).random w.place w.moment w.notes d.number more (link_stays laws w call f more need (alone_at w cs r c d call more i j e g rc f)) (waits d j more g);
              calm = kept need;
            })
          where
            same_or : (d : Coroutine V) (more : Call) → pending_call d.mode ≡ Some more → (c ≡ d) ⊎ Calm w more → (more ≡ call) ⊎ Calm w more
            same_or d more g (inl same) = inl (some_same (pending_call c.mode) more call (ap (λ x. pending_call x.mode) same ∙ g) e)
            same_or d more g (inr was) = inr was

            kept : (look_of call w.random f.x.stack).said ≡ outs.Need → (d : Coroutine V) → In d cs → (more : Call) → pending_call d.mode ≡ Some more → reads more ≡ true → (c ≡ d) ⊎ Calm w more → Calm (behind w call f) more
            kept need d j more g rm was = calm_behind laws w call f more need (same_or d more g was) rm (alone_at w cs r c d call more i j e g rc f)

        by : (call : Call) → pending_call c.mode ≡ Some call → (b : Bool) → reads call ≡ b → Step w (if b then look_on w call else w) cs c
        by call e true rc = looks call e rc (look_cases w call)
        by call e false rc = rests (λ d same more g rm. true_false (reads more) rm (ap reads (some_same (pending_call c.mode) more call (ap (λ x. pending_call x.mode) same ∙ g) e) ∙ rc))

        at : (o : Option Call) → pending_call c.mode ≡ o → Step w (if_some o w (λ call. if reads call then look_on w call else w)) cs c
        at None e = rests (λ d same more g rm. some_none (pending_call c.mode) more e (ap (λ x. pending_call x.mode) same ∙ g))
        at (Some call) e = by call e (reads call) refl

    -- what all looks leave
    pub record Quiet (v : World V) (cs : List (Coroutine V)) : Type 0 where
      pub waits : Waits v cs
      pub calm : (d : Coroutine V) → In d cs → (more : Call) → pending_call d.mode ≡ Some more → reads more ≡ true → Calm v more

    all_quiet : (rest : List (Coroutine V)) (w : World V) (cs : List (Coroutine V)) → Readers w cs → ((c : Coroutine V) → In c rest → In c cs) → Waits w cs → ((d : Coroutine V) → In d cs → (more : Call) → pending_call d.mode ≡ Some more → reads more ≡ true → In d rest ⊎ Calm w more) → Quiet (fold pass_one w rest) cs
    all_quiet [] w cs r sub waits calm = record { waits = waits; calm = λ d i more e rm. at more (calm d i more e rm) }
      where
        at : (more : Call) → ⊥ ⊎ Calm w more → Calm w more
        at more (inl i) = absurd i
        at more (inr c) = c
    all_quiet (c ∷ rest) w cs r sub waits calm =
        let s = pass_step w cs c r (sub c (inl refl)) waits in
        let v = pass_one w c in
        let readers : Readers v cs = subst (λ x. Readers x cs) (sym s.same) (record { same = r.same; numbered = r.numbered; one = λ number who other call more p q. r.one number who other call more (pends_same w (with_look w s.links s.random) refl who call p) (pends_same w (with_look w s.links s.random) refl other more q); once = r.once }) in
        all_quiet rest v cs readers (λ d i. sub d (inr i)) s.waits (λ d i more e rm. at d more (λ was. s.calm d i more e rm was) (calm d i more e rm))
      where
        at : (d : Coroutine V) (more : Call) → ((c ≡ d) ⊎ Calm w more → Calm (pass_one w c) more) → In d (c ∷ rest) ⊎ Calm w more → In d rest ⊎ Calm (pass_one w c) more
        at d more h (inl (inl same)) = inr (h (inl (sym same)))
        at d more h (inl (inr i)) = inl i
        at d more h (inr was) = inr (h (inr was))

    pub passes_quiet : (w : World V) → Numbered 0 w.coroutines w.last_coroutine → OneReader w → NamedOnce w → Waits w w.coroutines → Quiet (pass_all w) w.coroutines
    passes_quiet w n one once waits = all_quiet w.coroutines w w.coroutines (record { same = refl; numbered = n; one = one; once = once }) (λ c i. i) waits (λ d i more e rm. inl i)

  pub due_waits : (w : World V) → first_some (answer_due w) w.coroutines ≡ None → Waits w w.coroutines
  due_waits w e c i call g = at (answer_of w c.number call) refl (sym (ap (λ o. if_some o None (λ call. if_some (answer_of w c.number call) None (λ answer. due_as c.number call answer))) g) ∙ first_none (answer_due w) w.coroutines e c i)
    where
      at : (o : Option Answer) → answer_of w c.number call ≡ o → if_some o None (λ answer. due_as c.number call answer) ≡ None → answer_of w c.number call ≡ None
      at None h k = h
      at (Some a) h k = cc

  pub waits_due : (w : World V) (cs : List (Coroutine V)) → Waits w cs → first_some (answer_due w) cs ≡ None
  waits_due w cs h = none_first (answer_due w) cs (λ c i. at c i (pending_call c.mode) refl)
    where
      at : (c : Coroutine V) → In c cs → (o : Option Call) → pending_call c.mode ≡ o → if_some o None (λ call. if_some (answer_of w c.number call) None (λ answer. due_as c.number call answer)) ≡ None
      at c i None e = refl
      at c i (Some call) e = ap (λ o. if_some o None (λ answer. due_as c.number call answer)) (h c i call e)

  -- a calm look leaves the world
  pub calm_looks : (w : World V) (call : Call) → Calm w call → look_on w call ≡ w
  calm_looks w call calm = at (look_cases w call)
    where
      at : Missing w call ⊎ Found w call → look_on w call ≡ w
      at (inl m) = m.is
      at (inr f) =
          let s = (calm f.number f.link f.x f.named f.linked f.there).look w.random in
          f.is ∙ ap (λ l. with_look w (change_link w.links f.link (with_stack (λ old. l.stack))) l.random) s
          ∙ ap (λ all. with_look w (record w.links { all = all }) w.random) (put_same f.link f.x.stack w.links.all f.x f.there refl)

  pub calm_passes : (w : World V) (c : Coroutine V) → ((call : Call) → pending_call c.mode ≡ Some call → reads call ≡ true → Calm w call) → pass_one w c ≡ w
  calm_passes w c h = at (pending_call c.mode) refl
    where
      by : (call : Call) → pending_call c.mode ≡ Some call → (b : Bool) → reads call ≡ b → (if b then look_on w call else w) ≡ w
      by call e true r = calm_looks w call (h call e r)
      by call e false r = refl

      at : (o : Option Call) → pending_call c.mode ≡ o → if_some o w (λ call. if reads call then look_on w call else w) ≡ w
      at None e = refl
      at (Some call) e = by call e (reads call) refl

  pub calm_all : (rest : List (Coroutine V)) (w : World V) → ((c : Coroutine V) → In c rest → (call : Call) → pending_call c.mode ≡ Some call → reads call ≡ true → Calm w call) → fold pass_one w rest ≡ w
  calm_all [] w h = refl
  calm_all (c ∷ rest) w h = ap (λ v. fold pass_one v rest) (calm_passes w c (h c (inl refl))) ∙ calm_all rest w (λ d i. h d (inr i))

module _ {V : Type 0} where
  pub quiet_apart : (laws : LooksAgain) (w : World V) → Numbered 0 w.coroutines w.last_coroutine → LooksApart w → IsSettled w → Quiet laws (pass_all w) w.coroutines
  quiet_apart laws w n a s = passes_quiet laws w n a.readers (named_once w a) (due_waits w s.answers)

  passed_crew : (w : World V) → (pass_all w).coroutines ≡ w.coroutines
  passed_crew w = ap (λ (v : World V). v.coroutines) (pass_all_besides w).same

  pub passed_settled : LooksAgain → (w : World V) → Numbered 0 w.coroutines w.last_coroutine → LooksApart w → IsSettled w → IsSettled (pass_all w)
  passed_settled laws w n a s = record {
    endings = subst (λ (v : World V). find (can_finish v) v.coroutines ≡ None) (sym (pass_all_besides w).same) s.endings;
    answers = subst (λ cs. first_some (answer_due (pass_all w)) cs ≡ None) (sym (passed_crew w)) (waits_due (pass_all w) w.coroutines (quiet_apart laws w n a s).waits);
  }

pub looks_settle : {V : Type 0} → LooksAgain → LooksSettle V
looks_settle laws = record {
  settled = passed_settled laws;
  again = λ w n a s. subst (λ cs. fold pass_one (pass_all w) cs ≡ pass_all w) (sym (passed_crew w)) (calm_all w.coroutines (pass_all w) (quiet_apart laws w n a s).calm);
}
