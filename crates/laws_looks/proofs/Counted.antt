-- As many links are kept as pending calls that make a link have none: what a change of one coroutine and of the links leaves of that, and that answers and settling leave it so.
use Rattle.std.proofs.Common.{◌≡◌, ◌∙◌, ℕ, zero, suc, ◌+◌, ◌-◌, ◌≤◌, ◌<◌, ◌==◌, List, [], ◌∷◌, length, find, fold, cond, Bool, true, false, not, ◌&&◌, ◌||◌, Option, Some, None, if◌then◌else◌, refl, sym, ap, subst, arith}
use Rattle.std.specs.Prelude.{filter, reverse, is_none, nat_le}
use Rattle.std.proofs.lemmas.Bool.Decides.{nat_tests}
use Rattle.dill_base.specs.declared.errno.Errno.{Errno}
use Rattle.dill_base.specs.Maps.{if_some, change, without, first_some}
use Rattle.dill_calls.specs.declared.answer.Answer.{Answer}
use Rattle.dill_calls.specs.declared.answer.Answer.TheVariants.{Fault}
use Rattle.dill_calls.specs.declared.call.Call.{Call}
use Rattle.dill_calls.specs.declared.call.Call.TheVariants as calls
use Rattle.dill_calls.specs.declared.ran.Note.TheVariants.{Freed}
use Rattle.dill_calls.specs.declared.word.Word.{Word}
use Rattle.dill_calls.specs.declared.word.Word.TheVariants as words
use Rattle.dill_calls.specs.CallTable.{word_of, named_by, gives_up}
use Rattle.dill_handles.specs.Handles as handles
use Rattle.dill_handles.specs.declared.entry.Entry.{Entry}
use Rattle.dill_scope.proofs.Numbered.{found_number}
use Rattle.dill_scope.specs.Scopes.{Scopes}
use Rattle.dill_rules.specs.declared.coroutine.Closing.{Closing}
use Rattle.dill_rules.specs.declared.coroutine.Coroutine.{Coroutine}
use Rattle.dill_rules.specs.declared.coroutine.Mode.{Mode}
use Rattle.dill_rules.specs.declared.coroutine.Mode.TheVariants as modes
use Rattle.dill_rules.specs.declared.thing.Thing.{Thing}
use Rattle.dill_rules.specs.declared.thing.Thing.TheVariants as things
use Rattle.dill_rules.specs.World.{World, is_coroutine, coroutine_of, call_of, with_mode, reply, note, pending_call, from_start, is_ending}
use Rattle.dill_rules.specs.Directions.{is_send, is_receive, is_handshake}
use Rattle.dill_rules.specs.Entering.{late_answer}
use Rattle.dill_rules.specs.Expiring.{expire_one}
use Rattle.dill_rules.specs.Giving.{is_read, look_on, after_send, is_connecting_for, give_send, give_receive, give_number, give_attached, give_closed, give_forgone, give_class, give}
use Rattle.dill_rules.specs.LinkAnswers.{is_tcp_close}
use Rattle.dill_rules.specs.Linking.{give_stack_up}
use Rattle.dill_rules.specs.Links as link
use Rattle.dill_rules.specs.Links.{Link, Links, look, is_link, change_link, connector, with_stack, as_closing, rested}
use Rattle.dill_rules.specs.Naming.{draws_of, links}
use Rattle.dill_rules.specs.Owning.{entry_of, is_dead_as, take_thing, move, drop, release, free_bundle}
use Rattle.dill_rules.specs.Settling.{can_finish, is_clear, highest_first, is_owned_by, free_all, release_all, outcome_of, finish, answer_due, give_first, settle_one, settle_within, pass_all, settle}
use Rattle.dill_rules.specs.Sockets.{link_of, on_link, on_named}
use Rattle.laws_queue.specs.Well.{bit, is_at, Numbered}
use Rattle.laws_queue.proofs.Acting.{give_gives}
use Rattle.laws_queue.proofs.Crew.{SameCrew, bare_crew}
use Rattle.laws_queue.proofs.Besides.{pass_all_besides}
use Rattle.laws_queue.proofs.Numbers.{numbered_change, numbered_without}
use Rattle.laws_queue.proofs.Stepping.{due_first, by_number}
use Rattle.laws_sound.specs.Orderly.{weigh}
use Rattle.laws_sound.proofs.Counting.{weigh_found, weigh_change, none_weightless, small_bit}
use Rattle.laws_sound.proofs.Crews.{change_here, change_other, other_without}
use Rattle.laws_looks.specs.Readers.{Rising, LooksApart}
use Rattle.laws_looks.specs.Keeping.{connects_for, is_connect, connects, awaits, KeepsLinks}
use Rattle.laws_looks.proofs.Lists.{itself, equal_is, unequal_is, less_unequal, more_unequal, true_false, find_passes}
use Rattle.laws_looks.proofs.Stays.{is_open, Soft, soft_rested, on_named_stays, look_stays, pass_all_stays}
use Rattle.laws_looks.proofs.Fewer.{links_to, weigh_linked, fewer_release, fewer_give, fewer_finish, fewer_apart, fewer_parts, fewer_same, fewer_each, fewer_looked}

-- it is pending in a call that makes a link
abbrev pub is_making : Mode → Bool
is_making mode = if_some (pending_call mode) false (λ call. links (word_of call))

-- as many links are kept, and as many connect for each
pub record Even (l m : Links) : Type 0 where
  pub kept : m.kept ≡ l.kept
  pub connects : (who : ℕ) → connects_for m who ≡ connects_for l who

pub even_same : (l : Links) → Even l l
even_same l = record { kept = refl; connects = λ who. refl }

pub even_then : (l m k : Links) → Even l m → Even m k → Even l k
even_then l m k a b = record { kept = b.kept ∙ a.kept; connects = λ who. b.connects who ∙ a.connects who }

pub even_soft : (l m : Links) → Soft l m → Even l m
even_soft l m s = record { kept = s.kept; connects = s.connects }

connect_links : (word : Word) → links word ≡ false → is_connect word ≡ false
connect_links words.TcpConnect e = cc
connect_links word e = refl

idle_connects : (mode : Mode) → is_making mode ≡ false → connects mode ≡ false
idle_connects mode e = at (pending_call mode) e
  where
    at : (o : Option Call) → if_some o false (λ call. links (word_of call)) ≡ false → if_some o false (λ call. is_connect (word_of call)) ≡ false
    at None f = refl
    at (Some call) f = connect_links (word_of call) f

-- but for one coroutine as many connect
abbrev pub OthersSame : Links → Links → ℕ → Type 0
OthersSame l m who = (n : ℕ) → (n == who) ≡ false → connects_for m n ≡ connects_for l n

module _ {V : Type 0} where
  pub idle_awaits : (l : Links) (c : Coroutine V) → is_making c.mode ≡ false → awaits l c ≡ 0
  idle_awaits l c e = at (pending_call c.mode) e
    where
      by : (b : Bool) → b ≡ false → (if b then 1 - connects_for l c.number else 0) ≡ 0
      by true f = cc
      by false f = refl

      at : (o : Option Call) → if_some o false (λ call. links (word_of call)) ≡ false → if_some o 0 (λ call. if links (word_of call) then 1 - connects_for l c.number else 0) ≡ 0
      at None f = refl
      at (Some call) f = by (links (word_of call)) f

  pub making_awaits : (l : Links) (c : Coroutine V) (call : Call) → pending_call c.mode ≡ Some call → links (word_of call) ≡ true → awaits l c ≡ 1 - connects_for l c.number
  making_awaits l c call e f = ap (λ o. if_some o 0 (λ d. if links (word_of d) then 1 - connects_for l c.number else 0)) e ∙ ap (λ b. if b then 1 - connects_for l c.number else 0) f

  -- ---- a coroutine is changed, and the links that connect for it

  awaits_same : (l m : Links) (c : Coroutine V) → connects_for m c.number ≡ connects_for l c.number → awaits m c ≡ awaits l c
  awaits_same l m c e = ap (λ k. if_some (pending_call c.mode) 0 (λ call. if links (word_of call) then 1 - k else 0)) e

  above_same : (l m : Links) (who low high : ℕ) (cs : List (Coroutine V)) → OthersSame l m who → Numbered low cs high → who ≤ low → weigh (awaits m) cs ≡ weigh (awaits l) cs
  above_same l m who low high [] h n le = refl
  above_same l m who low high (c ∷ cs) h n le =
      let first = n.0 in
      let one = awaits_same l m c (h c.number (more_unequal c.number who (omega (arith, first, le)))) in
      let rest = above_same l m who c.number high cs h n.1 (omega (arith, first, le)) in
      omega (arith, one, rest)

  one_changes : (l m : Links) (who : ℕ) (f : Coroutine V → Coroutine V) (low high : ℕ) (cs : List (Coroutine V)) (c : Coroutine V) → OthersSame l m who → Numbered low cs high → find (is_coroutine who) cs ≡ Some c → weigh (awaits m) (change (is_coroutine who) f cs) + awaits l c ≡ weigh (awaits l) cs + awaits m (f c)
  one_changes l m who f low high [] c h n e = cc
  one_changes l m who f low high (x ∷ xs) c h n e = at (is_coroutine who x) refl e (one_changes l m who f x.number high xs c h n.1)
    where
      at : (b : Bool) → is_coroutine who x ≡ b → cond b (Some x) (find (is_coroutine who) xs) ≡ Some c → (find (is_coroutine who) xs ≡ Some c → weigh (awaits m) (change (is_coroutine who) f xs) + awaits l c ≡ weigh (awaits l) xs + awaits m (f c)) → weigh (awaits m) (cond b (f x ∷ xs) (x ∷ change (is_coroutine who) f xs)) + awaits l c ≡ (awaits l x + weigh (awaits l) xs) + awaits m (f c)
      at true g k rest =
          let it : x ≡ c = cc in
          let same = equal_is x.number who g in
          let r = above_same l m who x.number high xs h n.1 (omega (arith, same)) in
          let a = ap (awaits l) it in
          let b = ap (λ d. awaits m (f d)) it in
          omega (arith, r, a, b)
      at false g k rest = let r = rest k in let a = awaits_same l m x (h x.number g) in omega (arith, r, a)

  all_same : (l m : Links) (cs : List (Coroutine V)) → ((n : ℕ) → connects_for m n ≡ connects_for l n) → weigh (awaits m) cs ≡ weigh (awaits l) cs
  all_same l m [] h = refl
  all_same l m (c ∷ cs) h = let one = awaits_same l m c (h c.number) in let rest = all_same l m cs h in omega (arith, one, rest)

  pub is_number : (w : World V) (who : ℕ) (c : Coroutine V) → coroutine_of w who ≡ Some c → c.number ≡ who
  is_number w who c e = found_number (λ (d : Coroutine V). d.number) who w.coroutines c e

  -- what is pending is found by its number
  pub record One (w : World V) (who : ℕ) (c : Coroutine V) : Type 0 where
    pub numbered : Numbered 0 w.coroutines w.last_coroutine
    pub found : coroutine_of w who ≡ Some c

  pub moved : (w v : World V) (who : ℕ) (c : Coroutine V) (f : Coroutine V → Coroutine V) → ((d : Coroutine V) → (f d).number ≡ d.number) → One w who c → v.coroutines ≡ change (is_coroutine who) f w.coroutines → OthersSame w.links v.links who
      → v.links.kept + awaits w.links c ≡ w.links.kept + awaits v.links (f c) → connects_for v.links who ≤ bit (connects (f c).mode) → KeepsLinks w → KeepsLinks v
  moved w v who c f number o crew others balance own k = record {
    kept =
        let s = one_changes w.links v.links who f 0 w.last_coroutine w.coroutines c others o.numbered o.found in
        let is = ap (weigh (awaits v.links)) crew in
        let was = k.kept in
        omega (arith, s, is, was, balance);
    once = λ n. at n (n == who) refl;
  }
    where
      its : (n : ℕ) → is_at connects v.coroutines n ≡ is_at connects (change (is_coroutine who) f w.coroutines) n
      its n = ap (λ cs. is_at connects cs n) crew

      at : (n : ℕ) (b : Bool) → (n == who) ≡ b → connects_for v.links n ≤ bit (is_at connects v.coroutines n)
      at n true e =
          let same = equal_is n who e in
          let here : is_at connects v.coroutines who ≡ connects (f c).mode = its who ∙ ap (λ q. if_some q false (λ d. connects d.mode)) (change_here f number who w.coroutines c o.found) in
          subst (λ m. connects_for v.links m ≤ bit (is_at connects v.coroutines m)) (sym same) (let h = ap bit here in omega (arith, own, h))
      at n false e =
          let there : is_at connects v.coroutines n ≡ is_at connects w.coroutines n = its n ∙ ap (λ q. if_some q false (λ d. connects d.mode)) (change_other f number who n w.coroutines (unequal_is n who e)) in
          let x = others n e in
          let y = k.once n in
          let z = ap bit there in
          omega (arith, x, y, z)

  -- who waits for no link, before and after
  pub moved_idle : (w v : World V) (who : ℕ) (c : Coroutine V) (f : Coroutine V → Coroutine V) → ((d : Coroutine V) → (f d).number ≡ d.number) → One w who c → v.coroutines ≡ change (is_coroutine who) f w.coroutines → is_making c.mode ≡ false → is_making (f c).mode ≡ false → Even w.links v.links → KeepsLinks w → KeepsLinks v
  moved_idle w v who c f number o crew was is e k =
      moved w v who c f number o crew (λ n g. e.connects n)
      (let a = idle_awaits w.links c was in let b = idle_awaits v.links (f c) is in let s = e.kept in omega (arith, a, b, s))
      (let x = k.once who in
      let y = e.connects who in
      let z = ap bit (ap (λ q. if_some q false (λ (d : Coroutine V). connects d.mode)) o.found ∙ idle_connects c.mode was) in
      omega (arith, x, y, z)) k

  pub aside_keeps : (w v : World V) → v.coroutines ≡ w.coroutines → Even w.links v.links → KeepsLinks w → KeepsLinks v
  aside_keeps w v crew e k = record {
    kept =
        let s = all_same w.links v.links w.coroutines e.connects in
        let is = ap (weigh (awaits v.links)) crew in
        let was = k.kept in
        let less = e.kept in
        omega (arith, s, is, was, less);
    once = λ n. let x = e.connects n in let y = k.once n in let z = ap (λ cs. bit (is_at connects cs n)) crew in omega (arith, x, y, z);
  }

-- ---- a link that is named isn't connecting

open_idle : (who l : ℕ) (xs : List Link) → if_some (find (is_link l) xs) true is_open ≡ true → weigh (λ x. bit (is_connecting_for who x)) (change (is_link l) as_closing xs) ≡ weigh (λ x. bit (is_connecting_for who x)) xs
open_idle who l [] e = refl
open_idle who l (y ∷ ys) e = at (is_link l y) e (open_idle who l ys)
  where
    none : (o : Option ℕ) (b : Bool) → is_none o ≡ true → bit (not b && if_some o false (λ n. n == who)) ≡ 0
    none None true f = refl
    none None false f = refl
    none (Some n) b f = cc

    at : (b : Bool) → if_some (cond b (Some y) (find (is_link l) ys)) true is_open ≡ true → (if_some (find (is_link l) ys) true is_open ≡ true → weigh (λ x. bit (is_connecting_for who x)) (change (is_link l) as_closing ys) ≡ weigh (λ x. bit (is_connecting_for who x)) ys) → weigh (λ x. bit (is_connecting_for who x)) (cond b (as_closing y ∷ ys) (y ∷ change (is_link l) as_closing ys)) ≡ bit (is_connecting_for who y) + weigh (λ x. bit (is_connecting_for who x)) ys
    at true f rest = let n = none (connector y.sort) y.closing f in omega (arith, n)
    at false f rest = ap (λ k. bit (is_connecting_for who y) + k) (rest f)

and_second : (a b : Bool) → 1 ≤ bit (a && b) → b ≡ true
and_second true true h = refl
and_second true false h = absurd (omega (arith, h))
and_second false b h = absurd (omega (arith, h))

found_link : (test : Link → Bool) (low high : ℕ) (xs : List Link) (x : Link) → Rising low xs high → find test xs ≡ Some x → (low < x.number) × (find (is_link x.number) xs ≡ Some x) × (test x ≡ true)
found_link test low high [] x r e = cc
found_link test low high (y ∷ ys) x r e = at (test y) refl e (found_link test y.number high ys x r.1)
  where
    at : (b : Bool) → test y ≡ b → cond b (Some y) (find test ys) ≡ Some x → (find test ys ≡ Some x → (y.number < x.number) × (find (is_link x.number) ys ≡ Some x) × (test x ≡ true)) → (low < x.number) × (cond (is_link x.number y) (Some y) (find (is_link x.number) ys) ≡ Some x) × (test x ≡ true)
    at true f g rest =
        let it : y ≡ x = cc in
        subst (λ z. (low < z.number) × (cond (is_link z.number y) (Some y) (find (is_link z.number) ys) ≡ Some z) × (test z ≡ true)) it (r.0, ap (λ b. cond b (Some y) (find (is_link y.number) ys)) (itself y.number), f)
    at false f g rest =
        let s = rest g in
        let up = r.0 in
        let more = s.0 in
        (omega (arith, up, more), ap (λ b. cond b (Some y) (find (is_link x.number) ys)) (less_unequal y.number x.number s.0) ∙ s.1, s.2)

-- a link that connects for one connects for no other
pub connects_one : (who n : ℕ) (x : Link) → is_connecting_for who x ≡ true → (n == who) ≡ false → is_connecting_for n x ≡ false
connects_one who n x e f = at (not x.closing) (connector x.sort) e
  where
    at : (b : Bool) (o : Option ℕ) → (b && if_some o false (λ k. k == who)) ≡ true → (b && if_some o false (λ k. k == n)) ≡ false
    at true None g = cc
    at true (Some k) g = grind (arith, nat_tests)
    at false o g = refl

-- ---- answers

links_classes : (word : Word) → links word ≡ true → (is_send word ≡ false) × (is_receive word ≡ false) × (is_tcp_close word ≡ false) × ((is_handshake word || gives_up word) ≡ false)
links_classes words.TcpListen e = (refl, refl, refl, refl)
links_classes words.TcpAccept e = (refl, refl, refl, refl)
links_classes words.TcpConnect e = (refl, refl, refl, refl)
links_classes _ e = cc

ending_idle : (mode : Mode) (b : Bool) → (is_ending mode && b) ≡ true → is_making mode ≡ false
ending_idle (modes.Ending outcome) b e = refl
ending_idle (modes.Pending call) b e = cc
ending_idle modes.Running b e = refl
ending_idle (modes.Fresh word answer) b e = refl
ending_idle (modes.Answered word answer) b e = refl

module _ {V : Type 0} where
  pub if_even : (b : Bool) (l : Links) (v u : World V) → (b ≡ true → Even l v.links) → (b ≡ false → Even l u.links) → Even l (if b then v else u).links
  if_even true l v u e f = e refl
  if_even false l v u e f = f refl

  pub some_even : {A : Type 0} (o : Option A) (w : World V) (f : A → World V) → ((a : A) → Even w.links (f a).links) → Even w.links (if_some o w f).links
  some_even None w f h = even_same w.links
  some_even (Some a) w f h = h a

  pub release_even : (w : World V) (number : ℕ) → LooksApart w → Even w.links (release w number).links
  release_even w number a = at (entry_of w number) refl
    where
      closed : (x : Entry Thing) (l : ℕ) → entry_of w number ≡ Some x → link_of x.thing ≡ Some l → Even w.links (change_link w.links l as_closing)
      closed x l e f =
          let one : links_to l x ≡ 1 = ap (λ o. bit (if_some o false (λ m. m == l))) f ∙ ap bit (itself l) in
          let found = weigh_found (links_to l) (handles.is_entry number) w.handles.entries x e in
          let few = a.named l in
          let all = weigh_linked w l in
          let opens = and_second (nat_le l w.links.last) (if_some (look w.links l) true is_open) (omega (arith, one, found, few, all)) in
          record { kept = refl; connects = λ who. open_idle who l w.links.all opens }

      dropped : (x : Entry Thing) (thing : Thing) → entry_of w number ≡ Some x → x.thing ≡ thing → Even w.links (drop (record w { handles = handles.retire w.handles number }) thing).links
      dropped x (things.Bundle name) e f = even_same w.links
      dropped x (things.End end) e f = even_same w.links
      dropped x (things.Listener l) e f = closed x l e (ap link_of f)
      dropped x (things.Socket l) e f = closed x l e (ap link_of f)
      dropped x (things.Value kind value) e f = even_same w.links

      at : (o : Option (Entry Thing)) → entry_of w number ≡ o → Even w.links (if_some o w (λ x. note (drop (record w { handles = handles.retire w.handles number }) x.thing) (Freed number))).links
      at None e = even_same w.links
      at (Some x) e = dropped x x.thing e refl

  pub move_even : (w : World V) (number owner : ℕ) → Even w.links (move w number owner).links
  move_even w number owner = some_even (entry_of w number) w _ (λ x. taken (record w { handles = handles.renumber w.handles number x.thing owner }) x.thing)
    where
      taken : (v : World V) (thing : Thing) → Even v.links (take_thing v thing owner).links
      taken v (things.Bundle name) = even_same v.links
      taken v (things.End end) = even_same v.links
      taken v (things.Listener l) = even_same v.links
      taken v (things.Socket l) = even_same v.links
      taken v (things.Value kind value) = even_same v.links

  -- ---- a call that makes no link is answered

  pub up_even : (w v : World V) (who : ℕ) (call : Call) (e : Errno) (kept : ℕ) → LooksApart v → Even w.links v.links → Even w.links (give_stack_up v who call e kept).links
  up_even w v who call e kept a s =
      let less : World V = record v { handles = handles.unkeep v.handles kept } in
      let up = if_some (named_by call) v (λ number. release less number) in
      even_then w.links v.links up.links s (some_even (named_by call) v (λ number. release less number) (λ number. release_even less number (fewer_apart v less (fewer_same v less refl refl refl) a)))

  looked_even : (w : World V) (call : Call) → Even w.links (look_on w call).links
  looked_even w call = even_soft w.links (look_on w call).links (look_stays w call)

  looked_apart : (w : World V) (call : Call) (b : Bool) → LooksApart w → LooksApart (if b then look_on w call else w)
  looked_apart w call true a = fewer_apart w (look_on w call) (fewer_looked w call) a
  looked_apart w call false a = a

  attached_even : (w : World V) (who : ℕ) (call : Call) (answer : Answer) → LooksApart w → Even w.links (give_attached w who call answer).links
  attached_even w who call (Fault e) a = up_even w (if is_read (Fault e) then look_on w call else w) who call e (draws_of call) (looked_apart w call (is_read (Fault e)) a) (if_even (is_read (Fault e)) w.links (look_on w call) w (λ f. looked_even w call) (λ f. even_same w.links))
  attached_even w who call answer a = at (named_by call)
    where
      at : (o : Option ℕ) → Even w.links (if_some o (reply w who (word_of call) answer) (give_number w who call)).links
      at None = even_same w.links
      at (Some number) = let v = look_on w call in even_then w.links v.links (move v number who).links (looked_even w call) (move_even v number who)

  closed_even : (w : World V) (who : ℕ) (call : Call) (answer : Answer) → LooksApart w → Even w.links (give_closed w who call answer).links
  closed_even w who call (Fault e) a = up_even w w who call e 0 a (even_same w.links)
  closed_even w who call answer a = some_even (named_by call) w (release w) (λ number. release_even w number a)

  class_even : (w : World V) (who : ℕ) (call : Call) (answer : Answer) → LooksApart w → links (word_of call) ≡ false → Even w.links (give_class w who call answer).links
  class_even w who call answer a idle =
      let word = word_of call in
      if_even (is_send word) w.links (give_send w who call answer) _
      (λ e. some_even (named_by call) w (λ number. on_named w number (with_stack (after_send word answer))) (λ number. let v = on_named w number (with_stack (after_send word answer)) in even_soft w.links v.links (on_named_stays w number (with_stack (after_send word answer)) (λ x. refl) (λ x. refl) (λ x. refl))))
      (λ e. if_even (is_receive word) w.links (give_receive w who call answer) _
      (λ f. if_even (is_read answer) w.links (look_on w call) w (λ g. looked_even w call) (λ g. even_same w.links))
      (λ f. if_even (is_tcp_close word) w.links (give_closed w who call answer) _ (λ g. closed_even w who call answer a)
      (λ g. if_even (is_handshake word || gives_up word) w.links (give_attached w who call answer) _ (λ h. attached_even w who call answer a)
      (λ h. if_even (links word) w.links (give_forgone w who call answer) (reply w who word answer) (λ i. absurd (true_false (links word) i idle)) (λ i. even_same w.links)))))

  give_even : (w : World V) (who : ℕ) (call : Call) (answer : Answer) → LooksApart w → links (word_of call) ≡ false → Even w.links (give w who call answer).links
  give_even w who (calls.Hclose number) answer a idle = some_even (find (is_dead_as number) w.closings) w (free_bundle w) (λ x. even_same w.links)
  give_even w who call answer a idle = class_even w who call answer a idle

  -- ---- one that makes a link has an errno

  class_forgone : (w : World V) (who : ℕ) (call : Call) (answer : Answer) → links (word_of call) ≡ true → give_class w who call answer ≡ give_forgone w who call answer
  class_forgone w who call answer e =
      let c = links_classes (word_of call) e in
      ap (λ b. if b then give_send w who call answer else (if is_receive (word_of call) then give_receive w who call answer else (if is_tcp_close (word_of call) then give_closed w who call answer else (if is_handshake (word_of call) || gives_up (word_of call) then give_attached w who call answer else (if links (word_of call) then give_forgone w who call answer else reply w who (word_of call) answer))))) c.0
      ∙ ap (λ b. if b then give_receive w who call answer else (if is_tcp_close (word_of call) then give_closed w who call answer else (if is_handshake (word_of call) || gives_up (word_of call) then give_attached w who call answer else (if links (word_of call) then give_forgone w who call answer else reply w who (word_of call) answer)))) c.1
      ∙ ap (λ b. if b then give_closed w who call answer else (if is_handshake (word_of call) || gives_up (word_of call) then give_attached w who call answer else (if links (word_of call) then give_forgone w who call answer else reply w who (word_of call) answer))) c.2
      ∙ ap (λ b. if b then give_attached w who call answer else (if links (word_of call) then give_forgone w who call answer else reply w who (word_of call) answer)) c.3
      ∙ ap (λ b. if b then give_forgone w who call answer else reply w who (word_of call) answer) e

  give_is_forgone : (w : World V) (who : ℕ) (call : Call) (answer : Answer) → links (word_of call) ≡ true → give w who call answer ≡ give_forgone w who call answer
  give_is_forgone w who (calls.Hclose number) answer e = cc
  give_is_forgone w who call answer e = class_forgone w who call answer e

  forgone_keeps : (w : World V) (who : ℕ) (call : Call) (answer : Answer) (c : Coroutine V) → One w who c → pending_call c.mode ≡ Some call → links (word_of call) ≡ true → LooksApart w → KeepsLinks w → KeepsLinks (give_forgone w who call answer)
  forgone_keeps w who call answer c o e makes a k = at (find (is_connecting_for who) w.links.all) refl
    where
      less : World V
      less = record w { handles = handles.unkeep w.handles 1 }

      mode : Coroutine V → Coroutine V
      mode = with_mode (modes.Fresh (word_of call) answer)

      number : c.number ≡ who
      number = is_number w who c o.found

      waits : awaits w.links c ≡ 1 - connects_for w.links who
      waits = making_awaits w.links c call e makes ∙ ap (λ n. 1 - connects_for w.links n) number

      at : (q : Option Link) → find (is_connecting_for who) w.links.all ≡ q → KeepsLinks (reply (if_some q (record less { links = link.unkeep w.links }) (λ x. on_link less x.number as_closing)) who (word_of call) answer)
      at None f =
          let v = reply (record less { links = link.unkeep w.links }) who (word_of call) answer in
          let none : connects_for w.links who ≡ 0 = none_weightless (is_connecting_for who) w.links.all f in
          let all = weigh_found (awaits w.links) (is_coroutine who) w.coroutines c o.found in
          let was = k.kept in
          moved w v who c mode (λ d. refl) o refl (λ n g. refl) (omega (arith, none, all, was, waits)) (omega (arith, none)) k
      at (Some x) f =
          let v = reply (on_link less x.number as_closing) who (word_of call) answer in
          let here = found_link (is_connecting_for who) 0 w.links.last w.links.all x a.rising f in
          let counts : (n : ℕ) → connects_for v.links n + bit (is_connecting_for n x) ≡ connects_for w.links n + 0 = λ n. weigh_change (λ y. bit (is_connecting_for n y)) (is_link x.number) as_closing w.links.all x here.1 in
          let one = counts who in
          let is = ap bit here.2 in
          let few = k.once who in
          let most = small_bit (is_at connects w.coroutines who) in
          moved w v who c mode (λ d. refl) o refl
          (λ n g. let m = counts n in let z = ap bit (connects_one who n x here.2 g) in omega (arith, m, z))
          (omega (arith, one, is, waits)) (omega (arith, one, is, few, most)) k

  pub give_keeps : (w : World V) (who : ℕ) (call : Call) (answer : Answer) (c : Coroutine V) → One w who c → pending_call c.mode ≡ Some call → LooksApart w → KeepsLinks w → KeepsLinks (give w who call answer)
  give_keeps w who call answer c o e a k = at (links (word_of call)) refl
    where
      at : (b : Bool) → links (word_of call) ≡ b → KeepsLinks (give w who call answer)
      at true f = subst KeepsLinks (sym (give_is_forgone w who call answer f)) (forgone_keeps w who call answer c o e f a k)
      at false f =
          let g = give_gives w who call answer in
          moved_idle w (give w who call answer) who c (with_mode (modes.Fresh (word_of call) g.answer)) (λ d. refl) o g.coroutines (ap (λ q. if_some q false (λ d. links (word_of d))) e ∙ f) refl (give_even w who call answer a f) k

  -- ---- settling and expiries

  -- what lasts from step to step
  pub record Lasts (w : World V) : Type 0 where
    pub numbered : Numbered 0 w.coroutines w.last_coroutine
    pub apart : LooksApart w
    pub keeps : KeepsLinks w

  released : (ns : List ℕ) (w : World V) → LooksApart w → Even w.links (fold release w ns).links
  released [] w a = even_same w.links
  released (n ∷ ns) w a =
      let v = release w n in
      even_then w.links v.links (fold release v ns).links (release_even w n a) (released ns v (fewer_apart w v (fewer_release w n) a))

  freed_links : (xs : List Closing) (w : World V) → (fold free_bundle w xs).links ≡ w.links
  freed_links [] w = refl
  freed_links (x ∷ xs) w = freed_links xs (free_bundle w x)

  freed_apart : (xs : List Closing) (w : World V) → LooksApart w → LooksApart (fold free_bundle w xs)
  freed_apart xs w a = fewer_apart w (fold free_bundle w xs) (fewer_each free_bundle xs w (λ v x. fewer_same v (free_bundle v x) refl refl refl)) a

  left : (b : Bool) (l : Links) (w v : World V) (cs : List (Coroutine V)) (s : Scopes) → Even l w.links → Even l v.links → Even l (record (if b then v else w) { coroutines = cs; scopes = s }).links
  left true l w v cs s e f = f
  left false l w v cs s e f = e

  left_last : (b : Bool) (w v : World V) (cs : List (Coroutine V)) (s : Scopes) → v.last_coroutine ≡ w.last_coroutine → (record (if b then v else w) { coroutines = cs; scopes = s }).last_coroutine ≡ w.last_coroutine
  left_last true w v cs s e = e
  left_last false w v cs s e = refl

  finish_keeps : (w : World V) (c : Coroutine V) → find (can_finish w) w.coroutines ≡ Some c → Lasts w → Lasts (finish w c)
  finish_keeps w c e l = record {
    numbered = subst (λ n. Numbered 0 (finish w c).coroutines n) (sym last) (subst (λ cs. Numbered 0 (without (is_coroutine c.number) cs) w.last_coroutine) (sym crew.coroutines) (numbered_without (is_coroutine c.number) w.coroutines 0 w.last_coroutine l.numbered));
    apart = fewer_apart w (finish w c) (fewer_finish w c) l.apart;
    keeps = record {
      kept =
          let all = weigh_found (awaits w.links) (is_coroutine c.number) w.coroutines c found in
          let none = idle_awaits w.links c idle in
          let same = all_same w.links (finish w c).links (without (is_coroutine c.number) w.coroutines) even.connects in
          let is = ap (λ cs. weigh (awaits (finish w c).links) (without (is_coroutine c.number) cs)) crew.coroutines in
          let was = l.keeps.kept in
          let less = even.kept in
          omega (arith, all, none, same, is, was, less);
      once = λ n. at n (n == c.number) refl;
    };
  }
    where
      freed : World V
      freed = free_all w c.number

      bare : World V
      bare = release_all freed c.number

      crew : SameCrew w bare
      crew = bare_crew w c.number

      found : find (is_coroutine c.number) w.coroutines ≡ Some c
      found = by_number 0 w.last_coroutine (can_finish w) w.coroutines c e l.numbered

      idle : is_making c.mode ≡ false
      idle = ending_idle c.mode (is_clear w c.number) (find_passes (can_finish w) w.coroutines c e)

      even : Even w.links (finish w c).links
      even =
          let xs = highest_first (filter (is_owned_by w c.number) w.closings) in
          let one : Even w.links bare.links = subst (λ k. Even k bare.links) (freed_links xs w) (released (reverse (handles.numbers_of freed.handles c.number)) freed (freed_apart xs w l.apart)) in
          left (c.number == 1) w.links bare (from_start (record bare { ended = Some (outcome_of c.mode) })) (finish w c).coroutines (finish w c).scopes one
          (even_then w.links bare.links (rested bare.links) one (even_soft bare.links (rested bare.links) (soft_rested bare.links)))

      last : (finish w c).last_coroutine ≡ w.last_coroutine
      last = left_last (c.number == 1) bare (from_start (record bare { ended = Some (outcome_of c.mode) })) (finish w c).coroutines (finish w c).scopes refl ∙ crew.last

      at : (n : ℕ) (b : Bool) → (n == c.number) ≡ b → connects_for (finish w c).links n ≤ bit (is_at connects (finish w c).coroutines n)
      at n true g =
          let same = equal_is n c.number g in
          let x = even.connects n in
          let y = l.keeps.once n in
          let z = ap bit (ap (is_at connects w.coroutines) same ∙ ap (λ q. if_some q false (λ (d : Coroutine V). connects d.mode)) found ∙ idle_connects c.mode idle) in
          omega (arith, x, y, z)
      at n false g =
          let x = even.connects n in
          let y = l.keeps.once n in
          let z = ap (λ q. bit (if_some q false (λ (d : Coroutine V). connects d.mode))) (ap (λ cs. find (is_coroutine n) (without (is_coroutine c.number) cs)) crew.coroutines ∙ other_without c.number n w.coroutines (unequal_is n c.number g)) in
          omega (arith, x, y, z)

  pub given_lasts : (w : World V) (who : ℕ) (call : Call) (answer : Answer) (c : Coroutine V) → coroutine_of w who ≡ Some c → pending_call c.mode ≡ Some call → Lasts w → Lasts (give w who call answer)
  given_lasts w who call answer c e f l =
      let g = give_gives w who call answer in
      record {
        numbered = subst (λ n. Numbered 0 (give w who call answer).coroutines n) (sym g.last) (subst (λ cs. Numbered 0 cs w.last_coroutine) (sym g.coroutines) (numbered_change (is_coroutine who) (with_mode (modes.Fresh (word_of call) g.answer)) w.coroutines 0 w.last_coroutine (λ d. refl) l.numbered));
        apart = fewer_apart w (give w who call answer) (fewer_give w who call answer) l.apart;
        keeps = give_keeps w who call answer c (record { numbered = l.numbered; found = e }) f l.apart l.keeps;
      }

  one_lasts : (w : World V) → Lasts w → Lasts (settle_one w)
  one_lasts w l = at (find (can_finish w) w.coroutines) refl
    where
      first : (o : Option (ℕ × Call × Answer)) → first_some (answer_due w) w.coroutines ≡ o → Lasts (if_some o w (λ x. give w x.0 x.1 x.2))
      first None e = l
      first (Some x) e = let d = (due_first w 0 w.last_coroutine w.coroutines x l.numbered e).1 in given_lasts w x.0 x.1 x.2 d.one d.found d.call l

      at : (o : Option (Coroutine V)) → find (can_finish w) w.coroutines ≡ o → Lasts (if_some o (give_first w) (finish w))
      at None e = first (first_some (answer_due w) w.coroutines) refl
      at (Some c) e = finish_keeps w c e l

  within_lasts : (n : ℕ) (w : World V) → Lasts w → Lasts (settle_within n w)
  within_lasts zero w l = l
  within_lasts (suc n) w l = within_lasts n (settle_one w) (one_lasts w l)

  pub soft_lasts : (w v : World V) → v.coroutines ≡ w.coroutines → v.last_coroutine ≡ w.last_coroutine → v.handles.entries ≡ w.handles.entries → Soft w.links v.links → Lasts w → Lasts v
  soft_lasts w v e f h s l = record {
    numbered = subst (λ n. Numbered 0 v.coroutines n) (sym f) (subst (λ cs. Numbered 0 cs w.last_coroutine) (sym e) l.numbered);
    apart = fewer_apart w v (fewer_parts w v e h s.stays) l.apart;
    keeps = aside_keeps w v e (even_soft w.links v.links s) l.keeps;
  }

  pub settle_lasts : (w : World V) → Lasts w → Lasts (settle w)
  settle_lasts w l =
      let v = settle_within (length w.coroutines) w in
      let b = pass_all_besides v in
      soft_lasts v (pass_all v) (ap (λ (x : World V). x.coroutines) b.same) (ap (λ (x : World V). x.last_coroutine) b.same) (ap (λ (x : World V). x.handles.entries) b.same) (pass_all_stays v) (within_lasts (length w.coroutines) w l)

  pub expire_lasts : (w : World V) (who : ℕ) → Lasts w → Lasts (expire_one w who)
  expire_lasts w who l = at (call_of w who) refl
    where
      by : (call : Call) (o : Option (Coroutine V)) → coroutine_of w who ≡ o → if_some o None (λ c. pending_call c.mode) ≡ Some call → Lasts (give w who call (late_answer call))
      by call None e f = cc
      by call (Some c) e f = given_lasts w who call (late_answer call) c e f l

      at : (o : Option Call) → call_of w who ≡ o → Lasts (if_some o w (λ call. give w who call (late_answer call)))
      at None e = l
      at (Some call) e = by call (coroutine_of w who) refl e
