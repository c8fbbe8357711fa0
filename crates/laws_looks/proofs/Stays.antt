-- What calls, answers and replies do to links that are there keeps their numbers and sorts.
use Rattle.std.proofs.Common.{◌≡◌, ◌∙◌, ℕ, ◌+◌, ◌==◌, ◌≤◌, ◌<◌, List, [], ◌∷◌, ◌++◌, find, fold, cond, Bool, true, false, not, ◌&&◌, Option, Some, None, if◌then◌else◌, refl, sym, ap, subst, arith}
use Rattle.std.specs.Prelude.{is_none, nat_le, map, option_map}
use Rattle.std.specs.Prelude.{Result, Ok, Err}
use Rattle.std.proofs.lemmas.Bool.Decides.{nat_tests}
use Rattle.rand_core.specs.Stream.{Stream}
use Rattle.dill_base.specs.declared.errno.Errno.{Errno}
use Rattle.dill_base.specs.Maps.{if_some, change, without}
use Rattle.dill_calls.specs.declared.call.Call.{Call}
use Rattle.dill_calls.specs.CallTable.{word_of, named_by}
use Rattle.dill_kernel.specs.declared.ready.Ready.{Ready}
use Rattle.dill_http.specs.Heads.{line_of}
use Rattle.dill_http.specs.Lines.{crlf}
use Rattle.dill_stack.specs.Interface.{Held, drop_unread, frame, line, done}
use Rattle.dill_rules.specs.declared.coroutine.Coroutine.{Coroutine}
use Rattle.dill_rules.specs.declared.thing.Thing.{Thing}
use Rattle.dill_rules.specs.declared.thing.Thing.TheVariants as things
use Rattle.dill_rules.specs.Directions.{is_send, is_first, is_end, message_of, line_said, asked, parting_of}
use Rattle.dill_rules.specs.Giving.{is_connecting_for, look_on}
use Rattle.dill_rules.specs.Hearing.{heat_ready}
use Rattle.dill_rules.specs.LinkAnswers.{is_on_stack, look_of}
use Rattle.dill_rules.specs.Linking.{if_ok, with_random, put, ask_stack, heat, reserve, queue, queue_end, queue_line, queue_message, dropped_for}
use Rattle.dill_rules.specs.Links as link
use Rattle.dill_rules.specs.Links.{Link, Links, is_link, change_link, connector, with_stack, as_closing, as_stream, heated, reserved, rested_link, rested}
use Rattle.dill_rules.specs.declared.link.Sort.{Sort}
use Rattle.dill_rules.specs.Owning.{drop}
use Rattle.dill_rules.specs.Settling.{pass_one, pass_all}
use Rattle.dill_rules.specs.Sockets.{link_number, stack_of, on_link, on_named}
use Rattle.dill_rules.specs.World.{World, pending_call}
use Rattle.laws_queue.specs.Well.{bit}
use Rattle.laws_sound.specs.Orderly.{weigh}
use Rattle.laws_sound.proofs.Counting.{weigh_alike}
use Rattle.laws_looks.specs.Readers.{Rising, may_name}
use Rattle.laws_looks.specs.Keeping.{connects_for}
use Rattle.laws_queue.proofs.Numbers.{found_changed}
use Rattle.laws_looks.proofs.Lists.{equal_is, less_unequal, itself, some_none}

abbrev pub is_open : Link → Bool
is_open x = is_none (connector x.sort)

-- numbers still rise, and the same links may be named
pub record Stays (l m : Links) : Type 0 where
  pub rising : Rising 0 l.all l.last → Rising 0 m.all m.last
  pub names : (n : ℕ) → may_name m n ≡ may_name l n

pub stays_same : (l : Links) → Stays l l
stays_same l = record { rising = λ r. r; names = λ n. refl }

pub stays_then : (l m k : Links) → Stays l m → Stays m k → Stays l k
stays_then l m k a b = record { rising = λ r. b.rising (a.rising r); names = λ n. b.names n ∙ a.names n }

pub rising_change : (f : Link → Link) → ((x : Link) → (f x).number ≡ x.number) → (n : ℕ) (xs : List Link) (low high : ℕ) → Rising low xs high → Rising low (change (is_link n) f xs) high
rising_change f number n [] low high r = r
rising_change f number n (x ∷ xs) low high r = at (is_link n x) (rising_change f number n xs x.number high r.1)
  where
    at : (b : Bool) → Rising x.number (change (is_link n) f xs) high → Rising low (cond b (f x ∷ xs) (x ∷ change (is_link n) f xs)) high
    at true rest = subst (λ m. (low < m) × Rising m xs high) (sym (number x)) r
    at false rest = (r.0, rest)

-- what a change leaves of each link is so of the one that is found
pub found_alike : {A : Type 0} (f : Link → Link) (d : A) (g : Link → A) → ((x : Link) → (f x).number ≡ x.number) → ((x : Link) → g (f x) ≡ g x) → (n k : ℕ) (xs : List Link) → if_some (find (is_link k) (change (is_link n) f xs)) d g ≡ if_some (find (is_link k) xs) d g
found_alike f d g number same n k [] = refl
found_alike f d g number same n k (y ∷ ys) = at (is_link n y) (found_alike f d g number same n k ys)
  where
    here : (b : Bool) → if_some (cond b (Some (f y)) (find (is_link k) ys)) d g ≡ if_some (cond b (Some y) (find (is_link k) ys)) d g
    here true = same y
    here false = refl

    there : (b : Bool) → if_some (find (is_link k) (change (is_link n) f ys)) d g ≡ if_some (find (is_link k) ys) d g → if_some (cond b (Some y) (find (is_link k) (change (is_link n) f ys))) d g ≡ if_some (cond b (Some y) (find (is_link k) ys)) d g
    there true e = refl
    there false e = e

    at : (b : Bool) → if_some (find (is_link k) (change (is_link n) f ys)) d g ≡ if_some (find (is_link k) ys) d g → if_some (find (is_link k) (cond b (f y ∷ ys) (y ∷ change (is_link n) f ys))) d g ≡ if_some (cond (is_link k y) (Some y) (find (is_link k) ys)) d g
    at true e = ap (λ m. if_some (cond (m == k) (Some (f y)) (find (is_link k) ys)) d g) (number y) ∙ here (is_link k y)
    at false e = there (is_link k y) e

pub stays_change : (l : Links) (n : ℕ) (f : Link → Link) → ((x : Link) → (f x).number ≡ x.number) → ((x : Link) → (f x).sort ≡ x.sort) → Stays l (change_link l n f)
stays_change l n f number sort = record { rising = rising_change f number n l.all 0 l.last; names = λ k. ap (λ b. nat_le k l.last && b) (found_alike f true is_open number (λ x. ap (λ s. is_none (connector s)) (sort x)) n k l.all) }

weigh_same : (g : Link → ℕ) (f : Link → Link) → ((x : Link) → g (f x) ≡ g x) → (test : Link → Bool) (xs : List Link) → weigh g (change test f xs) ≡ weigh g xs
weigh_same g f same test [] = refl
weigh_same g f same test (x ∷ xs) = at (test x) (weigh_same g f same test xs)
  where
    at : (b : Bool) → weigh g (change test f xs) ≡ weigh g xs → weigh g (cond b (f x ∷ xs) (x ∷ change test f xs)) ≡ g x + weigh g xs
    at true e = ap (λ k. k + weigh g xs) (same x)
    at false e = ap (λ k. g x + k) e

-- and no link begins to close, and as many are kept
pub record Soft (l m : Links) : Type 0 where
  pub stays : Stays l m
  pub kept : m.kept ≡ l.kept
  pub connects : (who : ℕ) → connects_for m who ≡ connects_for l who

pub soft_same : (l : Links) → Soft l l
soft_same l = record { stays = stays_same l; kept = refl; connects = λ who. refl }

pub soft_then : (l m k : Links) → Soft l m → Soft m k → Soft l k
soft_then l m k a b = record { stays = stays_then l m k a.stays b.stays; kept = b.kept ∙ a.kept; connects = λ who. b.connects who ∙ a.connects who }

pub soft_change : (l : Links) (n : ℕ) (f : Link → Link) → ((x : Link) → (f x).number ≡ x.number) → ((x : Link) → (f x).sort ≡ x.sort) → ((x : Link) → (f x).closing ≡ x.closing) → Soft l (change_link l n f)
soft_change l n f number sort closing = record {
  stays = stays_change l n f number sort;
  kept = refl;
  connects = λ who. weigh_same (λ x. bit (is_connecting_for who x)) f (λ x. ap (λ b. bit (not b && if_some (connector (f x).sort) false (λ m. m == who))) (closing x) ∙ ap (λ t. bit (not x.closing && if_some (connector t) false (λ m. m == who))) (sort x)) (is_link n) l.all;
}

-- a round begins: no link keeps the mark of its `write`
pub find_rested : (k : ℕ) (xs : List Link) → find (is_link k) (map rested_link xs) ≡ option_map rested_link (find (is_link k) xs)
find_rested k [] = refl
find_rested k (x ∷ xs) = at (is_link k x) (find_rested k xs)
  where
    at : (b : Bool) → find (is_link k) (map rested_link xs) ≡ option_map rested_link (find (is_link k) xs) → cond b (Some (rested_link x)) (find (is_link k) (map rested_link xs)) ≡ option_map rested_link (cond b (Some x) (find (is_link k) xs))
    at true e = refl
    at false e = e

pub found_rested : {A : Type 0} (d : A) (g : Link → A) → ((x : Link) → g (rested_link x) ≡ g x) → (k : ℕ) (xs : List Link) → if_some (find (is_link k) (map rested_link xs)) d g ≡ if_some (find (is_link k) xs) d g
found_rested d g same k xs = ap (λ o. if_some o d g) (find_rested k xs) ∙ at (find (is_link k) xs)
  where
    at : (o : Option Link) → if_some (option_map rested_link o) d g ≡ if_some o d g
    at None = refl
    at (Some x) = same x

rising_rested : (xs : List Link) (low high : ℕ) → Rising low xs high → Rising low (map rested_link xs) high
rising_rested [] low high r = r
rising_rested (x ∷ xs) low high r = (r.0, rising_rested xs x.number high r.1)

pub soft_rested : (l : Links) → Soft l (rested l)
soft_rested l = record {
  stays = record { rising = rising_rested l.all 0 l.last; names = λ n. ap (λ b. nat_le n l.last && b) (found_rested true is_open (λ x. refl) n l.all) };
  kept = refl;
  connects = λ who. weigh_alike (λ x. bit (is_connecting_for who x)) rested_link l.all (λ x. refl);
}

pub stays_kept : (l : Links) (kept : ℕ) → Stays l (record l { kept = kept })
stays_kept l kept = record { rising = λ r. r; names = λ n. refl }

module _ {V : Type 0} where
  -- so it is of the links of two worlds
  abbrev pub LinksStay : World V → World V → Type 0
  LinksStay w v = Soft w.links v.links

  pub some_stays : {A : Type 0} (o : Option A) (w v : World V) (f : A → World V) → LinksStay w v → ((a : A) → LinksStay w (f a)) → LinksStay w (if_some o v f)
  some_stays None w v f e h = e
  some_stays (Some a) w v f e h = h a

  pub if_stays : (b : Bool) (w v u : World V) → LinksStay w v → LinksStay w u → LinksStay w (if b then v else u)
  if_stays true w v u e f = e
  if_stays false w v u e f = f

  pub fold_stays : {A : Type 0} (f : World V → A → World V) (xs : List A) (w : World V) → ((v : World V) (a : A) → LinksStay v (f v a)) → LinksStay w (fold f w xs)
  fold_stays f [] w h = soft_same w.links
  fold_stays f (x ∷ xs) w h = soft_then w.links (f w x).links (fold f (f w x) xs).links (h w x) (fold_stays f xs (f w x) h)

  pub on_link_stays : (w : World V) (n : ℕ) (f : Link → Link) → ((x : Link) → (f x).number ≡ x.number) → ((x : Link) → (f x).sort ≡ x.sort) → ((x : Link) → (f x).closing ≡ x.closing) → LinksStay w (on_link w n f)
  on_link_stays w n f number sort closing = soft_change w.links n f number sort closing

  pub on_named_stays : (w : World V) (number : ℕ) (f : Link → Link) → ((x : Link) → (f x).number ≡ x.number) → ((x : Link) → (f x).sort ≡ x.sort) → ((x : Link) → (f x).closing ≡ x.closing) → LinksStay w (on_named w number f)
  on_named_stays w number f same sort closing = some_stays (link_number w number) w w (λ l. on_link w l f) (soft_same w.links) (λ l. on_link_stays w l f same sort closing)

  put_stays : (w : World V) (number : ℕ) (now : Held × Stream) → LinksStay w (put w number now)
  put_stays w number now = on_named_stays w number (with_stack (λ old. now.0)) (λ x. refl) (λ x. refl) (λ x. refl)

  ok_stays : (r : Result (Held × Stream) Errno) (w : World V) (f : Held × Stream → World V) → ((x : Held × Stream) → LinksStay w (f x)) → LinksStay w (if_ok r w f)
  ok_stays (Ok x) w f h = h x
  ok_stays (Err e) w f h = soft_same w.links

  pub ask_stays : (w : World V) (call : Call) (f : Stream → Held → Result (Held × Stream) Errno) → LinksStay w (ask_stack w call f)
  ask_stays w call f =
      some_stays (named_by call) w w (λ number. if_some (stack_of w call) w (λ s. if_ok (f w.random s) w (put w number))) (soft_same w.links)
      (λ number. some_stays (stack_of w call) w w (λ s. if_ok (f w.random s) w (put w number)) (soft_same w.links) (λ s. ok_stays (f w.random s) w (put w number) (put_stays w number)))

  pub heat_stays : (w : World V) (call : Call) (read write : Bool) → LinksStay w (heat w call read write)
  heat_stays w call read write = some_stays (named_by call) w w (λ number. on_named w number (heated read write)) (soft_same w.links) (λ number. on_named_stays w number (heated read write) (λ x. refl) (λ x. refl) (λ x. refl))

  -- what a receive does before it is pending
  pub ready_stays : (w : World V) (call : Call) → LinksStay w (heat (reserve w call) call true false)
  ready_stays w call =
      let v = reserve w call in
      soft_then w.links v.links (heat v call true false).links
      (some_stays (named_by call) w w (λ number. if_some (asked call) w (λ want. on_named w number (reserved want))) (soft_same w.links)
      (λ number. some_stays (asked call) w w (λ want. on_named w number (reserved want)) (soft_same w.links) (λ want. on_named_stays w number (reserved want) (λ x. refl) (λ x. refl) (λ x. refl))))
      (heat_stays v call true false)

  pub queue_stays : (w : World V) (call : Call) → LinksStay w (queue w call)
  queue_stays w call =
      some_stays (message_of call) w (if_some (line_said call) (if is_end (word_of call) then queue_end w call else w) (queue_line w call)) (queue_message w call)
      (some_stays (line_said call) w (if is_end (word_of call) then queue_end w call else w) (queue_line w call)
      (if_stays (is_end (word_of call)) w (queue_end w call) w (ask_stays w call done) (soft_same w.links))
      (λ said. ask_stays w call (λ random s. with_random random (line (is_first said) (line_of said ++ crlf) s))))
      (λ m. ask_stays w call (λ random s. frame m random s))

  pub dropped_stays : (w : World V) (call : Call) → LinksStay w (dropped_for w call)
  dropped_stays w call =
      some_stays (parting_of call) w (if_some (named_by call) w (λ number. on_named w number (with_stack drop_unread))) (λ parting. w)
      (some_stays (named_by call) w w (λ number. on_named w number (with_stack drop_unread)) (soft_same w.links) (λ number. on_named_stays w number (with_stack drop_unread) (λ x. refl) (λ x. refl) (λ x. refl)))
      (λ parting. soft_same w.links)

  pub look_stays : (w : World V) (call : Call) → LinksStay w (look_on w call)
  look_stays w call =
      some_stays (named_by call) w w (λ number. if_some (stack_of w call) w (λ s. put w number ((look_of call w.random s).stack, (look_of call w.random s).random))) (soft_same w.links)
      (λ number. some_stays (stack_of w call) w w (λ s. put w number ((look_of call w.random s).stack, (look_of call w.random s).random)) (soft_same w.links) (λ s. put_stays w number ((look_of call w.random s).stack, (look_of call w.random s).random)))

  pass_one_stays : (w : World V) (c : Coroutine V) → LinksStay w (pass_one w c)
  pass_one_stays w c =
      some_stays (pending_call c.mode) w w (λ call. if is_on_stack (word_of call) && not (is_send (word_of call)) then look_on w call else w) (soft_same w.links)
      (λ call. if_stays (is_on_stack (word_of call) && not (is_send (word_of call))) w (look_on w call) w (look_stays w call) (soft_same w.links))

  pub pass_all_stays : (w : World V) → LinksStay w (pass_all w)
  pass_all_stays w = fold_stays pass_one w.coroutines w pass_one_stays

  pub heat_all_stays : (ready : List Ready) (w : World V) → LinksStay w (fold heat_ready w ready)
  heat_all_stays ready w = fold_stays heat_ready ready w (λ v x. on_link_stays v x.link (heated x.read x.write) (λ y. refl) (λ y. refl) (λ y. refl))

  pub drop_stays : (w : World V) (thing : Thing) → Stays w.links (drop w thing).links
  drop_stays w (things.Bundle name) = stays_same w.links
  drop_stays w (things.End end) = stays_same w.links
  drop_stays w (things.Listener l) = stays_change w.links l as_closing (λ x. refl) (λ x. refl)
  drop_stays w (things.Socket l) = stays_change w.links l as_closing (λ x. refl) (λ x. refl)
  drop_stays w (things.Value kind value) = stays_same w.links

-- ---- links that are made, that finish their `connect`, and that are gone

below_none : (xs : List Link) (low high n : ℕ) → Rising low xs high → n ≤ low → find (is_link n) xs ≡ None
below_none [] low high n r h = refl
below_none (x ∷ xs) low high n r h = ap (λ b. cond b (Some x) (find (is_link n) xs)) (more x.number (let a = r.0 in omega (arith, a, h))) ∙ below_none xs x.number high n r.1 (let a = r.0 in omega (arith, a, h))
  where
    more : (m : ℕ) → n < m → (m == n) ≡ false
    more m g = grind (arith, nat_tests)

above_none : (xs : List Link) (low high n : ℕ) → Rising low xs high → high < n → find (is_link n) xs ≡ None
above_none [] low high n r h = refl
above_none (x ∷ xs) low high n r h = ap (λ b. cond b (Some x) (find (is_link n) xs)) (less_unequal x.number n (let a = rising_low xs x.number high r.1 in omega (arith, a, h))) ∙ above_none xs x.number high n r.1 h
  where
    rising_low : (ys : List Link) (least most : ℕ) → Rising least ys most → least ≤ most
    rising_low [] least most s = s
    rising_low (y ∷ ys) least most s = let a = rising_low ys y.number most s.1 in let b = s.0 in omega (arith, a, b)

rising_push : (xs : List Link) (low high : ℕ) (x : Link) → Rising low xs high → high < x.number → Rising low (xs ++ x ∷ []) x.number
rising_push [] low high x r h = (omega (arith, r, h), omega arith)
rising_push (y ∷ ys) low high x r h = (r.0, rising_push ys y.number high x r.1 h)

rising_from : (xs : List Link) (low least high : ℕ) → least ≤ low → Rising low xs high → Rising least xs high
rising_from [] low least high h r = omega (arith, h, r)
rising_from (x ∷ xs) low least high h r = (let a = r.0 in omega (arith, a, h), r.1)

rising_without : (xs : List Link) (n low high : ℕ) → Rising low xs high → Rising low (without (is_link n) xs) high
rising_without [] n low high r = r
rising_without (x ∷ xs) n low high r = at (is_link n x) (rising_without xs n x.number high r.1)
  where
    at : (b : Bool) → Rising x.number (without (is_link n) xs) high → Rising low (cond b xs (x ∷ without (is_link n) xs)) high
    at true rest = rising_from xs x.number low high (let a = r.0 in omega (arith, a)) r.1
    at false rest = (r.0, rest)

-- numbers still rise, each link that may be named still may, and so may one more
pub record Opens (l m : Links) (one : Option ℕ) : Type 0 where
  pub rising : Rising 0 m.all m.last
  pub names : (n : ℕ) → may_name l n ≡ true → may_name m n ≡ true
  pub new : (n : ℕ) → one ≡ Some n → (may_name l n ≡ false) × (may_name m n ≡ true)

find_push : (xs : List Link) (x : Link) (n : ℕ) → find (is_link n) (xs ++ x ∷ []) ≡ if_some (find (is_link n) xs) (cond (is_link n x) (Some x) None) (λ y. Some y)
find_push [] x n = refl
find_push (y ∷ ys) x n = at (is_link n y) (find_push ys x n)
  where
    at : (b : Bool) → find (is_link n) (ys ++ x ∷ []) ≡ if_some (find (is_link n) ys) (cond (is_link n x) (Some x) None) (λ z. Some z) → cond b (Some y) (find (is_link n) (ys ++ x ∷ [])) ≡ if_some (cond b (Some y) (find (is_link n) ys)) (cond (is_link n x) (Some x) None) (λ z. Some z)
    at true e = refl
    at false e = e

le_next : (n last : ℕ) → nat_le n last ≡ true → (nat_le n (last + 1) ≡ true) × ((last + 1 == n) ≡ false)
le_next n last h = (grind (arith, nat_tests), grind (arith, nat_tests))

pub next_above : (last : ℕ) → (nat_le (last + 1) last ≡ false) × (nat_le (last + 1) (last + 1) ≡ true)
next_above last = (grind (arith, nat_tests), grind (arith, nat_tests))

and_true : (a b : Bool) → (a && b) ≡ true → (a ≡ true) × (b ≡ true)
and_true true b e = (refl, e)
and_true false b e = cc

and_both : (a b : Bool) → a ≡ true → b ≡ true → (a && b) ≡ true
and_both true b e f = f
and_both false b e f = cc

pub opens_add : (l : Links) (sort : Sort) → Rising 0 l.all l.last → Opens l (link.add l sort) (if is_none (connector sort) then Some (l.last + 1) else None)
opens_add l sort r = record { rising = rising_push l.all 0 l.last x r (omega arith); names = stay; new = λ n e. made n (is_none (connector sort)) refl e }
  where
    x : Link
    x = link.fresh_link (l.last + 1) sort

    stay : (n : ℕ) → may_name l n ≡ true → may_name (link.add l sort) n ≡ true
    stay n e =
        let p = and_true (nat_le n l.last) (if_some (find (is_link n) l.all) true is_open) e in
        let q = le_next n l.last p.0 in
        and_both (nat_le n (l.last + 1)) (if_some (find (is_link n) (l.all ++ x ∷ [])) true is_open) q.0
        (ap (λ o. if_some o true is_open) (find_push l.all x n ∙ ap (λ b. if_some (find (is_link n) l.all) (cond b (Some x) None) (λ y. Some y)) q.1) ∙ same (find (is_link n) l.all) p.1)
      where
        same : (o : Option Link) → if_some o true is_open ≡ true → if_some (if_some o None (λ y. Some y)) true is_open ≡ true
        same None f = refl
        same (Some y) f = f

    made : (n : ℕ) (b : Bool) → is_none (connector sort) ≡ b → (if b then Some (l.last + 1) else None) ≡ Some n → (may_name l n ≡ false) × (may_name (link.add l sort) n ≡ true)
    made n false f e = cc
    made n true f e =
        let it : l.last + 1 ≡ n = cc in
        let q = next_above l.last in
        let here : find (is_link (l.last + 1)) (l.all ++ x ∷ []) ≡ Some x =
        find_push l.all x (l.last + 1) ∙ ap (λ o. if_some o (cond (is_link (l.last + 1) x) (Some x) None) (λ y. Some y)) (above_none l.all 0 l.last (l.last + 1) r (omega arith)) ∙ ap (λ b. cond b (Some x) None) (itself (l.last + 1)) in
        subst (λ m. (may_name l m ≡ false) × (may_name (link.add l sort) m ≡ true)) it (
          ap (λ b. b && if_some (find (is_link (l.last + 1)) l.all) true is_open) q.0,
          and_both (nat_le (l.last + 1) (l.last + 1)) (if_some (find (is_link (l.last + 1)) (l.all ++ x ∷ [])) true is_open) q.1 (ap (λ o. if_some o true is_open) here ∙ f),
        )

pub opens_gone : (l : Links) (number : ℕ) → Rising 0 l.all l.last → Opens l (link.gone l number) None
opens_gone l number r = record { rising = rising_without l.all number 0 l.last r; names = stay; new = λ n e. cc }
  where
    left : (n low high : ℕ) (xs : List Link) → Rising low xs high → if_some (find (is_link n) xs) true is_open ≡ true → if_some (find (is_link n) (without (is_link number) xs)) true is_open ≡ true
    left n low high [] s e = refl
    left n low high (x ∷ xs) s e = at (is_link number x) (is_link n x) refl e (left n x.number high xs s.1)
      where
        at : (b c : Bool) → is_link n x ≡ c → if_some (cond c (Some x) (find (is_link n) xs)) true is_open ≡ true → (if_some (find (is_link n) xs) true is_open ≡ true → if_some (find (is_link n) (without (is_link number) xs)) true is_open ≡ true) → if_some (find (is_link n) (cond b xs (x ∷ without (is_link number) xs))) true is_open ≡ true
        at true true f g rest = let it = equal_is x.number n f in ap (λ o. if_some o true is_open) (below_none xs x.number high n s.1 (omega (arith, it)))
        at true false f g rest = g
        at false true f g rest = ap (λ c. if_some (cond c (Some x) (find (is_link n) (without (is_link number) xs))) true is_open) f ∙ g
        at false false f g rest = ap (λ c. if_some (cond c (Some x) (find (is_link n) (without (is_link number) xs))) true is_open) f ∙ rest g

    stay : (n : ℕ) → may_name l n ≡ true → may_name (link.gone l number) n ≡ true
    stay n e = let p = and_true (nat_le n l.last) (if_some (find (is_link n) l.all) true is_open) e in and_both (nat_le n l.last) (if_some (find (is_link n) (without (is_link number) l.all)) true is_open) p.0 (left n 0 l.last l.all r p.1)

-- a `connect` is finished
pub opens_stream : (l : Links) (number : ℕ) (x : Link) → Rising 0 l.all l.last → find (is_link number) l.all ≡ Some x → is_open x ≡ false → Opens l (change_link l number as_stream) (Some number)
opens_stream l number x r found closed = record { rising = rising_change as_stream (λ y. refl) number l.all 0 l.last r; names = stay; new = λ n e. at n e }
  where
    left : (n : ℕ) (xs : List Link) → if_some (find (is_link n) xs) true is_open ≡ true → if_some (find (is_link n) (change (is_link number) as_stream xs)) true is_open ≡ true
    left n [] e = refl
    left n (y ∷ ys) e = by (is_link number y) (is_link n y) refl e (left n ys)
      where
        by : (b c : Bool) → is_link n y ≡ c → if_some (cond c (Some y) (find (is_link n) ys)) true is_open ≡ true → (if_some (find (is_link n) ys) true is_open ≡ true → if_some (find (is_link n) (change (is_link number) as_stream ys)) true is_open ≡ true) → if_some (find (is_link n) (cond b (as_stream y ∷ ys) (y ∷ change (is_link number) as_stream ys))) true is_open ≡ true
        by true true f g rest = ap (λ c. if_some (cond c (Some (as_stream y)) (find (is_link n) ys)) true is_open) f
        by true false f g rest = ap (λ c. if_some (cond c (Some (as_stream y)) (find (is_link n) ys)) true is_open) f ∙ g
        by false true f g rest = ap (λ c. if_some (cond c (Some y) (find (is_link n) (change (is_link number) as_stream ys))) true is_open) f ∙ g
        by false false f g rest = ap (λ c. if_some (cond c (Some y) (find (is_link n) (change (is_link number) as_stream ys))) true is_open) f ∙ rest g

    stay : (n : ℕ) → may_name l n ≡ true → may_name (change_link l number as_stream) n ≡ true
    stay n e = let p = and_true (nat_le n l.last) (if_some (find (is_link n) l.all) true is_open) e in and_both (nat_le n l.last) (if_some (find (is_link n) (change (is_link number) as_stream l.all)) true is_open) p.0 (left n l.all p.1)

    made : (b : Bool) → nat_le number l.last ≡ b → nat_le number l.last ≡ true
    made true f = f
    made false f = let h : l.last < number = grind (arith, nat_tests) in absurd (some_none (find (is_link number) l.all) x (above_none l.all 0 l.last number r h) found)

    and_false : (b : Bool) → (b && false) ≡ false
    and_false true = refl
    and_false false = refl

    at : (n : ℕ) → Some number ≡ Some n → (may_name l n ≡ false) × (may_name (change_link l number as_stream) n ≡ true)
    at n e =
        let it : number ≡ n = cc in
        subst (λ m. (may_name l m ≡ false) × (may_name (change_link l number as_stream) m ≡ true)) it (
          ap (λ o. nat_le number l.last && if_some o true is_open) found ∙ ap (λ b. nat_le number l.last && b) closed ∙ and_false (nat_le number l.last),
          and_both (nat_le number l.last) (if_some (find (is_link number) (change (is_link number) as_stream l.all)) true is_open) (made (nat_le number l.last) refl)
              (ap (λ o. if_some o true is_open) (found_changed (is_link number) as_stream x l.all (λ y. refl) found)),
        )
