-- As the coroutines change from step to step, those who may go on still may, and those who have an answer stay the same.
use Rattle.std.proofs.Common.{◌≡◌, ◌∙◌, ℕ, ◌+◌, ◌≤◌, ◌==◌, List, [], ◌∷◌, ◌++◌, find, Bool, true, false, cond, Option, Some, None, refl, sym, ap, arith}
use Rattle.dill_calls.specs.Program.{Program}
use Rattle.dill_base.specs.Maps.{if_some, change, without}
use Rattle.dill_rules.specs.declared.coroutine.Coroutine.{Coroutine}
use Rattle.dill_rules.specs.declared.coroutine.Mode.{Mode}
use Rattle.dill_rules.specs.World.{is_coroutine, with_mode, is_answered}
use Rattle.laws_queue.specs.Well.{has_more, Numbered, bit, is_at, counts}
use Rattle.laws_queue.proofs.Evolving.{Evolves, newborn, stays, turns, leaves, begins, goes_on, evolves_numbered}
use Rattle.laws_queue.proofs.Lists.{some_same, number_of, above_other}

module _ {V : Type 0} where
  -- nobody has a number that is too low
  pub none_below : (cs : List (Coroutine V)) (low high n : ℕ) → Numbered low cs high → n ≤ low → find (is_coroutine n) cs ≡ None
  none_below [] low high n h l = refl
  none_below (c ∷ cs) low high n h l =
      let other : (c.number == n) ≡ false = above_other low c.number n h.0 l in
      rw other (none_below cs c.number high n h.1 (omega (arith, h.0, l)))

-- how a coroutine without an answer in the queue may stand next: it still has none there, and who will have a turn may be given an answer
abbrev pub Moved : {V : Type 0} → Program V → Coroutine V → Mode → Type 0
Moved p c mode = (is_answered c.mode ≡ false) × (is_answered mode ≡ false) × (has_more mode ≡ true → 1 ≤ p.left c.body)

-- one that has no answer in the queue
abbrev pub Unqueued : {V : Type 0} → Coroutine V → Type 0
Unqueued c = is_answered c.mode ≡ false

abbrev pub AnyNumber : ℕ → Type 0
AnyNumber number = Unit {0}

abbrev pub EvolvesUnqueued : {V : Type 0} → Program V → List (Coroutine V) → ℕ → List (Coroutine V) → ℕ → Type 0
EvolvesUnqueued p cs k ds l = Evolves p (Moved p) Unqueued AnyNumber cs k ds l

-- whether somebody of a number passes a test of modes, from where a search stands
abbrev seen : {V : Type 0} → (Mode → Bool) → Option (Coroutine V) → Bool
seen test o = if_some o false (λ c. test c.mode)

module _ {V : Type 0} (test : Mode → Bool) where
  at_change : (who : ℕ) (mode : Mode) (c : Coroutine V) (cs : List (Coroutine V)) (n : ℕ) → find (is_coroutine who) cs ≡ Some c → test c.mode ≡ false → test mode ≡ false → is_at test (change (is_coroutine who) (with_mode mode) cs) n ≡ is_at test cs n
  at_change who mode c [] n e f g = refl
  at_change who mode c (x ∷ cs) n e f g = picks (is_coroutine who x) e (λ h. at_change who mode c cs n h f g)
    where
      picks : (found : Bool) → cond found (Some x) (find (is_coroutine who) cs) ≡ Some c → (find (is_coroutine who) cs ≡ Some c → seen test (find (is_coroutine n) (change (is_coroutine who) (with_mode mode) cs)) ≡ seen test (find (is_coroutine n) cs)) → seen test (find (is_coroutine n) (cond found (with_mode mode x ∷ cs) (x ∷ change (is_coroutine who) (with_mode mode) cs))) ≡ seen test (cond (is_coroutine n x) (Some x) (find (is_coroutine n) cs))
      picks true h rest = kept (is_coroutine n x)
        where
          kept : (b : Bool) → seen test (cond b (Some (with_mode mode x)) (find (is_coroutine n) cs)) ≡ seen test (cond b (Some x) (find (is_coroutine n) cs))
          kept true = g ∙ sym (ap (λ y. test y.mode) (some_same x c h) ∙ f)
          kept false = refl
      picks false h rest = kept (is_coroutine n x)
        where
          kept : (b : Bool) → seen test (cond b (Some x) (find (is_coroutine n) (change (is_coroutine who) (with_mode mode) cs))) ≡ seen test (cond b (Some x) (find (is_coroutine n) cs))
          kept true = refl
          kept false = rest h

  at_without : (who : ℕ) (c : Coroutine V) (cs : List (Coroutine V)) (low high n : ℕ) → Numbered low cs high → find (is_coroutine who) cs ≡ Some c → test c.mode ≡ false → is_at test (without (is_coroutine who) cs) n ≡ is_at test cs n
  at_without who c [] low high n h e f = refl
  at_without who c (x ∷ cs) low high n h e f = picks (is_coroutine who x) e (λ g. at_without who c cs x.number high n h.1 g f)
    where
      picks : (found : Bool) → cond found (Some x) (find (is_coroutine who) cs) ≡ Some c → (find (is_coroutine who) cs ≡ Some c → seen test (find (is_coroutine n) (without (is_coroutine who) cs)) ≡ seen test (find (is_coroutine n) cs)) → seen test (find (is_coroutine n) (cond found cs (x ∷ without (is_coroutine who) cs))) ≡ seen test (cond (is_coroutine n x) (Some x) (find (is_coroutine n) cs))
      picks true g rest = kept (is_coroutine n x) refl
        where
          kept : (b : Bool) → is_coroutine n x ≡ b → seen test (find (is_coroutine n) cs) ≡ seen test (cond b (Some x) (find (is_coroutine n) cs))
          kept true i =
              let same : x.number ≡ n = number_of x.number n i in
              ap (seen test) (none_below cs x.number high n h.1 (omega (arith, same))) ∙ sym (ap (λ y. test y.mode) (some_same x c g) ∙ f)
          kept false i = refl
      picks false g rest = kept (is_coroutine n x)
        where
          kept : (b : Bool) → seen test (cond b (Some x) (find (is_coroutine n) (without (is_coroutine who) cs))) ≡ seen test (cond b (Some x) (find (is_coroutine n) cs))
          kept true = refl
          kept false = rest g

  at_append : (c : Coroutine V) (cs : List (Coroutine V)) (n : ℕ) → test c.mode ≡ false → is_at test (cs ++ c ∷ []) n ≡ is_at test cs n
  at_append c [] n f = kept (is_coroutine n c)
    where
      kept : (b : Bool) → seen test (cond b (Some c) None) ≡ false
      kept true = f
      kept false = refl
  at_append c (x ∷ cs) n f = kept (is_coroutine n x) (at_append c cs n f)
    where
      kept : (b : Bool) → seen test (find (is_coroutine n) (cs ++ c ∷ [])) ≡ seen test (find (is_coroutine n) cs) → seen test (cond b (Some x) (find (is_coroutine n) (cs ++ c ∷ []))) ≡ seen test (cond b (Some x) (find (is_coroutine n) cs))
      kept true rest = refl
      kept false rest = rest

  count_change : (who : ℕ) (mode : Mode) (c : Coroutine V) (cs : List (Coroutine V)) → find (is_coroutine who) cs ≡ Some c → test c.mode ≡ false → test mode ≡ false → counts test (change (is_coroutine who) (with_mode mode) cs) ≡ counts test cs
  count_change who mode c [] e f g = refl
  count_change who mode c (x ∷ cs) e f g = picks (is_coroutine who x) e (λ h. count_change who mode c cs h f g)
    where
      picks : (found : Bool) → cond found (Some x) (find (is_coroutine who) cs) ≡ Some c → (find (is_coroutine who) cs ≡ Some c → counts test (change (is_coroutine who) (with_mode mode) cs) ≡ counts test cs) → counts test (cond found (with_mode mode x ∷ cs) (x ∷ change (is_coroutine who) (with_mode mode) cs)) ≡ counts test (x ∷ cs)
      picks true h rest =
          let one : test x.mode ≡ false = ap (λ y. test y.mode) (some_same x c h) ∙ f in
          ap (λ b. bit b + counts test cs) (g ∙ sym one)
      picks false h rest = ap (λ k. bit (test x.mode) + k) (rest h)

  count_without : (who : ℕ) (c : Coroutine V) (cs : List (Coroutine V)) → find (is_coroutine who) cs ≡ Some c → test c.mode ≡ false → counts test (without (is_coroutine who) cs) ≡ counts test cs
  count_without who c [] e f = refl
  count_without who c (x ∷ cs) e f = picks (is_coroutine who x) e (λ h. count_without who c cs h f)
    where
      picks : (found : Bool) → cond found (Some x) (find (is_coroutine who) cs) ≡ Some c → (find (is_coroutine who) cs ≡ Some c → counts test (without (is_coroutine who) cs) ≡ counts test cs) → counts test (cond found cs (x ∷ without (is_coroutine who) cs)) ≡ counts test (x ∷ cs)
      picks true h rest =
          let one : test x.mode ≡ false = ap (λ y. test y.mode) (some_same x c h) ∙ f in
          let nought : bit (test x.mode) + counts test cs ≡ 0 + counts test cs = ap (λ b. bit b + counts test cs) one in
          omega (arith, nought)
      picks false h rest = ap (λ k. bit (test x.mode) + k) (rest h)

  count_append : (c : Coroutine V) (cs : List (Coroutine V)) → test c.mode ≡ false → counts test (cs ++ c ∷ []) ≡ counts test cs
  count_append c [] f = ap (λ b. bit b + 0) f
  count_append c (x ∷ cs) f = ap (λ k. bit (test x.mode) + k) (count_append c cs f)

module _ {V : Type 0} (p : Program V) where
  -- who has an answer stays the same
  pub evolves_at : (cs ds : List (Coroutine V)) (k l n : ℕ) → EvolvesUnqueued p cs k ds l → Numbered 0 cs k → is_at is_answered ds n ≡ is_at is_answered cs n
  evolves_at cs _ k _ n stays h = refl
  evolves_at cs _ k _ n (turns who mode c e q) h = at_change is_answered who mode c cs n e q.0 q.1
  evolves_at cs _ k _ n (leaves who c e g) h = at_without is_answered who c cs 0 k n h e g
  evolves_at cs _ k _ n (begins view b m) h = at_append is_answered (newborn (k + 1) view) cs n refl
  evolves_at cs es k m n (goes_on {ds = ds} {l = l} e f) h = evolves_at ds es l m n f (evolves_numbered p (Moved p) Unqueued AnyNumber cs ds k l e h) ∙ evolves_at cs ds k l n e h

  -- and how many have one
  pub evolves_count : (cs ds : List (Coroutine V)) (k l : ℕ) → EvolvesUnqueued p cs k ds l → counts is_answered ds ≡ counts is_answered cs
  evolves_count cs _ k _ stays = refl
  evolves_count cs _ k _ (turns who mode c e q) = count_change is_answered who mode c cs e q.0 q.1
  evolves_count cs _ k _ (leaves who c e g) = count_without is_answered who c cs e g
  evolves_count cs _ k _ (begins view b m) = count_append is_answered (newborn (k + 1) view) cs refl
  evolves_count cs es k m (goes_on {ds = ds} {l = l} e f) = evolves_count ds es l m f ∙ evolves_count cs ds k l e
