-- Who was answered in a step joins the queue: then who has an answer is queued, once, and nobody else.
use Rattle.std.proofs.Common.{◌≡◌, ◌∙◌, ◌+◌, ◌==◌, ◌≤◌, ℕ, suc, List, [], ◌∷◌, ◌++◌, length, map, filter, find, Bool, true, false, cond, Option, Some, refl, sym, ap, arith}
use Rattle.dill_calls.specs.Program.{Program}
use Rattle.dill_base.specs.Maps.{if_some}
use Rattle.dill_rules.specs.declared.coroutine.Coroutine.{Coroutine}
use Rattle.dill_rules.specs.declared.coroutine.Mode.{Mode}
use Rattle.dill_rules.specs.declared.coroutine.Mode.TheVariants as modes
use Rattle.dill_rules.specs.State.{is_fresh, lined_mode, lined, fresh}
use Rattle.dill_rules.specs.World.{World, is_coroutine, is_answered, pending_call}
use Rattle.laws_queue.specs.Kept.{queued}
use Rattle.laws_queue.specs.Well.{has_more, IsAlive, Lives, Numbered, bit, occurs, is_at, counts, IsQueue, IsWell}
use Rattle.laws_queue.proofs.Answered.{none_below, evolves_at, evolves_count}
use Rattle.laws_queue.proofs.Lists.{number_of, all_map}
use Rattle.laws_queue.proofs.Stepping.{Leads, lives_leads, numbered_leads}

occurs_append : (n : ℕ) (xs ys : List ℕ) → occurs n (xs ++ ys) ≡ occurs n xs + occurs n ys
occurs_append n [] ys = omega arith
occurs_append n (x ∷ xs) ys = let r = occurs_append n xs ys in omega (arith, r)

append_length : (xs ys : List ℕ) → length (xs ++ ys) ≡ length xs + length ys
append_length [] ys = omega arith
append_length (x ∷ xs) ys = let r = append_length xs ys in omega (arith, r)

lined_bits : (mode : Mode) → bit (is_answered (lined_mode mode)) ≡ bit (is_answered mode) + bit (is_fresh mode)
lined_bits (modes.Pending call) = refl
lined_bits modes.Running = refl
lined_bits (modes.Fresh word answer) = refl
lined_bits (modes.Answered word answer) = refl
lined_bits (modes.Ending outcome) = refl

lined_more : (mode : Mode) → has_more (lined_mode mode) ≡ has_more mode
lined_more (modes.Pending call) = refl
lined_more modes.Running = refl
lined_more (modes.Fresh word answer) = refl
lined_more (modes.Answered word answer) = refl
lined_more (modes.Ending outcome) = refl

pub lined_pending : (mode : Mode) → pending_call (lined_mode mode) ≡ pending_call mode
lined_pending (modes.Pending call) = refl
lined_pending modes.Running = refl
lined_pending (modes.Fresh word answer) = refl
lined_pending (modes.Answered word answer) = refl
lined_pending (modes.Ending outcome) = refl

pub bit_one : (b : Bool) (k : ℕ) → 1 + k ≡ bit b → b ≡ true
bit_one true k e = refl
bit_one false k e = absurd (omega (arith, e))

bit_le : (a b : Bool) (j k m : ℕ) → bit a + bit b ≤ 1 → j + k ≤ m → (bit a + j) + (bit b + k) ≤ suc m
bit_le a b j k m e f = omega (arith, e, f)

exclusive : (mode : Mode) → bit (is_answered mode) + bit (is_fresh mode) ≤ 1
exclusive (modes.Pending call) = omega arith
exclusive modes.Running = omega arith
exclusive (modes.Fresh word answer) = omega arith
exclusive (modes.Answered word answer) = omega arith
exclusive (modes.Ending outcome) = omega arith

module _ {V : Type 0} where
  -- the numbers of those who were answered in this step
  abbrev fresh_of : List (Coroutine V) → List ℕ
  fresh_of cs = map (λ c. c.number) (filter (λ c. is_fresh c.mode) cs)

  fresh_at : (c : Coroutine V) (cs : List (Coroutine V)) (n : ℕ) (low high : ℕ) (b t : Bool) → is_fresh c.mode ≡ b → (c.number == n) ≡ t → Numbered c.number cs high → occurs n (fresh_of cs) ≡ bit (is_at is_fresh cs n) → occurs n (map (λ d. d.number) (cond b (c ∷ filter (λ d. is_fresh d.mode) cs) (filter (λ d. is_fresh d.mode) cs))) ≡ bit (if_some (cond t (Some c) (find (is_coroutine n) cs)) false (λ d. is_fresh d.mode))
  fresh_at c cs n low high true true e f h r =
      let same : c.number ≡ n = number_of c.number n f in
      let none : bit (is_at is_fresh cs n) ≡ 0 = ap (λ o. bit (if_some o false (λ d. is_fresh d.mode))) (none_below cs c.number high n h (omega (arith, same))) in
      let one : bit (c.number == n) ≡ 1 = ap bit f in
      let goal : bit (is_fresh c.mode) ≡ 1 = ap bit e in
      omega (arith, r, none, one, goal)
  fresh_at c cs n low high true false e f h r = let one : bit (c.number == n) ≡ 0 = ap bit f in omega (arith, r, one)
  fresh_at c cs n low high false true e f h r =
      let same : c.number ≡ n = number_of c.number n f in
      let none : bit (is_at is_fresh cs n) ≡ 0 = ap (λ o. bit (if_some o false (λ d. is_fresh d.mode))) (none_below cs c.number high n h (omega (arith, same))) in
      let goal : bit (is_fresh c.mode) ≡ 0 = ap bit e in
      omega (arith, r, none, goal)
  fresh_at c cs n low high false false e f h r = r

  occurs_fresh : (cs : List (Coroutine V)) (low high n : ℕ) → Numbered low cs high → occurs n (fresh_of cs) ≡ bit (is_at is_fresh cs n)
  occurs_fresh [] low high n h = refl
  occurs_fresh (c ∷ cs) low high n h = fresh_at c cs n low high (is_fresh c.mode) (c.number == n) refl refl h.1 (occurs_fresh cs c.number high n h.1)

  lined_seen : (n : ℕ) (c : Coroutine V) (o p : Option (Coroutine V)) (t : Bool) → bit (if_some p false (λ d. is_answered d.mode)) ≡ bit (if_some o false (λ d. is_answered d.mode)) + bit (if_some o false (λ d. is_fresh d.mode)) → bit (if_some (cond t (Some (lined c)) p) false (λ d. is_answered d.mode)) ≡ bit (if_some (cond t (Some c) o) false (λ d. is_answered d.mode)) + bit (if_some (cond t (Some c) o) false (λ d. is_fresh d.mode))
  lined_seen n c o p true r = lined_bits c.mode
  lined_seen n c o p false r = r

  lined_at : (cs : List (Coroutine V)) (n : ℕ) → bit (is_at is_answered (map lined cs) n) ≡ bit (is_at is_answered cs n) + bit (is_at is_fresh cs n)
  lined_at [] n = refl
  lined_at (c ∷ cs) n = lined_seen n c (find (is_coroutine n) cs) (find (is_coroutine n) (map lined cs)) (is_coroutine n c) (lined_at cs n)

  lined_counts : (cs : List (Coroutine V)) → counts is_answered (map lined cs) ≡ counts is_answered cs + counts is_fresh cs
  lined_counts [] = refl
  lined_counts (c ∷ cs) = let r = lined_counts cs in let b = lined_bits c.mode in omega (arith, r, b)

  fresh_length_at : (c : Coroutine V) (ds : List (Coroutine V)) (k : ℕ) (b : Bool) → length (map (λ d. d.number) ds) ≡ k → length (map (λ d. d.number) (cond b (c ∷ ds) ds)) ≡ bit b + k
  fresh_length_at c ds k true e = omega (arith, e)
  fresh_length_at c ds k false e = omega (arith, e)

  fresh_length : (cs : List (Coroutine V)) → length (fresh_of cs) ≡ counts is_fresh cs
  fresh_length [] = refl
  fresh_length (c ∷ cs) = fresh_length_at c (filter (λ d. is_fresh d.mode) cs) (counts is_fresh cs) (is_fresh c.mode) (fresh_length cs)

  -- there are no more of both than coroutines
  within_all : (cs : List (Coroutine V)) → counts is_answered cs + counts is_fresh cs ≤ length cs
  within_all [] = omega arith
  within_all (c ∷ cs) = bit_le (is_answered c.mode) (is_fresh c.mode) (counts is_answered cs) (counts is_fresh cs) (length cs) (exclusive c.mode) (within_all cs)

  -- who was answered joins the queue
  pub queue_lined : (ready : List ℕ) (cs : List (Coroutine V)) (high : ℕ) → Numbered 0 cs high → IsQueue ready cs → IsQueue (ready ++ fresh_of cs) (map lined cs)
  queue_lined ready cs high n q = record {
    once = λ k. let a = occurs_append k ready (fresh_of cs) in let f = occurs_fresh cs 0 high k n in let l = lined_at cs k in let o = q.once k in omega (arith, a, f, l, o);
    all = let a = append_length ready (fresh_of cs) in let f = fresh_length cs in let l = lined_counts cs in let o = q.all in omega (arith, a, f, l, o);
  }

  -- there is room for it where there is room for all coroutines
  pub queue_room : (ready : List ℕ) (cs : List (Coroutine V)) → IsQueue ready cs → length ready + length (fresh_of cs) ≤ length cs
  queue_room ready cs q = let w = within_all cs in let f = fresh_length cs in let o = q.all in omega (arith, w, f, o)

  pub numbered_lined : (cs : List (Coroutine V)) (low high : ℕ) → Numbered low cs high → Numbered low (map lined cs) high
  numbered_lined [] low high h = h
  numbered_lined (c ∷ cs) low high h = (h.0, numbered_lined cs c.number high h.1)

  lives_lined : (p : Program V) (cs : List (Coroutine V)) → Lives p cs → Lives p (map lined cs)
  lives_lined p cs l = all_map (IsAlive p) lined cs (λ c a. record { real = a.real; some = λ e. a.some (sym (lined_more c.mode) ∙ e) }) l

  -- a step without a place in the queue, and then its answers
  pub well_queued : (p : Program V) (w v : World V) (ready : List ℕ) (early : ℕ) → Lives p w.coroutines → Numbered 0 w.coroutines w.last_coroutine → IsQueue ready w.coroutines → Leads p w v → IsWell p (queued v ready early)
  well_queued p w v ready early l n q e =
      let same : IsQueue ready v.coroutines = record {
        once = λ k. q.once k ∙ ap bit (sym (evolves_at p w.coroutines v.coroutines w.last_coroutine v.last_coroutine k e n));
        all = q.all ∙ sym (evolves_count p w.coroutines v.coroutines w.last_coroutine v.last_coroutine e);
      } in
      record {
        lives = lives_lined p v.coroutines (lives_leads p w v e l);
        numbered = numbered_lined v.coroutines 0 v.last_coroutine (numbered_leads p w v e n);
        queue = queue_lined ready v.coroutines v.last_coroutine (numbered_leads p w v e n) same;
      }

  pub room_queued : (p : Program V) (w v : World V) (ready : List ℕ) → Numbered 0 w.coroutines w.last_coroutine → IsQueue ready w.coroutines → Leads p w v → length ready + length (fresh v) ≤ length v.coroutines
  room_queued p w v ready n q e =
      queue_room ready v.coroutines (record {
        once = λ k. q.once k ∙ ap bit (sym (evolves_at p w.coroutines v.coroutines w.last_coroutine v.last_coroutine k e n));
        all = q.all ∙ sym (evolves_count p w.coroutines v.coroutines w.last_coroutine v.last_coroutine e);
      })
