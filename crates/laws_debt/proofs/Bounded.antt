-- What is owed is bounded, and who is queued is early where the root begins to close.
use Rattle.std.proofs.Common.{◌≡◌, ◌∙◌, ◌+◌, ◌*◌, ◌^◌, ◌≤◌, ◌<◌, ◌==◌, ℕ, zero, suc, List, [], ◌∷◌, length, find, Bool, true, false, Some, if◌then◌else◌, refl, ap, arith}
use Rattle.std.proofs.lemmas.Bool.{and_parts}
use Rattle.std.specs.List.{AllByRecursion, list_all, list_any}
use Rattle.dill_calls.specs.Program.{Program, IsLawful}
use Rattle.dill_base.specs.Maps.{if_some}
use Rattle.dill_rules.specs.declared.coroutine.Coroutine.{Coroutine}
use Rattle.dill_rules.specs.declared.coroutine.Mode.{Mode}
use Rattle.dill_rules.specs.declared.coroutine.Mode.TheVariants as modes
use Rattle.dill_rules.specs.World.{is_coroutine, is_ending, is_answered}
use Rattle.laws_queue.specs.Well.{IsAlive, Lives, Numbered, bit, occurs, is_at, IsQueue}
use Rattle.laws_sound.specs.Laws.{is_resting}
use Rattle.laws_debt.specs.Owed.{share_by}
use Rattle.laws_debt.specs.Says.{LowersIn, AllLower}
use Rattle.laws_queue.proofs.Lists.{all_to, equal_number, above_of}
use Rattle.laws_debt.proofs.Walking.{unlike}
use Rattle.laws_queue.proofs.Numbers.{above}
use Rattle.laws_sound.specs.Orderly.{weigh}

left_most : (l m : ℕ) → (1 ≤ l → l ≤ m) → l ≤ m
left_most zero m h = omega arith
left_most (suc l) m h = h (omega arith)

share_at : (a b : Bool) (most left bound : ℕ) → most < bound → left ≤ most → (if a then 0 else (if b then 1 + most else left)) ≤ bound
share_at true b most left bound l m = omega arith
share_at false true most left bound l m = omega (arith, l)
share_at false false most left bound l m = omega (arith, l, m)

more : (n s t b : ℕ) → s ≤ b → t ≤ n * b → s + t ≤ suc n * b
more n s t b e f = let one : suc n * b ≡ b + n * b = omega arith in omega (arith, e, f, one)

module _ {V : Type 0} (p : Program V) (law : IsLawful p) (early : ℕ → Bool) where
  share_few : (c : Coroutine V) → IsAlive p c → share_by p early c ≤ 2 ^ 32
  share_few c a = share_at (is_ending c.mode) (early c.number) (p.most c.body) (p.left c.body) (2 ^ 32) (law.small c.body a.real) (left_most (p.left c.body) (p.most c.body) (law.within c.body a.real))

  all_few : (cs : List (Coroutine V)) → Lives p cs → weigh (share_by p early) cs ≤ length cs * 2 ^ 32
  all_few [] l = omega arith
  all_few (c ∷ cs) l = more (length cs) (share_by p early c) (weigh (share_by p early) cs) (2 ^ 32) (share_few c l.0) (all_few cs l.1)

times : (n s : ℕ) → n ≤ 65536 → s ≤ n * 4294967296 → s ≤ 281474976710656
times n s e f = omega (arith, e, f)

module _ {V : Type 0} (p : Program V) (law : IsLawful p) (early : ℕ → Bool) where
  -- the bound of all that can be owed
  pub owes_few : (cs : List (Coroutine V)) → Lives p cs → length cs ≤ 65536 → weigh (share_by p early) cs ≤ 2 ^ 48
  owes_few cs l n = times (length cs) (weigh (share_by p early) cs) n (all_few p law early cs l)

module _ {V : Type 0} where
  -- each is found by its number
  pub each_found : (cs : List (Coroutine V)) (low high : ℕ) → Numbered low cs high → AllByRecursion (λ c. find (is_coroutine c.number) cs ≡ Some c) cs
  each_found [] low high n = tt
  each_found (x ∷ cs) low high n = (
    rw (equal_number x.number x.number refl) refl,
    all_to (λ c. find (is_coroutine c.number) cs ≡ Some c) (λ c. find (is_coroutine c.number) (x ∷ cs) ≡ Some c) cs
        (λ c e. rw (above_of x.number c.number (above x.number high (is_coroutine c.number) cs c e n.1)) e) (each_found cs x.number high n.1),
  )

occurs_any : (n : ℕ) (xs : List ℕ) → 1 ≤ occurs n xs → list_any (λ m. m == n) xs ≡ true
occurs_any n [] e = absurd (omega (arith, e))
occurs_any n (x ∷ xs) e = at (x == n) refl (occurs_any n xs)
  where
    at : (b : Bool) → (x == n) ≡ b → (1 ≤ occurs n xs → list_any (λ m. m == n) xs ≡ true) → list_any (λ m. m == n) (x ∷ xs) ≡ true
    at true i r = rw i refl
    at false i r = let nought : bit (x == n) ≡ 0 = ap bit i in rw i (r (omega (arith, e, nought)))

-- who has an answer at rest has it early, and nobody else has one
early_lowers : (mode : Mode) (b : Bool) → is_resting mode ≡ true → (is_answered mode ≡ true → b ≡ true) → b ≡ false → LowersIn mode
early_lowers (modes.Pending call) b r h e = tt
early_lowers modes.Running b r h e = tt
early_lowers (modes.Fresh word answer) b r h e = cc
early_lowers (modes.Answered word answer) b r h e = unlike b e (h refl)
early_lowers (modes.Ending outcome) b r h e = tt

module _ {V : Type 0} (ready : List ℕ) (all : List (Coroutine V)) (q : IsQueue ready all) where
  pub queued_early : (c : Coroutine V) → find (is_coroutine c.number) all ≡ Some c → is_answered c.mode ≡ true → list_any (λ m. m == c.number) ready ≡ true
  queued_early c e a =
      let seen : is_at is_answered all c.number ≡ true = ap (λ o. if_some o false (λ d. is_answered d.mode)) e ∙ a in
      let one : bit (is_at is_answered all c.number) ≡ 1 = ap bit seen in
      let once = q.once c.number in
      occurs_any c.number ready (omega (arith, once, one))

  lower_each : (cs : List (Coroutine V)) → list_all (λ c. is_resting c.mode) cs ≡ true → AllByRecursion (λ c. find (is_coroutine c.number) all ≡ Some c) cs → AllLower (λ n. list_any (λ m. m == n) ready) cs
  lower_each [] r f = tt
  lower_each (c ∷ cs) r f =
      let h = and_parts (is_resting c.mode) (list_all (λ d. is_resting d.mode) cs) r in
      ((λ e. early_lowers c.mode (list_any (λ m. m == c.number) ready) h.0 (λ a. queued_early c f.0 a) e), lower_each cs h.1 f.1)

-- every answer that is queued is early
pub all_early : {V : Type 0} (ready : List ℕ) (cs : List (Coroutine V)) (low high : ℕ) → Numbered low cs high → IsQueue ready cs → list_all (λ c. is_resting c.mode) cs ≡ true → AllLower (λ n. list_any (λ m. m == n) ready) cs
all_early ready cs low high n q r = lower_each ready cs q cs r (each_found cs low high n)
