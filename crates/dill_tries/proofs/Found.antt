-- The first of a list of tries, by the first of the links or coroutines that they are of.
use Rattle.std.proofs.Common.{◌≡◌, ◌∙◌, ℕ, List, [], ◌∷◌, ◌++◌, length, map, find, filter, filter_map, cond, Bool, true, false, ◌&&◌, ◌||◌, Option, Some, None, option_map, if◌then◌else◌, is_some, IfSome, nat_lt, suc, refl, sym, ap, arith}
use Rattle.std.proofs.lemmas.Bool.{lt-ltb, false≢true}
use Rattle.std.proofs.lemmas.List.Folds.{find-append}
use Rattle.std.specs.Option.{option_or}
use Rattle.std.specs.List.{list_any, cons_option}
use Rattle.dill_base.specs.Maps.{if_some, first_some}
use Rattle.dill_calls.specs.declared.call.Call.{Call}
use Rattle.dill_rules.specs.declared.coroutine.Coroutine.{Coroutine}
use Rattle.dill_rules.specs.World.{pending_call}

module _ {X Y : Type 0} where
  found_at : (a b : Bool) (f : X → Y) (p : Y → Bool) (x : X) (xs : List Y) (o : Option X) → find p xs ≡ option_map f o → p (f x) ≡ b → find p (cond a (f x ∷ xs) xs) ≡ option_map f (cond (a && b) (Some x) o)
  found_at true true f p x xs o e h = rw h refl
  found_at true false f p x xs o e h = rw h e
  found_at false b f p x xs o e h = e

  mapped : (a : Bool) (f : X → Y) (x : X) (xs : List X) → map f (cond a (x ∷ xs) xs) ≡ cond a (f x ∷ map f xs) (map f xs)
  mapped true f x xs = refl
  mapped false f x xs = refl

  -- of those that pass a test
  pub found : (test : X → Bool) (f : X → Y) (p : Y → Bool) (xs : List X) → find p (map f (filter test xs)) ≡ option_map f (find (λ x. test x && p (f x)) xs)
  found test f p [] = refl
  found test f p (x ∷ xs) =
      ap (find p) (mapped (test x) f x (filter test xs))
      ∙ found_at (test x) (p (f x)) f p x (map f (filter test xs)) (find (λ y. test y && p (f y)) xs) (found test f p xs) refl

pub last : {X : Type 0} (o : Option X) → option_or o None ≡ o
last None = refl
last (Some x) = refl

module _ where
  once : (b : Bool) (n : ℕ) (o : Option ℕ) (r : Bool) → is_some o ≡ r → is_some (option_or (if b then Some n else None) o) ≡ (b || r)
  once true n o r e = refl
  once false n o r e = e

  in_mode : (test : Call → Bool) (n : ℕ) (p : Option Call) (o : Option ℕ) (r : Bool) → is_some o ≡ r → is_some (option_or (if_some p None (λ call. if test call then Some n else None)) o) ≡ (if_some p false test || r)
  in_mode test n None o r e = e
  in_mode test n (Some call) o r e = once (test call) n o r e

  -- somebody is pending so, where the first who is was looked for
  pub anybody : {V : Type 0} (test : Call → Bool) (cs : List (Coroutine V)) → is_some (first_some (λ c. if_some (pending_call c.mode) None (λ call. if test call then Some c.number else None)) cs) ≡ list_any (λ c. if_some (pending_call c.mode) false test) cs
  anybody test [] = refl
  anybody test (c ∷ cs) = in_mode test c.number (pending_call c.mode) (first_some (λ d. if_some (pending_call d.mode) None (λ call. if test call then Some d.number else None)) cs) (list_any (λ d. if_some (pending_call d.mode) false test) cs) (anybody test cs)

-- The first of what a list makes, where it is looked for.
module _ {X D T : Type 0} (g : X → Option D) (s : X → Bool) (t : D → T) (h : X → Option T) (p : T → Bool) where
  made_at : (x : X) (o : Option D) (b : Bool) (rest : Option D) (ts : List T) → option_map t rest ≡ find p ts → IfSome o (λ d. p (t d) ≡ b) → option_map t (option_or (if_some o None (λ d. if b then Some d else None)) rest) ≡ find p (cons_option (option_map t o) ts)
  made_at x None b rest ts e same = e
  made_at x (Some d) true rest ts e same = rw same refl
  made_at x (Some d) false rest ts e same = rw same e

  pub made : (xs : List X) → ((x : X) → option_map t (g x) ≡ h x) → ((x : X) → IfSome (g x) (λ d. p (t d) ≡ s x)) → option_map t (first_some (λ x. if_some (g x) None (λ d. if s x then Some d else None)) xs) ≡ find p (filter_map h xs)
  made [] gh ps = refl
  made (x ∷ xs) gh ps =
      made_at x (g x) (s x) (first_some (λ y. if_some (g y) None (λ d. if s y then Some d else None)) xs) (filter_map h xs) (made xs gh ps) (ps x)
      ∙ ap (λ o. find p (cons_option o (filter_map h xs))) (gh x)

more : (n : ℕ) → true ≡ nat_lt 0 (suc n)
more n = sym (lt-ltb 0 (suc n) (omega arith))

-- some are there where one is found that passes a test which all pass
module _ {X Y : Type 0} (f : X → Y) (p : Y → Bool) where
  any_at : (a : Bool) (x : X) (xs : List Y) → is_some (find p xs) ≡ nat_lt 0 (length xs) → p (f x) ≡ true → is_some (find p (cond a (f x ∷ xs) xs)) ≡ nat_lt 0 (length (cond a (f x ∷ xs) xs))
  any_at true x xs e h = rw h (more (length xs))
  any_at false x xs e h = e

  pub any_on : (test : X → Bool) (xs : List X) → ((x : X) → p (f x) ≡ true) → is_some (find p (map f (filter test xs))) ≡ nat_lt 0 (length (map f (filter test xs)))
  any_on test [] h = refl
  any_on test (x ∷ xs) h = rw (mapped (test x) f x (filter test xs)) (any_at (test x) x (map f (filter test xs)) (any_on test xs h) (h x))

module _ {Y : Type 0} (p : Y → Bool) where
  one_at : (o : Option Y) (ys : List Y) → is_some (find p ys) ≡ nat_lt 0 (length ys) → IfSome o (λ y. p y ≡ true) → is_some (find p (cons_option o ys)) ≡ nat_lt 0 (length (cons_option o ys))
  one_at None ys e h = e
  one_at (Some y) ys e h = rw h (more (length ys))

  pub any_made : {X : Type 0} (g : X → Option Y) (xs : List X) → ((x : X) → IfSome (g x) (λ y. p y ≡ true)) → is_some (find p (filter_map g xs)) ≡ nat_lt 0 (length (filter_map g xs))
  any_made g [] h = refl
  any_made g (x ∷ xs) h = one_at (g x) (filter_map g xs) (any_made g xs h) (h x)

-- of two lists
any_joined_at : {X : Type 0} (o r : Option X) (xs ys : List X) → is_some o ≡ nat_lt 0 (length xs) → is_some r ≡ nat_lt 0 (length ys) → is_some (option_or o r) ≡ nat_lt 0 (length (xs ++ ys))
any_joined_at None r [] ys e f = f
any_joined_at None r (x ∷ xs) ys e f = absurd (false≢true (e ∙ sym (more (length xs))))
any_joined_at (Some y) r [] ys e f = absurd (false≢true (sym e))
any_joined_at (Some y) r (x ∷ xs) ys e f = more (length (xs ++ ys))

pub any_joined : {X : Type 0} (p : X → Bool) (xs ys : List X) → is_some (find p xs) ≡ nat_lt 0 (length xs) → is_some (find p ys) ≡ nat_lt 0 (length ys) → is_some (find p (xs ++ ys)) ≡ nat_lt 0 (length (xs ++ ys))
any_joined p xs ys e f = ap is_some (find-append p xs ys) ∙ any_joined_at (find p xs) (find p ys) xs ys e f

pub some_map : {X Y : Type 0} (f : X → Y) (o : Option X) → is_some (option_map f o) ≡ is_some o
some_map f None = refl
some_map f (Some x) = refl
