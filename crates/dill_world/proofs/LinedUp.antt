-- Who was answered in a step is lined up: one after the other, and all of them.
use Rattle.std.proofs.Common.{◌≡◌, ◌∙◌, ℕ, zero, suc, ◌+◌, ◌<◌, ◌≤◌, ◌++◌, ◌&&◌, List, [], ◌∷◌, length, map, take, drop, filter, get_or, cond, Bool, true, false, refl, sym, ap, add-one, arith}
use Rattle.std.proofs.Math.ListN.{set}
use Rattle.std.specs.List.{list_all}
use Rattle.dill_rules.specs.declared.coroutine.Coroutine.{Coroutine}
use Rattle.dill_rules.specs.declared.coroutine.Mode.{Mode}
use Rattle.dill_rules.specs.declared.coroutine.Mode.TheVariants as modes
use Rattle.dill_rules.specs.State.{is_fresh, lined_mode, lined}
use Rattle.dill_world.specs.Lined.{fresh_of}
use Rattle.dill_world.specs.Store.{is_plain_mode, is_plain_row, ArePlain}

module _ {X : Type 0} (f : X → X) where
  -- one more is changed
  changed_one : (xs : List X) (i : ℕ) (d : X) → i < length xs → set (map f (take i xs) ++ drop i xs) i (f (get_or (map f (take i xs) ++ drop i xs) i d)) ≡ map f (take (suc i) xs) ++ drop (suc i) xs
  changed_one [] i d h = absurd (omega (arith, h))
  changed_one (x ∷ xs) zero d h = refl
  changed_one (x ∷ xs) (suc i) d h = ap (λ ys. f x ∷ ys) (changed_one xs i d (omega (arith, h)))

  pub changed_next : (xs zs : List X) (i : ℕ) (d y : X) → i < length xs → zs ≡ map f (take i xs) ++ drop i xs → y ≡ f (get_or zs i d) → set zs i y ≡ map f (take (i + 1) xs) ++ drop (i + 1) xs
  changed_next xs zs i d y h e g = ap (set zs i) g ∙ ap (λ ws. set ws i (f (get_or ws i d))) e ∙ changed_one xs i d h ∙ sym (ap (λ j. map f (take j xs) ++ drop j xs) (add-one i))

  -- all are changed
  pub changed_all : (xs : List X) (i : ℕ) → length xs ≤ i → map f (take i xs) ++ drop i xs ≡ map f xs
  changed_all [] zero h = refl
  changed_all [] (suc i) h = refl
  changed_all (x ∷ xs) zero h = absurd (omega (arith, h))
  changed_all (x ∷ xs) (suc i) h = ap (λ ys. f x ∷ ys) (changed_all xs i (omega (arith, h)))

lined_plain : (mode : Mode) → is_plain_mode mode ≡ true → is_plain_mode (lined_mode mode) ≡ true
lined_plain (modes.Pending call) e = e
lined_plain modes.Running e = e
lined_plain (modes.Fresh word answer) e = e
lined_plain (modes.Answered word answer) e = e
lined_plain (modes.Ending outcome) e = e

both : (a b c d : Bool) → (a ≡ true → c ≡ true) → (b ≡ true → d ≡ true) → (a && b) ≡ true → (c && d) ≡ true
both true b c d f g e = let one = f refl in let two = g e in cc
both false b c d f g e = cc

module _ {V : Type 0} where
  pub all_lined : (cs : List (Coroutine V)) → ArePlain cs → ArePlain (map lined cs)
  all_lined [] e = refl
  all_lined (c ∷ cs) e = both (is_plain_row c) (list_all is_plain_row cs) (is_plain_row (lined c)) (list_all is_plain_row (map lined cs)) (lined_plain c.mode) (all_lined cs) e

  -- the numbers of those who pass a test
  fresh_at : (c : Coroutine V) (cs : List (Coroutine V)) (b : Bool) → fresh_of cs ≡ map (λ d. d.number) (filter (λ d. is_fresh d.mode) cs) → (cond b (c.number ∷ []) []) ++ fresh_of cs ≡ map (λ d. d.number) (cond b (c ∷ filter (λ d. is_fresh d.mode) cs) (filter (λ d. is_fresh d.mode) cs))
  fresh_at c cs true e = ap (λ ns. c.number ∷ ns) e
  fresh_at c cs false e = e

  pub fresh_filtered : (cs : List (Coroutine V)) → fresh_of cs ≡ map (λ c. c.number) (filter (λ c. is_fresh c.mode) cs)
  fresh_filtered [] = refl
  fresh_filtered (c ∷ cs) = fresh_at c cs (is_fresh c.mode) (fresh_filtered cs)
