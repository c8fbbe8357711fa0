-- Sums over lists, and what is left of them where one record is added, changed or taken away.
use Rattle.std.proofs.Common.{◌≡◌, ◌∙◌, ℕ, ◌+◌, ◌≤◌, ◌==◌, List, [], ◌∷◌, ◌++◌, length, map, find, filter_map, sum_by, Bool, true, false, not, ◌&&◌, cond, Option, Some, None, refl, sym, ap, arith}
use Rattle.std.proofs.lemmas.Bool.{and_parts, and_from}
use Rattle.std.specs.Prelude.{filter, nat_le}
use Rattle.std.specs.List.{list_all}
use Rattle.std.proofs.lemmas.List.Sums.{sum_by-cons}
use Rattle.std.proofs.lemmas.Bool.Decides.{nat_tests}
use Rattle.dill_base.specs.Maps.{if_some, change, without}
use Rattle.laws_queue.specs.Well.{bit, occurs}
use Rattle.laws_sound.specs.Orderly.{weigh}
use Rattle.laws_queue.proofs.Lists.{found_passes}
use Rattle.laws_queue.proofs.Numbers.{find_append}

-- it is this number
abbrev pub holds : Option ℕ → ℕ → Bool
holds o n = if_some o false (λ m. m == n)

picks_weight : (o : Option ℕ) (n : ℕ) (ns : List ℕ) (k : ℕ) → occurs n ns ≡ k → occurs n (if_some o ns (λ m. m ∷ ns)) ≡ bit (holds o n) + k
picks_weight None n ns k e = omega (arith, e)
picks_weight (Some m) n ns k e = ap (λ j. bit (m == n) + j) e

module _ {X : Type 0} where
  pub weigh_map : (key : X → ℕ) (n : ℕ) (xs : List X) → occurs n (map key xs) ≡ weigh (λ x. bit (key x == n)) xs
  weigh_map key n [] = refl
  weigh_map key n (x ∷ xs) = ap (λ k. bit (key x == n) + k) (weigh_map key n xs)

  filtered : (f : X → Option ℕ) (x : X) (xs : List X) → filter_map f (x ∷ xs) ≡ if_some (f x) (filter_map f xs) (λ m. m ∷ filter_map f xs)
  filtered f x xs = at (f x) refl
    where
      at : (o : Option ℕ) → f x ≡ o → filter_map f (x ∷ xs) ≡ if_some o (filter_map f xs) (λ m. m ∷ filter_map f xs)
      at None e = rw e refl
      at (Some m) e = rw e refl

  pub weigh_filter : (f : X → Option ℕ) (n : ℕ) (xs : List X) → occurs n (filter_map f xs) ≡ weigh (λ x. bit (holds (f x) n)) xs
  weigh_filter f n [] = refl
  weigh_filter f n (x ∷ xs) = ap (occurs n) (filtered f x xs) ∙ picks_weight (f x) n (filter_map f xs) (weigh (λ y. bit (holds (f y) n)) xs) (weigh_filter f n xs)

  pub weigh_append : (f : X → ℕ) (xs ys : List X) → weigh f (xs ++ ys) ≡ weigh f xs + weigh f ys
  weigh_append f [] ys = omega arith
  weigh_append f (x ∷ xs) ys = let r = weigh_append f xs ys in omega (arith, r)

  pub weigh_push : (f : X → ℕ) (xs : List X) (y : X) → weigh f (xs ++ y ∷ []) ≡ weigh f xs + f y
  weigh_push f xs y = let r = weigh_append f xs (y ∷ []) in omega (arith, r)

  -- what is found weighs what is missing without it
  pub weigh_found : (f : X → ℕ) (test : X → Bool) (xs : List X) (y : X) → find test xs ≡ Some y → weigh f xs ≡ f y + weigh f (without test xs)
  weigh_found f test [] y e = cc
  weigh_found f test (x ∷ xs) y e = at (test x) e (weigh_found f test xs y)
    where
      at : (t : Bool) → cond t (Some x) (find test xs) ≡ Some y → (find test xs ≡ Some y → weigh f xs ≡ f y + weigh f (without test xs)) → f x + weigh f xs ≡ f y + weigh f (cond t xs (x ∷ without test xs))
      at true g rest = let it : x ≡ y = cc in ap (λ z. f z + weigh f xs) it
      at false g rest = let r = rest g in omega (arith, r)

  pub weigh_without : (f : X → ℕ) (test : X → Bool) (xs : List X) → weigh f (without test xs) ≤ weigh f xs
  weigh_without f test [] = omega arith
  weigh_without f test (x ∷ xs) = at (test x) (weigh_without f test xs)
    where
      at : (t : Bool) → weigh f (without test xs) ≤ weigh f xs → weigh f (cond t xs (x ∷ without test xs)) ≤ f x + weigh f xs
      at true r = omega arith
      at false r = omega (arith, r)

  -- who is changed weighs as it stands then
  pub weigh_change : (f : X → ℕ) (test : X → Bool) (g : X → X) (xs : List X) (y : X) → find test xs ≡ Some y → weigh f (change test g xs) + f y ≡ weigh f xs + f (g y)
  weigh_change f test g [] y e = cc
  weigh_change f test g (x ∷ xs) y e = at (test x) e (weigh_change f test g xs y)
    where
      at : (t : Bool) → cond t (Some x) (find test xs) ≡ Some y → (find test xs ≡ Some y → weigh f (change test g xs) + f y ≡ weigh f xs + f (g y)) → weigh f (cond t (g x ∷ xs) (x ∷ change test g xs)) + f y ≡ f x + weigh f xs + f (g y)
      at true h rest =
          let it : x ≡ y = cc in
          let one : f x ≡ f y = ap f it in
          let two : f (g x) ≡ f (g y) = ap (λ z. f (g z)) it in
          omega (arith, one, two)
      at false h rest = let r = rest h in omega (arith, r)

  pub weigh_alike : (f : X → ℕ) (g : X → X) (xs : List X) → ((x : X) → f (g x) ≡ f x) → weigh f (map g xs) ≡ weigh f xs
  weigh_alike f g [] h = refl
  weigh_alike f g (x ∷ xs) h = let one = h x in let r = weigh_alike f g xs h in omega (arith, one, r)

  pub none_without : (test : X → Bool) (xs : List X) → find test xs ≡ None → without test xs ≡ xs
  none_without test [] e = refl
  none_without test (x ∷ xs) e = at (test x) e (none_without test xs)
    where
      at : (t : Bool) → cond t (Some x) (find test xs) ≡ None → (find test xs ≡ None → without test xs ≡ xs) → cond t xs (x ∷ without test xs) ≡ x ∷ xs
      at true f rest = cc
      at false f rest = ap (λ ys. x ∷ ys) (rest f)

  pub length_without : (test : X → Bool) (xs : List X) (y : X) → find test xs ≡ Some y → length (without test xs) + 1 ≡ length xs
  length_without test [] y e = cc
  length_without test (x ∷ xs) y e = at (test x) e (length_without test xs y)
    where
      at : (t : Bool) → cond t (Some x) (find test xs) ≡ Some y → (find test xs ≡ Some y → length (without test xs) + 1 ≡ length xs) → length (cond t xs (x ∷ without test xs)) + 1 ≡ length (x ∷ xs)
      at true f rest = omega arith
      at false f rest = let r = rest f in omega (arith, r)

  -- what weighs nothing passes no test
  pub weightless : (test : X → Bool) (xs : List X) → weigh (λ x. bit (test x)) xs ≡ 0 → list_all (λ x. not (test x)) xs ≡ true
  weightless test [] e = refl
  weightless test (x ∷ xs) e = at (test x) e (weightless test xs)
    where
      at : (t : Bool) → bit t + weigh (λ y. bit (test y)) xs ≡ 0 → (weigh (λ y. bit (test y)) xs ≡ 0 → list_all (λ y. not (test y)) xs ≡ true) → (not t && list_all (λ y. not (test y)) xs) ≡ true
      at true f rest = absurd (omega arith)
      at false f rest = rest (omega (arith, f))

  -- nor is anything found
  pub weightless_none : (test : X → Bool) (xs : List X) → weigh (λ x. bit (test x)) xs ≡ 0 → find test xs ≡ None
  weightless_none test [] e = refl
  weightless_none test (x ∷ xs) e = at (test x) e (weightless_none test xs)
    where
      at : (t : Bool) → bit t + weigh (λ y. bit (test y)) xs ≡ 0 → (weigh (λ y. bit (test y)) xs ≡ 0 → find test xs ≡ None) → cond t (Some x) (find test xs) ≡ None
      at true f rest = absurd (omega arith)
      at false f rest = rest (omega (arith, f))

  -- what is found weighs something
  pub weighs_found : (pick test : X → Bool) (xs : List X) (y : X) → find pick xs ≡ Some y → test y ≡ true → 1 ≤ weigh (λ x. bit (test x)) xs
  weighs_found pick test xs y e f =
      let w = weigh_found (λ x. bit (test x)) pick xs y e in
      let one : bit (test y) ≡ 1 = ap bit f in
      omega (arith, w, one)

  -- what weighs something is found
  pub heavy_found : (test : X → Bool) (xs : List X) → 1 ≤ weigh (λ x. bit (test x)) xs → (y : X) × (find test xs ≡ Some y) × (test y ≡ true)
  heavy_found test [] e = absurd (omega arith)
  heavy_found test (x ∷ xs) e = at (test x) refl e (heavy_found test xs)
    where
      at : (t : Bool) → test x ≡ t → 1 ≤ bit t + weigh (λ y. bit (test y)) xs → (1 ≤ weigh (λ y. bit (test y)) xs → (y : X) × (find test xs ≡ Some y) × (test y ≡ true)) → (y : X) × (cond t (Some x) (find test xs) ≡ Some y) × (test y ≡ true)
      at true f g rest = (x, refl, f)
      at false f g rest = rest (omega (arith, g))

  -- the only one that passes a test is found by it
  pub only_found : (pick test : X → Bool) (xs : List X) (y : X) → find pick xs ≡ Some y → test y ≡ true → weigh (λ x. bit (test x)) xs ≤ 1 → find test xs ≡ Some y
  only_found pick test [] y e f g = cc
  only_found pick test (x ∷ xs) y e f g = at (pick x) (test x) refl e g (only_found pick test xs y)
    where
      at : (t u : Bool) → test x ≡ u → cond t (Some x) (find pick xs) ≡ Some y → bit u + weigh (λ z. bit (test z)) xs ≤ 1 → (find pick xs ≡ Some y → test y ≡ true → weigh (λ z. bit (test z)) xs ≤ 1 → find test xs ≡ Some y) → cond u (Some x) (find test xs) ≡ Some y
      at true true i h l rest = h
      at true false i h l rest = let it : x ≡ y = cc in let n : test y ≡ false = ap test (sym it) ∙ i in cc
      at false true i h l rest = let m = weighs_found pick test xs y h f in absurd (omega arith)
      at false false i h l rest = rest h f (omega (arith, l))

  -- what is found stays found without what doesn't pass the test
  pub found_without : (pick test : X → Bool) (xs : List X) (y : X) → find pick xs ≡ Some y → test y ≡ false → find pick (without test xs) ≡ Some y
  found_without pick test [] y e f = cc
  found_without pick test (x ∷ xs) y e f = at (pick x) (test x) refl refl e (found_without pick test xs y)
    where
      at : (t u : Bool) → pick x ≡ t → test x ≡ u → cond t (Some x) (find pick xs) ≡ Some y → (find pick xs ≡ Some y → test y ≡ false → find pick (without test xs) ≡ Some y) → find pick (cond u xs (x ∷ without test xs)) ≡ Some y
      at true true h i j rest = let it : x ≡ y = cc in let n : test y ≡ true = ap test (sym it) ∙ i in cc
      at true false h i j rest = rw h j
      at false true h i j rest = j
      at false false h i j rest = rw h (rest j f)

  pub found_push : (pick : X → Bool) (xs : List X) (y x : X) → find pick xs ≡ Some x → find pick (xs ++ y ∷ []) ≡ Some x
  found_push pick xs y x e = find_append pick xs (y ∷ []) x e

  pub pushed_found : (pick : X → Bool) (xs : List X) (y : X) → find pick xs ≡ None → pick y ≡ true → find pick (xs ++ y ∷ []) ≡ Some y
  pushed_found pick [] y e f = rw f refl
  pushed_found pick (z ∷ xs) y e f = at (pick z) e (pushed_found pick xs y)
    where
      at : (t : Bool) → cond t (Some z) (find pick xs) ≡ None → (find pick xs ≡ None → pick y ≡ true → find pick (xs ++ y ∷ []) ≡ Some y) → cond t (Some z) (find pick (xs ++ y ∷ [])) ≡ Some y
      at true g rest = cc
      at false g rest = rest g f

  pub all_push : (test : X → Bool) (xs : List X) (y : X) → list_all test xs ≡ true → test y ≡ true → list_all test (xs ++ y ∷ []) ≡ true
  all_push test [] y e f = and_from (test y) true f refl
  all_push test (x ∷ xs) y e f =
      let b = and_parts (test x) (list_all test xs) e in
      and_from (test x) (list_all test (xs ++ y ∷ [])) b.0 (all_push test xs y b.1 f)

  pub length_push : (xs : List X) (y : X) → length (xs ++ y ∷ []) ≡ length xs + 1
  length_push [] y = refl
  length_push (x ∷ xs) y = let r = length_push xs y in omega (arith, r)

module _ {X : Type 0} (test : X → Bool) where
  pub none_weightless : (xs : List X) → find test xs ≡ None → weigh (λ x. bit (test x)) xs ≡ 0
  none_weightless [] e = refl
  none_weightless (x ∷ xs) e = at (test x) e (none_weightless xs)
    where
      at : (t : Bool) → cond t (Some x) (find test xs) ≡ None → (find test xs ≡ None → weigh (λ y. bit (test y)) xs ≡ 0) → bit t + weigh (λ y. bit (test y)) xs ≡ 0
      at true f rest = cc
      at false f rest = let r = rest f in omega (arith, r)

  -- without the only one that passes, none is left
  pub none_left : (xs : List X) → weigh (λ x. bit (test x)) xs ≤ 1 → weigh (λ x. bit (test x)) (without test xs) ≡ 0
  none_left xs h = at (find test xs) refl
    where
      at : (o : Option X) → find test xs ≡ o → weigh (λ x. bit (test x)) (without test xs) ≡ 0
      at None e = ap (weigh (λ x. bit (test x))) (none_without test xs e) ∙ none_weightless xs e
      at (Some y) e =
          let w = weigh_found (λ x. bit (test x)) test xs y e in
          let one : bit (test y) ≡ 1 = ap bit (found_passes test xs y e) in
          omega (arith, w, one, h)

  -- others weigh what they did
  pub others_left : (other : X → Bool) (xs : List X) → ((x : X) → test x ≡ true → other x ≡ false) → weigh (λ x. bit (other x)) (without test xs) ≡ weigh (λ x. bit (other x)) xs
  others_left other xs h = at (find test xs) refl
    where
      at : (o : Option X) → find test xs ≡ o → weigh (λ x. bit (other x)) (without test xs) ≡ weigh (λ x. bit (other x)) xs
      at None e = ap (weigh (λ x. bit (other x))) (none_without test xs e)
      at (Some y) e =
          let w = weigh_found (λ x. bit (other x)) test xs y e in
          let nought : bit (other y) ≡ 0 = ap bit (h y (found_passes test xs y e)) in
          omega (arith, w, nought)

pub small_bit : (b : Bool) → bit b ≤ 1
small_bit true = omega arith
small_bit false = omega arith

-- the first that passes a test, where no number stands twice
module _ {X : Type 0} (key : X → ℕ) (p : X → Bool) where
  pub record First (xs : List X) (x : X) (rest : List X) : Type 0 where
    pub found : find (λ y. key y == key x) xs ≡ Some x
    pub passed : p x ≡ true
    pub left : filter p (without (λ y. key y == key x) xs) ≡ rest

  heads : (x y : X) (xs ys : List X) → ◌≡◌ {A = List X} (x ∷ xs) (y ∷ ys) → (x ≡ y) × (xs ≡ ys)
  heads x y xs ys e = (cc, cc)

  pub filter_first : (xs : List X) (x : X) (rest : List X) → filter p xs ≡ x ∷ rest → weigh (λ y. bit (key y == key x)) xs ≤ 1 → First xs x rest
  filter_first [] x rest e w = absurd (none e)
    where
      none : ◌≡◌ {A = List X} [] (x ∷ rest) → ⊥
      none f = cc
  filter_first (y ∷ ys) x rest e w = at (p y) refl e (filter_first ys x rest)
    where
      by : (t : Bool) → (key y == key x) ≡ t → p y ≡ false → First ys x rest → First (y ∷ ys) x rest
      by true f g r =
          let same : (key x == key x) ≡ true = grind (arith, nat_tests) in
          let m = weighs_found (λ z. key z == key x) (λ z. key z == key x) ys x r.found same in
          let one : bit (key y == key x) ≡ 1 = ap bit f in
          absurd (omega arith)
      by false f g r = record { found = rw f r.found; passed = r.passed; left = rw f (rw g r.left) }

      at : (t : Bool) → p y ≡ t → cond t (y ∷ filter p ys) (filter p ys) ≡ x ∷ rest → (filter p ys ≡ x ∷ rest → weigh (λ z. bit (key z == key x)) ys ≤ 1 → First ys x rest) → First (y ∷ ys) x rest
      at true f g next =
          let h = heads y x (filter p ys) rest g in
          let t : (key y == key x) ≡ true = let k : key y ≡ key x = ap key h.0 in grind (arith, nat_tests) in
          record { found = rw t (ap (λ z. Some z) h.0); passed = ap p (sym h.0) ∙ f; left = rw t h.1 }
      at false f g next =
          let less : weigh (λ z. bit (key z == key x)) ys ≤ 1 = omega (arith, w) in
          by (key y == key x) refl f (next g less)

  -- nothing passes the test
  pub filter_none : (xs : List X) → filter p xs ≡ [] → list_all (λ x. not (p x)) xs ≡ true
  filter_none [] e = refl
  filter_none (x ∷ xs) e = at (p x) e (filter_none xs)
    where
      at : (t : Bool) → cond t (x ∷ filter p xs) (filter p xs) ≡ [] → (filter p xs ≡ [] → list_all (λ y. not (p y)) xs ≡ true) → (not t && list_all (λ y. not (p y)) xs) ≡ true
      at true f rest = absurd (some f)
        where
          some : ◌≡◌ {A = List X} (x ∷ filter p xs) [] → ⊥
          some g = cc
      at false f rest = rest f

  -- what is found of each where no number stands twice
  pub all_unique : (test : X → Bool) (xs : List X) → ((n : ℕ) → weigh (λ y. bit (key y == n)) xs ≤ 1) → ((x : X) → find (λ y. key y == key x) xs ≡ Some x → test x ≡ true) → list_all test xs ≡ true
  all_unique test [] w h = refl
  all_unique test (x ∷ xs) w h =
      let same : (key x == key x) ≡ true = grind (arith, nat_tests) in
      and_from (test x) (list_all test xs) (h x (rw same refl))
      (all_unique test xs (λ n. let l = w n in omega (arith, l)) (λ y e. h y (skip y e (key x == key y) refl)))
    where
      skip : (y : X) → find (λ z. key z == key y) xs ≡ Some y → (b : Bool) → (key x == key y) ≡ b → cond (key x == key y) (Some x) (find (λ z. key z == key y) xs) ≡ Some y
      skip y e true f =
          let t : (key y == key y) ≡ true = grind (arith, nat_tests) in
          let m = weighs_found (λ z. key z == key y) (λ z. key z == key y) xs y e t in
          let l = w (key y) in
          let one : bit (key x == key y) ≡ 1 = ap bit f in
          absurd (omega arith)
      skip y e false f = rw f e

-- two tests, one after the other
pub filter_both : {X : Type 0} (p q : X → Bool) (xs : List X) → filter (λ x. p x && q x) xs ≡ filter q (filter p xs)
filter_both p q [] = refl
filter_both p q (x ∷ xs) = at (p x) (q x) refl (filter_both p q xs)
  where
    at : (t u : Bool) → q x ≡ u → filter (λ y. p y && q y) xs ≡ filter q (filter p xs) → cond (t && u) (x ∷ filter (λ y. p y && q y) xs) (filter (λ y. p y && q y) xs) ≡ filter q (cond t (x ∷ filter p xs) (filter p xs))
    at true true f r = rw f (ap (λ ys. x ∷ ys) r)
    at true false f r = rw f r
    at false u f r = r

-- a number above the last one is used by none
pub used_more : (m last k : ℕ) → k ≤ bit (nat_le m last) → k + bit (last + 1 == m) ≤ bit (nat_le m (last + 1))
used_more m last k e = at (nat_le m last) (last + 1 == m) (nat_le m (last + 1)) refl refl refl e
  where
    at : (a b c : Bool) → nat_le m last ≡ a → (last + 1 == m) ≡ b → nat_le m (last + 1) ≡ c → k ≤ bit a → k + bit b ≤ bit c
    at true true c f g h l = grind (arith, nat_tests)
    at true false true f g h l = omega (arith, l)
    at true false false f g h l = grind (arith, nat_tests)
    at false true true f g h l = omega (arith, l)
    at false true false f g h l = grind (arith, nat_tests)
    at false false c f g h l = omega (arith, l)

module _ {X : Type 0} (key : X → ℕ) where
  pub keys_without : (n : ℕ) (xs : List X) → map key (without (λ x. key x == n) xs) ≡ without (λ m. m == n) (map key xs)
  keys_without n [] = refl
  keys_without n (x ∷ xs) = at (key x == n) (keys_without n xs)
    where
      at : (t : Bool) → map key (without (λ y. key y == n) xs) ≡ without (λ m. m == n) (map key xs) → map key (cond t xs (x ∷ without (λ y. key y == n) xs)) ≡ cond t (map key xs) (key x ∷ without (λ m. m == n) (map key xs))
      at true r = refl
      at false r = ap (λ ns. key x ∷ ns) r

pub is_total : {X : Type 0} (f : X → ℕ) (xs : List X) → sum_by f xs ≡ weigh f xs
is_total f [] = refl
is_total f (x ∷ xs) = sum_by-cons f x xs ∙ ap (λ n. f x + n) (is_total f xs)

pub total_more : {X : Type 0} (f : X → ℕ) (xs : List X) (x : X) → f x ≡ 0 → weigh f (xs ++ x ∷ []) ≤ weigh f xs
total_more f xs x e = let r = weigh_append f xs (x ∷ []) in omega (arith, r, e)

pub total_same : {X : Type 0} (f g : X → ℕ) (xs : List X) → ((x : X) → f x ≡ g x) → weigh f xs ≡ weigh g xs
total_same f g [] h = refl
total_same f g (x ∷ xs) h = let one = h x in let r = total_same f g xs h in omega (arith, one, r)
