-- The lines at the front of the bytes, one after the other.
use Rattle.std.proofs.Common.{◌≡◌, ◌<◌, ◌≤◌, ◌-◌, ◌∷◌, [], ℕ, suc, zero, List, Bool, true, false, eqb, length, take, drop, Option, Some, None, arith, sym, ap, ◌∙◌, refl, if◌then◌else◌}
use Rattle.std.specs.Prelude.{IfSome, IfNone}
use Rattle.std.proofs.lemmas.List.{length-drop}
use Rattle.dill_base.specs.declared.errno.Front.{Front}
use Rattle.dill_base.specs.declared.errno.Front.TheVariants.{Whole, Need, Fault}
use Rattle.dill_http.specs.Lines.{front_of_line}
use Rattle.dill_http.specs.Laws.{LineLaws, LineLies}
use Rattle.dill_ws.specs.HeadLines.{line_at, next_line, onto, split_by, split_lines, lines_at, behind}

none_or : (b : Bool) (x y : List ℕ × List ℕ) → (if b then None else Some x) ≡ Some y → (b ≡ false) × (x ≡ y)
none_or true x y h = absurd (cc h)
none_or false x y h = (refl, cc h)

-- what a line at the front tells
pub record IsNext (u line rest : List ℕ) : Type 0 where
  pub to : ℕ
  pub used : ℕ
  pub from : ℕ
  pub front : front_of_line u ≡ Whole from to used
  pub full : eqb to 0 ≡ false
  pub line_is : take to u ≡ line
  pub rest_is : drop used u ≡ rest

next_by : (u line rest : List ℕ) (f : Front) → front_of_line u ≡ f → line_at u f ≡ Some (line, rest) → IsNext u line rest
next_by u line rest (Whole from to used) e h =
    let k = none_or (eqb to 0) (take to u, drop used u) (line, rest) h in
    record { to = to; used = used; from = from; front = e; full = k.0; line_is = ap (λ (p : List ℕ × List ℕ). p.0) k.1; rest_is = ap (λ (p : List ℕ × List ℕ). p.1) k.1 }
next_by u line rest Need e h = absurd (cc h)
next_by u line rest (Fault f) e h = absurd (cc h)

pub is_next : (u line rest : List ℕ) → next_line u ≡ Some (line, rest) → IsNext u line rest
unfolding next_line
is_next u line rest h = next_by u line rest (front_of_line u) refl h

pub next_is_short : LineLaws → (u line rest : List ℕ) → next_line u ≡ Some (line, rest) → length rest < length u
next_is_short laws u line rest h =
    let k : IsNext u line rest = is_next u line rest h in
    let l : LineLies u k.from k.to k.used = laws.lies u k.from k.to k.used k.front in
    let d : length (drop k.used u) ≡ length u - k.used = length-drop k.used u in
    let e : length rest ≡ length (drop k.used u) = ap length (sym k.rest_is) in
    omega (arith, l.ending, l.there)

by_next : (again other : List ℕ → List (List ℕ) × List ℕ) (u : List ℕ) (o : Option (List ℕ × List ℕ)) → next_line u ≡ o → ((l r : List ℕ) → next_line u ≡ Some (l, r) → again r ≡ other r) → split_by again u o ≡ split_by other u o
by_next again other u None e h = refl
by_next again other u (Some f) e h = ap (onto f.0) (h f.0 f.1 e)

none_of_short : LineLaws → (u : List ℕ) (o : Option (List ℕ × List ℕ)) → length u ≤ 0 → next_line u ≡ o → o ≡ None
none_of_short laws u None h e = refl
none_of_short laws u (Some f) h e = absurd (omega (arith, next_is_short laws u f.0 f.1 e))

no_next : (again : List ℕ → List (List ℕ) × List ℕ) (u : List ℕ) → next_line u ≡ None → split_by again u (next_line u) ≡ ([], u)
no_next again u e = ap (split_by again u) e

-- how many lines are looked for plays no role
enough : LineLaws → (n m : ℕ) (u : List ℕ) → length u ≤ n → length u ≤ m → split_lines n u ≡ split_lines m u
enough laws zero zero u h k = refl
enough laws zero (suc m) u h k = sym (no_next (split_lines m) u (none_of_short laws u (next_line u) h refl))
enough laws (suc n) zero u h k = no_next (split_lines n) u (none_of_short laws u (next_line u) k refl)
enough laws (suc n) (suc m) u h k =
    by_next (split_lines n) (split_lines m) u (next_line u) refl (λ l r e.
    let s : length r < length u = next_is_short laws u l r e in
    enough laws n m r (omega arith) (omega arith))

pub record IsStopped (u : List ℕ) : Type 0 where
  pub lines_are : lines_at u ≡ []
  pub behind_is : behind u ≡ u

pub stopped : (u : List ℕ) → next_line u ≡ None → IsStopped u
unfolding lines_at behind
stopped [] e = record { lines_are = refl; behind_is = refl }
stopped (x ∷ xs) e =
    let k = no_next (split_lines (length xs)) (x ∷ xs) e in
    record { lines_are = ap (λ (p : List (List ℕ) × List ℕ). p.0) k; behind_is = ap (λ (p : List (List ℕ) × List ℕ). p.1) k }

pub record GoesOn (u line rest : List ℕ) : Type 0 where
  pub lines_are : lines_at u ≡ line ∷ lines_at rest
  pub behind_is : behind u ≡ behind rest

pub goes_on : LineLaws → (u line rest : List ℕ) → next_line u ≡ Some (line, rest) → GoesOn u line rest
unfolding lines_at behind
goes_on laws [] line rest e = absurd (omega (arith, next_is_short laws [] line rest e))
goes_on laws (x ∷ xs) line rest e =
    let s : length rest < length (x ∷ xs) = next_is_short laws (x ∷ xs) line rest e in
    let k : split_by (split_lines (length xs)) (x ∷ xs) (next_line (x ∷ xs)) ≡ onto line (split_lines (length xs) rest) = ap (split_by (split_lines (length xs)) (x ∷ xs)) e in
    let same : split_lines (length xs) rest ≡ split_lines (length rest) rest = enough laws (length xs) (length rest) rest (omega arith) (omega arith) in
    record {
      lines_are = ap (λ (p : List (List ℕ) × List ℕ). p.0) k ∙ ap (λ (p : List (List ℕ) × List ℕ). line ∷ p.0) same;
      behind_is = ap (λ (p : List (List ℕ) × List ℕ). p.1) k ∙ ap (λ (p : List (List ℕ) × List ℕ). p.1) same;
    }

pub some_to : {A : Type 0} {P Q : A → Type 0} (o : Option A) → ((a : A) → P a → Q a) → IfSome o P → IfSome o Q
some_to None f h = tt
some_to (Some a) f h = f a h

pub none_to : {A : Type 0} {P Q : Type 0} (o : Option A) → (P → Q) → IfNone o P → IfNone o Q
none_to None f h = f h
none_to (Some a) f h = tt
