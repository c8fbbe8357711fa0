-- The lines of a text and what stands behind them.
use Rattle.std.proofs.Common.{◌≡◌, ◌<◌, ◌≤◌, ◌+◌, ◌++◌, ◌∷◌, [], ◌&&◌, ℕ, suc, zero, List, true, false, eqb, length, take, drop, Option, Some, None, arith, sym, ap, ◌∙◌, refl, if◌then◌else◌, append_assoc, take-append-drop, lt-ltb}
use Rattle.std.specs.Prelude.{nat_le, nat_lt}
use Rattle.std.specs.List.{list_all}
use Rattle.std.proofs.lemmas.Bool.{and_parts, and_from, ne_eqb, ltb-true, leb-true, le-leb}
use Rattle.std.proofs.lemmas.List.{length-take-le, take_at, drop_at}
use Rattle.dill_base.specs.declared.errno.Errno.{Errno}
use Rattle.dill_base.specs.declared.errno.Front.{Front}
use Rattle.dill_base.specs.declared.errno.Front.TheVariants.{Whole, Need, Fault}
use Rattle.dill_http.specs.Bytes.{is_inner}
use Rattle.dill_http.specs.Lines.{line_limit, crlf, front_of_line, LineSpells, IsCutLine}
use Rattle.dill_http.specs.Laws.{LineLaws, LineLies}
use Rattle.dill_ws.specs.HeadLines.{is_full, are_full, lines_text, line_at, next_line, lines_at, behind}
use Rattle.dill_ws.proofs.Splits.{IsNext, is_next, next_is_short, IsStopped, stopped, GoesOn, goes_on}

-- what a full line keeps
pub record Full (line : List ℕ) : Type 0 where
  pub some : 0 < length line
  pub inner : list_all is_inner line ≡ true
  pub short : length line ≤ line_limit

pub full_of : (line : List ℕ) → is_full line ≡ true → Full line
full_of line h =
    let k = and_parts (nat_lt 0 (length line)) (list_all is_inner line && nat_le (length line) line_limit) h in
    let l = and_parts (list_all is_inner line) (nat_le (length line) line_limit) k.1 in
    record { some = ltb-true 0 (length line) k.0; inner = l.0; short = leb-true (length line) line_limit l.1 }

pub of_full : (line : List ℕ) → Full line → is_full line ≡ true
of_full line f = and_from _ _ (lt-ltb 0 (length line) f.some) (and_from _ _ f.inner (le-leb (length line) line_limit f.short))

spells_line : (line : List ℕ) → list_all is_inner line ≡ true → LineSpells line (line ++ crlf)
spells_line line h = record { inner = h; whole = refl }

line_found : (u line rest : List ℕ) (n m : ℕ) → front_of_line u ≡ Whole 0 n m → eqb n 0 ≡ false → take n u ≡ line → drop m u ≡ rest → next_line u ≡ Some (line, rest)
unfolding next_line
line_found u line rest n m e z p q = rw (e, z, p, q) refl

-- a full line at the front is found
found_line : LineLaws → (line rest : List ℕ) → Full line → next_line ((line ++ crlf) ++ rest) ≡ Some (line, rest)
found_line laws line rest f =
    let e : front_of_line ((line ++ crlf) ++ rest) ≡ Whole 0 (length line) (length (line ++ crlf)) = laws.again line (line ++ crlf) rest (spells_line line f.inner) f.short in
    let z : eqb (length line) 0 ≡ false = ne_eqb (length line) 0 (λ q. omega (arith, f.some)) in
    let t : take (length line) ((line ++ crlf) ++ rest) ≡ line = ap (take (length line)) (append_assoc line crlf rest) ∙ take_at line (crlf ++ rest) (length line) refl in
    let d : drop (length (line ++ crlf)) ((line ++ crlf) ++ rest) ≡ rest = drop_at (line ++ crlf) rest (length (line ++ crlf)) refl in
    line_found ((line ++ crlf) ++ rest) line rest (length line) (length (line ++ crlf)) e z t d

-- the lines that stand before what is no full line
pub record Splits (u : List ℕ) (lines : List (List ℕ)) (rest : List ℕ) : Type 0 where
  pub lines_are : lines_at u ≡ lines
  pub behind_is : behind u ≡ rest

pub split_text : LineLaws → (lines : List (List ℕ)) (rest : List ℕ) → are_full lines ≡ true → next_line rest ≡ None → Splits (lines_text lines ++ rest) lines rest
split_text laws [] rest full stop =
    let k : IsStopped rest = stopped rest stop in
    record { lines_are = k.lines_are; behind_is = k.behind_is }
split_text laws (line ∷ lines) rest full stop =
    let f = and_parts (is_full line) (are_full lines) full in
    let again : Splits (lines_text lines ++ rest) lines rest = split_text laws lines rest f.1 stop in
    let grouped : ((line ++ crlf) ++ lines_text lines) ++ rest ≡ (line ++ crlf) ++ (lines_text lines ++ rest) = append_assoc (line ++ crlf) (lines_text lines) rest in
    let found : next_line (((line ++ crlf) ++ lines_text lines) ++ rest) ≡ Some (line, lines_text lines ++ rest) = ap next_line grouped ∙ found_line laws line (lines_text lines ++ rest) (full_of line f.0) in
    let on : GoesOn (((line ++ crlf) ++ lines_text lines) ++ rest) line (lines_text lines ++ rest) = goes_on laws (((line ++ crlf) ++ lines_text lines) ++ rest) line (lines_text lines ++ rest) found in
    record {
      lines_are = on.lines_are ∙ ap (λ (l : List (List ℕ)). line ∷ l) again.lines_are;
      behind_is = on.behind_is ∙ again.behind_is;
    }

-- what is split is so made
pub record IsMade (u : List ℕ) : Type 0 where
  pub full : are_full (lines_at u) ≡ true
  pub whole : u ≡ lines_text (lines_at u) ++ behind u
  pub stops : next_line (behind u) ≡ None

made_stopped : (u : List ℕ) → next_line u ≡ None → IsMade u
made_stopped u e =
    let k : IsStopped u = stopped u e in
    record {
      full = ap are_full k.lines_are;
      whole = sym k.behind_is ∙ ap (λ (l : List (List ℕ)). lines_text l ++ behind u) (sym k.lines_are);
      stops = ap next_line k.behind_is ∙ e;
    }

first_full : LineLaws → (u line rest : List ℕ) → next_line u ≡ Some (line, rest) → Full line × (u ≡ (line ++ crlf) ++ rest)
first_full laws u line rest e =
    let k : IsNext u line rest = is_next u line rest e in
    let lies : LineLies u k.from k.to k.used = laws.lies u k.from k.to k.used k.front in
    let s : LineSpells (take k.to u) (take k.used u) = laws.spelled u k.from k.to k.used k.front in
    let count : length (take k.to u) ≡ k.to = length-take-le k.to u (omega (arith, lies.ending, lies.there)) in
    let size : length line ≡ k.to = ap length (sym k.line_is) ∙ count in
    let some : 0 < k.to = positive k.to k.full in (
      record {
        some = omega arith;
        inner = ap (list_all is_inner) (sym k.line_is) ∙ s.inner;
        short = omega (arith, lies.short);
      },
      sym (take-append-drop k.used u) ∙ ap (λ x. x ++ drop k.used u) s.whole ∙ ap (λ x. (x ++ crlf) ++ drop k.used u) k.line_is ∙ ap (λ x. (line ++ crlf) ++ x) k.rest_is,
    )
  where
    positive : (n : ℕ) → eqb n 0 ≡ false → 0 < n
    positive zero h = absurd (cc h)
    positive (suc n) h = omega arith

made_on : LineLaws → (u line rest : List ℕ) → next_line u ≡ Some (line, rest) → IsMade rest → IsMade u
made_on laws u line rest e m =
    let on : GoesOn u line rest = goes_on laws u line rest e in
    let f = first_full laws u line rest e in
    record {
      full = ap are_full on.lines_are ∙ and_from (is_full line) (are_full (lines_at rest)) (of_full line f.0) m.full;
      whole = f.1 ∙ ap (λ x. (line ++ crlf) ++ x) m.whole ∙ sym (append_assoc (line ++ crlf) (lines_text (lines_at rest)) (behind rest)) ∙ ap (λ (l : List (List ℕ)). lines_text l ++ behind rest) (sym on.lines_are) ∙ ap (λ x. lines_text (lines_at u) ++ x) (sym on.behind_is);
      stops = ap next_line on.behind_is ∙ m.stops;
    }

made_by : LineLaws → (n : ℕ) (u : List ℕ) → length u ≤ n → (o : Option (List ℕ × List ℕ)) → next_line u ≡ o → IsMade u
made_by laws n u h None e = made_stopped u e
made_by laws zero u h (Some f) e = absurd (omega (arith, next_is_short laws u f.0 f.1 e))
made_by laws (suc n) u h (Some f) e =
    let s : length f.1 < length u = next_is_short laws u f.0 f.1 e in
    made_on laws u f.0 f.1 e (made_by laws n f.1 (omega arith) (next_line f.1) refl)

pub is_made : LineLaws → (u : List ℕ) → IsMade u
is_made laws u = made_by laws (length u) u (omega arith) (next_line u) refl

-- what doesn't begin with a full line
pub no_line : (u : List ℕ) (f : Front) → front_of_line u ≡ f → line_at u f ≡ None → next_line u ≡ None
unfolding next_line
no_line u f e h = rw e h

pub no_line_open : (u : List ℕ) → front_of_line u ≡ Need → next_line u ≡ None
no_line_open u e = no_line u Need e refl

pub no_line_bad : (u : List ℕ) (e : Errno) → front_of_line u ≡ Fault e → next_line u ≡ None
no_line_bad u f e = no_line u (Fault f) e refl

pub no_line_empty : (u : List ℕ) (a c : ℕ) → front_of_line u ≡ Whole a 0 c → next_line u ≡ None
no_line_empty u a c e = no_line u (Whole a 0 c) e refl

-- the empty line
pub empty_line : LineLaws → (rest : List ℕ) → front_of_line (crlf ++ rest) ≡ Whole 0 0 2
empty_line laws rest = laws.again [] crlf rest (spells_line [] refl) (omega arith)

-- half of it
pub half_end : IsCutLine (13 ∷ [])
half_end = record { line = []; rest = 10 ∷ []; short = omega arith; more = omega arith; spelled = spells_line [] refl }

-- where the lines stop at a whole line, it is the empty one
pub record Ends (u : List ℕ) (a b c : ℕ) : Type 0 where
  pub more : List ℕ
  pub whole : u ≡ crlf ++ more
  pub from : a ≡ 0
  pub to : b ≡ 0
  pub used : c ≡ 2

zero_by : (n : ℕ) (p : List ℕ × List ℕ) → (if eqb n 0 then None else Some p) ≡ None → n ≡ 0
zero_by zero p h = refl
zero_by (suc n) p h = absurd (some_is_none p (rw (ne_eqb (suc n) 0 (λ q. omega arith)) at h))
  where
    some_is_none : (p : List ℕ × List ℕ) → Some p ≡ None → ⊥
    some_is_none p h = cc h

to_is_zero : (u : List ℕ) (a b c : ℕ) → front_of_line u ≡ Whole a b c → next_line u ≡ None → b ≡ 0
unfolding next_line
to_is_zero u a b c e h = zero_by b (take b u, drop c u) (rw e at h)

pub ends_at : LineLaws → (u : List ℕ) (a b c : ℕ) → front_of_line u ≡ Whole a b c → next_line u ≡ None → Ends u a b c
ends_at laws u a b c e h =
    let z : b ≡ 0 = to_is_zero u a b c e h in
    let lies : LineLies u a b c = laws.lies u a b c e in
    let s : LineSpells (take b u) (take c u) = laws.spelled u a b c e in
    let none : take b u ≡ [] = ap (λ n. take n u) z in
    record {
      more = drop c u;
      whole = sym (take-append-drop c u) ∙ ap (λ x. x ++ drop c u) (s.whole ∙ ap (λ x. x ++ crlf) none);
      from = lies.first;
      to = z;
      used = lies.ending ∙ ap (λ n. n + 2) z;
    }
