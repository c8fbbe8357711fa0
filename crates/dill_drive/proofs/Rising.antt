-- Those who wait are found one after the other.
use Rattle.std.proofs.Common.{◌≡◌, ◌∙◌, ℕ, ◌<◌, ◌≤◌, List, [], ◌∷◌, ◌++◌, length, Option, Some, None, Bool, true, false, filter, nat_lt, if◌then◌else◌, refl, sym, ap, subst, arith, append_assoc}
use Rattle.std.proofs.lemmas.List.{append-nil}
use Rattle.std.proofs.lemmas.Bool.Decides.{nat_tests}
use Rattle.std.proofs.KnownBytes.{Appends-nil, Appends-trans}
use Rattle.std.specs.Io.KnownBytes.{Appends}
use Rattle.relay_trace.specs.Flows.{AppendsProper}
use Rattle.relay_trace.specs.Lines.{waiting_line}
use Rattle.dill_calls.specs.declared.word.Word.{Word}
use Rattle.dill_drive.specs.Waiting.{next_above, Rises, waiter_lines}
use Rattle.dill_drive.proofs.Flowing.{proper_more, proper_behind}

-- those above a number
abbrev pub above : ℕ → List (ℕ × Word) → List (ℕ × Word)
above after list = filter (λ one. nat_lt after one.0) list

all_above : (lo after : ℕ) (list : List (ℕ × Word)) → after ≤ lo → Rises lo list → above after list ≡ list
all_above lo after [] le rises = refl
all_above lo after (one ∷ list) le rises =
    let test : nat_lt after one.0 ≡ true = grind (arith, nat_tests, rises.0) in
    rw test (ap (λ l. one ∷ l) (all_above one.0 after list (omega (arith, rises.0)) rises.1))

-- the one that is found is the first of those above, and behind it are those above it
found_by : (b : Bool) (lo after : ℕ) (x one : ℕ × Word) (list : List (ℕ × Word)) → nat_lt after x.0 ≡ b → Rises lo (x ∷ list)
    → ((lo' : ℕ) → Rises lo' list → next_above after list ≡ Some one → (above after list ≡ one ∷ above one.0 list) × (after < one.0))
    → (if b then Some x else next_above after list) ≡ Some one
    → ((if b then x ∷ above after list else above after list) ≡ one ∷ (if nat_lt one.0 x.0 then x ∷ above one.0 list else above one.0 list)) × (after < one.0)
found_by true lo after x one list is rises more e =
    let same : x ≡ one = cc in
    let less : after < x.0 = grind (arith, nat_tests, is) in
    let not_itself : nat_lt x.0 x.0 ≡ false = grind (arith, nat_tests) in
    let here : x ∷ above after list ≡ x ∷ (if nat_lt x.0 x.0 then x ∷ above x.0 list else above x.0 list) =
    rw not_itself (ap (λ l. x ∷ l) (all_above x.0 after list (omega arith) rises.1 ∙ sym (all_above x.0 x.0 list (omega arith) rises.1))) in
    subst (λ (y : ℕ × Word). (x ∷ above after list ≡ y ∷ (if nat_lt y.0 x.0 then x ∷ above y.0 list else above y.0 list)) × (after < y.0)) same (here, less)
found_by false lo after x one list is rises more e =
    let rest = more x.0 rises.1 e in
    let test : nat_lt one.0 x.0 ≡ false = grind (arith, nat_tests, is, rest.1) in
    (rw test rest.0, rest.1)

pub found : (lo after : ℕ) (one : ℕ × Word) (list : List (ℕ × Word)) → Rises lo list → next_above after list ≡ Some one → (above after list ≡ one ∷ above one.0 list) × (after < one.0)
found lo after one [] rises e = cc
found lo after one (x ∷ list) rises e = found_by (nat_lt after x.0) lo after x one list refl rises (λ lo' r f. found lo' after one list r f) e

none_by : (b : Bool) (after : ℕ) (x : ℕ × Word) (list : List (ℕ × Word)) → (next_above after list ≡ None → above after list ≡ []) → (if b then Some x else next_above after list) ≡ None
    → (if b then x ∷ above after list else above after list) ≡ []
none_by true after x list more e = cc
none_by false after x list more e = more e

pub none_found : (after : ℕ) (list : List (ℕ × Word)) → next_above after list ≡ None → above after list ≡ []
none_found after [] e = refl
none_found after (x ∷ list) e = none_by (nat_lt after x.0) after x list (none_found after list) e

-- the lines of those up to a number went out
pub record Behind (list : List (ℕ × Word)) (after : ℕ) (t u : Option (List ℕ)) : Type 0 where
  pub shown : List ℕ
  pub out : Appends t u shown
  pub rest : waiter_lines list ≡ shown ++ waiter_lines (above after list)

pub behind_none : (list : List (ℕ × Word)) (t : Option (List ℕ)) → Rises 0 list → Behind list 0 t t
behind_none list t rises = record { shown = []; out = Appends-nil t; rest = ap waiter_lines (sym (all_above 0 0 list (omega arith) rises)) }

pub behind_more : (list : List (ℕ × Word)) (after : ℕ) (one : ℕ × Word) (t u v : Option (List ℕ)) → Rises 0 list → next_above after list ≡ Some one → Behind list after t u → Appends u v (waiting_line one.0 one.1) → Behind list one.0 t v
behind_more list after one t u v rises next p q = record {
  shown = p.shown ++ waiting_line one.0 one.1;
  out = Appends-trans t u v p.shown (waiting_line one.0 one.1) p.out q;
  rest = p.rest ∙ ap (λ l. p.shown ++ waiter_lines l) (found 0 after one list rises next).0 ∙ sym (append_assoc p.shown (waiting_line one.0 one.1) (waiter_lines (above one.0 list)));
}

pub behind_cut : (list : List (ℕ × Word)) (after : ℕ) (one : ℕ × Word) (t u v : Option (List ℕ)) → Rises 0 list → next_above after list ≡ Some one → Behind list after t u → AppendsProper u v (waiting_line one.0 one.1) → AppendsProper t v (waiter_lines list)
behind_cut list after one t u v rises next p q =
    let all : waiter_lines list ≡ p.shown ++ (waiting_line one.0 one.1 ++ waiter_lines (above one.0 list)) = p.rest ∙ ap (λ l. p.shown ++ waiter_lines l) (found 0 after one list rises next).0 in
    subst (λ (l : List ℕ). AppendsProper t v l) (sym all) (proper_behind t u v p.shown (waiting_line one.0 one.1 ++ waiter_lines (above one.0 list)) p.out (proper_more u v (waiting_line one.0 one.1) (waiter_lines (above one.0 list)) q))

pub behind_all : (list : List (ℕ × Word)) (after : ℕ) (t u : Option (List ℕ)) → next_above after list ≡ None → Behind list after t u → Appends t u (waiter_lines list)
behind_all list after t u none p = subst (λ (l : List ℕ). Appends t u l) (sym (p.rest ∙ ap (λ l. p.shown ++ waiter_lines l) (none_found after list none) ∙ append-nil p.shown)) p.out

pub fewer_above : (list : List (ℕ × Word)) (after : ℕ) (one : ℕ × Word) → Rises 0 list → next_above after list ≡ Some one → length (above one.0 list) < length (above after list)
fewer_above list after one rises next = omega (arith, ap length (found 0 after one list rises next).0)
