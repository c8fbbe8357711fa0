-- Bytes that go out one after the other.
use Rattle.std.proofs.Common.{◌≡◌, ◌∙◌, ℕ, ◌+◌, ◌/◌, ◌%◌, ◌<◌, Result, Ok, Err, OnErr, OnOk, get_or, subst, take-append-drop, List, [], ◌∷◌, ◌++◌, length, take, drop, Option, Some, None, refl, sym, ap, arith, length-append, append_assoc}
use Rattle.std.proofs.lemmas.List.{append-nil, take_more}
use Rattle.std.specs.Io.KnownBytes.{Appends}
use Rattle.dill_base.specs.Sinks.{AppendsPart}
use Rattle.relay_trace.specs.Flows.{AppendsProper, Flows}
use Rattle.relay_trace.specs.Lines.{hex_of, hex_digit}

pub appends_none : (a : Option (List ℕ)) → Appends a a []
appends_none None = tt
appends_none (Some xs) = sym (append-nil xs)

pub appends_trans : (a b c : Option (List ℕ)) (x y : List ℕ) → Appends a b x → Appends b c y → Appends a c (x ++ y)
appends_trans None b c x y p q = tt
appends_trans (Some xs) None c x y p q = absurd p
appends_trans (Some xs) (Some ys) None x y p q = absurd q
appends_trans (Some xs) (Some ys) (Some zs) x y p q = q ∙ ap (λ (l : List ℕ). l ++ y) p ∙ append_assoc xs x y

-- nothing went out yet
pub flows_none : (a : Option (List ℕ)) (x : List ℕ) → Flows a a x x
flows_none a x = ([], appends_none a, refl)

-- more comes behind what is left, and some of it goes out
pub flows_trans : (a b c : Option (List ℕ)) (x left y left' : List ℕ) → Flows a b x left → Flows b c (left ++ y) left' → Flows a c (x ++ y) left'
flows_trans a b c x left y left' p q =
    (p.0 ++ q.0, appends_trans a b c p.0 q.0 p.1 q.1, ap (λ (l : List ℕ). l ++ y) p.2 ∙ append_assoc p.0 left y ∙ ap (λ (l : List ℕ). p.0 ++ l) q.2 ∙ sym (append_assoc p.0 q.0 left'))

-- a proper part of what is left, and of more behind it
pub proper_after : (a b c : Option (List ℕ)) (x left y : List ℕ) → Flows a b x left → AppendsProper b c (left ++ y) → AppendsProper a c (x ++ y)
proper_after a b c x left y p q = record {
  part = p.0 ++ q.part;
  is = record { rest = q.is.rest; whole = ap (λ (l : List ℕ). l ++ y) p.2 ∙ append_assoc p.0 left y ∙ ap (λ (l : List ℕ). p.0 ++ l) q.is.whole ∙ sym (append_assoc p.0 q.part q.is.rest); proper = q.is.proper };
  out = appends_trans a b c p.0 q.part p.1 q.out;
}

-- a proper part is one of more bytes too
pub proper_more : (a b : Option (List ℕ)) (x y : List ℕ) → AppendsProper a b x → AppendsProper a b (x ++ y)
proper_more a b x y q = record {
  part = q.part;
  is = record { rest = q.is.rest ++ y; whole = ap (λ (l : List ℕ). l ++ y) q.is.whole ∙ append_assoc q.part q.is.rest y; proper = omega (arith, q.is.proper, length-append q.is.rest y) };
  out = q.out;
}

-- a part of a piece that isn't empty is a proper one
pub proper_of_part : (a b : Option (List ℕ)) (x : List ℕ) → 0 < length x → AppendsPart a b x → AppendsProper a b x
proper_of_part a b x some (part, is, out) = record { part = part; is = record { rest = is.rest; whole = is.whole; proper = is.proper some }; out = out }

pub on_err : {T E : Type 0} {P : Type 0} (r : Result T E) → P → OnErr r P
on_err (Ok x) p = tt
on_err (Err e) p = p

pub on_ok : {T E : Type 0} {P : Type 0} (r : Result T E) → P → OnOk r P
on_ok (Ok x) p = p
on_ok (Err e) p = tt

-- one more byte of the list
pub one_more : (s bs : List ℕ) (i d : ℕ) → i < length bs → (s ++ take i bs) ++ get_or bs i d ∷ [] ≡ s ++ take (i + 1) bs
one_more s bs i d lt = append_assoc s (take i bs) (get_or bs i d ∷ []) ∙ ap (λ (l : List ℕ). s ++ l) (sym (take_more bs i d lt))

pub flows_more : (a b c : Option (List ℕ)) (s bs left left' : List ℕ) (i d : ℕ) → i < length bs → Flows a b (s ++ take i bs) left → Flows b c (left ++ get_or bs i d ∷ []) left' → Flows a c (s ++ take (i + 1) bs) left'
flows_more a b c s bs left left' i d lt p q = subst (λ (l : List ℕ). Flows a c l left') (one_more s bs i d lt) (flows_trans a b c (s ++ take i bs) left (get_or bs i d ∷ []) left' p q)

pub proper_of_more : (a b c : Option (List ℕ)) (s bs left : List ℕ) (i d : ℕ) → i < length bs → Flows a b (s ++ take i bs) left → AppendsProper b c (left ++ get_or bs i d ∷ []) → AppendsProper a c (s ++ bs)
proper_of_more a b c s bs left i d lt p q =
    let part : AppendsProper a c (s ++ take (i + 1) bs) = subst (λ (l : List ℕ). AppendsProper a c l) (one_more s bs i d lt) (proper_after a b c (s ++ take i bs) left (get_or bs i d ∷ []) p q) in
    subst (λ (l : List ℕ). AppendsProper a c l) (append_assoc s (take (i + 1) bs) (drop (i + 1) bs) ∙ ap (λ (l : List ℕ). s ++ l) (take-append-drop (i + 1) bs)) (proper_more a c (s ++ take (i + 1) bs) (drop (i + 1) bs) part)

pub on_err_map : {T E : Type 0} {P Q : Type 0} (r : Result T E) → (P → Q) → OnErr r P → OnErr r Q
on_err_map (Ok x) f p = tt
on_err_map (Err e) f p = f p

pub on_ok_map : {T E : Type 0} {P Q : Type 0} (r : Result T E) → (P → Q) → OnOk r P → OnOk r Q
on_ok_map (Ok x) f p = f p
on_ok_map (Err e) f p = tt

-- a proper part of all that is left
pub proper_last : (a b c : Option (List ℕ)) (x left : List ℕ) → Flows a b x left → AppendsProper b c left → AppendsProper a c x
proper_last a b c x left p q = record {
  part = p.0 ++ q.part;
  is = record { rest = q.is.rest; whole = p.2 ∙ ap (λ (l : List ℕ). p.0 ++ l) q.is.whole ∙ sym (append_assoc p.0 q.part q.is.rest); proper = q.is.proper };
  out = appends_trans a b c p.0 q.part p.1 q.out;
}

-- a proper part of what comes behind bytes that went out
pub proper_behind : (a b c : Option (List ℕ)) (x y : List ℕ) → Appends a b x → AppendsProper b c y → AppendsProper a c (x ++ y)
proper_behind a b c x y p q = record {
  part = x ++ q.part;
  is = record { rest = q.is.rest; whole = ap (λ (l : List ℕ). x ++ l) q.is.whole ∙ sym (append_assoc x q.part q.is.rest); proper = q.is.proper };
  out = appends_trans a b c x q.part p q.out;
}

-- digits of bytes one after the other
pub hex_append : (xs ys : List ℕ) → hex_of (xs ++ ys) ≡ hex_of xs ++ hex_of ys
hex_append [] ys = refl
hex_append (x ∷ xs) ys = ap (λ (l : List ℕ). hex_digit (x / 16) ∷ hex_digit (x % 16) ∷ l) (hex_append xs ys)

one_hex_more : (s bs : List ℕ) (i d : ℕ) → i < length bs → (s ++ hex_of (take i bs)) ++ hex_of (get_or bs i d ∷ []) ≡ s ++ hex_of (take (i + 1) bs)
one_hex_more s bs i d lt =
    append_assoc s (hex_of (take i bs)) (hex_of (get_or bs i d ∷ [])) ∙ ap (λ (l : List ℕ). s ++ l) (sym (hex_append (take i bs) (get_or bs i d ∷ []))) ∙ ap (λ (l : List ℕ). s ++ hex_of l) (sym (take_more bs i d lt))

pub flows_more_hex : (a b c : Option (List ℕ)) (s bs left left' pair : List ℕ) (i d : ℕ) → i < length bs → pair ≡ hex_of (get_or bs i d ∷ []) → Flows a b (s ++ hex_of (take i bs)) left → Flows b c (left ++ pair) left'
    → Flows a c (s ++ hex_of (take (i + 1) bs)) left'
flows_more_hex a b c s bs left left' pair i d lt is p q =
    let here : Flows b c (left ++ hex_of (get_or bs i d ∷ [])) left' = subst (λ (l : List ℕ). Flows b c (left ++ l) left') is q in
    subst (λ (l : List ℕ). Flows a c l left') (one_hex_more s bs i d lt) (flows_trans a b c (s ++ hex_of (take i bs)) left (hex_of (get_or bs i d ∷ [])) left' p here)

pub proper_of_more_hex : (a b c : Option (List ℕ)) (s bs left pair : List ℕ) (i d : ℕ) → i < length bs → pair ≡ hex_of (get_or bs i d ∷ []) → Flows a b (s ++ hex_of (take i bs)) left → AppendsProper b c (left ++ pair)
    → AppendsProper a c (s ++ hex_of bs)
proper_of_more_hex a b c s bs left pair i d lt is p q =
    let here : AppendsProper b c (left ++ hex_of (get_or bs i d ∷ [])) = subst (λ (l : List ℕ). AppendsProper b c (left ++ l)) is q in
    let part : AppendsProper a c (s ++ hex_of (take (i + 1) bs)) = subst (λ (l : List ℕ). AppendsProper a c l) (one_hex_more s bs i d lt) (proper_after a b c (s ++ hex_of (take i bs)) left (hex_of (get_or bs i d ∷ [])) p here) in
    let whole : hex_of (take (i + 1) bs) ++ hex_of (drop (i + 1) bs) ≡ hex_of bs = sym (hex_append (take (i + 1) bs) (drop (i + 1) bs)) ∙ ap hex_of (take-append-drop (i + 1) bs) in
    subst (λ (l : List ℕ). AppendsProper a c l) (append_assoc s (hex_of (take (i + 1) bs)) (hex_of (drop (i + 1) bs)) ∙ ap (λ (l : List ℕ). s ++ l) whole) (proper_more a c (s ++ hex_of (take (i + 1) bs)) (hex_of (drop (i + 1) bs)) part)

-- a line of four parts: what went out at each of them
pub flows_parts : (a b c d e : Option (List ℕ)) (s h x m y p q r left : List ℕ) → Flows a b (s ++ h) p → Flows b c (p ++ x) q → Flows c d (q ++ m) r → Flows d e (r ++ y) left → Flows a e (((((s ++ h) ++ x) ++ m) ++ y)) left
flows_parts a b c d e s h x m y p q r left f g k l =
    flows_trans a d e (((s ++ h) ++ x) ++ m) r y left (flows_trans a c d ((s ++ h) ++ x) q m r (flows_trans a b c (s ++ h) p x q f g) k) l

pub proper_first : (a b : Option (List ℕ)) (s h x m y : List ℕ) → AppendsProper a b (s ++ h) → AppendsProper a b (((((s ++ h) ++ x) ++ m) ++ y))
proper_first a b s h x m y f = proper_more a b (((s ++ h) ++ x) ++ m) y (proper_more a b ((s ++ h) ++ x) m (proper_more a b (s ++ h) x f))

pub proper_second : (a b c : Option (List ℕ)) (s h x m y p : List ℕ) → Flows a b (s ++ h) p → AppendsProper b c (p ++ x) → AppendsProper a c (((((s ++ h) ++ x) ++ m) ++ y))
proper_second a b c s h x m y p f g = proper_more a c (((s ++ h) ++ x) ++ m) y (proper_more a c ((s ++ h) ++ x) m (proper_after a b c (s ++ h) p x f g))

pub proper_third : (a b c d : Option (List ℕ)) (s h x m y p q : List ℕ) → Flows a b (s ++ h) p → Flows b c (p ++ x) q → AppendsProper c d (q ++ m) → AppendsProper a d (((((s ++ h) ++ x) ++ m) ++ y))
proper_third a b c d s h x m y p q f g k = proper_more a d (((s ++ h) ++ x) ++ m) y (proper_after a c d ((s ++ h) ++ x) q m (flows_trans a b c (s ++ h) p x q f g) k)

pub proper_fourth : (a b c d e : Option (List ℕ)) (s h x m y p q r : List ℕ) → Flows a b (s ++ h) p → Flows b c (p ++ x) q → Flows c d (q ++ m) r → AppendsProper d e (r ++ y) → AppendsProper a e (((((s ++ h) ++ x) ++ m) ++ y))
proper_fourth a b c d e s h x m y p q r f g k l = proper_after a d e (((s ++ h) ++ x) ++ m) r y (flows_trans a c d ((s ++ h) ++ x) q m r (flows_trans a b c (s ++ h) p x q f g) k) l

-- what is left goes out with the line's end
pub appends_last : (a b c : Option (List ℕ)) (x left y : List ℕ) → Flows a b x left → Appends b c (left ++ y) → Appends a c (x ++ y)
appends_last a b c x left y p q = subst (λ (l : List ℕ). Appends a c l) (sym (append_assoc p.0 left y) ∙ ap (λ (l : List ℕ). l ++ y) (sym p.2)) (appends_trans a b c p.0 (left ++ y) p.1 q)
