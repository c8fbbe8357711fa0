-- Field lines, read.
use Rattle.std.proofs.Common.{◌≡◌, ◌-◌, ◌+◌, ◌++◌, ◌∷◌, [], List, ℕ, suc, length, take, drop, arith, refl, sym, ap, ◌∙◌, subst, Bool, true, false, not, ◌&&◌, eqb, nat_lt, inl, inr, ◌⊎◌, Option, Some, None, length-append, if◌then◌else◌}
use Rattle.std.specs.List.{list_all, prefix_len, suffix_len}
use Rattle.std.proofs.lemmas.Bool.{cases_Bool, eqb-true, and_parts, and_from, or_cases, not-true}
use Rattle.std.proofs.lemmas.List.{take_at, drop_at, append-nil}
use Rattle.std.proofs.lemmas.List.Folds.{list_all-append}
use Rattle.std.proofs.Math.Seq.{drop-append-add}
use Rattle.dill_http.specs.declared.span.Span.{Span}
use Rattle.dill_http.specs.declared.span.Cut.{Cut}
use Rattle.dill_http.specs.Bytes.{is_token_byte, is_text_byte, is_blank, is_token, is_text, is_bare, begins_with, ends_with}
use Rattle.dill_http.specs.Heads.{Field, ReadsField}
use Rattle.dill_http.specs.Reading.{part, span, cut_at, field_cut, field_of, token_length, bare_from, IsCut, CutReads, LiesIn}
use Rattle.dill_http.proofs.Runs.{Run, run_of, length_of_run}
use Rattle.dill_http.proofs.Tails.{Tail, tail_of, length_of_tail}
use Rattle.dill_http.proofs.Requests.{byte_behind, none_behind, part_first}

pub no_token_colon : is_token_byte 58 ≡ false
unfolding is_token_byte
no_token_colon = refl

pub field_at : (c : List ℕ) (b : ℕ) (tail : List ℕ) → list_all is_token_byte c ≡ true → is_token_byte b ≡ false
    → field_cut (c ++ (b ∷ tail)) ≡ (if nat_lt 0 (length c) && (eqb b 58 && is_text tail) then Some (cut_at (span 0 (length c)) (bare_from (c ++ (b ∷ tail)) (length c + 1))) else None)
unfolding field_cut
field_at c b tail h s =
    let line : List ℕ = c ++ (b ∷ tail) in
    ap (field_of line) (length_of_run is_token_byte c (b ∷ tail) h s)
    ∙ ap (λ z. if nat_lt 0 (length c) && (eqb z 58 && is_text (drop (length c + 1) line)) then Some (cut_at (span 0 (length c)) (bare_from line (length c + 1))) else None) (byte_behind c b tail)
    ∙ ap (λ z. if nat_lt 0 (length c) && (eqb b 58 && is_text z) then Some (cut_at (span 0 (length c)) (bare_from line (length c + 1))) else None) (drop-append-add c (b ∷ tail) 1)

-- a token alone is none
field_alone : (c : List ℕ) → list_all is_token_byte c ≡ true → field_cut c ≡ None
unfolding field_cut
field_alone c h =
    let n : token_length c ≡ length c = ap token_length (sym (append-nil c)) ∙ length_of_run is_token_byte c [] h refl in
    ap (field_of c) n
    ∙ ap (λ z. if nat_lt 0 (length c) && (eqb z 58 && is_text (drop (length c + 1) c)) then Some (cut_at (span 0 (length c)) (bare_from c (length c + 1))) else None) (none_behind c)
    ∙ never (cut_at (span 0 (length c)) (bare_from c (length c + 1))) (nat_lt 0 (length c)) (is_text (drop (length c + 1) c))
  where
    never : (k : Cut) (a x : Bool) → (if a && (false && x) then Some k else None) ≡ None
    never k true x = refl
    never k false x = refl

-- where a value lies between its blanks
pub bare_at : (c : List ℕ) (b : ℕ) (x v y : List ℕ) → list_all is_blank x ≡ true → list_all is_blank y ≡ true → begins_with is_blank (v ++ y) ≡ false → ends_with is_blank v ≡ false
    → bare_from (c ++ (b ∷ (x ++ (v ++ y)))) (length c + 1) ≡ span (length c + 1 + length x) (length c + 1 + length x + length v)
bare_at c b x v y hx hy hb he =
    let line : List ℕ = c ++ (b ∷ (x ++ (v ++ y))) in
    let d : drop (length c + 1) line ≡ x ++ (v ++ y) = drop-append-add c (b ∷ (x ++ (v ++ y))) 1 in
    let n : prefix_len is_blank (drop (length c + 1) line) ≡ length x = ap (prefix_len is_blank) d ∙ length_of_run is_blank x (v ++ y) hx hb in
    let i : length c + 1 + length x ≡ length c + suc (length x) = omega arith in
    let e : drop (length c + 1 + length x) line ≡ v ++ y = ap (λ j. drop j line) i ∙ drop-append-add c (b ∷ (x ++ (v ++ y))) (suc (length x)) ∙ drop_at x (v ++ y) (length x) refl in
    let s : suffix_len is_blank (drop (length c + 1 + length x) line) ≡ length y = ap (suffix_len is_blank) e ∙ length_of_tail is_blank v y hy he in
    let l : length line ≡ length c + suc (length x + (length v + length y)) = length-append c (b ∷ (x ++ (v ++ y))) ∙ ap (λ k. length c + suc k) (length-append x (v ++ y) ∙ ap (λ k. length x + k) (length-append v y)) in
    let to : length line - suffix_len is_blank (drop (length c + 1 + length x) line) ≡ length c + 1 + length x + length v = omega arith in
    ap (λ k. span (length c + 1 + k) (length line - suffix_len is_blank (drop (length c + 1 + k) line))) n ∙ ap (span (length c + 1 + length x)) to

part_bare : (c : List ℕ) (b : ℕ) (x v y : List ℕ) → part (c ++ (b ∷ (x ++ (v ++ y)))) (span (length c + 1 + length x) (length c + 1 + length x + length v)) ≡ v
part_bare c b x v y =
    let line : List ℕ = c ++ (b ∷ (x ++ (v ++ y))) in
    let i : length c + 1 + length x ≡ length c + suc (length x) = omega arith in
    let e : drop (length c + 1 + length x) line ≡ v ++ y = ap (λ j. drop j line) i ∙ drop-append-add c (b ∷ (x ++ (v ++ y))) (suc (length x)) ∙ drop_at x (v ++ y) (length x) refl in
    let z : length c + 1 + length x + length v - (length c + 1 + length x) ≡ length v = omega arith in
    ap (take (length c + 1 + length x + length v - (length c + 1 + length x))) e ∙ ap (λ n. take n (v ++ y)) z ∙ take_at v y (length v) refl

-- blanks are text
blank_text : (x : List ℕ) → list_all is_blank x ≡ true → list_all is_text_byte x ≡ true
blank_text [] h = refl
blank_text (b ∷ x) h =
    let k = and_parts (is_blank b) (list_all is_blank x) h in
    and_from (is_text_byte b) (list_all is_text_byte x) (one_byte b (or_cases (eqb b 32) (eqb b 9) k.0)) (blank_text x k.1)
  where
    one_byte : (b : ℕ) → (eqb b 32 ≡ true) ⊎ (eqb b 9 ≡ true) → is_text_byte b ≡ true
    one_byte b (inl e) = ap is_text_byte (eqb-true b 32 e)
    one_byte b (inr e) = ap is_text_byte (eqb-true b 9 e)

-- Blanks, a value with no blank at either end, and blanks: three parts of what stands behind the colon.
pub record Bare (tail value : List ℕ) : Type 0 where
  pub before : List ℕ
  pub after : List ℕ
  pub whole : tail ≡ before ++ (value ++ after)
  pub blank_before : list_all is_blank before ≡ true
  pub blank_after : list_all is_blank after ≡ true
  pub begins : begins_with is_blank (value ++ after) ≡ false
  pub ends : ends_with is_blank value ≡ false

record AnyBare (tail : List ℕ) : Type 0 where
  pub value : List ℕ
  pub bare : Bare tail value

bare_of : (tail : List ℕ) → AnyBare tail
bare_of tail =
    let r : Run is_blank tail = run_of is_blank tail in
    let t : Tail is_blank r.rest = tail_of is_blank r.rest in
    record {
      value = t.text;
      bare = record {
        before = r.text;
        after = t.rest;
        whole = r.whole ∙ ap (λ x. r.text ++ x) t.whole;
        blank_before = r.all;
        blank_after = t.all;
        begins = ap (begins_with is_blank) (sym t.whole) ∙ r.stop;
        ends = t.last;
      };
    }

begins_of : (v y : List ℕ) → begins_with is_blank (v ++ y) ≡ false → begins_with is_blank v ≡ false
begins_of [] y h = refl
begins_of (b ∷ v) y h = h

-- what a field line says
pub record Named (line name value : List ℕ) : Type 0 where
  pub place : Span
  pub cut : field_cut line ≡ Some (cut_at (span 0 (length name)) place)
  pub reads : ReadsField line name value
  pub first : part line (span 0 (length name)) ≡ name
  pub second : part line place ≡ value
  pub named : LiesIn line (span 0 (length name))
  pub lies : LiesIn line place

-- a name, a byte, and the parts behind it
named_here : (c : List ℕ) (b : ℕ) (tail v : List ℕ) → list_all is_token_byte c ≡ true → is_token_byte b ≡ false → Bare tail v → nat_lt 0 (length c) ≡ true → eqb b 58 ≡ true → is_text tail ≡ true → Named (c ++ (b ∷ tail)) c v
named_here c b tail v h s k o p q =
    let text = and_parts (list_all is_text_byte k.before) (list_all is_text_byte (v ++ k.after)) (sym (list_all-append is_text_byte k.before (v ++ k.after)) ∙ ap (list_all is_text_byte) (sym k.whole) ∙ q) in
    let value = and_parts (list_all is_text_byte v) (list_all is_text_byte k.after) (sym (list_all-append is_text_byte v k.after) ∙ text.1) in
    let begins : begins_with is_blank v ≡ false = begins_of v k.after k.begins in
    let bare : bare_from (c ++ (b ∷ tail)) (length c + 1) ≡ span (length c + 1 + length k.before) (length c + 1 + length k.before + length v) = ap (λ x. bare_from (c ++ (b ∷ x)) (length c + 1)) k.whole ∙ bare_at c b k.before v k.after k.blank_before k.blank_after k.begins k.ends in
    let test : (nat_lt 0 (length c) && (eqb b 58 && is_text tail)) ≡ true = and_from (nat_lt 0 (length c)) (eqb b 58 && is_text tail) o (and_from (eqb b 58) (is_text tail) p q) in
    let l : length (c ++ (b ∷ tail)) ≡ length c + suc (length k.before + (length v + length k.after)) = length-append c (b ∷ tail) ∙ ap (λ n. length c + suc n) (ap length k.whole ∙ length-append k.before (v ++ k.after) ∙ ap (λ n. length k.before + n) (length-append v k.after)) in
    record {
      place = span (length c + 1 + length k.before) (length c + 1 + length k.before + length v);
      cut = field_at c b tail h s ∙ if_true (nat_lt 0 (length c) && (eqb b 58 && is_text tail)) (cut_at (span 0 (length c)) (bare_from (c ++ (b ∷ tail)) (length c + 1))) test ∙ ap (λ z. Some (cut_at (span 0 (length c)) z)) bare;
      reads = record {
        right = and_from (is_token c) (is_text v && is_bare v) (and_from (nat_lt 0 (length c)) (list_all is_token_byte c) o h) (and_from (is_text v) (is_bare v) value.0 (bare_both (begins_with is_blank v) (ends_with is_blank v) begins k.ends));
        before = k.before;
        after = k.after;
        blank = and_from (list_all is_blank k.before) (list_all is_blank k.after) k.blank_before k.blank_after;
        whole = ap (λ x. c ++ (x ∷ tail)) (eqb-true b 58 p) ∙ ap (λ x. c ++ (58 ∷ x)) k.whole;
      };
      first = part_first c (b ∷ tail);
      second = ap (λ x. part (c ++ (b ∷ x)) (span (length c + 1 + length k.before) (length c + 1 + length k.before + length v))) k.whole ∙ part_bare c b k.before v k.after;
      named = record { forward = omega arith; there = omega arith };
      lies = record { forward = omega arith; there = omega arith };
    }
  where
    if_true : (x : Bool) (k : Cut) → x ≡ true → (if x then Some k else None) ≡ Some k
    if_true true k e = refl
    if_true false k e = absurd (cc)

    bare_both : (x y : Bool) → x ≡ false → y ≡ false → (not x && not y) ≡ true
    bare_both true y e f = absurd (cc)
    bare_both false true e f = absurd (cc)
    bare_both false false e f = refl

unless_true : (x : Bool) (k : Cut) → x ≡ false → (if x then Some k else None) ≡ None
unless_true true k e = absurd (cc)
unless_true false k e = refl

pub record AnyNamed (line : List ℕ) : Type 0 where
  pub name : List ℕ
  pub value : List ℕ
  pub named : Named line name value

named_at : (c : List ℕ) (b : ℕ) (tail : List ℕ) → list_all is_token_byte c ≡ true → is_token_byte b ≡ false → AnyNamed (c ++ (b ∷ tail)) ⊎ (field_cut (c ++ (b ∷ tail)) ≡ None)
named_at c b tail h s = elim (cases_Bool (nat_lt 0 (length c) && (eqb b 58 && is_text tail))) [
  | inl e ↦
      let k = and_parts (nat_lt 0 (length c)) (eqb b 58 && is_text tail) e in
      let j = and_parts (eqb b 58) (is_text tail) k.1 in
      let v : AnyBare tail = bare_of tail in
      inl (record { name = c; value = v.value; named = named_here c b tail v.value h s v.bare k.0 j.0 j.1 })
  | inr e ↦ inr (field_at c b tail h s ∙ unless_true (nat_lt 0 (length c) && (eqb b 58 && is_text tail)) (cut_at (span 0 (length c)) (bare_from (c ++ (b ∷ tail)) (length c + 1))) e)
]

named_behind : (c rest : List ℕ) → list_all is_token_byte c ≡ true → begins_with is_token_byte rest ≡ false → AnyNamed (c ++ rest) ⊎ (field_cut (c ++ rest) ≡ None)
named_behind c [] h s = inr (ap field_cut (append-nil c) ∙ field_alone c h)
named_behind c (b ∷ tail) h s = named_at c b tail h s

named_of : (line : List ℕ) → AnyNamed line ⊎ (field_cut line ≡ None)
named_of line =
    let r : Run is_token_byte line = run_of is_token_byte line in
    subst (λ (x : List ℕ). AnyNamed x ⊎ (field_cut x ≡ None)) (sym r.whole) (named_behind r.text r.rest r.all r.stop)

-- the parts that a reader was given, where a value of no bytes leaves all blanks before it
bare_as : (before value after : List ℕ) → list_all is_blank before ≡ true → list_all is_blank after ≡ true → begins_with is_blank value ≡ false → ends_with is_blank value ≡ false → Bare (before ++ (value ++ after)) value
bare_as before [] after h k b e = record {
  before = before ++ after;
  after = [];
  whole = sym (append-nil (before ++ after));
  blank_before = list_all-append is_blank before after ∙ and_from (list_all is_blank before) (list_all is_blank after) h k;
  blank_after = refl;
  begins = refl;
  ends = refl;
}
bare_as before (x ∷ v) after h k b e = record { before = before; after = after; whole = refl; blank_before = h; blank_after = k; begins = b; ends = e }

-- a field line is cut behind its name, and round its value
pub field_found : (line name value : List ℕ) → ReadsField line name value → Named line name value
field_found line name value k =
    let forms = and_parts (is_token name) (is_text value && is_bare value) k.right in
    let token = and_parts (nat_lt 0 (length name)) (list_all is_token_byte name) forms.0 in
    let text = and_parts (is_text value) (is_bare value) forms.1 in
    let bare = and_parts (not (begins_with is_blank value)) (not (ends_with is_blank value)) text.1 in
    let blank = and_parts (list_all is_blank k.before) (list_all is_blank k.after) k.blank in
    let tail : List ℕ = k.before ++ (value ++ k.after) in
    let parts : Bare tail value = bare_as k.before value k.after blank.0 blank.1 (not-true (begins_with is_blank value) bare.0) (not-true (ends_with is_blank value) bare.1) in
    let all : is_text tail ≡ true =
    list_all-append is_text_byte k.before (value ++ k.after)
    ∙ and_from (list_all is_text_byte k.before) (list_all is_text_byte (value ++ k.after)) (blank_text k.before blank.0)
    (list_all-append is_text_byte value k.after ∙ and_from (list_all is_text_byte value) (list_all is_text_byte k.after) text.0 (blank_text k.after blank.1)) in
    let here : Named (name ++ (58 ∷ tail)) name value = named_here name 58 tail value token.1 no_token_colon parts token.0 refl all in
    subst (λ (x : List ℕ). Named x name value) (sym k.whole) here

cut_reads : (line name value : List ℕ) (k : Named line name value) → CutReads Field line (cut_at (span 0 (length name)) k.place)
cut_reads line name value k =
    let first : ReadsField line (part line (span 0 (length name))) value = subst (λ (x : List ℕ). ReadsField line x value) (sym k.first) k.reads in
    record {
      first = k.named;
      second = k.lies;
      reads = subst (λ (x : List ℕ). ReadsField line (part line (span 0 (length name))) x) (sym k.second) first;
    }

-- the cut is what the line says, and nothing where it says nothing
pub field_is_cut : (line : List ℕ) → IsCut Field line (field_cut line)
field_is_cut line = elim (named_of line) [
  | inl a ↦ subst (IsCut Field line) (sym a.named.cut) (cut_reads line a.name a.value a.named)
  | inr e ↦ subst (IsCut Field line) (sym e) (λ n v k.
      let f : Named line n v = field_found line n v k in
      clash (field_cut line) (cut_at (span 0 (length n)) f.place) f.cut e)
]
  where
    clash : (o : Option Cut) (k : Cut) → o ≡ Some k → o ≡ None → ⊥
    clash o k e f = cc
