-- Status lines, read.
use Rattle.std.proofs.Common.{◌≡◌, ◌≤◌, ◌-◌, ◌+◌, ◌*◌, ◌/◌, ◌%◌, ◌++◌, ◌∷◌, [], List, ℕ, suc, length, take, drop, min, arith, refl, sym, ap, ◌∙◌, subst, Bool, true, false, ◌&&◌, eqb, leb, inl, inr, ◌⊎◌, Option, Some, None, length-append, if◌then◌else◌}
use Rattle.std.specs.List.{list_all}
use Rattle.std.specs.Str.{bytes_eq}
use Rattle.std.specs.Char.{is_ascii_digit}
use Rattle.std.proofs.lemmas.Bool.{cases_Bool, eqb-true, and_parts, and_from, or_cases, leb-true, le-leb}
use Rattle.std.proofs.lemmas.List.{drop_at, take_all, drop-drop, take-append-drop}
use Rattle.std.proofs.lemmas.Slice.Eq.{bytes_eq-Decides}
use Rattle.dill_http.specs.declared.span.Span.{Span}
use Rattle.dill_http.specs.Bytes.{is_text}
use Rattle.dill_http.specs.Heads.{IsVersion, HasReason, ReadsStatus, own_version, old_version, is_code, code_digits}
use Rattle.dill_http.specs.Reading.{part, span, status_cut, code_of, are_code_digits, is_reason_end, is_version, IsStatusCut, StatusReads, LiesIn}

-- What the definition says of a version, a byte, three digits and the rest.
pub status_at : (v : List ℕ) (s a b c : ℕ) (end : List ℕ) → IsVersion v
    → status_cut (v ++ (s ∷ a ∷ b ∷ c ∷ end)) ≡ (if eqb s 32 && (are_code_digits (a ∷ b ∷ c ∷ []) && is_reason_end end) then Some (code_of (a ∷ b ∷ c ∷ []), span (min 13 (length (v ++ (s ∷ a ∷ b ∷ c ∷ end)))) (length (v ++ (s ∷ a ∷ b ∷ c ∷ end)))) else None)
unfolding status_cut
status_at v s a b c end (inl e) = rw e refl
status_at v s a b c end (inr e) = rw e refl

-- three digits and their number
digit_parts : (x y z : ℕ) → x ≤ 9 → y ≤ 9 → z ≤ 9 → ((x * 100 + y * 10 + z) / 100 ≡ x) × ((x * 100 + y * 10 + z) / 10 % 10 ≡ y) × ((x * 100 + y * 10 + z) % 10 ≡ z)
digit_parts x y z h k l =
    let a : (x * 100 + y * 10 + z) / 100 ≡ x = omega arith in
    let b : (x * 100 + y * 10 + z) / 10 ≡ x * 10 + y = omega arith in
    let c : (x * 10 + y) % 10 ≡ y = omega arith in
    let d : (x * 100 + y * 10 + z) % 10 ≡ z = omega arith in
    (a, ap (λ n. n % 10) b ∙ c, d)

digit_bounds : (a : ℕ) → is_ascii_digit a ≡ true → (48 ≤ a) × (a ≤ 57)
digit_bounds a h =
    let k = and_parts (leb 48 a) (leb a 57) h in
    (leb-true 48 a k.0, leb-true a 57 k.1)

digit_of : (a : ℕ) → 48 ≤ a → a ≤ 57 → is_ascii_digit a ≡ true
digit_of a h k = and_from (leb 48 a) (leb a 57) (le-leb 48 a h) (le-leb a 57 k)

-- the digits of a code make it again
pub code_again : (code : ℕ) → is_code code ≡ true → code_of (code_digits code) ≡ code
code_again code h = omega arith

pub digits_are : (code : ℕ) → is_code code ≡ true → are_code_digits (code_digits code) ≡ true
digits_are code h =
    let k = and_parts (leb 100 code) (leb code 999) h in
    let most : code ≤ 999 = leb-true code 999 k.1 in
    let first : is_ascii_digit (48 + code / 100) ≡ true = digit_of (48 + code / 100) (omega arith) (omega arith) in
    let second : is_ascii_digit (48 + code / 10 % 10) ≡ true = digit_of (48 + code / 10 % 10) (omega arith) (omega arith) in
    let third : is_ascii_digit (48 + code % 10) ≡ true = digit_of (48 + code % 10) (omega arith) (omega arith) in
    let same : is_code (code_of (code_digits code)) ≡ true = ap is_code (code_again code h) ∙ h in
    and_from (list_all is_ascii_digit (code_digits code)) (is_code (code_of (code_digits code)))
    (and_from (is_ascii_digit (48 + code / 100)) (list_all is_ascii_digit ((48 + code / 10 % 10) ∷ (48 + code % 10) ∷ [])) first
    (and_from (is_ascii_digit (48 + code / 10 % 10)) (list_all is_ascii_digit ((48 + code % 10) ∷ [])) second (and_from (is_ascii_digit (48 + code % 10)) true third refl)))
    same

-- such digits are those of their code
digits_again : (a b c : ℕ) → list_all is_ascii_digit (a ∷ b ∷ c ∷ []) ≡ true → code_digits (code_of (a ∷ b ∷ c ∷ [])) ≡ a ∷ b ∷ c ∷ []
digits_again a b c h =
    let k = and_parts (is_ascii_digit a) (list_all is_ascii_digit (b ∷ c ∷ [])) h in
    let l = and_parts (is_ascii_digit b) (list_all is_ascii_digit (c ∷ [])) k.1 in
    let m = and_parts (is_ascii_digit c) true l.1 in
    let x = digit_bounds a k.0 in
    let y = digit_bounds b l.0 in
    let z = digit_bounds c m.0 in
    let xl : 48 ≤ a = x.0 in
    let yl : 48 ≤ b = y.0 in
    let zl : 48 ≤ c = z.0 in
    let xr : a ≤ 57 = x.1 in
    let yr : b ≤ 57 = y.1 in
    let zr : c ≤ 57 = z.1 in
    let p = digit_parts (a - 48) (b - 48) (c - 48) (omega arith) (omega arith) (omega arith) in
    same (48 + code_of (a ∷ b ∷ c ∷ []) / 100) a (48 + code_of (a ∷ b ∷ c ∷ []) / 10 % 10) b (48 + code_of (a ∷ b ∷ c ∷ []) % 10) c
    (ap (λ n. 48 + n) p.0 ∙ (omega arith)) (ap (λ n. 48 + n) p.1 ∙ (omega arith)) (ap (λ n. 48 + n) p.2 ∙ (omega arith))
  where
    same : (x a y b z c : ℕ) → x ≡ a → y ≡ b → z ≡ c → x ∷ y ∷ z ∷ [] ≡ a ∷ b ∷ c ∷ []
    same x a y b z c e f g = cc

-- what a status line says
pub record Stated (line : List ℕ) (code : ℕ) (reason : List ℕ) : Type 0 where
  pub place : Span
  pub cut : status_cut line ≡ Some (code, place)
  pub reads : ReadsStatus line code reason
  pub second : part line place ≡ reason
  pub lies : LiesIn line place

version_length : (v : List ℕ) → IsVersion v → length v ≡ 8
version_length v (inl e) = ap length e
version_length v (inr e) = ap length e

-- where the reason lies, behind twelve bytes
place_of : ℕ → Span
place_of n = span (min 13 n) n

-- the reason, or nothing, behind twelve bytes
record Ends (line reason end : List ℕ) : Type 0 where
  told : HasReason end reason
  twelve : length line ≡ 12 + length end
  behind : drop 12 line ≡ end

reason_part : (line reason end : List ℕ) → Ends line reason end → part line (span (min 13 (length line)) (length line)) ≡ reason
reason_part line reason end k = elim k.told [
  | inl e ↦
      let n : length line ≡ 12 + length end = k.twelve in
      let m : length end ≡ suc (length reason) = ap length e in
      let from : min 13 (length line) ≡ 13 = omega arith in
      let d : drop 13 line ≡ reason = sym (drop-drop 1 12 line) ∙ ap (drop 1) (k.behind ∙ e) in
      let t : length line - 13 ≡ length reason = omega arith in
      ap (λ j. take (length line - j) (drop j line)) from ∙ ap (take (length line - 13)) d ∙ take_all (length line - 13) reason (omega arith)
  | inr e ↦
      let n : length line ≡ 12 + length end = k.twelve in
      let m : length end ≡ 0 = ap length e.0 in
      let t : length line - min 13 (length line) ≡ 0 = omega arith in
      ap (λ j. take j (drop (min 13 (length line)) line)) t ∙ sym e.1
]

reason_lies : (line reason end : List ℕ) → Ends line reason end → LiesIn line (span (min 13 (length line)) (length line))
reason_lies line reason end k = record { forward = omega arith; there = omega arith }

ends_of : (v : List ℕ) (a b c : ℕ) (reason end : List ℕ) → IsVersion v → HasReason end reason → Ends (v ++ (32 ∷ a ∷ b ∷ c ∷ end)) reason end
ends_of v a b c reason end h t =
    let n : length (v ++ (32 ∷ a ∷ b ∷ c ∷ end)) ≡ length v + length (32 ∷ a ∷ b ∷ c ∷ end) = length-append v (32 ∷ a ∷ b ∷ c ∷ end) in
    let m : length v ≡ 8 = version_length v h in
    record {
      told = t;
      twelve = omega arith;
      behind = sym (drop-drop 4 8 (v ++ (32 ∷ a ∷ b ∷ c ∷ end))) ∙ ap (drop 4) (drop_at v (32 ∷ a ∷ b ∷ c ∷ end) 8 m);
    }

reason_ends : (end reason : List ℕ) → HasReason end reason → is_text reason ≡ true → is_reason_end end ≡ true
reason_ends end reason (inl e) h = ap is_reason_end e ∙ h
reason_ends end reason (inr e) h = ap is_reason_end e.0

if_true : {A : Type 0} (x : Bool) (k : A) → x ≡ true → (if x then Some k else None) ≡ Some k
if_true true k e = refl
if_true false k e = absurd (cc)

-- A status line is cut behind its version and its code.
pub status_found : (line : List ℕ) (code : ℕ) (reason : List ℕ) → ReadsStatus line code reason → Stated line code reason
status_found line code reason k =
    let forms = and_parts (is_code code) (is_text reason) k.right in
    let a : ℕ = 48 + code / 100 in
    let b : ℕ = 48 + code / 10 % 10 in
    let c : ℕ = 48 + code % 10 in
    let whole : List ℕ = k.version ++ (32 ∷ a ∷ b ∷ c ∷ k.end) in
    let e : line ≡ whole = k.whole in
    let ends : Ends whole reason k.end = ends_of k.version a b c reason k.end k.known k.told in
    let test : (are_code_digits (code_digits code) && is_reason_end k.end) ≡ true = and_from (are_code_digits (code_digits code)) (is_reason_end k.end) (digits_are code forms.0) (reason_ends k.end reason k.told forms.1) in
    let cut : status_cut whole ≡ Some (code, span (min 13 (length whole)) (length whole)) =
    status_at k.version 32 a b c k.end k.known
    ∙ if_true (are_code_digits (code_digits code) && is_reason_end k.end) (code_of (code_digits code), span (min 13 (length whole)) (length whole)) test
    ∙ ap (λ n. Some (n, span (min 13 (length whole)) (length whole))) (code_again code forms.0) in
    let here : ReadsStatus whole code reason = subst (λ (x : List ℕ). ReadsStatus x code reason) e k in
    let stated : Stated whole code reason = record { place = span (min 13 (length whole)) (length whole); cut = cut; reads = here; second = reason_part whole reason k.end ends; lies = reason_lies whole reason k.end ends } in
    subst (λ (x : List ℕ). Stated x code reason) (sym e) stated

pub record AnyStated (line : List ℕ) : Type 0 where
  pub code : ℕ
  pub reason : List ℕ
  pub stated : Stated line code reason

record Versioned (line : List ℕ) : Type 0 where
  version : List ℕ
  known : IsVersion version
  rest : List ℕ
  whole : line ≡ version ++ rest

version_of : (line : List ℕ) → is_version (take 8 line) ≡ true → Versioned line
version_of line h = elim (or_cases (bytes_eq (take 8 line) own_version) (bytes_eq (take 8 line) old_version) h) [
  | inl e ↦ record { version = own_version; known = inl refl; rest = drop 8 line; whole = sym (take-append-drop 8 line) ∙ ap (λ x. x ++ drop 8 line) ((bytes_eq-Decides (take 8 line) own_version).0 e) }
  | inr e ↦ record { version = old_version; known = inr refl; rest = drop 8 line; whole = sym (take-append-drop 8 line) ∙ ap (λ x. x ++ drop 8 line) ((bytes_eq-Decides (take 8 line) old_version).0 e) }
]

record Reason (end : List ℕ) : Type 0 where
  reason : List ℕ
  told : HasReason end reason
  text : is_text reason ≡ true

reason_of : (end : List ℕ) → is_reason_end end ≡ true → Reason end
reason_of [] h = record { reason = []; told = inr (refl, refl); text = refl }
reason_of (b ∷ reason) h =
    let k = and_parts (eqb b 32) (is_text reason) h in
    record { reason = reason; told = inl (ap (λ x. x ∷ reason) (eqb-true b 32 k.0)); text = k.1 }

stated_here : (v : List ℕ) (s a b c : ℕ) (end : List ℕ) → IsVersion v → (eqb s 32 && (are_code_digits (a ∷ b ∷ c ∷ []) && is_reason_end end)) ≡ true → AnyStated (v ++ (s ∷ a ∷ b ∷ c ∷ end))
stated_here v s a b c end h e =
    let digits : List ℕ = a ∷ b ∷ c ∷ [] in
    let k = and_parts (eqb s 32) (are_code_digits digits && is_reason_end end) e in
    let l = and_parts (are_code_digits digits) (is_reason_end end) k.1 in
    let m = and_parts (list_all is_ascii_digit digits) (is_code (code_of digits)) l.0 in
    let r : Reason end = reason_of end l.1 in
    let reads : ReadsStatus (v ++ (s ∷ a ∷ b ∷ c ∷ end)) (code_of digits) r.reason = record {
      right = and_from (is_code (code_of digits)) (is_text r.reason) m.1 r.text;
      version = v;
      known = h;
      end = end;
      told = r.told;
      whole = ap (λ x. v ++ (x ∷ a ∷ b ∷ c ∷ end)) (eqb-true s 32 k.0) ∙ ap (λ x. v ++ (32 ∷ x ++ end)) (sym (digits_again a b c m.0));
    } in
    record { code = code_of digits; reason = r.reason; stated = status_found (v ++ (s ∷ a ∷ b ∷ c ∷ end)) (code_of digits) r.reason reads }

if_false : {A : Type 0} (x : Bool) (k : A) → x ≡ false → (if x then Some k else None) ≡ None
if_false true k e = absurd (cc)
if_false false k e = refl

-- What the definition says of a version and of what stands behind it, be it too short.
status_behind : (v : List ℕ) (s : ℕ) (rest : List ℕ) → IsVersion v
    → status_cut (v ++ (s ∷ rest)) ≡ (if eqb s 32 && (are_code_digits (take 3 rest) && is_reason_end (drop 3 rest)) then Some (code_of (take 3 rest), span (min 13 (length (v ++ (s ∷ rest)))) (length (v ++ (s ∷ rest)))) else None)
unfolding status_cut
status_behind v s rest (inl e) = rw e refl
status_behind v s rest (inr e) = rw e refl

too_few : (v : List ℕ) (s : ℕ) (rest : List ℕ) → IsVersion v → are_code_digits (take 3 rest) ≡ false → status_cut (v ++ (s ∷ rest)) ≡ None
too_few v s rest h f = status_behind v s rest h ∙ never (eqb s 32) (are_code_digits (take 3 rest)) (is_reason_end (drop 3 rest)) (code_of (take 3 rest), span (min 13 (length (v ++ (s ∷ rest)))) (length (v ++ (s ∷ rest)))) f
  where
    never : (x y z : Bool) (k : ℕ × Span) → y ≡ false → (if x && (y && z) then Some k else None) ≡ None
    never x true z k e = absurd (cc)
    never true false z k e = refl
    never false false z k e = refl

version_alone : (v : List ℕ) → IsVersion v → status_cut (v ++ []) ≡ None
unfolding status_cut
version_alone v (inl e) = rw e refl
version_alone v (inr e) = rw e refl

stated_behind : (v rest : List ℕ) → IsVersion v → AnyStated (v ++ rest) ⊎ (status_cut (v ++ rest) ≡ None)
stated_behind v [] h = inr (version_alone v h)
stated_behind v (s ∷ []) h = inr (too_few v s [] h refl)
stated_behind v (s ∷ a ∷ []) h = inr (too_few v s (a ∷ []) h refl)
stated_behind v (s ∷ a ∷ b ∷ []) h = inr (too_few v s (a ∷ b ∷ []) h refl)
stated_behind v (s ∷ a ∷ b ∷ c ∷ end) h = elim (cases_Bool (eqb s 32 && (are_code_digits (a ∷ b ∷ c ∷ []) && is_reason_end end))) [
  | inl e ↦ inl (stated_here v s a b c end h e)
  | inr e ↦ inr (status_at v s a b c end h ∙ if_false (eqb s 32 && (are_code_digits (a ∷ b ∷ c ∷ []) && is_reason_end end)) (code_of (a ∷ b ∷ c ∷ []), span (min 13 (length (v ++ (s ∷ a ∷ b ∷ c ∷ end)))) (length (v ++ (s ∷ a ∷ b ∷ c ∷ end)))) e)
]

-- no version, no status line
no_version : (line : List ℕ) → is_version (take 8 line) ≡ false → status_cut line ≡ None
unfolding status_cut
no_version line e = rw e refl

stated_of : (line : List ℕ) → AnyStated line ⊎ (status_cut line ≡ None)
stated_of line = elim (cases_Bool (is_version (take 8 line))) [
  | inl e ↦
      let v : Versioned line = version_of line e in
      subst (λ (x : List ℕ). AnyStated x ⊎ (status_cut x ≡ None)) (sym v.whole) (stated_behind v.version v.rest v.known)
  | inr e ↦ inr (no_version line e)
]

-- what the code and the span hold is what the line says, and nothing where it says nothing
pub status_is_cut : (line : List ℕ) → IsStatusCut line (status_cut line)
status_is_cut line = elim (stated_of line) [
  | inl a ↦
      let k : Stated line a.code a.reason = a.stated in
      let reads : StatusReads line a.code k.place = record { lies = k.lies; reads = subst (λ (x : List ℕ). ReadsStatus line a.code x) (sym k.second) k.reads } in
      subst (IsStatusCut line) (sym k.cut) reads
  | inr e ↦ subst (IsStatusCut line) (sym e) (λ code reason k.
      let f : Stated line code reason = status_found line code reason k in
      clash (status_cut line) (code, f.place) f.cut e)
]
  where
    clash : (o : Option (ℕ × Span)) (k : ℕ × Span) → o ≡ Some k → o ≡ None → ⊥
    clash o k e f = cc
