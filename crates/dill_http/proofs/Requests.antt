-- Request lines, read.
use Rattle.std.proofs.Common.{◌≡◌, ◌≤◌, ◌-◌, ◌+◌, ◌++◌, ◌∷◌, [], List, ℕ, suc, length, take, drop, get_or, arith, refl, sym, ap, ◌∙◌, subst, Bool, true, false, ◌&&◌, eqb, nat_lt, inl, inr, ◌⊎◌, Option, Some, None, length-append, if◌then◌else◌}
use Rattle.std.specs.List.{list_all}
use Rattle.std.specs.Str.{bytes_eq}
use Rattle.std.proofs.lemmas.Bool.{cases_Bool, eqb-true, and_parts, and_from, or_cases}
use Rattle.std.proofs.lemmas.List.{append-nil, take_at, drop_at}
use Rattle.std.proofs.lemmas.Slice.Eq.{bytes_eq-Decides}
use Rattle.std.proofs.Math.Seq.{drop-append-add}
use Rattle.dill_http.specs.declared.span.Cut.{Cut}
use Rattle.dill_http.specs.Bytes.{is_token_byte, is_resource_byte, is_token, is_resource, begins_with}
use Rattle.dill_http.specs.Heads.{Request, IsVersion, ReadsRequest, own_version, old_version}
use Rattle.dill_http.specs.Reading.{part, span, cut_at, request_cut, request_of, token_length, resource_length, is_version_end, IsCut, CutReads}
use Rattle.dill_http.proofs.Runs.{Run, run_of, length_of_run}

pub byte_behind : (xs : List ℕ) (b : ℕ) (ys : List ℕ) → get_or (xs ++ (b ∷ ys)) (length xs) 0 ≡ b
byte_behind [] b ys = refl
byte_behind (x ∷ xs) b ys = byte_behind xs b ys

pub none_behind : (xs : List ℕ) → get_or xs (length xs) 0 ≡ 0
none_behind [] = refl
none_behind (x ∷ xs) = none_behind xs

pub no_token_space : is_token_byte 32 ≡ false
unfolding is_token_byte
no_token_space = refl

-- What the definition says of a token, a byte behind it, a resource and the rest.
pub request_at : (c : List ℕ) (b : ℕ) (r rest : List ℕ) → list_all is_token_byte c ≡ true → is_token_byte b ≡ false → list_all is_resource_byte r ≡ true → begins_with is_resource_byte rest ≡ false
    → request_cut (c ++ (b ∷ (r ++ rest))) ≡ (if nat_lt 0 (length c) && (eqb b 32 && (nat_lt 0 (length r) && is_version_end rest)) then Some (cut_at (span 0 (length c)) (span (length c + 1) (length c + 1 + length r))) else None)
unfolding request_cut
request_at c b r rest h s k t =
    let line : List ℕ = c ++ (b ∷ (r ++ rest)) in
    let n : token_length line ≡ length c = length_of_run is_token_byte c (b ∷ (r ++ rest)) h s in
    let d : drop (length c + 1) line ≡ r ++ rest = drop-append-add c (b ∷ (r ++ rest)) 1 in
    let m : resource_length (drop (length c + 1) line) ≡ length r = ap resource_length d ∙ length_of_run is_resource_byte r rest k t in
    let i : length c + 1 + length r ≡ length c + suc (length r) = omega arith in
    let e : drop (length c + 1 + length r) line ≡ rest = ap (λ j. drop j line) i ∙ drop-append-add c (b ∷ (r ++ rest)) (suc (length r)) ∙ drop_at r rest (length r) refl in
    ap (λ j. request_of line j (resource_length (drop (j + 1) line))) n
    ∙ ap (request_of line (length c)) m
    ∙ ap (λ z. if nat_lt 0 (length c) && (eqb z 32 && (nat_lt 0 (length r) && is_version_end (drop (length c + 1 + length r) line))) then Some (cut_at (span 0 (length c)) (span (length c + 1) (length c + 1 + length r))) else None) (byte_behind c b (r ++ rest))
    ∙ ap (λ z. if nat_lt 0 (length c) && (eqb b 32 && (nat_lt 0 (length r) && is_version_end z)) then Some (cut_at (span 0 (length c)) (span (length c + 1) (length c + 1 + length r))) else None) e

-- a token alone is none
request_alone : (c : List ℕ) → list_all is_token_byte c ≡ true → request_cut c ≡ None
unfolding request_cut
request_alone c h =
    let n : token_length c ≡ length c = ap token_length (sym (append-nil c)) ∙ length_of_run is_token_byte c [] h refl in
    ap (λ j. request_of c j (resource_length (drop (j + 1) c))) n
    ∙ ap (λ z. if nat_lt 0 (length c) && (eqb z 32 && (nat_lt 0 (resource_length (drop (length c + 1) c)) && is_version_end (drop (length c + 1 + resource_length (drop (length c + 1) c)) c))) then Some (cut_at (span 0 (length c)) (span (length c + 1) (length c + 1 + resource_length (drop (length c + 1) c)))) else None) (none_behind c)
    ∙ never (cut_at (span 0 (length c)) (span (length c + 1) (length c + 1 + resource_length (drop (length c + 1) c)))) (nat_lt 0 (length c)) (nat_lt 0 (resource_length (drop (length c + 1) c)) && is_version_end (drop (length c + 1 + resource_length (drop (length c + 1) c)) c))
  where
    never : (k : Cut) (a x : Bool) → (if a && (false && x) then Some k else None) ≡ None
    never k true x = refl
    never k false x = refl

version_ends : (v : List ℕ) → IsVersion v → is_version_end (32 ∷ v) ≡ true
version_ends v (inl e) = rw e refl
version_ends v (inr e) = rw e refl

-- A request line is cut behind its token and its resource.
pub request_found : (line c r : List ℕ) → ReadsRequest line c r → request_cut line ≡ Some (cut_at (span 0 (length c)) (span (length c + 1) (length c + 1 + length r)))
request_found line c r k =
    let forms = and_parts (is_token c) (is_resource r) k.right in
    let token = and_parts (nat_lt 0 (length c)) (list_all is_token_byte c) forms.0 in
    let resource = and_parts (nat_lt 0 (length r)) (list_all is_resource_byte r) forms.1 in
    ap request_cut k.whole ∙ request_at c 32 r (32 ∷ k.version) token.1 no_token_space resource.1 refl ∙ (rw (token.0, resource.0, version_ends k.version k.known) refl)

-- the first part of a line, and the one behind a byte more
pub part_first : (c ys : List ℕ) → part (c ++ ys) (span 0 (length c)) ≡ c
part_first c ys =
    let z : length c - 0 ≡ length c = omega arith in
    ap (λ n. take n (c ++ ys)) z ∙ take_at c ys (length c) refl

pub part_behind : (c : List ℕ) (b : ℕ) (r rest : List ℕ) → part (c ++ (b ∷ (r ++ rest))) (span (length c + 1) (length c + 1 + length r)) ≡ r
part_behind c b r rest =
    let z : length c + 1 + length r - (length c + 1) ≡ length r = omega arith in
    ap (take (length c + 1 + length r - (length c + 1))) (drop-append-add c (b ∷ (r ++ rest)) 1) ∙ ap (λ n. take n (r ++ rest)) z ∙ take_at r rest (length r) refl

-- what a request line says
pub record Asked (line : List ℕ) : Type 0 where
  pub command : List ℕ
  pub resource : List ℕ
  pub reads : ReadsRequest line command resource

record HasVersion (bytes : List ℕ) : Type 0 where
  pub version : List ℕ
  pub known : IsVersion version
  pub whole : bytes ≡ 32 ∷ version

version_of : (bytes : List ℕ) → is_version_end bytes ≡ true → HasVersion bytes
version_of bytes h = elim (or_cases (bytes_eq bytes (32 ∷ own_version)) (bytes_eq bytes (32 ∷ old_version)) h) [
  | inl e ↦ record { version = own_version; known = inl refl; whole = (bytes_eq-Decides bytes (32 ∷ own_version)).0 e }
  | inr e ↦ record { version = old_version; known = inr refl; whole = (bytes_eq-Decides bytes (32 ∷ old_version)).0 e }
]

asked_here : (c : List ℕ) (b : ℕ) (r rest : List ℕ) → list_all is_token_byte c ≡ true → list_all is_resource_byte r ≡ true
    → (nat_lt 0 (length c) && (eqb b 32 && (nat_lt 0 (length r) && is_version_end rest))) ≡ true → Asked (c ++ (b ∷ (r ++ rest)))
asked_here c b r rest h k e =
    let first = and_parts (nat_lt 0 (length c)) (eqb b 32 && (nat_lt 0 (length r) && is_version_end rest)) e in
    let second = and_parts (eqb b 32) (nat_lt 0 (length r) && is_version_end rest) first.1 in
    let third = and_parts (nat_lt 0 (length r)) (is_version_end rest) second.1 in
    let v : HasVersion rest = version_of rest third.1 in
    record {
      command = c;
      resource = r;
      reads = record {
        right = and_from (is_token c) (is_resource r) (and_from (nat_lt 0 (length c)) (list_all is_token_byte c) first.0 h) (and_from (nat_lt 0 (length r)) (list_all is_resource_byte r) third.0 k);
        version = v.version;
        known = v.known;
        whole = ap (λ x. c ++ (x ∷ (r ++ rest))) (eqb-true b 32 second.0) ∙ ap (λ x. c ++ (32 ∷ (r ++ x))) v.whole;
      };
    }

unless_true : (x : Bool) (k : Cut) → x ≡ false → (if x then Some k else None) ≡ None
unless_true true k e = absurd (cc)
unless_true false k e = refl

asked_at : (c : List ℕ) (b : ℕ) (r rest : List ℕ) → list_all is_token_byte c ≡ true → is_token_byte b ≡ false → list_all is_resource_byte r ≡ true → begins_with is_resource_byte rest ≡ false
    → Asked (c ++ (b ∷ (r ++ rest))) ⊎ (request_cut (c ++ (b ∷ (r ++ rest))) ≡ None)
asked_at c b r rest h s k t = elim (cases_Bool (nat_lt 0 (length c) && (eqb b 32 && (nat_lt 0 (length r) && is_version_end rest)))) [
  | inl e ↦ inl (asked_here c b r rest h k e)
  | inr e ↦ inr (request_at c b r rest h s k t ∙ unless_true (nat_lt 0 (length c) && (eqb b 32 && (nat_lt 0 (length r) && is_version_end rest))) (cut_at (span 0 (length c)) (span (length c + 1) (length c + 1 + length r))) e)
]

asked_behind : (c rest : List ℕ) → list_all is_token_byte c ≡ true → begins_with is_token_byte rest ≡ false → Asked (c ++ rest) ⊎ (request_cut (c ++ rest) ≡ None)
asked_behind c [] h s = inr (ap request_cut (append-nil c) ∙ request_alone c h)
asked_behind c (b ∷ tail) h s =
    let r : Run is_resource_byte tail = run_of is_resource_byte tail in
    subst (λ (x : List ℕ). Asked (c ++ (b ∷ x)) ⊎ (request_cut (c ++ (b ∷ x)) ≡ None)) (sym r.whole) (asked_at c b r.text r.rest h s r.all r.stop)

asked_of : (line : List ℕ) → Asked line ⊎ (request_cut line ≡ None)
asked_of line =
    let r : Run is_token_byte line = run_of is_token_byte line in
    subst (λ (x : List ℕ). Asked x ⊎ (request_cut x ≡ None)) (sym r.whole) (asked_behind r.text r.rest r.all r.stop)

pub parts_of : (line c r v : List ℕ) → line ≡ c ++ (32 ∷ r ++ (32 ∷ v)) → (part line (span 0 (length c)) ≡ c) × (part line (span (length c + 1) (length c + 1 + length r)) ≡ r) × (length c + 1 + length r ≤ length line)
parts_of line c r v e = (
  ap (λ x. part x (span 0 (length c))) e ∙ part_first c (32 ∷ r ++ (32 ∷ v)),
  ap (λ x. part x (span (length c + 1) (length c + 1 + length r))) e ∙ part_behind c 32 r (32 ∷ v),
  omega (arith, ap length e, length-append c (32 ∷ r ++ (32 ∷ v)), length-append r (32 ∷ v)),
)

cut_reads : (line c r : List ℕ) → ReadsRequest line c r → CutReads Request line (cut_at (span 0 (length c)) (span (length c + 1) (length c + 1 + length r)))
cut_reads line c r k =
    let p = parts_of line c r k.version k.whole in
    let first : ReadsRequest line (part line (span 0 (length c))) r = subst (λ (x : List ℕ). ReadsRequest line x r) (sym p.0) k in
    let l : length c + 1 + length r ≤ length line = p.2 in
    record {
      first = record { forward = omega arith; there = omega arith };
      second = record { forward = omega arith; there = l };
      reads = subst (λ (x : List ℕ). ReadsRequest line (part line (span 0 (length c))) x) (sym p.1) first;
    }

-- the cut is what the line says, and nothing where it says nothing
pub request_is_cut : (line : List ℕ) → IsCut Request line (request_cut line)
request_is_cut line = elim (asked_of line) [
  | inl a ↦ subst (IsCut Request line) (sym (request_found line a.command a.resource a.reads)) (cut_reads line a.command a.resource a.reads)
  | inr e ↦ subst (IsCut Request line) (sym e) (λ c r k. clash (request_cut line) (cut_at (span 0 (length c)) (span (length c + 1) (length c + 1 + length r))) (request_found line c r k) e)
]
  where
    clash : (o : Option Cut) (k : Cut) → o ≡ Some k → o ≡ None → ⊥
    clash o k e f = cc
