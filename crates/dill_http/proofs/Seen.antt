-- What bytes can be, seen as the front of a line.
use Rattle.std.proofs.Common.{◌≡◌, ◌<◌, ◌≤◌, ◌+◌, ◌++◌, ◌∷◌, [], List, ℕ, length, take, drop, get_or, arith, refl, sym, ap, ◌∙◌, subst, Bool, true, false, not, ◌&&◌, ◌||◌, eqb, inl, inr, ◌⊎◌, append_assoc, if◌then◌else◌}
use Rattle.std.specs.List.{list_all, prefix_len}
use Rattle.std.proofs.lemmas.Bool.{cases_lt, cases_eq, eqb-true, ne_eqb}
use Rattle.std.proofs.lemmas.List.{append-nil, drop_more, take-append-drop, length-take-le}
use Rattle.dill_base.specs.declared.errno.Errno.TheVariants.{Emsgsize, Eproto}
use Rattle.dill_base.specs.declared.errno.Front.TheVariants.{Whole, Need, Fault}
use Rattle.dill_http.specs.Bytes.{is_inner, begins_with}
use Rattle.dill_http.specs.Lines.{line_limit, front_of_line}
use Rattle.dill_http.proofs.Runs.{Run, run_of, longer_run, all_take, passes_at}
use Rattle.dill_http.proofs.Fronts.{front_over, front_short}

-- text alone within the limit, or as much text and then a byte too much, LF, CR alone, CRLF, or CR and another byte
pub data Seen : List ℕ → Type 0 where
  inside : (t : List ℕ) → list_all is_inner t ≡ true → length t ≤ line_limit → Seen t
  beyond : (t : List ℕ) (b : ℕ) (v : List ℕ) → list_all is_inner t ≡ true → length t ≡ line_limit → is_inner b ≡ true → Seen (t ++ (b ∷ v))
  feed : (t v : List ℕ) → list_all is_inner t ≡ true → length t ≤ line_limit → Seen (t ++ (10 ∷ v))
  return : (t : List ℕ) → list_all is_inner t ≡ true → length t ≤ line_limit → Seen (t ++ (13 ∷ []))
  ended : (t v : List ℕ) → list_all is_inner t ≡ true → length t ≤ line_limit → Seen (t ++ (13 ∷ 10 ∷ v))
  astray : (t : List ℕ) (b : ℕ) (v : List ℕ) → list_all is_inner t ≡ true → length t ≤ line_limit → eqb b 10 ≡ false → Seen (t ++ (13 ∷ b ∷ v))

seen_long : (t rest : List ℕ) → list_all is_inner t ≡ true → line_limit < length t → Seen (t ++ rest)
seen_long t rest h l =
    let cut : drop line_limit t ≡ get_or t line_limit 0 ∷ drop (line_limit + 1) t = drop_more t line_limit 0 l in
    let parts : take line_limit t ++ (get_or t line_limit 0 ∷ drop (line_limit + 1) t) ≡ t = ap (λ x. take line_limit t ++ x) (sym cut) ∙ take-append-drop line_limit t in
    let whole : take line_limit t ++ (get_or t line_limit 0 ∷ (drop (line_limit + 1) t ++ rest)) ≡ t ++ rest = sym (append_assoc (take line_limit t) (get_or t line_limit 0 ∷ drop (line_limit + 1) t) rest) ∙ ap (λ x. x ++ rest) parts in
    subst Seen whole (beyond (take line_limit t) (get_or t line_limit 0) (drop (line_limit + 1) t ++ rest) (all_take is_inner line_limit t h) (length-take-le line_limit t (omega arith)) (passes_at is_inner t line_limit h l))

seen_cr : (t rest : List ℕ) → list_all is_inner t ≡ true → length t ≤ line_limit → Seen (t ++ (13 ∷ rest))
seen_cr t [] h l = return t h l
seen_cr t (b ∷ v) h l = elim (cases_eq b 10) [
  | inl e ↦ subst (λ (x : ℕ). Seen (t ++ (13 ∷ x ∷ v))) (sym e) (ended t v h l)
  | inr n ↦ astray t b v h l (ne_eqb b 10 n)
]

stopped : (b : ℕ) → is_inner b ≡ false → (b ≡ 13) ⊎ (b ≡ 10)
stopped b h = by_test (eqb b 13) (eqb b 10) refl refl h
  where
    by_test : (x y : Bool) → eqb b 13 ≡ x → eqb b 10 ≡ y → not (x || y) ≡ false → (b ≡ 13) ⊎ (b ≡ 10)
    by_test true y e f k = inl (eqb-true b 13 e)
    by_test false true e f k = inr (eqb-true b 10 f)
    by_test false false e f k = absurd (cc)

seen_short : (t rest : List ℕ) → list_all is_inner t ≡ true → begins_with is_inner rest ≡ false → length t ≤ line_limit → Seen (t ++ rest)
seen_short t [] h s l = subst Seen (sym (append-nil t)) (inside t h l)
seen_short t (b ∷ v) h s l = elim (stopped b s) [
  | inl e ↦ subst (λ (x : ℕ). Seen (t ++ (x ∷ v))) (sym e) (seen_cr t v h l)
  | inr e ↦ subst (λ (x : ℕ). Seen (t ++ (x ∷ v))) (sym e) (feed t v h l)
]

pub seen_of : (u : List ℕ) → Seen u
seen_of u =
    let r : Run is_inner u = run_of is_inner u in
    elim (cases_lt line_limit (length r.text)) [
      | inl l ↦ subst Seen (sym r.whole) (seen_long r.text r.rest r.all l)
      | inr l ↦ subst Seen (sym r.whole) (seen_short r.text r.rest r.all r.stop l)
    ]

-- what the definition says of each
pub front_inside : (t : List ℕ) → list_all is_inner t ≡ true → length t ≤ line_limit → front_of_line t ≡ Need
front_inside t h l = ap front_of_line (sym (append-nil t)) ∙ front_short t [] h refl l

pub front_beyond : (t : List ℕ) (b : ℕ) (v : List ℕ) → list_all is_inner t ≡ true → length t ≡ line_limit → is_inner b ≡ true → front_of_line (t ++ (b ∷ v)) ≡ Fault Emsgsize
front_beyond t b v h l s =
    let k : length t < prefix_len is_inner (t ++ (b ∷ v)) = longer_run is_inner t b v h s in
    front_over (t ++ (b ∷ v)) (omega arith)

pub front_feed : (t v : List ℕ) → list_all is_inner t ≡ true → length t ≤ line_limit → front_of_line (t ++ (10 ∷ v)) ≡ Fault (if eqb (length t) line_limit then Emsgsize else Eproto)
front_feed t v h l = front_short t (10 ∷ v) h refl l

pub front_return : (t : List ℕ) → list_all is_inner t ≡ true → length t ≤ line_limit → front_of_line (t ++ (13 ∷ [])) ≡ Need
front_return t h l = front_short t (13 ∷ []) h refl l

pub front_ended : (t v : List ℕ) → list_all is_inner t ≡ true → length t ≤ line_limit → front_of_line (t ++ (13 ∷ 10 ∷ v)) ≡ Whole 0 (length t) (length t + 2)
front_ended t v h l = front_short t (13 ∷ 10 ∷ v) h refl l

pub front_astray : (t : List ℕ) (b : ℕ) (v : List ℕ) → list_all is_inner t ≡ true → length t ≤ line_limit → eqb b 10 ≡ false → front_of_line (t ++ (13 ∷ b ∷ v)) ≡ Fault (if eqb (length t + 1) line_limit && not (eqb b 13) then Emsgsize else Eproto)
front_astray t b v h l s = front_short t (13 ∷ b ∷ v) h refl l ∙ (rw s refl)
