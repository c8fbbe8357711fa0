-- When each answer is given, in one shape for both framings.
use Rattle.std.proofs.Common.{◌≡◌, ◌<◌, ◌≤◌, ◌-◌, ◌++◌, List, ℕ, length, take, drop, arith, sym, ap, ◌∙◌, refl, subst, false, true, Result, Ok, Err}
use Rattle.std.proofs.lemmas.List.{length-take, take-append-drop}
use Rattle.dill_base.specs.declared.errno.Errno.{Errno}
use Rattle.dill_base.specs.declared.errno.Front.{Front}
use Rattle.dill_base.specs.declared.errno.Front.TheVariants.{Whole, Need, Fault}
use Rattle.dill_base.specs.declared.errno.WriteFault.{WriteFault}
use Rattle.dill_base.specs.declared.errno.WriteFault.TheVariants.{Refused, NoMemory}
use Rattle.dill_base.specs.Reading.{IsFront, IsShown}
use Rattle.dill_base.specs.Writing.{Writes}
use Rattle.dill_frames.specs.Judging.{IsMessage, IsJudged, IsSpelled, IsExact, IsWritten}

pub whole_fault : {a b c : ℕ} {e : Errno} → Whole a b c ≡ Fault e → ⊥
whole_fault h = cc

whole_need : {a b c : ℕ} → Whole a b c ≡ Need → ⊥
whole_need h = cc

need_fault : {e : Errno} → Need ≡ Fault e → ⊥
need_fault h = cc

fault_need : {e : Errno} → Fault e ≡ Need → ⊥
fault_need h = cc

same_fault : {d e : Errno} → Fault d ≡ Fault e → d ≡ e
same_fault h = cc

short_take : (n limit : ℕ) (xs : List ℕ) → n ≤ limit → length (take n xs) ≤ limit
short_take n limit xs h = omega (arith, length-take n xs)

-- What a front says and what leads to each answer, together: each answer exactly where its cause stands.
pub exact_front : (spells : List ℕ → List ℕ → Type 0) (shows : Errno → List ℕ → Type 0) (limit : ℕ) (u : List ℕ) (f : Front)
    → IsFront spells shows limit u f → (IsSpelled spells limit u → IsMessage f) → ((e : Errno) → IsShown shows u e → f ≡ Fault e) → IsExact spells shows limit u f
exact_front spells shows limit u (Whole a b c) w s t =
    let short : length (take (b - a) (drop a u)) ≤ limit = short_take (b - a) limit (drop a u) w.short in
    record {
      whole = (λ x. (c, take (b - a) (drop a u), w.there, short, w.spelled), λ x. tt);
      fault = λ e. (λ q. absurd (whole_fault q), λ x. t e x);
      need = (λ q. absurd (whole_need q), λ o. absurd (o.unspelled c w.there (take (b - a) (drop a u)) short w.spelled));
    }
exact_front spells shows limit u Need w s t = record {
  whole = (λ x. absurd x, λ x. s x);
  fault = λ e. (λ q. absurd (need_fault q), λ x. t e x);
  need = (λ q. w, λ o. refl);
}
exact_front spells shows limit u (Fault d) w s t = record {
  whole = (λ x. absurd x, λ x. s x);
  fault = λ e. (λ q. subst (IsShown shows u) (same_fault q) w, λ x. t e x);
  need = (λ q. absurd (fault_need q), λ o. absurd (o.unshown w.count w.there d w.shown));
}

-- What becomes a message with its last byte was open before.
pub early_front : (front : List ℕ → Front) (w : List ℕ) (a b n : ℕ)
    → ((u v : List ℕ) (f : Front) → front u ≡ f → IsJudged f → front (u ++ v) ≡ f) → ((u : List ℕ) (p q r : ℕ) → front u ≡ Whole p q r → r ≤ length u)
    → front w ≡ Whole a b (length w) → n < length w → front (take n w) ≡ Need
early_front front w a b n stays lies h l = by_front (front (take n w)) refl
  where
    later : (f : Front) → front (take n w) ≡ f → IsJudged f → f ≡ Whole a b (length w)
    later f e j = sym (stays (take n w) (drop n w) f e j) ∙ ap front (take-append-drop n w) ∙ h

    used : (p q r k : ℕ) → Whole p q r ≡ Whole a b k → r ≡ k
    used p q r k e = cc

    by_front : (f : Front) → front (take n w) ≡ f → front (take n w) ≡ Need
    by_front Need e = e
    by_front (Whole p q r) e =
        let same : r ≡ length w = used p q r (length w) (later (Whole p q r) e tt) in
        let there : r ≤ length (take n w) = lies (take n w) p q r e in
        absurd (omega (arith, length-take n w))
    by_front (Fault d) e = absurd (whole_fault (sym (later (Fault d) e tt)))

-- What becomes a refusal with its last byte was open before.
pub least_front : (front : List ℕ → Front) (w : List ℕ) (d : Errno) (n k : ℕ)
    → ((u v : List ℕ) (f : Front) → front u ≡ f → IsJudged f → front (u ++ v) ≡ f) → ((u : List ℕ) (e : Errno) → front u ≡ Fault e → k ≤ length u)
    → front w ≡ Fault d → n < k → front (take n w) ≡ Need
least_front front w d n k stays room h l = by_front (front (take n w)) refl
  where
    later : (f : Front) → front (take n w) ≡ f → IsJudged f → f ≡ Fault d
    later f e j = sym (stays (take n w) (drop n w) f e j) ∙ ap front (take-append-drop n w) ∙ h

    by_front : (f : Front) → front (take n w) ≡ f → front (take n w) ≡ Need
    by_front Need e = e
    by_front (Whole p q r) e = absurd (whole_fault (later (Whole p q r) e tt))
    by_front (Fault c) e =
        let there : k ≤ length (take n w) = room (take n w) c e in
        absurd (omega (arith, length-take n w))

-- A writer's answer by the spellings.
pub written_by : (spells : List ℕ → Type 0) (refuses : Errno → Type 0) (due : Result (List ℕ) Errno) (r : Result (List ℕ) WriteFault)
    → ((w : List ℕ) → due ≡ Ok w → spells w) → ((e : Errno) → due ≡ Err e → refuses e) → Writes r due → IsWritten spells refuses r
written_by spells refuses due (Ok w) f g h = f w h
written_by spells refuses due (Err (Refused e)) f g h = g e h
written_by spells refuses (Ok w) (Err NoMemory) f g h = (w, f w refl)
written_by spells refuses (Err e) (Err NoMemory) f g h = not_well h
  where
    not_well : false ≡ true → (w : List ℕ) × spells w
    not_well q = cc
