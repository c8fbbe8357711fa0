-- The longest run of bytes of a class at the end of a list.
use Rattle.std.proofs.Common.{◌≡◌, ◌<◌, ◌≤◌, ◌-◌, ◌+◌, ◌++◌, ◌∷◌, [], List, ℕ, length, get_or, arith, refl, sym, ap, ◌∙◌, Bool, true, false, length-append}
use Rattle.std.specs.List.{list_all, suffix_len}
use Rattle.std.proofs.lemmas.Bool.{and_from}
use Rattle.std.proofs.lemmas.List.{get_or-append_right, get_or_append_left}
use Rattle.std.proofs.lemmas.List.Sums.{suffix_len_is}
use Rattle.dill_http.specs.Bytes.{ends_with}
use Rattle.dill_http.proofs.Ends.{ends_at}
use Rattle.dill_http.proofs.Runs.{passes_at}

pub record Tail (p : ℕ → Bool) (u : List ℕ) : Type 0 where
  pub text : List ℕ
  pub rest : List ℕ
  pub whole : u ≡ text ++ rest
  pub all : list_all p rest ≡ true
  pub last : ends_with p text ≡ false

tail_more : (p : ℕ → Bool) (x : ℕ) (u : List ℕ) (b : Bool) → p x ≡ b → (v y : List ℕ) → u ≡ v ++ y → list_all p y ≡ true → ends_with p v ≡ false → Tail p (x ∷ u)
tail_more p x u true e [] y whole all last = record { text = []; rest = x ∷ y; whole = ap (λ l. x ∷ l) whole; all = and_from (p x) (list_all p y) e all; last = refl }
tail_more p x u false e [] y whole all last = record { text = x ∷ []; rest = y; whole = ap (λ l. x ∷ l) whole; all = all; last = e }
tail_more p x u b e (w ∷ v) y whole all last = record { text = x ∷ w ∷ v; rest = y; whole = ap (λ l. x ∷ l) whole; all = all; last = last }

pub tail_of : (p : ℕ → Bool) (u : List ℕ) → Tail p u
tail_of p [] = record { text = []; rest = []; whole = refl; all = refl; last = refl }
tail_of p (x ∷ u) =
    let t : Tail p u = tail_of p u in
    tail_more p x u (p x) refl t.text t.rest t.whole t.all t.last

pub length_of_tail : (p : ℕ → Bool) (v y : List ℕ) → list_all p y ≡ true → ends_with p v ≡ false → suffix_len p (v ++ y) ≡ length y
length_of_tail p v y h s =
    let n : length (v ++ y) ≡ length v + length y = length-append v y in
    let after : (k : ℕ) → length v ≤ k → k < length (v ++ y) → p (get_or (v ++ y) k 0) ≡ true = λ k l m. ap p (get_or-append_right v y (length v) k 0 refl l) ∙ passes_at p y (k - length v) h (omega arith) in
    let before : 0 < length v → p (get_or (v ++ y) (length v - 1) 0) ≡ false = λ l. ap p (get_or_append_left v y 0 (length v - 1) (omega arith)) ∙ sym (ends_at p v 0 l) ∙ s in
    suffix_len_is p (v ++ y) (length v) 0 (omega arith) after before ∙ (omega arith)
