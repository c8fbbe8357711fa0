-- The longest run of bytes of a class at the front of a list.
use Rattle.std.proofs.Common.{◌≡◌, ◌<◌, ◌++◌, ◌∷◌, [], List, ℕ, suc, zero, length, take, get_or, arith, refl, ap, Bool, true, false}
use Rattle.std.specs.List.{list_all, prefix_len}
use Rattle.std.proofs.lemmas.Bool.{and_parts, and_from}
use Rattle.dill_http.specs.Bytes.{begins_with, ends_with}

pub record Run (p : ℕ → Bool) (u : List ℕ) : Type 0 where
  pub text : List ℕ
  pub rest : List ℕ
  pub whole : u ≡ text ++ rest
  pub all : list_all p text ≡ true
  pub stop : begins_with p rest ≡ false

run_more : (p : ℕ → Bool) (x : ℕ) (u : List ℕ) (b : Bool) → p x ≡ b → Run p u → Run p (x ∷ u)
run_more p x u true e r = record {
  text = x ∷ r.text;
  rest = r.rest;
  whole = ap (λ l. x ∷ l) r.whole;
  all = and_from (p x) (list_all p r.text) e r.all;
  stop = r.stop;
}
run_more p x u false e r = record { text = []; rest = x ∷ u; whole = refl; all = refl; stop = e }

pub run_of : (p : ℕ → Bool) (u : List ℕ) → Run p u
run_of p [] = record { text = []; rest = []; whole = refl; all = refl; stop = refl }
run_of p (x ∷ u) = run_more p x u (p x) refl (run_of p u)

pub length_of_run : (p : ℕ → Bool) (text rest : List ℕ) → list_all p text ≡ true → begins_with p rest ≡ false → prefix_len p (text ++ rest) ≡ length text
length_of_run p [] [] h s = refl
length_of_run p [] (b ∷ rest) h s = rw s refl
length_of_run p (x ∷ text) rest h s =
    let k = and_parts (p x) (list_all p text) h in
    let e : prefix_len p (text ++ rest) ≡ length text = length_of_run p text rest k.1 s in
    rw k.0 (omega arith)

-- a run that reaches into the rest
pub longer_run : (p : ℕ → Bool) (text : List ℕ) (b : ℕ) (rest : List ℕ) → list_all p text ≡ true → p b ≡ true → length text < prefix_len p (text ++ (b ∷ rest))
longer_run p [] b rest h s = rw s (omega arith)
longer_run p (x ∷ text) b rest h s =
    let k = and_parts (p x) (list_all p text) h in
    let e : length text < prefix_len p (text ++ (b ∷ rest)) = longer_run p text b rest k.1 s in
    rw k.0 (omega arith)

pub all_take : (p : ℕ → Bool) (n : ℕ) (u : List ℕ) → list_all p u ≡ true → list_all p (take n u) ≡ true
all_take p zero u h = refl
all_take p (suc n) [] h = refl
all_take p (suc n) (x ∷ u) h =
    let k = and_parts (p x) (list_all p u) h in
    and_from (p x) (list_all p (take n u)) k.0 (all_take p n u k.1)

-- the byte at a place of a run
pub passes_at : (p : ℕ → Bool) (t : List ℕ) (k : ℕ) → list_all p t ≡ true → k < length t → p (get_or t k 0) ≡ true
passes_at p [] k h l = absurd (omega arith)
passes_at p (x ∷ t) zero h l = (and_parts (p x) (list_all p t) h).0
passes_at p (x ∷ t) (suc k) h l = passes_at p t k (and_parts (p x) (list_all p t) h).1 (omega arith)

-- a class that the last byte isn't of, since all are of another
pub no_end : (p q : ℕ → Bool) (u : List ℕ) → ((b : ℕ) → p b ≡ true → q b ≡ false) → list_all p u ≡ true → ends_with q u ≡ false
no_end p q [] f h = refl
no_end p q (x ∷ []) f h = f x (and_parts (p x) true h).0
no_end p q (x ∷ y ∷ u) f h = no_end p q (y ∷ u) f (and_parts (p x) (list_all p (y ∷ u)) h).1

pub no_length : (xs : List ℕ) → length xs ≡ 0 → xs ≡ []
no_length [] h = refl
no_length (x ∷ xs) h = absurd (omega arith)
