-- What a byte shows behind a line's text, and behind its CR.
use Rattle.std.proofs.Common.{◌≡◌, ◌+◌, ◌++◌, ◌∷◌, [], List, ℕ, length, refl, Bool, true, false, not, ◌&&◌, ◌||◌, eqb, Some, None, length-append, if◌then◌else◌}
use Rattle.std.specs.List.{list_all}
use Rattle.dill_base.specs.declared.errno.Errno.TheVariants.{Emsgsize, Eproto}
use Rattle.dill_http.specs.Bytes.{is_inner}
use Rattle.dill_http.specs.Lines.{ends_in_cr, shown_at, line_limit}
use Rattle.dill_http.proofs.Ends.{ends_snoc}
use Rattle.dill_http.proofs.Runs.{no_end}

not_cr : (b : ℕ) → is_inner b ≡ true → eqb b 13 ≡ false
not_cr b h = by_test (eqb b 13) (eqb b 10) h
  where
    by_test : (x y : Bool) → not (x || y) ≡ true → x ≡ false
    by_test true y h = absurd (cc)
    by_test false y h = refl

pub no_cr : (t : List ℕ) → list_all is_inner t ≡ true → ends_in_cr t ≡ false
no_cr t h = no_end is_inner (λ b. eqb b 13) t not_cr h

pub shown_text : (t : List ℕ) (b : ℕ) → list_all is_inner t ≡ true
    → shown_at t b ≡ (if eqb (length t) line_limit && not (eqb b 13) then Some Emsgsize else (if eqb b 10 then Some Eproto else None))
shown_text t b h = by_test (ends_in_cr t) (eqb (length t) line_limit) (eqb b 13) (eqb b 10) (no_cr t h)
  where
    by_test : (c n x y : Bool) → c ≡ false → (if n && (not x && not (c && y)) then Some Emsgsize else (if (if c then not y else y) then Some Eproto else None)) ≡ (if n && not x then Some Emsgsize else (if y then Some Eproto else None))
    by_test true n x y e = absurd (cc)
    by_test false n true y e = refl
    by_test false n false y e = refl

pub shown_cr : (t : List ℕ) (b : ℕ) → shown_at (t ++ 13 ∷ []) b ≡ (if eqb (length t + 1) line_limit && (not (eqb b 13) && not (eqb b 10)) then Some Emsgsize else (if not (eqb b 10) then Some Eproto else None))
shown_cr t b = rw length-append (by_test (ends_in_cr (t ++ 13 ∷ [])) (eqb (length t + 1) line_limit) (eqb b 13) (eqb b 10) (ends_snoc (λ c. eqb c 13) t 13))
  where
    by_test : (c n x y : Bool) → c ≡ true → (if n && (not x && not (c && y)) then Some Emsgsize else (if (if c then not y else y) then Some Eproto else None)) ≡ (if n && (not x && not y) then Some Emsgsize else (if not y then Some Eproto else None))
    by_test true n x y e = refl
    by_test false n x y e = absurd (cc)
