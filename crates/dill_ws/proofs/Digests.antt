-- A digest is 20 bytes.
use Rattle.std.proofs.Common.{◌≡◌, ◌*◌, ◌/◌, ◌++◌, ◌∷◌, [], ℕ, suc, zero, List, length, arith, refl, length-append}
use Rattle.std.specs.Int.{w32, to_be_bytes}
use Rattle.std.specs.Prelude.{slice_index}
use Rattle.sha1.specs.Sha1.{digest_bytes, hash_after, padded_message, sha1}
use Rattle.dill_ws.specs.FrameLaws.{AreBytes}

both_bytes : (xs ys : List ℕ) → AreBytes xs → AreBytes ys → AreBytes (xs ++ ys)
both_bytes [] ys p q k = q k
both_bytes (x ∷ xs) ys p q zero = p 0
both_bytes (x ∷ xs) ys p q (suc k) = both_bytes xs ys (λ j. p (suc j)) q k

word_bytes : (n : ℕ) → AreBytes (to_be_bytes w32 n)
word_bytes n zero = omega arith
word_bytes n (suc zero) = omega arith
word_bytes n (suc (suc zero)) = omega arith
word_bytes n (suc (suc (suc zero))) = omega arith
word_bytes n (suc (suc (suc (suc k)))) = omega arith

word_length : (n : ℕ) → length (to_be_bytes w32 n) ≡ 4
word_length n = refl

words_bytes : (h : List ℕ) (n : ℕ) → AreBytes (digest_bytes h n)
unfolding digest_bytes
words_bytes h zero = λ k. omega arith
words_bytes h (suc n) = both_bytes (digest_bytes h n) (to_be_bytes w32 (slice_index h n)) (words_bytes h n) (word_bytes (slice_index h n))

words_length : (h : List ℕ) (n : ℕ) → length (digest_bytes h n) ≡ 4 * n
unfolding digest_bytes
words_length h zero = refl
words_length h (suc n) = omega (arith, length-append (digest_bytes h n) (to_be_bytes w32 (slice_index h n)), words_length h n, word_length (slice_index h n))

pub digest_are_bytes : (m : List ℕ) → AreBytes (sha1 m)
unfolding sha1
digest_are_bytes m = words_bytes (hash_after (padded_message m) (length (padded_message m) / 64)) 5

pub digest_length : (m : List ℕ) → length (sha1 m) ≡ 20
unfolding sha1
digest_length m = words_length (hash_after (padded_message m) (length (padded_message m) / 64)) 5
