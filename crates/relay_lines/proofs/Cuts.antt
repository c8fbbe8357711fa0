-- Tokens are cut off the front of a line one by one.
use Rattle.std.proofs.Common.{◌≡◌, ◌∙◌, ℕ, List, [], ◌∷◌, ◌++◌, take, drop, Bool, true, false, not, Option, Some, None, refl, ap, sym, append_assoc}
use Rattle.std.proofs.Math.Numerals.{one-add}
use Rattle.std.specs.List.{prefix_len}
use Rattle.dill_script.specs.Lines.{is_blank}
use Rattle.dill_script.specs.Tokens.{Token, Plain, put, before, tokens_from, Between, InPlain}
use Rattle.relay_lines.proofs.Places.{between_blank, word_byte, word_blank}
use Rattle.relay_lines.specs.Prefixes.{all_before}

-- no blank
abbrev pub stays : ℕ → Bool
stays byte = not (is_blank byte)

put_word : (byte : ℕ) (word : List ℕ) (tokens : Option (List Token)) → put byte (before (Plain word) tokens) ≡ before (Plain (byte ∷ word)) tokens
put_word byte word None = refl
put_word byte word (Some tokens) = refl

abbrev WordEnds : List ℕ → Type 0
WordEnds bytes = tokens_from InPlain bytes ≡ before (Plain (take (prefix_len stays bytes) bytes)) (tokens_from Between (drop (prefix_len stays bytes) bytes))

word_at : (byte : ℕ) (bytes : List ℕ) (test : Bool) → is_blank byte ≡ test → WordEnds bytes → WordEnds (byte ∷ bytes)
word_at byte bytes true is ends = word_blank byte bytes is ∙ rw is (ap (before (Plain [])) (sym (between_blank byte bytes is)))
word_at byte bytes false is ends = word_byte byte bytes is ∙ rw (is, one-add, ends) (put_word byte (take (prefix_len stays bytes) bytes) (tokens_from Between (drop (prefix_len stays bytes) bytes)))

pub word_ends : (bytes : List ℕ) → WordEnds bytes
word_ends [] = refl
word_ends (byte ∷ bytes) = word_at byte bytes (is_blank byte) refl (word_ends bytes)

pub word_cut : (bytes : List ℕ) (n : ℕ) (word behind : List ℕ) (token : Token) → n ≡ prefix_len stays bytes → word ≡ take n bytes → token ≡ Plain word → behind ≡ drop n bytes → tokens_from InPlain bytes ≡ before token (tokens_from Between behind)
word_cut bytes n word behind token run front is slice = rw (is, front, slice, run) (word_ends bytes)

-- more tokens before the others
pub before_more : (tokens : List Token) (token : Token) (others : Option (List Token)) → all_before (tokens ++ token ∷ []) others ≡ all_before tokens (before token others)
before_more tokens token None = refl
before_more tokens token (Some others) = ap Some (append_assoc tokens (token ∷ []) others)
