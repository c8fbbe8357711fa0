-- What a byte does at each place of a line.
use Rattle.std.proofs.Common.{◌≡◌, ℕ, List, [], ◌∷◌, Bool, refl, true, false, nat_eq, Some}
use Rattle.dill_script.specs.Lines.{is_blank}
use Rattle.dill_script.specs.Tokens.{Plain, put, before, tokens_from, Between, InPlain, InText}

module _ (byte : ℕ) (bytes : List ℕ) where
  pub between_blank : is_blank byte ≡ true → tokens_from Between (byte ∷ bytes) ≡ tokens_from Between bytes
  between_blank blank = rw (blank, tokens_from)

  pub between_hash : is_blank byte ≡ false → nat_eq byte 35 ≡ true → tokens_from Between (byte ∷ bytes) ≡ Some []
  between_hash blank hash = rw (blank, hash, tokens_from)

  pub between_quote : is_blank byte ≡ false → nat_eq byte 35 ≡ false → nat_eq byte 34 ≡ true → tokens_from Between (byte ∷ bytes) ≡ tokens_from InText bytes
  between_quote blank hash quote = rw (blank, hash, quote, tokens_from)

  pub between_byte : is_blank byte ≡ false → nat_eq byte 35 ≡ false → nat_eq byte 34 ≡ false → tokens_from Between (byte ∷ bytes) ≡ tokens_from InPlain (byte ∷ bytes)
  between_byte blank hash quote = other (nat_eq byte 92) refl
    where
      other : (slash : Bool) → nat_eq byte 92 ≡ slash → tokens_from Between (byte ∷ bytes) ≡ tokens_from InPlain (byte ∷ bytes)
      other true is = rw (blank, hash, quote, is, tokens_from)
      other false is = rw (blank, hash, quote, is, tokens_from)

  pub word_blank : is_blank byte ≡ true → tokens_from InPlain (byte ∷ bytes) ≡ before (Plain []) (tokens_from Between bytes)
  word_blank blank = rw (blank, tokens_from)

  pub word_byte : is_blank byte ≡ false → tokens_from InPlain (byte ∷ bytes) ≡ put byte (tokens_from InPlain bytes)
  word_byte blank = rw (blank, tokens_from)
