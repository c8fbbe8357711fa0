-- What stands in a text, and what stands behind it.
use Rattle.std.proofs.Common.{◌≡◌, ◌∙◌, ℕ, ◌<◌, ◌≤◌, List, [], ◌∷◌, ◌++◌, length, drop, cond, Bool, true, false, Option, Some, None, refl, ap, sym, append-nil, arith, length-drop}
use Rattle.dill_script.specs.Lines.{is_blank}
use Rattle.dill_script.specs.Tokens.{Token, Text, is_hex, put, before, tokens_from, Between, InText, InHex, BehindText}
use Rattle.relay_lines.proofs.Places.{between_blank}
use Rattle.relay_lines.specs.Cutting.{ends_token, put_all, CutsText}

hex_alone : (byte : ℕ) (test : Bool) → is_hex byte ≡ test → tokens_from InHex (byte ∷ []) ≡ None
hex_alone byte true is = rw (is, tokens_from)
hex_alone byte false is = rw (is, tokens_from)

pub hex_short : (bytes : List ℕ) → length bytes < 2 → tokens_from InHex bytes ≡ None
hex_short [] short = refl
hex_short (byte ∷ []) short = hex_alone byte (is_hex byte) refl
hex_short (first ∷ second ∷ bytes) short = absurd (omega arith)

-- a byte behind others at the front of the first token
pub put_more : (bytes : List ℕ) (byte : ℕ) (tokens : Option (List Token)) → put_all (bytes ++ byte ∷ []) tokens ≡ put_all bytes (put byte tokens)
put_more [] byte tokens = refl
put_more (first ∷ bytes) byte tokens = ap (put first) (put_more bytes byte tokens)

pub put_none : (bytes : List ℕ) → put_all bytes None ≡ None
put_none [] = refl
put_none (byte ∷ bytes) = ap (put byte) (put_none bytes)

put_some : (bytes meant : List ℕ) (tokens : List Token) → put_all bytes (Some (Text meant ∷ tokens)) ≡ Some (Text (bytes ++ meant) ∷ tokens)
put_some [] meant tokens = refl
put_some (byte ∷ bytes) meant tokens = ap (put byte) (put_some bytes meant tokens)

pub put_text : (bytes : List ℕ) (tokens : Option (List Token)) → put_all bytes (before (Text []) tokens) ≡ before (Text bytes) tokens
put_text bytes None = put_none bytes
put_text bytes (Some tokens) = put_some bytes [] tokens ∙ ap (λ (meant : List ℕ). Some (Text meant ∷ tokens)) (append-nil bytes)

behind_byte : (byte : ℕ) (bytes : List ℕ) (test : Bool) → is_blank byte ≡ test → tokens_from BehindText (byte ∷ bytes) ≡ cond test (before (Text []) (tokens_from Between (byte ∷ bytes))) None
behind_byte byte bytes true is = let same = between_blank byte bytes is in rw (same, is, tokens_from)
behind_byte byte bytes false is = rw (is, tokens_from)

behind_text : (bytes : List ℕ) → tokens_from BehindText bytes ≡ cond (ends_token bytes) (before (Text []) (tokens_from Between bytes)) None
behind_text [] = refl
behind_text (byte ∷ bytes) = behind_byte byte bytes (is_blank byte) refl

-- what is so far of a text, and what stands there
module _ (bytes meant rest : List ℕ) (tokens : put_all meant (tokens_from InText rest) ≡ tokens_from InText bytes) where
  pub text_fault : None ≡ tokens_from InText rest → tokens_from InText bytes ≡ None
  text_fault none = sym tokens ∙ (ap (put_all meant) (sym none) ∙ put_none meant)

  pub text_joined : (behind : List ℕ) (test : Bool) → behind ≡ drop 1 rest → tokens_from BehindText (drop 1 rest) ≡ tokens_from InText rest → test ≡ ends_token behind → test ≡ false → tokens_from InText bytes ≡ None
  text_joined behind test slice end ends joined =
      let stops : tokens_from BehindText behind ≡ None = behind_text behind ∙ ap (λ (b : Bool). cond b (before (Text []) (tokens_from Between behind)) None) (sym ends ∙ joined) in
      text_fault (sym stops ∙ (ap (tokens_from BehindText) slice ∙ end))

  pub text_ended : (behind : List ℕ) (test : Bool) → behind ≡ drop 1 rest → tokens_from BehindText (drop 1 rest) ≡ tokens_from InText rest → test ≡ ends_token behind → test ≡ true → length rest ≤ length bytes → CutsText bytes meant behind
  text_ended behind test slice end ends ended within =
      let stops : tokens_from BehindText behind ≡ before (Text []) (tokens_from Between behind) = behind_text behind ∙ ap (λ (b : Bool). cond b (before (Text []) (tokens_from Between behind)) None) (sym ends ∙ ended) in
      record {
        tokens = sym tokens ∙ (ap (put_all meant) (sym end ∙ (ap (tokens_from BehindText) (sym slice) ∙ stops)) ∙ put_text meant (tokens_from Between behind));
        within = omega (arith, ap length slice, length-drop 1 rest);
      }

  pub text_more : (after : List ℕ) (byte used : ℕ) (behind : List ℕ) → behind ≡ drop used rest → put byte (tokens_from InText (drop used rest)) ≡ tokens_from InText rest → after ≡ meant ++ byte ∷ [] → put_all after (tokens_from InText behind) ≡ tokens_from InText bytes
  text_more after byte used behind slice piece pushed = rw (pushed, slice, put_more meant byte (tokens_from InText (drop used rest)), piece) tokens
