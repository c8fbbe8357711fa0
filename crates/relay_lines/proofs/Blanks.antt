-- Blanks at the front of a line stand for nothing.
use Rattle.std.proofs.Common.{◌≡◌, ◌∙◌, ℕ, ◌-◌, ◌≤◌, List, [], ◌∷◌, length, take, drop, Bool, true, false, nat_eq, Some, refl, ap, sym, arith, length-drop}
use Rattle.std.proofs.lemmas.List.{take_all}
use Rattle.std.proofs.Math.Numerals.{one-add}
use Rattle.std.specs.List.{prefix_len}
use Rattle.dill_script.specs.Lines.{is_blank, has_tokens}
use Rattle.dill_script.specs.Tokens.{tokens_from, Between}
use Rattle.relay_lines.proofs.Places.{between_blank, between_hash}
use Rattle.relay_lines.specs.Cutting.{begins_token, Starts, IsBare}

-- a slice from a place to the end
pub rest_from : {A : Type 0} (xs : List A) (n : ℕ) → take (length xs - n) (drop n xs) ≡ drop n xs
rest_from xs n = take_all (length xs - n) (drop n xs) (simp length-drop (omega arith))

-- what is left of a part of a list is no longer than that list
pub slice_within : {A : Type 0} (xs part behind : List A) (n : ℕ) → behind ≡ drop n part → length part ≤ length xs → length behind ≤ length xs
slice_within xs part behind n slice within = omega (arith, ap length slice, length-drop n part)

-- what is left behind the blanks at the front
abbrev pub bare : List ℕ → List ℕ
bare bytes = drop (prefix_len is_blank bytes) bytes

pub bare_at : (byte : ℕ) (bytes : List ℕ) → is_blank byte ≡ true → bare (byte ∷ bytes) ≡ bare bytes
bare_at byte bytes is = rw (is, one-add) refl

tokens_at : (byte : ℕ) (bytes : List ℕ) (test : Bool) → is_blank byte ≡ test → tokens_from Between (bare bytes) ≡ tokens_from Between bytes → tokens_from Between (bare (byte ∷ bytes)) ≡ tokens_from Between (byte ∷ bytes)
tokens_at byte bytes true is before = rw (bare_at byte bytes is) (before ∙ sym (between_blank byte bytes is))
tokens_at byte bytes false is before = rw is refl

pub tokens_bare : (bytes : List ℕ) → tokens_from Between (bare bytes) ≡ tokens_from Between bytes
tokens_bare [] = refl
tokens_bare (byte ∷ bytes) = tokens_at byte bytes (is_blank byte) refl (tokens_bare bytes)

has_at : (byte : ℕ) (bytes : List ℕ) (test : Bool) → is_blank byte ≡ test → has_tokens bytes ≡ begins_token (bare bytes) → has_tokens (byte ∷ bytes) ≡ begins_token (bare (byte ∷ bytes))
has_at byte bytes true is before = rw (bare_at byte bytes is, is) before
has_at byte bytes false is before = rw (is, is)

pub has_bare : (bytes : List ℕ) → has_tokens bytes ≡ begins_token (bare bytes)
has_bare [] = refl
has_bare (byte ∷ bytes) = has_at byte bytes (is_blank byte) refl (has_bare bytes)

none_at : (byte : ℕ) (bytes : List ℕ) (blank hash : Bool) → is_blank byte ≡ blank → nat_eq byte 35 ≡ hash → (has_tokens bytes ≡ false → tokens_from Between bytes ≡ Some []) → has_tokens (byte ∷ bytes) ≡ false → tokens_from Between (byte ∷ bytes) ≡ Some []
none_at byte bytes true hash is at before none = between_blank byte bytes is ∙ before (rw is at none)
none_at byte bytes false true is at before none = between_hash byte bytes is at
none_at byte bytes false false is at before none = let no : true ≡ false = rw (is, at) at none in cc

pub none_bare : (bytes : List ℕ) → has_tokens bytes ≡ false → tokens_from Between bytes ≡ Some []
none_bare [] none = refl
none_bare (byte ∷ bytes) none = none_at byte bytes (is_blank byte) (nat_eq byte 35) refl refl (none_bare bytes) none

length_bare : (bytes : List ℕ) → length (bare bytes) ≤ length bytes
length_bare bytes = rw (length-drop (prefix_len is_blank bytes) bytes) (omega arith)

starts_bare : (line : List ℕ) → begins_token (bare line) ≡ true → Starts line (bare line)
starts_bare line begins = record {
  begins = begins;
  there = has_bare line ∙ begins;
  tokens = tokens_bare line;
  within = length_bare line;
}

none_starts : (line : List ℕ) → begins_token (bare line) ≡ false → IsBare line
none_starts line none = record {
  there = has_bare line ∙ none;
  tokens = none_bare line (has_bare line ∙ none);
}

-- what is left of a line without its blanks, as a slice
bare_slice : (line : List ℕ) (n : ℕ) → n ≡ prefix_len is_blank line → take (length line - n) (drop n line) ≡ bare line
bare_slice line n run = rest_from line n ∙ ap (λ (m : ℕ). drop m line) run

pub starts_from : (line : List ℕ) (n : ℕ) (test : Bool) → n ≡ prefix_len is_blank line → test ≡ begins_token (take (length line - n) (drop n line)) → test ≡ true → Starts line (take (length line - n) (drop n line))
starts_from line n test run is begins =
    let slice = bare_slice line n run in
    rw slice (starts_bare line (ap begins_token (sym slice) ∙ (sym is ∙ begins)))

pub none_from : (line : List ℕ) (n : ℕ) (test : Bool) → n ≡ prefix_len is_blank line → test ≡ begins_token (take (length line - n) (drop n line)) → test ≡ false → IsBare line
none_from line n test run is none = none_starts line (ap begins_token (sym (bare_slice line n run)) ∙ (sym is ∙ none))
