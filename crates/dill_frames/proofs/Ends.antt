-- The end of TERM over each framing.
use Rattle.std.proofs.Common.{◌≡◌, List, ℕ}
use Rattle.dill_frames.specs.Terminal.{TermSpells, TermEnds}

-- A layer below that spells one message at most has no message of the layer in the end's spelling.
pub end_apart : (below : List ℕ → List ℕ → Type 0) (t m w : List ℕ) → ((a b : List ℕ) → below a w → below b w → a ≡ b) → TermSpells below t m w → TermEnds below t w → ⊥
end_apart below t m w one s e = s.other (one m t s.spelled e)
