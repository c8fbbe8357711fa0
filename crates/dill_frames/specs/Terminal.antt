-- TERM, after libdill's protocol of that name: the messages of the layer below, until the terminal message.
use Rattle.std.specs.Prelude.{◌≡◌, ℕ, List}

-- `below m w`: w spells m in the layer below. A message spells as it does there, and the terminal message is none of this layer.
pub record TermSpells (below : List ℕ → List ℕ → Type 0) (terminal m w : List ℕ) : Type 0 where
  pub other : m ≡ terminal → ⊥
  pub spelled : below m w

-- `below m w`: w spells m in the layer below. With these bytes the direction has its end.
abbrev pub TermEnds : (List ℕ → List ℕ → Type 0) → List ℕ → List ℕ → Type 0
TermEnds below terminal w = below terminal w
