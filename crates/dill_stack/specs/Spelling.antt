-- How the layers of a stack spell a message, as a relation.
use Rattle.std.specs.Prelude.{◌≡◌, ◌≤◌, ℕ, List, [], ◌∷◌, true, false, length, IsUtf8, if◌then◌else◌, None, Ok}
use Rattle.rand_core.specs.Stream.{Stream}
use Rattle.dill_frames.specs.Prefix.{PrefixSpells}
use Rattle.dill_frames.specs.Suffix.{SuffixSpells}
use Rattle.dill_ws.specs.Frames.{Frame}
use Rattle.dill_ws.specs.Handshakes.{head_fault_of}
use Rattle.dill_stack.specs.declared.layer.Layer.{Layer}
use Rattle.dill_stack.specs.Layers.{Placed, Prefix, Suffix, Term, Http, Ws, IsStanding}
use Rattle.dill_stack.specs.Formed.{IsFormed}
use Rattle.dill_stack.specs.Held.{Held, is_broken}
use Rattle.dill_stack.specs.Composed.{message_limit, composed, random_after}
use Rattle.dill_stack.specs.Refusals.{send_fault, is_done}
use Rattle.dill_stack.specs.Attaching.{attach}
use Rattle.dill_stack.specs.Greeting.{offer_fault}

-- w is the spelling of m by the top layer, spelled again by each layer below. A WebSocket layer in text mode sends UTF-8 alone.
abbrev pub SpelledBy : List Placed → List ℕ → List ℕ → Type 0
SpelledBy [] m w = w ≡ m
SpelledBy (Prefix form ∷ below) m w = (v : List ℕ) × PrefixSpells form m v × SpelledBy below v w
SpelledBy (Suffix end ∷ below) m w = (v : List ℕ) × SuffixSpells end m v × SpelledBy below v w
SpelledBy (Term term ∷ below) m w = (m ≡ term.terminal → ⊥) × SpelledBy below m w
SpelledBy (Http http ∷ below) m w = ⊥
SpelledBy (Ws ws ∷ below) m w = (v : List ℕ) × (ws.text ≡ true → IsUtf8 m) × Frame ws.side true (if ws.text then 1 else 2) m v × SpelledBy below v w

-- what is attached, and what is sent for a message
pub record FramingLaws : Type 0 where
  -- where both directions are whole, a handshake is refused as the client's head is
  pub offered : (resource host : List ℕ) (s : Held) → is_done s ≡ false → is_broken s ≡ false → offer_fault resource host s ≡ head_fault_of resource host
  -- an attach that isn't refused keeps the layers formed
  pub formed : (l : Layer) (s t : Held) → attach l s ≡ Ok t → IsFormed s.layers → IsFormed t.layers
  -- a message that isn't refused has a composed framing, which takes the numbers that its layers draw
  pub taken : (s : Held) (m : List ℕ) (random : Stream) → IsStanding s.layers → send_fault m false s ≡ None → (w : List ℕ) × (composed s.layers m random ≡ Ok (w, random_after s.layers random))
  -- what is composed is the spelling
  pub spelled : (layers : List Placed) (m w : List ℕ) (random rest : Stream) → IsStanding layers → IsFormed layers → length m ≤ message_limit → composed layers m random ≡ Ok (w, rest) → SpelledBy layers m w
