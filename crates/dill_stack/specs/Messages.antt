-- When a receive is given a message, meets an end or is refused, by what stands at the front of the unread list.
use mathlib.Core.Logic.{inl, inr}
use Rattle.std.specs.Prelude.{◌≡◌, ◌⊎◌, ◌≤◌, ℕ, List, [], ◌∷◌, Bool, true, false, length, take}
use Rattle.dill_base.specs.declared.errno.Errno.{Errno}
use Rattle.dill_base.specs.declared.errno.Errno.TheVariants.{Epipe, Eproto}
use Rattle.dill_base.specs.Reading.{IsShown}
use Rattle.dill_calls.specs.declared.answer.Answer.TheVariants.{Bytes}
use Rattle.dill_frames.specs.Prefix.{AreBytes, PrefixShows}
use Rattle.dill_frames.specs.Suffix.{SuffixShows}
use Rattle.dill_stack.specs.declared.want.ReadOut.TheVariants.{Given, Need, Fault}
use Rattle.dill_stack.specs.Layers.{Placed, Prefix, Suffix, Term, Http, Ws, IsStanding}
use Rattle.dill_stack.specs.Formed.{IsFormed}
use Rattle.dill_stack.specs.Refusals.{is_met}
use Rattle.dill_stack.specs.Read.{outcome, read_message}
use Rattle.dill_stack.specs.Spelling.{SpelledBy}

-- each message stands whole in the list: no WebSocket layer joins it of frames
abbrev pub IsFraming : List Placed → Type 0
IsFraming [] = ⊥
IsFraming (Prefix form ∷ below) = Unit {0}
IsFraming (Suffix end ∷ below) = Unit {0}
IsFraming (Term term ∷ below) = IsFraming below
IsFraming (Http http ∷ below) = ⊥
IsFraming (Ws ws ∷ below) = ⊥

-- The first n bytes spell the message, which is within the limit.
pub record MessageStands (layers : List Placed) (limit : ℕ) (u m : List ℕ) (n : ℕ) : Type 0 where
  pub there : n ≤ length u
  pub short : length m ≤ limit
  pub spelled : SpelledBy layers m (take n u)

-- The first n bytes spell the terminal message of one of the layers, in the layers below it.
abbrev pub EndStands : List Placed → ℕ → List ℕ → ℕ → Type 0
EndStands [] limit u n = ⊥
EndStands (Term term ∷ below) limit u n = MessageStands below limit u term.terminal n ⊎ EndStands below limit u n
EndStands (layer ∷ below) limit u n = ⊥

-- the layers behind an end that was met: the layer whose terminal message stood there has met it
abbrev pub after_end : (layers : List Placed) (limit : ℕ) (u : List ℕ) (n : ℕ) → EndStands layers limit u n → List Placed
after_end (Term term ∷ below) limit u n (inl stands) = Term (record term { met = true }) ∷ below
after_end (Term term ∷ below) limit u n (inr stands) = Term term ∷ after_end below limit u n stands
after_end layers limit u n stands = layers

-- A front of the list shows the refusal, in the framing on the link.
abbrev pub RefusalStands : List Placed → ℕ → List ℕ → Errno → Type 0
RefusalStands [] limit u e = ⊥
RefusalStands (Prefix form ∷ below) limit u e = IsShown (PrefixShows form limit) u e
RefusalStands (Suffix end ∷ below) limit u e = IsShown (SuffixShows end limit) u e
RefusalStands (Term term ∷ below) limit u e = RefusalStands below limit u e
RefusalStands (layer ∷ below) limit u e = ⊥

-- Nothing whole is there: neither a message nor an end stands at the front, and no front shows a refusal.
pub record NothingStands (layers : List Placed) (limit : ℕ) (u : List ℕ) : Type 0 where
  pub unspelled : (n : ℕ) (m : List ℕ) → MessageStands layers limit u m n → ⊥
  pub unended : (n : ℕ) → EndStands layers limit u n → ⊥
  pub unshown : (e : Errno) → RefusalStands layers limit u e → ⊥

-- framings with or without ends by terminal messages, of which none was met
pub record IsReadable (layers : List Placed) : Type 0 where
  pub framing : IsFraming layers
  pub standing : IsStanding layers
  pub formed : IsFormed layers
  pub unmet : is_met layers ≡ false

-- receives of messages, by what stands at the front
pub record MessageLaws : Type 0 where
  -- A message is given exactly where it stands at the front, and just its bytes are used.
  pub gives : (layers : List Placed) (limit : ℕ) (u m : List ℕ) (n : ℕ) (ended : Bool) → IsReadable layers → MessageStands layers limit u m n → read_message layers u ended limit ≡ outcome n layers (Given (Bytes m))
  pub given : (layers : List Placed) (limit : ℕ) (u m : List ℕ) (ended : Bool) → IsReadable layers → AreBytes u → (read_message layers u ended limit).said ≡ Given (Bytes m) → MessageStands layers limit u m (read_message layers u ended limit).used
  -- An end is met where it stands there, and just its bytes are used. Where EPIPE is answered an end stands there, or the list ended with nothing unread.
  pub ends : (layers : List Placed) (limit : ℕ) (u : List ℕ) (n : ℕ) (ended : Bool) → IsReadable layers → (stands : EndStands layers limit u n) → read_message layers u ended limit ≡ outcome n (after_end layers limit u n stands) (Fault Epipe)
  pub over : (layers : List Placed) (limit : ℕ) → IsReadable layers → read_message layers [] true limit ≡ outcome 0 layers (Fault Epipe)
  pub ended : (layers : List Placed) (limit : ℕ) (u : List ℕ) (ended : Bool) → IsReadable layers → AreBytes u → (read_message layers u ended limit).said ≡ Fault Epipe → EndStands layers limit u (read_message layers u ended limit).used ⊎ ((ended ≡ true) × (u ≡ []))
  -- A refusal is answered exactly where it stands there, and nothing is used.
  pub refuses : (layers : List Placed) (limit : ℕ) (u : List ℕ) (e : Errno) (ended : Bool) → IsReadable layers → RefusalStands layers limit u e → read_message layers u ended limit ≡ outcome 0 layers (Fault e)
  pub refused : (layers : List Placed) (limit : ℕ) (u : List ℕ) (e : Errno) (ended : Bool) → IsReadable layers → AreBytes u → (e ≡ Epipe → ⊥) → (e ≡ Eproto → ⊥) → (read_message layers u ended limit).said ≡ Fault e → RefusalStands layers limit u e
  -- EPROTO is answered exactly where the list ended with something unread in which nothing whole stands, and nothing is used.
  pub cuts : (layers : List Placed) (limit : ℕ) (u : List ℕ) → IsReadable layers → AreBytes u → NothingStands layers limit u → (u ≡ [] → ⊥) → read_message layers u true limit ≡ outcome 0 layers (Fault Eproto)
  pub cut : (layers : List Placed) (limit : ℕ) (u : List ℕ) (ended : Bool) → IsReadable layers → AreBytes u → (read_message layers u ended limit).said ≡ Fault Eproto → (ended ≡ true) × (u ≡ [] → ⊥) × NothingStands layers limit u
  -- More bytes are awaited exactly where nothing whole stands there and the list goes on, and nothing is used.
  pub waits : (layers : List Placed) (limit : ℕ) (u : List ℕ) → IsReadable layers → AreBytes u → NothingStands layers limit u → read_message layers u false limit ≡ outcome 0 layers Need
  pub needs : (layers : List Placed) (limit : ℕ) (u : List ℕ) (ended : Bool) → IsReadable layers → AreBytes u → (read_message layers u ended limit).said ≡ Need → (ended ≡ false) × NothingStands layers limit u
