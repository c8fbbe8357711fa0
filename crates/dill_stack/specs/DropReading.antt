-- What a detach drops of what comes, as a relation: items one behind the other, and then what isn't one.
use Rattle.std.specs.Prelude.{◌≡◌, ◌⊎◌, ◌+◌, ℕ, List, [], ◌∷◌, Bool, true, false, drop}
use Rattle.dill_base.specs.declared.errno.Errno.{Errno}
use Rattle.dill_base.specs.declared.errno.Errno.TheVariants.{Epipe, Eproto}
use Rattle.dill_base.specs.Reading.{IsShown}
use Rattle.dill_calls.specs.declared.answer.Answer.TheVariants.{Number}
use Rattle.dill_frames.specs.Prefix.{AreBytes}
use Rattle.dill_http.specs.Lines.{LineShows, IsCutLine}
use Rattle.dill_stack.specs.declared.want.ReadOut.TheVariants.{Given, Need, Fault}
use Rattle.dill_stack.specs.Layers.{Placed, Prefix, Suffix, Term, Http, Ws, TermLayer, HttpLayer, AmongFields, IsStanding, is_first, is_behind}
use Rattle.dill_stack.specs.Formed.{IsFormed}
use Rattle.dill_stack.specs.Refusals.{is_met}
use Rattle.dill_stack.specs.Read.{Outcome, outcome, received}
use Rattle.dill_stack.specs.Messages.{IsFraming, MessageStands, EndStands, after_end, RefusalStands, NothingStands}
use Rattle.dill_stack.specs.LineReading.{LineStands, IsBoundary}
use Rattle.dill_stack.specs.Dropping.{drop_limit, dropped}

-- The first n bytes are an item that is dropped, and these layers are left: a message within the limit that is none of the terminal messages, or a line that isn't empty, whatever it says.
abbrev pub ItemStands : List Placed → List ℕ → ℕ → List Placed → Type 0
ItemStands (Term term ∷ below) u n after = (m : List ℕ) × (term.met ≡ false) × (is_met below ≡ false) × MessageStands (Term term ∷ below) drop_limit u m n × (after ≡ Term term ∷ below)
ItemStands (Http http ∷ below) u n after = (line : List ℕ) × (is_behind http.receiving ≡ false) × LineStands u line n × (line ≡ [] → ⊥) × (after ≡ received AmongFields http ∷ below)
ItemStands layers u n after = ⊥

-- What ends the dropping for an end by a terminal message, in the layers below it: this terminal message, that of a lower layer, or none.
pub data TermLast (term : TermLayer) (below : List Placed) (ended : Bool) (u : List ℕ) (o : Outcome) : Type 0 where
  Meets : (n : ℕ) → MessageStands below drop_limit u term.terminal n → o ≡ outcome n below (Given (Number 0)) → TermLast term below ended u o
  CutOff : (n : ℕ) → (s : EndStands below drop_limit u n) → o ≡ outcome n (Term term ∷ after_end below drop_limit u n s) (Fault Epipe) → TermLast term below ended u o
  Over : ended ≡ true → u ≡ [] → o ≡ outcome 0 (Term term ∷ below) (Fault Epipe) → TermLast term below ended u o
  Breaks : (e : Errno) → RefusalStands below drop_limit u e → o ≡ outcome 0 (Term term ∷ below) (Fault e) → TermLast term below ended u o
  Cuts : ended ≡ true → NothingStands below drop_limit u → (u ≡ [] → ⊥) → o ≡ outcome 0 (Term term ∷ below) (Fault Eproto) → TermLast term below ended u o
  Waits : ended ≡ false → NothingStands below drop_limit u → o ≡ outcome 0 (Term term ∷ below) Need → TermLast term below ended u o

-- What ends the dropping for a head: its empty line, which can't stand in place of the first, or no line.
pub data HeadLast (http : HttpLayer) (below : List Placed) (ended : Bool) (u : List ℕ) (o : Outcome) : Type 0 where
  MeetsEmpty : (n : ℕ) → LineStands u [] n → is_first http.receiving ≡ false → o ≡ outcome n below (Given (Number 0)) → HeadLast http below ended u o
  MeetsEarly : (n : ℕ) → LineStands u [] n → is_first http.receiving ≡ true → o ≡ outcome 0 (Http http ∷ below) (Fault Eproto) → HeadLast http below ended u o
  OverHead : ended ≡ true → IsBoundary http u → o ≡ outcome 0 (Http http ∷ below) (Fault Epipe) → HeadLast http below ended u o
  BreaksLine : (e : Errno) → IsShown LineShows u e → o ≡ outcome 0 (Http http ∷ below) (Fault e) → HeadLast http below ended u o
  CutsLine : ended ≡ true → IsCutLine u → (IsBoundary http u → ⊥) → o ≡ outcome 0 (Http http ∷ below) (Fault Eproto) → HeadLast http below ended u o
  WaitsLine : ended ≡ false → IsCutLine u → o ≡ outcome 0 (Http http ∷ below) Need → HeadLast http below ended u o

-- the peer's end was met before, or that of a layer below was, or what ends the dropping stands at the front
abbrev pub TermStops : TermLayer → List Placed → Bool → List ℕ → Outcome → Type 0
TermStops term below ended u o =
    ((term.met ≡ true) × (o ≡ outcome 0 below (Given (Number 0))))
    ⊎ (((term.met ≡ false) × (is_met below ≡ true) × (o ≡ outcome 0 (Term term ∷ below) (Fault Epipe)))
    ⊎ ((term.met ≡ false) × (is_met below ≡ false) × TermLast term below ended u o))

abbrev pub HeadStops : HttpLayer → List Placed → Bool → List ℕ → Outcome → Type 0
HeadStops http below ended u o =
    ((is_behind http.receiving ≡ true) × (o ≡ outcome 0 below (Given (Number 0))))
    ⊎ ((is_behind http.receiving ≡ false) × HeadLast http below ended u o)

-- No item stands at the front, and this is what becomes of the detach. A framing drops nothing.
abbrev pub LastStands : Bool → List Placed → List ℕ → Outcome → Type 0
LastStands ended [] u o = o ≡ outcome 0 [] Need
LastStands ended (Prefix form ∷ below) u o = o ≡ outcome 0 below (Given (Number 0))
LastStands ended (Suffix end ∷ below) u o = o ≡ outcome 0 below (Given (Number 0))
LastStands ended (Term term ∷ below) u o = TermStops term below ended u o
LastStands ended (Http http ∷ below) u o = HeadStops http below ended u o
LastStands ended (Ws ws ∷ below) u o = ⊥

-- behind so many bytes
abbrev pub behind_bytes : ℕ → Outcome → Outcome
behind_bytes n o = record o { used = n + o.used }

-- Items one behind the other, and then what isn't one.
pub data Drops (ended : Bool) : List Placed → List ℕ → Outcome → Type 0 where
  Next : (layers : List Placed) (u : List ℕ) (n : ℕ) (after : List Placed) (o : Outcome) → ItemStands layers u n after → Drops ended after (drop n u) o → Drops ended layers u (behind_bytes n o)
  Last : (layers : List Placed) (u : List ℕ) (o : Outcome) → LastStands ended layers u o → Drops ended layers u o

-- framings with or without ends by terminal messages, and a head
abbrev pub IsSimple : List Placed → Type 0
IsSimple [] = Unit {0}
IsSimple (Term term ∷ below) = IsFraming below
IsSimple (Ws ws ∷ below) = ⊥
IsSimple (layer ∷ below) = Unit {0}

-- detaches without a WebSocket layer
pub record DropLaws : Type 0 where
  -- what is dropped are items, up to what isn't one
  pub drops : (layers : List Placed) (u : List ℕ) (ended : Bool) → IsSimple layers → IsStanding layers → IsFormed layers → AreBytes u → Drops ended layers u (dropped layers u ended)
  -- and nothing else is dropped or answered
  pub only : (layers : List Placed) (u : List ℕ) (ended : Bool) (o : Outcome) → IsSimple layers → IsStanding layers → IsFormed layers → AreBytes u → Drops ended layers u o → dropped layers u ended ≡ o
