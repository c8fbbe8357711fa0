-- What a detach does with one item, and what all of them leave.
use Rattle.std.specs.Prelude.{ℕ, zero, suc, ◌-◌, List, [], ◌∷◌, Bool, false, take, drop}
use Rattle.dill_base.specs.declared.errno.Errno.TheVariants.{Epipe}
use Rattle.dill_calls.specs.declared.answer.Answer.TheVariants.{Bytes, Number}
use Rattle.dill_stack.specs.declared.dropping.DropStep.{DropStep}
use Rattle.dill_stack.specs.declared.dropping.DropStep.TheVariants as step
use Rattle.dill_stack.specs.declared.want.ReadOut.TheVariants.{Given, Fault}
use Rattle.dill_stack.specs.Layers.{TermLayer, Placed, Term}
use Rattle.dill_stack.specs.Held.{Held}
use Rattle.dill_stack.specs.Read.{Outcome, outcome}
use Rattle.dill_stack.specs.Dropping.{Dropped, Item, End, Stops, drop_one, dropped, drop_message}
use Rattle.dill_stack.specs.Refusals.{is_met_layer}
use Rattle.dill_stack.specs.Seeing.{emptied_layers, joined_in}
use Rattle.dill_stack.specs.Taking.{over_layers, meet}

-- the outcome of one item
abbrev pub outcome_of : Dropped → Outcome
outcome_of (Item o) = o
outcome_of (End o) = o
outcome_of (Stops o) = o

-- what is said of it
abbrev pub step_of : Dropped → DropStep
step_of (Item o) = step.Item
step_of (End o) = step.End
step_of (Stops o) = step.Stops o.said

-- the item at the front
abbrev pub next_dropped : Held → Dropped
next_dropped s = drop_one s.layers s.unread s.receiving.done

-- all items that a detach drops
abbrev pub all_dropped : Held → Outcome
all_dropped s = dropped s.layers s.unread s.receiving.done

-- the end of the top layer was met, where that is an end by a terminal message
abbrev pub is_top_met : List TermLayer → Bool
is_top_met [] = false
is_top_met (term ∷ terms) = term.met

-- the ends below the top
abbrev pub below_top : List TermLayer → List TermLayer
below_top [] = []
below_top (term ∷ terms) = terms

-- the message past the layers below, which is dropped, or is the end
abbrev pub sifted : List Placed → Outcome → Dropped
sifted (Term term ∷ below) o = drop_message term (over_layers below o)
sifted layers o = Stops o

-- the whole message at the front
abbrev pub sifted_message : (from to used : ℕ) → Held → Dropped
sifted_message from to used s = sifted s.layers (outcome used [] (Given (Bytes (take (to - from) (drop from s.unread)))))

-- what a detach does where the end of the layer at this place stands at the front: it has met that of the top, or is cut off by one below
abbrev pub step_at : ℕ → DropStep
step_at zero = step.End
step_at (suc n) = step.Stops (Fault Epipe)

-- the ends after that
abbrev pub terms_at : ℕ → List TermLayer → List TermLayer
terms_at zero terms = below_top terms
terms_at (suc n) terms = meet (suc n) terms

-- the layers below the top
abbrev pub below_layers : List Placed → List Placed
below_layers [] = []
below_layers (layer ∷ below) = below

-- the end of the top layer was met
abbrev pub top_met : List Placed → Bool
top_met [] = false
top_met (layer ∷ below) = is_met_layer layer

-- what becomes of a message that the WebSocket layer has joined, over these layers: it is dropped, or is the end of one
abbrev pub drop_over : List Placed → List ℕ → Dropped
drop_over (Term term ∷ below) m = drop_message term (over_layers below (outcome 0 [] (Given (Bytes m))))
drop_over layers m = Item (outcome 0 layers (Given (Bytes m)))

abbrev pub joined_dropped : Held → Dropped
joined_dropped s = drop_over (emptied_layers s.layers) (joined_in s.layers)

-- what becomes of a close frame: it is the end, or cuts off the detach of a layer above
abbrev pub close_dropped : List Placed → Dropped
close_dropped (Term term ∷ below) = Stops (outcome 0 (Term term ∷ below) (Fault Epipe))
close_dropped layers = End (outcome 0 (below_layers layers) (Given (Number 0)))

-- with so many bytes used
abbrev pub used_in : ℕ → Dropped → Dropped
used_in n (Item o) = Item (record o { used = n })
used_in n (End o) = End (record o { used = n })
used_in n (Stops o) = Stops (record o { used = n })
