-- A call that waits is answered the same under any cutting, where one look that awaits more doesn't matter to the next.
use Rattle.std.proofs.Common.{◌≡◌, [], ◌∷◌, ◌++◌, List, ℕ, sym, ap, ◌∙◌, refl, subst, Bool, true, false, ◌||◌, append_assoc}
use Rattle.std.proofs.lemmas.List.{append-nil}
use Rattle.rand_core.specs.Stream.{Stream}
use Rattle.dill_stack.specs.declared.want.ReadOut.TheVariants.{Need}
use Rattle.dill_stack.specs.Layers.{Placed}
use Rattle.dill_stack.specs.Held.{Held, came, ended}
use Rattle.dill_stack.specs.Receiving.{Looked}
use Rattle.dill_stack.specs.Again.{still}
use Rattle.dill_stack.specs.Cutting.{Event, Came, Ended, Look, all_of, has_end, Looks, look_behind, AwaitMore, LooksAlike}

-- more bytes have come, and the peer has ended or not
abbrev pub more : List ℕ → Bool → Held → Held
more v e s = record s { unread = s.unread ++ v; receiving = record s.receiving { done = e || s.receiving.done } }

abbrev pub with_more : List ℕ → Bool → Held × Stream → Held × Stream
with_more v e now = (more v e now.0, now.1)

-- a look that awaited more
pub record Awaited (look : Looks) (Fits : List Placed → Type 0) (random : Stream) (s : Held) : Type 0 where
  pub stands : Fits (look random s).stack.layers
  pub alike : (v : List ℕ) (e : Bool) → look random (more v e s) ≡ look (look random s).random (more v e (look random s).stack)

pub still_awaited : (look : Looks) (Fits : List Placed → Type 0) (random : Stream) (s : Held) → Fits s.layers → look random s ≡ still random s → Awaited look Fits random s
still_awaited look Fits random s k e =
    record {
      stands = subst (λ (l : Looked). Fits l.stack.layers) (sym e) k;
      alike = λ v b. ap (λ (l : Looked). look l.random (more v b l.stack)) (sym e);
    }

more_none : (s : Held) → more [] false s ≡ s
more_none s = ap (λ u. record s { unread = u }) (append-nil s.unread)

more_both : (v w : List ℕ) (e : Bool) (s : Held) → more (v ++ w) e s ≡ more w e (came v s)
more_both v w e s = ap (λ u. record (more w e s) { unread = u }) (sym (append_assoc s.unread v w))

more_ended : (v : List ℕ) (e : Bool) (s : Held) → more v e (ended s) ≡ more v true s
more_ended v true s = refl
more_ended v false s = refl

-- a look after all of these is one at all that came at once
whole : (look : Looks) (Fits : List Placed → Type 0) → ((random : Stream) (s : Held) → Fits s.layers → (look random s).said ≡ Need → Awaited look Fits random s) → (events : List Event) (random : Stream) (s : Held) → Fits s.layers → AwaitMore look events (s, random)
    → look_behind look events (s, random) ≡ look random (more (all_of events) (has_end events) s)
whole look Fits f [] random s k m = ap (look random) (sym (more_none s))
whole look Fits f (Came v ∷ events) random s k m = whole look Fits f events random (came v s) k m ∙ ap (look random) (sym (more_both v (all_of events) (has_end events) s))
whole look Fits f (Ended ∷ events) random s k m = whole look Fits f events random (ended s) k m ∙ ap (look random) (more_ended (all_of events) (has_end events) s)
whole look Fits f (Look ∷ events) random s k m =
    let a : Awaited look Fits random s = f random s k m.0 in
    whole look Fits f events (look random s).random (look random s).stack a.stands m.1 ∙ sym (a.alike (all_of events) (has_end events))

pub looks_alike : (look : Looks) (Fits : List Placed → Type 0) → ((random : Stream) (s : Held) → Fits s.layers → (look random s).said ≡ Need → Awaited look Fits random s) → (s : Held) → Fits s.layers → LooksAlike look s
looks_alike look Fits f s k a b random e d m n =
    whole look Fits f a random s k m
    ∙ ap (λ u. look random (more u (has_end a) s)) e
    ∙ ap (λ h. look random (more (all_of b) h s)) d
    ∙ sym (whole look Fits f b random s k n)
