-- The marks of those that a closed listener refuses, one after the other.
use Rattle.std.proofs.Common.{◌≡◌, ◌∙◌, ℕ, zero, suc, ◌<◌, Bool, true, false, List, [], ◌∷◌, length, get_or, is_some, Some, ◌==◌, refl, ap, arith}
use Rattle.std.specs.List.{list_any}
use Rattle.dill_loop.specs.Network.{Network, Pair, Place, Queued, Live, Closed, has_end, is_at, with_mark, listener_at, stream_at}
use Rattle.dill_loop.specs.Calls.{closed, stream_closed, with_refused_marks}
use Rattle.dill_loop.specs.Consistent.{has_link}
use Rattle.dill_loop.proofs.Telling.{or_left, or_right}
use Rattle.dill_loop.proofs.Ends.{at_live}

marked_pairs : (read write : Bool) (place : Place) (net : Network) (ps : List Pair) → with_mark read write place (record net { pairs = ps }) ≡ record (with_mark read write place net) { pairs = ps }
marked_pairs read write (Queued n) net ps = refl
marked_pairs read write (Live n) net ps = refl
marked_pairs read write Closed net ps = refl

-- the streams are others, and the marks as before
pub refused_pairs : (qs : List Pair) (net : Network) (ps : List Pair) → with_refused_marks qs (record net { pairs = ps }) ≡ record (with_refused_marks qs net) { pairs = ps }
refused_pairs [] net ps = refl
refused_pairs (q ∷ qs) net ps = ap (with_refused_marks qs) (marked_pairs true true q.dialed.place net ps) ∙ refused_pairs qs (with_mark true true q.dialed.place net) ps

same_pairs : (read write : Bool) (place : Place) (net : Network) → (with_mark read write place net).pairs ≡ net.pairs
same_pairs read write (Queued n) net = refl
same_pairs read write (Live n) net = refl
same_pairs read write Closed net = refl

-- no stream is another
pub pairs_stay : (qs : List Pair) (net : Network) → (with_refused_marks qs net).pairs ≡ net.pairs
pairs_stay [] net = refl
pairs_stay (q ∷ qs) net = pairs_stay qs (with_mark true true q.dialed.place net) ∙ same_pairs true true q.dialed.place net

-- who connected is there, if it has a link
pub dialed_there : (net : Network) (i : ℕ) (d : Pair) (l : ℕ) → i < length net.pairs → (get_or net.pairs i d).dialed.place ≡ Live l → has_link l net ≡ true
dialed_there net i d l h e = or_right (list_any (λ k. k.link == l) net.listeners) (list_any (has_end l) net.pairs) (within net.pairs i h e)
  where
    within : (qs : List Pair) (j : ℕ) → j < length qs → (get_or qs j d).dialed.place ≡ Live l → list_any (has_end l) qs ≡ true
    within [] j short at = absurd (omega (arith, short))
    within (q ∷ qs) zero short at = or_left (has_end l q) (list_any (has_end l) qs) (or_left (is_at l q.dialed.place) (is_at l q.taken.place) (at_live l q.dialed.place at))
    within (q ∷ qs) (suc j) short at = or_right (has_end l q) (list_any (has_end l) qs) (within qs j (omega (arith, short)) at)

-- a link that no listener has
pub closed_stream : (link : ℕ) (net : Network) (pair : Pair) → is_some (listener_at link net) ≡ false → stream_at link net ≡ Some pair → closed link net ≡ stream_closed link pair net
closed_stream link net pair none found = rw none (rw found refl)
