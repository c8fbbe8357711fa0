-- The pongs of a queue, ahead of a call's item and behind it.
use Rattle.std.proofs.Common.{◌≡◌, ◌≤◌, ◌<◌, ◌≢◌, ◌+◌, ◌-◌, ◌==◌, ◌∷◌, ap, refl, subst, ◌∙◌, arith, ℕ, List, Bool, true, false, Option, Some, None, length, take, drop, min, if◌then◌else◌}
use Rattle.std.proofs.lemmas.Bool.{eqb-false, ne_eqb}
use Rattle.std.proofs.lemmas.List.{length-take, length-drop}
use Rattle.dill_stack.specs.declared.queue.Pending.{Pending}
use Rattle.dill_stack.specs.declared.queue.Begun.{Begun}
use Rattle.dill_stack.specs.declared.queue.Waiting.{Waiting}
use Rattle.dill_stack.specs.declared.queue.Waiting.TheVariants as waiting
use Rattle.dill_stack.specs.Held.{Item}
use Rattle.dill_stack.specs.Sending.{offered_of, gone_on, offer_limit}
use Rattle.dill_stack.specs.Standing.{queue_items, IsPending, IsBegun, IsWaiting, begun_by, ahead_of, behind_of, without_ahead, without_behind}

pub none_if : {A : Type 0} (o : Option A) → ((x : A) → o ≡ Some x → ⊥) → o ≡ None
none_if None f = refl
none_if (Some x) f = absurd (f x refl)

-- the first item, of which nothing more has gone
still_first : (item : Item) (rest : List Item) → item.gone < length item.bytes → gone_on 0 (item ∷ rest) ≡ item ∷ rest
still_first item rest l =
    let z : item.gone + 0 ≡ item.gone = omega arith in
    let n : (item.gone == length item.bytes) ≡ false = ne_eqb item.gone (length item.bytes) (λ e. omega (arith, l, e)) in
    ap (λ g. if g == length item.bytes then rest else record item { gone = g } ∷ rest) z ∙ ap (λ b. if b then rest else item ∷ rest) n

pub none_gone : (b : Option Begun) (w : Waiting) (x : List ℕ) (p : Option Pending) → IsPending x p → IsBegun b → IsWaiting w → gone_on 0 (queue_items b w x p) ≡ queue_items b w x p
none_gone (Some b) w x p i j k = still_first _ _ j.1
none_gone None (waiting.Ahead pong) x p i j k = still_first _ _ (omega (arith, k))
none_gone None waiting.Nothing x None i j k = refl
none_gone None waiting.Nothing x (Some p) i j k = still_first _ _ i.0
none_gone None (waiting.Behind pong) x None i j k = still_first _ _ (omega (arith, k))
none_gone None (waiting.Behind pong) x (Some p) i j k = still_first _ _ i.0

fits_first : (bytes : List ℕ) (gone count : ℕ) → gone ≤ length bytes → count ≤ length (take offer_limit (drop gone bytes)) → gone + count ≤ length bytes
fits_first bytes gone count l h =
    let t : length (take offer_limit (drop gone bytes)) ≡ min offer_limit (length (drop gone bytes)) = length-take offer_limit (drop gone bytes) in
    let d : length (drop gone bytes) ≡ length bytes - gone = length-drop gone bytes in
    omega (arith, h, t, d, l)

-- what was offered of the first item, whichever it is
pub begun_fits : (b : Option Begun) (w : Waiting) (x : List ℕ) (p : Option Pending) (k : Begun) (count : ℕ) → b ≡ Some k → IsBegun b → count ≤ length (offered_of (queue_items b w x p)) → k.gone + count ≤ length k.pong
begun_fits None w x p k count e i h = cc
begun_fits (Some b) w x p k count e i h = let s : b ≡ k = cc in subst (λ (y : Begun). y.gone + count ≤ length y.pong) s (fits_first b.pong b.gone count (omega (arith, i.1)) h)

pub ahead_fits : (b : Option Begun) (w : Waiting) (x : List ℕ) (p : Option Pending) (pong : List ℕ) (count : ℕ) → b ≡ None → ahead_of w ≡ Some pong → count ≤ length (offered_of (queue_items b w x p)) → 0 + count ≤ length pong
ahead_fits (Some b) w x p pong count n e h = cc
ahead_fits None waiting.Nothing x p pong count n e h = cc
ahead_fits None (waiting.Behind y) x p pong count n e h = cc
ahead_fits None (waiting.Ahead y) x p pong count n e h = let s : y ≡ pong = cc in subst (λ z. 0 + count ≤ length z) s (fits_first y 0 count (omega arith) h)

pub item_fits : (b : Option Begun) (w : Waiting) (x : List ℕ) (p : Option Pending) (q : Pending) (count : ℕ) → b ≡ None → ahead_of w ≡ None → p ≡ Some q → IsPending x p → count ≤ length (offered_of (queue_items b w x p)) → q.gone + count ≤ length x
item_fits (Some b) w x p q count n m e i h = cc
item_fits None (waiting.Ahead y) x p q count n m e i h = cc
item_fits None w x None q count n m e i h = cc
item_fits None waiting.Nothing x (Some p) q count n m e i h = let s : p ≡ q = cc in subst (λ (y : Pending). y.gone + count ≤ length x) s (fits_first x p.gone count (omega (arith, i.0)) h)
item_fits None (waiting.Behind y) x (Some p) q count n m e i h = let s : p ≡ q = cc in subst (λ (y : Pending). y.gone + count ≤ length x) s (fits_first x p.gone count (omega (arith, i.0)) h)

pub behind_fits : (b : Option Begun) (w : Waiting) (x : List ℕ) (p : Option Pending) (pong : List ℕ) (count : ℕ) → b ≡ None → ahead_of w ≡ None → p ≡ None → behind_of (without_ahead w) ≡ Some pong → count ≤ length (offered_of (queue_items b w x p)) → 0 + count ≤ length pong
behind_fits (Some b) w x p pong count n m o e h = cc
behind_fits None w x (Some p) pong count n m o e h = cc
behind_fits None waiting.Nothing x None pong count n m o e h = cc
behind_fits None (waiting.Ahead y) x None pong count n m o e h = cc
behind_fits None (waiting.Behind y) x None pong count n m o e h = let s : y ≡ pong = cc in subst (λ z. 0 + count ≤ length z) s (fits_first y 0 count (omega arith) h)

-- a pong of which some bytes have gone
pub begun_sound : (pong : List ℕ) (gone : ℕ) → 1 ≤ gone → gone ≤ length pong → IsBegun (begun_by pong gone)
begun_sound pong gone s l = at (gone == length pong) refl
  where
    at : (b : Bool) → (gone == length pong) ≡ b → IsBegun (if b then None else Some (record { pong = pong; gone = gone }))
    at true e = tt
    at false e = let n : gone ≢ length pong = eqb-false gone (length pong) e in (s, omega (arith, n, l))

pub waits_without_ahead : (w : Waiting) → IsWaiting w → IsWaiting (without_ahead w)
waits_without_ahead waiting.Nothing i = i
waits_without_ahead (waiting.Ahead y) i = tt
waits_without_ahead (waiting.Behind y) i = i

pub waits_without_behind : (w : Waiting) → IsWaiting w → IsWaiting (without_behind w)
waits_without_behind waiting.Nothing i = i
waits_without_behind (waiting.Ahead y) i = i
waits_without_behind (waiting.Behind y) i = tt
