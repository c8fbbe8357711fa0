-- A step, and then its answers in the queue: it is kept well, and there is room for it.
use Rattle.std.proofs.Common.{◌≡◌, ◌∙◌, ℕ, ◌+◌, ◌≤◌, List, [], ◌∷◌, ◌++◌, length, map, get_or, Bool, true, false, refl, sym, ap, subst, arith}
use Rattle.std.specs.List.{remove}
use Rattle.dill_calls.specs.Program.{Program}
use Rattle.dill_rules.specs.State.{lined, fresh}
use Rattle.dill_rules.specs.World.{World, opening}
use Rattle.laws_queue.specs.Kept.{root_closed, Kept, opening_kept, queued, has_answer}
use Rattle.laws_queue.specs.Laws.{HasPlaces}
use Rattle.laws_queue.specs.Lending.{no_random}
use Rattle.laws_queue.specs.Well.{IsWell}
use Rattle.laws_debt.specs.Closing.{IsStable}
use Rattle.dill_world.specs.Store.{Store, world_of}
use Rattle.dill_core.specs.Holding.{Holding, kept_of, IsHeld}
use Rattle.dill_core.proofs.Queue.{first_queued}

map_length : {A B : Type 0} (f : A → B) (xs : List A) → length (map f xs) ≡ length xs
map_length f [] = refl
map_length f (x ∷ xs) = let r = map_length f xs in omega (arith, r)

module _ {V : Type 0} where
  -- there is room for those who were answered in a step
  pub has_places : (s : Store V) (v : World V) (ready : List ℕ) (places : ℕ) → world_of s ≡ v → HasPlaces ready v → length s.coroutines ≤ places → length ready + length (fresh (world_of s)) ≤ places
  has_places s v ready places e h l = let k : length ready + length (fresh (world_of s)) ≤ length s.coroutines = subst (HasPlaces ready) (sym e) h in omega (arith, k, l)

  -- what is held once they are lined up
  pub lined_kept : (s new : Store V) (v : World V) (ready ready' : List ℕ) (early : ℕ) → world_of s ≡ v → world_of new ≡ record (world_of s) { coroutines = map lined s.coroutines } → ready' ≡ ready ++ fresh (world_of s)
      → kept_of (record { world = new; ready = ready'; early = early }) ≡ queued v ready early
  lined_kept s new v ready ready' early e f r =
      let made : World V → List ℕ → Kept V = λ w ns. record { world = w; ready = ns; early = early } in
      ap (λ w. made w ready') f ∙ ap (made (record (world_of s) { coroutines = map lined s.coroutines })) r ∙ ap (λ w. queued w ready early) e

  pub lined_held : (p : Program V) (s new : Store V) (v : World V) (ready ready' : List ℕ) (early places : ℕ) → world_of s ≡ v → world_of new ≡ record (world_of s) { coroutines = map lined s.coroutines } → ready' ≡ ready ++ fresh (world_of s)
      → IsStable p (queued v ready early) → length s.coroutines ≤ places → IsHeld p (record { world = new; ready = ready'; early = early }) places
  lined_held p s new v ready ready' early places e f r stable l =
      let rows : new.coroutines ≡ map lined s.coroutines = ap (λ (w : World V). w.coroutines) f in
      let same : length new.coroutines ≡ length s.coroutines = ap length rows ∙ map_length lined s.coroutines in
      record { stable = subst (IsStable p) (sym (lined_kept s new v ready ready' early e f r)) stable; room = omega (arith, same, l) }

-- where there is no room for one more there are no more, and else at most one
pub spare_room : (spare : Bool) (old new places : ℕ) → (spare ≡ false → new ≤ old) → new ≤ old + 1 → (spare ≡ true → old + 1 ≤ places) → old ≤ places → new ≤ places
spare_room true old new places few one room l = let r = room refl in omega (arith, r, one)
spare_room false old new places few one room l = let r = few refl in omega (arith, r, l)

module _ {V : Type 0} where
  -- what is kept as the root closes is kept well
  pub closed_well : (p : Program V) (h : Holding V) (early : ℕ) → IsWell p (kept_of h) → IsWell p (record { world = root_closed (kept_of h).world; ready = h.ready; early = early })
  closed_well p h early well = record {
    lives = well.lives;
    numbered = well.numbered;
    queue = well.queue;
  }

  -- whose turn it is
  pub queue_is : (h : Holding V) (now : Holding V) (who : ℕ) (rest : List ℕ) → h ≡ now → has_answer now.ready ≡ true → who ≡ get_or h.ready 0 who → rest ≡ remove h.ready 0 → h.ready ≡ who ∷ rest
  queue_is h now who rest same e first behind =
      let answered : has_answer h.ready ≡ true = ap (λ (x : Holding V). has_answer x.ready) same ∙ e in
      first_queued h.ready who answered ∙ ap (λ n. n ∷ remove h.ready 0) (sym first) ∙ ap (λ ns. who ∷ ns) (sym behind)

  -- what is held where it is known what is kept
  pub held_as : (p : Program V) (h : Holding V) (k : Kept V) (places : ℕ) → kept_of h ≡ k → IsStable p k → length h.world.coroutines ≤ places → IsHeld p h places
  held_as p h k places same stable room = record { stable = subst (IsStable p) (sym same) stable; room = room }

  -- what is held before the first turn
  pub opened_held : (p : Program V) (s : Store V) (ready : List ℕ) (view : V) (places : ℕ) → world_of s ≡ opening view no_random → ready ≡ 1 ∷ [] → IsStable p (opening_kept view) → 1 ≤ places → IsHeld p (record { world = s; ready = ready; early = 0 }) places
  opened_held p s ready view places w r stable room =
      let made : World V → List ℕ → Kept V = λ v ns. record { world = v; ready = ns; early = 0 } in
      held_as p (record { world = s; ready = ready; early = 0 }) (opening_kept view) places (ap (λ (v : World V). made v ready) w ∙ ap (made (opening view no_random)) r) stable
      (let same = ap (λ (v : World V). length v.coroutines) w in omega (arith, same, room))
