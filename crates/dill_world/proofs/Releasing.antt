-- What releasing numbers one after the other comes to.
use Rattle.std.proofs.Common.{◌≡◌, ◌∙◌, ℕ, suc, ◌+◌, ◌≤◌, ◌==◌, List, [], ◌∷◌, ◌++◌, length, filter, fold, reverse, find, cond, Bool, true, false, Option, Some, None, if◌then◌else◌, refl, sym, ap, arith, append_assoc, length-append}
use Rattle.std.proofs.lemmas.List.{append-nil, reverse-append}
use Rattle.dill_calls.specs.declared.ran.Note.{Note}
use Rattle.dill_calls.specs.declared.ran.Note.TheVariants.{Freed}
use Rattle.dill_chan.specs.Channels.{Channels}
use Rattle.dill_handles.specs.Handles as handles
use Rattle.dill_handles.specs.Handles.{Handles}
use Rattle.dill_handles.specs.declared.entry.Entry.{Entry}
use Rattle.dill_base.specs.Maps.{if_some, without}
use Rattle.dill_rules.specs.declared.thing.Thing.{Thing}
use Rattle.dill_rules.specs.declared.thing.Thing.TheVariants as things
use Rattle.dill_rules.specs.Links.{Links}
use Rattle.dill_rules.specs.World.{note}
use Rattle.dill_rules.specs.Owning.{drop, release}
use Rattle.dill_rules.specs.Settling.{release_all}
use Rattle.dill_world.specs.Store.{Store, world_of}
use Rattle.dill_world.specs.Releases.{freed, owned_number, falling, retire_all, retire_noted, drop_end_of, drop_named, drop_all, drop_noted, close_link, close_named, close_all_named, close_noted}
use Rattle.dill_world.proofs.Closing.{bit, times, numbers, without_times, without_length, itself}

times_append : (k : ℕ) (ms ns : List ℕ) → times k (ms ++ ns) ≡ times k ms + times k ns
times_append k [] ns = omega arith
times_append k (m ∷ ms) ns = let r = times_append k ms ns in omega (arith, r)

times_reverse : (k : ℕ) (ns : List ℕ) → times k (reverse ns) ≡ times k ns
times_reverse k [] = refl
times_reverse k (n ∷ ns) =
    let r = times_reverse k ns in
    let s = times_append k (reverse ns) (n ∷ []) in
    ap (times k) (reverse-append (n ∷ []) ns) ∙ omega (arith, r, s)

owned_at : (b : Bool) (k : ℕ) (e : Entry Thing) (es es' : List (Entry Thing)) → times k (numbers es') ≤ times k (numbers es) → times k (numbers (cond b (e ∷ es') es')) ≤ bit (e.number == k) + times k (numbers es)
owned_at true k e es es' h = omega (arith, h)
owned_at false k e es es' h = omega (arith, h)

owned_within : (who k : ℕ) (es : List (Entry Thing)) → times k (numbers (filter (handles.is_owned who) es)) ≤ times k (numbers es)
owned_within who k [] = omega arith
owned_within who k (e ∷ es) = owned_at (handles.is_owned who e) k e es (filter (handles.is_owned who) es) (owned_within who k es)

pub falling_within : (who : ℕ) (es : List (Entry Thing)) (k : ℕ) → times k (falling who es) ≤ times k (numbers es)
falling_within who es k = let r = times_reverse k (numbers (filter (handles.is_owned who) es)) in let s = owned_within who k es in omega (arith, r, s)

-- each of these numbers is retired, where it stands there as often
pub all_retired : (ns : List ℕ) (h : Handles Thing) → ((k : ℕ) → times k ns ≤ times k (numbers h.entries)) → (length (retire_all h ns).entries + length ns ≡ length h.entries) × ((retire_all h ns).kept ≡ h.kept) × ((retire_all h ns).last ≡ h.last)
all_retired [] h within = (omega arith, refl, refl)
all_retired (n ∷ ns) h within =
    let there : 1 ≤ times n (numbers h.entries) = omega (arith, within n, itself n) in
    let less : (k : ℕ) → times k ns ≤ times k (numbers (without (handles.is_entry n) h.entries)) = λ k. omega (arith, within k, without_times k n h.entries there) in
    let rest = all_retired ns (handles.retire h n) less in
    (omega (arith, rest.0, without_length n h.entries there), rest.1, rest.2)

pub noted_freed : (ns : List ℕ) (h : Handles Thing) → retire_noted h (freed ns) ≡ retire_all h ns
noted_freed [] h = refl
noted_freed (n ∷ ns) h = noted_freed ns (handles.retire h n)

pub noted_dropped : (ns : List ℕ) (h : Handles Thing) (c : Channels) → drop_noted h c (freed ns) ≡ drop_all h c ns
noted_dropped [] h c = refl
noted_dropped (n ∷ ns) h c = noted_dropped ns (handles.retire h n) (drop_named h c n)

pub noted_closed : (ns : List ℕ) (h : Handles Thing) (l : Links) → close_noted h l (freed ns) ≡ close_all_named h l ns
noted_closed [] h l = refl
noted_closed (n ∷ ns) h l = noted_closed ns (handles.retire h n) (close_named h l n)

found_at : (n : ℕ) (e : Entry Thing) (es : List (Entry Thing)) (b : Bool) → (e.number == n) ≡ b → 1 ≤ bit b + times n (numbers es) → (1 ≤ times n (numbers es) → (x : Entry Thing) × (find (handles.is_entry n) es ≡ Some x)) → (x : Entry Thing) × (cond b (Some e) (find (handles.is_entry n) es) ≡ Some x)
found_at n e es true t h again = (e, refl)
found_at n e es false t h again = again (omega (arith, h))

found : (n : ℕ) (es : List (Entry Thing)) → 1 ≤ times n (numbers es) → (x : Entry Thing) × (find (handles.is_entry n) es ≡ Some x)
found n [] h = absurd (omega (arith, h))
found n (e ∷ es) h = found_at n e es (e.number == n) refl h (found n es)

module _ {V : Type 0} where
  -- an end and a link are more than their numbers
  thing_gone : (k : Store V) (thing : Thing) → drop (world_of k) thing ≡ world_of (record k { channels = drop_end_of k.channels thing; links = close_link k.links thing })
  thing_gone k (things.Bundle name) = refl
  thing_gone k (things.End end) = refl
  thing_gone k (things.Listener link) = refl
  thing_gone k (things.Socket link) = refl
  thing_gone k (things.Value kind value) = refl

  -- a store in which these numbers have been released
  abbrev pub released : Store V → List ℕ → Store V
  released k ns = record k { handles = retire_all k.handles ns; channels = drop_all k.handles k.channels ns; links = close_all_named k.handles k.links ns; notes = k.notes ++ freed ns }

  one_released : (k : Store V) (n : ℕ) (o : Option (Entry Thing)) (x : Entry Thing) → o ≡ Some x → if_some o (world_of k) (λ y. note (drop (record (world_of k) { handles = handles.retire k.handles n }) y.thing) (Freed n)) ≡ world_of (record k { handles = handles.retire k.handles n; channels = if_some o k.channels (λ y. drop_end_of k.channels y.thing); links = if_some o k.links (λ y. close_link k.links y.thing); notes = k.notes ++ Freed n ∷ [] })
  one_released k n None x e = cc
  one_released k n (Some y) x e = ap (λ w. note w (Freed n)) (thing_gone (record k { handles = handles.retire k.handles n }) y.thing)

  pub releases : (ns : List ℕ) (k : Store V) → ((m : ℕ) → times m ns ≤ times m (numbers k.handles.entries)) → fold release (world_of k) ns ≡ world_of (released k ns)
  releases [] k within = rw (append-nil k.notes) refl
  releases (n ∷ ns) k within =
      let there : 1 ≤ times n (numbers k.handles.entries) = omega (arith, within n, itself n) in
      let less : (m : ℕ) → times m ns ≤ times m (numbers (without (handles.is_entry n) k.handles.entries)) = λ m. omega (arith, within m, without_times m n k.handles.entries there) in
      let next : Store V = record k { handles = handles.retire k.handles n; channels = drop_named k.handles k.channels n; links = close_named k.handles k.links n; notes = k.notes ++ Freed n ∷ [] } in
      let it : (x : Entry Thing) × (find (handles.is_entry n) k.handles.entries ≡ Some x) = found n k.handles.entries there in
      ap (λ w. fold release w ns) (one_released k n (find (handles.is_entry n) k.handles.entries) it.0 it.1)
      ∙ releases ns next less
      ∙ ap (λ all. world_of (record (released k (n ∷ ns)) { notes = all })) (append_assoc k.notes (Freed n ∷ []) (freed ns))

owned_cons_at : (b : Bool) (e : Entry Thing) (es : List (Entry Thing)) → numbers (cond b (e ∷ es) es) ≡ (if b then e.number ∷ [] else []) ++ numbers es
owned_cons_at true e es = refl
owned_cons_at false e es = refl

single_reversed : (b : Bool) (n : ℕ) → reverse (if b then n ∷ [] else []) ≡ (if b then n ∷ [] else [])
single_reversed true n = refl
single_reversed false n = refl

-- one handle more
pub falling_more : (who : ℕ) (e : Entry Thing) (es : List (Entry Thing)) → falling who (e ∷ es) ≡ falling who es ++ owned_number who e
falling_more who e es =
    ap reverse (owned_cons_at (handles.is_owned who e) e (filter (handles.is_owned who) es))
    ∙ reverse-append (owned_number who e) (numbers (filter (handles.is_owned who) es))
    ∙ ap (λ ns. falling who es ++ ns) (single_reversed (handles.is_owned who e) e.number)

module _ {V : Type 0} where
  -- what the code has of it is the world that the definition has
  pub released_world : (who : ℕ) (k : Store V) (h : Handles Thing) (c : Channels) (l : Links) (all part : List Note) → all ≡ k.notes ++ freed (falling who k.handles.entries) → part ≡ freed (falling who k.handles.entries) → h ≡ retire_noted k.handles part → c ≡ drop_noted k.handles k.channels part → l ≡ close_noted k.handles k.links part → world_of (record k { handles = h; channels = c; links = l; notes = all }) ≡ release_all (world_of k) who
  released_world who k h c l all part a p e f i =
      let ns = falling who k.handles.entries in
      let same : h ≡ retire_all k.handles ns = e ∙ ap (retire_noted k.handles) p ∙ noted_freed ns k.handles in
      let gone : c ≡ drop_all k.handles k.channels ns = f ∙ ap (drop_noted k.handles k.channels) p ∙ noted_dropped ns k.handles k.channels in
      let closed : l ≡ close_all_named k.handles k.links ns = i ∙ ap (close_noted k.handles k.links) p ∙ noted_closed ns k.handles k.links in
      rw (a, same, gone, closed) (sym (releases ns k (falling_within who k.handles.entries)))

length_freed : (ns : List ℕ) → length (freed ns) ≡ length ns
length_freed [] = refl
length_freed (n ∷ ns) = ap suc (length_freed ns)

-- how many handles and notes there are then
pub released_lengths : (who : ℕ) (old h : Handles Thing) (notes all part : List Note) → all ≡ notes ++ freed (falling who old.entries) → part ≡ freed (falling who old.entries) → h ≡ retire_noted old part → (length h.entries + length all ≡ length old.entries + length notes) × (length h.entries ≤ length old.entries) × (h.kept ≡ old.kept) × (h.last ≡ old.last)
released_lengths who old h notes all part a p e =
    let ns = falling who old.entries in
    let r = all_retired ns old (falling_within who old.entries) in
    let same : h ≡ retire_all old ns = e ∙ ap (retire_noted old) p ∙ noted_freed ns old in
    let sum : length all ≡ length notes + length ns = ap length a ∙ length-append notes (freed ns) ∙ ap (λ k. length notes + k) (length_freed ns) in
    rw same (omega (arith, r.0, sum), omega (arith, r.0), r.1, r.2)
