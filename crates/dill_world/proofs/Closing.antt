-- What closing handles one after the other comes to, and how many are left.
use Rattle.std.proofs.Common.{◌≡◌, ◌∙◌, ℕ, ◌+◌, ◌≤◌, ◌==◌, List, [], ◌∷◌, ◌++◌, length, map, filter, fold, cond, Bool, true, false, Option, Some, None, if◌then◌else◌, refl, sym, ap, arith, append_assoc, length-append, take, drop, ◌-◌}
use Rattle.std.proofs.lemmas.List.{append-nil, take_all}
use Rattle.std.proofs.Math.Seq.{drop-append_seam}
use Rattle.std.specs.List.{cons_option}
use Rattle.dill_handles.specs.Handles as handles
use Rattle.dill_handles.specs.Handles.{Handles}
use Rattle.dill_handles.specs.declared.entry.Entry.{Entry}
use Rattle.dill_scope.specs.Scopes.{Scopes}
use Rattle.dill_base.specs.Maps.{if_some, without}
use Rattle.dill_rules.specs.declared.coroutine.Closing.{Closing}
use Rattle.dill_rules.specs.declared.thing.Thing.{Thing}
use Rattle.dill_rules.specs.Taking.{bundle_of}
use Rattle.dill_rules.specs.World.{World}
use Rattle.dill_rules.specs.Owning.{close_bundle}
use Rattle.dill_rules.specs.Settling.{close_owned, close_all}
use Rattle.dill_world.specs.Store.{Store, world_of}
use Rattle.dill_world.specs.Closings.{closing_of, closings_of, retire_each, close_each}

abbrev pub bit : Bool → ℕ
bit b = if b then 1 else 0

-- how often a number stands in a list
abbrev pub times : ℕ → List ℕ → ℕ
times k [] = 0
times k (n ∷ ns) = bit (n == k) + times k ns

abbrev pub numbers : List (Entry Thing) → List ℕ
numbers es = map (λ x. x.number) es

abbrev pub dead : List Closing → List ℕ
dead xs = map (λ x. x.number) xs

is_same : (m n : ℕ) → (m == n) ≡ true → m ≡ n
is_same m n e = grind arith

one_less : (n : ℕ) (e : Entry Thing) (es rest : List (Entry Thing)) (k : ℕ) (b : Bool) → (e.number == n) ≡ b → 1 ≤ bit b + times n (numbers es) → (1 ≤ times n (numbers es) → times k (numbers rest) + bit (n == k) ≡ times k (numbers es)) → times k (numbers (cond b es (e ∷ rest))) + bit (n == k) ≡ bit (e.number == k) + times k (numbers es)
one_less n e es rest k true t h again = let it : e.number ≡ n = is_same e.number n t in rw it (omega arith)
one_less n e es rest k false t h again = let r : times k (numbers rest) + bit (n == k) ≡ times k (numbers es) = again (omega (arith, h)) in omega (arith, r)

pub without_times : (k n : ℕ) (es : List (Entry Thing)) → 1 ≤ times n (numbers es) → times k (numbers (without (handles.is_entry n) es)) + bit (n == k) ≡ times k (numbers es)
without_times k n [] h = omega (arith, h)
without_times k n (e ∷ es) h = one_less n e es (without (handles.is_entry n) es) k (e.number == n) refl h (without_times k n es)

shorter : (n : ℕ) (e : Entry Thing) (es rest : List (Entry Thing)) (b : Bool) → (e.number == n) ≡ b → 1 ≤ bit b + times n (numbers es) → (1 ≤ times n (numbers es) → length rest + 1 ≡ length es) → length (cond b es (e ∷ rest)) + 1 ≡ 1 + length es
shorter n e es rest true t h again = omega arith
shorter n e es rest false t h again = let r : length rest + 1 ≡ length es = again (omega (arith, h)) in omega (arith, r)

pub without_length : (n : ℕ) (es : List (Entry Thing)) → 1 ≤ times n (numbers es) → length (without (handles.is_entry n) es) + 1 ≡ length es
without_length n [] h = omega (arith, h)
without_length n (e ∷ es) h = shorter n e es (without (handles.is_entry n) es) (e.number == n) refl h (without_length n es) ∙ omega arith

pub itself : (n : ℕ) → bit (n == n) ≡ 1
itself n = let e : (n == n) ≡ true = grind arith in rw e refl

-- each of these numbers is retired, where it stands there as often
pub retired : (xs : List Closing) (h : Handles Thing) → ((k : ℕ) → times k (dead xs) ≤ times k (numbers h.entries)) → (length (retire_each h xs).entries + length xs ≡ length h.entries) × ((retire_each h xs).kept ≡ h.kept) × ((retire_each h xs).last ≡ h.last)
retired [] h within = (omega arith, refl, refl)
retired (x ∷ xs) h within =
    let there : 1 ≤ times x.number (numbers h.entries) = omega (arith, within x.number, itself x.number) in
    let less : (k : ℕ) → times k (dead xs) ≤ times k (numbers (without (handles.is_entry x.number) h.entries)) = λ k. omega (arith, within k, without_times k x.number h.entries there) in
    let rest = retired xs (handles.retire h x.number) less in
    (omega (arith, rest.0, without_length x.number h.entries there), rest.1, rest.2)

one_within : (k : ℕ) (e : Entry Thing) (o : Option Closing) (es : List (Entry Thing)) (xs : List Closing) → ((x : Closing) → o ≡ Some x → x.number ≡ e.number) → times k (dead xs) ≤ times k (numbers es) → times k (dead (cons_option o xs)) ≤ bit (e.number == k) + times k (numbers es)
one_within k e None es xs same h = omega (arith, h)
one_within k e (Some x) es xs same h = let it : x.number ≡ e.number = same x refl in rw it (omega (arith, h))

same_in : (n : ℕ) (o : Option ℕ) (x : Closing) → if_some o None (λ name. Some (record { bundle = name; number = n })) ≡ Some x → x.number ≡ n
same_in n None x e = cc
same_in n (Some name) x e = let it : ◌≡◌ {A = Closing} (record { bundle = name; number = n }) x = cc in sym (ap (λ y. y.number) it)

same_at : (b : Bool) (n : ℕ) (o : Option ℕ) (x : Closing) → (if b then if_some o None (λ name. Some (record { bundle = name; number = n })) else None) ≡ Some x → x.number ≡ n
same_at true n o x e = same_in n o x e
same_at false n o x e = cc

-- the closings of handles stand among them
pub closings_within : (who : ℕ) (es : List (Entry Thing)) (k : ℕ) → times k (dead (closings_of who es)) ≤ times k (numbers es)
closings_within who [] k = omega arith
closings_within who (e ∷ es) k = one_within k e (closing_of who e) es (closings_of who es) (λ x h. same_at (handles.is_owned who e) e.number (bundle_of e.thing) x h) (closings_within who es k)

module _ {V : Type 0} where
  -- a world in which these have begun to close
  abbrev pub closed_in : ℕ → World V → List Closing → World V
  closed_in who w xs = record w { handles = retire_each w.handles xs; scopes = close_each who w.scopes xs; closings = w.closings ++ xs }

  nothing_closed : (who : ℕ) (w : World V) → w ≡ closed_in who w []
  nothing_closed who w = rw (append-nil w.closings) refl

  closed_on : (who : ℕ) (e : Entry Thing) (o : Option ℕ) (es : List (Entry Thing)) (w : World V) (xs : List Closing) → ((v : World V) → fold (close_owned who) v (filter (handles.is_owned who) es) ≡ closed_in who v xs) → fold (close_owned who) (if_some o w (λ name. close_bundle w who name e.number)) (filter (handles.is_owned who) es) ≡ closed_in who w (cons_option (if_some o None (λ name. Some (record { bundle = name; number = e.number }))) xs)
  closed_on who e None es w xs h = h w
  closed_on who e (Some name) es w xs h = h (close_bundle w who name e.number) ∙ ap (λ all. record (closed_in who w (record { bundle = name; number = e.number } ∷ xs)) { closings = all }) (append_assoc w.closings (record { bundle = name; number = e.number } ∷ []) xs)

  closed_at : (b : Bool) (who : ℕ) (e : Entry Thing) (es : List (Entry Thing)) (w : World V) (xs : List Closing) → ((v : World V) → fold (close_owned who) v (filter (handles.is_owned who) es) ≡ closed_in who v xs) → fold (close_owned who) w (cond b (e ∷ filter (handles.is_owned who) es) (filter (handles.is_owned who) es)) ≡ closed_in who w (cons_option (if b then if_some (bundle_of e.thing) None (λ name. Some (record { bundle = name; number = e.number })) else None) xs)
  closed_at true who e es w xs h = closed_on who e (bundle_of e.thing) es w xs h
  closed_at false who e es w xs h = h w

  closes : (who : ℕ) (es : List (Entry Thing)) (w : World V) → fold (close_owned who) w (filter (handles.is_owned who) es) ≡ closed_in who w (closings_of who es)
  closes who [] w = nothing_closed who w
  closes who (e ∷ es) w = closed_at (handles.is_owned who e) who e es w (closings_of who es) (closes who es)

  -- to close all is to add their closings, and then to retire and to close each
  pub closes_all : (who : ℕ) (w : World V) → close_all w who ≡ closed_in who w (closings_of who w.handles.entries)
  closes_all who w = closes who w.handles.entries w

  -- what the code has of them is the world that the definition has
  pub closed_world : (who : ℕ) (k : Store V) (h : Handles Thing) (s : Scopes) (all part : List Closing) → all ≡ k.closings ++ closings_of who k.handles.entries → part ≡ closings_of who k.handles.entries → h ≡ retire_each k.handles part → s ≡ close_each who k.scopes part → world_of (record k { handles = h; scopes = s; closings = all }) ≡ close_all (world_of k) who
  closed_world who k h s all part a p e f = rw (a, e, f, p) (sym (closes_all who (world_of k)))

-- how many handles and closings there are then
pub closed_lengths : (who : ℕ) (old h : Handles Thing) (closings all part : List Closing) → all ≡ closings ++ closings_of who old.entries → part ≡ closings_of who old.entries → h ≡ retire_each old part → (length h.entries + length all ≡ length old.entries + length closings) × (h.kept ≡ old.kept) × (h.last ≡ old.last)
closed_lengths who old h closings all part a p e =
    let r = retired (closings_of who old.entries) old (closings_within who old.entries) in
    let same : h ≡ retire_each old (closings_of who old.entries) = e ∙ ap (retire_each old) p in
    let sum : length all ≡ length closings + length (closings_of who old.entries) = ap length a ∙ length-append closings (closings_of who old.entries) in
    rw same (omega (arith, r.0, sum), r.1, r.2)

-- the part of a list behind another
pub part_behind : {X : Type 0} (old new all : List X) (first : ℕ) → all ≡ old ++ new → first ≡ length old → take (length all - first) (drop first all) ≡ new
part_behind old new all first a f =
    let d : drop first all ≡ new = rw (f, a) (drop-append_seam old new) in
    let sum : length all ≡ length old + length new = ap length a ∙ length-append old new in
    let n : length all - first ≡ length new = omega (arith, f, sum) in
    rw (n, d) (take_all (length new) new (omega arith))
