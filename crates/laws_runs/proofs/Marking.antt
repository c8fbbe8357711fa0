-- The bundle of each noted closing is closing: it stays so over each part of a step, whatever is called.
use Rattle.std.proofs.Common.{◌≡◌, ◌∙◌, ◌+◌, ◌≤◌, ◌==◌, ℕ, List, [], ◌∷◌, ◌++◌, Bool, true, false, cond, Option, Some, refl, ap, arith}
use Rattle.std.specs.List.{AllByRecursion}
use Rattle.std.proofs.lemmas.Bool.Decides.{nat_tests}
use Rattle.dill_base.specs.Maps.{change, without}
use Rattle.dill_handles.specs.Handles as handles
use Rattle.dill_handles.specs.declared.entry.Entry.{Entry}
use Rattle.dill_scope.specs.declared.forest.Bundle.{Bundle}
use Rattle.dill_scope.specs.Scopes as scopes
use Rattle.dill_rules.specs.declared.coroutine.Closing.{Closing}
use Rattle.dill_rules.specs.declared.thing.Thing.{Thing}
use Rattle.dill_rules.specs.declared.thing.Thing.TheVariants as things
use Rattle.dill_rules.specs.World.{World}
use Rattle.dill_rules.specs.Owning.{is_closing_of}
use Rattle.dill_rules.specs.Taking.{bundle_of}
use Rattle.laws_debt.specs.Flags.{Ranked}
use Rattle.laws_debt.proofs.Flagging.{both_all, all_picked, closed_names, ranked_others, ranked_change, ranked_without, ranked_append}
use Rattle.laws_debt.proofs.Lasting.{Parts, parts, made, retired, closed, freed, bundled, Lasting}
use Rattle.laws_queue.proofs.Lists.{all_append, all_without, all_to, number_of}
use Rattle.laws_queue.specs.Well.{bit, occurs}

-- how often a bundle is noted as closing
abbrev pub times_closed : ℕ → List Closing → ℕ
times_closed name closings = occurs name (closed_names closings)

-- a bundle that is open isn't noted
abbrev pub IsMarked : List Closing → Bundle → Type 0
IsMarked closings x = x.closing ≡ false → times_closed x.name closings ≡ 0

-- a handle's bundle is among those that were made
abbrev pub IsMade : ℕ → Entry Thing → Type 0
IsMade last x = (name : ℕ) → bundle_of x.thing ≡ Some name → name ≤ last

-- a closing with the number of that one is of its bundle
abbrev pub IsTied : Closing → Closing → Type 0
IsTied tie x = x.number ≡ tie.number → x.bundle ≡ tie.bundle

-- a handle has another number
abbrev pub IsOther : Closing → Entry Thing → Type 0
IsOther tie x = x.number ≡ tie.number → ⊥

-- Bundles by rising name, of which no open one is noted; and those that are noted, or have a handle, were made. A number that was given is dead, and if it is noted it is with its bundle.
pub record MarkedIn (tie : Closing) (p : Parts) : Type 0 where
  pub ranked : Ranked 0 p.scopes.bundles p.last_bundle
  pub marked : AllByRecursion (IsMarked p.closings) p.scopes.bundles
  pub noted : AllByRecursion (λ x. x.bundle ≤ p.last_bundle) p.closings
  pub things : AllByRecursion (IsMade p.last_bundle) p.entries
  pub tied : AllByRecursion (IsTied tie) p.closings
  pub others : AllByRecursion (IsOther tie) p.entries
  pub given : tie.number ≤ p.last

abbrev pub Marked : {V : Type 0} → Closing → World V → Type 0
Marked tie w = MarkedIn tie (parts w)

-- ---- lists

times_more : (n : ℕ) (xs ys : List Closing) → times_closed n (xs ++ ys) ≡ times_closed n xs + times_closed n ys
times_more n [] ys = omega arith
times_more n (x ∷ xs) ys = let r = times_more n xs ys in omega (arith, r)

times_less : (n : ℕ) (test : Closing → Bool) (xs : List Closing) → times_closed n xs ≡ 0 → times_closed n (without test xs) ≡ 0
times_less n test [] e = e
times_less n test (x ∷ xs) e = at (test x) (times_less n test xs (omega (arith, e)))
  where
    at : (b : Bool) → times_closed n (without test xs) ≡ 0 → times_closed n (cond b xs (x ∷ without test xs)) ≡ 0
    at true r = omega (arith, e)
    at false r = omega (arith, e, r)

unlike : (a b : ℕ) → a ≤ b → (a == b + 1) ≡ false
unlike a b h = grind (arith, nat_tests)

none_above : (last : ℕ) (xs : List Closing) → AllByRecursion (λ x. x.bundle ≤ last) xs → times_closed (last + 1) xs ≡ 0
none_above last [] a = refl
none_above last (x ∷ xs) a = let nought : bit (x.bundle == last + 1) ≡ 0 = ap bit (unlike x.bundle last a.0) in let r = none_above last xs a.1 in omega (arith, nought, r)

other_way : (a b : ℕ) → (a == b) ≡ false → (b == a) ≡ false
other_way a b e = grind (arith, nat_tests)

-- another one is noted
marked_more : (xs : List Closing) (x : Bundle) (name number : ℕ) → (x.name == name) ≡ false → IsMarked xs x → IsMarked (xs ++ record { bundle = name; number = number } ∷ []) x
marked_more xs x name number i f e =
    let nought : bit (name == x.name) ≡ 0 = ap bit (other_way x.name name i) in
    let r = f e in
    let m = times_more x.name xs (record { bundle = name; number = number } ∷ []) in
    omega (arith, nought, r, m)

later_number : (given last : ℕ) → given ≤ last → last + 1 ≡ given → ⊥
later_number given last l e = omega (arith, l, e)

-- the one of this name begins to close, and is noted
marked_closed : (xs : List Closing) (name number : ℕ) (bs : List Bundle) (low high : ℕ) → Ranked low bs high → AllByRecursion (IsMarked xs) bs → AllByRecursion (IsMarked (xs ++ record { bundle = name; number = number } ∷ [])) (change (scopes.is_bundle name) scopes.as_closing bs)
marked_closed xs name number [] low high r a = tt
marked_closed xs name number (x ∷ bs) low high r a = at (x.name == name) refl (marked_closed xs name number bs (x.name + 1) high r.1 a.1)
  where
    more : List Closing
    more = xs ++ record { bundle = name; number = number } ∷ []

    at : (b : Bool) → (x.name == name) ≡ b → AllByRecursion (IsMarked more) (change (scopes.is_bundle name) scopes.as_closing bs) → AllByRecursion (IsMarked more) (cond b (scopes.as_closing x ∷ bs) (x ∷ change (scopes.is_bundle name) scopes.as_closing bs))
    at true i rest =
        let same = number_of x.name name i in
        ((λ e. cc), both_all (λ y. (y.name == name) ≡ false) (IsMarked xs) (IsMarked more) bs (λ y j f. marked_more xs y name number j f) (ranked_others name bs (x.name + 1) high (omega (arith, same)) r.1) a.1)
    at false i rest = (marked_more xs x name number i a.0, rest)

-- ---- each change

later : (name last : ℕ) → name ≤ last → name ≤ last + 1
later name last l = omega (arith, l)

its_name : (name last : ℕ) → ◌≡◌ {A = Option ℕ} (Some (last + 1)) (Some name) → name ≤ last + 1
its_name name last e = let same : last + 1 ≡ name = cc in omega (arith, same)

module _ (tie : Closing) where
  -- what is known of a live number
  abbrev pub IsLive : ℕ → Entry Thing → Type 0
  IsLive last x = IsMade last x × IsOther tie x

  -- another handle, of no other bundle than those that were made
  more : (p : Parts) (thing : Thing) (owner : ℕ) → ((name : ℕ) → bundle_of thing ≡ Some name → name ≤ p.last_bundle) → MarkedIn tie p → MarkedIn tie (made p thing owner)
  more p thing owner e h =
      let new : Entry Thing = record { number = p.last + 1; thing = thing; owner = owner } in
      record {
        ranked = h.ranked;
        marked = h.marked;
        noted = h.noted;
        things = all_append (IsMade p.last_bundle) p.entries (new ∷ []) h.things (e, tt);
        tied = h.tied;
        others = all_append (IsOther tie) p.entries (new ∷ []) h.others ((λ f. later_number tie.number p.last h.given f), tt);
        given = let g = h.given in omega (arith, g);
      }

  less : (p : Parts) (number : ℕ) → MarkedIn tie p → MarkedIn tie (retired p number)
  less p number h = record {
    ranked = h.ranked;
    marked = h.marked;
    noted = h.noted;
    things = all_without (IsMade p.last_bundle) (handles.is_entry number) p.entries h.things;
    tied = h.tied;
    others = all_without (IsOther tie) (handles.is_entry number) p.entries h.others;
    given = h.given;
  }

  taken : (p : Parts) (name owner : ℕ) → MarkedIn tie p → MarkedIn tie (record p { scopes = scopes.take p.scopes name owner })
  taken p name owner h = record {
    ranked = ranked_change (scopes.is_bundle name) (scopes.with_owner owner) p.scopes.bundles 0 p.last_bundle (λ x. refl) h.ranked;
    marked = all_picked (IsMarked p.closings) (IsMarked p.closings) (scopes.is_bundle name) (scopes.with_owner owner) p.scopes.bundles (λ x i f. f) (λ x f. f) h.marked;
    noted = h.noted;
    things = h.things;
    tied = h.tied;
    others = h.others;
    given = h.given;
  }

  shut : (p : Parts) (owner name number : ℕ) (x : Entry Thing) → x.number ≡ number → bundle_of x.thing ≡ Some name → IsLive p.last_bundle x → MarkedIn tie p → MarkedIn tie (closed p owner name number)
  shut p owner name number x e f k h =
      let t = taken p name owner h in
      let r = less p number h in
      record {
        ranked = ranked_change (scopes.is_bundle name) scopes.as_closing (scopes.take p.scopes name owner).bundles 0 p.last_bundle (λ y. refl) t.ranked;
        marked = marked_closed p.closings name number (scopes.take p.scopes name owner).bundles 0 p.last_bundle t.ranked t.marked;
        noted = all_append (λ (y : Closing). y.bundle ≤ p.last_bundle) p.closings (record { bundle = name; number = number } ∷ []) h.noted (k.0 name f, tt);
        things = r.things;
        tied = all_append (IsTied tie) p.closings (record { bundle = name; number = number } ∷ []) h.tied ((λ g. absurd (k.1 (e ∙ g))), tt);
        others = r.others;
        given = h.given;
      }

  free : (p : Parts) (x : Closing) → MarkedIn tie p → MarkedIn tie (freed p x)
  free p x h =
      let cs = without (is_closing_of x.bundle) p.closings in
      record {
        ranked = ranked_without x.bundle p.scopes.bundles 0 p.last_bundle h.ranked;
        marked = all_without (IsMarked cs) (scopes.is_bundle x.bundle) p.scopes.bundles (all_to (IsMarked p.closings) (IsMarked cs) p.scopes.bundles (λ y f e. times_less y.name (is_closing_of x.bundle) p.closings (f e)) h.marked);
        noted = all_without (λ (y : Closing). y.bundle ≤ p.last_bundle) (is_closing_of x.bundle) p.closings h.noted;
        things = h.things;
        tied = all_without (IsTied tie) (is_closing_of x.bundle) p.closings h.tied;
        others = h.others;
        given = h.given;
      }

  new_bundle : (p : Parts) (who : ℕ) → MarkedIn tie p → MarkedIn tie (bundled p who)
  new_bundle p who h =
      let new : Bundle = record { name = p.last_bundle + 1; owner = Some who; closing = false } in
      let handle : Entry Thing = record { number = p.last + 1; thing = things.Bundle (p.last_bundle + 1); owner = who } in
      record {
        ranked = ranked_append new p.scopes.bundles 0 p.last_bundle refl h.ranked;
        marked = all_append (IsMarked p.closings) p.scopes.bundles (new ∷ []) h.marked ((λ e. none_above p.last_bundle p.closings h.noted), tt);
        noted = all_to (λ (x : Closing). x.bundle ≤ p.last_bundle) (λ x. x.bundle ≤ p.last_bundle + 1) p.closings (λ x l. later x.bundle p.last_bundle l) h.noted;
        things = all_append (IsMade (p.last_bundle + 1)) p.entries (handle ∷ []) (all_to (IsMade p.last_bundle) (IsMade (p.last_bundle + 1)) p.entries (λ x f name e. later name p.last_bundle (f name e)) h.things) ((λ name e. its_name name p.last_bundle e), tt);
        tied = h.tied;
        others = all_append (IsOther tie) p.entries (handle ∷ []) h.others ((λ f. later_number tie.number p.last h.given f), tt);
        given = let g = h.given in omega (arith, g);
      }

  pub lasts_marked : Lasting IsLive (Unit {0}) (MarkedIn tie)
  lasts_marked = record {
    known = λ p h. both_all (IsMade p.last_bundle) (IsOther tie) (IsLive p.last_bundle) p.entries (λ x a b. (a, b)) h.things h.others;
    takes = taken;
    owns = λ p number owner h. record {
      ranked = h.ranked;
      marked = h.marked;
      noted = h.noted;
      things = all_picked (IsMade p.last_bundle) (IsMade p.last_bundle) (handles.is_entry number) (handles.with_owner owner) p.entries (λ x i f. f) (λ x f. f) h.things;
      tied = h.tied;
      others = all_picked (IsOther tie) (IsOther tie) (handles.is_entry number) (handles.with_owner owner) p.entries (λ x i f. f) (λ x f. f) h.others;
      given = h.given;
    };
    makes = λ p thing owner e h. more p thing owner (λ name f. cc) h;
    moves = λ p number owner x k h. more (retired p number) x.thing owner k.0 (less p number h);
    closes = λ c. shut;
    bundles = new_bundle;
    bears = λ p home who h. record { ranked = h.ranked; marked = h.marked; noted = h.noted; things = h.things; tied = h.tied; others = h.others; given = h.given };
    clears = record {
      retires = less;
      frees = free;
      ends = λ p who h. record { ranked = h.ranked; marked = h.marked; noted = h.noted; things = h.things; tied = h.tied; others = h.others; given = h.given };
    };
  }
