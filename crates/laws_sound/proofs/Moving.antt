-- Handles that get another number and owner, or that are released, bundles that begin to close or are gone: what keeps a world fitting together.
use Rattle.std.proofs.Common.{◌≡◌, ◌∙◌, ℕ, ◌+◌, ◌-◌, ◌<◌, ◌≤◌, ◌==◌, List, [], ◌∷◌, ◌++◌, length, map, find, filter_map, Bool, true, false, ◌&&◌, cond, Option, Some, None, refl, sym, ap, subst, arith}
use Rattle.std.proofs.lemmas.Bool.{and_from}
use Rattle.std.specs.Prelude.{is_some, nat_le, All}
use Rattle.std.specs.List.{list_all}
use Rattle.std.proofs.lemmas.List.Elements.{All-cons, All-head, All-tail}
use Rattle.dill_handles.specs.Handles as handles
use Rattle.dill_handles.specs.declared.entry.Entry.{Entry}
use Rattle.dill_scope.specs.declared.forest.Bundle.{Bundle}
use Rattle.dill_scope.specs.Scopes as scopes
use Rattle.dill_scope.specs.Scopes.{is_bundle, owner_of, is_empty}
use Rattle.dill_scope.specs.Forest.{Inside}
use Rattle.dill_scope.proofs.Leaving.{drop_keeps}
use Rattle.dill_scope.proofs.Numbered.{found_number}
use Rattle.dill_scope.proofs.Shutting.{close_keeps}
use Rattle.dill_scope.proofs.Taking.{take_keeps}
use Rattle.dill_base.specs.Maps.{if_some, change, without}
use Rattle.dill_rules.specs.declared.coroutine.Closing.{Closing}
use Rattle.dill_rules.specs.declared.thing.Thing.{Thing}
use Rattle.dill_rules.specs.declared.thing.Thing.TheVariants as things
use Rattle.dill_rules.specs.Owning.{entry_of, close_bundle}
use Rattle.dill_rules.specs.Taking.{bundle_of}
use Rattle.dill_rules.specs.World.{World}
use Rattle.laws_queue.specs.Well.{bit, occurs}
use Rattle.laws_sound.proofs.Lists.{all_found, all_without, all_follow}
use Rattle.laws_sound.specs.Order.{is_there, has_bundle, is_held, is_proper, FitsTogether}
use Rattle.laws_sound.specs.Orderly.{weigh}
use Rattle.laws_sound.proofs.Counting.{holds, weigh_push, weigh_found, weigh_without, length_without, length_push, none_left, others_left, small_bit, weightless, all_push}
use Rattle.laws_sound.proofs.Fitting.{names_it, closes_it, has_number, died_as, named, used_is, named_is, held_by, held_follow, there_is}
use Rattle.laws_sound.proofs.Handing.{unequal, equal, tell, renumber_used, renumber_named, live}
use Rattle.laws_sound.proofs.Owners.{owns_is, take_other, take_here, close_same, drop_other, drop_here, shut_other, shut_here, owned_same}

-- names stay below a bound as bundles change and go
module _ (high : ℕ) where
  below_change : (f : Bundle → Bundle) → ((x : Bundle) → (f x).name ≡ x.name) → (name : ℕ) (xs : List Bundle) → All (λ x. x.name < high) xs → All (λ x. x.name < high) (change (is_bundle name) f xs)
  below_change f same name [] a = a
  below_change f same name (x ∷ xs) a = at (is_bundle name x) (below_change f same name xs (All-tail (λ y. y.name < high) x xs a))
    where
      at : (t : Bool) → All (λ y. y.name < high) (change (is_bundle name) f xs) → All (λ y. y.name < high) (cond t (f x ∷ xs) (x ∷ change (is_bundle name) f xs))
      at true r = All-cons (λ y. y.name < high) (f x) xs (subst (λ n. n < high) (sym (same x)) (All-head (λ y. y.name < high) x xs a)) (All-tail (λ y. y.name < high) x xs a)
      at false r = All-cons (λ y. y.name < high) x (change (is_bundle name) f xs) (All-head (λ y. y.name < high) x xs a) r

  below_without : (name : ℕ) (xs : List Bundle) → All (λ x. x.name < high) xs → All (λ x. x.name < high) (without (is_bundle name) xs)
  below_without name [] a = a
  below_without name (x ∷ xs) a = at (is_bundle name x) (below_without name xs (All-tail (λ y. y.name < high) x xs a))
    where
      at : (t : Bool) → All (λ y. y.name < high) (without (is_bundle name) xs) → All (λ y. y.name < high) (cond t xs (x ∷ without (is_bundle name) xs))
      at true r = All-tail (λ y. y.name < high) x xs a
      at false r = All-cons (λ y. y.name < high) x (without (is_bundle name) xs) (All-head (λ y. y.name < high) x xs a) r

less_room : (es : List (Entry Thing)) (x y : Entry Thing) (number kept : ℕ) → find (has_number number) es ≡ Some x → length es + kept ≤ 65536 → length (without (has_number number) es ++ y ∷ []) + (kept - 1) ≤ 65536
less_room es x y number kept e h =
    let l = length_without (has_number number) es x e in
    let m = length_push (without (has_number number) es) y in
    omega (arith, l, m, h)

freed_named : (es : List (Entry Thing)) (ks : List Closing) (gone name : ℕ) (before after : Bool) → weigh (λ y. bit (names_it gone y)) es ≡ 0 → named es ks name ≡ bit before → (gone ≡ name → after ≡ false) → ((name ≡ gone → ⊥) → after ≡ before) → named es (without (closes_it gone) ks) name ≡ bit after
freed_named es ks gone name before after none n here other = at (gone == name) refl
  where
    at : (b : Bool) → (gone == name) ≡ b → named es (without (closes_it gone) ks) name ≡ bit after
    at true e =
        let it = equal gone name e in
        let small : weigh (λ z. bit (closes_it name z)) ks ≤ 1 = let b = small_bit before in omega (arith, n, b) in
        let left : weigh (λ z. bit (closes_it name z)) (without (closes_it gone) ks) ≡ 0 = subst (λ m. weigh (λ z. bit (closes_it name z)) (without (closes_it m) ks) ≡ 0) (sym it) (none_left (closes_it name) ks small) in
        let nought : weigh (λ y. bit (names_it name y)) es ≡ 0 = subst (λ m. weigh (λ y. bit (names_it m y)) es ≡ 0) it none in
        let a : bit after ≡ 0 = ap bit (here it) in
        omega (arith, left, nought, a)
    at false e =
        let ne : name ≡ gone → ⊥ = λ g. unequal gone name e (sym g) in
        let left = others_left (closes_it gone) (closes_it name) ks (λ z g. tell z.bundle name (λ h. ne (sym h ∙ equal z.bundle gone g))) in
        let a : bit after ≡ bit before = ap bit (other ne) in
        omega (arith, left, n, a)

module _ {V : Type 0} where
  -- the world after a live number has moved, but for its bundle
  abbrev pub renumbered : World V → ℕ → Thing → ℕ → World V
  renumbered w number thing owner = record w { handles = handles.renumber w.handles number thing owner }

  module _ (w : World V) (number owner : ℕ) (x : Entry Thing) (f : FitsTogether w) (e : entry_of w number ≡ Some x) (there : is_there w owner ≡ true) where
    abbrev es : List (Entry Thing)
    es = w.handles.entries

    abbrev new : Entry Thing
    new = record { number = handles.next_number w.handles; thing = x.thing; owner = owner }

    abbrev moved : List (Entry Thing)
    moved = without (has_number number) es ++ new ∷ []

    moved_used : (n : ℕ) → occurs n (map (λ y. y.number) moved) + occurs n (map (λ y. y.number) w.closings) ≤ bit (nat_le n (w.handles.last + 1))
    moved_used n = subst (λ k. k ≤ bit (nat_le n (w.handles.last + 1))) (sym (used_is moved w.closings n)) (renumber_used es w.closings x new number w.handles.last n e refl (subst (λ k. k ≤ bit (nat_le n w.handles.last)) (used_is es w.closings n) (f.numbers n)))

    moved_named : (name : ℕ) → occurs name (filter_map (λ y. bundle_of y.thing) moved) + occurs name (map (λ y. y.bundle) w.closings) ≡ bit (is_some (owner_of w.scopes name))
    moved_named name = named_is moved w.closings name ∙ renumber_named es w.closings x new number name e refl ∙ sym (named_is es w.closings name) ∙ f.names name

    moved_kinds : list_all is_proper moved ≡ true
    moved_kinds = all_push is_proper (without (has_number number) es) new (all_without is_proper (has_number number) es f.kinds) (all_found is_proper (has_number number) es x f.kinds e)

    -- what is no bundle
    pub fits_renumbered : bundle_of x.thing ≡ None → FitsTogether (renumbered w number x.thing owner)
    fits_renumbered none = record {
      forest = f.forest;
      bundles = f.bundles;
      crew = f.crew;
      numbered = f.numbered;
      begun = f.begun;
      few = f.few;
      main = f.main;
      room = less_room es x new number w.handles.kept e f.room;
      numbers = moved_used;
      names = moved_named;
      kinds = moved_kinds;
      held = all_push (is_held w) (without (has_number number) es) new (all_without (is_held w) (has_number number) es f.held) (and_from (is_there w owner) (if_some (bundle_of x.thing) true (has_bundle w owner)) there (ap (λ o. if_some o true (has_bundle w owner)) none));
    }

    -- a bundle, whose new owner isn't inside it
    pub fits_taken : (name : ℕ) → x.thing ≡ things.Bundle name → (Inside w.scopes name owner → ⊥) → FitsTogether (record (renumbered w number x.thing owner) { scopes = scopes.take w.scopes name owner })
    fits_taken name t out =
        let l = live w number name x f e t in
        let s = scopes.take w.scopes name owner in
        let v = record (renumbered w number x.thing owner) { scopes = s } in
        record {
          forest = take_keeps w.scopes name owner f.forest (there_is w owner f there) out;
          bundles = below_change (w.last_bundle + 1) (scopes.with_owner owner) (λ y. refl) name w.scopes.bundles f.bundles;
          crew = f.crew;
          numbered = f.numbered;
          begun = f.begun;
          few = f.few;
          main = f.main;
          room = less_room es x new number w.handles.kept e f.room;
          numbers = moved_used;
          names = λ at. moved_named at ∙ sym (ap bit (owned_same w.scopes s name at (λ ne. take_other w.scopes name owner at ne) (ap is_some l.owned ∙ sym (ap is_some (take_here w.scopes name owner x.owner l.owned)))));
          kinds = moved_kinds;
          held =
              let kept = held_follow (is_there w) (is_there w) (owner_of w.scopes) (owner_of s) name (without (has_number number) es) (λ n h. h) (λ at ne. take_other w.scopes name owner at ne) l.others (all_without (is_held w) (has_number number) es f.held) in
              all_push (is_held v) (without (has_number number) es) new kept
              (and_from (is_there w owner) (if_some (bundle_of x.thing) true (has_bundle v owner)) there (ap (λ h. if_some (bundle_of h) true (has_bundle v owner)) t ∙ owns_is s owner name (take_here w.scopes name owner x.owner l.owned)));
        }

    -- a number that names no bundle is dead
    pub fits_retired : bundle_of x.thing ≡ None → FitsTogether (record w { handles = handles.retire w.handles number })
    fits_retired none = record {
      forest = f.forest;
      bundles = f.bundles;
      crew = f.crew;
      numbered = f.numbered;
      begun = f.begun;
      few = f.few;
      main = f.main;
      room = let l = length_without (has_number number) es x e in let r = f.room in omega (arith, l, r);
      numbers = λ n.
          let g = weigh_without (λ z. bit (has_number n z)) (has_number number) es in
          let h = subst (λ k. k ≤ bit (nat_le n w.handles.last)) (used_is es w.closings n) (f.numbers n) in
          let u = used_is (without (has_number number) es) w.closings n in
          omega (arith, g, h, u);
      names = λ name.
          let g = weigh_found (λ z. bit (names_it name z)) (has_number number) es x e in
          let b : bit (names_it name x) ≡ 0 = ap (λ o. bit (holds o name)) none in
          let u = named_is (without (has_number number) es) w.closings name in
          let v = named_is es w.closings name in
          let n = f.names name in
          omega (arith, g, b, u, v, n);
      kinds = all_without is_proper (has_number number) es f.kinds;
      held = all_without (is_held w) (has_number number) es f.held;
    }

    -- a bundle begins to close, and its number is dead
    pub fits_shut : (name : ℕ) → x.thing ≡ things.Bundle name → (Inside w.scopes name owner → ⊥) → FitsTogether (close_bundle w owner name number)
    fits_shut name t out =
        let l = live w number name x f e t in
        let s = scopes.close (scopes.take w.scopes name owner) name in
        let dead : Closing = record { bundle = name; number = number } in
        record {
          forest = close_keeps (scopes.take w.scopes name owner) name (take_keeps w.scopes name owner f.forest (there_is w owner f there) out);
          bundles = below_change (w.last_bundle + 1) scopes.as_closing (λ y. refl) name (scopes.take w.scopes name owner).bundles (below_change (w.last_bundle + 1) (scopes.with_owner owner) (λ y. refl) name w.scopes.bundles f.bundles);
          crew = f.crew;
          numbered = f.numbered;
          begun = f.begun;
          few = f.few;
          main = f.main;
          room = let m = length_without (has_number number) es x e in let r = f.room in omega (arith, m, r);
          numbers = λ n.
              let g = weigh_found (λ z. bit (has_number n z)) (has_number number) es x e in
              let h = subst (λ k. k ≤ bit (nat_le n w.handles.last)) (used_is es w.closings n) (f.numbers n) in
              let u = used_is (without (has_number number) es) (w.closings ++ dead ∷ []) n in
              let p = weigh_push (λ z. bit (died_as n z)) w.closings dead in
              let b : bit (has_number n x) ≡ bit (died_as n dead) = ap (λ k. bit (k == n)) (found_number (λ (y : Entry Thing). y.number) number es x e) in
              omega (arith, g, h, u, p, b);
          names = λ at.
              let g = weigh_found (λ z. bit (names_it at z)) (has_number number) es x e in
              let u = named_is (without (has_number number) es) (w.closings ++ dead ∷ []) at in
              let v = named_is es w.closings at in
              let p = weigh_push (λ z. bit (closes_it at z)) w.closings dead in
              let n = f.names at in
              let b : bit (names_it at x) ≡ bit (closes_it at dead) = ap (λ h. bit (holds (bundle_of h) at)) t in
              let o : bit (is_some (owner_of s at)) ≡ bit (is_some (owner_of w.scopes at)) = ap bit (owned_same w.scopes s name at (λ ne. shut_other w.scopes name owner at ne) (ap is_some l.owned ∙ sym (ap is_some (shut_here w.scopes name owner x.owner l.owned)))) in
              omega (arith, g, u, v, p, n, b, o);
          kinds = all_without is_proper (has_number number) es f.kinds;
          held = held_follow (is_there w) (is_there w) (owner_of w.scopes) (owner_of s) name (without (has_number number) es) (λ n h. h) (λ at ne. shut_other w.scopes name owner at ne) l.others (all_without (is_held w) (has_number number) es f.held);
        }

  -- ---- bundles

  -- the closing of a bundle begins
  pub fits_closed : (w : World V) (name : ℕ) → FitsTogether w → FitsTogether (record w { scopes = scopes.close w.scopes name })
  fits_closed w name f =
      let s = scopes.close w.scopes name in
      record {
        forest = close_keeps w.scopes name f.forest;
        bundles = below_change (w.last_bundle + 1) scopes.as_closing (λ y. refl) name w.scopes.bundles f.bundles;
        crew = f.crew;
        numbered = f.numbered;
        begun = f.begun;
        few = f.few;
        main = f.main;
        room = f.room;
        numbers = f.numbers;
        names = λ at. f.names at ∙ ap (λ o. bit (is_some o)) (sym (close_same w.scopes name at));
        kinds = f.kinds;
        held = held_as (is_there w) (owner_of w.scopes) (owner_of s) w.handles.entries (λ at. close_same w.scopes name at) f.held;
      }
    where
      held_as : (there : ℕ → Bool) (owner other : ℕ → Option ℕ) (es : List (Entry Thing)) → ((at : ℕ) → other at ≡ owner at) → list_all (held_by there owner) es ≡ true → list_all (held_by there other) es ≡ true
      held_as there owner other es same h = all_follow (held_by there owner) (held_by there other) es (λ x g. at x.owner (there x.owner) (bundle_of x.thing) g) h
        where
          at : (who : ℕ) (b : Bool) (o : Option ℕ) → (b && if_some o true (λ n. if_some (owner n) false (λ m. m == who))) ≡ true → (b && if_some o true (λ n. if_some (other n) false (λ m. m == who))) ≡ true
          at who b None g = g
          at who b (Some n) g = ap (λ p. b && if_some p false (λ m. m == who)) (same n) ∙ g

  -- an empty bundle that no live number names is gone, and so is its closing
  pub fits_freed : (w : World V) (x : Closing) → FitsTogether w → weigh (λ y. bit (names_it x.bundle y)) w.handles.entries ≡ 0 → (x.bundle ≡ 0 → ⊥) → is_empty w.scopes x.bundle ≡ true → FitsTogether (record w { scopes = scopes.drop_bundle w.scopes x.bundle; closings = without (closes_it x.bundle) w.closings })
  fits_freed w x f none no_root empty =
      let s = scopes.drop_bundle w.scopes x.bundle in
      let ks = without (closes_it x.bundle) w.closings in
      record {
        forest = drop_keeps w.scopes x.bundle f.forest no_root empty;
        bundles = below_without (w.last_bundle + 1) x.bundle w.scopes.bundles f.bundles;
        crew = f.crew;
        numbered = f.numbered;
        begun = f.begun;
        few = f.few;
        main = f.main;
        room = f.room;
        numbers = λ n.
            let g = weigh_without (λ z. bit (died_as n z)) (closes_it x.bundle) w.closings in
            let h = subst (λ k. k ≤ bit (nat_le n w.handles.last)) (used_is w.handles.entries w.closings n) (f.numbers n) in
            let u = used_is w.handles.entries ks n in
            omega (arith, g, h, u);
        names = λ name. named_is w.handles.entries ks name ∙ freed_named w.handles.entries w.closings x.bundle name (is_some (owner_of w.scopes name)) (is_some (owner_of s name)) none (sym (named_is w.handles.entries w.closings name) ∙ f.names name) (λ e. subst (λ n. is_some (owner_of s n) ≡ false) e (ap is_some (drop_here w.scopes x.bundle f.forest))) (λ ne. ap is_some (drop_other w.scopes x.bundle name ne));
        kinds = f.kinds;
        held = held_follow (is_there w) (is_there w) (owner_of w.scopes) (owner_of s) x.bundle w.handles.entries (λ n h. h) (λ at ne. drop_other w.scopes x.bundle at ne) (weightless (names_it x.bundle) w.handles.entries none) f.held;
      }
