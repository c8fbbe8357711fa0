-- New handles, handles that get another number and owner, and handles that are released: what keeps a world fitting together.
use Rattle.std.proofs.Common.{◌≡◌, ◌∙◌, ℕ, ◌+◌, ◌<◌, ◌≤◌, ◌==◌, List, [], ◌∷◌, ◌++◌, find, Bool, true, false, not, Some, None, refl, sym, ap, subst, arith}
use Rattle.std.proofs.lemmas.Bool.{and_parts, and_from}
use Rattle.std.specs.Prelude.{is_some, nat_le}
use Rattle.std.specs.List.{list_all}
use Rattle.std.proofs.lemmas.Bool.Decides.{nat_tests}
use Rattle.std.proofs.lemmas.List.Elements.{All-push, All-weaker}
use Rattle.dill_handles.specs.Handles as handles
use Rattle.dill_handles.specs.declared.entry.Entry.{Entry}
use Rattle.dill_scope.specs.declared.forest.Bundle.{Bundle}
use Rattle.dill_scope.specs.Scopes as scopes
use Rattle.dill_scope.specs.Scopes.{owner_of}
use Rattle.dill_scope.proofs.Growing.{bundle_keeps}
use Rattle.dill_base.specs.Maps.{if_some, without}
use Rattle.dill_rules.specs.declared.coroutine.Closing.{Closing}
use Rattle.dill_rules.specs.declared.thing.Thing.{Thing}
use Rattle.dill_rules.specs.declared.thing.Thing.TheVariants as things
use Rattle.dill_rules.specs.Owning.{entry_of}
use Rattle.dill_rules.specs.Taking.{bundle_of}
use Rattle.dill_rules.specs.World.{World}
use Rattle.dill_rules.specs.Effects.{make, add_bundle}
use Rattle.laws_queue.specs.Well.{bit}
use Rattle.laws_sound.proofs.Lists.{all_found}
use Rattle.laws_sound.specs.Order.{is_there, has_bundle, is_held, is_proper_thing, is_proper, FitsTogether}
use Rattle.laws_sound.specs.Orderly.{weigh}
use Rattle.laws_sound.proofs.Counting.{holds, weigh_push, weigh_found, weigh_without, length_push, weightless, used_more, all_push}
use Rattle.laws_sound.proofs.Fitting.{names_it, closes_it, has_number, used, named, used_is, named_is, held_follow, there_is}
use Rattle.laws_sound.proofs.Owners.{owns_is, new_is_free, bundle_other, bundle_new}
use Rattle.laws_sound.proofs.Sound.{owner_is}

pub same_number : (n : ℕ) → (n == n) ≡ true
same_number n = grind (arith, nat_tests)

pub unequal : (a b : ℕ) → (a == b) ≡ false → a ≡ b → ⊥
unequal a b e f = let t : (a == b) ≡ true = grind (arith, nat_tests) in cc

pub equal : (a b : ℕ) → (a == b) ≡ true → a ≡ b
equal a b e = grind (arith, nat_tests)

pub tell : (a b : ℕ) → (a ≡ b → ⊥) → (a == b) ≡ false
tell a b ne = at (a == b) refl
  where
    at : (t : Bool) → (a == b) ≡ t → t ≡ false
    at true e = absurd (ne (equal a b e))
    at false e = refl

-- ---- a number more

push_used : (es : List (Entry Thing)) (ks : List Closing) (y : Entry Thing) (last n : ℕ) → y.number ≡ last + 1 → used es ks n ≤ bit (nat_le n last) → used (es ++ y ∷ []) ks n ≤ bit (nat_le n (last + 1))
push_used es ks y last n e h =
    let p = weigh_push (λ x. bit (has_number n x)) es y in
    let u = used_more n last (used es ks n) h in
    let b : bit (y.number == n) ≡ bit (last + 1 == n) = ap (λ m. bit (m == n)) e in
    omega (arith, p, u, b)

push_named : (es : List (Entry Thing)) (ks : List Closing) (y : Entry Thing) (name : ℕ) → named (es ++ y ∷ []) ks name ≡ named es ks name + bit (names_it name y)
push_named es ks y name = let p = weigh_push (λ x. bit (names_it name x)) es y in omega (arith, p)

-- a number that is there names what it did by another number
pub renumber_used : (es : List (Entry Thing)) (ks : List Closing) (x y : Entry Thing) (number last n : ℕ) → find (has_number number) es ≡ Some x → y.number ≡ last + 1 → used es ks n ≤ bit (nat_le n last) → used (without (has_number number) es ++ y ∷ []) ks n ≤ bit (nat_le n (last + 1))
renumber_used es ks x y number last n e f h =
    let w = weigh_without (λ z. bit (has_number n z)) (has_number number) es in
    push_used (without (has_number number) es) ks y last n f (omega (arith, w, h))

pub renumber_named : (es : List (Entry Thing)) (ks : List Closing) (x y : Entry Thing) (number name : ℕ) → find (has_number number) es ≡ Some x → y.thing ≡ x.thing → named (without (has_number number) es ++ y ∷ []) ks name ≡ named es ks name
renumber_named es ks x y number name e f =
    let p = push_named (without (has_number number) es) ks y name in
    let w = weigh_found (λ z. bit (names_it name z)) (has_number number) es x e in
    let b : bit (names_it name y) ≡ bit (names_it name x) = ap (λ t. bit (holds (bundle_of t) name)) f in
    omega (arith, p, w, b)

-- ---- nobody else names the bundle of a number

named_once : (es : List (Entry Thing)) (ks : List Closing) (x : Entry Thing) (number name : ℕ) (b : Bool) → find (has_number number) es ≡ Some x → names_it name x ≡ true → named es ks name ≡ bit b → (weigh (λ z. bit (names_it name z)) (without (has_number number) es) ≡ 0) × (weigh (λ z. bit (closes_it name z)) ks ≡ 0)
named_once es ks x number name b e f h =
    let w = weigh_found (λ z. bit (names_it name z)) (has_number number) es x e in
    let one : bit (names_it name x) ≡ 1 = ap bit f in
    let low : bit b ≤ 1 = small b in
    (omega (arith, w, one, low, h), omega (arith, w, one, low, h))
  where
    small : (c : Bool) → bit c ≤ 1
    small true = omega arith
    small false = omega arith

pub thing_names : (x : Entry Thing) (name : ℕ) → x.thing ≡ things.Bundle name → names_it name x ≡ true
thing_names x name e = ap (λ t. holds (bundle_of t) name) e ∙ same_number name

module _ {V : Type 0} where
  -- what else there is of a bundle that a live number names
  pub record Live (w : World V) (number name : ℕ) (x : Entry Thing) : Type 0 where
    pub owned : owner_of w.scopes name ≡ Some x.owner
    pub others : list_all (λ y. not (names_it name y)) (without (has_number number) w.handles.entries) ≡ true
    pub closings : list_all (λ y. not (closes_it name y)) w.closings ≡ true

  pub live : (w : World V) (number name : ℕ) (x : Entry Thing) → FitsTogether w → entry_of w number ≡ Some x → x.thing ≡ things.Bundle name → Live w number name x
  live w number name x f e t =
      let h : is_held w x ≡ true = all_found (is_held w) (has_number number) w.handles.entries x f.held e in
      let b = (and_parts (is_there w x.owner) (if_some (bundle_of x.thing) true (has_bundle w x.owner)) h).1 in
      let once = named_once w.handles.entries w.closings x number name (is_some (owner_of w.scopes name)) e (thing_names x name t) (sym (named_is w.handles.entries w.closings name) ∙ f.names name) in
      record {
        owned = owner_is (owner_of w.scopes name) x.owner (ap (λ s. if_some (bundle_of s) true (has_bundle w x.owner)) (sym t) ∙ b);
        others = weightless (names_it name) (without (has_number number) w.handles.entries) once.0;
        closings = weightless (closes_it name) w.closings once.1;
      }

  -- the owner of a live number is there
  pub live_there : (w : World V) (number : ℕ) (x : Entry Thing) → FitsTogether w → entry_of w number ≡ Some x → is_there w x.owner ≡ true
  live_there w number x f e = (and_parts (is_there w x.owner) (if_some (bundle_of x.thing) true (has_bundle w x.owner)) (all_found (is_held w) (has_number number) w.handles.entries x f.held e)).0

  -- nobody names a bundle without an owner
  pub unnamed : (w : World V) → FitsTogether w → (name : ℕ) → owner_of w.scopes name ≡ None → weigh (λ x. bit (names_it name x)) w.handles.entries ≡ 0
  unnamed w f name e =
      let n : named w.handles.entries w.closings name ≡ 0 = sym (named_is w.handles.entries w.closings name) ∙ f.names name ∙ ap (λ o. bit (is_some o)) e in
      omega (arith, n)

  -- ---- new handles

  -- one that is no bundle
  pub fits_make : (w : World V) (thing : Thing) (who : ℕ) → bundle_of thing ≡ None → is_proper_thing thing ≡ true → is_there w who ≡ true → 1 ≤ w.handles.kept → FitsTogether w → FitsTogether (make w thing who)
  fits_make w thing who none proper there kept f =
      let es = w.handles.entries in
      let y : Entry Thing = record { number = handles.next_number w.handles; thing = thing; owner = who } in
      record {
        forest = f.forest;
        bundles = f.bundles;
        crew = f.crew;
        numbered = f.numbered;
        begun = f.begun;
        few = f.few;
        main = f.main;
        room = let l = length_push es y in let r = f.room in omega (arith, l, r, kept);
        numbers = λ n. subst (λ k. k ≤ bit (nat_le n (w.handles.last + 1))) (sym (used_is (es ++ y ∷ []) w.closings n)) (push_used es w.closings y w.handles.last n refl (subst (λ k. k ≤ bit (nat_le n w.handles.last)) (used_is es w.closings n) (f.numbers n)));
        names = λ name.
            let p = push_named es w.closings y name in
            let b : bit (names_it name y) ≡ 0 = ap (λ o. bit (holds o name)) none in
            named_is (es ++ y ∷ []) w.closings name ∙ (let q : named (es ++ y ∷ []) w.closings name ≡ named es w.closings name = omega (arith, p, b) in q) ∙ sym (named_is es w.closings name) ∙ f.names name;
        kinds = all_push is_proper es y f.kinds proper;
        held = all_push (is_held w) es y f.held (and_from (is_there w who) (if_some (bundle_of thing) true (has_bundle w who)) there (ap (λ o. if_some o true (has_bundle w who)) none));
      }

  -- a new bundle
  pub fits_add_bundle : (w : World V) (who : ℕ) → is_there w who ≡ true → 1 ≤ w.handles.kept → FitsTogether w → FitsTogether (add_bundle w who)
  fits_add_bundle w who there kept f =
      let es = w.handles.entries in
      let new = w.last_bundle + 1 in
      let y : Entry Thing = record { number = handles.next_number w.handles; thing = things.Bundle new; owner = who } in
      let added : Bundle = record { name = new; owner = Some who; closing = false } in
      record {
        forest = bundle_keeps w.scopes new who f.forest f.bundles (there_is w who f there);
        bundles = All-push (λ x. x.name < new + 1) w.scopes.bundles added (All-weaker (λ x. x.name < new) (λ x. x.name < new + 1) (λ x h. omega (arith, h)) w.scopes.bundles f.bundles) (omega arith);
        crew = f.crew;
        numbered = f.numbered;
        begun = f.begun;
        few = f.few;
        main = f.main;
        room = let l = length_push es y in let r = f.room in omega (arith, l, r, kept);
        numbers = λ n. subst (λ k. k ≤ bit (nat_le n (w.handles.last + 1))) (sym (used_is (es ++ y ∷ []) w.closings n)) (push_used es w.closings y w.handles.last n refl (subst (λ k. k ≤ bit (nat_le n w.handles.last)) (used_is es w.closings n) (f.numbers n)));
        names = λ name. named_is (es ++ y ∷ []) w.closings name ∙ push_named es w.closings y name ∙ new_named w who f name (new == name) refl;
        kinds = all_push is_proper es y f.kinds refl;
        held =
            let none : weigh (λ x. bit (names_it new x)) es ≡ 0 = unnamed w f new (new_is_free w.scopes new f.bundles) in
            let kept = held_follow (is_there w) (is_there w) (owner_of w.scopes) (owner_of (scopes.bundle w.scopes new who)) new es (λ n h. h) (λ at ne. bundle_other w.scopes new who at ne) (weightless (names_it new) es none) f.held in
            all_push (is_held (add_bundle w who)) es y kept (and_from (is_there w who) (has_bundle (add_bundle w who) who new) there (owns_is (scopes.bundle w.scopes new who) who new (bundle_new w.scopes new who f.bundles)));
      }
    where
      new_named : (v : World V) (who : ℕ) → FitsTogether v → (name : ℕ) (b : Bool) → (v.last_bundle + 1 == name) ≡ b → named v.handles.entries v.closings name + bit b ≡ bit (is_some (owner_of (scopes.bundle v.scopes (v.last_bundle + 1) who) name))
      new_named v who f name true e =
          let it = equal (v.last_bundle + 1) name e in
          let n : named v.handles.entries v.closings name ≡ 0 = sym (named_is v.handles.entries v.closings name) ∙ f.names name ∙ ap (λ o. bit (is_some o)) (subst (λ m. owner_of v.scopes m ≡ None) it (new_is_free v.scopes (v.last_bundle + 1) f.bundles)) in
          let s : bit (is_some (owner_of (scopes.bundle v.scopes (v.last_bundle + 1) who) name)) ≡ 1 = ap (λ o. bit (is_some o)) (subst (λ m. owner_of (scopes.bundle v.scopes (v.last_bundle + 1) who) m ≡ Some who) it (bundle_new v.scopes (v.last_bundle + 1) who f.bundles)) in
          omega (arith, n, s)
      new_named v who f name false e =
          let n : named v.handles.entries v.closings name ≡ bit (is_some (owner_of v.scopes name)) = sym (named_is v.handles.entries v.closings name) ∙ f.names name in
          let s : bit (is_some (owner_of (scopes.bundle v.scopes (v.last_bundle + 1) who) name)) ≡ bit (is_some (owner_of v.scopes name)) = ap (λ o. bit (is_some o)) (bundle_other v.scopes (v.last_bundle + 1) who name (λ g. unequal (v.last_bundle + 1) name e (sym g))) in
          omega (arith, n, s)
