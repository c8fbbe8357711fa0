-- Gifts: handles that go to a new coroutine, which is inside none of the bundles among them.
use Rattle.std.proofs.Common.{◌≡◌, ◌∙◌, ℕ, ◌==◌, List, [], ◌∷◌, ◌++◌, find, Bool, true, false, ◌||◌, cond, ◌⊎◌, inl, inr, Option, Some, None, refl, sym, ap, subst, arith}
use Rattle.std.specs.Prelude.{is_some}
use Rattle.std.specs.List.{list_any}
use Rattle.std.specs.Option.{option_or}
use Rattle.std.proofs.lemmas.Bool.Decides.{nat_tests}
use Rattle.std.proofs.lemmas.List.Folds.{find-append}
use Rattle.dill_calls.specs.declared.ran.Note.TheVariants.{Moved}
use Rattle.dill_handles.specs.Handles as handles
use Rattle.dill_handles.specs.declared.entry.Entry.{Entry}
use Rattle.dill_scope.specs.Scopes as scopes
use Rattle.dill_scope.specs.Scopes.{Scopes, home_of, owner_of}
use Rattle.dill_scope.specs.Forest.{Inside, lives, under}
use Rattle.dill_scope.proofs.Carrying.{parent_told, parent_is}
use Rattle.dill_scope.proofs.Numbered.{find_without_other}
use Rattle.dill_base.specs.Maps.{if_some, without}
use Rattle.dill_rules.specs.declared.thing.Thing.{Thing}
use Rattle.dill_rules.specs.declared.thing.Thing.TheVariants as things
use Rattle.dill_rules.specs.Effects.{bear, give_all}
use Rattle.dill_rules.specs.Owning.{entry_of, take_thing, move}
use Rattle.dill_rules.specs.World.{World, note, is_coroutine, is_ending}
use Rattle.laws_queue.specs.Well.{is_at}
use Rattle.laws_queue.proofs.Crew.{move_crew}
use Rattle.laws_sound.specs.Order.{is_there, FitsTogether, IsInOrder}
use Rattle.laws_sound.proofs.Counting.{none_left, weightless_none}
use Rattle.laws_sound.proofs.Fitting.{has_number}
use Rattle.laws_sound.proofs.Handing.{equal, unequal}
use Rattle.laws_sound.proofs.Moving.{renumbered}
use Rattle.laws_sound.proofs.Ordering.{order_move}
use Rattle.laws_sound.proofs.Owners.{take_other}
use Rattle.laws_sound.proofs.Shutting.{once}

-- who isn't inside a bundle is inside the same bundles when that one gets another owner
pub take_inside : (s : Scopes) (taken owner name : ℕ) {who : ℕ} → (Inside s taken who → ⊥) → Inside (scopes.take s taken owner) name who → Inside s name who
take_inside s taken owner name out (lives e) = lives e
take_inside s taken owner name {who} out (under above e i) =
    let up = parent_told (scopes.take s taken owner) who above e in
    let other : up.home ≡ taken → ⊥ = λ same. out (lives (let h : home_of s who ≡ Some up.home = up.lives_in in h ∙ ap (λ n. Some n) same)) in
    let own : owner_of s up.home ≡ Some above = sym (take_other s taken owner up.home other) ∙ up.owned in
    let p = parent_is s who up.home above up.lives_in own in
    under above p (take_inside s taken owner name (λ j. out (under above p j)) i)

found_after : (es : List (Entry Thing)) (y z : Entry Thing) (number n : ℕ) (x : Entry Thing) → find (has_number number) es ≡ Some y → z.thing ≡ y.thing → find (has_number number) (without (has_number number) es) ≡ None → find (has_number n) (without (has_number number) es ++ z ∷ []) ≡ Some x → (find (has_number n) es ≡ Some x) ⊎ (x.thing ≡ y.thing)
found_after es y z number n x e t gone f = at (n == number) refl
  where
    last : (b : Bool) → cond b (Some z) None ≡ Some x → x.thing ≡ y.thing
    last true g = let it : z ≡ x = cc in ap (λ k. k.thing) (sym it) ∙ t
    last false g = cc

    by : (o : Option (Entry Thing)) → find (has_number n) (without (has_number number) es) ≡ o → option_or o (cond (has_number n z) (Some z) None) ≡ Some x → (find (has_number n) (without (has_number number) es) ≡ Some x) ⊎ (x.thing ≡ y.thing)
    by None g h = inr (last (has_number n z) h)
    by (Some k) g h = inl (g ∙ h)

    at : (b : Bool) → (n == number) ≡ b → (find (has_number n) es ≡ Some x) ⊎ (x.thing ≡ y.thing)
    at true g =
        let none : find (has_number n) (without (has_number number) es) ≡ None = subst (λ k. find (has_number k) (without (has_number number) es) ≡ None) (sym (equal n number g)) gone in
        elim (by (find (has_number n) (without (has_number number) es)) refl (sym (find-append (has_number n) (without (has_number number) es) (z ∷ [])) ∙ f)) [
          | inl h ↦ (let bad : ◌≡◌ {A = Option (Entry Thing)} None (Some x) = sym none ∙ h in cc)
          | inr h ↦ inr h
        ]
    at false g =
        elim (by (find (has_number n) (without (has_number number) es)) refl (sym (find-append (has_number n) (without (has_number number) es) (z ∷ [])) ∙ f)) [
          | inl h ↦ inl (sym (find_without_other (λ (k : Entry Thing). k.number) n number es (unequal n number g)) ∙ h)
          | inr h ↦ inr h
        ]

module _ {V : Type 0} where
  -- a birth and a move don't hinder each other
  born_taken : (w : World V) (view : V) (home number owner : ℕ) (thing : Thing) → bear (note (take_thing (renumbered w number thing owner) thing owner) (Moved number (handles.next_number w.handles))) view home ≡ note (take_thing (renumbered (bear w view home) number thing owner) thing owner) (Moved number (handles.next_number w.handles))
  born_taken w view home number owner (things.Bundle name) = refl
  born_taken w view home number owner (things.End end) = refl
  born_taken w view home number owner (things.Listener link) = refl
  born_taken w view home number owner (things.Socket link) = refl
  born_taken w view home number owner (things.Value kind value) = refl

  born_moved : (w : World V) (view : V) (home number owner : ℕ) → bear (move w number owner) view home ≡ move (bear w view home) number owner
  born_moved w view home number owner = at (entry_of w number)
    where
      at : (p : Option (Entry Thing)) → bear (if_some p w (λ x. note (take_thing (renumbered w number x.thing owner) x.thing owner) (Moved number (handles.next_number w.handles)))) view home ≡ if_some p (bear w view home) (λ x. note (take_thing (renumbered (bear w view home) number x.thing owner) x.thing owner) (Moved number (handles.next_number w.handles)))
      at None = refl
      at (Some x) = born_taken w view home number owner x.thing

  -- so the child may come first, and then get its gifts
  pub born_given : (ns : List ℕ) (w : World V) (view : V) (home owner : ℕ) → bear (give_all w ns owner) view home ≡ give_all (bear w view home) ns owner
  born_given [] w view home owner = refl
  born_given (n ∷ ns) w view home owner = born_given ns (move w n owner) view home owner ∙ ap (λ v. give_all v ns owner) (born_moved w view home n owner)

  -- an owner is inside no bundle that one of the numbers names
  abbrev pub Outside : World V → List ℕ → ℕ → Type 0
  Outside w ns owner = (n name : ℕ) (x : Entry Thing) → list_any (λ m. m == n) ns ≡ true → entry_of w n ≡ Some x → x.thing ≡ things.Bundle name → Inside w.scopes name owner → ⊥

  -- where something is after a move
  record Moves (w v : World V) (number owner : ℕ) : Type 0 where
    places : (name : ℕ) → Inside v.scopes name owner → Inside w.scopes name owner
    from : (n : ℕ) (x : Entry Thing) → entry_of v n ≡ Some x → (entry_of w n ≡ Some x) ⊎ ((y : Entry Thing) × (entry_of w number ≡ Some y) × (x.thing ≡ y.thing))

  moves_thing : (w : World V) (number owner : ℕ) (y : Entry Thing) (t : Thing) → y.thing ≡ t → FitsTogether w → entry_of w number ≡ Some y → ((name : ℕ) → y.thing ≡ things.Bundle name → Inside w.scopes name owner → ⊥) → Moves w (note (take_thing (renumbered w number t owner) t owner) (Moved number (handles.next_number w.handles))) number owner
  moves_thing w number owner y t same f e out = by t same
    where
      gone : find (has_number number) (without (has_number number) w.handles.entries) ≡ None
      gone = weightless_none (has_number number) (without (has_number number) w.handles.entries) (none_left (has_number number) w.handles.entries (once w number f))

      from : (u : Thing) → y.thing ≡ u → (n : ℕ) (x : Entry Thing) → find (has_number n) (without (has_number number) w.handles.entries ++ record { number = handles.next_number w.handles; thing = u; owner = owner } ∷ []) ≡ Some x → (entry_of w n ≡ Some x) ⊎ ((z : Entry Thing) × (entry_of w number ≡ Some z) × (x.thing ≡ z.thing))
      from u s n x g = elim (found_after w.handles.entries y (record { number = handles.next_number w.handles; thing = u; owner = owner }) number n x e (sym s) gone g) [
        | inl h ↦ inl h
        | inr h ↦ inr (y, e, h)
      ]

      by : (u : Thing) → y.thing ≡ u → Moves w (note (take_thing (renumbered w number u owner) u owner) (Moved number (handles.next_number w.handles))) number owner
      by (things.Bundle name) s = record { places = λ at i. take_inside w.scopes name owner at (out name s) i; from = from (things.Bundle name) s }
      by (things.End end) s = record { places = λ at i. i; from = from (things.End end) s }
      by (things.Listener link) s = record { places = λ at i. i; from = from (things.Listener link) s }
      by (things.Socket link) s = record { places = λ at i. i; from = from (things.Socket link) s }
      by (things.Value kind value) s = record { places = λ at i. i; from = from (things.Value kind value) s }

  moves : (w : World V) (number owner : ℕ) → FitsTogether w → ((name : ℕ) (x : Entry Thing) → entry_of w number ≡ Some x → x.thing ≡ things.Bundle name → Inside w.scopes name owner → ⊥) → Moves w (move w number owner) number owner
  moves w number owner f out = at (entry_of w number) refl
    where
      at : (p : Option (Entry Thing)) → entry_of w number ≡ p → Moves w (if_some p w (λ x. note (take_thing (renumbered w number x.thing owner) x.thing owner) (Moved number (handles.next_number w.handles)))) number owner
      at None e = record { places = λ name i. i; from = λ n x g. inl g }
      at (Some y) e = moves_thing w number owner y y.thing refl f e (λ name s. out name y e s)

  -- the gifts go to their owner
  pub order_given : (ns : List ℕ) (w : World V) (owner : ℕ) → IsInOrder w → is_there w owner ≡ true → is_at is_ending w.coroutines owner ≡ false → Outside w ns owner → IsInOrder (give_all w ns owner)
  order_given [] w owner o there going out = o
  order_given (n ∷ ns) w owner o there going out =
      let v = move w n owner in
      let here : (name : ℕ) (x : Entry Thing) → entry_of w n ≡ Some x → x.thing ≡ things.Bundle name → Inside w.scopes name owner → ⊥ = λ name x e t i. out n name x (first n ns) e t i in
      let m = moves w n owner o.fits here in
      let crew = (move_crew w n owner).coroutines in
      order_given ns v owner (order_move w n owner o there going (λ x name e t i. here name x e t i))
      (ap (λ cs. is_some (find (is_coroutine owner) cs)) crew ∙ there) (ap (λ cs. is_at is_ending cs owner) crew ∙ going)
      (λ k name x l e t i. elim (m.from k x e) [
        | inl g ↦ out k name x (later n k ns l) g t (m.places name i)
        | inr g ↦ here name g.0 g.1 (sym g.2 ∙ t) (m.places name i)
      ])
    where
      first : (k : ℕ) (ks : List ℕ) → ((k == k) || list_any (λ m. m == k) ks) ≡ true
      first k ks = let t : (k == k) ≡ true = grind (arith, nat_tests) in ap (λ b. b || list_any (λ m. m == k) ks) t

      later : (h k : ℕ) (ks : List ℕ) → list_any (λ m. m == k) ks ≡ true → ((h == k) || list_any (λ m. m == k) ks) ≡ true
      later h k ks l = at (h == k)
        where
          at : (b : Bool) → (b || list_any (λ m. m == k) ks) ≡ true
          at true = refl
          at false = l
