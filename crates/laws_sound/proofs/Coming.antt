-- New coroutines, and coroutines that are gone: what keeps a world fitting together.
use Rattle.std.proofs.Common.{◌≡◌, ◌∙◌, ℕ, ◌+◌, ◌<◌, ◌==◌, List, [], ◌∷◌, ◌++◌, length, find, Bool, true, false, not, Option, Some, None, if◌then◌else◌, refl, sym, ap, subst, arith}
use Rattle.std.proofs.lemmas.Bool.{and_parts, and_from}
use Rattle.std.specs.Prelude.{is_some, is_none}
use Rattle.std.specs.List.{list_all}
use Rattle.std.proofs.lemmas.Bool.Decides.{nat_tests}
use Rattle.std.proofs.lemmas.List.{map-append}
use Rattle.dill_base.specs.declared.errno.Errno.{Errno}
use Rattle.dill_calls.specs.declared.answer.Answer.TheVariants.{Number}
use Rattle.dill_calls.specs.declared.word.Word.TheVariants.{Start}
use Rattle.dill_handles.specs.declared.entry.Entry.{Entry}
use Rattle.dill_scope.specs.declared.forest.Home.{Home}
use Rattle.dill_scope.specs.Scopes as scopes
use Rattle.dill_scope.specs.Scopes.{owner_of}
use Rattle.dill_scope.specs.Keeping.{IsKnown}
use Rattle.dill_scope.proofs.Growing.{enter_keeps}
use Rattle.dill_scope.proofs.Leaving.{ended_keeps}
use Rattle.dill_scope.proofs.Numbered.{find_push_other}
use Rattle.dill_base.specs.Maps.{if_some, without}
use Rattle.dill_rules.specs.Links.{rested}
use Rattle.dill_rules.specs.declared.coroutine.Coroutine.{Coroutine}
use Rattle.dill_rules.specs.declared.coroutine.Mode.TheVariants as modes
use Rattle.dill_rules.specs.declared.thing.Thing.{Thing}
use Rattle.dill_rules.specs.Effects.{bear}
use Rattle.dill_rules.specs.Settling.{outcome_of, leave}
use Rattle.dill_rules.specs.Taking.{bundle_of}
use Rattle.dill_rules.specs.World.{World, at_start, is_coroutine, coroutine_of, from_start}
use Rattle.laws_queue.specs.Well.{Numbered}
use Rattle.laws_queue.proofs.Numbers.{numbered_without}
use Rattle.laws_sound.specs.Order.{is_there, has_bundle, is_held, FitsTogether}
use Rattle.laws_sound.proofs.Counting.{found_push, length_without, length_push, keys_without}
use Rattle.laws_sound.proofs.Crews.{gone_without, other_without}
use Rattle.laws_sound.proofs.Fitting.{next_is_new, fits_anyway}
use Rattle.laws_sound.proofs.Handing.{equal, unequal}
use Rattle.laws_sound.proofs.Lists.{all_follow, all_from}

module _ {V : Type 0} where
  numbered_push : (c : Coroutine V) (cs : List (Coroutine V)) (low high : ℕ) → Numbered low cs high → c.number ≡ high + 1 → Numbered low (cs ++ c ∷ []) (high + 1)
  numbered_push c [] low high n e = (omega (arith, n, e), omega (arith, e))
  numbered_push c (x ∷ cs) low high n e = (n.0, numbered_push c cs x.number high n.1 e)

  abbrev pub newborn : World V → V → Coroutine V
  newborn w view = record { number = w.last_coroutine + 1; body = view; mode = modes.Fresh Start (Number 0) }

  some_stays : (o p : Option (Coroutine V)) → ((c : Coroutine V) → o ≡ Some c → p ≡ Some c) → is_some o ≡ true → is_some p ≡ true
  some_stays None p h e = cc
  some_stays (Some c) p h e = ap is_some (h c refl)

  pub fits_born : (w : World V) (view : V) (home : ℕ) → IsKnown w.scopes home → length w.coroutines < 65536 → FitsTogether w → FitsTogether (bear w view home)
  fits_born w view home known room f =
      let c = newborn w view in
      record {
        forest = enter_keeps w.scopes home (w.last_coroutine + 1) f.forest known (next_is_new w f);
        bundles = f.bundles;
        crew = map-append (λ (x : Home). x.who) w.scopes.homes (record { who = w.last_coroutine + 1; bundle = home } ∷ []) ∙ ap (λ ns. ns ++ (w.last_coroutine + 1) ∷ []) f.crew ∙ sym (map-append (λ (x : Coroutine V). x.number) w.coroutines (c ∷ []));
        numbered = numbered_push c w.coroutines 0 w.last_coroutine f.numbered refl;
        begun = omega arith;
        few = let l = length_push w.coroutines c in omega (arith, l, room);
        main = f.main ∙ ap is_some (sym (find_push_other (λ (x : Coroutine V). x.number) 1 w.coroutines c (λ e. let b = f.begun in absurd (omega (arith, e, b)))));
        room = f.room;
        numbers = f.numbers;
        names = f.names;
        kinds = f.kinds;
        held = all_follow (is_held w) (is_held (bear w view home)) w.handles.entries (λ x g.
            let b = and_parts (is_there w x.owner) (if_some (bundle_of x.thing) true (has_bundle w x.owner)) g in
            and_from (is_there (bear w view home) x.owner) (if_some (bundle_of x.thing) true (has_bundle w x.owner)) (some_stays (coroutine_of w x.owner) (coroutine_of (bear w view home) x.owner) (λ d e. found_push (is_coroutine x.owner) w.coroutines c d e) b.0) b.1) f.held;
      }

  held_without : (w v : World V) (who : ℕ) (es : List (Entry Thing)) → ((n : ℕ) → (n ≡ who → ⊥) → is_there v n ≡ is_there w n) → ((x : Entry Thing) → if_some (bundle_of x.thing) true (has_bundle v x.owner) ≡ if_some (bundle_of x.thing) true (has_bundle w x.owner)) → list_all (λ x. not (x.owner == who)) es ≡ true → list_all (is_held w) es ≡ true → list_all (is_held v) es ≡ true
  held_without w v who es there same e f = all_from (λ x. not (x.owner == who)) (is_held w) (is_held v) es (λ x g h.
      let ne : x.owner ≡ who → ⊥ = λ i. let t : (x.owner == who) ≡ true = grind (arith, nat_tests) in let u : not true ≡ true = ap not (sym t) ∙ g in cc in
      cc (there x.owner ne, same x, h)) e f

  -- who has no bundle and no handle
  module _ (w : World V) (who : ℕ) (c : Coroutine V) (e : coroutine_of w who ≡ Some c) (none : (name : ℕ) → owner_of w.scopes name ≡ Some who → ⊥) (bare : list_all (λ x. not (x.owner == who)) w.handles.entries ≡ true) (f : FitsTogether w) where
    abbrev others : List (Coroutine V)
    others = without (is_coroutine who) w.coroutines

    fits_gone : (kept : Option (Option Errno)) → is_none kept ≡ is_some (find (is_coroutine 1) others) → FitsTogether (record w { coroutines = others; scopes = scopes.ended w.scopes who; ended = kept })
    fits_gone kept main = record {
      forest = ended_keeps w.scopes who f.forest none;
      bundles = f.bundles;
      crew = keys_without (λ (x : Home). x.who) who w.scopes.homes ∙ ap (without (λ n. n == who)) f.crew ∙ sym (keys_without (λ (x : Coroutine V). x.number) who w.coroutines);
      numbered = numbered_without (is_coroutine who) w.coroutines 0 w.last_coroutine f.numbered;
      begun = f.begun;
      few = let l = length_without (is_coroutine who) w.coroutines c e in let m = f.few in omega (arith, l, m);
      main = main;
      room = f.room;
      numbers = f.numbers;
      names = f.names;
      kinds = f.kinds;
      held = held_without w (record w { coroutines = others; scopes = scopes.ended w.scopes who; ended = kept }) who w.handles.entries (λ n ne. ap is_some (other_without who n w.coroutines ne)) (λ x. refl) bare f.held;
    }

    fits_left_at : (outcome : Option Errno) (b : Bool) → (who == 1) ≡ b → FitsTogether (record (if b then from_start (record w { ended = Some outcome }) else w) { coroutines = others; scopes = scopes.ended w.scopes who })
    fits_left_at outcome true g =
        let gone : is_some (find (is_coroutine 1) others) ≡ false = subst (λ n. is_some (find (is_coroutine n) others) ≡ false) (equal who 1 g) (ap is_some (gone_without who w.coroutines 0 w.last_coroutine f.numbered)) in
        fits_anyway (record w { coroutines = others; scopes = scopes.ended w.scopes who; ended = Some outcome }) w.channels (rested w.links) at_start w.random w.moment w.notes (fits_gone (Some outcome) (sym gone))
    fits_left_at outcome false g = fits_gone w.ended (f.main ∙ ap is_some (sym (other_without who 1 w.coroutines (λ h. unequal who 1 g (sym h)))))

  pub fits_left : (w : World V) (c : Coroutine V) → coroutine_of w c.number ≡ Some c → ((name : ℕ) → owner_of w.scopes name ≡ Some c.number → ⊥) → list_all (λ x. not (x.owner == c.number)) w.handles.entries ≡ true → FitsTogether w → FitsTogether (leave w c)
  fits_left w c e none bare f = fits_left_at w c.number c e none bare f (outcome_of c.mode) (c.number == 1) refl
