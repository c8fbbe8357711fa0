-- What keeps coroutines, handles and bundles fitting together.
use Rattle.std.proofs.Common.{◌≡◌, ◌∙◌, ℕ, ◌+◌, ◌<◌, ◌≤◌, ◌==◌, List, [], ◌∷◌, length, map, find, filter_map, Bool, true, false, not, ◌&&◌, Option, Some, None, refl, sym, ap, subst, arith}
use Rattle.std.proofs.lemmas.Bool.{and_parts, and_from}
use Rattle.std.specs.Prelude.{is_some, All}
use Rattle.std.specs.List.{list_all}
use Rattle.std.proofs.lemmas.Bool.Decides.{nat_tests}
use Rattle.std.proofs.lemmas.List.Elements.{All-cons, All-nil, All-head, All-tail}
use Rattle.rand_core.specs.Stream.{Stream}
use Rattle.dill_calls.specs.declared.ran.Note.{Note}
use Rattle.dill_chan.specs.Channels.{Channels}
use Rattle.dill_handles.specs.Handles as handles
use Rattle.dill_handles.specs.declared.entry.Entry.{Entry}
use Rattle.dill_scope.specs.declared.forest.Home.{Home}
use Rattle.dill_scope.specs.Scopes as scopes
use Rattle.dill_scope.specs.Keeping.{IsThere, IsNewCoroutine}
use Rattle.dill_scope.proofs.Carrying.{some_is}
use Rattle.dill_base.specs.Maps.{if_some}
use Rattle.dill_rules.specs.declared.coroutine.Closing.{Closing}
use Rattle.dill_rules.specs.declared.coroutine.Coroutine.{Coroutine}
use Rattle.dill_rules.specs.declared.thing.Thing.{Thing}
use Rattle.dill_rules.specs.Links.{Links}
use Rattle.dill_rules.specs.Taking.{bundle_of}
use Rattle.dill_rules.specs.World.{World, Place, is_coroutine}
use Rattle.laws_queue.specs.Well.{Numbered, bit, occurs}
use Rattle.laws_sound.specs.Order.{is_there, has_bundle, is_held, FitsTogether}
use Rattle.laws_sound.specs.Orderly.{weigh}
use Rattle.laws_sound.proofs.Counting.{holds, weigh_map, weigh_filter}
use Rattle.laws_sound.proofs.Lists.{all_follow, all_from}
use Rattle.laws_sound.proofs.Sound.{same_there, there_home}

-- a live number names the bundle
abbrev pub names_it : ℕ → Entry Thing → Bool
names_it name x = holds (bundle_of x.thing) name

abbrev pub closes_it : ℕ → Closing → Bool
closes_it name x = x.bundle == name

abbrev pub has_number : ℕ → Entry Thing → Bool
has_number number x = x.number == number

abbrev pub died_as : ℕ → Closing → Bool
died_as number x = x.number == number

-- how often a number is in use, and how often a bundle is named
abbrev pub used : List (Entry Thing) → List Closing → ℕ → ℕ
used es ks number = weigh (λ x. bit (has_number number x)) es + weigh (λ x. bit (died_as number x)) ks

abbrev pub named : List (Entry Thing) → List Closing → ℕ → ℕ
named es ks name = weigh (λ x. bit (names_it name x)) es + weigh (λ x. bit (closes_it name x)) ks

pub used_is : (es : List (Entry Thing)) (ks : List Closing) (number : ℕ) → occurs number (map (λ x. x.number) es) + occurs number (map (λ x. x.number) ks) ≡ used es ks number
used_is es ks number = cc (weigh_map (λ (x : Entry Thing). x.number) number es, weigh_map (λ (x : Closing). x.number) number ks)

pub named_is : (es : List (Entry Thing)) (ks : List Closing) (name : ℕ) → occurs name (filter_map (λ x. bundle_of x.thing) es) + occurs name (map (λ x. x.bundle) ks) ≡ named es ks name
named_is es ks name = cc (weigh_filter (λ (x : Entry Thing). bundle_of x.thing) name es, weigh_map (λ (x : Closing). x.bundle) name ks)

-- who is held, where it is known who is there and who owns what
abbrev pub held_by : (ℕ → Bool) → (ℕ → Option ℕ) → Entry Thing → Bool
held_by there owner x = there x.owner && if_some (bundle_of x.thing) true (λ name. if_some (owner name) false (λ who. who == x.owner))

module _ (there more : ℕ → Bool) (owner other : ℕ → Option ℕ) where
  held_at : (name : ℕ) (x : Entry Thing) (o : Option ℕ) → (there x.owner ≡ true → more x.owner ≡ true) → ((at : ℕ) → (at ≡ name → ⊥) → other at ≡ owner at) → not (holds o name) ≡ true → (there x.owner && if_some o true (λ n. if_some (owner n) false (λ who. who == x.owner))) ≡ true → (more x.owner && if_some o true (λ n. if_some (other n) false (λ who. who == x.owner))) ≡ true
  held_at name x None h same e f = let b = and_parts (there x.owner) true f in and_from (more x.owner) true (h b.0) refl
  held_at name x (Some n) h same e f =
      let b = and_parts (there x.owner) (if_some (owner n) false (λ who. who == x.owner)) f in
      let ne : n ≡ name → ⊥ = λ g. let t : (n == name) ≡ true = grind (arith, nat_tests) in let u : not true ≡ true = ap not (sym t) ∙ e in cc in
      and_from (more x.owner) (if_some (other n) false (λ who. who == x.owner)) (h b.0) (ap (λ p. if_some p false (λ who. who == x.owner)) (same n ne) ∙ b.1)

  -- all are still held, where none names the bundle whose owner changes
  pub held_follow : (name : ℕ) (es : List (Entry Thing)) → ((n : ℕ) → there n ≡ true → more n ≡ true) → ((at : ℕ) → (at ≡ name → ⊥) → other at ≡ owner at) → list_all (λ x. not (names_it name x)) es ≡ true → list_all (held_by there owner) es ≡ true → list_all (held_by more other) es ≡ true
  held_follow name es h same e f = all_from (λ x. not (names_it name x)) (held_by there owner) (held_by more other) es (λ x g i. held_at name x (bundle_of x.thing) (h x.owner) same g i) e f

module _ {V : Type 0} where
  -- what no part of it speaks of
  pub fits_anyway : (w : World V) (c : Channels) (l : Links) (place : Place) (random : Stream) (moment : ℕ) (notes : List Note) → FitsTogether w → FitsTogether (record w { channels = c; links = l; place = place; random = random; moment = moment; notes = notes })
  fits_anyway w c l place random moment notes f = record {
    forest = f.forest;
    bundles = f.bundles;
    crew = f.crew;
    numbered = f.numbered;
    begun = f.begun;
    few = f.few;
    main = f.main;
    room = f.room;
    numbers = f.numbers;
    names = f.names;
    kinds = f.kinds;
    held = f.held;
  }

  pub there_same : (cs ds : List (Coroutine V)) (n : ℕ) → map (λ c. c.number) ds ≡ map (λ c. c.number) cs → is_some (find (is_coroutine n) ds) ≡ is_some (find (is_coroutine n) cs)
  there_same cs ds n e = same_there (λ c. c.number) (λ c. c.number) n ds cs e

  -- the same coroutines, in other modes
  pub fits_crew : (w : World V) (ds : List (Coroutine V)) → map (λ c. c.number) ds ≡ map (λ c. c.number) w.coroutines → Numbered 0 ds w.last_coroutine → length ds ≡ length w.coroutines → FitsTogether w → FitsTogether (record w { coroutines = ds })
  fits_crew w ds e n l f = record {
    forest = f.forest;
    bundles = f.bundles;
    crew = f.crew ∙ sym e;
    numbered = n;
    begun = f.begun;
    few = subst (λ k. k ≤ 65536) (sym l) f.few;
    main = f.main ∙ sym (there_same w.coroutines ds 1 e);
    room = f.room;
    numbers = f.numbers;
    names = f.names;
    kinds = f.kinds;
    held = all_follow (is_held w) (is_held (record w { coroutines = ds })) w.handles.entries (λ x g. ap (λ b. b && if_some (bundle_of x.thing) true (has_bundle w x.owner)) (there_same w.coroutines ds x.owner e) ∙ g) f.held;
  }

  -- numbers are kept for an answer
  pub fits_keep : (w : World V) (count : ℕ) → length w.handles.entries + w.handles.kept + count ≤ 65536 → FitsTogether w → FitsTogether (record w { handles = handles.keep w.handles count })
  fits_keep w count l f = record {
    forest = f.forest;
    bundles = f.bundles;
    crew = f.crew;
    numbered = f.numbered;
    begun = f.begun;
    few = f.few;
    main = f.main;
    room = omega (arith, l);
    numbers = f.numbers;
    names = f.names;
    kinds = f.kinds;
    held = f.held;
  }

  new_below : (cs : List (Coroutine V)) (low high : ℕ) → Numbered low cs high → (high ≤ high → low ≤ high) × All (λ n. n < high + 1) (map (λ c. c.number) cs)
  new_below [] low high n = (λ e. n, All-nil (λ n. n < high + 1))
  new_below (c ∷ cs) low high n =
      let r = new_below cs c.number high n.1 in
      let m = r.0 (omega arith) in
      (λ e. omega (arith, n.0, m), All-cons (λ k. k < high + 1) c.number (map (λ d. d.number) cs) (omega (arith, m)) r.1)

  -- a number above the last one is nobody's
  pub next_is_new : (w : World V) → FitsTogether w → IsNewCoroutine w.scopes (w.last_coroutine + 1)
  next_is_new w f = unmapped w.scopes.homes (subst (All (λ n. n < w.last_coroutine + 1)) (sym f.crew) (new_below w.coroutines 0 w.last_coroutine f.numbered).1)
    where
      unmapped : (hs : List Home) → All (λ n. n < w.last_coroutine + 1) (map (λ x. x.who) hs) → All (λ x. x.who < w.last_coroutine + 1) hs
      unmapped [] a = All-nil (λ (x : Home). x.who < w.last_coroutine + 1)
      unmapped (h ∷ hs) a =
          All-cons (λ (x : Home). x.who < w.last_coroutine + 1) h hs (All-head (λ n. n < w.last_coroutine + 1) h.who (map (λ (x : Home). x.who) hs) a) (unmapped hs (All-tail (λ n. n < w.last_coroutine + 1) h.who (map (λ (x : Home). x.who) hs) a))

  pub there_is : (w : World V) (who : ℕ) → FitsTogether w → is_there w who ≡ true → IsThere w.scopes who
  there_is w who f e = let h = there_home w who f e in some_is (scopes.home_of w.scopes who) h.0 h.1
