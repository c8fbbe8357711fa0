-- While a bundle is closing, calls and endings change homes and owners only as told: nobody comes in, and nobody is taken out.
use Rattle.std.proofs.Common.{◌≡◌, ◌∙◌, inl, inr, ◌+◌, ◌==◌, ℕ, List, [], ◌∷◌, fold, filter, find, Bool, true, false, not, ◌&&◌, ◌||◌, cond, Option, Some, None, is_some, if◌then◌else◌, refl, sym, ap, subst}
use Rattle.std.specs.Prelude.{option_and_then}
use Rattle.std.specs.List.{AllByRecursion, list_any}
use Rattle.dill_base.specs.declared.errno.Errno.{Errno}
use Rattle.dill_base.specs.declared.errno.Errno.TheVariants as errnos
use Rattle.dill_calls.specs.declared.answer.Answer.TheVariants.{Fault}
use Rattle.dill_calls.specs.declared.call.Call.{Call}
use Rattle.dill_calls.specs.declared.call.Call.TheVariants as calls
use Rattle.dill_calls.specs.declared.lists.Arg.{Arg}
use Rattle.dill_calls.specs.declared.ran.Note.TheVariants.{Moved}
use Rattle.dill_calls.specs.CallTable.{word_of, blocks, makes, takes_memory}
use Rattle.dill_calls.specs.Program.{Program}
use Rattle.dill_handles.specs.Handles as handles
use Rattle.dill_handles.specs.declared.entry.Entry.{Entry}
use Rattle.dill_scope.specs.declared.forest.Bundle.{Bundle}
use Rattle.dill_scope.specs.Scopes as scopes
use Rattle.dill_scope.specs.Scopes.{Scopes, is_bundle, home_of, owner_of}
use Rattle.dill_scope.specs.Forest.{Inside}
use Rattle.dill_base.specs.Maps.{if_some, without}
use Rattle.dill_rules.specs.declared.thing.Thing.{Thing}
use Rattle.dill_rules.specs.declared.thing.Thing.TheVariants as things
use Rattle.dill_rules.specs.World.{World, reply, note}
use Rattle.dill_rules.specs.Naming.{gifts_of, taken_by}
use Rattle.dill_rules.specs.Owning.{entry_of, take_thing, move, close_bundle}
use Rattle.dill_rules.specs.Taking.{bundle_of, is_cancelled, is_leaving, is_anothers, takes_anothers, is_held_back, is_within, is_awaited, is_cancelled_taker, cannot_take, bundle_named, is_occupied}
use Rattle.dill_rules.specs.Refusals.{refuse, order, order_of, holds, is_called_off, is_busy, is_in_use, is_closed_bundle, is_closed_to, is_refused_by_stack}
use Rattle.dill_rules.specs.Effects.{add_bundle, close_thing, start, give_all}
use Rattle.dill_rules.specs.Answers.{end_named}
use Rattle.dill_rules.specs.Channeling.{done_at}
use Rattle.laws_debt.proofs.Lasting.{Parts, Clearing, either, which, move_by, close_by, channel_lasts, done_at_lasts, meet_lasts}
use Rattle.dill_rules.specs.Entering.{keep_for, perform, done, enter}
use Rattle.dill_rules.specs.Settling.{close_owned, end}
use Rattle.dill_rules.specs.LinkAnswers.{is_of_link}
use Rattle.laws_queue.proofs.Crew.{give_all_crew}
use Rattle.dill_scope.proofs.Carrying.{inside_lives}
use Rattle.laws_queue.proofs.Walking.{none_behind, or_false}
use Rattle.laws_debt.proofs.Flagging.{all_picked}
use Rattle.laws_queue.proofs.Lists.{all_append, all_without, all_found, all_to, found_passes, number_of, equal_number, some_same}
use Rattle.laws_debt.proofs.Tracking.{NotOf, OwnerOk, BundleOk, HomeOk, Tracks}
use Rattle.laws_debt.proofs.Walking.{unlike}

-- ---- how homes and owners change

module _ (s : Scopes) (b : ℕ) where
  pub tracks_take : (t : Scopes) (name owner : ℕ) → OwnerOk s b name owner → Tracks s b t → Tracks s b (scopes.take t name owner)
  tracks_take t name owner ok h = record {
    homes = h.homes;
    owners = all_picked (BundleOk s b) (BundleOk s b) (is_bundle name) (scopes.with_owner owner) t.bundles
        (λ y i f now e. subst (λ n. OwnerOk s b n now) (sym (number_of y.name name i)) (subst (λ o. OwnerOk s b name o) (some_same owner now e) ok)) (λ y f. f) h.owners;
  }

  pub tracks_close : (t : Scopes) (name : ℕ) → Tracks s b t → Tracks s b (scopes.close t name)
  tracks_close t name h = record { homes = h.homes; owners = all_picked (BundleOk s b) (BundleOk s b) (is_bundle name) scopes.as_closing t.bundles (λ y i f. f) (λ y f. f) h.owners }

  pub tracks_bundle : (t : Scopes) (name owner : ℕ) → OwnerOk s b name owner → Tracks s b t → Tracks s b (scopes.bundle t name owner)
  tracks_bundle t name owner ok h = record {
    homes = h.homes;
    owners = all_append (BundleOk s b) t.bundles (record { name = name; owner = Some owner; closing = false } ∷ []) h.owners ((λ now e. subst (λ o. OwnerOk s b name o) (some_same owner now e) ok), tt);
  }

  pub tracks_enter : (t : Scopes) (name who : ℕ) → HomeOk s b (record { who = who; bundle = name }) → Tracks s b t → Tracks s b (scopes.enter t name who)
  tracks_enter t name who ok h = record { homes = all_append (HomeOk s b) t.homes (record { who = who; bundle = name } ∷ []) h.homes (ok, tt); owners = h.owners }

  abbrev pub TracksIn : Parts → Type 0
  TracksIn p = Tracks s b p.scopes

  pub tracks_clear : Clearing TracksIn
  tracks_clear = record {
    retires = λ p number h. h;
    frees = λ p x h. record { homes = h.homes; owners = all_without (BundleOk s b) (is_bundle x.bundle) p.scopes.bundles h.owners };
    ends = λ p who h. record { homes = all_without (HomeOk s b) (scopes.is_home who) p.scopes.homes h.homes; owners = h.owners };
  }

-- ---- the world in which a call is entered

-- What is known where a bundle is closing: who is inside it is cancelled, no live number names it, live numbers of bundles are their owners', and numbers that will be given are new.
pub record Facts {V : Type 0} (w : World V) (b : ℕ) : Type 0 where
  pub off : (n : ℕ) → Inside w.scopes b n → is_cancelled w n ≡ true
  pub owned : (n : ℕ) (x : Entry Thing) (name : ℕ) → entry_of w n ≡ Some x → bundle_of x.thing ≡ Some name → owner_of w.scopes name ≡ Some x.owner
  pub each : AllByRecursion (λ x. entry_of w x.number ≡ Some x) w.handles.entries
  pub dead : (n : ℕ) (x : Entry Thing) → entry_of w n ≡ Some x → bundle_of x.thing ≡ Some b → ⊥
  pub known : is_some (find (is_bundle b) w.scopes.bundles) ≡ true
  pub new_bundle : find (is_bundle (w.last_bundle + 1)) w.scopes.bundles ≡ None
  pub new_home : home_of w.scopes (w.last_coroutine + 1) ≡ None

or_right : (a c : Bool) → (a || c) ≡ false → c ≡ false
or_right true c e = cc
or_right false c e = e

and_left : (a c : Bool) → (a && c) ≡ false → c ≡ true → a ≡ false
and_left true true e f = cc
and_left true false e f = cc
and_left false c e f = refl

and_right : (a c : Bool) → (a && c) ≡ false → a ≡ true → c ≡ false
and_right true c e f = e
and_right false c e f = cc

not_false : (a : Bool) → a ≡ false → not a ≡ true
not_false true e = cc
not_false false e = refl

module _ {V : Type 0} (p : Program V) where
  -- what isn't refused is neither called off nor busy
  unrefused : (w : World V) (who : ℕ) (view : V) (call : Call) → order_of call ≡ order → refuse p w who view call ≡ None → (is_called_off w who call ≡ false) × (is_busy w who call ≡ false)
  unrefused w who view call o e =
      let f = holds p w who view call in
      let all : find f order ≡ None = ap (find f) (sym o) ∙ e in
      let off = none_behind f [] errnos.Ecanceled (errnos.Ebadf ∷ errnos.Enotsup ∷ errnos.Einval ∷ errnos.Ebusy ∷ errnos.Epipe ∷ errnos.Econnreset ∷ errnos.Emsgsize ∷ errnos.Emfile ∷ []) all in
      let busy = none_behind f (errnos.Ecanceled ∷ errnos.Ebadf ∷ errnos.Enotsup ∷ errnos.Einval ∷ []) errnos.Ebusy (errnos.Epipe ∷ errnos.Econnreset ∷ errnos.Emsgsize ∷ errnos.Emfile ∷ []) all in
      (or_false (is_called_off w who call) (is_refused_by_stack w call errnos.Ecanceled) off, or_false (is_busy w who call) (is_refused_by_stack w call errnos.Ebusy) busy)

module _ {V : Type 0} (w : World V) (b : ℕ) (facts : Facts w b) where
  -- who isn't cancelled isn't inside
  outside : (n : ℕ) → is_cancelled w n ≡ false → Inside w.scopes b n → ⊥
  outside n e i = unlike (is_cancelled w n) e (facts.off n i)

  not_of : (n : ℕ) (x : Entry Thing) (name : ℕ) → entry_of w n ≡ Some x → bundle_of x.thing ≡ Some name → is_cancelled w x.owner ≡ false → NotOf w.scopes b name
  not_of n x name e f c old g i =
      let same : x.owner ≡ old = some_same x.owner old (sym (facts.owned n x name e f) ∙ g) in
      outside x.owner c (subst (λ o. Inside w.scopes b o) (sym same) i)

  held_free : (who : ℕ) (x : Entry Thing) → (x.owner == who) ≡ false → is_held_back w who x ≡ false → is_cancelled w x.owner ≡ false
  held_free who x n h = or_false (is_cancelled w x.owner) _ (and_right (not (x.owner == who)) (is_leaving w x.owner) h (not_false (x.owner == who) n))

  taken_held : (who : ℕ) (call : Call) (n : ℕ) (x : Entry Thing) → entry_of w n ≡ Some x → cannot_take w who call n ≡ false → is_held_back w who x ≡ false
  taken_held who call n x e h =
      let at : (is_within w who call x.thing || (is_held_back w who x || (is_awaited w call n || is_cancelled_taker w who call x))) ≡ false = sym (ap (λ o. if_some o false (λ y. is_within w who call y.thing || (is_held_back w who y || (is_awaited w call n || is_cancelled_taker w who call y)))) e) ∙ h in
      or_false (is_held_back w who x) _ (or_right (is_within w who call x.thing) _ at)

  -- a bundle whose number the caller may take
  take_ok : (who : ℕ) (call : Call) (n : ℕ) (x : Entry Thing) (name : ℕ) → entry_of w n ≡ Some x → bundle_of x.thing ≡ Some name → cannot_take w who call n ≡ false → (is_cancelled w who && is_anothers w who n) ≡ false → OwnerOk w.scopes b name who
  take_ok who call n x name e f h c = at (x.owner == who) refl
    where
      at : (t : Bool) → (x.owner == who) ≡ t → OwnerOk w.scopes b name who
      at true i = inl (subst (λ o. owner_of w.scopes name ≡ Some o) (number_of x.owner who i) (facts.owned n x name e f))
      at false i =
          let anothers : is_anothers w who n ≡ true = ap (λ o. if_some o false (λ y. not (y.owner == who))) e ∙ not_false (x.owner == who) i in
          inr (inr (outside who (and_left (is_cancelled w who) (is_anothers w who n) c anothers), not_of n x name e f (held_free who x i (taken_held who call n x e h))))

  -- a gift of a caller that isn't cancelled
  gift_ok : (who : ℕ) (call : Call) (n : ℕ) (x : Entry Thing) (name : ℕ) → is_cancelled w who ≡ false → entry_of w n ≡ Some x → bundle_of x.thing ≡ Some name → cannot_take w who call n ≡ false → NotOf w.scopes b name
  gift_ok who call n x name c e f h = at (x.owner == who) refl
    where
      at : (t : Bool) → (x.owner == who) ≡ t → NotOf w.scopes b name
      at true i = not_of n x name e f (ap (is_cancelled w) (number_of x.owner who i) ∙ c)
      at false i = not_of n x name e f (held_free who x i (taken_held who call n x e h))

  new_not_of : NotOf w.scopes b (w.last_bundle + 1)
  new_not_of old g i = let it : ◌≡◌ {A = Option ℕ} None (Some old) = sym (ap (option_and_then (λ (y : Bundle). y.owner)) facts.new_bundle) ∙ g in cc

  new_unlike : (w.last_bundle + 1) ≡ b → ⊥
  new_unlike e =
      let it : is_some (find (is_bundle b) w.scopes.bundles) ≡ false = ap (λ (o : Option Bundle). is_some o) (subst (λ n. find (is_bundle n) w.scopes.bundles ≡ None) e facts.new_bundle) in
      unlike (is_some (find (is_bundle b) w.scopes.bundles)) it facts.known

  pub new_outside : Inside w.scopes b (w.last_coroutine + 1) → ⊥
  new_outside i =
      let lives = inside_lives w.scopes b i in
      let it : ◌≡◌ {A = Option ℕ} None (Some lives.0) = sym facts.new_home ∙ lives.1 in
      cc

  -- ---- effects

  abbrev TracksTo : World V → Type 0
  TracksTo v = Tracks w.scopes b v.scopes

  move_tracks : (v : World V) (number owner : ℕ) → ((x : Entry Thing) (name : ℕ) → entry_of v number ≡ Some x → bundle_of x.thing ≡ Some name → OwnerOk w.scopes b name owner) → TracksTo v → TracksTo (move v number owner)
  move_tracks v number owner ok h = move_by (TracksIn w.scopes b) v number owner (λ x e. h) (λ x name e f. tracks_take w.scopes b v.scopes name owner (ok x name e f) h) h

  close_tracks : (v : World V) (who name : ℕ) → OwnerOk w.scopes b name who → TracksTo v → Tracks w.scopes b (scopes.close (scopes.take v.scopes name who) name)
  close_tracks v who name ok h = tracks_close w.scopes b (scopes.take v.scopes name who) name (tracks_take w.scopes b v.scopes name who ok h)

  -- a gift among the entries of a world, which no insider had before
  abbrev GiftOk : List ℕ → Entry Thing → Type 0
  GiftOk gifts x = list_any (λ n. n == x.number) gifts ≡ true → (name : ℕ) → bundle_of x.thing ≡ Some name → NotOf w.scopes b name

  gives_one : (gifts : List ℕ) (v : World V) (number : ℕ) → list_any (λ n. n == number) gifts ≡ true → AllByRecursion (GiftOk gifts) v.handles.entries → TracksTo v → AllByRecursion (GiftOk gifts) (move v number (w.last_coroutine + 1)).handles.entries × TracksTo (move v number (w.last_coroutine + 1))
  gives_one gifts v number g a h = (entries (entry_of v number) refl, move_tracks v number (w.last_coroutine + 1) (λ x name e f. inr (inr (new_outside, given x e name f))) h)
    where
      given : (x : Entry Thing) → entry_of v number ≡ Some x → (name : ℕ) → bundle_of x.thing ≡ Some name → NotOf w.scopes b name
      given x e =
          let is : x.number ≡ number = number_of x.number number (found_passes (handles.is_entry number) v.handles.entries x e) in
          all_found (GiftOk gifts) (handles.is_entry number) x v.handles.entries e a (subst (λ k. list_any (λ n. n == k) gifts ≡ true) (sym is) g)

      taken : (x : Entry Thing) (u : World V) → (take_thing u x.thing (w.last_coroutine + 1)).handles ≡ u.handles
      taken x u = same x.thing
        where
          same : (thing : Thing) → (take_thing u thing (w.last_coroutine + 1)).handles ≡ u.handles
          same (things.Bundle name) = refl
          same (things.End end) = refl
          same (things.Listener link) = refl
          same (things.Socket link) = refl
          same (things.Value kind value) = refl

      entries : (o : Option (Entry Thing)) → entry_of v number ≡ o → AllByRecursion (GiftOk gifts) (if_some o v (λ x. note (take_thing (record v { handles = handles.renumber v.handles number x.thing (w.last_coroutine + 1) }) x.thing (w.last_coroutine + 1)) (Moved number (handles.next_number v.handles)))).handles.entries
      entries None e = a
      entries (Some x) e =
          let less : World V = record v { handles = handles.renumber v.handles number x.thing (w.last_coroutine + 1) } in
          let new : Entry Thing = record { number = handles.next_number v.handles; thing = x.thing; owner = w.last_coroutine + 1 } in
          let all : AllByRecursion (GiftOk gifts) less.handles.entries = all_append (GiftOk gifts) (without (handles.is_entry number) v.handles.entries) (new ∷ []) (all_without (GiftOk gifts) (handles.is_entry number) v.handles.entries a) ((λ f. given x e), tt) in
          subst (λ m. AllByRecursion (GiftOk gifts) m.entries) (sym (taken x less)) all

  gives_all : (gifts numbers : List ℕ) (v : World V) → AllByRecursion (λ m. list_any (λ n. n == m) gifts ≡ true) numbers → AllByRecursion (GiftOk gifts) v.handles.entries → TracksTo v → TracksTo (give_all v numbers (w.last_coroutine + 1))
  gives_all gifts [] v g a h = h
  gives_all gifts (m ∷ ms) v g a h =
      let one = gives_one gifts v m g.0 a h in
      gives_all gifts ms (move v m (w.last_coroutine + 1)) g.1 one.0 one.1

any_true : (m : ℕ) (x : ℕ) (xs : List ℕ) → list_any (λ n. n == m) xs ≡ true → list_any (λ n. n == m) (x ∷ xs) ≡ true
any_true m x xs e = at (x == m)
  where
    at : (c : Bool) → (c || list_any (λ n. n == m) xs) ≡ true
    at true = refl
    at false = e

-- each of a list is one of it
all_self : (xs : List ℕ) → AllByRecursion (λ m. list_any (λ n. n == m) xs ≡ true) xs
all_self [] = tt
all_self (x ∷ xs) = (
  ap (λ c. c || list_any (λ n. n == x) xs) (equal_number x x refl),
  all_to (λ m. list_any (λ n. n == m) xs ≡ true) (λ m. list_any (λ n. n == m) (x ∷ xs) ≡ true) xs (λ m e. any_true m x xs e) (all_self xs),
)

-- where none passes a test, one of them doesn't
none_passes : (test : ℕ → Bool) (m : ℕ) (xs : List ℕ) → list_any test xs ≡ false → list_any (λ n. n == m) xs ≡ true → test m ≡ false
none_passes test m [] e f = cc
none_passes test m (x ∷ xs) e f = at (x == m) refl f (λ g. none_passes test m xs (or_right (test x) (list_any test xs) e) g)
  where
    at : (c : Bool) → (x == m) ≡ c → (c || list_any (λ n. n == m) xs) ≡ true → (list_any (λ n. n == m) xs ≡ true → test m ≡ false) → test m ≡ false
    at true i g rest = ap test (sym (number_of x m i)) ∙ or_false (test x) (list_any test xs) e
    at false i g rest = rest g

all_filter : {X : Type 0} (P : X → Type 0) (test : X → Bool) (xs : List X) → AllByRecursion P xs → AllByRecursion (λ x. P x × (test x ≡ true)) (filter test xs)
all_filter P test [] a = tt
all_filter P test (x ∷ xs) a = at (test x) refl (all_filter P test xs a.1)
  where
    at : (c : Bool) → test x ≡ c → AllByRecursion (λ y. P y × (test y ≡ true)) (filter test xs) → AllByRecursion (λ y. P y × (test y ≡ true)) (cond c (x ∷ filter test xs) (filter test xs))
    at true i rest = ((a.0, i), rest)
    at false i rest = rest

module _ {V : Type 0} (p : Program V) (w : World V) (b : ℕ) (facts : Facts w b) where
  -- who makes isn't cancelled
  made_by : (who : ℕ) (call : Call) → makes (word_of call) ≡ true → is_called_off w who call ≡ false → is_cancelled w who ≡ false
  made_by who call m e = and_left (is_cancelled w who) (blocks (word_of call) || (makes (word_of call) || takes_anothers w who call)) e (makes_so (blocks (word_of call)) (makes (word_of call)) (takes_anothers w who call) m)
    where
      makes_so : (x y z : Bool) → y ≡ true → (x || (y || z)) ≡ true
      makes_so true y z f = refl
      makes_so false true z f = refl
      makes_so false false z f = cc

  -- a caller takes this number alone
  takes_one : (who : ℕ) (view : V) (call : Call) (n : ℕ) → order_of call ≡ order → taken_by call ≡ n ∷ [] → (blocks (word_of call) || makes (word_of call)) ≡ false → refuse p w who view call ≡ None → (cannot_take w who call n ≡ false) × ((is_cancelled w who && is_anothers w who n) ≡ false)
  takes_one who view call n o t q e =
      let un = unrefused p w who view call o e in
      let busy : list_any (cannot_take w who call) (taken_by call) ≡ false = or_false (list_any (cannot_take w who call) (taken_by call)) (is_occupied w call || (is_in_use w call || is_closed_bundle w who call)) un.1 in
      let alone : (cannot_take w who call n || false) ≡ false = ap (list_any (cannot_take w who call)) (sym t) ∙ busy in
      (or_false (cannot_take w who call n) false alone, anothers (blocks (word_of call)) (makes (word_of call)) q un.0)
    where
      pick : (x y z c : Bool) → (x || y) ≡ false → (c && (x || (y || z))) ≡ false → (c && z) ≡ false
      pick true y z c i f = cc
      pick false true z c i f = cc
      pick false false z c i f = f

      last : (c z : Bool) → (c && (z || false)) ≡ false → (c && z) ≡ false
      last true true f = f
      last true false f = refl
      last false z f = refl

      anothers : (x y : Bool) → (x || y) ≡ false → (is_cancelled w who && (x || (y || takes_anothers w who call))) ≡ false → (is_cancelled w who && is_anothers w who n) ≡ false
      anothers x y i f =
          let one : (is_cancelled w who && takes_anothers w who call) ≡ false = pick x y (takes_anothers w who call) (is_cancelled w who) i f in
          last (is_cancelled w who) (is_anothers w who n) (ap (λ xs. is_cancelled w who && list_any (is_anothers w who) xs) (sym t) ∙ one)

  -- the entries of a world, of which the gifts may be taken
  gifts_free : (who : ℕ) (call : Call) (gifts : List ℕ) → taken_by call ≡ gifts → is_cancelled w who ≡ false → is_busy w who call ≡ false → AllByRecursion (GiftOk w b facts gifts) w.handles.entries
  gifts_free who call gifts t c e =
      let none : list_any (cannot_take w who call) (taken_by call) ≡ false = or_false (list_any (cannot_take w who call) (taken_by call)) (is_occupied w call || (is_in_use w call || is_closed_bundle w who call)) e in
      let free : list_any (cannot_take w who call) gifts ≡ false = ap (list_any (cannot_take w who call)) (sym t) ∙ none in
      all_to (λ x. entry_of w x.number ≡ Some x) (GiftOk w b facts gifts) w.handles.entries
      (λ x f g name h. gift_ok w b facts who call x.number x name c f h (none_passes (cannot_take w who call) x.number gifts free g)) facts.each

  -- a new coroutine with its gifts, in a bundle that isn't that one, nor of who is inside it
  start_tracks : (v : World V) (view : V) (home program : ℕ) (args : List Arg) → v.last_coroutine ≡ w.last_coroutine → (home ≡ b → ⊥) → NotOf w.scopes b home → AllByRecursion (GiftOk w b facts (gifts_of args)) v.handles.entries → Tracks w.scopes b v.scopes → Tracks w.scopes b (start p v view home program args).scopes
  start_tracks v view home program args l n o a h =
      let given = give_all v (gifts_of args) (w.last_coroutine + 1) in
      let all : Tracks w.scopes b given.scopes = gives_all w b facts (gifts_of args) (gifts_of args) v (all_self (gifts_of args)) a h in
      let same : given.last_coroutine ≡ w.last_coroutine = (give_all_crew v (gifts_of args) (w.last_coroutine + 1)).last ∙ l in
      let born : Tracks w.scopes b (scopes.enter given.scopes home (w.last_coroutine + 1)) = tracks_enter w.scopes b given.scopes home (w.last_coroutine + 1) (inr (facts.new_home, n, o)) all in
      let moved : Tracks w.scopes b (scopes.enter given.scopes home (given.last_coroutine + 1)) = subst (λ k. Tracks w.scopes b (scopes.enter given.scopes home (k + 1))) (sym same) born in
      subst (λ k. Tracks w.scopes b (scopes.enter (give_all v (gifts_of args) (k + 1)).scopes home ((give_all v (gifts_of args) (k + 1)).last_coroutine + 1))) (sym l) moved

  perform_tracks : (who : ℕ) (view : V) (call : Call) → is_of_link (word_of call) ≡ false → refuse p w who view call ≡ None → Tracks w.scopes b w.scopes → Tracks w.scopes b (perform p (keep_for w call) who view call).scopes
  perform_tracks who view (calls.Print text) e f h = h
  perform_tracks who view calls.Now e f h = h
  perform_tracks who view calls.Yield e f h = h
  perform_tracks who view (calls.Msleep deadline) e f h = h
  perform_tracks who view (calls.Hmake kind value) e f h = h
  perform_tracks who view (calls.Hquery number kind) e f h = either (TracksIn w.scopes b) (entry_of w number) (keep_for w (calls.Hquery number kind)) (λ x. reply (keep_for w (calls.Hquery number kind)) who _ _) h (λ x g. h)
  perform_tracks who view (calls.Hown number) e f h =
      let may = takes_one who view (calls.Hown number) number refl refl refl f in
      move_tracks w b facts (keep_for w (calls.Hown number)) number who (λ x name g i. take_ok w b facts who (calls.Hown number) number x name g i may.0 may.1) h
  perform_tracks who view (calls.Hclose number) e f h =
      let may = takes_one who view (calls.Hclose number) number refl refl refl f in
      let k = keep_for w (calls.Hclose number) in
      either (TracksIn w.scopes b) (entry_of w number) k (λ x. close_thing k who number x.thing) h
      (λ x g. close_by (TracksIn w.scopes b) (tracks_clear w.scopes b) k who number x.thing (λ name i. close_tracks w b facts k who name (take_ok w b facts who (calls.Hclose number) number x name g i may.0 may.1) h) h)
  perform_tracks who view calls.Bundle e f h =
      let off = made_by who calls.Bundle refl (unrefused p w who view calls.Bundle refl f).0 in
      tracks_bundle w.scopes b w.scopes (w.last_bundle + 1) who (inr (inr (outside w b facts who off, new_not_of w b facts))) h
  perform_tracks who view (calls.Go program args) e f h =
      let un = unrefused p w who view (calls.Go program args) refl f in
      let off = made_by who (calls.Go program args) refl un.0 in
      let made = add_bundle (keep_for w (calls.Go program args)) who in
      let bundled = tracks_bundle w.scopes b w.scopes (w.last_bundle + 1) who (inr (inr (outside w b facts who off, new_not_of w b facts))) h in
      let entries = all_append (GiftOk w b facts (gifts_of args)) w.handles.entries (record { number = handles.next_number w.handles; thing = things.Bundle (w.last_bundle + 1); owner = who } ∷ []) (gifts_free who (calls.Go program args) (gifts_of args) refl off un.1)
      ((λ g name i. subst (λ n. NotOf w.scopes b n) (some_same (w.last_bundle + 1) name i) (new_not_of w b facts)), tt) in
      start_tracks made view (w.last_bundle + 1) program args refl (new_unlike w b facts) (new_not_of w b facts) entries bundled
  perform_tracks who view (calls.BundleGo number program args) e f h =
      let un = unrefused p w who view (calls.BundleGo number program args) refl f in
      let off = made_by who (calls.BundleGo number program args) refl un.0 in
      let k = keep_for w (calls.BundleGo number program args) in
      let open_to = or_right (is_in_use w (calls.BundleGo number program args)) (is_closed_bundle w who (calls.BundleGo number program args)) (or_right (is_occupied w (calls.BundleGo number program args)) _ (or_right (list_any (cannot_take w who (calls.BundleGo number program args)) (gifts_of args)) _ un.1)) in
      either (TracksIn w.scopes b) (bundle_named k number) k (λ home. reply (start p k view home program args) who _ _) h
      (λ home g. homes home open_to (entry_of w number) refl g (gifts_free who (calls.BundleGo number program args) (gifts_of args) refl off un.1))
    where
      homes : (home : ℕ) → is_closed_to w number ≡ false → (o : Option (Entry Thing)) → entry_of w number ≡ o → if_some o None (λ x. bundle_of x.thing) ≡ Some home → AllByRecursion (GiftOk w b facts (gifts_of args)) w.handles.entries → Tracks w.scopes b (start p (keep_for w (calls.BundleGo number program args)) view home program args).scopes
      homes home c None i g a = cc
      homes home c (Some x) i g a =
          let leaving : is_leaving w x.owner ≡ false = sym (ap (λ o. if_some o false (λ y. is_leaving w y.owner)) i) ∙ c in
          let free : is_cancelled w x.owner ≡ false = or_false (is_cancelled w x.owner) _ leaving in
          start_tracks (keep_for w (calls.BundleGo number program args)) view home program args refl (λ j. facts.dead number x i (subst (λ n. bundle_of x.thing ≡ Some n) j g)) (not_of w b facts number x home i g free) a h
  perform_tracks who view (calls.BundleWait number deadline) e f h = h
  perform_tracks who view (calls.Pass word fault) e f h = h
  perform_tracks who view calls.Chmake e f h = h
  perform_tracks who view (calls.Chdone number) e f h =
      let k = keep_for w (calls.Chdone number) in
      either (TracksIn w.scopes b) (end_named k number) k (done_at k who) h (λ end g. done_at_lasts (TracksIn w.scopes b) k who end h)
  perform_tracks who view (calls.Chsend number bytes deadline) e f h = let call = calls.Chsend number bytes deadline in channel_lasts (TracksIn w.scopes b) (keep_for w call) who call h
  perform_tracks who view (calls.Chrecv number size deadline) e f h = let call = calls.Chrecv number size deadline in channel_lasts (TracksIn w.scopes b) (keep_for w call) who call h
  perform_tracks who view (calls.Choose deadline all) e f h = let call = calls.Choose deadline all in channel_lasts (TracksIn w.scopes b) (keep_for w call) who call h
  perform_tracks who view _ e f h = cc

  pub enter_tracks : (lacks : Bool) (who : ℕ) (view : V) (call : Call) → is_of_link (word_of call) ≡ false → Tracks w.scopes b w.scopes → Tracks w.scopes b (enter p lacks w who view call).scopes
  enter_tracks lacks who view call e h = at (refuse p w who view call) refl
    where
      at : (o : Option Errno) → refuse p w who view call ≡ o → Tracks w.scopes b (if_some o (if lacks && takes_memory (word_of call) then reply w who (word_of call) (Fault errnos.Enomem) else done p w who view call) (λ f. reply w who (word_of call) (Fault f))).scopes
      at None f = which (TracksIn w.scopes b) (lacks && takes_memory (word_of call)) (reply w who (word_of call) (Fault errnos.Enomem)) (done p w who view call) h (meet_lasts (TracksIn w.scopes b) (perform p (keep_for w call) who view call) who (perform_tracks who view call e f h))
      at (Some g) f = h

  closes_own : (who : ℕ) (xs : List (Entry Thing)) (v : World V) → AllByRecursion (λ x. (entry_of w x.number ≡ Some x) × (handles.is_owned who x ≡ true)) xs → Tracks w.scopes b v.scopes → Tracks w.scopes b (fold (close_owned who) v xs).scopes
  closes_own who [] v a h = h
  closes_own who (x ∷ xs) v a h = closes_own who xs (close_owned who v x) a.1 (one (bundle_of x.thing) refl)
    where
      one : (o : Option ℕ) → bundle_of x.thing ≡ o → Tracks w.scopes b (if_some o v (λ name. close_bundle v who name x.number)).scopes
      one None e = h
      one (Some name) e =
          let own : owner_of w.scopes name ≡ Some who = subst (λ o. owner_of w.scopes name ≡ Some o) (number_of x.owner who a.0.1) (facts.owned x.number x name a.0.0 e) in
          close_tracks w b facts v who name (inl own) h

  pub end_tracks : (who : ℕ) (outcome : Option Errno) → Tracks w.scopes b w.scopes → Tracks w.scopes b (end w who outcome).scopes
  end_tracks who outcome h = closes_own who (filter (handles.is_owned who) w.handles.entries) w (all_filter (λ x. entry_of w x.number ≡ Some x) (handles.is_owned who) w.handles.entries facts.each) h
