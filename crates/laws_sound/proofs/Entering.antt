-- What a call that isn't refused may do, and what its children leave in order.
use Rattle.std.proofs.Common.{◌≡◌, ◌∙◌, ℕ, ◌+◌, ◌<◌, ◌≤◌, ◌==◌, List, [], ◌∷◌, ◌++◌, length, find, Bool, true, false, not, ◌&&◌, ◌||◌, inl, inr, Option, Some, None, if◌then◌else◌, refl, sym, ap, subst, arith}
use Rattle.std.proofs.lemmas.Bool.{or_parts}
use Rattle.std.specs.Prelude.{is_some, is_none, nat_le, nat_lt}
use Rattle.std.specs.List.{list_any}
use Rattle.std.proofs.lemmas.Bool.Decides.{nat_tests}
use Rattle.std.proofs.lemmas.List.Folds.{list_any-append}
use Rattle.dill_base.specs.declared.errno.Errno.{Errno}
use Rattle.dill_base.specs.declared.errno.Errno.TheVariants as errnos
use Rattle.dill_calls.specs.declared.answer.Answer.{Answer}
use Rattle.dill_calls.specs.declared.answer.Answer.TheVariants.{Number}
use Rattle.dill_calls.specs.declared.call.Call.{Call}
use Rattle.dill_calls.specs.declared.call.Call.TheVariants as calls
use Rattle.dill_calls.specs.declared.lists.Arg.{Arg}
use Rattle.dill_calls.specs.declared.word.Word.{Word}
use Rattle.dill_calls.specs.declared.word.Word.TheVariants as words
use Rattle.dill_calls.specs.CallTable.{word_of, gives_up}
use Rattle.dill_calls.specs.Program.{Program}
use Rattle.dill_handles.specs.Handles as handles
use Rattle.dill_handles.specs.declared.entry.Entry.{Entry}
use Rattle.dill_scope.specs.declared.forest.Home.{Home}
use Rattle.dill_scope.specs.Scopes as scopes
use Rattle.dill_scope.specs.Scopes.{owner_of, is_inside}
use Rattle.dill_scope.specs.Forest.{Inside}
use Rattle.dill_scope.specs.Keeping.{IsKnown, LivesInside}
use Rattle.dill_scope.proofs.Chains.{search_is_inside}
use Rattle.dill_scope.proofs.Growing.{enter_places, bundle_moves_nobody}
use Rattle.dill_scope.proofs.Numbered.{none_below}
use Rattle.dill_base.specs.Maps.{if_some}
use Rattle.dill_rules.specs.declared.coroutine.Coroutine.{Coroutine}
use Rattle.dill_rules.specs.declared.coroutine.Mode.{Mode}
use Rattle.dill_rules.specs.declared.coroutine.Mode.TheVariants as modes
use Rattle.dill_rules.specs.declared.thing.Thing.{Thing}
use Rattle.dill_rules.specs.declared.thing.Thing.TheVariants as things
use Rattle.dill_rules.specs.Effects.{told, add_bundle, bear, give_all, start, next_number}
use Rattle.dill_rules.specs.Entering.{keep_for, perform, is_too_late}
use Rattle.dill_rules.specs.Kinds.{is_dead, names_dead, names_other}
use Rattle.dill_rules.specs.Naming.{gifts_of, draws_of, taken_by, bears, links}
use Rattle.dill_rules.specs.Owning.{entry_of}
use Rattle.dill_rules.specs.Refusals.{holds, holds_of_itself, refuse, order, giving_order, is_refused_by_stack, is_in_use, is_closed_bundle, has_no_coroutine, has_no_link, is_invalid}
use Rattle.dill_rules.specs.Taking.{bundle_of, bundle_named, cannot_take, is_within, is_held_back, is_awaited, is_cancelled_taker, is_occupied, bears_inside, lives_inside}
use Rattle.dill_rules.specs.World.{World, is_coroutine, coroutine_of, call_of, reply, pending_call, is_ending}
use Rattle.laws_queue.specs.Well.{is_at}
use Rattle.laws_queue.proofs.Crew.{give_all_crew}
use Rattle.laws_sound.specs.Order.{closes, is_there, FitsTogether, IsInOrder}
use Rattle.laws_sound.proofs.Coming.{newborn}
use Rattle.laws_sound.proofs.Counting.{found_push, pushed_found}
use Rattle.laws_sound.proofs.Fitting.{next_is_new, has_number, fits_keep}
use Rattle.laws_sound.proofs.Gifts.{born_given, order_given}
use Rattle.laws_sound.proofs.Going.{found_there}
use Rattle.laws_sound.proofs.Handing.{equal, unequal, same_number, live}
use Rattle.laws_sound.proofs.Leaving.{order_born}
use Rattle.laws_sound.proofs.Nearly.{is_free}
use Rattle.laws_sound.proofs.Ordering.{order_reply, order_keep, order_add_bundle, free_closes}
use Rattle.laws_sound.proofs.Owners.{new_is_free, bundle_new, owned_known}
use Rattle.laws_sound.proofs.Shutting.{bundle_is}
use Rattle.laws_sound.proofs.Sound.{same_there}
use Rattle.laws_queue.proofs.Walking.{none_behind}

-- ---- what a call isn't refused for

record Unrefused (f : Errno → Bool) : Type 0 where
  dead : f errnos.Ebadf ≡ false
  other : f errnos.Enotsup ≡ false
  invalid : f errnos.Einval ≡ false
  busy : f errnos.Ebusy ≡ false
  short : f errnos.Emfile ≡ false

unrefused : (f : Errno → Bool) (b : Bool) → find f (if b then giving_order else order) ≡ None → Unrefused f
unrefused f true e = record {
  dead = none_behind f [] errnos.Ebadf (errnos.Enotsup ∷ errnos.Einval ∷ errnos.Ebusy ∷ errnos.Emfile ∷ []) e;
  other = none_behind f (errnos.Ebadf ∷ []) errnos.Enotsup (errnos.Einval ∷ errnos.Ebusy ∷ errnos.Emfile ∷ []) e;
  invalid = none_behind f (errnos.Ebadf ∷ errnos.Enotsup ∷ []) errnos.Einval (errnos.Ebusy ∷ errnos.Emfile ∷ []) e;
  busy = none_behind f (errnos.Ebadf ∷ errnos.Enotsup ∷ errnos.Einval ∷ []) errnos.Ebusy (errnos.Emfile ∷ []) e;
  short = none_behind f (errnos.Ebadf ∷ errnos.Enotsup ∷ errnos.Einval ∷ errnos.Ebusy ∷ []) errnos.Emfile [] e;
}
unrefused f false e = record {
  dead = none_behind f (errnos.Ecanceled ∷ []) errnos.Ebadf (errnos.Enotsup ∷ errnos.Einval ∷ errnos.Ebusy ∷ errnos.Epipe ∷ errnos.Econnreset ∷ errnos.Emsgsize ∷ errnos.Emfile ∷ []) e;
  other = none_behind f (errnos.Ecanceled ∷ errnos.Ebadf ∷ []) errnos.Enotsup (errnos.Einval ∷ errnos.Ebusy ∷ errnos.Epipe ∷ errnos.Econnreset ∷ errnos.Emsgsize ∷ errnos.Emfile ∷ []) e;
  invalid = none_behind f (errnos.Ecanceled ∷ errnos.Ebadf ∷ errnos.Enotsup ∷ []) errnos.Einval (errnos.Ebusy ∷ errnos.Epipe ∷ errnos.Econnreset ∷ errnos.Emsgsize ∷ errnos.Emfile ∷ []) e;
  busy = none_behind f (errnos.Ecanceled ∷ errnos.Ebadf ∷ errnos.Enotsup ∷ errnos.Einval ∷ []) errnos.Ebusy (errnos.Epipe ∷ errnos.Econnreset ∷ errnos.Emsgsize ∷ errnos.Emfile ∷ []) e;
  short = none_behind f (errnos.Ecanceled ∷ errnos.Ebadf ∷ errnos.Enotsup ∷ errnos.Einval ∷ errnos.Ebusy ∷ errnos.Epipe ∷ errnos.Econnreset ∷ errnos.Emsgsize ∷ []) errnos.Emfile [] e;
}

module _ {V : Type 0} (p : Program V) where
  -- what a call that isn't refused may do
  pub record May (w : World V) (who : ℕ) (view : V) (call : Call) : Type 0 where
    pub room : length w.handles.entries + w.handles.kept + draws_of call ≤ 65536
    pub takes : list_any (cannot_take w who call) (taken_by call) ≡ false
    pub alive : names_dead w call ≡ false
    pub other : names_other w call ≡ false
    pub valid : is_invalid p view call ≡ false
    pub crew : (bears (word_of call) && has_no_coroutine w) ≡ false

  room_is : (h : handles.Handles Thing) (count : ℕ) → not (handles.has_room h count) ≡ false → length h.entries + h.kept + count ≤ 65536
  room_is h count e = at (nat_le (length h.entries + h.kept + count) 65536) refl e
    where
      at : (b : Bool) → nat_le (length h.entries + h.kept + count) 65536 ≡ b → not (b && nat_le (h.last + h.kept + count) handles.last_number) ≡ false → length h.entries + h.kept + count ≤ 65536
      at true f g = grind (arith, nat_tests)
      at false f g = cc

  pub may : (w : World V) (who : ℕ) (view : V) (call : Call) → refuse p w who view call ≡ None → May w who view call
  may w who view call e =
      let u = unrefused (holds p w who view call) (gives_up (word_of call)) e in
      let short = (or_parts (holds_of_itself p w who view call errnos.Emfile) (is_refused_by_stack w call errnos.Emfile) u.short).0 in
      let busy = (or_parts (holds_of_itself p w who view call errnos.Ebusy) (is_refused_by_stack w call errnos.Ebusy) u.busy).0 in
      let shorts = or_parts (not (handles.has_room w.handles (draws_of call))) ((bears (word_of call) && has_no_coroutine w) || (links (word_of call) && has_no_link w)) short in
      record {
        alive = (or_parts (holds_of_itself p w who view call errnos.Ebadf) (is_refused_by_stack w call errnos.Ebadf) u.dead).0;
        other = (or_parts (holds_of_itself p w who view call errnos.Enotsup) (is_refused_by_stack w call errnos.Enotsup) u.other).0;
        valid = (or_parts (holds_of_itself p w who view call errnos.Einval) (is_refused_by_stack w call errnos.Einval) u.invalid).0;
        crew = (or_parts (bears (word_of call) && has_no_coroutine w) (links (word_of call) && has_no_link w) shorts.1).0;
        room = room_is w.handles (draws_of call) shorts.0;
        takes = (or_parts (list_any (cannot_take w who call) (taken_by call)) (is_occupied w call || (is_in_use w call || is_closed_bundle w who call)) busy).0;
      }

module _ {V : Type 0} where
  -- what may be taken is no bundle that the caller or its child is inside
  not_within : (w : World V) (who : ℕ) (call : Call) (number name : ℕ) (x : Entry Thing) → cannot_take w who call number ≡ false → entry_of w number ≡ Some x → x.thing ≡ things.Bundle name → (is_inside w.scopes name who ≡ false) × (bears_inside w call name ≡ false)
  not_within w who call number name x e f t =
      let one : (is_within w who call x.thing || (is_held_back w who x || (is_awaited w call number || is_cancelled_taker w who call x))) ≡ false = ap (λ o. if_some o false (λ y. is_within w who call y.thing || (is_held_back w who y || (is_awaited w call number || is_cancelled_taker w who call y)))) (sym f) ∙ e in
      let two = (or_parts (is_within w who call x.thing) (is_held_back w who x || (is_awaited w call number || is_cancelled_taker w who call x)) one).0 in
      let three : (is_inside w.scopes name who || bears_inside w call name) ≡ false = ap (λ h. is_within w who call h) (sym t) ∙ two in
      or_parts (is_inside w.scopes name who) (bears_inside w call name) three

  outside : (w : World V) (name who : ℕ) → IsInOrder w → is_inside w.scopes name who ≡ false → Inside w.scopes name who → ⊥
  outside w name who o e i = let t = (search_is_inside w.scopes name who o.fits.forest.forest).1 i in cc

  -- who makes its call
  pub record Caller (w : World V) (who : ℕ) : Type 0 where
    pub order : IsInOrder w
    pub one : Coroutine V
    pub found : coroutine_of w who ≡ Some one
    pub free : is_free one.mode ≡ true

  answered : (w : World V) (who : ℕ) (h : Caller w who) (v : World V) → IsInOrder v → v.coroutines ≡ w.coroutines → Caller v who
  answered w who h v o e = record { order = o; one = h.one; found = ap (find (is_coroutine who)) e ∙ h.found; free = h.free }

  replied : (w : World V) (who : ℕ) (word : Word) (answer : Answer) → Caller w who → IsInOrder (reply w who word answer)
  replied w who word answer h = order_reply w who h.one word answer h.order h.found h.free

  there : (w : World V) (who : ℕ) → Caller w who → is_there w who ≡ true
  there w who h = found_there w who h.one h.found

  going : (w : World V) (who : ℕ) → Caller w who → is_at is_ending w.coroutines who ≡ false
  going w who h = ap (λ o. if_some o false (λ c. is_ending c.mode)) h.found ∙ (free_closes h.one.mode h.free).1

  -- ---- a new coroutine with its gifts

  nobody_new : (w : World V) → FitsTogether w → coroutine_of w (w.last_coroutine + 1) ≡ None
  nobody_new w f = at (coroutine_of w (w.last_coroutine + 1)) (sym (same_there (λ (x : Home). x.who) (λ (c : Coroutine V). c.number) (w.last_coroutine + 1) w.scopes.homes w.coroutines f.crew) ∙ ap is_some (none_below (λ (x : Home). x.who) (w.last_coroutine + 1) w.scopes.homes (next_is_new w f)))
    where
      at : (o : Option (Coroutine V)) → is_some o ≡ false → o ≡ None
      at None e = refl
      at (Some c) e = cc

  order_start : (w : World V) (view : V) (home : ℕ) (ns : List ℕ) → IsInOrder w → IsKnown w.scopes home → length w.coroutines < 65536 → ((n name : ℕ) (x : Entry Thing) → list_any (λ m. m == n) ns ≡ true → entry_of w n ≡ Some x → x.thing ≡ things.Bundle name → LivesInside w.scopes home name → ⊥) → IsInOrder (bear (give_all w ns (w.last_coroutine + 1)) view home)
  order_start w view home ns o known room out =
      let v = bear w view home in
      let new : coroutine_of v (w.last_coroutine + 1) ≡ Some (newborn w view) = pushed_found (is_coroutine (w.last_coroutine + 1)) w.coroutines (newborn w view) (nobody_new w o.fits) (same_number (w.last_coroutine + 1)) in
      subst IsInOrder (sym (born_given ns w view home (w.last_coroutine + 1)))
      (order_given ns v (w.last_coroutine + 1) (order_born w view home known room o) (ap is_some new) (ap (λ q. if_some q false (λ c. is_ending c.mode)) new)
      (λ n name x l e t i. out n name x l e t ((enter_places w.scopes home (w.last_coroutine + 1) name o.fits.forest (next_is_new w o.fits)).0 i)))

  started : (w : World V) (who : ℕ) (view : V) (home owner : ℕ) (ns : List ℕ) → Caller w who → IsInOrder (bear (give_all w ns owner) view home) → Caller (bear (give_all w ns owner) view home) who
  started w who view home owner ns h o =
      let g = give_all w ns owner in
      record { order = o; one = h.one; found = found_push (is_coroutine who) g.coroutines (newborn g view) h.one (ap (find (is_coroutine who)) (give_all_crew w ns owner).coroutines ∙ h.found); free = h.free }

  no_room : (w : World V) → has_no_coroutine w ≡ false → length w.coroutines < 65536
  no_room w e = let b = (or_parts (nat_le 65536 (length w.coroutines)) (nat_le 18446744073709551615 w.last_coroutine) e).0 in grind (arith, nat_tests)

  bundle_entry : (w : World V) (number home : ℕ) → bundle_named w number ≡ Some home → (x : Entry Thing) × (entry_of w number ≡ Some x) × (x.thing ≡ things.Bundle home)
  bundle_entry w number home e = at (entry_of w number) refl e
    where
      at : (o : Option (Entry Thing)) → entry_of w number ≡ o → if_some o None (λ x. bundle_of x.thing) ≡ Some home → (x : Entry Thing) × (entry_of w number ≡ Some x) × (x.thing ≡ things.Bundle home)
      at None f g = cc
      at (Some x) f g = (x, f, bundle_is x.thing home g)

-- what was there is found as before
pushed_same : {X : Type 0} (pick : X → Bool) (xs : List X) (z x : X) → is_none (find pick xs) ≡ false → find pick (xs ++ z ∷ []) ≡ Some x → find pick xs ≡ Some x
pushed_same {X} pick xs z x e f = at (find pick xs) refl e
  where
    at : (o : Option X) → find pick xs ≡ o → is_none o ≡ false → o ≡ Some x
    at None g h = cc
    at (Some y) g h = sym (found_push pick xs z y g) ∙ f

any_false : (test : ℕ → Bool) (ns : List ℕ) (n : ℕ) → list_any test ns ≡ false → list_any (λ m. m == n) ns ≡ true → test n ≡ false
any_false test [] n e f = cc
any_false test (m ∷ ns) n e f =
    let b = or_parts (test m) (list_any test ns) e in
    at (m == n) refl f b.0 (any_false test ns n b.1)
  where
    at : (t : Bool) → (m == n) ≡ t → (t || list_any (λ k. k == n) ns) ≡ true → test m ≡ false → (list_any (λ k. k == n) ns ≡ true → test n ≡ false) → test n ≡ false
    at true g h i rest = subst (λ k. test k ≡ false) (equal m n g) i
    at false g h i rest = rest h

module _ {V : Type 0} (p : Program V) where
  kept_order : (w : World V) (who : ℕ) (view : V) (call : Call) → May p w who view call → Caller w who → Caller (keep_for w call) who
  kept_order w who view call m h = answered w who h (keep_for w call) (order_keep w (draws_of call) (fits_keep w (draws_of call) m.room h.order.fits) h.order) refl

  pub not_inside : (w : World V) (who : ℕ) (call : Call) (number : ℕ) → IsInOrder w → cannot_take w who call number ≡ false → (x : Entry Thing) (name : ℕ) → entry_of w number ≡ Some x → x.thing ≡ things.Bundle name → Inside w.scopes name who → ⊥
  not_inside w who call number o e x name f t = outside w name who o (not_within w who call number name x e f t).0

  pub one_taken : (b : Bool) → (b || false) ≡ false → b ≡ false
  one_taken true e = cc
  one_taken false e = refl

  -- the child of `go` is inside no bundle that it is given
  go_outside : (w : World V) (who : ℕ) (view : V) (program : ℕ) (args : List Arg) → Caller w who → May p w who view (calls.Go program args) → (n name : ℕ) (x : Entry Thing) → list_any (λ m. m == n) (gifts_of args) ≡ true → entry_of (add_bundle (keep_for w (calls.Go program args)) who) n ≡ Some x → x.thing ≡ things.Bundle name → LivesInside (scopes.bundle w.scopes (w.last_bundle + 1) who) (w.last_bundle + 1) name → ⊥
  go_outside w who view program args h m n name x l e t lived =
      let call = calls.Go program args in
      let ns = gifts_of args in
      let new = w.last_bundle + 1 in
      let none_dead : list_any (is_dead w) ns ≡ false = (or_parts (list_any (is_dead w) ns) false (sym (list_any-append (is_dead w) ns []) ∙ m.alive)).0 in
      let found : entry_of w n ≡ Some x = pushed_same (has_number n) w.handles.entries (record { number = handles.next_number w.handles; thing = things.Bundle new; owner = who }) x (any_false (is_dead w) ns n none_dead l) e in
      let owned = (live w n name x h.order.fits found t).owned in
      let free = new_is_free w.scopes new h.order.fits.bundles in
      let out = not_inside w who call n h.order (any_false (cannot_take w who call) ns n m.takes l) x name found t in
      elim lived [
        | inl same ↦ (let bad : owner_of w.scopes new ≡ Some x.owner = subst (λ b. owner_of w.scopes b ≡ Some x.owner) (sym same) owned in cc)
        | inr r ↦ (
            let own : owner_of (scopes.bundle w.scopes new who) new ≡ Some who = bundle_new w.scopes new who h.order.fits.bundles in
            let mine : who ≡ r.0 = cc in
            out ((bundle_moves_nobody w.scopes new who h.order.fits.forest h.order.fits.bundles name who tt).0 (subst (λ k. Inside (scopes.bundle w.scopes new who) name k) (sym mine) r.2)))
      ]

  pub go_order : (w : World V) (who : ℕ) (view : V) (program : ℕ) (args : List Arg) → Caller w who → May p w who view (calls.Go program args) → IsInOrder (perform p (keep_for w (calls.Go program args)) who view (calls.Go program args))
  go_order w who view program args h m =
      let call = calls.Go program args in
      let k = keep_for w call in
      let kept = kept_order w who view call m h in
      let made = add_bundle k who in
      let new = k.last_bundle + 1 in
      let ns = gifts_of args in
      let child = p.child view program (told (next_number made) args) in
      let made_order = order_add_bundle k who (there k who kept) (going k who kept) (omega arith) kept.order in
      let known = owned_known made.scopes new who (bundle_new k.scopes new who kept.order.fits.bundles) in
      let started_order = order_start made child new ns made_order known (no_room w m.crew) (go_outside w who view program args h m) in
      replied (start p made view new program args) who words.Go (Number (next_number k)) (started made who child new (made.last_coroutine + 1) ns (answered k who kept made made_order refl) started_order)

  -- the child of `bundle_go` is inside no bundle that it is given
  bundle_outside : (w : World V) (who : ℕ) (view : V) (number home : ℕ) (program : ℕ) (args : List Arg) → Caller w who → May p w who view (calls.BundleGo number program args) → bundle_named w number ≡ Some home → (n name : ℕ) (x : Entry Thing) → list_any (λ m. m == n) (gifts_of args) ≡ true → entry_of w n ≡ Some x → x.thing ≡ things.Bundle name → LivesInside w.scopes home name → ⊥
  bundle_outside w who view number home program args h m e n name x l f t lived =
      let call = calls.BundleGo number program args in
      let ns = gifts_of args in
      let inner = (not_within w who call n name x (any_false (cannot_take w who call) ns n m.takes l) f t).1 in
      let apart : (home == name || if_some (owner_of w.scopes home) false (is_inside w.scopes name)) ≡ false = ap (λ o. if_some o false (λ b. lives_inside w b name)) (sym e) ∙ inner in
      let both = or_parts (home == name) (if_some (owner_of w.scopes home) false (is_inside w.scopes name)) apart in
      elim lived [
        | inl same ↦ unequal home name both.0 same
        | inr r ↦ outside w name r.0 h.order (ap (λ o. if_some o false (is_inside w.scopes name)) (sym r.1) ∙ both.1) r.2
      ]

  pub bundle_go_order : (w : World V) (who : ℕ) (view : V) (number program : ℕ) (args : List Arg) → Caller w who → May p w who view (calls.BundleGo number program args) → IsInOrder (perform p (keep_for w (calls.BundleGo number program args)) who view (calls.BundleGo number program args))
  bundle_go_order w who view number program args h m = at (bundle_named w number) refl
    where
      at : (o : Option ℕ) → bundle_named w number ≡ o → IsInOrder (if_some o (keep_for w (calls.BundleGo number program args)) (λ home. reply (start p (keep_for w (calls.BundleGo number program args)) view home program args) who words.BundleGo (Number 0)))
      at None e = (kept_order w who view (calls.BundleGo number program args) m h).order
      at (Some home) e =
          let call = calls.BundleGo number program args in
          let k = keep_for w call in
          let kept = kept_order w who view call m h in
          let ns = gifts_of args in
          let child = p.child view program (told (next_number k) args) in
          let x = bundle_entry w number home e in
          let known = owned_known k.scopes home x.0.owner (live w number home x.0 h.order.fits x.1 x.2).owned in
          let started_order = order_start k child home ns kept.order known (no_room w m.crew) (bundle_outside w who view number home program args h m e) in
          replied (start p k view home program args) who words.BundleGo (Number 0) (started k who child home (k.last_coroutine + 1) ns kept started_order)

  pub proper_kind : (kind : ℕ) → (nat_lt kind 256 || nat_lt 4294967295 kind) ≡ false → nat_le 256 kind ≡ true
  proper_kind kind e = let b = (or_parts (nat_lt kind 256) (nat_lt 4294967295 kind) e).0 in grind (arith, nat_tests)

call_mode : (mode : Mode) (call : Call) → pending_call mode ≡ Some call → mode ≡ modes.Pending call
call_mode (modes.Pending other) call e = let it : other ≡ call = cc in ap (λ c. modes.Pending c) it
call_mode modes.Running call e = cc
call_mode (modes.Fresh word answer) call e = cc
call_mode (modes.Answered word answer) call e = cc
call_mode (modes.Ending outcome) call e = cc

module _ {V : Type 0} where
  -- a call with a deadline closes nothing
  pub late_free : (w : World V) (who : ℕ) (call : Call) → is_too_late w who call ≡ true → closes (modes.Pending call) ≡ None
  late_free w who (calls.Hclose number) e = cc
  late_free w who _ e = refl

  pub found_call : (w : World V) (who : ℕ) (call : Call) → call_of w who ≡ Some call → (c : Coroutine V) × (coroutine_of w who ≡ Some c) × (c.mode ≡ modes.Pending call)
  found_call w who call e = at (coroutine_of w who) refl e
    where
      at : (o : Option (Coroutine V)) → coroutine_of w who ≡ o → if_some o None (λ c. pending_call c.mode) ≡ Some call → (c : Coroutine V) × (coroutine_of w who ≡ Some c) × (c.mode ≡ modes.Pending call)
      at None f g = cc
      at (Some c) f g = (c, f, call_mode c.mode call g)
