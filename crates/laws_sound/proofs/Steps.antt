-- One walk over worlds without links and the same with random numbers that are lent: the steps look at none of these, and leave both so.
use Rattle.std.proofs.Common.{◌≡◌, ◌∙◌, ◌==◌, ℕ, zero, suc, List, [], ◌∷◌, length, fold, filter, reverse, find, Bool, true, false, Option, Some, None, if◌then◌else◌, refl, sym, ap, subst}
use Rattle.std.proofs.lemmas.Bool.{and_parts}
use Rattle.std.specs.List.{list_all}
use Rattle.std.specs.Option.{option_or}
use Rattle.dill_calls.specs.declared.answer.Answer.{Answer}
use Rattle.dill_calls.specs.declared.call.Call.{Call}
use Rattle.dill_calls.specs.declared.call.Call.TheVariants as calls
use Rattle.dill_calls.specs.declared.word.Word.TheVariants as words
use Rattle.rand_core.specs.Stream.{Stream}
use Rattle.dill_handles.specs.Handles as handles
use Rattle.dill_base.specs.Maps.{if_some, first_some}
use Rattle.dill_rules.specs.Links.{rested}
use Rattle.dill_rules.specs.declared.coroutine.Coroutine.{Coroutine}
use Rattle.dill_rules.specs.Answers.{answer_of}
use Rattle.dill_rules.specs.Giving.{give}
use Rattle.dill_rules.specs.Settling.{can_finish, highest_first, is_owned_by, free_all, release_all, outcome_of, keep_end, leave, finish, answer_due, give_first, settle_one, settle_within, pass_all, settle}
use Rattle.laws_queue.specs.Lending.{lent}
use Rattle.laws_sound.specs.Linkless.{may_wait, waits_linkless, IsLinkless}
use Rattle.laws_sound.proofs.Lists.{all_without, all_found}
use Rattle.laws_sound.proofs.Apart.{pass_apart, linkless_apart}
use Rattle.dill_calls.specs.declared.ran.Note.TheVariants.{Moved, Freed}
use Rattle.dill_calls.specs.declared.word.Word.{Word}
use Rattle.dill_handles.specs.declared.entry.Entry.{Entry}
use Rattle.dill_base.specs.Maps.{without}
use Rattle.dill_rules.specs.declared.coroutine.Closing.{Closing}
use Rattle.dill_rules.specs.declared.thing.Thing.{Thing}
use Rattle.dill_rules.specs.declared.thing.Thing.TheVariants as things
use Rattle.dill_rules.specs.Owning.{entry_of, take_thing, move, drop, release, free_bundle, is_dead_as}
use Rattle.dill_rules.specs.World.{World, is_coroutine, coroutine_of, call_of, reply, note, pending_call, from_start}
use Rattle.laws_sound.specs.Linkless.{is_linkless_thing, is_linkless_entry}
use Rattle.std.proofs.lemmas.Bool.{and_from}
use Rattle.laws_sound.proofs.Lists.{all_append}
use Rattle.laws_sound.proofs.Linkless.{linkless_with, reply_linkless, note_linkless, retire_linkless, free_bundle_linkless}
use Rattle.laws_sound.proofs.Settles.{first_same}

pending_waits : (o : Option Call) (call : Call) → if_some o true may_wait ≡ true → o ≡ Some call → may_wait call ≡ true
pending_waits None call e f = cc
pending_waits (Some other) call e f = let it : other ≡ call = cc in ap may_wait (sym it) ∙ e

due_answer : (n : ℕ) (call : Call) (r : Option Answer) (x : ℕ × Call × Answer) → if_some r None (λ a. Some (n, call, a)) ≡ Some x → call ≡ x.1
due_answer n call None x e = cc
due_answer n call (Some a) x e = let it : ◌≡◌ {A = ℕ × Call × Answer} (n, call, a) x = cc in ap (λ y. y.1) it

module _ {V : Type 0} where
  call_found : (o : Option (Coroutine V)) (call : Call) → ((c : Coroutine V) → o ≡ Some c → waits_linkless c ≡ true) → if_some o None (λ c. pending_call c.mode) ≡ Some call → may_wait call ≡ true
  call_found None call h e = cc
  call_found (Some c) call h e = pending_waits (pending_call c.mode) call (h c refl) e

  -- what anybody is pending in may wait
  pub call_waits : (w : World V) (who : ℕ) (call : Call) → IsLinkless w → call_of w who ≡ Some call → may_wait call ≡ true
  call_waits w who call linkless e = call_found (coroutine_of w who) call (λ c f. all_found waits_linkless (is_coroutine who) w.coroutines c linkless.calls f) e

  due_call : (w : World V) (n : ℕ) (o : Option Call) (x : ℕ × Call × Answer) → if_some o None (λ call. if_some (answer_of w n call) None (λ a. Some (n, call, a))) ≡ Some x → if_some o true may_wait ≡ true → may_wait x.1 ≡ true
  due_call w n None x e h = cc
  due_call w n (Some call) x e h = ap may_wait (sym (due_answer n call (answer_of w n call) x e)) ∙ h

  due_at : (w : World V) (c : Coroutine V) (o rest : Option (ℕ × Call × Answer)) (x : ℕ × Call × Answer) → option_or o rest ≡ Some x → (o ≡ Some x → may_wait x.1 ≡ true) → (rest ≡ Some x → may_wait x.1 ≡ true) → may_wait x.1 ≡ true
  due_at w c None rest x e f g = g e
  due_at w c (Some y) rest x e f g = f e

  pub first_waits : (w : World V) (cs : List (Coroutine V)) (x : ℕ × Call × Answer) → list_all waits_linkless cs ≡ true → first_some (answer_due w) cs ≡ Some x → may_wait x.1 ≡ true
  first_waits w [] x e f = cc
  first_waits w (c ∷ cs) x e f =
      let h = and_parts (waits_linkless c) (list_all waits_linkless cs) e in
      due_at w c (answer_due w c) (first_some (answer_due w) cs) x f (λ g. due_call w c.number (pending_call c.mode) x g h.0) (first_waits w cs x h.1)

  -- in a world without links nobody's stack is looked at
  pub pass_linkless : (w : World V) → IsLinkless w → pass_all w ≡ w
  pass_linkless w linkless = pass_apart w (linkless_apart w linkless)

-- a world without links, and the same with other random numbers
pub record Lent {V : Type 0} (u : Stream) (n w : World V) : Type 0 where
  pub same : n ≡ (lent u) w
  pub linkless : IsLinkless w

module _ {V : Type 0} (u : Stream) where
  pub here : (w : World V) → IsLinkless w → Lent u ((lent u) w) w
  here w l = record { same = refl; linkless = l }

  pub and_so : (n w : World V) (f : World V → World V) → Lent u n w → (IsLinkless w → Lent u (f ((lent u) w)) (f w)) → Lent u (f n) (f w)
  and_so n w f a k = let r = k a.linkless in record { same = ap f a.same ∙ r.same; linkless = r.linkless }

  pub some_lent : {A : Type 0} (o : Option A) (n w : World V) (g f : A → World V) → Lent u n w → ((a : A) → o ≡ Some a → Lent u (g a) (f a)) → Lent u (if_some o n g) (if_some o w f)
  some_lent None n w g f e h = e
  some_lent (Some a) n w g f e h = h a refl

  pub if_lent : (b : Bool) (m n v w : World V) → Lent u m v → Lent u n w → Lent u (if b then m else n) (if b then v else w)
  if_lent true m n v w e f = e
  if_lent false m n v w e f = f

  pub fold_lent : {A : Type 0} (f : World V → A → World V) (xs : List A) (w : World V) → IsLinkless w → ((v : World V) (a : A) → IsLinkless v → Lent u (f ((lent u) v) a) (f v a)) → Lent u (fold f ((lent u) w) xs) (fold f w xs)
  fold_lent f [] w l h = here w l
  fold_lent f (x ∷ xs) w l h = and_so (f ((lent u) w) x) (f w x) (λ v. fold f v xs) (h w x l) (λ r. fold_lent f xs (f w x) r h)

  pub replied : (w : World V) (who : ℕ) (word : Word) (answer : Answer) → IsLinkless w → Lent u (reply ((lent u) w) who word answer) (reply w who word answer)
  replied w who word answer l = record { same = refl; linkless = reply_linkless w who word answer l }

  pub reply_behind : (n w : World V) (who : ℕ) (word : Word) (answer : Answer) → Lent u n w → Lent u (reply n who word answer) (reply w who word answer)
  reply_behind n w who word answer a = and_so n w (λ v. reply v who word answer) a (λ l. replied w who word answer l)

  -- ---- effects

  take_thing_lent : (w : World V) (thing : Thing) (owner : ℕ) → IsLinkless w → Lent u (take_thing ((lent u) w) thing owner) (take_thing w thing owner)
  take_thing_lent w (things.Bundle name) owner l = record { same = refl; linkless = linkless_with w (take_thing w (things.Bundle name) owner) refl refl (λ h. h) (λ h. h) l }
  take_thing_lent w (things.End end) owner l = here w l
  take_thing_lent w (things.Listener link) owner l = here w l
  take_thing_lent w (things.Socket link) owner l = here w l
  take_thing_lent w (things.Value kind value) owner l = here w l

  thing_linkless : (w : World V) (number : ℕ) (x : Entry Thing) → IsLinkless w → entry_of w number ≡ Some x → is_linkless_thing x.thing ≡ true
  thing_linkless w number x l e = all_found is_linkless_entry (handles.is_entry number) w.handles.entries x l.things e

  pub move_lent : (w : World V) (number owner : ℕ) → IsLinkless w → Lent u (move ((lent u) w) number owner) (move w number owner)
  move_lent w number owner l =
      some_lent (entry_of w number) ((lent u) w) w
      (λ x. note (take_thing (record ((lent u) w) { handles = handles.renumber w.handles number x.thing owner }) x.thing owner) (Moved number (handles.next_number w.handles)))
      (λ x. note (take_thing (record w { handles = handles.renumber w.handles number x.thing owner }) x.thing owner) (Moved number (handles.next_number w.handles))) (here w l)
      (λ x e.
      let less : World V = record w { handles = handles.renumber w.handles number x.thing owner } in
      let moved : IsLinkless less = linkless_with w less refl refl
      (λ h. all_append is_linkless_entry (without (handles.is_entry number) w.handles.entries) (record { number = handles.next_number w.handles; thing = x.thing; owner = owner } ∷ []) (all_without is_linkless_entry (handles.is_entry number) w.handles.entries h) (and_from (is_linkless_thing x.thing) true (thing_linkless w number x l e) refl))
      (λ h. h) l in
      and_so (take_thing ((lent u) less) x.thing owner) (take_thing less x.thing owner) (λ v. note v (Moved number (handles.next_number w.handles))) (take_thing_lent less x.thing owner moved)
      (λ r. record { same = refl; linkless = note_linkless (take_thing less x.thing owner) (Moved number (handles.next_number w.handles)) r }))

  drop_lent : (w : World V) (thing : Thing) → is_linkless_thing thing ≡ true → IsLinkless w → Lent u (drop ((lent u) w) thing) (drop w thing)
  drop_lent w (things.Bundle name) e l = here w l
  drop_lent w (things.Value kind value) e l = here w l
  drop_lent w (things.End end) e l = record { same = refl; linkless = linkless_with w (drop w (things.End end)) refl refl (λ h. h) (λ h. h) l }
  drop_lent w (things.Listener link) e l = cc
  drop_lent w (things.Socket link) e l = cc

  pub release_lent : (w : World V) (number : ℕ) → IsLinkless w → Lent u (release ((lent u) w) number) (release w number)
  release_lent w number l =
      let less : World V = record w { handles = handles.retire w.handles number } in
      some_lent (entry_of w number) ((lent u) w) w (λ x. note (drop ((lent u) less) x.thing) (Freed number)) (λ x. note (drop less x.thing) (Freed number)) (here w l)
      (λ x e.
      and_so (drop ((lent u) less) x.thing) (drop less x.thing) (λ v. note v (Freed number)) (drop_lent less x.thing (thing_linkless w number x l e) (retire_linkless w number l))
      (λ r. record { same = refl; linkless = note_linkless (drop less x.thing) (Freed number) r }))

  freed : (w : World V) (x : Closing) → IsLinkless w → Lent u (free_bundle ((lent u) w) x) (free_bundle w x)
  freed w x l = record { same = refl; linkless = free_bundle_linkless w x l }

  -- ---- settling

  pub give_lent : (w : World V) (who : ℕ) (call : Call) (answer : Answer) → may_wait call ≡ true → IsLinkless w → Lent u (give ((lent u) w) who call answer) (give w who call answer)
  give_lent w who (calls.Msleep deadline) answer e l = replied w who words.Msleep answer l
  give_lent w who (calls.BundleWait number deadline) answer e l = replied w who words.BundleWait answer l
  give_lent w who (calls.Chsend number bytes deadline) answer e l = replied w who words.Chsend answer l
  give_lent w who (calls.Chrecv number size deadline) answer e l = replied w who words.Chrecv answer l
  give_lent w who (calls.Choose deadline all) answer e l = replied w who words.Choose answer l
  give_lent w who (calls.Hclose number) answer e l =
      reply_behind (if_some (find (is_dead_as number) w.closings) ((lent u) w) (free_bundle ((lent u) w))) (if_some (find (is_dead_as number) w.closings) w (free_bundle w)) who words.Hclose answer
      (some_lent (find (is_dead_as number) w.closings) ((lent u) w) w (free_bundle ((lent u) w)) (free_bundle w) (here w l) (λ x f. freed w x l))
  give_lent w who _ answer e l = cc

  give_first_lent : (w : World V) → IsLinkless w → Lent u (give_first ((lent u) w)) (give_first w)
  give_first_lent w l =
      let r = some_lent (first_some (answer_due w) w.coroutines) ((lent u) w) w (λ x. give ((lent u) w) x.0 x.1 x.2) (λ x. give w x.0 x.1 x.2) (here w l) (λ x e. give_lent w x.0 x.1 x.2 (first_waits w w.coroutines x l.calls e) l) in
      record { same = ap (λ o. if_some o ((lent u) w) (λ x. give ((lent u) w) x.0 x.1 x.2)) (first_same w w.coroutines w.links w.place u w.moment w.notes w.coroutines l.calls) ∙ r.same; linkless = r.linkless }

  keep_end_lent : (w : World V) (c : Coroutine V) → IsLinkless w → Lent u (keep_end ((lent u) w) c) (keep_end w c)
  keep_end_lent w c l =
      if_lent (c.number == 1) (from_start (record ((lent u) w) { ended = Some (outcome_of c.mode) })) ((lent u) w) (from_start (record w { ended = Some (outcome_of c.mode) })) w
      (record { same = refl; linkless = record { links = ap rested l.links; place = refl; things = l.things; calls = l.calls } }) (here w l)

  leave_lent : (w : World V) (c : Coroutine V) → IsLinkless w → Lent u (leave ((lent u) w) c) (leave w c)
  leave_lent w c l =
      let k = keep_end_lent w c l in
      record {
        same = ap (λ (v : World V). record v { coroutines = (leave w c).coroutines; scopes = (leave w c).scopes }) k.same;
        linkless = linkless_with (keep_end w c) (leave w c) refl refl (λ h. h) (λ h. all_without waits_linkless (is_coroutine c.number) w.coroutines l.calls) k.linkless;
      }

  finish_lent : (w : World V) (c : Coroutine V) → IsLinkless w → Lent u (finish ((lent u) w) c) (finish w c)
  finish_lent w c l =
      let free = free_all w c.number in
      let bare = release_all free c.number in
      and_so (release_all (free_all ((lent u) w) c.number) c.number) bare (λ v. leave v c)
      (and_so (free_all ((lent u) w) c.number) free (λ v. release_all v c.number)
      (fold_lent free_bundle (highest_first (filter (is_owned_by w c.number) w.closings)) w l (λ v x r. freed v x r))
      (λ r. fold_lent release (reverse (handles.numbers_of free.handles c.number)) free r (λ v n s. release_lent v n s)))
      (λ r. leave_lent bare c r)

  settle_one_lent : (w : World V) → IsLinkless w → Lent u (settle_one ((lent u) w)) (settle_one w)
  settle_one_lent w l = some_lent (find (can_finish w) w.coroutines) (give_first ((lent u) w)) (give_first w) (finish ((lent u) w)) (finish w) (give_first_lent w l) (λ c e. finish_lent w c l)

  within_lent : (n : ℕ) (w : World V) → IsLinkless w → Lent u (settle_within n ((lent u) w)) (settle_within n w)
  within_lent zero w l = here w l
  within_lent (suc n) w l = and_so (settle_one ((lent u) w)) (settle_one w) (settle_within n) (settle_one_lent w l) (λ r. within_lent n (settle_one w) r)

  pub settle_lent : (w : World V) → IsLinkless w → Lent u (settle ((lent u) w)) (settle w)
  settle_lent w l =
      let n = length w.coroutines in
      let within = settle_within n w in
      and_so (settle_within n ((lent u) w)) within pass_all (within_lent n w l)
      (λ r. record {
        same = pass_linkless ((lent u) within) (linkless_with within ((lent u) within) refl refl (λ h. h) (λ h. h) r) ∙ ap (lent u) (sym (pass_linkless within r));
        linkless = subst IsLinkless (sym (pass_linkless within r)) r;
      })

module _ {V : Type 0} where
  pub settle_one_linkless : (w : World V) → IsLinkless w → IsLinkless (settle_one w)
  settle_one_linkless w l = (settle_one_lent w.random w l).linkless

  pub settle_linkless : (w : World V) → IsLinkless w → IsLinkless (settle w)
  settle_linkless w l = (settle_lent w.random w l).linkless
