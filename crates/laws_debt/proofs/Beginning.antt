-- A turn in which the closing of a bundle begins answers nobody before it settles.
use Rattle.std.proofs.Common.{◌≡◌, ◌∙◌, ◌+◌, ℕ, List, [], ◌∷◌, find, Bool, true, false, ◌&&◌, Option, Some, None, if◌then◌else◌, refl, sym, ap, subst}
use Rattle.std.specs.List.{AllByRecursion}
use Rattle.dill_base.specs.declared.errno.Errno.{Errno}
use Rattle.dill_base.specs.declared.errno.Errno.TheVariants as errnos
use Rattle.dill_calls.specs.declared.answer.Answer.TheVariants.{Fault}
use Rattle.dill_calls.specs.declared.call.Call.{Call}
use Rattle.dill_calls.specs.declared.call.Call.TheVariants as calls
use Rattle.dill_calls.specs.declared.ran.LackPlace.{LackPlace}
use Rattle.dill_calls.specs.CallTable.{word_of, build_takes_memory, takes_memory}
use Rattle.dill_calls.specs.Program.{Program, Move, Calls, Ends}
use Rattle.dill_handles.specs.declared.entry.Entry.{Entry}
use Rattle.dill_scope.specs.declared.forest.Bundle.{Bundle}
use Rattle.dill_scope.specs.Scopes as scopes
use Rattle.dill_scope.specs.Scopes.{Scopes, is_bundle}
use Rattle.dill_scope.specs.Keeping.{IsOrderedForest}
use Rattle.dill_base.specs.Maps.{if_some, change}
use Rattle.dill_calls.specs.declared.word.Word.TheVariants as words
use Rattle.dill_rules.specs.declared.coroutine.Coroutine.{Coroutine}
use Rattle.dill_rules.specs.declared.coroutine.Mode.{Mode}
use Rattle.dill_rules.specs.declared.coroutine.Mode.TheVariants as modes
use Rattle.dill_rules.specs.declared.thing.Thing.{Thing}
use Rattle.dill_rules.specs.declared.thing.Thing.TheVariants as things
use Rattle.dill_rules.specs.World.{World, is_coroutine, coroutine_of, call_of, with_mode, reply, pend, pending_call}
use Rattle.dill_rules.specs.Owning.{entry_of, release, close_bundle}
use Rattle.dill_rules.specs.Refusals.{refuse}
use Rattle.dill_rules.specs.Effects.{close_thing}
use Rattle.dill_rules.specs.Entering.{entered, keep_for, is_too_late, late_answer, meet_deadline, done, enter, lack_fault}
use Rattle.dill_rules.specs.Settling.{close_all, end, settle}
use Rattle.dill_rules.specs.State.{is_fresh}
use Rattle.dill_rules.specs.Turning.{is_build, is_entry, as_running, may_lack_build, resume, answer_given, move_of, make_move, lack_move, go_on}
use Rattle.laws_queue.proofs.Crew.{close_all_crew}
use Rattle.laws_sound.specs.Laws.{is_closing}
use Rattle.laws_debt.proofs.Flagging.{all_picked}
use Rattle.laws_queue.proofs.Lists.{all_append, all_without, all_to}
use Rattle.laws_debt.proofs.Tracking.{all_by_key}
use Rattle.laws_queue.proofs.Numbers.{found_changed}
use Rattle.laws_debt.proofs.Lasting.{Parts, Lasting, release_lasts, meet_lasts, enter_lasts, settle_lasts}
use Rattle.laws_debt.proofs.Shutting.{all_units}

-- if it is closing it was before
abbrev pub OldFlag : Scopes → Bundle → Type 0
OldFlag s y = y.closing ≡ true → is_closing s y.name ≡ true

abbrev pub NoAnswer : {V : Type 0} → Coroutine V → Type 0
NoAnswer c = is_fresh c.mode ≡ false

-- no closing has begun, or nobody was answered
pub data Begun {V : Type 0} (s : Scopes) (v : World V) : Type 0 where
  same : AllByRecursion (OldFlag s) v.scopes.bundles → Begun s v
  none : AllByRecursion NoAnswer v.coroutines → Begun s v

pub old_flags : (s : Scopes) → IsOrderedForest s → AllByRecursion (OldFlag s) s.bundles
old_flags s f = all_to (λ y. find (is_bundle y.name) s.bundles ≡ Some y) (OldFlag s) s.bundles (λ y e c. ap (λ o. if_some o false (λ (x : Bundle). x.closing)) e ∙ c) (all_by_key (λ (y : Bundle). y.name) s.bundles f.ordered.bundles)

module _ (s : Scopes) where
  abbrev FlagsIn : Parts → Type 0
  FlagsIn p = AllByRecursion (OldFlag s) p.scopes.bundles

  -- they last over all but a closing
  flags_last : Lasting (λ last x. Unit {0}) ⊥ FlagsIn
  flags_last = record {
    known = λ p h. all_units p.entries;
    takes = λ p name owner h. all_picked (OldFlag s) (OldFlag s) (is_bundle name) (scopes.with_owner owner) p.scopes.bundles (λ y i f. f) (λ y f. f) h;
    owns = λ p number owner h. h;
    makes = λ p thing owner e h. h;
    moves = λ p number owner x k h. h;
    closes = λ c p owner name number x e f k h. absurd c;
    bundles = λ p who h. all_append (OldFlag s) p.scopes.bundles (record { name = p.last_bundle + 1; owner = Some who; closing = false } ∷ []) h ((λ e. cc), tt);
    bears = λ p home who h. h;
    clears = record { retires = λ p number h. h; frees = λ p x h. all_without (OldFlag s) (is_bundle x.bundle) p.scopes.bundles h; ends = λ p who h. h };
  }

module _ {V : Type 0} (s : Scopes) where
  abbrev Flags : World V → Type 0
  Flags v = AllByRecursion (OldFlag s) v.scopes.bundles

  pub settle_flags : (v : World V) → Flags v → Flags (settle v)
  settle_flags v h = settle_lasts (FlagsIn s) (λ last x. Unit {0}) ⊥ (flags_last s) v h

  meet_flags : (v : World V) (who : ℕ) → Flags v → Flags (meet_deadline v who)
  meet_flags v who h = meet_lasts (FlagsIn s) v who h

  release_flags : (v : World V) (number : ℕ) → Flags v → Flags (release v number)
  release_flags v number h = release_lasts (FlagsIn s) (flags_last s).clears v number h

  -- who stands so had no answer
  stands_so : (who : ℕ) (mode : Mode) (cs : List (Coroutine V)) → is_fresh mode ≡ false → AllByRecursion NoAnswer cs → AllByRecursion NoAnswer (change (is_coroutine who) (with_mode mode) cs)
  stands_so who mode cs e a = all_picked NoAnswer NoAnswer (is_coroutine who) (with_mode mode) cs (λ c i f. e) (λ c f. f) a

  pends_on : (v : World V) (who number : ℕ) (c : Coroutine V) → coroutine_of v who ≡ Some c → AllByRecursion NoAnswer v.coroutines → AllByRecursion NoAnswer (meet_deadline (pend v who (calls.Hclose number)) who).coroutines
  pends_on v who number c e a =
      let there : call_of (pend v who (calls.Hclose number)) who ≡ Some (calls.Hclose number) = ap (λ o. if_some o None (λ d. pending_call d.mode)) (found_changed (is_coroutine who) (with_mode (modes.Pending (calls.Hclose number))) c v.coroutines (λ d. refl) e) in
      let after = pend v who (calls.Hclose number) in
      let is : meet_deadline after who ≡ after = ap (λ o. if_some o after (λ call. if is_too_late after who call then reply after who (word_of call) (late_answer call) else after)) there in
      subst (λ (u : World V). AllByRecursion NoAnswer u.coroutines) (sym is) (stands_so who (modes.Pending (calls.Hclose number)) v.coroutines refl a)

  closes_begun : (v : World V) (who number : ℕ) (thing : Thing) (c : Coroutine V) → coroutine_of v who ≡ Some c → AllByRecursion NoAnswer v.coroutines → Flags v → Begun s (meet_deadline (close_thing v who number thing) who)
  closes_begun v who number (things.Bundle name) c e a h = none (pends_on (close_bundle v who name number) who number c e a)
  closes_begun v who number (things.End end) c e a h = same (meet_flags (close_thing v who number (things.End end)) who (release_flags v number h))
  closes_begun v who number (things.Listener link) c e a h = same (meet_flags (close_thing v who number (things.Listener link)) who (release_flags v number h))
  closes_begun v who number (things.Socket link) c e a h = same (meet_flags (close_thing v who number (things.Socket link)) who (release_flags v number h))
  closes_begun v who number (things.Value kind value) c e a h = same (meet_flags (close_thing v who number (things.Value kind value)) who (release_flags v number h))

  close_begun : (w k : World V) (who number : ℕ) (c : Coroutine V) → k.coroutines ≡ w.coroutines → coroutine_of w who ≡ Some c → AllByRecursion NoAnswer w.coroutines → Flags k → (o : Option (Entry Thing)) → Begun s (meet_deadline (if_some o k (λ x. close_thing k who number x.thing)) who)
  close_begun w k who number c e f a h None = same (meet_flags k who h)
  close_begun w k who number c e f a h (Some x) = closes_begun k who number x.thing c (ap (find (is_coroutine who)) e ∙ f) (subst (AllByRecursion NoAnswer) (sym e) a) h

  enter_begun : (p : Program V) (lacks : Bool) (w : World V) (who : ℕ) (view : V) (call : Call) (c : Coroutine V) → coroutine_of w who ≡ Some c → AllByRecursion NoAnswer w.coroutines → Flags w → Begun s (enter p lacks w who view call)
  enter_begun p lacks w who view (calls.Hclose number) c f a h = at (refuse p w who view (calls.Hclose number))
    where
      k : World V
      k = keep_for w (calls.Hclose number)

      lack : (b : Bool) → Begun s (if b then reply w who words.Hclose (Fault errnos.Enomem) else done p w who view (calls.Hclose number))
      lack true = same h
      lack false = close_begun w k who number c refl f a h (entry_of k number)

      at : (o : Option Errno) → Begun s (if_some o (if lacks && takes_memory words.Hclose then reply w who words.Hclose (Fault errnos.Enomem) else done p w who view (calls.Hclose number)) (λ g. reply w who words.Hclose (Fault g)))
      at None = lack (lacks && takes_memory words.Hclose)
      at (Some g) = same h
  enter_begun p lacks w who view call c f a h = same (enter_lasts (FlagsIn s) (λ last x. Unit {0}) ⊥ (flags_last s) p lacks w who view call (λ e. cc) h)

  end_begun : (w : World V) (who : ℕ) (outcome : Option Errno) → AllByRecursion NoAnswer w.coroutines → Begun s (end w who outcome)
  end_begun w who outcome a = none (stands_so who (modes.Ending outcome) (close_all w who).coroutines refl (subst (AllByRecursion NoAnswer) (sym (close_all_crew w who).coroutines) a))

  runs_so : (who : ℕ) (view : V) (cs : List (Coroutine V)) → AllByRecursion NoAnswer cs → AllByRecursion NoAnswer (change (is_coroutine who) (as_running view) cs)
  runs_so who view cs a = all_picked NoAnswer NoAnswer (is_coroutine who) (as_running view) cs (λ c i f. refl) (λ c f. f) a

  from_move : (p : Program V) (lack : Option LackPlace) (w : World V) (who : ℕ) (c : Coroutine V) (short : V) (next : V × Move) → coroutine_of w who ≡ Some c → AllByRecursion NoAnswer w.coroutines → Flags w → Begun s (if is_build lack && may_lack_build next.1 then lack_move (resume w who short) who next.1 else make_move p (is_entry lack) (resume w who next.0) who next.0 next.1)
  from_move p lack w who c short (new, Calls call) e a h = at (is_build lack && build_takes_memory (word_of call))
    where
      at : (b : Bool) → Begun s (if b then reply (resume w who short) who (word_of call) (Fault (lack_fault (resume w who short) who (word_of call))) else make_move p (is_entry lack) (resume w who new) who new (Calls call))
      at true = same h
      at false = enter_begun p (is_entry lack) (resume w who new) who new (entered w.moment call) (as_running new c) (found_changed (is_coroutine who) (as_running new) c w.coroutines (λ d. refl) e) (runs_so who new w.coroutines a) h
  from_move p lack w who c short (new, Ends outcome) e a h = at (is_build lack)
    where
      over : Begun s (end (resume w who new) who outcome)
      over = end_begun (resume w who new) who outcome (runs_so who new w.coroutines a)

      at : (b : Bool) → Begun s (if b && false then resume w who short else make_move p (is_entry lack) (resume w who new) who new (Ends outcome))
      at true = over
      at false = over

  pub go_on_begun : (p : Program V) (lack : Option LackPlace) (w : World V) (who : ℕ) (c : Coroutine V) → coroutine_of w who ≡ Some c → AllByRecursion NoAnswer w.coroutines → Flags w → Begun s (go_on p lack w who c.body)
  go_on_begun p lack w who c e a h = from_move p lack w who c (p.short c.body (answer_given w who).1) (move_of p w who c.body) e a h
