-- What keeps a world without links.
use Rattle.std.proofs.Common.{◌≡◌, ◌∙◌, ◌+◌, ℕ, List, [], ◌∷◌, true, refl}
use Rattle.std.proofs.lemmas.Bool.{and_from}
use Rattle.std.specs.List.{list_all}
use Rattle.dill_calls.specs.declared.answer.Answer.{Answer}
use Rattle.dill_calls.specs.declared.answer.Answer.TheVariants.{Number}
use Rattle.dill_calls.specs.declared.call.Call.{Call}
use Rattle.dill_calls.specs.declared.ran.Note.{Note}
use Rattle.dill_calls.specs.declared.word.Word.{Word}
use Rattle.dill_calls.specs.declared.word.Word.TheVariants as words
use Rattle.dill_handles.specs.Handles as handles
use Rattle.dill_base.specs.Maps.{if_some, change}
use Rattle.dill_rules.specs.declared.coroutine.Closing.{Closing}
use Rattle.dill_rules.specs.declared.coroutine.Coroutine.{Coroutine}
use Rattle.dill_rules.specs.declared.coroutine.Mode.{Mode}
use Rattle.dill_rules.specs.declared.coroutine.Mode.TheVariants as modes
use Rattle.dill_rules.specs.declared.thing.Thing.{Thing}
use Rattle.dill_rules.specs.declared.thing.Thing.TheVariants as things
use Rattle.dill_rules.specs.World.{World, is_coroutine, set_mode, with_mode, reply, pend, note, begin, pending_call}
use Rattle.dill_rules.specs.Owning.{close_bundle, free_bundle}
use Rattle.dill_rules.specs.Effects.{make, add_bundle, bear}
use Rattle.laws_sound.specs.Linkless.{may_wait, waits_linkless, is_linkless_thing, is_linkless_entry, IsLinkless}
use Rattle.laws_sound.proofs.Lists.{all_append, all_without, all_change}

module _ {V : Type 0} where
  -- a step that touches no links
  pub linkless_with : (w v : World V) → v.links ≡ w.links → v.place ≡ w.place → (list_all is_linkless_entry w.handles.entries ≡ true → list_all is_linkless_entry v.handles.entries ≡ true) → (list_all waits_linkless w.coroutines ≡ true → list_all waits_linkless v.coroutines ≡ true) → IsLinkless w → IsLinkless v
  linkless_with w v l p t m linkless = record {
    links = l ∙ linkless.links;
    place = p ∙ linkless.place;
    things = t linkless.things;
    calls = m linkless.calls;
  }

  modes_linkless : (who : ℕ) (mode : Mode) (cs : List (Coroutine V)) → if_some (pending_call mode) true may_wait ≡ true → list_all waits_linkless cs ≡ true → list_all waits_linkless (change (is_coroutine who) (with_mode mode) cs) ≡ true
  modes_linkless who mode cs e h = all_change waits_linkless (is_coroutine who) (with_mode mode) cs (λ c d. e) h

  pub set_mode_linkless : (w : World V) (who : ℕ) (mode : Mode) → if_some (pending_call mode) true may_wait ≡ true → IsLinkless w → IsLinkless (set_mode w who mode)
  set_mode_linkless w who mode e linkless = linkless_with w (set_mode w who mode) refl refl (λ h. h) (modes_linkless who mode w.coroutines e) linkless

  pub reply_linkless : (w : World V) (who : ℕ) (word : Word) (answer : Answer) → IsLinkless w → IsLinkless (reply w who word answer)
  reply_linkless w who word answer linkless = record {
    links = linkless.links;
    place = linkless.place;
    things = linkless.things;
    calls = modes_linkless who (modes.Fresh word answer) w.coroutines refl linkless.calls;
  }

  pub pend_linkless : (w : World V) (who : ℕ) (call : Call) → may_wait call ≡ true → IsLinkless w → IsLinkless (pend w who call)
  pend_linkless w who call e linkless = set_mode_linkless w who (modes.Pending call) e linkless

  pub note_linkless : (w : World V) (one : Note) → IsLinkless w → IsLinkless (note w one)
  note_linkless w one linkless = linkless_with w (note w one) refl refl (λ h. h) (λ h. h) linkless

  pub begin_linkless : (w : World V) → IsLinkless w → IsLinkless (begin w)
  begin_linkless w linkless = linkless_with w (begin w) refl refl (λ h. h) (λ h. h) linkless

  pub make_linkless : (w : World V) (thing : Thing) (owner : ℕ) → is_linkless_thing thing ≡ true → IsLinkless w → IsLinkless (make w thing owner)
  make_linkless w thing owner e linkless =
      linkless_with w (make w thing owner) refl refl (λ h. all_append is_linkless_entry w.handles.entries (record { number = handles.next_number w.handles; thing = thing; owner = owner } ∷ []) h (and_from (is_linkless_thing thing) true e refl)) (λ h. h) linkless

  pub add_bundle_linkless : (w : World V) (who : ℕ) → IsLinkless w → IsLinkless (add_bundle w who)
  add_bundle_linkless w who linkless =
      let made = make_linkless w (things.Bundle (w.last_bundle + 1)) who refl linkless in
      linkless_with (make w (things.Bundle (w.last_bundle + 1)) who) (add_bundle w who) refl refl (λ h. h) (λ h. h) made

  pub retire_linkless : (w : World V) (number : ℕ) → IsLinkless w → IsLinkless (record w { handles = handles.retire w.handles number })
  retire_linkless w number linkless = linkless_with w (record w { handles = handles.retire w.handles number }) refl refl (all_without is_linkless_entry (handles.is_entry number) w.handles.entries) (λ h. h) linkless

  pub close_bundle_linkless : (w : World V) (owner name number : ℕ) → IsLinkless w → IsLinkless (close_bundle w owner name number)
  close_bundle_linkless w owner name number linkless =
      let less : World V = record w { handles = handles.retire w.handles number } in
      linkless_with less (close_bundle w owner name number) refl refl (λ h. h) (λ h. h) (retire_linkless w number linkless)

  pub free_bundle_linkless : (w : World V) (x : Closing) → IsLinkless w → IsLinkless (free_bundle w x)
  free_bundle_linkless w x linkless = linkless_with w (free_bundle w x) refl refl (λ h. h) (λ h. h) linkless

  pub bear_linkless : (w : World V) (view : V) (home : ℕ) → IsLinkless w → IsLinkless (bear w view home)
  bear_linkless w view home linkless =
      linkless_with w (bear w view home) refl refl (λ h. h) (λ h. all_append waits_linkless w.coroutines (record { number = w.last_coroutine + 1; body = view; mode = modes.Fresh words.Start (Number 0) } ∷ []) h refl) linkless
