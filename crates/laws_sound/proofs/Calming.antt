-- After each step that settles nothing is due, and all are at rest.
use Rattle.std.proofs.Common.{◌≡◌, ◌∙◌, ℕ, ◌-◌, List, [], ◌∷◌, length, map, find, fold, Bool, true, false, ◌&&◌, cond, Option, Some, None, refl, ap, subst}
use Rattle.std.specs.Prelude.{max}
use Rattle.std.specs.List.{list_all}
use Rattle.std.specs.Option.{option_or}
use Rattle.rand_core.specs.Stream.{Stream}
use Rattle.dill_calls.specs.declared.ran.LackPlace.{LackPlace}
use Rattle.dill_calls.specs.declared.ran.Note.{Note}
use Rattle.dill_calls.specs.Program.{Program, IsLawful}
use Rattle.dill_kernel.specs.declared.ready.Ready.{Ready}
use Rattle.dill_base.specs.Maps.{if_some, first_some}
use Rattle.dill_rules.specs.declared.coroutine.Coroutine.{Coroutine}
use Rattle.dill_rules.specs.Answers.{answer_of}
use Rattle.dill_rules.specs.Expiring.{passed}
use Rattle.dill_rules.specs.Hearing.{heat_ready}
use Rattle.dill_rules.specs.Links.{Links, rested}
use Rattle.dill_rules.specs.Settling.{can_finish, is_clear, answer_due, settle, IsSettled}
use Rattle.dill_rules.specs.State.{lined}
use Rattle.dill_rules.specs.Turning.{go_on, move_of, answer_given}
use Rattle.dill_rules.specs.World.{World, Place, at_start, begin}
use Rattle.laws_queue.specs.Kept.{Kept, queued, turn_first, kept_turn, kept_expire_next, kept_late, kept_expired, kept_shut, kept_woke, root_closed}
use Rattle.laws_queue.specs.Laws.{KeepsWell}
use Rattle.laws_sound.specs.Linkless.{MovesLinkless, MakesLinkless, waits_linkless, IsLinkless}
use Rattle.laws_queue.specs.Well.{Numbered, IsWell}
use Rattle.laws_queue.proofs.Keeping.{steps_keep_well}
use Rattle.laws_sound.proofs.Linkless.{begin_linkless}
use Rattle.laws_sound.proofs.Apart.{linkless_apart, settles_apart}
use Rattle.laws_sound.proofs.LinklessLaws.{steps_keep_linkless}
use Rattle.laws_sound.proofs.Steps.{settle_linkless}
use Rattle.laws_sound.proofs.Turns.{closed_linkless, go_on_linkless}
use Rattle.laws_sound.specs.Laws.{StepsKeepSettled}
use Rattle.laws_sound.specs.Orderly.{IsOrderly}
use Rattle.laws_sound.proofs.Settles.{changed, first_same}
use Rattle.laws_sound.proofs.Calling.{go_on_goes, turn_is}
use Rattle.laws_sound.proofs.Leaving.{lined_ends}
use Rattle.laws_queue.proofs.Lining.{lined_pending}

module _ {V : Type 0} where
  -- a place in the queue makes nothing due
  lined_finish : (w : World V) (cs : List (Coroutine V)) → find (can_finish w) cs ≡ None → find (can_finish w) (map lined cs) ≡ None
  lined_finish w [] e = refl
  lined_finish w (c ∷ cs) e = at (can_finish w c) (ap (λ b. b && is_clear w c.number) (lined_ends c.mode)) e (lined_finish w cs)
    where
      at : (b : Bool) → can_finish w (lined c) ≡ b → cond b (Some c) (find (can_finish w) cs) ≡ None → (find (can_finish w) cs ≡ None → find (can_finish w) (map lined cs) ≡ None) → find (can_finish w) (map lined (c ∷ cs)) ≡ None
      at true g h rest = cc
      at false g h rest = ap (λ b. cond b (Some (lined c)) (find (can_finish w) (map lined cs))) g ∙ rest h

  lined_due : (w : World V) (cs : List (Coroutine V)) → first_some (answer_due w) (map lined cs) ≡ first_some (answer_due w) cs
  lined_due w [] = refl
  lined_due w (c ∷ cs) =
      ap (λ o. option_or (if_some o None (λ call. if_some (answer_of w c.number call) None (λ a. Some (c.number, call, a)))) (first_some (answer_due w) (map lined cs))) (lined_pending c.mode)
      ∙ ap (λ o. option_or (answer_due w c) o) (lined_due w cs)

  settled_lined : (w : World V) → IsLinkless w → IsSettled w → IsSettled (record w { coroutines = map lined w.coroutines })
  settled_lined w linkless s = record {
    endings = lined_finish w w.coroutines s.endings;
    answers = lined_due (record w { coroutines = map lined w.coroutines }) w.coroutines ∙ first_same w (map lined w.coroutines) w.links w.place w.random w.moment w.notes w.coroutines linkless.calls ∙ s.answers;
  }

  settled_anyway : (w : World V) (l : Links) (place : Place) (random : Stream) (moment : ℕ) (notes : List Note) → list_all waits_linkless w.coroutines ≡ true → IsSettled w → IsSettled (changed w w.coroutines l place random moment notes)
  settled_anyway w l place random moment notes calls s = record {
    endings = s.endings;
    answers = first_same w w.coroutines l place random moment notes w.coroutines calls ∙ s.answers;
  }

  -- what settles
  queued_settled : (w : World V) (ready : List ℕ) (early : ℕ) → IsLinkless w → Numbered 0 w.coroutines w.last_coroutine → IsSettled (queued (settle w) ready early).world
  queued_settled w ready early linkless n = settled_lined (settle w) (settle_linkless w linkless) (settles_apart V w (linkless_apart w linkless) n)

  pub begin_settled : (w : World V) → list_all waits_linkless w.coroutines ≡ true → IsSettled w → IsSettled (begin w)
  begin_settled w calls s = settled_anyway w w.links w.place w.random w.moment [] calls s

  heated_settled : (ready : List Ready) (w : World V) → list_all waits_linkless w.coroutines ≡ true → IsSettled w → (list_all waits_linkless (fold heat_ready w ready).coroutines ≡ true) × IsSettled (fold heat_ready w ready)
  heated_settled [] w calls s = (calls, s)
  heated_settled (x ∷ xs) w calls s = heated_settled xs (heat_ready w x) calls (settled_anyway w (heat_ready w x).links w.place w.random w.moment w.notes calls s)

  woke_settled : (k : Kept V) (told : ℕ) (ready : List Ready) → list_all waits_linkless k.world.coroutines ≡ true → IsSettled k.world → IsSettled (kept_woke k told ready).world
  woke_settled k told ready calls s =
      let heated = fold heat_ready (begin k.world) ready in
      let h = heated_settled ready (begin k.world) calls (begin_settled k.world calls s) in
      settled_anyway heated (rested heated.links) at_start heated.random (max k.world.moment told) heated.notes h.0 h.1

module _ {V : Type 0} (p : Program V) (law : IsLawful p) (unlinked : MakesLinkless p) where
  well : KeepsWell p
  well = steps_keep_well p law

  turned : (k : Kept V) (lack : Option LackPlace) → IsWell p k → IsLinkless k.world → IsOrderly k.world → IsSettled k.world → IsSettled (kept_turn p lack k).world
  turned k lack w linkless o s = at k.ready refl
    where
      at : (ready : List ℕ) → k.ready ≡ ready → IsSettled (turn_first p lack k ready).world
      at [] e = s
      at (who ∷ rest) e =
          let m = well.first k who rest w e in
          let c = m.one in
          let moves : MovesLinkless (move_of p k.world who c.body) = unlinked c.body (answer_given k.world who).1 m.real m.some in
          let order = (go_on_goes p lack k.world who c o m.found m.answered).good.order in
          subst (λ v. IsSettled (queued v rest (k.early - 1)).world) (turn_is p lack k.world who c m.found)
          (queued_settled (go_on p lack (begin k.world) who c.body) rest (k.early - 1) (go_on_linkless p lack (begin k.world) who c.body moves (begin_linkless k.world linkless)) order.fits.numbered)

  settled : (k : Kept V) → IsWell p k → IsLinkless k.world → IsSettled (queued (settle k.world) k.ready k.early).world
  settled k w linkless = queued_settled k.world k.ready k.early linkless w.numbered

  expire_all : (xs : List ℕ) (k : Kept V) → IsWell p k → IsLinkless k.world → IsWell p (fold kept_expire_next k xs) × IsLinkless (fold kept_expire_next k xs).world
  expire_all [] k w linkless = (w, linkless)
  expire_all (x ∷ xs) k w linkless = expire_all xs (kept_expire_next k x) (well.expires k x w) ((steps_keep_linkless p law unlinked).expires k x linkless)

  expired : (k : Kept V) → IsWell p k → IsLinkless k.world → IsSettled (kept_expired k).world
  expired k w linkless = let late = expire_all (passed k.world) (record k { world = begin k.world }) (well.started k w) (begin_linkless k.world linkless) in settled (kept_late k) late.0 late.1

  shut : (k : Kept V) → IsWell p k → IsLinkless k.world → IsSettled (kept_shut k).world
  shut k w linkless = queued_settled (root_closed k.world) k.ready (length k.ready) (closed_linkless k.world linkless) w.numbered

pub steps_keep_settled : {V : Type 0} (p : Program V) → StepsKeepSettled p
steps_keep_settled p law unlinked = record {
  opening = λ view. record { endings = refl; answers = refl };
  turned = turned p law unlinked;
  started = λ k linkless s. begin_settled k.world linkless.calls s;
  settled = settled p law unlinked;
  expired = expired p law unlinked;
  shut = shut p law unlinked;
  woke = λ k told ready linkless s. woke_settled k told ready linkless.calls s;
}
