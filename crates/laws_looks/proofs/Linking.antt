-- Each step leaves as many links kept as pending calls that make a link have none.
use Rattle.std.proofs.Common.{◌≡◌, ◌∙◌, ℕ, ◌-◌, ◌≤◌, List, [], ◌∷◌, length, fold, false, Option, Some, None, if◌then◌else◌, refl, sym, ap, subst, arith}
use Rattle.dill_base.specs.Maps.{if_some}
use Rattle.dill_calls.specs.declared.ran.LackPlace.{LackPlace}
use Rattle.dill_calls.specs.Program.{Program, IsLawful}
use Rattle.dill_kernel.specs.declared.ready.Ready.{Ready}
use Rattle.dill_kernel.specs.declared.replies.KernelReply.{KernelReply}
use Rattle.dill_rules.specs.World.{World, begin}
use Rattle.dill_rules.specs.Expiring.{passed, expire_one}
use Rattle.dill_rules.specs.Hearing.{heard, heat_ready}
use Rattle.dill_rules.specs.Naming.{links}
use Rattle.dill_rules.specs.Settling.{settle}
use Rattle.dill_rules.specs.State.{lined}
use Rattle.dill_rules.specs.Trying.{Try, next_try}
use Rattle.dill_rules.specs.Turning.{go_on}
use Rattle.dill_calls.specs.CallTable.{word_of}
use Rattle.laws_queue.specs.Kept.{Kept, queued, turn_first, kept_turn, kept_expire_next, kept_late, kept_hear, root_closed, kept_woke}
use Rattle.laws_queue.specs.Well.{bit, IsWell}
use Rattle.laws_queue.proofs.Besides.{heat_all_besides}
use Rattle.laws_queue.proofs.Keeping.{steps_keep_well}
use Rattle.laws_queue.proofs.Lining.{lined_pending, numbered_lined}
use Rattle.laws_sound.specs.Orderly.{IsOrderly}
use Rattle.laws_sound.proofs.Calling.{turn_is}
use Rattle.laws_sound.proofs.Counting.{weigh_alike}
use Rattle.laws_sound.proofs.Crews.{map_at}
use Rattle.laws_looks.specs.Readers.{LooksApart}
use Rattle.laws_looks.specs.Keeping.{connects_for, is_connect, connects, awaits, KeepsLinks, StepsCountLinks}
use Rattle.laws_looks.proofs.Stays.{Soft, heat_all_stays, soft_same, soft_rested}
use Rattle.laws_looks.proofs.Fewer.{fewer_lined, fewer_apart}
use Rattle.laws_looks.proofs.Counted.{Lasts, soft_lasts, settle_lasts, expire_lasts}
use Rattle.laws_looks.proofs.Asked.{heard_lasts}
use Rattle.laws_looks.proofs.Counting.{go_on_lasts}

module _ {V : Type 0} where
  lined_lasts : (w : World V) (ready : List ℕ) (early : ℕ) → Lasts w → Lasts (queued w ready early).world
  lined_lasts w ready early l = record {
    numbered = numbered_lined w.coroutines 0 w.last_coroutine l.numbered;
    apart = fewer_apart w (queued w ready early).world (fewer_lined w) l.apart;
    keeps = record {
      kept = weigh_alike (awaits w.links) lined w.coroutines (λ c. ap (λ o. if_some o 0 (λ call. if links (word_of call) then 1 - connects_for w.links c.number else 0)) (lined_pending c.mode)) ∙ l.keeps.kept;
      once = λ who. subst (λ b. connects_for w.links who ≤ bit b) (sym (map_at lined (λ c. refl) connects (λ c. ap (λ o. if_some o false (λ call. is_connect (word_of call))) (lined_pending c.mode)) w.coroutines who)) (l.keeps.once who);
    };
  }

  same_lasts : (w v : World V) → v.coroutines ≡ w.coroutines → v.last_coroutine ≡ w.last_coroutine → v.handles.entries ≡ w.handles.entries → v.links ≡ w.links → Lasts w → Lasts v
  same_lasts w v e f h s l = soft_lasts w v e f h (subst (λ m. Soft w.links m) (sym s) (soft_same w.links)) l

  begun_lasts : (w : World V) → Lasts w → Lasts (begin w)
  begun_lasts w l = same_lasts w (begin w) refl refl refl refl l

  expires_lasts : (k : Kept V) (who : ℕ) → Lasts k.world → Lasts (kept_expire_next k who).world
  expires_lasts k who l = lined_lasts (expire_one k.world who) k.ready k.early (expire_lasts k.world who l)

  late_lasts : (xs : List ℕ) (k : Kept V) → Lasts k.world → Lasts (fold kept_expire_next k xs).world
  late_lasts [] k l = l
  late_lasts (x ∷ xs) k l = late_lasts xs (kept_expire_next k x) (expires_lasts k x l)

  settled_lasts : (w : World V) (ready : List ℕ) (early : ℕ) → Lasts w → Lasts (queued (settle w) ready early).world
  settled_lasts w ready early l = lined_lasts (settle w) ready early (settle_lasts w l)

  hears_lasts : (k : Kept V) (said : Option KernelReply) → Lasts k.world → Lasts (kept_hear k said).world
  hears_lasts k said l = at (next_try k.world) refl
    where
      at : (o : Option Try) → next_try k.world ≡ o → Lasts (if_some o k (λ x. queued (settle (heard (begin k.world) x said)) k.ready k.early)).world
      at None e = l
      at (Some x) e = settled_lasts (heard (begin k.world) x said) k.ready k.early (heard_lasts (begin k.world) x said e (begun_lasts k.world l))

  woke_lasts : (k : Kept V) (told : ℕ) (ready : List Ready) → Lasts k.world → Lasts (kept_woke k told ready).world
  woke_lasts k told ready l =
      let b = begin k.world in
      let v = fold heat_ready b ready in
      let s = heat_all_besides ready b in
      soft_lasts v (kept_woke k told ready).world refl refl refl (soft_rested v.links)
      (soft_lasts b v (ap (λ (x : World V). x.coroutines) s.same) (ap (λ (x : World V). x.last_coroutine) s.same) (ap (λ (x : World V). x.handles.entries) s.same) (heat_all_stays ready b) (begun_lasts k.world l))

  turned_lasts : (p : Program V) → IsLawful p → (k : Kept V) (lack : Option LackPlace) → IsWell p k → IsOrderly k.world → Lasts k.world → Lasts (kept_turn p lack k).world
  turned_lasts p law k lack well g l = at k.ready refl
    where
      at : (ready : List ℕ) → k.ready ≡ ready → Lasts (turn_first p lack k ready).world
      at [] e = l
      at (who ∷ rest) e =
          let m = (steps_keep_well p law).first k who rest well e in
          let moved = go_on p lack (begin k.world) who m.one.body in
          subst (λ v. Lasts (queued v rest (k.early - 1)).world) (turn_is p lack k.world who m.one m.found) (settled_lasts moved rest (k.early - 1) (go_on_lasts p lack k.world who m.one m.found m.answered g l))

  lasts : (p : Program V) (k : Kept V) → IsWell p k → LooksApart k.world → KeepsLinks k.world → Lasts k.world
  lasts p k well a c = record { numbered = well.numbered; apart = a; keeps = c }

pub steps_count_links : {V : Type 0} (p : Program V) → StepsCountLinks p
steps_count_links p law = record {
  opening = λ view. record { kept = refl; once = λ who. omega arith };
  turned = λ k lack well g a c. (turned_lasts p law k lack well g (lasts p k well a c)).keeps;
  hears = λ k said well a c. (hears_lasts k said (lasts p k well a c)).keeps;
  started = λ k c. record { kept = c.kept; once = c.once };
  expires = λ k who well a c. (expires_lasts k who (lasts p k well a c)).keeps;
  settled = λ k well a c. (settled_lasts k.world k.ready k.early (lasts p k well a c)).keeps;
  expired = λ k well a c. let l = late_lasts (passed k.world) (record k { world = begin k.world }) (begun_lasts k.world (lasts p k well a c)) in (settled_lasts (kept_late k).world (kept_late k).ready (kept_late k).early l).keeps;
  shut = λ k well a c. (settled_lasts (root_closed k.world) k.ready (length k.ready) (soft_lasts k.world (root_closed k.world) refl refl refl (soft_rested k.world.links) (lasts p k well a c))).keeps;
  woke = λ k told ready well a c. (woke_lasts k told ready (lasts p k well a c)).keeps;
}
