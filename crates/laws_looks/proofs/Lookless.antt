-- Where no look finds anything, settling needs none.
use Rattle.std.proofs.Common.{◌≡◌, ◌∙◌, inl, inr, ℕ, zero, suc, List, [], ◌∷◌, length, find, fold, true, Option, Some, refl, sym, ap}
use Rattle.std.specs.Option.{option_or}
use Rattle.dill_base.specs.Maps.{if_some, first_some}
use Rattle.dill_calls.specs.declared.call.Call.{Call}
use Rattle.dill_rules.specs.declared.coroutine.Coroutine.{Coroutine}
use Rattle.dill_rules.specs.World.{World, pending_call, begin}
use Rattle.dill_rules.specs.LinkAnswers.{reads}
use Rattle.dill_rules.specs.Expiring.{passed, expire_one}
use Rattle.dill_rules.specs.Giving.{give}
use Rattle.dill_rules.specs.Settling.{can_finish, finish, answer_due, settle_one, settle_within, settle}
use Rattle.laws_queue.specs.Kept.{Kept, kept_expire_next, kept_late, root_closed}
use Rattle.laws_looks.specs.Readers.{In}
use Rattle.laws_looks.specs.Calm.{Restful}
use Rattle.dill_rules.specs.Lookless.{lookless_due, settle_one_lookless, lookless_within, settle_lookless}
use Rattle.laws_looks.proofs.Quieted.{Calm}
use Rattle.laws_looks.proofs.Answered.{answers_same, due_same}
use Rattle.laws_looks.proofs.Restful.{named_link, calmly_same, calmly_rested, calmly_rests, calmly_lined, expire_rests, one_rests, within_rests, passes_rest}

pub first_same : {X Y : Type 0} (f g : X → Option Y) (xs : List X) → ((x : X) → In x xs → f x ≡ g x) → first_some f xs ≡ first_some g xs
first_same f g [] h = refl
first_same f g (x ∷ xs) h = ap (λ o. option_or o (first_some f xs)) (h x (inl refl)) ∙ ap (option_or (g x)) (first_same f g xs (λ y i. h y (inr i)))

module _ {V : Type 0} where
  rest_calm : (w : World V) (c : Coroutine V) (call : Call) → Restful w → In c w.coroutines → pending_call c.mode ≡ Some call → reads call ≡ true → Calm w call
  rest_calm w c call r i e rd n l x f g h = r.calm c.number call n l x (record { one = c; there = i; number = refl; mode = e }) rd f (named_link w n l g) h

  one_same : (w : World V) → Restful w → settle_one_lookless w ≡ settle_one w
  one_same w r = ap (λ o. if_some (find (can_finish w) w.coroutines) (if_some o w (λ x. give w x.0 x.1 x.2)) (finish w))
      (sym (first_same (answer_due w) (lookless_due w) w.coroutines (λ c i. due_same w c (λ call e. answers_same w c.number call (rest_calm w c call r i e)))))

  pub lookless_same : (k : ℕ) (w : World V) → Restful w → lookless_within k w ≡ settle_within k w
  lookless_same zero w r = refl
  lookless_same (suc k) w r = ap (lookless_within k) (one_same w r) ∙ lookless_same k (settle_one w) (one_rests w r).restful

  -- settling that starts at rest needs no look
  pub rest_settles : (w : World V) → Restful w → settle w ≡ settle_lookless w
  rest_settles w r = passes_rest (settle_within (length w.coroutines) w) (within_rests (length w.coroutines) w r).restful ∙ sym (lookless_same (length w.coroutines) w r)

  late_kept : (xs : List ℕ) (k : Kept V) → Restful k.world → Restful (fold kept_expire_next k xs).world
  late_kept [] k r = r
  late_kept (who ∷ xs) k r =
      let v = expire_one k.world who in
      late_kept xs (kept_expire_next k who) (calmly_rests v (kept_expire_next k who).world (calmly_lined v) (expire_rests k.world who r).restful)

  pub expiry_rests : (k : Kept V) → Restful k.world → Restful (kept_late k).world
  expiry_rests k r = late_kept (passed k.world) (record k { world = begin k.world }) (calmly_rests k.world (begin k.world) (calmly_same k.world (begin k.world) refl refl refl refl) r)

  pub closing_rests : (w : World V) → Restful w → Restful (root_closed w)
  closing_rests w r = calmly_rests w (root_closed w) (calmly_rested w (root_closed w) refl refl refl refl) r
