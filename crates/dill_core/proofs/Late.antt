-- Passed deadlines, one after the other.
use Rattle.std.proofs.Common.{◌≡◌, ◌∙◌, ℕ, List, [], ◌∷◌, map, filter_map, Bool, true, Option, Some, None, IfSome, if◌then◌else◌, nat_le, refl, ap}
use Rattle.std.proofs.lemmas.Bool.{and_parts}
use Rattle.std.specs.List.{list_all, cons_option}
use Rattle.dill_calls.specs.declared.call.Call.{Call}
use Rattle.dill_base.specs.Maps.{if_some}
use Rattle.dill_rules.specs.declared.coroutine.Coroutine.{Coroutine}
use Rattle.dill_rules.specs.Expiring.{Timer, due_of, in_order, passed, expire_one}
use Rattle.dill_rules.specs.State.{lined}
use Rattle.dill_rules.specs.World.{World}
use Rattle.laws_queue.specs.Well.{Numbered}
use Rattle.dill_world.specs.Store.{Store, world_of}
use Rattle.dill_steps.specs.Timing.{first_of, late_timer, Rises}
use Rattle.laws_queue.proofs.Lining.{lined_pending}

-- a list behind its first
abbrev pub rest_of : {X : Type 0} → List X → List X
rest_of [] = []
rest_of (x ∷ xs) = xs

pub begins_with : (xs : List ℕ) (x : ℕ) → first_of xs ≡ Some x → xs ≡ x ∷ rest_of xs
begins_with [] x e = cc
begins_with (y ∷ xs) x e = let same : y ≡ x = cc in ap (λ z. z ∷ xs) same

pub begins_not : (xs : List ℕ) → first_of xs ≡ None → xs ≡ []
begins_not [] e = refl
begins_not (y ∷ xs) e = cc

-- what holds of all holds of the first
pub first_all : (test : ℕ → Bool) (xs : List ℕ) → list_all test xs ≡ true → IfSome (first_of xs) (λ x. test x ≡ true)
first_all test [] e = tt
first_all test (x ∷ xs) e = (and_parts (test x) (list_all test xs) e).0

module _ {V : Type 0} where
  -- who waits is not changed by the queue
  late_lined : (moment : ℕ) (c : Coroutine V) → late_timer moment (lined c) ≡ late_timer moment c
  late_lined moment c =
      ap (λ (o : Option Call). if_some (if_some o None (λ call. if_some (due_of call) None (λ due. Some (record { due = due; who = c.number })))) None (λ (x : Timer). if nat_le x.due moment then Some x else None)) (lined_pending c.mode)

  all_late_lined : (moment : ℕ) (cs : List (Coroutine V)) → filter_map (late_timer moment) (map lined cs) ≡ filter_map (late_timer moment) cs
  all_late_lined moment [] = refl
  all_late_lined moment (c ∷ cs) =
      ap (λ o. cons_option o (filter_map (late_timer moment) (map lined cs))) (late_lined moment c) ∙ ap (cons_option (late_timer moment c)) (all_late_lined moment cs)

  passed_lined : (w : World V) → passed (record w { coroutines = map lined w.coroutines }) ≡ passed w
  passed_lined w = ap (λ ts. map (λ (x : Timer). x.who) (in_order ts)) (all_late_lined w.moment w.coroutines)

  pub rises_of : (cs : List (Coroutine V)) (low high : ℕ) → Numbered low cs high → Rises low cs
  rises_of [] low high n = tt
  rises_of (c ∷ cs) low high n = (n.0, rises_of cs c.number high n.1)

  -- once the first of the passed deadlines is given up and its answer queued, the rest are the passed ones
  pub rest_passed : (s stepped new : Store V) (who : ℕ) (rest : List ℕ) → world_of new ≡ record (world_of stepped) { coroutines = map lined stepped.coroutines } → world_of stepped ≡ expire_one (world_of s) who → passed (expire_one (world_of s) who) ≡ rest → passed (world_of new) ≡ rest
  rest_passed s stepped new who rest l e r = ap (λ (w : World V). passed w) l ∙ passed_lined (world_of stepped) ∙ ap (λ (w : World V). passed w) e ∙ r
