-- What passed deadlines begin with.
use Rattle.std.proofs.Common.{◌≡◌, ◌∙◌, ℕ, List, [], ◌∷◌, map, filter_map, Bool, true, false, cond, Option, Some, None, option_map, refl, sym, ap, suc, ◌<◌, length, get_or, drop, drop-cons}
use Rattle.std.specs.List.{cons_option}
use Rattle.dill_calls.specs.declared.call.Call.{Call}
use Rattle.dill_base.specs.Maps.{if_some}
use Rattle.dill_rules.specs.declared.coroutine.Coroutine.{Coroutine}
use Rattle.dill_rules.specs.World.{pending_call}
use Rattle.dill_rules.specs.Expiring as expiring
use Rattle.dill_rules.specs.Expiring.{Timer, is_earlier, timer_of, due_of}
use Rattle.dill_steps.specs.declared.expiring.Late.{Late}
use Rattle.dill_steps.specs.Timing.{first_of, sooner, sooner_by, as_timer, due_at, late_timer}

module _ where
  first_at : (b : Bool) (x y : Timer) (xs ys : List Timer) → first_of (cond b (x ∷ xs) (y ∷ ys)) ≡ Some (cond b x y)
  first_at true x y xs ys = refl
  first_at false x y xs ys = refl

  pub first_placed : (x : Timer) (xs : List Timer) → first_of (expiring.placed x xs) ≡ Some (sooner x (first_of xs))
  first_placed x [] = refl
  first_placed x (y ∷ ys) = first_at (is_earlier x y) x y (y ∷ ys) (expiring.placed x ys)

pub first_map : {X Y : Type 0} (f : X → Y) (xs : List X) → first_of (map f xs) ≡ option_map f (first_of xs)
first_map f [] = refl
first_map f (x ∷ xs) = refl

pub first_step : (o : Option Timer) (ts : List Timer) → first_of (expiring.in_order (cons_option o ts)) ≡ sooner_by o (first_of (expiring.in_order ts))
first_step None ts = refl
first_step (Some x) ts = first_placed x (expiring.in_order ts)

late_who : (o : Option Late) → option_map (λ x. x.who) (option_map as_timer o) ≡ option_map (λ x. x.who) o
late_who None = refl
late_who (Some x) = refl

-- who has the first passed deadline
pub first_who : (o : Option Late) (ts : List Timer) → option_map as_timer o ≡ first_of ts → first_of (map (λ x. x.who) ts) ≡ option_map (λ x. x.who) o
first_who o ts e = first_map (λ x. x.who) ts ∙ ap (option_map (λ x. x.who)) (sym e) ∙ late_who o

module _ where
  due_in : (n : ℕ) (o : Option ℕ) (ts : List Timer) (ds : List ℕ) → map (λ x. x.due) ts ≡ ds → map (λ x. x.due) (cons_option (if_some o None (λ due. Some (record { due = due; who = n }))) ts) ≡ cons_option o ds
  due_in n None ts ds e = e
  due_in n (Some due) ts ds e = ap (λ xs. due ∷ xs) e

  due_on : (n : ℕ) (o : Option Call) (ts : List Timer) (ds : List ℕ) → map (λ x. x.due) ts ≡ ds → map (λ x. x.due) (cons_option (if_some o None (λ call. if_some (due_of call) None (λ due. Some (record { due = due; who = n })))) ts) ≡ cons_option (if_some o None due_of) ds
  due_on n None ts ds e = e
  due_on n (Some call) ts ds e = due_in n (due_of call) ts ds e

  -- the moments of the timers
  pub dues : {V : Type 0} (cs : List (Coroutine V)) → map (λ x. x.due) (filter_map timer_of cs) ≡ filter_map due_at cs
  dues [] = refl
  dues (c ∷ cs) = due_on c.number (pending_call c.mode) (filter_map timer_of cs) (filter_map due_at cs) (dues cs)

-- one coroutine more is looked at
pub late_step : {V : Type 0} (moment : ℕ) (cs : List (Coroutine V)) (j : ℕ) (x : Coroutine V) (first next : Option Late) → j < length cs → x ≡ get_or cs j x → option_map as_timer first ≡ first_of (expiring.in_order (filter_map (late_timer moment) (drop (suc j) cs))) → option_map as_timer next ≡ sooner_by (late_timer moment x) (option_map as_timer first) → option_map as_timer next ≡ first_of (expiring.in_order (filter_map (late_timer moment) (drop j cs)))
late_step moment cs j x first next lt e inv step =
    let cut : drop j cs ≡ x ∷ drop (suc j) cs = drop-cons cs j x lt ∙ ap (λ y. y ∷ drop (suc j) cs) (sym e) in
    step
    ∙ ap (sooner_by (late_timer moment x)) inv
    ∙ sym (first_step (late_timer moment x) (filter_map (late_timer moment) (drop (suc j) cs)))
    ∙ ap (λ ys. first_of (expiring.in_order (filter_map (late_timer moment) ys))) (sym cut)
