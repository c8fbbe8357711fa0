-- Who waits, as pairs, and those that stand from a place on.
use Rattle.std.proofs.Common.{◌≡◌, ℕ, ◌-◌, List, [], ◌∷◌, length, take, drop, length-drop, find, filter_map, cond, Bool, true, false, Option, Some, None, option_map, nat_lt, refl, arith}
use Rattle.std.proofs.lemmas.List.{take_all}
use Rattle.std.specs.List.{cons_option}
use Rattle.dill_calls.specs.declared.call.Call.{Call}
use Rattle.dill_calls.specs.declared.word.Word.{Word}
use Rattle.dill_calls.specs.CallTable.{word_of}
use Rattle.dill_rules.specs.declared.coroutine.Coroutine.{Coroutine}
use Rattle.dill_rules.specs.World.{pending_call}
use Rattle.dill_rules.specs.Waiting.{Waiter, waiter_of}
use Rattle.dill_steps.specs.Timing.{as_pair, pair_of}

pair_at : (b : Bool) (n : ℕ) (word : Word) (o : Option Waiter) (p : Option (ℕ × Word)) → option_map as_pair o ≡ p → option_map as_pair (cond b (Some (record { who = n; word = word })) o) ≡ cond b (Some (n, word)) p
pair_at true n word o p e = refl
pair_at false n word o p e = e

pair_in : (n after : ℕ) (o : Option Call) (ws : List Waiter) (ps : List (ℕ × Word)) → option_map as_pair (find (λ x. nat_lt after x.who) ws) ≡ find (λ x. nat_lt after x.0) ps → option_map as_pair (find (λ x. nat_lt after x.who) (cons_option (option_map (λ call. record { who = n; word = word_of call }) o) ws)) ≡ find (λ x. nat_lt after x.0) (cons_option (option_map (λ call. (n, word_of call)) o) ps)
pair_in n after None ws ps e = e
pair_in n after (Some call) ws ps e = pair_at (nat_lt after n) n (word_of call) (find (λ x. nat_lt after x.who) ws) (find (λ x. nat_lt after x.0) ps) e

pub pairs : {V : Type 0} (after : ℕ) (cs : List (Coroutine V)) → option_map as_pair (find (λ x. nat_lt after x.who) (filter_map waiter_of cs)) ≡ find (λ x. nat_lt after x.0) (filter_map pair_of cs)
pairs after [] = refl
pairs after (c ∷ cs) = pair_in c.number after (pending_call c.mode) (filter_map waiter_of cs) (filter_map pair_of cs) (pairs after cs)

pub rest_from : {X : Type 0} (xs : List X) (n : ℕ) → take (length xs - n) (drop n xs) ≡ drop n xs
rest_from xs n = take_all (length xs - n) (drop n xs) (simp length-drop (omega arith))
