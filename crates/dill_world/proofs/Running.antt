-- A coroutine that runs on from an answer, in a list and in a world.
use Rattle.std.proofs.Common.{◌≡◌, ℕ, ◌≤◌, List, Option, Some, None, IfSome, MatchOption, find, slice_set, get_or, refl, sym, ap, ◌∙◌, subst}
use Rattle.std.specs.List.{position_from}
use Rattle.dill_calls.specs.declared.answer.Answer.{Answer}
use Rattle.dill_calls.specs.declared.body.Next.{Next}
use Rattle.dill_calls.specs.Program.{Program, Turns}
use Rattle.dill_calls.specs.declared.word.Word.{Word}
use Rattle.dill_base.specs.Maps.{if_some, change}
use Rattle.dill_rules.specs.declared.coroutine.Coroutine.{Coroutine}
use Rattle.dill_rules.specs.World.{is_coroutine}
use Rattle.dill_rules.specs.Turning.{as_running, given_of}
use Rattle.dill_world.specs.Store.{Store, world_of}
use Rattle.dill_world.specs.Steps.{WentOn, RunsOn, Resumed}
use Rattle.dill_base.proofs.Places.{place, no_place}

module _ {V : Type 0} (p : Program V) (xs : List (Coroutine V)) (who at : ℕ) (old new : Coroutine V) where
  pub found_at : position_from (is_coroutine who) 0 xs ≡ Some at → old ≡ get_or xs at old → find (is_coroutine who) xs ≡ Some old
  found_at there value = (place (is_coroutine who) (λ x. x) old xs at there).found ∙ ap Some (sym value)

  pub left_at : position_from (is_coroutine who) 0 xs ≡ Some at → old ≡ get_or xs at old → IfSome (find (is_coroutine who) xs) (λ c. 1 ≤ p.left c.body) → 1 ≤ p.left old.body
  left_at there value left = subst (λ o. IfSome o (λ c. 1 ≤ p.left c.body)) (found_at there value) left

  pub rows_at : position_from (is_coroutine who) 0 xs ≡ Some at → old ≡ get_or xs at old → new ≡ as_running new.body old → slice_set xs at new ≡ change (is_coroutine who) (as_running new.body) xs
  rows_at there value runs =
      ap (λ y. slice_set xs at y) runs ∙ ap (λ y. slice_set xs at (as_running new.body y)) value ∙ sym (place (is_coroutine who) (as_running new.body) old xs at there).changed

  pub runs_at : (given : Answer) (said : Next) → position_from (is_coroutine who) 0 xs ≡ Some at → old ≡ get_or xs at old → Turns p old.body given new.body said → new ≡ as_running new.body old → RunsOn p xs (slice_set xs at new) who given (Some said)
  runs_at given said there value turns runs =
      subst (λ o. MatchOption o ((Some said ≡ None) × (slice_set xs at new ≡ xs)) (λ c. WentOn p c given (Some said) (λ view. slice_set xs at new ≡ change (is_coroutine who) (as_running view) xs))) (sym (found_at there value)) (new.body, turns, rows_at there value runs)

module _ {V : Type 0} (p : Program V) where
  pub nobody_runs : (xs : List (Coroutine V)) (who : ℕ) (given : Answer) → position_from (is_coroutine who) 0 xs ≡ None → RunsOn p xs xs who given None
  nobody_runs xs who given gone =
      let none : Option Next = None in
      subst (λ o. MatchOption o ((none ≡ None) × (xs ≡ xs)) (λ c. WentOn p c given None (λ view. xs ≡ change (is_coroutine who) (as_running view) xs))) (sym (no_place (is_coroutine who) (λ x. x) xs 0 gone).none) (refl, refl)

  went : (c : Coroutine V) (given : Answer) (said : Option Next) (A B : V → Type 0) → ((view : V) → A view → B view) → WentOn p c given said A → WentOn p c given said B
  went c given None A B f h = h
  went c given (Some next) A B f h = (h.0, h.1, f h.0 h.2)

  matched : {X : Type 0} (o : Option X) (A B : Type 0) (P Q : X → Type 0) → (A → B) → ((x : X) → P x → Q x) → MatchOption o A P → MatchOption o B Q
  matched None A B P Q f g h = f h
  matched (Some x) A B P Q f g h = g x h

  pub resumed : (s : Store V) (new : List (Coroutine V)) (who : ℕ) (given : Answer) (said : Option Next) → RunsOn p s.coroutines new who given said → Resumed p (world_of s) (world_of (record s { coroutines = new })) who given said
  resumed s new who given said h =
      matched (find (is_coroutine who) s.coroutines) _ _ _ _
      (λ none. (none.0, ap (λ rows. world_of (record s { coroutines = rows })) none.1))
      (λ c ran. went c given said _ _ (λ view e. ap (λ rows. world_of (record s { coroutines = rows })) e) ran)
      h

module _ {V : Type 0} where
  -- the answer of who stands there
  pub taken_at : (xs : List (Coroutine V)) (who at : ℕ) (old : Coroutine V) (r : Word × Answer × Answer) → position_from (is_coroutine who) 0 xs ≡ Some at → old ≡ get_or xs at old → r ≡ ((given_of old.mode).0, (given_of old.mode).1, (given_of old.mode).1) → Some r ≡ if_some (find (is_coroutine who) xs) None (λ c. Some ((given_of c.mode).0, (given_of c.mode).1, (given_of c.mode).1))
  taken_at xs who at old r there value is =
      let there_is : find (is_coroutine who) xs ≡ Some old = (place (is_coroutine who) (λ x. x) old xs at there).found ∙ ap Some (sym value) in
      ap Some is ∙ sym (ap (λ (o : Option (Coroutine V)). if_some o None (λ c. Some ((given_of c.mode).0, (given_of c.mode).1, (given_of c.mode).1))) there_is)

  pub taken_none : (xs : List (Coroutine V)) (who : ℕ) → position_from (is_coroutine who) 0 xs ≡ None → ◌≡◌ {A = Option (Word × Answer × Answer)} None (if_some (find (is_coroutine who) xs) None (λ c. Some ((given_of c.mode).0, (given_of c.mode).1, (given_of c.mode).1)))
  taken_none xs who gone = sym (ap (λ (o : Option (Coroutine V)). if_some o None (λ c. Some ((given_of c.mode).0, (given_of c.mode).1, (given_of c.mode).1))) (no_place (is_coroutine who) (λ x. x) xs 0 gone).none)
