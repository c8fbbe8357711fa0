-- What is found is as plain as all are, and what is in use is so by one of three directions.
use Rattle.std.proofs.Common.{◌≡◌, ℕ, Bool, true, false, ◌&&◌, ◌||◌, List, Option, Some, None, IfSome, option_copied, find, sym, subst}
use Rattle.std.specs.Borrow.{Bor}
use Rattle.dill_calls.specs.declared.call.Call.{Call}
use Rattle.dill_calls.specs.declared.word.Word.{Word}
use Rattle.dill_calls.specs.CallTable.{word_of, named_by}
use Rattle.dill_base.specs.Maps.{if_some}
use Rattle.dill_rules.specs.declared.coroutine.Coroutine.{Coroutine}
use Rattle.dill_rules.specs.Directions.{is_send, is_receive}
use Rattle.dill_rules.specs.Refusals.{is_accept, is_second, is_in_use}
use Rattle.dill_world.specs.Store.{Store, world_of, is_plain_mode, is_plain_row, ArePlain}
use Rattle.dill_world.specs.Ways.{is_taken_up}
use Rattle.dill_world.specs.declared.refusals.Way.TheVariants as ways
use Rattle.dill_world.proofs.Each.{all_found}

module _ {V : Type 0} where
  pub found_plain : (test : Coroutine V → Bool) (xs : List (Coroutine V)) (r : Option (Bor (Coroutine V))) → ArePlain xs → option_copied r ≡ find test xs → IfSome r (λ c. is_plain_mode c.now.mode ≡ true)
  found_plain test xs None plain e = tt
  found_plain test xs (Some c) plain e = all_found is_plain_row test xs c.now plain (sym e)

  some_use : Store V → Call → ℕ → Bool
  some_use s call number = (is_send (word_of call) && is_second (world_of s) number is_send)
      || ((is_receive (word_of call) && is_second (world_of s) number is_receive) || (is_accept (word_of call) && is_second (world_of s) number is_accept))

  pub in_use : (s : Store V) (call : Call) (number : ℕ) (word : Word) (rows : List (Coroutine V)) (r : Bool) → Some number ≡ named_by call → word ≡ word_of call → rows ≡ s.coroutines → r ≡ (is_taken_up rows word ways.Send number || (is_taken_up rows word ways.Receive number || is_taken_up rows word ways.Accept number)) → r ≡ is_in_use (world_of s) call
  unfolding some_use
  in_use s call number word rows r e f h k =
      let k' : r ≡ (is_taken_up rows (word_of call) ways.Send number || (is_taken_up rows (word_of call) ways.Receive number || is_taken_up rows (word_of call) ways.Accept number)) = subst (λ x. r ≡ (is_taken_up rows x ways.Send number || (is_taken_up rows x ways.Receive number || is_taken_up rows x ways.Accept number))) f k in
      let j : r ≡ some_use s call number = subst (λ x. r ≡ (is_taken_up x (word_of call) ways.Send number || (is_taken_up x (word_of call) ways.Receive number || is_taken_up x (word_of call) ways.Accept number))) h k' in
      subst (λ o. r ≡ if_some o false (some_use s call)) e j
