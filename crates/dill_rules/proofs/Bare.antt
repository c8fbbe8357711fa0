-- What a pending call would send at channels says nothing of how it is answered.
use Rattle.std.proofs.Common.{◌≡◌, ℕ, ◌+◌, ◌∙◌, refl, ap, List, [], ◌∷◌, map, false, not, ◌&&◌, Option, Some, None}
use Rattle.std.specs.Option.{option_or}
use Rattle.dill_base.specs.declared.errno.Errno.{Errno}
use Rattle.dill_base.specs.declared.errno.Errno.TheVariants.{Ecanceled, Ebadf}
use Rattle.dill_base.specs.Maps.{if_some}
use Rattle.dill_calls.specs.declared.answer.Answer.{Answer}
use Rattle.dill_calls.specs.declared.answer.Answer.TheVariants.{Chosen, Fault}
use Rattle.dill_calls.specs.declared.call.Call.{Call}
use Rattle.dill_calls.specs.declared.call.Call.TheVariants as calls
use Rattle.dill_calls.specs.declared.lists.Clause.{Clause}
use Rattle.dill_calls.specs.declared.lists.Clause.TheVariants as clauses
use Rattle.dill_calls.specs.declared.word.Word.{Word}
use Rattle.dill_calls.specs.CallTable.{word_of, blocks, is_hclose, named_by, deadline_of}
use Rattle.dill_rules.specs.World.{World}
use Rattle.dill_rules.specs.Naming.{numbers_of, end_of_clause}
use Rattle.dill_rules.specs.Kinds.{is_dead}
use Rattle.dill_rules.specs.Taking.{is_cancelled}
use Rattle.dill_rules.specs.Answers.{when, want_of, clause_fault, choice_fault, own_answer, lost_its_number, answer_of}
use Rattle.dill_rules.specs.Channeling.{bare_clause, without_bytes, clause_answer}
use Rattle.dill_rules.specs.Laws.{BytesTellNothing}

pub bare_word : (call : Call) → word_of (without_bytes call) ≡ word_of call
bare_word (calls.Chsend number bytes deadline) = refl
bare_word call = refl

bare_named : (call : Call) → named_by (without_bytes call) ≡ named_by call
bare_named (calls.Chsend number bytes deadline) = refl
bare_named call = refl

bare_deadline : (call : Call) → deadline_of (without_bytes call) ≡ deadline_of call
bare_deadline (calls.Chsend number bytes deadline) = refl
bare_deadline call = refl

bare_end : (x : Clause) → end_of_clause (bare_clause x) ≡ end_of_clause x
bare_end (clauses.Send number bytes) = refl
bare_end (clauses.Recv number size) = refl

bare_ends : (xs : List Clause) → map end_of_clause (map bare_clause xs) ≡ map end_of_clause xs
bare_ends [] = refl
bare_ends (x ∷ xs) = ap (λ n. n ∷ map end_of_clause (map bare_clause xs)) (bare_end x) ∙ ap (λ ns. end_of_clause x ∷ ns) (bare_ends xs)

bare_numbers : (call : Call) → numbers_of (without_bytes call) ≡ numbers_of call
bare_numbers (calls.Choose deadline all) = bare_ends all
bare_numbers call = refl

bare_answered : (call : Call) (index : ℕ) (answer : Answer) → clause_answer (without_bytes call) index answer ≡ clause_answer call index answer
bare_answered (calls.Chsend number bytes deadline) index answer = refl
bare_answered call index answer = refl

module _ {V : Type 0} where
  bare_fault : (w : World V) (x : Clause) → clause_fault w (end_of_clause (bare_clause x)) (want_of (bare_clause x)) ≡ clause_fault w (end_of_clause x) (want_of x)
  bare_fault w (clauses.Send number bytes) = refl
  bare_fault w (clauses.Recv number size) = refl

  bare_choice : (w : World V) (index : ℕ) (xs : List Clause) → choice_fault w index (map bare_clause xs) ≡ choice_fault w index xs
  bare_choice w index [] = refl
  bare_choice w index (x ∷ xs) =
      ap (λ (o : Option Errno). if_some o (choice_fault w (index + 1) (map bare_clause xs)) (λ e. Some (Chosen index (Some e) None))) (bare_fault w x)
      ∙ ap (λ (o : Option Answer). if_some (clause_fault w (end_of_clause x) (want_of x)) o (λ e. Some (Chosen index (Some e) None))) (bare_choice w (index + 1) xs)

  bare_own : (w : World V) (call : Call) → own_answer w (without_bytes call) ≡ own_answer w call
  bare_own w (calls.Choose deadline all) = bare_choice w 0 all
  bare_own w call = refl

  bare_answer : (w : World V) (who : ℕ) (call : Call) → answer_of w who (without_bytes call) ≡ answer_of w who call
  bare_answer w who call =
      ap (λ (word : Word). option_or (when (blocks word && is_cancelled w who) (Fault Ecanceled)) (option_or (when (not (is_hclose word) && if_some (named_by (without_bytes call)) false (is_dead w)) (Fault Ebadf)) (own_answer w (without_bytes call)))) (bare_word call)
      ∙ ap (λ (o : Option ℕ). option_or (when (blocks (word_of call) && is_cancelled w who) (Fault Ecanceled)) (option_or (when (not (is_hclose (word_of call)) && if_some o false (is_dead w)) (Fault Ebadf)) (own_answer w (without_bytes call)))) (bare_named call)
      ∙ ap (λ (o : Option Answer). option_or (when (blocks (word_of call) && is_cancelled w who) (Fault Ecanceled)) (option_or (when (lost_its_number w call) (Fault Ebadf)) o)) (bare_own w call)

pub bytes_tell_nothing : (V : Type 0) → BytesTellNothing V
bytes_tell_nothing V = record { word = bare_word; deadline = bare_deadline; numbers = bare_numbers; clause = bare_answered; answer = bare_answer }
