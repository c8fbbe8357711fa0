-- A refusal of memory that isn't met at its turn is never met.
use Rattle.std.proofs.Common.{◌≡◌, ◌⊎◌, inl, inr, ℕ, zero, suc, ◌+◌, ◌<◌, ◌≤◌, ◌==◌, List, [], ◌∷◌, length, Option, Some, None, Bool, true, false, ◌&&◌, if◌then◌else◌, refl, sym, subst, arith}
use Rattle.std.proofs.lemmas.Bool.Decides.{nat_tests}
use Rattle.dill_calls.specs.declared.ran.LackPlace.{LackPlace}
use Rattle.dill_kernel.specs.declared.replies.KernelAsk.{KernelAsk}
use Rattle.dill_kernel.specs.declared.replies.KernelAsk.TheVariants.{Wait}
use Rattle.dill_kernel.specs.Replay.{reply_to}
use Rattle.dill_drive.specs.Machine.{Machine}
use Rattle.dill_drive.specs.Story.{Place, Round, Asking, Trying, Turns, Due, Stopping, Closing, Last, Closes, Writing, Over, Config, after_turn, after_last}
use Rattle.dill_drive.specs.Play.{Lack, Playing, is_met, lack_of, lacks_after, halt_within, turn_number, asks_try, writes, turns_one, advance, advance_at, play}
use Rattle.dill_drive.proofs.Counting.{number_test, number_wait, number_try, number_halted, number_turn, number_last}

-- one of the refusals was meant for an earlier turn
abbrev pub IsPast : ℕ → List Lack → Type 0
IsPast turn [] = ⊥
IsPast turn (lack ∷ lacks) = (lack.0 < turn) ⊎ IsPast turn lacks

later : (turn turn' : ℕ) (lacks : List Lack) → turn ≤ turn' → IsPast turn lacks → IsPast turn' lacks
later turn turn' [] le past = past
later turn turn' (lack ∷ lacks) le (inl past) = inl (omega (arith, past, le))
later turn turn' (lack ∷ lacks) le (inr more) = inr (later turn turn' lacks le more)

left_by : (b : Bool) (turn : ℕ) (lack : Lack) (lacks rest : List Lack) → IsPast turn lacks → IsPast turn rest → IsPast turn (if b then lacks else lack ∷ rest)
left_by true turn lack lacks rest past more = past
left_by false turn lack lacks rest past more = inr more

kept_by : (a b : Bool) (turn : ℕ) (lack : Lack) (lacks rest : List Lack) → a ≡ false → lack.0 < turn → IsPast turn (if a && b then lacks else lack ∷ rest)
kept_by false b turn lack lacks rest e past = inl past
kept_by true b turn lack lacks rest e past = cc

past_left : (may : LackPlace → Bool) (turn : ℕ) (lacks : List Lack) → IsPast turn lacks → IsPast turn (lacks_after may turn lacks)
past_left may turn [] past = past
past_left may turn (lack ∷ lacks) (inl past) =
    let earlier : (lack.0 == turn) ≡ false = grind (arith, nat_tests, past) in
    kept_by (lack.0 == turn) (may lack.1) turn lack lacks (lacks_after may turn lacks) earlier past
past_left may turn (lack ∷ lacks) (inr more) = left_by (is_met may turn lack) turn lack lacks (lacks_after may turn lacks) more (past_left may turn lacks more)

past_some : (turn : ℕ) (lacks : List Lack) → IsPast turn lacks → lacks ≡ [] → ⊥
past_some turn [] past e = past
past_some turn (lack ∷ lacks) past e = cc

module _ {S : Type 0} (m : Machine S) (traced : Bool) (most : ℕ) where
  -- a refusal that wasn't met in its turn is still there
  abbrev Missed : Playing S → Type 0
  Missed p = IsPast (turn_number m traced most p.config) p.lacks

  goes : (p q : Playing S) → q.lacks ≡ p.lacks → turn_number m traced most p.config ≤ turn_number m traced most q.config → Missed p → Missed q
  goes p q same le past = subst (λ (l : List Lack). IsPast (turn_number m traced most q.config) l) (sym same) (later (turn_number m traced most p.config) (turn_number m traced most q.config) p.lacks le past)

  tried : (p : Playing S) (try : Option KernelAsk) → Missed p → Missed (asks_try m traced most p try)
  tried p None past = goes p (asks_try m traced most p None) refl (omega (arith, number_test m traced most p.config p.config.place)) past
  tried p (Some ask) past = goes p (asks_try m traced most p (Some ask)) refl (omega (arith, number_try m traced most p.config ask (reply_to ask p.replies))) past

  wrote : (p : Playing S) (next : Place) (part : Option ℕ) → Missed p → Missed (writes m traced most p next part)
  wrote p next None past = goes p (writes m traced most p next None) refl (omega arith) past
  wrote p next (Some count) past = goes p (writes m traced most p next (Some count)) refl (omega (arith, number_halted m traced most p.config next)) past

  turned : (p : Playing S) (after : Option LackPlace → Config S) → ((lack : Option LackPlace) → turn_number m traced most (after lack) ≡ turn_number m traced most p.config + 1) → Missed p → Missed (turns_one m traced most p after)
  turned p after counts past =
      let turn = turn_number m traced most p.config in
      let le : turn ≤ turn_number m traced most (after (lack_of m traced most p)) = omega (arith, counts (lack_of m traced most p)) in
      later turn (turn_number m traced most (after (lack_of m traced most p))) (lacks_after (m.may_lack p.config.state) turn p.lacks) le (past_left (m.may_lack p.config.state) turn p.lacks past)

  missed_at : (place : Place) (p : Playing S) → Missed p → Missed (advance_at m traced most p place)
  missed_at Round p past = goes p (advance_at m traced most p Round) refl (omega (arith, number_test m traced most p.config Round)) past
  missed_at Asking p past = goes p (advance_at m traced most p Asking) refl (omega (arith, number_wait m traced most p.config (reply_to (Wait (m.limit p.config.state)) p.replies))) past
  missed_at Trying p past = tried p (m.next_try p.config.state) past
  missed_at (Turns left) p past = goes p (advance_at m traced most p (Turns left)) refl (omega (arith, number_test m traced most p.config (Turns left))) past
  missed_at (Due left) p past = turned p (after_turn m traced most p.config left) (number_turn m traced most p.config left) past
  missed_at Stopping p past = goes p (advance_at m traced most p Stopping) refl (omega (arith, number_test m traced most p.config Stopping)) past
  missed_at Closing p past = goes p (advance_at m traced most p Closing) refl (omega (arith, number_test m traced most p.config Closing)) past
  missed_at Last p past = turned p (after_last m traced most p.config) (number_last m traced most p.config) past
  missed_at Closes p past = tried p (m.next_try p.config.state) past
  missed_at (Writing next) p past = wrote p next (halt_within p.halt (length p.bytes) (length p.config.due)) past
  missed_at Over p past = past

  -- so one is left at the end
  pub missed_stays : (k : ℕ) (p : Playing S) → Missed p → (play m traced most k p).lacks ≡ [] → ⊥
  missed_stays zero p past used = past_some (turn_number m traced most p.config) p.lacks past used
  missed_stays (suc k) p past used = missed_stays k (advance m traced most p) (missed_at p.config.place p past) used
