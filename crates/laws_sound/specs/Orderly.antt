-- Worlds in order whose pending calls on stacks and channels are where they may be and have their numbers kept, as every step keeps them.
use Rattle.std.specs.Prelude.{◌≡◌, ℕ, ◌+◌, ◌==◌, ◌≤◌, List, [], ◌∷◌, map, Bool, true, false, not, ◌&&◌, ◌||◌, if◌then◌else◌, is_none, nat_le}
use Rattle.std.specs.List.{list_all}
use Rattle.dill_calls.specs.declared.ran.Note.{Note}
use Rattle.dill_calls.specs.declared.ran.Note.TheVariants.{Moved, Freed}
use Rattle.dill_calls.specs.declared.word.Word.{Word}
use Rattle.dill_calls.specs.declared.word.Word.TheVariants as words
use Rattle.dill_chan.specs.declared.end.Wait.{Wait}
use Rattle.dill_rules.specs.declared.coroutine.Mode.{Mode}
use Rattle.dill_calls.specs.CallTable.{word_of, gives_up, named_by}
use Rattle.dill_handles.specs.Handles.{Handles}
use Rattle.dill_base.specs.Maps.{if_some}
use Rattle.dill_rules.specs.declared.coroutine.Coroutine.{Coroutine}
use Rattle.dill_rules.specs.declared.thing.Thing.{Thing}
use Rattle.dill_rules.specs.World.{World, pending_call}
use Rattle.dill_rules.specs.Naming.{links}
use Rattle.dill_rules.specs.Directions.{is_handshake}
use Rattle.dill_rules.specs.LinkAnswers.{is_on_stack, is_tcp_close}
use Rattle.dill_rules.specs.Taking.{bundle_of}
use Rattle.laws_queue.specs.Well.{bit, is_at, occurs}
use Rattle.laws_sound.specs.Order.{times_used, IsInOrder}

-- the number was given, and names no bundle
abbrev pub is_no_bundle : Handles Thing → ℕ → Bool
is_no_bundle h number = nat_le number h.last && list_all (λ x. not (x.number == number) || is_none (bundle_of x.thing)) h.entries

-- a pending call on a stack names such a number, whether it is live or not
abbrev pub is_socketed : {V : Type 0} → Handles Thing → Coroutine V → Bool
is_socketed h c = if_some (pending_call c.mode) true (λ call. if is_on_stack (word_of call) then if_some (named_by call) true (is_no_bundle h) else true)

-- the calls whose clauses wait at ends of channels
abbrev pub is_channel : Word → Bool
is_channel words.Chsend = true
is_channel words.Chrecv = true
is_channel words.Choose = true
is_channel _ = false

abbrev pub is_meeting : Mode → Bool
is_meeting mode = if_some (pending_call mode) false (λ call. is_channel (word_of call))

-- whose clause waits is pending in such a call
abbrev pub waits_well : {V : Type 0} → List (Coroutine V) → Wait → Bool
waits_well cs x = is_at is_meeting cs x.who

-- the calls whose answer, while they are pending, may be a new number: those that make a link, handshakes and detaches
abbrev pub gives_number : Word → Bool
gives_number word = links word || ((is_handshake word || gives_up word) && not (is_tcp_close word))

-- how many numbers are kept for it, as it stands
abbrev pub kept_by : {V : Type 0} → Coroutine V → ℕ
kept_by c = if_some (pending_call c.mode) 0 (λ call. bit (gives_number (word_of call)))

-- how much all of a list weigh together
abbrev pub weigh : {X : Type 0} → (X → ℕ) → List X → ℕ
weigh f [] = 0
weigh f (x ∷ xs) = f x + weigh f xs

-- In order; each pending call on a stack is on a number that names no bundle, who has a clause that waits is pending in a call of channels, and a number is kept for each pending call that may be answered by a new one.
pub record IsOrderly {V : Type 0} (w : World V) : Type 0 where
  pub order : IsInOrder w
  pub sockets : list_all (is_socketed w.handles) w.coroutines ≡ true
  pub waits : list_all (waits_well w.coroutines) w.channels.waits ≡ true
  pub kept : weigh kept_by w.coroutines ≤ w.handles.kept

-- the number that a note tells as dead
abbrev pub dead_by : Note → ℕ
dead_by (Moved number new) = number
dead_by (Freed number) = number

-- Each number that was given between the two worlds is live, of a closing or noted as dead once more than before, and no other number is more or less often one of these.
abbrev pub NotesOnce : {V : Type 0} → World V → World V → Type 0
NotesOnce w v = (n : ℕ) → (occurs n (map dead_by v.notes) + times_used v n) + bit (nat_le n w.handles.last) ≡ (occurs n (map dead_by w.notes) + times_used w n) + bit (nat_le n v.handles.last)
