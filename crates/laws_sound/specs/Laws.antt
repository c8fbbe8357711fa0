-- Laws of worlds in order: each step keeps them so, and where a bundle is closing somebody inside it has an answer.
use Rattle.std.specs.Prelude.{◌≡◌, ℕ, List, Bool, true, false, not, ◌||◌, Option, Some, None, find, is_some}
use Rattle.std.specs.List.{list_all}
use Rattle.dill_calls.specs.declared.ran.LackPlace.{LackPlace}
use Rattle.dill_calls.specs.CallTable.{word_of, blocks}
use Rattle.dill_calls.specs.Program.{Program, IsLawful}
use Rattle.dill_kernel.specs.declared.ready.Ready.{Ready}
use Rattle.dill_kernel.specs.declared.replies.KernelReply.{KernelReply}
use Rattle.dill_scope.specs.Scopes.{Scopes, is_bundle, is_empty}
use Rattle.dill_scope.specs.Forest.{Inside}
use Rattle.dill_base.specs.Maps.{if_some}
use Rattle.dill_rules.specs.declared.coroutine.Coroutine.{Coroutine}
use Rattle.dill_rules.specs.declared.coroutine.Mode.{Mode}
use Rattle.dill_rules.specs.declared.coroutine.Mode.TheVariants as modes
use Rattle.dill_rules.specs.Laws.{IsSound}
use Rattle.dill_rules.specs.Settling.{settle, IsSettled}
use Rattle.dill_rules.specs.Taking.{is_cancelled}
use Rattle.dill_rules.specs.Expiring.{due_of, expire_one}
use Rattle.dill_rules.specs.Hearing.{heard}
use Rattle.dill_rules.specs.Trying.{Try}
use Rattle.dill_rules.specs.Turning.{turn}
use Rattle.dill_rules.specs.World.{World, begin, call_of, coroutine_of, is_answered, pending_call}
use Rattle.laws_queue.specs.Kept.{Kept, has_answer, opening_kept, queued, kept_turn, kept_hear, kept_expire_next, kept_expired, root_closed, kept_shut, kept_woke}
use Rattle.laws_sound.specs.Linkless.{MakesLinkless, IsLinkless}
use Rattle.dill_rules.specs.LinkAnswers.{is_on_stack}
use Rattle.laws_queue.specs.Well.{occurs, is_at, Numbered, IsWell}
use Rattle.laws_sound.specs.Order.{closes, is_there, IsInOrder}
use Rattle.laws_sound.specs.Orderly.{IsOrderly, NotesOnce}

-- the closing of a bundle has begun
abbrev pub is_closing : Scopes → ℕ → Bool
is_closing s name = if_some (find (is_bundle name) s.bundles) false (λ x. x.closing)

-- between two steps everybody waits, has an answer in the queue, or is ending
abbrev pub is_resting : Mode → Bool
is_resting (modes.Pending call) = true
is_resting (modes.Answered word answer) = true
is_resting (modes.Ending outcome) = true
is_resting _ = false

abbrev pub IsAtRest : {V : Type 0} → World V → Type 0
IsAtRest w = list_all (λ c. is_resting c.mode) w.coroutines ≡ true

-- what it is pending in blocks, or is an `hclose`; there is no other call that stays pending, but where a detach that never blocks were to wait
abbrev pub waits_long : Mode → Bool
waits_long mode = if_some (pending_call mode) true (λ call. blocks (word_of call) || is_some (closes mode))

abbrev pub WaitsLong : {V : Type 0} → World V → Type 0
WaitsLong w = list_all (λ c. waits_long c.mode) w.coroutines ≡ true

-- what it is pending in isn't answered by a stack
abbrev pub is_apart : Mode → Bool
is_apart mode = if_some (pending_call mode) true (λ call. not (is_on_stack (word_of call)))

abbrev pub IsApart : {V : Type 0} → World V → Type 0
IsApart w = list_all (λ c. is_apart c.mode) w.coroutines ≡ true

-- where nobody waits for a stack, settling with the looks behind it goes on until nothing is due
abbrev pub SettlesApart : (V : Type 0) → Type 0
SettlesApart V = (w : World V) → IsApart w → Numbered 0 w.coroutines w.last_coroutine → IsSettled (settle w)

-- what it is pending in has a deadline, if it is pending
abbrev pub is_timed : {V : Type 0} → World V → ℕ → Bool
is_timed w who = if_some (call_of w who) true (λ call. is_some (due_of call))

-- so it is of programs that keep their law, whatever they call and whatever the kernel replies
pub record KeepsOrder {V : Type 0} (p : Program V) : Type 0 where
  pub opening : (view : V) → IsOrderly (opening_kept view).world
  pub turned : (k : Kept V) (lack : Option LackPlace) → IsWell p k → IsOrderly k.world → IsOrderly (kept_turn p lack k).world
  pub hears : (k : Kept V) (said : Option KernelReply) → IsOrderly k.world → IsOrderly (kept_hear k said).world
  pub started : (k : Kept V) → IsOrderly k.world → IsOrderly (begin k.world)
  pub expires : (k : Kept V) (who : ℕ) → IsOrderly k.world → is_timed k.world who ≡ true → IsOrderly (kept_expire_next k who).world
  pub settled : (k : Kept V) → IsOrderly k.world → IsOrderly (queued (settle k.world) k.ready k.early).world
  pub expired : (k : Kept V) → IsOrderly k.world → IsOrderly (kept_expired k).world
  pub shut : (k : Kept V) → IsOrderly k.world → IsOrderly (kept_shut k).world
  pub woke : (k : Kept V) (told : ℕ) (ready : List Ready) → IsOrderly k.world → IsOrderly (kept_woke k told ready).world

abbrev pub StepsKeepOrder : {V : Type 0} → Program V → Type 0
StepsKeepOrder p = IsLawful p → KeepsOrder p

-- so each number that a step gives is live, of a closing or noted as dead once more than before, and every other number as often as before
pub record NotesNumbers {V : Type 0} (p : Program V) : Type 0 where
  pub turned : (lack : Option LackPlace) (w : World V) (who : ℕ) (c : Coroutine V) → IsOrderly w → coroutine_of w who ≡ Some c → is_answered c.mode ≡ true → NotesOnce (begin w) (turn p lack w who)
  pub heard : (w : World V) (x : Try) (said : Option KernelReply) → IsOrderly w → NotesOnce w (settle (heard w x said))
  pub expired : (w : World V) (who : ℕ) → IsOrderly w → is_timed w who ≡ true → NotesOnce w (expire_one w who)
  pub settled : (w : World V) → IsOrderly w → NotesOnce w (settle w)
  pub shut : (w : World V) → IsOrderly w → NotesOnce (begin w) (settle (root_closed w))

-- so each step leads from rest to rest, whatever is called
pub record KeepsRest {V : Type 0} (p : Program V) : Type 0 where
  pub opening : (view : V) → IsAtRest (opening_kept view).world
  pub turned : (k : Kept V) (lack : Option LackPlace) → IsWell p k → IsOrderly k.world → IsAtRest k.world → IsAtRest (kept_turn p lack k).world
  pub hears : (k : Kept V) (said : Option KernelReply) → IsAtRest k.world → IsAtRest (kept_hear k said).world
  pub expires : (k : Kept V) (who : ℕ) → IsAtRest k.world → IsAtRest (kept_expire_next k who).world
  pub settled : (k : Kept V) → IsAtRest k.world → IsAtRest (queued (settle k.world) k.ready k.early).world
  pub expired : (k : Kept V) → IsAtRest k.world → IsAtRest (kept_expired k).world
  pub shut : (k : Kept V) → IsAtRest k.world → IsAtRest (kept_shut k).world
  pub woke : (k : Kept V) (told : ℕ) (ready : List Ready) → IsAtRest k.world → IsAtRest (kept_woke k told ready).world

abbrev pub StepsKeepRest : {V : Type 0} → Program V → Type 0
StepsKeepRest p = IsLawful p → KeepsRest p

-- without links nothing is due behind each step; after an expiry something may be due until the world settles
pub record KeepsSettled {V : Type 0} (p : Program V) : Type 0 where
  pub opening : (view : V) → IsSettled (opening_kept view).world
  pub turned : (k : Kept V) (lack : Option LackPlace) → IsWell p k → IsLinkless k.world → IsOrderly k.world → IsSettled k.world → IsSettled (kept_turn p lack k).world
  pub started : (k : Kept V) → IsLinkless k.world → IsSettled k.world → IsSettled (begin k.world)
  pub settled : (k : Kept V) → IsWell p k → IsLinkless k.world → IsSettled (queued (settle k.world) k.ready k.early).world
  pub expired : (k : Kept V) → IsWell p k → IsLinkless k.world → IsSettled (kept_expired k).world
  pub shut : (k : Kept V) → IsWell p k → IsLinkless k.world → IsSettled (kept_shut k).world
  pub woke : (k : Kept V) (told : ℕ) (ready : List Ready) → IsLinkless k.world → IsSettled k.world → IsSettled (kept_woke k told ready).world

abbrev pub StepsKeepSettled : {V : Type 0} → Program V → Type 0
StepsKeepSettled p = IsLawful p → MakesLinkless p → KeepsSettled p

-- a world in order is sound
abbrev pub OrderIsSound : (V : Type 0) → Type 0
OrderIsSound V = (w : World V) → IsInOrder w → IsSound w

-- where the root is closing everybody is cancelled
abbrev pub CancelsAll : (V : Type 0) → Type 0
CancelsAll V = (w : World V) (who : ℕ) → IsInOrder w → is_closing w.scopes 0 ≡ true → is_there w who ≡ true → is_cancelled w who ≡ true

-- somebody inside a bundle has an answer
pub record HasGoing {V : Type 0} (w : World V) (name : ℕ) : Type 0 where
  pub who : ℕ
  pub inside : Inside w.scopes name who
  pub answered : is_at is_answered w.coroutines who ≡ true

-- where a bundle is closing in which somebody lives, somebody inside it has an answer once nothing is due
abbrev pub GoesOn : (V : Type 0) → Type 0
GoesOn V = (w : World V) (name : ℕ) → IsInOrder w → WaitsLong w → IsSettled w → IsAtRest w → is_closing w.scopes name ≡ true → is_empty w.scopes name ≡ false → HasGoing w name

-- where the root is closing and `main` hasn't ended, somebody is queued
abbrev pub RootGoesOn : {V : Type 0} → Program V → Type 0
RootGoesOn {V} p = (k : Kept V) → IsWell p k → WaitsLong k.world → IsInOrder k.world → IsSettled k.world → IsAtRest k.world → is_closing k.world.scopes 0 ≡ true → k.world.ended ≡ None → has_answer k.ready ≡ true

-- somebody inside a bundle is queued with an answer
pub record HasQueued {V : Type 0} (k : Kept V) (name : ℕ) : Type 0 where
  pub who : ℕ
  pub inside : Inside k.world.scopes name who
  pub queued : occurs who k.ready ≡ 1

-- where a bundle is closing in which somebody lives, somebody inside it is queued
abbrev pub BundleGoesOn : {V : Type 0} → Program V → Type 0
BundleGoesOn {V} p = (k : Kept V) (name : ℕ) → IsWell p k → WaitsLong k.world → IsInOrder k.world → IsSettled k.world → IsAtRest k.world → is_closing k.world.scopes name ≡ true → is_empty k.world.scopes name ≡ false → HasQueued k name
