-- How many links are kept: one for each pending call that makes a link and has none yet.
use Rattle.std.specs.Prelude.{◌≡◌, ◌⊎◌, ℕ, ◌-◌, ◌≤◌, List, find, Bool, true, false, Option, Some, None, if◌then◌else◌}
use Rattle.dill_base.specs.Maps.{if_some}
use Rattle.dill_calls.specs.declared.ran.LackPlace.{LackPlace}
use Rattle.dill_calls.specs.Program.{Program, IsLawful}
use Rattle.dill_kernel.specs.declared.ready.Ready.{Ready}
use Rattle.dill_calls.specs.declared.call.Call.{Call}
use Rattle.dill_calls.specs.declared.word.Word.{Word}
use Rattle.dill_calls.specs.declared.word.Word.TheVariants as words
use Rattle.dill_calls.specs.CallTable.{word_of}
use Rattle.dill_kernel.specs.declared.replies.KernelReply.{KernelReply}
use Rattle.dill_rules.specs.declared.coroutine.Coroutine.{Coroutine}
use Rattle.dill_rules.specs.declared.coroutine.Mode.{Mode}
use Rattle.dill_rules.specs.World.{World, call_of, pending_call, begin}
use Rattle.dill_rules.specs.Giving.{is_connecting_for}
use Rattle.dill_rules.specs.Links.{Links}
use Rattle.dill_rules.specs.Naming.{links}
use Rattle.dill_rules.specs.Settling.{settle}
use Rattle.laws_queue.specs.Kept.{Kept, opening_kept, queued, kept_turn, kept_hear, kept_expire_next, kept_expired, kept_shut, kept_woke}
use Rattle.laws_queue.specs.Well.{bit, is_at, IsWell}
use Rattle.laws_sound.specs.Orderly.{weigh, IsOrderly}
use Rattle.laws_looks.specs.Readers.{LooksApart}

-- how many links connect for a coroutine, and aren't closing
abbrev pub connects_for : Links → ℕ → ℕ
connects_for l who = weigh (λ x. bit (is_connecting_for who x)) l.all

abbrev pub is_connect : Word → Bool
is_connect words.TcpConnect = true
is_connect _ = false

-- it is pending in a `tcp_connect`
abbrev pub connects : Mode → Bool
connects mode = if_some (pending_call mode) false (λ call. is_connect (word_of call))

-- one where it is pending in a listen, an accept or a connect that has no link yet
abbrev pub awaits : {V : Type 0} → Links → Coroutine V → ℕ
awaits l c = if_some (pending_call c.mode) 0 (λ call. if links (word_of call) then 1 - connects_for l c.number else 0)

-- As many links are kept as pending calls that make a link have none; and at most one link connects for a coroutine, which is pending in a connect.
pub record KeepsLinks {V : Type 0} (w : World V) : Type 0 where
  pub kept : weigh (awaits w.links) w.coroutines ≡ w.links.kept
  pub once : (who : ℕ) → connects_for w.links who ≤ bit (is_at connects w.coroutines who)

-- So one is kept, as a link is made or given back, where somebody is pending in a listen or an accept, or in a connect without a link.
abbrev pub LinksAreKept : (V : Type 0) → Type 0
LinksAreKept V = (w : World V) (who : ℕ) (call : Call) → KeepsLinks w → call_of w who ≡ Some call → links (word_of call) ≡ true → (is_connect (word_of call) ≡ false) ⊎ (find (is_connecting_for who) w.links.all ≡ None) → 1 ≤ w.links.kept

-- so it is between two steps of programs that keep their law, whatever they call and whatever the kernel replies
pub record CountsLinks {V : Type 0} (p : Program V) : Type 0 where
  pub opening : (view : V) → KeepsLinks (opening_kept view).world
  pub turned : (k : Kept V) (lack : Option LackPlace) → IsWell p k → IsOrderly k.world → LooksApart k.world → KeepsLinks k.world → KeepsLinks (kept_turn p lack k).world
  pub hears : (k : Kept V) (said : Option KernelReply) → IsWell p k → LooksApart k.world → KeepsLinks k.world → KeepsLinks (kept_hear k said).world
  pub started : (k : Kept V) → KeepsLinks k.world → KeepsLinks (begin k.world)
  pub expires : (k : Kept V) (who : ℕ) → IsWell p k → LooksApart k.world → KeepsLinks k.world → KeepsLinks (kept_expire_next k who).world
  pub settled : (k : Kept V) → IsWell p k → LooksApart k.world → KeepsLinks k.world → KeepsLinks (queued (settle k.world) k.ready k.early).world
  pub expired : (k : Kept V) → IsWell p k → LooksApart k.world → KeepsLinks k.world → KeepsLinks (kept_expired k).world
  pub shut : (k : Kept V) → IsWell p k → LooksApart k.world → KeepsLinks k.world → KeepsLinks (kept_shut k).world
  pub woke : (k : Kept V) (told : ℕ) (ready : List Ready) → IsWell p k → LooksApart k.world → KeepsLinks k.world → KeepsLinks (kept_woke k told ready).world

abbrev pub StepsCountLinks : {V : Type 0} → Program V → Type 0
StepsCountLinks p = IsLawful p → CountsLinks p
