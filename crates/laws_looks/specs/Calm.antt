-- Worlds in which no look finds anything, and what draws no random number there.
use Rattle.std.specs.Prelude.{◌≡◌, ℕ, List, true, Option, Some}
use Rattle.rand_core.specs.Stream.{Stream}
use Rattle.dill_calls.specs.declared.call.Call.{Call}
use Rattle.dill_calls.specs.CallTable.{word_of, named_by}
use Rattle.dill_calls.specs.declared.ran.LackPlace.{LackPlace}
use Rattle.dill_calls.specs.Program.{Program, IsLawful}
use Rattle.dill_kernel.specs.declared.ready.Ready.{Ready}
use Rattle.dill_kernel.specs.declared.replies.KernelReply.{KernelReply}
use Rattle.dill_handles.specs.declared.entry.Entry.{Entry}
use Rattle.dill_stack.specs.declared.want.Want.{Want}
use Rattle.dill_stack.specs.declared.want.ReadOut.TheVariants.{Need}
use Rattle.dill_stack.specs.Interface.{Held}
use Rattle.dill_stack.specs.Read.{outcome}
use Rattle.dill_stack.specs.Receiving.{read_of}
use Rattle.dill_rules.specs.declared.thing.Thing.{Thing}
use Rattle.dill_rules.specs.World.{World, begin}
use Rattle.dill_rules.specs.Links.{Link, look}
use Rattle.dill_rules.specs.Sockets.{link_of}
use Rattle.dill_rules.specs.Directions.{is_send, is_receive, asked}
use Rattle.dill_rules.specs.LinkAnswers.{still, look_of, reads}
use Rattle.dill_rules.specs.Expiring.{expire_one}
use Rattle.dill_rules.specs.Settling.{IsSettled, settle}
use Rattle.dill_rules.specs.State.{State, expired, shut}
use Rattle.laws_queue.specs.Kept.{Kept, opening_kept, queued, kept_turn, kept_hear, kept_expired, kept_shut, kept_woke, lend_kept}
use Rattle.laws_queue.specs.Well.{IsWell}
use Rattle.laws_sound.specs.Orderly.{IsOrderly}
use Rattle.laws_looks.specs.Readers.{In, Pends, LooksApart}

-- no look of this call finds anything at this stack
pub record Spent (call : Call) (s : Held) : Type 0 where
  pub look : (u : Stream) → look_of call u s ≡ still u s
  pub read : (want : Want) → asked call ≡ Some want → read_of want s ≡ outcome 0 s.layers Need

-- a live number names the link
pub record NamesIn (es : List (Entry Thing)) (n l : ℕ) : Type 0 where
  pub entry : Entry Thing
  pub there : In entry es
  pub number : entry.number ≡ n
  pub link : link_of entry.thing ≡ Some l

module _ {V : Type 0} where
  abbrev pub Names : World V → ℕ → ℕ → Type 0
  Names w n l = NamesIn w.handles.entries n l

  -- No look finds anything, and where a send is pending none but a receive looks.
  pub record Restful (w : World V) : Type 0 where
    pub calm : (who : ℕ) (call : Call) (n l : ℕ) (x : Link) → Pends w who call → reads call ≡ true → named_by call ≡ Some n → Names w n l → look w.links l ≡ Some x → Spent call x.stack
    pub apart : (who other : ℕ) (call more : Call) (n m l : ℕ) → Pends w who call → Pends w other more → is_send (word_of call) ≡ true → reads more ≡ true → named_by call ≡ Some n → named_by more ≡ Some m → Names w n l → Names w m l → is_receive (word_of more) ≡ true

  -- what holds between two steps of who looks at stacks: they are apart, nothing is due, and no look finds anything
  pub record IsCalm (w : World V) : Type 0 where
    pub apart : LooksApart w
    pub settled : IsSettled w
    pub restful : Restful w

-- Behind a whole settling nothing is due and no look finds anything. Where that is so, settling, an expiry, all that
-- expires and the closing of the root draw no random number and leave it so.
pub record DrawsNothing (V : Type 0) : Type 0 where
  pub settles : (w : World V) → IsOrderly w → LooksApart w → IsSettled (settle w) × Restful (settle w)
  pub settled : (w : World V) → Restful w → Restful (settle w) × ((settle w).random ≡ w.random)
  pub expires : (w : World V) (who : ℕ) → Restful w → Restful (expire_one w who) × ((expire_one w who).random ≡ w.random)
  pub expired : (s : State V) → Restful s.world → Restful (expired s).world × ((expired s).world.random ≡ s.world.random)
  pub shut : (s : State V) → Restful s.world → Restful (shut s).world × ((shut s).world.random ≡ s.world.random)

-- so it is between two steps of programs that keep their law, whatever they call and whatever the kernel replies
pub record KeepsCalm {V : Type 0} (p : Program V) : Type 0 where
  pub opening : (view : V) → IsCalm (opening_kept view).world
  pub lent : (k : Kept V) (random : Stream) → IsCalm k.world → IsCalm (lend_kept k random).world
  pub turned : (k : Kept V) (lack : Option LackPlace) → IsWell p k → IsOrderly k.world → IsCalm k.world → IsCalm (kept_turn p lack k).world
  pub hears : (k : Kept V) (said : Option KernelReply) → IsWell p k → IsOrderly k.world → IsCalm k.world → IsCalm (kept_hear k said).world
  pub started : (k : Kept V) → IsCalm k.world → IsCalm (begin k.world)
  pub settled : (k : Kept V) → IsOrderly k.world → LooksApart k.world → IsCalm (queued (settle k.world) k.ready k.early).world
  pub expired : (k : Kept V) → IsOrderly k.world → IsCalm k.world → IsCalm (kept_expired k).world
  pub shut : (k : Kept V) → IsOrderly k.world → IsCalm k.world → IsCalm (kept_shut k).world
  pub woke : (k : Kept V) (told : ℕ) (ready : List Ready) → IsCalm k.world → IsCalm (kept_woke k told ready).world

abbrev pub StepsKeepCalm : {V : Type 0} → Program V → Type 0
StepsKeepCalm p = IsLawful p → KeepsCalm p
