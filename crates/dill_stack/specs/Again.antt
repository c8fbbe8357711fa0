-- A look that finds nothing to answer has used all that it may use: a second one changes nothing and draws no random word.
use Rattle.std.specs.Prelude.{◌≡◌}
use Rattle.rand_core.specs.Stream.{Stream}
use Rattle.dill_stack.specs.declared.want.ReadOut.TheVariants.{Need}
use Rattle.dill_stack.specs.declared.want.Want.{Want}
use Rattle.dill_stack.specs.Held.{Held}
use Rattle.dill_stack.specs.Receiving.{Looked, read}
use Rattle.dill_stack.specs.Parting.{detach_finish}
use Rattle.dill_stack.specs.Greeting.{Heard, greeted}

-- a look that finds nothing
abbrev pub still : Stream → Held → Looked
still random s = record { stack = s; said = Need; random = random }

-- a handshake's look that finds nothing
abbrev pub unheard : Held → Heard
unheard s = record { stack = s; said = Need }

pub record LooksAgain : Type 0 where
  pub reads : (want : Want) (u v : Stream) (s : Held) → (read want u s).said ≡ Need → read want v (read want u s).stack ≡ still v (read want u s).stack
  pub finishes : (u v : Stream) (s : Held) → (detach_finish u s).said ≡ Need → detach_finish v (detach_finish u s).stack ≡ still v (detach_finish u s).stack
  pub greets : (s : Held) → (greeted s).said ≡ Need → greeted (greeted s).stack ≡ unheard (greeted s).stack
