-- What holds between two steps of all that a core keeps, and what holds besides once the root has begun to close.
use Rattle.dill_rules.specs.Settling.{IsSettled}
use Rattle.std.specs.Prelude.{◌≡◌, ◌≤◌, length, true}
use Rattle.dill_calls.specs.Program.{Program}
use Rattle.laws_queue.specs.Kept.{Kept}
use Rattle.laws_queue.specs.Well.{IsWell}
use Rattle.laws_sound.specs.Laws.{is_closing, IsAtRest}
use Rattle.laws_sound.specs.Linkless.{IsLinkless}
use Rattle.laws_sound.specs.Orderly.{IsOrderly}
use Rattle.laws_debt.specs.Flags.{HasFlags}
use Rattle.laws_debt.specs.Owed.{is_early}
use Rattle.laws_debt.specs.Says.{AllSay, AllLower}

-- Well and in order, and no links are there. What each waits for or has the answer of is its program's last call, nobody is running, and each closing is noted.
pub record IsStable {V : Type 0} (p : Program V) (k : Kept V) : Type 0 where
  pub well : IsWell p k
  pub linkless : IsLinkless k.world
  pub order : IsOrderly k.world
  pub says : AllSay p k.world.coroutines
  pub rest : IsAtRest k.world
  pub flags : HasFlags k.world

-- The root is closing, nothing is due, and each answer lowers that was not there before.
pub record IsClosing {V : Type 0} (p : Program V) (k : Kept V) : Type 0 where
  pub stable : IsStable p k
  pub closing : is_closing k.world.scopes 0 ≡ true
  pub settled : IsSettled k.world
  pub early : k.early ≤ length k.ready
  pub lowers : AllLower (is_early k) k.world.coroutines
