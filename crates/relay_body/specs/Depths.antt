-- On the way to where statements are run again: how many loops are open there.
use Rattle.std.specs.Prelude.{◌≡◌, ◌≤◌, ℕ, zero, suc, List, [], ◌∷◌, length, Bool, true, if◌then◌else◌}
use Rattle.dill_script.specs.declared.line.Block.{Block}
use Rattle.dill_script.specs.declared.statement.Statement.{Statement}
use Rattle.dill_script.specs.Blocks.{is_loop}
use Rattle.dill_script.specs.Nesting.{is_branch}
use Rattle.dill_meaning.specs.Views.{ScriptView, statements_of}
use Rattle.dill_meaning.specs.Walks.{Mode, Runs, ToElse, ToEndIf, ToEndLoop, ToFinally}
use Rattle.relay_body.specs.Running.{loops_open, blocks_at, are_open, is_runnable}

-- without the innermost blocks up to so many of this sort
abbrev pub below : (Block → Bool) → ℕ → List Block → List Block
below sort zero open_blocks = open_blocks
below sort (suc n) [] = []
below sort (suc n) (block ∷ outer) = if sort block then below sort n outer else below sort (suc n) outer

-- how many loops are open where statements are run again
abbrev pub loops_left : Mode → List Block → ℕ
loops_left Runs open_blocks = loops_open open_blocks
loops_left (ToElse depth) open_blocks = loops_open (below is_branch (suc depth) open_blocks)
loops_left (ToEndIf depth) open_blocks = loops_open (below is_branch (suc depth) open_blocks)
loops_left (ToEndLoop depth) open_blocks = loops_open (below is_loop (suc depth) open_blocks)
loops_left ToFinally open_blocks = 0

-- a view on its way has entered no more loops than that
pub record Fits (list : List Statement) (mode : Mode) (view : ScriptView) : Type 0 where
  pub opens : are_open list view.rounds ≡ true
  pub few : length view.rounds ≤ loops_left mode (blocks_at list view.passed)

-- a view of a script that can be run, on its way
pub record IsWalking (mode : Mode) (view : ScriptView) : Type 0 where
  pub runnable : is_runnable view.script ≡ true
  pub fits : Fits (statements_of view) mode view
