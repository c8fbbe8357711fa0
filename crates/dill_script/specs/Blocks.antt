-- Blocks: which are open behind a line, and where each line may stand.
use Rattle.std.specs.Prelude.{ℕ, List, [], ◌∷◌, Bool, true, false, not, ◌&&◌, count_by}
use Rattle.std.specs.List.{list_any}
use Rattle.dill_script.specs.declared.line.Block.{Block}
use Rattle.dill_script.specs.declared.line.Block.TheVariants as blocks
use Rattle.dill_script.specs.declared.line.Keyword.{Keyword}
use Rattle.dill_script.specs.declared.line.Keyword.TheVariants as keywords

-- the list has no element
abbrev pub is_empty : {X : Type 0} → List X → Bool
is_empty [] = true
is_empty (x ∷ xs) = false

-- the block is a loop
abbrev pub is_loop : Block → Bool
is_loop blocks.Loop = true
is_loop _ = false

-- a program's part behind `finally`
abbrev pub is_finally : Block → Bool
is_finally blocks.Finally = true
is_finally _ = false

-- the innermost open block is an `if` without its `else`
abbrev pub is_in_if : List Block → Bool
is_in_if (blocks.If ∷ outer) = true
is_in_if _ = false

-- no block but a program before its `finally` is open
abbrev pub is_in_program : List Block → Bool
is_in_program (blocks.Program ∷ []) = true
is_in_program _ = false

-- some block is open, and none is behind `finally`
abbrev pub is_before_finally : List Block → Bool
is_before_finally open_blocks = not (is_empty open_blocks) && not (list_any is_finally open_blocks)

-- where blocks are open, innermost first, a line of this keyword may stand
abbrev pub may_stand : List Block → Keyword → Bool
may_stand open_blocks keywords.Program = is_empty open_blocks
may_stand open_blocks keywords.Else = is_in_if open_blocks
may_stand open_blocks keywords.Finally = is_in_program open_blocks
may_stand open_blocks keywords.Break = list_any is_loop open_blocks
may_stand open_blocks keywords.Loop = is_before_finally open_blocks
may_stand open_blocks keywords.Return = is_before_finally open_blocks
may_stand open_blocks keywords.Fail = is_before_finally open_blocks
may_stand open_blocks _ = not (is_empty open_blocks)

-- without the innermost
abbrev pub outside : List Block → List Block
outside [] = []
outside (block ∷ outer) = outer

-- the blocks that are open behind a line of this keyword
abbrev pub blocks_behind : List Block → Keyword → List Block
blocks_behind open_blocks keywords.Program = blocks.Program ∷ open_blocks
blocks_behind open_blocks keywords.If = blocks.If ∷ open_blocks
blocks_behind open_blocks keywords.Loop = blocks.Loop ∷ open_blocks
blocks_behind open_blocks keywords.Else = blocks.Else ∷ outside open_blocks
blocks_behind open_blocks keywords.Finally = blocks.Finally ∷ outside open_blocks
blocks_behind open_blocks keywords.End = outside open_blocks
blocks_behind open_blocks _ = open_blocks

-- how many of them are loops
abbrev pub loops : List Block → ℕ
loops open_blocks = count_by is_loop open_blocks
