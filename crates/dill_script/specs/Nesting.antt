-- Blocks by statements: which are open behind each, and that each stands where it may, its loops at most four deep.
use Rattle.std.specs.Prelude.{◌≡◌, ℕ, List, [], ◌∷◌, Bool, true, false, ◌&&◌, nat_lt, Ok}
use Rattle.std.specs.List.{list_all}
use Rattle.dill_calls.specs.declared.word.Word.{Word}
use Rattle.dill_script.specs.declared.line.Block.{Block}
use Rattle.dill_script.specs.declared.line.Block.TheVariants as blocks
use Rattle.dill_script.specs.declared.script.Program.{Program}
use Rattle.dill_script.specs.declared.statement.Statement.{Statement}
use Rattle.dill_script.specs.declared.statement.Statement.TheVariants as statements
use Rattle.dill_script.specs.Blocks.{is_loop, is_in_if, is_in_program, outside, loops}
use Rattle.dill_script.specs.Reading.{script_with}

-- an `if`, before its `else` or behind it
abbrev pub is_branch : Block → Bool
is_branch blocks.If = true
is_branch blocks.Else = true
is_branch _ = false

-- the innermost open block is of this sort
abbrev pub is_inside : (Block → Bool) → List Block → Bool
is_inside sort [] = false
is_inside sort (block ∷ outer) = sort block

-- the blocks that are open behind a statement, of those before it
abbrev pub blocks_after : List Block → Statement → List Block
blocks_after open_blocks (statements.If cond) = blocks.If ∷ open_blocks
blocks_after open_blocks (statements.Loop rounds) = blocks.Loop ∷ open_blocks
blocks_after open_blocks statements.Else = blocks.Else ∷ outside open_blocks
blocks_after open_blocks statements.Finally = blocks.Finally ∷ outside open_blocks
blocks_after open_blocks statements.EndIf = outside open_blocks
blocks_after open_blocks statements.EndLoop = outside open_blocks
blocks_after open_blocks _ = open_blocks

-- where these blocks are open, the statement ends or divides the innermost, or opens a fourth loop at most
abbrev pub stands : List Block → Statement → Bool
stands open_blocks statements.Else = is_in_if open_blocks
stands open_blocks statements.Finally = is_in_program open_blocks
stands open_blocks statements.EndIf = is_inside is_branch open_blocks
stands open_blocks statements.EndLoop = is_inside is_loop open_blocks
stands open_blocks (statements.Loop rounds) = nat_lt (loops open_blocks) 4
stands open_blocks _ = true

-- so does each of these statements
abbrev pub nests : List Block → List Statement → Bool
nests open_blocks [] = true
nests open_blocks (statement ∷ rest) = stands open_blocks statement && nests (blocks_after open_blocks statement) rest

-- the blocks that are open behind these statements
abbrev pub blocks_behind_all : List Block → List Statement → List Block
blocks_behind_all open_blocks [] = open_blocks
blocks_behind_all open_blocks (statement ∷ rest) = blocks_behind_all (blocks_after open_blocks statement) rest

-- a program is open before its first statement, and nothing else
abbrev pub in_program : List Block
in_program = blocks.Program ∷ []

-- so does each statement of a program
abbrev pub is_nested : Program → Bool
is_nested program = nests in_program program.statements

-- so it is in what is read
abbrev pub ReadsNested : Type 0
ReadsNested = (built : Word → Bool) (text : List ℕ) (script : List Program) → script_with built text ≡ Ok script → list_all is_nested script ≡ true
