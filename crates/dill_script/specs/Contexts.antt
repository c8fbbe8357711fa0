-- What stands before a line: the programs that are whole, the one that is open, and its open blocks.
use Rattle.std.specs.Prelude.{ℕ, List, [], ◌∷◌, ◌++◌, Bool, true, false, ◌&&◌, ◌||◌, if◌then◌else◌, Option, Some, None, unwrap_or, count_by}
use Rattle.dill_script.specs.declared.line.Block.{Block}
use Rattle.dill_script.specs.declared.line.Block.TheVariants as blocks
use Rattle.dill_script.specs.declared.line.Keyword.{Keyword}
use Rattle.dill_script.specs.declared.script.Program.{Program}
use Rattle.dill_script.specs.declared.statement.Statement.{Statement}
use Rattle.dill_script.specs.declared.statement.Statement.TheVariants as statements
use Rattle.dill_script.specs.Blocks.{blocks_behind}
use Rattle.dill_script.specs.Headings.{Heading, heading_of}
use Rattle.dill_script.specs.Lines.{has_tokens}
use Rattle.dill_script.specs.Statements.{Line, Opens, Ends, Says, line_of}
use Rattle.dill_script.specs.Tokens.{tokens}

-- what the lines before a line gave
pub record Context : Type 0 where
  -- one of them had tokens
  pub begun : Bool
  -- the programs that are ended, in the order of the text
  pub whole : List Program
  -- the program that is open, where a block is
  pub current : Program
  -- the open blocks, innermost first
  pub open_blocks : List Block

-- a program without statements
abbrev pub bare : List ℕ → ℕ → Program
bare name params = record { name = name; params = params; statements = [] }

-- before the first line
abbrev pub opening : Context
opening = record { begun = false; whole = []; current = bare [] 0; open_blocks = [] }

-- a statement that makes a call; an `end` does for a loop
abbrev pub is_place : Statement → Bool
is_place statements.EndLoop = true
is_place (statements.Keep tried register value) = true
is_place (statements.Join tried register value) = true
is_place (statements.Call tried dest form) = true
is_place _ = false

-- how many places statements have
abbrev pub places : List Statement → ℕ
places list = count_by is_place list

-- the open program with one more statement
abbrev pub saying : Context → Statement → Context
saying context statement = record context { current = record { name = context.current.name; params = context.current.params; statements = context.current.statements ++ statement ∷ [] } }

-- the open program is whole
abbrev pub ended : Context → Context
ended context = record context { whole = context.whole ++ context.current ∷ []; current = bare [] 0 }

-- an `end` ends the innermost block: an `if`, a loop or the program
abbrev pub ending : Context → List Block → Context
ending context (blocks.If ∷ outer) = saying context statements.EndIf
ending context (blocks.Else ∷ outer) = saying context statements.EndIf
ending context (blocks.Loop ∷ outer) = saying context statements.EndLoop
ending context _ = ended context

-- what a line adds to the programs
abbrev pub adding : Context → Option Line → Context
adding context (Some (Opens name params)) = record context { current = bare name params }
adding context (Some Ends) = ending context context.open_blocks
adding context (Some (Says statement)) = saying context statement
adding context None = context

-- the open blocks behind a line
abbrev pub open_behind : List Block → Option Keyword → List Block
open_behind open_blocks None = open_blocks
open_behind open_blocks (Some keyword) = blocks_behind open_blocks keyword

-- the head of a line that has tokens
abbrev pub head_of : List ℕ → Heading
head_of line = heading_of (unwrap_or (tokens line) [])

-- the head of a line that belongs to programs: it has tokens, and isn't the first that has
abbrev pub said : Context → List ℕ → Option Heading
said context line = if context.begun && has_tokens line then Some (head_of line) else None

-- the context behind a line of this head
abbrev pub behind : Context → Option Heading → Context
behind context None = context
behind context (Some heading) = record (adding context (line_of heading)) { open_blocks = open_behind context.open_blocks heading.keyword }

-- the context behind a line
abbrev pub after : Context → List ℕ → Context
after context line = record (behind context (said context line)) { begun = context.begun || has_tokens line }
