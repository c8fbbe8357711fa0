-- The programs of scripts whose calls are plain: which views their coroutines have.
use Rattle.std.specs.Prelude.{ℕ, zero, suc, List, [], ◌∷◌, length, take, Bool, true, ◌&&◌, nat_le, Option, Some}
use Rattle.std.specs.List.{list_all}
use Rattle.dill_calls.specs.Program.{Program}
use Rattle.dill_script.specs.declared.line.Block.{Block}
use Rattle.dill_script.specs.declared.line.Block.TheVariants as blocks
use Rattle.dill_script.specs.declared.script.Program.{Program as ScriptProgram}
use Rattle.dill_script.specs.declared.statement.Statement.{Statement}
use Rattle.dill_script.specs.declared.statement.Statement.TheVariants as statements
use Rattle.dill_script.specs.Fitting.{is_formed, all_say}
use Rattle.dill_script.specs.Nesting.{blocks_behind_all, in_program, is_nested}
use Rattle.dill_script.specs.Spelling.{is_sized, takes_its}
use Rattle.dill_meaning.specs.Meaning.{next, short, said, left, most, knows, child}
use Rattle.dill_meaning.specs.Views.{ScriptView, Round, statements_of, last_of}
use Rattle.dill_calls.specs.CallTable.{is_built}

-- a statement whose call, if it is written as one, is plain
abbrev pub says_plain : Statement → Bool
says_plain (statements.Call tried dest form) = is_built form.word
says_plain _ = true

-- a script within its limits, whose blocks are nested, and whose calls are formed and plain
abbrev pub is_runnable : List ScriptProgram → Bool
is_runnable script = nat_le (length script) 256 && (list_all is_sized script && (list_all takes_its script && (list_all is_nested script && (all_say is_formed script && all_say says_plain script))))

-- how many of these blocks are loops
abbrev pub loops_open : List Block → ℕ
loops_open [] = zero
loops_open (blocks.Loop ∷ outer) = suc (loops_open outer)
loops_open (block ∷ outer) = loops_open outer

-- the blocks that are open behind so many statements of a program
abbrev pub blocks_at : List Statement → ℕ → List Block
blocks_at list passed = blocks_behind_all in_program (take passed list)

-- loops that are entered, the innermost first: at the first statement of each no fewer are open than that one and those around it
abbrev pub are_open : List Statement → List Round → Bool
are_open list [] = true
are_open list (round ∷ outer) = nat_le (suc (length outer)) (loops_open (blocks_at list round.first)) && are_open list outer

-- with one more behind the `end` of a loop, which is left by what its turn is answered
abbrev pub with_ended : Option Statement → ℕ → ℕ
with_ended (Some statements.EndLoop) loops = suc loops
with_ended _ loops = loops

-- a view whose loops are open, by the statements of its program: it has entered no more than are open where it is
abbrev pub opens_in : List Statement → ScriptView → Bool
opens_in list view = are_open list view.rounds && nat_le (length view.rounds) (with_ended (last_of list view.passed) (loops_open (blocks_at list view.passed)))

-- a view whose loops are open
abbrev pub has_open : ScriptView → Bool
has_open view = opens_in (statements_of view) view

-- a view of a script that can be run, with loops that are open there
abbrev pub is_running : ScriptView → Bool
is_running view = is_runnable view.script && has_open view

-- the programs of scripts that can be run
abbrev pub running : Program ScriptView
running = record { real = is_running; next = next; short = short; said = said; left = left; most = most; knows = knows; child = child }
