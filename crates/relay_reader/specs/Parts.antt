-- The reasons against a line in parts: of its bytes, of its keyword and place, of what it spells, and of the limits.
use Rattle.std.specs.Prelude.{ℕ, List, [], ◌∷◌, ◌++◌, Bool, not, ◌&&◌, ◌||◌, Option, Some, is_none}
use Rattle.std.specs.List.{list_all}
use Rattle.dill_calls.specs.declared.word.Word.{Word}
use Rattle.dill_script.specs.declared.line.Block.{Block}
use Rattle.dill_script.specs.declared.line.Keyword.{Keyword}
use Rattle.dill_script.specs.declared.refusal.Reason.{Reason}
use Rattle.dill_script.specs.declared.refusal.Reason.TheVariants.{NoVersion, BadByte, BadText, UnknownWord, NotBuilt, BadBlock, BadOperand, RepeatedName, TooLarge}
use Rattle.dill_script.specs.declared.script.Program.{Program}
use Rattle.dill_script.specs.Blocks.{is_empty, may_stand, blocks_behind}
use Rattle.dill_script.specs.Contexts.{Context, adding, behind, open_behind}
use Rattle.dill_script.specs.Headings.{Heading}
use Rattle.dill_script.specs.Lines.{is_line_byte, has_tokens}
use Rattle.dill_script.specs.Refusals.{is_version, is_some_with, is_unbuilt, names_again, passes_limit}
use Rattle.dill_script.specs.Statements.{Line, line_of}
use Rattle.dill_script.specs.Tokens.{tokens}

-- those of its bytes, where a line before it had tokens or not
abbrev pub byte_faults : Bool → List ℕ → List (Bool × Reason)
byte_faults begun line = (not begun && (has_tokens line && not (is_version (tokens line))), NoVersion) ∷ (not (list_all is_line_byte line), BadByte) ∷ (is_none (tokens line), BadText) ∷ []

-- those of its keyword and its place
abbrev pub word_faults : (Word → Bool) → List Block → Bool → Option Keyword → List (Bool × Reason)
word_faults built open_blocks last word = (is_none word, UnknownWord)
    ∷ (is_some_with (is_unbuilt built) word, NotBuilt)
    ∷ (is_some_with (λ keyword. not (may_stand open_blocks keyword)) word || (last && not (is_empty (open_behind open_blocks word))), BadBlock)
    ∷ []

-- those of what it spells, behind programs that are whole
abbrev pub spelling_faults : List Program → Option Line → List (Bool × Reason)
spelling_faults whole line = (is_none line, BadOperand) ∷ (is_some_with (names_again whole) line, RepeatedName) ∷ []

-- what stands behind a line of this keyword that spells this
abbrev pub behind_line : Context → Keyword → Line → Context
behind_line context keyword line = record (adding context (Some line)) { open_blocks = blocks_behind context.open_blocks keyword }

-- those of the limits, behind the line
abbrev pub limit_faults : Context → List (Bool × Reason)
limit_faults context = (passes_limit context, TooLarge) ∷ []

-- those of a line of this head
abbrev pub heading_faults : (Word → Bool) → Context → Bool → Heading → List (Bool × Reason)
heading_faults built context last heading = word_faults built context.open_blocks last heading.keyword ++ (spelling_faults context.whole (line_of heading) ++ limit_faults (behind context (Some heading)))

-- those of a line that belongs to no program
abbrev pub passing_faults : List Block → Bool → List (Bool × Reason)
passing_faults open_blocks last = (last && not (is_empty open_blocks), BadBlock) ∷ []
