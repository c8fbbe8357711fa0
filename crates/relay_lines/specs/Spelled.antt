-- What the lines of this crate stand for in the definitions of scripts.
use Rattle.dill_script.specs.Statements as script
use Rattle.relay_lines.specs.declared.line.Line.{Line}
use Rattle.relay_lines.specs.declared.line.Line.TheVariants.{Opens, Ends, Says}

-- the line that is spelled so
abbrev pub line_in : Line → script.Line
line_in (Opens name params) = script.Opens name params
line_in Ends = script.Ends
line_in (Says statement) = script.Says statement
