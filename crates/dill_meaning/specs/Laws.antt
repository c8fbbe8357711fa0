-- What else holds of the programs of scripts.
use Rattle.std.specs.Prelude.{◌≡◌, ◌+◌, List, [], take, true, map, is_some}
use Rattle.std.specs.List.{list_all}
use Rattle.dill_base.specs.declared.deadline.Deadline.TheVariants.{Never}
use Rattle.dill_calls.specs.CallTable.{build_takes_memory}
use Rattle.dill_calls.specs.declared.word.Word.{Word}
use Rattle.dill_calls.specs.Program.{Begins}
use Rattle.dill_script.specs.Contexts.{places}
use Rattle.dill_script.specs.declared.form.Kind.{Kind}
use Rattle.dill_script.specs.declared.form.Kind.TheVariants as kinds
use Rattle.dill_script.specs.declared.script.Program.{Program}
use Rattle.dill_script.specs.Spelling.{is_sized}
use Rattle.dill_script.specs.Table.{kinds_of, call_words}
use Rattle.dill_meaning.specs.Calls.{call_of}
use Rattle.dill_meaning.specs.Meaning.{scripts, left, most, may_lack}
use Rattle.dill_meaning.specs.Values.{Value, Number, Octets, Until, Where, First, Program as ProgramNumber}
use Rattle.dill_meaning.specs.Views.{ScriptView, statements_of, main_of}

-- a script within its limits begins at `main`
abbrev pub MainBegins : Type 0
MainBegins = (script : List Program) → list_all is_sized script ≡ true → Begins scripts (main_of script)

-- what is left at a place is one more than all places, less those up to it
abbrev pub LeftCounts : Type 0
LeftCounts = (view : ScriptView) → left view + places (take view.passed (statements_of view)) ≡ most view

-- some value of a kind
abbrev pub some_value : Kind → Value
some_value kinds.Num = Number 0
some_value kinds.Bytes = Octets []
some_value kinds.Wait = Until Never
some_value kinds.Address = Where (record { ip = []; port = 0 })
some_value kinds.Program = ProgramNumber 0
some_value kinds.Order = First true
some_value kinds.Mode = First true
some_value kinds.Role = First true

-- the calls for whose building a script takes memory are those for which any program takes some
abbrev pub LacksAlike : Type 0
LacksAlike = (word : Word) → may_lack word ≡ build_takes_memory word

-- each word of the table makes its call of operands of its kinds
abbrev pub MakesEachCall : Type 0
MakesEachCall = list_all (λ word. is_some (call_of word (map some_value (kinds_of word)))) call_words ≡ true
