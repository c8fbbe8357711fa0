use Rattle.std.proofs.Common.{◌≡◌, ◌∙◌, List, Some, ap, subst}
use Rattle.dill_script.specs.declared.script.Program.{Program}
use Rattle.dill_script.specs.Refusals.{first_reason}
use Rattle.dill_script.specs.Statements.{line_of}
use Rattle.relay_lines.specs.Spelled.{line_in}
use Rattle.relay_reader.specs.Parts.{spelling_faults}
use Rattle.relay_reader.specs.Telling.{Tells}
use Rattle.relay_reader.proofs.context.Context.spelled.Goals as goal

pub returns : goal.returns
returns c =
    let heading = c.args.heading.now in
    let same : c.as_slice.result.now ≡ c.args.self.now.whole = c.as_slice.ensures ∙ ap (λ state. state.whole) c.self.view_is in
    let Behind : List Program → Type 0 = λ whole. Tells c.judge_spelling.result (first_reason (spelling_faults whole (line_of heading))) (λ line. line_of heading ≡ Some (line_in line)) in
    subst Behind same c.judge_spelling.ensures
