use Rattle.std.proofs.Common.{◌≡◌, ◌∙◌, ◌++◌, ℕ, List, Option, Some, option_and_then, sym, ap, subst}
use Rattle.dill_script.specs.Contexts.{Context, behind}
use Rattle.dill_script.specs.Reading.{started_by}
use Rattle.dill_script.specs.Refusals.{first_reason}
use Rattle.dill_script.specs.Statements.{line_of}
use Rattle.relay_lines.specs.Spelled.{line_in}
use Rattle.dill_calls.specs.CallTable.{is_built}
use Rattle.relay_reader.specs.Parts.{word_faults, spelling_faults, limit_faults}
use Rattle.relay_reader.specs.Telling.{Tells}
use Rattle.relay_reader.proofs.Reasons.{faults_first, faults_later, tells_later, told_error, behind_is}
use Rattle.relay_reader.proofs.Said.{tells_more}
use Rattle.relay_reader.proofs.context.Context.read_heading.Goals as goal

pub returns-in_err-keyword : goal.returns-in_err-keyword
returns-in_err-keyword c =
    let state = c.args.self.now in
    let heading = c.args.heading.now in
    let word = word_faults is_built state.open_blocks c.args.last heading.keyword in
    let rest = spelling_faults state.whole (line_of heading) ++ limit_faults (behind state (Some heading)) in
    told_error c.from_residual.result c.in_err-keyword.field-0.0 _ _ c.from_residual.ensures.1 (faults_first _ word rest c.in_err-keyword.ensures)

pub returns-in_err-line : goal.returns-in_err-line
returns-in_err-line c =
    let state = c.args.self.now in
    let heading = c.args.heading.now in
    let word = word_faults is_built state.open_blocks c.args.last heading.keyword in
    let spelling = spelling_faults state.whole (line_of heading) in
    let rest = limit_faults (behind state (Some heading)) in
    told_error c.from_residual-in_err-line.result c.in_err-line.field-0.0 _ _ c.from_residual-in_err-line.ensures.1 (faults_later _ word (spelling ++ rest) c.in_ok-keyword.ensures.0 (faults_first _ spelling rest c.in_err-line.ensures))

pub returns : goal.returns
returns c =
    let state = c.args.self.now in
    let heading = c.args.heading.now in
    let word = word_faults is_built state.open_blocks c.args.last heading.keyword in
    let spelling = spelling_faults state.whole (line_of heading) in
    let rest = limit_faults (behind state (Some heading)) in
    let here = behind_is state heading c.in_ok-keyword.keyword (line_in c.in_ok-line.line) c.in_ok-keyword.ensures.1 c.in_ok-line.ensures.1 in
    let spelled = c.in_ok-line.ensures.1 in
    let started = started_by (line_in c.in_ok-line.line) in
    let On : Context → Type 0 = λ context. Tells c.go_on.result (first_reason (limit_faults context)) (λ x. (c.go_on.new.self ≡ context) × (x ≡ started)) in
    let Kept : Option (List ℕ × ℕ) → Type 0 = λ x. (c.go_on.new.self ≡ behind state (Some heading)) × (x ≡ option_and_then started_by (line_of heading)) in
    let kept = tells_more c.go_on.result (first_reason (limit_faults (behind state (Some heading)))) (λ x. (c.go_on.new.self ≡ behind state (Some heading)) × (x ≡ started)) Kept
    (λ right x is. (is.0, is.1 ∙ ap (option_and_then started_by) (sym spelled)))
    (subst On (sym here) c.go_on.ensures) in
    tells_later c.go_on.result word (spelling ++ rest) Kept c.in_ok-keyword.ensures.0 (tells_later c.go_on.result spelling rest Kept c.in_ok-line.ensures.0 kept)
