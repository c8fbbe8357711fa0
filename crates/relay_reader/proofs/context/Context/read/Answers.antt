use Rattle.std.proofs.Common.{◌≡◌, ◌∙◌, ℕ, List, false, ◌&&◌, Option, Some, None, Result, Ok, Err, ap, sym}
use Rattle.dill_calls.specs.CallTable.{is_built}
use Rattle.relay_reader.specs.Parts.{byte_faults}
use Rattle.dill_script.specs.Contexts.{said}
use Rattle.dill_script.specs.Lines.{has_tokens}
use Rattle.dill_script.specs.Tokens.{Token, tokens}
use Rattle.relay_reader.specs.declared.fault.Fault.{Fault}
use Rattle.relay_reader.proofs.Reasons.{faults_first, told_error}
use Rattle.relay_reader.proofs.Said.{said_faults, read_said, read_apart}
use Rattle.relay_reader.proofs.Started.{no_start}
use Rattle.relay_reader.proofs.context.Context.read.Goals as goal

pub returns-in_err-found : goal.returns-in_err-found
returns-in_err-found c =
    let state = c.args.self.now in
    let line = c.args.line.now in
    told_error c.from_residual.result c.in_err-found.field-0.0 _ _ c.from_residual.ensures.1 (faults_first _ (byte_faults state.begun line) (said_faults is_built state c.args.last (said state line)) c.in_err-found.ensures)

pub returns-then-is_said : goal.returns-then-is_said
returns-then-is_said c =
    let state = c.args.self.now in
    let line = c.args.line.now in
    let found : tokens line ≡ Some c.as_slice.result.now = c.in_ok-found.ensures.1 ∙ ap (λ (list : List Token). Some list) (sym c.as_slice.ensures) in
    read_said is_built state c.read_said.new.self c.args.last line c.as_slice.result.now c.read_said.result found (sym c.is_said.ensures ∙ c.if-is_said.true) c.in_ok-found.ensures.0 c.read_said.ensures

pub returns-in_err-pass_over : goal.returns-in_err-pass_over
returns-in_err-pass_over c =
    let state = c.args.self.now in
    let line = c.args.line.now in
    let result : Result (Option (List ℕ × ℕ)) Fault = Err c.in_err-pass_over.field-0.0 in
    told_error c.from_residual-in_err-pass_over.result c.in_err-pass_over.field-0.0 _ _ c.from_residual-in_err-pass_over.ensures.1 (read_apart is_built state c.pass_over.new.self c.args.last line result c.requires (sym c.is_said.ensures ∙ c.if-is_said.false) c.in_ok-found.ensures.0 c.in_err-pass_over.ensures)

pub returns : goal.returns
returns c =
    let state = c.args.self.now in
    let line = c.args.line.now in
    let apart : (state.begun && has_tokens line) ≡ false = sym c.is_said.ensures ∙ c.if-is_said.false in
    let result : Result (Option (List ℕ × ℕ)) Fault = Ok None in
    let read = read_apart is_built state c.pass_over.new.self c.args.last line result c.requires apart c.in_ok-found.ensures.0 c.in_ok-pass_over.ensures in
    let none = no_start state.begun line _ c.in_ok-found.ensures.1 apart c.in_ok-found.ensures.0 in
    (read.0, (read.1.0, read.1.1, sym none))
