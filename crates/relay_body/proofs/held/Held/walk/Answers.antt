use Rattle.std.proofs.Common.{◌∙◌, is_some, ap, sym, arith}
use Rattle.relay_body.specs.Modes.{meant}
use Rattle.relay_body.specs.Seen.{seen}
use Rattle.relay_body.specs.Stopping.{PassedOne}
use Rattle.relay_body.proofs.Stepping.{Behind, made_runs, walk_stops_here, walk_goes_on}
use Rattle.relay_body.proofs.Turning.{passed_runs, has_slot, one_more, onward, ended_runs}
use Rattle.relay_body.proofs.held.Held.walk.Goals as goal

pub stops-requires : goal.stops-requires
stops-requires c = passed_runs (meant c.loop-mode.mode) c.loop-mode.self c.pass.new.self c.loop-mode.invariant.walking c.loop-mode-test.ensures.passes

pub returns-then-stops-clause-running : goal.returns-then-stops-clause-running
returns-then-stops-clause-running c = passed_runs (meant c.loop-mode.mode) c.loop-mode.self c.pass.new.self c.loop-mode.invariant.walking c.loop-mode-test.ensures.passes

pub returns-then-stops-clause-walk : goal.returns-then-stops-clause-walk
returns-then-stops-clause-walk c =
    let passed : PassedOne c.loop-mode.self c.pass.new.self = c.loop-mode-test.ensures.passes in
    c.loop-mode.invariant.same ∙ walk_stops_here (meant c.loop-mode.mode) (seen c.loop-mode.self) (seen c.pass.new.self) passed.there passed.view (sym c.if-stops.ensures)

pub returns-then-stops-clause-calls : goal.returns-then-stops-clause-calls
returns-then-stops-clause-calls c = c.if-stops.ensures ∙ ap is_some (made_runs (meant c.loop-mode.mode) (seen c.pass.new.self) (sym c.if-stops.ensures))

pub behind-mode-requires-clause-slot : goal.behind-mode-requires-clause-slot
behind-mode-requires-clause-slot c = has_slot (meant c.loop-mode.mode) c.loop-mode.self c.pass.new.self c.loop-mode.invariant.walking c.loop-mode-test.ensures.passes

pub behind-mode-requires-clause-depth : goal.behind-mode-requires-clause-depth
behind-mode-requires-clause-depth c =
    let more = one_more c.loop-mode.self c.pass.new.self c.loop-mode-test.ensures.passes in
    let fits = c.loop-mode-test.ensures.fits in
    omega arith

pub loop-mode-preserved : goal.loop-mode-preserved
loop-mode-preserved c =
    let passed : PassedOne c.loop-mode.self c.pass.new.self = c.loop-mode-test.ensures.passes in
    let on : Behind (meant c.behind-mode.result) (seen c.loop-mode.self) (seen c.behind-mode.new.self) = onward c.loop-mode.self c.pass.new.self c.behind-mode.new.self (meant c.loop-mode.mode) (meant c.behind-mode.result) c.loop-mode.invariant.walking passed c.behind-mode.ensures.way c.behind-mode.ensures.view in
    record {
      walking = on.walking;
      depth = let h = c.behind-mode.ensures.depth in let p = on.passed in let d = c.loop-mode.invariant.depth in omega arith;
      same = c.loop-mode.invariant.same ∙ walk_goes_on (meant c.loop-mode.mode) (meant c.behind-mode.result) (seen c.loop-mode.self) (seen c.pass.new.self) (seen c.behind-mode.new.self) passed.there passed.view (sym c.if-stops.ensures) c.behind-mode.ensures.way c.behind-mode.ensures.view;
    }

pub returns-clause-running : goal.returns-clause-running
returns-clause-running c = ended_runs (meant c.loop-mode.mode) c.loop-mode.self c.pass.new.self c.loop-mode.invariant.walking c.loop-mode-test.ensures.passes.0
