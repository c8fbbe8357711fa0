use Rattle.std.proofs.Common.{sym, ap, ◌∙◌, is_some, Some}
use Rattle.dill_rules.specs.declared.coroutine.Coroutine.{Coroutine}
use Rattle.dill_rules.specs.LinkAnswers.{answer_said}
use Rattle.dill_rules.specs.World.{with_mode}
use Rattle.dill_stack.specs.Interface.{read}
use Rattle.dill_world.specs.Looks.{answered_by, seen_by}
use Rattle.dill_world.proofs.Looked.{Got, got, seen}
use Rattle.dill_world.proofs.row.Row.look.Given.{Over}
use Rattle.dill_world.proofs.row.Row.look.Goals as goal

module _ (g : Over) (c : goal.Joined-self-2 g) where
  is_got : Got (answer_said (read c.in-Some.want (g.R.Rng.stream c.args.keys.now) c.args.stack.now.held).said) c.self.inside.one.mode c.answered_by.result c.in-Some-read.twin
  is_got = got _ c.self.inside.one.mode c.replace-mode.result c.answered_by.result c.in-Some.want c.in-Some-read.answer c.in-Some-read.twin (sym c.in-Some.ensures) c.replace-mode.ensures.value c.answered_by.ensures.mode c.in-Some-read.ensures.said

pub invariant_of-self-in-Some-read : goal.invariant_of-self-in-Some-read
invariant_of-self-in-Some-read g c = ((is_got g c).twin_is, (is_got g c).rooms (Some c.read.new.self))

pub returns-in-Some-read-clause-answered : goal.returns-in-Some-read-clause-answered
returns-in-Some-read-clause-answered g c =
    sym (is_got g c).some ∙ ap is_some (sym (seen c.self.inside.one.mode c.in-Some.want (g.R.Rng.stream c.args.keys.now) c.args.stack.now.held (sym c.in-Some.ensures))) ∙ ap (λ (x : Coroutine g.row.B.Denot). is_some (answer_said (seen_by x.mode (g.R.Rng.stream c.args.keys.now) c.args.stack.now.held).said)) c.self.view_is

pub returns-in-Some-read-clause-row : goal.returns-in-Some-read-clause-row
returns-in-Some-read-clause-row g c =
    rw (← c.self.view_is) (ap (λ mode. with_mode mode c.self.inside.one) ((is_got g c).mode_is ∙ ap (λ said. answered_by said c.self.inside.one.mode) (sym (seen c.self.inside.one.mode c.in-Some.want (g.R.Rng.stream c.args.keys.now) c.args.stack.now.held (sym c.in-Some.ensures)))))
