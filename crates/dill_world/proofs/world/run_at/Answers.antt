use Rattle.std.proofs.Common.{sym, subst, refl}
use Rattle.dill_rules.specs.World.{is_coroutine}
use Rattle.dill_rules.specs.Turning.{as_running}
use Rattle.dill_world.specs.Store.{is_plain_row, ArePlain}
use Rattle.dill_world.proofs.Each.{all_change}
use Rattle.dill_world.proofs.Running.{left_at, rows_at, runs_at, nobody_runs}
use Rattle.dill_world.proofs.world.run_at.Goals as goal

pub run-requires : goal.run-requires
run-requires g c =
    left_at g.B.Body.means c.args.coroutines.now.items c.args.who c.in-Some.at c.index_mut-one.result.now c.index_mut-one.result.now (rw c.deref.ensures.value at (sym c.in-Some.ensures.place)) c.index_mut-one.ensures.value c.requires

pub returns-in-None-clause-runs : goal.returns-in-None-clause-runs
returns-in-None-clause-runs g c = nobody_runs g.B.Body.means c.args.coroutines.now.items c.args.who c.args.given (rw c.deref.ensures.value at (sym c.in-None.ensures.place))

pub returns-in-Some-clause-runs : goal.returns-in-Some-clause-runs
returns-in-Some-clause-runs g c =
    runs_at g.B.Body.means c.args.coroutines.now.items c.args.who c.in-Some.at c.index_mut-one.result.now c.run.new.self c.args.given c.run.result (rw c.deref.ensures.value at (sym c.in-Some.ensures.place)) c.index_mut-one.ensures.value c.run.ensures.turns c.run.ensures.runs

pub returns-in-Some-clause-plain : goal.returns-in-Some-clause-plain
returns-in-Some-clause-plain g c = λ plain.
    subst (λ ys. ArePlain ys)
    (sym (rows_at g.B.Body.means c.args.coroutines.now.items c.args.who c.in-Some.at c.index_mut-one.result.now c.run.new.self (rw c.deref.ensures.value at (sym c.in-Some.ensures.place)) c.index_mut-one.ensures.value c.run.ensures.runs))
    (all_change is_plain_row (is_coroutine c.args.who) (as_running c.run.new.self.body) (λ x. refl) c.args.coroutines.now.items plain)
