use Rattle.std.proofs.Common.{◌≡◌, ◌≤◌, length, sym, subst, arith, IfSome, Some}
use Rattle.dill_world.specs.Store.{world_of}
use Rattle.dill_steps.proofs.Counting.{resumed}
use Rattle.dill_steps.proofs.Shown.{somebody, goes_plainly, gone}
use Rattle.dill_steps.proofs.turning.go_on.Goals as goal

pub resume-requires : goal.resume-requires
resume-requires g c = subst (λ o. IfSome o (λ x. 1 ≤ g.B.Body.means.left x.body)) (sym c.requires.found) c.requires.some

pub returns-in-None-clause-gone : goal.returns-in-None-clause-gone
returns-in-None-clause-gone g c = absurd (somebody g.B.Body.means (world_of c.args.world.now) (world_of c.resume.new.self) c.args.who c.args.given c.requires c.in-None.ensures)

pub make_move-requires : goal.make_move-requires
make_move-requires g c = goes_plainly g.B.Body.means (world_of c.args.world.now) (world_of c.resume.new.self) c.args.who c.args.given c.in-Some.next c.requires (g.met.B.PlainBody.plain c.requires.one.body c.args.given c.requires.real c.requires.some) c.in-Some.ensures

pub returns-in-Some-clause-gone : goal.returns-in-Some-clause-gone
returns-in-Some-clause-gone g c = gone g.B.Body.means (world_of c.args.world.now) (world_of c.resume.new.self) (world_of c.make_move.new.world) c.args.who c.args.given c.in-Some.next c.make_move.result c.requires c.in-Some.ensures c.make_move.ensures.went

pub returns-in-Some-clause-few : goal.returns-in-Some-clause-few
returns-in-Some-clause-few g c = λ e.
    let same : length c.resume.new.self.coroutines ≡ length c.args.world.now.coroutines = resumed g.B.Body.means (world_of c.args.world.now) (world_of c.resume.new.self) c.args.who c.args.given (Some c.in-Some.next) c.in-Some.ensures in
    omega (arith, same, c.make_move.ensures.few e)

pub returns-in-Some-clause-one : goal.returns-in-Some-clause-one
returns-in-Some-clause-one g c =
    let same : length c.resume.new.self.coroutines ≡ length c.args.world.now.coroutines = resumed g.B.Body.means (world_of c.args.world.now) (world_of c.resume.new.self) c.args.who c.args.given (Some c.in-Some.next) c.in-Some.ensures in
    omega (arith, same, c.make_move.ensures.one)

pub returns-in-None-clause-few : goal.returns-in-None-clause-few
returns-in-None-clause-few g c = absurd (somebody g.B.Body.means (world_of c.args.world.now) (world_of c.resume.new.self) c.args.who c.args.given c.requires c.in-None.ensures)

pub returns-in-None-clause-one : goal.returns-in-None-clause-one
returns-in-None-clause-one g c = absurd (somebody g.B.Body.means (world_of c.args.world.now) (world_of c.resume.new.self) c.args.who c.args.given c.requires c.in-None.ensures)
