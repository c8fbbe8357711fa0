use Rattle.std.proofs.Common.{sym, subst}
use Rattle.dill_calls.specs.declared.body.Next.TheVariants as nexts
use Rattle.dill_world.specs.Store.{world_of}
use Rattle.dill_steps.specs.Turned.{WentSo}
use Rattle.dill_steps.proofs.turning.make_move.Goals as goal

pub returns-in-Call-clause-went : goal.returns-in-Call-clause-went
returns-in-Call-clause-went g c = rw c.in-Call.is (λ view move has e. subst (λ m. WentSo g.B.Body.means (world_of c.args.world.now) (world_of c.make_call.new.world) c.args.who view (nexts.Call c.in-Call.call) m c.make_call.result) (sym e) (c.make_call.ensures.went view has))

pub returns-in-Lack-clause-went : goal.returns-in-Lack-clause-went
returns-in-Lack-clause-went g c = rw c.in-Lack.is (λ view move has e. c.lack_call.ensures.went view move e)

pub returns-in-End-clause-went : goal.returns-in-End-clause-went
returns-in-End-clause-went g c = rw c.in-End.is (λ view move has e. subst (λ m. WentSo g.B.Body.means (world_of c.args.world.now) (world_of c.end_program.new.world) c.args.who view (nexts.End c.in-End.outcome) m c.end_program.result) (sym e) (c.end_program.ensures.went view))
