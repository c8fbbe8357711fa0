use Rattle.std.proofs.Common.{◌≡◌, length, refl, ap, sym, ◌∙◌, subst, arith}
use Rattle.dill_rules.specs.World.{begin, set_mode, coroutine_of}
use Rattle.dill_rules.specs.declared.coroutine.Mode.TheVariants as modes
use Rattle.dill_rules.specs.Turning.{answer_given}
use Rattle.dill_world.specs.Store.{world_of}
use Rattle.dill_steps.specs.Turned.{Gone, MayGoOn}
use Rattle.dill_steps.proofs.Counting.{crew, stands}
use Rattle.dill_steps.proofs.Shown.{turned, shows, may_still, gone_before, taken_is, taken_some}
use Rattle.dill_steps.proofs.turning.turn.Goals as goal

pub go_on-went-requires : goal.go_on-went-requires
go_on-went-requires g c =
    let p = g.B.Body.means in
    let b = begin (world_of c.args.world.now) in
    let may : MayGoOn p b c.args.who = record { one = c.requires.one; found = c.requires.found; real = c.requires.real; some = c.requires.some } in
    subst (λ v. MayGoOn p v c.args.who) (sym (c.take_answer.ensures.runs ∙ ap (λ v. set_mode v c.args.who modes.Running) c.begin.ensures)) (may_still p b c.args.who may)

pub returns-in-Some-clause-turned : goal.returns-in-Some-clause-turned
returns-in-Some-clause-turned g c =
    let p = g.B.Body.means in
    let w = world_of c.args.world.now in
    let b = begin w in
    let who = c.args.who in
    let mid = world_of c.go_on-went.new.world in
    let may : MayGoOn p b who = record { one = c.requires.one; found = c.requires.found; real = c.requires.real; some = c.requires.some } in
    let at = world_of c.begin.new.self in
    let took = taken_is at who c.in-Some.word c.in-Some.given c.in-Some.twin (coroutine_of at who) refl c.in-Some.ensures.given in
    let same = ap (λ v. answer_given v who) c.begin.ensures in
    let on : Gone p (set_mode b who modes.Running) mid who c.in-Some.twin c.go_on-went.result = subst (λ v. Gone p v mid who c.in-Some.twin c.go_on-went.result) (c.take_answer.ensures.runs ∙ ap (λ v. set_mode v who modes.Running) c.begin.ensures) c.go_on-went.ensures.gone in
    let gone = subst (λ a. Gone p b mid who a c.go_on-went.result) (took.2 ∙ ap (λ x. x.1) same) (gone_before p b mid who c.in-Some.twin c.go_on-went.result may on) in
    turned p w mid (world_of c.settle.new.world) who c.go_on-went.result gone c.settle.ensures.settled

pub returns-in-Some-clause-shown : goal.returns-in-Some-clause-shown
returns-in-Some-clause-shown g c = λ view has.
    let p = g.B.Body.means in
    let w = world_of c.args.world.now in
    let b = begin w in
    let who = c.args.who in
    let mid = world_of c.go_on-went.new.world in
    let may : MayGoOn p b who = record { one = c.requires.one; found = c.requires.found; real = c.requires.real; some = c.requires.some } in
    let at = world_of c.begin.new.self in
    let took = taken_is at who c.in-Some.word c.in-Some.given c.in-Some.twin (coroutine_of at who) refl c.in-Some.ensures.given in
    let same = ap (λ v. answer_given v who) c.begin.ensures in
    let on : Gone p (set_mode b who modes.Running) mid who c.in-Some.twin c.go_on-went.result = subst (λ v. Gone p v mid who c.in-Some.twin c.go_on-went.result) (c.take_answer.ensures.runs ∙ ap (λ v. set_mode v who modes.Running) c.begin.ensures) c.go_on-went.ensures.gone in
    let gone = subst (λ a. Gone p b mid who a c.go_on-went.result) (took.2 ∙ ap (λ x. x.1) same) (gone_before p b mid who c.in-Some.twin c.go_on-went.result may on) in
    rw (took.0 ∙ ap (λ x. x.0) same, took.1 ∙ ap (λ x. x.1) same) (shows p w mid who c.go_on-went.result gone view has)

pub returns-in-Some-clause-few : goal.returns-in-Some-clause-few
returns-in-Some-clause-few g c = λ e.
    let begun : length c.begin.new.self.coroutines ≡ length c.args.world.now.coroutines = ap crew c.begin.ensures in
    let took : length c.take_answer.new.self.coroutines ≡ length c.begin.new.self.coroutines = ap crew c.take_answer.ensures.runs ∙ stands (world_of c.begin.new.self) c.args.who modes.Running in
    omega (arith, begun, took, c.go_on-went.ensures.few e, c.settle.ensures.few)

pub returns-in-Some-clause-one : goal.returns-in-Some-clause-one
returns-in-Some-clause-one g c =
    let begun : length c.begin.new.self.coroutines ≡ length c.args.world.now.coroutines = ap crew c.begin.ensures in
    let took : length c.take_answer.new.self.coroutines ≡ length c.begin.new.self.coroutines = ap crew c.take_answer.ensures.runs ∙ stands (world_of c.begin.new.self) c.args.who modes.Running in
    omega (arith, begun, took, c.go_on-went.ensures.one, c.settle.ensures.few)

pub returns-in-None-clause-turned : goal.returns-in-None-clause-turned
returns-in-None-clause-turned g c = absurd (taken_some (world_of c.begin.new.self) c.args.who (coroutine_of (world_of c.begin.new.self) c.args.who) c.requires.one (ap (λ v. coroutine_of v c.args.who) c.begin.ensures ∙ c.requires.found) c.in-None.ensures.given)

pub returns-in-None-clause-shown : goal.returns-in-None-clause-shown
returns-in-None-clause-shown g c = absurd (taken_some (world_of c.begin.new.self) c.args.who (coroutine_of (world_of c.begin.new.self) c.args.who) c.requires.one (ap (λ v. coroutine_of v c.args.who) c.begin.ensures ∙ c.requires.found) c.in-None.ensures.given)

pub returns-in-None-clause-few : goal.returns-in-None-clause-few
returns-in-None-clause-few g c = absurd (taken_some (world_of c.begin.new.self) c.args.who (coroutine_of (world_of c.begin.new.self) c.args.who) c.requires.one (ap (λ v. coroutine_of v c.args.who) c.begin.ensures ∙ c.requires.found) c.in-None.ensures.given)

pub returns-in-None-clause-one : goal.returns-in-None-clause-one
returns-in-None-clause-one g c = absurd (taken_some (world_of c.begin.new.self) c.args.who (coroutine_of (world_of c.begin.new.self) c.args.who) c.requires.one (ap (λ v. coroutine_of v c.args.who) c.begin.ensures ∙ c.requires.found) c.in-None.ensures.given)
