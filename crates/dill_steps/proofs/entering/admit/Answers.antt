use Rattle.std.proofs.Common.{◌≡◌, ◌≤◌, ◌+◌, ◌∙◌, length, ap, sym, subst, arith}
use Rattle.dill_base.specs.declared.errno.Errno.TheVariants.{Enomem}
use Rattle.dill_calls.specs.declared.answer.Answer.TheVariants.{Fault}
use Rattle.dill_rules.specs.Entering as entering
use Rattle.dill_world.specs.Store.{world_of}
use Rattle.dill_steps.proofs.Counting.{crew, replied, met, performed, performed_with}
use Rattle.dill_steps.proofs.Entered.{keeps_none}
use Rattle.dill_steps.proofs.entering.admit.Goals as goal

pub returns-then-not-needs_memory-clause-done : goal.returns-then-not-needs_memory-clause-done
returns-then-not-needs_memory-clause-done g c =
    λ e view has.
    let p = g.B.Body.means in
    let who = c.args.who in
    let call = c.args.call.now in
    let none = keeps_none p (world_of c.args.world.now) who view call c.requires.plain (sym c.if-not-needs_memory.ensures) in
    c.meet_deadline.ensures ∙ ap (λ w. entering.meet_deadline w who) (c.perform.ensures view ∙ ap (λ w. entering.perform p w who view call) (sym none))

pub returns-then-not-needs_memory-clause-few : goal.returns-then-not-needs_memory-clause-few
returns-then-not-needs_memory-clause-few g c = λ e.
    let view = c.requires.enters.view in
    let same : length c.meet_deadline.new.world.coroutines ≡ length c.args.world.now.coroutines = ap crew c.meet_deadline.ensures ∙ met (world_of c.perform.new.world) c.args.who ∙ ap crew (c.perform.ensures view) ∙ performed g.B.Body.means (world_of c.args.world.now) c.args.who view c.args.call.now c.requires.plain (sym c.if-not-needs_memory.ensures) in
    omega (arith, same)

pub returns-then-not-spare-clause-few : goal.returns-then-not-spare-clause-few
returns-then-not-spare-clause-few g c = λ e.
    let same : length c.reply.new.self.coroutines ≡ length c.args.world.now.coroutines = ap crew c.reply.ensures ∙ replied (world_of c.args.world.now) c.args.who c.word.result (Fault Enomem) in
    omega (arith, same)

pub returns-then-not-needs_memory-clause-one : goal.returns-then-not-needs_memory-clause-one
returns-then-not-needs_memory-clause-one g c =
    let view = c.requires.enters.view in
    let same : length c.meet_deadline.new.world.coroutines ≡ length c.args.world.now.coroutines = ap crew c.meet_deadline.ensures ∙ met (world_of c.perform.new.world) c.args.who ∙ ap crew (c.perform.ensures view) ∙ performed g.B.Body.means (world_of c.args.world.now) c.args.who view c.args.call.now c.requires.plain (sym c.if-not-needs_memory.ensures) in
    omega (arith, same)

pub returns-then-not-spare-clause-one : goal.returns-then-not-spare-clause-one
returns-then-not-spare-clause-one g c =
    let same : length c.reply.new.self.coroutines ≡ length c.args.world.now.coroutines = ap crew c.reply.ensures ∙ replied (world_of c.args.world.now) c.args.who c.word.result (Fault Enomem) in
    omega (arith, same)

pub returns-in-Ok-clause-one : goal.returns-in-Ok-clause-one
returns-in-Ok-clause-one g c =
    let p = g.B.Body.means in
    let who = c.args.who in
    let call = c.args.call.now in
    let view = c.requires.enters.view in
    let kept = entering.keep_for (world_of c.args.world.now) call in
    let same : length c.meet_deadline-in-Ok.new.world.coroutines ≡ crew (entering.perform p kept who view call) = ap crew c.meet_deadline-in-Ok.ensures ∙ met (world_of c.perform_with.new.world) who ∙ ap crew (c.in-Ok.ensures.ok view c.requires.enters.has) in
    subst (λ n. n ≤ length c.args.world.now.coroutines + 1) (sym same) (performed_with p kept who view call (sym c.if-not-needs_memory.ensures))

pub returns-in-Err-clause-one : goal.returns-in-Err-clause-one
returns-in-Err-clause-one g c =
    let same : length c.reply-in-Err.new.self.coroutines ≡ length c.args.world.now.coroutines = ap crew c.reply-in-Err.ensures ∙ replied (world_of c.perform_with.new.world) c.args.who c.word-in-Err.result (Fault Enomem) ∙ ap crew c.in-Err.ensures.err in
    omega (arith, same)
