use Rattle.std.proofs.Common.{◌∙◌, arith, sym, ap}
use Rattle.dill_stack.specs.Receiving.{Looked}
use Rattle.dill_stack.specs.Rooms.{Stocked}
use Rattle.dill_stack.specs.Answering.{room_of}
use Rattle.dill_stack.proofs.Copies.{fits_more}
use Rattle.dill_stack.proofs.ReadShort.{read_short}
use Rattle.dill_stack.proofs.Roominess.{need_bounded}
use Rattle.dill_stack.proofs.TowerReads.{reads_plain, look_after}
use Rattle.dill_stack.proofs.stack.Stack.read.Goals as goal

pub returns-clause-said : goal.returns-clause-said
returns-clause-said g c = c.look.ensures.said ∙ sym (ap (λ l. l.said) (reads_plain c.args.want (g.R.Rng.stream c.pass_frames.new.keys) c.pass_frames.new.self.held c.look.ensures.plain)) ∙ ap (λ (l : Looked). l.said) c.pass_frames.ensures.same

pub returns-clause-stack : goal.returns-clause-stack
returns-clause-stack g c = look_after c.args.want (g.R.Rng.stream c.args.keys.now) (g.R.Rng.stream c.pass_frames.new.keys) c.args.self.now c.pass_frames.new.self c.look.new.self c.pass_frames.ensures.rest c.pass_frames.ensures.same c.look.ensures.plain c.look.ensures.after

pub returns-clause-random : goal.returns-clause-random
returns-clause-random g c = sym (ap (λ l. l.random) (reads_plain c.args.want (g.R.Rng.stream c.pass_frames.new.keys) c.pass_frames.new.self.held c.look.ensures.plain)) ∙ ap (λ (l : Looked). l.random) c.pass_frames.ensures.same

pub returns-clause-short : goal.returns-clause-short
returns-clause-short g c =
    let stack = look_after c.args.want (g.R.Rng.stream c.args.keys.now) (g.R.Rng.stream c.pass_frames.new.keys) c.args.self.now c.pass_frames.new.self c.look.new.self c.pass_frames.ensures.rest c.pass_frames.ensures.same c.look.ensures.plain c.look.ensures.after in
    let said = c.look.ensures.said ∙ sym (ap (λ l. l.said) (reads_plain c.args.want (g.R.Rng.stream c.pass_frames.new.keys) c.pass_frames.new.self.held c.look.ensures.plain)) ∙ ap (λ (l : Looked). l.said) c.pass_frames.ensures.same in
    λ f h. read_short c.prefix_laws.ensures c.suffix_laws.ensures c.http_laws.ensures.lines c.args.want (g.R.Rng.stream c.args.keys.now) c.args.self.now.held c.look.new.self.held c.stands.ensures.standing f (ap {A = Stocked} (λ s. s.held) stack) (sym said ∙ h)

pub returns-clause-copied : goal.returns-clause-copied
returns-clause-copied g c = λ r h. fits_more c.look.result (room_of c.args.want) r h.0 h.1 c.look.ensures.within

pub returns-clause-ready : goal.returns-clause-ready
returns-clause-ready g c = λ f h.
    let stack = look_after c.args.want (g.R.Rng.stream c.args.keys.now) (g.R.Rng.stream c.pass_frames.new.keys) c.args.self.now c.pass_frames.new.self c.look.new.self c.pass_frames.ensures.rest c.pass_frames.ensures.same c.look.ensures.plain c.look.ensures.after in
    let short = returns-clause-short g c f h in
    let most = ap {A = Stocked} (λ s. s.most) stack in
    omega (arith, short, most, need_bounded c.args.want c.args.self.now.most c.args.self.now.held c.stands.ensures.formed c.requires.reserved)
