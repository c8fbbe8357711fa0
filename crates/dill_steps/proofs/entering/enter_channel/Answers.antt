use Rattle.std.proofs.Common.{◌≡◌, OnOk, subst, sym}
use Rattle.dill_rules.specs.Channeling as channeling
use Rattle.dill_world.specs.Store.{world_of}
use Rattle.dill_steps.proofs.Entered.{clauses_keep_none}
use Rattle.dill_steps.proofs.Unrefused.{enters_few}
use Rattle.dill_steps.proofs.entering.enter_channel.Goals as goal

pub enter_channel-requires : goal.enter_channel-requires
enter_channel-requires g c = enters_few g.B.Body.means (world_of c.args.world.now) c.args.who c.requires.enters.view c.args.call.now c.requires.at c.requires.enters.free

pub returns-clause-ok : goal.returns-clause-ok
returns-clause-ok g c =
    subst (λ w. OnOk c.enter_channel.result (world_of c.enter_channel.new.self ≡ channeling.enter_channel w c.args.who c.args.call.now)) (sym (clauses_keep_none (world_of c.args.world.now) c.args.call.now c.requires.at)) c.enter_channel.ensures.ok
