use Rattle.std.proofs.Common.{◌≡◌, ◌∙◌, ap, sym}
use Rattle.dill_chan.specs.Choosing as choosing
use Rattle.dill_rules.specs.Channeling as channeling
use Rattle.dill_world.specs.Channeled.{waits_of}
use Rattle.dill_world.specs.Store.{world_of}
use Rattle.dill_world.proofs.Channeled.{on_ok, entered_some, entered_none}
use Rattle.dill_world.proofs.world.World.enter_channel.Goals as goal

pub returns-in-Some-clause-ok : goal.returns-in-Some-clause-ok
returns-in-Some-clause-ok g c =
    let w = world_of c.args.self.now in
    let who = c.args.who in
    let call = c.args.call.now in
    let found : c.in_ok-index.field-0 ≡ choosing.first_done w.channels (waits_of w who 0 (channeling.clauses_of call)) = c.in_ok-index.ensures ∙ ap (λ k. choosing.first_done k.channels c.as_slice.result.now) c.self.view_is ∙ ap (choosing.first_done w.channels) (c.as_slice.ensures.value ∙ c.in_ok-waits.ensures) in
    on_ok c.meet.result _ _ (entered_some w (world_of c.meet.new.self) who c.in-Some.index call c.in-Some.meeting (sym found ∙ c.in-Some.is)) c.meet.ensures.ok

pub returns-in-None-clause-ok : goal.returns-in-None-clause-ok
returns-in-None-clause-ok g c =
    let w = world_of c.args.self.now in
    let who = c.args.who in
    let call = c.args.call.now in
    let found : c.in_ok-index.field-0 ≡ choosing.first_done w.channels (waits_of w who 0 (channeling.clauses_of call)) = c.in_ok-index.ensures ∙ ap (λ k. choosing.first_done k.channels c.as_slice.result.now) c.self.view_is ∙ ap (choosing.first_done w.channels) (c.as_slice.ensures.value ∙ c.in_ok-waits.ensures) in
    on_ok c.wait_at_all.result _ _ (entered_none w (world_of c.wait_at_all.new.self) who call (sym found ∙ c.in-None.is)) c.wait_at_all.ensures.ok
