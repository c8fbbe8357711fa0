use Rattle.std.proofs.Common.{◌≡◌, ◌∙◌, true, ap, sym, subst, arith}
use Rattle.dill_chan.specs.Choosing as choosing
use Rattle.dill_chan.specs.Seats.{are_clauses}
use Rattle.dill_rules.specs.Channeling as channeling
use Rattle.dill_rules.specs.World as worlds
use Rattle.dill_world.specs.Store.{world_of, may_wait}
use Rattle.dill_world.proofs.Channeled.{rising, few_clauses, bare_waits, after_wait}
use Rattle.dill_world.proofs.world.World.wait_at_all.Goals as goal

pub wait_all-requires-clause-rising : goal.wait_all-requires-clause-rising
wait_all-requires-clause-rising g c =
    subst (λ ws. are_clauses c.args.who 0 ws ≡ true) (sym c.requires.waits) (rising (world_of c.args.self.now) c.args.who 0 0 (channeling.clauses_of c.args.call.now) (omega arith) (few_clauses c.args.call.now c.requires.call))

pub pend-requires : goal.pend-requires
pend-requires g c = ap may_wait c.in_ok-bare.ensures ∙ bare_waits c.args.call.now c.requires.call

pub returns-clause-ok : goal.returns-clause-ok
returns-clause-ok g c =
    let who = c.args.who in
    let now = c.wait_all.new.self.channels in
    let put = ap (λ s. s.channels) c.wait_all.ensures ∙ ap (λ k. choosing.wait_all k.channels c.args.waits.items) c.self.view_is in
    c.pend.ensures
    ∙ ap (λ k. worlds.pend (record (world_of k) { channels = now }) who c.in_ok-bare.bare) c.self.view_is
    ∙ after_wait c.args.self.now now who c.in_ok-bare.bare (channeling.without_bytes c.args.call.now) (channeling.clauses_of c.args.call.now) c.args.waits.items put c.requires.waits c.in_ok-bare.ensures
