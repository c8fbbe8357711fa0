use Rattle.std.proofs.Common.{◌≡◌, ◌∙◌, sym, get_or, is_some, false, rules}
use Rattle.dill_loop.specs.Calls.{new_end}
use Rattle.dill_loop.specs.Network.{Pair, Closed, listener_at}
use Rattle.dill_loop.specs.Store.{network_of}
use Rattle.dill_loop.proofs.Refused.{closed_stream}
use Rattle.dill_loop.proofs.network.Net.close.Goals as goal

pub returns-in-Some-clause-network : goal.returns-in-Some-clause-network
returns-in-Some-clause-network c =
    let net = network_of c.args.self.now in
    let any : Pair = record { dialed = new_end Closed; taken = new_end Closed } in
    let none : is_some (listener_at c.args.link net) ≡ false = search rules in
    let found = rw c.as_slice-2.ensures.value at (c.in-Some.ensures.found any) in
    c.close_stream.ensures.network any ∙ sym (closed_stream c.args.link net (get_or net.pairs c.in-Some.at any) none found)
