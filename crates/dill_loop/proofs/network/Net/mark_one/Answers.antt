use Rattle.std.proofs.Common.{◌≡◌, ◌∙◌, ◌<◌, true, length, arith, ap, sym, subst, get_or}
use Rattle.dill_loop.specs.Consistent.{IsConsistent}
use Rattle.dill_loop.specs.Store.{network_of}
use Rattle.dill_loop.proofs.Kept.{keeps_same, keeps_marked}
use Rattle.dill_loop.proofs.Refused.{dialed_there}
use Rattle.dill_loop.proofs.network.Net.mark_one.Goals as goal

pub returns-then-waits_at-clause-consistent : goal.returns-then-waits_at-clause-consistent
returns-then-waits_at-clause-consistent c = λ consistent.
    let net = network_of c.args.self.now in
    let pair = c.index-as_slice-at.result in
    let is : pair ≡ get_or net.pairs c.args.at pair = rw c.as_slice.ensures.value at c.index-as_slice-at.is in
    let within : c.args.at < length net.pairs = omega (arith, c.requires.within, c.as_slice.ensures.len, ap length c.as_slice.ensures.value) in
    let marked = keeps_marked 0 net true true pair.dialed.place net (λ l at. dialed_there net c.args.at pair l within (ap (λ q. q.dialed.place) (sym is) ∙ at)) (keeps_same 0 net consistent) in
    subst IsConsistent (sym c.mark.ensures.network) marked.consistent
