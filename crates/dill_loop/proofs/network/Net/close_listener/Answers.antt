use Rattle.std.proofs.Common.{◌≡◌, ◌∙◌, sym, ap, subst, filter, map, not, List, length, ◌==◌, arith}
use Rattle.dill_loop.specs.Calls.{is_over, refused_at, with_refused_marks}
use Rattle.dill_loop.specs.Network.{Network, Pair, waits_at}
use Rattle.dill_loop.specs.Consistent.{IsConsistent}
use Rattle.dill_loop.specs.Store.{network_of}
use Rattle.dill_loop.proofs.Kept.{forget_keeps, length_filter}
use Rattle.dill_loop.proofs.Refused.{refused_pairs, pairs_stay}
use Rattle.dill_loop.proofs.network.Net.close_listener.Goals as goal

pub mark_refused-requires-clause-room : goal.mark_refused-requires-clause-room
mark_refused-requires-clause-room c =
    let fewer = length_filter (λ l. not (l.link == c.args.link)) c.args.self.now.listeners.items in
    omega (arith, ap length c.forget_listener.ensures, fewer, c.requires.room.room, c.forget_marks.ensures.capacity)

pub mark_refused-requires-clause-consistent : goal.mark_refused-requires-clause-consistent
mark_refused-requires-clause-consistent c =
    let net = network_of c.args.self.now in
    let kept = forget_keeps c.args.link net c.requires.consistent in
    let listeners = subst (λ ls. IsConsistent (record net { marks = filter (λ mark. not (mark.link == c.args.link)) net.marks; listeners = ls })) (sym c.forget_listener.ensures) kept in
    subst (λ ms. IsConsistent (record net { marks = ms; listeners = c.forget_listener.new.listeners.items })) (sym c.forget_marks.ensures.items) listeners

pub returns-clause-network : goal.returns-clause-network
returns-clause-network c =
    let net = network_of c.args.self.now in
    let queue = filter (waits_at c.args.link) net.pairs in
    let marks = c.forget_marks.new.marks.items in
    let listeners = c.forget_listener.new.listeners.items in
    let less : Network = record net { marks = marks; listeners = listeners } in
    let left = c.drop_refused.new.pairs.items in
    let drops : List Pair → List Pair = λ ps. filter (λ pair. not (is_over pair)) (map (refused_at c.args.link) ps) in
    let pairs : c.mark_refused.new.self.pairs.items ≡ net.pairs = ap (λ n. n.pairs) c.mark_refused.ensures.network ∙ pairs_stay queue less in
    let streams : left ≡ drops net.pairs = c.drop_refused.ensures ∙ ap drops pairs in
    ap {A = Network} (λ n. record n { pairs = left }) c.mark_refused.ensures.network
    ∙ sym (refused_pairs queue less left)
    ∙ ap (λ ms. with_refused_marks queue (record net { marks = ms; listeners = listeners; pairs = left })) c.forget_marks.ensures.items
    ∙ ap (λ ls. with_refused_marks queue (record net { marks = filter (λ mark. not (mark.link == c.args.link)) net.marks; listeners = ls; pairs = left })) c.forget_listener.ensures
    ∙ ap (λ ps. with_refused_marks queue (record net { marks = filter (λ mark. not (mark.link == c.args.link)) net.marks; listeners = filter (λ l. not (l.link == c.args.link)) net.listeners; pairs = ps })) streams
