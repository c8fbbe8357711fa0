use Rattle.std.proofs.Common.{◌≡◌, suc, ◌+◌, ◌-◌, sym, ◌∙◌, arith}
use Rattle.dill_scope.proofs.Climbing.{climb}
use Rattle.dill_scope.proofs.scopes.Scopes.inside.Goals as goal

pub loop-preserved : goal.loop-preserved
loop-preserved c =
    let left = c.len-end.result - (c.loop.counter + 1) in
    let one : c.len-end.result - c.loop.counter ≡ suc left = omega arith in
    let home = sym c.home_of.ensures ∙ c.in-Some.is in
    let owner = sym c.owner_of.ensures ∙ c.in-Some-owner_of.is in
    let step = climb c.args.self.now c.args.bundle c.loop.at c.in-Some.home c.in-Some-owner_of.owner left home c.if-home-bundle.false owner in
    record {
      end = c.loop.invariant.end;
      rest = rw one at c.loop.invariant.rest ∙ step;
    }
