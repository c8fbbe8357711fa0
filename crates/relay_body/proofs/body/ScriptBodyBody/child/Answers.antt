use Rattle.std.proofs.Common.{◌≡◌, length, true, sym, subst}
use Rattle.dill_meaning.specs.Meaning.{knows}
use Rattle.relay_body.specs.Seen.{seen}
use Rattle.relay_body.proofs.Known.{known_few}
use Rattle.relay_body.proofs.body.ScriptBodyBody.child.Goals as goal

pub new-requires : goal.new-requires
new-requires c = known_few (seen c.self.inside.held) c.args.program (length c.args.args.now) c.self.invariant (subst (λ v. knows v c.args.program (length c.args.args.now) ≡ true) (sym c.self.view_is) c.requires)
