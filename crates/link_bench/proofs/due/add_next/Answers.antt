use Rattle.link_bench.proofs.Adding.{none_there, placed_below, there}
use Rattle.link_bench.proofs.due.add_next.Goals as goal

pub add-requires-clause-new : goal.add-requires-clause-new
add-requires-clause-new c = none_there c.args.link c.args.set.now.interests c.requires.below

pub returns-clause-below : goal.returns-clause-below
returns-clause-below c = rw c.add.ensures (placed_below c.args.link c.args.set.now.interests c.requires.below)

pub returns-clause-there : goal.returns-clause-there
returns-clause-there c = rw c.add.ensures (there c.args.link c.args.set.now.interests)
