use Rattle.dill_chan.proofs.Chosen.{chooses_least}
use Rattle.dill_chan.proofs.laws.a_choice_takes_the_least.Goals as goal

pub returns : goal.returns
returns c = chooses_least
