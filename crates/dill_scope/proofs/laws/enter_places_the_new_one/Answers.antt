use Rattle.dill_scope.proofs.Growing.{enter_places}
use Rattle.dill_scope.proofs.laws.enter_places_the_new_one.Goals as goal

pub returns : goal.returns
returns c = enter_places
