-- The program that ends at its first turn makes no call, for the tests.
use Rattle.dill_plain.specs.Plain.{MakesPlain}
use Rattle.dill_tests.specs.Brief.{brief}

pub brief_is_plain : {V : Type 0} → MakesPlain (brief {V = V})
brief_is_plain = λ view answer real some. tt
