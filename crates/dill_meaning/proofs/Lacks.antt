-- The calls for whose building memory is taken are those of the call table.
use Rattle.std.proofs.Common.{refl}
use Rattle.dill_calls.specs.declared.word.Word.TheVariants as words
use Rattle.dill_meaning.specs.Laws.{LacksAlike}

pub lacks_alike : LacksAlike
lacks_alike words.Start = refl
lacks_alike _ = refl
