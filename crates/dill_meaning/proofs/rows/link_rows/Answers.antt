use Rattle.std.proofs.Common.{refl}
use Rattle.std.specs.Fmt.{digits}
use Rattle.dill_meaning.proofs.rows.link_rows.Goals as goal

pub returns : goal.returns
unfolding digits
returns c = record { given_up = refl; gives = refl; relays = refl; other_words = refl; ends_and_lines = refl }
