use Rattle.std.proofs.Common.{ap, sym}
use Rattle.std.specs.Prelude.{codes, unwrap_or}
use Rattle.std.proofs.lemmas.Option.{slice_get-get_or}
use Rattle.relay_printer.proofs.text.hex_digit.Goals as goal

pub returns : goal.returns
returns c = sym (ap (λ o. unwrap_or o 48) (slice_get-get_or (codes "0123456789abcdef") c.args.value 0 c.requires))
