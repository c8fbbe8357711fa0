use Rattle.std.proofs.Common.{◌≡◌, codes, rules, arith}
use Rattle.std.proofs.lemmas.Slice.Eq.{text_from_reads}
use Rattle.relay_command.proofs.piece.flag_named.Goals as goal

pub returns-in-45 : goal.returns-in-45
returns-in-45 c = let is : c.args.arg.now ≡ codes "--mode" = text_from_reads c.args.arg.now (codes "--mode") (omega arith) (search rules) in rw is

pub returns-in-45-3 : goal.returns-in-45-3
returns-in-45-3 c = let is : c.args.arg.now ≡ codes "--turns" = text_from_reads c.args.arg.now (codes "--turns") (omega arith) (search rules) in rw is
