use Rattle.relay_lines.proofs.Blanks.{rest_from}
use Rattle.relay_lines.proofs.Cuts.{word_cut}
use Rattle.relay_lines.proofs.cutting.cut_word.Goals as goal

pub returns-clause-tokens : goal.returns-clause-tokens
returns-clause-tokens c = word_cut c.args.bytes.now c.word_length-length.result c.in_ok-word.word _ _ c.word_length-length.ensures.run c.in_ok-word.ensures c.from_plain.ensures (rest_from c.args.bytes.now c.word_length-length.result)
