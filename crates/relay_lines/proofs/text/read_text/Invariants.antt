use Rattle.std.proofs.Common.{◌≡◌, ◌≤◌, length}
use Rattle.dill_script.specs.Tokens.{tokens_from, InText}
use Rattle.relay_lines.specs.Cutting.{put_all}
use Rattle.relay_lines.proofs.text.read_text.Given as goal

abbrev pub invariant-loop-meant : goal.invariant-loop-meant
invariant-loop-meant l = record {
  tokens : put_all l.meant (tokens_from InText l.rest) ≡ tokens_from InText l.bytes;
  within : length l.rest ≤ length l.bytes;
}

abbrev pub decreases-loop-meant : goal.decreases-loop-meant
decreases-loop-meant l = length l.rest
