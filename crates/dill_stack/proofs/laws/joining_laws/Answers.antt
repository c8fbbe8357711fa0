use Rattle.dill_stack.proofs.Joinings.{gives_joined, needs_passed}
use Rattle.dill_stack.proofs.JoinedReads.{joined_gives}
use Rattle.dill_stack.proofs.laws.joining_laws.Goals as goal

pub returns : goal.returns
returns c = record {
  given = gives_joined c.frame_laws.ensures;
  gives = joined_gives c.frame_laws.ensures;
  needs = needs_passed c.frame_laws.ensures;
}
