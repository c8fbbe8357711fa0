use Rattle.std.proofs.Common.{subst, sym}
use Rattle.dill_base.specs.Reading.{IsFront}
use Rattle.dill_base.specs.declared.errno.Front.{Front}
use Rattle.dill_http.specs.Lines.{line_limit, LineSpells, LineShows}
use Rattle.dill_http.proofs.Judged.{line_is_front}
use Rattle.dill_http.proofs.line.line_front.Goals as goal

pub returns-clause-spelled : goal.returns-clause-spelled
returns-clause-spelled c = subst (λ (f : Front). IsFront LineSpells LineShows line_limit c.args.bytes.now f) (sym c.front_by_length.ensures) (line_is_front c.args.bytes.now)
