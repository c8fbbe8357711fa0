use Rattle.std.proofs.Common.{◌≡◌, ◌++◌, sym, ◌∙◌, subst, Result, List, ℕ, Ok}
use Rattle.dill_base.specs.declared.errno.Errno.{Errno}
use Rattle.dill_base.specs.declared.errno.Errno.TheVariants.{Einval}
use Rattle.dill_base.specs.Writing.{Writes}
use Rattle.dill_frames.specs.Suffix.{suffix_due, SuffixSpells, SuffixRefuses}
use Rattle.dill_frames.proofs.Judging.{written_by}
use Rattle.dill_frames.proofs.Written.{suffix_written, suffix_refusal, fits_due, unfit_due}
use Rattle.dill_frames.proofs.suffix.suffix_write.Goals as goal

pub returns-then-not-suffix_fits-clause-spelled : goal.returns-then-not-suffix_fits-clause-spelled
returns-then-not-suffix_fits-clause-spelled c =
    suffix_refusal c.args.end.now c.args.message.now Einval c.requires
    (unfit_due c.args.end.now c.args.message.now (sym c.suffix_fits.ensures.test ∙ c.if-not-suffix_fits.true))

pub returns-clause-spelled : goal.returns-clause-spelled
returns-clause-spelled c =
    let due : suffix_due c.args.end.now c.args.message.now ≡ Ok (c.args.message.now ++ c.args.end.now) =
    fits_due c.args.end.now c.args.message.now (sym c.suffix_fits.ensures.test ∙ c.if-not-suffix_fits.false) in
    written_by (SuffixSpells c.args.end.now c.args.message.now) (SuffixRefuses c.args.end.now c.args.message.now) (suffix_due c.args.end.now c.args.message.now) c.joined.result
    (λ w e. suffix_written c.args.end.now c.args.message.now w c.requires e)
    (λ d e. suffix_refusal c.args.end.now c.args.message.now d c.requires e)
    (subst (λ (d : Result (List ℕ) Errno). Writes c.joined.result d) (sym due) c.joined.ensures.due)
