use Rattle.dill_drive.proofs.Flowing.{on_err, on_ok_map, on_err_map, proper_more, proper_behind}
use Rattle.std.proofs.KnownBytes.{Appends-trans}
use Rattle.dill_drive.proofs.lines.write_turn.Goals as goal

pub returns-in_err-write_ran-clause-err : goal.returns-in_err-write_ran-clause-err
returns-in_err-write_ran-clause-err g c = on_err c.from_residual.result (proper_more _ _ _ _ c.in_err-write_ran.ensures.err)

pub returns-clause-ok : goal.returns-clause-ok
returns-clause-ok g c = on_ok_map c.write_notes.result (λ out. Appends-trans _ _ _ _ _ c.in_ok-write_ran.ensures.ok out) c.write_notes.ensures.ok

pub returns-clause-err : goal.returns-clause-err
returns-clause-err g c = on_err_map c.write_notes.result (λ part. proper_behind _ _ _ _ _ c.in_ok-write_ran.ensures.ok part) c.write_notes.ensures.err
