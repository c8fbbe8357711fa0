use Rattle.std.proofs.Common.{◌-◌, arith, is_ok, subst, Some}
use Rattle.std.proofs.lemmas.Grind.{common_steps}
use Rattle.dill_base.specs.MemSink.{HeldBytes}
use Rattle.dill_base.specs.Sinks.{AppendsPart}
use Rattle.dill_base.proofs.Parts.{front_or_nothing}
use Rattle.dill_base.proofs.mem_sink.MemSinkSink.write.Goals as goal

pub returns-then-free-bytes-clause-part : goal.returns-then-free-bytes-clause-part
returns-then-free-bytes-clause-part c =
    subst (λ (s : HeldBytes). AppendsPart (Some s.bytes) (Some c.extend_from_slice.new.self.items) c.args.bytes.now) c.self.view_is
    (front_or_nothing c.self.inside.held.items _ _ _ (c.self.inside.room - c.len.result) (is_ok c.extend_from_slice.result) (omega arith) (grind (arith, common_steps)) c.extend_from_slice.ensures.items)
