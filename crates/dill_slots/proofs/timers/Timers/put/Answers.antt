use Rattle.std.proofs.Common.{arith, ap, length}
use Rattle.std.specs.Prelude.{not}
use Rattle.std.proofs.lemmas.List.Sums.{prefix_len-le-length}
use Rattle.dill_slots.specs.Slots.{is_earlier}
use Rattle.dill_slots.proofs.Finding.{timer_put}
use Rattle.dill_slots.proofs.timers.Timers.put.Goals as goal

pub insert-requires : goal.insert-requires
insert-requires g c =
    omega (arith, c.place_for-at.ensures.place, prefix_len-le-length (λ x. not (is_earlier c.args.timer x)) c.as_slice.result.now, c.as_slice.ensures.len)

pub returns-clause-put : goal.returns-clause-put
returns-clause-put g c =
    let few = rw (← c.self.view_is) at c.requires in
    rw (← c.self.view_is) (timer_put c.args.timer _ _ _ c.self.inside.room c.place_for-at.result _ c.as_slice.ensures.value c.place_for-at.ensures.place (c.insert.ensures.succeeds (omega (arith, few, c.self.invariant, c.as_slice.ensures.len, ap length c.as_slice.ensures.value))) c.insert.ensures.items)
