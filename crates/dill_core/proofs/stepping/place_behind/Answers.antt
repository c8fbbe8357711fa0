use Rattle.std.proofs.Common.{leb, leb-true, arith, rules}
use Rattle.std.proofs.lemmas.List.Sorted.{IsPartitionPoint-from_clause, IsPartitionedBy-leb}
use Rattle.dill_core.proofs.stepping.place_behind.Goals as goal

pub returns-clause-low : goal.returns-clause-low
returns-clause-low g c =
    let parted = IsPartitionedBy-leb (λ x. x.number) _ c.args.number c.requires in
    let point = IsPartitionPoint-from_clause (λ x. leb x.number c.args.number) _ _ c.partition_point.ensures.partitioned parted (λ a r q k. search rules) in
    λ k d h. leb-true _ _ (point.0 k d (omega arith) h)
