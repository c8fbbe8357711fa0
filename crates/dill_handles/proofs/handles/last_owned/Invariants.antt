use Rattle.std.proofs.Common.{◌≡◌, ℕ, map, filter, drop, nat_lt, None}
use Rattle.std.specs.List.{last_or}
use Rattle.dill_handles.specs.Handles.{is_owned}
use Rattle.dill_handles.proofs.handles.last_owned.Given as goal

abbrev pub invariant-loop-x : goal.invariant-loop-x
invariant-loop-x g l =
    last_or l.found (filter (λ n. nat_lt n l.below) (map (λ x. x.number) (filter (is_owned l.owner) (drop l.x-index l.entries)))) ≡ last_or None (filter (λ n. nat_lt n l.below) (map (λ x. x.number) (filter (is_owned l.owner) l.entries)))
