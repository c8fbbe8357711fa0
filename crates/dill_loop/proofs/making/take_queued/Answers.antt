use Rattle.std.proofs.Common.{◌≡◌, sym, ap, ◌∙◌, slice_set, length, filter, ◌==◌, ℕ, ◌<◌, false, arith}
use Rattle.std.proofs.lemmas.Bool.Decides.{nat_tests}
use Rattle.dill_loop.specs.Network.{waits_at}
use Rattle.dill_loop.specs.Calls.{linked}
use Rattle.dill_base.proofs.Places.{place, no_place}
use Rattle.dill_loop.proofs.Waiting.{some_waits, none_waits}
use Rattle.dill_loop.proofs.making.take_queued.Goals as goal

some_left : (n : ℕ) → 0 < n → (n == 0) ≡ false
some_left n h = grind (arith, nat_tests)

pub returns-in-None-clause-pairs : goal.returns-in-None-clause-pairs
returns-in-None-clause-pairs c =
    let gone = no_place (waits_at c.args.listener) (linked c.args.link) c.args.pairs.now.items 0 (rw c.as_slice.ensures.value at (sym c.queued_place.ensures.place ∙ c.in-None.is)) in
    sym gone.same

pub returns-in-None-clause-none : goal.returns-in-None-clause-none
returns-in-None-clause-none c =
    let gone = no_place (waits_at c.args.listener) (linked c.args.link) c.args.pairs.now.items 0 (rw c.as_slice.ensures.value at (sym c.queued_place.ensures.place ∙ c.in-None.is)) in
    ap (λ xs. length xs == 0) (none_waits (waits_at c.args.listener) c.args.pairs.now.items gone.none)

pub returns-in-Some-clause-pairs : goal.returns-in-Some-clause-pairs
returns-in-Some-clause-pairs c =
    let xs = c.args.pairs.now.items in
    let f = linked c.args.link in
    let found = place (waits_at c.args.listener) f c.index_mut-pair.result.now xs c.in-Some.at (rw c.as_slice.ensures.value at (sym c.queued_place.ensures.place ∙ c.in-Some.is)) in
    sym (found.changed ∙ ap (λ y. slice_set xs c.in-Some.at (f y)) (sym c.index_mut-pair.ensures.value) ∙ ap (λ y. slice_set xs c.in-Some.at y) (sym c.take.ensures))

pub returns-in-Some-clause-none : goal.returns-in-Some-clause-none
returns-in-Some-clause-none c =
    let found = place (waits_at c.args.listener) (linked c.args.link) c.index_mut-pair.result.now c.args.pairs.now.items c.in-Some.at (rw c.as_slice.ensures.value at (sym c.queued_place.ensures.place ∙ c.in-Some.is)) in
    some_left (length (filter (waits_at c.args.listener) c.args.pairs.now.items)) (some_waits (waits_at c.args.listener) _ c.args.pairs.now.items found.found)
