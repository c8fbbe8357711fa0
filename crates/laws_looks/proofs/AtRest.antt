-- Where no look finds anything, settling needs none, and what looks at no stack sees no random number.
use Rattle.std.proofs.Common.{◌≡◌, ◌∙◌, length, sym, ap}
use Rattle.rand_core.specs.Stream.{Stream}
use Rattle.dill_rules.specs.World.{World}
use Rattle.dill_rules.specs.Settling.{settle}
use Rattle.laws_queue.specs.Kept.{Kept, queued, kept_late, kept_expired, root_closed, kept_shut, lend_kept}
use Rattle.laws_queue.specs.Lending.{lent}
use Rattle.laws_blind.proofs.Giving.{kept_late_lent, settle_lent}
use Rattle.laws_looks.specs.Calm.{Restful}
use Rattle.laws_looks.specs.AtRest.{RestSeesNoRandom}
use Rattle.laws_looks.proofs.Restful.{rest_lent}
use Rattle.laws_looks.proofs.Lookless.{rest_settles, expiry_rests, closing_rests}

module _ {V : Type 0} (u : Stream) where
  rest_settles_lent : (w : World V) → Restful w → settle (lent u w) ≡ lent u (settle w)
  rest_settles_lent w r = rest_settles (lent u w) (rest_lent w u r) ∙ settle_lent u w ∙ ap (lent u) (sym (rest_settles w r))

  expired_lent : (k : Kept V) → Restful k.world → kept_expired (lend_kept k u) ≡ lend_kept (kept_expired k) u
  expired_lent k r =
      let late = kept_late k in
      ap (λ (l : Kept V). queued (settle l.world) l.ready l.early) (kept_late_lent u k) ∙ ap (λ w. queued w late.ready late.early) (rest_settles_lent late.world (expiry_rests k r))

  shut_lent : (k : Kept V) → Restful k.world → kept_shut (lend_kept k u) ≡ lend_kept (kept_shut k) u
  shut_lent k r = ap (λ w. queued w k.ready (length k.ready)) (rest_settles_lent (root_closed k.world) (closing_rests k.world r))

pub rest_sees_no_random : (V : Type 0) → RestSeesNoRandom V
rest_sees_no_random V = record {
  rests = λ w u r. rest_lent w u r;
  settles = λ w u r. rest_settles_lent u w r;
  expired = λ k u r. expired_lent u k r;
  shut = λ k u r. shut_lent u k r;
}
