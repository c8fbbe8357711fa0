use Rattle.dill_ws.proofs.Offered.{flat_head}
use Rattle.dill_ws.proofs.offer.head_bytes.Goals as goal

pub returns : goal.returns
returns c =
    flat_head c.args.resource.now c.args.host.now _ c.key_text.result _ _ _ _ _ _ _ c.key_text.ensures c.in_ok-head.ensures c.in_ok-push_all.ensures.ok c.in_ok-push_all-2.ensures.ok c.in_ok-push_all-3.ensures.ok c.in_ok-push_all-4.ensures.ok c.in_ok-push_all-5.ensures.ok c.in_ok-push_all-6.ensures.ok
