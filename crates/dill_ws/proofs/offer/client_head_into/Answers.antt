use Rattle.std.proofs.Common.{◌++◌, ◌∙◌, ap, refl, codes}
use Rattle.dill_ws.proofs.Offered.{flat_head}
use Rattle.dill_ws.proofs.offer.client_head_into.Goals as goal

pub returns-clause-head : goal.returns-clause-head
returns-clause-head c =
    flat_head c.args.resource.now c.args.host.now c.args.key.now c.args.key.now _ _ _ _ _ _ _ refl (c.put.ensures.put ∙ ap (λ x. x ++ codes "GET ") c.requires.empty) c.put-2.ensures.put c.put-3.ensures.put c.put-4.ensures.put c.put-5.ensures.put c.put-6.ensures.put c.put-7.ensures.put
