use Rattle.std.proofs.Common.{◌∙◌, sym, refl}
use Rattle.dill_steps.proofs.Entered.{some_of}
use Rattle.dill_steps.proofs.entering.refusal.Goals as goal

pub returns-in-Some-clause-free : goal.returns-in-Some-clause-free
returns-in-Some-clause-free g c =
    λ e. record {
      view = c.in-Some.one.now.body;
      has = record { one = c.in-Some.one.now; found = sym c.in-Some.ensures.value; same = refl };
      free = sym (rw c.body.ensures at c.refuse.ensures) ∙ some_of e;
    }
