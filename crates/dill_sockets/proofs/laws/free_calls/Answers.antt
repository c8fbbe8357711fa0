use Rattle.dill_sockets.proofs.Free.{spelled, allowed, fits, bare}
use Rattle.dill_sockets.proofs.laws.free_calls.Goals as goal

pub returns : goal.returns
returns g c = record {
  spelled = spelled;
  allowed = allowed;
  fits = fits;
  bare = bare;
}
