use Rattle.std.proofs.Common.{refl}
use Rattle.dill_ws.specs.Fronts.{head_front}
use Rattle.dill_ws.proofs.Heads.{head_again, open_is_short}
use Rattle.dill_ws.proofs.Shown.{head_shown, is_head_front}
use Rattle.dill_ws.proofs.Whole.{head_stays, frame_received, read_framed, frame_free, masked_twice}
use Rattle.dill_ws.proofs.laws.frame_laws.Goals as goal

pub returns : goal.returns
returns c = record {
  again = head_again;
  refused = head_shown;
  fronts = λ receiver joining u b. is_head_front receiver joining u b (head_front receiver joining u) refl;
  stays = head_stays;
  waits = open_is_short;
  received = frame_received;
  framed = read_framed;
  free = frame_free;
  unmasked = masked_twice;
}
