-- What is held goes on its way over each statement.
use Rattle.std.proofs.Common.{◌≡◌, suc, true, sym, ap, subst}
use Rattle.std.proofs.lemmas.Bool.{and_from}
use Rattle.dill_meaning.specs.Views.{pending, statements_of}
use Rattle.dill_meaning.specs.Walks as walks
use Rattle.relay_body.specs.declared.held.Held.{Held}
use Rattle.relay_body.specs.Depths.{IsWalking}
use Rattle.relay_body.specs.Opened.{stopped_opens}
use Rattle.relay_body.specs.Running.{has_open, is_runnable, is_running}
use Rattle.relay_body.specs.Seen.{seen}
use Rattle.relay_body.specs.Steps.{HasSlot}
use Rattle.relay_body.specs.Stopping.{PassedOne, behind_at}
use Rattle.relay_body.proofs.Stepping.{Behind, passed_running, behind_walking, few_there}

-- what is held runs where a statement was passed
pub passed_runs : (mode : walks.Mode) (old mid : Held) → IsWalking mode (seen old) → PassedOne old mid → is_running (seen mid) ≡ true
passed_runs mode old mid w p = passed_running mode (seen old) (seen mid) p.there p.view w

-- and has a slot for the loop that begins there
pub has_slot : (mode : walks.Mode) (old mid : Held) → IsWalking mode (seen old) → PassedOne old mid → HasSlot mid
has_slot mode old mid w p rounds e = few_there mode (seen old) (seen mid) rounds p.view w e

-- one more is behind
pub one_more : (old mid : Held) → PassedOne old mid → mid.passed ≡ suc old.passed
one_more old mid p = ap (λ v. v.passed) p.view

-- and it is on its way behind that
pub onward : (old mid new : Held) (mode way : walks.Mode) → IsWalking mode (seen old) → PassedOne old mid → way ≡ (behind_at mode (seen mid) (pending (seen mid))).0 → seen new ≡ (behind_at mode (seen mid) (pending (seen mid))).1 → Behind way (seen old) (seen new)
onward old mid new mode way w p e v = behind_walking mode way (seen old) (seen mid) (seen new) p.there p.view e v w

-- what is held runs where its walk ends
pub ended_runs : (mode : walks.Mode) (old new : Held) → IsWalking mode (seen old) → new ≡ old → is_running (seen new) ≡ true
ended_runs mode old new w e = subst (λ held. is_running (seen held) ≡ true) (sym e) (and_from (is_runnable (seen old).script) (has_open (seen old)) w.runnable (stopped_opens (statements_of (seen old)) mode (seen old) (pending (seen old)) w.fits))
