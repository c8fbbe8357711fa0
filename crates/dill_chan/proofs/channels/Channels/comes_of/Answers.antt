use Rattle.dill_chan.proofs.Waiting.{comes_with}
use Rattle.dill_chan.proofs.channels.Channels.comes_of.Goals as goal

pub returns : goal.returns
returns c =
    let h = c.self.inside in
    rw (← c.self.view_is) (comes_with h.ends.items _ h.waits.items _ h.last c.args.wait.now c.comes_of.result c.as_slice.ensures.value c.as_slice-2.ensures.value c.comes_of.ensures)
