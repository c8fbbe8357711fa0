use Rattle.dill_sockets.proofs.entering.greet.Goals as goal

pub returns-in-WsAttachServer : goal.returns-in-WsAttachServer
returns-in-WsAttachServer g c = rw c.in-WsAttachServer.is (c.expect.ensures (g.R.Rng.stream c.args.keys.now))
