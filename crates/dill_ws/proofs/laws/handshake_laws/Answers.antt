use Rattle.dill_ws.proofs.ClientSent.{client_sent}
use Rattle.dill_ws.proofs.ServerSent.{server_sent}
use Rattle.dill_ws.proofs.Asking.{client_again, client_refused}
use Rattle.dill_ws.proofs.Agreeing.{server_again, server_refused}
use Rattle.dill_ws.proofs.HeadLaws.{client_there, client_stays, server_stays, client_waits, server_waits, client_free, server_free}
use Rattle.dill_ws.proofs.laws.handshake_laws.Goals as goal

pub returns : goal.returns
returns c =
    let laws = c.http_laws.ensures.lines in
    let heads = c.http_laws.ensures.heads in
    record {
      client_sent = client_sent heads;
      server_sent = server_sent heads;
      client_again = client_again laws;
      client_refused = client_refused laws;
      server_again = server_again laws;
      server_refused = server_refused laws;
      client_there = client_there laws;
      client_stays = client_stays laws;
      server_stays = server_stays laws;
      client_waits = client_waits;
      server_waits = server_waits;
      client_free = client_free laws;
      server_free = server_free laws;
    }
