use Rattle.dill_http.proofs.Requests.{request_is_cut}
use Rattle.dill_http.proofs.Statuses.{status_is_cut}
use Rattle.dill_http.proofs.Fields.{field_is_cut}
use Rattle.dill_http.proofs.Judged as judged
use Rattle.dill_http.proofs.Sent as sent
use Rattle.dill_http.proofs.laws.http_laws.Goals as goal

pub returns-clause-lines : goal.returns-clause-lines
returns-clause-lines c = record {
  front = judged.line_is_front;
  again = judged.again;
  refused = judged.refused;
  least = judged.least;
  stays = judged.stays;
  waits = judged.waits;
  open_ends = judged.open_ends;
  cut_waits = judged.cut_waits;
  lies = judged.lies;
  spelled = judged.spelled;
  free = judged.free;
  one = judged.one;
}

pub returns-clause-heads : goal.returns-clause-heads
returns-clause-heads c = record {
  written = sent.written;
  writes = sent.writes;
  no_form = sent.no_form;
  too_long = sent.too_long;
  again = sent.again;
  says = sent.says;
  request_read = request_is_cut;
  status_read = status_is_cut;
  field_read = field_is_cut;
  request_found = sent.request_found;
  status_found = sent.status_found;
  field_found = sent.field_found;
  one = sent.one;
  free = sent.free;
}
