-- A head worked by hand: a request and its fields, a status, and the bytes behind the head.
use Rattle.std.specs.Prelude.{◌≡◌, ℕ, List, [], true, false, Some, codes}
use Rattle.dill_base.specs.declared.errno.Errno.TheVariants.{Einval, Ebusy, Epipe, Econnreset, Eproto}
use Rattle.dill_calls.specs.declared.answer.Answer.TheVariants.{Two, Coded}
use Rattle.dill_stack.specs.declared.layer.Layer.TheVariants as layer
use Rattle.dill_stack.specs.declared.layer.Top.TheVariants as top
use Rattle.dill_stack.specs.declared.want.Want.TheVariants.{Exact, Request, Status, Field}
use Rattle.dill_stack.specs.declared.want.ReadOut.TheVariants.{Given, Fault}
use Rattle.dill_stack.specs.declared.parting.Parting.TheVariants as parting
use Rattle.dill_stack.specs.Held.{Held, opening, broke, top}
use Rattle.dill_stack.specs.Refusals.{line_fault, done_fault, read_fault}
use Rattle.dill_stack.specs.Sending.{offered, took, withdraw}
use Rattle.dill_http.specs.Lines.{crlf}
use Rattle.dill_stack.specs.RowTerms.{attached, sends_line, ends, leaves, reads, said, left, left_said, bytes, zero_given, with_bytes, with_end_behind}

-- a request with four fields, and three bytes behind its empty line
abbrev pub request_text : List ℕ
request_text = codes "POST /a HTTP/1.1\r\nHost: x\r\nUser-Agent: curl/8.0\r\nAccept: */*\r\nContent-Length: 3\r\n\r\nxyz"

-- an HTTP socket on which it came
abbrev pub asked : Held
asked = attached layer.Http (with_bytes request_text)

-- an HTTP socket on which nothing came
abbrev pub bare : Held
bare = attached layer.Http opening

-- the stack after the request line and its four fields
abbrev pub fields_read : Held
fields_read = reads Field (reads Field (reads Field (reads Field (reads Request asked))))

-- the empty line was met
abbrev pub head_read : Held
head_read = reads Field fields_read

-- the line of a status
abbrev pub status_line : List ℕ
status_line = codes "HTTP/1.1 200 OK\r\n"

-- the status and the empty line are queued, and have gone
abbrev pub status_sent : Held
status_sent = took 17 (sends_line true status_line head_read)

-- the empty line is queued and has gone too
abbrev pub answered : Held
answered = took 2 (ends status_sent)

-- the head was left
abbrev pub head_left : Held
head_left = left (leaves parting.Plain answered)

-- an HTTP socket on which this came before the peer ended
abbrev pub head_end : List ℕ → Held
head_end u = attached layer.Http (with_end_behind u)

-- a request, and what is behind it
pub record HttpReads : Type 0 where
  pub line : said Request asked ≡ Given (Two (codes "POST") (codes "/a"))
  pub host : said Field (reads Request asked) ≡ Given (Two (codes "Host") (codes "x"))
  pub last : said Field (reads Field (reads Field (reads Field (reads Request asked)))) ≡ Given (Two (codes "Content-Length") (codes "3"))
  pub over : said Field fields_read ≡ Fault Epipe
  pub over_again : read_fault Field false head_read ≡ Some Epipe

-- an answer, and the bytes behind the head
pub record HttpAnswers : Type 0 where
  pub sent : offered (sends_line true status_line head_read) ≡ status_line
  pub end_sent : offered (ends status_sent) ≡ crlf
  pub at_once : left_said (leaves parting.Plain answered) ≡ zero_given
  pub plain_top : top head_left ≡ top.Bytes
  pub body : said (Exact 3) head_left ≡ bytes (codes "xyz")

-- lines out of their order, and the places of lines that are pending, given up or failed
pub record HttpPlaces : Type 0 where
  pub field_first : read_fault Field false asked ≡ Some Einval
  pub second_request : read_fault Request true (reads Request asked) ≡ Some Einval
  pub pending_first : line_fault true true (sends_line true status_line bare) ≡ Some Einval
  pub pending_field : line_fault false true (sends_line true status_line bare) ≡ Some Ebusy
  pub given_up : withdraw (sends_line true status_line bare) ≡ bare
  pub failed_first : line_fault true false (broke (sends_line true status_line bare)) ≡ Some Einval
  pub failed_field : line_fault false false (broke (sends_line true status_line bare)) ≡ Some Econnreset
  pub pending_end : line_fault true true (ends bare) ≡ Some Ebusy
  pub failed_end : done_fault false (broke (ends bare)) ≡ Some Epipe
  pub end_given_up : withdraw (ends bare) ≡ bare
  pub field_taken_back : withdraw (sends_line false (codes "a: b\r\n") (took 17 (sends_line true status_line bare))) ≡ took 17 (sends_line true status_line bare)

-- the ends of a head
pub record HttpEnds : Type 0 where
  pub nothing : said Request (head_end []) ≡ Fault Epipe
  pub empty_first : said Request (head_end crlf) ≡ Fault Eproto
  pub cut_line : said Request (head_end (codes "GET")) ≡ Fault Eproto
  pub cut_head : said Field (reads Request (head_end (codes "GET / HTTP/1.1\r\n"))) ≡ Fault Eproto
  pub old_status : said Status (head_end (codes "HTTP/1.0 204\r\n")) ≡ Given (Coded 204 [])

-- a detach drops the lines that are left
pub record HttpDrops : Type 0 where
  pub dropped : left (took 2 (leaves parting.Plain asked)) ≡ with_bytes (codes "xyz")
  pub empty_dropped : left_said (took 2 (leaves parting.Plain (attached layer.Http (with_bytes crlf)))) ≡ Fault Eproto
