use Rattle.std.proofs.Common.{refl}
use Rattle.dill_http.specs.Heads.{Request, Field}
use Rattle.dill_sockets.proofs.entering.queue_said.Goals as goal

pub returns-in-HttpSendrequest : goal.returns-in-HttpSendrequest
returns-in-HttpSendrequest c = λ random.
    rw c.in-HttpSendrequest.is (rw (← c.as_slice.ensures) (rw (← c.as_slice-in-HttpSendrequest.ensures)
    (c.queue_line.ensures (Request c.as_slice.result.now c.as_slice-in-HttpSendrequest.result.now) random
    (rw c.as_slice.ensures (rw c.as_slice-in-HttpSendrequest.ensures (rw c.in-HttpSendrequest.is at c.requires.spelled))) refl c.write_request-line.ensures)))

pub returns-in-HttpSendstatus : goal.returns-in-HttpSendstatus
returns-in-HttpSendstatus c = λ random. rw c.in-HttpSendstatus.is (rw (← c.as_slice-in-HttpSendstatus.ensures) (c.queue_status.ensures random))

pub returns-in-HttpSendfield : goal.returns-in-HttpSendfield
returns-in-HttpSendfield c = λ random.
    rw c.in-HttpSendfield.is (rw (← c.as_slice-in-HttpSendfield.ensures) (rw (← c.as_slice-in-HttpSendfield-2.ensures)
    (c.queue_line-in-HttpSendfield.ensures (Field c.as_slice-in-HttpSendfield.result.now c.as_slice-in-HttpSendfield-2.result.now) random
    (rw c.as_slice-in-HttpSendfield.ensures (rw c.as_slice-in-HttpSendfield-2.ensures (rw c.in-HttpSendfield.is at c.requires.spelled))) refl c.write_field-line.ensures)))
