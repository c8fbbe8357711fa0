-- What a reply of the kernel does to the world.
use Rattle.std.specs.Prelude.{ℕ, List, fold, Option, Some, None, if◌then◌else◌}
use Rattle.dill_base.specs.declared.errno.Errno.{Errno}
use Rattle.dill_base.specs.declared.errno.Errno.TheVariants as errnos
use Rattle.dill_calls.specs.declared.answer.Answer.TheVariants.{Number, Fault}
use Rattle.dill_calls.specs.declared.call.Call.{Call}
use Rattle.dill_calls.specs.CallTable.{word_of}
use Rattle.dill_kernel.specs.declared.replies.KernelAsk.{KernelAsk}
use Rattle.dill_kernel.specs.declared.replies.KernelAsk.TheVariants as asks
use Rattle.dill_kernel.specs.declared.replies.KernelFault.{KernelFault}
use Rattle.dill_kernel.specs.declared.replies.KernelFault.TheVariants as faults
use Rattle.dill_kernel.specs.declared.replies.KernelReply.{KernelReply}
use Rattle.dill_kernel.specs.declared.replies.KernelReply.TheVariants as replies
use Rattle.dill_kernel.specs.declared.ready.Ready.{Ready}
use Rattle.dill_kernel.specs.Entry.{fits}
use Rattle.dill_stack.specs.Interface.{came, ended, broke, took}
use Rattle.dill_base.specs.Maps.{if_some}
use Rattle.dill_rules.specs.declared.thing.Thing.{Thing}
use Rattle.dill_rules.specs.declared.thing.Thing.TheVariants as things
use Rattle.dill_rules.specs.Links as links
use Rattle.dill_rules.specs.Links.{look, connector, with_stack, heated, read_cold, write_cold, as_wrote, as_shut, as_stream}
use Rattle.dill_rules.specs.declared.link.Sort.{Sort}
use Rattle.dill_rules.specs.declared.link.Sort.TheVariants.{Listening, Connecting, Stream}
use Rattle.dill_rules.specs.World.{World, call_of, reply, from_start}
use Rattle.dill_rules.specs.Naming as naming
use Rattle.dill_rules.specs.Effects.{next_number, make}
use Rattle.dill_rules.specs.Sockets.{on_link}
use Rattle.dill_rules.specs.Giving.{give}
use Rattle.dill_rules.specs.Refusals.{is_accept}
use Rattle.dill_rules.specs.Trying.{Try, next_link, pending_on}

-- the errno of a failed `listen`
abbrev pub listen_fault : KernelFault → Errno
listen_fault faults.InUse = errnos.Eaddrinuse
listen_fault faults.NoMemory = errnos.Enomem
listen_fault fault = errnos.Eaddrnotavail

-- the errno of a failed `connect` or `finish_connect`
abbrev pub connect_fault : KernelFault → Errno
connect_fault faults.Refused = errnos.Econnrefused
connect_fault faults.Reset = errnos.Econnreset
connect_fault faults.InUse = errnos.Eaddrinuse
connect_fault faults.NoMemory = errnos.Enomem
connect_fault faults.Other = errnos.Ehostunreach

-- the errno of a failed `accept`
abbrev pub accept_fault : KernelFault → Errno
accept_fault faults.NoMemory = errnos.Enomem
accept_fault fault = errnos.Econnreset

-- A reply that is missing or doesn't fit its ask is a failure.
abbrev pub fitting : KernelAsk → Option KernelReply → KernelReply
fitting ask None = replies.Failed faults.Other
fitting ask (Some reply) = if fits ask reply then reply else replies.Failed faults.Other

module _ {V : Type 0} where
  -- the listen, accept or connect that a coroutine is pending in
  abbrev pub linking_call : World V → ℕ → Option Call
  linking_call w who = if_some (call_of w who) None (λ call. if naming.links (word_of call) then Some call else None)

  -- that call has an errno
  abbrev pub fail : World V → Errno → ℕ → World V
  fail w e who = if_some (linking_call w who) w (λ call. give w who call (Fault e))

  -- that call is answered by a handle of the coroutine's own
  abbrev pub give_handle : World V → Thing → ℕ → World V
  give_handle w thing who = if_some (linking_call w who) w (λ call. reply (make w thing who) who (word_of call) (Number (next_number w)))

  -- the kernel made the next link, and the call is answered by its handle
  abbrev pub made : World V → Sort → (ℕ → Thing) → ℕ → World V
  made w sort thing who = give_handle (record w { links = links.add w.links sort }) (thing (next_link w)) who

  -- a link is done with in both directions
  abbrev pub broken : World V → ℕ → World V
  broken w link = on_link w link (with_stack broke)

  -- a `listen` for a coroutine
  abbrev pub heard_listen : World V → ℕ → KernelReply → World V
  heard_listen w who (replies.Failed fault) = fail w (listen_fault fault) who
  heard_listen w who other = made w Listening things.Listener who

  -- a `connect` for a coroutine, which waits on
  abbrev pub heard_connect : World V → ℕ → KernelReply → World V
  heard_connect w who (replies.Failed fault) = fail w (connect_fault fault) who
  heard_connect w who other = record w { links = links.add w.links (Connecting who) }

  -- who waits for a connecting link
  abbrev pub connector_of : World V → ℕ → Option ℕ
  connector_of w link = if_some (look w.links link) None (λ x. connector x.sort)

  abbrev pub heard_finish : World V → ℕ → KernelReply → World V
  heard_finish w link (replies.Failed fault) = if_some (connector_of w link) w (fail w (connect_fault fault))
  heard_finish w link replies.NotYet = on_link w link write_cold
  heard_finish w link other = if_some (connector_of w link) w (give_handle (on_link w link as_stream) (things.Socket link))

  -- an `accept` of a listener answers who waits there
  abbrev pub heard_accept : World V → ℕ → KernelReply → World V
  heard_accept w listener (replies.Failed fault) = if_some (pending_on w is_accept listener) w (fail w (accept_fault fault))
  heard_accept w listener replies.NotYet = on_link w listener read_cold
  heard_accept w listener other = if_some (pending_on w is_accept listener) w (made w Stream things.Socket)

  abbrev pub heard_write : World V → ℕ → KernelReply → World V
  heard_write w link (replies.Took count) = on_link w link (with_stack (took count))
  heard_write w link replies.NotYet = on_link w link write_cold
  heard_write w link other = broken w link

  abbrev pub heard_shut : World V → ℕ → KernelReply → World V
  heard_shut w link replies.Done = on_link w link as_shut
  heard_shut w link other = broken w link

  abbrev pub heard_read : World V → ℕ → KernelReply → World V
  heard_read w link (replies.Came bytes) = on_link w link (with_stack (came bytes))
  heard_read w link replies.End = on_link w link (with_stack ended)
  heard_read w link replies.NotYet = on_link w link read_cold
  heard_read w link other = broken w link

  -- by the ask, whose number is that of the try
  abbrev pub heard_ask : World V → ℕ → KernelAsk → KernelReply → World V
  heard_ask w number (asks.Close link) said = record w { links = links.gone w.links link }
  heard_ask w number (asks.Listen link address backlog) said = heard_listen w number said
  heard_ask w number (asks.Connect link address) said = heard_connect w number said
  heard_ask w number (asks.Finish link) said = heard_finish w link said
  heard_ask w number (asks.Accept listener link) said = heard_accept w listener said
  heard_ask w number (asks.Write link bytes) said = heard_write (on_link w link as_wrote) link said
  heard_ask w number (asks.Shut link) said = heard_shut w link said
  heard_ask w number (asks.Read link size) said = heard_read w link said
  heard_ask w number (asks.Wait limit) said = w

  -- the round stands at this try, and hears its reply
  abbrev pub heard : World V → Try → Option KernelReply → World V
  heard w x said = heard_ask (record w { place = record { kind = x.kind; number = x.number } }) x.number x.ask (fitting x.ask said)

  -- a wait tells ready links, of which those that are there are hot, and a round begins
  abbrev pub heat_ready : World V → Ready → World V
  heat_ready w x = on_link w x.link (heated x.read x.write)

  abbrev pub woken : World V → List Ready → World V
  woken w ready = from_start (fold heat_ready w ready)
