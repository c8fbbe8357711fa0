-- What a reply of the kernel does sees no random number.
use Rattle.std.proofs.Common.{◌≡◌, ℕ, false, Option, refl, ap}
use Rattle.rand_core.specs.Stream.{Stream}
use Rattle.dill_base.specs.declared.errno.Errno.{Errno}
use Rattle.dill_calls.specs.declared.answer.Answer.TheVariants.{Fault}
use Rattle.dill_calls.specs.Program.{Program}
use Rattle.dill_kernel.specs.declared.replies.KernelAsk.{KernelAsk}
use Rattle.dill_kernel.specs.declared.replies.KernelAsk.TheVariants as asks
use Rattle.dill_kernel.specs.declared.replies.KernelFault.{KernelFault}
use Rattle.dill_kernel.specs.declared.replies.KernelFault.TheVariants as faults
use Rattle.dill_kernel.specs.declared.replies.KernelReply.{KernelReply}
use Rattle.dill_kernel.specs.declared.replies.KernelReply.TheVariants as replies
use Rattle.dill_rules.specs.declared.link.Sort.{Sort}
use Rattle.dill_rules.specs.declared.link.Sort.TheVariants.{Listening, Stream as ToStream}
use Rattle.dill_rules.specs.declared.thing.Thing.{Thing}
use Rattle.dill_rules.specs.declared.thing.Thing.TheVariants as things
use Rattle.dill_rules.specs.Links as links
use Rattle.dill_rules.specs.Links.{as_stream}
use Rattle.dill_rules.specs.World.{World, from_start}
use Rattle.dill_rules.specs.Sockets.{on_link}
use Rattle.dill_rules.specs.Refusals.{is_accept}
use Rattle.dill_rules.specs.Giving.{is_read}
use Rattle.dill_rules.specs.Trying.{Try, next_link, pending_on}
use Rattle.dill_rules.specs.Hearing.{listen_fault, connect_fault, accept_fault, fitting, linking_call, fail, give_handle, made, heard_listen, heard_connect, connector_of, heard_finish, heard_accept, heard_write, heard_shut, heard_read, heard_ask, heard, heat_ready}
use Rattle.laws_queue.specs.Lending.{lent}
use Rattle.laws_blind.specs.Blind.{SeesNoRandom}
use Rattle.laws_blind.proofs.Giving.{some_lent, fold_lent, give_lent, lookless_blind, expire_lent, kept_late_lent, settle_lent}
use Rattle.laws_blind.proofs.Calling.{enter_lent, end_lent, refuse_blind}

-- no fault of the kernel comes from bytes
listen_unread : (fault : KernelFault) → is_read (Fault (listen_fault fault)) ≡ false
listen_unread faults.InUse = refl
listen_unread fault = refl

connect_unread : (fault : KernelFault) → is_read (Fault (connect_fault fault)) ≡ false
connect_unread faults.InUse = refl
connect_unread fault = refl

accept_unread : (fault : KernelFault) → is_read (Fault (accept_fault fault)) ≡ false
accept_unread faults.InUse = refl
accept_unread fault = refl

module _ {V : Type 0} (u : Stream) where
  fail_lent : (w : World V) (e : Errno) (who : ℕ) → is_read (Fault e) ≡ false → fail (lent u w) e who ≡ lent u (fail w e who)
  fail_lent w e who h = some_lent u (linking_call w who) _ _ refl (λ call f. give_lent u w who call (Fault e) (λ rd c. h))

  handle_lent : (w : World V) (thing : Thing) (who : ℕ) → give_handle (lent u w) thing who ≡ lent u (give_handle w thing who)
  handle_lent w thing who = some_lent u (linking_call w who) _ _ refl (λ call e. refl)

  made_lent : (w : World V) (sort : Sort) (thing : ℕ → Thing) (who : ℕ) → made (lent u w) sort thing who ≡ lent u (made w sort thing who)
  made_lent w sort thing who = handle_lent (record w { links = links.add w.links sort }) (thing (next_link w)) who

  listen_lent : (w : World V) (who : ℕ) (said : KernelReply) → heard_listen (lent u w) who said ≡ lent u (heard_listen w who said)
  listen_lent w who (replies.Failed fault) = fail_lent w (listen_fault fault) who (listen_unread fault)
  listen_lent w who said = made_lent w Listening things.Listener who

  connect_lent : (w : World V) (who : ℕ) (said : KernelReply) → heard_connect (lent u w) who said ≡ lent u (heard_connect w who said)
  connect_lent w who (replies.Failed fault) = fail_lent w (connect_fault fault) who (connect_unread fault)
  connect_lent w who said = refl

  finish_lent : (w : World V) (link : ℕ) (said : KernelReply) → heard_finish (lent u w) link said ≡ lent u (heard_finish w link said)
  finish_lent w link (replies.Failed fault) = some_lent u (connector_of w link) _ _ refl (λ who e. fail_lent w (connect_fault fault) who (connect_unread fault))
  finish_lent w link replies.NotYet = refl
  finish_lent w link said = some_lent u (connector_of w link) _ _ refl (λ who e. handle_lent (on_link w link as_stream) (things.Socket link) who)

  accept_lent : (w : World V) (listener : ℕ) (said : KernelReply) → heard_accept (lent u w) listener said ≡ lent u (heard_accept w listener said)
  accept_lent w listener (replies.Failed fault) = some_lent u (pending_on w is_accept listener) _ _ refl (λ who e. fail_lent w (accept_fault fault) who (accept_unread fault))
  accept_lent w listener replies.NotYet = refl
  accept_lent w listener said = some_lent u (pending_on w is_accept listener) _ _ refl (λ who e. made_lent w ToStream things.Socket who)

  write_lent : (w : World V) (link : ℕ) (said : KernelReply) → heard_write (lent u w) link said ≡ lent u (heard_write w link said)
  write_lent w link replies.NotYet = refl
  write_lent w link said = refl

  shut_lent : (w : World V) (link : ℕ) (said : KernelReply) → heard_shut (lent u w) link said ≡ lent u (heard_shut w link said)
  shut_lent w link replies.Done = refl
  shut_lent w link said = refl

  read_lent : (w : World V) (link : ℕ) (said : KernelReply) → heard_read (lent u w) link said ≡ lent u (heard_read w link said)
  read_lent w link replies.NotYet = refl
  read_lent w link said = refl

  ask_lent : (w : World V) (number : ℕ) (ask : KernelAsk) (said : KernelReply) → heard_ask (lent u w) number ask said ≡ lent u (heard_ask w number ask said)
  ask_lent w number (asks.Close link) said = refl
  ask_lent w number (asks.Listen link address backlog) said = listen_lent w number said
  ask_lent w number (asks.Connect link address) said = connect_lent w number said
  ask_lent w number (asks.Finish link) said = finish_lent w link said
  ask_lent w number (asks.Accept listener link) said = accept_lent w listener said
  ask_lent w number (asks.Write link bytes) said = write_lent (on_link w link links.as_wrote) link said
  ask_lent w number (asks.Shut link) said = shut_lent w link said
  ask_lent w number (asks.Read link size) said = read_lent w link said
  ask_lent w number (asks.Wait limit) said = refl

  heard_lent : (w : World V) (x : Try) (said : Option KernelReply) → heard (lent u w) x said ≡ lent u (heard w x said)
  heard_lent w x said = ask_lent (record w { place = record { kind = x.kind; number = x.number } }) x.number x.ask (fitting x.ask said)

pub sees_no_random : {V : Type 0} (p : Program V) → SeesNoRandom p
sees_no_random p = record {
  settles = λ w u. settle_lent u w;
  expires = λ w who u. expire_lent u w who;
  late = λ k u. kept_late_lent u k;
  ends = λ w who outcome u. end_lent u w who outcome;
  enters = λ lacks w who view call u. enter_lent u p lacks w who view call;
  refuses = λ w who view call u. refuse_blind u p w who view call;
  answers = λ w who call u. lookless_blind u w who call;
  heard = λ w x said u. heard_lent u w x said;
  woken = λ w ready u. ap from_start (fold_lent u heat_ready ready w (λ v x. refl));
}
