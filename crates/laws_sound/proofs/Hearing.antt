-- Replies of the kernel keep a world in order: a number is kept for whom they give a handle.
use Rattle.std.proofs.Common.{◌≡◌, ◌∙◌, ℕ, Bool, true, false, not, ◌&&◌, ◌||◌, if◌then◌else◌, Option, Some, None, refl, sym, ap, arith, is_some}
use Rattle.dill_base.specs.declared.errno.Errno.{Errno}
use Rattle.dill_calls.specs.declared.answer.Answer.TheVariants.{Fault, Number}
use Rattle.dill_calls.specs.declared.call.Call.{Call}
use Rattle.dill_calls.specs.declared.call.Call.TheVariants as calls
use Rattle.dill_calls.specs.CallTable.{word_of, gives_up}
use Rattle.dill_kernel.specs.declared.replies.KernelAsk.{KernelAsk}
use Rattle.dill_kernel.specs.declared.replies.KernelAsk.TheVariants as asks
use Rattle.dill_kernel.specs.declared.replies.KernelReply.{KernelReply}
use Rattle.dill_kernel.specs.declared.replies.KernelReply.TheVariants as replies
use Rattle.dill_base.specs.Maps.{if_some}
use Rattle.dill_rules.specs.declared.coroutine.Mode.TheVariants as modes
use Rattle.dill_rules.specs.declared.thing.Thing.{Thing}
use Rattle.dill_rules.specs.declared.thing.Thing.TheVariants as things
use Rattle.dill_rules.specs.Directions.{is_handshake}
use Rattle.dill_rules.specs.LinkAnswers.{is_tcp_close}
use Rattle.dill_rules.specs.World.{World, Place, is_coroutine, call_of, pending_call, reply}
use Rattle.laws_queue.specs.Well.{bit}
use Rattle.dill_rules.specs.Links.{as_stream, read_cold, write_cold}
use Rattle.dill_rules.specs.declared.link.Sort.{Sort}
use Rattle.dill_rules.specs.declared.link.Sort.TheVariants.{Listening, Connecting, Stream}
use Rattle.dill_rules.specs.Links as link
use Rattle.dill_rules.specs.Naming.{links}
use Rattle.dill_rules.specs.Effects.{make, next_number}
use Rattle.dill_rules.specs.Giving.{give}
use Rattle.dill_rules.specs.Hearing.{listen_fault, connect_fault, accept_fault, fitting, linking_call, fail, give_handle, made, connector_of, heard_listen, heard_connect, heard_finish, heard_accept, heard_write, heard_shut, heard_read, heard_ask, heard}
use Rattle.dill_rules.specs.Refusals.{is_accept}
use Rattle.dill_rules.specs.Settling.{settle}
use Rattle.dill_rules.specs.Sockets.{on_link}
use Rattle.dill_rules.specs.Taking.{bundle_of}
use Rattle.dill_rules.specs.Trying.{Try, pending_on, next_link}
use Rattle.laws_queue.proofs.Besides.{with_links}
use Rattle.laws_sound.specs.Order.{is_proper_thing, IsInOrder}
use Rattle.laws_sound.specs.Orderly.{gives_number, kept_by, IsOrderly}
use Rattle.laws_sound.proofs.Counting.{weigh_found}
use Rattle.laws_sound.proofs.Making.{makes_handle}
use Rattle.laws_sound.proofs.Entering.{found_call}
use Rattle.laws_sound.proofs.Nearly.{is_free}
use Rattle.laws_sound.proofs.Ordering.{order_anyway}
use Rattle.laws_sound.proofs.Answering.{Does, links_one, does_good, does_goes, besides, Goes, goes_not, goes_then, answers_free, some_good, give_good, settle_goes}

no_hclose : (call : Call) (number : ℕ) → links (word_of call) ≡ true → call ≡ calls.Hclose number → ⊥
no_hclose call number e f = let bad : links (word_of (calls.Hclose number)) ≡ true = ap (λ c. links (word_of c)) (sym f) ∙ e in cc

free_call : (call : Call) → links (word_of call) ≡ true → is_free (modes.Pending call) ≡ true
free_call (calls.Hclose number) e = cc
free_call call e = refl

module _ {V : Type 0} where
  -- the place in the round is another
  placed_does : (w : World V) (place : Place) → IsInOrder w → Does w (record w { place = place }) 0
  placed_does w place o = record { order = order_anyway w w.channels w.links place w.random w.moment w.notes o; coroutines = refl; stays = λ n e. e; noted = λ n. refl; waits = refl; spent = omega arith }

  links_goes : (w : World V) (l : link.Links) → IsOrderly w → Goes w (record w { links = l })
  links_goes w l g = does_goes w (record w { links = l }) g (besides w (record w { links = l }) (with_links w l w.random) g.order)

  -- the listen, accept or connect that somebody is pending in
  linked_call : (w : World V) (who : ℕ) (call : Call) → linking_call w who ≡ Some call → (call_of w who ≡ Some call) × (links (word_of call) ≡ true)
  linked_call w who call e = at (call_of w who) refl e
    where
      by_word : (c : Call) (b : Bool) → links (word_of c) ≡ b → (if b then Some c else None) ≡ Some call → call_of w who ≡ Some c → (call_of w who ≡ Some call) × (links (word_of call) ≡ true)
      by_word c true f g i = let it : c ≡ call = cc in (i ∙ ap Some it, ap (λ d. links (word_of d)) (sym it) ∙ f)
      by_word c false f g i = cc

      at : (o : Option Call) → call_of w who ≡ o → if_some o None (λ c. if links (word_of c) then Some c else None) ≡ Some call → (call_of w who ≡ Some call) × (links (word_of call) ≡ true)
      at None i f = cc
      at (Some c) i f = by_word c (links (word_of c)) refl f i

  fails : (w : World V) (e : Errno) (who : ℕ) → IsOrderly w → Goes w (fail w e who)
  fails w e who g = some_good (linking_call w who) w (λ call. give w who call (Fault e)) g
      (λ call f.
      let l = linked_call w who call f in
      let c = found_call w who call l.0 in
      give_good w who call (Fault e) c.0 g c.1 c.2 (λ number s. absurd (no_hclose call number l.1 s)))

  handles_given : (w : World V) (thing : Thing) (who : ℕ) → bundle_of thing ≡ None → is_proper_thing thing ≡ true → IsOrderly w → Goes w (give_handle w thing who)
  handles_given w thing who none proper g = some_good (linking_call w who) w (λ call. reply (make w thing who) who (word_of call) (Number (next_number w))) g
      (λ call f.
      let l = linked_call w who call f in
      let c = found_call w who call l.0 in
      let one = ap (λ k. if_some (pending_call k) 0 (λ d. bit (gives_number (word_of d)))) c.2 ∙ links_one (links (word_of call)) ((is_handshake (word_of call) || gives_up (word_of call)) && not (is_tcp_close (word_of call))) l.1 in
      let all = weigh_found kept_by (is_coroutine who) w.coroutines c.0 c.1 in
      let k = g.kept in
      answers_free w (make w thing who) who (word_of call) (Number (next_number w)) c.0 g c.1 (ap (λ d. is_free d) c.2 ∙ free_call call l.1) (omega (arith, one, k))
      (makes_handle w thing who none proper (ap is_some c.1) (omega (arith, one, all, k)) g.order))

  links_made : (w : World V) (sort : Sort) (thing : ℕ → Thing) (who : ℕ) → ((n : ℕ) → bundle_of (thing n) ≡ None) → ((n : ℕ) → is_proper_thing (thing n) ≡ true) → IsOrderly w → Goes w (made w sort thing who)
  links_made w sort thing who none proper g =
      let more : World V = record w { links = link.add w.links sort } in
      let one = links_goes w (link.add w.links sort) g in
      goes_then w more (made w sort thing who) one (handles_given more (thing (next_link w)) who (none (next_link w)) (proper (next_link w)) one.good)

  named_goes : (w : World V) (o : Option ℕ) (f : ℕ → World V) → IsOrderly w → ((who : ℕ) → o ≡ Some who → Goes w (f who)) → Goes w (if_some o w f)
  named_goes w o f g h = some_good o w f g h

  listen_goes : (w : World V) (who : ℕ) (said : KernelReply) → IsOrderly w → Goes w (heard_listen w who said)
  listen_goes w who (replies.Failed fault) g = fails w (listen_fault fault) who g
  listen_goes w who said g = links_made w Listening things.Listener who (λ n. refl) (λ n. refl) g

  connect_goes : (w : World V) (who : ℕ) (said : KernelReply) → IsOrderly w → Goes w (heard_connect w who said)
  connect_goes w who (replies.Failed fault) g = fails w (connect_fault fault) who g
  connect_goes w who said g = links_goes w (link.add w.links (Connecting who)) g

  finish_goes : (w : World V) (n : ℕ) (said : KernelReply) → IsOrderly w → Goes w (heard_finish w n said)
  finish_goes w n (replies.Failed fault) g = named_goes w (connector_of w n) (fail w (connect_fault fault)) g (λ who e. fails w (connect_fault fault) who g)
  finish_goes w n replies.NotYet g = links_goes w (link.change_link w.links n write_cold) g
  finish_goes w n said g = named_goes w (connector_of w n) (give_handle (on_link w n as_stream) (things.Socket n)) g
      (λ who e.
      let one = links_goes w (link.change_link w.links n as_stream) g in
      goes_then w (on_link w n as_stream) (give_handle (on_link w n as_stream) (things.Socket n) who) one (handles_given (on_link w n as_stream) (things.Socket n) who refl refl one.good))

  accept_goes : (w : World V) (n : ℕ) (said : KernelReply) → IsOrderly w → Goes w (heard_accept w n said)
  accept_goes w n (replies.Failed fault) g = named_goes w (pending_on w is_accept n) (fail w (accept_fault fault)) g (λ who e. fails w (accept_fault fault) who g)
  accept_goes w n replies.NotYet g = links_goes w (link.change_link w.links n read_cold) g
  accept_goes w n said g = named_goes w (pending_on w is_accept n) (made w Stream things.Socket) g (λ who e. links_made w Stream things.Socket who (λ k. refl) (λ k. refl) g)

  write_goes : (w : World V) (n : ℕ) (said : KernelReply) → IsOrderly w → Goes w (heard_write w n said)
  write_goes w n (replies.Took count) g = links_goes w _ g
  write_goes w n replies.NotYet g = links_goes w _ g
  write_goes w n said g = links_goes w _ g

  shut_goes : (w : World V) (n : ℕ) (said : KernelReply) → IsOrderly w → Goes w (heard_shut w n said)
  shut_goes w n replies.Done g = links_goes w _ g
  shut_goes w n said g = links_goes w _ g

  read_goes : (w : World V) (n : ℕ) (said : KernelReply) → IsOrderly w → Goes w (heard_read w n said)
  read_goes w n (replies.Came bytes) g = links_goes w _ g
  read_goes w n replies.End g = links_goes w _ g
  read_goes w n replies.NotYet g = links_goes w _ g
  read_goes w n said g = links_goes w _ g

  ask_goes : (w : World V) (number : ℕ) (ask : KernelAsk) (said : KernelReply) → IsOrderly w → Goes w (heard_ask w number ask said)
  ask_goes w number (asks.Close n) said g = links_goes w (link.gone w.links n) g
  ask_goes w number (asks.Listen n address backlog) said g = listen_goes w number said g
  ask_goes w number (asks.Connect n address) said g = connect_goes w number said g
  ask_goes w number (asks.Finish n) said g = finish_goes w n said g
  ask_goes w number (asks.Accept listener n) said g = accept_goes w listener said g
  ask_goes w number (asks.Write n bytes) said g =
      let v = on_link w n link.as_wrote in
      let one = links_goes w v.links g in
      goes_then w v (heard_write v n said) one (write_goes v n said one.good)
  ask_goes w number (asks.Shut n) said g = shut_goes w n said g
  ask_goes w number (asks.Read n size) said g = read_goes w n said g
  ask_goes w number (asks.Wait limit) said g = goes_not w g

  -- a reply is heard, and then the world settles
  pub hear_goes : (w : World V) (x : Try) (said : Option KernelReply) → IsOrderly w → Goes w (settle (heard w x said))
  hear_goes w x said g =
      let at : World V = record w { place = record { kind = x.kind; number = x.number } } in
      let d = placed_does w (record { kind = x.kind; number = x.number }) g.order in
      let one = goes_then w at (heard w x said) (does_goes w at g d) (ask_goes at x.number x.ask (fitting x.ask said) (does_good w at g d)) in
      goes_then w (heard w x said) (settle (heard w x said)) one (settle_goes (heard w x said) one.good)
