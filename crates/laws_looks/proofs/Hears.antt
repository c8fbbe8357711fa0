-- A reply of the kernel names a link that no number named, and only one that was made or that finished its `connect`.
use Rattle.std.proofs.Common.{◌≡◌, ◌∙◌, ℕ, ◌+◌, ◌≤◌, ◌==◌, List, fold, Bool, true, false, Option, Some, None, refl, sym, ap, arith}
use Rattle.std.specs.Prelude.{is_none}
use Rattle.dill_base.specs.declared.errno.Errno.{Errno}
use Rattle.dill_base.specs.Maps.{if_some}
use Rattle.dill_calls.specs.declared.answer.Answer.TheVariants.{Fault, Number}
use Rattle.dill_calls.specs.declared.call.Call.{Call}
use Rattle.dill_calls.specs.CallTable.{word_of}
use Rattle.dill_handles.specs.Handles as handles
use Rattle.dill_handles.specs.declared.entry.Entry.{Entry}
use Rattle.dill_kernel.specs.declared.ready.Ready.{Ready}
use Rattle.dill_kernel.specs.declared.replies.KernelAsk.{KernelAsk}
use Rattle.dill_kernel.specs.declared.replies.KernelAsk.TheVariants as asks
use Rattle.dill_kernel.specs.declared.replies.KernelReply.{KernelReply}
use Rattle.dill_kernel.specs.declared.replies.KernelReply.TheVariants as replies
use Rattle.dill_stack.specs.Interface.{came, ended, broke, took}
use Rattle.dill_rules.specs.declared.thing.Thing.{Thing}
use Rattle.dill_rules.specs.declared.thing.Thing.TheVariants as things
use Rattle.dill_rules.specs.World.{World, reply}
use Rattle.dill_rules.specs.Effects.{make, next_number}
use Rattle.dill_rules.specs.Giving.{give}
use Rattle.dill_rules.specs.Hearing.{fitting, listen_fault, connect_fault, accept_fault, linking_call, fail, give_handle, made, connector_of, heard_listen, heard_connect, heard_finish, heard_accept, heard_write, heard_shut, heard_read, heard_ask, heard, heat_ready, woken}
use Rattle.dill_rules.specs.Links as link
use Rattle.dill_rules.specs.Links.{Link, Links, look, connector, with_stack, as_stream, as_shut, as_wrote, read_cold, write_cold}
use Rattle.dill_rules.specs.declared.link.Sort.{Sort}
use Rattle.dill_rules.specs.declared.link.Sort.TheVariants.{Listening, Connecting, Stream}
use Rattle.dill_rules.specs.Refusals.{is_accept}
use Rattle.dill_rules.specs.Sockets.{link_of, on_link}
use Rattle.dill_rules.specs.Trying.{Try, next_link, pending_on}
use Rattle.laws_queue.specs.Well.{bit}
use Rattle.laws_queue.proofs.Besides.{heat_all_besides}
use Rattle.laws_sound.proofs.Counting.{holds, weigh_push}
use Rattle.laws_looks.specs.Readers.{times_linked, may_name, LooksApart}
use Rattle.laws_looks.proofs.Lists.{equal_is}
use Rattle.laws_looks.proofs.Stays.{Opens, opens_add, opens_gone, opens_stream, stays_change, heat_all_stays, soft_rested}
use Rattle.laws_looks.proofs.Fewer.{links_to, weigh_linked, pends_same, fewer_parts, fewer_same, fewer_besides, fewer_reply, fewer_give, fewer_apart}

bits_follow : (b c : Bool) → (b ≡ true → c ≡ true) → bit b ≤ bit c
bits_follow true c h = let e = ap bit (h refl) in omega (arith, e)
bits_follow false c h = omega arith

module _ {V : Type 0} where
  -- links are made or gone
  pub opened : (w : World V) (l : Links) (one : Option ℕ) → Opens w.links l one → LooksApart w → LooksApart (record w { links = l })
  opened w l one o a = record {
    readers = λ number who other call more e g r s. a.readers number who other call more (pends_same w v refl who call e) (pends_same w v refl other more g) r s;
    sends = λ number who other call more e g s n r. a.sends number who other call more (pends_same w v refl who call e) (pends_same w v refl other more g) s n r;
    rising = o.rising;
    named = λ n. let x = a.named n in let y = bits_follow (may_name w.links n) (may_name l n) (o.names n) in omega (arith, x, y);
  }
    where
      v : World V
      v = record w { links = l }

  -- and the new one is named
  handled : (w : World V) (l : Links) (n : ℕ) (thing : Thing) (who : ℕ) → link_of thing ≡ Some n → Opens w.links l (Some n) → LooksApart w → LooksApart (make (record w { links = l }) thing who)
  handled w l n thing who names o a = record {
    readers = λ number one two call more e g r s. a.readers number one two call more (pends_same w v refl one call e) (pends_same w v refl two more g) r s;
    sends = λ number one two call more e g s m r. a.sends number one two call more (pends_same w v refl one call e) (pends_same w v refl two more g) s m r;
    rising = o.rising;
    named = λ k. at k (n == k) refl;
  }
    where
      v : World V
      v = make (record w { links = l }) thing who

      new : Entry Thing
      new = record { number = handles.next_number w.handles; thing = thing; owner = who }

      at : (k : ℕ) (b : Bool) → (n == k) ≡ b → times_linked v k ≤ bit (may_name l k)
      at k true e =
          let it = equal_is n k e in
          let n_new = o.new n refl in
          let was = a.named k in
          let p = weigh_push (links_to k) w.handles.entries new in
          let q : links_to k new ≡ 1 = ap (λ q. bit (holds q k)) names ∙ ap bit e in
          let before : bit (may_name w.links k) ≡ 0 = ap (λ m. bit (may_name w.links m)) (sym it) ∙ ap bit n_new.0 in
          let after : bit (may_name l k) ≡ 1 = ap (λ m. bit (may_name l m)) (sym it) ∙ ap bit n_new.1 in
          let x = weigh_linked w k in
          let y = weigh_linked v k in
          omega (arith, was, p, q, before, after, x, y)
      at k false e =
          let was = a.named k in
          let p = weigh_push (links_to k) w.handles.entries new in
          let q : links_to k new ≡ 0 = ap (λ q. bit (holds q k)) names ∙ ap bit e in
          let f = bits_follow (may_name w.links k) (may_name l k) (o.names k) in
          let x = weigh_linked w k in
          let y = weigh_linked v k in
          omega (arith, was, p, q, f, x, y)

  given : (w : World V) (l : Links) (n : ℕ) (thing : Thing) (who : ℕ) → link_of thing ≡ Some n → Opens w.links l (Some n) → LooksApart w → LooksApart (give_handle (record w { links = l }) thing who)
  given w l n thing who names o a = at (linking_call w who)
    where
      m : World V
      m = record w { links = l }

      at : (q : Option Call) → LooksApart (if_some q m (λ call. reply (make m thing who) who (word_of call) (Number (next_number m))))
      at None = opened w l (Some n) o a
      at (Some call) = fewer_apart (make m thing who) (reply (make m thing who) who (word_of call) (Number (next_number m))) (fewer_reply (make m thing who) who (word_of call) (Number (next_number m))) (handled w l n thing who names o a)

  failed : (w : World V) (e : Errno) (who : ℕ) → LooksApart w → LooksApart (fail w e who)
  failed w e who a = at (linking_call w who)
    where
      at : (q : Option Call) → LooksApart (if_some q w (λ call. give w who call (Fault e)))
      at None = a
      at (Some call) = fewer_apart w (give w who call (Fault e)) (fewer_give w who call (Fault e)) a

  some_apart : {A : Type 0} (o : Option A) (w : World V) (f : A → World V) → LooksApart w → ((x : A) → o ≡ Some x → LooksApart (f x)) → LooksApart (if_some o w f)
  some_apart None w f a h = a
  some_apart (Some x) w f a h = h x refl

  changed : (w : World V) (n : ℕ) (f : Link → Link) → ((x : Link) → (f x).number ≡ x.number) → ((x : Link) → (f x).sort ≡ x.sort) → LooksApart w → LooksApart (on_link w n f)
  changed w n f number sort a = fewer_apart w (on_link w n f) (fewer_parts w (on_link w n f) refl refl (stays_change w.links n f number sort)) a

  listened : (w : World V) (who : ℕ) (said : KernelReply) → LooksApart w → LooksApart (heard_listen w who said)
  listened w who (replies.Failed fault) a = failed w (listen_fault fault) who a
  listened w who said a = given w (link.add w.links Listening) (w.links.last + 1) (things.Listener (next_link w)) who refl (opens_add w.links Listening a.rising) a

  connected : (w : World V) (who : ℕ) (said : KernelReply) → LooksApart w → LooksApart (heard_connect w who said)
  connected w who (replies.Failed fault) a = failed w (connect_fault fault) who a
  connected w who said a = opened w (link.add w.links (Connecting who)) None (opens_add w.links (Connecting who) a.rising) a

  -- who waits for a connecting link
  finished : (w : World V) (n : ℕ) (who : ℕ) → connector_of w n ≡ Some who → LooksApart w → LooksApart (give_handle (on_link w n as_stream) (things.Socket n) who)
  finished w n who e a = at (look w.links n) refl e
    where
      closed : (s : Sort) → connector s ≡ Some who → is_none (connector s) ≡ false
      closed s f = ap is_none f

      at : (o : Option Link) → look w.links n ≡ o → if_some o None (λ x. connector x.sort) ≡ Some who → LooksApart (give_handle (on_link w n as_stream) (things.Socket n) who)
      at None f g = cc
      at (Some x) f g = given w (link.change_link w.links n as_stream) n (things.Socket n) who refl (opens_stream w.links n x a.rising f (closed x.sort g)) a

  ended_connect : (w : World V) (n : ℕ) (said : KernelReply) → LooksApart w → LooksApart (heard_finish w n said)
  ended_connect w n (replies.Failed fault) a = some_apart (connector_of w n) w (fail w (connect_fault fault)) a (λ who e. failed w (connect_fault fault) who a)
  ended_connect w n replies.NotYet a = changed w n write_cold (λ x. refl) (λ x. refl) a
  ended_connect w n said a = some_apart (connector_of w n) w (give_handle (on_link w n as_stream) (things.Socket n)) a (λ who e. finished w n who e a)

  accepted : (w : World V) (n : ℕ) (said : KernelReply) → LooksApart w → LooksApart (heard_accept w n said)
  accepted w n (replies.Failed fault) a = some_apart (pending_on w is_accept n) w (fail w (accept_fault fault)) a (λ who e. failed w (accept_fault fault) who a)
  accepted w n replies.NotYet a = changed w n read_cold (λ x. refl) (λ x. refl) a
  accepted w n said a = some_apart (pending_on w is_accept n) w (made w Stream things.Socket) a
      (λ who e. given w (link.add w.links Stream) (w.links.last + 1) (things.Socket (next_link w)) who refl (opens_add w.links Stream a.rising) a)

  written : (w : World V) (n : ℕ) (said : KernelReply) → LooksApart w → LooksApart (heard_write w n said)
  written w n (replies.Took count) a = changed w n (with_stack (took count)) (λ x. refl) (λ x. refl) a
  written w n replies.NotYet a = changed w n write_cold (λ x. refl) (λ x. refl) a
  written w n said a = changed w n (with_stack broke) (λ x. refl) (λ x. refl) a

  shut_down : (w : World V) (n : ℕ) (said : KernelReply) → LooksApart w → LooksApart (heard_shut w n said)
  shut_down w n replies.Done a = changed w n as_shut (λ x. refl) (λ x. refl) a
  shut_down w n said a = changed w n (with_stack broke) (λ x. refl) (λ x. refl) a

  read_from : (w : World V) (n : ℕ) (said : KernelReply) → LooksApart w → LooksApart (heard_read w n said)
  read_from w n (replies.Came bytes) a = changed w n (with_stack (came bytes)) (λ x. refl) (λ x. refl) a
  read_from w n replies.End a = changed w n (with_stack ended) (λ x. refl) (λ x. refl) a
  read_from w n replies.NotYet a = changed w n read_cold (λ x. refl) (λ x. refl) a
  read_from w n said a = changed w n (with_stack broke) (λ x. refl) (λ x. refl) a

  ask_apart : (w : World V) (number : ℕ) (ask : KernelAsk) (said : KernelReply) → LooksApart w → LooksApart (heard_ask w number ask said)
  ask_apart w number (asks.Close n) said a = opened w (link.gone w.links n) None (opens_gone w.links n a.rising) a
  ask_apart w number (asks.Listen n address backlog) said a = listened w number said a
  ask_apart w number (asks.Connect n address) said a = connected w number said a
  ask_apart w number (asks.Finish n) said a = ended_connect w n said a
  ask_apart w number (asks.Accept listener n) said a = accepted w listener said a
  ask_apart w number (asks.Write n bytes) said a = written (on_link w n as_wrote) n said (changed w n as_wrote (λ x. refl) (λ x. refl) a)
  ask_apart w number (asks.Shut n) said a = shut_down w n said a
  ask_apart w number (asks.Read n size) said a = read_from w n said a
  ask_apart w number (asks.Wait limit) said a = a

  pub heard_apart : (w : World V) (x : Try) (said : Option KernelReply) → LooksApart w → LooksApart (heard w x said)
  heard_apart w x said a =
      let v : World V = record w { place = record { kind = x.kind; number = x.number } } in
      ask_apart v x.number x.ask (fitting x.ask said) (fewer_apart w v (fewer_same w v refl refl refl) a)

  pub woken_apart : (w : World V) (ready : List Ready) → LooksApart w → LooksApart (woken w ready)
  woken_apart w ready a =
      let v = fold heat_ready w ready in
      let hot = fewer_apart w v (fewer_besides w v (heat_all_besides ready w) (heat_all_stays ready w)) a in
      fewer_apart v (woken w ready) (fewer_parts v (woken w ready) refl refl (soft_rested v.links).stays) hot
