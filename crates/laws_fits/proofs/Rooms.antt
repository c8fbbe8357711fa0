-- A link that is read from has room for what comes, and one that is written to offers what goes.
use Rattle.std.proofs.Common.{◌≡◌, ◌∙◌, ℕ, ◌≤◌, ◌<◌, ◌==◌, List, [], ◌∷◌, length, Bool, true, false, not, ◌&&◌, Option, Some, None, if◌then◌else◌, refl, sym, ap, arith}
use Rattle.std.specs.Prelude.{is_some}
use Rattle.std.proofs.lemmas.Bool.{and_parts}
use Rattle.std.proofs.lemmas.List.{drop_all}
use Rattle.rand_core.specs.Stream.{Stream}
use Rattle.dill_base.specs.Maps.{if_some}
use Rattle.dill_calls.specs.declared.call.Call.{Call}
use Rattle.dill_calls.specs.declared.call.Call.TheVariants as calls
use Rattle.dill_calls.specs.declared.word.Word.{Word}
use Rattle.dill_calls.specs.CallTable.{word_of, named_by}
use Rattle.dill_kernel.specs.declared.replies.KernelAsk.TheVariants as asks
use Rattle.dill_stack.specs.declared.parting.Parting.{Parting}
use Rattle.dill_stack.specs.declared.want.Want.{Want}
use Rattle.dill_stack.specs.declared.task.Task.{Task}
use Rattle.dill_stack.specs.declared.task.Task.TheVariants.{Greets, Expects, Answers}
use Rattle.dill_stack.specs.Formed.{IsFormed}
use Rattle.dill_stack.specs.Interface.{Held, Looked, is_sent, drop_unread, needs_bytes, offered, unread_bound}
use Rattle.dill_stack.specs.Layers.{Placed, Prefix, Suffix, Term, Http, Ws, HasMessages, IsStanding}
use Rattle.dill_stack.specs.Needs.{NeedLaws, wants_bytes, wants_head}
use Rattle.dill_stack.specs.Standing.{IsBounded, IsDroppable}
use Rattle.dill_rules.specs.declared.coroutine.Coroutine.{Coroutine}
use Rattle.dill_rules.specs.Directions.{asked, parting_of}
use Rattle.dill_rules.specs.LinkAnswers.{still, look_of, reads}
use Rattle.dill_rules.specs.Links.{Link, look, is_stream}
use Rattle.dill_rules.specs.Sockets.{link_number}
use Rattle.dill_rules.specs.Trying.{Try, read_size, may_need, is_awaited_on, pending_on, is_pending_on, is_needy}
use Rattle.dill_rules.specs.World.{World, pending_call}
use Rattle.laws_queue.specs.Lending.{no_random}
use Rattle.laws_looks.specs.Readers.{In, Pends}
use Rattle.laws_looks.specs.Calm.{Names, IsCalm}
use Rattle.laws_looks.specs.Short.{Awaits, NeedsAreShort}
use Rattle.laws_looks.proofs.Lists.{equal_is, first_in}
use Rattle.laws_looks.proofs.Restful.{named_link}
use Rattle.laws_fits.specs.Fitting.{is_greeting, shakes, IsSolid, FitsCall, IsFitting}
use Rattle.laws_fits.specs.Meeting.{ReadsHaveRoom, WritesAreOffered}
use Rattle.laws_fits.proofs.Tries.{link_found, write_try, read_try}

-- ---- layers

bounded : (layers : List Placed) → IsFormed layers → IsStanding layers → HasMessages layers → IsBounded layers
bounded [] f s m = m
bounded (Prefix form ∷ below) f s m = (f.0, f.1)
bounded (Suffix end ∷ below) f s m = let a = f.0 in (omega (arith, a), f.1)
bounded (Term term ∷ below) f s m = bounded below f.2 s.1 s.0
bounded (Http http ∷ below) f s m = m
bounded (Ws ws ∷ below) f s m = tt

-- formed layers that stand are such as a detach takes leave of
droppable : (layers : List Placed) → IsFormed layers → IsStanding layers → 1 ≤ length layers → IsDroppable layers
droppable [] f s l = absurd (omega (arith, l))
droppable (Prefix form ∷ below) f s l = (f.0, f.1)
droppable (Suffix end ∷ below) f s l = let a = f.0 in (omega (arith, a), f.1)
droppable (Term term ∷ below) f s l = bounded below f.2 s.1 s.0
droppable (Http http ∷ below) f s l = tt
droppable (Ws ws ∷ below) f s l = tt

-- ---- calls

-- how a call needs bytes: a receive, a handshake, a detach, or `tcp_close`, which drops all that is unread
data Needing (call : Call) : Type 0 where
  receiving : (want : Want) → asked call ≡ Some want → Needing call
  shaking : shakes call ≡ true → Needing call
  leaving : (parting : Parting) → parting_of call ≡ Some parting → Needing call
  dropping : reads call ≡ true → ((u : Stream) (s : Held) → look_of call u s ≡ still u (drop_unread s)) → Needing call

needing : (call : Call) (n : ℕ) → named_by call ≡ Some n → may_need (word_of call) ≡ true → Needing call
needing (calls.TcpClose m deadline) n e f = dropping refl (λ u s. refl)
needing (calls.Brecv m size deadline) n e f = receiving _ refl
needing (calls.Mrecv m limit deadline) n e f = receiving _ refl
needing (calls.HttpRecvrequest m deadline) n e f = receiving _ refl
needing (calls.HttpRecvstatus m deadline) n e f = receiving _ refl
needing (calls.HttpRecvfield m deadline) n e f = receiving _ refl
needing (calls.WsAttachClient m text resource host deadline) n e f = shaking refl
needing (calls.WsAttachServer m text deadline) n e f = shaking refl
needing (calls.PrefixDetach m) n e f = leaving _ refl
needing (calls.SuffixDetach m) n e f = leaving _ refl
needing (calls.TermDetach m deadline) n e f = leaving _ refl
needing (calls.HttpDetach m deadline) n e f = leaving _ refl
needing (calls.WsDetach m code reason deadline) n e f = leaving _ refl
needing _ n e f = cc

-- a handshake that needs bytes awaits a head
head_wanted : (task : Task) (sent : Bool) → is_greeting task ≡ true → wants_bytes task sent ≡ true → wants_head task sent ≡ true
head_wanted (Greets accept) sent e f = f
head_wanted Expects sent e f = refl
head_wanted Answers sent e f = cc
head_wanted _ sent e f = cc

within : (a b c : ℕ) → a < b → b ≤ c → a ≤ c
within a b c f g = omega (arith, f, g)

no_more : (a b c : ℕ) → a ≡ b → a ≡ 0 → b ≤ c
no_more a b c f g = omega (arith, f, g)

module _ {V : Type 0} where
  -- who is pending on a link in a call of this sort
  pub record Awaited (w : World V) (sort : Word → Bool) (link : ℕ) : Type 0 where
    pub who : ℕ
    pub call : Call
    pub number : ℕ
    pub pends : Pends w who call
    pub passes : sort (word_of call) ≡ true
    pub named : named_by call ≡ Some number
    pub linked : link_number w number ≡ Some link

  pub awaited : (w : World V) (sort : Word → Bool) (link : ℕ) → is_pending_on w sort link ≡ true → Awaited w sort link
  awaited w sort link e = at (pending_on w sort link) refl e
    where
      linked : (c : Coroutine V) (call : Call) (n : ℕ) → Pends w c.number call → sort (word_of call) ≡ true → named_by call ≡ Some n → (o : Option ℕ) → link_number w n ≡ o → if_some o false (λ k. k == link) ≡ true → Awaited w sort link
      linked c call n q s f None g h = cc
      linked c call n q s f (Some k) g h = record { who = c.number; call = call; number = n; pends = q; passes = s; named = f; linked = g ∙ ap Some (equal_is k link h) }

      named : (c : Coroutine V) (call : Call) → Pends w c.number call → sort (word_of call) ≡ true → (o : Option ℕ) → named_by call ≡ o → if_some o false (λ n. if_some (link_number w n) false (λ k. k == link)) ≡ true → Awaited w sort link
      named c call q s None f g = cc
      named c call q s (Some n) f g = linked c call n q s f (link_number w n) refl g

      sorted : (c : Coroutine V) (call : Call) (who : ℕ) → Pends w c.number call → (b : Bool) → is_awaited_on w link sort call ≡ b → (if b then Some c.number else None) ≡ Some who → Awaited w sort link
      sorted c call who q true f g =
          let r = and_parts (sort (word_of call)) (if_some (named_by call) false (λ n. if_some (link_number w n) false (λ k. k == link))) f in
          named c call q r.0 (named_by call) refl r.1
      sorted c call who q false f g = cc

      pending : (c : Coroutine V) (who : ℕ) → In c w.coroutines → (o : Option Call) → pending_call c.mode ≡ o → if_some o None (λ call. if is_awaited_on w link sort call then Some c.number else None) ≡ Some who → Awaited w sort link
      pending c who i None f g = cc
      pending c who i (Some call) f g = sorted c call who (record { one = c; there = i; number = refl; mode = f }) (is_awaited_on w link sort call) refl g

      at : (o : Option ℕ) → pending_on w sort link ≡ o → is_some o ≡ true → Awaited w sort link
      at None f g = cc
      at (Some who) f g =
          let r = first_in (λ (c : Coroutine V). if_some (pending_call c.mode) None (λ call. if is_awaited_on w link sort call then Some c.number else None)) w.coroutines who f in
          pending r.0 who r.1 (pending_call r.0.mode) refl r.2

  room : NeedLaws → NeedsAreShort V → (w : World V) (y : Link) → IsCalm w → IsFitting w → look w.links y.number ≡ Some y → y.closing ≡ false → needs_bytes y.stack ≡ true → Awaited w may_need y.number → length y.stack.unread ≤ unread_bound y.most
  room needs short w y calm fits there open_now hungry a = at (needing a.call a.number a.named a.passes)
    where
      names : Names w a.number y.number
      names = named_link w a.number y.number a.linked

      awaits : Awaits w a.call y
      awaits = record { restful = calm.restful; who = a.who; pends = a.pends; number = a.number; named = a.named; link = y.number; names = names; there = there }

      fit : FitsCall a.call y
      fit = fits.calls a.who a.call a.number y.number y a.pends a.named names there

      solid : IsSolid y.stack
      solid = fits.solid y.number y there open_now

      at : Needing a.call → length y.stack.unread ≤ unread_bound y.most
      at (receiving want e) =
          let r = fit.receives want e in
          within (length y.stack.unread) _ (unread_bound y.most) (short.receives w a.call y want awaits e solid.standing r.1) (needs.receives want y.most y.stack solid.formed r.0)
      at (shaking e) = within (length y.stack.unread) _ (unread_bound y.most) (short.greets w a.call y awaits e (head_wanted y.stack.task (is_sent y.stack) (fit.greets e) hungry)) (needs.greets y.most)
      at (leaving parting e) =
          let r = fit.leaves parting e in
          within (length y.stack.unread) _ (unread_bound y.most)
          (short.leaves w a.call y parting awaits e (droppable y.stack.layers solid.formed solid.standing r.1) (sym (ap (λ t. wants_bytes t (is_sent y.stack)) r.0) ∙ hungry)) (needs.leaves y.most)
      at (dropping on e) =
          let calm_now = calm.restful.calm a.who a.call a.number y.number y a.pends on a.named names there in
          no_more _ (length y.stack.unread) (unread_bound y.most) (ap (λ (z : Looked). length z.stack.unread) (sym (e no_random y.stack) ∙ calm_now.look no_random)) (ap length (drop_all (length y.stack.unread) y.stack.unread (omega arith)))

  pub reads_have_room : NeedLaws → NeedsAreShort V → ReadsHaveRoom V
  reads_have_room needs short w x link size calm fits e f =
      let o = read_try w x link size e f in
      let it : asks.Read o.y.number read_size ≡ asks.Read link size = ap (λ (z : Try). z.ask) (sym o.same) ∙ f in
      let number : o.y.number ≡ link = cc in
      let there : look w.links o.y.number ≡ Some o.y = link_found 0 w.links.last w.links.all o.y calm.apart.rising o.there in
      let one = and_parts (is_stream o.y.sort) (o.y.read_hot && (not o.y.stack.receiving.done && (not o.y.stack.receiving.broken && is_needy w o.y))) o.passes in
      let two = and_parts o.y.read_hot (not o.y.stack.receiving.done && (not o.y.stack.receiving.broken && is_needy w o.y)) one.1 in
      let three = and_parts (not o.y.stack.receiving.done) (not o.y.stack.receiving.broken && is_needy w o.y) two.1 in
      let four = and_parts (not o.y.stack.receiving.broken) (is_needy w o.y) three.1 in
      let five = and_parts (needs_bytes o.y.stack) (is_pending_on w may_need o.y.number) four.1 in
      record {
        x = o.y;
        there = ap (look w.links) (sym number) ∙ there;
        «open» = o.«open»;
        room = room needs short w o.y calm fits there o.«open» five.0 (awaited w may_need o.y.number five.1);
      }

  pub writes_are_offered : WritesAreOffered V
  writes_are_offered w x link bytes apart e f =
      let o = write_try w x link bytes e f in
      let it : asks.Write o.y.number (offered o.y.stack) ≡ asks.Write link bytes = ap (λ (z : Try). z.ask) (sym o.same) ∙ f in
      let number : o.y.number ≡ link = cc in
      let same : offered o.y.stack ≡ bytes = cc in
      record { x = o.y; there = ap (look w.links) (sym number) ∙ link_found 0 w.links.last w.links.all o.y apart.rising o.there; «open» = o.«open»; offers = same }
