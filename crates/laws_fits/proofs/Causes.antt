-- Why a pending call on a stack is answered: what it sent has gone, its look gives the answer, or it has an errno.
use Rattle.std.proofs.Common.{◌≡◌, ◌∙◌, ℕ, Bool, true, false, not, ◌&&◌, ◌||◌, Option, Some, None, if◌then◌else◌, refl, sym, ap, subst}
use Rattle.std.specs.Prelude.{is_none}
use Rattle.std.specs.Option.{option_or}
use Rattle.rand_core.specs.Stream.{Stream}
use Rattle.dill_base.specs.declared.errno.Errno.TheVariants.{Ecanceled, Ebadf, Econnreset, Etimedout}
use Rattle.dill_base.specs.Maps.{if_some}
use Rattle.dill_calls.specs.declared.answer.Answer.{Answer}
use Rattle.dill_calls.specs.declared.answer.Answer.TheVariants.{Fault}
use Rattle.dill_calls.specs.declared.call.Call.{Call}
use Rattle.dill_calls.specs.declared.call.Call.TheVariants as calls
use Rattle.dill_calls.specs.declared.word.Word.{Word}
use Rattle.dill_calls.specs.declared.word.Word.TheVariants as words
use Rattle.dill_calls.specs.CallTable.{word_of, named_by, blocks, gives_up, is_hclose}
use Rattle.dill_handles.specs.declared.entry.Entry.{Entry}
use Rattle.dill_stack.specs.declared.parting.Parting.{Parting}
use Rattle.dill_stack.specs.declared.want.ReadOut.{ReadOut}
use Rattle.dill_stack.specs.declared.want.ReadOut.TheVariants as outs
use Rattle.dill_stack.specs.Interface.{Held, greeted, detach_finish, is_sent, is_broken, has_ended}
use Rattle.dill_stack.specs.Dropping.{is_given}
use Rattle.dill_rules.specs.declared.thing.Thing.{Thing}
use Rattle.dill_rules.specs.World.{World}
use Rattle.dill_rules.specs.Answers.{when, own_answer, lost_its_number, answer_of}
use Rattle.dill_rules.specs.Directions.{is_send, is_receive, is_handshake, asked, parting_of}
use Rattle.dill_rules.specs.Entering.{late_answer}
use Rattle.dill_rules.specs.Giving.{is_given_up, is_fault}
use Rattle.dill_rules.specs.Kinds.{is_dead}
use Rattle.dill_rules.specs.LinkAnswers.{is_tcp_done, is_tcp_close, heard_as, look_of, answer_said, is_broken_for, zero_when, whole_answer, is_on_stack, stack_answer, link_answer}
use Rattle.dill_rules.specs.Links.{Link, look}
use Rattle.dill_rules.specs.Owning.{entry_of}
use Rattle.dill_rules.specs.Sockets.{link_of, link_named}
use Rattle.dill_rules.specs.Taking.{is_cancelled}
use Rattle.laws_blind.proofs.Giving.{done_sends}
use Rattle.laws_looks.proofs.Lists.{true_false}
use Rattle.laws_fits.specs.Fitting.{shakes, queues, IsSolid}
use Rattle.laws_fits.proofs.Acts.{On}

-- ---- classes of calls

-- a send is no receive, no handshake and no detach
pub send_apart : (call : Call) (n : ℕ) → named_by call ≡ Some n → is_send (word_of call) ≡ true → (is_receive (word_of call) ≡ false) × (shakes call ≡ false) × (parting_of call ≡ None) × (asked call ≡ None)
send_apart (calls.TcpDone m deadline) n e f = (refl, refl, refl, refl)
send_apart (calls.Bsend m bytes deadline) n e f = (refl, refl, refl, refl)
send_apart (calls.Msend m bytes deadline) n e f = (refl, refl, refl, refl)
send_apart (calls.TermDone m deadline) n e f = (refl, refl, refl, refl)
send_apart (calls.HttpSendrequest m command resource deadline) n e f = (refl, refl, refl, refl)
send_apart (calls.HttpSendstatus m code reason deadline) n e f = (refl, refl, refl, refl)
send_apart (calls.HttpSendfield m name value deadline) n e f = (refl, refl, refl, refl)
send_apart (calls.HttpDone m deadline) n e f = (refl, refl, refl, refl)
send_apart _ n e f = cc

-- a receive queues nothing
pub receive_apart : (call : Call) (n : ℕ) → named_by call ≡ Some n → is_receive (word_of call) ≡ true → (queues call ≡ false) × (shakes call ≡ false) × (parting_of call ≡ None)
receive_apart (calls.Brecv m size deadline) n e f = (refl, refl, refl)
receive_apart (calls.Mrecv m limit deadline) n e f = (refl, refl, refl)
receive_apart (calls.HttpRecvrequest m deadline) n e f = (refl, refl, refl)
receive_apart (calls.HttpRecvstatus m deadline) n e f = (refl, refl, refl)
receive_apart (calls.HttpRecvfield m deadline) n e f = (refl, refl, refl)
receive_apart _ n e f = cc

-- neither does `tcp_close`
pub close_apart : (call : Call) (n : ℕ) → named_by call ≡ Some n → is_tcp_close (word_of call) ≡ true → (queues call ≡ false) × (shakes call ≡ false) × (parting_of call ≡ None) × (asked call ≡ None)
close_apart (calls.TcpClose m deadline) n e f = (refl, refl, refl, refl)
close_apart _ n e f = cc

-- how a handshake or a detach looks
pub data Goes (call : Call) : Type 0 where
  shaking : shakes call ≡ true → ((u : Stream) (s : Held) → look_of call u s ≡ heard_as u (greeted s)) → Goes call
  leaving : (parting : Parting) → parting_of call ≡ Some parting → ((u : Stream) (s : Held) → look_of call u s ≡ detach_finish u s) → Goes call

pub goes : (call : Call) (n : ℕ) → named_by call ≡ Some n → (is_handshake (word_of call) || gives_up (word_of call)) ≡ true → is_tcp_close (word_of call) ≡ false → Goes call
goes (calls.WsAttachClient m text resource host deadline) n e f g = shaking refl (λ u s. refl)
goes (calls.WsAttachServer m text deadline) n e f g = shaking refl (λ u s. refl)
goes (calls.PrefixDetach m) n e f g = leaving _ refl (λ u s. refl)
goes (calls.SuffixDetach m) n e f g = leaving _ refl (λ u s. refl)
goes (calls.TermDetach m deadline) n e f g = leaving _ refl (λ u s. refl)
goes (calls.HttpDetach m deadline) n e f g = leaving _ refl (λ u s. refl)
goes (calls.WsDetach m code reason deadline) n e f g = leaving _ refl (λ u s. refl)
goes _ n e f g = cc

-- by what it queues
pub data Queueing (call : Call) : Type 0 where
  sending : is_send (word_of call) ≡ true → is_tcp_done (word_of call) ≡ false → Queueing call
  going : (is_handshake (word_of call) || gives_up (word_of call)) ≡ true → is_send (word_of call) ≡ false → Queueing call

pub queueing : (call : Call) (n : ℕ) → named_by call ≡ Some n → queues call ≡ true → Queueing call
queueing (calls.Bsend m bytes deadline) n e f = sending refl refl
queueing (calls.Msend m bytes deadline) n e f = sending refl refl
queueing (calls.TermDone m deadline) n e f = sending refl refl
queueing (calls.HttpSendrequest m command resource deadline) n e f = sending refl refl
queueing (calls.HttpSendstatus m code reason deadline) n e f = sending refl refl
queueing (calls.HttpSendfield m name value deadline) n e f = sending refl refl
queueing (calls.HttpDone m deadline) n e f = sending refl refl
queueing (calls.WsAttachClient m text resource host deadline) n e f = going refl refl
queueing (calls.WsAttachServer m text deadline) n e f = going refl refl
queueing (calls.PrefixDetach m) n e f = going refl refl
queueing (calls.SuffixDetach m) n e f = going refl refl
queueing (calls.TermDetach m deadline) n e f = going refl refl
queueing (calls.HttpDetach m deadline) n e f = going refl refl
queueing (calls.WsDetach m code reason deadline) n e f = going refl refl
queueing _ n e f = cc

hclose_off : (word : Word) → is_on_stack word ≡ true → is_hclose word ≡ false
hclose_off words.Hclose e = cc
hclose_off _ e = refl

-- what is too late on a stack
pub late_is : (call : Call) → is_on_stack (word_of call) ≡ true → late_answer call ≡ Fault Etimedout
late_is (calls.Msleep deadline) e = cc
late_is _ e = refl

zero_given : (b : Bool) (answer : Answer) → zero_when b ≡ Some answer → b ≡ true
zero_given true answer e = refl
zero_given false answer e = cc

said_given : (said : ReadOut) (answer : Answer) → answer_said said ≡ Some answer → is_fault answer ≡ false → is_given said ≡ true
said_given (outs.Given a) answer e f = refl
said_given outs.Need answer e f = cc
said_given (outs.Fault x) answer e f = let it : ◌≡◌ {A = Option Answer} (Some (Fault x)) (Some answer) = e in let same : Fault x ≡ answer = cc in absurd (true_false (is_fault answer) (ap is_fault (sym same)) f)

module _ {V : Type 0} where
  -- A send that isn't given up has gone, and a handshake or a detach that has no errno finds its answer.
  pub record Cause (w : World V) (call : Call) (answer : Answer) : Type 0 where
    pub sent : (l : ℕ) (x : Link) → On w call l → look w.links l ≡ Some x → IsSolid x.stack → is_send (word_of call) ≡ true → is_tcp_done (word_of call) ≡ false → is_given_up answer ≡ false → is_sent x.stack ≡ true
    pub given : (l : ℕ) (x : Link) → On w call l → look w.links l ≡ Some x → is_send (word_of call) ≡ false → is_tcp_close (word_of call) ≡ false → is_fault answer ≡ false → is_given (look_of call w.random x.stack).said ≡ true

  -- an errno by which it is given up
  given_up : (w : World V) (call : Call) (answer : Answer) → is_given_up answer ≡ true → is_fault answer ≡ true → Cause w call answer
  given_up w call answer e f = record {
    sent = λ l x o i k s d g. absurd (true_false (is_given_up answer) e g);
    given = λ l x o i s c g. absurd (true_false (is_fault answer) f g);
  }

  pub cause_late : (w : World V) (call : Call) → is_on_stack (word_of call) ≡ true → Cause w call (late_answer call)
  cause_late w call e = subst (Cause w call) (sym (late_is call e)) (given_up w call (Fault Etimedout) refl refl)

  own_is : (w : World V) (call : Call) → is_on_stack (word_of call) ≡ true → own_answer w call ≡ link_answer w call
  own_is w (calls.BundleWait number deadline) h = cc
  own_is w (calls.Hclose number) h = cc
  own_is w (calls.Chsend number bytes deadline) h = cc
  own_is w (calls.Chrecv number size deadline) h = cc
  own_is w (calls.Choose deadline all) h = cc
  own_is w call h = refl

  -- what the link answers of the call's own
  pub on_answer : (w : World V) (call : Call) (l : ℕ) (x : Link) → is_on_stack (word_of call) ≡ true → On w call l → look w.links l ≡ Some x → own_answer w call ≡ stack_answer call w.random x
  on_answer w call l x on o i =
      own_is w call on
      ∙ ap (λ b. if b then if_some (named_by call) None (λ number. if_some (link_named w number) None (stack_answer call w.random)) else None) on
      ∙ ap (λ q. if_some q None (λ number. if_some (link_named w number) None (stack_answer call w.random))) o.named
      ∙ ap (λ q. if_some (if_some q None (look w.links)) None (stack_answer call w.random)) o.linked
      ∙ ap (λ q. if_some q None (stack_answer call w.random)) i

  -- a call on a link names a live number
  pub on_live : (w : World V) (call : Call) (l : ℕ) → is_on_stack (word_of call) ≡ true → On w call l → lost_its_number w call ≡ false
  on_live w call l on o =
      ap (λ b. not b && if_some (named_by call) false (is_dead w)) (hclose_off (word_of call) on)
      ∙ ap (λ q. if_some q false (is_dead w)) o.named ∙ at (entry_of w o.number) o.linked
    where
      at : (q : Option (Entry Thing)) → if_some q None (λ x. link_of x.thing) ≡ Some l → is_none q ≡ false
      at None e = cc
      at (Some x) e = refl

  -- what the stack answers
  by_stack : (w : World V) (call : Call) (answer : Answer) → is_on_stack (word_of call) ≡ true → own_answer w call ≡ Some answer → Cause w call answer
  by_stack w call answer on e = record { sent = λ l x o i k s d g. sent x k s d (send_apart call o.number o.named s).0 (sym (on_answer w call l x on o i) ∙ e); given = λ l x o i s c g. given x s c g (sym (on_answer w call l x on o i) ∙ e) }
    where
      sent : (x : Link) → IsSolid x.stack → is_send (word_of call) ≡ true → is_tcp_done (word_of call) ≡ false → is_receive (word_of call) ≡ false → stack_answer call w.random x ≡ Some answer → is_sent x.stack ≡ true
      sent x k s d r f = at (is_broken_for (word_of call) x.stack) refl f
        where
          broken : is_broken_for (word_of call) x.stack ≡ x.stack.sending.broken
          broken = ap (λ b. if b then x.stack.receiving.broken else (if is_send (word_of call) then x.stack.sending.broken else is_broken x.stack)) r ∙ ap (λ b. if b then x.stack.sending.broken else is_broken x.stack) s

          at : (b : Bool) → is_broken_for (word_of call) x.stack ≡ b → (if b then Some (Fault Econnreset) else whole_answer call w.random x) ≡ Some answer → is_sent x.stack ≡ true
          at true h g = k.broken (sym broken ∙ h)
          at false h g =
              zero_given (is_sent x.stack) answer
              (sym (ap (λ b. if b then zero_when x.shut else (if is_send (word_of call) then zero_when (is_sent x.stack) else (if is_tcp_close (word_of call) then zero_when (x.shut && has_ended x.stack) else answer_said (look_of call w.random x.stack).said))) d
              ∙ ap (λ b. if b then zero_when (is_sent x.stack) else (if is_tcp_close (word_of call) then zero_when (x.shut && has_ended x.stack) else answer_said (look_of call w.random x.stack).said)) s)
              ∙ g)

      given : (x : Link) → is_send (word_of call) ≡ false → is_tcp_close (word_of call) ≡ false → is_fault answer ≡ false → stack_answer call w.random x ≡ Some answer → is_given (look_of call w.random x.stack).said ≡ true
      given x s c g f = at (is_broken_for (word_of call) x.stack) (is_tcp_done (word_of call)) refl f
        where
          at : (b d : Bool) → is_tcp_done (word_of call) ≡ d
              → (if b then Some (Fault Econnreset) else (if d then zero_when x.shut else (if is_send (word_of call) then zero_when (is_sent x.stack) else (if is_tcp_close (word_of call) then zero_when (x.shut && has_ended x.stack) else answer_said (look_of call w.random x.stack).said)))) ≡ Some answer → is_given (look_of call w.random x.stack).said ≡ true
          at true d h i = let same : Fault Econnreset ≡ answer = cc in absurd (true_false (is_fault answer) (ap is_fault (sym same)) g)
          at false true h i = absurd (true_false (is_send (word_of call)) (done_sends (word_of call) h) s)
          at false false h i =
              said_given (look_of call w.random x.stack).said answer
              (sym (ap (λ b. if b then zero_when (is_sent x.stack) else (if is_tcp_close (word_of call) then zero_when (x.shut && has_ended x.stack) else answer_said (look_of call w.random x.stack).said)) s
              ∙ ap (λ b. if b then zero_when (x.shut && has_ended x.stack) else answer_said (look_of call w.random x.stack).said) c)
              ∙ i) g

  pub cause_due : (w : World V) (who : ℕ) (call : Call) (answer : Answer) → is_on_stack (word_of call) ≡ true → answer_of w who call ≡ Some answer → Cause w call answer
  cause_due w who call answer on e = at (blocks (word_of call) && is_cancelled w who) e
    where
      lost : (b : Bool) → lost_its_number w call ≡ b → option_or (when b (Fault Ebadf)) (own_answer w call) ≡ Some answer → Cause w call answer
      lost true f g = record {
        sent = λ l x o i k s d h. absurd (true_false (lost_its_number w call) f (on_live w call l on o));
        given = λ l x o i s c h. absurd (true_false (lost_its_number w call) f (on_live w call l on o));
      }
      lost false f g = by_stack w call answer on g

      at : (b : Bool) → option_or (when b (Fault Ecanceled)) (option_or (when (lost_its_number w call) (Fault Ebadf)) (own_answer w call)) ≡ Some answer → Cause w call answer
      at true f = let same : Fault Ecanceled ≡ answer = cc in given_up w call answer (ap is_given_up (sym same)) (ap is_fault (sym same))
      at false f = lost (lost_its_number w call) refl f
