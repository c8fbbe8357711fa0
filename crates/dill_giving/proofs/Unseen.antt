-- What is answered without a look needs none.
use Rattle.std.proofs.Common.{◌≡◌, ℕ, Bool, true, false, not, ◌&&◌, ◌||◌, Option, Some, None, IfSome, refl, subst, if◌then◌else◌}
use Rattle.std.specs.Option.{option_or}
use Rattle.dill_base.specs.declared.errno.Errno.TheVariants.{Ecanceled, Ebadf, Econnreset}
use Rattle.dill_base.specs.Maps.{if_some}
use Rattle.dill_calls.specs.declared.answer.Answer.{Answer}
use Rattle.dill_calls.specs.declared.answer.Answer.TheVariants.{Number, Fault}
use Rattle.dill_calls.specs.declared.call.Call.{Call}
use Rattle.dill_calls.specs.declared.call.Call.TheVariants as calls
use Rattle.dill_calls.specs.declared.word.Word.{Word}
use Rattle.dill_calls.specs.declared.word.Word.TheVariants as words
use Rattle.dill_calls.specs.CallTable.{word_of, blocks, gives_up, named_by}
use Rattle.dill_stack.specs.Interface.{is_sent, has_ended}
use Rattle.dill_rules.specs.Answers.{when, own_answer, lost_its_number}
use Rattle.dill_rules.specs.Directions.{is_send, is_receive, is_handshake}
use Rattle.dill_rules.specs.Entering.{late_answer}
use Rattle.dill_rules.specs.LinkAnswers.{is_tcp_done, is_tcp_close, is_on_stack, is_broken_for, zero_when}
use Rattle.dill_rules.specs.Links.{Link}
use Rattle.dill_rules.specs.Lookless.{stack_lookless, link_lookless, own_lookless, lookless_of}
use Rattle.dill_rules.specs.Sockets.{link_named}
use Rattle.dill_rules.specs.Taking.{is_cancelled}
use Rattle.dill_rules.specs.World.{World}
use Rattle.dill_world.specs.Store.{is_short_answer}
use Rattle.dill_giving.specs.Answering.{may_read, needs_no_look, NoLooks}

always : (b : Bool) → (if b then true else true) ≡ true
always true = refl
always false = refl

off : (word : Word) (answer : Answer) → may_read word ≡ false → needs_no_look word answer ≡ true
off word answer e = rw e refl

off_all : (s r h g c : Bool) → (s || (r || (h || g))) ≡ false → (r || (h || (g && not c))) ≡ false
off_all false false false false c e = refl
off_all true r h g c e = cc
off_all false true h g c e = cc
off_all false false true g c e = cc
off_all false false false true c e = cc

off_done : (word : Word) → is_tcp_done word ≡ true → may_read word ≡ false
off_done words.TcpDone e = refl
off_done _ e = cc

off_close : (word : Word) → is_tcp_close word ≡ true → may_read word ≡ false
off_close words.TcpClose e = refl
off_close _ e = cc

off_send : (word : Word) → is_send word ≡ true → may_read word ≡ false
off_send words.TcpDone e = refl
off_send words.Bsend e = refl
off_send words.Msend e = refl
off_send words.TermDone e = refl
off_send words.HttpSendrequest e = refl
off_send words.HttpSendstatus e = refl
off_send words.HttpSendfield e = refl
off_send words.HttpDone e = refl
off_send _ e = cc

unseen_zero : (word : Word) (test : Bool) → may_read word ≡ false → IfSome (zero_when test) (λ a. needs_no_look word a ≡ true)
unseen_zero word true e = off word (Number 0) e
unseen_zero word false e = tt

short_zero : (test : Bool) → IfSome (zero_when test) (λ a. is_short_answer a ≡ true)
short_zero true = refl
short_zero false = tt

unseen_stack : (word : Word) (broken done send close shut sent whole : Bool)
    → (done ≡ true → may_read word ≡ false) → (send ≡ true → may_read word ≡ false) → (close ≡ true → may_read word ≡ false)
    → IfSome (if broken then Some (Fault Econnreset) else (if done then zero_when shut else (if send then zero_when sent else (if close then zero_when whole else None)))) (λ a. needs_no_look word a ≡ true)
unseen_stack word true done send close shut sent whole d s c = always (may_read word)
unseen_stack word false true send close shut sent whole d s c = unseen_zero word shut (d refl)
unseen_stack word false false true close shut sent whole d s c = unseen_zero word sent (s refl)
unseen_stack word false false false true shut sent whole d s c = unseen_zero word whole (c refl)
unseen_stack word false false false false shut sent whole d s c = tt

short_stack : (broken done send close shut sent whole : Bool) → IfSome (if broken then Some (Fault Econnreset) else (if done then zero_when shut else (if send then zero_when sent else (if close then zero_when whole else None)))) (λ a. is_short_answer a ≡ true)
short_stack true done send close shut sent whole = refl
short_stack false true send close shut sent whole = short_zero shut
short_stack false false true close shut sent whole = short_zero sent
short_stack false false false true shut sent whole = short_zero whole
short_stack false false false false shut sent whole = tt

pub short_lookless : (call : Call) (x : Link) → IfSome (stack_lookless call x) (λ a. is_short_answer a ≡ true)
short_lookless call x = short_stack (is_broken_for (word_of call) x.stack) (is_tcp_done (word_of call)) (is_send (word_of call)) (is_tcp_close (word_of call)) x.shut (is_sent x.stack) (x.shut && has_ended x.stack)

unseen_lookless : (call : Call) (x : Link) → IfSome (stack_lookless call x) (λ a. needs_no_look (word_of call) a ≡ true)
unseen_lookless call x = unseen_stack (word_of call) (is_broken_for (word_of call) x.stack) (is_tcp_done (word_of call)) (is_send (word_of call)) (is_tcp_close (word_of call)) x.shut (is_sent x.stack) (x.shut && has_ended x.stack) (off_done (word_of call)) (off_send (word_of call)) (off_close (word_of call))

unseen_any : (word : Word) (o : Option Answer) → may_read word ≡ false → IfSome o (λ a. needs_no_look word a ≡ true)
unseen_any word None e = tt
unseen_any word (Some a) e = off word a e

unseen_when : (word : Word) (b : Bool) (a : Answer) (o : Option Answer) → needs_no_look word a ≡ true → IfSome o (λ a. needs_no_look word a ≡ true) → IfSome (option_or (when b a) o) (λ a. needs_no_look word a ≡ true)
unseen_when word true a o e rest = e
unseen_when word false a o e rest = rest

module _ {V : Type 0} (w : World V) where
  unseen_named : (call : Call) (o : Option Link) → IfSome (if_some o None (stack_lookless call)) (λ a. needs_no_look (word_of call) a ≡ true)
  unseen_named call None = tt
  unseen_named call (Some x) = unseen_lookless call x

  unseen_link : (call : Call) (o : Option ℕ) → IfSome (if_some o None (λ number. if_some (link_named w number) None (stack_lookless call))) (λ a. needs_no_look (word_of call) a ≡ true)
  unseen_link call None = tt
  unseen_link call (Some number) = unseen_named call (link_named w number)

  unseen_own : (call : Call) (b : Bool) → is_on_stack (word_of call) ≡ b → IfSome (if b then link_lookless w call else own_answer w call) (λ a. needs_no_look (word_of call) a ≡ true)
  unseen_own call true e = unseen_link call (named_by call)
  unseen_own call false e = unseen_any (word_of call) (own_answer w call) (off_all (is_send (word_of call)) (is_receive (word_of call)) (is_handshake (word_of call)) (gives_up (word_of call)) (is_tcp_close (word_of call)) e)

  -- what is answered without a look needs none
  pub unseen : (who : ℕ) (call : Call) → IfSome (lookless_of w who call) (λ a. needs_no_look (word_of call) a ≡ true)
  unseen who call =
      unseen_when (word_of call) (blocks (word_of call) && is_cancelled w who) (Fault Ecanceled) (option_or (when (lost_its_number w call) (Fault Ebadf)) (own_lookless w call)) (always (may_read (word_of call)))
      (unseen_when (word_of call) (lost_its_number w call) (Fault Ebadf) (own_lookless w call) (always (may_read (word_of call))) (unseen_own call (is_on_stack (word_of call)) refl))

  one_unseen : (word : Word) (o : Option Answer) (a : Answer) → IfSome o (λ a. needs_no_look word a ≡ true) → o ≡ Some a → needs_no_look word a ≡ true
  one_unseen word None a all e = cc
  one_unseen word (Some b) a all e =
      let same : b ≡ a = cc in
      subst (λ x. needs_no_look word x ≡ true) same all

unseen_late : (call : Call) → needs_no_look (word_of call) (late_answer call) ≡ true
unseen_late (calls.Msleep deadline) = refl
unseen_late call = always (may_read (word_of call))

pub no_looks : {V : Type 0} → NoLooks V
no_looks = record {
  lookless = λ w who call answer e. one_unseen w (word_of call) (lookless_of w who call) answer (unseen w who call) e;
  late = unseen_late;
}
