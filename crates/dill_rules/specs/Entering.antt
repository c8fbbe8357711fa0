-- A call is entered: refused, refused memory, or done, and then answered, too late, or pending.
use Rattle.std.specs.Prelude.{ℕ, Bool, false, not, ◌&&◌, ◌||◌, if◌then◌else◌, is_none}
use Rattle.dill_base.specs.declared.errno.Errno.{Errno}
use Rattle.dill_base.specs.declared.errno.Errno.TheVariants.{Enomem, Ecanceled, Etimedout}
use Rattle.dill_base.specs.Moments.{at_entry, is_passed}
use Rattle.dill_calls.specs.declared.answer.Answer.{Answer}
use Rattle.dill_calls.specs.declared.answer.Answer.TheVariants.{Number, Fault}
use Rattle.dill_calls.specs.declared.call.Call.{Call}
use Rattle.dill_calls.specs.declared.call.Call.TheVariants as calls
use Rattle.dill_calls.specs.declared.word.Word.{Word}
use Rattle.dill_calls.specs.declared.word.Word.TheVariants as words
use Rattle.dill_calls.specs.CallTable.{word_of, blocks, makes, gives_up, takes_memory, deadline_of}
use Rattle.dill_calls.specs.Program.{Program}
use Rattle.dill_handles.specs.Handles as handles
use Rattle.dill_base.specs.Maps.{if_some}
use Rattle.dill_rules.specs.World.{World, call_of, reply, pend}
use Rattle.dill_rules.specs.Naming.{draws_of, links, uses_link}
use Rattle.dill_rules.specs.Directions.{is_send, is_receive, is_handshake}
use Rattle.dill_rules.specs.Taking.{is_cancelled}
use Rattle.dill_rules.specs.Refusals.{refuse}
use Rattle.dill_rules.specs.Answers.{answer_of}
use Rattle.dill_rules.specs.Effects.{make_value, make_bundle, query, own, close, go, bundle_go, passed_answer}
use Rattle.dill_rules.specs.Channeling.{make_channel, channel_done, enter_channel}
use Rattle.dill_rules.specs.Linking.{enter_send, enter_receive, enter_link, enter_handshake, enter_attach, enter_giving_up}

-- a call with the deadline that it has from its entry on
abbrev pub entered : ℕ → Call → Call
entered moment (calls.Msleep deadline) = calls.Msleep (at_entry moment deadline)
entered moment (calls.BundleWait number deadline) = calls.BundleWait number (at_entry moment deadline)
entered moment (calls.Chsend number bytes deadline) = calls.Chsend number bytes (at_entry moment deadline)
entered moment (calls.Chrecv number size deadline) = calls.Chrecv number size (at_entry moment deadline)
entered moment (calls.Choose deadline all) = calls.Choose (at_entry moment deadline) all
entered moment (calls.TcpAccept number deadline) = calls.TcpAccept number (at_entry moment deadline)
entered moment (calls.TcpConnect address deadline) = calls.TcpConnect address (at_entry moment deadline)
entered moment (calls.TcpDone number deadline) = calls.TcpDone number (at_entry moment deadline)
entered moment (calls.TcpClose number deadline) = calls.TcpClose number (at_entry moment deadline)
entered moment (calls.Bsend number bytes deadline) = calls.Bsend number bytes (at_entry moment deadline)
entered moment (calls.Brecv number size deadline) = calls.Brecv number size (at_entry moment deadline)
entered moment (calls.Msend number bytes deadline) = calls.Msend number bytes (at_entry moment deadline)
entered moment (calls.Mrecv number size deadline) = calls.Mrecv number size (at_entry moment deadline)
entered moment (calls.TermDone number deadline) = calls.TermDone number (at_entry moment deadline)
entered moment (calls.TermDetach number deadline) = calls.TermDetach number (at_entry moment deadline)
entered moment (calls.HttpSendrequest number command resource deadline) = calls.HttpSendrequest number command resource (at_entry moment deadline)
entered moment (calls.HttpSendstatus number code reason deadline) = calls.HttpSendstatus number code reason (at_entry moment deadline)
entered moment (calls.HttpSendfield number name value deadline) = calls.HttpSendfield number name value (at_entry moment deadline)
entered moment (calls.HttpRecvrequest number deadline) = calls.HttpRecvrequest number (at_entry moment deadline)
entered moment (calls.HttpRecvstatus number deadline) = calls.HttpRecvstatus number (at_entry moment deadline)
entered moment (calls.HttpRecvfield number deadline) = calls.HttpRecvfield number (at_entry moment deadline)
entered moment (calls.HttpDone number deadline) = calls.HttpDone number (at_entry moment deadline)
entered moment (calls.HttpDetach number deadline) = calls.HttpDetach number (at_entry moment deadline)
entered moment (calls.WsAttachClient number text resource host deadline) = calls.WsAttachClient number text resource host (at_entry moment deadline)
entered moment (calls.WsAttachServer number text deadline) = calls.WsAttachServer number text (at_entry moment deadline)
entered moment (calls.WsDetach number code reason deadline) = calls.WsDetach number code reason (at_entry moment deadline)
entered moment call = call

-- what a call is answered whose deadline passes
abbrev pub late_answer : Call → Answer
late_answer (calls.Msleep deadline) = Number 0
late_answer call = Fault Etimedout

-- the deadline of a call is passed
abbrev pub is_late : ℕ → Call → Bool
is_late moment call = if_some (deadline_of call) false (is_passed moment)

module _ {V : Type 0} where
  -- the call keeps the numbers that its answer draws
  abbrev pub keep_for : World V → Call → World V
  keep_for w call = record w { handles = handles.keep w.handles (draws_of call) }

  -- the effect of a call on a link that isn't refused, by its class
  abbrev pub perform_on_link : World V → ℕ → Call → World V
  perform_on_link w who call = if is_send (word_of call) then enter_send w who call
      else (if is_receive (word_of call) then enter_receive w who call
      else (if gives_up (word_of call) then enter_giving_up w who call (draws_of call)
      else (if links (word_of call) then enter_link w who call
      else (if is_handshake (word_of call) then enter_handshake w who call
      else enter_attach w who call))))

  -- the effect of a call that isn't refused
  abbrev pub perform : Program V → World V → ℕ → V → Call → World V
  perform p w who view (calls.Print text) = reply w who words.Print (Number 0)
  perform p w who view calls.Now = reply w who words.Now (Number w.moment)
  perform p w who view calls.Yield = reply w who words.Yield (Number 0)
  perform p w who view (calls.Msleep deadline) = pend w who (calls.Msleep deadline)
  perform p w who view (calls.Hmake kind value) = make_value w who kind value
  perform p w who view (calls.Hquery number kind) = query w who number
  perform p w who view (calls.Hown number) = own w who number
  perform p w who view (calls.Hclose number) = close w who number
  perform p w who view calls.Bundle = make_bundle w who
  perform p w who view (calls.Go program args) = go p w who view program args
  perform p w who view (calls.BundleGo number program args) = bundle_go p w who view number program args
  perform p w who view (calls.BundleWait number deadline) = pend w who (calls.BundleWait number deadline)
  perform p w who view calls.Chmake = make_channel w who
  perform p w who view (calls.Chsend number bytes deadline) = enter_channel w who (calls.Chsend number bytes deadline)
  perform p w who view (calls.Chrecv number size deadline) = enter_channel w who (calls.Chrecv number size deadline)
  perform p w who view (calls.Chdone number) = channel_done w who number
  perform p w who view (calls.Choose deadline all) = enter_channel w who (calls.Choose deadline all)
  perform p w who view (calls.Pass word fault) = reply w who word (passed_answer fault)
  perform p w who view call = perform_on_link w who call

  -- Pending without an answer, with a passed deadline and without a link.
  abbrev pub is_too_late : World V → ℕ → Call → Bool
  is_too_late w who call = is_late w.moment call && (not (uses_link (word_of call)) && is_none (answer_of w who call))

  -- a call that is pending is answered at its entry where its deadline is passed
  abbrev pub meet_deadline : World V → ℕ → World V
  meet_deadline w who = if_some (call_of w who) w (λ call. if is_too_late w who call then reply w who (word_of call) (late_answer call) else w)

  -- the call is done
  abbrev pub done : Program V → World V → ℕ → V → Call → World V
  done p w who view call = meet_deadline (perform p (keep_for w call) who view call) who

  -- the entry may be refused memory: the call takes some, and has no other refusal
  abbrev pub may_lack_entry : Program V → World V → ℕ → V → Call → Bool
  may_lack_entry p w who view call = takes_memory (word_of call) && is_none (refuse p w who view call)

  -- want of memory is the last refusal
  abbrev pub enter : Program V → Bool → World V → ℕ → V → Call → World V
  enter p lacks w who view call =
      if_some (refuse p w who view call)
      (if lacks && takes_memory (word_of call) then reply w who (word_of call) (Fault Enomem) else done p w who view call)
      (λ e. reply w who (word_of call) (Fault e))

  -- A call that the program couldn't build: a cancelled caller hears that, where the call blocks or makes and gives no stack up.
  abbrev pub lack_fault : World V → ℕ → Word → Errno
  lack_fault w who word = if is_cancelled w who && ((blocks word || makes word) && not (gives_up word)) then Ecanceled else Enomem
