-- Where no look finds anything, fewer bytes are unread than the pending call needs.
use Rattle.std.proofs.Common.{◌≡◌, ◌∙◌, true, Some, None, if◌then◌else◌, refl, sym, ap}
use Rattle.rand_core.specs.Stream.{Stream}
use Rattle.dill_base.specs.Maps.{if_some}
use Rattle.dill_calls.specs.declared.call.Call.{Call}
use Rattle.dill_calls.specs.declared.call.Call.TheVariants as calls
use Rattle.dill_calls.specs.declared.word.Word.{Word}
use Rattle.dill_calls.specs.declared.word.Word.TheVariants as words
use Rattle.dill_calls.specs.CallTable.{word_of}
use Rattle.dill_frames.specs.Laws.{PrefixLaws, SuffixLaws}
use Rattle.dill_http.specs.Laws.{LineLaws}
use Rattle.dill_ws.specs.HandshakeLaws.{HandshakeLaws}
use Rattle.dill_stack.specs.declared.parting.Parting.{Parting}
use Rattle.dill_stack.specs.declared.want.Want.{Want}
use Rattle.dill_stack.specs.Interface.{Held, Looked, greeted, read, detach_finish}
use Rattle.dill_stack.proofs.DropShort.{finish_short}
use Rattle.dill_stack.proofs.Greetings.{heard_short}
use Rattle.dill_stack.proofs.ReadShort.{read_short}
use Rattle.dill_rules.specs.Directions.{is_handshake, asked, parting_of}
use Rattle.dill_rules.specs.LinkAnswers.{heard_as, still, look_by, look_of, reads}
use Rattle.dill_rules.specs.Links.{Link}
use Rattle.dill_rules.specs.World.{World}
use Rattle.laws_queue.specs.Lending.{no_random}
use Rattle.laws_looks.specs.Short.{Awaits, NeedsAreShort}

asked_reads : (call : Call) (want : Want) → asked call ≡ Some want → reads call ≡ true
asked_reads (calls.Brecv number size deadline) want e = refl
asked_reads (calls.Mrecv number limit deadline) want e = refl
asked_reads (calls.HttpRecvrequest number deadline) want e = refl
asked_reads (calls.HttpRecvstatus number deadline) want e = refl
asked_reads (calls.HttpRecvfield number deadline) want e = refl
asked_reads _ want e = cc

leaving_reads : (call : Call) (parting : Parting) → parting_of call ≡ Some parting → reads call ≡ true
leaving_reads (calls.PrefixDetach number) parting e = refl
leaving_reads (calls.SuffixDetach number) parting e = refl
leaving_reads (calls.TermDetach number deadline) parting e = refl
leaving_reads (calls.HttpDetach number deadline) parting e = refl
leaving_reads (calls.WsDetach number code reason deadline) parting e = refl
leaving_reads _ parting e = cc

handshake_word : (word : Word) → is_handshake word ≡ true → reads (calls.Pass word None) ≡ true
handshake_word words.WsAttachClient e = refl
handshake_word words.WsAttachServer e = refl
handshake_word _ e = cc

handshake_reads : (call : Call) → is_handshake (word_of call) ≡ true → reads call ≡ true
handshake_reads (calls.WsAttachClient number text resource host deadline) e = refl
handshake_reads (calls.WsAttachServer number text deadline) e = refl
handshake_reads (calls.Pass word fault) e = handshake_word word e
handshake_reads _ e = cc

asked_look : (call : Call) (want : Want) (u : Stream) (s : Held) → asked call ≡ Some want → read want u s ≡ look_of call u s
asked_look call want u s e = sym (ap (λ o. if_some o (if_some (parting_of call) (look_by call u s) (λ parting. detach_finish u s)) (λ w. read w u s)) e)

leaving_look : (call : Call) (parting : Parting) (u : Stream) (s : Held) → parting_of call ≡ Some parting → detach_finish u s ≡ look_of call u s
leaving_look (calls.PrefixDetach number) parting u s e = refl
leaving_look (calls.SuffixDetach number) parting u s e = refl
leaving_look (calls.TermDetach number deadline) parting u s e = refl
leaving_look (calls.HttpDetach number deadline) parting u s e = refl
leaving_look (calls.WsDetach number code reason deadline) parting u s e = refl
leaving_look _ parting u s e = cc

handshake_look : (call : Call) (u : Stream) (s : Held) → is_handshake (word_of call) ≡ true → heard_as u (greeted s) ≡ look_of call u s
handshake_look (calls.WsAttachClient number text resource host deadline) u s e = refl
handshake_look (calls.WsAttachServer number text deadline) u s e = refl
handshake_look (calls.Pass word fault) u s e = sym (ap (λ b. if b then heard_as u (greeted s) else look_by (calls.Pass words.Now fault) u s) e) ∙ at word e
  where
    at : (word : Word) → is_handshake word ≡ true → (if is_handshake word then heard_as u (greeted s) else look_by (calls.Pass words.Now fault) u s) ≡ look_of (calls.Pass word fault) u s
    at words.WsAttachClient f = refl
    at words.WsAttachServer f = refl
    at _ f = cc
handshake_look _ u s e = cc

module _ {V : Type 0} where
  rests : (w : World V) (call : Call) (x : Link) → Awaits w call x → reads call ≡ true → look_of call no_random x.stack ≡ still no_random x.stack
  rests w call x a e = (a.restful.calm a.who call a.number a.link x a.pends e a.named a.names a.there).look no_random

  pub needs_are_short : PrefixLaws → SuffixLaws → LineLaws → HandshakeLaws → NeedsAreShort V
  needs_are_short p s l h = record {
    receives = λ w call x want a e standing fits.
        let look = asked_look call want no_random x.stack e ∙ rests w call x a (asked_reads call want e) in
        read_short p s l want no_random x.stack x.stack standing fits (sym (ap (λ (z : Looked). z.stack) look)) (ap (λ (z : Looked). z.said) look);
    greets = λ w call x a e needs.
        let look = handshake_look call no_random x.stack e ∙ rests w call x a (handshake_reads call e) in
        heard_short h x.stack x.stack (sym (ap (λ (z : Looked). z.stack) look)) (ap (λ (z : Looked). z.said) look) needs;
    leaves = λ w call x parting a e droppable sent.
        let look = leaving_look call parting no_random x.stack e ∙ rests w call x a (leaving_reads call parting e) in
        finish_short p s l no_random x.stack x.stack droppable (sym (ap (λ (z : Looked). z.stack) look)) (ap (λ (z : Looked). z.said) look) sent;
  }
