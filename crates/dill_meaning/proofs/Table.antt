-- Each call of the table has the word of its row, and none is a `Pass`.
use Rattle.std.proofs.Common.{◌≡◌, refl, List, [], ◌∷◌, Option, Some, None}
use Rattle.dill_calls.specs.declared.call.Call.{Call}
use Rattle.dill_calls.specs.declared.word.Word.{Word}
use Rattle.dill_calls.specs.declared.word.Word.TheVariants as words
use Rattle.dill_calls.specs.CallTable.{word_of}
use Rattle.dill_calls.specs.Program.{PassesWell}
use Rattle.dill_meaning.specs.Calls.{call_of}
use Rattle.dill_meaning.specs.Values.{Value, Number, Octets, Until, Where, First, Program}

-- a call, if there is one, has this word and is one that a turn may answer
abbrev pub Fits : Word → Option Call → Type 0
Fits word None = Unit {0}
Fits word (Some call) = (word_of call ≡ word) × PassesWell call

pub call_fits : (word : Word) (values : List Value) → Fits word (call_of word values)
call_fits words.Print items = (refl, tt)
call_fits words.Now [] = (refl, tt)
call_fits words.Yield [] = (refl, tt)
call_fits words.Msleep (Until wait ∷ []) = (refl, tt)
call_fits words.Hmake (Number kind ∷ Number value ∷ []) = (refl, tt)
call_fits words.Hquery (Number h ∷ Number kind ∷ []) = (refl, tt)
call_fits words.Hown (Number h ∷ []) = (refl, tt)
call_fits words.Hclose (Number h ∷ []) = (refl, tt)
call_fits words.Bundle [] = (refl, tt)
call_fits words.Go (Program program ∷ args) = (refl, tt)
call_fits words.BundleGo (Number h ∷ Program program ∷ args) = (refl, tt)
call_fits words.BundleWait (Number h ∷ Until wait ∷ []) = (refl, tt)
call_fits words.Chmake [] = (refl, tt)
call_fits words.Chsend (Number h ∷ Octets item ∷ Until wait ∷ []) = (refl, tt)
call_fits words.Chrecv (Number h ∷ Number size ∷ Until wait ∷ []) = (refl, tt)
call_fits words.Chdone (Number h ∷ []) = (refl, tt)
call_fits words.Choose (Until wait ∷ clauses) = (refl, tt)
call_fits words.TcpListen (Where address ∷ Number backlog ∷ []) = (refl, tt)
call_fits words.TcpAccept (Number h ∷ Until wait ∷ []) = (refl, tt)
call_fits words.TcpConnect (Where address ∷ Until wait ∷ []) = (refl, tt)
call_fits words.TcpDone (Number h ∷ Until wait ∷ []) = (refl, tt)
call_fits words.TcpClose (Number h ∷ Until wait ∷ []) = (refl, tt)
call_fits words.Bsend (Number h ∷ Octets bytes ∷ Until wait ∷ []) = (refl, tt)
call_fits words.Brecv (Number h ∷ Number size ∷ Until wait ∷ []) = (refl, tt)
call_fits words.Msend (Number h ∷ Octets message ∷ Until wait ∷ []) = (refl, tt)
call_fits words.Mrecv (Number h ∷ Number limit ∷ Until wait ∷ []) = (refl, tt)
call_fits words.PrefixAttach (Number h ∷ Number size ∷ First big ∷ []) = (refl, tt)
call_fits words.SuffixAttach (Number h ∷ Octets terminator ∷ []) = (refl, tt)
call_fits words.TermAttach (Number h ∷ Octets terminal ∷ []) = (refl, tt)
call_fits words.TermDone (Number h ∷ Until wait ∷ []) = (refl, tt)
call_fits words.PrefixDetach (Number h ∷ []) = (refl, tt)
call_fits words.SuffixDetach (Number h ∷ []) = (refl, tt)
call_fits words.TermDetach (Number h ∷ Until wait ∷ []) = (refl, tt)
call_fits words.HttpAttach (Number h ∷ []) = (refl, tt)
call_fits words.HttpSendrequest (Number h ∷ Octets command ∷ Octets resource ∷ Until wait ∷ []) = (refl, tt)
call_fits words.HttpSendstatus (Number h ∷ Number code ∷ Octets reason ∷ Until wait ∷ []) = (refl, tt)
call_fits words.HttpSendfield (Number h ∷ Octets name ∷ Octets value ∷ Until wait ∷ []) = (refl, tt)
call_fits words.HttpRecvrequest (Number h ∷ Until wait ∷ []) = (refl, tt)
call_fits words.HttpRecvstatus (Number h ∷ Until wait ∷ []) = (refl, tt)
call_fits words.HttpRecvfield (Number h ∷ Until wait ∷ []) = (refl, tt)
call_fits words.HttpDone (Number h ∷ Until wait ∷ []) = (refl, tt)
call_fits words.HttpDetach (Number h ∷ Until wait ∷ []) = (refl, tt)
call_fits words.WsAttachClient (Number h ∷ First text ∷ Octets resource ∷ Octets host ∷ Until wait ∷ []) = (refl, tt)
call_fits words.WsAttachServer (Number h ∷ First text ∷ Until wait ∷ []) = (refl, tt)
call_fits words.WsAttachNohttp (Number h ∷ First client ∷ First text ∷ []) = (refl, tt)
call_fits words.WsDetach (Number h ∷ Number code ∷ Octets reason ∷ Until wait ∷ []) = (refl, tt)
call_fits _ _ = tt
