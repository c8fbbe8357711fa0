-- The call that a form makes, one row for each word.
use Rattle.std.specs.Prelude.{ℕ, List, [], ◌∷◌, filter_map, flat_map, Option, Some, None, decimal}
use Rattle.dill_calls.specs.declared.call.Call.{Call}
use Rattle.dill_calls.specs.declared.call.Call.TheVariants as calls
use Rattle.dill_calls.specs.declared.lists.Arg.{Arg}
use Rattle.dill_calls.specs.declared.lists.Arg.TheVariants.{Show, Give}
use Rattle.dill_calls.specs.declared.lists.Clause.{Clause}
use Rattle.dill_calls.specs.declared.lists.Clause.TheVariants.{Send, Recv}
use Rattle.dill_calls.specs.declared.word.Word.{Word}
use Rattle.dill_calls.specs.declared.word.Word.TheVariants as words
use Rattle.dill_meaning.specs.Values.{Value, Number, Octets, Until, Where, First, Program, Gift, Sends, Recvs}

-- an item as `print` writes it: bytes as they are, a number in decimal
abbrev pub item_text : Value → List ℕ
item_text (Number value) = decimal value
item_text (Octets value) = value
item_text _ = []

-- an argument: a number that is shown, or a handle that is given
abbrev pub arg_of : Value → Option Arg
arg_of (Number value) = Some (Show value)
arg_of (Gift value) = Some (Give value)
arg_of _ = None

-- a clause: an item that is sent at an end, or a size that is received there
abbrev pub clause_of : Value → Option Clause
clause_of (Sends end item) = Some (Send end item)
clause_of (Recvs end size) = Some (Recv end size)
clause_of _ = None

-- the call of a word and its operands; none where these are of other kinds than its own, as they are in no script that is read
abbrev pub call_of : Word → List Value → Option Call
call_of words.Print items = Some (calls.Print (flat_map item_text items))
call_of words.Now [] = Some calls.Now
call_of words.Yield [] = Some calls.Yield
call_of words.Msleep (Until wait ∷ []) = Some (calls.Msleep wait)
call_of words.Hmake (Number kind ∷ Number value ∷ []) = Some (calls.Hmake kind value)
call_of words.Hquery (Number h ∷ Number kind ∷ []) = Some (calls.Hquery h kind)
call_of words.Hown (Number h ∷ []) = Some (calls.Hown h)
call_of words.Hclose (Number h ∷ []) = Some (calls.Hclose h)
call_of words.Bundle [] = Some calls.Bundle
call_of words.Go (Program program ∷ args) = Some (calls.Go program (filter_map arg_of args))
call_of words.BundleGo (Number h ∷ Program program ∷ args) = Some (calls.BundleGo h program (filter_map arg_of args))
call_of words.BundleWait (Number h ∷ Until wait ∷ []) = Some (calls.BundleWait h wait)
call_of words.Chmake [] = Some calls.Chmake
call_of words.Chsend (Number h ∷ Octets item ∷ Until wait ∷ []) = Some (calls.Chsend h item wait)
call_of words.Chrecv (Number h ∷ Number size ∷ Until wait ∷ []) = Some (calls.Chrecv h size wait)
call_of words.Chdone (Number h ∷ []) = Some (calls.Chdone h)
call_of words.Choose (Until wait ∷ clauses) = Some (calls.Choose wait (filter_map clause_of clauses))
call_of words.TcpListen (Where address ∷ Number backlog ∷ []) = Some (calls.TcpListen address backlog)
call_of words.TcpAccept (Number h ∷ Until wait ∷ []) = Some (calls.TcpAccept h wait)
call_of words.TcpConnect (Where address ∷ Until wait ∷ []) = Some (calls.TcpConnect address wait)
call_of words.TcpDone (Number h ∷ Until wait ∷ []) = Some (calls.TcpDone h wait)
call_of words.TcpClose (Number h ∷ Until wait ∷ []) = Some (calls.TcpClose h wait)
call_of words.Bsend (Number h ∷ Octets bytes ∷ Until wait ∷ []) = Some (calls.Bsend h bytes wait)
call_of words.Brecv (Number h ∷ Number size ∷ Until wait ∷ []) = Some (calls.Brecv h size wait)
call_of words.Msend (Number h ∷ Octets message ∷ Until wait ∷ []) = Some (calls.Msend h message wait)
call_of words.Mrecv (Number h ∷ Number limit ∷ Until wait ∷ []) = Some (calls.Mrecv h limit wait)
call_of words.PrefixAttach (Number h ∷ Number size ∷ First big ∷ []) = Some (calls.PrefixAttach h size big)
call_of words.SuffixAttach (Number h ∷ Octets terminator ∷ []) = Some (calls.SuffixAttach h terminator)
call_of words.TermAttach (Number h ∷ Octets terminal ∷ []) = Some (calls.TermAttach h terminal)
call_of words.TermDone (Number h ∷ Until wait ∷ []) = Some (calls.TermDone h wait)
call_of words.PrefixDetach (Number h ∷ []) = Some (calls.PrefixDetach h)
call_of words.SuffixDetach (Number h ∷ []) = Some (calls.SuffixDetach h)
call_of words.TermDetach (Number h ∷ Until wait ∷ []) = Some (calls.TermDetach h wait)
call_of words.HttpAttach (Number h ∷ []) = Some (calls.HttpAttach h)
call_of words.HttpSendrequest (Number h ∷ Octets command ∷ Octets resource ∷ Until wait ∷ []) = Some (calls.HttpSendrequest h command resource wait)
call_of words.HttpSendstatus (Number h ∷ Number code ∷ Octets reason ∷ Until wait ∷ []) = Some (calls.HttpSendstatus h code reason wait)
call_of words.HttpSendfield (Number h ∷ Octets name ∷ Octets value ∷ Until wait ∷ []) = Some (calls.HttpSendfield h name value wait)
call_of words.HttpRecvrequest (Number h ∷ Until wait ∷ []) = Some (calls.HttpRecvrequest h wait)
call_of words.HttpRecvstatus (Number h ∷ Until wait ∷ []) = Some (calls.HttpRecvstatus h wait)
call_of words.HttpRecvfield (Number h ∷ Until wait ∷ []) = Some (calls.HttpRecvfield h wait)
call_of words.HttpDone (Number h ∷ Until wait ∷ []) = Some (calls.HttpDone h wait)
call_of words.HttpDetach (Number h ∷ Until wait ∷ []) = Some (calls.HttpDetach h wait)
call_of words.WsAttachClient (Number h ∷ First text ∷ Octets resource ∷ Octets host ∷ Until wait ∷ []) = Some (calls.WsAttachClient h text resource host wait)
call_of words.WsAttachServer (Number h ∷ First text ∷ Until wait ∷ []) = Some (calls.WsAttachServer h text wait)
call_of words.WsAttachNohttp (Number h ∷ First client ∷ First text ∷ []) = Some (calls.WsAttachNohttp h client text)
call_of words.WsDetach (Number h ∷ Number code ∷ Octets reason ∷ Until wait ∷ []) = Some (calls.WsDetach h code reason wait)
call_of _ _ = None
