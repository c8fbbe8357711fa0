-- The table of the calls' operands, one row for each word.
use Rattle.std.specs.Prelude.{List, [], ◌∷◌}
use Rattle.dill_calls.specs.declared.word.Word.{Word}
use Rattle.dill_calls.specs.declared.word.Word.TheVariants as words
use Rattle.dill_script.specs.declared.form.Kind.{Kind}
use Rattle.dill_script.specs.declared.form.Kind.TheVariants.{Num, Bytes, Wait, Address, Program, Order, Mode, Role}
use Rattle.dill_script.specs.declared.form.Rest.{Rest}
use Rattle.dill_script.specs.declared.form.Rest.TheVariants.{Nothing, Items, Args, Clauses}

-- the operands that a call always has
abbrev pub kinds_of : Word → List Kind
kinds_of words.Print = []
kinds_of words.Now = []
kinds_of words.Yield = []
kinds_of words.Msleep = Wait ∷ []
kinds_of words.Hmake = Num ∷ Num ∷ []
kinds_of words.Hquery = Num ∷ Num ∷ []
kinds_of words.Hown = Num ∷ []
kinds_of words.Hclose = Num ∷ []
kinds_of words.Bundle = []
kinds_of words.Go = Program ∷ []
kinds_of words.BundleGo = Num ∷ Program ∷ []
kinds_of words.BundleWait = Num ∷ Wait ∷ []
kinds_of words.Chmake = []
kinds_of words.Chsend = Num ∷ Bytes ∷ Wait ∷ []
kinds_of words.Chrecv = Num ∷ Num ∷ Wait ∷ []
kinds_of words.Chdone = Num ∷ []
kinds_of words.Choose = Wait ∷ []
kinds_of words.TcpListen = Address ∷ Num ∷ []
kinds_of words.TcpAccept = Num ∷ Wait ∷ []
kinds_of words.TcpConnect = Address ∷ Wait ∷ []
kinds_of words.TcpDone = Num ∷ Wait ∷ []
kinds_of words.TcpClose = Num ∷ Wait ∷ []
kinds_of words.Bsend = Num ∷ Bytes ∷ Wait ∷ []
kinds_of words.Brecv = Num ∷ Num ∷ Wait ∷ []
kinds_of words.Msend = Num ∷ Bytes ∷ Wait ∷ []
kinds_of words.Mrecv = Num ∷ Num ∷ Wait ∷ []
kinds_of words.PrefixAttach = Num ∷ Num ∷ Order ∷ []
kinds_of words.SuffixAttach = Num ∷ Bytes ∷ []
kinds_of words.TermAttach = Num ∷ Bytes ∷ []
kinds_of words.TermDone = Num ∷ Wait ∷ []
kinds_of words.PrefixDetach = Num ∷ []
kinds_of words.SuffixDetach = Num ∷ []
kinds_of words.TermDetach = Num ∷ Wait ∷ []
kinds_of words.HttpAttach = Num ∷ []
kinds_of words.HttpSendrequest = Num ∷ Bytes ∷ Bytes ∷ Wait ∷ []
kinds_of words.HttpSendstatus = Num ∷ Num ∷ Bytes ∷ Wait ∷ []
kinds_of words.HttpSendfield = Num ∷ Bytes ∷ Bytes ∷ Wait ∷ []
kinds_of words.HttpRecvrequest = Num ∷ Wait ∷ []
kinds_of words.HttpRecvstatus = Num ∷ Wait ∷ []
kinds_of words.HttpRecvfield = Num ∷ Wait ∷ []
kinds_of words.HttpDone = Num ∷ Wait ∷ []
kinds_of words.HttpDetach = Num ∷ Wait ∷ []
kinds_of words.WsAttachClient = Num ∷ Mode ∷ Bytes ∷ Bytes ∷ Wait ∷ []
kinds_of words.WsAttachServer = Num ∷ Mode ∷ Wait ∷ []
kinds_of words.WsAttachNohttp = Num ∷ Role ∷ Mode ∷ []
kinds_of words.WsDetach = Num ∷ Num ∷ Bytes ∷ Wait ∷ []
kinds_of words.Start = []
kinds_of words.Set = []
kinds_of words.Join = []

-- what may stand behind them
abbrev pub rest_kind : Word → Rest
rest_kind words.Print = Items
rest_kind words.Go = Args
rest_kind words.BundleGo = Args
rest_kind words.Choose = Clauses
rest_kind _ = Nothing

-- the words of all calls; `start`, `set` and `join` name none
abbrev pub call_words : List Word
call_words = words.Print ∷ words.Now ∷ words.Yield ∷ words.Msleep ∷ words.Hmake ∷ words.Hquery ∷ words.Hown ∷ words.Hclose ∷ words.Bundle ∷ words.Go ∷ words.BundleGo ∷ words.BundleWait
    ∷ words.Chmake ∷ words.Chsend ∷ words.Chrecv ∷ words.Chdone ∷ words.Choose
    ∷ words.TcpListen ∷ words.TcpAccept ∷ words.TcpConnect ∷ words.TcpDone ∷ words.TcpClose ∷ words.Bsend ∷ words.Brecv ∷ words.Msend ∷ words.Mrecv
    ∷ words.PrefixAttach ∷ words.SuffixAttach ∷ words.TermAttach ∷ words.TermDone ∷ words.PrefixDetach ∷ words.SuffixDetach ∷ words.TermDetach
    ∷ words.HttpAttach ∷ words.HttpSendrequest ∷ words.HttpSendstatus ∷ words.HttpSendfield ∷ words.HttpRecvrequest ∷ words.HttpRecvstatus ∷ words.HttpRecvfield ∷ words.HttpDone ∷ words.HttpDetach
    ∷ words.WsAttachClient ∷ words.WsAttachServer ∷ words.WsAttachNohttp ∷ words.WsDetach ∷ []
