-- What calls name: handle numbers, kinds, and what they draw.
use Rattle.std.specs.Prelude.{ℕ, ◌+◌, List, [], ◌∷◌, ◌++◌, length, map, filter_map, Bool, true, false, Option, Some, None, option_to_list}
use Rattle.dill_calls.specs.declared.call.Call.{Call}
use Rattle.dill_calls.specs.declared.call.Call.TheVariants as calls
use Rattle.dill_calls.specs.declared.lists.Arg.{Arg}
use Rattle.dill_calls.specs.declared.lists.Arg.TheVariants.{Show, Give}
use Rattle.dill_calls.specs.declared.lists.Clause.{Clause}
use Rattle.dill_calls.specs.declared.lists.Clause.TheVariants as clauses
use Rattle.dill_calls.specs.declared.word.Word.{Word}
use Rattle.dill_calls.specs.declared.word.Word.TheVariants as words
use Rattle.dill_calls.specs.CallTable.{named_by}

-- the numbers that are given to a child
abbrev pub given_by : Arg → Option ℕ
given_by (Show number) = None
given_by (Give number) = Some number

abbrev pub gifts_of : List Arg → List ℕ
gifts_of args = filter_map given_by args

-- the gifts of a call
abbrev pub gifts : Call → List ℕ
gifts (calls.Go program args) = gifts_of args
gifts (calls.BundleGo number program args) = gifts_of args
gifts _ = []

abbrev pub end_of_clause : Clause → ℕ
end_of_clause (clauses.Send number bytes) = number
end_of_clause (clauses.Recv number size) = number

-- the ends of a choice
abbrev pub chosen : Call → List ℕ
chosen (calls.Choose deadline all) = map end_of_clause all
chosen _ = []

-- every number that a call is a call on: the one that it names first, its gifts, and the ends of its clauses; a number that is only shown to a child is none
abbrev pub numbers_of : Call → List ℕ
numbers_of call = option_to_list (named_by call) ++ gifts call ++ chosen call

-- the numbers whose owner the caller becomes
abbrev pub taken_by : Call → List ℕ
taken_by (calls.Hown number) = number ∷ []
taken_by (calls.Hclose number) = number ∷ []
taken_by (calls.TcpClose number deadline) = number ∷ []
taken_by (calls.PrefixAttach number size big) = number ∷ []
taken_by (calls.SuffixAttach number bytes) = number ∷ []
taken_by (calls.TermAttach number bytes) = number ∷ []
taken_by (calls.PrefixDetach number) = number ∷ []
taken_by (calls.SuffixDetach number) = number ∷ []
taken_by (calls.TermDetach number deadline) = number ∷ []
taken_by (calls.HttpAttach number) = number ∷ []
taken_by (calls.HttpDetach number deadline) = number ∷ []
taken_by (calls.WsAttachClient number text resource host deadline) = number ∷ []
taken_by (calls.WsAttachServer number text deadline) = number ∷ []
taken_by (calls.WsAttachNohttp number client text) = number ∷ []
taken_by (calls.WsDetach number code reason deadline) = number ∷ []
taken_by call = gifts call

-- how many handle numbers a call draws
abbrev pub draws_of : Call → ℕ
draws_of (calls.Hmake kind value) = 1
draws_of (calls.Hown number) = 1
draws_of calls.Bundle = 1
draws_of (calls.Go program args) = 1 + length (gifts_of args)
draws_of (calls.BundleGo number program args) = length (gifts_of args)
draws_of calls.Chmake = 2
draws_of (calls.TcpListen address backlog) = 1
draws_of (calls.TcpAccept number deadline) = 1
draws_of (calls.TcpConnect address deadline) = 1
draws_of (calls.PrefixAttach number size big) = 1
draws_of (calls.SuffixAttach number bytes) = 1
draws_of (calls.TermAttach number bytes) = 1
draws_of (calls.PrefixDetach number) = 1
draws_of (calls.SuffixDetach number) = 1
draws_of (calls.TermDetach number deadline) = 1
draws_of (calls.HttpAttach number) = 1
draws_of (calls.HttpDetach number deadline) = 1
draws_of (calls.WsAttachClient number text resource host deadline) = 1
draws_of (calls.WsAttachServer number text deadline) = 1
draws_of (calls.WsAttachNohttp number client text) = 1
draws_of (calls.WsDetach number code reason deadline) = 1
draws_of _ = 0

-- the call makes a coroutine
abbrev pub bears : Word → Bool
bears words.Go = true
bears words.BundleGo = true
bears _ = false

-- the call makes a link
abbrev pub links : Word → Bool
links words.TcpListen = true
links words.TcpAccept = true
links words.TcpConnect = true
links _ = false

-- the call waits for a link, so that a passed deadline is met in a round and not at its entry
abbrev pub uses_link : Word → Bool
uses_link words.TcpListen = true
uses_link words.TcpAccept = true
uses_link words.TcpConnect = true
uses_link words.TcpDone = true
uses_link words.TcpClose = true
uses_link words.Bsend = true
uses_link words.Brecv = true
uses_link words.Msend = true
uses_link words.Mrecv = true
uses_link words.TermDone = true
uses_link words.TermDetach = true
uses_link words.HttpSendrequest = true
uses_link words.HttpSendstatus = true
uses_link words.HttpSendfield = true
uses_link words.HttpRecvrequest = true
uses_link words.HttpRecvstatus = true
uses_link words.HttpRecvfield = true
uses_link words.HttpDone = true
uses_link words.HttpDetach = true
uses_link words.WsAttachClient = true
uses_link words.WsAttachServer = true
uses_link words.WsDetach = true
uses_link _ = false
