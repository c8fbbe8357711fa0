-- The call table: the classes of the calls, and what an answer to each is.
use Rattle.std.specs.Prelude.{ℕ, Bool, true, false, not, ◌&&◌, ◌||◌, Option, Some, None}
use Rattle.dill_base.specs.declared.deadline.Deadline.{Deadline}
use Rattle.dill_calls.specs.declared.call.Call.{Call}
use Rattle.dill_calls.specs.declared.call.Call.TheVariants as calls
use Rattle.dill_calls.specs.declared.word.Word.{Word}
use Rattle.dill_calls.specs.declared.word.Word.TheVariants as words
use Rattle.dill_calls.specs.declared.answer.Answer.{Answer}
use Rattle.dill_calls.specs.declared.answer.Answer.TheVariants as answers

-- the word of a call
abbrev pub word_of : Call → Word
word_of (calls.Print bytes) = words.Print
word_of calls.Now = words.Now
word_of calls.Yield = words.Yield
word_of (calls.Msleep deadline) = words.Msleep
word_of (calls.Hmake n1 n2) = words.Hmake
word_of (calls.Hquery n1 n2) = words.Hquery
word_of (calls.Hown n) = words.Hown
word_of (calls.Hclose n) = words.Hclose
word_of calls.Bundle = words.Bundle
word_of (calls.Go program args) = words.Go
word_of (calls.BundleGo n program args) = words.BundleGo
word_of (calls.BundleWait n deadline) = words.BundleWait
word_of calls.Chmake = words.Chmake
word_of (calls.Chsend n bytes deadline) = words.Chsend
word_of (calls.Chrecv n1 n2 deadline) = words.Chrecv
word_of (calls.Chdone n) = words.Chdone
word_of (calls.Choose deadline clauses) = words.Choose
word_of (calls.TcpListen address n) = words.TcpListen
word_of (calls.TcpAccept n deadline) = words.TcpAccept
word_of (calls.TcpConnect address deadline) = words.TcpConnect
word_of (calls.TcpDone n deadline) = words.TcpDone
word_of (calls.TcpClose n deadline) = words.TcpClose
word_of (calls.Bsend n bytes deadline) = words.Bsend
word_of (calls.Brecv n1 n2 deadline) = words.Brecv
word_of (calls.Msend n bytes deadline) = words.Msend
word_of (calls.Mrecv n1 n2 deadline) = words.Mrecv
word_of (calls.PrefixAttach n1 n2 flag) = words.PrefixAttach
word_of (calls.SuffixAttach n bytes) = words.SuffixAttach
word_of (calls.TermAttach n bytes) = words.TermAttach
word_of (calls.TermDone n deadline) = words.TermDone
word_of (calls.PrefixDetach n) = words.PrefixDetach
word_of (calls.SuffixDetach n) = words.SuffixDetach
word_of (calls.TermDetach n deadline) = words.TermDetach
word_of (calls.HttpAttach n) = words.HttpAttach
word_of (calls.HttpSendrequest n bytes1 bytes2 deadline) = words.HttpSendrequest
word_of (calls.HttpSendstatus n1 n2 bytes deadline) = words.HttpSendstatus
word_of (calls.HttpSendfield n bytes1 bytes2 deadline) = words.HttpSendfield
word_of (calls.HttpRecvrequest n deadline) = words.HttpRecvrequest
word_of (calls.HttpRecvstatus n deadline) = words.HttpRecvstatus
word_of (calls.HttpRecvfield n deadline) = words.HttpRecvfield
word_of (calls.HttpDone n deadline) = words.HttpDone
word_of (calls.HttpDetach n deadline) = words.HttpDetach
word_of (calls.WsAttachClient n flag bytes1 bytes2 deadline) = words.WsAttachClient
word_of (calls.WsAttachServer n flag deadline) = words.WsAttachServer
word_of (calls.WsAttachNohttp n flag1 flag2) = words.WsAttachNohttp
word_of (calls.WsDetach n1 n2 bytes deadline) = words.WsDetach
word_of (calls.Pass word fault) = word

-- The call may stay pending. A cancelled caller is refused.
abbrev pub blocks : Word → Bool
blocks words.Yield = true
blocks words.Msleep = true
blocks words.BundleWait = true
blocks words.Chsend = true
blocks words.Chrecv = true
blocks words.Choose = true
blocks words.TcpListen = true
blocks words.TcpAccept = true
blocks words.TcpConnect = true
blocks words.TcpDone = true
blocks words.TcpClose = true
blocks words.Bsend = true
blocks words.Brecv = true
blocks words.Msend = true
blocks words.Mrecv = true
blocks words.TermDone = true
blocks words.TermDetach = true
blocks words.HttpSendrequest = true
blocks words.HttpSendstatus = true
blocks words.HttpSendfield = true
blocks words.HttpRecvrequest = true
blocks words.HttpRecvstatus = true
blocks words.HttpRecvfield = true
blocks words.HttpDone = true
blocks words.HttpDetach = true
blocks words.WsAttachClient = true
blocks words.WsAttachServer = true
blocks words.WsDetach = true
blocks _ = false

-- The call makes a handle, a coroutine or a link. A cancelled caller is refused.
abbrev pub makes : Word → Bool
makes words.Hmake = true
makes words.Bundle = true
makes words.Go = true
makes words.BundleGo = true
makes words.Chmake = true
makes words.TcpListen = true
makes words.TcpAccept = true
makes words.TcpConnect = true
makes words.PrefixAttach = true
makes words.SuffixAttach = true
makes words.TermAttach = true
makes words.PrefixDetach = true
makes words.SuffixDetach = true
makes words.TermDetach = true
makes words.HttpAttach = true
makes words.HttpDetach = true
makes words.WsAttachClient = true
makes words.WsAttachServer = true
makes words.WsAttachNohttp = true
makes words.WsDetach = true
makes _ = false

-- the call makes its caller the owner of the handle first
abbrev pub takes : Word → Bool
takes words.Hown = true
takes words.Hclose = true
takes words.TcpClose = true
takes words.PrefixAttach = true
takes words.SuffixAttach = true
takes words.TermAttach = true
takes words.PrefixDetach = true
takes words.SuffixDetach = true
takes words.TermDetach = true
takes words.HttpAttach = true
takes words.HttpDetach = true
takes words.WsAttachClient = true
takes words.WsAttachServer = true
takes words.WsAttachNohttp = true
takes words.WsDetach = true
takes _ = false

-- the call gives a stack up, whatever it answers once it is past its refusals
abbrev pub gives_up : Word → Bool
gives_up words.TcpClose = true
gives_up words.PrefixDetach = true
gives_up words.SuffixDetach = true
gives_up words.TermDetach = true
gives_up words.HttpDetach = true
gives_up words.WsDetach = true
gives_up _ = false

-- the answer draws handle numbers, so that only such a call can meet EMFILE
abbrev pub draws : Word → Bool
draws words.Hown = true
draws word = makes word

-- a program's first turn has no call
abbrev pub is_start : Word → Bool
is_start words.Start = true
is_start _ = false

abbrev pub is_hclose : Word → Bool
is_hclose words.Hclose = true
is_hclose _ = false

-- the answer shortens what is left of its program
abbrev pub is_quiet : Word → Bool
is_quiet word = not (is_start word) && (not (blocks word) || (is_hclose word || gives_up word))

-- the entry of the call takes memory
abbrev pub takes_memory : Word → Bool
takes_memory words.Hmake = true
takes_memory words.Hown = true
takes_memory words.Bundle = true
takes_memory words.Go = true
takes_memory words.BundleGo = true
takes_memory words.Chmake = true
takes_memory words.Chsend = true
takes_memory words.Chrecv = true
takes_memory words.Choose = true
takes_memory words.TcpListen = true
takes_memory words.TcpAccept = true
takes_memory words.TcpConnect = true
takes_memory words.Bsend = true
takes_memory words.Brecv = true
takes_memory words.Msend = true
takes_memory words.Mrecv = true
takes_memory words.PrefixAttach = true
takes_memory words.SuffixAttach = true
takes_memory words.TermAttach = true
takes_memory words.PrefixDetach = true
takes_memory words.SuffixDetach = true
takes_memory words.TermDetach = true
takes_memory words.HttpAttach = true
takes_memory words.HttpSendrequest = true
takes_memory words.HttpSendstatus = true
takes_memory words.HttpSendfield = true
takes_memory words.HttpRecvrequest = true
takes_memory words.HttpRecvstatus = true
takes_memory words.HttpRecvfield = true
takes_memory words.HttpDetach = true
takes_memory words.WsAttachClient = true
takes_memory words.WsAttachServer = true
takes_memory words.WsAttachNohttp = true
takes_memory words.WsDetach = true
takes_memory _ = false

-- the program needs memory to build the call: it has bytes, arguments or clauses
abbrev pub build_takes_memory : Word → Bool
build_takes_memory words.Print = true
build_takes_memory words.Set = true
build_takes_memory words.Join = true
build_takes_memory words.Go = true
build_takes_memory words.BundleGo = true
build_takes_memory words.Chsend = true
build_takes_memory words.Choose = true
build_takes_memory words.Bsend = true
build_takes_memory words.Msend = true
build_takes_memory words.SuffixAttach = true
build_takes_memory words.TermAttach = true
build_takes_memory words.HttpSendrequest = true
build_takes_memory words.HttpSendstatus = true
build_takes_memory words.HttpSendfield = true
build_takes_memory words.WsAttachClient = true
build_takes_memory words.WsDetach = true
build_takes_memory _ = false

-- the handle that a call names first
abbrev pub named_by : Call → Option ℕ
named_by (calls.Hquery n1 n2) = Some n1
named_by (calls.Hown n) = Some n
named_by (calls.Hclose n) = Some n
named_by (calls.BundleGo n program args) = Some n
named_by (calls.BundleWait n deadline) = Some n
named_by (calls.Chsend n bytes deadline) = Some n
named_by (calls.Chrecv n1 n2 deadline) = Some n1
named_by (calls.Chdone n) = Some n
named_by (calls.TcpAccept n deadline) = Some n
named_by (calls.TcpDone n deadline) = Some n
named_by (calls.TcpClose n deadline) = Some n
named_by (calls.Bsend n bytes deadline) = Some n
named_by (calls.Brecv n1 n2 deadline) = Some n1
named_by (calls.Msend n bytes deadline) = Some n
named_by (calls.Mrecv n1 n2 deadline) = Some n1
named_by (calls.PrefixAttach n1 n2 flag) = Some n1
named_by (calls.SuffixAttach n bytes) = Some n
named_by (calls.TermAttach n bytes) = Some n
named_by (calls.TermDone n deadline) = Some n
named_by (calls.PrefixDetach n) = Some n
named_by (calls.SuffixDetach n) = Some n
named_by (calls.TermDetach n deadline) = Some n
named_by (calls.HttpAttach n) = Some n
named_by (calls.HttpSendrequest n bytes1 bytes2 deadline) = Some n
named_by (calls.HttpSendstatus n1 n2 bytes deadline) = Some n1
named_by (calls.HttpSendfield n bytes1 bytes2 deadline) = Some n
named_by (calls.HttpRecvrequest n deadline) = Some n
named_by (calls.HttpRecvstatus n deadline) = Some n
named_by (calls.HttpRecvfield n deadline) = Some n
named_by (calls.HttpDone n deadline) = Some n
named_by (calls.HttpDetach n deadline) = Some n
named_by (calls.WsAttachClient n flag bytes1 bytes2 deadline) = Some n
named_by (calls.WsAttachServer n flag deadline) = Some n
named_by (calls.WsAttachNohttp n flag1 flag2) = Some n
named_by (calls.WsDetach n1 n2 bytes deadline) = Some n1
named_by _ = None

-- how long a call may wait; one that takes no deadline has none
abbrev pub deadline_of : Call → Option Deadline
deadline_of (calls.Msleep deadline) = Some deadline
deadline_of (calls.BundleWait n deadline) = Some deadline
deadline_of (calls.Chsend n bytes deadline) = Some deadline
deadline_of (calls.Chrecv n1 n2 deadline) = Some deadline
deadline_of (calls.Choose deadline clauses) = Some deadline
deadline_of (calls.TcpAccept n deadline) = Some deadline
deadline_of (calls.TcpConnect address deadline) = Some deadline
deadline_of (calls.TcpDone n deadline) = Some deadline
deadline_of (calls.TcpClose n deadline) = Some deadline
deadline_of (calls.Bsend n bytes deadline) = Some deadline
deadline_of (calls.Brecv n1 n2 deadline) = Some deadline
deadline_of (calls.Msend n bytes deadline) = Some deadline
deadline_of (calls.Mrecv n1 n2 deadline) = Some deadline
deadline_of (calls.TermDone n deadline) = Some deadline
deadline_of (calls.TermDetach n deadline) = Some deadline
deadline_of (calls.HttpSendrequest n bytes1 bytes2 deadline) = Some deadline
deadline_of (calls.HttpSendstatus n1 n2 bytes deadline) = Some deadline
deadline_of (calls.HttpSendfield n bytes1 bytes2 deadline) = Some deadline
deadline_of (calls.HttpRecvrequest n deadline) = Some deadline
deadline_of (calls.HttpRecvstatus n deadline) = Some deadline
deadline_of (calls.HttpRecvfield n deadline) = Some deadline
deadline_of (calls.HttpDone n deadline) = Some deadline
deadline_of (calls.HttpDetach n deadline) = Some deadline
deadline_of (calls.WsAttachClient n flag bytes1 bytes2 deadline) = Some deadline
deadline_of (calls.WsAttachServer n flag deadline) = Some deadline
deadline_of (calls.WsDetach n1 n2 bytes deadline) = Some deadline
deadline_of _ = None

-- the forms of answers
pub data Form : Type 0 where
  OneNumber : Form
  TwoNumbers : Form
  OneBytes : Form
  TwoBytes : Form
  CodeAndBytes : Form
  Choice : Form

-- what a call answers, where it is no fault
abbrev pub form_of : Word → Form
form_of words.Chmake = TwoNumbers
form_of words.Chrecv = OneBytes
form_of words.Choose = Choice
form_of words.Brecv = OneBytes
form_of words.Mrecv = OneBytes
form_of words.HttpRecvrequest = TwoBytes
form_of words.HttpRecvstatus = CodeAndBytes
form_of words.HttpRecvfield = TwoBytes
form_of _ = OneNumber

-- the form of an answer; a fault has none
abbrev pub answer_form : Answer → Option Form
answer_form (answers.Number n) = Some OneNumber
answer_form (answers.Pair m n) = Some TwoNumbers
answer_form (answers.Bytes bytes) = Some OneBytes
answer_form (answers.Two first second) = Some TwoBytes
answer_form (answers.Coded code bytes) = Some CodeAndBytes
answer_form (answers.Chosen index fault bytes) = Some Choice
answer_form (answers.Fault errno) = None

-- What is built so far: the calls of printing, time, coroutines and handles, and the statements that keep bytes. Channels, links and layers follow.
abbrev pub is_built : Word → Bool
is_built words.Start = true
is_built words.Set = true
is_built words.Join = true
is_built words.Print = true
is_built words.Now = true
is_built words.Yield = true
is_built words.Msleep = true
is_built words.Hmake = true
is_built words.Hquery = true
is_built words.Hown = true
is_built words.Hclose = true
is_built words.Bundle = true
is_built words.Go = true
is_built words.BundleGo = true
is_built words.BundleWait = true
is_built words.Chmake = true
is_built words.Chsend = true
is_built words.Chrecv = true
is_built words.Chdone = true
is_built words.Choose = true
is_built _ = false
