-- Runs of whole scripts: what their programs do on the answers of a worked trace.
use Rattle.std.specs.Prelude.{◌≡◌, ℕ, [], ◌∷◌, ◌++◌, map, filter, Some, None, codes, true, false}
use Rattle.dill_base.specs.declared.deadline.Deadline.TheVariants.{Never, At, After}
use Rattle.dill_base.specs.declared.errno.Errno.TheVariants.{Ebadf, Ecanceled, Einval, Emsgsize, Epipe, Etimedout}
use Rattle.dill_base.specs.declared.status.Address.{Address}
use Rattle.dill_calls.specs.declared.answer.Answer.TheVariants.{Number, Pair, Bytes, Two, Chosen, Fault}
use Rattle.dill_calls.specs.declared.call.Call.TheVariants as calls
use Rattle.dill_calls.specs.declared.lists.Arg.TheVariants.{Show, Give}
use Rattle.dill_calls.specs.declared.lists.Clause.TheVariants.{Recv}
use Rattle.dill_calls.specs.declared.word.Word.TheVariants as words
use Rattle.dill_calls.specs.Program.{Calls, Ends}
use Rattle.dill_script.specs.Reading.{script_of}
use Rattle.dill_script.specs.Table.{call_words}
use Rattle.dill_meaning.specs.Meaning.{may_lack}
use Rattle.dill_meaning.specs.RowsRuns.{moves, main_in, program_in, body, zero_answer, zeros}

-- an address of this machine
abbrev pub local : ℕ → Address
local port = record { ip = 127 ∷ 0 ∷ 0 ∷ 1 ∷ []; port = port }

-- handles, and coroutines that are started and closed
pub record HandleRows : Type 0 where
  pub renumbered : moves (main_in (script_of (codes "dill 1\nprogram main 0\nn0 = hmake 256 7\nn1 = hown n0\ntry hquery n0 256\nn2 = hquery n1 256\nhclose n1\nend\n"))) (zero_answer ∷ Number 1 ∷ Number 2 ∷ Fault Ebadf ∷ Number 7 ∷ zero_answer ∷ []) ≡ Calls (calls.Hmake 256 7) ∷ Calls (calls.Hown 1) ∷ Calls (calls.Hquery 1 256) ∷ Calls (calls.Hquery 2 256) ∷ Calls (calls.Hclose 2) ∷ Ends None ∷ []
  pub sleeps : moves (main_in (script_of (codes "dill 1\nprogram s 2\nmsleep n0\nmsleep 50\nprint n1\nend\nprogram main 0\nn0 = bundle\nbundle_go n0 s 30 1\nbundle_go n0 s 20 2\nbundle_go n0 s 10 3\nbundle_wait n0 -1\nend\n"))) (zero_answer ∷ Number 1 ∷ zeros 4) ≡ Calls calls.Bundle ∷ Calls (calls.BundleGo 1 0 (Show 30 ∷ Show 1 ∷ [])) ∷ Calls (calls.BundleGo 1 0 (Show 20 ∷ Show 2 ∷ [])) ∷ Calls (calls.BundleGo 1 0 (Show 10 ∷ Show 3 ∷ [])) ∷ Calls (calls.BundleWait 1 Never) ∷ Ends None ∷ []
  pub sleeper : moves (program_in (script_of (codes "dill 1\nprogram s 2\nmsleep n0\nmsleep 50\nprint n1\nend\nprogram main 0\nn0 = bundle\nbundle_go n0 s 30 1\nbundle_go n0 s 20 2\nbundle_go n0 s 10 3\nbundle_wait n0 -1\nend\n")) 0 (20 ∷ 2 ∷ [])) (zeros 4) ≡ Calls (calls.Msleep (At 20)) ∷ Calls (calls.Msleep (At 50)) ∷ Calls (calls.Print (codes "2")) ∷ Ends None ∷ []
  pub leaf : moves (program_in (script_of (codes "dill 1\nprogram leaf 0\nmsleep -1\nfinally\ntry msleep -1\nend\nprogram mid 0\nn0 = go leaf\nhclose n0\nend\nprogram main 0\nn0 = go mid\nyield\nyield\nhclose n0\nend\n")) 0 []) (zero_answer ∷ Fault Ecanceled ∷ Fault Ecanceled ∷ []) ≡ Calls (calls.Msleep Never) ∷ Calls (calls.Msleep Never) ∷ Ends (Some Ecanceled) ∷ []
  pub middle : moves (program_in (script_of (codes "dill 1\nprogram leaf 0\nmsleep -1\nfinally\ntry msleep -1\nend\nprogram mid 0\nn0 = go leaf\nhclose n0\nend\nprogram main 0\nn0 = go mid\nyield\nyield\nhclose n0\nend\n")) 1 []) (zero_answer ∷ Number 2 ∷ zero_answer ∷ []) ≡ Calls (calls.Go 0 []) ∷ Calls (calls.Hclose 2) ∷ Ends None ∷ []

-- channels and choices
pub record ChannelRows : Type 0 where
  pub unequal : moves (program_in (script_of (codes "dill 1\nprogram s 1\ntry chsend n0 \"abc\" -1\ntry chdone n0\nend\nprogram main 0\nn0 n1 = chmake\nn2 = go s n0\ntry chrecv n1 4 -1\ntry chrecv n1 4 -1\nend\n")) 0 (1 ∷ [])) (zero_answer ∷ Fault Emsgsize ∷ zero_answer ∷ []) ≡ Calls (calls.Chsend 1 (codes "abc") Never) ∷ Calls (calls.Chdone 1) ∷ Ends None ∷ []
  pub receiver : moves (main_in (script_of (codes "dill 1\nprogram s 1\ntry chsend n0 \"abc\" -1\ntry chdone n0\nend\nprogram main 0\nn0 n1 = chmake\nn2 = go s n0\ntry chrecv n1 4 -1\ntry chrecv n1 4 -1\nend\n"))) (zero_answer ∷ Pair 1 2 ∷ Number 3 ∷ Fault Emsgsize ∷ Fault Epipe ∷ []) ≡ Calls calls.Chmake ∷ Calls (calls.Go 0 (Show 1 ∷ [])) ∷ Calls (calls.Chrecv 2 4 Never) ∷ Calls (calls.Chrecv 2 4 Never) ∷ Ends None ∷ []
  pub chooses : moves (main_in (script_of (codes "dill 1\nprogram s 1\nchsend n0 \"x\" -1\nend\nprogram main 0\nn0 n1 = chmake\nn2 n3 = chmake\ntry choose 0\ntry choose 0 recv n1 1 recv n3 1\nn4 = go s n0\nn5 = go s n2\nyield\nn6 b0 = choose -1 recv n3 1 recv n1 1\nprint n6 b0\nend\n"))) (zero_answer ∷ Pair 1 2 ∷ Pair 3 4 ∷ Fault Einval ∷ Fault Etimedout ∷ Number 5 ∷ Number 6 ∷ zero_answer ∷ Chosen 0 None (Some (codes "x")) ∷ zero_answer ∷ []) ≡ Calls calls.Chmake ∷ Calls calls.Chmake ∷ Calls (calls.Choose (At 0) []) ∷ Calls (calls.Choose (At 0) (Recv 2 1 ∷ Recv 4 1 ∷ [])) ∷ Calls (calls.Go 0 (Show 1 ∷ [])) ∷ Calls (calls.Go 0 (Show 3 ∷ [])) ∷ Calls calls.Yield ∷ Calls (calls.Choose Never (Recv 4 1 ∷ Recv 2 1 ∷ [])) ∷ Calls (calls.Print (codes "0x")) ∷ Ends None ∷ []

-- links, layers and WebSocket
pub record LinkRows : Type 0 where
  pub given_up : moves (program_in (script_of (codes "dill 1\nprogram d 1\nn1 = prefix_attach n0 2 big\nn1 = term_attach n1 \"\"\ntry n2 = term_detach n1 -1\ntry hclose n1\nend\nprogram main 0\nn0 = tcp_listen 127.0.0.1:7000 1\nn1 = tcp_connect 127.0.0.1:7000 -1\nn2 = go d give n1\nmsleep 10\nhclose n2\nend\n")) 0 (4 ∷ [])) (zero_answer ∷ Number 5 ∷ Number 6 ∷ Fault Ecanceled ∷ Fault Ebadf ∷ []) ≡ Calls (calls.PrefixAttach 4 2 true) ∷ Calls (calls.TermAttach 5 []) ∷ Calls (calls.TermDetach 6 Never) ∷ Calls (calls.Hclose 6) ∷ Ends None ∷ []
  pub gives : moves (main_in (script_of (codes "dill 1\nprogram d 1\nn1 = prefix_attach n0 2 big\nn1 = term_attach n1 \"\"\ntry n2 = term_detach n1 -1\ntry hclose n1\nend\nprogram main 0\nn0 = tcp_listen 127.0.0.1:7000 1\nn1 = tcp_connect 127.0.0.1:7000 -1\nn2 = go d give n1\nmsleep 10\nhclose n2\nend\n"))) (zero_answer ∷ Number 1 ∷ Number 2 ∷ Number 3 ∷ zero_answer ∷ zero_answer ∷ []) ≡ Calls (calls.TcpListen (local 7000) 1) ∷ Calls (calls.TcpConnect (local 7000) Never) ∷ Calls (calls.Go 0 (Give 2 ∷ [])) ∷ Calls (calls.Msleep (At 10)) ∷ Calls (calls.Hclose 3) ∷ Ends None ∷ []
  pub relays : moves (program_in (script_of (codes "dill 1\nprogram up 1\nloop 3\nn1 = tcp_accept n0 -1\nn1 = ws_attach_server n1 text +1000\nb0 = mrecv n1 65536 +1000\nmsend n1 b0 +1000\nhclose n1\nend\nend\nprogram relay 1\nloop 3\nn1 = tcp_accept n0 -1\nn1 = prefix_attach n1 2 big\nn2 = tcp_connect 127.0.0.1:7002 +1000\nn2 = ws_attach_client n2 text \"/\" \"127.0.0.1:7002\" +1000\nb0 = mrecv n1 65536 +1000\nmsend n2 b0 +1000\nb0 = mrecv n2 65536 +1000\nmsend n1 b0 +1000\nhclose n2\nhclose n1\nend\nend\nprogram main 0\nn0 = tcp_listen 127.0.0.1:7001 16\nn1 = tcp_listen 127.0.0.1:7002 16\nn2 = go up give n1\nn3 = go relay give n0\nloop 3\nn4 = tcp_connect 127.0.0.1:7001 +1000\nn4 = prefix_attach n4 2 big\nmsend n4 \"hi\" +1000\nb0 = mrecv n4 65536 +1000\nprint b0\nhclose n4\nend\nbundle_wait n2 -1\nbundle_wait n3 -1\nend\n")) 1 (1 ∷ [])) (zero_answer ∷ Number 8 ∷ Number 9 ∷ Number 10 ∷ Number 11 ∷ Bytes (codes "hi") ∷ zero_answer ∷ Bytes (codes "hi") ∷ zeros 3 ++ Fault Ecanceled ∷ []) ≡ Calls (calls.TcpAccept 1 Never) ∷ Calls (calls.PrefixAttach 8 2 true) ∷ Calls (calls.TcpConnect (local 7002) (After 1000)) ∷ Calls (calls.WsAttachClient 10 true (codes "/") (codes "127.0.0.1:7002") (After 1000)) ∷ Calls (calls.Mrecv 9 65536 (After 1000)) ∷ Calls (calls.Msend 11 (codes "hi") (After 1000)) ∷ Calls (calls.Mrecv 11 65536 (After 1000)) ∷ Calls (calls.Msend 9 (codes "hi") (After 1000)) ∷ Calls (calls.Hclose 11) ∷ Calls (calls.Hclose 9) ∷ Calls calls.Yield ∷ Ends (Some Ecanceled) ∷ []
  pub other_words : moves (main_in (script_of (codes "dill 1\nprogram main 0\nprefix_attach 1 2 little\nws_attach_nohttp 1 server binary\nws_attach_nohttp 1 client text\nws_detach 1 1000 \"bye\" 5\nhttp_sendstatus 1 200 \"OK\" -1\nend\n"))) (zeros 5) ≡ Calls (calls.PrefixAttach 1 2 false) ∷ Calls (calls.WsAttachNohttp 1 false false) ∷ Calls (calls.WsAttachNohttp 1 true true) ∷ Calls (calls.WsDetach 1 1000 (codes "bye") (At 5)) ∷ Calls (calls.HttpSendstatus 1 200 (codes "OK") Never) ∷ []
  pub ends_and_lines : moves (body (codes "n3 = suffix_attach 3 \"\\r\\n\"\nterm_done n3 7\nn4 = suffix_detach 4\nn4 = prefix_detach n4\nbsend n4 \"ab\" +8\nn5 = http_attach n4\nb0 b1 = http_recvrequest n5 -1\nhttp_sendrequest n5 b0 b1 -1\nhttp_sendfield n5 \"host\" b0 9\nhttp_done n5 10\nn6 = http_detach n5 +n5\ntcp_done n6 -1\ntcp_close n6 0")) (zero_answer ∷ Number 4 ∷ zero_answer ∷ Number 5 ∷ Number 6 ∷ zero_answer ∷ Number 7 ∷ Two (codes "GET") (codes "/a") ∷ zeros 3 ++ Number 8 ∷ zero_answer ∷ []) ≡ Calls (calls.SuffixAttach 3 (13 ∷ 10 ∷ [])) ∷ Calls (calls.TermDone 4 (At 7)) ∷ Calls (calls.SuffixDetach 4) ∷ Calls (calls.PrefixDetach 5) ∷ Calls (calls.Bsend 6 (codes "ab") (After 8)) ∷ Calls (calls.HttpAttach 6) ∷ Calls (calls.HttpRecvrequest 7 Never) ∷ Calls (calls.HttpSendrequest 7 (codes "GET") (codes "/a") Never) ∷ Calls (calls.HttpSendfield 7 (codes "host") (codes "GET") (At 9)) ∷ Calls (calls.HttpDone 7 (At 10)) ∷ Calls (calls.HttpDetach 7 (After 7)) ∷ Calls (calls.TcpDone 8 Never) ∷ Calls (calls.TcpClose 8 (At 0)) ∷ []

-- the calls of the table for whose building memory is taken
pub record LackRows : Type 0 where
  pub calls_that_may : filter may_lack call_words ≡ words.Print ∷ words.Go ∷ words.BundleGo ∷ words.Chsend ∷ words.Choose ∷ words.Bsend ∷ words.Msend ∷ words.SuffixAttach ∷ words.TermAttach ∷ words.HttpSendrequest ∷ words.HttpSendstatus ∷ words.HttpSendfield ∷ words.WsAttachClient ∷ words.WsDetach ∷ []
  pub statements_that_may : map may_lack (words.Set ∷ words.Join ∷ words.Start ∷ []) ≡ true ∷ true ∷ false ∷ []
