-- Scripts that are read, and printed again as they stand.
use Rattle.std.specs.Prelude.{codes}
use Rattle.dill_script.specs.RowsReading.{PrintsBack}

-- small scripts
pub record ScriptRows : Type 0 where
  pub two_prints : PrintsBack (codes "dill 1\nprogram main 0\nprint \"hello\"\nprint \"bye\"\nend\n")
  pub equal_deadlines : PrintsBack (codes "dill 1\nprogram s 2\nmsleep n0\nmsleep 50\nprint n1\nend\nprogram main 0\nn0 = bundle\nbundle_go n0 s 30 1\nbundle_go n0 s 20 2\nbundle_go n0 s 10 3\nbundle_wait n0 -1\nend\n")
  pub renumbered_handle : PrintsBack (codes "dill 1\nprogram main 0\nn0 = hmake 256 7\nn1 = hown n0\ntry hquery n0 256\nn2 = hquery n1 256\nhclose n1\nend\n")
  pub nested_close : PrintsBack (codes "dill 1\nprogram leaf 0\nmsleep -1\nfinally\ntry msleep -1\nend\nprogram mid 0\nn0 = go leaf\nhclose n0\nend\nprogram main 0\nn0 = go mid\nyield\nyield\nhclose n0\nend\n")
  pub unequal_sizes : PrintsBack (codes "dill 1\nprogram s 1\ntry chsend n0 \"abc\" -1\ntry chdone n0\nend\nprogram main 0\nn0 n1 = chmake\nn2 = go s n0\ntry chrecv n1 4 -1\ntry chrecv n1 4 -1\nend\n")
  pub counted_sleeps : PrintsBack (codes "dill 1\nprogram main 0\nset n0 3\nloop n0\nmsleep +10\nend\nn1 = now\nprint n1\nend\n")

-- scripts that choose, and one that gives a stack up
pub record ChannelRows : Type 0 where
  pub earliest_clause : PrintsBack (codes "dill 1\nprogram s 1\nchsend n0 \"x\" -1\nend\nprogram main 0\nn0 n1 = chmake\nn2 n3 = chmake\ntry choose 0\ntry choose 0 recv n1 1 recv n3 1\nn4 = go s n0\nn5 = go s n2\nyield\nn6 b0 = choose -1 recv n3 1 recv n1 1\nprint n6 b0\nend\n")
  pub both_clauses : PrintsBack (codes "dill 1\nprogram main 0\nchoose -1 send n2 \"b\" send n0 \"a\"\nend\n")
  pub cancelled_detach : PrintsBack (codes "dill 1\nprogram d 1\nn1 = prefix_attach n0 2 big\nn1 = term_attach n1 \"\"\ntry n2 = term_detach n1 -1\ntry hclose n1\nend\nprogram main 0\nn0 = tcp_listen 127.0.0.1:7000 1\nn1 = tcp_connect 127.0.0.1:7000 -1\nn2 = go d give n1\nmsleep 10\nhclose n2\nend\n")

-- a load, and a relay from PREFIX to WebSocket
pub record RelayRows : Type 0 where
  pub load : PrintsBack (codes "dill 1\nprogram server 1\nloop 1000\nn1 = tcp_accept n0 -1\nn1 = prefix_attach n1 2 big\nb0 = mrecv n1 64 -1\nmsend n1 b0 -1\nhclose n1\nend\nend\nprogram main 0\nn0 = tcp_listen 127.0.0.1:7000 16\nn1 = go server give n0\nloop 1000\nn2 = tcp_connect 127.0.0.1:7000 -1\nn2 = prefix_attach n2 2 big\nmsend n2 \"hello\" -1\nb0 = mrecv n2 64 -1\nhclose n2\nend\nbundle_wait n1 -1\nend\n")
  pub relay : PrintsBack (codes "dill 1\nprogram up 1\nloop 3\nn1 = tcp_accept n0 -1\nn1 = ws_attach_server n1 text +1000\nb0 = mrecv n1 65536 +1000\nmsend n1 b0 +1000\nhclose n1\nend\nend\nprogram relay 1\nloop 3\nn1 = tcp_accept n0 -1\nn1 = prefix_attach n1 2 big\nn2 = tcp_connect 127.0.0.1:7002 +1000\nn2 = ws_attach_client n2 text \"/\" \"127.0.0.1:7002\" +1000\nb0 = mrecv n1 65536 +1000\nmsend n2 b0 +1000\nb0 = mrecv n2 65536 +1000\nmsend n1 b0 +1000\nhclose n2\nhclose n1\nend\nend\nprogram main 0\nn0 = tcp_listen 127.0.0.1:7001 16\nn1 = tcp_listen 127.0.0.1:7002 16\nn2 = go up give n1\nn3 = go relay give n0\nloop 3\nn4 = tcp_connect 127.0.0.1:7001 +1000\nn4 = prefix_attach n4 2 big\nmsend n4 \"hi\" +1000\nb0 = mrecv n4 65536 +1000\nprint b0\nhclose n4\nend\nbundle_wait n2 -1\nbundle_wait n3 -1\nend\n")

-- each statement, and the forms of calls that the other scripts lack
pub record FormRows : Type 0 where
  pub statements : PrintsBack (codes "dill 1\nprogram main 0\nset n0 9223372036854775807\nadd n0 n15\nsub n0 1\nlen n1 b15\nif n0 <= 5\nif b0 != \"a\\\"\\\\\\n\\r\\t\\x00\\xff\"\nend\nelse\nif err EPIPE\nend\nif err none\nend\nend\nloop\nif n0 > n1\nbreak\nend\ntry set b0 \"\"\nend\ntry join b0 b1\nreturn\nfail EPROTO\nfinally\nif b3 = b4\nend\nend\n")
  pub other_forms : PrintsBack (codes "dill 1\nprogram p 16\nend\nprogram main 0\nn0 = chdone n1\nn1 b1 = http_recvstatus n2 +n3\ntry b2 b2 = http_recvrequest n2 n4\nn0 = tcp_done 1 0\ntcp_close n0 -1\nn0 n0 = chmake\nb0 = brecv n0 n1 n2\nn1 = suffix_attach n0 \"\\r\\n\"\nn1 = suffix_detach n0\nn1 = prefix_detach n0\nn1 = prefix_attach n0 n1 little\nterm_done n0 -1\nhttp_sendrequest n1 \"GET\" \"/\" -1\nhttp_sendstatus n1 200 \"OK\" -1\nhttp_sendfield n1 b1 b2 -1\nhttp_recvfield n1 -1\nhttp_done n1 -1\nn1 = http_detach n1 -1\nn1 = http_attach n1\nn1 = ws_attach_nohttp n1 client binary\nn1 = ws_detach n1 1000 \"\" -1\nbsend 1 b1 +5\nn1 = bundle_go n0 p 1 2 3 4 5 6 7 8 9 10 11 12 13 14 give n15 16\nend\n")
