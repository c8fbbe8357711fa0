-- Worked runs of faults of calls: links that fail, short ends, messages that are too long, detaches that are late, gifts and kinds.
use Rattle.std.specs.Prelude.{◌≡◌, true, ℕ, zero, suc, List, [], ◌∷◌, codes}
use Rattle.dill_base.specs.declared.deadline.Deadline.TheVariants.{Never, At}
use Rattle.dill_calls.specs.declared.call.Call.TheVariants as calls
use Rattle.dill_calls.specs.declared.lists.Arg.TheVariants.{Give}
use Rattle.dill_kernel.specs.declared.replies.KernelFault.TheVariants as faults
use Rattle.dill_kernel.specs.declared.replies.KernelReply.TheVariants.{Done, NotYet, Came, Took, End, Failed}
use Rattle.dill_rows.specs.Play.{Does, Tries, Text}
use Rattle.dill_rows.specs.Playing.{plain, played, replayed, idle, place, connected}
use Rattle.dill_rows.specs.Runs.{prints, does}

abbrev pub both_directions : ℕ → List ℕ → Text
both_directions zero args = plain 0 (Does (calls.TcpConnect (place 9) Never) ∷ Does (calls.Go 1 []) ∷ Tries (calls.Bsend 1 (codes "x") Never) ∷ Does (calls.BundleWait 2 Never) ∷ [])
both_directions program args = plain 0 (Tries (calls.Brecv 1 1 Never) ∷ [])

-- A link that fails answers the calls of both its directions.
pub record LinkFails : Type 0 where
  pub run : does (replayed (connected (idle 0 ∷ NotYet ∷ Failed faults.Reset ∷ [])) 50 both_directions) (codes "1 start =0" ∷ codes "1 tcp_connect =1" ∷ codes "1 go =2" ∷ codes "2 start =0" ∷ codes "1 bsend ECONNRESET" ∷ codes "2 brecv ECONNRESET" ∷ codes "2 end ok" ∷ codes "1 bundle_wait =0" ∷ codes "1 end ok" ∷ codes "freed 2" ∷ codes "freed 1" ∷ codes "summary status=0 errno=none turns=7 rounds=3 closing=0 made=2 gone=2 lacks=0" ∷ []) (codes "wait 0" ∷ codes "wait 0" ∷ codes "connect 1" ∷ codes "finish 1" ∷ codes "wait 0" ∷ codes "write 1 #1:78" ∷ codes "read 1" ∷ codes "close 1" ∷ []) ≡ true

abbrev pub short_end : ℕ → List ℕ → Text
short_end program args = plain 0 (Does (calls.TcpConnect (place 9) Never) ∷ Tries (calls.Brecv 1 3 Never) ∷ Does (calls.Brecv 1 2 Never) ∷ Tries (calls.Brecv 1 1 Never) ∷ Does (calls.Brecv 1 0 Never) ∷ [])

-- What came before the end is kept where it is too short.
pub record ShortEndKeeps : Type 0 where
  pub run : does (replayed (connected (idle 0 ∷ Came (codes "ab") ∷ idle 0 ∷ End ∷ [])) 50 short_end) (codes "1 start =0" ∷ codes "1 tcp_connect =1" ∷ codes "1 brecv EPIPE" ∷ codes "1 brecv #2:6162" ∷ codes "1 brecv EPIPE" ∷ codes "1 brecv #0:" ∷ codes "1 end ok" ∷ codes "freed 1" ∷ codes "summary status=0 errno=none turns=6 rounds=4 closing=0 made=1 gone=1 lacks=0" ∷ []) (codes "wait 0" ∷ codes "wait 0" ∷ codes "connect 1" ∷ codes "finish 1" ∷ codes "wait 0" ∷ codes "read 1" ∷ codes "wait 0" ∷ codes "read 1" ∷ codes "close 1" ∷ []) ≡ true

abbrev pub too_long : ℕ → List ℕ → Text
too_long program args = plain 0 (Does (calls.TcpConnect (place 9) Never) ∷ Does (calls.PrefixAttach 1 2 true) ∷ Tries (calls.Mrecv 2 3 Never) ∷ Tries (calls.Mrecv 2 9 Never) ∷ Does (calls.Msend 2 (codes "x") Never) ∷ [])

abbrev pub detaches_late : ℕ → List ℕ → Text
detaches_late program args = plain 0 (Does (calls.TcpConnect (place 9) Never) ∷ Does (calls.PrefixAttach 1 2 true) ∷ Does (calls.TermAttach 2 []) ∷ Tries (calls.TermDetach 3 (At 0)) ∷ [])

-- A message over the limit breaks the receiving direction alone. A detach that is late releases the stack.
pub record TooLongAndTooLate : Type 0 where
  pub message : does (replayed (connected (idle 0 ∷ Came (0 ∷ 5 ∷ []) ∷ idle 0 ∷ Took 3 ∷ [])) 50 too_long) (codes "1 start =0" ∷ codes "1 tcp_connect =1" ∷ codes "moved 1 2" ∷ codes "1 prefix_attach =2" ∷ codes "1 mrecv EMSGSIZE" ∷ codes "1 mrecv ECONNRESET" ∷ codes "1 msend =0" ∷ codes "1 end ok" ∷ codes "freed 2" ∷ codes "summary status=0 errno=none turns=6 rounds=4 closing=0 made=2 gone=2 lacks=0" ∷ []) (codes "wait 0" ∷ codes "wait 0" ∷ codes "connect 1" ∷ codes "finish 1" ∷ codes "wait 0" ∷ codes "read 1" ∷ codes "wait 0" ∷ codes "write 1 #3:000178" ∷ codes "close 1" ∷ []) ≡ true
  pub detach : does (replayed (connected (idle 0 ∷ NotYet ∷ [])) 50 detaches_late) (codes "1 start =0" ∷ codes "1 tcp_connect =1" ∷ codes "moved 1 2" ∷ codes "1 prefix_attach =2" ∷ codes "moved 2 3" ∷ codes "1 term_attach =3" ∷ codes "freed 3" ∷ codes "1 term_detach ETIMEDOUT" ∷ codes "1 end ok" ∷ codes "summary status=0 errno=none turns=5 rounds=3 closing=0 made=3 gone=3 lacks=0" ∷ []) (codes "wait 0" ∷ codes "wait 0" ∷ codes "connect 1" ∷ codes "finish 1" ∷ codes "wait 0" ∷ codes "write 1 #2:0000" ∷ codes "close 1" ∷ []) ≡ true

abbrev pub gives : ℕ → List ℕ → Text
gives zero args = plain 0 (Does calls.Bundle ∷ Does (calls.Hmake 256 0) ∷ Tries (calls.BundleGo 1 1 (Give 1 ∷ [])) ∷ Tries (calls.Go 2 (Give 2 ∷ Give 2 ∷ [])) ∷ Tries (calls.Go 1 []) ∷ Tries (calls.Go 1 (Give 9 ∷ [])) ∷ Does (calls.Go 1 (Give 1 ∷ [])) ∷ [])
gives (suc zero) args = plain 1 []
gives program args = plain 2 []

-- Gifts that can't be: the bundle that the child would live in, one thing twice, too few, and a dead number. A bundle may be given to a child that lives in another.
pub record GiftRefusals : Type 0 where
  pub run : prints (played 50 gives) (codes "1 start =0" ∷ codes "1 bundle =1" ∷ codes "1 hmake =2" ∷ codes "1 bundle_go EBUSY" ∷ codes "1 go EINVAL" ∷ codes "1 go EINVAL" ∷ codes "1 go EBADF" ∷ codes "moved 1 4" ∷ codes "1 go =3" ∷ codes "1 end ok" ∷ codes "2 start =0" ∷ codes "2 end ok" ∷ codes "freed 4" ∷ codes "freed 3" ∷ codes "freed 2" ∷ codes "summary status=0 errno=none turns=9 rounds=1 closing=0 made=4 gone=4 lacks=0" ∷ []) ≡ true

abbrev pub gives_two : ℕ → List ℕ → Text
gives_two zero args = plain 0 (Does (calls.Hmake 256 7) ∷ Does (calls.Hmake 257 8) ∷ Does (calls.Go 1 (Give 2 ∷ Give 1 ∷ [])) ∷ Tries (calls.Hquery 2 257) ∷ Does (calls.BundleWait 3 Never) ∷ [])
gives_two program args = plain 2 (Does (calls.Hquery 4 257) ∷ Does (calls.Hquery 5 256) ∷ [])

-- The bundle's number is drawn first, then those of the gifts in their order; the child owns them.
pub record GiftsInOrder : Type 0 where
  pub run : prints (played 50 gives_two) (codes "1 start =0" ∷ codes "1 hmake =1" ∷ codes "1 hmake =2" ∷ codes "moved 2 4" ∷ codes "moved 1 5" ∷ codes "1 go =3" ∷ codes "2 start =0" ∷ codes "1 hquery EBADF" ∷ codes "2 hquery =8" ∷ codes "2 hquery =7" ∷ codes "2 end ok" ∷ codes "freed 5" ∷ codes "freed 4" ∷ codes "1 bundle_wait =0" ∷ codes "1 end ok" ∷ codes "freed 3" ∷ codes "summary status=0 errno=none turns=9 rounds=1 closing=0 made=5 gone=5 lacks=0" ∷ []) ≡ true

abbrev pub asks_kinds : ℕ → List ℕ → Text
asks_kinds program args = plain 0 (Does calls.Bundle ∷ Does calls.Chmake ∷ Does (calls.TcpListen (place 8) 1) ∷ Does (calls.TcpConnect (place 9) Never) ∷ Does (calls.Hquery 1 1) ∷ Does (calls.Hquery 2 2) ∷ Does (calls.Hquery 4 3) ∷ Does (calls.Hquery 5 4) ∷ Tries (calls.Hquery 5 5) ∷ Does (calls.PrefixAttach 5 2 true) ∷ Does (calls.Hquery 6 5) ∷ Does (calls.PrefixDetach 6) ∷ Does (calls.HttpAttach 7) ∷ Does (calls.Hquery 8 6) ∷ Tries (calls.Hquery 8 4) ∷ Tries (calls.Hmake 255 0) ∷ Tries (calls.Hmake 4294967296 0) ∷ [])

-- Each thing has its kind, and a stack that of its top.
pub record Kinds : Type 0 where
  pub run : prints (replayed (idle 0 ∷ idle 0 ∷ Done ∷ idle 0 ∷ Done ∷ Done ∷ []) 60 asks_kinds) (codes "1 start =0" ∷ codes "1 bundle =1" ∷ codes "1 chmake =2,3" ∷ codes "1 tcp_listen =4" ∷ codes "1 tcp_connect =5" ∷ codes "1 hquery =0" ∷ codes "1 hquery =0" ∷ codes "1 hquery =0" ∷ codes "1 hquery =0" ∷ codes "1 hquery ENOTSUP" ∷ codes "moved 5 6" ∷ codes "1 prefix_attach =6" ∷ codes "1 hquery =0" ∷ codes "moved 6 7" ∷ codes "1 prefix_detach =7" ∷ codes "moved 7 8" ∷ codes "1 http_attach =8" ∷ codes "1 hquery =0" ∷ codes "1 hquery ENOTSUP" ∷ codes "1 hmake EINVAL" ∷ codes "1 hmake EINVAL" ∷ codes "1 end ok" ∷ codes "freed 1" ∷ codes "freed 8" ∷ codes "freed 4" ∷ codes "freed 3" ∷ codes "freed 2" ∷ codes "summary status=0 errno=none turns=18 rounds=3 closing=0 made=8 gone=8 lacks=0" ∷ []) ≡ true
