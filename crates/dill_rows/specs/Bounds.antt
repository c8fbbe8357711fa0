-- Worked runs of arguments outside their ranges, and of the last ones inside.
use Rattle.std.specs.Prelude.{◌≡◌, true, ℕ, List, [], ◌∷◌, replicate, codes}
use Rattle.dill_base.specs.declared.deadline.Deadline.TheVariants.{Never, At}
use Rattle.dill_calls.specs.declared.call.Call.TheVariants as calls
use Rattle.dill_calls.specs.declared.lists.Clause.TheVariants.{Recv}
use Rattle.dill_rows.specs.Play.{Item, Does, Tries, Text}
use Rattle.dill_rows.specs.Playing.{plain, played, replayed, place, connected}
use Rattle.dill_rows.specs.Runs.{prints}

-- a connection, and what is done with it
abbrev pub on_link : List Item → ℕ → List ℕ → Text
on_link items program args = plain 0 (Does (calls.TcpConnect (place 9) Never) ∷ items)

-- seven ends over PREFIX of one byte
abbrev pub eight_layers : ℕ → List ℕ → Text
eight_layers = on_link (Tries (calls.PrefixAttach 1 0 true) ∷ Tries (calls.PrefixAttach 1 9 true) ∷ Tries (calls.SuffixAttach 1 []) ∷ Tries (calls.SuffixAttach 1 (replicate 33 97)) ∷ Tries (calls.Brecv 1 1048577 Never) ∷ Does (calls.PrefixAttach 1 1 true) ∷ Tries (calls.Msend 2 (replicate 256 97) Never) ∷ Tries (calls.Mrecv 2 1048577 Never) ∷ Tries (calls.TermAttach 2 (replicate 256 97)) ∷ Does (calls.TermAttach 2 (codes "a")) ∷ Tries (calls.Msend 3 (codes "a") Never) ∷ Tries (calls.TermAttach 3 (codes "a")) ∷ Does (calls.TermAttach 3 (codes "b")) ∷ Does (calls.TermAttach 4 (codes "c")) ∷ Does (calls.TermAttach 5 (codes "d")) ∷ Does (calls.TermAttach 6 (codes "e")) ∷ Does (calls.TermAttach 7 (codes "f")) ∷ Does (calls.TermAttach 8 (codes "g")) ∷ Tries (calls.TermAttach 9 (codes "h")) ∷ Tries (calls.PrefixAttach 9 2 true) ∷ [])

-- an end over SUFFIX
abbrev pub long_end : ℕ → List ℕ → Text
long_end = on_link (Does (calls.SuffixAttach 1 (codes "x")) ∷ Tries (calls.Msend 2 (codes "axb") Never) ∷ Tries (calls.TermAttach 2 (codes "x")) ∷ Tries (calls.TermAttach 2 (replicate 1025 97)) ∷ Does (calls.TermAttach 2 (replicate 1024 97)) ∷ [])

-- a client of WebSocket
abbrev pub wrong_texts : ℕ → List ℕ → Text
wrong_texts = on_link (Does (calls.WsAttachNohttp 1 true true) ∷ Tries (calls.Msend 2 (128 ∷ []) Never) ∷ Tries (calls.WsDetach 2 1005 [] Never) ∷ Tries (calls.WsDetach 2 0 (codes "x") Never) ∷ Tries (calls.WsDetach 2 1000 (replicate 124 97) Never) ∷ Tries (calls.WsDetach 2 1000 (128 ∷ []) Never) ∷ [])

-- What layers refuse of their own arguments and of messages.
pub record BoundsOfLayers : Type 0 where
  pub layers : prints (replayed (connected []) 60 eight_layers) (codes "1 start =0" ∷ codes "1 tcp_connect =1" ∷ codes "1 prefix_attach EINVAL" ∷ codes "1 prefix_attach EINVAL" ∷ codes "1 suffix_attach EINVAL" ∷ codes "1 suffix_attach EINVAL" ∷ codes "1 brecv EINVAL" ∷ codes "moved 1 2" ∷ codes "1 prefix_attach =2" ∷ codes "1 msend EMSGSIZE" ∷ codes "1 mrecv EINVAL" ∷ codes "1 term_attach EINVAL" ∷ codes "moved 2 3" ∷ codes "1 term_attach =3" ∷ codes "1 msend EINVAL" ∷ codes "1 term_attach EINVAL" ∷ codes "moved 3 4" ∷ codes "1 term_attach =4" ∷ codes "moved 4 5" ∷ codes "1 term_attach =5" ∷ codes "moved 5 6" ∷ codes "1 term_attach =6" ∷ codes "moved 6 7" ∷ codes "1 term_attach =7" ∷ codes "moved 7 8" ∷ codes "1 term_attach =8" ∷ codes "moved 8 9" ∷ codes "1 term_attach =9" ∷ codes "1 term_attach EINVAL" ∷ codes "1 prefix_attach ENOTSUP" ∷ codes "1 end ok" ∷ codes "freed 9" ∷ codes "summary status=0 errno=none turns=22 rounds=2 closing=0 made=9 gone=9 lacks=0" ∷ []) ≡ true
  pub ends : prints (replayed (connected []) 40 long_end) (codes "1 start =0" ∷ codes "1 tcp_connect =1" ∷ codes "moved 1 2" ∷ codes "1 suffix_attach =2" ∷ codes "1 msend EINVAL" ∷ codes "1 term_attach EINVAL" ∷ codes "1 term_attach EINVAL" ∷ codes "moved 2 3" ∷ codes "1 term_attach =3" ∷ codes "1 end ok" ∷ codes "freed 3" ∷ codes "summary status=0 errno=none turns=7 rounds=2 closing=0 made=3 gone=3 lacks=0" ∷ []) ≡ true
  pub texts : prints (replayed (connected []) 40 wrong_texts) (codes "1 start =0" ∷ codes "1 tcp_connect =1" ∷ codes "moved 1 2" ∷ codes "1 ws_attach_nohttp =2" ∷ codes "1 msend EINVAL" ∷ codes "1 ws_detach EINVAL" ∷ codes "1 ws_detach EINVAL" ∷ codes "1 ws_detach EINVAL" ∷ codes "1 ws_detach EINVAL" ∷ codes "1 end ok" ∷ codes "freed 2" ∷ codes "summary status=0 errno=none turns=8 rounds=2 closing=0 made=2 gone=2 lacks=0" ∷ []) ≡ true

abbrev pub many_clauses : ℕ → List ℕ → Text
many_clauses program args = plain 0 (Does calls.Chmake ∷ Tries (calls.Choose Never (replicate 17 (Recv 2 1))) ∷ Tries (calls.Choose (At 0) (replicate 16 (Recv 2 1))) ∷ Tries (calls.Chrecv 2 1048577 Never) ∷ Tries (calls.Chrecv 2 1048576 (At 0)) ∷ Tries (calls.TcpListen (place 9) 4097) ∷ [])

-- How many clauses, bytes and queued sides there may be.
pub record BoundsOfChannels : Type 0 where
  pub run : prints (played 40 many_clauses) (codes "1 start =0" ∷ codes "1 chmake =1,2" ∷ codes "1 choose EINVAL" ∷ codes "1 choose ETIMEDOUT" ∷ codes "1 chrecv EINVAL" ∷ codes "1 chrecv ETIMEDOUT" ∷ codes "1 tcp_listen EINVAL" ∷ codes "1 end ok" ∷ codes "freed 2" ∷ codes "freed 1" ∷ codes "summary status=0 errno=none turns=7 rounds=1 closing=0 made=2 gone=2 lacks=0" ∷ []) ≡ true
