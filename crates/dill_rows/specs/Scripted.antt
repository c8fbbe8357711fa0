-- Scripts run whole, from their text to what they print: read, given their meaning, and played by the rules.
use Rattle.std.specs.Prelude.{◌≡◌, ℕ, List, [], ◌∷◌, ◌&&◌, Bool, true, false, None, codes, bytes_eq}
use Rattle.dill_kernel.specs.declared.replies.KernelReply.{KernelReply}
use Rattle.dill_kernel.specs.declared.replies.KernelReply.TheVariants.{Came}
use Rattle.dill_loop.specs.Network.{opening as opening_net}
use Rattle.dill_script.specs.Reading.{script_of}
use Rattle.dill_meaning.specs.Meaning.{scripts, knows}
use Rattle.dill_meaning.specs.RowsRuns.{main_in}
use Rattle.dill_meaning.specs.Views.{ScriptView}
use Rattle.dill_drive.specs.ByRules.{machine_of}
use Rattle.dill_drive.specs.Play.{Playing, play, opening}
use Rattle.dill_rules.specs.State.{State, opening_state}
use Rattle.dill_rows.specs.Bundles.{sleepers, sleeper, renumbers, closed_whole}
use Rattle.dill_rows.specs.Channels.{unequal, chooses, two_choices}
use Rattle.dill_rows.specs.Closing.{own_bundle, crossed, nested, closes_nothing, keeps_handle, owns_its_bundle, sleeper_and_yielder}
use Rattle.dill_rows.specs.Connecting.{over}
use Rattle.dill_rows.specs.Play.{Text, Play}
use Rattle.dill_rows.specs.Playing.{zeros, idle, connected, played, looped, loop_net}
use Rattle.dill_rows.specs.Runs.{Run, Outside, clock, listed, run_within, begun, is_settled, prints, text}
use Rattle.dill_rows.specs.Sockets.{detaches, accepts}

-- so many steps of the story of the script of these bytes, from what `main` is before its first turn
abbrev pub script_story : Bool → ℕ → ℕ → List KernelReply → List ℕ → Playing (State ScriptView)
script_story traced most steps replies bytes =
    play (machine_of scripts) traced most steps (opening (machine_of scripts) traced most (opening_state (main_in (script_of bytes)) zeros) zeros replies [] None)

-- the script of these lines prints these
abbrev pub prints_in : Bool → ℕ → ℕ → List KernelReply → List ℕ → List (List ℕ) → Bool
prints_in traced most steps replies bytes lines = bytes_eq (script_story traced most steps replies bytes).bytes (text lines)

abbrev pub two_prints : List ℕ
two_prints = codes "dill 1\nprogram main 0\nprint \"hello\"\nprint \"bye\"\nend\n"

abbrev pub counted_sleeps : List ℕ
counted_sleeps = codes "dill 1\nprogram main 0\nset n0 3\nloop n0\nmsleep +10\nend\nn1 = now\nprint n1\nend\n"

-- Scripts without children, in both modes and with two budgets.
pub record ScriptsRun : Type 0 where
  pub prints : prints_in false 1000000000 40 (idle 0 ∷ []) two_prints (codes "hello" ∷ codes "bye" ∷ codes "summary status=0 errno=none turns=3 rounds=1 closing=0 made=0 gone=0 lacks=0" ∷ []) ≡ true
  pub prints_traced : prints_in true 1000000000 40 (idle 0 ∷ []) two_prints (codes "1 start =0" ∷ codes "hello" ∷ codes "1 print =0" ∷ codes "bye" ∷ codes "1 print =0" ∷ codes "1 end ok" ∷ codes "summary status=0 errno=none turns=3 rounds=1 closing=0 made=0 gone=0 lacks=0" ∷ []) ≡ true
  pub sleeps : prints_in false 1000000000 80 (idle 0 ∷ idle 10 ∷ idle 20 ∷ idle 30 ∷ []) counted_sleeps (codes "30" ∷ codes "summary status=0 errno=none turns=8 rounds=4 closing=0 made=0 gone=0 lacks=0" ∷ []) ≡ true
  pub sleeps_spent : prints_in false 5 80 (idle 0 ∷ idle 10 ∷ []) counted_sleeps (codes "summary status=7 errno=none turns=3 rounds=2 closing=1 made=0 gone=0 lacks=0" ∷ []) ≡ true

-- so many steps of a script of these bytes over a kernel that is a function
abbrev pub script_run : {N : Type 0} → Outside N → N → Bool → ℕ → List ℕ → Run ScriptView N
script_run outside net traced steps bytes = run_within scripts outside traced 1000000000 steps (begun (main_in (script_of bytes)) zeros net)

-- both print the same and ask the same
abbrev pub is_alike : {N : Type 0} → Run ScriptView N → Run Play N → Bool
is_alike r other = is_settled r && (bytes_eq r.out other.out && bytes_eq r.asks other.asks)

-- the script does what the worked run of this table does, whose lines are shown beside that
abbrev pub plays_as : List ℕ → ℕ → (ℕ → List ℕ → Text) → Bool
plays_as bytes steps table = is_alike (script_run clock 0 true steps bytes) (played steps table)

abbrev pub deadlines : List ℕ
deadlines = codes "dill 1\nprogram s 2\nmsleep n0\nmsleep 50\nprint n1\nend\nprogram main 0\nn0 = bundle\nbundle_go n0 s 30 1\nbundle_go n0 s 20 2\nbundle_go n0 s 10 3\nbundle_wait n0 -1\nend\n"

abbrev pub renumbers_script : List ℕ
renumbers_script = codes "dill 1\nprogram main 0\nn0 = hmake 256 7\nn1 = hown n0\ntry hquery n0 256\nn2 = hquery n1 256\nhclose n1\nend\n"

abbrev pub whole_bundle : List ℕ
whole_bundle = codes "dill 1\nprogram a 0\nmsleep -1\nend\nprogram r 1\nchrecv n0 1 -1\nend\nprogram y 0\nloop\nend\nend\nprogram main 0\nn0 = bundle\nn1 n2 = chmake\nbundle_go n0 a\nbundle_go n0 r n1\nbundle_go n0 y\nhclose n0\nend\n"

abbrev pub crossed_script : List ℕ
crossed_script = codes "dill 1\nprogram k 1\ntry hclose n0\nend\nprogram main 0\nn0 = bundle\nn1 = bundle\nbundle_go n0 k n1\nbundle_go n1 k n0\nbundle_wait n0 -1\nend\n"

abbrev pub nested_script : List ℕ
nested_script = codes "dill 1\nprogram leaf 0\nmsleep -1\nfinally\ntry msleep -1\nend\nprogram mid 0\nn0 = go leaf\nhclose n0\nend\nprogram main 0\nn0 = go mid\nyield\nyield\nhclose n0\nend\n"

abbrev pub unequal_script : List ℕ
unequal_script = codes "dill 1\nprogram s 1\ntry chsend n0 \"abc\" -1\ntry chdone n0\nend\nprogram main 0\nn0 n1 = chmake\nn2 = go s n0\ntry chrecv n1 4 -1\ntry chrecv n1 4 -1\nend\n"

abbrev pub choosing : List ℕ
choosing = codes "dill 1\nprogram s 1\nchsend n0 \"x\" -1\nend\nprogram main 0\nn0 n1 = chmake\nn2 n3 = chmake\ntry choose 0\ntry choose 0 recv n1 1 recv n3 1\nn4 = go s n0\nn5 = go s n2\nyield\nn6 b0 = choose -1 recv n3 1 recv n1 1\nprint n6 b0\nend\n"

abbrev pub choosing_both : List ℕ
choosing_both = codes "dill 1\nprogram w 2\nchoose -1 recv n0 1 recv n1 1\nend\nprogram main 0\nn0 n1 = chmake\nn2 n3 = chmake\nn4 = go w n1 n3\nyield\nchoose -1 send n2 \"b\" send n0 \"a\"\nend\n"

abbrev pub dead_number : List ℕ
dead_number = codes "dill 1\nprogram main 0\nhclose 9\nend\n"

abbrev pub sleeping : List ℕ
sleeping = codes "dill 1\nprogram main 0\nmsleep -1\nend\n"

abbrev pub own_bundle_script : List ℕ
own_bundle_script = codes "dill 1\nprogram k 1\ntry hclose n0\nend\nprogram main 0\nn0 = bundle\nbundle_go n0 k n0\nbundle_wait n0 -1\nend\n"

abbrev pub keeps_handle_script : List ℕ
keeps_handle_script = codes "dill 1\nprogram main 0\nn0 = hmake 256 7\nn1 = hown n0\ntry hquery n0 256\nn2 = hquery n1 256\nend\n"

abbrev pub owns_its_bundle_script : List ℕ
owns_its_bundle_script = codes "dill 1\nprogram k 1\ntry n1 = hown n0\nend\nprogram main 0\nn0 = bundle\nbundle_go n0 k n0\nbundle_wait n0 -1\nend\n"

abbrev pub sleeper_and_yielder_script : List ℕ
sleeper_and_yielder_script = codes "dill 1\nprogram a 0\nmsleep -1\nend\nprogram y 0\nloop\nend\nend\nprogram main 0\nn0 = bundle\nbundle_go n0 a\nbundle_go n0 y\nhclose n0\nend\n"

-- two programs, and one that has the name of the second but another number of arguments
abbrev pub two_programs : List ℕ
two_programs = codes "dill 1\nprogram main 0\nend\nprogram k 2\nend\n"

abbrev pub two_others : List ℕ
two_others = codes "dill 1\nprogram main 0\nend\nprogram k 1\nend\n"

-- A coroutine knows the programs of its own script.
pub record KnowsItsOwn : Type 0 where
  pub known : knows (main_in (script_of two_programs)) 1 2 ≡ true
  pub of_another_script : knows (main_in (script_of two_others)) 1 2 ≡ false
  pub beyond : knows (main_in (script_of two_programs)) 2 0 ≡ false

-- Scripts whose programs start others, end in `finally`, close, own, send and choose.
pub record ScriptsPlay : Type 0 where
  pub equal_deadlines : plays_as deadlines 80 sleepers ≡ true
  pub renumbered : plays_as renumbers_script 40 (renumbers 256) ≡ true
  pub closed : plays_as whole_bundle 40 closed_whole ≡ true
  pub crossed_gifts : plays_as crossed_script 40 crossed ≡ true
  pub nested_close : plays_as nested_script 40 nested ≡ true
  pub unequal_sizes : plays_as unequal_script 40 unequal ≡ true
  pub chosen : plays_as choosing 60 chooses ≡ true
  pub choices_meet : plays_as choosing_both 40 two_choices ≡ true
  pub fault : plays_as dead_number 20 closes_nothing ≡ true
  pub stuck : plays_as sleeping 20 sleeper ≡ true
  pub own_bundle : plays_as own_bundle_script 30 own_bundle ≡ true
  pub renumbered_without_close : plays_as keeps_handle_script 30 keeps_handle ≡ true
  pub own_bundle_without_close : plays_as owns_its_bundle_script 30 owns_its_bundle ≡ true
  pub sleeper_closed : plays_as sleeper_and_yielder_script 40 sleeper_and_yielder ≡ true

abbrev pub receiving : List ℕ
receiving = codes "dill 1\nprogram main 0\nn0 = tcp_connect 127.0.0.1:9 -1\nb0 = brecv n0 3 -1\nprint b0\nend\n"

abbrev pub accepting : List ℕ
accepting = codes "dill 1\nprogram main 0\nn0 = tcp_listen 127.0.0.1:7000 1\ntcp_accept n0 -1\nend\n"

abbrev pub detaching : List ℕ
detaching = codes "dill 1\nprogram d 1\nn1 = prefix_attach n0 2 big\nn1 = term_attach n1 \"\"\ntry n2 = term_detach n1 -1\ntry hclose n1\nend\nprogram main 0\nn0 = tcp_listen 127.0.0.1:7000 1\nn1 = tcp_connect 127.0.0.1:7000 -1\nn2 = go d give n1\nmsleep 10\nhclose n2\nend\n"

abbrev pub load_of_three : List ℕ
load_of_three = codes "dill 1\nprogram server 1\nloop 3\nn1 = tcp_accept n0 -1\nn1 = prefix_attach n1 2 big\nb0 = mrecv n1 64 -1\nmsend n1 b0 -1\nhclose n1\nend\nend\nprogram main 0\nn0 = tcp_listen 127.0.0.1:7000 16\nn1 = go server give n0\nloop 3\nn2 = tcp_connect 127.0.0.1:7000 -1\nn2 = prefix_attach n2 2 big\nmsend n2 \"hello\" -1\nb0 = mrecv n2 64 -1\nhclose n2\nend\nbundle_wait n1 -1\nend\n"

abbrev pub relaying : List ℕ
relaying = codes "dill 1\nprogram up 1\nloop 3\nn1 = tcp_accept n0 -1\nn1 = ws_attach_server n1 text +1000\nb0 = mrecv n1 65536 +1000\nmsend n1 b0 +1000\nhclose n1\nend\nend\nprogram relay 1\nloop 3\nn1 = tcp_accept n0 -1\nn1 = prefix_attach n1 2 big\nn2 = tcp_connect 127.0.0.1:7002 +1000\nn2 = ws_attach_client n2 text \"/\" \"127.0.0.1:7002\" +1000\nb0 = mrecv n1 65536 +1000\nmsend n2 b0 +1000\nb0 = mrecv n2 65536 +1000\nmsend n1 b0 +1000\nhclose n2\nhclose n1\nend\nend\nprogram main 0\nn0 = tcp_listen 127.0.0.1:7001 16\nn1 = tcp_listen 127.0.0.1:7002 16\nn2 = go up give n1\nn3 = go relay give n0\nloop 3\nn4 = tcp_connect 127.0.0.1:7001 +1000\nn4 = prefix_attach n4 2 big\nmsend n4 \"hi\" +1000\nb0 = mrecv n4 65536 +1000\nprint b0\nhclose n4\nend\nbundle_wait n2 -1\nbundle_wait n3 -1\nend\n"

-- Scripts with links: over listed replies, and over the network in memory.
pub record ScriptsOverLinks : Type 0 where
  pub connection : is_alike (script_run listed (connected (idle 0 ∷ Came (codes "ab") ∷ idle 0 ∷ Came (codes "cd") ∷ [])) true 40 receiving) (over (connected (idle 0 ∷ Came (codes "ab") ∷ idle 0 ∷ Came (codes "cd") ∷ []))) ≡ true
  pub detach : is_alike (script_run loop_net (opening_net 4096) true 80 detaching) (looped true 1000000000 80 detaches) ≡ true
  pub wait_fails : is_alike (script_run loop_net (opening_net 4096) true 40 accepting) (looped true 1000000000 40 accepts) ≡ true
  pub load : prints (script_run loop_net (opening_net 4096) false 300 load_of_three) (codes "summary status=0 errno=none turns=39 rounds=11 closing=0 made=15 gone=15 lacks=0" ∷ []) ≡ true
  pub relay : prints (script_run loop_net (opening_net 4096) false 700 relaying) (codes "hi" ∷ codes "hi" ∷ codes "hi" ∷ codes "summary status=0 errno=none turns=78 rounds=44 closing=0 made=30 gone=30 lacks=0" ∷ []) ≡ true
