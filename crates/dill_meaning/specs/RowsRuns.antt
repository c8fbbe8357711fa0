-- Runs of small programs: the moves that they make on the answers that they are given.
use Rattle.std.specs.Prelude.{◌≡◌, ℕ, List, [], ◌∷◌, ◌++◌, map, replicate, Some, None, Ok, Err, codes}
use Rattle.dill_base.specs.declared.deadline.Deadline.TheVariants.{Never, At, After}
use Rattle.dill_base.specs.declared.errno.Errno.TheVariants.{Ebadf, Ebusy, Ecanceled, Epipe, Eproto}
use Rattle.dill_calls.specs.declared.answer.Answer.{Answer}
use Rattle.dill_calls.specs.declared.answer.Answer.TheVariants.{Number, Pair, Bytes, Two, Coded, Chosen, Fault}
use Rattle.dill_calls.specs.declared.call.Call.TheVariants as calls
use Rattle.dill_calls.specs.declared.lists.Arg.TheVariants.{Show, Give}
use Rattle.dill_calls.specs.declared.lists.Clause.TheVariants.{Send, Recv}
use Rattle.dill_calls.specs.declared.word.Word.TheVariants as words
use Rattle.dill_calls.specs.Program.{Move, Calls, Ends}
use Rattle.dill_script.specs.Reading.{Reading, script_of}
use Rattle.dill_meaning.specs.Meaning.{next, short, left, said}
use Rattle.dill_meaning.specs.Views.{ScriptView, beginning, main_of}

-- the moves of a coroutine that is given these answers
abbrev pub moves : ScriptView → List Answer → List Move
moves view [] = []
moves view (answer ∷ rest) = let (after, move) = next view answer in move ∷ moves after rest

-- its views
abbrev pub views : ScriptView → List Answer → List ScriptView
views view [] = view ∷ []
views view (answer ∷ rest) = view ∷ views (next view answer).0 rest

-- `main` of what was read
abbrev pub main_in : Reading → ScriptView
main_in (Ok script) = main_of script
main_in (Err refusal) = main_of []

-- the program of that number, with these arguments
abbrev pub program_in : Reading → ℕ → List ℕ → ScriptView
program_in (Ok script) program args = beginning script program args
program_in (Err refusal) program args = main_of []

-- a text of the lines of `main`
abbrev pub body : List ℕ → ScriptView
body lines = main_in (script_of (codes "dill 1\nprogram main 0\n" ++ (lines ++ codes "\nend\n")))

-- the answer 0
abbrev pub zero_answer : Answer
zero_answer = Number 0

-- so many answers 0
abbrev pub zeros : ℕ → List Answer
zeros count = replicate count zero_answer

-- three rounds of a counted loop, with what is left before each turn
pub record LoopRows : Type 0 where
  pub counted : moves (body (codes "set n0 3\nloop n0\nmsleep +10\nend\nn1 = now\nprint n1")) (zeros 6 ++ Number 30 ∷ zero_answer ∷ []) ≡ Calls (calls.Msleep (After 10)) ∷ Calls calls.Yield ∷ Calls (calls.Msleep (After 10)) ∷ Calls calls.Yield ∷ Calls (calls.Msleep (After 10)) ∷ Calls calls.Now ∷ Calls (calls.Print (codes "30")) ∷ Ends None ∷ []
  pub counted_left : map left (views (body (codes "set n0 3\nloop n0\nmsleep +10\nend\nn1 = now\nprint n1")) (zeros 6 ++ Number 30 ∷ [])) ≡ 5 ∷ 4 ∷ 3 ∷ 4 ∷ 3 ∷ 4 ∷ 2 ∷ 1 ∷ []
  pub none : moves (body (codes "loop 0\nloop 5\nnow\nend\nend\nprint \"a\"")) (zeros 2) ≡ Calls (calls.Print (codes "a")) ∷ Ends None ∷ []
  pub empty_round : moves (body (codes "loop 2\nend")) (zeros 2) ≡ Calls calls.Yield ∷ Ends None ∷ []
  pub endless : moves (body (codes "loop\nend")) (zeros 3 ++ Fault Ecanceled ∷ []) ≡ Calls calls.Yield ∷ Calls calls.Yield ∷ Calls calls.Yield ∷ Ends (Some Ecanceled) ∷ []
  pub broken : moves (body (codes "loop\nadd n0 1\nif n0 = 2\nloop 1\nend\nbreak\nloop 3\nend\nend\nend\nprint n0")) (zeros 3) ≡ Calls calls.Yield ∷ Calls (calls.Print (codes "2")) ∷ Ends None ∷ []
  pub nested : moves (body (codes "loop 2\nloop 2\nnow\nend\nend")) (zeros 8) ≡ Calls calls.Now ∷ Calls calls.Yield ∷ Calls calls.Now ∷ Calls calls.Yield ∷ Calls calls.Now ∷ Calls calls.Yield ∷ Calls calls.Now ∷ Ends None ∷ []
  pub rounds_when_entered : moves (body (codes "set n0 2\nloop n0\nset n0 9\nend")) (zeros 2) ≡ Calls calls.Yield ∷ Ends None ∷ []

-- each condition, with and without `else`
pub record IfRows : Type 0 where
  pub yes : moves (body (codes "if n0 = 0\nnow\nelse\nyield\nend\nhown 1")) (zeros 3) ≡ Calls calls.Now ∷ Calls (calls.Hown 1) ∷ Ends None ∷ []
  pub otherwise : moves (body (codes "if n0 != 0\nif n0 = 0\nelse\nnow\nend\nelse\nyield\nend\nhown 1")) (zeros 3) ≡ Calls calls.Yield ∷ Calls (calls.Hown 1) ∷ Ends None ∷ []
  pub without_else : moves (body (codes "if n0 > 0\nif n0 = 0\nnow\nelse\nnow\nend\nend\nhown 1")) (zeros 2) ≡ Calls (calls.Hown 1) ∷ Ends None ∷ []
  pub bytes : moves (body (codes "set b1 \"ab\"\nset b2 \"ab\"\nif b1 = b2\nif b1 != \"a\"\nhown 1\nend\nend")) (zeros 4) ≡ Calls (calls.Pass words.Set None) ∷ Calls (calls.Pass words.Set None) ∷ Calls (calls.Hown 1) ∷ Ends None ∷ []
  pub errnos : moves (body (codes "if err none\ntry hown 1\nend\nif err EBADF\ntry hown 2\nend\nif err none\nhown 3\nend")) (zero_answer ∷ Fault Ebadf ∷ Number 5 ∷ []) ≡ Calls (calls.Hown 1) ∷ Calls (calls.Hown 2) ∷ Calls (calls.Hown 3) ∷ []
  pub other_errno : moves (body (codes "try hown 1\nif err EBADF\nhown 2\nend\nhown 3")) (zero_answer ∷ Fault Ebusy ∷ []) ≡ Calls (calls.Hown 1) ∷ Calls (calls.Hown 3) ∷ []

-- faults, `finally`, and the errno that a program ends with
pub record FaultRows : Type 0 where
  pub untried : moves (body (codes "hown 1\nnow")) (zero_answer ∷ Fault Ebadf ∷ []) ≡ Calls (calls.Hown 1) ∷ Ends (Some Ebadf) ∷ []
  pub in_finally : moves (body (codes "loop\nif n0 = 0\nhown 1\nend\nend\nfinally\ntry now\nnow\nnow")) (zero_answer ∷ Fault Ebadf ∷ Fault Ecanceled ∷ Fault Epipe ∷ []) ≡ Calls (calls.Hown 1) ∷ Calls calls.Now ∷ Calls calls.Now ∷ Ends (Some Ebadf) ∷ []
  pub fallen_into : moves (body (codes "now\nfinally\nyield\nnow")) (zero_answer ∷ zero_answer ∷ Fault Ecanceled ∷ []) ≡ Calls calls.Now ∷ Calls calls.Yield ∷ Ends (Some Ecanceled) ∷ []
  pub returned : moves (body (codes "if n0 = 0\nreturn\nend\nnow\nfinally\nyield")) (zeros 2) ≡ Calls calls.Yield ∷ Ends None ∷ []
  pub returned_then_fault : moves (body (codes "return\nfinally\nyield\nnow")) (zero_answer ∷ Fault Ecanceled ∷ []) ≡ Calls calls.Yield ∷ Ends (Some Ecanceled) ∷ []
  pub failed : moves (body (codes "loop 3\nfail EPROTO\nend\nfinally\nyield")) (zero_answer ∷ Fault Ecanceled ∷ []) ≡ Calls calls.Yield ∷ Ends (Some Eproto) ∷ []
  pub err_stays : moves (body (codes "try hown 1\nhown 2\nfinally\nif err EBUSY\nnow\nend")) (zero_answer ∷ Fault Ebusy ∷ Fault Ebadf ∷ zero_answer ∷ []) ≡ Calls (calls.Hown 1) ∷ Calls (calls.Hown 2) ∷ Calls calls.Now ∷ Ends (Some Ebadf) ∷ []
  pub cancelled_twice : moves (body (codes "msleep -1\nfinally\ntry msleep -1")) (zero_answer ∷ Fault Ecanceled ∷ Fault Ecanceled ∷ []) ≡ Calls (calls.Msleep Never) ∷ Calls (calls.Msleep Never) ∷ Ends (Some Ecanceled) ∷ []

-- numbers at their bounds
pub record NumberRows : Type 0 where
  pub sums : moves (body (codes "set n0 9223372036854775807\nadd n0 5\nsub n1 7\nset n2 9\nsub n2 n3\nadd n2 1\nset b15 \"abc\"\nlen n4 b15\nprint n0 \" \" n1 \" \" n2 \" \" n4 b15")) (zeros 2) ≡ Calls (calls.Pass words.Set None) ∷ Calls (calls.Print (codes "9223372036854775807 0 10 3abc")) ∷ []
  pub up_to_the_greatest : moves (body (codes "set n0 9223372036854775806\nadd n0 1\nset n1 n0\nadd n1 1\nprint n0 \" \" n1")) (zeros 1) ≡ Calls (calls.Print (codes "9223372036854775807 9223372036854775807")) ∷ []
  pub greater_before : moves (body (codes "n0 = now\nadd n0 0\nprint n0")) (zero_answer ∷ Number 18446744073709551615 ∷ []) ≡ Calls calls.Now ∷ Calls (calls.Print (codes "9223372036854775807")) ∷ []
  pub moments : moves (body (codes "set n0 5\nmsleep n0\nmsleep +n0\nmsleep 0\nmsleep -1")) (zeros 4) ≡ Calls (calls.Msleep (At 5)) ∷ Calls (calls.Msleep (After 5)) ∷ Calls (calls.Msleep (At 0)) ∷ Calls (calls.Msleep Never) ∷ []

-- where answers are put
pub record AnswerRows : Type 0 where
  pub pair : moves (body (codes "n0 n1 = chmake\nn2 n2 = chmake\nprint n0 n1 n2")) (zero_answer ∷ Pair 1 2 ∷ Pair 3 4 ∷ []) ≡ Calls calls.Chmake ∷ Calls calls.Chmake ∷ Calls (calls.Print (codes "124")) ∷ []
  pub bytes : moves (body (codes "b0 = brecv 1 2 -1\nb1 b2 = http_recvfield 1 -1\nn1 b3 = http_recvstatus 1 -1\nprint b0 b1 b2 n1 b3")) (zero_answer ∷ Bytes (codes "x") ∷ Two (codes "y") (codes "z") ∷ Coded 200 (codes "OK") ∷ []) ≡ Calls (calls.Brecv 1 2 Never) ∷ Calls (calls.HttpRecvfield 1 Never) ∷ Calls (calls.HttpRecvstatus 1 Never) ∷ Calls (calls.Print (codes "xyz200OK")) ∷ []
  pub chosen : moves (body (codes "n6 b0 = choose -1 recv 3 1 recv 2 1\nprint n6 b0")) (zero_answer ∷ Chosen 0 None (Some (codes "x")) ∷ []) ≡ Calls (calls.Choose Never (Recv 3 1 ∷ Recv 2 1 ∷ [])) ∷ Calls (calls.Print (codes "0x")) ∷ []
  pub chosen_fault : moves (body (codes "set b0 \"q\"\ntry n6 b0 = choose -1 send 3 \"m\" recv 2 1\nprint n6 b0\nif err EPIPE\nnow\nend")) (zero_answer ∷ zero_answer ∷ Chosen 1 (Some Epipe) None ∷ zero_answer ∷ []) ≡ Calls (calls.Pass words.Set None) ∷ Calls (calls.Choose Never (Send 3 (codes "m") ∷ Recv 2 1 ∷ [])) ∷ Calls (calls.Print (codes "1q")) ∷ Calls calls.Now ∷ []
  pub chosen_untried : moves (body (codes "n6 b0 = choose -1 send 3 \"m\"\nfinally\nprint n6")) (zero_answer ∷ Chosen 7 (Some Epipe) None ∷ zero_answer ∷ []) ≡ Calls (calls.Choose Never (Send 3 (codes "m") ∷ [])) ∷ Calls (calls.Print (codes "7")) ∷ Ends (Some Epipe) ∷ []
  pub fault_puts_nothing : moves (body (codes "set n0 8\ntry n0 = hown 1\nprint n0")) (zero_answer ∷ Fault Ebadf ∷ []) ≡ Calls (calls.Hown 1) ∷ Calls (calls.Print (codes "8")) ∷ []

-- bytes that are kept, and where memory for that was refused
pub record KeepRows : Type 0 where
  pub joined : moves (body (codes "set b0 \"ab\"\njoin b0 b0\njoin b0 \"c\"\nprint b0")) (zeros 4) ≡ Calls (calls.Pass words.Set None) ∷ Calls (calls.Pass words.Join None) ∷ Calls (calls.Pass words.Join None) ∷ Calls (calls.Print (codes "ababc")) ∷ []
  pub refused : moves (short (next (body (codes "set b0 \"ab\"\njoin b0 \"c\"\nfinally\nprint b0")) zero_answer).0 zero_answer) (Fault Ecanceled ∷ zero_answer ∷ []) ≡ Calls (calls.Print (codes "ab")) ∷ Ends (Some Ecanceled) ∷ []
  pub words_said : map said (views (body (codes "loop 2\nset b0 \"\"\njoin b0 \"\"\nend\nhown 1")) (zeros 5)) ≡ words.Start ∷ words.Set ∷ words.Join ∷ words.Yield ∷ words.Set ∷ words.Join ∷ []

-- programs that start others
pub record StartRows : Type 0 where
  pub starts : moves (main_in (script_of (codes "dill 1\nprogram a 2\nprint n0 n1 n2\nend\nprogram main 0\nset n3 4\nn5 = go a 7 give n3\nbundle_go n5 a n3 8\nend\n"))) (zero_answer ∷ Number 6 ∷ zero_answer ∷ []) ≡ Calls (calls.Go 0 (Show 7 ∷ Give 4 ∷ [])) ∷ Calls (calls.BundleGo 6 0 (Show 4 ∷ Show 8 ∷ [])) ∷ Ends None ∷ []
  pub started : moves (program_in (script_of (codes "dill 1\nprogram a 2\nprint n0 n1 n2\nend\nprogram main 0\nend\n")) 0 (7 ∷ 4 ∷ [])) (zeros 2) ≡ Calls (calls.Print (codes "740")) ∷ Ends None ∷ []
  pub nothing_to_do : moves (body (codes "# nothing")) (zeros 1) ≡ Ends None ∷ []
  pub nothing_left : map left (views (body (codes "# nothing")) []) ≡ 1 ∷ []
