-- The lines of a run, each with its LF.
use Rattle.std.specs.Prelude.{ℕ, ◌+◌, ◌/◌, ◌%◌, List, [], ◌∷◌, ◌++◌, length, Option, Some, None, Bool, if◌then◌else◌, nat_lt, codes, decimal}
use Rattle.dill_base.specs.declared.errno.Errno.{Errno}
use Rattle.dill_base.specs.Errnos.{errno_text}
use Rattle.dill_base.specs.Statuses.{code_of}
use Rattle.dill_calls.specs.declared.answer.Answer.{Answer}
use Rattle.dill_calls.specs.declared.answer.Answer.TheVariants as answers
use Rattle.dill_calls.specs.declared.ran.Ran.{Ran}
use Rattle.dill_calls.specs.declared.ran.Note.{Note}
use Rattle.dill_calls.specs.declared.ran.Note.TheVariants.{Moved, Freed}
use Rattle.dill_calls.specs.declared.word.Word.{Word}
use Rattle.dill_calls.specs.Words.{word_text}
use Rattle.relay_trace.specs.declared.summary.Summary.{Summary}

-- bytes and the LF that ends their line
abbrev pub line : List ℕ → List ℕ
line bytes = bytes ++ 10 ∷ []

-- a digit from 0 to f
abbrev pub hex_digit : ℕ → ℕ
hex_digit n = if nat_lt n 10 then 48 + n else 87 + n

-- two digits for each byte, in lower case
abbrev pub hex_of : List ℕ → List ℕ
hex_of [] = []
hex_of (byte ∷ bytes) = hex_digit (byte / 16) ∷ hex_digit (byte % 16) ∷ hex_of bytes

-- `#2:6869`
abbrev pub sized : List ℕ → List ℕ
sized bytes = codes "#" ++ decimal (length bytes) ++ codes ":" ++ hex_of bytes

-- what became of the clause that a choice took: its fault, a send, or the bytes that it received
abbrev pub clause_text : Option Errno → Option (List ℕ) → List ℕ
clause_text (Some errno) bytes = errno_text errno
clause_text None None = codes "=0"
clause_text None (Some bytes) = sized bytes

abbrev pub answer_text : Answer → List ℕ
answer_text (answers.Number n) = codes "=" ++ decimal n
answer_text (answers.Pair m n) = codes "=" ++ decimal m ++ codes "," ++ decimal n
answer_text (answers.Bytes bytes) = sized bytes
answer_text (answers.Two first second) = sized first ++ codes " " ++ sized second
answer_text (answers.Coded code bytes) = codes "=" ++ decimal code ++ codes " " ++ sized bytes
answer_text (answers.Chosen index fault bytes) = codes "@" ++ decimal index ++ codes " " ++ clause_text fault bytes
answer_text (answers.Fault errno) = errno_text errno

-- `1 msleep ECANCELED`
abbrev pub answer_line : ℕ → Word → Answer → List ℕ
answer_line who word given = line (decimal who ++ codes " " ++ word_text word ++ codes " " ++ answer_text given)

abbrev pub outcome_text : Option Errno → List ℕ
outcome_text None = codes "ok"
outcome_text (Some errno) = errno_text errno

-- `1 end ok`, where the program ended in this turn
abbrev pub end_line : ℕ → Option (Option Errno) → List ℕ
end_line who None = []
end_line who (Some outcome) = line (decimal who ++ codes " end " ++ outcome_text outcome)

-- the text of the `print` that was entered
abbrev pub text_line : Option (List ℕ) → List ℕ
text_line None = []
text_line (Some text) = line text

-- the lines of a turn in their order; without a trace the text alone
abbrev pub ran_bytes : Bool → Ran → List ℕ
ran_bytes traced ran = (if traced then answer_line ran.who ran.word ran.given ++ end_line ran.who ran.end else []) ++ text_line ran.text

abbrev pub note_line : Note → List ℕ
note_line (Moved old new) = line (codes "moved " ++ decimal old ++ codes " " ++ decimal new)
note_line (Freed number) = line (codes "freed " ++ decimal number)

abbrev pub waiting_line : ℕ → Word → List ℕ
waiting_line who word = line (codes "waiting " ++ decimal who ++ codes " " ++ word_text word)

abbrev pub fault_text : Option Errno → List ℕ
fault_text None = codes "none"
fault_text (Some errno) = errno_text errno

abbrev pub summary_line : Summary → List ℕ
summary_line sum = line (codes "summary status=" ++ decimal (code_of sum.status) ++ codes " errno=" ++ fault_text sum.errno
    ++ codes " turns=" ++ decimal sum.turns ++ codes " rounds=" ++ decimal sum.rounds ++ codes " closing=" ++ decimal sum.closing
    ++ codes " made=" ++ decimal sum.counts.made ++ codes " gone=" ++ decimal sum.counts.gone ++ codes " lacks=" ++ decimal sum.counts.lacks)
