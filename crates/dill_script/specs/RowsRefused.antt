-- Texts that are refused, with the line and the reason that is told.
use Rattle.std.specs.Prelude.{◌≡◌, ℕ, zero, suc, ◌+◌, flat_map, decimal, replicate, is_ok, List, [], ◌∷◌, ◌++◌, Err, Bool, true, false, codes}
use Rattle.dill_calls.specs.declared.word.Word.{Word}
use Rattle.dill_calls.specs.declared.word.Word.TheVariants as words
use Rattle.dill_script.specs.declared.refusal.Reason.{Reason}
use Rattle.dill_script.specs.declared.refusal.Reason.TheVariants.{NoVersion, BadByte, BadText, UnknownWord, NotBuilt, BadBlock, BadOperand, RepeatedName, TooLarge, NoProgram, NoMain}
use Rattle.dill_script.specs.declared.line.Block.TheVariants.{Program}
use Rattle.dill_script.specs.declared.statement.Statement.TheVariants.{EndLoop}
use Rattle.dill_script.specs.Contexts.{Context}
use Rattle.dill_script.specs.Reading.{script_of, script_with, judged}
use Rattle.dill_script.specs.RowsReading.{PrintsBack}

-- the text is refused at this line for this reason
abbrev pub Refused : List ℕ → ℕ → Reason → Type 0
Refused text line reason = script_of text ≡ Err (line, reason)

-- bytes, texts and tokens that a line may not have
pub record TokenRows : Type 0 where
  pub text_without_end : Refused (codes "dill 1\nprogram main 0\nprint \"a\nend\n") 3 BadText
  pub other_escape : Refused (codes "dill 1\nprogram main 0\nprint \"\\q\"\nend\n") 3 BadText
  pub half_an_escape : Refused (codes "dill 1\nprogram main 0\nprint \"\\x4\"\nend\n") 3 BadText
  pub text_before_a_word : Refused (codes "dill 1\nprogram main 0\nprint \"a\"b\nend\n") 3 BadText
  pub unknown : Refused (codes "dill 1\nprogram main 0\nfoo\nend\n") 3 UnknownWord
  pub no_word : Refused (codes "dill 1\nprogram main 0\ntry\nend\n") 3 UnknownWord
  pub try_behind_registers : Refused (codes "dill 1\nprogram main 0\nn0 = try now\nend\n") 3 UnknownWord
  pub nothing_behind_equals : Refused (codes "dill 1\nprogram main 0\nn0 =\nend\n") 3 UnknownWord
  pub no_register_before_equals : Refused (codes "dill 1\nprogram main 0\n= now\nend\n") 3 UnknownWord
  pub start_is_no_word : Refused (codes "dill 1\nprogram main 0\nstart\nend\n") 3 UnknownWord
  pub second_version : Refused (codes "dill 1\nprogram main 0\ndill 1\nend\n") 3 UnknownWord
  pub word_is_a_text : Refused (codes "dill 1\nprogram main 0\n\"now\"\nend\n") 3 UnknownWord

-- lines in a wrong place
pub record PlaceRows : Type 0 where
  pub program_in_a_program : Refused (codes "dill 1\nprogram main 0\nprogram b 0\nend\n") 3 BadBlock
  pub else_without_if : Refused (codes "dill 1\nprogram main 0\nelse\nend\n") 3 BadBlock
  pub second_else : Refused (codes "dill 1\nprogram main 0\nif n0 = 0\nelse\nelse\nend\nend\n") 5 BadBlock
  pub end_outside : Refused (codes "dill 1\nprogram main 0\nnow\nend\nend\n") 5 BadBlock
  pub finally_in_if : Refused (codes "dill 1\nprogram main 0\nif n0 = 0\nfinally\nend\nend\n") 4 BadBlock
  pub second_finally : Refused (codes "dill 1\nprogram main 0\nfinally\nfinally\nend\n") 4 BadBlock
  pub break_outside_a_loop : Refused (codes "dill 1\nprogram main 0\nbreak\nend\n") 3 BadBlock
  pub return_behind_finally : Refused (codes "dill 1\nprogram main 0\nfinally\nreturn\nend\n") 4 BadBlock
  pub fail_behind_finally : Refused (codes "dill 1\nprogram main 0\nfinally\nif n0 = 0\nfail EPIPE\nend\nend\n") 5 BadBlock
  pub loop_behind_finally : Refused (codes "dill 1\nprogram main 0\nfinally\nloop\nend\nend\n") 4 BadBlock
  pub statement_outside : Refused (codes "dill 1\nnow\n") 2 BadBlock
  pub open_at_the_last_line : Refused (codes "dill 1\nprogram main 0\nnow\n") 3 BadBlock
  pub last_line_is_blank : Refused (codes "dill 1\nprogram main 0\nnow\n\n# end\n") 5 BadBlock

-- last lines: a block that is open behind one is told before what is wrong with its operands, and behind what is wrong with its keyword
pub record LastRows : Type 0 where
  pub operand_in_an_open_program : Refused (codes "dill 1\nprogram main 0\nnow 5") 3 BadBlock
  pub word_in_an_open_program : Refused (codes "dill 1\nprogram main 0\nfoo\n") 3 UnknownWord
  pub try_alone : Refused (codes "dill 1\nprogram main 0\ntry") 3 UnknownWord
  pub program : Refused (codes "dill 1\nprogram main 0") 2 BadBlock
  pub program_without_parameters : Refused (codes "dill 1\nprogram p") 2 BadBlock
  pub main_with_a_parameter : Refused (codes "dill 1\nprogram main 1\n") 2 BadBlock
  pub operand_of_the_last_end : Refused (codes "dill 1\nprogram main 0\nend 5") 3 BadOperand
  pub operand_of_an_inner_end : Refused (codes "dill 1\nprogram main 0\nif n0 = 0\nend 5\n") 4 BadBlock
  pub operand_of_an_end_outside : Refused (codes "dill 1\nend 5") 2 BadBlock
  pub return_alone : Refused (codes "dill 1\nprogram main 0\nnow\n" ++ 13 ∷ []) 4 BadBlock

-- operands that do not fit
pub record OperandRows : Type 0 where
  pub operand_of_an_end : Refused (codes "dill 1\nprogram main 0\nend 5\nend\n") 3 BadOperand
  pub program_without_parameters : Refused (codes "dill 1\nprogram p\nend\n") 2 BadOperand
  pub one_too_many : Refused (codes "dill 1\nprogram main 0\nnow 5\nend\n") 3 BadOperand
  pub one_too_few : Refused (codes "dill 1\nprogram main 0\nmsleep\nend\n") 3 BadOperand
  pub try_without_a_call : Refused (codes "dill 1\nprogram main 0\ntry set n0 1\nend\n") 3 BadOperand
  pub try_of_an_end : Refused (codes "dill 1\nprogram main 0\ntry end\nend\n") 3 BadOperand
  pub registers_of_no_call : Refused (codes "dill 1\nprogram main 0\nn0 = set b0 \"a\"\nend\n") 3 BadOperand
  pub register_of_the_other_sort : Refused (codes "dill 1\nprogram main 0\nb0 = now\nend\n") 3 BadOperand
  pub seventeenth_register : Refused (codes "dill 1\nprogram main 0\nset n16 0\nend\n") 3 BadOperand
  pub needless_zero : Refused (codes "dill 1\nprogram main 0\nset n0 01\nend\n") 3 BadOperand
  pub greater_than_all : Refused (codes "dill 1\nprogram main 0\nset n0 9223372036854775808\nend\n") 3 BadOperand
  pub number_among_items : Refused (codes "dill 1\nprogram main 0\nprint 5\nend\n") 3 BadOperand
  pub nothing_to_print : Refused (codes "dill 1\nprogram main 0\nprint\nend\n") 3 BadOperand
  pub seventeen_items : Refused (codes "dill 1\nprogram main 0\nprint n0 n0 n0 n0 n0 n0 n0 n0 n0 n0 n0 n0 n0 n0 n0 n0 n0\nend\n") 3 BadOperand
  pub number_of_256 : Refused (codes "dill 1\nprogram main 0\nn0 = tcp_listen 127.0.0.256:7000 1\nend\n") 3 BadOperand
  pub port_0 : Refused (codes "dill 1\nprogram main 0\nn0 = tcp_listen 127.0.0.1:0 1\nend\n") 3 BadOperand
  pub gift_that_is_no_register : Refused (codes "dill 1\nprogram main 0\ngo main give 5\nend\n") 3 BadOperand
  pub unknown_errno : Refused (codes "dill 1\nprogram main 0\nfail EAGAIN\nend\n") 3 BadOperand
  pub blank_behind_plus : Refused (codes "dill 1\nprogram main 0\nmsleep + 10\nend\n") 3 BadOperand
  pub main_with_a_parameter : Refused (codes "dill 1\nprogram main 1\nend\n") 2 BadOperand
  pub upper_case_name : Refused (codes "dill 1\nprogram Main 0\nend\n") 2 BadOperand
  pub seventeen_parameters : Refused (codes "dill 1\nprogram p 17\nend\n") 2 BadOperand

-- versions, names and limits
pub record WholeRows : Type 0 where
  pub version_before_bad_text : Refused (codes "dill 2 \"a\n") 1 NoVersion
  pub version_behind_comments : Refused (codes "\n# a\ndill 1 1\n") 3 NoVersion
  pub only_comments : Refused (codes "# a\n# b\n") 1 NoVersion
  pub again : Refused (codes "dill 1\nprogram a 0\nend\nprogram a 1\nend\n") 4 RepeatedName
  pub not_there : Refused (codes "dill 1\nprogram main 0\nnow\ngo x\nend\n") 4 NoProgram
  pub one_argument_more : Refused (codes "dill 1\nprogram main 0\nn0 = go main 1\nend\n") 3 NoProgram
  pub argument_missing : Refused (codes "dill 1\nprogram main 0\ngo s 1\nbundle_go 1 s\nend\nprogram s 1\nend\n") 4 NoProgram
  pub no_program_before_no_main : Refused (codes "dill 1\nprogram a 0\ngo b\nend\n") 3 NoProgram
  pub main_missing : Refused (codes "dill 1\nprogram a 0\nend\n") 1 NoMain
  pub five_loops : Refused (codes "dill 1\nprogram main 0\nloop\nloop\nloop\nloop\nloop\nend\nend\nend\nend\nend\nend\n") 7 TooLarge
  pub sixteen_of_both : Refused (codes "dill 1\nprogram main 0\nloop\nloop\nloop\nloop\nif n0 = 0\nif n0 = 0\nif n0 = 0\nif n0 = 0\nif n0 = 0\nif n0 = 0\nif n0 = 0\nif n0 = 0\nif n0 = 0\nif n0 = 0\nif n0 = 0\nif n0 = 0\nend\nend\nend\nend\nend\nend\nend\nend\nend\nend\nend\nend\nend\nend\nend\nend\nend\n") 18 TooLarge
  pub sixteen_ifs : Refused (codes "dill 1\nprogram main 0\nif n0 = 0\nif n0 = 0\nif n0 = 0\nif n0 = 0\nif n0 = 0\nif n0 = 0\nif n0 = 0\nif n0 = 0\nif n0 = 0\nif n0 = 0\nif n0 = 0\nif n0 = 0\nif n0 = 0\nif n0 = 0\nif n0 = 0\nif n0 = 0\nend\nend\nend\nend\nend\nend\nend\nend\nend\nend\nend\nend\nend\nend\nend\nend\nend\n") 18 TooLarge

-- bytes that may not stand in a line, and a CR where it may
pub record ByteRows : Type 0 where
  pub control : Refused (codes "dill 1\nprogram main 0\nprint \"" ++ 1 ∷ codes "\n\nend\n") 3 BadByte
  pub carriage_return : Refused (codes "dill 1\nprogram main 0\n" ++ 13 ∷ codes " now\nend\n") 3 BadByte
  pub in_a_comment : Refused (codes "dill 1\nprogram main 0\nnow # " ++ 128 ∷ codes "\nend\n") 3 BadByte
  pub behind_the_version : Refused (codes "dill 1 # " ++ 128 ∷ codes "\nend\n") 1 BadByte
  pub comment_before_the_version : Refused (codes "# " ++ 128 ∷ codes "\ndill 2\n") 1 BadByte
  pub version_of_the_same_line : Refused (codes "dill 1 " ++ 128 ∷ codes "\n") 1 NoVersion
  pub only_a_return : Refused (13 ∷ []) 1 NoVersion
  pub second_return : Refused (codes "dill 1" ++ 13 ∷ 13 ∷ 10 ∷ codes "x") 1 NoVersion

-- texts with CR LF, with TABs, with no LF at the end, and forms at their limits
pub record ReadRows : Type 0 where
  pub carriage_returns : script_of (codes "dill 1" ++ 13 ∷ 10 ∷ codes "\tprogram\tmain 0" ++ 13 ∷ 10 ∷ codes "end" ++ 13 ∷ []) ≡ script_of (codes "dill 1\nprogram main 0\nend\n")
  pub return_alone : script_of (codes "dill 1\nprogram main 0\nend\n" ++ 13 ∷ []) ≡ script_of (codes "dill 1\nprogram main 0\nend\n")
  pub equal_registers : PrintsBack (codes "dill 1\nprogram main 0\nn0 n0 = chmake\nend\n")
  pub sixteen_items : PrintsBack (codes "dill 1\nprogram main 0\nprint n0 n0 n0 n0 n0 n0 n0 n0 n0 n0 n0 n0 n0 n0 n0 n0\nend\n")
  pub fifteen_ifs : PrintsBack (codes "dill 1\nprogram main 0\nif n0 = 0\nif n0 = 0\nif n0 = 0\nif n0 = 0\nif n0 = 0\nif n0 = 0\nif n0 = 0\nif n0 = 0\nif n0 = 0\nif n0 = 0\nif n0 = 0\nif n0 = 0\nif n0 = 0\nif n0 = 0\nif n0 = 0\nend\nend\nend\nend\nend\nend\nend\nend\nend\nend\nend\nend\nend\nend\nend\nend\n")
  pub fifteen_of_both : PrintsBack (codes "dill 1\nprogram main 0\nloop\nloop\nloop\nloop\nif n0 = 0\nif n0 = 0\nif n0 = 0\nif n0 = 0\nif n0 = 0\nif n0 = 0\nif n0 = 0\nif n0 = 0\nif n0 = 0\nif n0 = 0\nif n0 = 0\nend\nend\nend\nend\nend\nend\nend\nend\nend\nend\nend\nend\nend\nend\nend\nend\n")
  pub later_program : PrintsBack (codes "dill 1\nprogram main 0\ngo s n1\nend\nprogram s 1\nend\n")

-- `print` and `now` alone are built
abbrev pub first_calls : Word → Bool
first_calls words.Print = true
first_calls words.Now = true
first_calls _ = false

-- calls that aren't built yet
pub record BuiltRows : Type 0 where
  pub unbuilt : script_with first_calls (codes "dill 1\nprogram main 0\nnow\nset b0 \"\"\nyield 5\nend\n") ≡ Err (5, NotBuilt)
  pub unknown_first : script_with first_calls (codes "dill 1\nprogram main 0\nyields\nyield\nend\n") ≡ Err (3, UnknownWord)
  pub outside : script_with first_calls (codes "dill 1\nyield\n") ≡ Err (2, NotBuilt)

-- the numbers from one on, so many
abbrev pub numbers_from : ℕ → ℕ → List ℕ
numbers_from first zero = []
numbers_from first (suc count) = first ∷ numbers_from (first + 1) count

-- so many programs, with no line but their first and their last
abbrev pub empty_programs : ℕ → List ℕ
empty_programs count = codes "dill 1\n" ++ flat_map (λ number. codes "program p" ++ (decimal number ++ codes " 0\nend\n")) (numbers_from 1 count)

-- behind so many places
abbrev pub behind_places : ℕ → Context
behind_places count = record { begun = true; whole = []; current = record { name = codes "main"; params = 0; statements = replicate count EndLoop }; open_blocks = Program ∷ [] }

-- limits that take long texts to reach
pub record LimitRows : Type 0 where
  pub programs : Refused (empty_programs 257) 514 TooLarge
  pub most_programs : Refused (empty_programs 256) 1 NoMain
  pub places : judged (λ word. true) 9 (behind_places 4096) (codes "now" ∷ codes "end" ∷ []) ≡ Err (9, TooLarge)
  pub places_and_statements : judged (λ word. true) 9 (behind_places 4096) (codes "set n0 0" ∷ codes "set b0 b0" ∷ codes "end" ∷ []) ≡ Err (10, TooLarge)
  pub loop_end : judged (λ word. true) 9 (behind_places 4095) (codes "now" ∷ codes "loop" ∷ codes "end" ∷ codes "end" ∷ []) ≡ Err (11, TooLarge)
  pub most_places : is_ok (judged (λ word. true) 9 (behind_places 4095) (codes "now" ∷ codes "end" ∷ [])) ≡ true
