-- The head of a line: `try`, the registers before a `=`, and the keyword that says what the line is.
use Rattle.std.specs.Prelude.{ℕ, List, [], ◌∷◌, map, Bool, true, false, if◌then◌else◌, Option, Some, None, option_and_then, codes}
use Rattle.dill_calls.specs.Words.{word_text}
use Rattle.dill_script.specs.declared.line.Keyword.{Keyword}
use Rattle.dill_script.specs.declared.line.Keyword.TheVariants as keywords
use Rattle.dill_script.specs.declared.line.Register.{Register}
use Rattle.dill_script.specs.Numbers.{named}
use Rattle.dill_script.specs.Operands.{plain_in, register_in}
use Rattle.dill_script.specs.Table.{call_words}
use Rattle.dill_script.specs.Tokens.{Token, is_plain}

-- how a keyword is written
abbrev pub keyword_text : Keyword → List ℕ
keyword_text keywords.Program = codes "program"
keyword_text keywords.Finally = codes "finally"
keyword_text keywords.Else = codes "else"
keyword_text keywords.End = codes "end"
keyword_text keywords.Set = codes "set"
keyword_text keywords.Add = codes "add"
keyword_text keywords.Sub = codes "sub"
keyword_text keywords.Len = codes "len"
keyword_text keywords.If = codes "if"
keyword_text keywords.Loop = codes "loop"
keyword_text keywords.Break = codes "break"
keyword_text keywords.Return = codes "return"
keyword_text keywords.Fail = codes "fail"
keyword_text keywords.Join = codes "join"
keyword_text (keywords.Call word) = word_text word

-- all keywords
abbrev pub all_keywords : List Keyword
all_keywords = keywords.Program ∷ keywords.Finally ∷ keywords.Else ∷ keywords.End ∷ keywords.Set ∷ keywords.Add ∷ keywords.Sub ∷ keywords.Len ∷ keywords.If ∷ keywords.Loop ∷ keywords.Break ∷ keywords.Return ∷ keywords.Fail ∷ keywords.Join ∷ map keywords.Call call_words

-- the keyword that a token is
abbrev pub keyword_of : Token → Option Keyword
keyword_of token = option_and_then (named keyword_text all_keywords) (plain_in token)

-- a line that has tokens, by its parts
pub record Heading : Type 0 where
  -- it begins with `try`
  pub tried : Bool
  -- the registers before its `=`, none where it has no such `=`
  pub targets : List Register
  -- none where its keyword is unknown
  pub keyword : Option Keyword
  -- what stands behind the keyword
  pub operands : List Token

-- a register before others, where there are both
abbrev pub with_target : Option Register → Option (List Register × List Token) → Option (List Register × List Token)
with_target (Some register) (Some (targets, behind)) = Some (register ∷ targets, behind)
with_target _ _ = None

-- registers alone up to a `=`, and what stands behind it
abbrev pub up_to_equals : List Token → Option (List Register × List Token)
up_to_equals [] = None
up_to_equals (token ∷ rest) = if is_plain (codes "=") token then Some ([], rest) else with_target (register_in token) (up_to_equals rest)

-- the keyword stands first, and its operands behind it
abbrev pub with_keyword : Bool → List Register → List Token → Heading
with_keyword tried targets [] = record { tried = tried; targets = targets; keyword = None; operands = [] }
with_keyword tried targets (token ∷ rest) = record { tried = tried; targets = targets; keyword = keyword_of token; operands = rest }

-- one or more registers and then `=` come before the keyword
abbrev pub with_targets : Bool → List Token → Option (List Register × List Token) → Heading
with_targets tried all (Some (register ∷ targets, behind)) = with_keyword tried (register ∷ targets) behind
with_targets tried all _ = with_keyword tried [] all

-- the parts of a line
abbrev pub heading_of : List Token → Heading
heading_of [] = with_keyword false [] []
heading_of (token ∷ rest) = if is_plain (codes "try") token then with_targets true rest (up_to_equals rest) else with_targets false (token ∷ rest) (up_to_equals (token ∷ rest))
