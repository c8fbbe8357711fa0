-- The programs of a context are written as the lines that led to it.
use Rattle.std.proofs.Common.{◌≡◌, ℕ, List, [], ◌∷◌, ◌++◌, map, flat_map, Bool, true, false, not, ◌&&◌, Option, Some, None, IfSome, option_map, option_and_then, decimal, refl, sym, ap, ◌∙◌, subst, codes, append_assoc, append-nil}
use Rattle.std.proofs.lemmas.Grind.{flat_map-append}
use Rattle.std.proofs.lemmas.List.{map-append}
use Rattle.std.specs.List.{list_any}
use Rattle.dill_script.specs.declared.line.Block.{Block}
use Rattle.dill_script.specs.declared.line.Block.TheVariants as blocks
use Rattle.dill_script.specs.declared.line.Keyword.{Keyword}
use Rattle.dill_script.specs.declared.line.Keyword.TheVariants as keywords
use Rattle.dill_script.specs.declared.line.Register.{Register}
use Rattle.dill_script.specs.declared.script.Program.{Program}
use Rattle.dill_script.specs.declared.statement.Statement.{Statement}
use Rattle.dill_script.specs.declared.statement.Statement.TheVariants as statements
use Rattle.dill_script.specs.Blocks.{is_empty, is_loop, is_finally, is_in_if, is_in_program, may_stand, outside, blocks_behind}
use Rattle.dill_script.specs.Contexts.{Context, bare, saying, ended, ending, adding}
use Rattle.dill_script.specs.Numbers.{only_if, number_up_to}
use Rattle.dill_script.specs.Operands.{plain_in, name_of, number_register, bytes_register, num_of, register_in, bytes_of}
use Rattle.dill_script.specs.Printing.{statement_tokens, program_lines}
use Rattle.dill_script.specs.Statements.{Line, Opens, Ends, Says, both, set_at, with_two, program_of, params_fit, plain_line, keyword_line, cond_of, loop_of, fail_of, call_of_line}
use Rattle.dill_script.specs.Tokens.{Token, Plain}
use Rattle.dill_script.proofs.Keywords.{keyword_in, SpelledBy, keyword_line_by}
use Rattle.dill_script.proofs.LinesWritten.{spelled}
use Rattle.dill_script.proofs.Options.{if_more}

-- a program as far as it has come
abbrev pub begun_lines : Program → List (List Token)
begun_lines program = (Plain (codes "program") ∷ Plain program.name ∷ Plain (decimal program.params) ∷ []) ∷ map statement_tokens program.statements

abbrev pub open_lines : List Block → Program → List (List Token)
open_lines [] program = []
open_lines (block ∷ outer) program = begun_lines program

-- the lines of programs that led to a context
abbrev pub written : Context → List (List Token)
written context = flat_map program_lines context.whole ++ open_lines context.open_blocks context.current

-- a program is the outermost block, and nothing else is
abbrev pub Nested : List Block → Type 0
Nested [] = Unit {0}
Nested (blocks.Program ∷ outer) = outer ≡ []
Nested (blocks.Finally ∷ outer) = outer ≡ []
Nested (block ∷ outer) = (is_empty outer ≡ false) × Nested outer

-- which keywords spell which lines
abbrev pub Matches : Keyword → Line → Type 0
Matches keywords.Program (Opens name params) = Unit {0}
Matches keywords.Program _ = ⊥
Matches keywords.End Ends = Unit {0}
Matches keywords.End _ = ⊥
Matches _ (Says statement) = Unit {0}
Matches _ _ = ⊥

pub spelled_matches : (k : Keyword) (line : Line) → SpelledBy k line → Matches k line
spelled_matches keywords.Program (Opens name params) e = tt
spelled_matches keywords.Program Ends e = cc
spelled_matches keywords.Program (Says s) e = no_program s e
  where
    no_program : (t : Statement) → keyword_in t ≡ Some keywords.Program → ⊥
    no_program statements.Else e = cc
    no_program _ e = cc
spelled_matches keywords.End (Opens name params) e = cc
spelled_matches keywords.End Ends e = tt
spelled_matches keywords.End (Says s) e = no_end s e
  where
    no_end : (t : Statement) → keyword_in t ≡ Some keywords.End → ⊥
    no_end statements.Else e = cc
    no_end _ e = cc
spelled_matches _ (Says s) e = tt
spelled_matches _ (Opens name params) e = cc
spelled_matches _ Ends e = cc

pub keyword_line_matches : (tried : Bool) (targets : List Register) (k : Keyword) (tokens : List Token) → IfSome (keyword_line tried targets k tokens) (Matches k)
keyword_line_matches tried targets k tokens = if_more (SpelledBy k) (Matches k) (keyword_line tried targets k tokens) (spelled_matches k) (keyword_line_by tried targets k tokens)

-- blocks stay nested, and some are open before and behind each line but the first and last of a program
pub record StaysOpen (open_blocks behind_them : List Block) : Type 0 where
  pub before : is_empty open_blocks ≡ false
  pub after : is_empty behind_them ≡ false
  pub nested : Nested behind_them

not_true : (b : Bool) → not b ≡ true → b ≡ false
not_true true e = cc
not_true false e = refl

and_first : (a b : Bool) → (a && b) ≡ true → a ≡ true
and_first true b e = refl
and_first false b e = cc

same_open : (open_blocks : List Block) → Nested open_blocks → not (is_empty open_blocks) ≡ true → StaysOpen open_blocks open_blocks
same_open open_blocks n e = record { before = not_true (is_empty open_blocks) e; after = not_true (is_empty open_blocks) e; nested = n }

loop_inside : (open_blocks : List Block) → list_any is_loop open_blocks ≡ true → not (is_empty open_blocks) ≡ true
loop_inside [] e = cc
loop_inside (block ∷ outer) e = refl

else_open : (open_blocks : List Block) → Nested open_blocks → is_in_if open_blocks ≡ true → StaysOpen open_blocks (blocks.Else ∷ outside open_blocks)
else_open [] n e = cc
else_open (blocks.If ∷ outer) n e = record { before = refl; after = refl; nested = n }
else_open (blocks.Program ∷ outer) n e = cc
else_open (blocks.Finally ∷ outer) n e = cc
else_open (blocks.Else ∷ outer) n e = cc
else_open (blocks.Loop ∷ outer) n e = cc

finally_open : (open_blocks : List Block) → Nested open_blocks → is_in_program open_blocks ≡ true → StaysOpen open_blocks (blocks.Finally ∷ outside open_blocks)
finally_open [] n e = cc
finally_open (blocks.Program ∷ outer) n e = record { before = refl; after = refl; nested = n }
finally_open (blocks.If ∷ outer) n e = cc
finally_open (blocks.Finally ∷ outer) n e = cc
finally_open (blocks.Else ∷ outer) n e = cc
finally_open (blocks.Loop ∷ outer) n e = cc

-- which blocks are open behind a line that holds a statement
pub says_open : (open_blocks : List Block) (k : Keyword) (s : Statement) → Nested open_blocks → may_stand open_blocks k ≡ true → Matches k (Says s) → StaysOpen open_blocks (blocks_behind open_blocks k)
says_open open_blocks keywords.Program s n e m = absurd m
says_open open_blocks keywords.End s n e m = absurd m
says_open open_blocks keywords.If s n e m = record { before = not_true (is_empty open_blocks) e; after = refl; nested = (not_true (is_empty open_blocks) e, n) }
says_open open_blocks keywords.Loop s n e m =
    let f : not (is_empty open_blocks) ≡ true = and_first (not (is_empty open_blocks)) (not (list_any is_finally open_blocks)) e in
    record { before = not_true (is_empty open_blocks) f; after = refl; nested = (not_true (is_empty open_blocks) f, n) }
says_open open_blocks keywords.Else s n e m = else_open open_blocks n e
says_open open_blocks keywords.Finally s n e m = finally_open open_blocks n e
says_open open_blocks keywords.Break s n e m = same_open open_blocks n (loop_inside open_blocks e)
says_open open_blocks keywords.Return s n e m = same_open open_blocks n (and_first (not (is_empty open_blocks)) (not (list_any is_finally open_blocks)) e)
says_open open_blocks keywords.Fail s n e m = same_open open_blocks n (and_first (not (is_empty open_blocks)) (not (list_any is_finally open_blocks)) e)
says_open open_blocks _ s n e m = same_open open_blocks n e

-- an open program with one more statement
more_lines : (program : Program) (s : Statement) → begun_lines (record { name = program.name; params = program.params; statements = program.statements ++ s ∷ [] }) ≡ begun_lines program ++ statement_tokens s ∷ []
more_lines program s = ap (λ list. (Plain (codes "program") ∷ Plain program.name ∷ Plain (decimal program.params) ∷ []) ∷ list) (map-append statement_tokens program.statements (s ∷ []))

opened : (open_blocks : List Block) (program : Program) → is_empty open_blocks ≡ false → open_lines open_blocks program ≡ begun_lines program
opened [] program e = cc
opened (block ∷ outer) program e = refl

-- a statement more in the open program
says_written : (context : Context) (s : Statement) (behind_them : List Block) → is_empty context.open_blocks ≡ false → is_empty behind_them ≡ false → written (record (saying context s) { open_blocks = behind_them }) ≡ written context ++ statement_tokens s ∷ []
says_written context s behind_them e f =
    let whole : List (List Token) = flat_map program_lines context.whole in
    ap (λ x. whole ++ x) (opened behind_them (saying context s).current f ∙ more_lines context.current s ∙ ap (λ x. x ++ statement_tokens s ∷ []) (sym (opened context.open_blocks context.current e))) ∙ sym (append_assoc whole (open_lines context.open_blocks context.current) (statement_tokens s ∷ []))

-- the open program is whole
ends_written : (context : Context) (block : Block) (outer : List Block) → context.open_blocks ≡ block ∷ outer → outer ≡ [] → written (record (ended context) { open_blocks = outer }) ≡ written context ++ (Plain (codes "end") ∷ []) ∷ []
ends_written context block outer e f =
    let whole : List (List Token) = flat_map program_lines context.whole in
    let last : List (List Token) = (Plain (codes "end") ∷ []) ∷ [] in
    ap (λ o. flat_map program_lines (context.whole ++ context.current ∷ []) ++ open_lines o (bare [] 0)) f
    ∙ append-nil (flat_map program_lines (context.whole ++ context.current ∷ []))
    ∙ flat_map-append program_lines context.whole (context.current ∷ [])
    ∙ ap (λ x. whole ++ x) (append-nil (program_lines context.current))
    ∙ sym (append_assoc whole (begun_lines context.current) last)
    ∙ ap (λ o. (whole ++ open_lines o context.current) ++ last) (sym e)

-- what a line adds, and the blocks behind it
pub record Adds (context new : Context) (list : List Token) : Type 0 where
  pub nested : Nested new.open_blocks
  pub written : written new ≡ written context ++ list ∷ []

end_added : (context : Context) (open_blocks : List Block) → context.open_blocks ≡ open_blocks → Nested open_blocks → not (is_empty open_blocks) ≡ true → Adds context (record (ending context open_blocks) { open_blocks = outside open_blocks }) (Plain (codes "end") ∷ [])
end_added context [] e n f = cc
end_added context (blocks.Program ∷ outer) e n f = record { nested = subst Nested (sym n) tt; written = ends_written context blocks.Program outer e n }
end_added context (blocks.Finally ∷ outer) e n f = record { nested = subst Nested (sym n) tt; written = ends_written context blocks.Finally outer e n }
end_added context (blocks.If ∷ outer) e n f = record { nested = n.1; written = says_written context statements.EndIf outer (ap is_empty e) n.0 }
end_added context (blocks.Else ∷ outer) e n f = record { nested = n.1; written = says_written context statements.EndIf outer (ap is_empty e) n.0 }
end_added context (blocks.Loop ∷ outer) e n f = record { nested = n.1; written = says_written context statements.EndLoop outer (ap is_empty e) n.0 }

pub nothing_open : (open_blocks : List Block) (program : Program) → is_empty open_blocks ≡ true → open_lines open_blocks program ≡ []
nothing_open [] program e = refl
nothing_open (block ∷ outer) program e = cc

none_open : (open_blocks : List Block) → is_empty open_blocks ≡ true → open_blocks ≡ []
none_open [] e = refl
none_open (block ∷ outer) e = cc

opens_added : (context : Context) (name : List ℕ) (params : ℕ) → is_empty context.open_blocks ≡ true → Adds context (record context { current = bare name params; open_blocks = blocks.Program ∷ context.open_blocks }) (spelled (Opens name params))
opens_added context name params e =
    let whole : List (List Token) = flat_map program_lines context.whole in
    record {
      nested = none_open context.open_blocks e;
      written = ap (λ x. x ++ spelled (Opens name params) ∷ []) (sym (append-nil whole) ∙ ap (λ x. whole ++ x) (sym (nothing_open context.open_blocks context.current e)));
    }

says_added : (context : Context) (k : Keyword) (s : Statement) → Nested context.open_blocks → may_stand context.open_blocks k ≡ true → Matches k (Says s) → Adds context (record (saying context s) { open_blocks = blocks_behind context.open_blocks k }) (statement_tokens s)
says_added context k s n e m =
    let o : StaysOpen context.open_blocks (blocks_behind context.open_blocks k) = says_open context.open_blocks k s n e m in
    record { nested = o.nested; written = says_written context s (blocks_behind context.open_blocks k) o.before o.after }

-- a line of a keyword that may stand adds its tokens
pub added : (context : Context) (k : Keyword) (line : Line) → Nested context.open_blocks → may_stand context.open_blocks k ≡ true → Matches k line → Adds context (record (adding context (Some line)) { open_blocks = blocks_behind context.open_blocks k }) (spelled line)
added context keywords.Program (Opens name params) n e m = opens_added context name params e
added context keywords.Program Ends n e m = absurd m
added context keywords.Program (Says s) n e m = absurd m
added context keywords.End (Opens name params) n e m = absurd m
added context keywords.End Ends n e m = end_added context context.open_blocks refl n e
added context keywords.End (Says s) n e m = absurd m
added context k (Says s) n e m = says_added context k s n e m
added context _ (Opens name params) n e m = absurd m
added context _ Ends n e m = absurd m
