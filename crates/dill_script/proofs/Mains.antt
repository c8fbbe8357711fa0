-- A program of what is read takes at most 16 arguments, and `main` none.
use Rattle.std.proofs.Common.{◌≡◌, List, [], ◌∷◌, Bool, true, false, ◌&&◌, nat_le, if◌then◌else◌, Option, Some, None, IfSome, option_and_then, refl, subst}
use Rattle.std.proofs.lemmas.Bool.{and_from}
use Rattle.std.specs.List.{list_all}
use Rattle.dill_calls.specs.declared.word.Word.{Word}
use Rattle.dill_script.specs.declared.line.Block.{Block}
use Rattle.dill_script.specs.declared.line.Block.TheVariants as blocks
use Rattle.dill_script.specs.declared.line.Keyword.{Keyword}
use Rattle.dill_script.specs.declared.line.Keyword.TheVariants as keywords
use Rattle.dill_script.specs.declared.line.Register.{Register}
use Rattle.dill_script.specs.declared.script.Program.{Program}
use Rattle.dill_script.specs.Contexts.{Context, opening, adding, ending, behind}
use Rattle.dill_script.specs.Headings.{Heading, heading_of}
use Rattle.dill_script.specs.Lines.{lines_of}
use Rattle.dill_script.specs.Numbers.{only_if, number_up_to}
use Rattle.dill_script.specs.Operands.{plain_in, name_of}
use Rattle.dill_script.specs.Spelling.{spoken, takes_its, ReadsMains}
use Rattle.dill_script.specs.Statements.{Line, Opens, Ends, Says, params_fit, program_of, keyword_line, line_of}
use Rattle.dill_script.specs.Tokens.{Token}
use Rattle.dill_script.proofs.Formed.{always, number_small}
use Rattle.dill_script.proofs.Judging.{leads_of}
use Rattle.dill_script.proofs.LinesWritten.{two_is}
use Rattle.dill_script.proofs.Linking.{IsRead, is_read}
use Rattle.dill_script.proofs.Saying.{all_push}
use Rattle.dill_script.proofs.Options.{if_then, if_more, if_only}
use Rattle.dill_script.proofs.Tokenwise.{Leads, after_by}
use Rattle.dill_script.proofs.Written.{Matches, keyword_line_matches}

-- the program that a line opens may have so many parameters
abbrev OpensWell : Line → Type 0
OpensWell (Opens name params) = (params_fit name params && nat_le params 16) ≡ true
OpensWell _ = Unit {0}

count_small : (token : Token) → IfSome (option_and_then (number_up_to 16) (plain_in token)) (λ count. nat_le count 16 ≡ true)
count_small token = if_then (λ count. nat_le count 16 ≡ true) (number_up_to 16) (plain_in token) (always (λ word. IfSome (number_up_to 16 word) (λ count. nat_le count 16 ≡ true)) (plain_in token) (number_small 16))

program_opens : (a b : Token) → IfSome (program_of a b) OpensWell
program_opens a b = if_then OpensWell (λ name. option_and_then (λ count. only_if (params_fit name count) (Opens name count)) (option_and_then (number_up_to 16) (plain_in b))) (name_of a)
    (always (λ name. IfSome (option_and_then (λ count. only_if (params_fit name count) (Opens name count)) (option_and_then (number_up_to 16) (plain_in b))) OpensWell) (name_of a)
    (λ name. if_then OpensWell (λ count. only_if (params_fit name count) (Opens name count)) (option_and_then (number_up_to 16) (plain_in b))
    (if_more (λ count. nat_le count 16 ≡ true) (λ count. IfSome (only_if (params_fit name count) (Opens name count)) OpensWell) (option_and_then (number_up_to 16) (plain_in b)) (λ count small. if_only OpensWell (params_fit name count) (Opens name count) (λ e. and_from (params_fit name count) (nat_le count 16) e small)) (count_small b))))

-- a line of another keyword opens none
abbrev is_program : Keyword → Bool
is_program keywords.Program = true
is_program _ = false

opens_none : (k : Keyword) (line : Line) → is_program k ≡ false → Matches k line → OpensWell line
opens_none k Ends e m = tt
opens_none k (Says statement) e m = tt
opens_none keywords.Program (Opens name params) e m = cc
opens_none keywords.End (Opens name params) e m = absurd m
opens_none _ (Opens name params) e m = absurd m

other_opens : (tried : Bool) (targets : List Register) (k : Keyword) (tokens : List Token) → is_program k ≡ false → IfSome (keyword_line tried targets k tokens) OpensWell
other_opens tried targets k tokens e = if_more (Matches k) OpensWell (keyword_line tried targets k tokens) (λ line m. opens_none k line e m) (keyword_line_matches tried targets k tokens)

keyword_line_opens : (tried : Bool) (targets : List Register) (k : Keyword) (tokens : List Token) → IfSome (keyword_line tried targets k tokens) OpensWell
keyword_line_opens false [] keywords.Program tokens = two_is (λ list. OpensWell) program_of tokens program_opens
keyword_line_opens false (register ∷ targets) keywords.Program tokens = tt
keyword_line_opens true [] keywords.Program tokens = tt
keyword_line_opens true (register ∷ targets) keywords.Program tokens = tt
keyword_line_opens tried targets k tokens = other_opens tried targets k tokens refl

line_opens : (heading : Heading) (o : Option Keyword) → IfSome (option_and_then (λ k. keyword_line heading.tried heading.targets k heading.operands) o) OpensWell
line_opens heading None = tt
line_opens heading (Some k) = keyword_line_opens heading.tried heading.targets k heading.operands

-- the programs so far take what they may
record AllTake (context : Context) : Type 0 where
  whole : list_all takes_its context.whole ≡ true
  current : takes_its context.current ≡ true

ending_take : (context : Context) (open_blocks : List Block) → AllTake context → AllTake (ending context open_blocks)
ending_take context (blocks.If ∷ outer) s = record { whole = s.whole; current = s.current }
ending_take context (blocks.Else ∷ outer) s = record { whole = s.whole; current = s.current }
ending_take context (blocks.Loop ∷ outer) s = record { whole = s.whole; current = s.current }
ending_take context _ s = record { whole = all_push takes_its context.whole context.current s.whole s.current; current = refl }

adding_take : (context : Context) (line : Option Line) → AllTake context → IfSome line OpensWell → AllTake (adding context line)
adding_take context None s h = s
adding_take context (Some (Opens name params)) s h = record { whole = s.whole; current = h }
adding_take context (Some Ends) s h = ending_take context context.open_blocks s
adding_take context (Some (Says statement)) s h = record { whole = s.whole; current = s.current }

step_take : (context : Context) (list : List Token) (begun : Bool) → AllTake context → AllTake (record (behind context (if begun then Some (heading_of list) else None)) { begun = true })
step_take context list true s =
    let a : AllTake (adding context (line_of (heading_of list))) = adding_take context (line_of (heading_of list)) s (line_opens (heading_of list) (heading_of list).keyword) in
    record { whole = a.whole; current = a.current }
step_take context list false s = record { whole = s.whole; current = s.current }

leads_take : (built : Word → Bool) (context : Context) (lists : List (List Token)) (script : List Program) → AllTake context → Leads built context lists script → list_all takes_its script ≡ true
leads_take built context [] script s l = subst (λ programs. list_all takes_its programs ≡ true) l.1 s.whole
leads_take built context (list ∷ rest) script s l = leads_take built (after_by context list) rest script (step_take context list context.begun s) l.1

pub reads_mains : ReadsMains
reads_mains built text script e =
    let r : IsRead built text script = is_read built text script e in
    let l = leads_of built 1 opening (lines_of text) script (λ x. refl) r.lines in
    leads_take built opening (spoken (lines_of text)) script (record { whole = refl; current = refl }) l.1
