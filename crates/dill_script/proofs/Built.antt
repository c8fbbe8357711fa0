-- The calls of what is read are built.
use Rattle.std.proofs.Common.{◌≡◌, List, [], ◌∷◌, Bool, true, false, not, ◌&&◌, Option, Some, None, IfSome, option_map, option_and_then, refl, sym, subst, codes}
use Rattle.std.proofs.lemmas.Bool.{and_from}
use Rattle.std.specs.List.{list_all}
use Rattle.dill_calls.specs.declared.word.Word.{Word}
use Rattle.dill_script.specs.declared.line.Keyword.{Keyword}
use Rattle.dill_script.specs.declared.line.Keyword.TheVariants as keywords
use Rattle.dill_script.specs.declared.line.Register.{Register}
use Rattle.dill_script.specs.declared.line.Register.TheVariants as registers
use Rattle.dill_script.specs.declared.script.Program.{Program}
use Rattle.dill_script.specs.declared.statement.Statement.{Statement}
use Rattle.dill_script.specs.declared.statement.Statement.TheVariants as statements
use Rattle.dill_script.specs.Contexts.{Context, opening}
use Rattle.dill_script.specs.Headings.{Heading, heading_of}
use Rattle.dill_script.specs.Lines.{lines_of}
use Rattle.dill_script.specs.Numbers.{only_if, number_up_to, errno_of}
use Rattle.dill_script.specs.Operands.{plain_in, name_of, register_in, number_register, bytes_register, num_of, bytes_of, operands_of}
use Rattle.dill_script.specs.Refusals.{is_some_with, is_unbuilt, is_version}
use Rattle.dill_script.specs.Spelling.{spoken, says_built, ReadsBuilt}
use Rattle.dill_script.specs.Statements.{Line, Opens, Ends, Says, both, set_at, with_two, with_none, params_fit, program_of, fail_of, loop_of, cond_of, dest_at, call_of_line, plain_line, keyword_line, line_of}
use Rattle.dill_script.specs.Table.{kinds_of, rest_kind}
use Rattle.dill_script.specs.Tokens.{Token, Plain}
use Rattle.dill_script.proofs.Judging.{leads_of}
use Rattle.dill_script.proofs.Keywords.{keyword_at, line_by}
use Rattle.dill_script.proofs.Linking.{IsRead, is_read}
use Rattle.dill_script.proofs.Saying.{says_well, line_says, reads_all}
use Rattle.dill_script.proofs.Options.{if_more}
use Rattle.dill_script.proofs.Spoken.{said_some, version_is}
use Rattle.dill_script.proofs.Tokenwise.{Leads, after_by}

not_false : (b : Bool) → not b ≡ false → b ≡ true
not_false true e = refl
not_false false e = cc

module _ (built : Word → Bool) where
  -- the line makes a call that is built, if it makes one
  abbrev Known : Line → Type 0
  Known line = says_well (says_built built) (Some line) ≡ true

  known_at : (line : Line) → is_some_with (is_unbuilt built) (keyword_at line) ≡ false → Known line
  known_at (Says (statements.Call tried dest form)) e = not_false (built form.word) e
  known_at _ e = refl

  of_line : (o : Option Line) → IfSome o Known → says_well (says_built built) o ≡ true
  of_line None h = refl
  of_line (Some line) h = h

  line_known : (list : List Token) → is_some_with (is_unbuilt built) (heading_of list).keyword ≡ false → line_says (says_built built) list ≡ true
  line_known list e =
      let heading : Heading = heading_of list in
      of_line (line_of heading) (if_more (λ line. keyword_at line ≡ heading.keyword) Known (line_of heading)
      (λ line f. known_at line (subst (λ o. is_some_with (is_unbuilt built) o ≡ false) (sym f) e)) (line_by heading heading.keyword))

  lines_known : (context : Context) (lists : List (List Token)) (script : List Program) → context.begun ≡ true → Leads built context lists script → list_all (line_says (says_built built)) lists ≡ true
  lines_known context [] script b l = refl
  lines_known context (list ∷ rest) script b l =
      let e : is_some_with (is_unbuilt built) (heading_of list).keyword ≡ false = subst (λ o. is_some_with (is_unbuilt built) (option_and_then (λ heading. heading.keyword) o) ≡ false) (said_some context list b) l.0.known in
      and_from (line_says (says_built built) list) (list_all (line_says (says_built built)) rest) (line_known list e) (lines_known (after_by context list) rest script refl l.1)

  -- the first line, `dill 1`, makes no call
  version_known : (list : List Token) → list ≡ Plain (codes "dill") ∷ Plain (codes "1") ∷ [] → line_says (says_built built) list ≡ true
  version_known list e = rw e refl

  all_known : (lists : List (List Token)) (script : List Program) → Leads built opening lists script → list_all (line_says (says_built built)) lists ≡ true
  all_known [] script l = refl
  all_known (list ∷ rest) script l = and_from (line_says (says_built built) list) (list_all (line_says (says_built built)) rest) (version_known list (version_is list (not_false (is_version (Some list)) l.0.version))) (lines_known (after_by opening list) rest script refl l.1)

pub reads_built : ReadsBuilt
reads_built built text script e =
    let r : IsRead built text script = is_read built text script e in
    let l = leads_of built 1 opening (lines_of text) script (λ x. refl) r.lines in
    reads_all (says_built built) (record { end_if = refl; end_loop = refl }) built text script e (all_known built (spoken (lines_of text)) script l.1)
