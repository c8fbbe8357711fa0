-- How the pieces of a line, and the lines of a script, come together.
use Rattle.std.proofs.Common.{◌≡◌, ℕ, List, [], ◌∷◌, ◌++◌, refl, sym, ◌∙◌, ap, append_assoc}
use Rattle.std.specs.Prelude.{Bool, Option, map, flat_map, codes, decimal}
use Rattle.std.proofs.lemmas.List.{append-nil}
use Rattle.std.proofs.lemmas.Grind.{flat_map-append}
use Rattle.std.proofs.lemmas.List.Folds.{flat_map-map}
use Rattle.dill_calls.specs.Words.{word_text}
use Rattle.dill_script.specs.declared.form.Form.{Form}
use Rattle.dill_script.specs.declared.form.Operand.{Operand}
use Rattle.dill_script.specs.declared.form.Operand.TheVariants as operands
use Rattle.dill_script.specs.declared.operand.Dest.{Dest}
use Rattle.dill_script.specs.declared.script.Program.{Program}
use Rattle.dill_script.specs.declared.statement.Statement.{Statement}
use Rattle.dill_script.specs.declared.statement.Statement.TheVariants as statements
use Rattle.dill_script.specs.Printing.{token_text, try_tokens, dest_tokens, operand_tokens, statement_tokens, program_lines, line_text, canonical}
use Rattle.dill_script.specs.Tokens.{Token, Plain}
use Rattle.relay_printer.specs.Pieces.{led, trailed, joined, operand_text, statement_text, program_text}

-- a line is its first token and the others, a space before each
pub joined_trailed : (token : Token) (rest : List Token) → joined (token ∷ rest) ≡ token_text token ++ trailed rest
joined_trailed token [] = sym (append-nil (token_text token))
joined_trailed token (next ∷ rest) = ap (λ (l : List ℕ). token_text token ++ 32 ∷ l) (joined_trailed next rest)

-- tokens before a plain token, with a space behind each
pub joined_led : (front : List Token) (token : Token) (rest : List Token) → joined (front ++ token ∷ rest) ≡ led front ++ joined (token ∷ rest)
joined_led [] token rest = refl
joined_led (first ∷ []) token rest = simp append_assoc
joined_led (first ∷ second ∷ front) token rest =
    ap (λ (l : List ℕ). token_text first ++ 32 ∷ l) (joined_led (second ∷ front) token rest) ∙ simp append_assoc

-- a line of two groups of tokens, a plain token and the tokens behind it
pub joined_parts : (front middle : List Token) (token : Token) (rest : List Token) → joined (front ++ (middle ++ token ∷ rest)) ≡ led front ++ (led middle ++ (token_text token ++ trailed rest))
joined_parts front middle token rest =
    ap joined (sym (append_assoc front middle (token ∷ rest))) ∙ joined_led (front ++ middle) token rest ∙ ap (λ (l : List ℕ). led (front ++ middle) ++ l) (joined_trailed token rest) ∙ ap (λ (l : List ℕ). l ++ (token_text token ++ trailed rest)) (flat_map-append (λ (t : Token). token_text t ++ 32 ∷ []) front middle) ∙ append_assoc (led front) (led middle) (token_text token ++ trailed rest)

-- an operand's plain tokens with a space before each
operand_trailed : (operand : Operand) → trailed (operand_tokens operand) ≡ operand_text operand
operand_trailed (operands.Num value) = simp append-nil
operand_trailed (operands.Bytes value) = simp append-nil
operand_trailed (operands.Wait value) = simp append-nil
operand_trailed (operands.Address value) = simp append-nil
operand_trailed (operands.Program name) = simp append-nil
operand_trailed (operands.Order value) = simp append-nil
operand_trailed (operands.Mode value) = simp append-nil
operand_trailed (operands.Role value) = simp append-nil
operand_trailed (operands.Give place) = simp append-nil
operand_trailed (operands.Send end item) = simp append-nil
operand_trailed (operands.Recv end size) = simp append-nil

-- the operands of a call one after the other
pub operands_trailed : (operands : List Operand) → trailed (flat_map operand_tokens operands) ≡ flat_map operand_text operands
operands_trailed [] = refl
operands_trailed (operand ∷ rest) =
    flat_map-append (λ (t : Token). 32 ∷ token_text t) (operand_tokens operand) (flat_map operand_tokens rest) ∙ ap (λ (l : List ℕ). l ++ trailed (flat_map operand_tokens rest)) (operand_trailed operand) ∙ ap (λ (l : List ℕ). operand_text operand ++ l) (operands_trailed rest)

-- the lines of statements one after the other
pub statements_joined : (statements : List Statement) → flat_map line_text (map statement_tokens statements) ≡ flat_map statement_text statements
statements_joined statements = flat_map-map line_text statement_tokens statements

-- the lines of programs one after the other
pub programs_joined : (programs : List Program) → flat_map line_text (flat_map program_lines programs) ≡ flat_map program_text programs
programs_joined [] = refl
programs_joined (program ∷ rest) =
    flat_map-append line_text (program_lines program) (flat_map program_lines rest) ∙ ap (λ (l : List ℕ). program_text program ++ l) (programs_joined rest)

-- the line of a call, from its parts
pub call_line : (before : List ℕ) (tried : Bool) (dest : Option Dest) (form : Form) → (((before ++ led (try_tokens tried)) ++ led (dest_tokens dest)) ++ word_text form.word) ++ flat_map operand_text form.operands ≡ before ++ joined (statement_tokens (statements.Call tried dest form))
call_line before tried dest form =
    let word = word_text form.word in
    let first = led (try_tokens tried) in
    let second = led (dest_tokens dest) in
    ap (λ (l : List ℕ). (((before ++ first) ++ second) ++ word) ++ l) (sym (operands_trailed form.operands)) ∙ append_assoc ((before ++ first) ++ second) word (trailed (flat_map operand_tokens form.operands)) ∙ append_assoc (before ++ first) second (word ++ trailed (flat_map operand_tokens form.operands)) ∙ append_assoc before first (second ++ (word ++ trailed (flat_map operand_tokens form.operands))) ∙ ap (λ (l : List ℕ). before ++ l) (sym (joined_parts (try_tokens tried) (dest_tokens dest) (Plain word) (flat_map operand_tokens form.operands)))

-- the lines of a program, from its first line and its statements
pub program_whole : (before : List ℕ) (program : Program) → ((before ++ line_text (Plain (codes "program") ∷ Plain program.name ∷ Plain (decimal program.params) ∷ [])) ++ flat_map statement_text program.statements) ++ codes "end\n" ≡ before ++ program_text program
program_whole before program =
    let heading = line_text (Plain (codes "program") ∷ Plain program.name ∷ Plain (decimal program.params) ∷ []) in
    let lines = map statement_tokens program.statements in
    ap (λ (l : List ℕ). ((before ++ heading) ++ l) ++ codes "end\n") (sym (statements_joined program.statements)) ∙ append_assoc (before ++ heading) (flat_map line_text lines) (codes "end\n") ∙ append_assoc before heading (flat_map line_text lines ++ codes "end\n") ∙ ap (λ (l : List ℕ). before ++ (heading ++ l)) (sym (flat_map-append line_text lines ((Plain (codes "end") ∷ []) ∷ [])))

-- what is there after each part of a call was added
pub call_added : (before tried_in dest_in name named after : List ℕ) (items : List Operand) (tried : Bool) (dest : Option Dest) (form : Form) → tried_in ≡ before ++ led (try_tokens tried) → dest_in ≡ tried_in ++ led (dest_tokens dest) → name ≡ word_text form.word → named ≡ dest_in ++ name → items ≡ form.operands
    → after ≡ named ++ flat_map operand_text items → after ≡ before ++ joined (statement_tokens (statements.Call tried dest form))
call_added before tried_in dest_in name named after items tried dest form p q n r i e =
    e ∙ ap (λ (l : List Operand). named ++ flat_map operand_text l) i ∙ ap (λ (l : List ℕ). l ++ flat_map operand_text form.operands) (r ∙ ap (λ (l : List ℕ). dest_in ++ l) n ∙ ap (λ (l : List ℕ). l ++ word_text form.word) (q ∙ ap (λ (l : List ℕ). l ++ led (dest_tokens dest)) p)) ∙ call_line before tried dest form

-- what is there after each part of a program was added
pub program_added : (before name headed stated after : List ℕ) (lines : List Statement) (program : Program) → name ≡ program.name → headed ≡ before ++ line_text (Plain (codes "program") ∷ Plain name ∷ Plain (decimal program.params) ∷ []) → lines ≡ program.statements → stated ≡ headed ++ flat_map statement_text lines
    → after ≡ stated ++ codes "end\n" → after ≡ before ++ program_text program
program_added before name headed stated after lines program n p i q e =
    e ∙ ap (λ (l : List ℕ). l ++ codes "end\n") (q ∙ ap (λ (l : List Statement). headed ++ flat_map statement_text l) i ∙ ap (λ (l : List ℕ). l ++ flat_map statement_text program.statements) (p ∙ ap (λ (l : List ℕ). before ++ line_text (Plain (codes "program") ∷ Plain l ∷ Plain (decimal program.params) ∷ [])) n)) ∙ program_whole before program

-- what is there after the programs were added behind the first line
pub script_added : (before versioned after : List ℕ) (programs script : List Program) → before ≡ [] → versioned ≡ before ++ codes "dill 1\n" → programs ≡ script → after ≡ versioned ++ flat_map program_text programs → after ≡ canonical script
script_added before versioned after programs script b p i e =
    e ∙ ap (λ (l : List Program). versioned ++ flat_map program_text l) i ∙ ap (λ (l : List ℕ). l ++ flat_map program_text script) (p ∙ ap (λ (l : List ℕ). l ++ codes "dill 1\n") b) ∙ ap (λ (l : List ℕ). codes "dill 1\n" ++ l) (sym (programs_joined script))
