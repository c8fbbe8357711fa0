-- The call of a line has operands and registers as its word asks for them.
use Rattle.std.proofs.Common.{◌≡◌, ℕ, List, [], ◌∷◌, length, Bool, true, false, ◌&&◌, nat_le, if◌then◌else◌, Option, Some, None, IfSome, option_map, refl, arith, codes}
use Rattle.std.proofs.lemmas.Bool.{and_from, and_parts}
use Rattle.std.specs.List.{list_all}
use Rattle.dill_calls.specs.CallTable.{Form, OneNumber, TwoNumbers, OneBytes, TwoBytes, CodeAndBytes, Choice, form_of}
use Rattle.dill_calls.specs.declared.word.Word.{Word}
use Rattle.dill_script.specs.declared.form.Kind.{Kind}
use Rattle.dill_script.specs.declared.form.Kind.TheVariants as kinds
use Rattle.dill_script.specs.declared.form.Rest.{Rest}
use Rattle.dill_script.specs.declared.form.Rest.TheVariants as rests
use Rattle.dill_script.specs.declared.form.Operand.{Operand}
use Rattle.dill_script.specs.declared.form.Operand.TheVariants as operands
use Rattle.dill_script.specs.declared.line.Register.{Register}
use Rattle.dill_script.specs.declared.line.Register.TheVariants as registers
use Rattle.dill_script.specs.declared.operand.Num.TheVariants as nums
use Rattle.dill_script.specs.Fitting.{is_kind, is_rest, is_many, are_kinds, is_register, is_dest, may_hold}
use Rattle.dill_script.specs.Numbers.{each, joined, is_decimal, value_of, number_up_to}
use Rattle.dill_script.specs.Operands.{operand_of, item_of, items_of, send_of, recv_of, args_of, clauses_of, rest_of, operands_of, dest_of, num_of, bytes_of, number_register}
use Rattle.dill_script.specs.Statements.{dest_at}
use Rattle.dill_script.specs.Tokens.{Token, is_plain}
use Rattle.dill_script.proofs.Options.{if_map, if_or, if_then, if_test, if_only, if_joined}

pub always : {X : Type 0} (P : X → Type 0) (o : Option X) → ((x : X) → P x) → IfSome o P
always P None h = tt
always P (Some x) h = h x

-- a value that is made of another one passes, whatever that is
pub mapped : {X Y : Type 0} (P : Y → Type 0) (f : X → Y) (o : Option X) → ((x : X) → P (f x)) → IfSome (option_map f o) P
mapped P f o h = if_map P f o (always (λ x. P (f x)) o h)

-- a number up to the greatest is no greater
pub number_small : (greatest : ℕ) (word : List ℕ) → IfSome (number_up_to greatest word) (λ value. nat_le value greatest ≡ true)
number_small greatest word = if_only (λ value. nat_le value greatest ≡ true) (is_decimal word && nat_le (value_of word) greatest) (value_of word) (λ e. (and_parts (is_decimal word) (nat_le (value_of word) greatest) e).1)

kind_fits : (kind : Kind) (token : Token) → IfSome (operand_of kind token) (λ operand. is_kind kind operand ≡ true)
kind_fits kinds.Num token = mapped (λ operand. is_kind kinds.Num operand ≡ true) operands.Num _ (λ x. refl)
kind_fits kinds.Bytes token = mapped (λ operand. is_kind kinds.Bytes operand ≡ true) operands.Bytes _ (λ x. refl)
kind_fits kinds.Wait token = mapped (λ operand. is_kind kinds.Wait operand ≡ true) operands.Wait _ (λ x. refl)
kind_fits kinds.Address token = mapped (λ operand. is_kind kinds.Address operand ≡ true) operands.Address _ (λ x. refl)
kind_fits kinds.Program token = mapped (λ operand. is_kind kinds.Program operand ≡ true) operands.Program _ (λ x. refl)
kind_fits kinds.Order token = mapped (λ operand. is_kind kinds.Order operand ≡ true) operands.Order _ (λ x. refl)
kind_fits kinds.Mode token = mapped (λ operand. is_kind kinds.Mode operand ≡ true) operands.Mode _ (λ x. refl)
kind_fits kinds.Role token = mapped (λ operand. is_kind kinds.Role operand ≡ true) operands.Role _ (λ x. refl)

-- operands that may stand behind those that a call always has
abbrev FitRest : Rest → List Operand → Type 0
FitRest rest list = list_all (is_rest rest) list ≡ true

-- one before others
one_more : (rest : Rest) (o : Option Operand) (os : Option (List Operand)) → IfSome o (λ operand. is_rest rest operand ≡ true) → IfSome os (FitRest rest) → IfSome (joined o os) (FitRest rest)
one_more rest o os h k = if_joined (λ operand. is_rest rest operand ≡ true) (FitRest rest) (FitRest rest) o os (λ operand list e f. and_from (is_rest rest operand) (list_all (is_rest rest) list) e f) h k

item_fits : (token : Token) → IfSome (item_of token) (λ operand. is_rest rests.Items operand ≡ true)
item_fits token = if_or (λ operand. is_rest rests.Items operand ≡ true) (option_map operands.Bytes (bytes_of token)) (option_map (λ place. operands.Num (nums.Register place)) (number_register token))
    (mapped (λ operand. is_rest rests.Items operand ≡ true) operands.Bytes (bytes_of token) (λ x. refl))
    (mapped (λ operand. is_rest rests.Items operand ≡ true) (λ place. operands.Num (nums.Register place)) (number_register token) (λ x. refl))

-- as many as there were tokens
each_fits : (tokens : List Token) → IfSome (each item_of tokens) (λ list. (list_all (is_rest rests.Items) list ≡ true) × (length list ≡ length tokens))
each_fits [] = (refl, refl)
each_fits (token ∷ tokens) = if_joined (λ operand. is_rest rests.Items operand ≡ true) (λ list. (list_all (is_rest rests.Items) list ≡ true) × (length list ≡ length tokens)) (λ list. (list_all (is_rest rests.Items) list ≡ true) × (length list ≡ length (token ∷ tokens))) (item_of token) (each item_of tokens)
    (λ operand list e f. (and_from (is_rest rests.Items operand) (list_all (is_rest rests.Items) list) e f.0, one_longer operand list token tokens f.1)) (item_fits token) (each_fits tokens)
  where
    one_longer : (operand : Operand) (list : List Operand) (token : Token) (tokens : List Token) → length list ≡ length tokens → length (operand ∷ list) ≡ length (token ∷ tokens)
    one_longer operand list token tokens e = omega arith

-- what stands behind, and how many of it there are
abbrev Behind : Rest → List Operand → Type 0
Behind rest list = (list_all (is_rest rest) list && is_many rest list) ≡ true

items_fit : (tokens : List Token) → IfSome (items_of tokens) (Behind rests.Items)
items_fit tokens = if_test (Behind rests.Items) (nat_le 1 (length tokens) && nat_le (length tokens) 16) (each item_of tokens) None (λ e. so_many (each item_of tokens) e (each_fits tokens)) (λ e. tt)
  where
    so_many : (o : Option (List Operand)) → (nat_le 1 (length tokens) && nat_le (length tokens) 16) ≡ true → IfSome o (λ list. (list_all (is_rest rests.Items) list ≡ true) × (length list ≡ length tokens)) → IfSome o (Behind rests.Items)
    so_many None e h = tt
    so_many (Some list) e h = and_from (list_all (is_rest rests.Items) list) (is_many rests.Items list) h.0 (same_many (length list) (length tokens) h.1 e)
      where
        same_many : (n m : ℕ) → n ≡ m → (nat_le 1 m && nat_le m 16) ≡ true → (nat_le 1 n && nat_le n 16) ≡ true
        same_many n m f g = rw f g

args_fit : (tokens : List Token) → IfSome (args_of tokens) (FitRest rests.Args)
args_fit [] = refl
args_fit (token ∷ []) = one_more rests.Args (option_map operands.Num (num_of token)) (Some []) (mapped (λ operand. is_rest rests.Args operand ≡ true) operands.Num (num_of token) (λ x. refl)) refl
args_fit (token ∷ next ∷ rest) = if_test (FitRest rests.Args) (is_plain (codes "give") token) (joined (option_map operands.Give (number_register next)) (args_of rest)) (joined (option_map operands.Num (num_of token)) (args_of (next ∷ rest)))
    (λ e. one_more rests.Args (option_map operands.Give (number_register next)) (args_of rest) (mapped (λ operand. is_rest rests.Args operand ≡ true) operands.Give (number_register next) (λ x. refl)) (args_fit rest))
    (λ e. one_more rests.Args (option_map operands.Num (num_of token)) (args_of (next ∷ rest)) (mapped (λ operand. is_rest rests.Args operand ≡ true) operands.Num (num_of token) (λ x. refl)) (args_fit (next ∷ rest)))

send_fits : (end item : Token) → IfSome (send_of end item) (λ operand. is_rest rests.Clauses operand ≡ true)
send_fits end item = if_then (λ operand. is_rest rests.Clauses operand ≡ true) (λ place. option_map (operands.Send place) (bytes_of item)) (num_of end) (always (λ place. IfSome (option_map (operands.Send place) (bytes_of item)) (λ operand. is_rest rests.Clauses operand ≡ true)) (num_of end) (λ place. mapped (λ operand. is_rest rests.Clauses operand ≡ true) (operands.Send place) (bytes_of item) (λ x. refl)))

recv_fits : (end size : Token) → IfSome (recv_of end size) (λ operand. is_rest rests.Clauses operand ≡ true)
recv_fits end size = if_then (λ operand. is_rest rests.Clauses operand ≡ true) (λ place. option_map (operands.Recv place) (num_of size)) (num_of end) (always (λ place. IfSome (option_map (operands.Recv place) (num_of size)) (λ operand. is_rest rests.Clauses operand ≡ true)) (num_of end) (λ place. mapped (λ operand. is_rest rests.Clauses operand ≡ true) (operands.Recv place) (num_of size) (λ x. refl)))

clauses_fit : (tokens : List Token) → IfSome (clauses_of tokens) (FitRest rests.Clauses)
clauses_fit [] = refl
clauses_fit (token ∷ end ∷ what ∷ rest) = one_more rests.Clauses (if is_plain (codes "send") token then send_of end what else (if is_plain (codes "recv") token then recv_of end what else None)) (clauses_of rest)
    (if_test (λ operand. is_rest rests.Clauses operand ≡ true) (is_plain (codes "send") token) (send_of end what) (if is_plain (codes "recv") token then recv_of end what else None) (λ e. send_fits end what)
    (λ e. if_test (λ operand. is_rest rests.Clauses operand ≡ true) (is_plain (codes "recv") token) (recv_of end what) None (λ f. recv_fits end what) (λ f. tt)))
    (clauses_fit rest)
clauses_fit _ = tt

-- where any number may stand
any_many : (rest : Rest) (o : Option (List Operand)) → ((list : List Operand) → is_many rest list ≡ true) → IfSome o (FitRest rest) → IfSome o (Behind rest)
any_many rest None m h = tt
any_many rest (Some list) m h = and_from (list_all (is_rest rest) list) (is_many rest list) h (m list)

rest_fits : (rest : Rest) (tokens : List Token) → IfSome (rest_of rest tokens) (Behind rest)
rest_fits rests.Nothing [] = refl
rest_fits rests.Nothing (token ∷ tokens) = tt
rest_fits rests.Items tokens = items_fit tokens
rest_fits rests.Args tokens = any_many rests.Args (args_of tokens) (λ list. refl) (args_fit tokens)
rest_fits rests.Clauses tokens = any_many rests.Clauses (clauses_of tokens) (λ list. refl) (clauses_fit tokens)

pub operands_fit : (list : List Kind) (rest : Rest) (tokens : List Token) → IfSome (operands_of list rest tokens) (λ found. are_kinds list rest found ≡ true)
operands_fit [] rest tokens = rest_fits rest tokens
operands_fit (kind ∷ more) rest [] = tt
operands_fit (kind ∷ more) rest (token ∷ tokens) = if_joined (λ operand. is_kind kind operand ≡ true) (λ found. are_kinds more rest found ≡ true) (λ found. are_kinds (kind ∷ more) rest found ≡ true) (operand_of kind token) (operands_of more rest tokens)
    (λ operand found e f. and_from (is_kind kind operand) (are_kinds more rest found) e f) (kind_fits kind token) (operands_fit more rest tokens)

-- a register that there is
abbrev pub is_small : Register → Bool
is_small (registers.Number place) = is_register place
is_small (registers.Bytes place) = is_register place

one_small : (a : Bool) → (a && true) ≡ true → a ≡ true
one_small true e = refl
one_small false e = cc

two_small : (a b : Bool) → (a && (b && true)) ≡ true → (a && b) ≡ true
two_small true b e = one_small b e
two_small false b e = cc

dest_fits : (form : Form) (list : List Register) → list_all is_small list ≡ true → IfSome (dest_of form list) (λ dest. is_dest form dest ≡ true)
dest_fits OneNumber (registers.Number first ∷ []) e = one_small (is_register first) e
dest_fits TwoNumbers (registers.Number first ∷ registers.Number second ∷ []) e = two_small (is_register first) (is_register second) e
dest_fits OneBytes (registers.Bytes first ∷ []) e = one_small (is_register first) e
dest_fits TwoBytes (registers.Bytes first ∷ registers.Bytes second ∷ []) e = two_small (is_register first) (is_register second) e
dest_fits CodeAndBytes (registers.Number first ∷ registers.Bytes second ∷ []) e = two_small (is_register first) (is_register second) e
dest_fits Choice (registers.Number first ∷ registers.Bytes second ∷ []) e = two_small (is_register first) (is_register second) e
dest_fits _ _ e = tt

pub dest_at_fits : (word : Word) (targets : List Register) → list_all is_small targets ≡ true → IfSome (dest_at word targets) (λ dest. may_hold word dest ≡ true)
dest_at_fits word [] e = refl
dest_at_fits word (register ∷ targets) e = if_map (λ dest. may_hold word dest ≡ true) (λ dest. Some dest) (dest_of (form_of word) (register ∷ targets)) (dest_fits (form_of word) (register ∷ targets) e)
