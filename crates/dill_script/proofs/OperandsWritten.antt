-- What tokens were read as, as operands of a call, is written as those tokens.
use Rattle.std.proofs.Common.{◌≡◌, ℕ, List, [], ◌∷◌, ◌++◌, length, map, flat_map, true, ◌&&◌, ◌==◌, nat_le, if◌then◌else◌, Option, Some, None, IfSome, option_map, option_and_then, refl, sym, ap, ◌∙◌, codes, bytes_eq}
use Rattle.std.proofs.lemmas.Bool.{eqb-true}
use Rattle.dill_calls.specs.CallTable.{Form, OneNumber, TwoNumbers, OneBytes, TwoBytes, CodeAndBytes, Choice}
use Rattle.dill_script.specs.declared.form.Kind.{Kind}
use Rattle.dill_script.specs.declared.form.Kind.TheVariants as kinds
use Rattle.dill_script.specs.declared.form.Rest.{Rest}
use Rattle.dill_script.specs.declared.form.Rest.TheVariants as rests
use Rattle.dill_script.specs.declared.form.Operand.{Operand}
use Rattle.dill_script.specs.declared.form.Operand.TheVariants as operands
use Rattle.dill_script.specs.declared.line.Register.{Register}
use Rattle.dill_script.specs.declared.line.Register.TheVariants as registers
use Rattle.dill_script.specs.declared.operand.Num.TheVariants as nums
use Rattle.dill_script.specs.declared.operand.Bytes.TheVariants as bytes
use Rattle.dill_script.specs.declared.operand.Wait.TheVariants as waits
use Rattle.dill_script.specs.declared.operand.Order.TheVariants as orders
use Rattle.dill_script.specs.declared.operand.Mode.TheVariants as modes
use Rattle.dill_script.specs.declared.operand.Role.TheVariants as roles
use Rattle.dill_script.specs.Numbers.{named, only_if, each, joined, is_name, register_of, address_of}
use Rattle.dill_script.specs.Operands.{plain_in, number_place, bytes_place, number_register, bytes_register, num_of_plain, num_of, bytes_of, wait_of_plain, wait_of, order_text, mode_text, role_text, name_of, operand_of, item_of, items_of, send_of, recv_of, args_of, clauses_of, rest_of, operands_of, dest_of}
use Rattle.dill_script.specs.Printing.{number_register_text, bytes_register_text, num_text, bytes_token, wait_text, address_text, operand_tokens, dest_tokens}
use Rattle.dill_script.specs.Tokens.{Token, Plain, Text, is_plain}
use Rattle.dill_script.proofs.Addresses.{address_is}
use Rattle.dill_script.proofs.Options.{if_map, if_or, if_then, if_more, if_test, if_only, if_joined}
use Rattle.dill_script.proofs.PlainsWritten.{named_is, bytes_same, lettered, number_register_is, bytes_register_is, num_is}

-- what a plain token is read as, of a token
pub of_plain : {X : Type 0} (f : List ℕ → Option X) (text : X → List ℕ) (token : Token) → ((word : List ℕ) → IfSome (f word) (λ x. text x ≡ word)) → IfSome (option_and_then f (plain_in token)) (λ x. Plain (text x) ≡ token)
of_plain f text (Plain word) h = if_more (λ x. text x ≡ word) (λ x. Plain (text x) ≡ Plain word) (f word) (λ x e. ap Plain e) (h word)
of_plain f text (Text literal) h = tt

pub num_token_is : (token : Token) → IfSome (num_of token) (λ n. Plain (num_text n) ≡ token)
num_token_is token = of_plain num_of_plain num_text token num_is

pub register_token_is : (token : Token) → IfSome (number_register token) (λ p. Plain (number_register_text p) ≡ token)
register_token_is (Plain word) = if_more (λ p. number_register_text p ≡ word) (λ p. Plain (number_register_text p) ≡ Plain word) (option_and_then number_place (register_of word)) (λ p e. ap Plain e) (number_register_is word)
register_token_is (Text literal) = tt

pub bytes_register_token_is : (token : Token) → IfSome (bytes_register token) (λ p. Plain (bytes_register_text p) ≡ token)
bytes_register_token_is (Plain word) = if_more (λ p. bytes_register_text p ≡ word) (λ p. Plain (bytes_register_text p) ≡ Plain word) (option_and_then bytes_place (register_of word)) (λ p e. ap Plain e) (bytes_register_is word)
bytes_register_token_is (Text literal) = tt

pub bytes_token_is : (token : Token) → IfSome (bytes_of token) (λ b. bytes_token b ≡ token)
bytes_token_is (Text literal) = refl
bytes_token_is (Plain word) = if_map (λ b. bytes_token b ≡ Plain word) bytes.Register (option_and_then bytes_place (register_of word)) (if_more (λ p. bytes_register_text p ≡ word) (λ p. Plain (bytes_register_text p) ≡ Plain word) (option_and_then bytes_place (register_of word)) (λ p e. ap Plain e) (bytes_register_is word))

wait_word_is : (word : List ℕ) → IfSome (wait_of_plain word) (λ w. wait_text w ≡ word)
wait_word_is [] = tt
wait_word_is (first ∷ rest) = if_test (λ w. wait_text w ≡ first ∷ rest) (bytes_eq (first ∷ rest) (codes "-1")) (Some waits.Never) (if first == 43 then option_map waits.After (num_of_plain rest) else option_map waits.At (num_of_plain (first ∷ rest)))
    (λ e. sym (bytes_same (first ∷ rest) (codes "-1") e))
    (λ e. if_test (λ w. wait_text w ≡ first ∷ rest) (first == 43) (option_map waits.After (num_of_plain rest)) (option_map waits.At (num_of_plain (first ∷ rest)))
    (λ f. if_map (λ w. wait_text w ≡ first ∷ rest) waits.After (num_of_plain rest) (if_more (λ n. num_text n ≡ rest) (λ n. 43 ∷ num_text n ≡ first ∷ rest) (num_of_plain rest) (λ n g. lettered 43 first (num_text n) rest (eqb-true first 43 f) g) (num_is rest)))
    (λ f. if_map (λ w. wait_text w ≡ first ∷ rest) waits.At (num_of_plain (first ∷ rest)) (num_is (first ∷ rest))))

name_word_is : (word : List ℕ) → IfSome (only_if (is_name word) word) (λ name. name ≡ word)
name_word_is word = if_only (λ name. name ≡ word) (is_name word) word (λ e. refl)

pub name_token_is : (token : Token) → IfSome (name_of token) (λ name. Plain name ≡ token)
name_token_is token = of_plain (λ word. only_if (is_name word) word) (λ name. name) token name_word_is

-- an operand of one token, from what that token was read as
one_token : {X : Type 0} (make : X → Operand) (text : X → Token) (o : Option X) (token : Token) → ((x : X) → operand_tokens (make x) ≡ text x ∷ []) → IfSome o (λ x. text x ≡ token) → IfSome (option_map make o) (λ operand. operand_tokens operand ≡ token ∷ [])
one_token make text o token m h = if_map (λ operand. operand_tokens operand ≡ token ∷ []) make o (if_more (λ x. text x ≡ token) (λ x. operand_tokens (make x) ≡ token ∷ []) o (λ x e. m x ∙ ap (λ t. t ∷ []) e) h)

pub operand_is : (kind : Kind) (token : Token) → IfSome (operand_of kind token) (λ operand. operand_tokens operand ≡ token ∷ [])
operand_is kinds.Num token = one_token operands.Num (λ n. Plain (num_text n)) (num_of token) token (λ n. refl) (num_token_is token)
operand_is kinds.Bytes token = one_token operands.Bytes bytes_token (bytes_of token) token (λ b. refl) (bytes_token_is token)
operand_is kinds.Wait token = one_token operands.Wait (λ w. Plain (wait_text w)) (wait_of token) token (λ w. refl) (of_plain wait_of_plain wait_text token wait_word_is)
operand_is kinds.Address token = one_token operands.Address (λ a. Plain (address_text a)) (option_and_then address_of (plain_in token)) token (λ a. refl) (of_plain address_of address_text token address_is)
operand_is kinds.Program token = one_token operands.Program (λ name. Plain name) (name_of token) token (λ name. refl) (name_token_is token)
operand_is kinds.Order token = one_token operands.Order (λ x. Plain (order_text x)) (option_and_then (named order_text (orders.Big ∷ orders.Little ∷ [])) (plain_in token)) token (λ x. refl) (of_plain (named order_text (orders.Big ∷ orders.Little ∷ [])) order_text token (named_is order_text (orders.Big ∷ orders.Little ∷ [])))
operand_is kinds.Mode token = one_token operands.Mode (λ x. Plain (mode_text x)) (option_and_then (named mode_text (modes.Text ∷ modes.Binary ∷ [])) (plain_in token)) token (λ x. refl) (of_plain (named mode_text (modes.Text ∷ modes.Binary ∷ [])) mode_text token (named_is mode_text (modes.Text ∷ modes.Binary ∷ [])))
operand_is kinds.Role token = one_token operands.Role (λ x. Plain (role_text x)) (option_and_then (named role_text (roles.Client ∷ roles.Server ∷ [])) (plain_in token)) token (λ x. refl) (of_plain (named role_text (roles.Client ∷ roles.Server ∷ [])) role_text token (named_is role_text (roles.Client ∷ roles.Server ∷ [])))

item_is : (token : Token) → IfSome (item_of token) (λ operand. operand_tokens operand ≡ token ∷ [])
item_is token = if_or (λ operand. operand_tokens operand ≡ token ∷ []) (option_map operands.Bytes (bytes_of token)) (option_map (λ place. operands.Num (nums.Register place)) (number_register token))
    (one_token operands.Bytes bytes_token (bytes_of token) token (λ b. refl) (bytes_token_is token))
    (one_token (λ place. operands.Num (nums.Register place)) (λ place. Plain (number_register_text place)) (number_register token) token (λ p. refl) (register_token_is token))

-- operands before others are written before them
spliced : (operand : Operand) (list : List Operand) (some more : List Token) → operand_tokens operand ≡ some → flat_map operand_tokens list ≡ more → flat_map operand_tokens (operand ∷ list) ≡ some ++ more
spliced operand list some more e f = rw e (rw f refl)

each_is : (f : Token → Option Operand) (tokens : List Token) → ((token : Token) → IfSome (f token) (λ operand. operand_tokens operand ≡ token ∷ [])) → IfSome (each f tokens) (λ list. flat_map operand_tokens list ≡ tokens)
each_is f [] h = refl
each_is f (token ∷ tokens) h = if_joined (λ operand. operand_tokens operand ≡ token ∷ []) (λ list. flat_map operand_tokens list ≡ tokens) (λ list. flat_map operand_tokens list ≡ token ∷ tokens) (f token) (each f tokens) (λ operand list e g. spliced operand list (token ∷ []) tokens e g) (h token) (each_is f tokens h)

-- the token is the plain token that it was tested to be
pub is_that_plain : (word : List ℕ) (token : Token) → is_plain word token ≡ true → Plain word ≡ token
is_that_plain word (Plain bytes) e = ap Plain (sym (bytes_same bytes word e))
is_that_plain word (Text literal) e = cc

items_is : (tokens : List Token) → IfSome (items_of tokens) (λ list. flat_map operand_tokens list ≡ tokens)
items_is tokens = if_test (λ list. flat_map operand_tokens list ≡ tokens) (nat_le 1 (length tokens) && nat_le (length tokens) 16) (each item_of tokens) None (λ e. each_is item_of tokens item_is) (λ e. tt)

two_tokens : (a b c d : Token) (rest : List Token) → a ≡ c → b ≡ d → a ∷ b ∷ rest ≡ c ∷ d ∷ rest
two_tokens a b c d rest e f = cc

give_is : (token next : Token) → is_plain (codes "give") token ≡ true → IfSome (option_map operands.Give (number_register next)) (λ operand. operand_tokens operand ≡ token ∷ next ∷ [])
give_is token next e = if_map (λ operand. operand_tokens operand ≡ token ∷ next ∷ []) operands.Give (number_register next) (if_more (λ p. Plain (number_register_text p) ≡ next) (λ p. Plain (codes "give") ∷ Plain (number_register_text p) ∷ [] ≡ token ∷ next ∷ []) (number_register next) (λ p f. two_tokens (Plain (codes "give")) (Plain (number_register_text p)) token next [] (is_that_plain (codes "give") token e) f) (register_token_is next))

num_operand_is : (token : Token) → IfSome (option_map operands.Num (num_of token)) (λ operand. operand_tokens operand ≡ token ∷ [])
num_operand_is token = one_token operands.Num (λ n. Plain (num_text n)) (num_of token) token (λ n. refl) (num_token_is token)

args_is : (tokens : List Token) → IfSome (args_of tokens) (λ list. flat_map operand_tokens list ≡ tokens)
args_is [] = refl
args_is (token ∷ []) = if_joined (λ operand. operand_tokens operand ≡ token ∷ []) (λ list. flat_map operand_tokens list ≡ []) (λ list. flat_map operand_tokens list ≡ token ∷ []) (option_map operands.Num (num_of token)) (Some []) (λ operand list e g. spliced operand list (token ∷ []) [] e g) (num_operand_is token) refl
args_is (token ∷ next ∷ rest) = if_test (λ list. flat_map operand_tokens list ≡ token ∷ next ∷ rest) (is_plain (codes "give") token) (joined (option_map operands.Give (number_register next)) (args_of rest)) (joined (option_map operands.Num (num_of token)) (args_of (next ∷ rest)))
    (λ e. if_joined (λ operand. operand_tokens operand ≡ token ∷ next ∷ []) (λ list. flat_map operand_tokens list ≡ rest) (λ list. flat_map operand_tokens list ≡ token ∷ next ∷ rest) (option_map operands.Give (number_register next)) (args_of rest) (λ operand list f g. spliced operand list (token ∷ next ∷ []) rest f g) (give_is token next e) (args_is rest))
    (λ e. if_joined (λ operand. operand_tokens operand ≡ token ∷ []) (λ list. flat_map operand_tokens list ≡ next ∷ rest) (λ list. flat_map operand_tokens list ≡ token ∷ next ∷ rest) (option_map operands.Num (num_of token)) (args_of (next ∷ rest)) (λ operand list f g. spliced operand list (token ∷ []) (next ∷ rest) f g) (num_operand_is token) (args_is (next ∷ rest)))

three_tokens : (a b c d x y : Token) → a ≡ d → b ≡ x → c ≡ y → a ∷ b ∷ c ∷ [] ≡ d ∷ x ∷ y ∷ []
three_tokens a b c d x y e f g = cc

send_is : (token end item : Token) → is_plain (codes "send") token ≡ true → IfSome (send_of end item) (λ operand. operand_tokens operand ≡ token ∷ end ∷ item ∷ [])
send_is token end item e = if_then (λ operand. operand_tokens operand ≡ token ∷ end ∷ item ∷ []) (λ place. option_map (operands.Send place) (bytes_of item)) (num_of end) (if_more (λ n. Plain (num_text n) ≡ end) (λ n. IfSome (option_map (operands.Send n) (bytes_of item)) (λ operand. operand_tokens operand ≡ token ∷ end ∷ item ∷ [])) (num_of end) (λ n f. if_map (λ operand. operand_tokens operand ≡ token ∷ end ∷ item ∷ []) (operands.Send n) (bytes_of item) (if_more (λ b. bytes_token b ≡ item) (λ b. Plain (codes "send") ∷ Plain (num_text n) ∷ bytes_token b ∷ [] ≡ token ∷ end ∷ item ∷ []) (bytes_of item) (λ b g. three_tokens (Plain (codes "send")) (Plain (num_text n)) (bytes_token b) token end item (is_that_plain (codes "send") token e) f g) (bytes_token_is item))) (num_token_is end))

recv_is : (token end size : Token) → is_plain (codes "recv") token ≡ true → IfSome (recv_of end size) (λ operand. operand_tokens operand ≡ token ∷ end ∷ size ∷ [])
recv_is token end size e = if_then (λ operand. operand_tokens operand ≡ token ∷ end ∷ size ∷ []) (λ place. option_map (operands.Recv place) (num_of size)) (num_of end) (if_more (λ n. Plain (num_text n) ≡ end) (λ n. IfSome (option_map (operands.Recv n) (num_of size)) (λ operand. operand_tokens operand ≡ token ∷ end ∷ size ∷ [])) (num_of end) (λ n f. if_map (λ operand. operand_tokens operand ≡ token ∷ end ∷ size ∷ []) (operands.Recv n) (num_of size) (if_more (λ b. Plain (num_text b) ≡ size) (λ b. Plain (codes "recv") ∷ Plain (num_text n) ∷ Plain (num_text b) ∷ [] ≡ token ∷ end ∷ size ∷ []) (num_of size) (λ b g. three_tokens (Plain (codes "recv")) (Plain (num_text n)) (Plain (num_text b)) token end size (is_that_plain (codes "recv") token e) f g) (num_token_is size))) (num_token_is end))

clause_is : (token end what : Token) → IfSome (if is_plain (codes "send") token then send_of end what else (if is_plain (codes "recv") token then recv_of end what else None)) (λ operand. operand_tokens operand ≡ token ∷ end ∷ what ∷ [])
clause_is token end what = if_test (λ operand. operand_tokens operand ≡ token ∷ end ∷ what ∷ []) (is_plain (codes "send") token) (send_of end what) (if is_plain (codes "recv") token then recv_of end what else None) (λ e. send_is token end what e) (λ e. if_test (λ operand. operand_tokens operand ≡ token ∷ end ∷ what ∷ []) (is_plain (codes "recv") token) (recv_of end what) None (λ f. recv_is token end what f) (λ f. tt))

clauses_is : (tokens : List Token) → IfSome (clauses_of tokens) (λ list. flat_map operand_tokens list ≡ tokens)
clauses_is [] = refl
clauses_is (token ∷ end ∷ what ∷ rest) = if_joined (λ operand. operand_tokens operand ≡ token ∷ end ∷ what ∷ []) (λ list. flat_map operand_tokens list ≡ rest) (λ list. flat_map operand_tokens list ≡ token ∷ end ∷ what ∷ rest) (if is_plain (codes "send") token then send_of end what else (if is_plain (codes "recv") token then recv_of end what else None)) (clauses_of rest) (λ operand list f g. spliced operand list (token ∷ end ∷ what ∷ []) rest f g) (clause_is token end what) (clauses_is rest)
clauses_is _ = tt

rest_is : (rest : Rest) (tokens : List Token) → IfSome (rest_of rest tokens) (λ list. flat_map operand_tokens list ≡ tokens)
rest_is rests.Nothing [] = refl
rest_is rests.Nothing (token ∷ tokens) = tt
rest_is rests.Items tokens = items_is tokens
rest_is rests.Args tokens = args_is tokens
rest_is rests.Clauses tokens = clauses_is tokens

-- the operands of a call are written as they were read
pub operands_is : (kinds : List Kind) (rest : Rest) (tokens : List Token) → IfSome (operands_of kinds rest tokens) (λ list. flat_map operand_tokens list ≡ tokens)
operands_is [] rest tokens = rest_is rest tokens
operands_is (kind ∷ kinds) rest [] = tt
operands_is (kind ∷ kinds) rest (token ∷ tokens) = if_joined (λ operand. operand_tokens operand ≡ token ∷ []) (λ list. flat_map operand_tokens list ≡ tokens) (λ list. flat_map operand_tokens list ≡ token ∷ tokens) (operand_of kind token) (operands_of kinds rest tokens) (λ operand list e g. spliced operand list (token ∷ []) tokens e g) (operand_is kind token) (operands_is kinds rest tokens)

-- a register as a token
abbrev pub register_token : Register → Token
register_token (registers.Number place) = Plain (number_register_text place)
register_token (registers.Bytes place) = Plain (bytes_register_text place)

pub dest_is : (form : Form) (list : List Register) → IfSome (dest_of form list) (λ dest. dest_tokens (Some dest) ≡ map register_token list ++ Plain (codes "=") ∷ [])
dest_is OneNumber (registers.Number first ∷ []) = refl
dest_is TwoNumbers (registers.Number first ∷ registers.Number second ∷ []) = refl
dest_is OneBytes (registers.Bytes first ∷ []) = refl
dest_is TwoBytes (registers.Bytes first ∷ registers.Bytes second ∷ []) = refl
dest_is CodeAndBytes (registers.Number first ∷ registers.Bytes second ∷ []) = refl
dest_is Choice (registers.Number first ∷ registers.Bytes second ∷ []) = refl
dest_is _ _ = tt
