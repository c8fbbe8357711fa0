-- The laws of what lines say.
use Rattle.std.proofs.Common.{◌≡◌, ◌<◌, ◌+◌, ◌/◌, ◌%◌, ◌++◌, ◌∷◌, [], ◌↔◌, List, ℕ, length, take, get_or, arith, refl, sym, ap, ◌∙◌, subst, Bool, true, false, ◌&&◌, ◌||◌, eqb, nat_lt, ltb, inl, inr, Option, Some, None, Result, Ok, Err, IsTrue, append_assoc, if◌then◌else◌}
use Rattle.std.specs.List.{list_all}
use Rattle.std.proofs.lemmas.Bool.{eq-eqb, ne_eqb, and_parts, and_from, ltb-true, ltb-false, lt-ltb, le-ltb, not_from_false, or_from}
use Rattle.std.proofs.lemmas.List.{take_at, append-nil}
use Rattle.std.proofs.lemmas.List.Folds.{list_all-append}
use Rattle.dill_base.specs.declared.errno.Errno.{Errno}
use Rattle.dill_base.specs.declared.errno.Errno.TheVariants.{Einval, Emsgsize}
use Rattle.dill_base.specs.declared.errno.Front.TheVariants.{Whole}
use Rattle.dill_http.specs.declared.span.Span.{Span}
use Rattle.dill_http.specs.declared.span.Cut.{Cut}
use Rattle.dill_http.specs.Bytes.{is_inner, is_token_byte, is_resource_byte, is_text_byte, is_token, is_resource, is_text, is_bare}
use Rattle.dill_http.specs.Lines.{line_limit, crlf, front_of_line, LineSpells}
use Rattle.dill_http.specs.Heads.{Said, Request, Status, Field, is_right, is_code, line_of, LineWrites, LineReads, ReadsRequest, ReadsStatus, ReadsField, IsVersion, own_version, code_digits}
use Rattle.dill_http.specs.Reading.{part, span, cut_at, request_cut, status_cut, field_cut, token_length}
use Rattle.dill_http.specs.Writing.{line_due, unless}
use Rattle.dill_http.specs.Laws.{FindsCut, FindsStatus}
use Rattle.dill_http.proofs.Runs.{length_of_run}
use Rattle.dill_http.proofs.Requests as requests
use Rattle.dill_http.proofs.Fields as fields
use Rattle.dill_http.proofs.Statuses as statuses
use Rattle.dill_http.proofs.Judged as judged

-- What is due, by the test of the form and the test of the length.
abbrev due_as : Bool → Bool → List ℕ → Result (List ℕ) Errno
due_as r l w = unless (if r then (if l then Some Emsgsize else None) else Some Einval) w

due_is : (said : Said) → line_due said ≡ due_as (is_right said) (ltb line_limit (length (line_of said))) (line_of said ++ crlf)
unfolding line_due
due_is said = refl

ok_as : (r l : Bool) (v w : List ℕ) → due_as r l v ≡ Ok w → (r ≡ true) × (l ≡ false) × (w ≡ v)
ok_as true true v w e = absurd (cc)
ok_as true false v w e = (refl, refl, cc)
ok_as false l v w e = absurd (cc)

as_ok : (r l : Bool) (v : List ℕ) → r ≡ true → l ≡ false → due_as r l v ≡ Ok v
as_ok true true v e f = absurd (cc)
as_ok true false v e f = refl
as_ok false l v e f = absurd (cc)

pub written : (said : Said) (w : List ℕ) → line_due said ≡ Ok w → LineWrites said w
written said w e =
    let k = ok_as (is_right said) (ltb line_limit (length (line_of said))) (line_of said ++ crlf) w (sym (due_is said) ∙ e) in
    record { right = k.0; short = ltb-false line_limit (length (line_of said)) k.1; whole = k.2 }

pub writes : (said : Said) (w : List ℕ) → LineWrites said w → line_due said ≡ Ok w
writes said w k = due_is said ∙ as_ok (is_right said) (ltb line_limit (length (line_of said))) (line_of said ++ crlf) k.right (le-ltb line_limit (length (line_of said)) k.short) ∙ ap Ok (sym k.whole)

einval_as : (r l : Bool) (v : List ℕ) → (due_as r l v ≡ Err Einval) ↔ (r ≡ false)
einval_as true true v = (λ e. absurd (cc), λ e. absurd (cc))
einval_as true false v = (λ e. absurd (cc), λ e. absurd (cc))
einval_as false l v = (λ e. refl, λ e. refl)

emsgsize_as : (r l : Bool) (v : List ℕ) → (due_as r l v ≡ Err Emsgsize) ↔ ((r ≡ true) × (l ≡ true))
emsgsize_as true true v = (λ e. (refl, refl), λ e. refl)
emsgsize_as true false v = (λ e. absurd (cc), λ e. absurd (bad e.1))
  where
    bad : false ≡ true → ⊥
    bad e = cc
emsgsize_as false l v = (λ e. absurd (cc), λ e. absurd (bad e.0))
  where
    bad : false ≡ true → ⊥
    bad e = cc

pub no_form : (said : Said) → (line_due said ≡ Err Einval) ↔ (is_right said ≡ false)
no_form said =
    let k = einval_as (is_right said) (ltb line_limit (length (line_of said))) (line_of said ++ crlf) in
    (λ e. k.0 (sym (due_is said) ∙ e), λ e. due_is said ∙ k.1 e)

pub too_long : (said : Said) → (line_due said ≡ Err Emsgsize) ↔ (IsTrue (is_right said) × (line_limit < length (line_of said)))
too_long said =
    let k = emsgsize_as (is_right said) (ltb line_limit (length (line_of said))) (line_of said ++ crlf) in (
      λ e. let j = k.0 (sym (due_is said) ∙ e) in (j.0, ltb-true line_limit (length (line_of said)) j.1),
      λ e. due_is said ∙ k.1 (e.0, lt-ltb line_limit (length (line_of said)) e.1),
    )

-- a class without CR and LF
inner_class : (p : ℕ → Bool) → p 13 ≡ false → p 10 ≡ false → (b : ℕ) → p b ≡ true → is_inner b ≡ true
inner_class p f g b h = not_from_false (eqb b 13 || eqb b 10) (or_from (eqb b 13) (eqb b 10) (ne_eqb b 13 (λ e. clash (p b) h (ap p e ∙ f))) (ne_eqb b 10 (λ e. clash (p b) h (ap p e ∙ g))))
  where
    clash : (x : Bool) → x ≡ true → x ≡ false → ⊥
    clash x e f = cc

all_inner : (p : ℕ → Bool) → p 13 ≡ false → p 10 ≡ false → (u : List ℕ) → list_all p u ≡ true → list_all is_inner u ≡ true
all_inner p f g [] h = refl
all_inner p f g (b ∷ u) h =
    let k = and_parts (p b) (list_all p u) h in
    and_from (is_inner b) (list_all is_inner u) (inner_class p f g b k.0) (all_inner p f g u k.1)

token_inner : (u : List ℕ) → is_token u ≡ true → list_all is_inner u ≡ true
unfolding is_token_byte
token_inner u h = all_inner is_token_byte refl refl u (and_parts (nat_lt 0 (length u)) (list_all is_token_byte u) h).1

joined : (u v : List ℕ) → list_all is_inner u ≡ true → list_all is_inner v ≡ true → list_all is_inner (u ++ v) ≡ true
joined u v h k = list_all-append is_inner u v ∙ and_from (list_all is_inner u) (list_all is_inner v) h k

digit_inner : (n : ℕ) → is_inner (48 + n) ≡ true
digit_inner n = not_from_false (eqb (48 + n) 13 || eqb (48 + n) 10) (or_from (eqb (48 + n) 13) (eqb (48 + n) 10) (ne_eqb (48 + n) 13 (λ e. omega arith)) (ne_eqb (48 + n) 10 (λ e. omega arith)))

three_inner : (a b c : ℕ) (u : List ℕ) → is_inner a ≡ true → is_inner b ≡ true → is_inner c ≡ true → list_all is_inner u ≡ true → list_all is_inner (a ∷ b ∷ c ∷ u) ≡ true
three_inner a b c u e f g h = and_from (is_inner a) (list_all is_inner (b ∷ c ∷ u)) e (and_from (is_inner b) (list_all is_inner (c ∷ u)) f (and_from (is_inner c) (list_all is_inner u) g h))

-- neither CR nor LF stands in a line that is sent
line_inner : (said : Said) → is_right said ≡ true → list_all is_inner (line_of said) ≡ true
line_inner (Request command resource) h =
    let k = and_parts (is_token command) (is_resource resource) h in
    let r = and_parts (nat_lt 0 (length resource)) (list_all is_resource_byte resource) k.1 in
    joined command (32 ∷ resource ++ (32 ∷ own_version)) (token_inner command k.0) (joined resource (32 ∷ own_version) (all_inner is_resource_byte refl refl resource r.1) refl)
line_inner (Status code reason) h =
    let k = and_parts (is_code code) (is_text reason) h in
    three_inner (48 + code / 100) (48 + code / 10 % 10) (48 + code % 10) (32 ∷ reason) (digit_inner (code / 100)) (digit_inner (code / 10 % 10)) (digit_inner (code % 10)) (all_inner is_text_byte refl refl reason k.1)
line_inner (Field name value) h =
    let k = and_parts (is_token name) (is_text value && is_bare value) h in
    let v = and_parts (is_text value) (is_bare value) k.1 in
    joined name (58 ∷ 32 ∷ value) (token_inner name k.0) (all_inner is_text_byte refl refl value v.0)

spells : (said : Said) (w : List ℕ) → LineWrites said w → LineSpells (line_of said) w
spells said w k = record { inner = line_inner said k.right; whole = k.whole }

pub again : (said : Said) (w rest : List ℕ) → LineWrites said w → front_of_line (w ++ rest) ≡ Whole 0 (length (line_of said)) (length w)
again said w rest k = judged.again (line_of said) w rest (spells said w k) k.short

pub free : (said other : Said) (w rest : List ℕ) → LineWrites said w → LineWrites other (w ++ rest) → rest ≡ []
free said other w rest k l = judged.free (line_of said) (line_of other) w rest (spells said w k) (spells other (w ++ rest) l)

-- the line that is sent says what it was sent for
own : (said : Said) → is_right said ≡ true → LineReads (line_of said) said
own (Request command resource) h = record { right = h; version = own_version; known = inl refl; whole = refl }
own (Status code reason) h = record { right = h; version = own_version; known = inl refl; end = 32 ∷ reason; told = inl refl; whole = refl }
own (Field name value) h = record { right = h; before = 32 ∷ []; after = []; blank = refl; whole = ap (λ x. name ++ (58 ∷ 32 ∷ x)) (sym (append-nil value)) }

pub says : (said : Said) (w rest : List ℕ) → LineWrites said w → LineReads (take (length (line_of said)) (w ++ rest)) said
says said w rest k =
    let e : w ++ rest ≡ line_of said ++ (crlf ++ rest) = ap (λ x. x ++ rest) k.whole ∙ append_assoc (line_of said) crlf rest in
    let t : take (length (line_of said)) (w ++ rest) ≡ line_of said = ap (take (length (line_of said))) e ∙ take_at (line_of said) (crlf ++ rest) (length (line_of said)) refl in
    subst (λ (x : List ℕ). LineReads x said) (sym t) (own said k.right)

-- what a line says is found
pub request_found : (line command resource : List ℕ) → LineReads line (Request command resource) → FindsCut line (request_cut line) command resource
request_found line command resource k =
    let p = requests.parts_of line command resource k.version k.whole in
    record { cut = cut_at (span 0 (length command)) (span (length command + 1) (length command + 1 + length resource)); found_it = requests.request_found line command resource k; holds_first = p.0; holds_second = p.1 }

pub status_found : (line : List ℕ) (code : ℕ) (reason : List ℕ) → LineReads line (Status code reason) → FindsStatus line (status_cut line) code reason
status_found line code reason k =
    let f : statuses.Stated line code reason = statuses.status_found line code reason k in
    record { place = f.place; found_it = f.cut; holds = f.second }

pub field_found : (line name value : List ℕ) → LineReads line (Field name value) → FindsCut line (field_cut line) name value
field_found line name value k =
    let f : fields.Named line name value = fields.field_found line name value k in
    record { cut = cut_at (span 0 (length name)) f.place; found_it = f.cut; holds_first = f.first; holds_second = f.second }

-- the byte behind the token at the front tells the kinds apart
behind : List ℕ → ℕ
behind line = get_or line (token_length line) 0

behind_token : (c : List ℕ) (b : ℕ) (rest : List ℕ) → list_all is_token_byte c ≡ true → is_token_byte b ≡ false → behind (c ++ (b ∷ rest)) ≡ b
unfolding behind
behind_token c b rest h s = ap (λ n. get_or (c ++ (b ∷ rest)) n 0) (length_of_run is_token_byte c (b ∷ rest) h s) ∙ requests.byte_behind c b rest

behind_request : (line command resource : List ℕ) → ReadsRequest line command resource → behind line ≡ 32
behind_request line command resource k =
    let f = and_parts (is_token command) (is_resource resource) k.right in
    let t = and_parts (nat_lt 0 (length command)) (list_all is_token_byte command) f.0 in
    ap behind k.whole ∙ behind_token command 32 (resource ++ (32 ∷ k.version)) t.1 requests.no_token_space

behind_field : (line name value : List ℕ) → ReadsField line name value → behind line ≡ 58
behind_field line name value k =
    let f = and_parts (is_token name) (is_text value && is_bare value) k.right in
    let t = and_parts (nat_lt 0 (length name)) (list_all is_token_byte name) f.0 in
    ap behind k.whole ∙ behind_token name 58 (k.before ++ (value ++ k.after)) t.1 fields.no_token_colon

behind_version : (v rest : List ℕ) → IsVersion v → behind (v ++ rest) ≡ 47
unfolding behind is_token_byte
behind_version v rest (inl e) = rw e refl
behind_version v rest (inr e) = rw e refl

behind_status : (line : List ℕ) (code : ℕ) (reason : List ℕ) → ReadsStatus line code reason → behind line ≡ 47
behind_status line code reason k = ap behind k.whole ∙ behind_version k.version (32 ∷ code_digits code ++ k.end) k.known

two_kinds : (n a b : ℕ) → n ≡ a → n ≡ b → eqb a b ≡ false → ⊥
two_kinds n a b e f g = clash (eqb a b) (eq-eqb a b (sym e ∙ f)) g
  where
    clash : (x : Bool) → x ≡ true → x ≡ false → ⊥
    clash x e f = cc

-- two that were found in one place are one
same_cut : (line : List ℕ) (o : Option Cut) (a b c d : List ℕ) → FindsCut line o a b → FindsCut line o c d → (a ≡ c) × (b ≡ d)
same_cut line o a b c d k l =
    let e : k.cut ≡ l.cut = one_cut k.cut l.cut (sym k.found_it ∙ l.found_it) in
    (sym k.holds_first ∙ ap (λ (x : Cut). part line x.first) e ∙ l.holds_first, sym k.holds_second ∙ ap (λ (x : Cut). part line x.second) e ∙ l.holds_second)
  where
    one_cut : (x y : Cut) → Some x ≡ Some y → x ≡ y
    one_cut x y e = cc

same_status : (line : List ℕ) (o : Option (ℕ × Span)) (n m : ℕ) (a b : List ℕ) → FindsStatus line o n a → FindsStatus line o m b → (n ≡ m) × (a ≡ b)
same_status line o n m a b k l =
    let e : (n, k.place) ≡ (m, l.place) = one_pair (n, k.place) (m, l.place) (sym k.found_it ∙ l.found_it) in
    (ap (λ (x : ℕ × Span). x.0) e, sym k.holds ∙ ap (λ (x : ℕ × Span). part line x.1) e ∙ l.holds)
  where
    one_pair : (x y : ℕ × Span) → Some x ≡ Some y → x ≡ y
    one_pair x y e = cc

pub one : (line : List ℕ) (said other : Said) → LineReads line said → LineReads line other → said ≡ other
one line (Request a b) (Request c d) k l =
    let e = same_cut line (request_cut line) a b c d (request_found line a b k) (request_found line c d l) in
    ap (λ x. Request x b) e.0 ∙ ap (Request c) e.1
one line (Request a b) (Status n c) k l = absurd (two_kinds (behind line) 32 47 (behind_request line a b k) (behind_status line n c l) refl)
one line (Request a b) (Field c d) k l = absurd (two_kinds (behind line) 32 58 (behind_request line a b k) (behind_field line c d l) refl)
one line (Status n a) (Request c d) k l = absurd (two_kinds (behind line) 47 32 (behind_status line n a k) (behind_request line c d l) refl)
one line (Status n a) (Status m b) k l =
    let e = same_status line (status_cut line) n m a b (status_found line n a k) (status_found line m b l) in
    ap (λ x. Status x a) e.0 ∙ ap (Status m) e.1
one line (Status n a) (Field c d) k l = absurd (two_kinds (behind line) 47 58 (behind_status line n a k) (behind_field line c d l) refl)
one line (Field a b) (Request c d) k l = absurd (two_kinds (behind line) 58 32 (behind_field line a b k) (behind_request line c d l) refl)
one line (Field a b) (Status n c) k l = absurd (two_kinds (behind line) 58 47 (behind_field line a b k) (behind_status line n c l) refl)
one line (Field a b) (Field c d) k l =
    let e = same_cut line (field_cut line) a b c d (field_found line a b k) (field_found line c d l) in
    ap (λ x. Field x b) e.0 ∙ ap (Field c) e.1
