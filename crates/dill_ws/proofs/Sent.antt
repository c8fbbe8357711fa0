-- What a side sends is a head that the other reads.
use Rattle.std.proofs.Common.{◌≡◌, ◌<◌, ◌≤◌, ◌+◌, ◌*◌, ◌/◌, ◌%◌, ◌++◌, ◌∷◌, [], ◌&&◌, not, ℕ, suc, zero, List, Bool, true, false, eqb, length, replicate, get_or, Option, Some, None, Ok, arith, sym, ap, ◌∙◌, refl, if◌then◌else◌, length-append}
use Rattle.std.specs.Prelude.{is_some, nat_eq, nat_le, slice_index}
use Rattle.std.specs.List.{list_all}
use Rattle.std.proofs.lemmas.Bool.{and_parts, and_from, leb-true, le-leb, ne_eqb, or_from, or_right}
use Rattle.std.proofs.lemmas.List.{append-nil}
use Rattle.base64.specs.Rfc4648.{encode_symbols, padding_len}
use Rattle.base64.specs.GeneralPurpose.{encode_of, decode_of}
use Rattle.base64.specs.Engines.{standard}
use Rattle.base64.proofs.RoundTrip.{length-encode_symbols}
use Rattle.base64.proofs.EngineFacts.{decode_of-encode_of}
use Rattle.dill_http.specs.Bytes.{is_inner, is_blank, is_resource_byte, is_text_byte, is_token, is_text, is_bare, begins_with, ends_with as ends_in}
use Rattle.dill_http.specs.Reading.{part, field_cut}
use Rattle.dill_http.specs.Laws.{HeadLaws, FindsCut}
use Rattle.dill_ws.specs.Offers.{same_word, value_in, value_under, is_key, has_bytes}
use Rattle.dill_ws.specs.FrameLaws.{AreBytes}

-- a byte that is seen
pub record Seen (b : ℕ) : Type 0 where
  pub low : 33 ≤ b
  pub high : b ≤ 126

seen_of : (b : ℕ) → is_resource_byte b ≡ true → Seen b
seen_of b h =
    let k = and_parts (nat_le 33 b) (nat_le b 126) h in
    record { low = leb-true 33 b k.0; high = leb-true b 126 k.1 }

seen_text : (b : ℕ) → Seen b → is_text_byte b ≡ true
seen_text b s = or_right (eqb b 9) (nat_le 32 b && not (eqb b 127)) (and_from _ _ (le-leb 32 b (omega (arith, s.low))) (ap not (ne_eqb b 127 (λ q. omega (arith, s.high)))))

seen_unblank : (b : ℕ) → Seen b → is_blank b ≡ false
seen_unblank b s = or_from (eqb b 32) (eqb b 9) (ne_eqb b 32 (λ q. omega (arith, s.low))) (ne_eqb b 9 (λ q. omega (arith, s.low)))

pub seen_inner : (b : ℕ) → Seen b → is_inner b ≡ true
seen_inner b s = ap not (or_from (eqb b 13) (eqb b 10) (ne_eqb b 13 (λ q. omega (arith, s.low))) (ne_eqb b 10 (λ q. omega (arith, s.low))))

abbrev pub AreSeen : List ℕ → Type 0
AreSeen v = list_all is_resource_byte v ≡ true

pub seen_list : (p : ℕ → Bool) → ((b : ℕ) → Seen b → p b ≡ true) → (v : List ℕ) → AreSeen v → list_all p v ≡ true
seen_list p f [] h = refl
seen_list p f (b ∷ v) h =
    let k = and_parts (is_resource_byte b) (list_all is_resource_byte v) h in
    and_from _ _ (f b (seen_of b k.0)) (seen_list p f v k.1)

seen_begins : (v : List ℕ) → AreSeen v → begins_with is_blank v ≡ false
seen_begins [] h = refl
seen_begins (b ∷ v) h = seen_unblank b (seen_of b (and_parts (is_resource_byte b) (list_all is_resource_byte v) h).0)

seen_ends : (v : List ℕ) → AreSeen v → ends_in is_blank v ≡ false
seen_ends [] h = refl
seen_ends (b ∷ []) h = seen_unblank b (seen_of b (and_parts (is_resource_byte b) true h).0)
seen_ends (b ∷ c ∷ v) h = seen_ends (c ∷ v) (and_parts (is_resource_byte b) (list_all is_resource_byte (c ∷ v)) h).1

-- a name and a value that are read as they are sent
pub record Sent (name value : List ℕ) : Type 0 where
  pub token : is_token name ≡ true
  pub text : is_text value ≡ true
  pub bare : is_bare value ≡ true

pub sent_seen : (name value : List ℕ) → is_token name ≡ true → AreSeen value → Sent name value
sent_seen name value t h = record {
  token = t;
  text = seen_list is_text_byte seen_text value h;
  bare = and_from _ _ (ap not (seen_begins value h)) (ap not (seen_ends value h));
}

abbrev pub field_line : List ℕ → List ℕ → List ℕ
field_line name value = name ++ (58 ∷ 32 ∷ value)

found_field : HeadLaws → (name value : List ℕ) → Sent name value → FindsCut (field_line name value) (field_cut (field_line name value)) name value
found_field heads name value s = heads.field_found (field_line name value) name value (record {
  right = and_from (is_token name) (is_text value && is_bare value) s.token (and_from (is_text value) (is_bare value) s.text s.bare);
  before = 32 ∷ [];
  after = [];
  blank = refl;
  whole = ap (λ v. name ++ (58 ∷ 32 ∷ v)) (sym (append-nil value));
})

pub is_field : HeadLaws → (name value : List ℕ) → Sent name value → is_some (field_cut (field_line name value)) ≡ true
is_field heads name value s = ap is_some (found_field heads name value s).found_it

-- the value, where the name is that one
abbrev pub pick : List ℕ → List ℕ → List ℕ → Option (List ℕ)
pick n name value = if same_word name n then Some value else None

pub picked : HeadLaws → (n name value : List ℕ) → Sent name value → value_under n (field_line name value) ≡ pick n name value
picked heads n name value s =
    let line = field_line name value in
    let f : FindsCut line (field_cut line) name value = found_field heads name value s in
    ap (value_in n line) f.found_it ∙ ap (λ (x : List ℕ). if same_word x n then Some (part line f.cut.second) else None) f.holds_first ∙ ap (λ (y : List ℕ). if same_word name n then Some y else None) f.holds_second

-- base64 is seen
all_at : (p : ℕ → Bool) (xs : List ℕ) (i : ℕ) → list_all p xs ≡ true → i < length xs → p (get_or xs i 0) ≡ true
all_at p [] i h l = absurd (omega arith)
all_at p (x ∷ xs) zero h l = (and_parts (p x) (list_all p xs) h).0
all_at p (x ∷ xs) (suc i) h l = all_at p xs i (and_parts (p x) (list_all p xs) h).1 (omega arith)

pub all_append : (p : ℕ → Bool) (xs ys : List ℕ) → list_all p xs ≡ true → list_all p ys ≡ true → list_all p (xs ++ ys) ≡ true
all_append p [] ys h k = k
all_append p (x ∷ xs) ys h k =
    let a = and_parts (p x) (list_all p xs) h in
    and_from _ _ a.0 (all_append p xs ys a.1 k)

all_same : (p : ℕ → Bool) (n b : ℕ) → p b ≡ true → list_all p (replicate n b) ≡ true
all_same p zero b h = refl
all_same p (suc n) b h = and_from _ _ h (all_same p n b h)

symbol_seen : (t : List ℕ) (i : ℕ) → AreSeen t → length t ≡ 64 → i < 64 → is_resource_byte (slice_index t i) ≡ true
symbol_seen t i h l k = all_at is_resource_byte t i h (omega arith)

symbols_seen : (t m : List ℕ) → AreSeen t → length t ≡ 64 → AreBytes m → AreSeen (encode_symbols t m)
unfolding encode_symbols
symbols_seen t [] h l bytes = refl
symbols_seen t (a ∷ []) h l bytes =
    let p : a < 256 = bytes 0 in
    and_from _ _ (symbol_seen t (a / 4) h l (omega arith)) (and_from _ _ (symbol_seen t (a % 4 * 16) h l (omega arith)) refl)
symbols_seen t (a ∷ b ∷ []) h l bytes =
    let p : a < 256 = bytes 0 in
    let q : b < 256 = bytes 1 in
    and_from _ _ (symbol_seen t (a / 4) h l (omega arith)) (and_from _ _ (symbol_seen t (a % 4 * 16 + b / 16) h l (omega arith)) (and_from _ _ (symbol_seen t (b % 16 * 4) h l (omega arith)) refl))
symbols_seen t (a ∷ b ∷ c ∷ rest) h l bytes =
    let p : a < 256 = bytes 0 in
    let q : b < 256 = bytes 1 in
    let r : c < 256 = bytes 2 in
    and_from _ _ (symbol_seen t (a / 4) h l (omega arith)) (and_from _ _ (symbol_seen t (a % 4 * 16 + b / 16) h l (omega arith)) (and_from _ _ (symbol_seen t (b % 16 * 4 + c / 64) h l (omega arith)) (and_from _ _ (symbol_seen t (c % 64) h l (omega arith)) (symbols_seen t rest h l (λ k. bytes (suc (suc (suc k))))))))

pub base64_seen : (m : List ℕ) → AreBytes m → AreSeen (encode_of standard m)
base64_seen m bytes = all_append is_resource_byte (encode_symbols standard.encode_table m) _ (symbols_seen standard.encode_table m refl refl bytes) (all_same is_resource_byte (padding_len (length m)) 61 refl)

-- how long base64 is
text_length : (m : List ℕ) → length (encode_of standard m) ≡ (4 * length m + 2) / 3 + padding_len (length m)
text_length m =
    let s : length (encode_symbols standard.encode_table m) ≡ (4 * length m + 2) / 3 = length-encode_symbols standard.encode_table m in
    let r : length (replicate (padding_len (length m)) 61) ≡ padding_len (length m) = length_of (padding_len (length m)) 61 in
    length-append (encode_symbols standard.encode_table m) (replicate (padding_len (length m)) 61) ∙ omega (arith, s, r)
  where
    length_of : (n b : ℕ) → length (replicate n b) ≡ n
    length_of zero b = refl
    length_of (suc n) b = ap suc (length_of n b)

pub key_length : (m : List ℕ) → length m ≡ 16 → length (encode_of standard m) ≡ 24
key_length m h = text_length m ∙ ap (λ n. (4 * n + 2) / 3 + padding_len n) h

pub value_length : (m : List ℕ) → length m ≡ 20 → length (encode_of standard m) ≡ 28
value_length m h = text_length m ∙ ap (λ n. (4 * n + 2) / 3 + padding_len n) h

pub sent_key : (m : List ℕ) → length m ≡ 16 → AreBytes m → is_key (encode_of standard m) ≡ true
sent_key m h bytes =
    let l : nat_eq (length (encode_of standard m)) 24 ≡ true = ap (λ n. nat_eq n 24) (key_length m h) in
    let d : decode_of standard (encode_of standard m) ≡ Ok m = decode_of-encode_of standard m refl bytes in
    and_from _ _ l (ap (has_bytes 16) d ∙ ap (λ n. nat_eq n 16) h)
